use Rattle.session_texts.proofs.requests.times_of.Goals as goal

pub returns-in_err-clock : goal.returns-in_err-clock
returns-in_err-clock c = rw c.from_residual.ensures (λ times asks. c.in_err-clock.ensures times.after asks.after)

pub returns-in_err-clock-2 : goal.returns-in_err-clock-2
returns-in_err-clock-2 c = rw c.from_residual-in_err-clock-2.ensures (λ times asks. c.in_err-clock-2.ensures times.until asks.until)

pub returns-in_err-clock-3 : goal.returns-in_err-clock-3
returns-in_err-clock-3 c = rw c.from_residual-in_err-clock-3.ensures (λ times asks. c.in_err-clock-3.ensures times.by asks.by)
