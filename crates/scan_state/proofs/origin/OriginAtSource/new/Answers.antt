use Rattle.scan_state.proofs.origin.OriginAtSource.new.Goals as goal

pub returns : goal.returns
returns g c = record { under = c.empty.ensures.criterion; none = λ index. c.empty.ensures.none }
