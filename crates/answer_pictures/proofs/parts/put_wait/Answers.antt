use Rattle.std.proofs.Common.{◌≡◌, ap}
use Rattle.answer_pictures.specs.LineValue.{LineValue}
use Rattle.answer_pictures.specs.Pictures.{wait_text}
use Rattle.answer_pictures.proofs.parts.put_wait.Goals as goal

pub returns : goal.returns
unfolding wait_text
returns c =
    let departs : c.line.inside.departure ≡ c.args.line.now.departure = ap (λ (v : LineValue). v.departure) c.line.view_is in
    let arrives : c.line.inside.arrival ≡ c.args.line.now.arrival = ap (λ (v : LineValue). v.arrival) c.line.view_is in
    rw (c.x_at.ensures, c.x_at-2.ensures, departs, arrives) at c.put_numbers.ensures
