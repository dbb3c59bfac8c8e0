use Rattle.std.proofs.Common.{◌≡◌, ap, string_bytes}
use Rattle.answer_pictures.specs.LineValue.{LineValue}
use Rattle.answer_pictures.specs.Pictures.{label_text}
use Rattle.answer_pictures.proofs.Joined.{five}
use Rattle.answer_pictures.proofs.parts.put_label.Goals as goal

pub returns : goal.returns
unfolding label_text
returns c =
    let departs : c.line.inside.departure ≡ c.args.line.now.departure = ap (λ (v : LineValue). v.departure) c.line.view_is in
    let arrives : c.line.inside.arrival ≡ c.args.line.now.arrival = ap (λ (v : LineValue). v.arrival) c.line.view_is in
    five (string_bytes c.args.out.now) (string_bytes c.put_text.new.out) (string_bytes c.put_moment.new.out)
    (string_bytes c.put_text-2.new.out) (string_bytes c.put_moment-2.new.out) (string_bytes c.put_text-3.new.out) _
    _ _ _ _
    c.in_ok-put_text.ensures
    (rw departs at c.in_ok-put_moment.ensures)
    c.in_ok-put_text-2.ensures
    (rw arrives at c.in_ok-put_moment-2.ensures)
    c.in_ok-put_text-3.ensures
