use Rattle.std.proofs.Common.{ℕ, List, arith, ap, ◌∙◌}
use Rattle.std.specs.Char.{is_ascii_digit}
use Rattle.std.specs.List.{list_all}
use Rattle.std.proofs.lemmas.List.Sums.{prefix_len-le-length}
use Rattle.journeys.proofs.NumberLemmas.{front_passes}
use Rattle.journeys.proofs.reading.number.Goals as goal

pub split_at-requires : goal.split_at-requires
split_at-requires c = let within = prefix_len-le-length is_ascii_digit c.args.bytes.now in omega (arith, within, c.digit_count.ensures)

pub number_of_digits-requires : goal.number_of_digits-requires
number_of_digits-requires c =
    ap (λ (xs : List ℕ). list_all is_ascii_digit xs) c.split_at.ensures.front
    ∙ front_passes is_ascii_digit c.args.bytes.now c.digit_count.result c.digit_count.ensures
