use Rattle.std.proofs.Common.{inl, inr, ◌≡◌, pos, refl, sym, ◌∙◌, int_eq, w32}
use Rattle.std.proofs.lemmas.Bool.{cases_Bool}
use Rattle.std.proofs.lemmas.Bool.Decides.{Decides-int_eq}
use Rattle.std.proofs.lemmas.Int.{to_z-of_z}
use Rattle.jiff.specs.Types.{DateTime, Offset}
use Rattle.jiff.specs.Words.{compatible_offset, fixed_zone}
use Rattle.jiff_tz.specs.Zone.{ambiguous_at}
use Rattle.service_days.proofs.zone.Zone.fixed.Goals as goal

at_fixed : (o : Offset) (dt : DateTime) → (compatible_offset (ambiguous_at (fixed_zone o) dt)).seconds ≡ o.seconds
unfolding ambiguous_at
at_fixed o dt = elim (cases_Bool (int_eq o.seconds (pos 0))) [
  | inl zero_offset ↦ rw zero_offset (sym ((Decides-int_eq o.seconds (pos 0)).0 zero_offset))
  | inr other ↦ rw other refl
]

pub returns : goal.returns
returns c = λ dt. rw c.fixed.ensures (at_fixed c.in-Ok.offset dt ∙ c.in-Ok.ensures.value ∙ to_z-of_z w32 c.args.seconds c.ranges.seconds)
