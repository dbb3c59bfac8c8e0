use Rattle.std.proofs.Common.{◌<◌, ◌∙◌, ℕ, List, length, refl, sym, subst, ap}
use Rattle.std.specs.Prelude.{slice_get}
use Rattle.timetable.specs.Legal.{At}
use Rattle.image_layout.specs.Spelling.{name_list}
use Rattle.image_layout.specs.Shown.{name_of}
use Rattle.image_layout.specs.Image.{ImageValue}
use Rattle.image_verifier.proofs.NameReads.{name_is, name_as_read, within_names}
use Rattle.image_verifier.proofs.verified.Verified.name_byte.Goals as goal

pub name_byte_at-requires-clause-within : goal.name_byte_at-requires-clause-within
name_byte_at-requires-clause-within c = within_names _ _ _ c.args.i c.self.view_is c.deref.ensures.value c.requires.name

pub name_byte_at-requires-clause-inside : goal.name_byte_at-requires-clause-inside
name_byte_at-requires-clause-inside c =
    let w = c.self.inside.words.items in
    let within = within_names _ w w c.args.i c.self.view_is refl c.requires.name in
    let inside = subst (λ (v : ImageValue). (name : List ℕ) → At (name_list v.names) c.args.i name
    → c.args.j < length name) (sym c.self.view_is) c.requires.byte in
    subst (λ (x : List ℕ). c.args.j < length (name_of x c.args.i)) (sym c.deref.ensures.value) (inside (name_of w c.args.i) (name_is w c.args.i within))

pub returns : goal.returns
returns c = λ name at. ap (λ (x : List ℕ). slice_get x c.args.j)
    (sym (name_as_read _ _ _ c.args.i name c.self.view_is c.deref.ensures.value at)) ∙ c.name_byte_at.ensures
