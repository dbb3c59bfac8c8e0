use Rattle.std.proofs.Common.{◌≡◌, ◌<◌, ◌+◌, ◌∙◌, ℕ, List, Option, Contains, MatchOption, ap, map, refl, subst}
use Rattle.std.specs.Borrow.{Bor}
use Rattle.std.specs.List.{AllZip}
use Rattle.std.specs.Str.Lines.{lines}
use Rattle.journeys.specs.Questions.{IsNamed}
use Rattle.matrix_rows.specs.Listed.{AreDifferent, HasStopTwice, IsLineTwice, ids_in}
use Rattle.matrix_rows.specs.Repeated.{AreTheRepeated, IsRepeated}
use Rattle.matrix_rows.proofs.Repeats.{line_twice}
use Rattle.matrix_rows.proofs.Sought.{all_have_stops, all_within}
use Rattle.matrix_rows.proofs.lists.sets_listed.Goals as goal

abbrev names_in : List (Bor (List ℕ)) → List (List ℕ)
names_in items = map (λ name. name.now) items

pub returns-clause-within : goal.returns-clause-within
returns-clause-within c = λ set h stop within.
    subst (λ (n : ℕ). stop < n) c.stops.ensures.kept.names.stop_names
    (all_within c.args.image.now.names (names_in c.deref.result.now) c.in_ok-sets.sets.items c.in_ok-sets.ensures.sets set h stop within)

pub returns-in-Some-clause-fault : goal.returns-in-Some-clause-fault
returns-in-Some-clause-fault c =
    let names = c.args.image.now.names in
    let named : names_in c.deref.result.now ≡ lines c.args.list.now = ap names_in c.deref.ensures.value ∙ c.in_ok-listed.ensures in
    let listed : names_in c.deref-2.result.now ≡ lines c.args.list.now = ap names_in c.deref-2.ensures.value ∙ c.in_ok-listed.ensures in
    let twice = subst (λ (o : Option ℕ). MatchOption o ((line : List ℕ) → Contains (names_in c.deref-2.result.now) line → AreDifferent (ids_in line))
    (HasStopTwice (names_in c.deref-2.result.now))) c.in-Some.is c.in_ok-number.ensures in (
      all_have_stops names (lines c.args.list.now) c.in_ok-sets.sets.items
          (subst (λ (ls : List (List ℕ)). AllZip (λ line set. AllZip (IsNamed names) (ids_in line) set.items) ls c.in_ok-sets.sets.items) named
          c.in_ok-sets.ensures.sets),
      subst (λ (ls : List (List ℕ)). HasStopTwice ls c.in-Some.number) listed twice,
    )

pub returns-in-Some-2-clause-fault : goal.returns-in-Some-2-clause-fault
returns-in-Some-2-clause-fault c =
    let names = c.args.image.now.names in
    let list_indices = c.in-Some-2.list_indices in
    let named : names_in c.deref.result.now ≡ lines c.args.list.now = ap names_in c.deref.ensures.value ∙ c.in_ok-listed.ensures in
    let listed : names_in c.deref-3.result.now ≡ lines c.args.list.now = ap names_in c.deref-3.ensures.value ∙ c.in_ok-listed.ensures in
    let repeated : IsRepeated (names_in c.deref-3.result.now) list_indices.0 list_indices.1 =
    subst (AreTheRepeated (names_in c.deref-3.result.now)) c.in-Some-2.is c.in_ok-list_indices.ensures in (
      all_have_stops names (lines c.args.list.now) c.in_ok-sets.sets.items
          (subst (λ (ls : List (List ℕ)). AllZip (λ line set. AllZip (IsNamed names) (ids_in line) set.items) ls c.in_ok-sets.sets.items) named
          c.in_ok-sets.ensures.sets),
      subst (λ (ls : List (List ℕ)). IsLineTwice ls (list_indices.0 + 1) (list_indices.1 + 1)) listed
          (line_twice (names_in c.deref-3.result.now) list_indices.0 list_indices.1 (list_indices.0 + 1) (list_indices.1 + 1) refl refl repeated),
    )
