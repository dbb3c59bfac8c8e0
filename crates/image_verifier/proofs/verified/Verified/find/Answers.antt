use Rattle.std.proofs.Common.{◌≡◌, ◌≢◌, ◌<◌, ℕ, List, Option, Some, None, sym, subst, ap, ◌∙◌}
use Rattle.std.specs.Prelude.{IfSome, IfNone}
use Rattle.std.proofs.lemmas.Option.{IfSome_then}
use Rattle.timetable.specs.Legal.{At}
use Rattle.image_layout.specs.Offsets.{header_of}
use Rattle.image_layout.specs.Shown.{name_of, names_of}
use Rattle.image_layout.specs.Image.{ImageValue}
use Rattle.image_verifier.proofs.NameReads.{stop_name_is, stop_name_shown}
use Rattle.image_verifier.proofs.verified.Verified.find.Goals as goal

IfNone_then : {X : Type 0} (o : Option X) {P Q : Type 0} → IfNone o P → (P → Q) → IfNone o Q
IfNone_then None p f = f p
IfNone_then (Some x) p f = tt

-- no stop of the image is called so, where none of the words is
not_shown : (c : goal.After-stop_named) → (k : ℕ)
    → (k < (header_of c.self.inside.words.items).stops → name_of c.self.inside.words.items k ≢ c.args.name.now)
    → ¬ At (names_of c.self.inside.words.items).stops k c.args.name.now
not_shown c k other at =
    let shown = stop_name_shown c.self.inside.words.items k c.args.name.now at in
    other shown.0 (sym shown.1)

pub returns-clause-found : goal.returns-clause-found
returns-clause-found c =
    let w = c.self.inside.words.items in
    let name = c.args.name.now in
    subst (λ (v : ImageValue). IfSome c.stop_named.result (λ s. At v.names.stops s name)) c.self.view_is
    (IfSome_then c.stop_named.result (subst (λ (x : List ℕ). IfSome c.stop_named.result (λ s. (s < (header_of x).stops)
    × (name_of x s ≡ name))) c.deref.ensures.value c.stop_named.ensures.found)
    (λ s found. stop_name_is w s found.0 ∙ ap Some found.1))

pub returns-clause-least : goal.returns-clause-least
returns-clause-least c =
    let name = c.args.name.now in
    subst (λ (v : ImageValue). IfSome c.stop_named.result (λ s. (k : ℕ) → k < s → ¬ At v.names.stops k name)) c.self.view_is
    (IfSome_then c.stop_named.result (subst (λ (x : List ℕ). IfSome c.stop_named.result (λ s. (k : ℕ) → k < s
    → name_of x k ≢ name)) c.deref.ensures.value c.stop_named.ensures.least)
    (λ s least k below. not_shown c k (λ lt. least k below)))

pub returns-clause-none : goal.returns-clause-none
returns-clause-none c =
    let name = c.args.name.now in
    subst (λ (v : ImageValue). IfNone c.stop_named.result ((k : ℕ) → ¬ At v.names.stops k name)) c.self.view_is
    (IfNone_then c.stop_named.result (subst (λ (x : List ℕ). IfNone c.stop_named.result ((k : ℕ)
    → k < (header_of x).stops → name_of x k ≢ name)) c.deref.ensures.value c.stop_named.ensures.none)
    (λ none k. not_shown c k (none k)))
