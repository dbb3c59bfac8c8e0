-- Stops found by their names.
use Rattle.std.proofs.Common.{◌≡◌, ℕ, suc, ◌+◌, ◌<◌, List, [], ◌∷◌, ◌++◌, Contains, get_or, length, map, take, sym, ◌∙◌, ap, subst, inl, inr, arith}
use Rattle.std.specs.List.{AllZip}
use Rattle.std.proofs.lemmas.List.{get_or-map, length-map}
use Rattle.std.proofs.Math.Seq.{take-suc}
use Rattle.reasoning.proofs.ListLemmas.{all_zip-push, contains_cases, not_in_nil}
use Rattle.timetable.specs.Legal.{At}
use Rattle.timetable.specs.NamesValue.{NamesValue}
use Rattle.timetable.specs.declared.query.QueryFault.{QueryFault}
use Rattle.timetable.specs.declared.query.QueryFault.TheVariants.{UnknownStop, SameStop, BadWindow}
use Rattle.std.proofs.lemmas.Option.{slice_get_within}
use Rattle.image_layout.specs.Image.{HasImage, ImageValue}
use Rattle.scan_state.specs.SetQuery.{SetQueryValue}
use Rattle.journeys.specs.Questions.{IsNamed, NamesNone}
use Rattle.journeys.specs.declared.question.Window.{Window}
use Rattle.station_answers.specs.Asking.{IsFirstFault}
use Rattle.station_answers.specs.Naming.{AsksBetween, IsFaultBetween, SomeUnknown}

-- a stop that has a name is one of the timetable's
named_within : (image : ImageValue) (name : List ℕ) (stop : ℕ) → HasImage image.timetable image.names → IsNamed image.names name stop
    → stop < image.timetable.stops
named_within image name stop has named = subst (λ (n : ℕ). stop < n) has.names.stop_names (slice_get_within image.names.stops stop name named.0)

-- one name more has a stop
pub item_named : {X : Type 0} (f : X → List ℕ) (names : NamesValue) (xs : List X) (i : ℕ) (d : X) (stops : List ℕ) (stop : ℕ) → i < length xs
    → IsNamed names (f (get_or xs i d)) stop → AllZip (IsNamed names) (take i (map f xs)) stops
    → AllZip (IsNamed names) (take (i + 1) (map f xs)) (stops ++ stop ∷ [])
item_named f names xs i d stops stop within named all =
    let long = length-map xs f in
    let inside : i < length (map f xs) = omega (arith, long, within) in
    let next : i + 1 ≡ suc i = omega arith in
    let text = f (get_or xs i d) in
    let here : get_or (map f xs) i text ≡ text = get_or-map f xs i d text within in
    let taken : take i (map f xs) ++ text ∷ [] ≡ take (i + 1) (map f xs) =
    ap (λ (x : List ℕ). take i (map f xs) ++ x ∷ []) (sym here)
    ∙ (sym (take-suc (map f xs) i text inside) ∙ ap (λ (k : ℕ). take k (map f xs)) (sym next)) in
    subst (λ (ys : List (List ℕ)). AllZip (IsNamed names) ys (stops ++ stop ∷ [])) taken
    (all_zip-push (IsNamed names) (take i (map f xs)) stops text stop all named)

-- a name has none
pub item_unknown : {X : Type 0} (f : X → List ℕ) (names : NamesValue) (xs : List X) (i : ℕ) (d : X) → i < length xs
    → NamesNone names (f (get_or xs i d)) → SomeUnknown names (map f xs)
item_unknown f names xs i d within none =
    let long = length-map xs f in
    let inside : i < length (map f xs) = omega (arith, long, within) in
    (f (get_or xs i d), (i, inside, get_or-map f xs i d (f (get_or xs i d)) within), none)

-- the same of a text that was read
pub item_named_as : {X : Type 0} (f : X → List ℕ) (names : NamesValue) (xs : List X) (i : ℕ) (d : X) (text : List ℕ) (stops : List ℕ) (stop : ℕ)
    → i < length xs → text ≡ f (get_or xs i d) → At names.stops stop text → ((k : ℕ) → k < stop → At names.stops k text → ⊥)
    → AllZip (IsNamed names) (take i (map f xs)) stops → AllZip (IsNamed names) (take (i + 1) (map f xs)) (stops ++ stop ∷ [])
item_named_as f names xs i d text stops stop within is found least all =
    let named : IsNamed names text stop = (found, least) in
    item_named f names xs i d stops stop within (subst (λ (n : List ℕ). IsNamed names n stop) is named) all

pub item_unknown_as : {X : Type 0} (f : X → List ℕ) (names : NamesValue) (xs : List X) (i : ℕ) (d : X) (text : List ℕ) → i < length xs
    → text ≡ f (get_or xs i d) → ((k : ℕ) → At names.stops k text → ⊥) → SomeUnknown names (map f xs)
item_unknown_as f names xs i d text within is none =
    item_unknown f names xs i d within (subst (λ (n : List ℕ). (k : ℕ) → At names.stops k n → ⊥) is none)

-- stops that have names are the timetable's
named_within_all : (image : ImageValue) → HasImage image.timetable image.names → (listed : List (List ℕ)) (stops : List ℕ)
    → AllZip (IsNamed image.names) listed stops → (s : ℕ) → Contains stops s → s < image.timetable.stops
named_within_all image has [] [] all s is = absurd (not_in_nil s is)
named_within_all image has [] (y ∷ ys) all s is = absurd all
named_within_all image has (x ∷ xs) [] all s is = absurd all
named_within_all image has (x ∷ xs) (y ∷ ys) all s is = elim (contains_cases s y ys is) [
  | inl same ↦ subst (λ (n : ℕ). n < image.timetable.stops) same (named_within image x y has all.0)
  | inr later ↦ named_within_all image has xs ys all.1 s later
]

-- a fault of the question between named stops
pub refused_between : (image : ImageValue) (from to : List (List ℕ)) (window : Window) (b : SetQueryValue) (fault : QueryFault)
    → HasImage image.timetable image.names → AsksBetween image.names from to window b → IsFirstFault image.timetable.stops b fault
    → IsFaultBetween image from to window fault
refused_between image from to window b UnknownStop has asks is = elim is [
  | inl past ↦ let within = named_within_all image has from b.sources asks.sources past.0 past.1 in absurd (omega (arith, within, past.2))
  | inr past ↦ let within = named_within_all image has to b.targets asks.targets past.0 past.1 in absurd (omega (arith, within, past.2))
]
refused_between image from to window b SameStop has asks is = (b, asks, is)
refused_between image from to window b BadWindow has asks is = (b, asks, is)
