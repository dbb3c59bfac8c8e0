-- One more entry of a list of days.
use Rattle.std.proofs.Common.{◌≡◌, ◌++◌, ◌+◌, ◌∙◌, ◌∷◌, ℕ, List, [], ap, append_assoc, arith, false, get_or, length, map, refl, sym, take, true}
use Rattle.std.specs.Prelude.{MatchOption, None, Option, Some, slice_get}
use Rattle.std.specs.Option.{option_map}
use Rattle.std.proofs.lemmas.List.{take_more}
use Rattle.std.proofs.lemmas.Option.{get_or_from_slice_get, slice_get-map, slice_get_within}
use mathlib.Core.List.{append-nil}
use Rattle.timetable.specs.NamesValue.{TripNameValue}
use Rattle.image_facts.specs.Days.{day_text}
use Rattle.image_facts.specs.Entries.{is_last_of, rest_text}
use Rattle.text_pieces.specs.declared.form.Form.{Form}

-- its day ends
pub last_entry : (form : Form) (counted day : ℕ) (rest old new : List ℕ) → is_last_of day rest ≡ true
    → new ≡ old ++ day_text form (counted + 1) day → new ++ rest_text form 0 rest ≡ old ++ rest_text form counted (day ∷ rest)
unfolding rest_text
last_entry form counted day rest old new last is =
    rw last (ap (λ x. x ++ rest_text form 0 rest) is ∙ append_assoc old (day_text form (counted + 1) day) (rest_text form 0 rest))

-- its day goes on
pub next_entry : (form : Form) (counted day : ℕ) (rest old : List ℕ) → is_last_of day rest ≡ false
    → old ++ rest_text form (counted + 1) rest ≡ old ++ rest_text form counted (day ∷ rest)
unfolding rest_text
next_entry form counted day rest old on = rw on refl

-- none is to come
pub at_end : (form : Form) (counted : ℕ) (rest lines whole : List ℕ) → length rest ≡ 0 → lines ++ rest_text form counted rest ≡ whole → lines ≡ whole
unfolding rest_text
at_end form counted [] lines whole none is = sym (append-nil lines) ∙ is
at_end form counted (day ∷ rest) lines whole none is = absurd (omega (arith, none))

pub none_left : {X : Type 0} (P : X → Type 0) (r : Option X) (len : ℕ) → MatchOption r (len ≡ 0) P → ((x : X) → r ≡ Some x → ⊥) → len ≡ 0
none_left P None len empty none = empty
none_left P (Some x) len empty none = absurd (none x refl)

-- the day of a trip more
pub day_more : (trips : List TripNameValue) (i day : ℕ) (old new : List ℕ) → old ≡ take i (map (λ (t : TripNameValue). t.day) trips)
    → option_map (λ (t : TripNameValue). t.day) (slice_get trips i) ≡ Some day → new ≡ old ++ day ∷ []
    → new ≡ take (i + 1) (map (λ (t : TripNameValue). t.day) trips)
day_more trips i day old new was is more =
    let days : List ℕ = map (λ (t : TripNameValue). t.day) trips in
    let at : slice_get days i ≡ Some day = slice_get-map (λ (t : TripNameValue). t.day) trips i ∙ is in
    let here : get_or days i day ≡ day = get_or_from_slice_get days i day day at in
    more ∙ ap (λ xs. xs ++ day ∷ []) was ∙ ap (λ d. take i days ++ d ∷ []) (sym here)
    ∙ sym (take_more days i day (slice_get_within days i day at))
