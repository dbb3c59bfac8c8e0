-- The rows of frequencies.txt by trip, one row at a time.
use Rattle.std.proofs.Common.{◌≡◌, ℕ, ◌+◌, ◌<◌, ◌≤◌, ◌==◌, inl, inr, if◌then◌else◌, List, [], ◌∷◌, ◌++◌, length, get_or, set, take, Result, Ok, Err}
use Rattle.std.proofs.Common.{refl, sym, ap, ◌∙◌, subst, arith}
use Rattle.std.specs.Prelude.{OnOk}
use Rattle.std.proofs.lemmas.Bool.{cases_eq, eq-eqb, ne_eqb}
use Rattle.std.proofs.lemmas.List.{append-nil, get_or-set_other, get_or-set_same, get_or_append_left, get_or_default, get_or_push, length-set, length_push}
use Rattle.std.proofs.lemmas.List.Elements.{filter_more}
use Rattle.gtfs_tables.specs.declared.tables.Frequency.{Frequency}
use Rattle.connections.specs.Grouping.{AddsRow, AreGrouped, HasRows}
use Rattle.connections.specs.Keeping.{AreStartsOf, HoldStarts}
use Rattle.connections.specs.Repeats.{rows_for}
use Rattle.connections.specs.declared.trip_starts.TripStarts.{TripStarts}
use Rattle.connections.specs.declared.trip_starts.TripStarts.TheVariants as starts

pub no_groups : AreGrouped [] 0 []
no_groups = record { same_length = refl; each = λ t d lt. absurd (omega (arith, lt)) }

-- a trip more
pub groups_more : (n : ℕ) (groups new : List TripStarts) (v : TripStarts) → AreGrouped [] n groups → HasRows [] v → new ≡ groups ++ v ∷ []
    → AreGrouped [] (n + 1) new
groups_more n groups new v was empty now =
    let len : length groups ≡ n = was.same_length in
    rw now (record {
      same_length = length_push groups v ∙ ap (λ k. k + 1) len;
      each = λ t d lt. elim (cases_eq t n) [
        | inl same ↦
            let position : length groups ≡ t = len ∙ sym same in
            subst (λ (x : TripStarts). HasRows [] x) (sym (get_or_push groups v d t position)) empty
        | inr other ↦
            subst (λ (x : TripStarts). HasRows [] x) (sym (get_or_append_left groups (v ∷ []) d t (omega (arith, lt, other, len))))
            (was.each t d (omega (arith, lt, other)))
      ];
    })

-- the rows of a trip that a row doesn't name
rows_stay : (row : Frequency) (t : ℕ) (rows : List Frequency) (here : TripStarts) → (t ≡ row.trip → ⊥) → HasRows rows here
    → HasRows (rows ++ (if row.trip == t then row ∷ [] else [])) here
rows_stay row t rows here other has =
    let none : (if row.trip == t then row ∷ [] else []) ≡ [] = rw (ne_eqb row.trip t (λ same. other (sym same))) refl in
    subst (λ (xs : List Frequency). HasRows xs here) (sym (ap (λ xs. rows ++ xs) none ∙ append-nil rows)) has

-- a row is added to those of its trip
adds_at : (old : List TripStarts) (row : Frequency) (here one : TripStarts) → row.trip < length old → here ≡ get_or old row.trip here
    → ((rows : List Frequency) → HasRows rows here → HasRows (rows ++ row ∷ []) one) → AddsRow old row (set old row.trip one)
adds_at old row here one lt is adds = record {
  same_length = length-set old row.trip one;
  each = λ t d rows within has. elim (cases_eq t row.trip) [
    | inl same ↦
        let after : get_or (set old row.trip one) t d ≡ one =
        ap (λ n. get_or (set old row.trip one) n d) same ∙ get_or-set_same old row.trip one d lt in
        let before : get_or old t d ≡ here = ap (λ n. get_or old n d) same ∙ get_or_default old row.trip d here lt ∙ sym is in
        let added : (if row.trip == t then row ∷ [] else []) ≡ row ∷ [] = rw (eq-eqb row.trip t (sym same)) refl in
        rw after (subst (λ (xs : List Frequency). HasRows (rows ++ xs) one) (sym added) (adds rows (subst (λ (x : TripStarts). HasRows rows x) before has)))
    | inr other ↦ rw (get_or-set_other old row.trip t one d other) (rows_stay row t rows (get_or old t d) other has)
  ];
}

pub adds_if_ok : {A B : Type 0} (result : Result A B) (old : List TripStarts) (row : Frequency) (here one : TripStarts) → row.trip < length old
    → here ≡ get_or old row.trip here → ((rows : List Frequency) → HasRows rows here → OnOk result (HasRows (rows ++ row ∷ []) one))
    → OnOk result (AddsRow old row (set old row.trip one))
adds_if_ok (Ok done) old row here one lt is adds = adds_at old row here one lt is adds
adds_if_ok (Err fault) old row here one lt is adds = tt

-- its trip isn't there
pub adds_nowhere : (old : List TripStarts) (row : Frequency) → length old ≤ row.trip → AddsRow old row old
adds_nowhere old row over = record {
  same_length = refl;
  each = λ t d rows within has. rows_stay row t rows (get_or old t d) (λ same. omega (arith, same, within, over)) has;
}

-- a row more
pub rows_more : (rows : List Frequency) (i n : ℕ) (d : Frequency) (old new : List TripStarts) → i < length rows → AreGrouped (take i rows) n old
    → AddsRow old (get_or rows i d) new → AreGrouped (take (i + 1) rows) n new
rows_more rows i n d old new lt was adds =
    let len : length old ≡ n = was.same_length in
    record {
      same_length = adds.same_length ∙ len;
      each = λ t v within.
          subst (λ (xs : List Frequency). HasRows xs (get_or new t v)) (sym (filter_more (λ (r : Frequency). r.trip == t) rows i d lt))
          (adds.each t v (rows_for (take i rows) t) (omega (arith, within, len)) (was.each t v within));
    }

-- rows stand for the starts that they give
as_starts : (rows : List Frequency) (here : TripStarts) → HasRows rows here → AreStartsOf rows here
as_starts rows (starts.Rows given) has = has
as_starts rows (starts.Times times) has = absurd has

pub hold_unlisted : (rows : List Frequency) (n : ℕ) (groups : List TripStarts) → AreGrouped rows n groups → HoldStarts rows n groups
hold_unlisted rows n groups was = record {
  same_length = was.same_length;
  each = λ t d lt. as_starts (rows_for rows t) (get_or groups t d) (was.each t d lt);
}
