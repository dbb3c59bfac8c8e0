-- The starts of all trips stay right when those of one trip are listed.
use Rattle.std.proofs.Common.{◌≡◌, ℕ, ◌<◌, inl, inr, List, length, get_or, set, refl, sym, ap, ◌∙◌, subst, arith}
use Rattle.std.proofs.lemmas.Bool.{cases_eq}
use Rattle.std.proofs.lemmas.List.{get_or-set_other, get_or-set_same, get_or_default, length-set}
use Rattle.gtfs_tables.specs.declared.tables.Frequency.{Frequency}
use Rattle.connections.specs.Keeping.{AreKept, AreStartsOf, HoldStarts, IsKept}
use Rattle.connections.specs.Repeats.{rows_for}
use Rattle.connections.specs.declared.trip_starts.TripStarts.{TripStarts}

pub kept_same : (starts : List TripStarts) → AreKept starts starts
kept_same starts = record { same_length = refl; each = λ t d lt rows are. are }

pub kept_then : (old mid new : List TripStarts) → AreKept old mid → AreKept mid new → AreKept old new
kept_then old mid new first second =
    let len : length mid ≡ length old = first.same_length in
    record {
      same_length = second.same_length ∙ len;
      each = λ t d lt rows are. second.each t d (omega (arith, lt, len)) rows (first.each t d lt rows are);
    }

-- those of a trip are listed
pub kept_set : (old mid : List TripStarts) (i : ℕ) (here one : TripStarts) → AreKept old mid → i < length mid → here ≡ get_or mid i here
    → IsKept here one → AreKept old (set mid i one)
kept_set old mid i here one was lt is keeps = record {
  same_length = length-set mid i one ∙ was.same_length;
  each = λ t d within rows are. elim (cases_eq t i) [
    | inl same ↦
        let after : get_or (set mid i one) t d ≡ one = ap (λ n. get_or (set mid i one) n d) same ∙ get_or-set_same mid i one d lt in
        let before : get_or mid t d ≡ here = ap (λ n. get_or mid n d) same ∙ get_or_default mid i d here lt ∙ sym is in
        subst (λ (x : TripStarts). AreStartsOf rows x) (sym after)
        (keeps rows (subst (λ (x : TripStarts). AreStartsOf rows x) before (was.each t d within rows are)))
    | inr other ↦
        subst (λ (x : TripStarts). AreStartsOf rows x) (sym (get_or-set_other mid i t one d other)) (was.each t d within rows are)
  ];
}

-- what is kept still holds
pub hold_kept : (rows : List Frequency) (n : ℕ) (old new : List TripStarts) → HoldStarts rows n old → AreKept old new → HoldStarts rows n new
hold_kept rows n old new was keeps =
    let len : length old ≡ n = was.same_length in
    record {
      same_length = keeps.same_length ∙ len;
      each = λ t d lt. keeps.each t d (omega (arith, lt, len)) (rows_for rows t) (was.each t d lt);
    }

-- the starts of the trip at an index
pub held_at : (rows : List Frequency) (n : ℕ) (starts : List TripStarts) (i : ℕ) (here : TripStarts) → HoldStarts rows n starts → i < n
    → here ≡ get_or starts i here → AreStartsOf (rows_for rows i) here
held_at rows n starts i here holds lt is = subst (λ (x : TripStarts). AreStartsOf (rows_for rows i) x) (sym is) (holds.each i here lt)
