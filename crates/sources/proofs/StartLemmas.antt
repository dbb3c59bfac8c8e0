-- Where the footpaths into each stop start.
use Rattle.std.proofs.Common.{◌≡◌, ◌↔◌, ℕ, ◌+◌, ◌<◌, ◌≤◌, List, [], ◌∷◌, ◌++◌, length, get_or, refl, sym, ap, subst, ◌∙◌, arith, inl, inr}
use Rattle.std.specs.Prelude.{slice_index}
use Rattle.std.proofs.lemmas.Bool.{cases_lt, cases_eq, cases_order}
use Rattle.std.proofs.lemmas.List.{take_all, get_or_append_left}
use Rattle.std.proofs.Math.Seq.{get_or-append_seam}
use Rattle.std.proofs.lemmas.Option.{slice_get-get_or, get_or_from_slice_get}
use Rattle.std.specs.List.Sorted.{IsNonDecreasingBy}
use Rattle.timetable.specs.declared.network.Connection.{Connection}
use Rattle.timetable.specs.declared.network.Footpath.{Footpath}
use Rattle.timetable.specs.TimetableValue.{TimetableValue}
use Rattle.timetable.specs.Legal.{At, IsLegal}
use Rattle.timetable.specs.LegalProp.{in_order_later}
use Rattle.timetable.specs.Journeys.{connection_at}
use Rattle.timetable.proofs.LegalLemmas.{connection_at-stands, departures_rise}
use Rattle.sources.specs.FootStarts.{IsStartIndex, HoldsBelow}

no_path : Footpath
no_path = record { from = 0; to = 0; secs = 0 }

-- a footpath stands at each index
stands : (paths : List Footpath) (k : ℕ) → k < length paths → At paths k (get_or paths k no_path)
stands paths k lt = slice_get-get_or paths k no_path lt

-- the indices from the first up to before the end are those of the footpaths into a stop
pub record AreInto (t : TimetableValue) (stop first end : ℕ) : Type 0 where
  pub within : end ≤ length t.footpaths
  pub exact : (k : ℕ) (f : Footpath) → At t.footpaths k f → (f.to ≡ stop) ↔ ((first ≤ k) × (k < end))

-- the next ones start at that end
pub start_next : (t : TimetableValue) (stop first end : ℕ) → IsLegal t → stop < t.stops → AreInto t stop first end → IsStartIndex t (stop + 1) end
start_next t stop first end legal lt into =
    let loop = legal.loops stop lt in
    let index = loop.1.0 in
    let at_index = loop.1.1 in
    let f : Footpath = record { from = stop; to = stop; secs = loop.0 } in
    let among = (into.exact index f at_index).0 refl in
    record {
      within = into.within;
      exact = λ k g at. (
        λ below. elim (cases_order g.to stop) [
          | inl same ↦ ((into.exact k g at).0 same).1
          | inr (inl less) ↦ elim (cases_lt k end) [
            | inl before ↦ before
            | inr past ↦
                let later = in_order_later t.footpaths legal.in_order k index f g (omega (arith, among, past)) at_index at in
                absurd (omega (arith, later.0, less))
          ]
          | inr (inr more) ↦ absurd (omega (arith, more, below))
        ],
        λ before. elim (cases_lt k first) [
          | inl early ↦
              let later = in_order_later t.footpaths legal.in_order index k g f (omega (arith, among, early)) at at_index in
              omega (arith, later.0)
          | inr late ↦
              let same = (into.exact k g at).1 (late, before) in
              omega (arith, same)
        ],
      );
    }

-- starts rise from stop to stop
pub start_order : (t : TimetableValue) (stop first end : ℕ) → IsStartIndex t stop first → IsStartIndex t (stop + 1) end → first ≤ end
start_order t stop first end at_first at_end =
    elim (cases_lt end first) [
      | inl less ↦
          let at = stands t.footpaths end (omega (arith, less, at_first.within)) in
          let below = (at_first.exact end (get_or t.footpaths end no_path) at).1 less in
          let again = (at_end.exact end (get_or t.footpaths end no_path) at).0 (omega (arith, below)) in
          absurd (omega (arith, again))
      | inr more ↦ omega (arith, more)
    ]

-- between two starts stand footpaths into the stop
pub between_starts : (t : TimetableValue) (stop first end index : ℕ) → IsStartIndex t stop first
    → IsStartIndex t (stop + 1) end → first ≤ index → index < end → (f : Footpath) → At t.footpaths index f
    → f.to ≡ stop
between_starts t stop first end index at_first at_end low high f at =
    let below = (at_end.exact index f at).1 high in
    elim (cases_lt f.to stop) [
      | inl less ↦ absurd (omega (arith, (at_first.exact index f at).0 less, low))
      | inr more ↦ omega (arith, below, more)
    ]

pub start_of_first : (t : TimetableValue) → IsStartIndex t 0 0
start_of_first t = record { within = omega arith; exact = λ k f at. (λ lt. absurd (omega (arith, lt)), λ lt. absurd (omega (arith, lt))) }

pub none_below : (t : TimetableValue) → HoldsBelow t 0 []
none_below t = record { first = refl; start = start_of_first t }

-- those into the stops below all stops are all
pub all_held : (t : TimetableValue) (paths : List Footpath) → IsLegal t → HoldsBelow t t.stops paths → paths ≡ t.footpaths
all_held t paths legal holds =
    let all : length t.footpaths ≤ length paths =
    (elim (cases_lt (length paths) (length t.footpaths)) [
      | inl less ↦
          let at = stands t.footpaths (length paths) less in
          let end = legal.ends_in_range (length paths) (get_or t.footpaths (length paths) no_path) at in
          let again = (holds.start.exact (length paths) (get_or t.footpaths (length paths) no_path) at).0 end.1 in
          absurd (omega (arith, again))
      | inr more ↦ omega (arith, more)
    ]) in
    holds.first ∙ take_all (length paths) t.footpaths all

-- a start for each stop below a stop
abbrev pub AreStartsBelow : TimetableValue → ℕ → List ℕ → Type 0
AreStartsBelow t stop indices = (s : ℕ) → s < stop → IsStartIndex t s (slice_index indices s)

pub starts_more : (t : TimetableValue) (stop index : ℕ) (indices : List ℕ) → length indices ≡ stop
    → AreStartsBelow t stop indices → IsStartIndex t stop index → AreStartsBelow t (stop + 1) (indices ++ index ∷ [])
starts_more t stop index indices long starts next s lt =
    elim (cases_eq s stop) [
      | inl same ↦
          let here : get_or (indices ++ index ∷ []) (length indices) 0 ≡ index = get_or-append_seam indices index [] 0 in
          let at : get_or (indices ++ index ∷ []) s 0 ≡ index = ap (λ (i : ℕ). get_or (indices ++ index ∷ []) i 0) (same ∙ sym long) ∙ here in
          subst (λ (x : ℕ). IsStartIndex t s x) (sym at) (subst (λ (x : ℕ). IsStartIndex t x index) (sym same) next)
      | inr other ↦
          let below : s < stop = omega (arith, lt, other) in
          let at : get_or (indices ++ index ∷ []) s 0 ≡ get_or indices s 0 = get_or_append_left indices (index ∷ []) 0 s (omega (arith, below, long)) in
          subst (λ (x : ℕ). IsStartIndex t s x) (sym at) (starts s below)
    ]

-- departures never fall
pub departures_in_order : (t : TimetableValue) → IsLegal t → IsNonDecreasingBy (λ (c : Connection). c.dep) t.connections
departures_in_order t legal i j d le lt =
    let first : get_or t.connections i d ≡ connection_at t i =
    get_or_from_slice_get t.connections i (connection_at t i) d (connection_at-stands t i (omega (arith, le, lt)))
    in
    let second : get_or t.connections j d ≡ connection_at t j = get_or_from_slice_get t.connections j (connection_at t j) d (connection_at-stands t j lt) in
    let up : (connection_at t i).dep ≤ (connection_at t j).dep = departures_rise t legal j i le lt in
    omega (arith, up, ap (λ (c : Connection). c.dep) first, ap (λ (c : Connection). c.dep) second)
