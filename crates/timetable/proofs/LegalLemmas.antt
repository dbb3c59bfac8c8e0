-- What holds for the elements of a legal timetable within the limits, by their indices.
use Rattle.std.proofs.Common.{◌≡◌, ℕ, zero, suc, ◌+◌, ◌<◌, ◌≤◌, length, Contains, Some, slice_get, refl, sym, ap, subst, ◌∙◌, arith, inl, inr, List}
use Rattle.std.proofs.lemmas.Bool.{cases_eq, cases_order}
use Rattle.std.proofs.lemmas.Option.{slice_get-get_or, get_or_from_slice_get, same_Some, slice_get_within}
use Rattle.std.proofs.Common.{[], ◌∷◌, ◌++◌, length-append}
pub use Rattle.reasoning.proofs.ListLemmas.{contains_at as Contains-At, at_contains as At-Contains}
use Rattle.reasoning.proofs.ListLemmas.{slice_get-front, slice_get-last}
use Rattle.timetable.specs.declared.network.Connection.{Connection}
use Rattle.timetable.specs.declared.network.Footpath.{Footpath}
use Rattle.timetable.specs.declared.limits.TheConstants.{MAX_WALK_SECS, TIME_END}
use Rattle.timetable.specs.TimetableValue.{TimetableValue}
use Rattle.timetable.specs.Legal.{At, HasFootpath, IsLegal, AreInOrder, IsOrderedBefore}
use Rattle.timetable.specs.LegalProp.{same_index_of}
use Rattle.timetable.specs.Limits.{IsWithinLimits}
use Rattle.timetable.specs.Journeys.{connection_at, no_connection}

-- the connection at an index stands there
pub connection_at-stands : (t : TimetableValue) (i : ℕ) → i < length t.connections → At t.connections i (connection_at t i)
connection_at-stands t i lt = slice_get-get_or t.connections i no_connection lt

-- and what stands at an index is the connection there
pub connection_at-is : (t : TimetableValue) (i : ℕ) (c : Connection) → At t.connections i c → connection_at t i ≡ c
connection_at-is t i c at = get_or_from_slice_get t.connections i c no_connection at

pub hop_takes_time : (t : TimetableValue) → IsLegal t → (i : ℕ) → i < length t.connections → (connection_at t i).dep < (connection_at t i).arr
hop_takes_time t legal i lt = legal.takes_time i (connection_at t i) (connection_at-stands t i lt)

-- departures never fall from one index to a later one
pub departures_rise : (t : TimetableValue) → IsLegal t → (j i : ℕ) → i ≤ j → j < length t.connections → (connection_at t i).dep ≤ (connection_at t j).dep
departures_rise t legal zero i le lt =
    let same : i ≡ zero = omega arith in
    subst (λ (k : ℕ). (connection_at t i).dep ≤ (connection_at t k).dep) same (omega arith)
departures_rise t legal (suc j) i le lt =
    let next : suc j ≡ j + 1 = omega arith in
    elim (cases_eq i (suc j)) [
      | inl same ↦ subst (λ (k : ℕ). (connection_at t i).dep ≤ (connection_at t k).dep) same (omega arith)
      | inr other ↦
          let near : (connection_at t i).dep ≤ (connection_at t j).dep = departures_rise t legal j i (omega arith) (omega arith) in
          let at_next : At t.connections (j + 1) (connection_at t (suc j)) = subst (λ (k : ℕ). At t.connections k (connection_at t (suc j))) next
          (connection_at-stands t (suc j) lt) in
          let step : (connection_at t j).dep ≤ (connection_at t (suc j)).dep = legal.departures_never_fall j (connection_at t j) (connection_at t (suc j))
          (connection_at-stands t j (omega arith)) at_next in
          omega (arith, near, step)
    ]

-- two footpaths end to end have one instead that is no longer
pub closed_footpath : (t : TimetableValue) → IsLegal t → (f g : Footpath) → Contains t.footpaths f → Contains t.footpaths g → f.to ≡ g.from
    → (h : Footpath) × Contains t.footpaths h × (h.from ≡ f.from) × (h.to ≡ g.to) × (h.secs ≤ f.secs + g.secs)
closed_footpath t legal f g in_f in_g meet =
    let at_f = At-Contains t.footpaths f in_f in
    let at_g = At-Contains t.footpaths g in_g in
    let second : HasFootpath t.footpaths f.to g.to g.secs = (at_g.0, at_g.1 ∙ ap (λ (s : ℕ). Some (record { from = s; to = g.to; secs = g.secs })) (sym meet))
    in
    let direct = legal.closed f.from f.to g.to f.secs g.secs at_f second in
    let h : Footpath = record { from = f.from; to = g.to; secs = direct.0 } in
    (h, Contains-At t.footpaths direct.1.0 h direct.1.1, refl, refl, direct.2)

-- an ordered pair of stops has one footpath at most
pub one_footpath : (t : TimetableValue) → IsLegal t → (f g : Footpath) → Contains t.footpaths f → Contains t.footpaths g → f.from ≡ g.from → f.to ≡ g.to → f ≡ g
one_footpath t legal f g in_f in_g same_from same_to =
    let at_f = At-Contains t.footpaths f in_f in
    let at_g = At-Contains t.footpaths g in_g in
    let again : Some g ≡ Some (record { from = f.from; to = f.to; secs = g.secs }) = λ i. Some
    (record { from = sym same_from i; to = sym same_to i; secs = g.secs }) in
    let same_index = same_index_of t.footpaths legal.in_order f.from f.to f.secs g.secs at_f (at_g.0, at_g.1 ∙ again) in
    same_Some f g (sym at_f.1 ∙ ap (λ (i : ℕ). slice_get t.footpaths i) same_index ∙ at_g.1)

pub arrival_limit : (t : TimetableValue) → IsWithinLimits t → (i : ℕ) → i < length t.connections → (connection_at t i).arr < TIME_END
arrival_limit t limits i lt = limits.times i (connection_at t i) (connection_at-stands t i lt)

pub walk_limit : (t : TimetableValue) → IsWithinLimits t → (f : Footpath) → Contains t.footpaths f → f.secs ≤ MAX_WALK_SECS
walk_limit t limits f in_f =
    let at_f = At-Contains t.footpaths f in_f in
    limits.walks at_f.0 f at_f.1

-- a footpath behind all others
pub in_order_push : (paths : List Footpath) (f : Footpath) → AreInOrder paths → ((e : Footpath) → Contains paths e → IsOrderedBefore e f)
    → AreInOrder (paths ++ f ∷ [])
in_order_push paths f in_order after i d e at_d at_e =
    let size : length (paths ++ f ∷ []) ≡ length paths + 1 = length-append paths (f ∷ []) in
    let inside : i + 1 < length paths + 1 = omega (arith, size, slice_get_within (paths ++ f ∷ []) (i + 1) e at_e) in
    let d_inside : i < length paths = omega (arith, inside) in
    let was_d : At paths i d = sym (slice_get-front paths (f ∷ []) i d_inside) ∙ at_d in
    elim (cases_order (i + 1) (length paths)) [
      | inl same ↦
          let at_end : At (paths ++ f ∷ []) (length paths) e = subst (λ (n : ℕ). At (paths ++ f ∷ []) n e) same at_e in
          let equal : f ≡ e = same_Some f e (sym (slice_get-last paths f) ∙ at_end) in
          subst (λ (g : Footpath). IsOrderedBefore d g) equal (after d (Contains-At paths i d was_d))
      | inr (inl below) ↦ in_order i d e was_d (sym (slice_get-front paths (f ∷ []) (i + 1) below) ∙ at_e)
      | inr (inr above) ↦ absurd (omega (arith, inside, above))
    ]
