-- Where one may set out, as it is found.
use Rattle.std.proofs.Common.{◌≡◌, ◌≢◌, ℕ, zero, suc, replicate, ◌+◌, ◌<◌, ◌≤◌, Bool, true, false, MatchBool, List, [], ◌∷◌, ◌++◌, Contains}
use Rattle.std.proofs.Common.{length, length-append}
use Rattle.std.proofs.Common.{get_or, set, get_or-set_same, get_or-set_other, length-set, slice_get, Some, refl, sym, ◌∙◌, ap, subst, inl, inr, arith}
use Rattle.std.specs.Prelude.{Option}
use Rattle.std.proofs.lemmas.Bool.{cases_eq, cases_lt, false≢true}
use Rattle.std.proofs.lemmas.List.{length-replicate}
use Rattle.std.proofs.lemmas.Option.{same_Some, slice_get_within}
use Rattle.reasoning.proofs.ListLemmas.{at_contains, contains_at, slice_get-front, slice_get-last}
use Rattle.timetable.specs.declared.network.Connection.{Connection}
use Rattle.timetable.specs.declared.network.Footpath.{Footpath}
use Rattle.timetable.specs.TimetableValue.{TimetableValue}
use Rattle.timetable.specs.Legal.{At, IsLegal}
use Rattle.timetable.proofs.LegalLemmas.{At-Contains}
use Rattle.scan_state.specs.Adding.{StandsBetween, StartsFrom}
use Rattle.scan_state.specs.SetQuery.{SetQueryValue}
use Rattle.scan_state.specs.Starts.{AreMarked, IsAmong, IsFromMarked, IsStopAccess, IsStopAccessBy, IsLed, IsLedBy, SaysSource}
use Rattle.scan_state.specs.declared.starts.StopAccess.{StopAccess}
use Rattle.scan_state.proofs.BoardLemmas.{between_split}

-- whether one thing or another holds, where either follows from the other
says_as : (b : Bool) (P Q : Type 0) → (P → Q) → (Q → P) → MatchBool b P (P → ⊥) → MatchBool b Q (Q → ⊥)
says_as true P Q into back is = into is
says_as false P Q into back is = λ q. is (back q)

-- whether one sets out by a footpath that isn't a loop, where it is known whether that begins at a source
pub starts_as : (q : SetQueryValue) (c : Connection) (walk : Footpath) (start : Option Footpath) (b : Bool) → start ≡ Some walk → walk.to ≢ walk.from
    → SaysSource q.sources walk.from b → MatchBool b (StartsFrom q c start) (StartsFrom q c start → ⊥)
starts_as q c walk start b is other says = subst (λ (s : Option Footpath). MatchBool b (StartsFrom q c s) (StartsFrom q c s → ⊥)) (sym is)
    (says_as b (Contains q.sources walk.from) (StartsFrom q c (Some walk)) (λ at. (at, other)) (λ from. from.0) says)

no_mark : (n k : ℕ) → get_or (replicate n false) k false ≡ false
no_mark zero k = refl
no_mark (suc n) zero = refl
no_mark (suc n) (suc k) = no_mark n k

-- at first none is marked
pub none_marked : (sources : List ℕ) (n : ℕ) (marked : List Bool) → marked ≡ replicate n false → AreMarked sources 0 n marked
none_marked sources n marked e = subst (AreMarked sources 0 n) (sym e) (record {
  long = length-replicate n false;
  each = λ stop lt. subst (λ (b : Bool). MatchBool b (IsAmong sources 0 stop) (IsAmong sources 0 stop → ⊥)) (sym (no_mark n stop))
      (λ a. omega (arith, a.1));
})

-- one source more is marked
pub mark_more : (sources : List ℕ) (k n stop : ℕ) (marked : List Bool) → slice_get sources k ≡ Some stop → AreMarked sources k n marked
    → AreMarked sources (k + 1) n (set marked stop true)
mark_more sources k n stop marked at are = record {
  long = length-set marked stop true ∙ are.long;
  each = λ s lt. elim (cases_eq s stop) [
    | inl same ↦
        let long = are.long in
        let here : get_or (set marked stop true) stop false ≡ true = get_or-set_same marked stop true false (omega (arith, long, lt, same)) in
        let among : IsAmong sources (k + 1) stop = (k, omega arith, at) in
        subst (λ (x : ℕ). MatchBool (get_or (set marked stop true) x false) (IsAmong sources (k + 1) x) (IsAmong sources (k + 1) x → ⊥)) (sym same)
        (subst (λ (b : Bool). MatchBool b (IsAmong sources (k + 1) stop) (IsAmong sources (k + 1) stop → ⊥)) (sym here) among)
    | inr other ↦
        subst (λ (b : Bool). MatchBool b (IsAmong sources (k + 1) s) (IsAmong sources (k + 1) s → ⊥))
        (sym (get_or-set_other marked stop s true false other))
        (says_as (get_or marked s false) (IsAmong sources k s) (IsAmong sources (k + 1) s) (λ a. (a.0, omega (arith, a.1), a.2))
        (λ a. elim (cases_eq a.0 k) [
          | inl last ↦ absurd (other (same_Some s stop (sym a.2 ∙ ap (slice_get sources) last ∙ at)))
          | inr before ↦ (a.0, (let lt_k = a.1 in omega (arith, lt_k, before)), a.2)
        ]) (are.each s lt))
  ];
}

-- none of the footpaths from a place up to before another leads from a marked stop
abbrev pub NoStart : TimetableValue → List Bool → ℕ → ℕ → Type 0
NoStart t marked begin end = (f : Footpath) → StandsBetween t.footpaths begin end f → IsFromMarked marked f → ⊥

pub no_start_yet : (t : TimetableValue) (marked : List Bool) (begin : ℕ) → NoStart t marked begin begin
no_start_yet t marked begin f s start = omega (arith, s.1, s.2)

pub no_start_more : (t : TimetableValue) (marked : List Bool) (begin place : ℕ) (walk : Footpath) → At t.footpaths place walk
    → (IsFromMarked marked walk → ⊥) → NoStart t marked begin place → NoStart t marked begin (place + 1)
no_start_more t marked begin place walk at not_it none f s start = elim (between_split t.footpaths begin place walk f at s) [
  | inl was ↦ none f was start
  | inr same ↦ not_it (subst (IsFromMarked marked) same start)
]

-- all footpaths into a stop were looked at
pub not_led : (t : TimetableValue) (marked : List Bool) (stop begin end : ℕ)
    → ((k : ℕ) (f : Footpath) → At t.footpaths k f → f.to ≡ stop → (begin ≤ k) × (k < end)) → NoStart t marked begin end
    → IsLedBy t marked stop → ⊥
not_led t marked stop begin end into none led =
    let at = At-Contains t.footpaths led.0 led.1 in
    let place = into at.0 led.0 at.1 led.3 in
    none led.0 (at.0, place.0, place.1, at.1) led.2

-- one stop more
pub leads_more : (t : TimetableValue) (marked : List Bool) (leads new : List StopAccess) (lead : StopAccess) → new ≡ leads ++ lead ∷ []
    → IsStopAccessBy t marked (length leads) lead
    → ((k : ℕ) (l : StopAccess) → slice_get leads k ≡ Some l → IsStopAccessBy t marked k l)
    → (k : ℕ) (l : StopAccess) → slice_get new k ≡ Some l → IsStopAccessBy t marked k l
leads_more t marked leads new lead e here before k l at =
    let at_k : slice_get (leads ++ lead ∷ []) k ≡ Some l = subst (λ (xs : List StopAccess). slice_get xs k ≡ Some l) e at in
    elim (cases_lt k (length leads)) [
      | inl lt ↦ before k l (sym (slice_get-front leads (lead ∷ []) k lt) ∙ at_k)
      | inr ge ↦
          let lt : k < length (leads ++ lead ∷ []) = slice_get_within (leads ++ lead ∷ []) k l at_k in
          let long : length (leads ++ lead ∷ []) ≡ length leads + 1 = length-append leads (lead ∷ []) in
          let same : length leads ≡ k = omega (arith, lt, long, ge) in
          let is : lead ≡ l = same_Some lead l (sym (slice_get-last leads lead) ∙ ap (λ (n : ℕ). slice_get (leads ++ lead ∷ []) n) same ∙ at_k) in
          subst (λ (n : ℕ). IsStopAccessBy t marked n l) same (subst (IsStopAccessBy t marked (length leads)) is here)
    ]

-- where all sources are marked, what is said of marked stops is said of sources
marked_is_source : (sources : List ℕ) (n stop : ℕ) (marked : List Bool) → AreMarked sources (length sources) n marked → stop < n
    → SaysSource sources stop (get_or marked stop false)
marked_is_source sources n stop marked are lt =
    says_as (get_or marked stop false) (IsAmong sources (length sources) stop) (Contains sources stop)
    (λ a. contains_at sources a.0 stop a.2)
    (λ is. let at = at_contains sources stop is in (at.0, slice_get_within sources at.0 stop at.1, at.1))
    (are.each stop lt)

is_source : (sources : List ℕ) (stop : ℕ) (b : Bool) → SaysSource sources stop b → b ≡ true → Contains sources stop
is_source sources stop true says e = says
is_source sources stop false says e = absurd (false≢true e)

source_is : (sources : List ℕ) (stop : ℕ) (b : Bool) → SaysSource sources stop b → Contains sources stop → b ≡ true
source_is sources stop true says is = refl
source_is sources stop false says is = absurd (says is)

pub leads_of_sources : (t : TimetableValue) → IsLegal t → (sources : List ℕ) (marked : List Bool) → AreMarked sources (length sources) t.stops marked
    → (stop : ℕ) (lead : StopAccess) → stop < t.stops → IsStopAccessBy t marked stop lead → IsStopAccess t sources stop lead
leads_of_sources t legal sources marked are stop lead lt is =
    let from_in : (f : Footpath) → Contains t.footpaths f → f.from < t.stops =
    λ f in_f. let at = At-Contains t.footpaths f in_f in (legal.ends_in_range at.0 f at.1).0 in
    let into : IsLedBy t marked stop → IsLed t sources stop =
    λ led. (
      led.0,
      led.1,
      (
        is_source sources led.0.from (get_or marked led.0.from false)
            (marked_is_source sources t.stops led.0.from marked are (from_in led.0 led.1)) led.2.0,
        led.2.1,
      ),
      led.3,
    ) in
    let back : IsLed t sources stop → IsLedBy t marked stop =
    λ led. (
      led.0,
      led.1,
      (
        source_is sources led.0.from (get_or marked led.0.from false)
            (marked_is_source sources t.stops led.0.from marked are (from_in led.0 led.1)) led.2.0,
        led.2.1,
      ),
      led.3,
    ) in
    record {
      here = subst (SaysSource sources stop) (sym is.here) (marked_is_source sources t.stops stop marked are lt);
      led = says_as lead.led (IsLedBy t marked stop) (IsLed t sources stop) into back is.led;
    }
