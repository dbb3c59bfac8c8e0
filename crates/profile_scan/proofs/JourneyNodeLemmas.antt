-- What records spell of a label, node by node.
use Rattle.std.proofs.Common.{◌≡◌, ℕ, zero, suc, ◌+◌, ◌-◌, ◌<◌, List, [], ◌∷◌, ◌++◌, length, slice_get, get_or, map}
use Rattle.std.proofs.Common.{take, Contains, Option, Some, None, refl, sym, ◌∙◌, ap, subst, inl, inr, arith}
use Rattle.std.proofs.lemmas.Option.{same_Some, slice_get-get_or, slice_get_within}
use Rattle.std.proofs.lemmas.List.{map-append, take_more}
use Rattle.std.proofs.lemmas.List.Elements.{Contains-push_cases}
use Rattle.reasoning.proofs.ListLemmas.{extends_none}
use Rattle.bags.specs.declared.point.Point.{Point}
use Rattle.timetable.specs.declared.network.Footpath.{Footpath}
use Rattle.timetable.specs.JourneyValue.{JourneyValue}
use Rattle.fronts.specs.declared.entry.Step.{Step}
use Rattle.scan_state.specs.Continuations.{Aboard}
use Rattle.scan_state.specs.Steps.{boarded}
use Rattle.profile_scan.specs.Nodes.{Extends}
use Rattle.scan_state.specs.ScanRecords.{walk_of, changed_at, set_out_by}
use Rattle.scan_state.specs.ScanRecords.{ScanRecords, exit_spells, boards_by, step_spells, set_out_spells, label_spells, spelling_of}
use Rattle.scan_state.specs.Points.{untagged}
use Rattle.profile_scan.specs.JourneyNodes.{with_last, change_by, change, ending_by, ending}
use Rattle.profile_scan.specs.JourneyNodes.{IsRoute, IsLabelSpelled, SaysLabel, IsJourneySpelled, SaysJourney, IsSpelledAgain}
use Rattle.profile_scan.specs.declared.journey_nodes.Change.{Change}
use Rattle.profile_scan.specs.declared.journey_nodes.LastAlighting.{LastAlighting}
use Rattle.profile_scan.specs.declared.nodes.Node.{Node}
use Rattle.profile_scan.specs.declared.nodes.Node.TheVariants.{Ends, Changes, Boards, SetsOut}
use Rattle.scan_state.specs.declared.scan_records.Exit.{Exit}
use Rattle.scan_state.specs.declared.scan_records.Exit.TheVariants.{Ends as LabelEnds, Changes as LabelChanges}
use Rattle.scan_state.specs.declared.scan_records.SetOut.{SetOut}
use Rattle.profile_scan.proofs.NodeLemmas.{comes_next, extends_keeps}
use Rattle.scan_state.proofs.ScanRecordLemmas.{grows_none, label_more}

-- what is spelled of a change: the footpath, and what is spelled of the label by which one rides on
pub record IsChange (walks : List Footpath) (aboard : ℕ → Option Aboard) (last : ℕ) (s : Step) (x : Aboard) : Type 0 where
  pub walk : Footpath
  pub rides_on : Aboard
  pub is_walk : slice_get walks s.walk ≡ Some walk
  pub tells : aboard s.label ≡ Some rides_on
  pub is : x ≡ record { last = last; walk = walk ∷ []; rides = boarded s.first rides_on }

changed : (walks : List Footpath) (aboard : ℕ
    → Option Aboard) (last : ℕ) (s : Step) (x : Aboard) (f : Option Footpath) (o : Option Aboard)
    → slice_get walks s.walk ≡ f → aboard s.label ≡ o → changed_at last (boards_by s.first o f) ≡ Some x
    → IsChange walks aboard last s x
changed walks aboard last s x None o ef eo e = absurd cc
changed walks aboard last s x (Some f) None ef eo e = absurd cc
changed walks aboard last s x (Some f) (Some y) ef eo e = record { walk = f; rides_on = y; is_walk = ef; tells = eo; is = sym (same_Some _ _ e) }

-- by cases of the exit
spelled_by : (walks : List Footpath) (steps : List Step) (aboard : ℕ
    → Option Aboard) (exit : Option Exit) (last : ℕ) (s : Step) (x : Aboard)
    → change_by steps exit ≡ Some (record { last = last; step = s })
    → exit_spells (λ tag. step_spells walks aboard (slice_get steps tag)) exit ≡ Some x → IsChange walks aboard last s x
spelled_by walks steps aboard None last s x is e = absurd cc
spelled_by walks steps aboard (Some (LabelEnds at walk)) last s x is e = absurd cc
spelled_by walks steps aboard (Some (LabelChanges at step)) last s x is e = go (slice_get steps step) is e
  where
    go : (found : Option Step) → with_last at found ≡ Some (record { last = last; step = s })
        → changed_at at (step_spells walks aboard found) ≡ Some x → IsChange walks aboard last s x
    go None i spelled_x = absurd cc
    go (Some r) i spelled_x =
        let found_is : Change = record { last = at; step = r } in
        let wanted : Change = record { last = last; step = s } in
        let same = same_Some found_is wanted i in
        let same_step : r ≡ s = ap (λ (z : Change). z.step) same in
        let same_last : at ≡ last = ap (λ (z : Change). z.last) same in
        subst (λ (z : Step). IsChange walks aboard last z x) same_step
        (subst (λ (n : ℕ). IsChange walks aboard n r x) same_last
        (changed walks aboard at r x (slice_get walks r.walk) (aboard r.label) refl refl spelled_x))

-- a label that is spelled in so many legs, and changes
pub spells_change : (walks : List Footpath) (s : ScanRecords) (n label last : ℕ) (step : Step) (x : Aboard)
    → change s label ≡ Some (record { last = last; step = step }) → label_spells walks s n label ≡ Some x
    → (0 < n) × IsChange walks (label_spells walks s (n - 1)) last step x
unfolding label_spells
spells_change walks s zero label last step x is e = absurd cc
spells_change walks s (suc n) label last step x is e =
    let back : suc n - 1 ≡ n = omega arith in (
      omega arith,
      subst (λ (k : ℕ). IsChange walks (label_spells walks s k) last step x) (sym back)
          (spelled_by walks s.steps (label_spells walks s n) (slice_get s.exits label) last step x is e),
    )

-- in any number of legs
pub spelled_change : (walks : List Footpath) (s : ScanRecords) (label last : ℕ) (step : Step) (x : Aboard)
    → change s label ≡ Some (record { last = last; step = step }) → (spelling_of walks s).aboard label ≡ Some x
    → IsChange walks (spelling_of walks s).aboard last step x
spelled_change walks s label last step x is e =
    let c = (spells_change walks s (length s.exits) label last step x is e).1 in
    record {
      walk = c.walk;
      rides_on = c.rides_on;
      is_walk = c.is_walk;
      tells =
          label_more walks s s (grows_none s) (length s.exits - 1) (length s.exits) (omega arith) step.label c.rides_on
          c.tells;
      is = c.is;
    }

-- one who is spelled and doesn't change ends
ended_by : (walks : List Footpath) (steps : List Step) (aboard : ℕ → Option Aboard) (exit : Option Exit) (x : Aboard)
    → change_by steps exit ≡ None → exit_spells (λ tag. step_spells walks aboard (slice_get steps tag)) exit ≡ Some x
    → (last : ℕ) × (walk : Option Footpath) × (exit ≡ Some (LabelEnds last walk))
    × (x ≡ record { last = last; walk = walk_of walk; rides = [] })
ended_by walks steps aboard None x is e = absurd cc
ended_by walks steps aboard (Some (LabelEnds last walk)) x is e = (last, walk, refl, sym (same_Some _ _ e))
ended_by walks steps aboard (Some (LabelChanges at step)) x is e = go (slice_get steps step) is e
  where
    go : (found : Option Step) → with_last at found ≡ None → changed_at at (step_spells walks aboard found) ≡ Some x
        → (last : ℕ) × (walk : Option Footpath) × (Some (LabelChanges at step) ≡ Some (LabelEnds last walk))
        × (x ≡ record { last = last; walk = walk_of walk; rides = [] })
    go None i spelled_x = absurd cc
    go (Some r) i spelled_x = absurd cc

pub spelled_end : (walks : List Footpath) (s : ScanRecords) (n label : ℕ) (x : Aboard) → change s label ≡ None
    → label_spells walks s n label ≡ Some x → (last : ℕ) × (walk : Option Footpath)
    × (slice_get s.exits label ≡ Some (LabelEnds last walk))
    × (x ≡ record { last = last; walk = walk_of walk; rides = [] })
unfolding label_spells
spelled_end walks s zero label x is e = absurd cc
spelled_end walks s (suc n) label x is e = ended_by walks s.steps (label_spells walks s n) (slice_get s.exits label) x is e

-- a node that ends says what is spelled
pub says_end : (walks : List Footpath) (s : ScanRecords) (label : ℕ) (e : LastAlighting) (old new : List Node) → change s label ≡ None
    → ending s label ≡ Some e → new ≡ old ++ Ends e.last e.walk ∷ [] → SaysLabel walks s label new (length old)
says_end walks s label e old new none is pushed x spelled_x =
    let t = spelled_end walks s (length s.exits) label x none spelled_x in
    let says = comes_next old old new new (Ends e.last e.walk) pushed (extends_none old) (extends_none new) in
    let found : LastAlighting = record { last = t.0; walk = t.1 } in
    let same = same_Some found e (sym (ap ending_by t.2) ∙ is) in
    says ∙ ap (λ (z : LastAlighting). Some (aboard_of z)) (sym same) ∙ ap Some (sym t.3)
  where
    aboard_of : LastAlighting → Aboard
    aboard_of z = record { last = z.last; walk = walk_of z.walk; rides = [] }

-- one who is spelled changes or ends
pub spelled_ends : (walks : List Footpath) (s : ScanRecords) (label : ℕ) → IsLabelSpelled walks s label → change s label ≡ None → ending s label ≡ None → ⊥
spelled_ends walks s label is none no_end =
    let t = spelled_end walks s (length s.exits) label is.0 none is.1 in
    let found : ending s label ≡ Some (record { last = t.0; walk = t.1 }) = ap ending_by t.2 in
    cc

-- a node that boards, and one that changes, say what is spelled
pub says_change : (walks : List Footpath) (s : ScanRecords) (label last next : ℕ) (step : Step) (walk : Footpath)
    (old mid new : List Node) → change s label ≡ Some (record { last = last; step = step })
    → slice_get walks step.walk ≡ Some walk → SaysLabel walks s step.label old next
    → mid ≡ old ++ Boards walk step.first next ∷ [] → new ≡ mid ++ Changes last (length old) ∷ [] → SaysLabel walks s label new (length mid)
says_change walks s label last next step walk old mid new is at before first second x e =
    let c = spelled_change walks s label last step x is e in
    let same_walk : walk ≡ c.walk = same_Some walk c.walk (sym at ∙ c.is_walk) in
    let boards = comes_next old old mid mid (Boards walk step.first next) first (extends_none old) (extends_none mid) c.rides_on (before c.rides_on c.tells) in
    let changes = comes_next mid mid new new (Changes last (length old)) second (extends_none mid) (extends_none new) _ boards in
    changes ∙ ap (λ (f : Footpath). Some (by f c.rides_on)) same_walk ∙ ap Some (sym c.is)
  where
    by : Footpath → Aboard → Aboard
    by f y = record { last = last; walk = f ∷ []; rides = boarded step.first y }

-- a node that sets out says the journey that is spelled
journey_by : (aboard : ℕ → Option Aboard) (set_out : SetOut) (j : JourneyValue)
    → set_out_spells aboard (Some set_out) ≡ Some j
    → (x : Aboard) × (aboard set_out.label ≡ Some x)
    × (j ≡ record { start = set_out.start; rides = boarded set_out.first x })
journey_by aboard set_out j e = go (aboard set_out.label) refl e
  where
    go : (o : Option Aboard) → aboard set_out.label ≡ o → set_out_by set_out.start set_out.first o ≡ Some j
        → (x : Aboard) × (aboard set_out.label ≡ Some x)
        × (j ≡ record { start = set_out.start; rides = boarded set_out.first x })
    go None i spelled_j = absurd cc
    go (Some x) i spelled_j = (x, i, sym (same_Some _ _ spelled_j))

pub spelled_journey : (walks : List Footpath) (s : ScanRecords) (tag : ℕ) (set_out : SetOut) (j : JourneyValue)
    → slice_get s.set_outs tag ≡ Some set_out → (spelling_of walks s).journey tag ≡ Some j
    → (x : Aboard) × ((spelling_of walks s).aboard set_out.label ≡ Some x)
    × (j ≡ record { start = set_out.start; rides = boarded set_out.first x })
spelled_journey walks s tag set_out j at e = journey_by (spelling_of walks s).aboard set_out j (ap (set_out_spells (spelling_of walks s).aboard) (sym at) ∙ e)

pub journey_within : (walks : List Footpath) (s : ScanRecords) (tag : ℕ) → IsJourneySpelled walks s tag → tag < length s.set_outs
journey_within walks s tag is = go (slice_get s.set_outs tag) refl is.1
  where
    go : (o : Option SetOut) → slice_get s.set_outs tag ≡ o → set_out_spells (spelling_of walks s).aboard o ≡ Some is.0 → tag < length s.set_outs
    go None at e = absurd cc
    go (Some set_out) at e = slice_get_within s.set_outs tag set_out at

-- where a journey is spelled, so is the label by which one rides on
pub first_spelled : (walks : List Footpath) (s : ScanRecords) (tag : ℕ) (x : SetOut) → IsJourneySpelled walks s tag → x ≡ get_or s.set_outs tag x
    → (slice_get s.set_outs tag ≡ Some x) × IsLabelSpelled walks s x.label
first_spelled walks s tag x is read =
    let within = journey_within walks s tag is in
    let at : slice_get s.set_outs tag ≡ Some x = slice_get-get_or s.set_outs tag x within ∙ ap Some (sym read) in
    let t = spelled_journey walks s tag x is.0 at is.1 in
    (at, (t.0, t.1))

pub says_journey : (walks : List Footpath) (s : ScanRecords) (tag next : ℕ) (set_out : SetOut) (old new : List Node)
    → slice_get s.set_outs tag ≡ Some set_out → SaysLabel walks s set_out.label old next
    → new ≡ old ++ SetsOut set_out.start set_out.first next ∷ [] → SaysJourney walks s tag new (length old)
says_journey walks s tag next set_out old new at before pushed j e =
    let t = spelled_journey walks s tag set_out j at e in
    comes_next old old new new (SetsOut set_out.start set_out.first next) pushed (extends_none old) (extends_none new) t.0 (before t.0 t.1) ∙ ap Some (sym t.2)

-- along a route
pub route_push : (s : ScanRecords) (first : ℕ) (labels : List ℕ) (label : ℕ) (c : Change) → IsRoute s first labels label
    → change s label ≡ Some c → IsRoute s first (labels ++ label ∷ []) c.step.label
route_push s first [] label c route is = (route, (c, is, refl))
route_push s first (l ∷ ls) label c route is = (route.0, (route.1.0, route.1.1, route_push s route.1.0.step.label ls label c route.1.2 is))

route_pop : (s : ScanRecords) (first : ℕ) (labels : List ℕ) (label last : ℕ) → IsRoute s first (labels ++ label ∷ []) last
    → IsRoute s first labels label × ((c : Change) × (change s label ≡ Some c) × (c.step.label ≡ last))
route_pop s first [] label last route = (route.0, (route.1.0, route.1.1, route.1.2))
route_pop s first (l ∷ ls) label last route =
    let rest = route_pop s route.1.0.step.label ls label last route.1.2 in
    ((route.0, (route.1.0, route.1.1, rest.0)), rest.1)

-- the same, of a route from which its last label was taken
pub route_popped : (s : ScanRecords) (first : ℕ) (route labels : List ℕ) (label last : ℕ) → route ≡ labels ++ label ∷ []
    → IsRoute s first route last → IsRoute s first labels label
    × ((c : Change) × (change s label ≡ Some c) × (c.step.label ≡ last))
route_popped s first route labels label last is on = route_pop s first labels label last (subst (λ (ls : List ℕ). IsRoute s first ls last) is on)

-- a route without labels leads nowhere else
pub route_over : (s : ScanRecords) (first : ℕ) (route : List ℕ) (last : ℕ) → length route ≡ 0 → IsRoute s first route last → first ≡ last
route_over s first [] last none on = on
route_over s first (l ∷ ls) last none on = absurd (omega arith)

-- where the first label of a route is spelled, the last is
pub route_spelled : (walks : List Footpath) (s : ScanRecords) (first : ℕ) (labels : List ℕ) (last : ℕ)
    → IsRoute s first labels last → IsLabelSpelled walks s first → IsLabelSpelled walks s last
route_spelled walks s first [] last route is = subst (IsLabelSpelled walks s) route is
route_spelled walks s first (l ∷ ls) last route is =
    let c = route.1.0 in
    let t = spelled_change walks s first c.last c.step is.0 (ap (change s) route.0 ∙ route.1.1) is.1 in
    route_spelled walks s c.step.label ls last route.1.2 (t.rides_on, t.tells)

-- points spelled in nodes, one more
pub spelled_again_more : {V : Type 0} (walks : List Footpath) (s : ScanRecords) (points old new : List (Point V))
    (nodes more : List Node) (i : ℕ) (x : Point V) (tag : ℕ) → Extends nodes more → i < length points
    → x ≡ get_or points i x → new ≡ old ++ record {
      departure = x.departure;
      value = x.value;
      tag =
          tag;
    } ∷ [] → SaysJourney walks s x.tag more tag
    → map untagged old ≡ map untagged (take i points) → ((p : Point V) → Contains old p → IsSpelledAgain walks s points nodes p)
    → (map untagged new ≡ map untagged (take (i + 1) points)) × ((p : Point V) → Contains new p → IsSpelledAgain walks s points more p)
spelled_again_more {V} walks s points old new nodes more i x tag ext lt is pushed says same each =
    let me : Point V = record { departure = x.departure; value = x.value; tag = tag } in (
      ap (map untagged) pushed ∙ map-append untagged old (me ∷ []) ∙ ap (λ ys. ys ++ untagged x ∷ []) same
          ∙ sym (ap (map untagged) (take_more points i x lt ∙ ap (λ y. take i points ++ y ∷ []) (sym is)) ∙ map-append untagged (take i points) (x ∷ [])),
      λ p h. elim (Contains-push_cases old me p (subst (λ ps. Contains ps p) pushed h)) [
        | inl was ↦ (let r = each p was in record {
          of = r.of;
          is_there = r.is_there;
          departs = r.departs;
          worth =
              r.worth;
          says = λ j e.
              (extends_keeps nodes more ext).journey p.tag j (r.says j e);
        })
        | inr e ↦ subst (IsSpelledAgain walks s points more) e (record { of = x; is_there = (i, lt, sym is); departs = refl; worth = refl; says = says })
      ],
    )
