-- A look and a take with no event between, and a drop of what is held.
use Rattle.std.proofs.Common.{◌≡◌, ℕ, Some, slice_get, refl, ap, sym, ◌∙◌, subst, inl, inr}
use Rattle.std.proofs.lemmas.Option.{slice_get_within}
use Rattle.reasoning.proofs.ListLemmas.{slice_get-set_same}
use Rattle.version_core.specs.declared.state.Shelf.{Shelf}
use Rattle.version_core.specs.declared.state.Worker.{Worker}
use Rattle.version_core.specs.declared.event.Event.{Event}
use Rattle.version_core.specs.declared.event.Reply.{Reply}
use Rattle.version_core.specs.State.{State, looked, arrived, departed}
use Rattle.version_core.specs.Steps.{IsIdle, HasLooked, Holds, StaysAt, Step, LookStep, TakeStep, DropStep}
use Rattle.version_core.specs.Invariants.{KeepsInvariants}

look_is : (s t : State) (w : ℕ) (r : Reply) → IsIdle s w → LookStep s w r t → (r ≡ Reply.Looked s.current s.current_shelf) × (t ≡ looked s w)
look_is s t w (Reply.Looked v k) idle h = (ap (λ n. Reply.Looked n k) h.1 ∙ ap (λ n. Reply.Looked s.current n) h.2, h.3)
look_is s t w Reply.NotNow idle h = absurd (h.0 idle)
look_is s t w _ idle h = absurd h

-- who has looked finds what it looked at
looked_here : (s : State) (w : ℕ) → IsIdle s w → HasLooked (looked s w) w s.current s.current_shelf
looked_here s w idle = slice_get-set_same s.workers w (Worker.Looked s.current s.current_shelf) (slice_get_within s.workers w Worker.Idle idle)

-- the current version is open, so that a take right after the look holds it
take_is : (s t : State) (w : ℕ) (r : Reply) → KeepsInvariants s → IsIdle s w → TakeStep (looked s w) w r t
    → (r ≡ Reply.Holds s.current) × (t ≡ arrived (looked s w) w s.current_shelf
    (Worker.Holding s.current_shelf s.current))
take_is s t w (Reply.Holds v) kept idle h =
    let e : Some (Worker.Looked s.current s.current_shelf) ≡ Some (Worker.Looked v h.0) = sym (looked_here s w idle) ∙ h.1 in
    let p : v ≡ s.current = cc in
    let q : h.0 ≡ s.current_shelf = cc in (
      ap (λ n. Reply.Holds n) p,
      h.3 ∙ (ap (λ n. arrived (looked s w) w h.0 (Worker.Holding h.0 n)) p
          ∙ ap (λ n. arrived (looked s w) w n (Worker.Holding n s.current)) q),
    )
take_is s t w Reply.Late kept idle h =
    let e : Some (Worker.Looked s.current s.current_shelf) ≡ Some (Worker.Looked h.0 h.1) = sym (looked_here s w idle) ∙ h.2 in
    let p : h.0 ≡ s.current = cc in
    let q : h.1 ≡ s.current_shelf = cc in
    absurd (h.3 (ap (λ n. slice_get s.shelves n) q ∙ (kept.shelves.current_open ∙ ap (λ n. Some (Shelf.Open n)) (sym p))))
take_is s t w Reply.NotNow kept idle h = absurd (h.0 s.current s.current_shelf (looked_here s w idle))
take_is s t w _ kept idle h = absurd h

holds_there : (s : State) (w k v j x : ℕ) → HasLooked s w v k → Holds (arrived s w k (Worker.Holding j x)) w j x
holds_there s w k v j x has = slice_get-set_same s.workers w (Worker.Holding j x) (slice_get_within s.workers w (Worker.Looked v k) has)

pub look_and_take : (s t u : State) (w : ℕ) (first second : Reply) → KeepsInvariants s → IsIdle s w → Step s (Event.Look w) first t → Step t
    (Event.Take w) second u
    → (first ≡ Reply.Looked s.current s.current_shelf) × (second ≡ Reply.Holds s.current)
    × (u ≡ arrived (looked s w) w s.current_shelf (Worker.Holding s.current_shelf s.current)) × Holds u w s.current_shelf s.current
look_and_take s t u w first second kept idle look take =
    let one = look_is s t w first idle look in
    let two = take_is s u w second kept idle (subst (λ x. TakeStep x w second u) one.1 take) in (
      one.0,
      two.0,
      two.1,
      subst (λ x. Holds x w s.current_shelf s.current) (sym two.1)
          (holds_there (looked s w) w s.current_shelf s.current s.current_shelf s.current (looked_here s w idle)),
    )

-- a worker is at one shelf at most
pub stays_once : (s : State) (w j k : ℕ) → StaysAt s w j → StaysAt s w k → k ≡ j
stays_once s w j k a b = elim a [
  | inl x ↦ elim b [
    | inl y ↦ (let e : Some (Worker.Late j) ≡ Some (Worker.Late k) = sym x ∙ y in cc)
    | inr y ↦
        absurd (let e : Some (Worker.Late j) ≡ Some (Worker.Holding k y.0) =
        sym x ∙ y.1 in cc)
  ]
  | inr x ↦ elim b [
    | inl y ↦ absurd (let e : Some (Worker.Holding j x.0) ≡ Some (Worker.Late k) =
        sym x.1 ∙ y in cc)
    | inr y ↦
        (let e : Some (Worker.Holding j x.0) ≡ Some (Worker.Holding k y.0) =
        sym x.1 ∙ y.1 in cc)
  ]
]

drop_is : (s t : State) (w k v : ℕ) (r : Reply) → Holds s w k v → DropStep s w r t → (r ≡ Reply.Dropped) × (t ≡ departed s w k)
drop_is s t w k v Reply.Dropped holds h = (refl, h.2 ∙ ap (λ n. departed s w n) (stays_once s w k h.0 (inr (v, holds)) h.1))
drop_is s t w k v Reply.NotNow holds h = absurd (h.0 k (inr (v, holds)))
drop_is s t w k v _ holds h = absurd h

pub drop_lets_go : (s t : State) (w k v : ℕ) (r : Reply) → KeepsInvariants s → Holds s w k v → Step s (Event.Drop w) r t
    → (r ≡ Reply.Dropped) × (t ≡ departed s w k) × IsIdle t w
drop_lets_go s t w k v r kept holds h =
    let is = drop_is s t w k v r holds h in
    (is.0, is.1, subst (λ x. IsIdle x w) (sym is.1) (slice_get-set_same s.workers w Worker.Idle (slice_get_within s.workers w (Worker.Holding k v) holds)))
