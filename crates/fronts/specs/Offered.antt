-- A value that is offered to labels.
use Rattle.std.specs.Prelude.{◌≡◌, ℕ, ◌++◌, ◌∷◌, [], List, Bool, false, cond, not, filter}
use Rattle.std.specs.List.{list_any}
use Rattle.criteria.specs.Laws.{Rules}
use Rattle.fronts.specs.declared.labels.Label.{Label}

-- whether a label is no worse than a value (an equal one counts)
abbrev pub is_beaten : {V : Type 0} → Rules V → List (Label V) → V → Bool
is_beaten rules labels v = list_any (λ l. rules.no_worse l.value v) labels

-- the labels that stay when a value is added: all but those than which it is no worse
abbrev pub others : {V : Type 0} → Rules V → V → List (Label V) → List (Label V)
others rules v labels = filter (λ l. not (rules.no_worse v l.value)) labels

-- a label is offered to a trip: it is added unless one of the trip's labels is no worse, and those that it is no worse than are dropped; the labels of other
-- trips stay
pub record TakesOffer {V : Type 0} (rules : Rules V) (trip : ℕ) (label : Label V) (old new : ℕ → List (Label V)) (stands : Bool)
    : Type 0 where
  pub judged : stands ≡ not (is_beaten rules (old trip) label.value)
  pub taken : new trip ≡ cond stands (others rules label.value (old trip) ++ label ∷ []) (old trip)
  pub elsewhere : (k : ℕ) → (k ≡ trip → ⊥) → new k ≡ old k

-- a value is offered to a trip in vain, though none of its labels is as good: the labels of each trip stay
pub record LosesOffer {V : Type 0} (rules : Rules V) (trip : ℕ) (value : V) (old new : ℕ → List (Label V)) : Type 0 where
  pub free : is_beaten rules (old trip) value ≡ false
  pub stay : (k : ℕ) → new k ≡ old k
