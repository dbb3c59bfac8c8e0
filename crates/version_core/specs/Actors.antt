-- The actor of each event: a worker, the loader, or nobody.
use Rattle.std.specs.Prelude.{◌≢◌, ℕ, List, [], ◌∷◌, Option, Some, None}
use Rattle.version_core.specs.declared.event.Event.{Event}

-- neither a worker nor the loader
abbrev pub no_actor : Option ℕ
no_actor = Some 16

-- who does an event: Some w is the worker w, None the loader. Note and Join are nobody's, since a seat does them without learning what has happened
abbrev pub actor : Event → Option ℕ
actor Event.Note = no_actor
actor (Event.Join w v) = no_actor
actor (Event.Look w) = Some w
actor (Event.Take w) = Some w
actor (Event.Drop w) = Some w
actor (Event.Ask w) = Some w
actor _ = None

-- none of the events is this actor's
abbrev pub NoneOf : Option ℕ → List Event → Type 0
NoneOf a [] = Unit {0}
NoneOf a (e ∷ es) = (actor e ≢ a) × NoneOf a es
