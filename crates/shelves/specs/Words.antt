-- What contracts say of workers' seats, of notices and of the loader's seat, at any shelves.
use Rattle.std.specs.Prelude.{◌≡◌, ℕ, List}
use Rattle.shelf_steps.specs.declared.views.KnownHistory.{KnownHistory}
use Rattle.shelves.specs.SeatHistory.{Grows}
use Rattle.shelves.specs.Seats.{SeatValue}
use Rattle.shelves.specs.declared.answers.LoaderAnswer.{LoaderAnswer}

pub record SeatWords (T S N : Type 0) : Type 1 where
  pub fits : T → S → Type 0  -- the seat may be used at these shelves
  pub number : S → ℕ  -- the number of the seat's worker
  pub shown : S → SeatValue  -- what the seat was answered so far, what it holds, and what it has seen
  pub known : S → KnownHistory  -- what the seat knows of the one history of its shelves: a beginning of it, which only grows
  pub version : N → ℕ  -- the version that a notice is of

pub record LoaderWords (T L : Type 0) : Type 1 where
  pub fits : T → L → Type 0  -- the loader's seat may be used at these shelves
  pub answers : L → List LoaderAnswer  -- what it was answered so far
  pub current : L → ℕ  -- the current version, as it knows it
  pub known : L → KnownHistory  -- what it knows of the one history of its shelves: a beginning of it, which only grows

-- what each call leaves of a worker's seat: it may be used at these shelves, has its number, and knows all that it knew
pub record StillFits {T S N : Type 0} (words : SeatWords T S N) (shelves : T) (a b : S) : Type 0 where
  pub fits : words.fits shelves b
  pub number : words.number b ≡ words.number a
  pub grows : Grows (words.known a) (words.known b)

-- what each call leaves of the loader's seat: it may be used at these shelves, and knows all that it knew
pub record LoaderStillFits {T L : Type 0} (words : LoaderWords T L) (shelves : T) (a b : L) : Type 0 where
  pub fits : words.fits shelves b
  pub grows : Grows (words.known a) (words.known b)
