-- Streams: readers and writers, call by call.
use Rattle.std.specs.Prelude.{◌≡◌, ◌≢◌, ◌⊎◌, ◌++◌, ◌∷◌, ℕ, zero, suc, List, [], All, Option, ◌+◌, ◌-◌, ◌^◌, flat_map, min, ⊤}
use Rattle.std.specs.Io.KnownBytes.{Consumes, Keeps}
use Rattle.lines.specs.declared.counted.Counted.{Counted}

-- what contracts say of a stream: its bytes, if they are known, and how one call may change its state
pub record StreamWords (X : Type 0) : Type 1 where
  pub bytes : X → Option (List ℕ)  -- that are to be read, or were written
  pub works : X → X → Type 0  -- a read or a write that succeeds may lead from the first state to the second
  pub flushes : X → X → Type 0  -- a flush that succeeds may
  pub fails : X → X → Type 0  -- a call that fails may

-- for the readers and writers of std, whose contracts say nothing of calls but the bytes: any call may lead from any state to any other. A function that
-- is generic over streams is proved for all words, so it can't make use of that
abbrev pub words_of : {X : Type 0} → (X → Option (List ℕ)) → StreamWords X
words_of bytes = record { bytes = bytes; works = λ x y. ⊤; flushes = λ x y. ⊤; fails = λ x y. ⊤ }

-- the bytes of all reads, end to end
abbrev pub all_of : List (List ℕ) → List ℕ
all_of blocks = flat_map (λ block. block) blocks

-- reads that gave these blocks were made while this held of what had come: each but the last gave bytes, and it holds of what came before the last
abbrev pub AreReadWhile : (List ℕ → Type 0) → List (List ℕ) → Type 0
AreReadWhile Holds blocks = (blocks ≡ [])
    ⊎ ((front : List (List ℕ)) × (last : List ℕ) × (blocks ≡ front ++ last ∷ []) × All (λ block. block ≢ []) front × Holds (all_of front))

module _ {X : Type 0} (words : StreamWords X) where
  -- from one state to another by so many reads or writes, which all succeeded
  abbrev pub WorkFor : ℕ → X → X → Type 0
  WorkFor zero before after = after ≡ before
  WorkFor (suc n) before after = (between : X) × WorkFor n before between × words.works between after

  -- all of them succeeded, however many
  abbrev pub AllWork : X → X → Type 0
  AllWork before after = (n : ℕ) × WorkFor n before after

  -- the last call failed, and all calls before it succeeded
  pub record FailsLast (before after : X) : Type 0 where
    pub between : X
    pub worked : AllWork before between
    pub failed : words.fails between after

  -- a line was written, by writes that all succeeded, and flushed
  abbrev pub IsFlushed : X → X → Type 0
  IsFlushed before after = (between : X) × AllWork before between × words.flushes between after

  -- so many lines were written, each with a flush of its own
  abbrev pub AreFlushed : ℕ → X → X → Type 0
  AreFlushed zero before after = after ≡ before
  AreFlushed (suc n) before after = (between : X) × AreFlushed n before between × IsFlushed between after

  -- reads that succeeded, one after the other, and what each gave
  abbrev pub Reads : X → List (List ℕ) → X → Type 0
  Reads before [] after = after ≡ before
  Reads before (block ∷ blocks) after =
      (next : X) × words.works before next × Consumes (words.bytes before) (words.bytes next) block × Reads next blocks after

  -- the last read failed and gave nothing, and all before it succeeded
  pub record FailsToRead (before : X) (blocks : List (List ℕ)) (after : X) : Type 0 where
    pub between : X
    pub front : List (List ℕ)
    pub blocks_are : blocks ≡ front ++ [] ∷ []
    pub worked : Reads before front between
    pub failed : words.fails between after
    pub kept : Keeps (words.bytes between) (words.bytes after)

-- the reader or writer itself
abbrev pub inner_of : {X S : Type 0} → Counted X S → X
inner_of c = c.inner

-- how many of its calls failed
abbrev pub failures_of : {X S : Type 0} → Counted X S → ℕ
failures_of c = c.failures

-- the lines that were written, in order: what each was written beside, its text, and the indices that were read for it
abbrev pub notes_of : {X S : Type 0} → Counted X S → List (S × (List ℕ × List ℕ))
notes_of c = c.notes.value

-- one more, up to the greatest number
abbrev pub one_more : ℕ → ℕ
one_more n = min (n + 1) (2 ^ 64 - 1)

module _ {X S : Type 0} (words : StreamWords X) where
  -- a line was written and flushed; no call is counted as failed
  abbrev pub HasFlushed : Counted X S → Counted X S → Type 0
  HasFlushed before after = (failures_of after ≡ failures_of before) × IsFlushed words (inner_of before) (inner_of after)

  -- the last call failed, and all calls before it succeeded; it is counted
  abbrev pub HasFailed : Counted X S → Counted X S → Type 0
  HasFailed before after = (failures_of after ≡ one_more (failures_of before)) × FailsLast words (inner_of before) (inner_of after)

  -- so many lines were written, each with a flush of its own; no call is counted as failed
  abbrev pub HasWritten : ℕ → Counted X S → Counted X S → Type 0
  HasWritten n before after = (failures_of after ≡ failures_of before) × AreFlushed words n (inner_of before) (inner_of after)

  -- behind so many lines, each with a flush of its own, the last call of one line more failed; it is counted
  abbrev pub HasFailedBehind : ℕ → Counted X S → Counted X S → Type 0
  HasFailedBehind n before after =
      (failures_of after ≡ one_more (failures_of before))
      × ((between : X) × AreFlushed words n (inner_of before) between × FailsLast words between (inner_of after))

  -- all reads succeeded, and gave these bytes; none is counted as failed
  abbrev pub HasRead : Counted X S → List (List ℕ) → Counted X S → Type 0
  HasRead before blocks after = (failures_of after ≡ failures_of before) × Reads words (inner_of before) blocks (inner_of after)

  -- the last read failed and gave nothing, and all before it succeeded; it is counted
  abbrev pub HasFailedToRead : Counted X S → List (List ℕ) → Counted X S → Type 0
  HasFailedToRead before blocks after =
      (failures_of after ≡ one_more (failures_of before)) × FailsToRead words (inner_of before) blocks (inner_of after)
