-- Calls of streams, one behind the other.
use Rattle.std.proofs.Common.{◌≡◌, ◌∙◌, ◌+◌, ◌++◌, ◌∷◌, ℕ, suc, List, [], Result, Ok, Err, ap, append_assoc, arith, subst, sym}
use Rattle.std.specs.Prelude.{MatchResult}
use Rattle.std.specs.Io.KnownBytes.{Consumes}
use Rattle.std.proofs.KnownBytes.{Consumes-kept, Consumes-nil, Consumes-trans}
use Rattle.std.proofs.lemmas.List.{append-nil}
use Rattle.std.proofs.lemmas.List.Concat.{flat_map-append}
use Rattle.lines.specs.Streams.{AllWork, FailsLast, FailsToRead, HasFailed, HasFailedBehind, HasFlushed, HasWritten, IsFlushed, Reads, StreamWords}
use Rattle.lines.specs.Streams.{all_of, one_more}
use Rattle.lines.specs.declared.counted.Counted.{Counted}

module _ {X : Type 0} (words : StreamWords X) where
  -- and one call more
  pub works_more : {x y z : X} → AllWork words x y → words.works y z → AllWork words x z
  works_more {x} {y} {z} before call = (suc before.0, (y, before.1, call))

  -- and one line more
  pub one_line_more : {S : Type 0} (n : ℕ) (a b c : Counted X S) → HasWritten words n a b → HasFlushed words b c → HasWritten words (n + 1) a c
  one_line_more n a b c lines line =
      let next : n + 1 ≡ suc n = omega arith in
      subst (λ (m : ℕ). HasWritten words m a c) (sym next) (line.0 ∙ lines.0, (b.inner, lines.1, line.1))

  -- or it fails
  pub fails_at_line : {S : Type 0} (n : ℕ) (a b c : Counted X S) → HasWritten words n a b → HasFailed words b c → HasFailedBehind words n a c
  fails_at_line n a b c lines line = (line.0 ∙ ap one_more lines.0, (b.inner, lines.1, line.1))

  -- the flush behind writes that all succeeded
  pub flushed_last : {E : Type 0} (r : Result (Unit {0}) E) (x y z : X) → AllWork words x y
      → MatchResult r (λ _. words.flushes y z) (λ _. words.fails y z) → MatchResult r (λ _. IsFlushed words x z) (λ _. FailsLast words x z)
  flushed_last (Ok u) x y z before call = (y, before, call)
  flushed_last (Err e) x y z before call = record { between = y; worked = before; failed = call }

  reads_both : (x y z : X) (blocks more : List (List ℕ)) → Reads words x blocks y → Reads words y more z → Reads words x (blocks ++ more) z
  reads_both x y z [] more same rest = subst (λ (from : X). Reads words from more z) same rest
  reads_both x y z (block ∷ blocks) more (next, work, came, others) rest =
      (next, work, came, reads_both next y z blocks more others rest)

  pub reads_then : (i j k : X) {l m n : ℕ} (blocks more : List (List ℕ)) → (m ≡ l) × Reads words i blocks j → (n ≡ m) × Reads words j more k
      → (n ≡ l) × Reads words i (blocks ++ more) k
  reads_then i j k blocks more p q = (q.0 ∙ p.0, reads_both i j k blocks more p.1 q.1)

  pub fails_behind : (i j k : X) {l m n : ℕ} (blocks more : List (List ℕ)) → (m ≡ l) × Reads words i blocks j
      → (n ≡ one_more m) × FailsToRead words j more k → (n ≡ one_more l) × FailsToRead words i (blocks ++ more) k
  fails_behind i j k blocks more p q = (
    q.0 ∙ ap one_more p.0,
    record {
      between = q.1.between;
      front = blocks ++ q.1.front;
      blocks_are = ap (λ (xs : List (List ℕ)). blocks ++ xs) q.1.blocks_are ∙ sym (append_assoc blocks q.1.front ([] ∷ []));
      worked = reads_both i j q.1.between blocks q.1.front p.1 q.1.worked;
      failed = q.1.failed;
      kept = q.1.kept;
    },
  )

  -- what was read came off the bytes
  pub reads_consume : (x y : X) (blocks : List (List ℕ)) → Reads words x blocks y → Consumes (words.bytes x) (words.bytes y) (all_of blocks)
  reads_consume x y [] same = subst (λ (to : X). Consumes (words.bytes x) (words.bytes to) []) (sym same) (Consumes-nil (words.bytes x))
  reads_consume x y (block ∷ blocks) (next, work, came, rest) =
      Consumes-trans (words.bytes x) (words.bytes next) (words.bytes y) block (all_of blocks) came (reads_consume next y blocks rest)

  pub failed_consumes : (x y : X) (blocks : List (List ℕ)) → FailsToRead words x blocks y
      → Consumes (words.bytes x) (words.bytes y) (all_of blocks)
  failed_consumes x y blocks failed =
      let before = reads_consume x failed.between failed.front failed.worked in
      let same : all_of failed.front ≡ all_of blocks = sym (ap (λ (xs : List (List ℕ)). all_of xs) failed.blocks_are
      ∙ flat_map-append (λ (block : List ℕ). block) failed.front ([] ∷ []) ∙ append-nil (all_of failed.front)) in
      subst (λ (bytes : List ℕ). Consumes (words.bytes x) (words.bytes y) bytes) same
      (Consumes-kept (words.bytes x) (words.bytes failed.between) (words.bytes y) (all_of failed.front) before failed.kept)
