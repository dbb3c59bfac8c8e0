-- The records of a text, read one at a time, are the records of the text.
use Rattle.std.proofs.Common.{◌≡◌, ◌≤◌, ◌∷◌, ℕ, zero, suc, List, [], length, Option, Some, None, Bool, refl, ap, arith, add-one}
use Rattle.std.specs.Prelude.{IsSome, MatchBool}
use Rattle.std.proofs.lemmas.Grind.{common_steps}
use Rattle.csv.specs.Machine.{Read, field_after, fields_after, next_record, step}
use Rattle.csv.specs.Reading.{NextIs, ReadsNext, default_config, records_from}
use Rattle.csv.specs.declared.parser.State.{State}
use Rattle.csv.specs.declared.parser.State.TheVariants as st
use Rattle.gtfs_rows.specs.Source.{Record, records_at, records_of}

-- after the end of the text there is no record
ended : (s : State) (fields : List (List ℕ)) (field : List ℕ) (p : Read)
    → next_record default_config s fields field [] ≡ Some p → (p.1 ≡ st.StartRecord) × (p.2 ≡ [])
unfolding next_record
ended s fields field p e = grind (arith, common_steps)

-- a record takes at least one byte of a text that has one
shrinks : (s : State) (fields : List (List ℕ)) (field : List ℕ) (c : ℕ) (rest : List ℕ) (p : Read)
    → next_record default_config s fields field (c ∷ rest) ≡ Some p → length p.2 ≤ length rest
unfolding next_record
shrinks s fields field c [] p e = grind (arith, ended)
shrinks s fields field c (x ∷ xs) p e =
    let go = shrinks (step default_config s c).0 (fields_after (step default_config s c).1 fields field)
    (field_after (step default_config s c).1 c field) x xs p in
    grind (arith, go)

-- where the text has ended, there are no records
no_more : (n : ℕ) → records_from default_config n st.StartRecord [] ≡ []
unfolding records_from next_record
no_more zero = refl
no_more (suc n) = refl

-- more turns than bytes change nothing
turns : (n k : ℕ) (s : State) (xs : List ℕ) → length xs ≤ n → length xs ≤ k
    → records_from default_config (suc n) s xs ≡ records_from default_config (suc k) s xs
unfolding records_from
turns n k s [] a b = grind (arith, ended, no_more)
turns zero k s (c ∷ rest) a b = absurd (omega arith)
turns (suc n) zero s (c ∷ rest) a b = absurd (omega arith)
turns (suc n) (suc k) s (c ∷ rest) a b = let go = turns n k in grind (arith, shrinks, go)

-- the first record of a text, and the records after it
rows_next : (s : State) (xs : List ℕ) (p : Read) → next_record default_config s [] [] xs ≡ Some p
    → records_at s xs ≡ p.0 ∷ records_at p.1 p.2
unfolding records_from
rows_next s [] p h = grind (arith, ended, no_more)
rows_next s (c ∷ rest) p h =
    let less : length p.2 ≤ length rest = shrinks s [] [] c rest p h in
    let same : records_from default_config (suc (length rest)) p.1 p.2 ≡ records_at p.1 p.2 =
    rw add-one (turns (length rest) (length p.2) p.1 p.2 (omega arith) (omega arith)) in
    rw (add-one, h) (ap (λ (rows : List Record). p.0 ∷ rows) same)

-- a read of known bytes takes the first of their records, if they have one
taken : (s s2 : State) (xs ys : List ℕ) (found : Bool) (fields : Record) (o : Option Read) → next_record default_config s [] [] xs ≡ o
    → NextIs o found fields s2 ys → MatchBool found (records_at s xs ≡ fields ∷ records_at s2 ys) (records_at s xs ≡ [])
unfolding records_from
taken s s2 xs ys found fields None e found_none = rw (found_none, add-one, e) refl
taken s s2 xs ys found fields (Some p) e (is, same, state, rest) = rw (is, same, state, rest) (rows_next s xs p e)

pub taken_of : (s s2 : State) (before after : Option (List ℕ)) (found : Bool) (fields : Record) → IsSome before
    → ReadsNext default_config s before after found fields s2
    → MatchBool found (records_of s before ≡ fields ∷ records_of s2 after) (records_of s before ≡ [])
taken_of s s2 None after found fields known read = cc
taken_of s s2 (Some xs) None found fields known read = absurd read
taken_of s s2 (Some xs) (Some ys) found fields known read = taken s s2 xs ys found fields _ refl read
