-- The log of a scan.
use Rattle.std.proofs.Common.{◌≡◌, length, ℕ, zero, suc, ◌+◌, ◌-◌, ◌≤◌, List, [], ◌∷◌, ◌++◌, take, arith}
use Rattle.std.proofs.Common.{refl, sym, ◌∙◌, ap, add-zero, append_assoc, append-nil, reverse, Result, Ok, Err, OnOk, OnErr}
use Rattle.std.proofs.Math.Seq.{take-length}
use Rattle.timetable.specs.TimetableValue.{TimetableValue}
use Rattle.sources.specs.FirstAt.{IsFirstAt}
use Rattle.reasoning.proofs.OptionLemmas.{on_err}
use Rattle.profile_scan.specs.Window.{falling, window_of}
use Rattle.profile_scan.proofs.Windows.{window_falls}

-- one more, below
pub falling_more : (low n : ℕ) → falling low (suc n) ≡ falling (low + 1) n ++ low ∷ []
falling_more low zero = ap (λ k. k ∷ []) (add-zero low)
falling_more low (suc n) =
    let e : low + suc n ≡ low + 1 + n = omega arith in
    ap (λ k. k ∷ falling low (suc n)) e ∙ ap (λ ks. (low + 1 + n) ∷ ks) (falling_more low n)

-- the log after one more turn
pub log_more : (log : List ℕ) (low i hi : ℕ) → low + 1 ≡ i → i ≤ hi → (log ++ falling i (hi - i)) ++ low ∷ [] ≡ log ++ falling low (hi - low)
log_more log low i hi e le =
    let n_is : hi - low ≡ suc (hi - i) = omega arith in
    append_assoc log (falling i (hi - i)) (low ∷ [])
    ∙ ap (λ ks. log ++ ks) (sym (ap (falling low) n_is
    ∙ (falling_more low (hi - i) ∙ ap (λ k. falling k (hi - i) ++ low ∷ []) e)))

-- the first of the window's indices, read from its end
pub falling_take : (low n m : ℕ) → m ≤ n → take m (falling low n) ≡ falling (low + n - m) m
falling_take low zero zero le = refl
falling_take low (suc n) zero le = refl
falling_take low zero (suc m) le = absurd (omega arith)
falling_take low (suc n) (suc m) le =
    let e : low + suc n - suc m ≡ low + n - m = omega arith in
    let f : low + n ≡ low + n - m + m = omega arith in
    ap (λ ks. (low + n) ∷ ks) (falling_take low n m (omega arith)) ∙ (ap (λ k. k ∷ falling (low + n - m) m) f ∙ ap (λ k. falling k (suc m)) (sym e))

pub log_front : (log : List ℕ) (lo i hi : ℕ) → lo ≤ i → i ≤ hi → log ++ falling i (hi - i) ≡ log ++ take (hi - i) (falling lo (hi - lo))
log_front log lo i hi low high =
    let e : i ≡ lo + (hi - lo) - (hi - i) = omega arith in
    ap (λ ks. log ++ ks) (ap (λ k. falling k (hi - i)) e ∙ sym (falling_take lo (hi - lo) (hi - i) (omega arith)))

-- at the end of the window nothing was read
pub log_none : (log : List ℕ) (end : ℕ) → log ≡ log ++ falling end (end - end)
log_none log end =
    let none : end - end ≡ 0 = omega arith in
    sym (append-nil log) ∙ sym (ap (λ n. log ++ falling end n) none)

-- nothing of a list, and all of it
pub taken_none : (log xs : List ℕ) → log ≡ log ++ take 0 xs
taken_none log xs = sym (append-nil log)

pub taken_all : (log xs now : List ℕ) → now ≡ log ++ xs → now ≡ log ++ take (length xs) xs
taken_all log xs now e = e ∙ ap (λ ys. log ++ ys) (sym (take-length xs))

-- what follows once all of it was read reads no more, whether it fails or not
pub whole_read : {T E : Type 0} (r : Result T E) (log read now : List ℕ) → now ≡ log ++ read → OnErr r ((n : ℕ) × (now ≡ log ++ take n read))
whole_read r log read now e = on_err r ((n : ℕ) × (now ≡ log ++ take n read)) (length read, taken_all log read now e)

pub on_ok : {T E : Type 0} (r : Result T E) (P : Type 0) → P → OnOk r P
on_ok (Ok x) P h = h
on_ok (Err e) P h = tt

-- what a scan read of the window of a query, all of it or a part
module _ (t : TimetableValue) (from by start end : ℕ) (is_start : IsFirstAt t from start) (is_end : IsFirstAt t by end) where
  pub window_read : (log now : List ℕ) → now ≡ log ++ falling start (end - start) → now ≡ log ++ reverse (window_of t from by)
  window_read log now e = e ∙ ap (λ (ks : List ℕ). log ++ ks) (sym (window_falls t from by start end is_start is_end))

  pub part_read : {T E : Type 0} (r : Result T E) (log now : List ℕ) → (n : ℕ) × (now ≡ log ++ take n (falling start (end - start)))
      → OnErr r ((n : ℕ) × (now ≡ log ++ take n (reverse (window_of t from by))))
  part_read r log now read = on_err r ((n : ℕ) × (now ≡ log ++ take n (reverse (window_of t from by))))
      (read.0, read.1 ∙ ap (λ (ks : List ℕ). log ++ take read.0 ks) (sym (window_falls t from by start end is_start is_end)))
