-- A search that halves what is left reads as many departures as there are binary digits.
use Rattle.std.proofs.Common.{◌≡◌, ℕ, zero, suc, ◌+◌, ◌*◌, ◌/◌, ◌^◌, ◌<◌, ◌≤◌, List, [], ◌∷◌, ◌++◌, ◌-◌, length, Contains, sym, ap, ◌∙◌, subst, arith}
use Rattle.std.proofs.Math.Nat.{pow-suc}
use Rattle.std.proofs.lemmas.List.Elements.{Contains-append_left, Contains-push}
use Rattle.std.proofs.lemmas.List.{append_assoc, append-nil, length-append}
use Rattle.std.proofs.lemmas.Option.{slice_get_within}
use Rattle.timetable.specs.declared.network.Connection.{Connection}
use Rattle.timetable.specs.TimetableValue.{TimetableValue}
use Rattle.timetable.specs.Legal.{At, IsLegal}
use Rattle.timetable.specs.Journeys.{connection_at}
use Rattle.timetable.proofs.LegalLemmas.{connection_at-is, departures_rise}
use Rattle.image_verifier.specs.FirstAt.{IsFirstAt}
use Rattle.image_verifier.specs.Searches.{HasDigits, FindsByFew}

-- what a search has read that has the indices from low up to before high left: of the digits of the number enough are left for them, and both ends were read
pub record IsHalving (number low high : ℕ) (before now : List ℕ) : Type 0 where
  pub read : List ℕ
  pub noted : now ≡ before ++ read
  pub spare : (digits : ℕ) → HasDigits number digits → (rest : ℕ) × HasDigits (high - low) rest × (length read + rest ≤ digits)
  pub has_high : high < number → Contains read high
  pub has_low : 0 < low → Contains read (low - 1)

-- what is left has a digit more than its half
half_of : (left next rest : ℕ) → 0 < left → next ≤ left / 2 → HasDigits left rest → (fewer : ℕ) × HasDigits next fewer × (fewer + 1 ≤ rest)
half_of left next zero some half has = absurd (omega (arith, some, has))
half_of left next (suc rest) some half has =
    let double : 2 ^ suc rest ≡ 2 ^ rest * 2 = pow-suc 2 rest in
    (rest, omega (arith, double, half, has), omega arith)

-- one more read, and half is left
spare_less : (number low high low2 high2 position : ℕ) (before now : List ℕ) (h : IsHalving number low high before now)
    → low < high → high2 - low2 ≤ (high - low) / 2 → (digits : ℕ) → HasDigits number digits
    → (rest : ℕ) × HasDigits (high2 - low2) rest × (length (h.read ++ position ∷ []) + rest ≤ digits)
spare_less number low high low2 high2 position before now h some half digits has =
    let s = h.spare digits has in
    let fewer = half_of (high - low) (high2 - low2) s.0 (omega (arith, some)) half s.1 in
    let long : length (h.read ++ position ∷ []) ≡ length h.read + 1 = length-append h.read (position ∷ []) in
    (fewer.0, fewer.1, omega (arith, s.2, fewer.2, long))

note_more : (position : ℕ) (before now read : List ℕ) → now ≡ before ++ read → now ++ position ∷ [] ≡ before ++ (read ++ position ∷ [])
note_more position before now read noted = ap (λ (xs : List ℕ). xs ++ position ∷ []) noted ∙ append_assoc before read (position ∷ [])

-- the search goes on above the index that was read
pub goes_on_above : (number low high position : ℕ) (before now : List ℕ) → IsHalving number low high before now
    → low < high → high - (position + 1) ≤ (high - low) / 2 → IsHalving number (position + 1) high before (now ++ position ∷ [])
goes_on_above number low high position before now h some half = record {
  read = h.read ++ position ∷ [];
  noted = note_more position before now h.read h.noted;
  spare = spare_less number low high (position + 1) high position before now h some half;
  has_high = λ lt. Contains-append_left h.read (position ∷ []) high (h.has_high lt);
  has_low = λ lt. let back : position ≡ (position + 1) - 1 = omega arith in subst (λ (x : ℕ). Contains (h.read ++ position ∷ []) x) back
      (Contains-push h.read position);
}

-- .. or below it
pub goes_on_below : (number low high position : ℕ) (before now : List ℕ) → IsHalving number low high before now
    → low < high → position - low ≤ (high - low) / 2 → IsHalving number low position before (now ++ position ∷ [])
goes_on_below number low high position before now h some half = record {
  read = h.read ++ position ∷ [];
  noted = note_more position before now h.read h.noted;
  spare = spare_less number low high low position position before now h some half;
  has_high = λ lt. Contains-push h.read position;
  has_low = λ lt. Contains-append_left h.read (position ∷ []) (low - 1) (h.has_low lt);
}

-- what stands before a connection departs no later, what stands behind it no earlier
pub departs_before : (t : TimetableValue) (middle time k : ℕ) → IsLegal t → middle < length t.connections
    → (connection_at t middle).dep < time → k < middle + 1 → (connection_at t k).dep < time
departs_before t middle time k legal within early below = omega (arith, departures_rise t legal middle k (omega (arith, below)) within, early)

pub departs_after : (t : TimetableValue) (middle time k : ℕ) → IsLegal t → time ≤ (connection_at t middle).dep
    → middle ≤ k → k < length t.connections → time ≤ (connection_at t k).dep
departs_after t middle time k legal late above within = omega (arith, departures_rise t legal k middle above within, late)

-- the least index that departs at a time or later, over the connections themselves
pub before_first : (t : TimetableValue) (time first : ℕ) → IsFirstAt t time first → (k : ℕ) (c : Connection) → k < first → At t.connections k c → c.dep < time
before_first t time first is k c lt at = subst (λ (x : Connection). x.dep < time) (connection_at-is t k c at) (is.before k lt)

pub from_first : (t : TimetableValue) (time first : ℕ) → IsFirstAt t time first → (k : ℕ) (c : Connection) → first ≤ k → At t.connections k c → time ≤ c.dep
from_first t time first is k c le at = subst (λ (x : Connection). time ≤ x.dep) (connection_at-is t k c at)
    (is.after k le (slice_get_within t.connections k c at))
