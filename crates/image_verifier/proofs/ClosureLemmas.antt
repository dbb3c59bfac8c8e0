-- The footpath from a stop into a stop, by its index; and searches over stops for a first fault as searches over indices.
use Rattle.std.proofs.Common.{◌≡◌, ◌≢◌, ℕ, zero, suc, ◌+◌, ◌-◌, ◌<◌, ◌≤◌, eqb, cond, List, length, get_or, Option, Some}
use Rattle.std.proofs.Common.{None, refl, sym, ap, subst, ◌∙◌, arith, inl, inr}
use Rattle.std.proofs.lemmas.Bool.{cases_Bool, cases_order, cases_lt, cases_eq, eqb-true, eqb-false, eq-eqb, ne_eqb, le-ltb, lt-ltb}
use Rattle.std.proofs.lemmas.Option.{same_Some}
use Rattle.std.proofs.Math.ListN.{set}
use Rattle.std.specs.Prelude.{replicate}
use Rattle.std.proofs.lemmas.List.{ext_get_or, get_or-set_same, get_or-set_other, get_or-replicate, length-set, length-replicate}
use Rattle.reasoning.proofs.OptionLemmas.{option_cases, some-none}
use Rattle.image_layout.specs.Offsets.{header_of}
use Rattle.image_layout.specs.Fields.{foot_index_of, foot_from_of, foot_secs_of}
use Rattle.image_verifier.specs.declared.closure.TheConstants.{NEVER}
use Rattle.image_verifier.specs.declared.fault.ImageFault.{ImageFault}
use Rattle.image_verifier.specs.declared.fault.ImageFault.TheVariants.{NotClosed}
use Rattle.timetable.specs.First.{first_below, first_between, any_between}
use Rattle.image_verifier.specs.FootFaults.{HasFootRange, HasFootRanges, IsInto}
use Rattle.image_verifier.specs.ClosureFaults.{secs_from, secs_between, is_open, open_fault, way_fault, into_fault, or_never, HasSecs}
use Rattle.timetable.proofs.FirstLemmas.{or_else-none, or_else-some, first_between-found, first_between-none}
use Rattle.timetable.proofs.FirstLemmas.{first_between-all, first_between-empty, first_between-more, first_below-found}
use Rattle.timetable.proofs.FirstLemmas.{first_below-all, any_between-some, any_between-none}

-- at i, below n, f gives x, and it gives nothing before
pub record IsFirstBelow {X : Type 0} (f : ℕ → Option X) (n i : ℕ) (x : X) : Type 0 where
  pub below : i < n
  pub none_before : first_below f i ≡ None
  pub here : f i ≡ Some x

first_below-some : {X : Type 0} (f : ℕ → Option X) (n : ℕ) (x : X) → first_below f n ≡ Some x → (i : ℕ) × IsFirstBelow f n i x
unfolding first_below
first_below-some f zero x e = absurd cc
first_below-some f (suc n) x e =
    elim (option_cases (first_below f n)) [
      | inl none ↦ (n, record { below = omega arith; none_before = none; here = sym (or_else-none (first_below f n) (f n) none) ∙ e })
      | inr some ↦
          let same : some.0 ≡ x = same_Some some.0 x (sym (or_else-some (first_below f n) (f n) some.0 some.1) ∙ e) in
          let h = first_below-some f n some.0 some.1 in
          (h.0, record { below = omega (arith, h.1.below); none_before = h.1.none_before; here = h.1.here ∙ ap Some same })
    ]

-- at i, from a up to before b, f gives x, and it gives nothing before
pub record IsFirstBetween {X : Type 0} (f : ℕ → Option X) (a b i : ℕ) (x : X) : Type 0 where
  pub low : a ≤ i
  pub high : i < b
  pub none_before : first_between f a i ≡ None
  pub here : f i ≡ Some x

pub first_between-some : {X : Type 0} (f : ℕ → Option X) (a b : ℕ) (x : X) → first_between f a b ≡ Some x → (i : ℕ) × IsFirstBetween f a b i x
unfolding first_between
first_between-some f a b x e =
    let h = first_below-some (λ k. f (a + k)) (b - a) x e in
    let at : (a + h.0) - a ≡ h.0 = omega arith in
    (a + h.0, record { low = omega arith; high = omega (arith, h.1.below); none_before = rw at h.1.none_before; here = h.1.here })

-- numbers that rise with their index, from index low up to before index high, and stay below n
pub record IsRising (at : ℕ → ℕ) (low high n : ℕ) : Type 0 where
  pub rises : (j k : ℕ) → low ≤ j → j < k → k < high → at j < at k
  pub below : (k : ℕ) → low ≤ k → k < high → at k < n

-- f by indices gives what g gives by numbers, and g gives nothing at other numbers
pub record IsByIndex {X : Type 0} (at : ℕ → ℕ) (f g : ℕ → Option X) (low high n : ℕ) : Type 0 where
  pub same : (k : ℕ) → low ≤ k → k < high → f k ≡ g (at k)
  pub none_else : (a : ℕ) → a < n → ((k : ℕ) → low ≤ k → k < high → at k ≢ a) → g a ≡ None

-- where f gives nothing from low up to before i, g gives nothing at a number that has no place from i on
none_by_number : {X : Type 0} (at : ℕ → ℕ) (f g : ℕ → Option X) (low high n i a : ℕ) → IsByIndex at f g low high n
    → a < n → i ≤ high → first_between f low i ≡ None → ((k : ℕ) → i ≤ k → k < high → at k ≢ a) → g a ≡ None
none_by_number at f g low high n i a by lt le none later =
    elim (cases_Bool (any_between (λ k. eqb (at k) a) low high)) [
      | inl an_index ↦
          let position = any_between-some (λ k. eqb (at k) a) low high an_index in
          let here : at position.0 ≡ a = eqb-true _ _ position.3 in
          let early : position.0 < i = early_index position.0 position.2 here in
          ap g (sym here) ∙ sym (by.same position.0 position.1 position.2) ∙ first_between-none f low i position.0 position.1 early none
      | inr no_index ↦ by.none_else a lt (λ k kl kh. eqb-false _ _ (any_between-none (λ j. eqb (at j) a) low high k kl kh no_index))
    ]
  where
    early_index : (k : ℕ) → k < high → at k ≡ a → k < i
    early_index k kh here =
        elim (cases_order k i) [
          | inl same ↦ absurd (later k (omega (arith, same)) kh here)
          | inr (inl below) ↦ below
          | inr (inr above) ↦ absurd (later k (omega (arith, above)) kh here)
        ]

-- to search by rising numbers, index by index, is to search by all numbers
pub first_by_index : {X : Type 0} (at : ℕ → ℕ) (f g : ℕ → Option X) (low high n : ℕ) → IsRising at low high n
    → IsByIndex at f g low high n → first_below g n ≡ first_between f low high
first_by_index at f g low high n rising by =
    elim (option_cases (first_between f low high)) [
      | inl none ↦ first_below-all g n (λ a lt. none_by_number at f g low high n high a by lt (omega arith) none (λ k hl hh. absurd (omega arith))) ∙ sym none
      | inr some ↦
          let h = first_between-some f low high some.0 some.1 in
          let i = h.0 in
          let lt : at i < n = rising.below i h.1.low h.1.high in
          let before : first_below g (at i) ≡ None =
          first_below-all g (at i) (λ a below. none_by_number at f g low high n i a by (omega (
            arith,
            lt,
            below,
          )) (omega (arith, h.1.high)) h.1.none_before (λ k kl kh same.
          (elim (cases_order k i) [
            | inl here ↦ omega (arith, ap at here, below, same)
            | inr (inl early) ↦ omega (arith, early, kl)
            | inr (inr late) ↦ omega (arith, rising.rises i k h.1.low late kh, below, same)
          ]))) in
          first_below-found g n (at i) some.0 lt before (sym (by.same i h.1.low h.1.high) ∙ h.1.here) ∙ sym some.1
    ]

-- the stops left rise along the footpaths into a stop
pub rising_far : (w : List ℕ) (c : ℕ) → HasFootRange w c → (d j : ℕ) → foot_index_of w c ≤ j
    → j + suc d < foot_index_of w (c + 1) → foot_from_of w j < foot_from_of w (j + suc d)
rising_far w c range zero j low high =
    let e : j + 1 ≡ j + suc zero = omega arith in
    subst (λ (k : ℕ). foot_from_of w j < foot_from_of w k) e (range.rising j low (omega arith))
rising_far w c range (suc d) j low high =
    let e : (j + suc d) + 1 ≡ j + suc (suc d) = omega arith in
    let before = rising_far w c range d j low (omega arith) in
    let step = range.rising (j + suc d) (omega arith) (omega arith) in
    subst (λ (k : ℕ). foot_from_of w j < foot_from_of w k) e (omega (arith, before, step))

pub rises_later : (w : List ℕ) (c j k : ℕ) → HasFootRange w c → foot_index_of w c ≤ j → j < k
    → k < foot_index_of w (c + 1) → foot_from_of w j < foot_from_of w k
rises_later w c j k range low lt high =
    let e : j + suc (k - (j + 1)) ≡ k = omega arith in
    subst (λ (x : ℕ). foot_from_of w j < foot_from_of w x) e (rising_far w c range (k - (j + 1)) j low (omega arith))

pub IsRising-from : (w : List ℕ) (c : ℕ) → HasFootRange w c → IsRising (foot_from_of w) (foot_index_of w c) (foot_index_of w (c + 1)) (header_of w).stops
IsRising-from w c range = record { rises = λ j k. rises_later w c j k range; below = range.from }

secs_here : (w : List ℕ) (a k : ℕ) → foot_from_of w k ≡ a → cond (eqb (foot_from_of w k) a) (Some (foot_secs_of w k)) None ≡ Some (foot_secs_of w k)
secs_here w a k e = rw (eq-eqb _ _ e) refl

secs_elsewhere : (w : List ℕ) (a k : ℕ) → foot_from_of w k ≢ a → cond (eqb (foot_from_of w k) a) (Some (foot_secs_of w k)) None ≡ None
secs_elsewhere w a k ne = rw (ne_eqb _ _ ne) refl

-- the footpath at index k into stop c is the one from the stop that it leaves
pub secs_between-at : (w : List ℕ) (a c k : ℕ) → HasFootRange w c → foot_index_of w c ≤ k → k < foot_index_of w (c + 1)
    → foot_from_of w k ≡ a → secs_between w a c ≡ Some (foot_secs_of w k)
unfolding secs_between
secs_between-at w a c k range low high here =
    first_between-found _ (foot_index_of w c) (foot_index_of w (c + 1)) k (foot_secs_of w k) low high
    (first_between-all _ (foot_index_of w c) k (λ j jl jh. secs_elsewhere w a j (λ e. omega (arith, rises_later w c j k range jl jh high, e, here))))
    (secs_here w a k here)

-- where none leaves a stop, there is no footpath from it
pub secs_between-none : (w : List ℕ) (a c : ℕ)
    → ((k : ℕ) → foot_index_of w c ≤ k → k < foot_index_of w (c + 1) → foot_from_of w k ≢ a) → secs_between w a c ≡ None
unfolding secs_between
secs_between-none w a c none = first_between-all _ (foot_index_of w c) (foot_index_of w (c + 1)) (λ k low high. secs_elsewhere w a k (none k low high))

-- an index of the footpath from stop a into stop c
pub record IsIndexOf (w : List ℕ) (a c time k : ℕ) : Type 0 where
  pub low : foot_index_of w c ≤ k
  pub high : k < foot_index_of w (c + 1)
  pub from : foot_from_of w k ≡ a
  pub secs : foot_secs_of w k ≡ time

pub secs_between-some : (w : List ℕ) (a c secs : ℕ) → secs_between w a c ≡ Some secs → (k : ℕ) × IsIndexOf w a c secs k
unfolding secs_between
secs_between-some w a c secs e =
    let h = first_between-some (λ k. cond (eqb (foot_from_of w k) a) (Some (foot_secs_of w k)) None) (foot_index_of w c) (foot_index_of w (c + 1)) secs e in
    elim (cases_Bool (eqb (foot_from_of w h.0) a)) [
      | inl same ↦
          let from : foot_from_of w h.0 ≡ a = eqb-true _ _ same in
          (h.0, record { low = h.1.low; high = h.1.high; from = from; secs = same_Some _ _ (sym (secs_here w a h.0 from) ∙ h.1.here) })
      | inr other ↦ absurd (some-none secs (sym h.1.here ∙ secs_elsewhere w a h.0 (eqb-false _ _ other)))
    ]

-- the fault of three stops, by the seconds between them
pub open_fault-by : (w : List ℕ) (a b c : ℕ) (first second direct : Option ℕ) → secs_between w a b ≡ first
    → secs_between w b c ≡ second → secs_between w a c ≡ direct
    → open_fault w a b c ≡ cond (is_open first second direct) (Some (NotClosed a b c)) None
unfolding open_fault
open_fault-by w a b c first second direct e1 e2 e3 =
    ap (λ (o : Option ℕ). cond (is_open o (secs_between w b c) (secs_between w a c)) (Some (NotClosed a b c)) None) e1
    ∙ ap (λ (o : Option ℕ). cond (is_open first o (secs_between w a c)) (Some (NotClosed a b c)) None) e2
    ∙ ap (λ (o : Option ℕ). cond (is_open first second o) (Some (NotClosed a b c)) None) e3

-- a first and a second footpath with a direct one that is as short
pub open_fault-closed : (w : List ℕ) (a b c first second direct : ℕ) → secs_between w a b ≡ Some first
    → secs_between w b c ≡ Some second → secs_between w a c ≡ Some direct → direct ≤ first + second
    → open_fault w a b c ≡ None
open_fault-closed w a b c first second direct e1 e2 e3 le = open_fault-by w a b c (Some first) (Some second) (Some direct) e1 e2 e3 ∙ rw (le-ltb _ _ le) refl

-- .. with a direct one that is longer
pub open_fault-longer : (w : List ℕ) (a b c first second direct : ℕ) → secs_between w a b ≡ Some first
    → secs_between w b c ≡ Some second → secs_between w a c ≡ Some direct → first + second < direct
    → open_fault w a b c ≡ Some (NotClosed a b c)
open_fault-longer w a b c first second direct e1 e2 e3 lt = open_fault-by w a b c (Some first) (Some second) (Some direct) e1 e2 e3 ∙ rw (lt-ltb _ _ lt) refl

-- .. with no direct one
pub open_fault-missing : (w : List ℕ) (a b c first second : ℕ) → secs_between w a b ≡ Some first
    → secs_between w b c ≡ Some second → secs_between w a c ≡ None → open_fault w a b c ≡ Some (NotClosed a b c)
open_fault-missing w a b c first second e1 e2 e3 = open_fault-by w a b c (Some first) (Some second) None e1 e2 e3

pub open_fault-no_first : (w : List ℕ) (a b c : ℕ) → secs_between w a b ≡ None → open_fault w a b c ≡ None
open_fault-no_first w a b c e1 = open_fault-by w a b c None (secs_between w b c) (secs_between w a c) e1 refl refl

pub open_fault-no_second : (w : List ℕ) (a b c : ℕ) → secs_between w b c ≡ None → open_fault w a b c ≡ None
open_fault-no_second w a b c e2 = open_fault-by w a b c (secs_between w a b) None (secs_between w a c) refl e2 refl ∙ never (secs_between w a b)
  where
    never : (o : Option ℕ) → cond (is_open o None (secs_between w a c)) (Some (NotClosed a b c)) None ≡ None
    never None = refl
    never (Some x) = refl

-- without fault there is a direct one that is as short
pub open_fault-none : (w : List ℕ) (a b c first second : ℕ) → secs_between w a b ≡ Some first
    → secs_between w b c ≡ Some second → open_fault w a b c ≡ None
    → (direct : ℕ) × (secs_between w a c ≡ Some direct) × (direct ≤ first + second)
open_fault-none w a b c first second e1 e2 none =
    elim (option_cases (secs_between w a c)) [
      | inl e3 ↦ absurd (some-none (NotClosed a b c) (sym (open_fault-missing w a b c first second e1 e2 e3) ∙ none))
      | inr some ↦ (
        some.0,
        some.1,
        elim (cases_lt (first + second) some.0) [
          | inl lt ↦ absurd (some-none (NotClosed a b c) (sym (open_fault-longer w a b c first second some.0 e1 e2 some.1 lt) ∙ none))
          | inr le ↦ le
        ],
      )
    ]

first_secs : (w : List ℕ) (first second : ℕ) → HasFootRanges w → IsInto w (foot_from_of w second) first
    → secs_between w (foot_from_of w first) (foot_from_of w second) ≡ Some (foot_secs_of w first)
first_secs w first second ranges into = secs_between-at w (foot_from_of w first) (foot_from_of w second) first
    (ranges (foot_from_of w second) into.stop) into.start into.end refl

second_secs : (w : List ℕ) (second c : ℕ) → HasFootRanges w → IsInto w c second → secs_between w (foot_from_of w second) c ≡ Some (foot_secs_of w second)
second_secs w second c ranges into = secs_between-at w (foot_from_of w second) c second (ranges c into.stop) into.start into.end refl

-- two footpaths end to end are no longer than what stands in the table where the first begins, or they are
pub pair_closed : (w : List ℕ) (first second c direct : ℕ) → HasFootRanges w → IsInto w (foot_from_of w second) first → IsInto w c second
    → direct ≡ or_never (secs_between w (foot_from_of w first) c) → direct ≤ foot_secs_of w first + foot_secs_of w second
    → open_fault w (foot_from_of w first) (foot_from_of w second) c ≡ None
pair_closed w first second c direct ranges into_first into_second entry le =
    let a = foot_from_of w first in
    let b = foot_from_of w second in
    let s1 = first_secs w first second ranges into_first in
    let s2 = second_secs w second c ranges into_second in
    let few1 = (ranges b into_first.stop).secs first into_first.start into_first.end in
    let few2 = (ranges c into_second.stop).secs second into_second.start into_second.end in
    elim (option_cases (secs_between w a c)) [
      | inl none ↦ absurd (omega (arith, entry ∙ ap or_never none, le, few1, few2))
      | inr some ↦ open_fault-closed w a b c (foot_secs_of w first) (foot_secs_of w second) some.0 s1 s2 some.1 (omega (arith, entry ∙ ap or_never some.1, le))
    ]

pub pair_open : (w : List ℕ) (first second c direct : ℕ) → HasFootRanges w → IsInto w (foot_from_of w second) first → IsInto w c second
    → direct ≡ or_never (secs_between w (foot_from_of w first) c) → foot_secs_of w first + foot_secs_of w second < direct
    → open_fault w (foot_from_of w first) (foot_from_of w second) c ≡ Some (NotClosed (foot_from_of w first) (foot_from_of w second) c)
pair_open w first second c direct ranges into_first into_second entry lt =
    let a = foot_from_of w first in
    let b = foot_from_of w second in
    let s1 = first_secs w first second ranges into_first in
    let s2 = second_secs w second c ranges into_second in
    elim (option_cases (secs_between w a c)) [
      | inl none ↦ open_fault-missing w a b c (foot_secs_of w first) (foot_secs_of w second) s1 s2 none
      | inr some ↦ open_fault-longer w a b c (foot_secs_of w first) (foot_secs_of w second) some.0 s1 s2 some.1 (omega (arith, entry ∙ ap or_never some.1, lt))
    ]

-- what is found from a up to before b is found without the index at either end where nothing is
without_last : {X : Type 0} (f : ℕ → Option X) (a k : ℕ) → a ≤ k → f k ≡ None → first_between f a (k + 1) ≡ first_between f a k
without_last f a k le none =
    elim (option_cases (first_between f a k)) [
      | inl nothing ↦ first_between-more f a k le nothing none ∙ sym nothing
      | inr some ↦
          let h = first_between-some f a k some.0 some.1 in
          first_between-found f a (k + 1) h.0 some.0 h.1.low (omega (arith, h.1.high)) h.1.none_before h.1.here ∙ sym some.1
    ]

without_first : {X : Type 0} (f : ℕ → Option X) (k b : ℕ) → k < b → f k ≡ None → first_between f (k + 1) b ≡ first_between f k b
without_first f k b lt none =
    elim (option_cases (first_between f (k + 1) b)) [
      | inl nothing ↦ nothing ∙ sym (first_between-all f k b (λ i low high. here_or_later i b low high nothing))
      | inr some ↦
          let h = first_between-some f (k + 1) b some.0 some.1 in
          some.1 ∙ sym (first_between-found f k b h.0 some.0 (omega (arith, h.1.low)) h.1.high
          (first_between-all f k h.0 (λ i low high. here_or_later i h.0 low high h.1.none_before)) h.1.here)
    ]
  where
    here_or_later : (i end : ℕ) → k ≤ i → i < end → first_between f (k + 1) end ≡ None → f i ≡ None
    here_or_later i end low high nothing =
        elim (cases_order i k) [
          | inl same ↦ ap f same ∙ none
          | inr (inl below) ↦ absurd (omega (arith, below, low))
          | inr (inr above) ↦ first_between-none f (k + 1) end i (omega (arith, above)) high nothing
        ]

-- a table without entries has those of no index
pub HasSecs-none : (w : List ℕ) (k : ℕ) (secs : List ℕ) → secs ≡ replicate (header_of w).stops NEVER → HasSecs w k k secs
HasSecs-none w k secs e = record {
  size = ap length e ∙ length-replicate (header_of w).stops NEVER;
  entry = λ a lt.
      ap (λ (xs : List ℕ). get_or xs a 0) e ∙ get_or-replicate (header_of w).stops a NEVER 0 lt
      ∙ sym (ap or_never (first_between-empty (secs_from w a) k k (omega arith)));
}

pub no_entries : (w : List ℕ) (low k : ℕ) (secs : List ℕ) → k ≤ low → HasSecs w low k secs → secs ≡ replicate (header_of w).stops NEVER
no_entries w low k secs le table =
    let stops = (header_of w).stops in
    ext_get_or 0 secs (replicate stops NEVER) (table.size ∙ sym (length-replicate stops NEVER)) (λ a lt.
    let within : a < stops = omega (arith, lt, table.size) in
    table.entry a within ∙ ap or_never (first_between-empty (secs_from w a) low k le) ∙ sym (get_or-replicate stops a NEVER 0 within))

-- a table where the entry of one stop is written anew: it has those of other indices, where these change nothing for other stops
HasSecs-put : (w : List ℕ) (low end now_low now_end b secs_now : ℕ) (secs : List ℕ) → b < (header_of w).stops → HasSecs w low end secs
    → secs_now ≡ or_never (first_between (secs_from w b) now_low now_end)
    → ((a : ℕ) → b ≢ a → first_between (secs_from w a) now_low now_end ≡ first_between (secs_from w a) low end)
    → HasSecs w now_low now_end (set secs b secs_now)
HasSecs-put w low end now_low now_end b secs_now secs within table here others =
    let inside : b < length secs = omega (arith, within, table.size) in
    record {
      size = length-set secs b secs_now ∙ table.size;
      entry = λ a lt. elim (cases_eq b a) [
        | inl same ↦
            ap (λ (x : ℕ). get_or (set secs b secs_now) x 0) (sym same) ∙ get_or-set_same secs b secs_now 0 inside
            ∙ here ∙ ap (λ (x : ℕ). or_never (first_between (secs_from w x) now_low now_end)) same
        | inr other ↦ get_or-set_other secs b a secs_now 0 (λ e. other (sym e)) ∙ table.entry a lt ∙ ap or_never (sym (others a other))
      ];
    }

-- one index more
pub HasSecs-more : (w : List ℕ) (c k : ℕ) (secs : List ℕ) → HasFootRange w c → foot_index_of w c ≤ k → k < foot_index_of w (c + 1)
    → HasSecs w (foot_index_of w c) k secs → HasSecs w (foot_index_of w c) (k + 1) (set secs (foot_from_of w k) (foot_secs_of w k))
HasSecs-more w c k secs range low high table =
    let start = foot_index_of w c in
    let b = foot_from_of w k in
    let none_before : first_between (secs_from w b) start k ≡ None =
    first_between-all (secs_from w b) start k (λ j jl jh. secs_elsewhere w b j (λ e. omega (arith, rises_later w c j k range jl jh high, e))) in
    let found : first_between (secs_from w b) start (k + 1) ≡ Some (foot_secs_of w k) =
    first_between-found (secs_from w b) start (k + 1) k (foot_secs_of w k) low (omega arith) none_before (secs_here w b k refl) in
    HasSecs-put w start k start (k + 1) b (foot_secs_of w k) secs (range.from k low high) table (sym (ap or_never found))
    (λ a other. without_last (secs_from w a) start k low (secs_elsewhere w a k other))

-- one index less
pub HasSecs-less : (w : List ℕ) (c k : ℕ) (secs : List ℕ) → HasFootRange w c → foot_index_of w c ≤ k → k < foot_index_of w (c + 1)
    → HasSecs w k (foot_index_of w (c + 1)) secs → HasSecs w (k + 1) (foot_index_of w (c + 1)) (set secs (foot_from_of w k) NEVER)
HasSecs-less w c k secs range low high table =
    let end = foot_index_of w (c + 1) in
    let b = foot_from_of w k in
    let none : first_between (secs_from w b) (k + 1) end ≡ None =
    first_between-all (secs_from w b) (k + 1) end
    (λ j jl jh. secs_elsewhere w b j (λ e. omega (arith, rises_later w c k j range low (omega (arith, jl)) jh, e)))
    in
    HasSecs-put w k end (k + 1) end b NEVER secs (range.from k low high) table (sym (ap or_never none))
    (λ a other. without_first (secs_from w a) k end high (secs_elsewhere w a k other))

-- the fault by way of stop b to stop c from where the footpath at index i begins
abbrev pub open_at : List ℕ → ℕ → ℕ → ℕ → Option ImageFault
open_at w b c i = open_fault w (foot_from_of w i) b c

-- the first fault to stop c by way of where the footpath at index j begins
abbrev pub way_at : List ℕ → ℕ → ℕ → Option ImageFault
way_at w c j = way_fault w (foot_from_of w j) c

-- a fault by way of stop b begins where a footpath into b begins
pub way_by_index : (w : List ℕ) (b c : ℕ) → HasFootRange w b → way_fault w b c ≡ first_between (open_at w b c) (foot_index_of w b) (foot_index_of w (b + 1))
unfolding way_fault
way_by_index w b c range =
    first_by_index (foot_from_of w) (open_at w b c) (λ a. open_fault w a b c) (foot_index_of w b)
    (foot_index_of w (b + 1)) (header_of w).stops (IsRising-from w b range)
    (record { same = λ k low high. refl; none_else = λ a lt none. open_fault-no_first w a b c (secs_between-none w a b none) })

no_way : (w : List ℕ) (b c : ℕ) → secs_between w b c ≡ None → way_fault w b c ≡ None
unfolding way_fault
no_way w b c none = first_below-all (λ a. open_fault w a b c) (header_of w).stops (λ a lt. open_fault-no_second w a b c none)

-- a fault to stop c goes by way of where a footpath into c begins
pub into_by_index : (w : List ℕ) (c : ℕ) → HasFootRange w c → into_fault w c ≡ first_between (way_at w c) (foot_index_of w c) (foot_index_of w (c + 1))
unfolding into_fault
into_by_index w c range =
    first_by_index (foot_from_of w) (way_at w c) (λ b. way_fault w b c) (foot_index_of w c) (foot_index_of w (c + 1))
    (header_of w).stops (IsRising-from w c range)
    (record { same = λ k low high. refl; none_else = λ b lt none. no_way w b c (secs_between-none w b c none) })

-- a search that found nothing up to its end
pub none_to_end : {X : Type 0} (f : ℕ → Option X) (a b i : ℕ) → b ≤ i → first_between f a i ≡ None → first_between f a b ≡ None
none_to_end f a b i le none = first_between-all f a b (λ k low high. first_between-none f a i k low (omega arith) none)
