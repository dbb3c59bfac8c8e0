-- As many sessions are served as clients came.
use Rattle.std.proofs.Common.{◌≡◌, ◌≢◌, ◌+◌, ◌∙◌, ◌⊎◌, ◌++◌, ◌∷◌, ℕ, suc, Bool, true, false, List, [], Result, Ok, Err, IfOk}
use Rattle.std.proofs.Common.{arith, ap, inl, inr, length, refl, sym, true≢false}
use Rattle.std.proofs.lemmas.List.{length-append}
use Rattle.std.proofs.lemmas.List.Sorted.{length_permutation}
use Rattle.std.specs.Prelude.{MatchResult, flat_map}
use Rattle.workers.specs.Ends.{Session}
use Rattle.workers.specs.Sessions.{AreServed, AreServedSince, AreShares, WorkerStart, ShareValue, WorkerState, WorkValue, worker_state}
use Rattle.workers.specs.Words.{SessionWords}
use Rattle.csa_program.specs.Acceptor.{AreAsMany, AreCountedOff}

module _ {C R W T S N : Type 0} (words : SessionWords C R W T S N) where
  -- one session for each client of a hand
  hand_many : (clients : List C) (sessions : List (Session R W S)) (a b : WorkerState S) → AreServed words clients sessions a b
      → length sessions ≡ length clients
  hand_many [] [] a b served = refl
  hand_many [] (session ∷ sessions) a b served = absurd served
  hand_many (client ∷ clients) [] a b served = absurd served
  hand_many (client ∷ clients) (session ∷ sessions) a b served = ap suc (hand_many clients sessions served.0 b served.2)

  -- and of all hands
  hands_many : (starts : List (WorkerStart S N)) (hands : List (List C)) (shares : List (ShareValue R W S N)) → AreShares words starts hands shares
      → length (flat_map (λ share. share.sessions) shares) ≡ length (flat_map (λ hand. hand) hands)
  hands_many [] [] [] none = refl
  hands_many [] [] (share ∷ shares) none = absurd none
  hands_many [] (hand ∷ hands) shares none = absurd none
  hands_many (start ∷ starts) [] shares none = absurd none
  hands_many (start ∷ starts) (hand ∷ hands) [] none = absurd none
  hands_many (start ∷ starts) (hand ∷ hands) (share ∷ shares) each =
      let one = hand_many hand share.sessions (worker_state start.seat []) (worker_state share.seat share.orders.asked) each.0.served in
      let rest = hands_many starts hands shares each.1 in
      let many = length-append share.sessions (flat_map (λ (s : ShareValue R W S N). s.sessions) shares) in
      let all = length-append hand (flat_map (λ (h : List C). h) hands) in
      omega (arith, one, rest, many, all)

  -- so of all who came since nobody had
  pub sessions_many : (before after : List C) (starts : List (WorkerStart S N)) (work : WorkValue R W S N)
      → AreServedSince words before after starts work → before ≡ [] → length work.sessions ≡ length after
  sessions_many before after starts work served none =
      let came : after ≡ served.clients = served.came ∙ ap (λ first. first ++ served.clients) none in
      let work_is = served.all in
      let many = hands_many starts work_is.hands work_is.shares work_is.each in
      let dealt = length_permutation served.clients (flat_map (λ (h : List C). h) work_is.hands) work_is.dealt in
      let sessions = ap length work_is.sessions_are in
      let all = ap length came in
      omega (arith, many, dealt, sessions, all)

-- what follows from what a call that went well is known to give
pub ok_then : {A E : Type 0} (result : Result A E) (P Q : A → Type 0) → ((a : A) → P a → Q a) → IfOk result P → IfOk result Q
ok_then (Ok a) P Q then is = then a is
ok_then (Err e) P Q then is = tt

pub ok_then_all : {A E : Type 0} (result : Result A E) (P Q R S : A → Type 0) (F : E → Type 0) → ((a : A) → P a → Q a → R a → S a)
    → MatchResult result P F → IfOk result Q → IfOk result R → IfOk result S
ok_then_all (Ok a) P Q R S F then p q r = then a p q r
ok_then_all (Err e) P Q R S F then p q r = tt

left_none : (failed is_endless : Bool) (left : ℕ) → failed ≡ false → (failed ≡ true) ⊎ ((is_endless ≡ false) × (left ≡ 0))
    → (is_endless ≡ false) × (left ≡ 0)
left_none failed is_endless left whole (inl fails) = absurd (true≢false (sym fails ∙ whole))
left_none failed is_endless left whole (inr none) = none

bounded_is : (is_endless : Bool) (wanted : ℕ) → (is_endless ≡ true → wanted ≡ 0) → wanted ≢ 0 → is_endless ≡ false
bounded_is true wanted endless some = absurd (some (endless refl))
bounded_is false wanted endless some = refl

-- once nobody is left, as many sessions are served as are wanted, unless accepting failed
pub as_many : (wanted left accepted : ℕ) (is_endless failed : Bool) (numbers : List ℕ) (many : ℕ)
    → AreCountedOff wanted left accepted is_endless failed numbers → (failed ≡ true) ⊎ ((is_endless ≡ false) × (left ≡ 0))
    → many ≡ length numbers → AreAsMany wanted many failed
as_many wanted left accepted is_endless failed numbers many counted none many_are = record {
  most = λ some. let most = counted.most (bounded_is is_endless wanted counted.endless some) in omega (arith, most, many_are);
  all = λ whole.
      let last = left_none failed is_endless left whole none in
      let all = counted.all last.0 whole in
      let gone = last.1 in
      (counted.bounded last.0, omega (arith, all, gone, many_are));
}
