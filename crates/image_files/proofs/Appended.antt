-- What is appended to the bytes that a writer holds, if these are known.
use Rattle.std.proofs.Common.{◌≡◌, ◌≤◌, ◌+◌, ◌-◌, ◌++◌, ◌∙◌, [], ℕ, List, Option, Some, None}
use Rattle.std.proofs.Common.{ap, append-nil, append_assoc, arith, drop, length, subst, sym, take}
use Rattle.std.proofs.Math.Seq.{take-append-add}
use Rattle.std.proofs.lemmas.List.{length-drop, length-take-le, take-append-drop, take_all}
use Rattle.std.specs.Io.KnownBytes.{Appends, Keeps}
use Rattle.image_files.specs.Watching.{IsBegun}

pub nothing_appended : (known : Option (List ℕ)) → Appends known known []
nothing_appended None = tt
nothing_appended (Some xs) = sym (append-nil xs)

-- what is appended in turns is appended one after the other
pub appended_in_turns : (u v w : Option (List ℕ)) (a b : List ℕ) → Appends u v a → Appends v w b → Appends u w (a ++ b)
appended_in_turns None v w a b x y = tt
appended_in_turns (Some xs) None w a b x y = absurd x
appended_in_turns (Some xs) (Some ys) None a b x y = y
appended_in_turns (Some xs) (Some ys) (Some zs) a b x y = y ∙ ap (λ (t : List ℕ). t ++ b) x ∙ append_assoc xs a b

pub appended_and_kept : (u v w : Option (List ℕ)) (a : List ℕ) → Appends u v a → Keeps v w → Appends u w a
appended_and_kept None v w a x y = tt
appended_and_kept (Some xs) None w a x y = absurd x
appended_and_kept (Some xs) (Some ys) None a x y = absurd y
appended_and_kept (Some xs) (Some ys) (Some zs) a x y = y ∙ x

take_further : (done n : ℕ) (xs : List ℕ) → done ≤ length xs → take done xs ++ take n (drop done xs) ≡ take (done + n) xs
take_further done n xs least =
    let split : take done xs ++ drop done xs ≡ xs = take-append-drop done xs in
    let long : length (take done xs) ≡ done = length-take-le done xs least in
    sym (ap (λ (m : ℕ). take (m + n) xs) (sym long) ∙ ap (take (length (take done xs) + n)) (sym split)
    ∙ take-append-add (take done xs) (drop done xs) n)

-- the first bytes of a text were appended, and then the first of those that were left
pub appended_further : (u v w : Option (List ℕ)) (xs : List ℕ) (done n : ℕ) → done ≤ length xs → Appends u v (take done xs)
    → Appends v w (take n (take (length xs - done) (drop done xs)))
    → Appends u w (take (done + n) xs)
appended_further u v w xs done n least x y =
    let rest : take (length xs - done) (drop done xs) ≡ drop done xs =
    take_all (length xs - done) (drop done xs) (omega (arith, length-drop done xs)) in
    subst (Appends u w) (take_further done n xs least)
    (appended_in_turns u v w (take done xs) (take n (drop done xs)) x
    (subst (λ (left : List ℕ). Appends v w (take n left)) rest y))

-- a first part of a text: nothing, all of it, or a part after another text
pub begun_by_nothing : (u : Option (List ℕ)) (text : List ℕ) → IsBegun u u text
begun_by_nothing u text = record { count = 0; added = nothing_appended u }

pub begun_by_all : (u v : Option (List ℕ)) (text : List ℕ) → Appends u v text → IsBegun u v text
begun_by_all u v text is = record {
  count = length text;
  added = subst (Appends u v) (sym (take_all (length text) text (omega arith))) is;
}

pub begun_after : (u v w : Option (List ℕ)) (front text : List ℕ) → Appends u v front → IsBegun v w text → IsBegun u w (front ++ text)
begun_after u v w front text first is = record {
  count = length front + is.count;
  added = subst (Appends u w) (sym (take-append-add front text is.count))
      (appended_in_turns u v w front (take is.count text) first is.added);
}
