-- Nodes keep what they spell when further ones are added.
use Rattle.std.proofs.Common.{◌≡◌, ◌⊎◌, ℕ, zero, suc, ◌+◌, ◌<◌, ◌≤◌, take, drop, slice_get, List, [], ◌∷◌, ◌++◌, length}
use Rattle.std.proofs.Common.{Some, None, refl, sym, ◌∙◌, ap, inl, inr, arith, append_assoc, length-append}
use Rattle.std.proofs.lemmas.Bool.{cases_lt}
use Rattle.std.proofs.lemmas.List.{get_or_append_left, get_or_past, length-take-le}
use Rattle.std.proofs.lemmas.Option.{slice_get_within, same_Some}
use Rattle.std.proofs.Math.Seq.{get_or-append_seam}
use Rattle.scan_state.specs.Continuations.{Onward, Aboard}
use Rattle.scan_state.specs.Matching.{Spelling, Keeps, from_to}
use Rattle.profile_scan.specs.Nodes.{Spelled, nothing, at_number, spells}
use Rattle.scan_state.specs.ScanRecords.{changed_at, boarded_after, set_out_by}
use Rattle.profile_scan.specs.Nodes.{spelled_on, spelled, spelling, Extends, IsSpelled}
use Rattle.profile_scan.specs.declared.nodes.Node.{Node}
use Rattle.profile_scan.specs.declared.nodes.Node.TheVariants.{Ends, Changes, Boards, SetsOut}

spelled_on-append : (done : List Spelled) (a b : List Node) → spelled_on done (a ++ b) ≡ spelled_on (spelled_on done a) b
unfolding spelled_on
spelled_on-append done [] b = refl
spelled_on-append done (node ∷ a) b = spelled_on-append (done ++ spells (at_number done) node ∷ []) a b

spelled_on-long : (done : List Spelled) (nodes : List Node) → length (spelled_on done nodes) ≡ length done + length nodes
unfolding spelled_on
spelled_on-long done [] = omega arith
spelled_on-long done (node ∷ nodes) =
    let rest = spelled_on-long (done ++ spells (at_number done) node ∷ []) nodes in
    let more = length-append done (spells (at_number done) node ∷ []) in
    omega (arith, rest, more)

spelled_on-stays : (done : List Spelled) (nodes : List Node) (k : ℕ) → k < length done → at_number (spelled_on done nodes) k ≡ at_number done k
unfolding spelled_on
spelled_on-stays done [] k lt = refl
spelled_on-stays done (node ∷ nodes) k lt =
    let more = length-append done (spells (at_number done) node ∷ []) in
    spelled_on-stays (done ++ spells (at_number done) node ∷ []) nodes k (omega (arith, more))
    ∙ get_or_append_left done (spells (at_number done) node ∷ []) nothing k lt

one_more : (done : List Spelled) (node : Node) → spelled_on done (node ∷ []) ≡ done ++ spells (at_number done) node ∷ []
unfolding spelled_on
one_more done node = refl

-- what the nodes of a beginning spell, all spell alike; past its end it spells nothing
pub spelled_alike : (nodes all : List Node) → Extends nodes all → (k : ℕ) → k < length nodes → spelled all k ≡ spelled nodes k
spelled_alike nodes all ext k lt =
    let done = spelled_on [] nodes in
    let long : length done ≡ length nodes = spelled_on-long [] nodes ∙ (omega arith) in
    let whole : spelled_on [] all ≡ spelled_on done ext.0 = ap (spelled_on []) ext.1 ∙ spelled_on-append [] nodes ext.0 in
    ap (λ xs. at_number xs k) whole ∙ spelled_on-stays done ext.0 k (omega arith)

pub spelled_past : (nodes : List Node) (k : ℕ) → length nodes ≤ k → spelled nodes k ≡ nothing
spelled_past nodes k ge =
    let done = spelled_on [] nodes in
    let long : length done ≡ length nodes = spelled_on-long [] nodes ∙ (omega arith) in
    get_or_past done k nothing (omega arith)

number_spells : (nodes all : List Node) → Extends nodes all → (k : ℕ) → (spelled nodes k ≡ nothing) ⊎ (spelled all k ≡ spelled nodes k)
number_spells nodes all ext k = elim (cases_lt k (length nodes)) [
  | inl lt ↦ inr (spelled_alike nodes all ext k lt)
  | inr ge ↦ inl (spelled_past nodes k ge)
]

-- so what is spelled stays spelled while further nodes come
pub extends_keeps : (nodes all : List Node) → Extends nodes all → Keeps (spelling nodes) (spelling all)
extends_keeps nodes all ext = record {
  onward = λ k x e. elim (number_spells nodes all ext k) [
    | inl none ↦ (let silent : (spelled nodes k).onward ≡ None = ap (λ (z : Spelled). z.onward) none in absurd cc)
    | inr same ↦ ap (λ (z : Spelled). z.onward) same ∙ e
  ];
  aboard = λ k x e. elim (number_spells nodes all ext k) [
    | inl none ↦ (let silent : (spelled nodes k).aboard ≡ None = ap (λ (z : Spelled). z.aboard) none in absurd cc)
    | inr same ↦ ap (λ (z : Spelled). z.aboard) same ∙ e
  ];
  journey = λ k x e. elim (number_spells nodes all ext k) [
    | inl none ↦ (let silent : (spelled nodes k).journey ≡ None = ap (λ (z : Spelled). z.journey) none in absurd cc)
    | inr same ↦ ap (λ (z : Spelled). z.journey) same ∙ e
  ];
}

-- the number of a node that comes next is how many there were: it spells what the node says by the earlier ones
next_spells : (nodes now all : List Node) (node : Node) → now ≡ nodes ++ node ∷ [] → Extends now all → spelled all (length nodes) ≡ spells (spelled nodes) node
next_spells nodes now all node e ext =
    let done = spelled_on [] nodes in
    let new = spells (at_number done) node in
    let long : length done ≡ length nodes = spelled_on-long [] nodes ∙ (omega arith) in
    let until : spelled_on [] now ≡ done ++ new ∷ [] = ap (spelled_on []) e ∙ spelled_on-append [] nodes (node ∷ []) ∙ one_more done node in
    let whole : spelled_on [] all ≡ spelled_on (done ++ new ∷ []) ext.0 =
    ap (spelled_on []) ext.1 ∙ spelled_on-append [] now ext.0 ∙ ap (λ xs. spelled_on xs ext.0) until in
    let more = length-append done (new ∷ []) in
    ap (λ xs. at_number xs (length nodes)) whole
    ∙ spelled_on-stays (done ++ new ∷ []) ext.0 (length nodes) (omega (arith, more, long))
    ∙ ap (λ k. at_number (done ++ new ∷ []) k) (sym long)
    ∙ get_or-append_seam done new [] nothing

-- a node that is spelled by earlier ones: what it names is spelled among them, in whatever beginning of them
node_says : (was all : Spelling) (earlier : ℕ → Spelled) (node : Node) (here : Spelled) (tag : ℕ)
    → ((k : ℕ) (x : Onward) → was.onward k ≡ Some x → (earlier k).onward ≡ Some x)
    → ((k : ℕ) (x : Aboard) → was.aboard k ≡ Some x → (earlier k).aboard ≡ Some x)
    → here ≡ spells earlier node → all.onward tag ≡ here.onward → all.aboard tag ≡ here.aboard → all.journey tag ≡ here.journey
    → IsSpelled (from_to was all) node tag
node_says was all earlier (Ends last walk) here tag onward aboard is o a j = a ∙ ap (λ (z : Spelled). z.aboard) is
node_says was all earlier (Changes last next) here tag onward aboard is o a j =
    λ x e. a ∙ ap (λ (z : Spelled). z.aboard) is ∙ ap (changed_at last) (onward next x e)
node_says was all earlier (Boards walk first next) here tag onward aboard is o a j =
    λ x e. o ∙ ap (λ (z : Spelled). z.onward) is ∙ ap (boarded_after walk first) (aboard next x e)
node_says was all earlier (SetsOut start first next) here tag onward aboard is o a j =
    λ x e. j ∙ ap (λ (z : Spelled). z.journey) is ∙ ap (set_out_by start first) (aboard next x e)

pub comes_next : (before nodes now all : List Node) (node : Node) → now ≡ nodes ++ node ∷ [] → Extends before nodes
    → Extends now all → IsSpelled (from_to (spelling before) (spelling all)) node (length nodes)
comes_next before nodes now all node e ext_before ext =
    let keeps = extends_keeps before nodes ext_before in
    node_says (spelling before) (spelling all) (spelled nodes) node (spelled all (length nodes)) (length nodes)
    keeps.onward keeps.aboard (next_spells nodes now all node e ext) refl refl refl

-- the node of a number, and what the ones before it spell
pub record IsSpelledAt (nodes : List Node) (k : ℕ) (node : Node) (earlier : ℕ → Spelled) : Type 0 where
  pub is : spelled nodes k ≡ spells earlier node
  pub before : (n : ℕ) → n < k → earlier n ≡ spelled nodes n
  pub none : (n : ℕ) → k ≤ n → earlier n ≡ nothing

split_at : {X : Type 0} (xs : List X) (k : ℕ) (x : X) → slice_get xs k ≡ Some x → xs ≡ take k xs ++ x ∷ drop (suc k) xs
split_at [] k x at = absurd cc
split_at (y ∷ ys) zero x at = ap (λ z. z ∷ ys) (same_Some y x at)
split_at (y ∷ ys) (suc k) x at = ap (λ zs. y ∷ zs) (split_at ys k x at)

pub spelled_at : (nodes : List Node) (k : ℕ) (node : Node) → slice_get nodes k ≡ Some node → (earlier : ℕ → Spelled) × IsSpelledAt nodes k node earlier
spelled_at nodes k node at =
    let front = take k nodes in
    let parts : nodes ≡ front ++ node ∷ drop (suc k) nodes = split_at nodes k node at in
    let within = slice_get_within nodes k node at in
    let long : length front ≡ k = length-take-le k nodes (omega arith) in
    let one : Extends (front ++ node ∷ []) nodes = (drop (suc k) nodes, parts ∙ sym (append_assoc front (node ∷ []) (drop (suc k) nodes))) in
    let all : Extends front nodes = (node ∷ drop (suc k) nodes, parts) in (
      spelled front,
      record {
        is = ap (spelled nodes) (sym long) ∙ next_spells front (front ++ node ∷ []) nodes node refl one;
        before = λ n lt. sym (spelled_alike front nodes all n (omega arith));
        none = λ n ge. spelled_past front n (omega arith);
      },
    )
