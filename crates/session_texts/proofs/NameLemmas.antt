-- The names of a side.
use Rattle.std.proofs.Common.{◌≡◌, ◌≢◌, ◌<◌, ◌≤◌, ◌++◌, ℕ, zero, suc, List, [], ◌∷◌, Bool, true, false, Some, None, Contains, length, get_or, take}
use Rattle.std.proofs.Common.{AllPairs, refl, sym, ◌∙◌, ap, subst, arith}
use Rattle.std.proofs.Common.{◌+◌, Option, MatchOption, map}
use Rattle.std.proofs.Common.{codes, nat_eq}
use Rattle.std.specs.Borrow.{Bor}
use Rattle.std.specs.Cmp.Lexicographic.{other_text, pointwise, same_text}
use Rattle.std.proofs.Math.Seq.{take-suc}
use Rattle.std.proofs.lemmas.List.{get_or-map, get_or-take, get_or_default, length-map, length-take-le, map-append, take-map}
use Rattle.std.proofs.lemmas.List.Quantifiers.{all_pairs_push}
use Rattle.std.proofs.lemmas.Option.{same_Some}
use Rattle.serde_json.specs.Data.{Data, null, boolean, number, string, array, object, Items, no_items, item}
use Rattle.serde_json.specs.Find.{as_array, as_str, get}
use Rattle.serde_json.specs.View.{items_of, items_view, view}
use Rattle.serde_json.specs.declared.value.Value.{Value}
use Rattle.session_texts.specs.Names.{AreNamesAt, AreTexts, GivesNames, IsSide, NamesSide, Unless, shown}
use Rattle.session_texts.specs.Requests.{AskValue, AsksProfile, text_at}
use Rattle.session_texts.specs.declared.names.RequestFault.{RequestFault}

one_list : (ds : Items) (a b : List (List ℕ)) → AreTexts ds a → AreTexts ds b → a ≡ b
one_list no_items [] [] p q = refl
one_list no_items [] (y ∷ ys) p q = absurd q
one_list no_items (x ∷ xs) b p q = absurd p
one_list (item d ds) [] b p q = absurd p
one_list (item d ds) (x ∷ xs) [] p q = absurd q
one_list (item d ds) (x ∷ xs) (y ∷ ys) p q =
    let first : x ≡ y = same_Some x y (sym p.0 ∙ q.0) in
    ap (λ (t : List ℕ). t ∷ xs) first ∙ ap (λ (ts : List (List ℕ)). y ∷ ts) (one_list ds xs ys p.1 q.1)

one_gift : (sets : Bool) (d : Data) (a b : List (List ℕ)) → GivesNames sets d a → GivesNames sets d b → a ≡ b
one_gift sets null a b p q = absurd p
one_gift sets (boolean x) a b p q = absurd p
one_gift sets (number n) a b p q = absurd p
one_gift sets (string s) a b p q = p ∙ sym q
one_gift true (array ds) a b p q = one_list ds a b p q
one_gift false (array ds) a b p q = absurd p
one_gift sets (object ms) a b p q = absurd p

pub one_side : (sets : Bool) (key : List ℕ) (d : Data) (a b : List (List ℕ)) → AreNamesAt sets key d a → AreNamesAt sets key d b → a ≡ b
one_side sets key d a b p q =
    let same : q.value ≡ p.value = same_Some q.value p.value (sym q.stands ∙ p.stands) in
    one_gift sets p.value a b p.side.0 (subst (λ (v : Data). GivesNames sets v b) same q.side.0)

gift_with_sets : (d : Data) (names : List (List ℕ)) → GivesNames false d names → GivesNames true d names
gift_with_sets null names p = absurd p
gift_with_sets (boolean x) names p = absurd p
gift_with_sets (number n) names p = absurd p
gift_with_sets (string s) names p = p
gift_with_sets (array ds) names p = absurd p
gift_with_sets (object ms) names p = absurd p

-- without sets of stops a side is none but with them
pub side_with_sets : (key : List ℕ) (d : Data) (names : List (List ℕ)) → AreNamesAt false key d names → AreNamesAt true key d names
side_with_sets key d names p = record {
  value = p.value;
  stands = p.stands;
  side = (gift_with_sets p.value names p.side.0, p.side.1);
}

one_text_of : (d : Data) (names : List (List ℕ)) → GivesNames false d names → (name : List ℕ) × (names ≡ name ∷ []) × (as_str d ≡ Some name)
one_text_of null names p = absurd p
one_text_of (boolean x) names p = absurd p
one_text_of (number n) names p = absurd p
one_text_of (string s) names p = (s, p, refl)
one_text_of (array ds) names p = absurd p
one_text_of (object ms) names p = absurd p

-- and then it has one stop
pub one_name_of : (key : List ℕ) (d : Data) (names : List (List ℕ)) → AreNamesAt false key d names
    → (name : List ℕ) × (names ≡ name ∷ []) × (text_at key d ≡ Some name)
one_name_of key d names p =
    let one = one_text_of p.value names p.side.0 in
    (one.0, one.1, stands_text key d p.value one.0 p.stands one.2)
  where
    stands_text : (key : List ℕ) (d value : Data) (name : List ℕ) → get key d ≡ Some value → as_str value ≡ Some name → text_at key d ≡ Some name
    stands_text key d value name at is = rw at is

-- no text stands at an index
pub no_text : (ds : List Data) (i : ℕ) (d : Data) (texts : List (List ℕ)) → i < length ds → as_str (get_or ds i d) ≡ None
    → AreTexts (items_of ds) texts → ⊥
no_text [] i d texts lt none are = absurd (omega (arith, lt))
no_text (x ∷ xs) i d [] lt none are = absurd are
no_text (x ∷ xs) zero d (t ∷ ts) lt none are = let some = are.0 in cc
no_text (x ∷ xs) (suc i) d (t ∷ ts) lt none are = no_text xs i d ts (omega (arith, lt)) none are.1

-- the text at an index
text_there : (ds : List Data) (i : ℕ) (d : Data) (e : List ℕ) (texts : List (List ℕ)) → i < length ds → AreTexts (items_of ds) texts
    → as_str (get_or ds i d) ≡ Some (get_or texts i e)
text_there [] i d e texts lt are = absurd (omega (arith, lt))
text_there (x ∷ xs) i d e [] lt are = absurd are
text_there (x ∷ xs) zero d e (t ∷ ts) lt are = are.0
text_there (x ∷ xs) (suc i) d e (t ∷ ts) lt are = text_there xs i d e ts (omega (arith, lt)) are.1

-- as many texts as values
pub as_many : (ds : List Data) (texts : List (List ℕ)) → AreTexts (items_of ds) texts → length texts ≡ length ds
as_many [] [] are = refl
as_many [] (t ∷ ts) are = absurd are
as_many (x ∷ xs) [] are = absurd are
as_many (x ∷ xs) (t ∷ ts) are = ap suc (as_many xs ts are.1)

-- one text more
pub text_more : (ds : List Data) (d : Data) (texts : List (List ℕ)) (text : List ℕ) → AreTexts (items_of ds) texts → as_str d ≡ Some text
    → AreTexts (items_of (ds ++ d ∷ [])) (texts ++ text ∷ [])
text_more [] d [] text are is = (is, tt)
text_more [] d (t ∷ ts) text are is = absurd are
text_more (x ∷ xs) d [] text are is = absurd are
text_more (x ∷ xs) d (t ∷ ts) text are is = (are.0, text_more xs d ts text are.1 is)

array_is : (d : Data) (ds : Items) → as_array d ≡ Some ds → d ≡ array ds
array_is null ds e = cc
array_is (boolean b) ds e = cc
array_is (number n) ds e = cc
array_is (string s) ds e = cc
array_is (array es) ds e = ap array (same_Some es ds e)
array_is (object ms) ds e = cc

-- the texts of an array
pub texts_in : (sets : Bool) (d : Data) (ds : Items) (names : List (List ℕ)) → as_array d ≡ Some ds → NamesSide sets d names
    → AreTexts ds names × IsSide names
texts_in sets d ds names is side =
    let here : NamesSide sets (array ds) names = subst (λ (v : Data). NamesSide sets v names) (array_is d ds is) side in
    (read_in sets here.0, here.1)
  where
    read_in : (s : Bool) → GivesNames s (array ds) names → AreTexts ds names
    read_in true p = p
    read_in false p = absurd p

-- an array has as many texts as values
pub as_many_in : (sets : Bool) (d : Data) (ds : List Data) (names : List (List ℕ)) → as_array d ≡ Some (items_of ds) → NamesSide sets d names
    → length names ≡ length ds
as_many_in sets d ds names is side = as_many ds names (texts_in sets d (items_of ds) names is side).0

-- texts of an array, neither none nor too many, are a side
pub array_side : (d : Data) (ds : List Data) (names : List (List ℕ)) → as_array d ≡ Some (items_of ds) → 1 ≤ length ds → length ds ≤ 1_000
    → AreTexts (items_of ds) names × AllPairs ◌≢◌ names → NamesSide true d names
array_side d ds names is some few texts =
    let many = as_many ds names texts.0 in
    let side : IsSide names = record { some = omega (arith, many, some); few = omega (arith, many, few); once = texts.1 } in
    subst (λ (v : Data). NamesSide true v names) (sym (array_is d (items_of ds) is)) (texts.0, side)

-- a text that stands before stands twice
pub text_twice : (ds : List Data) (i : ℕ) (d : Data) (text : List ℕ) (before texts : List (List ℕ)) → i < length ds
    → AreTexts (items_of (take i ds)) before → as_str (get_or ds i d) ≡ Some text → Contains before text → AreTexts (items_of ds) texts
    → AllPairs ◌≢◌ texts → ⊥
text_twice ds i d text before texts lt read is has all once =
    let k = has.0 in
    let fewer = as_many (take i ds) before read in
    let taken : length (take i ds) ≡ i = length-take-le i ds (omega (arith, lt)) in
    let early : k < i = omega (arith, has.1, fewer, taken) in
    let many = as_many ds texts all in
    let first : as_str (get_or ds k d) ≡ Some (get_or texts k []) = text_there ds k d [] texts (omega (arith, early, lt)) all in
    let second : as_str (get_or ds i d) ≡ Some (get_or texts i []) = text_there ds i d [] texts lt all in
    let prior : as_str (get_or (take i ds) k d) ≡ Some (get_or before k []) =
    text_there (take i ds) k d [] before (omega (arith, has.1, fewer)) read in
    let at : get_or (take i ds) k d ≡ get_or ds k d = get_or-take i ds k d early in
    let same_first : get_or texts k [] ≡ get_or before k [] =
    same_Some (get_or texts k []) (get_or before k []) (sym first ∙ ap as_str (sym at) ∙ prior) in
    let same_text : get_or texts i [] ≡ text = same_Some (get_or texts i []) text (sym second ∙ is) in
    let there : get_or before k [] ≡ text = get_or_default before k [] text has.1 ∙ has.2 in
    once k i [] early (omega (arith, many, lt)) (same_first ∙ there ∙ sym same_text)

-- the same of values
pub no_text_at : (vs : List Value) (i : ℕ) (v : Value) (texts : List (List ℕ)) → i < length vs → v ≡ get_or vs i v → None ≡ as_str (view v)
    → AreTexts (items_view vs) texts → ⊥
no_text_at vs i v texts lt is none are =
    let long = length-map vs view in
    let here : get_or (map view vs) i (view v) ≡ view v = get_or-map view vs i v (view v) lt ∙ ap view (sym is) in
    no_text (map view vs) i (view v) texts (omega (arith, lt, long)) (ap as_str here ∙ sym none) are

pub text_twice_at : (vs : List Value) (i : ℕ) (v : Value) (text : List ℕ) (before texts : List (List ℕ)) → i < length vs → v ≡ get_or vs i v
    → Some text ≡ as_str (view v) → AreTexts (items_view (take i vs)) before → Contains before text → AreTexts (items_view vs) texts
    → AllPairs ◌≢◌ texts → ⊥
text_twice_at vs i v text before texts lt is some read has are once =
    let long = length-map vs view in
    let here : get_or (map view vs) i (view v) ≡ view v = get_or-map view vs i v (view v) lt ∙ ap view (sym is) in
    let read_map : AreTexts (items_of (take i (map view vs))) before =
    subst (λ (ds : List Data). AreTexts (items_of ds) before) (sym (take-map view i vs)) read in
    text_twice (map view vs) i (view v) text before texts (omega (arith, lt, long)) read_map (ap as_str here ∙ sym some) has are once

-- one text more was read, and it is none of those before
pub record AreRead (vs : List Value) (texts : List (List ℕ)) : Type 0 where
  pub read : AreTexts (items_view vs) texts
  pub once : AllPairs ◌≢◌ texts

pub one_more_read : (vs : List Value) (i : ℕ) (v : Value) (text : List ℕ) (before after : List (List ℕ)) → i < length vs → v ≡ get_or vs i v
    → Some text ≡ as_str (view v) → AreRead (take i vs) before → (Contains before text → ⊥) → after ≡ before ++ text ∷ []
    → AreRead (take (i + 1) vs) after
one_more_read vs i v text before after lt is some read new pushed =
    let next : i + 1 ≡ suc i = omega arith in
    let taken : map view (take i vs) ++ view v ∷ [] ≡ map view (take (i + 1) vs) =
    sym (map-append view (take i vs) (v ∷ []))
    ∙ ap (map view) (ap (λ (x : Value). take i vs ++ x ∷ []) is ∙ sym (take-suc vs i v lt) ∙ ap (λ (k : ℕ). take k vs) (sym next)) in
    let whole : AreTexts (items_of (map view (take i vs) ++ view v ∷ [])) (before ++ text ∷ []) =
    text_more (map view (take i vs)) (view v) before text read.read (sym some) in
    let grown : AreTexts (items_view (take (i + 1) vs)) (before ++ text ∷ []) =
    subst (λ (ds : List Data). AreTexts (items_of ds) (before ++ text ∷ [])) taken whole in
    let once : AllPairs ◌≢◌ (before ++ text ∷ []) =
    all_pairs_push ◌≢◌ before text read.once (λ k d within same. new (k, within, get_or_default before k text d within ∙ same)) in
    record {
      read = subst (AreTexts (items_view (take (i + 1) vs))) (sym pushed) grown;
      once = subst (AllPairs ◌≢◌) (sym pushed) once;
    }

-- what is read of an array tells its side
pub array_is_side : {A : Type 0} (shows : A → List (List ℕ)) (d : Data) (ds : List Data) (o : Option A) → as_array d ≡ Some (items_of ds)
    → 1 ≤ length ds → length ds ≤ 1_000
    → MatchOption o ((texts : List (List ℕ)) → AreTexts (items_of ds) texts → AllPairs ◌≢◌ texts → ⊥)
    (λ (texts : A). AreTexts (items_of ds) (shows texts) × AllPairs ◌≢◌ (shows texts))
    → MatchOption o ((names : List (List ℕ)) → ¬ NamesSide true d names) (λ (names : A). NamesSide true d (shows names))
array_is_side shows d ds None is some few none = λ names side.
    let texts = texts_in true d (items_of ds) names is side in
    none names texts.0 texts.1.once
array_is_side shows d ds (Some texts) is some few read = array_side d ds (shows texts) is some few read

-- a text is among others, or isn't
pub text_among : (texts read : List (Bor (List ℕ))) (text : Bor (List ℕ)) → read ≡ texts
    → ((k : ℕ) × (k < length read) × ((d : Bor (List ℕ)) → pointwise nat_eq (get_or read k d).now text.now ≡ true)) → Contains (shown texts) text.now
text_among texts read text same (k, lt, is) =
    let long = length-map read (λ (t : Bor (List ℕ)). t.now) in
    let at : get_or (shown read) k text.now ≡ text.now =
    get_or-map (λ (t : Bor (List ℕ)). t.now) read k text text.now lt ∙ same_text (get_or read k text).now text.now (sym (is text)) in
    subst (λ (ts : List (Bor (List ℕ))). Contains (shown ts) text.now) same (k, omega (arith, lt, long), at)

pub text_is_new : (texts read : List (Bor (List ℕ))) (text : Bor (List ℕ)) → read ≡ texts
    → ((k : ℕ) (d : Bor (List ℕ)) → 0 ≤ k → k < length read → pointwise nat_eq (get_or read k d).now text.now ≡ false)
    → Contains (shown texts) text.now → ⊥
text_is_new texts read text same none has =
    let here : Contains (shown read) text.now = subst (λ (ts : List (Bor (List ℕ))). Contains (shown ts) text.now) (sym same) has in
    let long = length-map read (λ (t : Bor (List ℕ)). t.now) in
    let lt : here.0 < length read = omega (arith, here.1, long) in
    let at : (get_or read here.0 text).now ≡ text.now =
    sym (get_or-map (λ (t : Bor (List ℕ)). t.now) read here.0 text text.now lt) ∙ get_or_default (shown read) here.0 text.now text.now here.1 ∙ here.2 in
    other_text (get_or read here.0 text).now text.now (sym (none here.0 text (omega arith) lt)) at

pub pushed_text : (texts more : List (Bor (List ℕ))) (text : Bor (List ℕ)) → more ≡ texts ++ text ∷ [] → shown more ≡ shown texts ++ text.now ∷ []
pushed_text texts more text is = ap shown is ∙ map-append (λ (t : Bor (List ℕ)). t.now) texts (text ∷ [])

-- a profile has the sides that the values under its keys give
pub no_ask_from : (sets : Bool) (d : Data) (fault : RequestFault) → Unless ((names : List (List ℕ)) → ¬ AreNamesAt sets (codes "from") d names) fault
    → Unless ((ask : AskValue) → ¬ AsksProfile sets d ask) fault
no_ask_from sets d RequestFault.BadRequest none = λ ask asks. none ask.from asks.from
no_ask_from sets d RequestFault.OutOfMemory none = tt

pub no_ask_to : (sets : Bool) (d : Data) (fault : RequestFault) → Unless ((names : List (List ℕ)) → ¬ AreNamesAt sets (codes "to") d names) fault
    → Unless ((ask : AskValue) → ¬ AsksProfile sets d ask) fault
no_ask_to sets d RequestFault.BadRequest none = λ ask asks. none ask.to asks.to
no_ask_to sets d RequestFault.OutOfMemory none = tt
