use Rattle.std.proofs.Common.{rules, ◌≡◌, ◌≤◌, Bool, true, arith, length, map, sym, subst, MatchOption, ℕ, List}
use Rattle.std.proofs.lemmas.List.{length-map}
use Rattle.std.proofs.lemmas.Result.{IfOk-weaker}
use Rattle.serde_json.specs.View.{view}
use Rattle.session_texts.specs.Names.{NamesSide, shown}
use Rattle.session_texts.proofs.NameLemmas.{array_is_side, as_many_in}
use Rattle.session_texts.proofs.names.side_of.Goals as goal

pub returns-then-count-lt1 : goal.returns-then-count-lt1
returns-then-count-lt1 c = λ names side.
    let values = c.in-Some-as_array.values.now.items in
    let many = as_many_in c.args.sets (view c.args.value.now) (map view values) names (sym c.in-Some-as_array.ensures) side in
    let long = length-map values view in
    let some = side.1.some in
    absurd (omega (arith, many, long, some))

pub returns-then-count-gt-MOST_STOPS : goal.returns-then-count-gt-MOST_STOPS
returns-then-count-gt-MOST_STOPS c = λ names side.
    let values = c.in-Some-as_array.values.now.items in
    let many = as_many_in c.args.sets (view c.args.value.now) (map view values) names (sym c.in-Some-as_array.ensures) side in
    let long = length-map values view in
    let few = side.1.few in
    absurd (omega (arith, many, long, few))

pub returns : goal.returns
returns c =
    let values = c.in-Some-as_array.values.now.items in
    let long = length-map values view in
    let on : true ≡ c.args.sets = search rules in
    let some : 1 ≤ length (map view c.in-Some-as_array.values.now.items) = omega (arith, long) in
    let few : length (map view c.in-Some-as_array.values.now.items) ≤ 1_000 = omega (arith, long) in
    IfOk-weaker c.distinct_texts.result _ _
    (λ texts read. subst (λ (sets : Bool). MatchOption texts ((names : List (List ℕ)) → ¬ NamesSide sets (view c.args.value.now) names)
    (λ names. NamesSide sets (view c.args.value.now) (shown names.items))) on
    (array_is_side (λ (t : _). shown t.items) (view c.args.value.now) (map view values) texts (sym c.in-Some-as_array.ensures) some few
    (rw c.deref.ensures.value at read)))
    c.distinct_texts.ensures
