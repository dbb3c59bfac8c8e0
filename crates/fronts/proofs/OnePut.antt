-- A front put before a list.
use Rattle.std.proofs.Common.{◌≡◌, ◌⊎◌, ℕ, ◌+◌, ◌<◌, ◌≤◌, true, false, not, List, [], ◌∷◌, ◌++◌, length, take, drop}
use Rattle.std.proofs.Common.{get_or, Contains, inl, inr, refl, sym, ◌∙◌, ap, subst, arith, cond, ◌||◌}
use Rattle.std.proofs.Common.{length-append, append-nil, append_assoc, Result, Ok, Err, IfOk, MatchResult}
use Rattle.std.proofs.lemmas.Bool.{cases_Bool, true≢false}
use Rattle.std.proofs.lemmas.List.{length_push, drop_at, take_all}
use Rattle.std.proofs.lemmas.List.Elements.{Contains-append_left, Contains-append_right, Contains-append_cases}
use Rattle.reasoning.proofs.ListLemmas.{from_filter, into_filter, one_passes, slice_get-middle}
use Rattle.criteria.specs.Laws.{Rules, Laws, Admits}
use Rattle.fronts.specs.declared.entry.Item.{Item}
use Rattle.fronts.specs.declared.entry.FrontEntry.{FrontEntry}
use Rattle.fronts.specs.Front.{own, front, next_in, next_of, departure_in, departure_of, points_from, Betters, Extends}
use Rattle.fronts.specs.Entries.{IsLinked, AreEntries, AreMore}
use Rattle.fronts.specs.Putting.{betters, outdoes_alone, left_by, MayPut, IsPut, IsUnion, IsJoined, Follows}
use Rattle.fronts.proofs.Growth.{same_points}
use Rattle.fronts.proofs.Points.{of_front, of_next, front_or_next, unrolled, next_within, departs_at, next_at}
use Rattle.fronts.proofs.Pushing.{front_new, pushed}

pub betters_some : {V : Type 0} (rules : Rules V) (points : List (Item V)) (v : V) → betters rules points v ≡ true → Betters rules points v
betters_some {V} rules points v t = one_passes (λ (p : Item V). rules.no_worse p.value v) points t

first_and_rest : {X : Type 0} (xs : List X) (x : X) → 0 < length xs → x ≡ get_or xs 0 x → x ∷ drop 1 xs ≡ xs
first_and_rest [] x some is = absurd (omega arith)
first_and_rest (y ∷ ys) x some is = ap (λ z. z ∷ ys) is

-- the items that were pushed
part_pushed : {X : Type 0} (items more tail : List X) (rest count : ℕ) → more ≡ items ++ tail → rest ≡ length items
    → length items + count ≡ length more → take count (drop rest more) ≡ tail
part_pushed items more tail rest count filled at long =
    let grown = ap length filled ∙ length-append items tail in
    ap (λ n. take count (drop n more)) at ∙ ap (λ xs. take count (drop (length items) xs)) filled
    ∙ ap (take count) (drop_at items tail (length items) refl) ∙ take_all count tail (omega arith)

-- a point leaves nothing of a front that it outdoes
none_left : {V : Type 0} (rules : Rules V) (x : Item V) (points : List (Item V))
    → outdoes_alone rules x.value points ≡ true → left_by rules (x ∷ []) points ≡ []
none_left rules x [] out = refl
none_left rules x (p ∷ []) out = ap (λ b. cond (not (b || false)) (p ∷ []) []) out
none_left rules x (p ∷ q ∷ points) out = absurd (true≢false (sym out))

-- what is put
module _ {V : Type 0} (rules : Rules V) (laws : Laws rules) (entries : List (FrontEntry V)) (items more : List (Item V))
    (are : AreEntries rules entries items) (departure m : ℕ) (points : List (Item V))
    (may : MayPut rules entries items departure m points) (e : FrontEntry V) (first : own e ∷ drop 1 points
    ≡ points) (departs : e.departure ≡ departure)
    (follows : Follows (departure_of entries m) (next_of entries m) m departure e.next)
    (filled : more ≡ items ++ (drop 1 points ++ left_by rules points (front entries items m)))
    (part : take e.count (drop e.rest more) ≡ drop 1 points ++ left_by rules points (front entries items m))
    (room : e.rest + e.count ≤ length more) where
  pub put_extends : Extends items more
  put_extends = (drop 1 points ++ left_by rules points (front entries items m), filled)

  pub put_front : List (Item V)
  put_front = points ++ left_by rules points (front entries items m)

  put_whole : own e ∷ take e.count (drop e.rest more) ≡ put_front
  unfolding put_front
  put_whole =
      ap (λ xs. own e ∷ xs) part
      ∙ sym (append_assoc (own e ∷ []) (drop 1 points) (left_by rules points (front entries items m)))
      ∙ ap (λ xs. xs ++ left_by rules points (front entries items m)) first

  put_cases : (p : Item V) → Contains put_front p → Contains points p ⊎ Contains (front entries items m) p
  unfolding put_front
  put_cases p h = elim (Contains-append_cases points (left_by rules points (front entries items m)) p h) [
    | inl a ↦ inl a
    | inr l ↦ inr (from_filter (λ q. not (betters rules points q.value)) (front entries items m) p l).0
  ]

  put_each : (p : Item V) → Contains points p → Contains put_front p
  unfolding put_front
  put_each p h = Contains-append_left points (left_by rules points (front entries items m)) p h

  put_left : (p : Item V) → Contains (front entries items m) p → betters rules points p.value ≡ false → Contains put_front p
  unfolding put_front
  put_left p h f = Contains-append_right points (left_by rules points (front entries items m)) p
      (into_filter (λ q. not (betters rules points q.value)) (front entries items m) p h (ap not f))

  put_admitted : (p : Item V) → Contains put_front p → Admits rules p.value
  put_admitted p h = elim (put_cases p h) [ inl r ↦ may.admitted p r | inr l ↦ (are.each m).admitted p l ]

  -- what was there is there, or one of the points is no worse
  put_over : (p : Item V) → Contains (front entries items m) p → Contains put_front p ⊎ Betters rules points p.value
  put_over p h = elim (cases_Bool (betters rules points p.value)) [
    | inl t ↦ inr (betters_some rules points p.value t)
    | inr f ↦ inl (put_left p h f)
  ]

  put_betters : (p : Item V) → Contains (front entries items m) p → Betters rules put_front p.value
  put_betters p h = elim (put_over p h) [ inl a ↦ (p, a, laws.reflexive p.value ((are.each m).admitted p h)) | inr r ↦ (r.0, put_each r.0 r.1, r.2) ]

  put_next : e.next < length entries
  put_next = let within = may.within in elim follows [
    | inl a ↦
        subst (λ n. n < length entries) (sym a.1) (next_within rules entries items are m within)
    | inr b ↦
        subst (λ n. n < length entries) (sym b.1) within
  ]

  put_late : (p : Item V) → Contains put_front p → departure ≤ p.departure
  put_late p h = elim (put_cases p h) [
    | inl r ↦ (let at = may.departs p r in omega arith)
    | inr l ↦ (let late = (are.each m).late p l in let early = may.early in omega arith)
  ]

  put_linked : IsLinked rules departure e.next (departure_of entries e.next) put_front (front entries items e.next)
  put_linked = record {
    rises = λ some. elim follows [
      | inl a ↦
          let up = (are.each m).rises (subst (λ n. 0 < n) a.1 some) in
          subst (λ n. departure < departure_of entries n) (sym a.1) (omega (arith, a.0, up))
      | inr b ↦ subst (λ n. departure < departure_of entries n) (sym b.1) b.0
    ];
    late = put_late;
    admitted = put_admitted;
    from = λ p h. elim (put_cases p h) [
      | inl at ↦ inl (may.departs p at)
      | inr l ↦ elim follows [
        | inl a ↦ elim ((are.each m).from p l) [ inl d ↦ inl (d ∙ a.0) | inr n ↦ inr (subst (λ k. Contains (front entries items k) p) (sym a.1) n) ]
        | inr b ↦ inr (subst (λ k. Contains (front entries items k) p) (sym b.1) l)
      ]
    ];
    over = λ p h. elim follows [
      | inl a ↦
          let there = subst (λ k. Contains (front entries items k) p) a.1 h in
          let r = (are.each m).over p there in
          let s = put_betters r.0 r.1 in (
            s.0,
            s.1,
            laws.transitive s.0.value r.0.value p.value (put_admitted s.0 s.1) ((are.each m).admitted r.0 r.1)
                ((are.each (next_of entries m)).admitted p there) s.2 r.2,
          )
      | inr b ↦ put_betters p (subst (λ k. Contains (front entries items k) p) b.1 h)
    ];
  }

  pub put_are : AreEntries rules (entries ++ e ∷ []) more
  put_are =
      pushed rules entries items more are put_extends e room put_next
      (subst (λ d. IsLinked rules d e.next (departure_of entries e.next) (own e ∷ take e.count (drop e.rest more)) (front entries items e.next)) (sym departs)
      (subst (λ ps. IsLinked rules departure e.next (departure_of entries e.next) ps (front entries items e.next)) (sym put_whole) put_linked))

  -- the points of the new list
  put_points : points_from (entries ++ e ∷ []) more (length entries) ≡ put_front ++ points_from entries items e.next
  put_points =
      let some = are.some in
      let next_is : next_of (entries ++ e ∷ []) (length entries) ≡ e.next = ap next_in (slice_get-middle entries e []) in
      unrolled rules (entries ++ e ∷ []) more put_are (length entries)
      ∙ ap (λ ps. ps ++ points_from (entries ++ e ∷ []) more (next_of (entries ++ e ∷ []) (length entries))) (front_new entries more e some ∙ put_whole)
      ∙ ap (λ ps. put_front ++ ps) (ap (points_from (entries ++ e ∷ []) more) next_is
      ∙ same_points rules entries (entries ++ e ∷ []) items more are (e ∷ [], refl) put_extends e.next put_next)

  put_in_front : (p : Item V) → Contains put_front p → Contains (points_from (entries ++ e ∷ []) more (length entries)) p
  put_in_front p h = subst (λ ps. Contains ps p) (sym put_points) (Contains-append_left put_front (points_from entries items e.next) p h)

  put_in_next : (p : Item V) → Contains (points_from entries items e.next) p → Contains (points_from (entries ++ e ∷ []) more (length entries)) p
  put_in_next p h = subst (λ ps. Contains ps p) (sym put_points) (Contains-append_right put_front (points_from entries items e.next) p h)

  pub put_within : length entries < length (entries ++ e ∷ [])
  put_within = let long = length_push entries e in omega arith

  pub put_departs : departure_of (entries ++ e ∷ []) (length entries) ≡ departure
  put_departs = ap departure_in (slice_get-middle entries e []) ∙ departs

  put_carries : front (entries ++ e ∷ []) more (length entries) ≡ points ++ left_by rules points (front entries items m)
  unfolding put_front
  put_carries = let some = are.some in front_new entries more e some ∙ put_whole

  pub put_union : IsUnion rules points (points_from entries items m) (points_from (entries ++ e ∷ []) more (length entries))
  put_union = record {
    only = λ p h. elim (Contains-append_cases put_front (points_from entries items e.next) p (subst (λ ps. Contains ps p) put_points h)) [
      | inl a ↦ elim (put_cases p a) [
        | inl r ↦ inl r
        | inr l ↦ inr (of_front rules entries items are m p l)
      ]
      | inr b ↦ elim follows [
        | inl n ↦ inr (of_next rules entries items are m p (subst (λ k. Contains (points_from entries items k) p) n.1 b))
        | inr n ↦ inr (subst (λ k. Contains (points_from entries items k) p) n.1 b)
      ]
    ];
    kept_first = λ t v a c. (c.0, put_in_front c.0 (put_each c.0 c.1), c.2, c.3);
    kept_second = λ t v a c. elim follows [
      | inl n ↦ elim (front_or_next rules entries items are m c.0 c.1) [
        | inl f ↦ elim ((are.each m).from c.0 f) [
          | inl d ↦ elim (put_over c.0 f) [
            | inl h ↦ (c.0, put_in_front c.0 h, c.2, c.3)
            | inr r ↦
                let at = may.departs r.0 r.1 in (
                  r.0,
                  put_in_front r.0 (put_each r.0 r.1),
                  omega (arith, at, d, n.0, c.2),
                  laws.transitive r.0.value c.0.value v (may.admitted r.0 r.1) ((are.each m).admitted c.0 f) a r.2
                      c.3,
                )
          ]
          | inr l ↦ (
            c.0,
            put_in_next c.0 (subst (λ k. Contains (points_from entries items k) c.0) (sym n.1)
                (of_front rules entries items are (next_of entries m) c.0 l)),
            c.2,
            c.3,
          )
        ]
        | inr l ↦ (c.0, put_in_next c.0 (subst (λ k. Contains (points_from entries items k) c.0) (sym n.1) l), c.2, c.3)
      ]
      | inr n ↦ (c.0, put_in_next c.0 (subst (λ k. Contains (points_from entries items k) c.0) (sym n.1) c.1), c.2, c.3)
    ];
  }

follows_at : {V : Type 0} (entries : List (FrontEntry V)) (m departure after : ℕ) (e : FrontEntry V) → m < length entries
    → e ≡ get_or entries m e → Follows e.departure e.next m departure after
    → Follows (departure_of entries m) (next_of entries m) m departure after
follows_at entries m departure after e lt is f =
    subst (λ d. Follows d (next_of entries m) m departure after) (sym (departs_at entries m e lt is))
    (subst (λ n. Follows e.departure n m departure after) (sym (next_at entries m e lt is)) f)

module _ {V E : Type 0} (rules : Rules V) (old now : List (FrontEntry V)) (items more : List (Item V)) (departure m : ℕ)
    (points : List (Item V)) where
  pub put_more : (result : Result ℕ E) → MatchResult result (IsPut rules old now items more departure m points)
      (λ _. AreMore rules old items now more) → AreMore rules old items now more
  put_more (Ok head) put = put.joined.more_are
  put_more (Err e) put = put

  pub put_joined : (result : Result ℕ E) → MatchResult result (IsPut rules old now items more departure m points)
      (λ _. AreMore rules old items now more)
      → IfOk result (IsJoined rules points (points_from old items m) old now items more)
  put_joined (Ok head) put = put.joined
  put_joined (Err e) put = tt

is_put : {V : Type 0} (rules : Rules V) (laws : Laws rules) (entries : List (FrontEntry V)) (items more : List (Item V))
    (departure m : ℕ) (points : List (Item V)) (may : MayPut rules entries items departure m points)
    (e : FrontEntry V) → own e ∷ drop 1 points ≡ points → e.departure ≡ departure
    → Follows (departure_of entries m) (next_of entries m) m departure e.next
    → more ≡ items ++ (drop 1 points ++ left_by rules points (front entries items m))
    → take e.count (drop e.rest more) ≡ drop 1 points ++ left_by rules points (front entries items m)
    → e.rest + e.count ≤ length more → (now : List (FrontEntry V)) (index : ℕ)
    → now ≡ entries ++ e ∷ [] → index ≡ length entries
    → IsPut rules entries now items more departure m points index
is_put {V} rules laws entries items more departure m points may e first departs f filled part room now index pushed_is index_is =
    subst (λ n. IsPut rules entries now items more departure m points n) (sym index_is)
    (subst (λ (es : List (FrontEntry V)). IsPut rules entries es items more departure m points (length entries)) (sym pushed_is) (record {
      departs = put_departs rules laws entries items more may.sound departure m points may e first departs f filled part room;
      carries = put_carries rules laws entries items more may.sound departure m points may e first departs f filled part room;
      joined = record {
        more_are = record {
          sound = put_are rules laws entries items more may.sound departure m points may e first departs f filled part room;
          entries_more = (e ∷ [], refl);
          items_more = (_, filled);
        };
        within = put_within rules laws entries items more may.sound departure m points may e first departs f filled part room;
        union = put_union rules laws entries items more may.sound departure m points may e first departs f filled part room;
      };
    }))

-- one point put before a list whose front it outdoes: nothing is left of that front, and no item is pushed
pub put_one : {V : Type 0} (rules : Rules V) (laws : Laws rules) (entries now : List (FrontEntry V)) (items : List (Item V))
    (m index : ℕ) (x : Item V) (e after : FrontEntry V)
    → MayPut rules entries items x.departure m (x ∷ []) → outdoes_alone rules x.value (front entries items m) ≡ true
    → own e ≡ x → e.rest ≡ 0 → e.count ≡ 0 → after ≡ get_or entries m after
    → Follows after.departure after.next m x.departure e.next → now ≡ entries ++ e ∷ [] → index ≡ length entries
    → IsPut rules entries now items items x.departure m (x ∷ []) index
put_one {V} rules laws entries now items m index x e after may out own_is rest count after_is follows pushed_is index_is =
    let left = none_left rules x (front entries items m) out in
    let f = follows_at entries m x.departure e.next after may.within after_is follows in
    is_put rules laws entries items items x.departure m (x ∷ []) may e (ap (λ z. z ∷ []) own_is)
    (ap (λ (z : Item V). z.departure) own_is) f (sym (append-nil items) ∙ ap (λ xs. items ++ xs) (sym left))
    (ap (λ n. take n (drop e.rest items)) count ∙ sym left) (omega arith) now index pushed_is index_is

-- all that the code does, at the end
pub put_all : {V : Type 0} (rules : Rules V) (laws : Laws rules) (entries read now : List (FrontEntry V))
    (items more : List (Item V)) (departure m index : ℕ) (points : List (Item V)) (e after : FrontEntry V) (x : Item V)
    → MayPut rules entries items departure m points
    → read ≡ entries → x ≡ get_or points 0 x → e.value ≡ x.value → e.tag ≡ x.tag → e.departure ≡ departure
    → after ≡ get_or entries m after → Follows after.departure after.next m departure e.next
    → more ≡ items ++ (drop 1 points ++ left_by rules points (front read items m)) → e.rest ≡ length items → length items + e.count ≡ length more
    → now ≡ entries ++ e ∷ [] → index ≡ length entries
    → IsPut rules entries now items more departure m points index
put_all {V} rules laws entries read now items more departure m index points e after x may same x_is worth tag
    departs after_is follows filled rest count pushed_is index_is =
    let x_in : Contains points x = (0, may.some, sym x_is) in
    let d : e.departure ≡ x.departure = departs ∙ sym (may.departs x x_in) in
    let own_is : own e ≡ x =
    ap (λ (n : ℕ). item n e.value e.tag) d ∙ ap (λ (v : V). item x.departure v e.tag) worth ∙ ap (λ (n : ℕ). item x.departure x.value n) tag in
    let first : own e ∷ drop 1 points ≡ points = ap (λ z. z ∷ drop 1 points) own_is ∙ first_and_rest points x may.some x_is in
    let f = follows_at entries m departure e.next after may.within after_is follows in
    let filled_here : more ≡ items ++ (drop 1 points ++ left_by rules points (front entries items m)) =
    filled ∙ ap (λ (es : List (FrontEntry V)). items
    ++ (drop 1 points ++ left_by rules points (front es items m))) same in
    let part = part_pushed items more (drop 1 points ++ left_by rules points (front entries items m)) e.rest e.count filled_here rest count in
    is_put rules laws entries items more departure m points may e first departs f filled_here part (omega arith)
    now index pushed_is index_is
  where
    item : ℕ → V → ℕ → Item V
    item d v t = record { departure = d; value = v; tag = t }
