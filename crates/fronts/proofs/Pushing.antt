-- One more entry.
use Rattle.std.proofs.Common.{◌≡◌, ℕ, zero, suc, ◌+◌, ◌<◌, ◌≤◌, List, [], ◌∷◌, ◌++◌, length, take, drop, slice_get}
use Rattle.std.proofs.Common.{Some, None, inl, inr, refl, sym, ◌∙◌, ap, subst, arith}
use Rattle.std.proofs.lemmas.Bool.{cases_order}
use Rattle.std.proofs.lemmas.List.{length_push}
use Rattle.std.proofs.lemmas.Option.{slice_get_past, slice_get_within, same_Some}
use Rattle.reasoning.proofs.ListLemmas.{not_in_nil, slice_get-front, slice_get-middle}
use Rattle.criteria.specs.Laws.{Rules}
use Rattle.fronts.specs.declared.entry.Item.{Item}
use Rattle.fronts.specs.declared.entry.FrontEntry.{FrontEntry}
use Rattle.fronts.specs.Front.{own, front_of, front, next_in, next_of, departure_in, departure_of, Extends}
use Rattle.fronts.specs.Entries.{IsLinked, IsEntry, AreEntries}
use Rattle.fronts.proofs.Growth.{extends_long, same_front, same_next, same_departure}
use Rattle.fronts.proofs.Points.{next_within}

linked_as : {V : Type 0} (rules : Rules V) (d d2 n n2 l l2 : ℕ) (p p2 r r2 : List (Item V)) → d ≡ d2 → n ≡ n2 → l ≡ l2
    → p ≡ p2 → r ≡ r2 → IsLinked rules d n l p r → IsLinked rules d2 n2 l2 p2 r2
linked_as rules d d2 n n2 l l2 p p2 r r2 ed en el ep er is =
    subst (λ x. IsLinked rules x n2 l2 p2 r2) ed
    (subst (λ x. IsLinked rules d x l2 p2 r2) en
    (subst (λ x. IsLinked rules d n x p2 r2) el
    (subst (λ x. IsLinked rules d n l x r2) ep (subst (λ x. IsLinked rules d n l p x) er is))))

pub linked_none : {V : Type 0} (rules : Rules V) (d l : ℕ) → IsLinked {V = V} rules d 0 l [] []
linked_none rules d l = record {
  rises = λ h. absurd (omega arith);
  late = λ q h. absurd (not_in_nil q h);
  admitted = λ q h. absurd (not_in_nil q h);
  from = λ q h. absurd (not_in_nil q h);
  over = λ q h. absurd (not_in_nil q h);
}

-- the front of what was pushed last
pub front_new : {V : Type 0} (entries : List (FrontEntry V)) (items : List (Item V)) (e : FrontEntry V) → 0 < length entries
    → front (entries ++ e ∷ []) items (length entries) ≡ own e ∷ take e.count (drop e.rest items)
front_new {V} entries items e some = go (length entries) some (slice_get-middle entries e [])
  where
    go : (n : ℕ) → 0 < n → slice_get (entries ++ e ∷ []) n ≡ Some e → front (entries ++ e ∷ []) items n ≡ own e ∷ take e.count (drop e.rest items)
    go zero lt at = absurd (omega arith)
    go (suc n) lt at = ap (front_of items) at

front_past : {V : Type 0} (entries : List (FrontEntry V)) (items : List (Item V)) (m : ℕ) → slice_get entries m ≡ None → front entries items m ≡ []
front_past entries items zero at = refl
front_past entries items (suc m) at = ap (front_of items) at

module _ {V : Type 0} (rules : Rules V) (entries : List (FrontEntry V)) (items more : List (Item V))
    (are : AreEntries rules entries items) (ext : Extends items more) (e : FrontEntry V)
    (fits : e.rest + e.count ≤ length more) (next : e.next < length entries)
    (linked : IsLinked rules e.departure e.next (departure_of entries e.next) (own e ∷ take e.count (drop e.rest more)) (front entries items e.next)) where
  new : List (FrontEntry V)
  new = entries ++ e ∷ []

  pub pushed : AreEntries rules (entries ++ e ∷ []) more
  unfolding new
  pushed =
      let some = are.some in
      let long = length_push entries e in
      let on : Extends entries (entries ++ e ∷ []) = (e ∷ [], refl) in
      record {
        some = omega arith;
        ends = same_next rules entries (entries ++ e ∷ []) items more are on ext 0 some ∙ are.ends;
        never = same_departure rules entries (entries ++ e ∷ []) items more are on ext 0 some ∙ are.never;
        back = λ m. elim (cases_order (suc m) (length entries)) [
          | inl here ↦ (let at = ap next_in (ap (slice_get (entries ++ e ∷ [])) here ∙ slice_get-middle entries e []) in omega arith)
          | inr o ↦ elim o [
            | inl low ↦ (let at = same_next rules entries (entries ++ e ∷ []) items more are on ext (suc m) low in let back = are.back m in omega arith)
            | inr high ↦ (let at = ap next_in (slice_get_past (entries ++ e ∷ []) (suc m) (omega arith)) in omega arith)
          ]
        ];
        within = λ m f at. elim (cases_order m (length entries)) [
          | inl here ↦ (let same : e ≡ f = same_Some e f
              (sym (ap (slice_get (entries ++ e ∷ [])) here ∙ slice_get-middle entries e []) ∙ at) in
              subst (λ (z : FrontEntry V). z.rest + z.count ≤ length more) same fits)
          | inr o ↦ elim o [
            | inl low ↦ (let old = are.within m f (sym (slice_get-front entries (e ∷ []) m low) ∙ at) in let grows = extends_long items more ext in omega arith)
            | inr high ↦ (let lt = slice_get_within (entries ++ e ∷ []) m f at in absurd (omega arith))
          ]
        ];
        each = λ m. elim (cases_order m (length entries)) [
          | inl here ↦
              subst (IsEntry rules (entries ++ e ∷ []) more) (sym here)
              (let at = slice_get-middle entries e [] in
              let same_n : next_of (entries ++ e ∷ []) (length entries) ≡ e.next = ap next_in at in
              linked_as rules e.departure (departure_of (entries ++ e ∷ []) (length entries)) e.next
              (next_of (entries ++ e ∷ []) (length entries)) (departure_of entries e.next)
              (departure_of (entries ++ e ∷ []) (next_of (entries ++ e ∷ []) (length entries)))
              (own e ∷ take e.count (drop e.rest more)) (front (entries ++ e ∷ []) more (length entries))
              (front entries items e.next) (front (entries ++ e
              ∷ []) more (next_of (entries ++ e ∷ []) (length entries)))
              (sym (ap departure_in at)) (sym same_n)
              (sym (ap (departure_of (entries ++ e ∷ [])) same_n ∙ same_departure rules entries (entries ++ e ∷ []) items more are on ext e.next next))
              (sym (front_new entries more e some))
              (sym (ap (front (entries ++ e ∷ []) more) same_n ∙ same_front rules entries (entries ++ e ∷ []) items more are on ext e.next next))
              linked)
          | inr o ↦ elim o [
            | inl low ↦
                let same_n = same_next rules entries (entries ++ e ∷ []) items more are on ext m low in
                let there = next_within rules entries items are m low in
                linked_as rules (departure_of entries m) (departure_of (entries ++ e ∷ []) m) (next_of entries m)
                (next_of (entries ++ e ∷ []) m) (departure_of entries (next_of entries m))
                (departure_of (entries ++ e ∷ []) (next_of (entries ++ e ∷ []) m))
                (front entries items m) (front (entries ++ e ∷ []) more m) (front entries items (next_of entries m))
                (front (entries ++ e ∷ []) more (next_of (entries ++ e ∷ []) m))
                (sym (same_departure rules entries (entries ++ e ∷ []) items more are on ext m low)) (sym same_n)
                (sym (ap (departure_of (entries ++ e ∷ [])) same_n
                ∙ same_departure rules entries (entries ++ e ∷ []) items more are on ext (next_of entries m) there))
                (sym (same_front rules entries (entries ++ e ∷ []) items more are on ext m low))
                (sym (ap (front (entries ++ e ∷ []) more) same_n
                ∙ same_front rules entries (entries ++ e ∷ []) items more are on ext (next_of entries m) there))
                (are.each m)
            | inr high ↦
                let at = slice_get_past (entries ++ e ∷ []) m (omega arith) in
                let same_n : next_of (entries ++ e ∷ []) m ≡ 0 = ap next_in at in
                linked_as rules (departure_of (entries ++ e ∷ []) m) (departure_of (entries ++ e ∷ []) m) 0
                (next_of (entries ++ e ∷ []) m) (departure_of (entries ++ e ∷ []) (next_of (entries ++ e ∷ []) m))
                (departure_of (entries ++ e ∷ []) (next_of (entries ++ e ∷ []) m))
                [] (front (entries ++ e ∷ []) more m) [] (front (entries ++ e ∷ []) more (next_of (entries ++ e ∷ []) m))
                refl (sym same_n) refl (sym (front_past (entries ++ e ∷ []) more m at)) (sym (ap (front (entries ++ e ∷ []) more) same_n))
                (linked_none rules (departure_of (entries ++ e ∷ []) m) (departure_of (entries ++ e ∷ []) (next_of (entries ++ e ∷ []) m)))
          ]
        ];
      }
