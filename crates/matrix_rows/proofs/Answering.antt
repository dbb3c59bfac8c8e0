-- What the answers from all stops say of one of them.
use Rattle.std.proofs.Common.{◌≡◌, ◌<◌, ◌≤◌, ◌+◌, ◌++◌, ◌∙◌, ℕ, zero, suc, List, [], ◌∷◌, Option, Result, Ok, Err, IfOk, OnOk, length, take, get_or}
use Rattle.std.proofs.Common.{append_assoc, inl, inr, refl, sym, ap, subst, arith, slice_index_or}
use Rattle.std.specs.Global.{Vec}
use Rattle.std.specs.List.{AllPairs, AllZip, flat_map}
use Rattle.std.proofs.lemmas.Grind.{flat_map-append}
use Rattle.std.proofs.lemmas.List.{append-nil, get_or-map, length-map, take_more}
use Rattle.std.proofs.lemmas.Slice.Zip.{all_zipped_more}
use Rattle.csv.specs.Writing.{default_writer, row_text}
use Rattle.criteria.specs.Laws.{Rules}
use Rattle.criteria.specs.declared.figures.Figures.{Figures}
use Rattle.bags.specs.declared.point.Point.{Point}
use Rattle.image_layout.specs.Image.{ImageValue}
use Rattle.scan_state.specs.SetQuery.{SetQueryValue, IsAnswerBetween, IsAskableBetween}
use Rattle.profile_scan.specs.Everywhere.{AnswerToAny, asked_to_any, criterion_to_any, listed_to_any}
use Rattle.scan_state.specs.Origins.{from_stop}
use Rattle.scan_state.specs.Points.{Before}
use Rattle.scan_state.specs.ScanRecords.{KeptValue}
use Rattle.profile_scan.specs.declared.to_any.ProfilesToAny.{ProfilesToAny}
use Rattle.timetable.specs.TimetableValue.{TimetableValue}
use Rattle.travel_times.specs.Fields.{pair_fields}
use Rattle.travel_times.specs.Figures.{AreInOrder}
use Rattle.travel_times.specs.declared.spans.Span.{Span}
use Rattle.matrix_rows.specs.Tables.{IsMeanFrom, destination, point_row, span_of, spans_of, waiting}
use Rattle.matrix_rows.specs.declared.table.TravelTable.{TravelTable}

-- the answer from a stop, under the criterion that was asked for
pub answer_at : {K L V : Type 0} {c : _} {value : L → KeptValue V} (rules_of : K → Rules V) (t : TimetableValue) (profiles : ProfilesToAny K L V c)
    (criterion : K) (stop : ℕ) → AnswerToAny rules_of value t profiles → criterion_to_any profiles ≡ criterion → stop < t.stops
    → IsAnswerBetween (rules_of criterion) t (from_stop (asked_to_any profiles) stop) (listed_to_any profiles stop)
answer_at {K} {L} {V} rules_of t profiles criterion stop all same lt =
    subst (λ (k : K). IsAnswerBetween (rules_of k) t (from_stop (asked_to_any profiles) stop) (listed_to_any profiles stop)) same (all.each stop lt).answer

-- a list of one
pub one_stop : (stops : List ℕ) (d : ℕ) → length stops ≡ 1 → get_or stops 0 d ∷ [] ≡ stops
one_stop [] d is = absurd (omega (arith, is))
one_stop (stop ∷ []) d is = refl
one_stop (stop ∷ other ∷ stops) d is = absurd (omega (arith, is))

-- points in order depart in order
no_later : {V : Type 0} (rules : Rules V) (p q : Point V) → Before rules p q → p.departure ≤ q.departure
no_later rules p q (inl earlier) = omega (arith, earlier)
no_later rules p q (inr together) = (let same = together.0 in omega (arith, same))

pub in_order : {V : Type 0} (figures : V → Figures) (rules : Rules V) (points : List (Point V)) → AllPairs (Before rules) points
    → AreInOrder (spans_of figures points)
in_order figures rules [] ordered i j d lt below = absurd (omega (arith, below))
in_order figures rules (point ∷ points) ordered i j d lt below =
    let long : length (spans_of figures (point ∷ points)) ≡ length (point ∷ points) = length-map (point ∷ points) (span_of figures) in
    let later : j < length (point ∷ points) = omega (arith, below, long) in
    let first = ap (λ s. s.departure) (get_or-map (span_of figures) (point ∷ points) i point d (omega (arith, lt, later))) in
    let second = ap (λ s. s.departure) (get_or-map (span_of figures) (point ∷ points) j point d later) in
    let le : (slice_index_or (point ∷ points) i point).departure ≤ (slice_index_or (point ∷ points) j point).departure =
    no_later rules (slice_index_or (point ∷ points) i point) (slice_index_or (point ∷ points) j point) (ordered i j point lt later) in
    omega (arith, first, second, le)

-- also those who may leave as late as they arrive can be asked for
pub waiting_asked : (stops : ℕ) (b : SetQueryValue) → IsAskableBetween stops b → IsAskableBetween stops (waiting b)
waiting_asked stops b can = record {
  sources = can.sources;
  targets = can.targets;
  differ = can.differ;
  window = can.in_time;
  in_time = can.in_time;
  small = (can.small.0, can.small.2, can.small.2);
}

-- if they may anyway, they are asked for
abbrev asked_until : TravelTable → List ℕ → ℕ → SetQueryValue
asked_until table targets until = record { sources = []; targets = targets; from = table.after; until = until; by = table.by }

waits_as_asked : (table : TravelTable) (targets : List ℕ) → table.until ≡ table.by → waiting (destination table targets) ≡ destination table targets
waits_as_asked table targets same = ap (asked_until table targets) (sym same)

module _ {V : Type 0} (figures : V → Figures) (rules : Rules V) (image : ImageValue) (table : TravelTable) (targets : List ℕ) (sources : List (Vec ℕ))
    (means : List (Option ℕ)) where
  pub means_waited : (found : SetQueryValue) → found ≡ destination table targets
      → AllZip (IsMeanFrom figures rules image (waiting (destination table targets)) table.after table.until) sources means
      → AllZip (IsMeanFrom figures rules image (waiting found) found.from found.until) sources means
  means_waited found is zipped =
      subst (λ (d : SetQueryValue). AllZip (IsMeanFrom figures rules image (waiting d) d.from d.until) sources means) (sym is) zipped

  pub means_asked : (found : SetQueryValue) → found ≡ destination table targets → table.until ≡ table.by
      → AllZip (IsMeanFrom figures rules image found table.after table.until) sources means
      → AllZip (IsMeanFrom figures rules image (waiting found) found.from found.until) sources means
  means_asked found is same zipped = means_waited found is
      (subst (λ (d : SetQueryValue). AllZip (IsMeanFrom figures rules image d table.after table.until) sources means)
      (is ∙ sym (waits_as_asked table targets same)) zipped)

  pub means_of_waiting : (found : SetQueryValue) → found ≡ waiting (destination table targets)
      → AllZip (IsMeanFrom figures rules image found table.after table.until) sources means
      → AllZip (IsMeanFrom figures rules image (waiting (destination table targets)) table.after table.until) sources means
  means_of_waiting found is zipped =
      subst (λ (d : SetQueryValue). AllZip (IsMeanFrom figures rules image d table.after table.until) sources means) is zipped

-- one more pair of two lists
pub zipped_push : {A B : Type 0} (R : A → B → Type 0) (xs : List A) (index : ℕ) (d : A) (ys now : List B) (y : B) → index < length xs
    → AllZip R (take index xs) ys → R (get_or xs index d) y → now ≡ ys ++ y ∷ [] → AllZip R (take (index + 1) xs) now
zipped_push {A} {B} R xs index d ys now y less zipped is pushed =
    subst (λ (zs : List A). AllZip R zs now) (sym (take_more xs index d less))
    (subst (AllZip R (take index xs ++ get_or xs index d ∷ [])) (sym pushed) (all_zipped_more R (take index xs) ys (get_or xs index d) y zipped is))

-- one more row after others
pub rows_more : {A : Type 0} (row : A → List ℕ) (items : List A) (index : ℕ) (d : A) (start old new added : List ℕ) → index < length items
    → old ≡ start ++ flat_map row (take index items) → new ≡ old ++ added → added ≡ row (get_or items index d)
    → new ≡ start ++ flat_map row (take (index + 1) items)
rows_more row items index d start old new added less old_is new_is added_is =
    let front = flat_map row (take index items) in
    let more : flat_map row (take (index + 1) items) ≡ front ++ row (get_or items index d) =
    ap (flat_map row) (take_more items index d less)
    ∙ flat_map-append row (take index items) (get_or items index d ∷ [])
    ∙ ap (λ (z : List ℕ). front ++ z) (append-nil (row (get_or items index d))) in
    new_is ∙ ap (λ (z : List ℕ). z ++ added) old_is ∙ append_assoc start front added
    ∙ ap (λ (z : List ℕ). start ++ (front ++ z)) added_is ∙ ap (λ (z : List ℕ). start ++ z) (sym more)

-- what holds of a call that ended well
pub on_done : {T E P Q : Type 0} (r : Result T E) → (P → Q) → OnOk r P → OnOk r Q
on_done (Ok x) each p = each p
on_done (Err e) each p = tt

-- the pair at an index of two lists
pub zipped_at : {A B : Type 0} (R : A → B → Type 0) (xs : List A) (ys : List B) (i : ℕ) (d : A) (e : B) → AllZip R xs ys → i < length xs
    → R (get_or xs i d) (get_or ys i e)
zipped_at R [] ys i d e zipped less = absurd (omega (arith, less))
zipped_at R (x ∷ xs) [] i d e zipped less = absurd zipped
zipped_at R (x ∷ xs) (y ∷ ys) zero d e zipped less = zipped.0
zipped_at R (x ∷ xs) (y ∷ ys) (suc i) d e zipped less = zipped_at R xs ys i d e zipped.1 (omega (arith, less))

-- what holds of a value that was made
pub on_ok : {T E : Type 0} (P Q : T → Type 0) (r : Result T E) → ((x : T) → P x → Q x) → IfOk r P → IfOk r Q
on_ok P Q (Ok x) each p = each x p
on_ok P Q (Err e) each p = tt

-- the same row of a pair
pub same_pair : (from from_now to to_now : List ℕ) (spans spans_now : List Span) (mean walk : Option ℕ) → from ≡ from_now → to ≡ to_now → spans ≡ spans_now
    → row_text default_writer (pair_fields from to spans mean walk) ≡ row_text default_writer (pair_fields from_now to_now spans_now mean walk)
same_pair from from_now to to_now spans spans_now mean walk a b c =
    ap (λ (x : List ℕ). row_text default_writer (pair_fields x to spans mean walk)) a
    ∙ ap (λ (x : List ℕ). row_text default_writer (pair_fields from_now x spans mean walk)) b
    ∙ ap (λ (x : List Span). row_text default_writer (pair_fields from_now to_now x mean walk)) c

-- the same rows of points
pub same_points : {V : Type 0} (figures : V → Figures) (from from_now to to_now : List ℕ) (points points_now : List (Point V)) → from ≡ from_now → to ≡ to_now
    → points ≡ points_now → flat_map (point_row figures from to) points ≡ flat_map (point_row figures from_now to_now) points_now
same_points {V} figures from from_now to to_now points points_now a b c =
    ap (λ (x : List ℕ). flat_map (point_row figures x to) points) a
    ∙ ap (λ (x : List ℕ). flat_map (point_row figures from_now x) points) b
    ∙ ap (λ (x : List (Point V)). flat_map (point_row figures from_now to_now) x) c

pub no_pairs : {A B : Type 0} (R : A → B → Type 0) (ys : List B) → ys ≡ [] → AllZip R [] ys
no_pairs R ys none = subst (AllZip R []) (sym none) tt
