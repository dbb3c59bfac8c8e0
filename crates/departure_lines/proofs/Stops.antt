-- Stops shown one by one.
use Rattle.std.proofs.Common.{◌≡◌, ◌<◌, ◌+◌, ℕ, zero, suc, true, false, List, [], ◌∷◌, ◌++◌, Option, Contains, length}
use Rattle.std.proofs.Common.{map, filter, refl, sym, ◌∙◌, ap, subst, append_assoc, arith}
use Rattle.std.specs.List.{AllZip, flat_map, range_with_len}
use Rattle.std.proofs.lemmas.Grind.{flat_map-append}
use Rattle.std.proofs.lemmas.List.{append-nil, length-map}
use Rattle.std.proofs.lemmas.List.Elements.{filter-append}
use Rattle.std.proofs.lemmas.List.Sums.{sum_by_push}
use Rattle.std.proofs.lemmas.Slice.Zip.{all_zipped_more}
use Rattle.criteria.specs.Laws.{Rules}
use Rattle.criteria.specs.declared.figures.Figures.{Figures}
use Rattle.image_layout.specs.Image.{ImageValue}
use Rattle.scan_state.specs.SetQuery.{SetQueryValue, IsAnswerBetween, secs_of}
use Rattle.profile_scan.specs.Everywhere.{AnswerToAny, asked_to_any, criterion_to_any, listed_to_any, walk_to_any}
use Rattle.scan_state.specs.Origins.{from_stop}
use Rattle.scan_state.specs.ScanRecords.{KeptValue}
use Rattle.profile_scan.specs.declared.to_any.ProfilesToAny.{ProfilesToAny}
use Rattle.bags.specs.declared.point.Point.{Point}
use Rattle.timetable.specs.TimetableValue.{TimetableValue}
use Rattle.journeys.specs.Answer.{point_of}
use Rattle.journeys.specs.Extracted.{AttainsBetween}
use Rattle.journeys.specs.declared.answering.Departure.{Departure}
use Rattle.image_facts.specs.Naming.{stop_bytes}
use Rattle.text_pieces.specs.declared.form.Form.{Form}
use Rattle.departure_lines.specs.Lines.{ArePoints, journeys_text}
use Rattle.departure_lines.specs.Showing.{AddsStops, HasJourneys, IsInForm, IsShownFrom, ShowsStop}
use Rattle.departure_lines.specs.Showing.{is_shown, journeys_form, one_if_some, points_form, shown_stops}
use Rattle.command_requests.specs.declared.requests.DeparturesForm.{DeparturesForm}
use Rattle.departure_lines.specs.declared.stop_lines.StopCounts.{StopCounts}
use Rattle.departure_lines.specs.declared.stop_lists.WantedStops.{WantedStops}
use Rattle.departure_lines.specs.declared.stop_words.PointsForm.{PointsForm}

-- numbers counted up, and the next
counted_more : (a n j : ℕ) → a + n ≡ j → range_with_len a (suc n) ≡ range_with_len a n ++ j ∷ []
counted_more a zero j e = ap (λ (k : ℕ). k ∷ []) (omega (arith, e))
counted_more a (suc n) j e = ap (λ (ks : List ℕ). a ∷ ks) (counted_more (a + 1) n j (omega (arith, e)))

counting_more : (n : ℕ) → range_with_len 0 (n + 1) ≡ range_with_len 0 n ++ n ∷ []
counting_more n = ap (range_with_len 0) (next n) ∙ counted_more 0 n n (omega arith)
  where
    next : (k : ℕ) → k + 1 ≡ suc k
    next k = omega arith

-- one stop more, that is shown or not
stop_taken : (wanted : WantedStops) (targets : List ℕ) (n : ℕ) → is_shown wanted targets n ≡ true
    → shown_stops wanted targets (n + 1) ≡ shown_stops wanted targets n ++ n ∷ []
stop_taken wanted targets n is =
    ap (filter (is_shown wanted targets)) (counting_more n) ∙ filter-append (is_shown wanted targets) (range_with_len 0 n) (n ∷ [])
    ∙ ap (λ (ks : List ℕ). shown_stops wanted targets n ++ ks) (kept is)
  where
    kept : is_shown wanted targets n ≡ true → filter (is_shown wanted targets) (n ∷ []) ≡ n ∷ []
    kept h = rw h refl

stop_left : (wanted : WantedStops) (targets : List ℕ) (n : ℕ) → is_shown wanted targets n ≡ false
    → shown_stops wanted targets (n + 1) ≡ shown_stops wanted targets n
stop_left wanted targets n is =
    ap (filter (is_shown wanted targets)) (counting_more n) ∙ filter-append (is_shown wanted targets) (range_with_len 0 n) (n ∷ [])
    ∙ ap (λ (ks : List ℕ). shown_stops wanted targets n ++ ks) (dropped is) ∙ append-nil (shown_stops wanted targets n)
  where
    dropped : is_shown wanted targets n ≡ false → filter (is_shown wanted targets) (n ∷ []) ≡ []
    dropped h = rw h refl

module _ {V : Type 0} (figures : V → Figures) (rules : Rules V) (form : DeparturesForm) (image : ImageValue) (b : SetQueryValue) (wanted : WantedStops) where
  pub none_added : (text : List ℕ) → AddsStops figures rules form image b wanted 0 text text (record { stops = 0; points = 0 })
  none_added text = record {
    text = [];
    added = sym (append-nil text);
    listed = record { parts = []; each = tt; text_is = refl; stops_are = refl; points_are = refl };
  }

  -- a stop that isn't shown changes nothing
  pub stop_skipped : (n : ℕ) (old new : List ℕ) (counts : StopCounts) → is_shown wanted b.targets n ≡ false
      → AddsStops figures rules form image b wanted n old new counts → AddsStops figures rules form image b wanted (n + 1) old new counts
  stop_skipped n old new counts not_shown adds = record {
    text = adds.text;
    added = adds.added;
    listed = record {
      parts = adds.listed.parts;
      each = subst (λ (ks : List ℕ). AllZip (λ stop (part : ℕ × List ℕ). IsShownFrom figures rules form image b stop part.0 part.1) ks
          adds.listed.parts) (sym (stop_left wanted b.targets n not_shown)) adds.listed.each;
      text_is = adds.listed.text_is;
      stops_are = adds.listed.stops_are;
      points_are = adds.listed.points_are;
    };
  }

  -- one that is shown adds its text, and counts
  pub stop_added : (n : ℕ) (old mid new : List ℕ) (counts next : StopCounts) (points : ℕ) → is_shown wanted b.targets n ≡ true
      → AddsStops figures rules form image b wanted n old mid counts → ShowsStop figures rules form image b n mid new points
      → next.stops ≡ counts.stops + one_if_some points → next.points ≡ counts.points + points
      → AddsStops figures rules form image b wanted (n + 1) old new next
  stop_added n old mid new counts next points is adds shows stops_now points_now =
      let parts = adds.listed.parts in
      let part : ℕ × List ℕ = (points, shows.text) in
      let R : ℕ → ℕ × List ℕ → Type 0 = λ stop p. IsShownFrom figures rules form image b stop p.0 p.1 in
      record {
        text = adds.text ++ shows.text;
        added = shows.added ∙ ap (λ (z : List ℕ). z ++ shows.text) adds.added ∙ regroup old adds.text shows.text;
        listed = record {
          parts = parts ++ part ∷ [];
          each = subst (λ (ks : List ℕ). AllZip R ks (parts ++ part ∷ [])) (sym (stop_taken wanted b.targets n is))
              (all_zipped_more R (shown_stops wanted b.targets n) parts n part adds.listed.each shows.shown);
          text_is = ap (λ (z : List ℕ). z ++ shows.text) adds.listed.text_is
              ∙ ap (λ (z : List ℕ). flat_map (λ (p : ℕ × List ℕ). p.1) parts ++ z) (sym (append-nil shows.text))
              ∙ sym (flat_map-append (λ (p : ℕ × List ℕ). p.1) parts (part ∷ []));
          stops_are = stops_now ∙ ap (λ k. k + one_if_some points) adds.listed.stops_are
              ∙ sym (sum_by_push (λ (p : ℕ × List ℕ). one_if_some p.0) parts part);
          points_are = points_now ∙ ap (λ k. k + points) adds.listed.points_are
              ∙ sym (sum_by_push (λ (p : ℕ × List ℕ). p.0) parts part);
        };
      }
    where
      regroup : (a b c : List ℕ) → (a ++ b) ++ c ≡ a ++ (b ++ c)
      regroup a b c = append_assoc a b c

module _ {V : Type 0} (figures : V → Figures) (rules : Rules V) where
  -- texts in each form are what the form of the command asks for
  pub points_in_form : (form : PointsForm) (image : ImageValue) (b : SetQueryValue) (stop : ℕ) (points : List (Point V)) (walk : Option ℕ)
      (text : List ℕ) → ArePoints figures form (stop_bytes image.names stop) points walk text
      → IsInForm figures rules (points_form form) image b stop points walk text
  points_in_form (PointsForm.Each Form.Lines) image b stop points walk text are = are
  points_in_form (PointsForm.Each Form.Json) image b stop points walk text are = are
  points_in_form (PointsForm.Summary Form.Lines) image b stop points walk text are = are
  points_in_form (PointsForm.Summary Form.Json) image b stop points walk text are = are

  pub journeys_in_form : (form : Form) (image : ImageValue) (b : SetQueryValue) (stop : ℕ) (points : List (Point V)) (walk : Option ℕ)
      (text : List ℕ)
      → HasJourneys rules image.timetable (from_stop b stop) points
      (λ departures. text ≡ journeys_text figures form (stop_bytes image.names stop) departures walk)
      → IsInForm figures rules (journeys_form form) image b stop points walk text
  journeys_in_form Form.Lines image b stop points walk text has = has
  journeys_in_form Form.Json image b stop points walk text has = has

-- the text of a stop's points, without journeys
pub points_shown : {K L V : Type 0} {c : _} {value : L → KeptValue V} (rules_of : K → Rules V) (figures : V → Figures) (form : DeparturesForm)
    (image : ImageValue) (profiles : ProfilesToAny K L V c) (criterion : K) (stop : ℕ) (points : List (Point V)) (text old new : List ℕ)
    → stop < image.timetable.stops → (Contains (asked_to_any profiles).targets stop → ⊥) → criterion_to_any profiles ≡ criterion
    → AnswerToAny rules_of value image.timetable profiles → points ≡ listed_to_any profiles stop
    → IsInForm figures (rules_of criterion) form image (asked_to_any profiles) stop points (secs_of (walk_to_any profiles stop)) text → new ≡ old ++ text
    → ShowsStop figures (rules_of criterion) form image (asked_to_any profiles) stop old new (length points)
points_shown {K} {L} {V} rules_of figures form image profiles criterion stop points text old new lt other same all is in_form added =
    let q = from_stop (asked_to_any profiles) stop in
    let from = all.each stop lt in
    record {
      text = text;
      added = added;
      shown = record {
        points = points;
        walk = walk_to_any profiles stop;
        answer = subst (λ (k : K). IsAnswerBetween (rules_of k) image.timetable q points) same
            (subst (λ (ps : List (Point V)). IsAnswerBetween (rules_of (criterion_to_any profiles)) image.timetable q ps) (sym is) from.answer);
        direct = all.direct stop lt other;
        counted = refl;
        shown = in_form;
      };
    }

-- the text of a stop's departures, with journeys
pub journeys_shown : {K L V : Type 0} {c : _} {value : L → KeptValue V} (rules_of : K → Rules V) (figures : V → Figures) (form : DeparturesForm)
    (image : ImageValue) (profiles : ProfilesToAny K L V c) (criterion : K) (stop : ℕ) (departures : List (Departure V)) (count : ℕ)
    (text old new : List ℕ) → count ≡ length departures → stop < image.timetable.stops → (Contains (asked_to_any profiles).targets stop → ⊥)
    → criterion_to_any profiles ≡ criterion
    → AnswerToAny rules_of value image.timetable profiles
    → IsAnswerBetween (rules_of (criterion_to_any profiles)) image.timetable (from_stop (asked_to_any profiles) stop) (map point_of departures)
    → IsInForm figures (rules_of criterion) form image (asked_to_any profiles) stop (map point_of departures) (secs_of (walk_to_any profiles stop)) text
    → new ≡ old ++ text
    → ShowsStop figures (rules_of criterion) form image (asked_to_any profiles) stop old new count
journeys_shown {K} {L} {V} rules_of figures form image profiles criterion stop departures count text old new many lt other same all answer in_form added =
    let q = from_stop (asked_to_any profiles) stop in
    record {
      text = text;
      added = added;
      shown = record {
        points = map point_of departures;
        walk = walk_to_any profiles stop;
        answer = subst (λ (k : K). IsAnswerBetween (rules_of k) image.timetable q (map point_of departures)) same answer;
        direct = all.direct stop lt other;
        counted = many ∙ sym (length-map departures point_of);
        shown = in_form;
      };
    }

-- departures have journeys that attain them, by one criterion's rules and by the same one's
pub has_journeys : {K V : Type 0} (rules_of : K → Rules V) (t : TimetableValue) (q : SetQueryValue) (old criterion : K) (departures : List (Departure V))
    (said : List (Departure V) → Type 0) → old ≡ criterion
    → ((d : Departure V) → Contains departures d → AttainsBetween (rules_of old) t q (point_of d) d.journey) → said departures
    → HasJourneys (rules_of criterion) t q (map point_of departures) said
has_journeys {K} {V} rules_of t q old criterion departures said same attained holds = record {
  departures = departures;
  are = refl;
  attained = λ d has. subst (λ (k : K). AttainsBetween (rules_of k) t q (point_of d) d.journey) same (attained d has);
  holds = holds;
}
