use Rattle.std.proofs.Common.{◌≡◌, ℕ, ◌+◌, List, ◌++◌, map, refl, ap, ◌∙◌}
use Rattle.std.specs.List.{flat_map, range_with_len}
use Rattle.timetable.specs.declared.network.Connection.{Connection}
use Rattle.timetable.specs.declared.network.Footpath.{Footpath}
use Rattle.timetable.specs.TimetableValue.{TimetableValue}
use Rattle.timetable.specs.NamesValue.{NamesValue, TripNameValue}
use Rattle.image_layout.specs.Spelling.{connection_words, footpath_words, footpath_count_below, image}
use Rattle.image_layout.specs.Image.{NamesFit}
use Rattle.image_writer.proofs.Fits.{front_fits, numbers_fit}
use Rattle.image_writer.proofs.Sections.{sections_are_image, is_image, names_the_layout}
use Rattle.image_writer.proofs.image.write.Goals as goal

-- the words behind the days
with_days : (c : goal.In_ok-write_text) → List ℕ
with_days c = c.write_name_index.new.words.items ++ map (λ (trip : TripNameValue). trip.day) c.args.names.now.trips

written : (c : goal.In_ok-write_text)
    → c.write_days_and_repeats.new.words.items ≡ with_days c ++ map (λ (trip : TripNameValue). trip.repeat) c.args.names.now.trips
unfolding with_days
written c =
    let front = c.write_name_index.new.words.items in
    let trips : c.deref-4.result.now ≡ c.args.names.now.trips = c.deref-4.ensures.value ∙ ap (λ (v : NamesValue). v.trips) c.names.view_is in
    c.in_ok-write_days_and_repeats.ensures.written
    ∙ ap (λ (ts : List TripNameValue). (front ++ map (λ (trip : TripNameValue). trip.day) ts) ++ map (λ (trip : TripNameValue). trip.repeat) ts) trips

names_fit : (c : goal.In_ok-write_text) → NamesFit c.args.timetable.now c.args.names.now
unfolding with_days
names_fit c = record {
  stop_names = c.requires.stop_names;
  trip_names = c.requires.trip_names;
  utf8 = c.in_ok-write_text.ensures.utf8;
  bytes = c.requires.bytes;
  days = numbers_fit (λ (trip : TripNameValue). trip.day) c.write_name_index.new.words.items c.args.names.now.trips (with_days c) refl
      (front_fits (with_days c) _ _ (written c) c.in_ok-write_days_and_repeats.ensures.fits);
  repeats = numbers_fit (λ (trip : TripNameValue). trip.repeat) (with_days c) c.args.names.now.trips _ (written c) c.in_ok-write_days_and_repeats.ensures.fits;
  base = c.write_header.ensures.fits;
}

-- what was written is spelled
spelled : (c : goal.In_ok-write_text) → c.write_text.new.words.items ≡ image c.args.timetable.now c.args.names.now
unfolding with_days
spelled c =
    let t = c.args.timetable.now in
    let n = c.args.names.now in
    let w1 = c.write_header.new.words.items in
    let w2 = c.write_connections.new.words.items in
    let w3 = c.write_foot_index.new.words.items in
    let stops : c.timetable.inside.stops ≡ t.stops = ap (λ (v : TimetableValue). v.stops) c.timetable.view_is in
    let connections : c.deref.result.now ≡ t.connections = c.deref.ensures.value ∙ ap (λ (v : TimetableValue). v.connections) c.timetable.view_is in
    let indexed : c.deref-2.result.now ≡ t.footpaths = c.deref-2.ensures.value ∙ ap (λ (v : TimetableValue). v.footpaths) c.timetable.view_is in
    let footpaths : c.deref-3.result.now ≡ t.footpaths = c.deref-3.ensures.value ∙ ap (λ (v : TimetableValue). v.footpaths) c.timetable.view_is in
    sections_are_image t n _ _ _ _ _ _ _ _ _
    c.in_ok-words.ensures.items
    (c.in_ok-write_header.ensures.written t c.counts-counts.ensures)
    (c.in_ok-write_connections.ensures ∙ ap (λ (cs : List Connection). w1 ++ flat_map connection_words cs) connections)
    (c.in_ok-write_foot_index.ensures
    ∙ ap (λ (fs : List Footpath). w2 ++ map (footpath_count_below fs) (range_with_len 0 (c.timetable.inside.stops + 1))) indexed
    ∙ ap (λ (count : ℕ). w2 ++ map (footpath_count_below t.footpaths) (range_with_len 0 (count + 1))) stops)
    (c.in_ok-write_footpaths.ensures ∙ ap (λ (fs : List Footpath). w3 ++ flat_map footpath_words fs) footpaths)
    c.in_ok-write_name_index.ensures
    refl
    (written c)
    c.in_ok-write_text.ensures.written

pub returns-clause-image : goal.returns-clause-image
returns-clause-image c =
    is_image c.args.timetable.now c.args.names.now _ (record { legal = c.requires.legal; limits = c.requires.limits; names = names_fit c }) (spelled c)

pub returns-clause-layout : goal.returns-clause-layout
returns-clause-layout c = names_the_layout c.args.timetable.now c.args.names.now _ (spelled c)
