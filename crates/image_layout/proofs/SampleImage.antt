-- The sample timetable and its names have an image.
use Rattle.std.proofs.Common.{◌≡◌, ℕ, zero, suc, ◌+◌, ◌<◌, ◌≤◌, List, [], ◌∷◌, sym, subst, arith, refl, add-one, lit<, lit≤, rules}
use Rattle.std.specs.Str.{IsUtf8}
use Rattle.std.proofs.Math.Utf8.{encode}
use Rattle.std.proofs.lemmas.Option.{same_Some}
use Rattle.timetable.specs.declared.limits.TheConstants.{MAX_WALK_SECS, TIME_END}
use Rattle.timetable.specs.declared.network.Connection.{Connection}
use Rattle.timetable.specs.declared.network.Footpath.{Footpath}
use Rattle.timetable.specs.NamesValue.{TripNameValue}
use Rattle.timetable.specs.Legal.{At, HasFootpath, IsOrderedBefore, IsLegal}
use Rattle.timetable.specs.Limits.{IsWithinLimits}
use Rattle.image_layout.specs.Spelling.{name_list}
use Rattle.image_layout.specs.Image.{AreFirst, NamesFit, HasImage}
use Rattle.image_layout.specs.Sample.{sample_timetable, sample_names}

-- what holds of three holds at each index of their list
each : {X : Type 0} (P : X → Type 0) (x y z : X) → P x → P y → P z → (i : ℕ) (e : X) → At (x ∷ y ∷ z ∷ []) i e → P e
each P x y z px py pz zero e at = subst P (same_Some x e at) px
each P x y z px py pz (suc zero) e at = subst P (same_Some y e at) py
each P x y z px py pz (suc (suc zero)) e at = subst P (same_Some z e at) pz
each P x y z px py pz (suc (suc (suc i))) e at = absurd cc

-- what holds of each two of three, in their order, holds at each two indices
each_two : {X : Type 0} (Q : X → X → Type 0) (x y z : X) → Q x y → Q x z → Q y z → (i j : ℕ) (d e : X) → i < j
    → At (x ∷ y ∷ z ∷ []) i d → At (x ∷ y ∷ z ∷ []) j e → Q d e
each_two Q x y z xy xz yz i zero d e lt at_d at_e = absurd (omega (arith, lt))
each_two Q x y z xy xz yz zero (suc zero) d e lt at_d at_e = subst (Q d) (same_Some y e at_e) (subst (λ v. Q v y) (same_Some x d at_d) xy)
each_two Q x y z xy xz yz zero (suc (suc zero)) d e lt at_d at_e = subst (Q d) (same_Some z e at_e) (subst (λ v. Q v z) (same_Some x d at_d) xz)
each_two Q x y z xy xz yz (suc zero) (suc zero) d e lt at_d at_e = absurd (omega (arith, lt))
each_two Q x y z xy xz yz (suc zero) (suc (suc zero)) d e lt at_d at_e = subst (Q d) (same_Some z e at_e) (subst (λ v. Q v z) (same_Some y d at_d) yz)
each_two Q x y z xy xz yz (suc (suc i)) (suc zero) d e lt at_d at_e = absurd (omega (arith, lt))
each_two Q x y z xy xz yz (suc (suc i)) (suc (suc zero)) d e lt at_d at_e = absurd (omega (arith, lt))
each_two Q x y z xy xz yz i (suc (suc (suc j))) d e lt at_d at_e = absurd cc

-- neighbours stand at two indices
at_next : {X : Type 0} (xs : List X) (i : ℕ) (e : X) → At xs (i + 1) e → At xs (suc i) e
at_next xs i e at = subst (λ (k : ℕ). At xs k e) (add-one i) at

abbrev IsInRange : Connection → Type 0
IsInRange c = (c.from < 3) × (c.to < 3)

abbrev Follows : Connection → Connection → Type 0
Follows c d = c.trip ≡ d.trip → (c.to ≡ d.from) × (c.arr ≤ d.dep)

loops : (s : ℕ) → s < 3 → (secs : ℕ) × HasFootpath sample_timetable.footpaths s s secs
loops zero lt = (0, (0, refl))
loops (suc zero) lt = (0, (1, refl))
loops (suc (suc zero)) lt = (0, (2, refl))
loops (suc (suc (suc s))) lt = absurd (omega (arith, lt))

-- each footpath is a loop
is_loop : (a b secs : ℕ) → HasFootpath sample_timetable.footpaths a b secs → a ≡ b
is_loop a b secs (i, at) = each (λ (f : Footpath). f.from ≡ f.to) _ _ _ refl refl refl i (record { from = a; to = b; secs = secs }) at

sample_is_legal : IsLegal sample_timetable
sample_is_legal = record {
  stops_in_range = each IsInRange _ _ _ (lit< tt, lit< tt) (lit< tt, lit< tt) (lit< tt, lit< tt);
  trips_in_range = each (λ (c : Connection). c.trip < 2) _ _ _ (lit< tt) (lit< tt) (lit< tt);
  ends_in_range = each (λ (f : Footpath). (f.from < 3) × (f.to < 3)) _ _ _ (lit< tt, lit< tt) (lit< tt, lit< tt) (lit< tt, lit< tt);
  takes_time = each (λ (c : Connection). c.dep < c.arr) _ _ _ (lit< tt) (lit< tt) (lit< tt);
  departures_never_fall = λ i c d at_c at_d.
      each_two (λ (c d : Connection). c.dep ≤ d.dep) _ _ _ (lit≤ tt) (lit≤ tt) (lit≤ tt) i (suc i) c d (omega arith)
      at_c (at_next sample_timetable.connections i d at_d);
  unbroken = λ i j c d just. each_two Follows _ _ _ (λ e. (
    refl,
    lit≤ tt,
  )) (λ e. absurd (omega (arith, e))) (λ e. absurd (omega (arith, e))) i j c d just.before just.first
      just.second just.same_trip;
  in_order = λ i d e at_d at_e. each_two IsOrderedBefore _ _ _ (lit≤ tt, λ same. absurd (omega (arith, same))) (
    lit≤ tt,
    λ same. absurd (omega (arith, same)),
  ) (
    lit≤ tt,
    λ same. absurd (omega (arith, same)),
  ) i (suc i) d e (omega arith) at_d
      (at_next sample_timetable.footpaths i e at_e);
  loops = loops;
  closed = λ a b c d1 d2 first second. (d2, subst (λ (x : ℕ). HasFootpath sample_timetable.footpaths x c d2) (sym (is_loop a b d1 first)) second, omega arith);
}

sample_is_within_limits : IsWithinLimits sample_timetable
sample_is_within_limits = record {
  stops = lit≤ tt;
  trips = lit≤ tt;
  connections = lit≤ tt;
  footpaths = lit≤ tt;
  times = each (λ (c : Connection). c.arr < TIME_END) _ _ _ (lit< tt) (lit< tt) (lit< tt);
  walks = each (λ (f : Footpath). f.secs ≤ MAX_WALK_SECS) _ _ _ (lit≤ tt) (lit≤ tt) (lit≤ tt);
}

name_is_text : (i : ℕ) (name : List ℕ) → At (name_list sample_names) i name → IsUtf8 name
unfolding encode
name_is_text zero name at = subst IsUtf8 (same_Some _ name at) (65 ∷ [], (refl, refl))
name_is_text (suc zero) name at = subst IsUtf8 (same_Some _ name at) (66 ∷ [], (refl, refl))
name_is_text (suc (suc zero)) name at = subst IsUtf8 (same_Some _ name at) (67 ∷ [], (refl, refl))
name_is_text (suc (suc (suc zero))) name at = subst IsUtf8 (same_Some _ name at) (84 ∷ 49 ∷ [], (refl, refl))
name_is_text (suc (suc (suc (suc zero)))) name at = subst IsUtf8 (same_Some _ name at) (84 ∷ 50 ∷ [], (refl, refl))
name_is_text (suc (suc (suc (suc (suc i))))) name at = absurd cc

day_is_a_word : (i : ℕ) (trip : TripNameValue) → At sample_names.trips i trip → trip.day < 4294967296
day_is_a_word zero trip at = subst (λ (t : TripNameValue). t.day < 4294967296) (same_Some _ trip at) (lit< tt)
day_is_a_word (suc zero) trip at = subst (λ (t : TripNameValue). t.day < 4294967296) (same_Some _ trip at) (lit< tt)
day_is_a_word (suc (suc i)) trip at = absurd cc

repeat_is_a_word : (i : ℕ) (trip : TripNameValue) → At sample_names.trips i trip → trip.repeat < 4294967296
repeat_is_a_word zero trip at = subst (λ (t : TripNameValue). t.repeat < 4294967296) (same_Some _ trip at) (lit< tt)
repeat_is_a_word (suc zero) trip at = subst (λ (t : TripNameValue). t.repeat < 4294967296) (same_Some _ trip at) (lit< tt)
repeat_is_a_word (suc (suc i)) trip at = absurd cc

sample_names_fit : NamesFit sample_timetable sample_names
sample_names_fit = record {
  stop_names = refl;
  trip_names = refl;
  utf8 = name_is_text;
  bytes = lit≤ tt;
  days = day_is_a_word;
  repeats = repeat_is_a_word;
  base = search rules;
}

pub sample_has_image : HasImage sample_timetable sample_names
sample_has_image = record { legal = sample_is_legal; limits = sample_is_within_limits; names = sample_names_fit }

-- no trip of it is a repeat
pub sample_is_first : AreFirst sample_names
sample_is_first zero d lt = refl
sample_is_first (suc zero) d lt = refl
sample_is_first (suc (suc k)) d lt = absurd (omega (arith, lt))
