-- An image shows the timetable that it was spelled from.
use Rattle.std.proofs.Common.{◌≡◌, ℕ, zero, suc, ◌+◌, ◌-◌, ◌*◌, ◌/◌, ◌%◌, ◌<◌, ◌≤◌, Bool, true, false, cond, eqb, ltb}
use Rattle.std.proofs.Common.{List, [], ◌∷◌, ◌++◌, length, get_or, drop, map, Some, refl, sym, ap, ◌∙◌, arith, inl, inr}
use Rattle.std.specs.Prelude.{slice_get}
use Rattle.std.specs.List.{flat_map}
use Rattle.std.proofs.lemmas.Bool.{cases_lt, lt-ltb, le-ltb}
use Rattle.std.proofs.lemmas.Option.{slice_get-get_or, slice_get_within, same_Some}
use Rattle.std.proofs.lemmas.List.{drop-drop, drop_at, get_or-drop, get_or_append_left, get_or-append_right, length-append}
use Rattle.std.proofs.lemmas.List.FromFn.{fill_by_all, length-map-range_with_len, get_or-map-range_with_len}
use Rattle.std.proofs.lemmas.List.Sums.{sum_by-cons}
use Rattle.timetable.specs.declared.network.Connection.{Connection}
use Rattle.timetable.specs.declared.network.Footpath.{Footpath}
use Rattle.timetable.specs.TimetableValue.{TimetableValue}
use Rattle.timetable.specs.NamesValue.{NamesValue, TripNameValue}
use Rattle.timetable.specs.Legal.{At}
use Rattle.image_layout.specs.Offsets.{header_of, footpath_offset}
use Rattle.image_layout.specs.Fields.{from_of, to_of, dep_of, arr_of, trip_of, flags_of, foot_index_of, foot_from_of, foot_secs_of}
use Rattle.image_layout.specs.Spelling.{flags, connection_words, footpath_words, footpath_count_below, foot_index}
use Rattle.image_layout.specs.Spelling.{name_index, text_words, text, repeats_in, image_in}
use Rattle.image_layout.specs.Shown.{connection_of, connections_of, footpath_of}

-- what stands from the connections on, from the index of the footpaths on, and so forth
abbrev pub from_repeats : ℕ → NamesValue → List ℕ
from_repeats layout n = repeats_in layout n ++ text_words (text n)

abbrev pub from_days : ℕ → NamesValue → List ℕ
from_days layout n = map (λ (t : TripNameValue). t.day) n.trips ++ from_repeats layout n

abbrev pub from_names : ℕ → NamesValue → List ℕ
from_names layout n = name_index n ++ from_days layout n

abbrev pub from_footpaths : ℕ → TimetableValue → NamesValue → List ℕ
from_footpaths layout p n = flat_map footpath_words p.footpaths ++ from_names layout n

abbrev pub from_foot_index : ℕ → TimetableValue → NamesValue → List ℕ
from_foot_index layout p n = foot_index p ++ from_footpaths layout p n

-- behind a section stands the next one
pub skip : (w s rest : List ℕ) (p n : ℕ) → length s ≡ n → drop p w ≡ s ++ rest → drop (p + n) w ≡ rest
skip w s rest p n size e = sym (drop-drop n p w) ∙ ap (λ (x : List ℕ). drop n x) e ∙ drop_at s rest n size

-- a word of a section
pub word_in : (w s rest : List ℕ) (p i : ℕ) → drop p w ≡ s ++ rest → i < length s → get_or w (p + i) 0 ≡ get_or s i 0
word_in w s rest p i e lt = sym (get_or-drop p w i 0) ∙ ap (λ (x : List ℕ). get_or x i 0) e ∙ get_or_append_left s rest 0 i lt

-- a word of a piece, where all pieces are as long
pub piece_word : {X : Type 0} (f : X → List ℕ) (k : ℕ) → ((x : X) → length (f x) ≡ k) → (xs : List X) (i r : ℕ) (x : X)
    → slice_get xs i ≡ Some x → r < k → get_or (flat_map f xs) (k * i + r) 0 ≡ get_or (f x) r 0
piece_word f k size [] i r x e lt = absurd cc
piece_word f k size (y ∷ ys) zero r x e lt =
    let z : k * zero + r ≡ r = omega arith in
    let same : y ≡ x = same_Some y x e in
    ap (λ (j : ℕ). get_or (f y ++ flat_map f ys) j 0) z
    ∙ get_or_append_left (f y) (flat_map f ys) 0 r (omega (arith, size y)) ∙ ap (λ (z : _). get_or (f z) r 0) same
piece_word f k size (y ∷ ys) (suc i) r x e lt =
    let many : k * suc i ≡ k + k * i = omega arith in
    let back : (k * suc i + r) - k ≡ k * i + r = omega (arith, many) in
    get_or-append_right (f y) (flat_map f ys) k (k * suc i + r) 0 (size y) (omega (arith, many))
    ∙ ap (λ (j : ℕ). get_or (flat_map f ys) j 0) back ∙ piece_word f k size ys i r x e lt

pub pieces_long : {X : Type 0} (f : X → List ℕ) (k : ℕ) → ((x : X) → length (f x) ≡ k) → (xs : List X) → length (flat_map f xs) ≡ k * length xs
pieces_long f k size [] = let z : k * zero ≡ 0 = omega arith in sym z
pieces_long f k size (y ∷ ys) =
    let many : k * suc (length ys) ≡ k + k * length ys = omega arith in
    let rest = pieces_long f k size ys in
    omega (arith, length-append (f y) (flat_map f ys), size y, rest, many)

flags_board : (a b : Bool) → eqb ((cond {A = ℕ} a 1 0 + cond {A = ℕ} b 2 0) % 2) 1 ≡ a
flags_board true true = refl
flags_board true false = refl
flags_board false true = refl
flags_board false false = refl

flags_alight : (a b : Bool) → eqb ((cond {A = ℕ} a 1 0 + cond {A = ℕ} b 2 0) / 2) 1 ≡ b
flags_alight true true = refl
flags_alight true false = refl
flags_alight false true = refl
flags_alight false false = refl

-- word r of connection i
connection_word : (layout : ℕ) (p : TimetableValue) (n : NamesValue) (i r : ℕ) (c : Connection) → At p.connections i c
    → r < 6 → get_or (image_in layout p n) (9 + 6 * i + r) 0 ≡ get_or (connection_words c) r 0
unfolding image_in
connection_word layout p n i r c e lt =
    let position : (9 + 6 * i) + r ≡ 9 + (6 * i + r) = omega arith in
    let size : length (flat_map connection_words p.connections) ≡ 6 * length p.connections = pieces_long connection_words 6 (λ x. refl) p.connections in
    let within : i < length p.connections = slice_get_within p.connections i c e in
    ap (λ (j : ℕ). get_or (image_in layout p n) j 0) position
    ∙ word_in (image_in layout p n) (flat_map connection_words p.connections) (from_foot_index layout p n) 9 (6 * i + r) refl (omega (arith, size))
    ∙ piece_word connection_words 6 (λ x. refl) p.connections i r c e lt

connection_back : (layout : ℕ) (p : TimetableValue) (n : NamesValue) (i : ℕ) (c : Connection) → At p.connections i c → connection_of (image_in layout p n) i ≡ c
connection_back layout p n i c e =
    let z : 9 + 6 * i + 0 ≡ 9 + 6 * i = omega arith in
    let e0 : from_of (image_in layout p n) i ≡ c.from =
    ap (λ (j : ℕ). get_or (image_in layout p n) j 0) (sym z) ∙ connection_word layout p n i 0 c e (omega arith) in
    let e1 : to_of (image_in layout p n) i ≡ c.to = connection_word layout p n i 1 c e (omega arith) in
    let e2 : dep_of (image_in layout p n) i ≡ c.dep = connection_word layout p n i 2 c e (omega arith) in
    let e3 : arr_of (image_in layout p n) i ≡ c.arr = connection_word layout p n i 3 c e (omega arith) in
    let e4 : trip_of (image_in layout p n) i ≡ c.trip = connection_word layout p n i 4 c e (omega arith) in
    let e5 : flags_of (image_in layout p n) i ≡ flags c = connection_word layout p n i 5 c e (omega arith) in
    let b : eqb (flags_of (image_in layout p n) i % 2) 1 ≡ c.board = ap (λ (x : ℕ). eqb (x % 2) 1) e5 ∙ flags_board c.board c.alight in
    let a : eqb (flags_of (image_in layout p n) i / 2) 1 ≡ c.alight = ap (λ (x : ℕ). eqb (x / 2) 1) e5 ∙ flags_alight c.board c.alight in
    rw (e0, e1, e2, e3, e4, b, a) refl

pub flags_back : (layout : ℕ) (p : TimetableValue) (n : NamesValue) (i : ℕ) (c : Connection) → At p.connections i c → flags_of (image_in layout p n) i ≡ flags c
flags_back layout p n i c e = connection_word layout p n i 5 c e (omega arith)

-- an image shows the connections that it was spelled from
pub connections_back : (layout : ℕ) (p : TimetableValue) (n : NamesValue) → connections_of (image_in layout p n) ≡ p.connections
unfolding connections_of image_in
connections_back layout p n =
    let d = connection_of (image_in layout p n) 0 in
    sym (fill_by_all (connection_of (image_in layout p n)) p.connections (length p.connections) d refl (λ k lt.
    sym (connection_back layout p n k (get_or p.connections k d) (slice_get-get_or p.connections k d lt))))

-- ---- footpaths in the order of their list

abbrev pub NeverFalls : List Footpath → Type 0
NeverFalls fs = (i : ℕ) (d e : Footpath) → At fs i d → At fs (i + 1) e → d.to ≤ e.to

abbrev one_below : ℕ → Footpath → ℕ
one_below s f = cond (ltb f.to s) 1 0

counted : (f : Footpath) (fs : List Footpath) (s : ℕ) → footpath_count_below (f ∷ fs) s ≡ one_below s f + footpath_count_below fs s
counted f fs s = sum_by-cons (one_below s) f fs

one-yes : (s : ℕ) (f : Footpath) → f.to < s → one_below s f ≡ 1
one-yes s f lt = ap (λ (b : Bool). cond {A = ℕ} b 1 0) (lt-ltb f.to s lt)

one-no : (s : ℕ) (f : Footpath) → s ≤ f.to → one_below s f ≡ 0
one-no s f le = ap (λ (b : Bool). cond {A = ℕ} b 1 0) (le-ltb f.to s le)

-- without the first
behind : (f : Footpath) (fs : List Footpath) → NeverFalls (f ∷ fs) → NeverFalls fs
behind f fs h i d e at_d at_e =
    let k : suc i + 1 ≡ suc (i + 1) = omega arith in
    h (suc i) d e at_d (ap (λ (x : ℕ). slice_get (f ∷ fs) x) k ∙ at_e)

-- none leads below where the first one leads
none_before_first : (fs : List Footpath) (f : Footpath) (s : ℕ) → NeverFalls (f ∷ fs) → s ≤ f.to → footpath_count_below (f ∷ fs) s ≡ 0
none_before_first [] f s h le = let e = counted f [] s in omega (arith, e, one-no s f le)
none_before_first (g ∷ gs) f s h le =
    let up : f.to ≤ g.to = h 0 f g refl refl in
    let rest = none_before_first gs g s (behind f (g ∷ gs) h) (omega arith) in
    omega (arith, counted f (g ∷ gs) s, one-no s f le, rest)

-- the first one leads no further than each other
first_least : (fs : List Footpath) (g f : Footpath) (k : ℕ) → NeverFalls (g ∷ fs) → At (g ∷ fs) k f → g.to ≤ f.to
first_least fs g f zero h at = omega (arith, ap (λ (x : Footpath). x.to) (same_Some g f at))
first_least [] g f (suc k) h at = absurd cc
first_least (y ∷ ys) g f (suc k) h at =
    let up : g.to ≤ y.to = h 0 g y refl refl in
    let rest = first_least ys y f k (behind g (y ∷ ys) h) at in
    omega arith

-- a footpath that leads below s has one of the first indices, and one that doesn't has none of them
pub offset_below : (fs : List Footpath) (k s : ℕ) (f : Footpath) → NeverFalls fs → At fs k f → f.to < s → k < footpath_count_below fs s
offset_below [] k s f h at lt = absurd cc
offset_below (g ∷ gs) zero s f h at lt =
    let one = one-yes s g (omega (arith, ap (λ (x : Footpath). x.to) (same_Some g f at))) in
    omega (arith, counted g gs s, one)
offset_below (g ∷ gs) (suc k) s f h at lt =
    let least = first_least gs g f (suc k) h at in
    let one = one-yes s g (omega arith) in
    let rest = offset_below gs k s f (behind g gs h) at lt in
    omega (arith, counted g gs s, one, rest)

pub offset_above : (fs : List Footpath) (k s : ℕ) (f : Footpath) → NeverFalls fs → At fs k f → s ≤ f.to → footpath_count_below fs s ≤ k
offset_above [] k s f h at le = absurd cc
offset_above (g ∷ gs) zero s f h at le =
    let none = none_before_first gs g s h (omega (arith, ap (λ (x : Footpath). x.to) (same_Some g f at))) in
    omega (arith, none)
offset_above (g ∷ gs) (suc k) s f h at le =
    let rest = offset_above gs k s f (behind g gs h) at le in
    elim (cases_lt g.to s) [
      | inl lt ↦ omega (arith, counted g gs s, one-yes s g lt, rest)
      | inr ge ↦ omega (arith, counted g gs s, one-no s g ge, rest)
    ]

-- the index of the footpaths of an image
pub foot_index_back : (layout : ℕ) (p : TimetableValue) (n : NamesValue) (s : ℕ) → s ≤ p.stops
    → foot_index_of (image_in layout p n) s ≡ footpath_count_below p.footpaths s
unfolding image_in
foot_index_back layout p n s le =
    let size : length (flat_map connection_words p.connections) ≡ 6 * length p.connections = pieces_long connection_words 6 (λ x. refl) p.connections in
    let at : drop (9 + 6 * length p.connections) (image_in layout p n) ≡ from_foot_index layout p n =
    skip (image_in layout p n) (flat_map connection_words p.connections) (from_foot_index layout p n) 9
    (6 * length p.connections) size refl in
    let long = length-map-range_with_len (footpath_count_below p.footpaths) 0 (p.stops + 1) in
    word_in (image_in layout p n) (foot_index p) (from_footpaths layout p n) (9 + 6 * length p.connections) s at (omega (arith, long))
    ∙ get_or-map-range_with_len (footpath_count_below p.footpaths) 0 (p.stops + 1) s s 0 (omega arith) (omega arith)

-- the first footpath leads below nothing, and all lead below the number of stops
pub none_below_zero : (fs : List Footpath) → footpath_count_below fs 0 ≡ 0
none_below_zero [] = refl
none_below_zero (f ∷ fs) = omega (arith, counted f fs 0, one-no 0 f (omega arith), none_below_zero fs)

pub all_below : (fs : List Footpath) (s : ℕ) → ((i : ℕ) (f : Footpath) → At fs i f → f.to < s) → footpath_count_below fs s ≡ length fs
all_below [] s h = refl
all_below (f ∷ fs) s h = omega (arith, counted f fs s, one-yes s f (h 0 f refl), all_below fs s (λ i g at. h (suc i) g at))

pub below_rises : (fs : List Footpath) (s : ℕ) → footpath_count_below fs s ≤ footpath_count_below fs (s + 1)
below_rises [] s = omega arith
below_rises (f ∷ fs) s =
    let rest = below_rises fs s in
    elim (cases_lt f.to s) [
      | inl lt ↦ omega (arith, counted f fs s, counted f fs (s + 1), one-yes s f lt, one-yes (s + 1) f (omega arith), rest)
      | inr ge ↦ omega (arith, counted f fs s, counted f fs (s + 1), one-no s f ge, rest)
    ]

-- word r of the footpath at index k
footpath_word : (layout : ℕ) (p : TimetableValue) (n : NamesValue) (k r : ℕ) (f : Footpath) → At p.footpaths k f → r < 2
    → get_or (image_in layout p n) (footpath_offset (header_of (image_in layout p n)) + (2 * k + r)) 0
    ≡ get_or (footpath_words f) r 0
unfolding image_in
footpath_word layout p n k r f e lt =
    let size : length (flat_map connection_words p.connections) ≡ 6 * length p.connections = pieces_long connection_words 6 (λ x. refl) p.connections in
    let at_index : drop (9 + 6 * length p.connections) (image_in layout p n) ≡ from_foot_index layout p n =
    skip (image_in layout p n) (flat_map connection_words p.connections) (from_foot_index layout p n) 9
    (6 * length p.connections) size refl in
    let long : length (foot_index p) ≡ p.stops + 1 = length-map-range_with_len (footpath_count_below p.footpaths) 0 (p.stops + 1) in
    let at_feet : drop ((9 + 6 * length p.connections) + (p.stops + 1)) (image_in layout p n)
    ≡ from_footpaths layout p n = skip (image_in layout p n) (foot_index p) (from_footpaths layout p n)
    (9 + 6 * length p.connections) (p.stops + 1) long at_index in
    let position : footpath_offset (header_of (image_in layout p n)) + (2 * k + r) ≡ ((9 + 6 * length p.connections) + (p.stops + 1)) + (2 * k + r)
    = omega arith in
    let many : length (flat_map footpath_words p.footpaths) ≡ 2 * length p.footpaths = pieces_long footpath_words 2 (λ x. refl) p.footpaths in
    let within : k < length p.footpaths = slice_get_within p.footpaths k f e in
    ap (λ (j : ℕ). get_or (image_in layout p n) j 0) position
    ∙ word_in (image_in layout p n) (flat_map footpath_words p.footpaths) (from_names layout n)
    ((9 + 6 * length p.connections) + (p.stops + 1)) (2 * k + r) at_feet (omega (arith, many))
    ∙ piece_word footpath_words 2 (λ x. refl) p.footpaths k r f e lt

pub footpath_back : (layout : ℕ) (p : TimetableValue) (n : NamesValue) (k : ℕ) (f : Footpath) → At p.footpaths k f
    → footpath_of (image_in layout p n) f.to k ≡ f
footpath_back layout p n k f e =
    let z : footpath_offset (header_of (image_in layout p n)) + 2 * k ≡ footpath_offset (header_of (image_in layout p n)) + (2 * k + 0) = omega arith in
    let y : footpath_offset (header_of (image_in layout p n)) + 2 * k + 1 ≡ footpath_offset (header_of (image_in layout p n)) + (2 * k + 1) = omega arith in
    let from : foot_from_of (image_in layout p n) k ≡ f.from =
    ap (λ (j : ℕ). get_or (image_in layout p n) j 0) z ∙ footpath_word layout p n k 0 f e (omega arith) in
    let secs : foot_secs_of (image_in layout p n) k ≡ f.secs =
    ap (λ (j : ℕ). get_or (image_in layout p n) j 0) y ∙ footpath_word layout p n k 1 f e (omega arith) in
    rw (from, secs) refl
