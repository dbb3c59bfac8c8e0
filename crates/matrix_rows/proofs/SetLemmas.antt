-- Lists of sets, and what they are called.
use Rattle.std.proofs.Common.{◌≡◌, ◌<◌, ◌≤◌, ◌+◌, ◌∙◌, ℕ, zero, suc, List, [], ◌∷◌, ◌++◌, append-nil, append_assoc, ap, arith, get_or, length, map}
use Rattle.std.proofs.Common.{refl, sym, take}
use Rattle.std.specs.List.{flat_map}
use Rattle.std.proofs.lemmas.Grind.{flat_map-append}
use Rattle.std.proofs.lemmas.List.{length-map, length-take-le, map-append, take_all, take_more}
use Rattle.matrix_rows.specs.Joining.{tab_before}
use Rattle.matrix_rows.specs.Listed.{ids_in}
use Rattle.timetable.specs.NamesValue.{NamesValue}
use Rattle.image_facts.specs.Naming.{stop_bytes}
use Rattle.matrix_rows.specs.Tables.{set_bytes, tabbed}
use Rattle.matrix_rows.proofs.Sought.{at_index, more_listed}

-- the ids of one line more
pub next_ids : {A B : Type 0} (f : A → List ℕ) (g : B → List ℕ) (items : List A) (index : ℕ) (d : A) (ids more now : List B) → index < length items
    → map g ids ≡ flat_map ids_in (take index (map f items)) → map g more ≡ ids_in (f (get_or items index d)) → now ≡ ids ++ more
    → map g now ≡ flat_map ids_in (take (index + 1) (map f items))
next_ids f g items index d ids more now less so_far these is =
    let line = f (get_or items index d) in
    let front = take index (map f items) in
    ap (map g) is ∙ map-append g ids more ∙ ap (λ (x : List (List ℕ)). x ++ map g more) so_far
    ∙ ap (λ (x : List (List ℕ)). flat_map ids_in front ++ x) these
    ∙ ap (λ (x : List (List ℕ)). flat_map ids_in front ++ x) (sym (append-nil (ids_in line)))
    ∙ sym (flat_map-append ids_in front (line ∷ []))
    ∙ ap (flat_map ids_in) (sym (more_listed (map f items) index line (at_index f items index d less)))

pub all_lines : {A : Type 0} (f : A → List ℕ) (items : List A) (index : ℕ) (ids : List (List ℕ)) → length items ≤ index
    → ids ≡ flat_map ids_in (take index (map f items)) → ids ≡ flat_map ids_in (map f items)
all_lines f items index ids over is =
    let long = length-map items f in
    is ∙ ap (flat_map ids_in) (take_all index (map f items) (omega (arith, over, long)))

-- one name more
pub tabbed_more : (texts : List (List ℕ)) (index : ℕ) (text : List ℕ) → length texts ≡ index
    → tabbed (texts ++ text ∷ []) ≡ tabbed texts ++ (tab_before index ++ text)
unfolding tabbed
tabbed_more [] zero text long = append-nil text
tabbed_more [] (suc index) text long = absurd (omega (arith, long))
tabbed_more (first ∷ texts) zero text long = absurd (omega (arith, long))
tabbed_more (first ∷ texts) (suc index) text long =
    ap (λ (x : List ℕ). first ++ x)
    (flat_map-append (λ other. 9 ∷ other) texts (text ∷ [])
    ∙ ap (λ (x : List ℕ). flat_map (λ other. 9 ∷ other) texts ++ x) (append-nil (9 ∷ text)))
    ∙ sym (append_assoc first (flat_map (λ other. 9 ∷ other) texts) (9 ∷ text))

pub no_name : (names : NamesValue) → set_bytes names [] ≡ []
unfolding tabbed
no_name names = refl

-- the names of the stops so far, and that of the next one
pub name_more : (names : NamesValue) (stops : List ℕ) (index d : ℕ) (old name new : List ℕ) → index < length stops
    → old ≡ set_bytes names (take index stops) → name ≡ stop_bytes names (get_or stops index d) → new ≡ old ++ (tab_before index ++ name)
    → new ≡ set_bytes names (take (index + 1) stops)
name_more names stops index d old name new less so_far this is =
    let stop = get_or stops index d in
    let front = map (stop_bytes names) (take index stops) in
    let long : length front ≡ index = (let m = length-map (take index stops) (stop_bytes names) in let k = length-take-le index stops (omega (arith, less)) in
    omega (arith, m, k)) in
    let more : map (stop_bytes names) (take (index + 1) stops) ≡ front ++ stop_bytes names stop ∷ [] =
    ap (map (stop_bytes names)) (take_more stops index d less) ∙ map-append (stop_bytes names) (take index stops) (stop ∷ []) in
    is ∙ ap (λ (x : List ℕ). x ++ (tab_before index ++ name)) so_far
    ∙ ap (λ (x : List ℕ). tabbed front ++ (tab_before index ++ x)) this
    ∙ sym (tabbed_more front index (stop_bytes names stop) long) ∙ ap tabbed (sym more)

pub all_names : (names : NamesValue) (stops : List ℕ) (index : ℕ) → length stops ≤ index → set_bytes names (take index stops) ≡ set_bytes names stops
all_names names stops index over = ap (set_bytes names) (take_all index stops over)
