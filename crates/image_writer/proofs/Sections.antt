-- Eight sections, one after the other, are an image.
use Rattle.std.proofs.Common.{◌≡◌, ℕ, List, [], ◌++◌, map, refl, sym, ap, subst, ◌∙◌, arith}
use Rattle.std.specs.List.{flat_map}
use Rattle.std.proofs.lemmas.List.{append_assoc}
use Rattle.timetable.specs.TimetableValue.{TimetableValue}
use Rattle.timetable.specs.NamesValue.{NamesValue, TripNameValue}
use Rattle.image_layout.specs.declared.layout.TheConstants.{LAYOUT}
use Rattle.image_layout.specs.Fields.{layout_of}
use Rattle.image_layout.specs.Image.{HasImage, IsImage}
use Rattle.image_layout.specs.Spelling.{header, connection_words, foot_index, footpath_words, name_index, text, text_words, image, image_in}

joined : (a b c d e f g h : List ℕ) → ((((((a ++ b) ++ c) ++ d) ++ e) ++ f) ++ g) ++ h ≡ a ++ (b ++ (c ++ (d ++ (e ++ (f ++ (g ++ h))))))
joined a b c d e f g h =
    append_assoc (((((a ++ b) ++ c) ++ d) ++ e) ++ f) g h
    ∙ append_assoc ((((a ++ b) ++ c) ++ d) ++ e) f (g ++ h)
    ∙ append_assoc (((a ++ b) ++ c) ++ d) e (f ++ (g ++ h))
    ∙ append_assoc ((a ++ b) ++ c) d (e ++ (f ++ (g ++ h)))
    ∙ append_assoc (a ++ b) c (d ++ (e ++ (f ++ (g ++ h))))
    ∙ append_assoc a b (c ++ (d ++ (e ++ (f ++ (g ++ h)))))

-- the words as they were before the first section and are behind each
pub sections_are_image : (t : TimetableValue) (n : NamesValue) (none w1 w2 w3 w4 w5 w6 w7 w8 : List ℕ)
    → none ≡ []
    → w1 ≡ none ++ header LAYOUT t n
    → w2 ≡ w1 ++ flat_map connection_words t.connections
    → w3 ≡ w2 ++ foot_index t
    → w4 ≡ w3 ++ flat_map footpath_words t.footpaths
    → w5 ≡ w4 ++ name_index n
    → w6 ≡ w5 ++ map (λ (trip : TripNameValue). trip.day) n.trips
    → w7 ≡ w6 ++ map (λ (trip : TripNameValue). trip.repeat) n.trips
    → w8 ≡ w7 ++ text_words (text n)
    → w8 ≡ image t n
unfolding image_in
sections_are_image t n none w1 w2 w3 w4 w5 w6 w7 w8 e e1 e2 e3 e4 e5 e6 e7 e8 =
    rw (e8, e7, e6, e5, e4, e3, e2, e1, e)
    (joined (header LAYOUT t n) (flat_map connection_words t.connections) (foot_index t) (flat_map footpath_words t.footpaths) (name_index n)
    (map (λ (trip : TripNameValue). trip.day) n.trips) (map (λ (trip : TripNameValue). trip.repeat) n.trips) (text_words (text n)))

-- words so spelled are an image
pub is_image : (t : TimetableValue) (n : NamesValue) (words : List ℕ) → HasImage t n → words ≡ image t n → IsImage words t n
unfolding image_in
is_image t n words can e = subst (λ (w : List ℕ). IsImage w t n) (sym e) (record {
  can_be = can;
  layout = refl;
  first =
      λ same. absurd (omega (arith, same));
  spelled = refl;
})

-- and name the layout that is written
pub names_the_layout : (t : TimetableValue) (n : NamesValue) (words : List ℕ) → words ≡ image t n → layout_of words ≡ LAYOUT
unfolding image_in
names_the_layout t n words e = ap (λ (w : List ℕ). layout_of w) e
