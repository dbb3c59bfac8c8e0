-- Stops whose names have a text in them, one by one.
use Rattle.std.proofs.Common.{◌≡◌, ℕ, ◌+◌, List, [], ◌∷◌, ◌++◌, arith, sym, ap, ◌∙◌, subst}
use Rattle.std.specs.List.{AllZip}
use Rattle.std.proofs.lemmas.List.{flat_map_more}
use Rattle.std.proofs.lemmas.List.FromFn.{map-range_with_len_more}
use Rattle.std.proofs.lemmas.Slice.Zip.{all_zipped_more}
use Rattle.timetable.specs.NamesValue.{NamesValue}
use Rattle.image_facts.specs.Naming.{stop_bytes}
use Rattle.image_commands.specs.StopLines.{AreFound, IsFound, numbered}

-- none of zero stops is found
pub none_found : (names : NamesValue) (text found : List ℕ) → found ≡ [] → AreFound names text 0 found
none_found names text found none = record { parts = []; each = tt; joined = none }

-- one stop more
pub one_stop_more : (names : NamesValue) (text : List ℕ) (n : ℕ) (old new part : List ℕ) → IsFound text (n, stop_bytes names n) part
    → new ≡ old ++ part → AreFound names text n old → AreFound names text (n + 1) new
one_stop_more names text n old new part is added are =
    let numbering : ℕ → ℕ × List ℕ = λ stop. (stop, stop_bytes names stop) in
    record {
      parts = are.parts ++ part ∷ [];
      each = subst (λ (stops : List (ℕ × List ℕ)). AllZip (IsFound text) stops (are.parts ++ part ∷ []))
          (sym (map-range_with_len_more numbering 0 n n (omega arith)))
          (all_zipped_more (IsFound text) (numbered names n) are.parts (n, stop_bytes names n) part are.each is);
      joined = added ∙ ap (λ (z : List ℕ). z ++ part) are.joined ∙ flat_map_more (λ (p : List ℕ). p) [] are.parts part;
    }
