-- The rows of a run of targets, as several threads made them, one after the other.
use Rattle.std.proofs.Common.{◌≡◌, ◌∙◌, ◌<◌, ◌+◌, ℕ, List, [], ◌∷◌, ◌++◌, None, Option, Some, Contains, IfSome}
use Rattle.std.proofs.Common.{length, take, drop, slice_get, get_or, inl, inr, refl, sym, ap, subst, arith}
use Rattle.std.specs.Borrow.{Bor}
use Rattle.std.specs.Global.{Vec}
use Rattle.std.specs.Io.KnownBytes.{Appends}
use Rattle.std.proofs.lemmas.List.{append-nil, take_more, take-append-drop}
use Rattle.std.proofs.lemmas.List.Elements.{Contains-get_or, Contains-push_cases}
use Rattle.std.proofs.lemmas.Option.{get_or_from_slice_get, same_Some, slice_get_read, slice_get_within}
use Rattle.matrix_rows.specs.Runs.{AreMade, AreRowsIn, HasText}
use Rattle.matrix_rows.specs.Tables.{AreRowsBy, AreRowsOf, IsRunBegun, IsTargetBegun}
use Rattle.matrix_rows.specs.declared.table.TravelTable.{TravelTable}
use Rattle.matrix_rows.specs.declared.turns.TargetRows.{TargetRows}
use Rattle.image_files.proofs.Appended.{begun_after, begun_by_all}
use Rattle.image_files.specs.Watching.{IsBegun}
use Rattle.matrix_rows.proofs.Targets.{target_added}

-- each thread made its part
pub each_made : (table : TravelTable) (run : List (Vec ℕ)) (threads : ℕ) (made : List (Vec TargetRows)) → length made ≡ threads
    → ((i : ℕ) (d : Vec TargetRows) → i < threads → AreRowsIn table run (get_or made i d).items) → AreMade table run made
each_made table run threads made long each = λ k part there.
    subst (λ (p : Vec TargetRows). AreRowsIn table run p.items) (get_or_from_slice_get made k part part there)
    (each k part (omega (arith, long, slice_get_within made k part there)))

-- a text that is there for the target has its rows
pub text_rows : (table : TravelTable) (run : List (Vec ℕ)) (made : List (Vec TargetRows)) (index : ℕ) (set : Vec ℕ) (stops text : List ℕ)
    → AreMade table run made → slice_get run index ≡ Some set → set.items ≡ stops
    → ((k : ℕ) × (part : Vec TargetRows) × (slice_get made k ≡ Some part) × HasText part.items index text)
    → AreRowsBy table.criterion table stops text
text_rows table run made index set stops text are there same found =
    let has = found.3 in
    subst (λ (s : List ℕ). AreRowsBy table.criterion table s text) same
    (subst (AreRowsBy table.criterion table set.items) (sym has.text_is)
    (are found.0 found.1 found.2 has.rows has.there set (ap (slice_get run) has.at ∙ there)))

-- the rows of one target more
pub rows_more : (table : TravelTable) (run : List (Vec ℕ)) (index : ℕ) (set : Vec ℕ) (rows text : List ℕ) → index < length run → set ≡ get_or run index set
    → AreRowsOf table (take index run) rows → AreRowsBy table.criterion table set.items text → AreRowsOf table (take (index + 1) run) (rows ++ text)
rows_more table run index set rows text less at are is =
    subst (λ (sets : List (Vec ℕ)). AreRowsOf table sets (rows ++ text)) (sym (take_more run index set less))
    (subst (λ (s : Vec ℕ). AreRowsOf table (take index run ++ s ∷ []) (rows ++ text)) at
    (target_added table (take index run) rows text (rows ++ text) set are is refl))

-- those of a target were begun after those of the ones before it
pub target_begun : (table : TravelTable) (run : List (Vec ℕ)) (index : ℕ) (set : Vec ℕ) (stops rows : List ℕ) (u v w : Option (List ℕ)) → index < length run
    → set ≡ get_or run index set → stops ≡ set.items → AreRowsOf table (take index run) rows → Appends u v rows → IsTargetBegun table stops v w
    → IsRunBegun table run u w
target_begun table run index set stops rows u v w less at same are added begun = begins (subst (λ (s : List ℕ). IsTargetBegun table s v w) same begun)
  where
    begins : IsTargetBegun table set.items v w → IsRunBegun table run u w
    begins (inl still) = record {
      first = take index run;
      others = drop index run;
      rows = rows;
      targets = take-append-drop index run;
      are = are;
      begun = subst (λ (x : Option (List ℕ)). IsBegun u x rows) (sym still) (begun_by_all u v rows added);
    }
    begins (inr more) = record {
      first = take (index + 1) run;
      others = drop (index + 1) run;
      rows = rows ++ more.0;
      targets = take-append-drop (index + 1) run;
      are = rows_more table run index set rows more.0 less at are more.1;
      begun = begun_after u v w rows more.0 added more.2;
    }

-- all of them were
pub all_begun : (table : TravelTable) (run : List (Vec ℕ)) (rows : List ℕ) (u v : Option (List ℕ)) → AreRowsOf table run rows → Appends u v rows
    → IsRunBegun table run u v
all_begun table run rows u v are added = record {
  first = run;
  others = [];
  rows = rows;
  targets = append-nil run;
  are = are;
  begun = begun_by_all u v rows added;
}

-- a thread made the rows of one target more
pub rows_pushed : (table : TravelTable) (run : List (Vec ℕ)) (old new : List TargetRows) (one : TargetRows) (target : Vec ℕ) (stops : List ℕ)
    → new ≡ old ++ one ∷ [] → slice_get run one.index ≡ Some target → stops ≡ target.items → AreRowsBy table.criterion table stops one.text.items
    → AreRowsIn table run old → AreRowsIn table run new
rows_pushed table run old new one target stops now there same is was = λ rows has set at.
    elim (Contains-push_cases old one rows (subst (λ (xs : List TargetRows). Contains xs rows) now has)) [
      | inl before ↦ was rows before set at
      | inr last ↦ (
          let sets : target ≡ set = same_Some target set (sym there ∙ ap (λ (r : TargetRows). slice_get run r.index) last ∙ at) in
          subst (λ (r : TargetRows). AreRowsBy table.criterion table set.items r.text.items) last
          (subst (λ (s : List ℕ). AreRowsBy table.criterion table s one.text.items) (same ∙ ap (λ (v : Vec ℕ). v.items) sets) is))
    ]

-- a thread has the rows of a target at an index
pub text_at : (part : List TargetRows) (list_index : ℕ) (one : TargetRows) (index : ℕ) (text : List ℕ) → list_index < length part → one
    ≡ get_or part list_index one
    → one.index ≡ index → text ≡ one.text.items → HasText part index text
text_at part list_index one index text less at same is = record {
  rows = one;
  there = subst (Contains part) (sym at) (Contains-get_or part list_index one less);
  at = same;
  text_is = is;
}

-- the thread at an index has the rows of a target
pub found_in : (made : List (Vec TargetRows)) (list_index : ℕ) (part : Vec TargetRows) (items : List TargetRows) (index : ℕ) (o : Option (Bor (List ℕ)))
    (text : Bor (List ℕ)) → list_index < length made → part ≡ get_or made list_index part → items ≡ part.items → IfSome o (λ t. HasText items index t.now)
    → o ≡ Some text → (k : ℕ) × (part : Vec TargetRows) × (slice_get made k ≡ Some part) × HasText part.items index text.now
found_in made list_index part items index o text less at same has is = (
  list_index,
  part,
  slice_get_read made (length made) list_index part refl less at,
  subst (λ (xs : List TargetRows). HasText xs index text.now) same (subst (λ (x : Option (Bor (List ℕ))). IfSome x (λ t. HasText items index t.now)) is has),
)

-- what holds of a value that is there
pub on_some : {A : Type 0} (P Q : A → Type 0) (o : Option A) → ((x : A) → P x → Q x) → IfSome o P → IfSome o Q
on_some P Q None each p = tt
on_some P Q (Some x) each p = each x p
