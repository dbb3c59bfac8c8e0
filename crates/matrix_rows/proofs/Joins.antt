-- Texts that several threads made, put together.
use Rattle.std.proofs.Common.{◌≡◌, ℕ, List, ◌++◌, Option}
use Rattle.std.proofs.Common.{Result, Ok, Err, Contains, OnErr, OnOk}
use Rattle.std.proofs.Common.{sym, ◌∙◌, ap, subst, append_assoc}
use Rattle.std.specs.Global.{Vec}
use Rattle.std.specs.Io.KnownBytes.{Appends}
use Rattle.std.proofs.lemmas.List.Elements.{Contains-append_left, Contains-append_right}
use Rattle.image_files.proofs.Appended.{begun_after}
use Rattle.image_files.specs.Watching.{IsBegun}
use Rattle.csv.specs.Writing.{default_writer, row_text}
use Rattle.matrix_rows.specs.Tables.{AreRowsOf, IsRunBegun, IsTableBegun, names_of}
use Rattle.matrix_rows.specs.declared.table.TravelTable.{TravelTable}
use Rattle.matrix_rows.proofs.Targets.{targets_joined}

pub in_middle : {X : Type 0} (front part rest xs : List X) → front ++ (part ++ rest) ≡ xs → (x : X) → Contains part x → Contains xs x
in_middle {X} front part rest xs is x h =
    subst (λ (zs : List X). Contains zs x) is
    (Contains-append_right front (part ++ rest) x (Contains-append_left part rest x h))

-- what holds in any case holds at a value
pub at_value : {T E P : Type 0} (r : Result T E) → P → OnOk r P
at_value (Ok t) p = p
at_value (Err e) p = tt

-- what holds of a call that failed
pub on_failed : {T E P Q : Type 0} (r : Result T E) → (P → Q) → OnErr r P → OnErr r Q
on_failed (Ok x) each p = tt
on_failed (Err e) each p = each p

pub at_error : {T E P : Type 0} (r : Result T E) → P → OnErr r P
at_error (Ok t) p = tt
at_error (Err e) p = p

-- the rows of a run were begun after those of other targets
pub run_begun : (table : TravelTable) (done run rest : List (Vec ℕ)) (rows : List ℕ) (u v w : Option (List ℕ)) → done ++ (run ++ rest) ≡ table.targets.now
    → AreRowsOf table done rows → Appends u v (row_text default_writer (names_of table.each) ++ rows) → IsRunBegun table run v w → IsTableBegun table u w
run_begun table done run rest rows u v w is are added begun = record {
  first = done ++ begun.first;
  others = begun.others ++ rest;
  rows = rows ++ begun.rows;
  targets = append_assoc done begun.first (begun.others ++ rest)
      ∙ ap (λ (t : List (Vec ℕ)). done ++ t) (sym (append_assoc begun.first begun.others rest) ∙ ap (λ (t : List (Vec ℕ)). t ++ rest) begun.targets) ∙ is;
  are = targets_joined table done begun.first rows begun.rows are begun.are;
  begun = subst (IsBegun u w) (append_assoc (row_text default_writer (names_of table.each)) rows begun.rows)
      (begun_after u v w (row_text default_writer (names_of table.each) ++ rows) begun.rows added begun.begun);
}
