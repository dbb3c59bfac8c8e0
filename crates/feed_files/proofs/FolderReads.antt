-- The reads of a folder are all of that folder.
use Rattle.std.proofs.Common.{◌≡◌, ◌++◌, ◌∷◌, [], ℕ, List, Option, Vec, Ok, Err, ap, map, refl, subst, sym}
use Rattle.std.proofs.Math.Logic.{∥∥₁_map}
use Rattle.std.specs.declared.alloc.Global.{Global}
use Rattle.std.specs.Prelude.{All}
use Rattle.std.proofs.lemmas.List.Elements.{All-append, All-cons, All-nil, All-tail}
use Rattle.gtfs_rows.specs.declared.fault.Table.{Table}
use Rattle.feed_files.specs.Files.{FileAnswer, FileRead, MayBeRead, MayFail, MayGive, given, opened}
use Rattle.feed_files.specs.Reading.{Content}
use Rattle.feed_files.specs.Reads.{AreRead, MayHold, read_of}
use Rattle.feed_files.specs.declared.files.FileFault.TheVariants as faults

-- what holds of two lists end to end holds of the second
rest_of : {X : Type 0} (P : X → Type 0) (xs ys : List X) → All P (xs ++ ys) → All P ys
rest_of P [] ys h = h
rest_of P (x ∷ xs) ys h = rest_of P xs ys (All-tail P x (xs ++ ys) h)

-- one more has it
all_more : {X : Type 0} (P : X → Type 0) (xs new : List X) (x : X) → new ≡ xs ++ x ∷ [] → ∥ All P xs ∥₁ → P x → ∥ All P new ∥₁
all_more P xs new x grown all one =
    subst (λ ys. ∥ All P ys ∥₁) (sym grown)
    (∥∥₁_map all (λ (had : All P xs). All-append P xs (x ∷ []) had (All-cons P x [] one (All-nil P))))

-- a read more that the files may give, and a failure more
pub one_more : (may_give : MayGive) (reads new : List FileRead) (name : List ℕ) (file : Option (Vec ℕ Global)) (answer : FileAnswer)
    → answer ≡ Ok file → may_give name answer → new ≡ reads ++ given name file ∷ []
    → ∥ All (MayBeRead may_give) reads ∥₁ → ∥ All (MayBeRead may_give) new ∥₁
one_more may_give reads new name file answer is gives grown all =
    all_more (MayBeRead may_give) reads new (given name file) grown all (file, subst (may_give name) is gives, refl)

pub one_failed : (may_give : MayGive) (failed new : List (List ℕ)) (name : List ℕ) (answer : FileAnswer)
    → answer ≡ Err faults.Failed → may_give name answer → new ≡ failed ++ name ∷ []
    → ∥ All (MayFail may_give) failed ∥₁ → ∥ All (MayFail may_give) new ∥₁
one_failed may_give failed new name answer is gives grown all =
    all_more (MayFail may_give) failed new name grown all (subst (may_give name) is gives)

-- what was read behind one folder's path is of that folder
pub same_folder : (content : Content) (ts : List Table) (before then : List ℕ) (old new : List FileRead)
    → AreRead content ts (opened before ∷ old) (opened then ∷ new) → then ≡ before
same_folder content ts before then old new read = let first : opened then ≡ opened before = cc in ap (λ (read : FileRead). read.0) first

pub may_hold : (give : List ℕ → MayGive) (content : Content) (ts : List Table) (before then : List ℕ) (old new : List FileRead)
    → AreRead content ts (opened before ∷ old) (opened then ∷ new) → ∥ All (MayBeRead (give then)) new ∥₁ → MayHold (give before) content ts
may_hold give content ts before then old new read all =
    let grown : new ≡ old ++ map (read_of content) ts = cc in
    let same = same_folder content ts before then old new read in
    let here = subst (λ folder. ∥ All (MayBeRead (give folder)) new ∥₁) same all in
    ∥∥₁_map here (λ (had : All (MayBeRead (give before)) new).
    rest_of (MayBeRead (give before)) old (map (read_of content) ts) (subst (All (MayBeRead (give before))) grown had))
