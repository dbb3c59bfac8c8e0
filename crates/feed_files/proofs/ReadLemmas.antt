-- Lists of reads of a feed's files, joined and split.
use Rattle.std.proofs.Common.{◌≡◌, ◌∙◌, ◌++◌, ◌∷◌, [], ℕ, zero, suc, ◌+◌, List, Option, Result, None, Ok, Err, Vec}
use Rattle.std.proofs.Common.{map, take, length, refl, subst, sym, ap, arith, inl, inr}
use Rattle.std.specs.declared.alloc.Global.{Global}
use Rattle.std.specs.Prelude.{All, IfSome, option_map, OnOk, ⊤, if◌then◌else◌, ◌==◌, get_or}
use Rattle.std.proofs.lemmas.List.{length-append, append-nil, append_assoc, append_cancel_left, map-append}
use Rattle.std.proofs.lemmas.List.Elements.{All-append, All-cons, All-head, All-map, All-nil, All-tail, All-weaker}
use Rattle.gtfs_rows.specs.FaultNumber.{file_name}
use Rattle.gtfs_rows.specs.declared.fault.Table.{Table}
use Rattle.gtfs_rows.specs.declared.fault.Table.TheVariants as tables
use Rattle.feed_files.specs.Files.{FileRead, FileWords, Holds, given}
use Rattle.feed_files.specs.Outcome.{failed_by}
use Rattle.feed_files.specs.Reading.{Content, Tells}
use Rattle.feed_files.specs.Reads.{AllGave, AreAsked, AreRead, AreReadBy, AreSomeAsked, AskedFor, Gave, IsOfHeld}
use Rattle.feed_files.specs.Reads.{Shows, all_tables, read_of}
use Rattle.feed_files.specs.declared.reading.ReadFault.TheVariants as faults
use Rattle.feed_files.specs.declared.reading.ReadFault.{ReadFault}

-- what holds of two lists set end to end holds of each
all_first : {X : Type 0} (P : X → Type 0) (xs ys : List X) → All P (xs ++ ys) → All P xs
all_first P [] ys h = All-nil P
all_first P (x ∷ xs) ys h = All-cons P x xs (All-head P x (xs ++ ys) h) (all_first P xs ys (All-tail P x (xs ++ ys) h))

all_rest : {X : Type 0} (P : X → Type 0) (xs ys : List X) → All P (xs ++ ys) → All P ys
all_rest P [] ys h = h
all_rest P (x ∷ xs) ys h = all_rest P xs ys (All-tail P x (xs ++ ys) h)

-- no file was read, or one was
pub none_asked : (holds : Holds) (ts : List Table) (old new : List FileRead) → new ≡ old → AreSomeAsked holds ts old new
none_asked holds ts old new same = (
  0,
  record {
    made = [];
    grown = same ∙ sym (append-nil old);
    names = refl;
    held = All-nil (IsOfHeld holds);
  },
)

pub one_asked : (holds : Holds) (table : Table) (file : Option (Vec ℕ Global)) (old new : List FileRead)
    → new ≡ old ++ given (file_name table) file ∷ [] → IfSome (holds (file_name table)) (λ held. option_map (λ (bytes : Vec ℕ Global). bytes.items) file ≡ held)
    → AreAsked holds (table ∷ []) old new
one_asked holds table file old new grown held = record {
  made = given (file_name table) file ∷ [];
  grown = grown;
  names = refl;
  held = All-cons (IsOfHeld holds) (given (file_name table) file) [] held (All-nil (IsOfHeld holds));
}

-- one list of files after another
asked_join : {xs ys : List Table} {holds : Holds} {old mid new : List FileRead}
    → AreAsked holds xs old mid → AreAsked holds ys mid new → AreAsked holds (xs ++ ys) old new
asked_join {xs} {ys} {holds} {old} {mid} {new} first second =
    let one = first.made in
    let two = second.made in
    let name : FileRead → List ℕ = λ (read : FileRead). read.0 in
    record {
      made = one ++ two;
      grown = second.grown ∙ ap (λ front. front ++ two) first.grown ∙ append_assoc old one two;
      names =
          map-append name one two ∙ ap (λ front. front ++ map name two) first.names
          ∙ ap (λ rest. map file_name xs ++ rest) second.names ∙ sym (map-append file_name xs ys);
      held = All-append (IsOfHeld holds) one two first.held second.held;
    }

-- the first of some files are the first of more
first_of_more : (count : ℕ) (xs ys : List Table) → (more : ℕ) × take count xs ≡ take more (xs ++ ys)
first_of_more zero xs ys = (zero, refl)
first_of_more (suc n) [] ys = (zero, refl)
first_of_more (suc n) (x ∷ xs) ys = let rest = first_of_more n xs ys in (suc rest.0, ap (λ ts. x ∷ ts) rest.1)

some_after : (count : ℕ) (xs ys : List Table) → xs ++ take count ys ≡ take (length xs + count) (xs ++ ys)
some_after count [] ys = let none : 0 + count ≡ count = omega arith in ap (λ n. take n ys) (sym none)
some_after count (x ∷ xs) ys =
    let more : suc (length xs) + count ≡ suc (length xs + count) = omega arith in
    ap (λ ts. x ∷ ts) (some_after count xs ys) ∙ ap (λ n. take n (x ∷ (xs ++ ys))) (sym more)

stopped_before : {xs : List Table} {holds : Holds} {old new : List FileRead} (ys : List Table)
    → AreSomeAsked holds xs old new → AreSomeAsked holds (xs ++ ys) old new
stopped_before {xs} {holds} {old} {new} ys (count, asked) =
    let more = first_of_more count xs ys in
    (more.0, subst (λ ts. AreAsked holds ts old new) more.1 asked)

asked_then : {T : Type 0} {xs : List Table} {holds : Holds} {old mid : List FileRead} (ys : List Table) (new : List FileRead)
    (result : Result T ReadFault)
    → AreAsked holds xs old mid → AskedFor holds ys mid new result → AskedFor holds (xs ++ ys) old new result
asked_then ys new (Ok t) first second = asked_join first second
asked_then {xs = xs} {holds = holds} {old = old} ys new (Err fault) first (count, asked) =
    (length xs + count, subst (λ ts. AreAsked holds ts old new) (some_after count xs ys) (asked_join first asked))

made_of : {T : Type 0} (holds : Holds) (ts : List Table) (old new : List FileRead) (result : Result T ReadFault)
    → AskedFor holds ts old new result → (made : List FileRead) × new ≡ old ++ made
made_of holds ts old new (Ok t) asked = (asked.made, asked.grown)
made_of holds ts old new (Err fault) (count, asked) = (asked.made, asked.grown)

-- the one file was read, whatever else came of it
one_of : {T : Type 0} {holds : Holds} {table : Table} {old new : List FileRead} (result : Result T ReadFault)
    → AreAsked holds (table ∷ []) old new → AskedFor holds (table ∷ []) old new result
one_of (Ok t) asked = asked
one_of (Err fault) asked = (1, asked)

module _ {D : Type 0} {words : FileWords D} where
  pub read_one : {S T : Type 0} {s : S} {table : Table} {old new : D} (result : Result T ReadFault)
      → ((before : List (List ℕ)) → failed_by before result ≡ before) → AreReadBy words (table ∷ []) old (Ok s) new
      → AreReadBy words (table ∷ []) old result new
  read_one {old = old} result none read =
      record { asked = one_of result read.asked; failed = read.failed ∙ sym (none (words.failed old)); once = read.once; holds = read.holds; hash = read.hash }

  -- one list of files after another
  pub read_then : {S T : Type 0} {s : S} {result : Result T ReadFault} {xs ys : List Table} {old mid new : D}
      → AreReadBy words xs old (Ok s) mid → AreReadBy words ys mid result new → AreReadBy words (xs ++ ys) old result new
  read_then {result = result} {xs = xs} {ys = ys} {mid = mid} {new = new} first second =
      let later = subst (λ known. AskedFor known ys (words.reads mid) (words.reads new) result) first.holds second.asked in
      record {
        asked = asked_then ys (words.reads new) result first.asked later;
        failed = second.failed ∙ ap (λ names. failed_by names result) first.failed;
        once = omega (arith, length-append xs ys, first.once, second.once);
        holds = second.holds ∙ first.holds;
        hash = second.hash ∙ first.hash;
      }

  -- no further files were read after a fault
  pub read_up_to : {S T : Type 0} {fault : ReadFault} {xs : List Table} {old new : D} (ys : List Table)
      → AreReadBy {T = S} words xs old (Err fault) new → AreReadBy {T = T} words (xs ++ ys) old (Err fault) new
  read_up_to {fault = faults.Table fault} {xs = xs} ys read =
      record {
        asked = stopped_before ys read.asked;
        failed = read.failed;
        once = omega (arith, length-append xs ys, read.once);
        holds = read.holds;
        hash = read.hash;
      }
  read_up_to {fault = faults.FileFailed table} {xs = xs} ys read =
      record {
        asked = stopped_before ys read.asked;
        failed = read.failed;
        once = omega (arith, length-append xs ys, read.once);
        holds = read.holds;
        hash = read.hash;
      }

  pub read_all : {S T : Type 0} {s : S} {t : T} {ts : List Table} {old new : D}
      → AreReadBy words ts old (Ok s) new → AreReadBy words ts old (Ok t) new
  read_all read = record { asked = read.asked; failed = read.failed; once = read.once; holds = read.holds; hash = read.hash }

  -- what each read gave, in two parts
  pub gave_first : {S T : Type 0} {s : S} {result : Result T ReadFault} {xs ys : List Table} {old mid new : D} (content : Content)
      → AreReadBy words xs old (Ok s) mid → AreReadBy words ys mid result new → AllGave words old new content → AllGave words old mid content
  gave_first {result = result} {ys = ys} {old = old} {mid = mid} {new = new} content first second gave made grown =
      let later = made_of (words.holds mid) ys (words.reads mid) (words.reads new) result second.asked in
      all_first (Gave content) made later.0
      (gave (made ++ later.0) (later.1 ∙ ap (λ front. front ++ later.0) grown ∙ append_assoc (words.reads old) made later.0))

  pub gave_rest : {S : Type 0} {s : S} {xs : List Table} {old mid new : D} (content : Content)
      → AreReadBy words xs old (Ok s) mid → AllGave words old new content → AllGave words mid new content
  gave_rest {old = old} content first gave made grown =
      let made_first = first.asked.made in
      all_rest (Gave content) made_first made
      (gave (made_first ++ made) (grown ∙ ap (λ front. front ++ made) first.asked.grown ∙ append_assoc (words.reads old) made_first made))

-- what the one read gave
pub gave_one : {D : Type 0} (words : FileWords D) (content : Content) (table : Table) (file : Option (Vec ℕ Global)) (old new : D)
    → words.reads new ≡ words.reads old ++ given (file_name table) file ∷ [] → AllGave words old new content
    → option_map (λ (bytes : Vec ℕ Global). bytes.items) file ≡ content table
gave_one words content table file old new grown gave =
    All-head (Gave content) (given (file_name table) file) [] (gave (given (file_name table) file ∷ []) grown) table refl

pub same_bytes : {bytes : Option (List ℕ)} {file is : Option (Vec ℕ Global)} → option_map (λ (read : Vec ℕ Global). read.items) file ≡ bytes → file ≡ is
    → bytes ≡ option_map (λ (read : Vec ℕ Global). read.items) is
same_bytes same is = sym same ∙ ap (λ o. option_map (λ (read : Vec ℕ Global). read.items) o) is

-- what the files are known to hold is what was read
is_of_content : (holds : Holds) (content : Content) → Tells holds content → (read : FileRead)
    → IsOfHeld holds read → Gave content read
is_of_content holds content tells read held table e =
    subst (λ o. IfSome o (λ bytes. read.1 ≡ bytes)) (ap holds e ∙ tells table) held

held_gave : {holds : Holds} {content : Content} {ts : List Table} {old new : List FileRead} → Tells holds content → AreAsked holds ts old new
    → (made : List FileRead) → new ≡ old ++ made → All (Gave content) made
held_gave {holds} {content} {old = old} tells asked made grown =
    let same = append_cancel_left old asked.made made (sym asked.grown ∙ grown) in
    subst (All (Gave content)) same (All-weaker (IsOfHeld holds) (Gave content) (is_of_content holds content tells) asked.made asked.held)

held_gave_all : {T : Type 0} {content : Content} (holds : Holds) (ts : List Table) (old new : List FileRead) (result : Result T ReadFault)
    → Tells holds content → AskedFor holds ts old new result → (made : List FileRead) → new ≡ old ++ made → All (Gave content) made
held_gave_all holds ts old new (Ok t) tells asked = held_gave tells asked
held_gave_all holds ts old new (Err fault) tells (count, asked) = held_gave tells asked

-- each table's file has a name of its own
named : List ℕ → Table
named name = by_length (length name) (get_or name 0 0)
  where
    by_length : ℕ → ℕ → Table
    by_length size first =
        if size == 10 then tables.Agency else if size == 14 then tables.StopTimes else if size == 12 then tables.Calendar
        else if size == 18 then tables.CalendarDates else if size == 13 then tables.Transfers
        else if size == 15 then tables.Frequencies else if first == 115 then tables.Stops else tables.Trips

named_is : (table : Table) → named (file_name table) ≡ table
unfolding named
named_is tables.Agency = refl
named_is tables.Stops = refl
named_is tables.Trips = refl
named_is tables.StopTimes = refl
named_is tables.Calendar = refl
named_is tables.CalendarDates = refl
named_is tables.Transfers = refl
named_is tables.Frequencies = refl

read_of_gave : (content : Content) (one : Table) → Gave content (read_of content one)
read_of_gave content one table e =
    let same : one ≡ table = sym (named_is one) ∙ ap named e ∙ named_is table in
    ap content same

read_gave : (content : Content) (ts : List Table) (old new : List FileRead) → AreRead content ts old new
    → (made : List FileRead) → new ≡ old ++ made → All (Gave content) made
read_gave content ts old new read made grown =
    let same = append_cancel_left old (map (read_of content) ts) made (sym read ∙ grown) in
    subst (All (Gave content)) same (All-map (Gave content) (read_of content) ts (λ k d lt. read_of_gave content (get_or ts k d)))

-- the reads gave what the files show
pub shown_gave : {D T : Type 0} {words : FileWords D} {ts : List Table} {old new : D} (content : Content) (result : Result T ReadFault)
    → AreReadBy words ts old result new → Shows words old new content → AllGave words old new content
shown_gave {words = words} {ts = ts} {old = old} {new = new} content result read (inl tells) =
    held_gave_all (words.holds old) ts (words.reads old) (words.reads new) result tells read.asked
shown_gave {words = words} {old = old} {new = new} content result read (inr (ts, are)) =
    read_gave content ts (words.reads old) (words.reads new) are

-- the content that reads in the order of tables show
index : Table → ℕ
index tables.Agency = 0
index tables.Stops = 1
index tables.Trips = 2
index tables.StopTimes = 3
index tables.Calendar = 4
index tables.CalendarDates = 5
index tables.Transfers = 6
index tables.Frequencies = 7

bytes_at : List FileRead → ℕ → Option (List ℕ)
bytes_at [] k = None
bytes_at (read ∷ reads) zero = read.1
bytes_at (read ∷ reads) (suc k) = bytes_at reads k

AreInPlace : ℕ → List Table → Type 0
AreInPlace k [] = ⊤
AreInPlace k (t ∷ ts) = (index t ≡ k) × AreInPlace (suc k) ts

first_in_place : (count k : ℕ) (ts : List Table) → AreInPlace k ts → AreInPlace k (take count ts)
unfolding AreInPlace
first_in_place zero k ts h = tt
first_in_place (suc n) k [] h = tt
first_in_place (suc n) k (t ∷ ts) (here, rest) = (here, first_in_place n (suc k) ts rest)

-- reads of tables in place, of which the first is at k
shown : (bytes : ℕ → Option (List ℕ)) (k : ℕ) (ts : List Table) (made : List FileRead)
    → AreInPlace k ts → map (λ (read : FileRead). read.0) made ≡ map file_name ts
    → ((j : ℕ) → bytes (k + j) ≡ bytes_at made j) → made ≡ map (read_of (λ table. bytes (index table))) ts
unfolding AreInPlace bytes_at
shown bytes k [] [] h names same = refl
shown bytes k [] (read ∷ made) h names same = absurd cc
shown bytes k (t ∷ ts) [] h names same = absurd cc
shown bytes k (t ∷ ts) ((name, file) ∷ made) (here, rest) names same =
    let first : name ≡ file_name t = cc in
    let others : map (λ (read : FileRead). read.0) made ≡ map file_name ts = cc in
    let at : k + 0 ≡ k = omega arith in
    let held : file ≡ bytes (index t) = sym (same 0) ∙ ap bytes (at ∙ sym here) in
    let later = shown bytes (suc k) ts made rest others (λ j. let e : suc k + j ≡ k + suc j = omega arith in ap bytes e ∙ same (suc j)) in
    ap (λ (read : FileRead). read ∷ made) (ap (λ (x : List ℕ). (x, file)) first ∙ ap (λ (x : Option (List ℕ)). (file_name t, x)) held)
    ∙ ap (λ (reads : List FileRead). (file_name t, bytes (index t)) ∷ reads) later

pub have_content : {holds : Holds} {old new : List FileRead} (count : ℕ)
    → AreAsked holds (take count all_tables) old new → (content : Content) × AreRead content (take count all_tables) old new
unfolding AreInPlace index
have_content {holds} {old} {new} count asked =
    let bytes : ℕ → Option (List ℕ) = bytes_at asked.made in
    let whole : AreInPlace 0 all_tables = (refl, (refl, (refl, (refl, (refl, (refl, (refl, (refl, tt)))))))) in
    let from_none : (j : ℕ) → bytes (0 + j) ≡ bytes j = λ j. let e : 0 + j ≡ j = omega arith in ap bytes e in
    let made = shown bytes 0 (take count all_tables) asked.made (first_in_place count 0 all_tables whole) asked.names from_none in
    ((λ table. bytes (index table)), asked.grown ∙ ap (λ reads. old ++ reads) made)

pub have_all : {T : Type 0} (holds : Holds) (old new : List FileRead) (result : Result T ReadFault)
    → AskedFor holds all_tables old new result → OnOk result ((content : Content) × AreRead content all_tables old new)
have_all holds old new (Ok t) asked = have_content 8 asked
have_all holds old new (Err fault) asked = tt

pub have_first : {T : Type 0} (holds : Holds) (old new : List FileRead) (result : Result T ReadFault)
    → AskedFor holds all_tables old new result → (count : ℕ) × (content : Content) × AreRead content (take count all_tables) old new
have_first holds old new (Ok t) asked = let held = have_content 8 asked in (8, held.0, held.1)
have_first holds old new (Err fault) (count, asked) = let held = have_content count asked in (count, held.0, held.1)
