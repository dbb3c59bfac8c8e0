-- Whether a table can be made, and why it isn't.
use Rattle.std.proofs.Common.{◌≡◌, ◌≢◌, ◌<◌, ◌⊎◌, ℕ, List, [], ◌∷◌, Option, None, Some, Result, Ok, Err, Contains, IfErr, IfOk, MatchResult, OnErr}
use Rattle.std.proofs.Common.{append-nil, arith, inl, inr, subst, sym}
use Rattle.std.specs.Borrow.{Bor}
use Rattle.std.specs.Global.{Vec}
use Rattle.std.specs.List.{AllZip}
use Rattle.std.specs.Io.KnownBytes.{Appends}
use Rattle.std.specs.IoError.{error_kind}
use Rattle.std.specs.declared.io.Error.{Error}
use Rattle.std.specs.declared.io.ErrorKind.{ErrorKind}
use Rattle.std.specs.declared.io.ErrorKind.TheVariants.{OutOfMemory as WasOutOfMemory}
use Rattle.std.proofs.lemmas.List.Elements.{Contains-append_right}
use Rattle.reasoning.proofs.ListLemmas.{contains_cases, contains_first, not_in_nil}
use Rattle.image_layout.specs.Image.{ImageValue}
use Rattle.matrix_rows.specs.Tables.{AreWithin, CanBeMade, IsTable, IsTableBegun}
use Rattle.matrix_rows.specs.declared.table.TravelTable.{TravelTable}
use Rattle.command_requests.specs.declared.requests.MatrixRequest.{MatrixRequest}
use Rattle.command_requests.specs.declared.statuses.TheConstants.{ACCEPTED, COMMAND_LINE, INPUT_OUTPUT, OUT_OF_MEMORY, REFUSED}
use Rattle.image_files.proofs.Appended.{begun_by_all}
use Rattle.image_files.specs.Texts.{IsNoTextAt, IsTextAt}
use Rattle.image_files.specs.Out.{OutFiles}
use Rattle.image_files.specs.declared.names.NameForm.{NameForm}
use Rattle.image_commands.specs.Departing.{IsListUnreadable}
use Rattle.image_commands.specs.Matrices.{AreListedIn, AreNoSources, AreOfList, AreSources, EndsTable, EndsUnlisted, EndsWritten, HasWindow}
use Rattle.image_commands.specs.Matrices.{IsShownInPart, IsTableOf, IsTableShown, IsUnasked, IsUnlisted, IsUnlistedIn, IsWrittenAt}
use Rattle.image_commands.specs.Matrices.{counts_of}
use Rattle.image_commands.proofs.Ranges.{below_all}

-- the stops of sets of one stop each
each_within : (limit : ℕ) (stops : List ℕ) (sets : List (Vec ℕ)) → ((n : ℕ) → Contains stops n → n < limit)
    → AllZip (λ stop set. set.items ≡ stop ∷ []) stops sets → (set : Vec ℕ) → Contains sets set → (stop : ℕ) → Contains set.items stop → stop < limit
each_within limit [] [] below zipped set h stop within = absurd (not_in_nil set h)
each_within limit [] (s ∷ sets) below zipped set h stop within = absurd zipped
each_within limit (x ∷ xs) [] below zipped set h stop within = absurd zipped
each_within limit (x ∷ xs) (s ∷ sets) below zipped set h stop within = elim (contains_cases set s sets h) [
  | inl same ↦
      let one : Contains (x ∷ []) stop = subst (λ (ys : List ℕ). Contains ys stop) zipped.0
      (subst (λ (v : Vec ℕ). Contains v.items stop) (sym same) within) in
      elim (contains_cases stop x [] one) [
        | inl is ↦ subst (λ (n : ℕ). n < limit) is (below x (contains_first x xs))
        | inr none ↦ absurd (not_in_nil stop none)
      ]
  | inr rest ↦ each_within limit xs sets (λ n k. below n (Contains-append_right (x ∷ []) xs n k)) zipped.1 set rest stop within
]

pub sources_within : (may_hold : List ℕ → Option (List ℕ) → Type 0) (from : Option (Bor (List ℕ))) (image : ImageValue) (sets : List (Vec ℕ))
    → AreSources may_hold from image sets → AreWithin image sets
sources_within may_hold None image sets are =
    each_within image.timetable.stops _ sets (λ n h. below_all image.timetable.stops n h) are
sources_within may_hold (Some path) image sets are = are.2.within

-- the table that was made is the one that is asked for
pub table_asked : (may_hold : List ℕ → Option (List ℕ) → Type 0) (names : NameForm) (image : ImageValue) (request : MatrixRequest) (table : TravelTable)
    (targets sources : List (Vec ℕ)) → table.image.now ≡ image → table.targets.now ≡ targets → table.sources.now ≡ sources
    → (table.after ≡ request.after) × (table.until ≡ request.until) × (table.by ≡ request.by)
    → (table.criterion ≡ request.criterion) × (table.each ≡ request.each)
    → AreOfList may_hold request.to.now image targets → AreSources may_hold request.from image sources → IsWrittenAt request.out.now names table.names
    → IsTableOf may_hold names image request table
table_asked may_hold names image request table targets sources is same_targets same_sources times form listed from written = record {
  image_is = is;
  targets = subst (AreOfList may_hold request.to.now image) (sym same_targets) listed;
  sources = subst (AreSources may_hold request.from image) (sym same_sources) from;
  times = times;
  form = form;
  written = written;
}

pub targets_are_within : (may_hold : List ℕ → Option (List ℕ) → Type 0) (names : NameForm) (image : ImageValue) (request : MatrixRequest) (table : TravelTable)
    → IsTableOf may_hold names image request table → AreWithin table.image.now table.targets.now
targets_are_within may_hold names image request table of =
    subst (λ (i : ImageValue). AreWithin i table.targets.now) (sym of.image_is) of.targets.2.within

pub sources_are_within : (may_hold : List ℕ → Option (List ℕ) → Type 0) (names : NameForm) (image : ImageValue) (request : MatrixRequest) (table : TravelTable)
    → IsTableOf may_hold names image request table → AreWithin table.image.now table.sources.now
sources_are_within may_hold names image request table of =
    subst (λ (i : ImageValue). AreWithin i table.sources.now) (sym of.image_is)
    (sources_within may_hold request.from image table.sources.now of.sources)

-- a table that is asked for can be made if its times make a window
pub can_be_made : (may_hold : List ℕ → Option (List ℕ) → Type 0) (names : NameForm) (image : ImageValue) (request : MatrixRequest) (table : TravelTable)
    → IsTableOf may_hold names image request table → HasWindow request → (targets : Vec ℕ) → Contains table.targets.now targets → CanBeMade table targets.items
can_be_made may_hold names image request table of times targets h =
    let after : table.after ≡ request.after = of.times.0 in
    let until : table.until ≡ request.until = of.times.1 in
    let by : table.by ≡ request.by = of.times.2 in
    record {
      sources = sources_are_within may_hold names image request table of;
      asked = record {
        sources = λ stop none. absurd (not_in_nil stop none);
        targets = targets_are_within may_hold names image request table of targets h;
        differ = λ stop none. absurd (not_in_nil stop none);
        window = omega (arith, after, until, times.window);
        in_time = omega (arith, after, by, times.in_time);
        small = (omega (arith, after, times.small.0), omega (arith, until, times.small.1), omega (arith, by, times.small.2));
      };
    }

-- a command whose lists aren't known ends otherwise than with 0
ends_not_accepted : (status : ℕ) → EndsUnlisted status → status ≢ ACCEPTED
ends_not_accepted status (inl (inl is)) e = omega (arith, is, e)
ends_not_accepted status (inl (inr (inl is))) e = omega (arith, is, e)
ends_not_accepted status (inl (inr (inr is))) e = omega (arith, is, e)
ends_not_accepted status (inr is) e = omega (arith, is, e)

ends_table : (status : ℕ) → EndsUnlisted status → EndsTable status
ends_table status (inl undone) = inl (inr undone)
ends_table status (inr is) = inr is

pub unasked_table : (may_hold : List ℕ → Option (List ℕ) → Type 0) (may_fail : List ℕ → Type 0) (request : MatrixRequest) (image : ImageValue) (status : ℕ)
    → IsUnasked may_hold may_fail request image status → EndsTable status × (status ≢ ACCEPTED)
unasked_table may_hold may_fail request image status why = (ends_table status why.ends, ends_not_accepted status why.ends)

-- a table that was begun doesn't end as one that is refused, or as a bad command line does
pub ends_written : (status : ℕ) → EndsWritten status → (status ≢ REFUSED) × (status ≢ COMMAND_LINE)
ends_written status (inl is) = (λ e. omega (arith, is, e), λ e. omega (arith, is, e))
ends_written status (inr (inl is)) = (λ e. omega (arith, is, e), λ e. omega (arith, is, e))
ends_written status (inr (inr is)) = (λ e. omega (arith, is, e), λ e. omega (arith, is, e))

pub unasked_targets : (may_hold : List ℕ → Option (List ℕ) → Type 0) (may_fail : List ℕ → Type 0) (request : MatrixRequest) (image : ImageValue) (status : ℕ)
    → IsUnlisted may_hold may_fail request.to.now image status → IsUnasked may_hold may_fail request image status
unasked_targets may_hold may_fail request image status why = record {
  ends = why.ends;
  unknown = λ is. inl (why.unknown is);
  bad = λ is. inl (why.bad is);
  unread = λ is. inl (why.unread is);
}

pub unasked_sources : (may_hold : List ℕ → Option (List ℕ) → Type 0) (may_fail : List ℕ → Type 0) (request : MatrixRequest) (image : ImageValue) (status : ℕ)
    (from : Option (Bor (List ℕ))) (targets : List (Vec ℕ)) → AreOfList may_hold request.to.now image targets
    → request.from ≡ from → AreNoSources may_hold may_fail from image status → IsUnasked may_hold may_fail request image status
unasked_sources may_hold may_fail request image status None targets listed same is = record {
  ends = inl (inr (inr is));
  unknown = λ e. absurd (omega (arith, is, e));
  bad = λ e. absurd (omega (arith, is, e));
  unread = λ e. absurd (omega (arith, is, e));
}
unasked_sources may_hold may_fail request image status (Some path) targets listed same why = record {
  ends = why.ends;
  unknown = λ is. inr (targets, path, listed, same, why.unknown is);
  bad = λ is. inr (targets, path, listed, same, why.bad is);
  unread = λ is. inr (subst (IsListUnreadable may_fail may_hold) (sym same) (why.unread is), (targets, listed));
}

-- the sets of a text that was read, or why there are none
pub listed_at : (may_hold : List ℕ → Option (List ℕ) → Type 0) (may_fail : List ℕ → Type 0) (path text : List ℕ) (image : ImageValue)
    (r : Result (Vec (Vec ℕ)) ℕ)
    → IsTextAt may_hold path text → IfOk r (λ sets. AreListedIn image sets.items text) → IfErr r (IsUnlistedIn image text)
    → MatchResult r (λ sets. AreOfList may_hold path image sets.items) (IsUnlisted may_hold may_fail path image)
listed_at may_hold may_fail path text image (Ok sets) at listed why = (text, at, listed)
listed_at may_hold may_fail path text image (Err status) at listed why = record {
  ends = why.ends;
  unknown = λ is. (text, at, why.unknown is);
  bad = λ is. (text, at, why.bad is);
  unread = λ is. absurd (why.read is);
}

pub unread_list : (may_hold : List ℕ → Option (List ℕ) → Type 0) (may_fail : List ℕ → Type 0) (path : List ℕ) (image : ImageValue) (kind : ErrorKind)
    (status : ℕ) → (status ≡ INPUT_OUTPUT) ⊎ (status ≡ OUT_OF_MEMORY) → (kind ≡ WasOutOfMemory → status ≡ OUT_OF_MEMORY)
    → (kind ≢ WasOutOfMemory → IsNoTextAt may_fail may_hold path) → IsUnlisted may_hold may_fail path image status
unread_list may_hold may_fail path image kind status (inl is) memory why = record {
  ends = inl (inr (inl is));
  unknown = λ e. absurd (omega (arith, is, e));
  bad = λ e. absurd (omega (arith, is, e));
  unread = λ e. why (λ none. let out = memory none in omega (arith, is, out));
}
unread_list may_hold may_fail path image kind status (inr is) memory why = record {
  ends = inl (inr (inr is));
  unknown = λ e. absurd (omega (arith, is, e));
  bad = λ e. absurd (omega (arith, is, e));
  unread = λ e. absurd (omega (arith, is, e));
}

-- what holds of a call that failed, by the status that was made of it
pub at_failure : {T E : Type 0} (P : Type 0) (outcome : Result T E) (status : ℕ) → IfOk outcome (λ _. status ≡ ACCEPTED) → OnErr outcome P
    → status ≡ INPUT_OUTPUT → P
at_failure P (Ok done) status accepted failed is = absurd (omega (arith, accepted, is))
at_failure P (Err error) status accepted failed is = failed

-- .. unless memory ran out
pub at_kind : {T : Type 0} (P : Type 0) (outcome : Result T Error) (status : ℕ) → IfOk outcome (λ _. status ≡ ACCEPTED)
    → IfErr outcome (λ error. status ≡ INPUT_OUTPUT → error_kind error ≢ WasOutOfMemory)
    → IfErr outcome (λ error. error_kind error ≢ WasOutOfMemory → P) → status ≡ INPUT_OUTPUT → P
at_kind P (Ok done) status accepted kind failed is = absurd (omega (arith, accepted, is))
at_kind P (Err error) status accepted kind failed is = failed (kind is)

-- all of a table is a first part of it, and so is all that is printed of it
begun_all : (table : TravelTable) (before after : Option (List ℕ)) → (text : List ℕ) × IsTable table text × Appends before after text
    → IsTableBegun table before after
begun_all table before after (text, is, whole) = record {
  first = table.targets.now;
  others = [];
  rows = is.rows;
  targets = append-nil table.targets.now;
  are = is.are;
  begun = begun_by_all before after _ (subst (Appends before after) is.text_is whole);
}

pub shown_in_part : (disk : OutFiles) (table : TravelTable) (out : List ℕ) (before after : Option (List ℕ)) → IsTableShown disk table out before after
    → IsShownInPart disk table out before after
shown_in_part disk table out before after shown = record {
  begun = λ here. begun_all table before after (shown.shown here);
  put = shown.put;
  counted = λ elsewhere. begun_by_all before after (counts_of table) (shown.counted elsewhere);
}
