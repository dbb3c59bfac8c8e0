-- How a command ends once it has printed a text, or has tried to.
use Rattle.std.proofs.Common.{◌≡◌, ◌≢◌, ◌⊎◌, ℕ, List, [], Option, arith, inl, inr, refl}
use Rattle.std.specs.Io.KnownBytes.{Appends}
use Rattle.std.specs.declared.io.ErrorKind.{ErrorKind}
use Rattle.std.specs.declared.io.ErrorKind.TheVariants.{OutOfMemory as WasOutOfMemory}
use Rattle.command_requests.specs.declared.statuses.TheConstants.{ACCEPTED, INPUT_OUTPUT, OUT_OF_MEMORY, REFUSED}
use Rattle.command_endings.specs.Ending.{EndsUndone, IsDone, IsOutcome, Prints, PrintsOnly, PrintsRefusal}
use Rattle.image_files.proofs.Appended.{nothing_appended}
use Rattle.image_files.specs.Watching.{HasFault, IsBegun}

-- what may be printed may be printed by others too, and so may what can't be used
pub outcome_of : (Is May : ℕ → List ℕ → Type 0) (F G : Type 0) (fault : Option ErrorKind) (status : ℕ) (before after : Option (List ℕ))
    → ((s : ℕ) (text : List ℕ) → Is s text → May s text) → (F → G) → IsOutcome Is F fault status before after → IsOutcome May G fault status before after
outcome_of Is May F G fault status before after may can (inl (text, is, whole)) = inl (text, may status text is, whole)
outcome_of Is May F G fault status before after may can (inr (inl (e, has, s, text, is, begun))) = inr (inl (e, has, s, text, may s text is, begun))
outcome_of Is May F G fault status before after may can (inr (inr (inl (e, f), silent))) = inr (inr (inl (e, can f), silent))
outcome_of Is May F G fault status before after may can (inr (inr (inr e, silent))) = inr (inr (inr e, silent))

-- what goes with another status than that of a failed call isn't done if a call failed
pub fault_of_text : (status : ℕ) (text : List ℕ) (fault : Option ErrorKind) (before after : Option (List ℕ)) → status ≢ INPUT_OUTPUT
    → IsDone status text before after ⊎ HasFault fault → HasFault fault
fault_of_text status text fault before after other (inl done) = absurd (other done.0)
fault_of_text status text fault before after other (inr has) = has

-- a text was written, or a first part of it
pub written : (IsText : List ℕ → Type 0) (fault : Option ErrorKind) (status : ℕ) (text : List ℕ) (before after : Option (List ℕ)) → IsText text
    → (status ≡ ACCEPTED) ⊎ (status ≡ INPUT_OUTPUT) → (status ≢ INPUT_OUTPUT → Appends before after text) → IsBegun before after text
    → (status ≡ INPUT_OUTPUT → IsDone ACCEPTED text before after ⊎ HasFault fault)
    → IsOutcome (PrintsOnly IsText) ⊥ fault status before after
written IsText fault status text before after is (inl e) whole begun failed = inl (text, (e, is), whole (λ three. omega (arith, e, three)))
written IsText fault status text before after is (inr e) whole begun failed =
    inr (inl (e, fault_of_text ACCEPTED text fault before after (λ zero. omega (arith, zero)) (failed e), ACCEPTED, text, (refl, is), begun))

-- .. of what was asked for, although that may be refused
pub written_or : (IsText IsLine : List ℕ → Type 0) (fault : Option ErrorKind) (status : ℕ) (text : List ℕ) (before after : Option (List ℕ)) → IsText text
    → (status ≡ ACCEPTED) ⊎ (status ≡ INPUT_OUTPUT) → (status ≢ INPUT_OUTPUT → Appends before after text) → IsBegun before after text
    → (status ≡ INPUT_OUTPUT → IsDone ACCEPTED text before after ⊎ HasFault fault)
    → IsOutcome (Prints IsText IsLine) ⊥ fault status before after
written_or IsText IsLine fault status text before after is ends whole begun failed =
    outcome_of (PrintsOnly IsText) (Prints IsText IsLine) ⊥ ⊥ fault status before after (λ s t may. inl may) (λ none. none)
    (written IsText fault status text before after is ends whole begun failed)

-- the line of a refusal was printed, or a first part of it, or nothing since memory ran out
pub refused : (IsLine : List ℕ → Type 0) (fault : Option ErrorKind) (status : ℕ) (line : List ℕ) (before after : Option (List ℕ)) → IsLine line
    → EndsUndone status → (status ≡ REFUSED → Appends before after line) → (status ≡ OUT_OF_MEMORY → after ≡ before)
    → (status ≡ INPUT_OUTPUT → IsBegun before after line) → (status ≡ INPUT_OUTPUT → HasFault fault)
    → IsOutcome (PrintsRefusal IsLine) ⊥ fault status before after
refused IsLine fault status line before after is (inl e) whole silent begun failed = inl (line, (e, is), whole e)
refused IsLine fault status line before after is (inr (inl e)) whole silent begun failed =
    inr (inl (e, failed e, REFUSED, line, (refl, is), begun e))
refused IsLine fault status line before after is (inr (inr e)) whole silent begun failed = inr (inr (inr e, silent e))

pub refused_or : (IsText IsLine : List ℕ → Type 0) (fault : Option ErrorKind) (status : ℕ) (line : List ℕ) (before after : Option (List ℕ)) → IsLine line
    → EndsUndone status → (status ≡ REFUSED → Appends before after line) → (status ≡ OUT_OF_MEMORY → after ≡ before)
    → (status ≡ INPUT_OUTPUT → IsBegun before after line) → (status ≡ INPUT_OUTPUT → HasFault fault)
    → IsOutcome (Prints IsText IsLine) ⊥ fault status before after
refused_or IsText IsLine fault status line before after is ends whole silent begun failed =
    outcome_of (PrintsRefusal IsLine) (Prints IsText IsLine) ⊥ ⊥ fault status before after (λ s t may. inr may) (λ none. none)
    (refused IsLine fault status line before after is ends whole silent begun failed)

-- a line is refused in silence
pub refused_silently : (IsText IsLine : List ℕ → Type 0) (F : Type 0) (fault : Option ErrorKind) (status : ℕ) (known : Option (List ℕ)) → IsLine []
    → status ≡ REFUSED → IsOutcome (Prints IsText IsLine) F fault status known known
refused_silently IsText IsLine F fault status known is e = inl ([], inr (e, is), nothing_appended known)

-- nothing was printed, since a file can't be used, or memory ran out
pub unusable : (Is : ℕ → List ℕ → Type 0) (F : Type 0) (fault : Option ErrorKind) (kind : ErrorKind) (status : ℕ) (known : Option (List ℕ))
    → (kind ≡ WasOutOfMemory → status ≡ OUT_OF_MEMORY) → (status ≡ INPUT_OUTPUT) ⊎ (status ≡ OUT_OF_MEMORY) → (kind ≢ WasOutOfMemory → F)
    → IsOutcome Is F fault status known known
unusable Is F fault kind status known memory (inl e) can = inr (inr (inl (e, can (λ none. let out = memory none in omega (arith, e, out))), refl))
unusable Is F fault kind status known memory (inr e) can = inr (inr (inr e, refl))
