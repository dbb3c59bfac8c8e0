-- How a command ends: with which status, and what it has printed then.
use Rattle.std.specs.Prelude.{◌≡◌, ◌⊎◌, ℕ, List, Option}
use Rattle.std.specs.Io.KnownBytes.{Appends}
use Rattle.std.specs.declared.io.ErrorKind.{ErrorKind}
use Rattle.command_requests.specs.declared.statuses.TheConstants.{ACCEPTED, INPUT_OUTPUT, OUT_OF_MEMORY, REFUSED}
use Rattle.image_files.specs.Watching.{HasFault, IsBegun}

-- what was given is refused, or a file or a line can't be read or written, or memory ran out
abbrev pub EndsUndone : ℕ → Type 0
EndsUndone status = (status ≡ REFUSED) ⊎ (status ≡ INPUT_OUTPUT) ⊎ (status ≡ OUT_OF_MEMORY)

-- one of these, or what was asked for is done
abbrev pub Ends : ℕ → Type 0
Ends status = (status ≡ ACCEPTED) ⊎ EndsUndone status

-- the status that goes with a text is itself that of a failed call, as with the line of a file that can't be read, and the whole text was added
abbrev pub IsDone : ℕ → List ℕ → Option (List ℕ) → Option (List ℕ) → Type 0
IsDone status text before after = (status ≡ INPUT_OUTPUT) × Appends before after text

-- `Is status text` says which texts a command may print, and with which status it ends once it has printed such a text; `Unusable` that a file can't be read or
-- written, or that nothing listens, and `fault` is that of the output. The command ended so; or the output has a fault, and a first part of such a text was
-- printed; or `Unusable` holds, or memory ran out, and nothing was printed
abbrev pub IsOutcome : (ℕ → List ℕ → Type 0) → Type 0 → Option ErrorKind → ℕ → Option (List ℕ) → Option (List ℕ) → Type 0
IsOutcome Is Unusable fault status before after =
    ((text : List ℕ) × Is status text × Appends before after text)
    ⊎ ((status ≡ INPUT_OUTPUT) × HasFault fault × (whole : ℕ) × (text : List ℕ) × Is whole text × IsBegun before after text)
    ⊎ ((((status ≡ INPUT_OUTPUT) × Unusable) ⊎ (status ≡ OUT_OF_MEMORY)) × (after ≡ before))

-- it prints such a text if what was asked for is done
abbrev pub PrintsOnly : (List ℕ → Type 0) → ℕ → List ℕ → Type 0
PrintsOnly IsText status text = (status ≡ ACCEPTED) × IsText text

-- it prints such a line if what was given is refused
abbrev pub PrintsRefusal : (List ℕ → Type 0) → ℕ → List ℕ → Type 0
PrintsRefusal IsLine status line = (status ≡ REFUSED) × IsLine line

-- it prints such a text if what was asked for is done, and such a line if that is refused
abbrev pub Prints : (List ℕ → Type 0) → (List ℕ → Type 0) → ℕ → List ℕ → Type 0
Prints IsText IsLine status text = PrintsOnly IsText status text ⊎ PrintsRefusal IsLine status text
