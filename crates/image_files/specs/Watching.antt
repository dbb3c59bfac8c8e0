-- Why a writer couldn't be written, and what was written before that.
use Rattle.std.specs.Prelude.{ℕ, zero, suc, List, [], ◌∷◌, Option, Some, None, Result, Ok, Err, take}
use Rattle.std.specs.Io.KnownBytes.{Appends}
use Rattle.std.specs.IoError.{error_kind}
use Rattle.std.specs.declared.io.Error.{Error}
use Rattle.std.specs.declared.io.ErrorKind.{ErrorKind}
use Rattle.std.specs.declared.io.ErrorKind.TheVariants.{WriteZero}

-- why none of these bytes was written, although there are some
abbrev pub write_fault : List ℕ → Result ℕ Error → Option ErrorKind
write_fault bytes (Err error) = Some (error_kind error)
write_fault [] (Ok count) = None
write_fault (byte ∷ bytes) (Ok zero) = Some WriteZero
write_fault (byte ∷ bytes) (Ok (suc count)) = None

-- the first fault is kept
abbrev pub first_fault : Option ErrorKind → List ℕ → Result ℕ Error → Option ErrorKind
first_fault (Some kind) bytes result = Some kind
first_fault None bytes result = write_fault bytes result

-- the same of a flush
abbrev pub flush_fault : {T : Type 0} → Option ErrorKind → Result T Error → Option ErrorKind
flush_fault (Some kind) result = Some kind
flush_fault None (Ok done) = None
flush_fault None (Err error) = Some (error_kind error)

-- there is a fault
abbrev pub HasFault : Option ErrorKind → Type 0
HasFault None = ⊥
HasFault (Some kind) = Unit {0}

-- a first part of the text, possibly empty or all of it, was added to what was written before, and nothing else
pub record IsBegun (before after : Option (List ℕ)) (text : List ℕ) : Type 0 where
  pub count : ℕ
  pub added : Appends before after (take count text)
