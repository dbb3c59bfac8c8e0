-- A call that failed leaves a fault.
use Rattle.std.proofs.Common.{◌≡◌, ◌≢◌, ◌<◌, ℕ, zero, List, [], ◌∷◌, Option, None, Some, Result, Ok, Err, IfErr, OnErr, OnOk, arith, length, subst, sym}
use Rattle.std.specs.IoError.{error_kind}
use Rattle.std.specs.declared.io.Error.{Error}
use Rattle.std.specs.declared.io.ErrorKind.{ErrorKind}
use Rattle.std.specs.declared.io.ErrorKind.TheVariants.{OutOfMemory}
use Rattle.image_files.specs.Watching.{HasFault, first_fault, flush_fault}

flushed : {T : Type 0} (old : Option ErrorKind) (result : Result T Error) → OnErr result (HasFault (flush_fault old result))
flushed (Some kind) (Ok done) = tt
flushed (Some kind) (Err error) = tt
flushed None (Ok done) = tt
flushed None (Err error) = tt

pub flush_failed : {T : Type 0} (old new : Option ErrorKind) (result : Result T Error) → new ≡ flush_fault old result → OnErr result (HasFault new)
flush_failed old new result is = subst (λ (fault : Option ErrorKind). OnErr result (HasFault fault)) (sym is) (flushed old result)

put : (old : Option ErrorKind) (bytes : List ℕ) (result : Result ℕ Error) → OnErr result (HasFault (first_fault old bytes result))
put (Some kind) bytes (Ok count) = tt
put (Some kind) bytes (Err error) = tt
put None bytes (Ok count) = tt
put None bytes (Err error) = tt

pub put_failed : (old new : Option ErrorKind) (bytes : List ℕ) (result : Result ℕ Error) → new ≡ first_fault old bytes result → OnErr result (HasFault new)
put_failed old new bytes result is = subst (λ (fault : Option ErrorKind). OnErr result (HasFault fault)) (sym is) (put old bytes result)

none_taken : (old : Option ErrorKind) (bytes : List ℕ) → 0 < length bytes → HasFault (first_fault old bytes (Ok zero))
none_taken (Some kind) bytes some = tt
none_taken None [] some = absurd (omega (arith, some))
none_taken None (byte ∷ bytes) some = tt

-- a write that takes nothing is a failed one
pub put_nothing : (old new : Option ErrorKind) (bytes : List ℕ) → 0 < length bytes → new ≡ first_fault old bytes (Ok 0) → HasFault new
put_nothing old new bytes some is = subst HasFault (sym is) (none_taken old bytes some)

pub at_error : {T E P : Type 0} (result : Result T E) → P → OnErr result P
at_error (Ok done) p = tt
at_error (Err error) p = p

-- why a file isn't at its path, once it was written or not
pub settled : {T : Type 0} (outcome result : Result T Error) (Fault Fails Unwritable : Type 0) → IfErr outcome (λ error. result ≡ Err error)
    → OnOk outcome (OnErr result Fails) → (Fails → Unwritable) → (Fault → Unwritable)
    → IfErr outcome (λ error. error_kind error ≢ OutOfMemory → Fault) → IfErr result (λ error. error_kind error ≢ OutOfMemory → Unwritable)
settled (Ok done) (Ok moved) Fault Fails Unwritable same stays fails has why = tt
settled (Ok done) (Err error) Fault Fails Unwritable same stays fails has why = λ other. fails stays
settled (Err error) result Fault Fails Unwritable same stays fails has why =
    subst (λ r. IfErr r (λ e. error_kind e ≢ OutOfMemory → Unwritable)) (sym same) (λ other. has (why other))

-- what holds of any failure holds of those of some kind
pub if_failed : {T E : Type 0} (P : Type 0) (Is : E → Type 0) (result : Result T E) → OnErr result P → IfErr result (λ error. Is error → P)
if_failed P Is (Ok done) p = tt
if_failed P Is (Err error) p = λ is. p
