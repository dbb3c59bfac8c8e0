use Rattle.std.proofs.Common.{◌≡◌, ◌≢◌, inl, inr, List, ℕ, refl, Err}
use Rattle.jiff.specs.Words.{Error}
use Rattle.jiff_core.specs.declared.error.Error.TheVariants.{OutOfMemory}
use Rattle.jiff_tz.specs.Tzif.{IsParseFailure}
use Rattle.jiff_tz.specs.TzifReader.{read_tzif}
use Rattle.service_days.specs.declared.fault.DayFault.TheVariants.{BadZone}
use Rattle.service_days.specs.Zones.{IsBadFile}
use Rattle.service_days.proofs.zone.Zone.file_bytes.Goals as goal

-- a failure of another cause than memory is one of the bytes
of_bytes : (e : Error) (bytes : List ℕ) → e ≢ OutOfMemory → IsParseFailure e bytes → IsBadFile bytes
of_bytes e bytes n (inl (inl memory)) = absurd (n memory)
of_bytes e bytes n (inl (inr h)) = let w : read_tzif bytes ≡ Err h.0 = h.1 in inl (rw w refl)
of_bytes e bytes n (inr h) = inr h.1

pub returns-in-Err-clause-bad : goal.returns-in-Err-clause-bad
returns-in-Err-clause-bad c = λ is_bad.
    let same : c.file_fault.result ≡ BadZone = cc in
    of_bytes c.in-Err.error c.args.bytes.now (c.file_fault.ensures.bad same) c.in-Err.ensures.err
