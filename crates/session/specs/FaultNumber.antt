-- The numbers and names under which faults are reported.
use Rattle.std.specs.Prelude.{ℕ, List, codes}
use Rattle.session.specs.declared.fault.SessionFault.{SessionFault}

abbrev pub numbered_session_fault : SessionFault → ℕ × List ℕ
numbered_session_fault SessionFault.ReadFailed = (117, codes "ReadFailed")
numbered_session_fault SessionFault.WriteFailed = (118, codes "WriteFailed")
numbered_session_fault SessionFault.TooManyRequests = (119, codes "TooManyRequests")
