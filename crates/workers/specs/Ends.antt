-- Sessions that ended, and how many there are of each end.
use Rattle.std.specs.Prelude.{◌≡◌, ◌-◌, ◌^◌, ℕ, min, Bool, true, false, List, Option, Result, Ok, Err}
use Rattle.std.specs.List.{count_by}
use Rattle.session.specs.declared.fault.Ended.{Ended}
use Rattle.session.specs.declared.fault.SessionFault.{SessionFault}
use Rattle.session.specs.declared.session_server.Streams.{Streams}
use Rattle.workers.specs.declared.served.SessionEnd.{SessionEnd}

-- a session: its client's reader and writer as they were when it ended, or none where the client couldn't be opened; and how it ended
abbrev pub Session : Type 0 → Type 0 → Type 0 → Type 0
Session R W S = Option (Streams R W S) × SessionEnd

-- a count of 64 bits, which stops at the greatest value
abbrev pub capped : ℕ → ℕ
capped n = min n (2 ^ 64 - 1)

abbrev pub has_ended : SessionEnd → Bool
has_ended SessionEnd.Ended = true
has_ended _ = false

abbrev pub has_failed : SessionEnd → Bool
has_failed SessionEnd.Failed = true
has_failed _ = false

abbrev pub is_spent : SessionEnd → Bool
is_spent SessionEnd.Spent = true
is_spent _ = false

abbrev pub ended_in : {R W S : Type 0} → List (Session R W S) → ℕ
ended_in sessions = capped (count_by (λ session. has_ended session.1) sessions)

abbrev pub failed_in : {R W S : Type 0} → List (Session R W S) → ℕ
failed_in sessions = capped (count_by (λ session. has_failed session.1) sessions)

abbrev pub spent_in : {R W S : Type 0} → List (Session R W S) → ℕ
spent_in sessions = capped (count_by (λ session. is_spent session.1) sessions)

-- the numbers count the sessions
pub record AreCounted {R W S : Type 0} (sessions : List (Session R W S)) (ended failed spent : ℕ) : Type 0 where
  pub ended_are : ended ≡ ended_in sessions
  pub failed_are : failed ≡ failed_in sessions
  pub spent_are : spent ≡ spent_in sessions

-- how a session ended
abbrev pub end_of : Result Ended SessionFault → SessionEnd
end_of (Ok ended) = SessionEnd.Ended
end_of (Err SessionFault.ReadFailed) = SessionEnd.Failed
end_of (Err SessionFault.WriteFailed) = SessionEnd.Failed
end_of (Err SessionFault.TooManyRequests) = SessionEnd.Spent
