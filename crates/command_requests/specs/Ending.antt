-- What a server reports at its end.
use Rattle.std.specs.Prelude.{◌+◌, ◌-◌, ◌^◌, ◌||◌, if◌then◌else◌, ℕ, nat_lt, min, Bool}
use Rattle.command_requests.specs.declared.ends.SessionCounts.{SessionCounts}

-- 3 if the server failed to accept a session or a session failed, else 2 if a session had too many requests, else 0
abbrev pub status_of : Bool → SessionCounts → ℕ
status_of is_deaf ends = if is_deaf || nat_lt 0 ends.failed then 3 else (if nat_lt 0 ends.spent then 2 else 0)

-- how many sessions there were; each sum saturates at 2^64 - 1
abbrev pub sessions_in : SessionCounts → ℕ
sessions_in ends = min (min (ends.ended + ends.failed) (2 ^ 64 - 1) + ends.spent) (2 ^ 64 - 1)
