-- What a server counts and prints, and in which form it replies.
use Rattle.std.specs.Prelude.{◌≡◌, ◌⊎◌, List, ℕ, ◌++◌, Bool, true, false, Option, codes, decimal, take}
use Rattle.std.specs.Io.KnownBytes.{Appends}
use Rattle.std.specs.declared.io.ErrorKind.{ErrorKind}
use Rattle.command_requests.specs.Ending.{sessions_in, status_of}
use Rattle.command_requests.specs.declared.statuses.TheConstants.{INPUT_OUTPUT, OUT_OF_MEMORY}
use Rattle.command_requests.specs.declared.ends.SessionCounts.{SessionCounts}
use Rattle.command_requests.specs.declared.requests.ServeRequest.{ServeRequest}
use Rattle.image_files.specs.Watching.{HasFault, IsBegun}
use Rattle.image_layout.specs.Image.{ImageValue}
use Rattle.std.specs.Option.{option_map}
use Rattle.answer_replies.specs.declared.point_form.PointForm.{PointForm}
use Rattle.session.specs.declared.reply_form.ReplyForm.{ReplyForm}
use Rattle.command_requests.specs.declared.plans.Seconds.{Seconds}
use Rattle.workers.specs.Ends.{Session, ended_in, failed_in, spent_in}

-- how many sessions ended in each way
abbrev pub counts_of : {R W S : Type 0} → List (Session R W S) → SessionCounts
counts_of sessions = record { ended = ended_in sessions; failed = failed_in sessions; spent = spent_in sessions }

-- with `--legs` each point of a profile has the legs of its journey
abbrev pub points_with : Bool → PointForm
points_with true = PointForm.WithLegs
points_with false = PointForm.Bare

-- with `--longest` no window may last longer than so many seconds, and with `--sets` a profile may name several stops on a side
abbrev pub form_with : Bool → Option Seconds → Bool → ReplyForm
form_with legs longest sets = record { points = points_with legs; longest = option_map (λ seconds. seconds.number) longest; sets = sets }

-- at which port it listens
abbrev pub port_text : ℕ → List ℕ
port_text port = (codes "listening " ++ decimal port) ++ codes "\n"

-- how many sessions there were
abbrev pub served_text : SessionCounts → List ℕ
served_text ends = (codes "served " ++ decimal (sessions_in ends)) ++ codes "\n"

-- how a server at this port ended whose sessions ended in these ways, and of which it is said whether accepting failed: with the status that follows from
-- that, once it has printed its port and the number of the sessions; or the output has a fault, and it has printed its port and a first part of the number's
-- line; or memory ran out, and it has printed its port alone
abbrev pub IsServerEnd : ℕ → Option ErrorKind → Option (List ℕ) → Option (List ℕ) → SessionCounts → Bool → ℕ → Type 0
IsServerEnd port fault before after ends is_deaf status =
    ((status ≡ status_of is_deaf ends) × Appends before after (port_text port ++ served_text ends))
    ⊎ ((status ≡ INPUT_OUTPUT) × HasFault fault × (count : ℕ) × Appends before after (port_text port ++ take count (served_text ends)))
    ⊎ ((status ≡ OUT_OF_MEMORY) × Appends before after (port_text port))

-- how a server at this port ended of whose sessions nothing is said: the output has a fault, and of its port's line it has printed a first part; or it lacked
-- memory or a thread, or lost one, and it has printed that line or nothing
abbrev pub IsNoServerEnd : ℕ → Option ErrorKind → Option (List ℕ) → Option (List ℕ) → ℕ → Type 0
IsNoServerEnd port fault before after status =
    ((status ≡ INPUT_OUTPUT) × HasFault fault × IsBegun before after (port_text port))
    ⊎ ((status ≡ OUT_OF_MEMORY) × ((after ≡ before) ⊎ Appends before after (port_text port)))

-- whether a server of this image that was asked for, with these bytes of its zone's file, may have had sessions that ended in these ways, while accepting
-- failed or didn't
abbrev pub MayHost : Type 1
MayHost = ServeRequest → ImageValue → List ℕ → SessionCounts → Bool → Type 0

-- a server at this port ended without a word of its sessions, or after sessions that may have ended as they are counted
abbrev pub IsEndAt : (SessionCounts → Bool → Type 0) → ℕ → Option ErrorKind → Option (List ℕ) → Option (List ℕ) → ℕ → Type 0
IsEndAt MayEnd port fault before after status =
    IsNoServerEnd port fault before after status
    ⊎ ((ends : SessionCounts) × (is_deaf : Bool) × ∥ MayEnd ends is_deaf ∥₁ × IsServerEnd port fault before after ends is_deaf status)
