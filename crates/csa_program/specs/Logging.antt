-- Parts of the lines that a server logs, between the instant and the seconds.
use Rattle.std.specs.Prelude.{List, ℕ, ◌++◌, codes, decimal}
use Rattle.feed_loads.specs.declared.loading.LoadedVersion.{LoadedVersion}
use Rattle.workers.specs.declared.served.SessionEnd.{SessionEnd}

-- how a session ended
abbrev pub end_word : SessionEnd → List ℕ
end_word SessionEnd.Ended = codes "ended"
end_word SessionEnd.Failed = codes "failed"
end_word SessionEnd.Spent = codes "spent"

-- the session of this number begins
unfoldable pub begin_text : ℕ → List ℕ
begin_text number = (codes " session " ++ decimal number) ++ codes " began\n"

-- the session of this number ended so, and had sent so many requests
unfoldable pub session_text : ℕ → SessionEnd → ℕ → List ℕ
session_text number end requests =
    (codes " session " ++ decimal number) ++ (codes " " ++ end_word end) ++ (codes " requests " ++ decimal requests)

-- a load published this version
unfoldable pub loaded_text : LoadedVersion → List ℕ
loaded_text loaded =
    (codes " version " ++ decimal loaded.version) ++ (codes " runs " ++ decimal loaded.report.runs)
    ++ (codes " connections " ++ decimal loaded.report.connections)
