-- What follows when a connection can't be accepted.
use Rattle.std.specs.declared.io.ErrorKind.{ErrorKind}
use Rattle.std.specs.declared.io.ErrorKind.TheVariants.{ConnectionAborted, ConnectionReset, HostUnreachable, Interrupted}
use Rattle.std.specs.declared.io.ErrorKind.TheVariants.{NetworkDown, NetworkUnreachable, OutOfMemory, Uncategorized}
use Rattle.csa_program.specs.declared.accepting.NextTry.{NextTry}
use Rattle.csa_program.specs.declared.accepting.NextTry.TheVariants.{AtOnce, Later, Never}

-- when accepting is tried again after an error of this kind: at once if the call was interrupted or the connection is gone; later if memory or the
-- network is wanting, or descriptors or buffers, which have no kind of their own; after any other error never
abbrev pub next_try_after : ErrorKind → NextTry
next_try_after Interrupted = AtOnce
next_try_after ConnectionAborted = AtOnce
next_try_after ConnectionReset = AtOnce
next_try_after OutOfMemory = Later
next_try_after NetworkDown = Later
next_try_after NetworkUnreachable = Later
next_try_after HostUnreachable = Later
next_try_after Uncategorized = Later
next_try_after _ = Never
