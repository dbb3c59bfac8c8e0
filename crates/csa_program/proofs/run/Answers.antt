use Rattle.std.proofs.Common.{◌≡◌, ◌⊎◌, Option, subst}
use Rattle.std.specs.declared.io.ErrorKind.{ErrorKind}
use Rattle.command_requests.specs.declared.statuses.TheConstants.{ACCEPTED, INPUT_OUTPUT, REFUSED}
use Rattle.csa_program.proofs.Unwritten.{unwritten_as}
use Rattle.csa_program.proofs.run.Goals as goal
use Rattle.image_files.specs.Watching.{HasFault}

-- it ended as it would, or its output has a fault
pub returns-clause-ended : goal.returns-clause-ended
returns-clause-ended g c =
    let status = c.unless_unwritten-status in
    let ran = c.run_read-ended in
    let ended = ran.result in
    let kept = subst (λ (fault : Option ErrorKind). (status.result ≡ ended) ⊎ (((ended ≡ ACCEPTED) ⊎ (ended ≡ REFUSED)) × (status.result ≡ INPUT_OUTPUT)
    × HasFault fault)) c.fault.ensures status.ensures.kept in (
      c.asked-asked.result,
      c.asked-asked.ensures,
      unwritten_as {D = g.row.H.Denot} (g.H.ImageDisk.may_hold c.args.rt.now) (g.H.ImageDisk.may_fail c.args.rt.now) g.H.Disk.gives
          (g.H.OutDisk.files c.args.rt.now) (g.O.Watched.form c.args.output.now) (g.H.WallClock.may_show c.args.rt.now) _ (g.I.Read.remaining c.args.input.now)
          (g.I.WatchedRead.may_fail c.args.input.now) (g.O.Watched.noted ran.new.output) ended status.result
          (g.O.Write.contents c.args.output.now) (g.O.Write.contents ran.new.output) c.asked-asked.result kept ran.ensures.ended,
      ran.ensures.input,
    )
