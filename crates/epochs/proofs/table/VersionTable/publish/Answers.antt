use Rattle.std.proofs.Common.{◌∙◌}
use Rattle.epochs.proofs.SeatLemmas.{version_within, refused_so, stays_current}
use Rattle.epochs.proofs.table.VersionTable.publish.Goals as goal

pub returns-in-Ok-clause-loader : goal.returns-in-Ok-clause-loader
returns-in-Ok-clause-loader c =
    let done = c.in-Ok.ensures.published in
    let before = c.history.ensures in
    let after = c.history-in-Ok.ensures in
    let within = version_within c.args.self.now done.0 c.publish_next.new.self _ c.in-Ok.version before.kept
    before.history.rest after.kept after.history.rest done.1 done.2 in
    (within.0, within.1, (c.of-shown.result, c.of-shown.ensures ∙ c.deref.ensures, c.note_answer.ensures))

pub returns-in-Err-clause-loader : goal.returns-in-Err-clause-loader
returns-in-Err-clause-loader c =
    refused_so c.args.self.now c.publish_next.new.self c.args.loader.now c.note_answer-in-Err.new.self c.in-Err.fault
    c.history.ensures.kept c.in-Err.ensures.refused c.note_answer-in-Err.ensures

pub returns-in-Err-clause-same : goal.returns-in-Err-clause-same
returns-in-Err-clause-same c = stays_current c.args.self.now c.publish_next.new.self c.in-Err.fault c.in-Err.ensures.refused
