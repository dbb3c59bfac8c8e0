use Rattle.lines.specs.LineReads.{reads_of}
use Rattle.lines.proofs.counted.line_note.Given as goal

abbrev pub ghost-at : goal.ghost-at
ghost-at a = (a.first.now.now, reads_of a.second.now)
