use Rattle.std.proofs.Common.{◌≡◌, drop, map, string_bytes}
use Rattle.command_line.specs.Joining.{joined, line_of}
use Rattle.command_line.proofs.joining.joined.Given as goal

abbrev pub invariant-loop-word : goal.invariant-loop-word
invariant-loop-word g l =
    line_of (map string_bytes l.line.done.items) l.line.command.now (string_bytes l.line.last) (map g.S.AsStr.text (drop l.word-index l.rest))
    ≡ joined (map g.S.AsStr.text l.words)
