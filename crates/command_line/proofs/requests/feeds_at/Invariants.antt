use Rattle.std.proofs.Common.{map, take}
use Rattle.std.specs.List.{AllZip}
use Rattle.command_line.specs.Requests.{AreDistinct}
use Rattle.command_line.specs.Values.{SpellsFolder}
use Rattle.command_line.proofs.Feeds.{names}
use Rattle.command_line.proofs.requests.feeds_at.Given as goal

abbrev pub invariant-loop-word : goal.invariant-loop-word
invariant-loop-word l = record {
  spelled : AllZip SpellsFolder (take l.word-index (map (λ word. word.now) l.words)) l.feeds.items;
  apart : AreDistinct (names l.feeds.items);
}
