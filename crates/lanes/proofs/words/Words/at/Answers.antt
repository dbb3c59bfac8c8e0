use Rattle.std.proofs.Common.{◌+◌, ap, ◌∙◌, arith}
use Rattle.lanes.specs.TripLanes.{ending}
use Rattle.lanes.proofs.WordLemmas.{even_are, one_label}
use Rattle.lanes.proofs.words.Words.at.Goals as goal

pub invariant_of-result : goal.invariant_of-result
invariant_of-result c = record { falls = even_are 9 c.args.time (omega arith) (λ less. c.requires) }

pub returns : goal.returns
returns c = λ first.
    one_label (λ k. first + k) 8 c.args.time (omega (arith, c.requires)) ∙ ap (ending c.args.time) (omega arith)
