use Rattle.std.proofs.Common.{◌+◌, arith, sym, ◌∙◌}
use Rattle.image_layout.specs.Fields.{foot_index_of}
use Rattle.image_verifier.proofs.ClosureLemmas.{way_at, into_by_index, none_to_end}
use Rattle.timetable.proofs.FirstLemmas.{first_between-empty, first_between-more, first_between-found}
use Rattle.image_verifier.proofs.closure.into_fault.Goals as goal

pub loop-second-init : goal.loop-second-init
loop-second-init c =
    let w = c.args.words.now in
    let into = c.args.into in
    first_between-empty (way_at w into) (foot_index_of w into) c.foot_index_at-second.result (omega arith)

pub returns-in-Some-clause-fault : goal.returns-in-Some-clause-fault
returns-in-Some-clause-fault c =
    let w = c.args.words.now in
    let into = c.args.into in
    sym (into_by_index w into (c.requires.ranges into c.requires.into)
    ∙ first_between-found (way_at w into) (foot_index_of w into) (foot_index_of w (into + 1)) c.loop-second.second
    c.in-Some.fault (omega arith) (omega arith) c.loop-second.invariant (sym c.way_fault.ensures ∙ c.in-Some.is))

pub loop-second-preserved : goal.loop-second-preserved
loop-second-preserved c =
    let w = c.args.words.now in
    let into = c.args.into in
    first_between-more (way_at w into) (foot_index_of w into) c.loop-second.second (omega arith) c.loop-second.invariant
    (sym c.way_fault.ensures ∙ c.in_default.is)

pub returns-clause-fault : goal.returns-clause-fault
returns-clause-fault c =
    let w = c.args.words.now in
    let into = c.args.into in
    sym (into_by_index w into (c.requires.ranges into c.requires.into)
    ∙ none_to_end (way_at w into) (foot_index_of w into) (foot_index_of w (into + 1)) c.loop-second.second (omega arith) c.loop-second.invariant)
