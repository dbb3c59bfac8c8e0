use Rattle.std.proofs.Common.{◌≡◌, ◌+◌, ◌<◌, ◌≤◌, ℕ, get_or, arith, ap, sym, ◌∙◌}
use Rattle.image_layout.specs.Fields.{foot_index_of, foot_from_of, foot_secs_of}
use Rattle.image_verifier.specs.declared.fault.ImageFault.TheVariants.{NotClosed}
use Rattle.image_verifier.specs.FootFaults.{IsInto}
use Rattle.image_verifier.specs.ClosureFaults.{or_never, secs_between}
use Rattle.image_verifier.proofs.ClosureLemmas.{open_at, way_by_index, pair_closed, pair_open, none_to_end}
use Rattle.timetable.proofs.FirstLemmas.{first_between-empty, first_between-more, first_between-found}
use Rattle.image_verifier.proofs.closure.way_fault.Goals.{After-foot_secs_at}
use Rattle.image_verifier.proofs.closure.way_fault.Goals as goal

pub loop-first-init : goal.loop-first-init
loop-first-init c =
    let w = c.args.words.now in
    let middle = foot_from_of w c.args.second in
    let first : c.foot_index_at-first.result ≡ foot_index_of w middle =
    c.foot_index_at-first.ensures ∙ ap (λ (m : ℕ). foot_index_of w m) c.foot_from_at-middle.ensures in
    first_between-empty (open_at w middle c.args.into) (foot_index_of w middle) c.foot_index_at-first.result (omega arith)

-- the footpath at hand is one of those into where the second begins
leads_there : (c : goal.After-foot_secs_at) → IsInto c.args.words.now (foot_from_of c.args.words.now c.args.second) c.loop-first.first
leads_there c =
    let w = c.args.words.now in
    let middle = foot_from_of w c.args.second in
    let start : c.foot_index_at-first.result ≡ foot_index_of w middle =
    c.foot_index_at-first.ensures ∙ ap (λ (m : ℕ). foot_index_of w m) c.foot_from_at-middle.ensures in
    let end : c.foot_index_at-first-end.result ≡ foot_index_of w (middle + 1) =
    c.foot_index_at-first-end.ensures ∙ ap (λ (m : ℕ). foot_index_of w (m + 1)) c.foot_from_at-middle.ensures in
    let in_range = (c.requires.ranges c.args.into c.requires.second.stop).from c.args.second c.requires.second.start c.requires.second.end in
    record { stop = in_range; start = omega arith; end = omega arith }

-- what the table has where it begins
direct : (c : goal.After-foot_secs_at) → get_or c.args.secs.now (foot_from_of c.args.words.now c.loop-first.first) 0
    ≡ or_never (secs_between c.args.words.now (foot_from_of c.args.words.now c.loop-first.first) c.args.into)
unfolding secs_between
direct c =
    let w = c.args.words.now in
    let there = leads_there c in
    c.requires.entered.entry (foot_from_of w c.loop-first.first)
    ((c.requires.ranges (foot_from_of w c.args.second) there.stop).from c.loop-first.first there.start there.end)

pub returns-then-secs-from : goal.returns-then-secs-from
returns-then-secs-from c =
    let w = c.args.words.now in
    let into = c.args.into in
    let first = c.loop-first.first in
    let middle = foot_from_of w c.args.second in
    let at_hand = (goal.at.returns-then-secs-from c).After-foot_secs_at in
    let there = leads_there at_hand in
    let long : foot_secs_of w first + foot_secs_of w c.args.second < get_or c.args.secs.now (foot_from_of w first) 0 =
    rw (c.foot_from_at-from.ensures, c.foot_secs_at.ensures, c.foot_secs_at-second_secs.ensures) at c.if-secs-from.true in
    let longer = pair_open w first c.args.second into (get_or c.args.secs.now (foot_from_of w first) 0)
    c.requires.ranges there c.requires.second (direct at_hand) long in
    rw (c.foot_from_at-from.ensures, c.foot_from_at-middle.ensures)
    (sym (way_by_index w middle into (c.requires.ranges middle there.stop)
    ∙ first_between-found (open_at w middle into) (foot_index_of w middle) (foot_index_of w (middle + 1)) first (NotClosed (foot_from_of w first) middle into)
    there.start there.end c.loop-first.invariant longer))

pub loop-first-preserved : goal.loop-first-preserved
loop-first-preserved c =
    let w = c.args.words.now in
    let first = c.loop-first.first in
    let second = c.args.second in
    let at_hand = (goal.at.loop-first-preserved c).After-foot_secs_at in
    let there = leads_there at_hand in
    let test = rw (c.foot_from_at-from.ensures, c.foot_secs_at.ensures, c.foot_secs_at-second_secs.ensures) at c.if-secs-from.false in
    let short : get_or c.args.secs.now (foot_from_of w first) 0 ≤ foot_secs_of w first + foot_secs_of w second = omega (arith, test) in
    first_between-more (open_at w (foot_from_of w second) c.args.into) (foot_index_of w (foot_from_of w second)) first there.start c.loop-first.invariant
    (pair_closed w first second c.args.into (get_or c.args.secs.now (foot_from_of w first) 0) c.requires.ranges there c.requires.second (direct at_hand) short)

pub returns : goal.returns
returns c =
    let w = c.args.words.now in
    let middle = foot_from_of w c.args.second in
    let end : c.foot_index_at-first-end.result ≡ foot_index_of w (middle + 1) =
    c.foot_index_at-first-end.ensures ∙ ap (λ (m : ℕ). foot_index_of w (m + 1)) c.foot_from_at-middle.ensures in
    let in_range = (c.requires.ranges c.args.into c.requires.second.stop).from c.args.second c.requires.second.start c.requires.second.end in
    sym (way_by_index w middle c.args.into (c.requires.ranges middle in_range)
    ∙ none_to_end (open_at w middle c.args.into) (foot_index_of w middle) (foot_index_of w (middle + 1))
    c.loop-first.first (omega arith) c.loop-first.invariant)
