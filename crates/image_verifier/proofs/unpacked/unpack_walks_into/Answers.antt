use Rattle.std.proofs.Common.{◌≡◌, ◌≤◌, ◌<◌, ◌∙◌, ℕ, ◌+◌, ◌-◌, ◌++◌, map, refl, ap, arith}
use Rattle.std.specs.List.{range_with_len}
use Rattle.image_layout.specs.Fields.{foot_index_of}
use Rattle.image_layout.specs.Shown.{footpath_of}
use Rattle.image_verifier.proofs.ShownLemmas.{walks_order, foot_index_within}
use Rattle.image_verifier.proofs.Unpacking.{one_more}
use Rattle.image_verifier.proofs.unpacked.unpack_walks_into.Goals as goal

pub foot_from_at-requires-clause-within : goal.foot_from_at-requires-clause-within
foot_from_at-requires-clause-within c =
    let below : c.loop-position.position < foot_index_of c.args.words.now (c.args.stop + 1) = omega
    (arith, c.loop-position-test.true, c.foot_index_at-end.ensures) in
    foot_index_within c.args.words.now c.args.stop c.loop-position.position c.requires.accepted c.requires.within below

pub foot_secs_at-requires-clause-within : goal.foot_secs_at-requires-clause-within
foot_secs_at-requires-clause-within c =
    let below : c.loop-position.position < foot_index_of c.args.words.now (c.args.stop + 1) = omega
    (arith, c.loop-position-test.true, c.foot_index_at-end.ensures) in
    foot_index_within c.args.words.now c.args.stop c.loop-position.position c.requires.accepted c.requires.within below

pub loop-position-preserved : goal.loop-position-preserved
loop-position-preserved c =
    let w = c.args.words.now in
    let stop = c.args.stop in
    let position = c.loop-position.position in
    let from_first : foot_index_of w stop ≤ position = omega (arith, c.loop-position.auto.position, c.foot_index_at-first.ensures) in
    c.in_ok-push.ensures.items
    ∙ one_more (footpath_of w stop) (foot_index_of w stop) position c.args.footpaths.now.items _ _ from_first
    c.loop-position.invariant (rw (c.foot_from_at.ensures, c.foot_secs_at.ensures) refl)

pub returns : goal.returns
returns c =
    let w = c.args.words.now in
    let stop = c.args.stop in
    let first = foot_index_of w stop in
    let order = walks_order w stop c.requires.accepted c.requires.within in
    let end : c.loop-position.position ≡ foot_index_of w (stop + 1) =
    omega (arith, order, c.loop-position-test.false, c.loop-position.auto.position-end, c.foot_index_at-first.ensures, c.foot_index_at-end.ensures) in
    c.loop-position.invariant ∙ ap (λ (n : ℕ). c.args.footpaths.now.items ++ map (footpath_of w stop) (range_with_len first (n - first))) end
