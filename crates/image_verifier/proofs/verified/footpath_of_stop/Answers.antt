use Rattle.std.proofs.Common.{Some, ap, ◌∙◌, refl}
use Rattle.image_layout.proofs.Found.{footpath_is}
use Rattle.image_verifier.proofs.AcceptedLemmas.{AreFaultless-from, IsFootIndex-from}
use Rattle.image_verifier.proofs.ShownLemmas.{foot_index_within}
use Rattle.image_verifier.proofs.verified.footpath_of_stop.Goals as goal

pub foot_from_at-requires-clause-within : goal.foot_from_at-requires-clause-within
foot_from_at-requires-clause-within c = foot_index_within c.args.words.now c.args.stop c.args.position c.requires.accepted c.requires.stop c.requires.end

pub foot_secs_at-requires-clause-within : goal.foot_secs_at-requires-clause-within
foot_secs_at-requires-clause-within c = foot_index_within c.args.words.now c.args.stop c.args.position c.requires.accepted c.requires.stop c.requires.end

pub returns : goal.returns
returns c =
    let w = c.args.words.now in
    let feet = IsFootIndex-from w (AreFaultless-from w c.requires.accepted.faultless) in
    footpath_is w c.args.stop c.args.position c.requires.accepted.whole feet c.requires.stop c.requires.start c.requires.end
    ∙ ap Some (rw (c.foot_from_at.ensures, c.foot_secs_at.ensures) refl)
