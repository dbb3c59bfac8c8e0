use Rattle.session_texts.specs.Legs.{walk_value}
use Rattle.session_texts.proofs.ReplyLemmas.{points_stay_plain, walk_has_no_float}
use Rattle.session_texts.proofs.legs.JourneyLegs.add_walk.Goals as goal

pub invariant_of-self : goal.invariant_of-self
invariant_of-self c = record {
  plain = points_stay_plain _ _ _ c.in_ok-object.object _ c.args.self.now.plain c.in_ok-object.ensures
      (walk_has_no_float (walk_value c.args.walk)) c.push.ensures.items;
}
