use Rattle.std.proofs.Common.{map, string_bytes}
use Rattle.serde_json.specs.View.{view}
use Rattle.session_texts.proofs.ReplyLemmas.{legged_has_no_float, points_stay_plain}
use Rattle.session_texts.proofs.replies.Points.add_with_legs.Goals as goal

pub invariant_of-self : goal.invariant_of-self
invariant_of-self c = record {
  plain = points_stay_plain _ _ _ c.in_ok-point.point _ c.args.self.now.plain c.in_ok-point.ensures
      (legged_has_no_float c.args.departure c.args.figures (string_bytes c.args.journey) (map view c.args.legs.values.items) c.args.legs.plain)
      c.push.ensures.items;
}
