use Rattle.std.proofs.Common.{Bool, [], ◌∷◌, inl, inr, refl, subst, sym}
use Rattle.std.specs.Prelude.{MatchBool}
use Rattle.std.proofs.lemmas.List.{append-nil}
use Rattle.feed_stations.specs.Finding.{IsIn}
use Rattle.image_commands.proofs.stops.add_if_found.Goals as goal

pub returns-then-not-is_in : goal.returns-then-not-is_in
returns-then-not-is_in c =
    let here = IsIn c.args.text.now c.args.name.now in
    ([], inr (subst (λ (b : Bool). MatchBool b here (¬ here)) c.if-not-is_in.true c.is_in.ensures, refl), sym (append-nil c.args.found.now.items))

pub returns : goal.returns
returns c =
    let here = IsIn c.args.text.now c.args.name.now in (
      c.args.stop ∷ [],
      inl (subst (λ (b : Bool). MatchBool b here (¬ here)) c.if-not-is_in.false c.is_in.ensures, refl),
      c.in_ok-push.ensures.items,
    )
