use Rattle.std.proofs.Common.{◌≢◌, ◌∙◌, ℕ, get_or, map, sym}
use Rattle.std.proofs.lemmas.List.{get_or-map}
use borrow.Author.Count.{below_more}
use Rattle.clap.specs.Words.{Text}
use Rattle.command_line.proofs.Distinct.{other_text, same_text}
use Rattle.command_line.proofs.requests.place_of.Goals as goal

pub returns-then-eq : goal.returns-then-eq
returns-then-eq c =
    let same = same_text c.eq.result _ _ c.eq.ensures c.if-eq.true in
    (c.loop-place-test.true, λ d. get_or-map (λ other. other.now) c.args.others.now c.loop-place.place _ d c.loop-place-test.true ∙ same)

pub loop-place-preserved : goal.loop-place-preserved
loop-place-preserved c =
    let differs = other_text c.eq.result _ _ c.eq.ensures c.if-eq.false in
    below_more (λ (k : ℕ). (d : Text) → get_or (map (λ other. other.now) c.args.others.now) k d ≢ c.args.text.now) c.loop-place.place
    c.loop-place.invariant
    (λ d same. differs (sym (get_or-map (λ other. other.now) c.args.others.now c.loop-place.place _ d c.loop-place-test.true) ∙ same))
