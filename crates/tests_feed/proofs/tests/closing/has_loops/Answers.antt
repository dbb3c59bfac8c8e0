use Rattle.std.proofs.Common.{◌≡◌, ℕ, inl, inr, sym, subst, true, arith}
use Rattle.std.proofs.lemmas.Bool.{cases_eq}
use Rattle.std.proofs.lemmas.Grind.{common_steps}
use Rattle.timetable.specs.Legal.{HasFootpath}
use Rattle.tests_feed.proofs.tests.closing.has_loops.Goals as goal

pub loop-stop-preserved : goal.loop-stop-preserved
loop-stop-preserved c = λ s below. elim (cases_eq s c.loop-stop.stop) [
  | inl same ↦
      let yes : c.has_loop.result ≡ true = grind (arith, common_steps) in
      subst (λ (n : ℕ). (secs : ℕ) × HasFootpath c.args.listed.now n n secs) (sym same) (c.has_loop.ensures yes)
  | inr differ ↦ c.loop-stop.invariant s (omega (arith, below, differ))
]
