use Rattle.std.proofs.Common.{◌≡◌, ℕ, get_or, subst, arith}
use Rattle.std.proofs.lemmas.Grind.{common_steps}
use Rattle.std.proofs.lemmas.Option.{slice_get-get_or}
use Rattle.timetable.specs.declared.network.Footpath.{Footpath}
use Rattle.timetable.specs.Legal.{At}
use Rattle.footpaths.proofs.IndexLemmas.{no_path}
use Rattle.tests_feed.proofs.tests.closing.has_loop.Goals as goal

pub returns-then-path-stop-2 : goal.returns-then-path-stop-2
returns-then-path-stop-2 c =
    let path : Footpath = get_or c.args.listed.now c.loop-path.path-index no_path in
    let from : path.from ≡ c.args.stop = grind (arith, common_steps) in
    let to : path.to ≡ c.args.stop = grind (arith, common_steps) in
    let at : At c.args.listed.now c.loop-path.path-index path = slice_get-get_or c.args.listed.now c.loop-path.path-index no_path c.loop-path-test.true in
    λ yes. (
      path.secs,
      (
        c.loop-path.path-index,
        subst (λ (n : ℕ). At c.args.listed.now c.loop-path.path-index (record { from = c.args.stop; to = n; secs = path.secs })) to
            (subst (λ (n : ℕ). At c.args.listed.now c.loop-path.path-index (record { from = n; to = path.to; secs = path.secs })) from at),
      ),
    )
