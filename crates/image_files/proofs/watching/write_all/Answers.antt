use Rattle.std.proofs.Common.{rules}
use Rattle.image_files.proofs.Appended.{appended_further}
use Rattle.image_files.proofs.watching.write_all.Goals as goal

pub loop-done-preserved : goal.loop-done-preserved
loop-done-preserved g c = record {
  within = search rules;
  written = appended_further _ _ _ c.args.bytes.now c.loop-done.done c.in_ok-count.count c.loop-done.invariant.within c.loop-done.invariant.written
      c.in_ok-count.ensures.bytes;
  clean = search rules;
}
