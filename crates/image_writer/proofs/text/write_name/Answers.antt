use Rattle.std.proofs.Common.{ℕ, List, [], ◌∷◌, ◌++◌, get_or, take, ap, ◌∙◌}
use Rattle.image_writer.specs.Packing.{full_words, rest_of, waiting_bytes}
use Rattle.image_writer.proofs.Fours.{written_more, rest_more, byte_more}
use Rattle.image_writer.proofs.text.write_name.Goals as goal

pub loop-byte-preserved : goal.loop-byte-preserved
loop-byte-preserved c =
    let more = byte_more (waiting_bytes c.args.waiting) c.args.name.now c.loop-byte.byte-index c.loop-byte-test.true in
    let byte = get_or c.args.name.now c.loop-byte.byte-index 0 ∷ [] in
    let seen = waiting_bytes c.args.waiting ++ take c.loop-byte.byte-index c.args.name.now in (
      c.in_ok-waiting.ensures.written ∙ written_more _ _ seen _ byte c.loop-byte.invariant.0 c.loop-byte.invariant.1
          ∙ ap (λ (bytes : List ℕ). c.args.words.now.items ++ full_words bytes) more,
      c.in_ok-waiting.ensures.rest ∙ rest_more seen _ byte c.loop-byte.invariant.1 ∙ ap rest_of more,
    )
