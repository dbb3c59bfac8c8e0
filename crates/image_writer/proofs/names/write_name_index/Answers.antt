use Rattle.std.proofs.Common.{◌≡◌, ℕ, ◌+◌, ◌++◌, length, map, sym, ap, ◌∙◌, arith}
use Rattle.std.specs.List.{range_with_len}
use Rattle.image_layout.specs.Spelling.{name_list, byte_count_before}
use Rattle.image_writer.proofs.NameCounts.{count_next, index_next}
use Rattle.image_writer.proofs.names.write_name_index.Goals as goal
use Rattle.image_layout.proofs.Whole.{count_within}

pub overflow_cast-bytes : goal.overflow_cast-bytes
overflow_cast-bytes c = omega (arith, c.requires, c.loop-i.invariant.0, count_within (name_list c.args.names.now) c.loop-i.i)

pub overflow_add-bytes : goal.overflow_add-bytes
overflow_add-bytes c =
    let names = name_list c.args.names.now in
    omega (
      arith,
      c.requires,
      c.loop-i.invariant.0,
      count_next names c.loop-i.i c.name_at.result.now c.name_at.ensures.name,
      count_within names (c.loop-i.i + 1),
    )

pub loop-i-preserved : goal.loop-i-preserved
loop-i-preserved c =
    let names = name_list c.args.names.now in (
      ap (λ (n : ℕ). n + length c.name_at.result.now) c.loop-i.invariant.0 ∙ sym (count_next names c.loop-i.i c.name_at.result.now c.name_at.ensures.name),
      c.in_ok-push.ensures.items ∙ index_next _ _ (byte_count_before names) c.loop-i.i _ c.loop-i.invariant.1 c.loop-i.invariant.0,
    )

pub returns : goal.returns
returns c =
    let names = name_list c.args.names.now in
    let at_end : c.loop-i.i ≡ length names = omega (arith, c.loop-i-test.false, c.loop-i.auto.i-end, c.name_count-i-end.ensures) in
    c.in_ok-push-2.ensures.items
    ∙ index_next _ _ (byte_count_before names) c.loop-i.i _ c.loop-i.invariant.1 c.loop-i.invariant.0
    ∙ ap (λ (k : ℕ). c.args.words.now.items ++ map (byte_count_before names) (range_with_len 0 (k + 1))) at_end
