use Rattle.std.proofs.Common.{ℕ, ◌+◌, length, sym, ap, ◌∙◌, arith}
use Rattle.image_layout.specs.Spelling.{name_list}
use Rattle.image_writer.proofs.NameCounts.{count_next}
use Rattle.image_writer.proofs.names.text_len.Goals as goal
use Rattle.image_layout.proofs.Whole.{count_within}

pub overflow_add-bytes : goal.overflow_add-bytes
overflow_add-bytes c =
    let names = name_list c.args.names.now in
    omega (arith, c.requires, c.loop-i.invariant, count_next names c.loop-i.i c.name_at.result.now c.name_at.ensures.name, count_within names (c.loop-i.i + 1))

pub loop-i-preserved : goal.loop-i-preserved
loop-i-preserved c =
    ap (λ (n : ℕ). n + length c.name_at.result.now) c.loop-i.invariant
    ∙ sym (count_next (name_list c.args.names.now) c.loop-i.i c.name_at.result.now c.name_at.ensures.name)
