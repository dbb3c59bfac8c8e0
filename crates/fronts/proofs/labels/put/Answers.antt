use Rattle.std.proofs.Common.{rules, ◌++◌, length, ap, ◌∙◌, arith}
use Rattle.std.proofs.lemmas.Slice.{between_to_end}
use Rattle.fronts.proofs.Leaving.{match_err}
use Rattle.fronts.proofs.Runs.{end_puts, over_puts, put_twice}
use Rattle.fronts.proofs.labels.put.Goals as goal

pub returns-then-count-run : goal.returns-then-count-run
returns-then-count-run g c =
    let fits = c.if-count-run.true in
    over_puts c.args.labels.now.items c.args.run c.args.new.now c.write_over.new.labels.items c.in_ok-count.count
    (search rules) (omega arith) c.requires.within c.write_over.ensures

pub returns-in_err-room : goal.returns-in_err-room
returns-in_err-room g c =
    let new = c.args.new.now in
    let mid = c.extend_from_slice.new.self.items in
    match_err _ _ c.from_residual-in_err-room.result c.from_residual-in_err-room.ensures.1
    (put_twice c.args.labels.now.items new mid c.extend_from_slice-2.new.self.items c.in_ok-extend_from_slice.ensures.items
    (c.in_ok-extend_from_slice-2.ensures.items ∙ ap (λ xs. mid ++ xs) (between_to_end new 1 (length new) (omega arith))))

pub returns : goal.returns
returns g c =
    let new = c.args.new.now in
    let mid = c.extend_from_slice.new.self.items in
    end_puts c.args.labels.now.items c.args.run new mid c.extend_from_slice-2.new.self.items c.in_ok-first.first c.in_ok-count.count c.in_ok-room.room
    (search rules) (search rules) (search rules) (search rules) (c.in_ok-extend_from_slice-2.ensures.items
    ∙ ap (λ xs. mid ++ xs) (between_to_end new 1 (length new) (omega arith)))
