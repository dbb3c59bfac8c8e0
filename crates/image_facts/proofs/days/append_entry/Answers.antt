use Rattle.std.proofs.Common.{string_bytes, sym}
use Rattle.image_facts.proofs.Lines.{last_entry, next_entry}
use Rattle.image_facts.proofs.days.append_entry.Goals as goal

pub returns-then-is_last-clause-lines : goal.returns-then-is_last-clause-lines
returns-then-is_last-clause-lines c =
    last_entry c.args.form c.args.count c.args.day c.args.more.now (string_bytes c.args.lines.now) (string_bytes c.append_day.new.lines)
    (sym c.if-is_last.ensures) c.in_ok-append_day.ensures

pub returns-clause-lines : goal.returns-clause-lines
returns-clause-lines c =
    next_entry c.args.form c.args.count c.args.day c.args.more.now (string_bytes c.args.lines.now) (sym c.if-is_last.ensures)
