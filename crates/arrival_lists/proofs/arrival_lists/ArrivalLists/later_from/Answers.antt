use Rattle.std.proofs.Common.{◌∙◌, ap, sym, subst, slice_get}
use Rattle.arrival_lists.specs.Lists.{IsLate}
use Rattle.arrival_lists.specs.declared.entry.FirstPoint.{FirstPoint}
use Rattle.arrival_lists.proofs.arrival_lists.ArrivalLists.later_from.Goals as goal

pub returns : goal.returns
returns c =
    let first = c.first_at.ensures in
    let head_is = ap (λ (f : FirstPoint). f.head) first.is in
    record {
      is_first = record {
        entry = first.entry;
        at = ap (slice_get c.args.self.now.entries.items) head_is ∙ first.at;
        is = first.is ∙ sym (ap (λ n. record { time = first.entry.time; departure = first.entry.departure; tag = first.entry.tag; head = n }) head_is);
      };
      late = subst (IsLate c.args.self.now.entries.items c.args.head c.args.time) (sym head_is) c.late-index.ensures;
    }
