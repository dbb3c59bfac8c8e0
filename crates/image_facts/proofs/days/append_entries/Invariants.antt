use Rattle.std.proofs.Common.{◌≡◌, ◌≤◌, ◌+◌, ◌++◌, length, string_bytes}
use Rattle.image_facts.specs.Entries.{rest_text}
use Rattle.image_facts.proofs.days.append_entries.Given as goal

-- what was added, and what is to come of the rest
abbrev pub invariant-loop-day : goal.invariant-loop-day
invariant-loop-day l = record {
  lines : string_bytes l.lines ++ rest_text l.form l.count l.rest ≡ string_bytes l.fn.lines ++ rest_text l.form 0 l.days;
  counted : l.count + length l.rest ≤ length l.days;
}

abbrev pub decreases-loop-day : goal.decreases-loop-day
decreases-loop-day l = length l.rest
