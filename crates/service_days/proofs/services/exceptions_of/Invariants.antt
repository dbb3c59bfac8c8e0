use Rattle.std.proofs.Common.{◌≡◌, List, ℕ, []}
use Rattle.std.specs.Prelude.{map, filter, take}
use Rattle.std.specs.Option.{option_map_or}
use Rattle.std.specs.HashMap.{get_by_text, hasher_of}
use Rattle.std.specs.Str.{bytes_eq}
use Rattle.std.specs.String.{string_bytes}
use Rattle.service_days.specs.Services.{exception_of}
use Rattle.service_days.proofs.services.exceptions_of.Given as goal

abbrev pub invariant-loop-row : goal.invariant-loop-row
invariant-loop-row l = record {
  held : (q : List ℕ) → option_map_or (λ g. g.items) (get_by_text l.exceptions q) [] ≡ map exception_of
      (filter (λ r. bytes_eq q (string_bytes r.service)) (take l.row-index l.rows));
  hash : hasher_of l.exceptions ≡ l.fn.hash;
}
