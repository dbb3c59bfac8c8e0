use Rattle.std.proofs.Common.{◌≡◌, map, sym, rules, string_bytes}
use Rattle.std.specs.Str.{bytes_eq}
use Rattle.gtfs_rows.specs.Ids.{StandsAt}
use Rattle.gtfs_rows.proofs.KeyLemmas.{find_passes, seen_insert, stands, stands_among}
use Rattle.service_days.proofs.named.NamedServices.index_of.Goals.{In-Some}
use Rattle.service_days.proofs.named.NamedServices.index_of.Goals as goal

found : (c : goal.In-Some) → StandsAt (map string_bytes c.args.self.now.ids.keys) c.in-Some.index (string_bytes c.args.service.now)
found c =
    rw c.as_str.ensures.value at (stands c.args.self.now.ids.keys c.in-Some.index c.in-Some.field-0-1.now c.as_str.result.now c.in-Some.ensures.stored
    (find_passes (λ k. bytes_eq c.as_str.result.now (string_bytes k)) c.args.self.now.ids.keys c.in-Some.field-0-1.now (sym c.in-Some.ensures.key)))

pub returns-in-Some-clause-names : goal.returns-in-Some-clause-names
returns-in-Some-clause-names c =
    stands_among (map string_bytes c.args.self.now.ids.keys) c.in-Some.index (string_bytes c.args.service.now)
    (found (goal.at.returns-in-Some-clause-names c).In-Some)

pub returns-in-Some-clause-index : goal.returns-in-Some-clause-index
returns-in-Some-clause-index c = found (goal.at.returns-in-Some-clause-index c).In-Some

pub returns-clause-names : goal.returns-clause-names
returns-clause-names c =
    let cloned : string_bytes c.in_ok-clone.field-0 ≡ string_bytes c.args.service.now = search rules in
    rw cloned at (seen_insert c.args.self.now.ids.keys c.insert_full.new.self.keys c.in_ok-clone.field-0 c.in_ok-index.ensures.keys)

pub returns-clause-index : goal.returns-clause-index
returns-clause-index c =
    let cloned : string_bytes c.in_ok-clone.field-0 ≡ string_bytes c.args.service.now = search rules in
    let (k, there, same) = c.in_ok-index.ensures.stored in
    rw cloned at (stands c.insert_full.new.self.keys c.in_ok-index.index k (string_bytes c.in_ok-clone.field-0) there same)
