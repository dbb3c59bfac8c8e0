use Rattle.std.proofs.Common.{◌≡◌, ◌∙◌, map, ap}
use Rattle.std.specs.String.{string_bytes}
use Rattle.std.proofs.Common.{rules}
use Rattle.std.proofs.lemmas.Map.Iter.{iter_end}
use Rattle.gtfs_tables.specs.Names.{held_at}
use Rattle.gtfs_tables.proofs.NameLemmas.{named-push, named-end}
use Rattle.gtfs_tables.proofs.names.named_each.Goals as goal

pub loop-id-preserved : goal.loop-id-preserved
loop-id-preserved g c =
    c.in_ok-push.ensures.items ∙ named-push (λ id. held_at c.args.names.now (string_bytes id.now)) c.loop-id.yielded
    c.loop-id.named.items c.in-Some.id c.named_near.result c.loop-id.invariant
    (c.named_near.ensures ∙ ap (held_at c.args.names.now) c.as_str.ensures.value)

pub returns : goal.returns
returns g c =
    let all : map (λ id. id.now) c.loop-id.yielded ≡ c.args.ids.now.keys = search (rules, iter_end) in
    c.loop-id.invariant ∙ named-end (λ id. held_at c.args.names.now (string_bytes id)) c.loop-id.yielded c.args.ids.now.keys all
