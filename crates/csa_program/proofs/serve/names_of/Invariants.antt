use Rattle.std.proofs.Common.{◌≡◌, map, string_bytes, take}
use Rattle.csa_program.proofs.serve.names_of.Given as goal

abbrev pub invariant-loop-feed : goal.invariant-loop-feed
invariant-loop-feed l = map string_bytes l.names.items ≡ map (λ feed. feed.name.now) (take l.feed-index l.feeds)
