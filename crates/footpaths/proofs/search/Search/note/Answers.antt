use Rattle.std.proofs.Common.{◌≡◌, ◌++◌, ◌∷◌, [], List, ℕ, Some, set, refl, sym, ◌∙◌, subst}
use Rattle.std.specs.BinaryHeap.{heap_items}
use Rattle.footpaths.specs.Search.{time_at, AreReached}
use Rattle.footpaths.proofs.SearchLemmas.{AreReached-again, AreReached-push, known_time, takes_time}
use Rattle.footpaths.proofs.search.Search.note.Goals as goal

pub returns-in_ok-push-2 : goal.returns-in_ok-push-2
returns-in_ok-push-2 c =
    takes_time c.args.self.now _ c.args.stop c.args.secs c.requires.in_table c.in_ok-push.ensures.permutation refl c.in_ok-push.ensures.len c.requires.lower
    (λ old.
    let longer : c.push-then-is_new.new.self.items ≡ c.args.self.now.reached.items ++ c.args.stop ∷ [] = c.in_ok-push-2.ensures.items in
    subst (λ (xs : List ℕ). AreReached (set c.args.self.now.times.items c.args.stop (Some c.args.secs)) xs) (sym longer)
    (AreReached-push c.args.self.now.times.items (heap_items c.args.self.now.pending) (heap_items c.push.new.self) c.args.stop c.args.secs c.requires.in_table
    c.in_ok-push.ensures.permutation c.args.self.now.reached.items old))

pub returns-else-is_new : goal.returns-else-is_new
returns-else-is_new c =
    takes_time c.args.self.now _ c.args.stop c.args.secs c.requires.in_table c.in_ok-push.ensures.permutation refl c.in_ok-push.ensures.len c.requires.lower
    (λ old.
    let known = known_time (time_at c.args.self.now.times.items c.args.stop) (sym c.requires.new ∙ c.if-is_new.false) in
    AreReached-again c.args.self.now.times.items (heap_items c.args.self.now.pending) (heap_items c.push.new.self) c.args.stop c.args.secs c.requires.in_table
    c.in_ok-push.ensures.permutation c.args.self.now.reached.items (old.has c.args.stop known.0 known.1) old)
