use Rattle.std.proofs.Common.{◌≡◌, ◌+◌, ◌≤◌, ◌<◌, ℕ, List, length, sym, subst}
use Rattle.timetable.specs.declared.network.Footpath.{Footpath}
use Rattle.timetable.specs.Legal.{At}
use Rattle.image_layout.specs.Fields.{foot_index_of}
use Rattle.image_layout.specs.Image.{ImageValue}
use Rattle.image_verifier.proofs.ShownLemmas.{is_among}
use Rattle.image_verifier.proofs.verified.Verified.footpath_into.Goals as goal

-- the index is among those into the stop
among : (c : goal.After-deref) → (foot_index_of c.self.inside.words.items c.args.stop ≤ c.args.position)
    × (c.args.position < foot_index_of c.self.inside.words.items (c.args.stop + 1))
among c =
    let back = sym c.self.view_is in
    is_among c.self.inside.words.items c.args.stop c.args.position c.self.invariant
    (subst (λ (v : ImageValue). c.args.stop < v.timetable.stops) back c.requires.stop)
    (subst (λ (v : ImageValue). c.args.position < length v.timetable.footpaths) back c.requires.position)
    (subst (λ (v : ImageValue). (f : Footpath) → At v.timetable.footpaths c.args.position f → f.to ≡ c.args.stop) back c.requires.into)

pub footpath_of_stop-requires-clause-start : goal.footpath_of_stop-requires-clause-start
footpath_of_stop-requires-clause-start c = subst (λ (w : List ℕ). foot_index_of w c.args.stop ≤ c.args.position) (sym c.deref.ensures.value) (among c).0

pub footpath_of_stop-requires-clause-end : goal.footpath_of_stop-requires-clause-end
footpath_of_stop-requires-clause-end c = subst (λ (w : List ℕ). c.args.position < foot_index_of w (c.args.stop + 1)) (sym c.deref.ensures.value) (among c).1
