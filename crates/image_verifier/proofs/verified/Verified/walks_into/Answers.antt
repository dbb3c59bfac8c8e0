use Rattle.std.proofs.Common.{◌≡◌, ◌↔◌, ◌+◌, ◌<◌, ◌≤◌, ℕ, List, length, sym, subst, ap, ◌∙◌}
use Rattle.timetable.specs.declared.network.Footpath.{Footpath}
use Rattle.timetable.specs.Legal.{At}
use Rattle.image_layout.specs.Fields.{foot_index_of}
use Rattle.image_layout.specs.Image.{ImageValue}
use Rattle.image_layout.specs.Shown.{footpaths_of}
use Rattle.image_verifier.proofs.ShownLemmas.{walks_order, walks_within, walks_exact}
use Rattle.image_verifier.proofs.verified.Verified.walks_into.Goals as goal

pub returns-clause-order : goal.returns-clause-order
returns-clause-order c =
    let w = c.self.inside.words.items in
    let lt = subst (λ (v : ImageValue). c.args.stop < v.timetable.stops) (sym c.self.view_is) c.requires in
    let first : c.foot_index_at.result ≡ foot_index_of w c.args.stop =
    c.foot_index_at.ensures ∙ ap (λ (x : List ℕ). foot_index_of x c.args.stop) c.deref-words.ensures.value in
    let next : c.foot_index_at-2.result ≡ foot_index_of w (c.args.stop + 1) =
    c.foot_index_at-2.ensures ∙ ap (λ (x : List ℕ). foot_index_of x (c.args.stop + 1)) c.deref-words.ensures.value
    in
    subst (λ (a : ℕ). a ≤ c.foot_index_at-2.result) (sym first)
    (subst (λ (b : ℕ). foot_index_of w c.args.stop ≤ b) (sym next) (walks_order w c.args.stop c.self.invariant lt))

pub returns-clause-within : goal.returns-clause-within
returns-clause-within c =
    let w = c.self.inside.words.items in
    let lt = subst (λ (v : ImageValue). c.args.stop < v.timetable.stops) (sym c.self.view_is) c.requires in
    let next : c.foot_index_at-2.result ≡ foot_index_of w (c.args.stop + 1) =
    c.foot_index_at-2.ensures ∙ ap (λ (x : List ℕ). foot_index_of x (c.args.stop + 1)) c.deref-words.ensures.value
    in
    subst (λ (v : ImageValue). c.foot_index_at-2.result ≤ length v.timetable.footpaths) c.self.view_is
    (subst (λ (b : ℕ). b ≤ length (footpaths_of w)) (sym next) (walks_within w c.args.stop c.self.invariant lt))

pub returns-clause-exact : goal.returns-clause-exact
returns-clause-exact c =
    let w = c.self.inside.words.items in
    let stop = c.args.stop in
    let lt = subst (λ (v : ImageValue). stop < v.timetable.stops) (sym c.self.view_is) c.requires in
    let first : c.foot_index_at.result ≡ foot_index_of w stop =
    c.foot_index_at.ensures ∙ ap (λ (x : List ℕ). foot_index_of x stop) c.deref-words.ensures.value in
    let next : c.foot_index_at-2.result ≡ foot_index_of w (stop + 1) =
    c.foot_index_at-2.ensures ∙ ap (λ (x : List ℕ). foot_index_of x (stop + 1)) c.deref-words.ensures.value in
    subst (λ (v : ImageValue). (k : ℕ) (f : Footpath) → At v.timetable.footpaths k f → (f.to ≡ stop)
    ↔ ((c.foot_index_at.result ≤ k) × (k < c.foot_index_at-2.result))) c.self.view_is
    (subst (λ (a : ℕ). (k : ℕ) (f : Footpath) → At (footpaths_of w) k f → (f.to ≡ stop) ↔ ((a ≤ k) × (k < c.foot_index_at-2.result))) (sym first)
    (subst (λ (b : ℕ). (k : ℕ) (f : Footpath) → At (footpaths_of w) k f → (f.to ≡ stop) ↔ ((foot_index_of w stop ≤ k) × (k < b))) (sym next)
    (walks_exact w stop c.self.invariant lt)))
