use Rattle.std.proofs.Common.{◌≡◌, ◌<◌, ℕ, length, slice_index, sym, ◌∙◌, ap, subst}
use Rattle.std.proofs.lemmas.List.{length-replicate}
use Rattle.reasoning.proofs.ListLemmas.{slice_index-replicate}
use Rattle.fronts.specs.Lists.{entries_of, list_points}
use Rattle.scan_state.specs.Adding.{label_points}
use Rattle.scan_state.specs.declared.in_lists.InLists.{InLists}
use Rattle.scan_state.proofs.TakenInLists.{are_lists}
use Rattle.scan_state.proofs.in_lists.InListsKeeping.new.Goals as goal

pub returns : goal.returns
returns g c =
    let zeros = c.in_ok-heads.ensures.items_if_clones_equal (λ y e. e) in
    let lists = c.in_ok-lists.lists in
    let no_head : (stop : ℕ) → slice_index c.in_ok-heads.heads.items stop ≡ 0 =
    λ stop. ap (λ hs. slice_index hs stop) zeros ∙ slice_index-replicate c.args.stops stop in
    let new : InLists g.row.C.Denot g.row.C-V.Denot = record {
      trips = record { labels = c.in_ok-labels.labels; exits = c.in_ok-exits.exits };
      stops = record { lists = lists; heads = c.in_ok-heads.heads; ridden = c.new-ridden.result };
    } in
    record {
      under = are_lists g.C.Criterion.rules c.args.criterion.now c.args.stops c.args.trips new (record {
        under = c.in_ok-lists.ensures.under;
        sound = c.in_ok-lists.ensures.sound;
        long = c.in_ok-heads.heads.ok.0 ∙ ap length zeros ∙ length-replicate {A = ℕ} c.args.stops 0;
        within = λ stop. subst (λ n. n < length (entries_of lists)) (sym (no_head stop)) c.in_ok-lists.ensures.sound.some;
      }) c.in_ok-labels.ensures.long (c.in_ok-labels.ensures.sound (g.C.Criterion.rules c.args.criterion.now));
      bags = λ stop. ap (list_points lists) (no_head stop) ∙ c.in_ok-lists.ensures.empty;
      labels = λ trip. ap label_points (c.in_ok-labels.ensures.none trip);
    }
