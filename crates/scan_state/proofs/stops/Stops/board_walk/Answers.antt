use Rattle.std.proofs.Common.{◌≡◌, ◌<◌, ◌-◌, ◌∙◌, List, length, slice_get, Some, refl, subst, sym, arith}
use Rattle.fronts.specs.Lists.{lists_criterion, entries_of, list_points, steps_of, TakesRidden}
use Rattle.fronts.specs.declared.entry.RiddenLabel.{RiddenLabel}
use Rattle.fronts.proofs.Growth.{extends_long, same_lists}
use Rattle.scan_state.specs.Adding.{boardings_by}
use Rattle.scan_state.specs.Bound.{Excludes}
use Rattle.scan_state.specs.Matching.{from_to}
use Rattle.scan_state.specs.ScanRecords.{scan_records, spelling_of}
use Rattle.scan_state.specs.ScanState.{points_at}
use Rattle.scan_state.proofs.KeptLemmas.{bags_none}
use Rattle.scan_state.proofs.Offers.{takes_but}
use Rattle.scan_state.proofs.RideLemmas.{boarded_at, by_walk}
use Rattle.scan_state.proofs.ScanRecordLemmas.{grows_on, steps_grow}
use Rattle.scan_state.proofs.StopLemmas.{heads_within}
use Rattle.scan_state.proofs.stops.Stops.board_walk.Goals as goal

pub returns : goal.returns
returns g c =
    let rules_of = g.C.Criterion.rules in
    let criterion = c.args.asked.now.criterion in
    let rules = rules_of criterion in
    let are = c.requires.stops in
    let old = c.args.self.now in
    let lists = old.lists in
    let new = c.insert.new.self in
    let heads = old.heads in
    let walk = c.args.walk in
    let hop = c.args.hop.now in
    let dep = hop.connection.dep in
    let bound = length (entries_of lists) in
    let within : walk.from < length heads.items = subst (λ n. walk.from < n) heads.ok.0 c.requires.stop in
    let same = same_lists rules_of lists new are.sound c.insert.ensures.more in
    let more = c.insert.ensures.more.steps in
    let taken = c.in_ok-new.ensures.taken in
    record {
      ridden = refl;
      stops = record {
        under = c.insert.ensures.more.criterion ∙ are.under;
        sound = c.insert.ensures.more.sound;
        long = refl;
        within = heads_within heads.items walk.from c.in_ok-new.new bound (length (entries_of new)) are.within
            (extends_long (entries_of lists) (entries_of new) c.insert.ensures.more.entries) taken.within;
      };
      takes = λ labels ridden trips. record {
        exits = refl;
        steps = more;
        labels = λ trip. refl;
        takes = λ walks at stop set_outs before all first_grows then_grows.
            let exits = trips.exits.items in
            let at_number : slice_get walks c.in_ok-number.number ≡ Some walk =
            subst (λ n. slice_get walks n ≡ Some walk) (sym c.in_ok-number.ensures) at in
            let was = scan_records exits (steps_of lists) set_outs in
            let now = scan_records exits (steps_of new) set_outs in
            let takes =
            subst (λ (rs : List (RiddenLabel g.row.C-V.Denot)). TakesRidden (rules_of (lists_criterion lists)) (steps_of new)
            (by_walk (dep - walk.secs) hop.place c.in_ok-number.number walk) rs (list_points lists c.head-head.result)
            (list_points new c.in_ok-new.new)) c.deref.ensures.value taken.takes in
            takes_but rules (λ l. Excludes rules hop.bound.now l.value)
            (boardings_by rules (from_to (spelling_of walks before) (spelling_of walks all)) hop.place hop.connection stop labels walk)
            (points_at old stop) _
            (boarded_at rules_of (lists_criterion lists) criterion are.under labels walks old.ridden.items ridden
            (list_points lists) (list_points new) heads.items bound are.within same (steps_of new) walk c.in_ok-number.number hop.place
            dep c.head-head.result c.in_ok-new.new within c.if-walk-dep.false at_number c.head-head.ensures takes stop
            before all (grows_on before was all first_grows (grows_on was now all (steps_grow exits (steps_of lists) (steps_of new) set_outs more)
            then_grows)) then_grows.steps);
      };
    }

pub returns-then-walk-dep : goal.returns-then-walk-dep
returns-then-walk-dep g c =
    let rules = g.C.Criterion.rules c.args.asked.now.criterion in
    let early = c.if-walk-dep.true in
    record {
      ridden = refl;
      stops = c.requires.stops;
      takes = λ labels ridden trips. bags_none rules (λ stop tags way opened. let late = opened.0.1 in absurd (omega (arith, late, early)));
    }
