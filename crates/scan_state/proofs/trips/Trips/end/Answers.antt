use Rattle.std.proofs.Common.{sym, ◌∙◌, ap, subst}
use Rattle.std.proofs.lemmas.Result.{on_ok_weaker}
use Rattle.criteria.specs.Laws.{Admits, IsTime}
use Rattle.scan_state.specs.ScanState.{final_walk_in}
use Rattle.scan_state.specs.SetQuery.{question}
use Rattle.scan_state.specs.Values.{started}
use Rattle.scan_state.specs.Adding.{endings, one_way, trip_points}
use Rattle.scan_state.specs.ScanRecords.{IsExit}
use Rattle.scan_state.specs.declared.scan_records.Exit.TheVariants.{Ends}
use Rattle.scan_state.proofs.KeptLemmas.{labels_as, labels_none}
use Rattle.scan_state.proofs.Offers.{in_full, takes_but}
use Rattle.scan_state.proofs.PartLemmas.{labels_still}
use Rattle.scan_state.proofs.EndLemmas.{end_admits, end_secs, end_time, takes_the_end}
use Rattle.scan_state.proofs.trips.Trips.end.Goals as goal

pub returns-in-Some : goal.returns-in-Some
returns-in-Some g c =
    let rules = g.C.Criterion.rules c.args.asked.now.criterion in
    let hop = c.args.hop.now in
    let q = question c.args.asked.now.query in
    let end = c.in-Some.end in
    let is = c.in-Some.ensures in
    let way = final_walk_in hop.final_entry in
    let old = trip_points c.args.self.now.labels hop.connection.trip in
    let new = trip_points c.offer_end.new.self.labels hop.connection.trip in
    on_ok_weaker c.offer_end.result
    (λ taken. record {
      labels = taken.labels;
      takes = λ stops. labels_as rules (λ tags takes.
          takes_but rules (λ _. ⊥) (endings rules tags hop.place hop.connection q way) old new
          (takes_the_end rules tags hop.place hop.connection q way end.walk c.started-value.result end.time old new is.0 is.3
          (c.started-value.ensures ∙ ap (started rules end.walk) c.arrive-arrived.ensures) is.1
          (in_full rules (one_way 0 c.started-value.result (IsExit tags (Ends hop.place end.walk))) old new takes))) (taken.takes stops);
    })
    c.offer_end.ensures

pub returns-in-None : goal.returns-in-None
returns-in-None g c =
    let rules = g.C.Criterion.rules c.args.asked.now.criterion in
    record {
      labels = labels_still rules c.requires.trip;
      takes = λ stops. labels_none rules (λ tags way opened. absurd (c.in-None.ensures way opened));
    }

-- the arrival is a time, and its value is admitted
pub arrive-arrived-requires : goal.arrive-arrived-requires
arrive-arrived-requires g c =
    let is = c.in-Some.ensures in
    let hop = c.requires.hop in
    subst IsTime (sym is.1) (end_time c.args.hop.now.connection (question c.args.asked.now.query) (final_walk_in c.args.hop.now.final_entry) c.in-Some.end.walk
    hop.arrival hop.by is.0)

pub started-value-requires-clause-secs : goal.started-value-requires-clause-secs
started-value-requires-clause-secs g c = end_secs c.args.hop.now.connection (question c.args.asked.now.query) (final_walk_in c.args.hop.now.final_entry)
    c.in-Some.end.walk c.requires.hop.secs c.in-Some.ensures.0

pub started-value-requires-clause-admitted : goal.started-value-requires-clause-admitted
started-value-requires-clause-admitted g c =
    let is = c.in-Some.ensures in
    let hop = c.requires.hop in
    let time = subst IsTime (sym is.1) (end_time c.args.hop.now.connection (question c.args.asked.now.query) (final_walk_in c.args.hop.now.final_entry)
    c.in-Some.end.walk hop.arrival hop.by is.0) in
    subst (Admits (g.C.Criterion.rules c.args.asked.now.criterion)) (sym c.arrive-arrived.ensures)
    ((g.met.C.Criterion.laws c.args.asked.now.criterion).arrive_admits c.in-Some.end.time time)

pub offer_end-requires-clause-admitted : goal.offer_end-requires-clause-admitted
offer_end-requires-clause-admitted g c =
    let rules = g.C.Criterion.rules c.args.asked.now.criterion in
    let end = c.in-Some.end in
    let is = c.in-Some.ensures in
    let hop = c.requires.hop in
    let worth = c.started-value.ensures ∙ ap (λ (v : g.row.C-V.Denot). started rules end.walk v) (c.arrive-arrived.ensures ∙ ap rules.arrive is.1) in
    subst (Admits rules) (sym worth)
    (end_admits rules (g.met.C.Criterion.laws c.args.asked.now.criterion) c.args.hop.now.connection
    (question c.args.asked.now.query) (final_walk_in c.args.hop.now.final_entry) end.walk hop.arrival hop.by hop.secs is.0)
