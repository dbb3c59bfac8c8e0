use Rattle.std.proofs.Common.{◌≡◌, ◌++◌, ◌∷◌, [], sym, ◌∙◌, ap, subst}
use Rattle.std.proofs.lemmas.Option.{slice_get_within, same_Some}
use Rattle.std.proofs.lemmas.Result.{IfOk-weaker}
use Rattle.reasoning.proofs.ListLemmas.{extends_on, extends_one}
use Rattle.reasoning.proofs.OptionLemmas.{some-none}
use Rattle.profile_scan.specs.Views.{scan_records_seen}
use Rattle.profile_scan.specs.JourneyNodes.{SaysLabel}
use Rattle.profile_scan.specs.declared.journey_nodes.Change.{Change}
use Rattle.profile_scan.specs.declared.nodes.Node.TheVariants.{Changes}
use Rattle.profile_scan.proofs.JourneyNodeLemmas.{spelled_change, says_change}
use Rattle.profile_scan.proofs.view.ScanView.add_change_nodes.Goals as goal

pub footpath-walk-requires : goal.footpath-walk-requires
footpath-walk-requires g c =
    let walks = (g.S.ConnSource.timetable c.args.source.now).footpaths in
    let s = scan_records_seen g.K.Keeping.value c.args.self.now in
    let change = c.in-Some.change in
    let t = spelled_change walks s c.args.label change.last change.step c.requires.spelled.0
    (sym c.change_after.ensures ∙ c.in-Some.is) c.requires.spelled.1 in
    slice_get_within walks change.step.walk t.walk t.is_walk

pub returns-in-None : goal.returns-in-None
returns-in-None g c =
    let next = c.requires.next in
    absurd (some-none next.0 (sym next.1 ∙ sym c.change_after.ensures ∙ c.in-None.is))

pub returns-in_ok-boards-in-Some : goal.returns-in_ok-boards-in-Some
returns-in_ok-boards-in-Some g c =
    let walks = (g.S.ConnSource.timetable c.args.source.now).footpaths in
    let s = scan_records_seen g.K.Keeping.value c.args.self.now in
    let change = c.in-Some.change in
    let is = sym c.change_after.ensures ∙ c.in-Some.is in
    let next = c.requires.next in
    let same : next.0 ≡ change = same_Some next.0 change (sym next.1 ∙ is) in
    let rides_on = subst (λ (z : Change). SaysLabel walks s z.step.label c.args.nodes.now.items c.args.next) same next.2 in
    let boards = c.in_ok-boards-in-Some.ensures in
    let old = c.args.nodes.now.items in
    let mid = c.add.new.nodes.items in
    let new = c.add-in-Some.new.nodes.items in
    IfOk-weaker c.add-in-Some.result _ _
    (λ number added. record {
      nodes = extends_on old mid new (extends_one old mid _ boards.1) (extends_one mid new _ added.1);
      says = subst (SaysLabel walks s c.args.label new) (sym added.0)
          (says_change walks s c.args.label change.last c.args.next change.step c.footpath-walk.result old mid new
          is c.footpath-walk.ensures rides_on boards.1 (added.1 ∙ ap (λ n. mid ++ Changes change.last n ∷ []) boards.0));
    })
    c.add-in-Some.ensures
