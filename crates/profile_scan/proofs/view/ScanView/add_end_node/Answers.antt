use Rattle.std.proofs.Common.{sym, ◌∙◌, subst}
use Rattle.std.proofs.lemmas.Result.{IfOk-weaker}
use Rattle.reasoning.proofs.ListLemmas.{extends_none, extends_one}
use Rattle.profile_scan.specs.Views.{scan_records_seen}
use Rattle.profile_scan.specs.JourneyNodes.{SaysLabel}
use Rattle.profile_scan.proofs.JourneyNodeLemmas.{says_end, spelled_ends}
use Rattle.profile_scan.proofs.view.ScanView.add_end_node.Goals as goal

pub returns-in-Some : goal.returns-in-Some
returns-in-Some g c =
    let s = scan_records_seen g.K.Keeping.value c.args.self.now in
    let new = c.add.new.nodes.items in
    IfOk-weaker c.add.result _ _
    (λ number is. record {
      nodes = extends_one c.args.nodes.now.items new _ is.1;
      says = λ walks spelled none. subst (SaysLabel walks s c.args.label new) (sym is.0)
          (says_end walks s c.args.label c.in-Some.end c.args.nodes.now.items new none (sym c.end_after.ensures ∙ c.in-Some.is) is.1);
    })
    c.add.ensures

pub returns-in-None : goal.returns-in-None
returns-in-None g c = record {
  nodes = extends_none c.args.nodes.now.items;
  says = λ walks spelled none.
      absurd (spelled_ends walks (scan_records_seen g.K.Keeping.value c.args.self.now) c.args.label spelled none (sym c.end_after.ensures ∙ c.in-None.is));
}
