use Rattle.std.proofs.Common.{sym, ◌∙◌, subst}
use Rattle.std.proofs.lemmas.Bool.{true≢false}
use Rattle.reasoning.proofs.ListLemmas.{extends_none, extends_one}
use Rattle.bags.specs.Bag.{points_of}
use Rattle.scan_state.specs.Matching.{from_to}
use Rattle.scan_state.specs.ScanRecords.{spelling_of}
use Rattle.scan_state.specs.Adding.{set_out_way}
use Rattle.scan_state.proofs.Offers.{inserted_under}
use Rattle.scan_state.proofs.ScanRecordLemmas.{set_out_next}
use Rattle.scan_state.proofs.origin.Origin.offer.Goals as goal

pub returns-in_ok-push : goal.returns-in_ok-push
returns-in_ok-push g c = record {
  origin =
      record {
        found = c.insert.ensures.criterion ∙ c.requires.same;
        set_outs = extends_one c.args.self.now.set_outs.items c.push.new.self.items c.args.set_out c.in_ok-push.ensures.items;
      };
  takes = λ walks exits steps before all ext_before ext.
      let tag_is = c.len-tag.ensures ∙ c.args.self.now.set_outs.ok.0 in
      let way = set_out_way (from_to (spelling_of walks before) (spelling_of walks all)) c.args.departure c.args.value c.args.set_out in
      inserted_under g.C.Criterion.rules c.args.self.now.found.criterion c.args.criterion.now
      (g.met.C.Criterion.laws c.args.criterion.now) (points_of c.args.self.now.found) (points_of c.insert.new.self)
      (record { departure = c.args.departure; value = c.args.value; tag = c.len-tag.result }) (way.fits_tag tt) c.in_ok-stands.stands
      c.requires.same c.args.self.now.found.kept c.requires.admitted c.in_ok-stands.ensures.stands c.in_ok-stands.ensures.inserted
      (λ _. subst (way.fits_tag tt) (sym tag_is)
      (set_out_next walks exits steps c.args.self.now.set_outs.items c.push.new.self.items before all c.args.set_out
      c.in_ok-push.ensures.items ext_before ext));
}

pub returns-else-stands : goal.returns-else-stands
returns-else-stands g c = record {
  origin =
      record {
        found = c.insert.ensures.criterion ∙ c.requires.same;
        set_outs = extends_none c.args.self.now.set_outs.items;
      };
  takes = λ walks exits steps before all ext_before ext.
      let way = set_out_way (from_to (spelling_of walks before) (spelling_of walks all)) c.args.departure c.args.value c.args.set_out in
      inserted_under g.C.Criterion.rules c.args.self.now.found.criterion c.args.criterion.now
      (g.met.C.Criterion.laws c.args.criterion.now) (points_of c.args.self.now.found) (points_of c.insert.new.self)
      (record { departure = c.args.departure; value = c.args.value; tag = c.len-tag.result }) (way.fits_tag tt) c.in_ok-stands.stands
      c.requires.same c.args.self.now.found.kept c.requires.admitted c.in_ok-stands.ensures.stands c.in_ok-stands.ensures.inserted
      (λ is. absurd (true≢false (sym is ∙ c.if-stands.false)));
}
