use Rattle.std.proofs.Common.{◌≡◌, ◌<◌, ◌+◌, ◌∷◌, [], ℕ, false, length, length-append, slice_index_or, refl, sym, ◌∙◌, ap, subst, arith}
use Rattle.std.specs.Prelude.{MatchBool}
use Rattle.std.proofs.lemmas.Option.{same_Some, slice_get-get_or, slice_get_read, slice_get_within}
use Rattle.scan_state.specs.Starts.{AreMarked, IsLedBy, IsStopAccessBy}
use Rattle.scan_state.specs.declared.starts.StopAccess.{StopAccess}
use Rattle.scan_state.proofs.StartLemmas.{leads_more, leads_of_sources}
use Rattle.scan_state.proofs.starts.starts_from.Goals as goal

pub marks-requires : goal.marks-requires
marks-requires g c = λ stop is. subst (λ (n : ℕ). stop < n) (sym c.stops.ensures) (c.requires stop is)

pub is_led-requires-clause-long : goal.is_led-requires-clause-long
is_led-requires-clause-long g c = ap length c.deref.ensures.value ∙ c.in_ok-marked.ensures.long ∙ c.stops.ensures

pub loop-stop-preserved : goal.loop-stop-preserved
loop-stop-preserved g c =
    let t = g.S.ConnSource.timetable c.args.source.now in
    let inv = c.loop-stop.invariant in
    let stop = c.loop-stop.stop in
    let here = c.index.result.now in
    let lead : StopAccess = record { here = here; led = c.is_led.result } in
    let marked = c.in_ok-marked.marked.items in
    let test = c.loop-stop-test.true in
    let within : stop < length marked = subst (λ (n : ℕ). stop < n) (c.stops-stop-end.ensures ∙ sym (c.in_ok-marked.ensures.long ∙ c.stops.ensures)) test in
    let at = slice_get_read marked (length marked) stop here refl within c.index.ensures in
    let by : IsStopAccessBy t marked stop lead = record {
      here = sym (same_Some (slice_index_or marked stop false) here (sym (slice_get-get_or marked stop false within) ∙ at));
      led = subst (λ ms. MatchBool lead.led (IsLedBy t ms stop) (IsLedBy t ms stop → ⊥)) c.deref.ensures.value c.is_led.ensures;
    } in
    let longer = ap length c.in_ok-push.ensures.items ∙ length-append c.loop-stop.leads.items (lead ∷ []) in
    record {
      long = longer ∙ ap (λ (n : ℕ). n + 1) inv.long;
      says = leads_more t marked c.loop-stop.leads.items c.push.new.self.items lead c.in_ok-push.ensures.items
          (subst (λ (n : ℕ). IsStopAccessBy t marked n lead) (sym inv.long) by) inv.says;
    }

pub returns : goal.returns
returns g c =
    let t = g.S.ConnSource.timetable c.args.source.now in
    let inv = c.loop-stop.invariant in
    let over = c.loop-stop-test.false in
    let within = c.loop-stop.auto.stop-end in
    let at_end : c.loop-stop.stop ≡ c.stops-stop-end.result = omega arith in
    let long : length c.loop-stop.leads.items ≡ t.stops = inv.long ∙ at_end ∙ c.stops-stop-end.ensures in
    let marked : AreMarked c.args.sources.now (length c.args.sources.now) t.stops c.in_ok-marked.marked.items =
    subst (λ (n : ℕ). AreMarked c.args.sources.now (length c.args.sources.now) n c.in_ok-marked.marked.items) c.stops.ensures c.in_ok-marked.ensures in
    record {
      long = long;
      each = λ stop lead at. leads_of_sources t (g.met.S.ConnSource.legal c.args.source.now) c.args.sources.now c.in_ok-marked.marked.items marked stop lead
          (subst (λ (n : ℕ). stop < n) long (slice_get_within c.loop-stop.leads.items stop lead at)) (inv.says stop lead at);
    }
