use Rattle.std.proofs.Common.{◌<◌, ◌+◌, ℕ, List, Contains, arith, ap, sym, subst}
use Rattle.criteria.specs.Laws.{Admits}
use Rattle.timetable.specs.declared.network.Connection.{Connection}
use Rattle.scan_state.specs.SetQuery.{asked_from, question}
use Rattle.scan_state.specs.Bound.{AreBounds, ExcludesMore}
use Rattle.scan_state.specs.ScanRecords.{spelling_of}
use Rattle.scan_state.specs.Hops.{IsHopOf}
use Rattle.scan_state.specs.SetQuery.{CanScan}
use Rattle.scan_state.specs.ScanState.{IsFinalWalk, final_walk_in}
use Rattle.profile_scan.specs.Scans.{scan_value_of, scan_records_of}
use Rattle.scan_state.proofs.BoundLemmas.{bounds_renewed, bounds_on}
use Rattle.profile_scan.proofs.StepFacts.{begins_in, ends_in, step_idle_at, trip_in}
use Rattle.profile_scan.proofs.TakeLemmas.{is_step}
use Rattle.profile_scan.proofs.scan.Scan.step.Given as given
use Rattle.profile_scan.proofs.scan.Scan.step.Goals.{After-deref, After-entry_of-final_entry, In_ok-renewed, Start}
use Rattle.profile_scan.proofs.scan.Scan.step.Goals as goal

-- the connection ends at a stop
ends : (g : given.Over) (c : goal.Start g) → c.args.connection.now.to < (g.S.ConnSource.timetable c.args.source.now).stops
ends g c = ends_in (g.S.ConnSource.timetable c.args.source.now) (g.met.S.ConnSource.legal c.args.source.now)
    c.args.place c.requires.stands.in_range c.args.connection.now c.requires.stands.is

-- what is known of the way from there to a target
way_is : (g : given.Over) (c : goal.After-entry_of-final_entry g)
    → IsFinalWalk (g.S.ConnSource.timetable c.args.source.now) (question c.args.asked.now.query).targets c.args.connection.now.to
    (final_walk_in c.entry_of-final_entry.result)
way_is g c =
    let at = c.requires.stands in
    subst (IsFinalWalk (g.S.ConnSource.timetable c.args.source.now) (question c.args.asked.now.query).targets c.args.connection.now.to)
    (sym c.entry_of-final_entry.ensures)
    (c.requires.asked.final_walks.each c.args.connection.now.to
    (ends_in (g.S.ConnSource.timetable c.args.source.now) (g.met.S.ConnSource.legal c.args.source.now) c.args.place
    at.in_range c.args.connection.now at.is))

pub entry_of-final_entry-requires : goal.entry_of-final_entry-requires
entry_of-final_entry-requires g c = subst (λ (n : ℕ). c.args.connection.now.to < n) (sym c.requires.asked.final_walks.long)
    (ends g (goal.at.entry_of-final_entry-requires g c).Start)

pub access_to-requires : goal.access_to-requires
access_to-requires g c =
    let at = c.requires.stands in
    subst (λ (n : ℕ). c.args.connection.now.from < n) (sym c.requires.asked.starts.long)
    (begins_in (g.S.ConnSource.timetable c.args.source.now) (g.met.S.ConnSource.legal c.args.source.now)
    c.args.place at.in_range c.args.connection.now at.is)

pub is_idle-requires : goal.is_idle-requires
is_idle-requires g c =
    let t = g.S.ConnSource.timetable c.args.source.now in
    let at = c.requires.stands in
    record {
      stops = t.stops;
      trips = t.trips;
      bound = c.args.self.now.bound.values.items;
      under = c.requires.scan.keeping;
      trip = trip_in t (g.met.S.ConnSource.legal c.args.source.now) c.args.place at.in_range c.args.connection.now at.is;
      stop = ends g (goal.at.is_idle-requires g c).Start;
    }

pub renew-requires-clause-under : goal.renew-requires-clause-under
renew-requires-clause-under g c = ((g.S.ConnSource.timetable c.args.source.now).stops, c.requires.scan.source)

pub renew-requires-clause-values : goal.renew-requires-clause-values
renew-requires-clause-values g c = (c.requires.scan.bound 0).admitted

pub returns-then-is_idle : goal.returns-then-is_idle
returns-then-is_idle g c =
    let rules = g.C.Criterion.rules c.args.asked.now.criterion in
    let t = g.S.ConnSource.timetable c.args.source.now in
    let value = g.K.Keeping.value in
    let kept = g.O.AtSource.kept in
    let scan = c.args.self.now in
    record {
      scan = record {
        keeping = c.requires.scan.keeping;
        source = c.requires.scan.source;
        bound = λ index.
            let found = (kept scan.state.origin index).found in
            bounds_on rules (g.met.C.Criterion.laws c.args.asked.now.criterion) t found found
            (c.args.place + 1) c.args.place scan.bound.values.items (omega arith) (λ d v a covers. covers)
            (c.requires.scan.bound index);
      };
      step = λ index.
          let criterion = c.args.asked.now.criterion in
          let values = scan.bound.values.items in
          step_idle_at rules (g.met.C.Criterion.laws criterion) t (asked_from g.O.AtSource.sources (question c.args.asked.now.query) index)
          (spelling_of t.footpaths (scan_records_of value kept scan.state index)) c.args.place (scan_value_of value kept scan.state index) values
          (g.met.O.AtSource.bags criterion t.stops scan.state.origin c.requires.scan.source index).admitted (c.requires.scan.bound index)
          (g.met.K.Keeping.admitted criterion t.stops t.trips values scan.state.keeping c.requires.scan.keeping).bags _
          c.args.connection.now c.requires.stands.is (way_is g (goal.at.returns-then-is_idle g c).After-entry_of-final_entry)
          (c.is_idle.ensures c.if-is_idle.true t.stops t.trips values c.requires.scan.keeping);
    }

-- the values of the bound, renewed
renewed : (g : given.Over) (c : goal.In_ok-renewed g) (index : ℕ)
    → AreBounds (g.C.Criterion.rules c.args.asked.now.criterion) (g.S.ConnSource.timetable c.args.source.now)
    (g.O.AtSource.kept c.args.self.now.state.origin index).found (c.args.place + 1) c.renew.new.bound.values.items
renewed g c index =
    let criterion = c.args.asked.now.criterion in
    let t = g.S.ConnSource.timetable c.args.source.now in
    let scan = c.args.self.now in
    let at = c.requires.stands in
    bounds_renewed (g.C.Criterion.rules c.args.asked.now.criterion) (g.met.C.Criterion.laws criterion) t (g.met.S.ConnSource.legal c.args.source.now)
    (g.O.AtSource.kept scan.state.origin index).found
    (g.met.O.AtSource.bags criterion t.stops scan.state.origin c.requires.scan.source index).admitted c.args.place
    c.args.connection.now.dep at.in_range (ap (λ (x : Connection). x.dep) at.is) scan.bound.values.items c.renew.new.bound.values.items
    (c.requires.scan.bound index) (c.in_ok-renewed.ensures index).only

-- the hop is of the timetable
hop_is : (g : given.Over) (c : goal.After-deref g) → IsHopOf (g.C.Criterion.rules c.args.asked.now.criterion)
    (g.S.ConnSource.timetable c.args.source.now) (question c.args.asked.now.query) c.args.asked.now.starts (record {
      connection = c.args.connection.now;
      place = c.args.place;
      access = c.access_to.result;
      final_entry = c.entry_of-final_entry.result;
      bound = c.deref.result;
      renewed = c.in_ok-renewed.renewed;
    })
hop_is g c =
    let point = goal.at.After-deref g c in
    let t = g.S.ConnSource.timetable c.args.source.now in
    let legal = g.met.S.ConnSource.legal c.args.source.now in
    let at = c.requires.stands in
    let rules = g.C.Criterion.rules c.args.asked.now.criterion in
    record {
      stands = at;
      begins = begins_in t legal c.args.place at.in_range c.args.connection.now at.is;
      ends = ends_in t legal c.args.place at.in_range c.args.connection.now at.is;
      on_trip = trip_in t legal c.args.place at.in_range c.args.connection.now at.is;
      by = c.requires.asked.by;
      starts = c.requires.asked.starts;
      access = c.requires.asked.starts.each c.args.connection.now.from c.access_to.result c.access_to.ensures;
      final_walk = way_is g point.After-entry_of-final_entry;
      bound =
          subst (λ (values : List g.row.C-V.Denot). (b : g.row.C-V.Denot) → Contains values b → Admits rules b) (sym c.deref.ensures.value)
          (renewed g point.In_ok-renewed 0).admitted;
    }

pub take-requires : goal.take-requires
take-requires g c =
    let rules = g.C.Criterion.rules c.args.asked.now.criterion in
    record {
      hop = hop_is g (goal.at.take-requires g c).After-deref;
      bound = c.args.self.now.bound.values.items;
      excludes = subst (ExcludesMore rules c.args.self.now.bound.values.items) (sym c.deref.ensures.value) (c.in_ok-renewed.ensures 0).kept;
      keeping = c.requires.scan.keeping;
      source = c.requires.scan.source;
    }

pub returns : goal.returns
returns g c =
    let point = goal.at.returns g c in
    let criterion = c.args.asked.now.criterion in
    let rules = g.C.Criterion.rules c.args.asked.now.criterion in
    let laws = g.met.C.Criterion.laws c.args.asked.now.criterion in
    let t = g.S.ConnSource.timetable c.args.source.now in
    let kept = g.O.AtSource.kept in
    let sources = g.O.AtSource.sources in
    let value = g.K.Keeping.value in
    let old = c.args.self.now.state in
    let keeping = c.take.new.self in
    let origin = c.take.new.origin in
    let taken = c.in_ok-take.ensures in
    let bound = c.renew.new.bound.values.items in
    let can : CanScan (g.S.ConnSource.timetable c.args.source.now) (question c.args.asked.now.query) = record {
      legal = g.met.S.ConnSource.legal c.args.source.now;
      limits = g.met.S.ConnSource.limits c.args.source.now;
      in_time = c.requires.asked.by;
    } in
    let under = subst (λ (values : List g.row.C-V.Denot). g.K.Keeping.IsUnder criterion t.stops t.trips values keeping) c.deref.ensures.value taken.keeping in
    record {
      scan = record {
        keeping = under;
        source = taken.source;
        bound = λ index.
            bounds_on rules laws t (kept old.origin index).found (kept origin index).found (c.args.place + 1) c.args.place bound (omega arith)
            (taken.goes_on.sets_out index).kept (renewed g point.In_ok-renewed index);
      };
      step = λ index.
          is_step rules laws t (question c.args.asked.now.query) can sources kept c.args.asked.now.starts _
          (hop_is g point.After-deref) (value old.keeping) taken.between (value keeping) old.origin origin taken.leaves taken.goes_on
          (g.met.K.Keeping.admitted criterion t.stops t.trips c.args.self.now.bound.values.items old.keeping c.requires.scan.keeping)
          (g.met.K.Keeping.admitted criterion t.stops t.trips bound keeping under) index
          (g.met.O.AtSource.bags criterion t.stops old.origin c.requires.scan.source index).admitted
          (g.met.O.AtSource.bags criterion t.stops origin taken.source index).admitted
          (subst (AreBounds rules t (kept old.origin index).found (c.args.place + 1)) (sym c.deref.ensures.value) (renewed g point.In_ok-renewed index));
    }
