use Rattle.std.proofs.Common.{ℕ, List, Contains, subst, sym}
use Rattle.std.specs.Global.{Vec}
use Rattle.std.proofs.lemmas.List.Elements.{Contains-get_or}
use Rattle.profile_scan.specs.Everywhere.{asked_to_any}
use Rattle.image_files.specs.Naming.{printed}
use Rattle.matrix_rows.specs.Tables.{IsMean, IsMeanFrom, from_stops}
use Rattle.matrix_rows.proofs.Answering.{no_pairs, zipped_push}
use Rattle.matrix_rows.proofs.target.means_of.Goals as goal

pub loop-sources-init : goal.loop-sources-init
loop-sources-init g c = no_pairs (IsMeanFrom g.C.ShowsFigures.figures (g.C.Criterion.rules c.args.criterion.now)
    (printed c.args.table.now.names c.args.table.now.image.now)
    (asked_to_any c.args.profiles.now) c.args.table.now.after c.args.table.now.until) c.in_ok-means.means.items c.in_ok-means.ensures.items

pub mean_of-requires-clause-sources : goal.mean_of-requires-clause-sources
mean_of-requires-clause-sources g c = λ stop h.
    let set = c.sources-item.result in
    let sets = c.args.table.now.sources.now in
    let index = c.loop-sources.sources-index in
    c.requires.sources set
    (subst (λ (s : Vec ℕ). Contains sets s) (sym c.sources-item.is) (Contains-get_or sets index set c.loop-sources-test.true)) stop
    (subst (λ (xs : List ℕ). Contains xs stop) c.deref.ensures.value h)

pub loop-sources-preserved : goal.loop-sources-preserved
loop-sources-preserved g c =
    let figures = g.C.ShowsFigures.figures in
    let rules = g.C.Criterion.rules c.args.criterion.now in
    let table = c.args.table.now in
    let d = asked_to_any c.args.profiles.now in
    let set = c.sources-item.result in
    let is = IsMeanFrom figures rules (printed table.names table.image.now) d table.after table.until in
    zipped_push is table.sources.now c.loop-sources.sources-index set c.loop-sources.means.items c.push.new.self.items c.in_ok-mean.mean
    c.loop-sources-test.true c.loop-sources.invariant
    (subst (λ (s : Vec ℕ). is s c.in_ok-mean.mean) c.sources-item.is
    (subst (λ (xs : List ℕ). IsMean figures rules
    (printed table.names table.image.now) (from_stops d xs) table.after table.until c.in_ok-mean.mean) c.deref.ensures.value
    c.in_ok-mean.ensures))
    c.in_ok-push.ensures.items
