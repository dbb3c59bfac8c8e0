use Rattle.std.proofs.Common.{◌∷◌, [], refl, sym, subst, arith}
use Rattle.fronts.specs.declared.entry.FrontEntry.{FrontEntry}
use Rattle.fronts.specs.Entries.{AreMore}
use Rattle.fronts.proofs.Growth.{same_entries}
use Rattle.fronts.specs.Putting.{IsPut}
use Rattle.fronts.proofs.Leaving.{match_err}
use Rattle.fronts.proofs.OnePut.{put_one}
use Rattle.fronts.proofs.putting.put_alone.Given as given
use Rattle.fronts.proofs.putting.put_alone.Goals.{In_ok-append}
use Rattle.fronts.proofs.putting.put_alone.Goals as goal

-- what the put does
made : (g : given.Over) (c : goal.In_ok-append g)
    → IsPut (g.C.Criterion.rules c.args.criterion.now) c.args.entries.now.items c.append.new.items.items
    c.args.items.now c.args.items.now c.args.point.departure c.args.index (c.args.point ∷ []) c.in_ok-new.new
made g c =
    let rules = g.C.Criterion.rules c.args.criterion.now in
    let x = c.args.point in
    let e : FrontEntry g.row.C-V.Denot = record {
      departure = x.departure;
      next = c.follow-next.result;
      rest = 0;
      count = 0;
      tag = x.tag;
      value = x.value;
    } in
    let new_is = c.in_ok-new.ensures in
    put_one rules (g.met.C.Criterion.laws c.args.criterion.now) c.args.entries.now.items c.append.new.items.items
    c.args.items.now c.args.index c.in_ok-new.new x e c.index.result.now c.requires.may
    c.requires.outdone refl refl refl c.index.ensures c.follow-next.ensures c.in_ok-append.ensures.added (omega (arith, new_is))

pub returns : goal.returns
returns g c = made g c

pub returns-in_err-append : goal.returns-in_err-append
returns-in_err-append g c =
    let rules = g.C.Criterion.rules c.args.criterion.now in
    match_err _ _ c.from_residual-in_err-append.result c.from_residual-in_err-append.ensures.1
    (subst (λ es. AreMore rules c.args.entries.now.items c.args.items.now es c.args.items.now) (sym c.in_err-append.ensures.same)
    (same_entries rules c.args.entries.now.items c.args.items.now c.requires.may.sound))
