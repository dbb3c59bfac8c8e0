-- Values of walks, and how one footpath replaces a chain of them.
use Rattle.std.proofs.Common.{ℕ, List, [], ◌∷◌, Option, Some, None, Contains, arith, refl, sym, ◌∙◌}
use Rattle.criteria.specs.Laws.{Rules, Laws, Admits, NoWorse}
use Rattle.timetable.specs.declared.network.Footpath.{Footpath}
use Rattle.timetable.specs.TimetableValue.{TimetableValue}
use Rattle.timetable.specs.Legal.{IsLegal}
use Rattle.timetable.specs.Limits.{IsWithinLimits}
use Rattle.timetable.specs.Journeys.{IsWalk, IsStart}
use Rattle.timetable.proofs.LegalLemmas.{closed_footpath, walk_limit}
use Rattle.scan_state.specs.Values.{walked, started}
use Rattle.scan_state.specs.Plain.{IsInstead, ChainsGiveWay}

module _ {V : Type 0} (rules : Rules V) (laws : Laws rules) (t : TimetableValue) (limits : IsWithinLimits t) where
  -- a footpath of the timetable before an admitted value
  pub step_admits : (f : Footpath) (v : V) → Contains t.footpaths f → Admits rules v → Admits rules (rules.walk f.secs v)
  step_admits f v is a = laws.walk_admits f.secs v (walk_limit t limits f is) a

  pub walked_admits : (stop : ℕ) (fs : List Footpath) (v : V) → IsWalk t stop fs → Admits rules v → Admits rules (walked rules fs v)
  walked_admits stop [] v is a = a
  walked_admits stop (f ∷ fs) v is a = step_admits f (walked rules fs v) is.0 (walked_admits f.to fs v is.2 a)

  pub started_admits : (source : ℕ) (start : Option Footpath) (v : V) → IsStart t source start → Admits rules v → Admits rules (started rules start v)
  started_admits source None v is a = a
  started_admits source (Some f) v is a = step_admits f v is.0 a

  -- the same footpath keeps a value no worse than another
  pub step_monotone : (f : Footpath) (v w : V) → Contains t.footpaths f → Admits rules v → Admits rules w
      → NoWorse rules v w → NoWorse rules (rules.walk f.secs v) (rules.walk f.secs w)
  step_monotone f v w is a b h = laws.walk_monotone f.secs f.secs v w (walk_limit t limits f is) (walk_limit t limits f is) a b (omega arith) h

  pub started_monotone : (source : ℕ) (start : Option Footpath) (v w : V) → IsStart t source start → Admits rules v
      → Admits rules w → NoWorse rules v w → NoWorse rules (started rules start v) (started rules start w)
  started_monotone source None v w is a b h = h
  started_monotone source (Some f) v w is a b h = step_monotone f v w is.0 a b h

  -- walking never makes a value better
  pub walked_worsens : (stop : ℕ) (fs : List Footpath) (v : V) → IsWalk t stop fs → Admits rules v → NoWorse rules v (walked rules fs v)
  walked_worsens stop [] v is a = laws.reflexive v a
  walked_worsens stop (f ∷ fs) v is a =
      let rest = walked_admits f.to fs v is.2 a in
      laws.transitive v (walked rules fs v) (rules.walk f.secs (walked rules fs v)) a rest (step_admits f (walked rules fs v) is.0 rest)
      (walked_worsens f.to fs v is.2 a)
      (laws.walk_worsens f.secs (walked rules fs v) (walk_limit t limits f is.0) rest)

  pub started_worsens : (source : ℕ) (start : Option Footpath) (v : V) → IsStart t source start → Admits rules v → NoWorse rules v (started rules start v)
  started_worsens source None v is a = laws.reflexive v a
  started_worsens source (Some f) v is a = laws.walk_worsens f.secs v (walk_limit t limits f is.0) a

  module _ (legal : IsLegal t) where
    pub chain_gives_way : (stop : ℕ) (f : Footpath) (fs : List Footpath) → IsWalk t stop (f ∷ fs) → (h : Footpath) × IsInstead rules t stop (f ∷ fs) h
    chain_gives_way stop f [] is = (
      f,
      record {
        is_footpath = is.0;
        leaves = is.1;
        leads = refl;
        no_longer = omega arith;
        no_worse = λ v a. laws.reflexive (rules.walk f.secs v) (step_admits f v is.0 a);
      },
    )
    chain_gives_way stop f (g ∷ gs) is =
        let rest = chain_gives_way f.to g gs is.2 in
        let r = rest.0 in
        let joined = closed_footpath t legal f r is.0 rest.1.is_footpath (sym rest.1.leaves) in
        let h = joined.0 in (
          h,
          record {
            is_footpath = joined.1;
            leaves = joined.2 ∙ is.1;
            leads = joined.3 ∙ rest.1.leads;
            no_longer = omega (arith, joined.4, rest.1.no_longer);
            no_worse = λ v a.
                let after_r = step_admits r v rest.1.is_footpath a in
                let after_rest = walked_admits f.to (g ∷ gs) v is.2 a in
                laws.transitive (rules.walk h.secs v) (rules.walk f.secs (rules.walk r.secs v)) (rules.walk f.secs (walked rules (g ∷ gs) v))
                (step_admits h v joined.1 a)
                (step_admits f (rules.walk r.secs v) is.0 after_r)
                (step_admits f (walked rules (g ∷ gs) v) is.0 after_rest)
                (laws.walk_joins h.secs f.secs r.secs v (walk_limit t limits h joined.1) (walk_limit t limits f is.0)
                (walk_limit t limits r rest.1.is_footpath) a joined.4)
                (step_monotone f (rules.walk r.secs v) (walked rules (g ∷ gs) v) is.0 after_r after_rest (rest.1.no_worse v a));
          },
        )

pub chains_give_way : {V : Type 0} (rules : Rules V) → Laws rules → ChainsGiveWay rules
chains_give_way rules laws t legal limits stop [] some is = absurd (some refl)
chains_give_way rules laws t legal limits stop (f ∷ fs) some is = chain_gives_way rules laws t limits legal stop f fs is
