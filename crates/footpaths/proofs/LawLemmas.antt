-- A closure meets what a legal timetable asks of footpaths; there is at most one; closed footpaths are their own closure.
use Rattle.std.proofs.Common.{◌≡◌, ◌≢◌, ℕ, ◌+◌, ◌<◌, ◌≤◌, List, [], ◌∷◌, ◌++◌, length, Contains, refl, sym, ap, subst, ◌∙◌, arith}
use Rattle.std.proofs.lemmas.List.Elements.{All-contains}
use Rattle.reasoning.proofs.ListLemmas.{contains_at, at_contains}
use Rattle.timetable.specs.declared.network.Footpath.{Footpath}
use Rattle.timetable.specs.Journeys.{IsWalk, walk_end, walk_secs}
use Rattle.timetable.specs.TimetableValue.{TimetableValue}
use Rattle.timetable.specs.Legal.{HasFootpath, IsLegal}
use Rattle.timetable.specs.LegalProp.{same_secs}
use Rattle.footpaths.specs.Walks.{on_foot, IsWalkBetween, IsLeastTime}
use Rattle.footpaths.specs.Closure.{IsClosure, HasMorePairs, HasLongerWalk, AreInRange, HasLoops, HasLegalFootpaths}
use Rattle.footpaths.proofs.WalkLemmas.{alone}
use Rattle.footpaths.proofs.OrderLemmas.{no_longer, same_list}
use Rattle.footpaths.proofs.ClosureLemmas.{joined_in_range}

has_Contains : (paths : List Footpath) (f : Footpath) → Contains paths f → HasFootpath paths f.from f.to f.secs
has_Contains paths f in_it = at_contains paths f in_it

Contains-has : (paths : List Footpath) (a b secs : ℕ) → HasFootpath paths a b secs → Contains paths (record { from = a; to = b; secs = secs })
Contains-has paths a b secs (i, at) = contains_at {X = Footpath} paths i (record { from = a; to = b; secs = secs }) at

-- a walk and a walk from where it ends are one walk
pub joined_leads : (listed first second : List Footpath) (a : ℕ) → IsWalk (on_foot listed) a first → IsWalk (on_foot listed) (walk_end a first) second
    → IsWalk (on_foot listed) a (first ++ second)
joined_leads listed [] second a leads more = more
joined_leads listed (f ∷ first) second a (in_list, start, rest) more = (in_list, start, joined_leads listed first second f.to rest more)

pub joined_end : (first second : List Footpath) (a : ℕ) → walk_end a (first ++ second) ≡ walk_end (walk_end a first) second
joined_end [] second a = refl
joined_end (f ∷ first) second a = joined_end first second f.to

pub joined_secs : (first second : List Footpath) → walk_secs (first ++ second) ≡ walk_secs first + walk_secs second
joined_secs [] second = omega arith
joined_secs (f ∷ first) second = let e = joined_secs first second in omega (arith, e)

joined_some : (first second : List Footpath) → first ≢ [] → first ++ second ≢ []
joined_some [] second some = absurd (some refl)
joined_some (f ∷ first) second some = λ e. cc

joined_walk : (listed first second : List Footpath) (a b c : ℕ) → IsWalkBetween listed a b first → IsWalkBetween listed b c second
    → IsWalkBetween listed a c (first ++ second)
joined_walk listed first second a b c one two = record {
  leads = joined_leads listed first second a one.leads (subst (λ (s : ℕ). IsWalk (on_foot listed) s second) (sym one.ends) two.leads);
  some = joined_some first second one.some;
  ends = joined_end first second a ∙ ap (λ (s : ℕ). walk_end s second) one.ends ∙ two.ends;
}

-- the stop that a walk leaves is one of the stops
pub leaves_in_range : (listed : List Footpath) (stops : ℕ) → AreInRange listed stops → (walk : List Footpath) (from : ℕ) → IsWalk (on_foot listed) from walk
    → walk ≢ [] → from < stops
leaves_in_range listed stops in_range [] from leads some = absurd (some refl)
leaves_in_range listed stops in_range (f ∷ rest) from (in_list, start, more) some =
    subst (λ (n : ℕ). n < stops) start (All-contains (λ (g : Footpath). (g.from < stops) × (g.to < stops)) listed f in_range in_list).0

pub legal_closure : (stops : ℕ) (listed closure : List Footpath) → AreInRange listed stops → HasLoops listed stops → IsClosure listed closure
    → HasLegalFootpaths stops closure
legal_closure stops listed closure in_range loops is = record {
  ends_in_range = λ i f at.
      let (walk, walks, time) = (is.least f (contains_at closure i f at)).walked in
      (leaves_in_range listed stops in_range walk f.from walks.leads walks.some, joined_in_range listed stops f.from f.to in_range (walk, walks));
  in_order = is.in_order;
  loops = λ s below.
      let (secs, has) = loops s below in
      is.whole s s (record { from = s; to = s; secs = secs } ∷ [], alone listed (record { from = s; to = s; secs = secs }) (Contains-has listed s s secs has));
  closed = λ a b c d1 d2 first second.
      let one = (is.least (record { from = a; to = b; secs = d1 }) (Contains-has closure a b d1 first)).walked in
      let two = (is.least (record { from = b; to = c; secs = d2 }) (Contains-has closure b c d2 second)).walked in
      let walk : IsWalkBetween listed a c (one.0 ++ two.0) = joined_walk listed one.0 two.0 a b c one.1 two.1 in
      let (d, has) = is.whole a c (one.0 ++ two.0, walk) in
      let least : d ≤ walk_secs (one.0 ++ two.0) = (is.least (record { from = a; to = c; secs = d }) (Contains-has closure a c d has)).least (one.0 ++ two.0)
      walk in
      (d, has, omega (arith, least, joined_secs one.0 two.0, one.2, two.2));
}

-- the least time is one
one_least : (listed : List Footpath) (a b s t : ℕ) → IsLeastTime listed a b s → IsLeastTime listed a b t → s ≡ t
one_least listed a b s t first second =
    let (v, is_v, time_v) = first.walked in
    let (w, is_w, time_w) = second.walked in
    let low = first.least w is_w in
    let high = second.least v is_v in
    omega (arith, low, high, time_v, time_w)

also_in : (listed c d : List Footpath) → IsClosure listed c → IsClosure listed d → (f : Footpath) → Contains c f → Contains d f
also_in listed c d is_c is_d f in_c =
    let least = is_c.least f in_c in
    let (walk, walks, time) = least.walked in
    let (secs, has) = is_d.whole f.from f.to (walk, walks) in
    let there = Contains-has d f.from f.to secs has in
    let same : secs ≡ f.secs = one_least listed f.from f.to secs f.secs (is_d.least (record { from = f.from; to = f.to; secs = secs }) there) least in
    subst (λ (n : ℕ). Contains d (record { from = f.from; to = f.to; secs = n })) same there

pub one_closure : (listed c d : List Footpath) → IsClosure listed c → IsClosure listed d → c ≡ d
one_closure listed c d is_c is_d = same_list c d is_c.in_order is_d.in_order (also_in listed c d is_c is_d) (also_in listed d c is_d is_c)

-- in closed footpaths a direct one is no longer than a walk
direct : (stops : ℕ) (paths : List Footpath) → HasLegalFootpaths stops paths → (walk : List Footpath) (a b : ℕ) → IsWalk (on_foot paths) a walk → walk ≢ []
    → walk_end a walk ≡ b → (d : ℕ) × HasFootpath paths a b d × (d ≤ walk_secs walk)
direct stops paths legal [] a b leads some ends = absurd (some refl)
direct stops paths legal (f ∷ []) a b (in_list, start, more) some ends = (
  f.secs,
  subst (λ (n : ℕ). HasFootpath paths n b f.secs) start (subst (λ (n : ℕ). HasFootpath paths f.from n f.secs) ends (has_Contains paths f in_list)),
  omega arith,
)
direct stops paths legal (f ∷ g ∷ rest) a b (in_list, start, more) some ends =
    let (d, has, le) = direct stops paths legal (g ∷ rest) f.to b more (λ e. cc) ends in
    let first : HasFootpath paths a f.to f.secs = subst (λ (n : ℕ). HasFootpath paths n f.to f.secs) start (has_Contains paths f in_list) in
    let (e, is, less) = legal.closed a f.to b f.secs d first has in
    (e, is, omega (arith, le, less))

pub closed_stays : (stops : ℕ) (paths : List Footpath) → HasLegalFootpaths stops paths → IsClosure paths paths
closed_stays stops paths legal = record {
  in_order = legal.in_order;
  least = λ f in_it. record {
    walked = (f ∷ [], alone paths f in_it, omega arith);
    least = λ walk walks.
        let (d, has, le) = direct stops paths legal walk f.from f.to walks.leads walks.some walks.ends in
        let same = same_secs paths legal.in_order f.from f.to d f.secs has (has_Contains paths f in_it) in
        omega (arith, same, le);
  };
  whole = λ from to (walk, walks). let (d, has, le) = direct stops paths legal walk from to walks.leads walks.some walks.ends in (d, has);
}

-- a closure counts the pairs that walks join
pub more_pairs : (listed closure : List Footpath) (most : ℕ) → IsClosure listed closure → HasMorePairs listed most → most < length closure
more_pairs listed closure most is (pairs, joins) =
    let bound = no_longer pairs closure joins.in_order is.in_order (λ j f at. is.whole f.from f.to (joins.joined f (contains_at pairs j f at))) in
    omega (arith, bound, joins.more)

pub pairs_of_closure : (listed closure : List Footpath) (most : ℕ) → IsClosure listed closure → most < length closure → HasMorePairs listed most
pairs_of_closure listed closure most is more = (
  closure,
  record {
    in_order = is.in_order;
    joined = λ f in_it. let (walk, walks, time) = (is.least f in_it).walked in (walk, walks);
    more = more;
  },
)

-- and has the pairs that only longer walks join
pub longer_in : (listed closure : List Footpath) (longest : ℕ) → IsClosure listed closure → HasLongerWalk listed longest → (f : Footpath) × Contains closure f
    × (longest < f.secs)
longer_in listed closure longest is (a, b, long) =
    let (secs, has) = is.whole a b long.joined in
    let there = Contains-has closure a b secs has in
    let (walk, walks, time) = (is.least (record { from = a; to = b; secs = secs }) there).walked in
    let more = long.longer walk walks in
    (record { from = a; to = b; secs = secs }, there, omega (arith, more, time))

pub longer_of : (listed closure : List Footpath) (longest : ℕ) → IsClosure listed closure → (f : Footpath) × Contains closure f × (longest < f.secs)
    → HasLongerWalk listed longest
longer_of listed closure longest is (f, in_it, more) =
    let least = is.least f in_it in
    let (walk, walks, time) = least.walked in
    (f.from, f.to, record { joined = (walk, walks); longer = λ other others. let low = least.least other others in omega (arith, low, more) })

pub footpaths_of_legal : (t : TimetableValue) → IsLegal t → HasLegalFootpaths t.stops t.footpaths
footpaths_of_legal t legal = record { ends_in_range = legal.ends_in_range; in_order = legal.in_order; loops = legal.loops; closed = legal.closed }

pub legal_with : (t : TimetableValue) (paths : List Footpath) → IsLegal t → HasLegalFootpaths t.stops paths → IsLegal (record t { footpaths = paths })
legal_with t paths legal paths_legal = record {
  stops_in_range = legal.stops_in_range;
  trips_in_range = legal.trips_in_range;
  ends_in_range = paths_legal.ends_in_range;
  takes_time = legal.takes_time;
  departures_never_fall = legal.departures_never_fall;
  unbroken = legal.unbroken;
  in_order = paths_legal.in_order;
  loops = paths_legal.loops;
  closed = paths_legal.closed;
}
