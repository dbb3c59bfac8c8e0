-- Boarding, over the footpaths into a connection's start.
use Rattle.std.proofs.Common.{◌≡◌, ◌⊎◌, ◌↔◌, ℕ, ◌+◌, ◌-◌, ◌<◌, ◌≤◌, true, false, List, Contains, length, slice_get, Option, Some, None, refl, sym}
use Rattle.std.proofs.Common.{◌∙◌, ap, subst, inl, inr, arith}
use Rattle.std.proofs.lemmas.Bool.{cases_lt, true≢false}
use Rattle.std.proofs.lemmas.Option.{same_Some}
use Rattle.criteria.specs.Laws.{Rules, Laws, Admits, IsSecs}
use Rattle.bags.specs.declared.point.Point.{Point}
use Rattle.timetable.specs.declared.network.Connection.{Connection}
use Rattle.timetable.specs.declared.network.Footpath.{Footpath}
use Rattle.timetable.specs.TimetableValue.{TimetableValue}
use Rattle.timetable.specs.Legal.{At}
use Rattle.timetable.specs.Limits.{IsWithinLimits}
use Rattle.timetable.specs.Journeys.{connection_at, IsStart, start_end, start_secs}
use Rattle.timetable.proofs.LegalLemmas.{Contains-At, At-Contains}
use Rattle.scan_state.specs.SetQuery.{SetQueryValue}
use Rattle.scan_state.specs.Values.{started}
use Rattle.scan_state.specs.Matching.{Spellings}
use Rattle.scan_state.specs.Steps.{Offer, TakesIn, TakesInBut, boardings, settings_out, MayBoard, MaySetOut, SettingOut}
use Rattle.scan_state.specs.Points.{Covers}
use Rattle.scan_state.specs.Starts.{IsLed}
use Rattle.scan_state.specs.Adding.{each_of, StandsBetween, AreWalksInto, IsTried, StartsFrom, MayStart, boardings_by, settings_out_by}
use Rattle.scan_state.specs.Origins.{starts_at}
use Rattle.scan_state.proofs.Admitted.{AreAdmitted}
use Rattle.scan_state.proofs.Offers.{but_as, takes_none, takes_more, takes_as}

pub between_more : (walks : List Footpath) (begin end : ℕ) (y : Footpath) → StandsBetween walks begin end y → StandsBetween walks begin (end + 1) y
between_more walks begin end y s = (s.0, s.1, omega (arith, s.2), s.3)

pub between_split : (walks : List Footpath) (begin end : ℕ) (x y : Footpath) → slice_get walks end ≡ Some x
    → StandsBetween walks begin (end + 1) y → StandsBetween walks begin end y ⊎ (y ≡ x)
between_split walks begin end x y at s = elim (cases_lt s.0 end) [
  | inl lt ↦ inl (s.0, s.1, lt, s.3)
  | inr ge ↦
      let same : s.0 ≡ end = omega (arith, s.2) in
      inr (same_Some y x (sym s.3 ∙ ap (λ k. slice_get walks k) same ∙ at))
]

tried_more : (walks : List Footpath) (begin end : ℕ) (y : Option Footpath) → IsTried walks begin end y → IsTried walks begin (end + 1) y
tried_more walks begin end None s = tt
tried_more walks begin end (Some f) s = between_more walks begin end f s

tried_split : (walks : List Footpath) (begin end : ℕ) (x : Footpath) (y : Option Footpath)
    → slice_get walks end ≡ Some x → IsTried walks begin (end + 1) y → IsTried walks begin end y ⊎ (y ≡ Some x)
tried_split walks begin end x None at s = inl tt
tried_split walks begin end x (Some f) at s = elim (between_split walks begin end x f at s) [ inl was ↦ inl was | inr same ↦ inr (ap Some same) ]

none_tried : (walks : List Footpath) (begin : ℕ) (y : Option Footpath) → IsTried walks begin begin y → ⊥ ⊎ (y ≡ None)
none_tried walks begin None s = inr refl
none_tried walks begin (Some f) s = absurd (omega (arith, s.1, s.2))

-- no start, and no footpath yet
pub starts_first : {A V : Type 0} (rules : Rules V) (walks : List Footpath) (offer : Option Footpath
    → Offer A V) (begin : ℕ) (old new : List (Point V)) → TakesIn rules (offer None) old new
    → TakesIn rules (each_of (IsTried walks begin begin) offer) old new
starts_first rules walks offer begin old new takes =
    takes_more rules (λ _. ⊥) (IsTried walks begin begin) offer None old old new (λ y no. absurd no) tt (none_tried walks begin) (λ y way no opened. absurd no)
    (takes_none rules (each_of (λ _. ⊥) offer) old (λ way opened. opened.0)) takes

module _ {V : Type 0} (rules : Rules V) (laws : Laws rules) (t : TimetableValue) (limits : IsWithinLimits t)
    (labels : List (Point V)) (admitted : AreAdmitted rules labels) where
  walk_secs_allowed : (begin end : ℕ) (walk : Footpath) → StandsBetween t.footpaths begin end walk → IsSecs walk.secs
  walk_secs_allowed begin end walk s = limits.walks s.0 walk s.3

  start_secs_allowed : (begin end : ℕ) (start : Option Footpath) (v : V) → IsTried t.footpaths begin end start
      → Admits rules v → Admits rules (started rules start v)
  start_secs_allowed begin end None v s a = a
  start_secs_allowed begin end (Some f) v s a = laws.walk_admits f.secs v (walk_secs_allowed begin end f s) a

  pub starts_next : (tags : Spellings) (i : ℕ) (c : Connection) (q : SetQueryValue) (begin place : ℕ) (x : Footpath)
      (old mid new : List (Point V)) → begin ≤ place → At t.footpaths place x
      → TakesIn rules (each_of (IsTried t.footpaths begin place) (settings_out_by rules tags i c q labels)) old mid
      → TakesIn rules (settings_out_by rules tags i c q labels (Some x)) mid new
      → TakesIn rules (each_of (IsTried t.footpaths begin (place + 1)) (settings_out_by rules tags i c q labels)) old new
  starts_next tags i c q begin place x old mid new low at before here =
      takes_more rules (IsTried t.footpaths begin place) (IsTried t.footpaths begin (place + 1)) (settings_out_by rules tags i c q labels) (Some x) old mid new
      (tried_more t.footpaths begin place) (place, low, omega arith, at) (λ y. tried_split t.footpaths begin place x y at)
      (λ y label s opened. start_secs_allowed begin place y (rules.ride label.value) s (laws.ride_admits label.value (admitted label opened.1))) before here

-- a start from a source
starts_at_source : (q : SetQueryValue) (c : Connection) (start : Option Footpath) → StartsFrom q c start → Contains q.sources (starts_at c start)
starts_at_source q c None s = s
starts_at_source q c (Some f) s = s.0

is_start : (t : TimetableValue) (q : SetQueryValue) (c : Connection) (begin end : ℕ) (start : Option Footpath)
    → IsTried t.footpaths begin end start → StartsFrom q c start → IsStart t (starts_at c start) start
is_start t q c begin end None tried s = tt
is_start t q c begin end (Some f) tried s = (Contains-At t.footpaths tried.0 f tried.3, refl, s.1)

starts_from : (t : TimetableValue) (q : SetQueryValue) (c : Connection) (source : ℕ) (start : Option Footpath)
    → Contains q.sources source → IsStart t source start → start_end source start ≡ c.from → StartsFrom q c start
starts_from t q c source None is_source is leads = subst (Contains q.sources) leads is_source
starts_from t q c source (Some f) is_source is leads = (subst (Contains q.sources) (sym is.1) is_source, λ e. is.2 (e ∙ is.1))

-- no footpath leads to the connection from a source: only no start does
module _ {V : Type 0} (rules : Rules V) (t : TimetableValue) (tags : Spellings) (i : ℕ) (q : SetQueryValue) (labels : List (Point V))
    (old new : List (Point V)) where
  by_start : (start : Option Footpath) (label : Point V) → (IsLed t q.sources (connection_at t i).from → ⊥)
      → TakesIn rules (settings_out_by rules tags i (connection_at t i) q labels None) old new
      → MaySetOut t q i labels (record { start = start; label = label })
      → Covers rules new ((connection_at t i).dep - start_secs start) (started rules start (rules.ride label.value))
  by_start None label none here may = here.covered label (
    record {
      starts = starts_from t q (connection_at t i) may.source None may.is_source may.is_start may.leads;
      in_time = record { fits = may.fits; not_early = may.not_early; not_late = may.not_late };
    },
    may.is_label,
  )
  by_start (Some f) label none here may =
      absurd (none (f, may.is_start.0, starts_from t q (connection_at t i) may.source (Some f) may.is_source may.is_start may.leads, may.leads))

  no_start_taken : (IsLed t q.sources (connection_at t i).from → ⊥) → (connection_at t i).board ≡ true
      → TakesIn rules (settings_out_by rules tags i (connection_at t i) q labels None) old new → TakesIn rules (settings_out rules t q tags i labels) old new
  no_start_taken none boards here =
      takes_as rules (settings_out_by rules tags i (connection_at t i) q labels None) (settings_out rules t q tags i labels) old new
      (λ label opened. record {
        there = record { start = None; label = label };
        is_open = record {
          boards = boards;
          source = (connection_at t i).from;
          is_source = opened.0.starts;
          is_start = tt;
          leads = refl;
          fits = opened.0.in_time.fits;
          not_early = opened.0.in_time.not_early;
          not_late = opened.0.in_time.not_late;
          is_label = opened.1;
        };
        departs = refl;
        worth = refl;
        fits = λ tag h. h;
      })
      (λ way may. by_start way.start way.label none here may)
      here

  pub alone_taken : (c : Connection) → c ≡ connection_at t i → c.board ≡ true → (IsLed t q.sources c.from → ⊥)
      → TakesIn rules (settings_out_by rules tags i c q labels None) old new → TakesIn rules (settings_out rules t q tags i labels) old new
  alone_taken c is boards none takes =
      no_start_taken
      (subst (λ (x : Connection). IsLed t q.sources x.from → ⊥) is none)
      (subst (λ (x : Connection). x.board ≡ true) is boards)
      (subst (λ (x : Connection). TakesIn rules (settings_out_by rules tags i x q labels None) old new) is takes)

-- nobody sets out where nobody may get on
pub nobody_boards : {V : Type 0} (t : TimetableValue) (q : SetQueryValue) (i : ℕ) (c : Connection) → c ≡ connection_at t i → c.board ≡ false
    → (labels : List (Point V)) (way : SettingOut V) → MaySetOut t q i labels way → ⊥
nobody_boards t q i c is closed labels way may =
    true≢false (sym may.boards ∙ subst (λ (x : Connection). x.board ≡ false) is closed)

-- nor where neither a source is nor a footpath leads from one
pub nobody_starts : {V : Type 0} (t : TimetableValue) (q : SetQueryValue) (i : ℕ) (c : Connection) → c ≡ connection_at t i
    → (Contains q.sources c.from → ⊥) → (IsLed t q.sources c.from → ⊥) → (labels : List (Point V)) (way : SettingOut V) → MaySetOut t q i labels way → ⊥
nobody_starts t q i c is here led labels way may =
    from_start way.start (starts_from t q (connection_at t i) may.source way.start may.is_source may.is_start may.leads) may.is_start may.leads
  where
    from_start : (start : Option Footpath) → StartsFrom q (connection_at t i) start → IsStart t may.source start
        → start_end may.source start ≡ (connection_at t i).from → ⊥
    from_start None starts is_start leads = subst (λ (x : Connection). Contains q.sources x.from → ⊥) is here starts
    from_start (Some f) starts is_start leads =
        subst (λ (x : Connection). IsLed t q.sources x.from → ⊥) is led (f, is_start.0, starts, leads)

-- where exactly the footpaths into a stop stand
pub walks_into_it : (t : TimetableValue) (stop begin end : ℕ) → stop < t.stops → begin ≤ end → end ≤ length t.footpaths
    → ((k : ℕ) (f : Footpath) → At t.footpaths k f → (f.to ≡ stop) ↔ ((begin ≤ k) × (k < end)))
    → AreWalksInto t stop begin end
walks_into_it t stop begin end stop_in order within exact =
    record { stop_in = stop_in; into = λ k f at low high. (exact k f at).1 (low, high); order = order; within = within }

-- all footpaths into the connection's start
module _ {V : Type 0} (rules : Rules V) (t : TimetableValue) (tags : Spellings) (i : ℕ) (c : Connection) (is : c
    ≡ connection_at t i) (boards : c.board ≡ true) (begin end : ℕ) (into : (k : ℕ) (f : Footpath) → At t.footpaths k f
    → (f.to ≡ c.from) ↔ ((begin ≤ k) × (k < end))) (labels : List (Point V)) where
  boards_there : (connection_at t i).board ≡ true
  boards_there = subst (λ (x : Connection). x.board ≡ true) is boards

  into_there : (k : ℕ) (f : Footpath) → At t.footpaths k f → (f.to ≡ (connection_at t i).from) ↔ ((begin ≤ k) × (k < end))
  into_there = subst (λ (x : Connection). (k : ℕ) (f : Footpath) → At t.footpaths k f → (f.to ≡ x.from) ↔ ((begin ≤ k) × (k < end))) is into

  between : (f : Footpath) → Contains t.footpaths f → f.to ≡ (connection_at t i).from → StandsBetween t.footpaths begin end f
  between f in_f to =
      let at = At-Contains t.footpaths f in_f in
      let place = (into_there at.0 f at.1).0 to in
      (at.0, place.0, place.1, at.1)

  leads_into : (f : Footpath) → StandsBetween t.footpaths begin end f → f.to ≡ (connection_at t i).from
  leads_into f at = (into_there at.0 f at.3).1 (at.1, at.2)

  tried : (source : ℕ) (start : Option Footpath) → IsStart t source start
      → start_end source start ≡ (connection_at t i).from → IsTried t.footpaths begin end start
  tried source None starts leads = tt
  tried source (Some f) starts leads = between f starts.0 leads

  -- a start that leads to the connection
  leads_there : (start : Option Footpath) → IsTried t.footpaths begin end start
      → start_end (starts_at (connection_at t i) start) start ≡ (connection_at t i).from
  leads_there None at = refl
  leads_there (Some f) at = leads_into f at

  may_board : (stop : ℕ) (walk : Footpath) (label : Point V) → StandsBetween t.footpaths begin end walk
      → (boardings_by rules tags i (connection_at t i) stop labels walk).is_open label
      → MayBoard t i stop labels (record { walk = walk; label = label })
  may_board stop walk label at opened = record {
    boards = boards_there;
    is_footpath = Contains-At t.footpaths at.0 walk at.3;
    leaves = opened.0.0;
    leads = leads_into walk at;
    fits = opened.0.1;
    is_label = opened.1;
  }

  -- where labels are excused
  pub boardings_but : (Excused : Point V → Type 0) (stop : ℕ) (old new : List (Point V))
      → TakesInBut rules (λ way. Excused way.1) (each_of (StandsBetween t.footpaths begin end) (boardings_by rules tags i c stop labels)) old new
      → TakesInBut rules (λ way. Excused way.label) (boardings rules t tags i stop labels) old new
  boardings_but Excused stop old new takes =
      let here = subst (λ (x : Connection). TakesInBut rules (λ way. Excused way.1)
      (each_of (StandsBetween t.footpaths begin end) (boardings_by rules tags i x stop labels)) old new) is takes in
      but_as rules (λ way. Excused way.1) (λ way. Excused way.label)
      (each_of (StandsBetween t.footpaths begin end) (boardings_by rules tags i (connection_at t i) stop labels)) (boardings rules t tags i stop labels)
      old new
      (λ way opened. record {
        there = record { walk = way.0; label = way.1 };
        is_open = may_board stop way.0 way.1 opened.0 opened.1;
        departs = refl;
        worth = refl;
        fits = λ tag h. h;
      })
      (λ way opened. here.covered (way.walk, way.label) (between way.walk opened.is_footpath opened.leads, ((opened.leaves, opened.fits), opened.is_label)))
      here

  may_set_out : (q : SetQueryValue) (start : Option Footpath) (label : Point V) → IsTried t.footpaths begin end start
      → MayStart q (connection_at t i) start → Contains labels label
      → MaySetOut t q i labels (record { start = start; label = label })
  may_set_out q start label at may is = record {
    boards = boards_there;
    source = starts_at (connection_at t i) start;
    is_source = starts_at_source q (connection_at t i) start may.starts;
    is_start = is_start t q (connection_at t i) begin end start at may.starts;
    leads = leads_there start at;
    fits = may.in_time.fits;
    not_early = may.in_time.not_early;
    not_late = may.in_time.not_late;
    is_label = is;
  }

  pub settings_out_taken : (q : SetQueryValue) (old new : List (Point V))
      → TakesIn rules (each_of (IsTried t.footpaths begin end) (settings_out_by rules tags i c q labels)) old new
      → TakesIn rules (settings_out rules t q tags i labels) old new
  settings_out_taken q old new takes =
      let here = subst (λ (x : Connection). TakesIn rules
      (each_of (IsTried t.footpaths begin end) (settings_out_by rules tags i x q labels)) old new) is takes in
      takes_as rules (each_of (IsTried t.footpaths begin end)
      (settings_out_by rules tags i (connection_at t i) q labels)) (settings_out rules t q tags i labels) old new
      (λ way opened. record {
        there = record { start = way.0; label = way.1 };
        is_open =
            may_set_out q way.0 way.1 opened.0 opened.1.0 opened.1.1;
        departs = refl;
        worth = refl;
        fits = λ tag h. h;
      })
      (λ way opened.
      let may : MayStart q (connection_at t i) way.start = record {
        starts = starts_from t q (connection_at t i) opened.source way.start opened.is_source opened.is_start opened.leads;
        in_time = record { fits = opened.fits; not_early = opened.not_early; not_late = opened.not_late };
      } in
      here.covered (way.start, way.label) (tried opened.source way.start opened.is_start opened.leads, (may, opened.is_label)))
      here
