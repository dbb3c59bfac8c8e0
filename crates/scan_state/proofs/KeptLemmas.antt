-- Parts of a step, one after another.
use Rattle.std.proofs.Common.{◌≡◌, ◌⊎◌, ℕ, ◌+◌, ◌<◌, ◌≤◌, true, false, List, ◌++◌, Contains, Some, slice_get, ◌↔◌}
use Rattle.std.proofs.Common.{inl, refl, sym, ap, ◌∙◌, subst, arith}
use Rattle.std.proofs.lemmas.Bool.{true≢false}
use Rattle.reasoning.proofs.ListLemmas.{extends_none, extends_on}
use Rattle.criteria.specs.Laws.{Rules, Laws, Admits}
use Rattle.bags.specs.declared.point.Point.{Point}
use Rattle.timetable.specs.declared.network.Connection.{Connection}
use Rattle.timetable.specs.declared.network.Footpath.{Footpath}
use Rattle.timetable.specs.TimetableValue.{TimetableValue}
use Rattle.timetable.specs.Legal.{At}
use Rattle.timetable.proofs.LegalLemmas.{Contains-At}
use Rattle.fronts.specs.Front.{Extends}
use Rattle.scan_state.specs.ScanState.{final_walk_in}
use Rattle.scan_state.specs.SetQuery.{SetQueryValue, asked_from}
use Rattle.scan_state.specs.Points.{Covers}
use Rattle.scan_state.specs.Matching.{Spellings, from_to}
use Rattle.scan_state.specs.Steps.{Offer, TakesIn, TakesInBut, boardings, settings_out}
use Rattle.scan_state.specs.Bound.{Excludes}
use Rattle.scan_state.specs.Adding.{NoChange, StandsBetween, boardings_by, each_of, endings_and_changes, only_if}
use Rattle.scan_state.specs.ScanRecords.{Grows, KeptValue, SourceValue, scan_records, spelling_of}
use Rattle.scan_state.specs.Hops.{IsHop, StandsAt}
use Rattle.scan_state.specs.Parts.{SourceTakes}
use Rattle.scan_state.specs.Keeping.{GoesOn, Leaves}
use Rattle.scan_state.specs.KeptParts.{BagsTake, LabelsTake, boards_all, takes_changes, takes_endings}
use Rattle.scan_state.specs.declared.hop.Hop.{Hop}
use Rattle.scan_state.specs.declared.scan_records.SetOut.{SetOut}
use Rattle.scan_state.proofs.BoardLemmas.{between_more, between_split, boardings_but}
use Rattle.scan_state.proofs.EndLemmas.{end_admits}
use Rattle.scan_state.proofs.Offers.{but_more, but_none}
use Rattle.scan_state.proofs.ScanRecordLemmas.{grows_none, grows_on}
use Rattle.scan_state.proofs.Together.{ends_and_changes, front_takes}

module _ {V : Type 0} (rules : Rules V) where
  -- labels stay where each open way is covered already, or excused
  pub labels_none : {A : Type 0} {trip : ℕ} {Excused : A → Type 0} {offer : Spellings → Offer A V} {kept : KeptValue V}
      → ((tags : Spellings) (way : A) → (offer tags).is_open way
      → Covers rules (kept.labels trip) ((offer tags).departure way) ((offer tags).value way) ⊎ Excused way)
      → LabelsTake rules trip Excused offer kept kept
  labels_none {kept = kept} covered = record {
    exits = extends_none kept.exits;
    steps = refl;
    bags = λ stop. refl;
    other_trips = λ k other. refl;
    takes = λ walks set_outs before all first_grows then_grows. record {
      only = λ p h. inl h;
      kept = λ d v a c. c;
      covered = covered (from_to (spelling_of walks before) (spelling_of walks all));
    };
  }

  -- an offer that is taken in, seen as another one
  pub labels_as : {A B : Type 0} {trip : ℕ} {Was : A → Type 0} {Excused : B → Type 0} {a : Spellings → Offer A V} {b : Spellings → Offer B V}
      {old new : KeptValue V}
      → ((tags : Spellings) → TakesInBut rules Was (a tags) (old.labels trip) (new.labels trip)
      → TakesInBut rules Excused (b tags) (old.labels trip) (new.labels trip))
      → LabelsTake rules trip Was a old new → LabelsTake rules trip Excused b old new
  labels_as as_other taken = record {
    exits = taken.exits;
    steps = taken.steps;
    bags = taken.bags;
    other_trips = taken.other_trips;
    takes = λ walks set_outs before all first_grows then_grows.
        as_other (from_to (spelling_of walks before) (spelling_of walks all)) (taken.takes walks set_outs before all first_grows then_grows);
  }

  grown : (old new : KeptValue V) (set_outs : List SetOut) → Extends old.exits new.exits → Extends old.steps new.steps
      → Grows (scan_records old.exits old.steps set_outs) (scan_records new.exits new.steps set_outs)
  grown old new set_outs exits steps = record { exits = exits; steps = steps; set_outs = extends_none set_outs }

  as_more : {X : Type 0} (old new : List X) → new ≡ old → Extends old new
  as_more old new same = subst (Extends old) (sym same) (extends_none old)

  -- one offer after another
  pub labels_then : {A B C : Type 0} {trip : ℕ} {First : A → Type 0} {Second : B → Type 0} {Both : C → Type 0} {first : Spellings → Offer A V}
      {second : Spellings → Offer B V} {both : Spellings → Offer C V} {old mid new : KeptValue V}
      → ((tags : Spellings) → TakesInBut rules First (first tags) (old.labels trip) (mid.labels trip)
      → TakesInBut rules Second (second tags) (mid.labels trip) (new.labels trip)
      → TakesInBut rules Both (both tags) (old.labels trip) (new.labels trip))
      → LabelsTake rules trip First first old mid → LabelsTake rules trip Second second mid new → LabelsTake rules trip Both both old new
  labels_then {old = old} {mid = mid} {new = new} join a b = record {
    exits = extends_on old.exits mid.exits new.exits a.exits b.exits;
    steps = b.steps ∙ a.steps;
    bags = λ stop. b.bags stop ∙ a.bags stop;
    other_trips = λ k other. b.other_trips k other ∙ a.other_trips k other;
    takes = λ walks set_outs before all first_grows then_grows.
        let s0 = scan_records old.exits old.steps set_outs in
        let s1 = scan_records mid.exits mid.steps set_outs in
        let s2 = scan_records new.exits new.steps set_outs in
        join (from_to (spelling_of walks before) (spelling_of walks all))
        (a.takes walks set_outs before all first_grows (grows_on s1 s2 all (grown mid new set_outs b.exits (as_more mid.steps new.steps b.steps)) then_grows))
        (b.takes walks set_outs before all
        (grows_on before s0 s1 first_grows (grown old mid set_outs a.exits (as_more old.steps mid.steps a.steps))) then_grows);
  }

  -- a trip is left: to end, and then to change
  pub left : Laws rules → (q : SetQueryValue) (hop : Hop V) → IsHop rules q hop → {old mid new : KeptValue V} → hop.connection.alight ≡ true
      → takes_endings rules q hop old mid → takes_changes rules hop (mid.bag hop.connection.to) mid new → Leaves rules q hop old new
  left laws q hop within {old} {mid} {new} alights ended changed =
      let way = final_walk_in hop.final_entry in
      let bag = old.bag hop.connection.to in
      let both : LabelsTake rules hop.connection.trip (NoChange (Excludes rules hop.bound.now)) (λ tags. only_if (hop.connection.alight ≡ true)
      (endings_and_changes rules tags hop.place hop.connection q way bag)) old new =
      labels_then (λ tags. ends_and_changes rules q hop.place hop.connection way (Excludes rules hop.bound.now) tags bag
      (λ walk. end_admits rules laws hop.connection q way walk within.arrival within.by within.secs) alights)
      ended (subst (λ ps. takes_changes rules hop ps mid new) (ended.bags hop.connection.to) changed) in
      record {
        writes = record { exits = both.exits; steps = as_more old.steps new.steps both.steps };
        bags = both.bags;
        other_trips = both.other_trips;
        takes = λ walks set_outs.
            both.takes walks set_outs (scan_records old.exits old.steps set_outs) (scan_records new.exits new.steps set_outs)
            (grows_none (scan_records old.exits old.steps set_outs)) (grows_none (scan_records new.exits new.steps set_outs));
      }

  -- nobody may get off
  pub not_left : (q : SetQueryValue) (hop : Hop V) (kept : KeptValue V) → hop.connection.alight ≡ false → Leaves rules q hop kept kept
  not_left q hop kept stays = record {
    writes = record { exits = extends_none kept.exits; steps = extends_none kept.steps };
    bags = λ stop. refl;
    other_trips = λ trip other. refl;
    takes = λ walks set_outs.
        let tags = spelling_of walks (scan_records kept.exits kept.steps set_outs) in
        but_none rules (NoChange (Excludes rules hop.bound.now)) (only_if (hop.connection.alight ≡ true)
        (endings_and_changes rules (from_to tags tags) hop.place hop.connection q (final_walk_in hop.final_entry) (kept.bag hop.connection.to)))
        (kept.labels hop.connection.trip) (λ way opened. true≢false (sym opened.0 ∙ stays));
  }

  -- the points of stops stay where each open way is covered already, or excused
  pub bags_none : {A : Type 0} {AreWalks : List Footpath → Type 0} {Excused : A → Type 0} {offer : ℕ → Spellings → Offer A V} {kept : KeptValue V}
      → ((stop : ℕ) (tags : Spellings) (way : A) → (offer stop tags).is_open way
      → Covers rules (kept.bag stop) ((offer stop tags).departure way) ((offer stop tags).value way) ⊎ Excused way)
      → BagsTake rules AreWalks Excused offer kept kept
  bags_none {kept = kept} covered = record {
    exits = refl;
    steps = extends_none kept.steps;
    labels = λ trip. refl;
    takes = λ walks are stop set_outs before all first_grows then_grows. record {
      only = λ p h. inl h;
      kept = λ d v a c. c;
      covered = covered stop (from_to (spelling_of walks before) (spelling_of walks all));
    };
  }

  -- an offer that is taken in, seen as another one
  pub bags_as : {A B : Type 0} {WereWalks AreWalks : List Footpath → Type 0} {Was : A → Type 0} {Excused : B → Type 0} {a : ℕ → Spellings → Offer A V}
      {b : ℕ → Spellings → Offer B V} {old new : KeptValue V} → ((walks : List Footpath) → AreWalks walks → WereWalks walks)
      → ((stop : ℕ) (tags : Spellings) → TakesInBut rules Was (a stop tags) (old.bag stop) (new.bag stop)
      → TakesInBut rules Excused (b stop tags) (old.bag stop) (new.bag stop))
      → BagsTake rules WereWalks Was a old new → BagsTake rules AreWalks Excused b old new
  bags_as were as_other taken = record {
    exits = taken.exits;
    steps = taken.steps;
    labels = taken.labels;
    takes = λ walks are stop set_outs before all first_grows then_grows.
        as_other stop (from_to (spelling_of walks before) (spelling_of walks all))
        (taken.takes walks (were walks are) stop set_outs before all first_grows then_grows);
  }

  -- one offer after another
  pub bags_then : {A B C : Type 0} {FirstWalks SecondWalks AreWalks : List Footpath → Type 0} {First : A → Type 0} {Second : B → Type 0}
      {Both : C → Type 0} {first : ℕ → Spellings → Offer A V} {second : ℕ → Spellings → Offer B V} {both : ℕ → Spellings → Offer C V}
      {old mid new : KeptValue V} → ((walks : List Footpath) → AreWalks walks → FirstWalks walks × SecondWalks walks)
      → ((stop : ℕ) (tags : Spellings) → TakesInBut rules First (first stop tags) (old.bag stop) (mid.bag stop)
      → TakesInBut rules Second (second stop tags) (mid.bag stop) (new.bag stop)
      → TakesInBut rules Both (both stop tags) (old.bag stop) (new.bag stop))
      → BagsTake rules FirstWalks First first old mid → BagsTake rules SecondWalks Second second mid new → BagsTake rules AreWalks Both both old new
  bags_then {old = old} {mid = mid} {new = new} were join a b = record {
    exits = b.exits ∙ a.exits;
    steps = extends_on old.steps mid.steps new.steps a.steps b.steps;
    labels = λ trip. b.labels trip ∙ a.labels trip;
    takes = λ walks are stop set_outs before all first_grows then_grows.
        let s0 = scan_records old.exits old.steps set_outs in
        let s1 = scan_records mid.exits mid.steps set_outs in
        let s2 = scan_records new.exits new.steps set_outs in
        join stop (from_to (spelling_of walks before) (spelling_of walks all))
        (a.takes walks (were walks are).0 stop set_outs before all first_grows
        (grows_on s1 s2 all (grown mid new set_outs (as_more mid.exits new.exits b.exits) b.steps) then_grows))
        (b.takes walks (were walks are).1 stop set_outs before all
        (grows_on before s0 s1 first_grows (grown old mid set_outs (as_more old.exits mid.exits a.exits) a.steps)) then_grows);
  }

  -- footpaths one after another, with the same labels
  module _ (t : TimetableValue) (hop : Hop V) (labels : List (Point V)) (Excused : Point V → Type 0) (begin : ℕ) where
    abbrev After : ℕ → KeptValue V → KeptValue V → Type 0
    After end = BagsTake rules (λ walks. walks ≡ t.footpaths) (λ way. Excused way.1)
        (λ stop tags. each_of (StandsBetween t.footpaths begin end) (boardings_by rules tags hop.place hop.connection stop labels))

    pub bags_first : (kept : KeptValue V) → After begin kept kept
    bags_first kept = bags_none (λ stop tags way opened. absurd (omega (arith, opened.0.1, opened.0.2)))

    pub bags_next : (k : ℕ) (walk : Footpath) {old mid new : KeptValue V} → begin ≤ k → At t.footpaths k walk
        → ((l : Point V) → Contains labels l → (f : Footpath) → Contains t.footpaths f → Admits rules (rules.walk f.secs (rules.ride l.value)))
        → After k old mid
        → BagsTake rules (λ walks. slice_get walks k ≡ Some walk) Excused
        (λ stop tags. boardings_by rules tags hop.place hop.connection stop labels walk) mid new
        → After (k + 1) old new
    bags_next k walk low at admits =
        bags_then (λ walks are. (are, ap (λ ws. slice_get ws k) are ∙ at))
        (λ stop tags. but_more rules (StandsBetween t.footpaths begin k) (StandsBetween t.footpaths begin (k + 1))
        (boardings_by rules tags hop.place hop.connection stop labels) (λ _. Excused) walk
        (between_more t.footpaths begin k) (k, low, omega arith, at) (λ y. between_split t.footpaths begin k walk y at)
        (λ y label there opened. admits label opened.1 y (Contains-At t.footpaths there.0 y there.3)))

    -- these are all footpaths to where a connection that passengers may board begins
    pub bags_all : (end : ℕ) {old new : KeptValue V} → StandsAt t hop.place hop.connection → hop.connection.board ≡ true
        → ((k : ℕ) (f : Footpath) → At t.footpaths k f → (f.to ≡ hop.connection.from) ↔ ((begin ≤ k) × (k < end)))
        → After end old new
        → BagsTake rules (λ walks. walks ≡ t.footpaths) (λ way. Excused way.label) (λ stop tags. boardings rules t tags hop.place stop labels) old new
    bags_all end {old} {new} stands boards into =
        bags_as (λ walks are. are) (λ stop tags. boardings_but rules t tags hop.place hop.connection stands.is boards begin end into labels Excused stop
        (old.bag stop) (new.bag stop))

  -- passengers may not get on
  pub bags_closed : (t : TimetableValue) (hop : Hop V) (labels : List (Point V)) (kept : KeptValue V) → StandsAt t hop.place hop.connection
      → hop.connection.board ≡ false → boards_all rules t hop labels kept kept
  bags_closed t hop labels kept stands closed =
      bags_none (λ stop tags way may. absurd (true≢false (sym may.boards ∙ subst (λ (x : Connection). x.board ≡ false) stands.is closed)))

  -- beside labels and points that stay
  module _ (points labels : ℕ → List (Point V)) where
    abbrev beside : KeptValue V → KeptValue V
    beside kept = record {
      bag = λ stop. kept.bag stop ++ points stop;
      labels = λ trip. kept.labels trip ++ labels trip;
      exits = kept.exits;
      steps = kept.steps;
    }

    pub labels_beside : {A : Type 0} {trip : ℕ} {Excused : A → Type 0} {offer : Spellings → Offer A V} {old new : KeptValue V}
        → LabelsTake rules trip Excused offer old new → LabelsTake rules trip Excused offer (beside old) (beside new)
    labels_beside {trip = trip} taken = record {
      exits = taken.exits;
      steps = taken.steps;
      bags = λ stop. ap (λ ps. ps ++ points stop) (taken.bags stop);
      other_trips = λ k other. ap (λ ps. ps ++ labels k) (taken.other_trips k other);
      takes = λ walks set_outs before all first_grows then_grows.
          front_takes rules (labels trip) (taken.takes walks set_outs before all first_grows then_grows);
    }

    pub bags_beside : {A : Type 0} {AreWalks : List Footpath → Type 0} {Excused : A → Type 0} {offer : ℕ → Spellings → Offer A V} {old new : KeptValue V}
        → BagsTake rules AreWalks Excused offer old new → BagsTake rules AreWalks Excused offer (beside old) (beside new)
    bags_beside taken = record {
      exits = taken.exits;
      steps = taken.steps;
      labels = λ trip. ap (λ ps. ps ++ labels trip) (taken.labels trip);
      takes = λ walks are stop set_outs before all first_grows then_grows.
          front_takes rules (points stop) (taken.takes walks are stop set_outs before all first_grows then_grows);
    }

  module _ {O : Type 0} (t : TimetableValue) (sources : List ℕ → ℕ → List ℕ) (kept : O → ℕ → SourceValue V) (q : SetQueryValue) (hop : Hop V) where
    -- one has set out, and boarded
    pub goes_on : (old new : KeptValue V) (from to : O)
        → ((index : ℕ) → Extends (kept from index).set_outs (kept to index).set_outs)
        → ((index : ℕ) → SourceTakes rules t.footpaths (λ tags. settings_out rules t (asked_from sources q index) tags hop.place
        (old.labels hop.connection.trip)) (kept from index) (kept to index))
        → boards_all rules t hop (old.labels hop.connection.trip) old new
        → GoesOn rules t sources kept q hop old new from to
    goes_on old new from to set_outs sets_out boards =
        let trip = hop.connection.trip in
        let exits = as_more old.exits new.exits boards.exits in
        record {
          writes = record { exits = exits; steps = boards.steps };
          set_outs = set_outs;
          labels = boards.labels;
          sets_out = λ index.
              let before = scan_records old.exits old.steps (kept from index).set_outs in
              let all = scan_records new.exits new.steps (kept to index).set_outs in
              let tags = from_to (spelling_of t.footpaths before) (spelling_of t.footpaths all) in
              subst (λ (labels : List (Point V)). TakesIn rules (settings_out rules t (asked_from sources q index) tags hop.place labels)
              (kept from index).found (kept to index).found) (sym (boards.labels trip))
              (sets_out index old.exits old.steps before all (grows_none before) (grown old new (kept to index).set_outs exits boards.steps));
          boards = λ index stop lt.
              let outs = (kept to index).set_outs in
              let before = scan_records old.exits old.steps (kept from index).set_outs in
              let all = scan_records new.exits new.steps outs in
              let tags = from_to (spelling_of t.footpaths before) (spelling_of t.footpaths all) in
              subst (λ (labels : List (Point V)). TakesInBut rules (λ way. Excludes rules hop.bound.now way.label.value)
              (boardings rules t tags hop.place stop labels) (old.bag stop) (new.bag stop)) (sym (boards.labels trip))
              (boards.takes t.footpaths refl stop outs before all
              (record { exits = extends_none old.exits; steps = extends_none old.steps; set_outs = set_outs index }) (grows_none all));
        }
