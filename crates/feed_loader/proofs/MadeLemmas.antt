-- The image of a feed, and why none is made.
use Rattle.std.proofs.Common.{◌≡◌, ◌⊎◌, ℕ, ◌≤◌, List, length, refl, sym, ap, ◌∙◌, subst, inl, inr}
use Rattle.std.proofs.lemmas.List.{length-map}
use Rattle.timetable.specs.Legal.{At}
use Rattle.timetable.specs.NamesValue.{NamesValue}
use Rattle.timetable.specs.TimetableValue.{TimetableValue}
use Rattle.timetable.specs.declared.limits.TheConstants.{MAX_FOOTPATHS, MAX_NAME_BYTES, MAX_STOPS, MAX_WALK_SECS}
use Rattle.timetable.specs.declared.network.Connection.{Connection}
use Rattle.timetable.specs.declared.network.Footpath.{Footpath}
use Rattle.image_layout.specs.Spelling.{text}
use Rattle.image_writer.specs.Writable.{IsWritable}
use Rattle.gtfs_tables.specs.declared.tables.Feed.{Feed}
use Rattle.footpaths.specs.Closure.{HasLegalFootpaths}
use Rattle.footpaths.specs.declared.fault.FootFault.{FootFault}
use Rattle.footpaths.specs.declared.fault.FootFault.TheVariants as paths
use Rattle.connections.specs.Days.{days_from}
use Rattle.connections.specs.Legal.{AreWithinLimits, HasLegalConnections}
use Rattle.connections.specs.Outcome.{IsFirstRefusal, IsListing, IsReport, RanOut}
use Rattle.connections.specs.declared.report.Report.{Report}
use Rattle.connections.specs.declared.fault.RunsFault.{RunsFault}
use Rattle.connections.specs.declared.runs.Run.{Run}
use Rattle.feed_loader.specs.Faults.{load_fault_of_runs}
use Rattle.feed_loader.specs.Loaded.{AreFeedPaths, AreNames, IsFeedClosure, IsMade}
use Rattle.feed_loader.specs.Refused.{AreNamesRefused, HasNoMemory, IsFeedRefusal, IsNamed, IsTooLarge, IsWantOfMemory, RunsOut}
use Rattle.feed_loader.specs.declared.fault.LoadFault.{LoadFault}
use Rattle.feed_loader.specs.declared.fault.LoadFault.TheVariants as faults
use Rattle.feed_loader.specs.declared.plan.Plan.{Plan}

-- whatever memory ran out for, the fault says that it did
pub memory_wants : (feed : Feed) (plan : Plan) (fault : LoadFault) → RunsOut feed plan fault → IsWantOfMemory fault
memory_wants feed plan fault (inl runs_out) = elim runs_out.ran_out [
  | inl is ↦ subst (λ (x : LoadFault). IsWantOfMemory x) (sym (runs_out.is ∙ ap load_fault_of_runs is)) refl
  | inr (is, started) ↦ subst (λ (x : LoadFault). IsWantOfMemory x) (sym (runs_out.is ∙ ap load_fault_of_runs is)) refl
]
memory_wants feed plan fault (inr (inl names_out)) = elim names_out.is [
  | inl (inl is) ↦ subst (λ (x : LoadFault). IsWantOfMemory x) (sym is) refl
  | inl (inr is) ↦ subst (λ (x : LoadFault). IsWantOfMemory x) (sym is) refl
  | inr is ↦ subst (λ (x : LoadFault). IsWantOfMemory x) (sym is) refl
]
memory_wants feed plan fault (inr (inr image_out)) = elim image_out.is [
  | inl is ↦ subst (λ (x : LoadFault). IsWantOfMemory x) (sym is) refl
  | inr written ↦ subst (λ (x : LoadFault). IsWantOfMemory x) (sym written.0) refl
]

-- a timetable is what it has
same_value : (t : TimetableValue) (stops trips : ℕ) (connections : List Connection) (footpaths : List Footpath)
    → t.stops ≡ stops → t.trips ≡ trips → t.connections ≡ connections → t.footpaths ≡ footpaths
    → t ≡ record { stops = stops; trips = trips; connections = connections; footpaths = footpaths }
same_value t stops trips connections footpaths a b c d = λ i. record { stops = a i; trips = b i; connections = c i; footpaths = d i }

-- memory ran out for an image that was made
is_made : (feed : Feed) (plan : Plan) (connections : List Connection) (runs_are : List Run) (footpaths : List Footpath) (names : NamesValue)
    (report : Report) → IsListing feed plan.zone plan.first_day plan.days connections runs_are → IsFeedClosure feed footpaths
    → AreNames feed plan runs_are names → IsReport feed (length runs_are) (length connections) report
    → IsMade feed plan (record { stops = length feed.stops.items; trips = length runs_are; connections = connections; footpaths = footpaths })
    names (record report { footpaths = length footpaths })
is_made feed plan connections runs_are footpaths names report listing closure named counted = record {
  runs = runs_are;
  timetable = record { stops = refl; trips = refl; listing = listing; footpaths = closure };
  named = named;
  counted = record {
    counts = record {
      stops = counted.stops;
      runs = counted.runs;
      connections = counted.connections;
      footpaths = refl;
      lifted = counted.lifted;
      flex = counted.flex;
      frequencies = counted.frequencies;
      skipped = counted.skipped;
    };
    footpaths = refl;
  };
}

pub image_ran_out : (feed : Feed) (plan : Plan) (t : TimetableValue) (names : NamesValue) (connections : List Connection) (runs_are : List Run)
    (footpaths : List Footpath) (report : Report) (outcome : LoadFault)
    → t.stops ≡ length feed.stops.items → t.trips ≡ length runs_are → t.connections ≡ connections → t.footpaths ≡ footpaths
    → IsListing feed plan.zone plan.first_day plan.days connections runs_are → IsFeedClosure feed footpaths
    → AreNames feed plan runs_are names → IsReport feed (length runs_are) (length connections) report
    → HasNoMemory t names outcome → RunsOut feed plan outcome ⊎ IsFeedRefusal feed plan outcome
image_ran_out feed plan t names connections runs_are footpaths report outcome stops trips ways paths listing closure named counted why =
    let made = is_made feed plan connections runs_are footpaths names report listing closure named counted in
    inl (inr (inr (record {
      t = t;
      names = names;
      report = record report { footpaths = length footpaths };
      made = subst (λ (x : TimetableValue). IsMade feed plan x names (record report { footpaths = length footpaths }))
          (sym (same_value t _ _ _ _ stops trips ways paths)) made;
      is = why;
    })))

-- the runs are refused
pub runs_refused : (feed : Feed) (plan : Plan) (fault : RunsFault) (outcome : LoadFault) → outcome ≡ load_fault_of_runs fault
    → length feed.stops.items ≤ MAX_STOPS
    → RanOut plan.zone (days_from plan.first_day plan.days) fault ⊎ IsFirstRefusal feed plan.zone plan.first_day plan.days fault
    → RunsOut feed plan outcome ⊎ IsFeedRefusal feed plan outcome
runs_refused feed plan fault outcome is few (inl ran) = inl (inl (record { refusal = fault; is = is; few_stops = few; ran_out = ran }))
runs_refused feed plan fault outcome is few (inr first) = inr (inr (inl (record { refusal = fault; is = is; few_stops = few; first = first })))

-- the names are refused
pub names_refused : (feed : Feed) (plan : Plan) (connections : List Connection) (runs_are : List Run) (outcome : LoadFault)
    → length feed.stops.items ≤ MAX_STOPS
    → IsListing feed plan.zone plan.first_day plan.days connections runs_are → AreNamesRefused feed plan runs_are outcome
    → RunsOut feed plan outcome ⊎ IsFeedRefusal feed plan outcome
names_refused feed plan connections runs_are outcome few listing refused =
    let named : IsNamed feed plan refused.names =
    record { connections = connections; runs = runs_are; few_stops = few; listing = listing; names_are = refused.names_are } in
    elim refused.why [
      | inl memory ↦ inl (inr (inl (record { names = refused.names; named = named; short = memory.1; is = inl memory.0 })))
      | inr long ↦ inr (inr (inr (inl (record { is = long.0; names = refused.names; named = named; long = long.1 }))))
    ]

-- the closure of the footpaths is refused
pub footpaths_refused : (feed : Feed) (plan : Plan) (connections : List Connection) (runs_are : List Run) (names : NamesValue) (fault : FootFault)
    (outcome : LoadFault) → outcome ≡ faults.Footpaths fault → length feed.stops.items ≤ MAX_STOPS
    → IsListing feed plan.zone plan.first_day plan.days connections runs_are → AreNames feed plan runs_are names → length (text names) ≤ MAX_NAME_BYTES
    → (fault ≡ paths.OutOfMemory) ⊎ ((listed : List Footpath) × AreFeedPaths feed listed × IsTooLarge listed fault)
    → RunsOut feed plan outcome ⊎ IsFeedRefusal feed plan outcome
footpaths_refused feed plan connections runs_are names fault outcome is few listing names_are short why =
    let named : IsNamed feed plan names =
    record { connections = connections; runs = runs_are; few_stops = few; listing = listing; names_are = names_are } in
    elim why [
      | inl memory ↦ inl (inr (inl (record { names = names; named = named; short = short; is = inr (is ∙ ap faults.Footpaths memory) })))
      | inr large ↦ inr (inr (inr (inr (record {
        refusal = fault;
        is = is;
        names = names;
        named = named;
        short = short;
        listed = large.0;
        listed_are = large.1;
        too_large = large.2;
      }))))
    ]

-- the timetable and the names of a feed can be written
pub is_writable : (feed : Feed) (plan : Plan) (t : TimetableValue) (names : NamesValue) (connections : List Connection)
    (runs_are : List Run) (footpaths : List Footpath)
    → t.stops ≡ length feed.stops.items → t.trips ≡ length runs_are → t.connections ≡ connections → t.footpaths ≡ footpaths
    → length feed.stops.items ≤ MAX_STOPS → IsListing feed plan.zone plan.first_day plan.days connections runs_are
    → HasLegalConnections (length feed.stops.items) (length runs_are) connections
    → AreWithinLimits (length runs_are) connections
    → HasLegalFootpaths (length feed.stops.items) footpaths → length footpaths ≤ MAX_FOOTPATHS
    → ((i : ℕ) (f : Footpath) → At footpaths i f → f.secs ≤ MAX_WALK_SECS)
    → AreNames feed plan runs_are names → length (text names) ≤ MAX_NAME_BYTES → IsWritable t names
is_writable feed plan t names connections runs_are footpaths stops trips same_connections same_footpaths few listing
    legal within paths few_paths short named text_fits =
    subst (λ (x : TimetableValue). IsWritable x names) (sym (same_value t _ _ _ _ stops trips same_connections same_footpaths)) (record {
      legal = record {
        stops_in_range = legal.stops_in_range;
        trips_in_range = legal.trips_in_range;
        ends_in_range = paths.ends_in_range;
        takes_time = legal.takes_time;
        departures_never_fall = legal.departures_never_fall;
        unbroken = legal.unbroken;
        in_order = paths.in_order;
        loops = paths.loops;
        closed = paths.closed;
      };
      limits = record { stops = few; trips = within.trips; connections = within.few; footpaths = few_paths; times = within.times; walks = short };
      stop_names = ap length named.stops ∙ length-map feed.stops.items _;
      trip_names = ap length named.trips ∙ length-map runs_are _;
      bytes = text_fits;
    })
