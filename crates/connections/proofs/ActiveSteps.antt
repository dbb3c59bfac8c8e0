-- The services of trips, one trip at a time, and whether they run on a day.
use Rattle.std.proofs.Common.{◌≡◌, ◌∙◌, ℕ, zero, suc, ◌+◌, ◌<◌, ◌≤◌, List, [], ◌∷◌, ◌++◌, ◌&&◌, Bool, false, length, get_or, map, take, sym, ap, arith}
use Rattle.std.proofs.Common.{option_map, string_bytes}
use Rattle.std.specs.Global.{Vec}
use Rattle.std.proofs.lemmas.List.{get_or-map, length-map, map-append, take_all, take_more}
use Rattle.std.proofs.lemmas.List.Sums.{fold_more}
use Rattle.std.proofs.lemmas.Option.{get_or_from_slice_get, slice_get-map}
use Rattle.reasoning.proofs.ListLemmas.{all_zip-push}
use Rattle.gtfs_rows.specs.Ids.{StandsAt, seen_also}
use Rattle.gtfs_rows.specs.declared.values.Day.{Day}
use Rattle.gtfs_rows.proofs.KeyLemmas.{stands_also}
use Rattle.gtfs_tables.specs.Joined.{makes_connections}
use Rattle.gtfs_tables.specs.declared.tables.Feed.{Feed}
use Rattle.gtfs_tables.specs.declared.tables.Trip.{Trip}
use Rattle.service_days.specs.Services.{is_active}
use Rattle.connections.specs.Active.{AreNamed, active_among, names_also}
use Rattle.connections.specs.Runs.{runs_on}
use Rattle.connections.specs.declared.days.ServiceDay.{ServiceDay}

also_named : (names : List (List ℕ)) (text : List ℕ) (trips : List Trip) (indices : List ℕ) → AreNamed names trips indices
    → AreNamed (seen_also names text) trips indices
also_named names text [] [] named = named
also_named names text [] (index ∷ indices) named = absurd named
also_named names text (trip ∷ trips) [] named = absurd named
also_named names text (trip ∷ trips) (index ∷ indices) named =
    (stands_also names text index (string_bytes trip.service) named.0, also_named names text trips indices named.1)

-- the service of a trip more
pub named_more : (names new : List (List ℕ)) (trips : List Trip) (i : ℕ) (trip : Trip) (indices more : List ℕ) (index : ℕ)
    → i < length trips → trip ≡ get_or trips i trip → new ≡ seen_also names (string_bytes trip.service)
    → StandsAt new index (string_bytes trip.service) → more ≡ indices ++ index ∷ []
    → AreNamed names (take i trips) indices → AreNamed new (take (i + 1) trips) more
named_more names new trips i trip indices more index lt is seen there now was =
    let before : AreNamed new (take i trips) indices = rw seen (also_named names (string_bytes trip.service) (take i trips) indices was) in
    let next : take (i + 1) trips ≡ take i trips ++ trip ∷ [] = take_more trips i trip lt ∙ ap (λ (t : Trip). take i trips ++ t ∷ []) (sym is) in
    rw (next, now) (all_zip-push (λ (t : Trip) k. StandsAt new k (string_bytes t.service)) (take i trips) indices trip index before there)

-- the names, with the service of a trip more
pub names_more : (names : List (List ℕ)) (trips : List Trip) (i : ℕ) (trip : Trip) → i < length trips → trip ≡ get_or trips i trip
    → seen_also (names_also names (take i trips)) (string_bytes trip.service) ≡ names_also names (take (i + 1) trips)
names_more names trips i trip lt is =
    let add : List (List ℕ) → Trip → List (List ℕ) = λ so_far t. seen_also so_far (string_bytes t.service) in
    ap (add (names_also names (take i trips))) is ∙ sym (fold_more add names trips i trip lt)

-- that of the trip at an index
named_at : (names : List (List ℕ)) (trips : List Trip) (indices : List ℕ) (i : ℕ) (trip : Trip) (d : ℕ) → AreNamed names trips indices
    → i < length trips → trip ≡ get_or trips i trip → StandsAt names (get_or indices i d) (string_bytes trip.service)
named_at names [] indices i trip d named lt is = absurd (omega (arith, lt))
named_at names (t ∷ trips) [] i trip d named lt is = absurd named
named_at names (t ∷ trips) (k ∷ indices) zero trip d named lt is = rw is named.0
named_at names (t ∷ trips) (k ∷ indices) (suc i) trip d named lt is = named_at names trips indices i trip d named.1 (omega (arith, lt)) is

-- whether a trip runs on a day on which these services run
pub runs_among : (feed : Feed) (names : List (List ℕ)) (day : Day) (trips : List Trip) (indices : List ℕ) (active : List Bool) (i : ℕ) (trip : Trip)
    (d : ℕ) (b : Bool) → AreNamed names trips indices → active ≡ active_among feed names day → i < length trips → trip ≡ get_or trips i trip
    → b ≡ (makes_connections trip && get_or active (get_or indices i d) false) → b ≡ runs_on feed day trip
runs_among feed names day trips indices active i trip d b named are lt is fact =
    let there : StandsAt names (get_or indices i d) (string_bytes trip.service) = named_at names trips indices i trip d named lt is in
    let runs : List ℕ → Bool = λ name. is_active feed.calendar.items feed.calendar_dates.items name day in
    let here : get_or active (get_or indices i d) false ≡ runs (string_bytes trip.service) =
    ap (λ bs. get_or bs (get_or indices i d) false) are
    ∙ get_or_from_slice_get (map runs names) (get_or indices i d) (runs (string_bytes trip.service)) false
    (slice_get-map runs names (get_or indices i d) ∙ ap (option_map runs) there) in
    fact ∙ ap (λ r. makes_connections trip && r) here

-- the services that run on one of the days
pub active_at : (feed : Feed) (names : List (List ℕ)) (days : List Day) (active : List (Vec Bool)) (i : ℕ) (x : Vec Bool) (d : Day)
    → map (λ each. each.items) active ≡ map (active_among feed names) days → i < length active → x ≡ get_or active i x
    → (i < length days) × (x.items ≡ active_among feed names (get_or days i d))
active_at feed names days active i x d are lt is =
    let items : Vec Bool → List Bool = λ each. each.items in
    let same : length active ≡ length days = sym (length-map active items) ∙ ap length are ∙ length-map days (active_among feed names) in
    let within : i < length days = omega (arith, lt, same) in (
      within,
      ap items is ∙ sym (get_or-map items active i x [] lt) ∙ ap (λ bs. get_or bs i []) are
          ∙ get_or-map (active_among feed names) days i d [] within,
    )

pub active_on : (feed : Feed) (names : List (List ℕ)) (days : List ServiceDay) (active : List (Vec Bool)) (i : ℕ) (x : Vec Bool) (day : ServiceDay)
    → map (λ each. each.items) active ≡ map (active_among feed names) (map (λ d. d.day) days) → i < length days → day ≡ get_or days i day
    → x ≡ get_or active i x → x.items ≡ active_among feed names day.day
active_on feed names days active i x day are lt is there =
    let items : Vec Bool → List Bool = λ each. each.items in
    let dates : ServiceDay → Day = λ d. d.day in
    let same : length active ≡ length days =
    sym (length-map active items) ∙ ap length are ∙ length-map (map dates days) (active_among feed names) ∙ length-map days dates in
    (active_at feed names (map dates days) active i x day.day are (omega (arith, lt, same)) there).1
    ∙ ap (active_among feed names) (get_or-map dates days i day day.day lt ∙ ap dates (sym is))

-- no day is left
pub active_all : (feed : Feed) (names : List (List ℕ)) (days : List Day) (active : List (Vec Bool)) (i : ℕ)
    → map (λ each. each.items) active ≡ map (active_among feed names) days → length active ≤ i → take i days ≡ days
active_all feed names days active i are past =
    let items : Vec Bool → List Bool = λ each. each.items in
    let same : length active ≡ length days = sym (length-map active items) ∙ ap length are ∙ length-map days (active_among feed names) in
    take_all i days (omega (arith, past, same))

-- those of a day more
pub active_more : (feed : Feed) (names : List (List ℕ)) (days : List ServiceDay) (active more : List (Vec Bool)) (i : ℕ) (day : ServiceDay)
    (running : Vec Bool) → i < length days → day ≡ get_or days i day → running.items ≡ active_among feed names day.day
    → more ≡ active ++ running ∷ []
    → map (λ each. each.items) active ≡ map (active_among feed names) (map (λ d. d.day) (take i days))
    → map (λ each. each.items) more ≡ map (active_among feed names) (map (λ d. d.day) (take (i + 1) days))
active_more feed names days active more i day running lt is runs now was =
    let items : Vec Bool → List Bool = λ each. each.items in
    let dates : ServiceDay → Day = λ d. d.day in
    let next : take (i + 1) days ≡ take i days ++ day ∷ [] = take_more days i day lt ∙ ap (λ (d : ServiceDay). take i days ++ d ∷ []) (sym is) in
    ap (map items) now ∙ map-append items active (running ∷ [])
    ∙ ap (λ bs. bs ++ items running ∷ []) was ∙ ap (λ b. map (active_among feed names) (map dates (take i days)) ++ b ∷ []) runs
    ∙ sym (ap (λ ds. map (active_among feed names) (map dates ds)) next
    ∙ ap (map (active_among feed names)) (map-append dates (take i days) (day ∷ []))
    ∙ map-append (active_among feed names) (map dates (take i days)) (day.day ∷ []))
