-- How many of the trips of some services run on a day.
use Rattle.std.proofs.Common.{◌≡◌, ◌∙◌, ◌+◌, ◌==◌, ◌&&◌, ◌<◌, ◌≤◌, ℕ, List, [], ◌∷◌, ◌++◌, Bool, true, false, ap, arith}
use Rattle.std.proofs.Common.{Err, IfOk, Ok, Result}
use Rattle.std.proofs.Common.{drop, get_or, if◌then◌else◌, inl, inr, length, map, refl, sym, take}
use Rattle.std.specs.Prelude.{nat_lt}
use Rattle.std.specs.List.{count_by}
use Rattle.std.proofs.lemmas.Bool.{cases_Bool}
use Rattle.std.proofs.lemmas.Bool.Decides.{nat_tests}
use Rattle.std.proofs.lemmas.Grind.{common_steps, same_number_lists}
use Rattle.std.proofs.lemmas.List.{append-nil, get_or-map, get_or_default, length-drop, length-map, nil_from_length, take_all}
use Rattle.std.proofs.lemmas.List.Sums.{count_by_more_no, count_by_more_yes}
use Rattle.gtfs_rows.specs.declared.values.Day.{Day}
use Rattle.gtfs_tables.specs.Joined.{makes_connections}
use Rattle.gtfs_tables.specs.declared.tables.Feed.{Feed}
use Rattle.gtfs_tables.specs.declared.tables.Trip.{Trip}
use Rattle.service_days.specs.Services.{dated, service_runs}
use Rattle.service_days.specs.declared.day.DatedDay.{DatedDay}
use Rattle.service_days.specs.declared.services.Service.{Service}
use Rattle.connections.specs.Active.{active_among}
use Rattle.feed_days.specs.Counting.{AreDated, rides_on, running}
use Rattle.feed_days.specs.Service.{trips_on}
use Rattle.feed_days.proofs.Order.{first_day}

-- whether the service with an index runs on a day and is one of the first n
abbrev pub rides_below : List Service → DatedDay → ℕ → ℕ → Bool
rides_below services day n index = nat_lt index n && rides_on services day index

-- the trips of the next service
pub counted_next : (runs : ℕ → Bool) (n : ℕ) (ridden : List ℕ) → count_by (λ k. nat_lt k (n + 1) && runs k) ridden
    ≡ count_by (λ k. nat_lt k n && runs k) ridden + (if runs n then count_by (λ k. k == n) ridden else 0)
counted_next runs n [] = grind (arith, common_steps)
counted_next runs n (k ∷ ridden) =
    let rest = counted_next runs n ridden in
    grind (arith, common_steps, nat_tests, rest)

pub counted_none : (runs : ℕ → Bool) (ridden : List ℕ) → count_by (λ k. nat_lt k 0 && runs k) ridden ≡ 0
counted_none runs [] = grind (arith, common_steps)
counted_none runs (k ∷ ridden) = let rest = counted_none runs ridden in grind (arith, common_steps, nat_tests, rest)

-- all services are counted
beyond : (bs : List Bool) (n k : ℕ) → length bs ≤ n → (nat_lt k n && get_or bs k false) ≡ get_or bs k false
beyond bs n k long = grind (arith, common_steps, nat_tests)

counted_alike : (p q : ℕ → Bool) (ridden : List ℕ) → ((k : ℕ) → p k ≡ q k) → count_by p ridden ≡ count_by q ridden
counted_alike p q [] same = refl
counted_alike p q (k ∷ ridden) same = let rest = counted_alike p q ridden same in let here = same k in grind (arith, common_steps, rest, here)

pub counted_all : (services : List Service) (day : DatedDay) (n : ℕ) (ridden : List ℕ) → length services ≤ n
    → count_by (rides_below services day n) ridden ≡ count_by (rides_on services day) ridden
counted_all services day n ridden long =
    counted_alike (rides_below services day n) (rides_on services day) ridden
    (λ k. beyond (running services day) n k (omega (arith, long, length-map services (λ (s : Service). service_runs s day.day))))

-- no trip counts among the services so far and as one of the next, so both together are no more than all
pub counted_few : (runs : ℕ → Bool) (n : ℕ) (ridden : List ℕ)
    → count_by (λ k. nat_lt k n && runs k) ridden + count_by (λ k. k == n) ridden ≤ length ridden
counted_few runs n [] = grind (arith, common_steps)
counted_few runs n (k ∷ ridden) =
    let rest = counted_few runs n ridden in
    grind (arith, common_steps, nat_tests, rest)

-- one more, or none
added_one : (b : Bool) (n : ℕ) → b ≡ true → n + (if b then 1 else 0) ≡ n + 1
added_one b n is = ap (λ (x : Bool). n + (if x then 1 else 0)) is

added_none : (b : Bool) (n : ℕ) → b ≡ false → n + (if b then 1 else 0) ≡ n + 0
added_none b n is = ap (λ (x : Bool). n + (if x then 1 else 0)) is

-- a trip more, which makes connections or doesn't
counted_pushed : (p : ℕ → Bool) (ridden : List ℕ) (k : ℕ) → count_by p (ridden ++ k ∷ []) ≡ count_by p ridden + (if p k then 1 else 0)
counted_pushed p [] k = grind (arith, common_steps)
counted_pushed p (j ∷ ridden) k = let rest = counted_pushed p ridden k in grind (arith, common_steps, rest)

pub ride_more : (p : ℕ → Bool) (q : Trip → Bool) (trips : List Trip) (i : ℕ) (trip : Trip) (ridden more : List ℕ) (service : ℕ) → i < length trips
    → trip ≡ get_or trips i trip → more ≡ (if makes_connections trip then ridden ++ service ∷ [] else ridden)
    → (makes_connections trip && p service) ≡ q trip → count_by p ridden ≡ count_by q (take i trips) → count_by p more ≡ count_by q (take (i + 1) trips)
ride_more p q trips i trip ridden more service lt is now runs was =
    elim (cases_Bool (makes_connections trip)) [
      | inl makes ↦ (
          let pushed : more ≡ ridden ++ service ∷ [] = now ∙ ap (λ (b : Bool). if b then ridden ++ service ∷ [] else ridden) makes in
          let count = ap (count_by p) pushed ∙ counted_pushed p ridden service in
          let same : p service ≡ q trip = sym (ap (λ (b : Bool). b && p service) makes) ∙ runs in
          elim (cases_Bool (p service)) [
            | inl does ↦ (let one = count ∙ added_one (p service) (count_by p ridden) does in
                let step = count_by_more_yes q trips i trip lt (sym (ap q is) ∙ sym same ∙ does) in omega (arith, one, step, was))
            | inr no_one ↦ (let none = count ∙ added_none (p service) (count_by p ridden) no_one in
                let step = count_by_more_no q trips i trip lt (sym (ap q is) ∙ sym same ∙ no_one) in omega (arith, none, step, was))
          ])
      | inr rests ↦ (
          let kept : more ≡ ridden = now ∙ ap (λ (b : Bool). if b then ridden ++ service ∷ [] else ridden) rests in
          let off : q trip ≡ false = sym runs ∙ ap (λ (b : Bool). b && p service) rests in
          let step = count_by_more_no q trips i trip lt (sym (ap q is) ∙ off) in
          ap (count_by p) kept ∙ was ∙ sym step)
    ]

-- a trip more of a service
pub tally_more : (k : ℕ) (ridden : List ℕ) (i service old new : ℕ) → i < length ridden → service ≡ get_or ridden i service
    → old ≡ count_by (λ s. s == k) (take i ridden) → new ≡ old + (if service == k then 1 else 0) → new ≡ count_by (λ s. s == k) (take (i + 1) ridden)
tally_more k ridden i service old new lt is was now =
    elim (cases_Bool (service == k)) [
      | inl does ↦ (let step = count_by_more_yes (λ s. s == k) ridden i service lt (sym (ap (λ s. s == k) is) ∙ does) in
          let one = now ∙ added_one (service == k) old does in omega (arith, was, one, step))
      | inr other ↦ (let step = count_by_more_no (λ s. s == k) ridden i service lt (sym (ap (λ s. s == k) is) ∙ other) in
          let none = now ∙ added_none (service == k) old other in omega (arith, was, none, step))
    ]

-- the count of a day, with the trips of a service more
pub day_counted : (services : List Service) (day : DatedDay) (n : ℕ) (s : Service) (ridden : List ℕ) (old new trips : ℕ)
    → n < length services → s ≡ get_or services n s → old ≡ count_by (rides_below services day n) ridden
    → trips ≡ count_by (λ k. k == n) ridden → new ≡ old + (if service_runs s day.day then trips else 0)
    → new ≡ count_by (rides_below services day (n + 1)) ridden
day_counted services day n s ridden old new trips lt is was some now =
    let runs : Service → Bool = λ service. service_runs service day.day in
    let same : runs s ≡ rides_on services day n =
    ap runs is ∙ sym (get_or-map runs services n s false lt) in
    now ∙ ap (λ (o : ℕ). o + (if runs s then trips else 0)) was
    ∙ ap (λ (t : ℕ). count_by (rides_below services day n) ridden + (if runs s then t else 0)) some
    ∙ ap (λ (b : Bool). count_by (rides_below services day n) ridden + (if b then count_by (λ k. k == n) ridden else 0)) same
    ∙ sym (counted_next (rides_on services day) n ridden)

-- the trips of the service at an index
pub trips_at : (trips : List ℕ) (i n : ℕ) (ridden : List ℕ) (some : ℕ) → length trips ≡ n → i < n → some ≡ get_or trips i some
    → get_or trips i 0 ≡ count_by (λ k. k == i) ridden → some ≡ count_by (λ k. k == i) ridden
trips_at trips i n ridden some long lt is each = is ∙ get_or_default trips i some 0 (omega (arith, long, lt)) ∙ each

-- the list of a vector that is written back whole
pub written_back : (n : ℕ) (new old : List ℕ) → length new ≡ n → length old ≡ n → take n (new ++ drop (length new) old) ≡ new
written_back n new old long was =
    let rest : drop (length new) old ≡ [] = nil_from_length (drop (length new) old) (omega (arith, long, was, length-drop (length new) old)) in
    let whole : new ++ drop (length new) old ≡ new = ap (λ (xs : List ℕ). new ++ xs) rest ∙ append-nil new in
    ap (take n) whole ∙ take_all n new (omega (arith, long))

-- each day has its weekday
date_at : (days : List Day) (dates : List DatedDay) (k : ℕ) (d : DatedDay) → dates ≡ map dated days → k < length dates
    → get_or dates k d ≡ dated (get_or days k first_day)
date_at days dates k d are lt =
    let within : k < length days = (let long = ap length are ∙ length-map days dated in omega (arith, lt, long)) in
    ap (λ (xs : List DatedDay). get_or xs k d) are ∙ get_or-map dated days k first_day d within

pub all_dated : (days : List Day) (dates : List DatedDay) → dates ≡ map dated days → AreDated dates
all_dated days dates are = λ k d lt.
    let is = date_at days dates k d are lt in
    is ∙ sym (ap (λ (x : DatedDay). dated x.day) is)

-- what is counted are the trips of the feed
pub trips_counted : (feed : Feed) (days : List Day) (dates : List DatedDay) (services : List Service) (names : List (List ℕ)) (ridden counts : List ℕ)
    → dates ≡ map dated days → ((day : Day) → map (λ service. service_runs service day) services ≡ active_among feed names day)
    → ((day : Day) → count_by (λ service. get_or (active_among feed names day) service false) ridden ≡ trips_on feed day)
    → length counts ≡ length dates
    → ((i : ℕ) (d : DatedDay) → i < length dates → get_or counts i 0 ≡ count_by (rides_on services (get_or dates i d)) ridden)
    → counts ≡ map (trips_on feed) days
trips_counted feed days dates services names ridden counts are active rode long each =
    let days_long : length dates ≡ length days = ap length are ∙ length-map days dated in
    let same : length counts ≡ length (map (trips_on feed) days) = long ∙ days_long ∙ sym (length-map days (trips_on feed)) in
    same_number_lists counts (map (trips_on feed) days) same (λ k lt.
    let dates_to : k < length dates = omega (arith, lt, long) in
    let days_to : k < length days = omega (arith, dates_to, days_long) in
    each k (dated first_day) dates_to
    ∙ ap (λ (x : DatedDay). count_by (rides_on services x) ridden) (date_at days dates k (dated first_day) are dates_to)
    ∙ ap (λ (bs : List Bool). count_by (λ index. get_or bs index false) ridden) (active (get_or days k first_day))
    ∙ rode (get_or days k first_day)
    ∙ sym (get_or-map (trips_on feed) days k first_day 0 days_to))

-- two facts about what comes of success give a third
pub both_ok : {X E : Type 0} (result : Result X E) (P Q R : X → Type 0) → ((x : X) → P x → Q x → R x) → IfOk result P → IfOk result Q
    → IfOk result R
both_ok (Ok x) P Q R join p q = join x p q
both_ok (Err e) P Q R join p q = tt
