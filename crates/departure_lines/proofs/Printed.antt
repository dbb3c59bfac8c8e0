-- The names of an image in a form.
use Rattle.std.proofs.Common.{◌≡◌, ◌∙◌, ℕ, List, [], Option, None, Some, ap, option_map, refl, slice_get, sym}
use Rattle.std.proofs.lemmas.Option.{slice_get-map}
use Rattle.timetable.specs.NamesValue.{NamesValue, TripNameValue}
use Rattle.image_facts.specs.Naming.{bytes_or_none, stop_bytes, trip_bytes}
use Rattle.image_files.specs.Naming.{name_in, names_in, with_codes}
use Rattle.image_files.specs.declared.names.NameForm.{NameForm}

-- an empty name has none to show
none_shown : (form : NameForm) → [] ≡ name_in form []
unfolding with_codes
none_shown NameForm.Raw = refl
none_shown NameForm.Shown = refl

pub stop_printed : (form : NameForm) (names : NamesValue) (stop : ℕ) → name_in form (stop_bytes names stop) ≡ stop_bytes (names_in form names) stop
stop_printed form names stop = of (slice_get names.stops stop) ∙ ap bytes_or_none (sym (slice_get-map (name_in form) names.stops stop))
  where
    of : (name : Option (List ℕ)) → name_in form (bytes_or_none name) ≡ bytes_or_none (option_map (name_in form) name)
    of None = sym (none_shown form)
    of (Some name) = refl

pub trip_printed : (form : NameForm) (names : NamesValue) (trip : ℕ) → name_in form (trip_bytes names trip) ≡ trip_bytes (names_in form names) trip
trip_printed form names trip =
    let written : TripNameValue → TripNameValue = λ t. record t { name = name_in form t.name } in
    of (slice_get names.trips trip)
    ∙ ap (λ (t : Option TripNameValue). bytes_or_none (option_map (λ (it : TripNameValue). it.name) t)) (sym (slice_get-map written names.trips trip))
  where
    of : (t : Option TripNameValue) → name_in form (bytes_or_none (option_map (λ (it : TripNameValue). it.name) t))
        ≡ bytes_or_none (option_map (λ (it : TripNameValue). it.name)
        (option_map (λ (it : TripNameValue). record it { name = name_in form it.name }) t))
    of None = sym (none_shown form)
    of (Some t) = refl
