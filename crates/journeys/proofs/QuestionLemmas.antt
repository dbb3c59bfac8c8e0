-- What is wrong with a query whose stops were found by name.
use Rattle.std.proofs.Common.{ℕ, ◌<◌, List, subst, inl, inr, arith}
use Rattle.std.proofs.lemmas.Option.{slice_get_within}
use Rattle.timetable.specs.Queries.{IsFirstFault}
use Rattle.timetable.specs.declared.query.Query.{Query}
use Rattle.timetable.specs.declared.query.QueryFault.{QueryFault}
use Rattle.timetable.specs.declared.query.QueryFault.TheVariants.{UnknownStop, SameStop, BadWindow}
use Rattle.image_layout.specs.Image.{HasImage, ImageValue}
use Rattle.profile_scan.specs.Destinations.{IsDestinationFault}
use Rattle.profile_scan.specs.declared.destination.Destination.{Destination}
use Rattle.journeys.specs.Questions.{IsNamed, Asks, AsksAll, IsRefused, IsRefusedOfAll}
use Rattle.journeys.specs.declared.question.Window.{Window}

-- a stop that has a name is one of the timetable's
pub named_within : (image : ImageValue) (name : List ℕ) (stop : ℕ) → HasImage image.timetable image.names → IsNamed image.names name stop
    → stop < image.timetable.stops
named_within image name stop has named = subst (λ (n : ℕ). stop < n) has.names.stop_names (slice_get_within image.names.stops stop name named.0)

pub refused_by : (image : ImageValue) (from to : List ℕ) (window : Window) (q : Query) (fault : QueryFault) → HasImage image.timetable image.names
    → Asks image.names from to window q → IsFirstFault image.timetable.stops q fault → IsRefused image from to window fault
refused_by image from to window q UnknownStop has asks is =
    let source = named_within image from q.source has asks.source in
    let target = named_within image to q.target has asks.target in
    elim is [ inl past ↦ absurd (omega (arith, source, past)) | inr past ↦ absurd (omega (arith, target, past)) ]
refused_by image from to window q SameStop has asks is = (q, asks, is)
refused_by image from to window q BadWindow has asks is = (q, asks, is)

pub refused_of_all : (image : ImageValue) (to : List ℕ) (window : Window) (d : Destination) (fault : QueryFault)
    → HasImage image.timetable image.names → AsksAll image.names to window d → IsDestinationFault image.timetable.stops d fault
    → IsRefusedOfAll image to window fault
refused_of_all image to window d UnknownStop has asks is =
    let target = named_within image to d.target has asks.target in absurd (omega (arith, target, is))
refused_of_all image to window d SameStop has asks is = is
refused_of_all image to window d BadWindow has asks is = (d, asks, is)
