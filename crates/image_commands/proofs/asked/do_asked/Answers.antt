-- What is printed is what was asked for.
use Rattle.std.proofs.Common.{◌≡◌, rules}
use Rattle.command_requests.specs.declared.requests.ImageRequest.TheVariants.{Profile, Departures}
use Rattle.image_commands.proofs.asked.do_asked.Goals as goal

pub returns-in-Profile : goal.returns-in-Profile
returns-in-Profile g c =
    let asks : c.args.asked.now ≡ Profile c.in-Profile.request = search rules in
    rw asks c.run-in-Profile.ensures

pub returns-in-Departures : goal.returns-in-Departures
returns-in-Departures g c =
    let asks : c.args.asked.now ≡ Departures c.in-Departures.request = search rules in
    rw asks c.run-in-Departures.ensures
