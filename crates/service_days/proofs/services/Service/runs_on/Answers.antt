use Rattle.service_days.proofs.Weekdays.{weekday_below}
use Rattle.service_days.proofs.services.Service.runs_on.Goals as goal

pub runs-regular-requires : goal.runs-regular-requires
runs-regular-requires c = weekday_below c.args.day c.in-Some.weekday c.requires c.in-Some.is
