-- The line that is printed is that of the verdict.
use Rattle.std.proofs.Common.{◌≡◌, Err, refl, rules}
use Rattle.image_commands.specs.Judging.{IsAccepted, IsFaulty, IsVerdict, times_line}
use Rattle.image_commands.specs.Refusing.{refusal_line}
use Rattle.image_commands.specs.declared.journey.Failure.TheVariants.{BadQuery, BadText, Faulty}
use Rattle.image_commands.specs.declared.refusal.CommandRefusal.TheVariants.{BadText as OfText, Journey as OfJourney, Query as OfQuery}
use Rattle.command_endings.proofs.Outcomes.{refused_or, written_or}
use Rattle.image_commands.proofs.journey.run.Goals as goal

pub returns-in-Ok-line_of : goal.returns-in-Ok-line_of
returns-in-Ok-line_of g c =
    let image = c.args.image.now in
    let question = c.args.request.question in
    let text = c.args.request.text.now in
    let same : c.as_str.result.now ≡ times_line c.in-Ok.times = search rules in
    let wrote = c.write_text.ensures in
    written_or (IsAccepted image question text) (IsFaulty image question text) _ _ c.as_str.result.now _ _ (c.in-Ok.times, c.in-Ok.ensures, same)
    wrote.status wrote.written wrote.begun wrote.failed

pub returns-else-status-eq-REFUSED : goal.returns-else-status-eq-REFUSED
returns-else-status-eq-REFUSED g c =
    let image = c.args.image.now in
    let question = c.args.request.question in
    let text = c.args.request.text.now in
    let fault = c.in-Err-BadQuery.fault in
    let verdict : IsVerdict image question text (Err (BadQuery fault)) = search rules in
    let done = c.print_refusal-status.ensures in
    refused_or (IsAccepted image question text) (IsFaulty image question text) _ _ (refusal_line (OfQuery fault)) _ _
    (BadQuery fault, OfQuery fault, verdict, refl, refl) done.status done.printed done.silent done.begun done.failed

pub returns-else-status-eq-REFUSED-2 : goal.returns-else-status-eq-REFUSED-2
returns-else-status-eq-REFUSED-2 g c =
    let image = c.args.image.now in
    let question = c.args.request.question in
    let text = c.args.request.text.now in
    let verdict : IsVerdict image question text (Err BadText) = search rules in
    let done = c.print_refusal-status-in-Err-BadText.ensures in
    refused_or (IsAccepted image question text) (IsFaulty image question text) _ _ (refusal_line OfText) _ _
    (BadText, OfText, verdict, refl, refl) done.status done.printed done.silent done.begun done.failed

pub returns-else-status-eq-REFUSED-3 : goal.returns-else-status-eq-REFUSED-3
returns-else-status-eq-REFUSED-3 g c =
    let image = c.args.image.now in
    let question = c.args.request.question in
    let text = c.args.request.text.now in
    let fault = c.in-Err-Faulty.fault in
    let verdict : IsVerdict image question text (Err (Faulty fault)) = search rules in
    let done = c.print_refusal-status-in-Err-Faulty.ensures in
    refused_or (IsAccepted image question text) (IsFaulty image question text) _ _ (refusal_line (OfJourney fault)) _ _
    (Faulty fault, OfJourney fault, verdict, refl, refl) done.status done.printed done.silent done.begun done.failed
