-- The picture is in its file before the text is printed.
use Rattle.std.proofs.Common.{◌≡◌, List, ℕ, inl, inr, refl, rules, string_bytes}
use Rattle.image_commands.specs.Answering.{IsOverImage, IsPictureAt}
use Rattle.command_endings.proofs.Outcomes.{outcome_of, unusable, written}
use Rattle.image_commands.proofs.profile.print_profile.Goals as goal

pub returns-in-Ok : goal.returns-in-Ok
returns-in-Ok g c =
    let disk = g.H.OutDisk.files c.args.rt.now in
    let profile = c.args.profile.now in
    let IsText : List ℕ → Type 0 = λ text. IsPictureAt disk c.args.request.now.image.now c.args.request.now.picture profile.picture
    × (text ≡ string_bytes profile.text) in
    let is : IsText c.as_str.result.now = search rules in
    let wrote = c.write_text.ensures in
    outcome_of _ _ _ _ _ _ _ _ (λ s text is. is) (λ none. absurd none)
    (written IsText _ _ c.as_str.result.now _ _ is wrote.status wrote.written wrote.begun wrote.failed)

pub returns-in-Err : goal.returns-in-Err
returns-in-Err g c =
    let done = c.report_unwritten.ensures in
    unusable _ _ _ _ c.report_unwritten.result _ done.memory done.either (λ other. inl c.in-Err.ensures.failed)

pub returns-then-is_over_image : goal.returns-then-is_over_image
returns-then-is_over_image g c =
    let request = c.args.request.now in
    let over : IsOverImage (g.H.OutDisk.files c.args.rt.now) request.image.now request.picture = search rules in
    inr (inr (inl (refl, inr over), refl))
