use Rattle.std.proofs.Common.{◌≡◌, Err, rules, string_bytes}
use Rattle.command_line.specs.declared.reading.NoCommand.TheVariants.{Help}
use Rattle.csa_program.proofs.TextEnds.{text_told}
use Rattle.csa_program.proofs.run_read.Goals as goal

-- the help is written
pub returns-in-Err-Help-clause-ended : goal.returns-in-Err-Help-clause-ended
returns-in-Err-Help-clause-ended g c =
    let text = c.in-Err-Help.text in
    let asks : c.args.asked ≡ Err (Help text) = search rules in
    let same : c.as_str.result.now ≡ string_bytes text = search rules in
    let wrote = c.write_text.ensures in
    rw asks (text_told (string_bytes text) _ c.write_text.result c.as_str.result.now _ _ same wrote.status wrote.written wrote.begun wrote.failed)
