use Rattle.csa_program.proofs.Shown.{plain_written}
use Rattle.csa_program.proofs.showing.write_plain.Goals as goal

pub returns-clause-shown : goal.returns-clause-shown
returns-clause-shown g c =
    plain_written c.args.bytes.now c.plain_len.result c.write.result _ _ c.plain_len.ensures.plain c.plain_len.ensures.within
    c.write.ensures.bound c.write.ensures.bytes
