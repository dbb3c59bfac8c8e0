use Rattle.command_line.proofs.values.clock.Goals as goal

pub returns : goal.returns
returns c = rw (← c.as_bytes.ensures.value) c.clock_parse.ensures
