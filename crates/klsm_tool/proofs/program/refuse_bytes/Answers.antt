use Rattle.klsm_tool.proofs.program.refuse_bytes.Goals as goal

pub returns : goal.returns
returns g c = c.say.ensures
