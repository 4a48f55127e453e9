use Rattle.std.proofs.Common.{[], inr}
use Rattle.klsm_tool.proofs.program.run_program.Goals as goal

-- no words could be read
pub returns-in-Err : goal.returns-in-Err
returns-in-Err g c = ([], inr (inr (inr c.say.ensures)))
