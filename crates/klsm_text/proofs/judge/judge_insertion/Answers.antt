use Rattle.std.proofs.Common.{rules}
use Rattle.klsm_text.proofs.judge.judge_insertion.Goals as goal

pub returns : goal.returns
returns c = search rules
