use Rattle.std.proofs.Common.{rules}
use Rattle.klsm_board.proofs.pausing.Pause.wait.Goals as goal

pub returns-clause-rested : goal.returns-clause-rested
returns-clause-rested g c = search rules

pub returns-clause-misses : goal.returns-clause-misses
returns-clause-misses g c = search rules
