use Rattle.std.proofs.Common.{rules}
use Rattle.klsm_progress.proofs.progress.Counted.words.Goals as goal

pub returns-in-RowsRun : goal.returns-in-RowsRun
returns-in-RowsRun c = search rules
