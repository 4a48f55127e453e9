-- What the line says behind the number.
use Rattle.std.specs.Prelude.{ℕ, List, codes}
use Rattle.klsm_progress.specs.declared.progress.Counted.{Counted}
use Rattle.klsm_progress.specs.declared.progress.Counted.TheVariants.{RowsRead, RowsRun, RowsAnswered, NodesExamined}

abbrev pub words_of : Counted → List ℕ
words_of RowsRead = codes "rows read"
words_of RowsRun = codes "rows run"
words_of RowsAnswered = codes "rows answered"
words_of NodesExamined = codes "nodes examined"
