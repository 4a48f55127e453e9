use Rattle.std.proofs.Common.{◌≡◌, ℕ, List, [], length, map, Option}
use Rattle.klsm_rows.specs.Rows.{Row}
use Rattle.klsm_text.specs.Reading.{HasReadScript}
use Rattle.klsm_text.specs.Keeping.{AreKept}
use Rattle.klsm_text.specs.ThreadRows.{AreAccepted}
use Rattle.klsm_text.proofs.thread_rows.keep_rows.Given as goal

-- so many rows are read and kept
abbrev pub invariant-loop-number : goal.invariant-loop-number
invariant-loop-number g l = (threads : ℕ) (input : Option (List ℕ)) → HasReadScript g.R.Read.remaining input [] l.initial.script → AreKept threads [] (map (λ list. list.items) l.initial.lists)
    → (rows : List Row) × (length rows ≡ l.number) × HasReadScript g.R.Read.remaining input rows l.script × AreAccepted threads rows × AreKept threads rows (map (λ list. list.items) l.lists)
