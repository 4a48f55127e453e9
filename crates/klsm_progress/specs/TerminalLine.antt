-- Whether a line on a terminal tells anything.
use Rattle.std.specs.Prelude.{IsSome}
use Rattle.klsm_progress.specs.declared.terminal_line.TerminalLine.{TerminalLine}
use Rattle.klsm_progress.specs.declared.terminal_line.Terminals.{Terminals}

-- which outputs are terminals
abbrev pub terminals_of : {P : Type 0} → TerminalLine P → Terminals
terminals_of line = line.terminals

-- it tells something in time, since it knows when it was made
abbrev pub Tells : {P : Type 0} → TerminalLine P → Type 0
Tells line = IsSome line.made
