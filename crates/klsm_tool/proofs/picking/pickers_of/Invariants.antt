use Rattle.std.proofs.Common.{◌≡◌, ◌<◌, ℕ, length, slice_index_or}
use Rattle.klsm_tool.specs.declared.picking.ThreadPicker.{ThreadPicker}
use Rattle.klsm_tool.specs.Picking.{picker_of}
use Rattle.klsm_tool.proofs.picking.pickers_of.Given as goal

-- the pickers of the threads so far
abbrev pub invariant-loop-thread : goal.invariant-loop-thread
invariant-loop-thread l = record {
  many : length l.pickers.items ≡ l.thread;
  each : (t : ℕ) (d : ThreadPicker) → t < l.thread → slice_index_or l.pickers.items t d ≡ picker_of l.settings t;
}
