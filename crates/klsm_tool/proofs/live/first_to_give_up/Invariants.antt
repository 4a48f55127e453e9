use Rattle.std.proofs.Common.{◌≡◌, ◌<◌, ℕ, slice_index_or, Option, None}
use Rattle.klsm_tool.specs.declared.worker.Worker.{Worker}
use Rattle.klsm_tool.specs.Working.{gave_up_at}
use Rattle.klsm_tool.proofs.live.first_to_give_up.Given as goal

-- none of those so far gave up
abbrev pub invariant-loop-place : goal.invariant-loop-place
invariant-loop-place l = (t : ℕ) (d : Option Worker) → t < l.place-index → gave_up_at (slice_index_or l.crew t d) ≡ None
