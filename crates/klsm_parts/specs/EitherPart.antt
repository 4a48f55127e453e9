-- Either kind of part, as contracts see it.
use Rattle.std.specs.Prelude.{ℕ, ◌≤◌, length}
use Rattle.klsm_run.specs.Capacity.{heap_room}
use Rattle.klsm_lsm.specs.Lsm.{content}
use Rattle.klsm_lsm.specs.Limit.{limit_of}
use Rattle.klsm_parts.specs.Parts.{PartState}
use Rattle.klsm_parts.specs.declared.part.Part.{Part}
use Rattle.klsm_parts.specs.declared.part.Part.TheVariants.{Own, Common}

-- the part as an own or a shared one
abbrev pub state_of : {CAP LEVELS : ℕ} → Part CAP LEVELS → PartState
state_of (Own own) = own
state_of (Common shared) = shared

-- an own part has at most k items, and a shared one as many as its LSM can hold
abbrev pub HasRoom : {CAP LEVELS : ℕ} → Part CAP LEVELS → Type 0
HasRoom (Own own) = length (content own.blocks) ≤ own.k
HasRoom {CAP} {LEVELS} (Common shared) = length (content shared.blocks) ≤ limit_of LEVELS heap_room
