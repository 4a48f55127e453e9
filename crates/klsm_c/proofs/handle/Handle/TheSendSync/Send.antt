-- A handle may go to another thread, since its member and the heap's right may.
use Rattle.std.specs.Prelude.{List, [], ◌∷◌}
use mir.Raw.{raw}
use base.Shift.{Keyless}
use denote.Memory.{lone}
use denote.RawPtr.{Ptr}
use denote.Param.Send.{IsSend, owning_send, struct_send, sendable}
use denote.Builtin.{RawPtr}
use denote.Struct.Struct.{exits_of}
use denote.Struct.Owning.{shape, fields, to}
use Rattle.std_alloc.proofs.SendSync.{quiet, lies}
use Rattle.std.proofs.Crossing as heap
use Rattle.klsm_owned.specs.declared.owned.OwnedMember.{OwnedMember}
use Rattle.klsm_owned.specs.contracts.owned.OwnedMember as owned
use Rattle.klsm_owned.proofs.owned.OwnedMember.TheSendSync.{the_send}
use Rattle.klsm_c.specs.Held.{held_owns}
use Rattle.klsm_c.specs.contracts.handle.Handle.{the_row, the_type}

keyless : (p : Ptr) (xs : List OwnedMember) → Keyless (held_owns p xs)
unfolding held_owns
keyless p [] = tt
keyless p (x ∷ xs) = (lies owned.the_row the_send p x, heap.frees.frees (record { memory = record { seal = tt } }) (raw (lone owned.the_row.mir)) p)

pub send : IsSend the_row
send = let O = the_type in let ps : IsSend RawPtr = search sendable in
    owning_send O (ps, tt) (λ d. keyless d.at d.held) (λ k. quiet (to O) (exits_of k (fields O)) ((struct_send (shape O) (ps, tt)).leaving k))
