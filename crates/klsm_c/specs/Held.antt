-- What a handle owns: nothing where it is empty, else the block of its member.
use Rattle.std.specs.Prelude.{List, [], ◌∷◌}
use base.Fml.{Fml, ftrue}
use denote.RawPtr.{Ptr}
use Rattle.klsm_owned.specs.declared.owned.OwnedMember.{OwnedMember}
use Rattle.klsm_owned.specs.contracts.owned.OwnedMember.{the_row}
use Rattle.std_heap.specs.contracts.GlobalAllocator.TheImpl.{ghosts}
use Rattle.std_alloc.specs.Box.Ownership.{box_owns}

unfoldable pub held_owns : Ptr → List OwnedMember → Fml
held_owns p [] = ftrue
held_owns p (x ∷ _) = box_owns (ghosts.dealloc_token (record { memory = record { seal = tt } })) the_row p x
