-- What a handle and a slot end as, once the loan of their member has ended.
use Rattle.std.specs.Prelude.{◌≡◌, [], ◌∷◌, Option, OnSome}
use Rattle.std.specs.Borrow.{Fml, MutBor, Lends, LendsSo}
use Rattle.klsm_owned.specs.declared.owned.OwnedMember.{OwnedMember}
use Rattle.klsm_owned.specs.contracts.owned.OwnedMember as owned
use Rattle.klsm_c.specs.declared.handle.Handle.{Handle}
use Rattle.klsm_c.specs.contracts.handle.Handle as handle
use Rattle.klsm_c.specs.declared.slot.Slot.{Slot}
use Rattle.klsm_c.specs.contracts.slot.Slot as slot

-- the same pointer, with this member behind it
abbrev pub with_member : Handle → OwnedMember → Handle
with_member h x = record { at = h.at; held = x ∷ [] }

-- a handle ends with the member as the loan leaves it
abbrev pub LendsMember : MutBor Handle → MutBor OwnedMember → Fml
LendsMember h loan = Lends handle.the_row owned.the_row h loan (with_member h.now)

-- so does a slot that has one, and one that has none ends as it was
abbrev pub LendsFromSlot : MutBor Slot → Option (MutBor OwnedMember) → Fml
LendsFromSlot s loan = LendsSo slot.the_row owned.the_row s loan
    (λ after x. OnSome loan (after.handle.held ≡ x ∷ [])) (λ after. after.handle.held ≡ s.now.handle.held)
