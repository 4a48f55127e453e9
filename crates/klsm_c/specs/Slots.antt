-- What the slots of a queue have.
use Rattle.std.specs.Prelude.{◌≡◌, nat_lt, Bool, All, List, [], ◌∷◌, ◌++◌, length, map}
use Rattle.std.specs.List.{list_any}
use Rattle.klsm_owned.specs.declared.owned.OwnedMember.{OwnedMember}
use Rattle.klsm_c.specs.declared.slot.Slot.{Slot}

-- what each slot has: no member or one
abbrev pub held_in : List Slot → List (List OwnedMember)
held_in slots = map (λ slot. slot.handle.held) slots

abbrev pub one_after_another : List (List OwnedMember) → List OwnedMember
one_after_another [] = []
one_after_another (xs ∷ xss) = xs ++ one_after_another xss

-- the members in some slots, in order
abbrev pub owned_in : List Slot → List OwnedMember
owned_in slots = one_after_another (held_in slots)

-- what a slot has that holds one
abbrev pub alone : OwnedMember → List OwnedMember
alone x = x ∷ []

-- whether a slot has a member, and whether some have
abbrev pub is_open : Slot → Bool
is_open slot = nat_lt 0 (length slot.handle.held)

abbrev pub some_open : List Slot → Bool
some_open slots = list_any is_open slots

-- none has
abbrev pub AreClosed : List Slot → Type 0
AreClosed slots = All (λ slot. slot.handle.held ≡ []) slots
