-- What a handle has that has one member.
use Rattle.std.proofs.Common.{◌≡◌, List, [], ◌∷◌, length, arith, refl}
use Rattle.klsm_owned.specs.declared.owned.OwnedMember.{OwnedMember}

pub one : (xs : List OwnedMember) → length xs ≡ 1 → (x : OwnedMember) × (xs ≡ x ∷ [])
one [] e = let no : ⊥ = omega arith in absurd no
one (x ∷ []) e = (x, refl)
one (x ∷ y ∷ xs) e = let no : ⊥ = omega arith in absurd no
