-- What a call tells, by the member that the slot lent.
use Rattle.std.proofs.Common.{◌≡◌, ℕ, List, [], ◌∷◌, Result, Option, refl, sym, subst}
use Rattle.std.specs.Prelude.{ℤ, pos}
use Rattle.klsm_run.specs.declared.item.Item.{Item}
use Rattle.klsm_run.specs.declared.item.Stamp.{Stamp}
use Rattle.klsm_board.specs.declared.bounding.Bound.{Bound}
use Rattle.klsm_board.specs.declared.errors.Busy.{Busy}
use Rattle.klsm_board.specs.declared.errors.TryInsertError.{TryInsertError}
use Rattle.klsm_board.specs.declared.errors.TryShareError.{TryShareError}
use Rattle.klsm_c.specs.declared.bounding.PlainBound.{PlainBound}
use Rattle.klsm_c.specs.declared.item.PlainItem.{PlainItem}
use Rattle.klsm_owned.specs.declared.owned.OwnedMember.{OwnedMember}
use Rattle.klsm_owned.specs.Owned.{IsSameOwned}
use Rattle.klsm_owned.specs.Trying.{LooksAtFront, TriesBound, TriesInsert, TriesDelete, TriesDeleteAlone, TriesRest, TriesShare}
use Rattle.klsm_c.specs.Calls.{InsertsBySlot, DeletesBySlot, DeletesAloneBySlot, SharesBySlot, BoundsBySlot, RestsBySlot, LooksAt, insert_code, delete_code, share_code, bound_code, rest_code, written, count_written, bound_written}

pub inserts_told : (old new : List OwnedMember) (x y : OwnedMember) (key load : ℕ) (code : ℤ) (answer : Result Stamp TryInsertError)
    → old ≡ x ∷ [] → new ≡ y ∷ [] → IsSameOwned x y → TriesInsert x y key load answer → code ≡ insert_code answer
    → InsertsBySlot old new key load code
inserts_told old new x y key load code answer was is same tries code_is =
    subst (λ (xs : List OwnedMember). InsertsBySlot xs new key load code) (sym was) (y, is, same, answer, code_is, tries)

pub inserts_none : (old new : List OwnedMember) (key load : ℕ) → old ≡ [] → new ≡ [] → InsertsBySlot old new key load (pos 6)
inserts_none old new key load was is = subst (λ (xs : List OwnedMember). InsertsBySlot xs new key load (pos 6)) (sym was) (refl, is)

pub deletes_told : (old new : List OwnedMember) (x y : OwnedMember) (item item' : PlainItem) (code : ℤ) (answer : Result (Option Item) Busy)
    → old ≡ x ∷ [] → new ≡ y ∷ [] → IsSameOwned x y → TriesDelete x y answer → code ≡ delete_code answer → item' ≡ written item answer
    → DeletesBySlot old new item item' code
deletes_told old new x y item item' code answer was is same tries code_is written_is =
    subst (λ (xs : List OwnedMember). DeletesBySlot xs new item item' code) (sym was) (y, is, same, answer, code_is, written_is, tries)

pub deletes_none : (old new : List OwnedMember) (item : PlainItem) → old ≡ [] → new ≡ [] → DeletesBySlot old new item item (pos 6)
deletes_none old new item was is = subst (λ (xs : List OwnedMember). DeletesBySlot xs new item item (pos 6)) (sym was) (refl, is, refl)

pub deletes_alone_told : (old new : List OwnedMember) (x y : OwnedMember) (item item' : PlainItem) (code : ℤ) (answer : Result (Option Item) Busy)
    → old ≡ x ∷ [] → new ≡ y ∷ [] → IsSameOwned x y → TriesDeleteAlone x y answer → code ≡ delete_code answer → item' ≡ written item answer
    → DeletesAloneBySlot old new item item' code
deletes_alone_told old new x y item item' code answer was is same tries code_is written_is =
    subst (λ (xs : List OwnedMember). DeletesAloneBySlot xs new item item' code) (sym was) (y, is, same, answer, code_is, written_is, tries)

pub shares_told : (old new : List OwnedMember) (x y : OwnedMember) (moved moved' : ℕ) (code : ℤ) (answer : Result ℕ TryShareError)
    → old ≡ x ∷ [] → new ≡ y ∷ [] → IsSameOwned x y → TriesShare x y answer → code ≡ share_code answer → moved' ≡ count_written moved answer
    → SharesBySlot old new moved moved' code
shares_told old new x y moved moved' code answer was is same tries code_is written_is =
    subst (λ (xs : List OwnedMember). SharesBySlot xs new moved moved' code) (sym was) (y, is, same, answer, code_is, written_is, tries)

pub bounds_told : (old new : List OwnedMember) (x y : OwnedMember) (bound bound' : PlainBound) (code : ℤ) (answer : Result Bound Busy)
    → old ≡ x ∷ [] → new ≡ y ∷ [] → IsSameOwned x y → TriesBound x y answer → code ≡ bound_code answer → bound' ≡ bound_written bound answer
    → BoundsBySlot old new bound bound' code
bounds_told old new x y bound bound' code answer was is same tries code_is written_is =
    subst (λ (xs : List OwnedMember). BoundsBySlot xs new bound bound' code) (sym was) (y, is, same, answer, code_is, written_is, tries)

pub rests_told : (old new : List OwnedMember) (x y : OwnedMember) (code : ℤ) (answer : Result Unit Busy)
    → old ≡ x ∷ [] → new ≡ y ∷ [] → IsSameOwned x y → TriesRest x y answer → code ≡ rest_code answer
    → RestsBySlot old new code
rests_told old new x y code answer was is same tries code_is =
    subst (λ (xs : List OwnedMember). RestsBySlot xs new code) (sym was) (y, is, same, answer, code_is, tries)

pub looks_told : (old new : List OwnedMember) (x y : OwnedMember) (front : ℕ) → old ≡ x ∷ [] → new ≡ y ∷ [] → IsSameOwned x y → LooksAtFront x y front → LooksAt old new front
looks_told old new x y front was is same looks = subst (λ (xs : List OwnedMember). LooksAt xs new front) (sym was) (y, is, same, looks)
