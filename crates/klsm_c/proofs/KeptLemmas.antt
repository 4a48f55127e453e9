-- A call of one slot keeps the members of a queue those of one board.
use Rattle.std.proofs.Common.{◌≡◌, ◌≤◌, ℕ, zero, suc, slice_set, List, [], ◌∷◌, ◌++◌, length, map, refl, sym, ap, ◌∙◌, arith}
use Rattle.std.specs.Prelude.{ℤ}
use Rattle.std.proofs.lemmas.List.{length-map}
use mathlib.Core.Option.{some, some-injective, some-ne-none}
use lib.ListN.{get_elem?}
use Rattle.atomic_table.specs.Seated.{TableId}
use Rattle.klsm_run.specs.declared.limits.TheConstants.{MOST_K, MOST_LEVELS}
use Rattle.klsm_board.specs.declared.board.Member.{Member}
use Rattle.klsm_board.specs.declared.sizes.Sizes.{Sizes}
use Rattle.klsm_board.proofs.lemmas.ending.MemberLemmas.{stands_mapped}
use Rattle.klsm_owned.specs.declared.owned.OwnedMember.{OwnedMember}
use Rattle.klsm_owned.specs.Owned.{IsSameOwned, AreAllOfTheirBoard, member_of, members_of}
use Rattle.klsm_owned.proofs.ListLemmas.{unmapped}
use Rattle.klsm_c.specs.declared.bounding.PlainBound.{PlainBound}
use Rattle.klsm_c.specs.declared.item.PlainItem.{PlainItem}
use Rattle.klsm_c.specs.declared.slot.Slot.{Slot}
use Rattle.klsm_c.specs.Calls.{BoundsBySlot, DeletesAloneBySlot, DeletesBySlot, InsertsBySlot, LooksAt, RestsBySlot, SharesBySlot}
use Rattle.klsm_c.specs.Slots.{owned_in}
use Rattle.klsm_c.proofs.ListLemmas.{map_behind}

-- what tells the member of a board: its number, its board and the sizes
abbrev Face : Type 0
Face = ℕ × (TableId × Sizes)

abbrev face : Member MOST_K MOST_LEVELS → Face
face m = (m.number, (m.seat.table_id, m.sizes))

abbrev faces : List OwnedMember → List Face
faces xs = map face (members_of xs)

-- members that cannot be told from all those of a board are all those of one
whole_by_faces : (ms ns : List (Member MOST_K MOST_LEVELS)) → map face ns ≡ map face ms → AreAllOfTheirBoard ms → AreAllOfTheirBoard ns
whole_by_faces ms ns same whole i a there board of =
    let x = twin i a there in
    let are = whole i x.0 x.1 board (ap (λ f. f.1.0) x.2 ∙ of.0, ap (λ f. f.1.1) x.2 ∙ of.1) in
    record {
      of = λ j b other. let y = twin j b other in let its = are.of j y.0 y.1 in (ap (λ f. f.1.0) (sym y.2) ∙ its.0, ap (λ f. f.1.1) (sym y.2) ∙ its.1);
      many = sym (length-map ns face) ∙ (ap length same ∙ (length-map ms face ∙ are.many));
      numbered = λ j b other. let y = twin j b other in ap (λ f. f.0) (sym y.2) ∙ are.numbered j y.0 y.1;
    }
  where
    twin : (i : ℕ) (a : Member MOST_K MOST_LEVELS) → get_elem? ns i ≡ some a → (x : Member MOST_K MOST_LEVELS) × (get_elem? ms i ≡ some x) × (face x ≡ face a)
    twin i a there = unmapped face ms i (face a) (ap (λ fs. get_elem? fs i) (sym same) ∙ stands_mapped face ns i a there)

same_face : (x y : OwnedMember) → IsSameOwned x y → face (member_of y) ≡ face (member_of x)
same_face x y is = λ i. (is.member.0 i, (is.member.2 i, is.member.1 i))

-- the slot has the same member after a call, or none before and after
abbrev pub IsKept : List OwnedMember → List OwnedMember → Type 0
IsKept [] new = new ≡ []
IsKept (x ∷ xs) new = (y : OwnedMember) × (new ≡ y ∷ []) × IsSameOwned x y

pub kept_by_insert : (old new : List OwnedMember) (key load : ℕ) (code : ℤ) → InsertsBySlot old new key load code → IsKept old new
kept_by_insert [] new key load code told = told.1
kept_by_insert (x ∷ xs) new key load code told = (told.0, told.1, told.2)

pub kept_by_delete : (old new : List OwnedMember) (item item' : PlainItem) (code : ℤ) → DeletesBySlot old new item item' code → IsKept old new
kept_by_delete [] new item item' code told = told.1
kept_by_delete (x ∷ xs) new item item' code told = (told.0, told.1, told.2)

pub kept_by_delete_alone : (old new : List OwnedMember) (item item' : PlainItem) (code : ℤ) → DeletesAloneBySlot old new item item' code → IsKept old new
kept_by_delete_alone [] new item item' code told = told.1
kept_by_delete_alone (x ∷ xs) new item item' code told = (told.0, told.1, told.2)

pub kept_by_share : (old new : List OwnedMember) (moved moved' : ℕ) (code : ℤ) → SharesBySlot old new moved moved' code → IsKept old new
kept_by_share [] new moved moved' code told = told.1
kept_by_share (x ∷ xs) new moved moved' code told = (told.0, told.1, told.2)

pub kept_by_bound : (old new : List OwnedMember) (bound bound' : PlainBound) (code : ℤ) → BoundsBySlot old new bound bound' code → IsKept old new
kept_by_bound [] new bound bound' code told = told.1
kept_by_bound (x ∷ xs) new bound bound' code told = (told.0, told.1, told.2)

pub kept_by_rest : (old new : List OwnedMember) (code : ℤ) → RestsBySlot old new code → IsKept old new
kept_by_rest [] new code told = told.1
kept_by_rest (x ∷ xs) new code told = (told.0, told.1, told.2)

pub kept_by_look : (old new : List OwnedMember) (front : ℕ) → LooksAt old new front → IsKept old new
kept_by_look [] new front told = told.1
kept_by_look (x ∷ xs) new front told = (told.0, told.1, told.2)

pub kept_by_count : (old new : List OwnedMember) → length old ≤ 1 → new ≡ old → IsKept old new
kept_by_count [] new few same = same
kept_by_count (x ∷ []) new few same = (x, same, record { member = (refl, refl, refl); board = refl })
kept_by_count (x ∷ y ∷ ys) new few same = absurd (omega (arith, few))

kept_faces : (xs ys : List OwnedMember) → length xs ≤ 1 → IsKept xs ys → faces ys ≡ faces xs
kept_faces [] ys few kept = ap faces kept
kept_faces (x ∷ []) ys few kept = ap faces kept.1 ∙ ap (λ f. f ∷ []) (same_face x kept.0 kept.2)
kept_faces (x ∷ z ∷ zs) ys few kept = absurd (omega (arith, few))

faces_behind : (xs ys : List OwnedMember) → faces (xs ++ ys) ≡ faces xs ++ faces ys
faces_behind xs ys = ap (map face) (map_behind member_of xs ys) ∙ map_behind face (members_of xs) (members_of ys)

faces_set : (slots : List Slot) (n : ℕ) (before after : Slot) → get_elem? slots n ≡ some before → faces after.handle.held ≡ faces before.handle.held
    → faces (owned_in (slice_set slots n after)) ≡ faces (owned_in slots)
faces_set [] n before after there same = absurd (some-ne-none before (sym there))
faces_set (s ∷ ss) zero before after there same =
    faces_behind after.handle.held (owned_in ss)
    ∙ (ap (λ fs. fs ++ faces (owned_in ss)) (same ∙ ap (λ (z : Slot). faces z.handle.held) (sym (some-injective s before there)))
    ∙ sym (faces_behind s.handle.held (owned_in ss)))
faces_set (s ∷ ss) (suc n) before after there same =
    faces_behind s.handle.held (owned_in (slice_set ss n after))
    ∙ (ap (λ fs. faces s.handle.held ++ fs) (faces_set ss n before after there same) ∙ sym (faces_behind s.handle.held (owned_in ss)))

pub members_kept : (slots : List Slot) (n : ℕ) (before after : Slot) → get_elem? slots n ≡ some before → IsKept before.handle.held after.handle.held
    → AreAllOfTheirBoard (members_of (owned_in slots)) → AreAllOfTheirBoard (members_of (owned_in (slice_set slots n after)))
members_kept slots n before after there kept whole =
    let few : length before.handle.held ≤ 1 = omega (arith, before.single, before.fits) in
    whole_by_faces (members_of (owned_in slots)) (members_of (owned_in (slice_set slots n after)))
    (faces_set slots n before after there (kept_faces before.handle.held after.handle.held few kept)) whole
