-- What stays true of work.
use Rattle.std.proofs.Common.{◌≡◌, ◌+◌, ◌≤◌, List, [], ◌∷◌, ◌++◌, length, Option, Some, refl, sym, subst, ap, ◌∙◌, arith}
use Rattle.std.proofs.lemmas.List.{append-nil, length-append}
use Rattle.klsm_run.specs.declared.item.Item.{Item}
use Rattle.klsm_run.specs.Stores.{HeapState}
use Rattle.klsm_run.specs.Content.{sorted}
use Rattle.klsm_union.specs.Works.{united_items, IsWork}
use Rattle.klsm_union.proofs.UnionLemmas.{length_both}

length_owed : (united left right owed : List Item) → united ++ sorted (left ++ right) ≡ owed → length owed ≡ length united + (length left + length right)
length_owed united left right owed is = ap length (sym is) ∙ (length-append united (sorted (left ++ right)) ∙ ap (λ n. length united + n) (length_both left right))

-- after a step there is room for what is left
pub work_stepped : (both : Option HeapState) (store new : HeapState) (left right next_left next_right owed : List Item) → IsWork both left right owed → store.items ≡ united_items both → length store.items + (length left + length right) ≤ store.capacity → new.capacity ≡ store.capacity
    → new.items ++ sorted (next_left ++ next_right) ≡ store.items ++ sorted (left ++ right) → IsWork (Some new) next_left next_right owed
work_stepped both store new left right next_left next_right owed h store_is room capacity step =
    let owes : new.items ++ sorted (next_left ++ next_right) ≡ owed = step ∙ (ap (λ xs. xs ++ sorted (left ++ right)) store_is ∙ h.owes) in
    record {
      owes = owes;
      ascending = h.ascending;
      room = omega (arith, length_owed new.items next_left next_right owed owes, length_owed (united_items both) left right owed h.owes, ap length store_is, room, capacity);
    }

-- and so it is if the store was there before
pub begun_stepped : (both : Option HeapState) (store new : HeapState) (left right next_left next_right owed : List Item) → both ≡ Some store → IsWork both left right owed → new.capacity ≡ store.capacity
    → new.items ++ sorted (next_left ++ next_right) ≡ store.items ++ sorted (left ++ right) → IsWork (Some new) next_left next_right owed
begun_stepped both store new left right next_left next_right owed is h capacity step =
    let begun : IsWork (Some store) left right owed = subst (λ (both : Option HeapState). IsWork both left right owed) is h in
    work_stepped (Some store) store new left right next_left next_right owed begun refl (omega (arith, begun.room)) capacity step

-- once nothing is left, what is owed is united
pub work_done : (united left right owed : List Item) → length left + length right ≤ 0 → united ++ sorted (left ++ right) ≡ owed → united ≡ owed
work_done united [] [] owed none is = sym (append-nil united) ∙ is
work_done united [] (y ∷ right) owed none is = absurd (omega (arith, none))
work_done united (x ∷ left) right owed none is = absurd (omega (arith, none))
