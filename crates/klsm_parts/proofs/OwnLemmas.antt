-- An own part after an item was put in or taken out.
use Rattle.std.proofs.Common.{◌≡◌, ℕ, ◌+◌, ◌<◌, ◌≤◌, List, [], ◌∷◌, ◌++◌, length, get_or, drop, Option, Some, None, sym, ap, ◌∙◌, arith}
use Rattle.std.specs.List.{Contains, slice_get}
use Rattle.std.proofs.lemmas.List.{length-append}
use Rattle.std.proofs.lemmas.List.Elements.{Contains-append_right}
use Rattle.std.proofs.lemmas.Option.{none-some}
use Rattle.klsm_run.specs.declared.item.Item.{Item}
use Rattle.klsm_run.specs.declared.limits.TheConstants.{MOST_K, OWN_LEVELS}
use Rattle.klsm_run.specs.Content.{placed, sorted}
use Rattle.klsm_run.proofs.ContentLemmas.{sorted_swap, sorted_itself, sorted_same_behind}
use Rattle.klsm_run.proofs.IndexLemmas.{at_index}
use Rattle.klsm_run.proofs.SortedLemmas.{length_sorted}
use Rattle.klsm_lsm.specs.Level.{level}
use Rattle.klsm_lsm.specs.Lsm.{content, IsLsm}
use Rattle.klsm_lsm.specs.Limit.{limit_of}
use Rattle.klsm_lsm.specs.Adding.{add, cut}
use Rattle.klsm_lsm.proofs.JoinLemmas.{some_in_block}
use Rattle.klsm_lsm.proofs.AddLemmas.{length_add, sorted_add}
use Rattle.klsm_lsm.proofs.CutLemmas.{length_cut}
use Rattle.klsm_parts.specs.declared.places.Place.{Place}
use Rattle.klsm_parts.specs.LeastPlaces.{IsLeastPlace}
use Rattle.klsm_parts.specs.Parts.{HasLeastFirst, IsOwn}

-- there is an item of each rank below the number of items
pub some_ranked : (n : ℕ) (bs : List (List Item)) → n < length (content bs) → (x : Item) × (slice_get (sorted (content bs)) n ≡ Some x)
some_ranked n bs more = at_index (sorted (content bs)) n (rw (length_sorted (content bs)) more)

-- one run holds all items of an own part, and so has its LSM room for them
pub has_room : (capacity count : ℕ) → count < capacity → capacity ≤ MOST_K → count < limit_of OWN_LEVELS capacity
has_room capacity count less few = omega arith

-- no block was found
pub none_found : (bs : List (List Item)) (at : ℕ) → None ≡ Some at → HasLeastFirst bs at
none_found bs at bad = absurd (none-some at bad)

-- the first item of the block that has the least one stands in its place
pub place_if_block : (bs : List (List Item)) (at : ℕ) (place : Place) → place.block ≡ at → place.index ≡ 0 → slice_get (get_or bs at []) 0 ≡ Some place.item → HasLeastFirst bs at → IsLeastPlace bs (Some place)
place_if_block bs at place block index item least =
    let here : slice_get (get_or bs place.block []) place.index ≡ Some place.item = rw (block, index) item in
    record { item = sym item ∙ least.first; place = (rw block least.inside, here); first = index }

pub own_added : (capacity k : ℕ) (old bs : List (List Item)) (x : Item) (found next : Option ℕ) → IsOwn capacity (record { k = k; blocks = old }) found → length (content bs) < k
    → ((at : ℕ) → next ≡ Some at → HasLeastFirst (add bs (x ∷ [])) at) → IsOwn capacity (record { k = k; blocks = add bs (x ∷ []) }) next
own_added capacity k old bs x found next own room next_is = record {
  few = omega (arith, length_add bs (x ∷ []), room);
  k_in_range = own.k_in_range;
  capacity_in_range = own.capacity_in_range;
  found_is = next_is;
}

pub own_absorbed : (capacity k : ℕ) (bs after : List (List Item)) (items : List Item) (found next : Option ℕ) → IsOwn capacity (record { k = k; blocks = bs }) found → sorted (content after) ≡ sorted (content bs ++ items) → length (content bs) + length items ≤ k
    → ((at : ℕ) → next ≡ Some at → HasLeastFirst after at) → IsOwn capacity (record { k = k; blocks = after }) next
own_absorbed capacity k bs after items found next own is room next_is = record {
  few = omega (arith, length_sorted (content after), ap length is, length_sorted (content bs ++ items), length-append (content bs) items, room);
  k_in_range = own.k_in_range;
  capacity_in_range = own.capacity_in_range;
  found_is = next_is;
}

-- the items then
pub absorbed_is : (bs after : List (List Item)) (items : List Item) → sorted (content after) ≡ sorted (content bs ++ items) → sorted (content after) ≡ sorted (items ++ sorted (content bs))
absorbed_is bs after items is = is ∙ (sorted_swap (content bs) items ∙ sorted_same_behind items (content bs) (sorted (content bs)) (sym (sorted_itself (content bs))))

pub own_cut : (capacity k : ℕ) (bs : List (List Item)) (at index : ℕ) (x : Item) (found next : Option ℕ) → IsOwn capacity (record { k = k; blocks = bs }) found → slice_get (get_or bs at []) index ≡ Some x
    → ((next_at : ℕ) → next ≡ Some next_at → HasLeastFirst (cut bs at index) next_at) → IsOwn capacity (record { k = k; blocks = cut bs at index }) next
own_cut capacity k bs at index x found next own here next_is = record {
  few = omega (arith, length_cut bs at index x here, own.few);
  k_in_range = own.k_in_range;
  capacity_in_range = own.capacity_in_range;
  found_is = next_is;
}

-- an item that was put in is among the others
pub put_is : (bs : List (List Item)) (x : Item) → sorted (content (add bs (x ∷ []))) ≡ placed x (sorted (sorted (content bs)))
put_is bs x = sorted_add bs (x ∷ []) ∙ (sorted_swap (content bs) (x ∷ []) ∙ ap (placed x) (sym (sorted_itself (content bs))))

-- without the largest block there are fewer items
pub fewer_without_largest : (bs : List (List Item)) → IsLsm bs → 0 < length (content bs) → length (content (drop 1 bs)) < length (content bs)
fewer_without_largest [] lsm some = absurd (omega (arith, some))
fewer_without_largest (b ∷ bs) lsm some = omega (arith, length-append b (content bs), some_in_block (level b) b lsm.0)

pub absent_without_largest : (bs : List (List Item)) (x : Item) → (Contains (content bs) x → ⊥) → Contains (content (drop 1 bs)) x → ⊥
absent_without_largest [] x new within = new within
absent_without_largest (b ∷ bs) x new within = new (Contains-append_right b (content bs) x within)

-- where there is a block there is an item
pub some_if_block : (bs : List (List Item)) → IsLsm bs → 0 < length bs → 0 < length (content bs)
some_if_block [] lsm some = absurd (omega (arith, some))
some_if_block (b ∷ bs) lsm some = omega (arith, length-append b (content bs), some_in_block (level b) b lsm.0)
