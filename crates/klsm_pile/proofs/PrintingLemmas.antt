-- The search for the items of a level comes to an end.
use Rattle.std.proofs.Common.{◌≡◌, ◌+◌, ◌<◌, ◌≤◌, Bool, true, false, List, [], ◌∷◌, ◌++◌, length, Option, Some, None, refl, sym, ap, ◌∙◌, arith}
use Rattle.std.specs.List.{AllByRecursion}
use Rattle.std.specs.Ordering.{is_lt}
use Rattle.std.proofs.lemmas.List.{length-append}
use Rattle.klsm_run.specs.declared.item.Item.{Item}
use Rattle.klsm_run.specs.ItemOrder.{is_smaller}
use Rattle.klsm_run.specs.Content.{sorted}
use Rattle.klsm_run.proofs.AllLemmas.{all_weaker}
use Rattle.klsm_run.proofs.ContentLemmas.{not_smaller_itself}
use Rattle.klsm_run.proofs.IndexLemmas.{at_each}
use Rattle.klsm_run.proofs.OrderLemmas.{smaller_trans}
use Rattle.klsm_run.proofs.SortedLemmas.{all_sorted}
use Rattle.klsm_pile.specs.Pieces.{counted}
use Rattle.klsm_pile.specs.Seeking.{is_over, items_over, least_over}
use Rattle.klsm_pile.proofs.BelowLemmas.{smaller_if}

over_trans : (bound : Option Item) (y z : Item) → is_over bound y ≡ true → is_smaller y z ≡ true → is_over bound z ≡ true
over_trans None y z over less = refl
over_trans (Some x) y z over less = ap is_lt (smaller_trans x y z (smaller_if x y over) (smaller_if y z less))

-- one item is over no more of two bounds
one_fewer : (bound : Option Item) (y z : Item) → is_over bound y ≡ true → length (counted (is_over (Some y) z) (z ∷ [])) ≤ length (counted (is_over bound z) (z ∷ []))
one_fewer bound y z over = by (is_smaller y z) refl where
  by : (b : Bool) → is_smaller y z ≡ b → length (counted b (z ∷ [])) ≤ length (counted (is_over bound z) (z ∷ []))
  by true less = omega (arith, ap (λ b. length (counted b (z ∷ []))) (over_trans bound y z over less))
  by false less = omega arith

over_length : (bound : Option Item) (z : Item) (zs : List Item) → length (items_over bound (z ∷ zs)) ≡ length (counted (is_over bound z) (z ∷ [])) + length (items_over bound zs)
over_length bound z zs = length-append (counted (is_over bound z) (z ∷ [])) (items_over bound zs)

no_more_over : (bound : Option Item) (y : Item) (zs : List Item) → is_over bound y ≡ true → length (items_over (Some y) zs) ≤ length (items_over bound zs)
no_more_over bound y [] over = omega arith
no_more_over bound y (z ∷ zs) over = omega (arith, over_length (Some y) z zs, over_length bound z zs, one_fewer bound y z over, no_more_over bound y zs over)

-- an item over the bound, over which are fewer items
record IsNext (bound : Option Item) (zs : List Item) (y : Item) : Type 0 where
  over : is_over bound y ≡ true
  fewer : length (items_over (Some y) zs) < length (items_over bound zs)

next_first : (bound : Option Item) (z : Item) (zs : List Item) → is_over bound z ≡ true → IsNext bound (z ∷ zs) z
next_first bound z zs over = record {
  over = over;
  fewer = omega (
    arith,
    over_length (Some z) z zs,
    over_length bound z zs,
    ap (λ b. length (counted b (z ∷ []))) (not_smaller_itself z z refl),
    ap (λ b. length (counted b (z ∷ []))) over,
    no_more_over bound z zs over,
  );
}

next_behind : (bound : Option Item) (z : Item) (zs : List Item) (y : Item) → IsNext bound zs y → IsNext bound (z ∷ zs) y
next_behind bound z zs y next = record {
  over = next.over;
  fewer = omega (arith, over_length (Some y) z zs, over_length bound z zs, one_fewer bound y z next.over, next.fewer);
}

all_next : (bound : Option Item) (zs : List Item) → AllByRecursion (IsNext bound zs) (items_over bound zs)
all_next bound [] = tt
all_next bound (z ∷ zs) = by (is_over bound z) refl (all_weaker (IsNext bound zs) (IsNext bound (z ∷ zs)) (next_behind bound z zs) (items_over bound zs) (all_next bound zs)) where
  by : (b : Bool) → is_over bound z ≡ b → AllByRecursion (IsNext bound (z ∷ zs)) (items_over bound zs) → AllByRecursion (IsNext bound (z ∷ zs)) (counted b (z ∷ []) ++ items_over bound zs)
  by true over later = (next_first bound z zs over, later)
  by false over later = later

-- fewer items are over the least one that is over the bound
pub fewer_over : (bound : Option Item) (zs : List Item) (found : Option Item) (x : Item) → found ≡ least_over bound zs → found ≡ Some x → length (items_over (Some x) zs) < length (items_over bound zs)
fewer_over bound zs found x found_is is = (at_each (IsNext bound zs) (sorted (items_over bound zs)) 0 x (all_sorted (IsNext bound zs) (items_over bound zs) (all_next bound zs)) (sym found_is ∙ is)).fewer
