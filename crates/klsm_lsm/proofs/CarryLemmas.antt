-- The run on its way, in the slots.
use Rattle.std.proofs.Common.{drop_of_length-le, ◌≡◌, ℕ, ◌+◌, ◌-◌, ◌<◌, ◌≤◌, List, [], ◌∷◌, ◌++◌, length, get_or, take, drop, refl, sym, ap, ◌∙◌, subst, arith, zero, suc}
use Rattle.std.proofs.Math.ListN.{set}
use Rattle.std.proofs.lemmas.List.{take_all, take_more, take-set-le, get_or-set_same, get_or-take, length-set}
use Rattle.klsm_run.specs.declared.item.Item.{Item}
use Rattle.klsm_run.specs.Content.{sorted, ShareNone}
use Rattle.klsm_lsm.specs.Level.{level}
use Rattle.klsm_lsm.specs.Lsm.{content, IsLsm}
use Rattle.klsm_lsm.specs.Adding.{add}
use Rattle.klsm_lsm.proofs.JoinLemmas.{AllBelow}
use Rattle.klsm_lsm.proofs.SlotLemmas.{some_at}
use Rattle.klsm_lsm.proofs.PlaceLemmas.{AllFrom}
use Rattle.klsm_lsm.proofs.CascadeLemmas.{IsCarried, CanMerge, carried_first, can_merge_at, carried_more_at, carried_last_at, carried_none_at}

abbrev Blocks : Type 0
Blocks = List (List Item)

-- the slots `now`, of which those before `at` are as they were, and the one at `at` has the run
pub record IsCarrying (room : ℕ) (bs now : Blocks) (at : ℕ) (result : Blocks) : Type 0 where
  pub lawful : IsLsm bs
  pub order : at ≤ length bs
  pub within : at < length now
  pub front : take at now ≡ take at bs
  pub carried : IsCarried room (take at bs) (get_or now at []) [] result

pub carrying_first : (room : ℕ) (bs now : Blocks) (last : ℕ) → length bs ≡ last → last < length now → take last now ≡ bs → IsLsm bs → 0 < length (get_or now last []) → ShareNone (content bs) (get_or now last [])
    → length (content bs) + length (get_or now last []) ≤ room → AllFrom (level (get_or now last [])) bs → IsCarrying room bs now last (add bs (get_or now last []))
carrying_first room bs now last count within is lsm some apart fits above =
    let run = get_or now last [] in
    let few : length bs ≤ last = omega (arith, count) in
    let all : take last bs ≡ bs = take_all last bs few in
    let none : drop last bs ≡ [] = drop_of_length-le bs few in
    record {
      lawful = lsm;
      order = omega (arith, count);
      within = within;
      front = is ∙ sym all;
      carried = subst (λ (ls : Blocks). IsCarried room (take last bs) (get_or now last []) ls (add bs (get_or now last []))) none
          (carried_first room bs last (get_or now last []) some apart fits (subst (AllFrom (level (get_or now last []))) (sym all) above) (subst (AllBelow (level (get_or now last []))) (sym none) tt));
    }

-- the block before the run is as it was
before_is : (bs now : Blocks) (at : ℕ) → 0 < at → take at now ≡ take at bs → get_or now (at - 1) [] ≡ get_or bs (at - 1) []
before_is bs now at some front =
    let less : at - 1 < at = omega (arith, some) in
    sym (get_or-take at now (at - 1) [] less) ∙ (ap (λ (l : Blocks). get_or l (at - 1) []) front ∙ get_or-take at bs (at - 1) [] less)

pub some_before : (room : ℕ) (bs now : Blocks) (at : ℕ) (result : Blocks) → 0 < at → IsCarrying room bs now at result → 0 < length (get_or now (at - 1) [])
some_before room bs now at result some c = rw (before_is bs now at some c.front) (some_at bs (at - 1) c.lawful (omega (arith, some, c.order)))

-- what the union with the block before needs
pub carrying_can : (room : ℕ) (bs now : Blocks) (at : ℕ) (result : Blocks) → 0 < at → IsCarrying room bs now at result → CanMerge room (get_or now (at - 1) []) (get_or now at [])
carrying_can room bs now at result some c = can_merge_at room bs at (get_or now (at - 1) []) (get_or now at []) [] result some c.order (before_is bs now at some c.front) c.carried

pub carrying_more : (room : ℕ) (bs now next : Blocks) (at : ℕ) (result : Blocks) → 0 < at → IsCarrying room bs now at result → level (get_or now (at - 1) []) ≡ level (get_or now at [])
    → next ≡ set now (at - 1) (sorted (get_or now (at - 1) [] ++ get_or now at [])) → IsCarrying room bs next (at - 1) result
carrying_more room bs now next at result some c same is =
    let whole : List Item = sorted (get_or now (at - 1) [] ++ get_or now at []) in
    let less : at - 1 < length now = omega (arith, c.within) in
    let here : get_or next (at - 1) [] ≡ whole = ap (λ (l : Blocks). get_or l (at - 1) []) is ∙ get_or-set_same now (at - 1) whole [] less in
    let count : length next ≡ length now = ap length is ∙ length-set now (at - 1) whole in
    let front : take (at - 1) next ≡ take (at - 1) now = ap (take (at - 1)) is ∙ take-set-le (at - 1) now (at - 1) whole (omega arith) in
    let before : take (at - 1) now ≡ take (at - 1) bs =
    sym (shorter (at - 1) at now (omega arith)) ∙ (ap (take (at - 1)) c.front ∙ shorter (at - 1) at bs (omega arith)) in
    record {
      lawful = c.lawful;
      order = omega (arith, c.order);
      within = omega (arith, c.within, count);
      front = front ∙ before;
      carried = carried_more_at room bs at (get_or now (at - 1) []) (get_or now at []) (get_or next (at - 1) []) [] result c.lawful some c.order (before_is bs now at some c.front) same here c.carried;
    }
  where
    shorter : (n k : ℕ) (xs : Blocks) → n ≤ k → take n (take k xs) ≡ take n xs
    shorter zero k xs h = refl
    shorter (suc n) zero xs h = absurd (omega (arith, h))
    shorter (suc n) (suc k) [] h = refl
    shorter (suc n) (suc k) (x ∷ xs) h = ap (λ (l : Blocks). x ∷ l) (shorter n k xs (omega (arith, h)))

pub carrying_last : (room : ℕ) (bs now : Blocks) (at : ℕ) (result : Blocks) → 0 < at → IsCarrying room bs now at result → (level (get_or now (at - 1) []) ≡ level (get_or now at []) → ⊥) → take (at + 1) now ≡ result
carrying_last room bs now at result some c differ =
    take_more now at [] c.within ∙ (ap (λ (l : Blocks). l ++ get_or now at [] ∷ []) c.front
    ∙ carried_last_at room bs at (get_or now (at - 1) []) (get_or now at []) [] result c.lawful some c.order (before_is bs now at some c.front) differ c.carried)

-- no block is left
pub carrying_all : (room : ℕ) (bs now : Blocks) (at : ℕ) (result : Blocks) → at ≤ 0 → IsCarrying room bs now at result → take (at + 1) now ≡ result
carrying_all room bs now at result none c =
    take_more now at [] c.within ∙ (ap (λ (l : Blocks). l ++ get_or now at [] ∷ []) c.front ∙ carried_none_at room bs at (get_or now at []) [] result none c.carried)
