-- Items that are put into the slot behind the blocks.
use Rattle.std.proofs.Common.{◌≡◌, ℕ, ◌+◌, ◌-◌, ◌<◌, ◌≤◌, ◌/◌, Some, drop, List, [], ◌∷◌, ◌++◌, length, get_or, take, refl, sym, ap, ◌∙◌, subst, arith, zero, suc}
use Rattle.std.specs.List.{AllByRecursion, Contains, slice_get}
use Rattle.std.proofs.lemmas.Option.{none-some, same_Some}
use Rattle.klsm_run.proofs.HalfLemmas.{ascending_take}
use Rattle.std.proofs.lemmas.List.{length-append, length-drop, length-take, take-append-le, take_all, get_or-take, get_or-append_right}
use Rattle.klsm_run.specs.declared.item.Item.{Item}
use Rattle.klsm_run.specs.Content.{IsAscending, ShareNone}
use Rattle.klsm_run.proofs.ApartLemmas.{apart_from_single}
use Rattle.klsm_lsm.specs.Level.{level}
use Rattle.klsm_lsm.specs.Lsm.{content, IsLsm}
use Rattle.klsm_lsm.specs.Limit.{limit_of, IsLevelCount}
use Rattle.klsm_lsm.specs.Adding.{add}
use Rattle.klsm_lsm.specs.Slots.{IsStored, IsSlotted}
use Rattle.klsm_lsm.proofs.FewLemmas.{few_if_not_full}
use Rattle.klsm_lsm.proofs.JoinLemmas.{is_block}
use Rattle.klsm_lsm.proofs.LevelLemmas.{level_least}
use Rattle.klsm_lsm.proofs.LimitLemmas.{stored_add}
use Rattle.klsm_lsm.proofs.StoredLemmas.{count_blocks}

abbrev Blocks : Type 0
Blocks = List (List Item)

-- an LSM that is not full has a level with no block
pub free_level : (levels room len count : ℕ) (slots : Blocks) → IsSlotted levels room len count slots → len < limit_of levels room → count < levels
free_level levels room len count slots s less =
    omega (arith, count_blocks s, few_if_not_full (levels - 1) (take count slots) s.stored.within.lawful (omega (arith, less, s.stored.counted)), s.stored.within.levels_in_range.some_level)

shorter : (n k : ℕ) (xs : Blocks) → n ≤ k → take n (take k xs) ≡ take n xs
shorter zero k xs h = refl
shorter (suc n) zero xs h = absurd (omega (arith, h))
shorter (suc n) (suc k) [] h = refl
shorter (suc n) (suc k) (x ∷ xs) h = ap (λ (l : Blocks). x ∷ l) (shorter n k xs (omega (arith, h)))

-- the blocks with one behind them
pub record IsPushed (now slots : Blocks) (count : ℕ) (b : List Item) : Type 0 where
  pub front : take count slots ≡ now
  pub last : get_or slots count [] ≡ b

pub pushed : (now slots : Blocks) (count : ℕ) (b : List Item) → length now ≡ count → take (count + 1) slots ≡ now ++ b ∷ [] → IsPushed now slots count b
pushed now slots count b many is =
    let none : count - count ≡ 0 = omega arith in
    record {
      front = sym (shorter count (count + 1) slots (omega arith)) ∙ (ap (take count) is ∙ (take-append-le count now (b ∷ []) (omega (arith, many)) ∙ take_all count now (omega (arith, many))));
      last = sym (get_or-take (count + 1) slots count [] (omega arith)) ∙ (ap (λ (bs : Blocks). get_or bs count []) is ∙ (get_or-append_right now (b ∷ []) count count [] many (omega arith) ∙ ap (λ n. get_or (b ∷ []) n []) none));
    }

all_from_none : (bs : Blocks) → AllByRecursion (λ b. 0 ≤ level b) bs
all_from_none [] = tt
all_from_none (b ∷ bs) = (omega arith, all_from_none bs)

-- one item, before it is carried up
pub record CanCarry (room : ℕ) (slots : Blocks) (count : ℕ) : Type 0 where
  pub lawful : IsLsm (take count slots)
  pub some : 0 < length (get_or slots count [])
  pub apart : ShareNone (content (take count slots)) (get_or slots count [])
  pub fits : length (content (take count slots)) + length (get_or slots count []) ≤ room
  pub above : AllByRecursion (λ b. level (get_or slots count []) ≤ level b) (take count slots)

pub can_carry : (levels room len count : ℕ) (slots once now : Blocks) (x : Item) → IsSlotted levels room len count slots → take count slots ≡ now → len < limit_of levels room → (Contains (content now) x → ⊥)
    → take (count + 1) once ≡ take count slots ++ (x ∷ []) ∷ [] → CanCarry room once count
can_carry levels room len count slots once now x s view less new is =
    let p : IsPushed (take count slots) once count (x ∷ []) = pushed (take count slots) once count (x ∷ []) (count_blocks s) is in
    let none : ShareNone (content now) (x ∷ []) = apart_from_single (content now) x new in
    let low : level (x ∷ []) ≤ 0 = level_least 1 0 (omega arith) in
    let zero_level : level (x ∷ []) ≡ 0 = omega (arith, low) in
    record {
      lawful = rw p.front s.stored.within.lawful;
      some = rw p.last (omega arith);
      apart = rw (p.front, p.last, view) none;
      fits = rw (p.front, p.last) (omega (arith, less, s.stored.counted));
      above = rw (p.front, p.last, zero_level) (all_from_none (take count slots));
    }

-- the LSM with it
pub insert_stored : (levels room len count : ℕ) (slots now : Blocks) (x : Item) → IsSlotted levels room len count slots → take count slots ≡ now → len < limit_of levels room → (Contains (content now) x → ⊥) → IsStored levels room (len + 1) (add now (x ∷ []))
insert_stored levels room len count slots now x s view less new =
    let stored : IsStored levels room len now = subst (IsStored levels room len) view s.stored in
    stored_add levels room len now (x ∷ []) stored (tt, tt) (omega arith) (apart_from_single (content now) x new) (omega (arith, less, stored.counted))

pub inserted : (levels room len count at : ℕ) (slots once new now : Blocks) (x : Item) → IsSlotted levels room len count slots → take count slots ≡ now → take (count + 1) once ≡ take count slots ++ (x ∷ []) ∷ []
    → take (at + 1) new ≡ add (take count once) (get_or once count []) → take (at + 1) new ≡ add now (x ∷ [])
inserted levels room len count at slots once new now x s view is carried =
    let p : IsPushed (take count slots) once count (x ∷ []) = pushed (take count slots) once count (x ∷ []) (count_blocks s) is in
    carried ∙ (ap (λ bs. add bs (get_or once count [])) (p.front ∙ view) ∙ ap (add now) p.last)

-- an LSM of one block
pub one_stored : (levels room : ℕ) (b : List Item) → IsLevelCount levels → IsAscending b → 0 < length b → length b ≤ limit_of levels room → IsStored levels room (length b) (b ∷ [])
one_stored levels room b range up some fits =
    let all : length (b ++ []) ≡ length b = length-append b [] ∙ omega arith in
    record {
      within = record { lawful = (is_block b up some, tt, (λ x here none. absurd (omega (arith, none.1))), tt); in_limit = omega (arith, all, fits); levels_in_range = range };
      counted = sym all;
    }

-- the first block has at most all items
pub first_items : (bs : Blocks) (b : List Item) → slice_get bs 0 ≡ Some b → length b ≤ length (content bs)
first_items [] b is = absurd (none-some b is)
first_items (c ∷ bs) b is = omega (arith, ap length (same_Some c b is), length-append c (content bs))

-- a part of a block that is not empty
pub some_behind : (items : List Item) → 0 < length items → 0 < length (drop (length items / 2) items)
some_behind items some = omega (arith, length-drop (length items / 2) items, some)

pub few_behind : (items : List Item) (limit : ℕ) → length items ≤ limit → length (drop (length items / 2) items) ≤ limit
few_behind items limit few = omega (arith, length-drop (length items / 2) items, few)

-- the only block, of which the least items are kept
pub kept_stored : (levels room len count kept : ℕ) (slots now : Blocks) → IsSlotted levels room len count slots → take count slots ≡ now → length now ≡ 1 → 0 < kept → kept ≤ length (get_or now 0 [])
    → IsStored levels room kept (take kept (get_or now 0 []) ∷ [])
kept_stored levels room len count kept slots [] s view one some few = absurd (omega (arith, one))
kept_stored levels room len count kept slots (b ∷ bs) s view one some few =
    let stored : IsStored levels room len (b ∷ bs) = subst (IsStored levels room len) view s.stored in
    let all : length (take kept b) ≡ kept = omega (arith, length-take kept b, few) in
    subst (λ n. IsStored levels room n (take kept b ∷ [])) all
    (one_stored levels room (take kept b) s.stored.within.levels_in_range (ascending_take kept b stored.within.lawful.0.0) (omega (arith, all, some)) (omega (arith, all, few, stored.within.in_limit, length-append b (content bs))))
