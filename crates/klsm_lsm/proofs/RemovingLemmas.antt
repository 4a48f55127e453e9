-- The slots after items were taken out of a block.
use Rattle.std.proofs.Common.{◌≡◌, ℕ, ◌+◌, ◌-◌, ◌<◌, ◌≤◌, ◌^◌, List, [], ◌∷◌, ◌++◌, length, get_or, set, take, drop, remove, min, refl, sym, ap, ◌∙◌, subst, arith, pow-suc, zero, suc}
use Rattle.std.proofs.Math.Seq.{take-set-lt}
use Rattle.std.proofs.Math.Pow.{pow_mono}
use Rattle.std.proofs.lemmas.List.{length-append, get_or-take}
use Rattle.klsm_run.specs.declared.item.Item.{Item}
use Rattle.klsm_run.specs.Block.{HasLevel}
use Rattle.klsm_run.specs.Content.{sorted, ShareNone}
use Rattle.klsm_lsm.specs.Level.{least_level, level}
use Rattle.klsm_lsm.specs.Lsm.{content}
use Rattle.klsm_lsm.specs.Adding.{without_items, cut_items}
use Rattle.klsm_lsm.specs.Places.{JoinsNext}
use Rattle.klsm_lsm.specs.Slots.{IsStored, IsSlotted}
use Rattle.klsm_lsm.proofs.CutLemmas.{lawful_cut_items, length_cut_items}
use Rattle.klsm_lsm.proofs.FallLemmas.{cut_joins, cut_all, cut_stays}
use Rattle.klsm_lsm.proofs.LevelLemmas.{level_least, level_enough}
use Rattle.klsm_lsm.proofs.PlaceLemmas.{next_shares_none, level_next, two_within}
use Rattle.klsm_lsm.proofs.SlotLemmas.{some_at}
use Rattle.klsm_lsm.proofs.StoredLemmas.{count_blocks}

abbrev Blocks : Type 0
Blocks = List (List Item)

-- a block is in the slot of its place
pub block_in_place : {levels room len count : ℕ} {slots : Blocks} (now : Blocks) (at : ℕ) → IsSlotted levels room len count slots → take count slots ≡ now → at < length now → get_or slots at [] ≡ get_or now at []
block_in_place {levels} {room} {len} {count} {slots} now at s view within =
    let less : at < count = omega (arith, within, ap length view, count_blocks s) in
    sym (get_or-take count slots at [] less) ∙ ap (λ (bs : Blocks). get_or bs at []) view

-- blocks of which one was written to, and then the next one taken out
pub set_then_remove : (bs : Blocks) (at : ℕ) (w : List Item) → suc at < length bs → remove (set bs at w) (suc at) ≡ take at bs ++ w ∷ drop (suc (suc at)) bs
set_then_remove [] at w within = absurd (omega (arith, within))
set_then_remove (b ∷ []) zero w within = absurd (omega (arith, within))
set_then_remove (b ∷ c ∷ bs) zero w within = refl
set_then_remove (b ∷ bs) (suc at) w within = ap (λ (l : Blocks). b ∷ l) (set_then_remove bs at w (omega (arith, within)))

-- or the same one
pub remove_set : (bs : Blocks) (at : ℕ) (w : List Item) → remove (set bs at w) at ≡ remove bs at
remove_set [] zero w = refl
remove_set [] (suc at) w = refl
remove_set (b ∷ bs) zero w = refl
remove_set (b ∷ bs) (suc at) w = ap (λ (l : Blocks). b ∷ l) (remove_set bs at w)

-- there are so many items at least
pub items_at : (bs : Blocks) (at : ℕ) → length (get_or bs at []) ≤ length (content bs)
items_at [] at = omega arith
items_at (b ∷ bs) zero = omega (arith, length-append b (content bs))
items_at (b ∷ bs) (suc at) = omega (arith, items_at bs at, length-append b (content bs))

-- what the union of what is left with the next block needs
pub record CanJoin (room count : ℕ) (b c : List Item) : Type 0 where
  pub some : 0 < length c
  pub apart : ShareNone b c
  pub fits : (l : ℕ) → HasLevel l (length b) → length b - count + length c ≤ min room (2 ^ l)

level_if_has : (l n : ℕ) → HasLevel l n → least_level n ≤ l
level_if_has zero n h = let fits : n ≤ 2 ^ 0 = omega (arith, h) in level_least n 0 fits
level_if_has (suc l) n h = level_least n (suc l) h.1

pub can_join : (levels room len count : ℕ) (slots now : Blocks) (at n : ℕ) → IsSlotted levels room len count slots → take count slots ≡ now → JoinsNext now at n → CanJoin room n (get_or now at []) (get_or now (at + 1) [])
can_join levels room len count slots now at n s view joins =
    let stored : IsStored levels room len now = subst (IsStored levels room len) view s.stored in
    let next : suc at < length now = omega (arith, joins.within) in
    let one : suc at ≡ at + 1 = omega arith in
    let b : List Item = get_or now at [] in
    let c : List Item = get_or now (at + 1) [] in
    let lower : level c < level b = subst (λ n. level (get_or now n []) < level b) one (level_next now at stored.within.lawful next) in
    let fits_b : 2 ^ least_level (length b - n) ≤ 2 ^ level c = pow_mono joins.no_greater in
    let few_b : length b - n ≤ 2 ^ least_level (length b - n) = level_enough (length b - n) in
    let few_c : length c ≤ 2 ^ level c = level_enough (length c) in
    let both : length b + length c ≤ length (content now) = subst (λ n. length b + length (get_or now n []) ≤ length (content now)) one (two_within now at next) in
    record {
      some = some_at now (at + 1) stored.within.lawful joins.within;
      apart = subst (λ n. ShareNone b (get_or now n [])) one (next_shares_none now at stored.within.lawful next);
      fits = λ l has.
          let high : 2 ^ suc (level c) ≤ 2 ^ l = pow_mono (omega (arith, lower, level_if_has l (length b) has)) in
          omega (arith, few_b, fits_b, few_c, high, pow-suc 2 (level c), both, stored.within.in_limit);
    }

-- the blocks where it joined
pub joined_blocks : {levels room len count : ℕ} (slots once new now : Blocks) (at from n : ℕ) (w : List Item) → IsSlotted levels room len count slots → take count slots ≡ now → JoinsNext now at n → from + n ≤ length (get_or now at [])
    → once ≡ set slots at w → w ≡ sorted (without_items (get_or now at []) from n ++ get_or now (at + 1) []) → take (count - 1) new ≡ remove (take count once) (at + 1) → take (count - 1) new ≡ cut_items now at from n
joined_blocks {levels} {room} {len} {count} slots once new now at from n w s view joins inside once_is w_is closed =
    let next : suc at ≡ at + 1 = omega arith in
    let two : suc (suc at) ≡ at + 2 = omega arith in
    let less : at < count = omega (arith, joins.within, ap length view, count_blocks s) in
    closed ∙ (ap (λ (bs : Blocks). remove (take count bs) (at + 1)) once_is
    ∙ (ap (λ (bs : Blocks). remove bs (at + 1)) (take-set-lt count slots at w less ∙ ap (λ (bs : Blocks). set bs at w) view)
    ∙ (ap (remove (set now at w)) (sym next)
    ∙ (set_then_remove now at w (omega (arith, joins.within))
    ∙ (ap (λ n. take at now ++ w ∷ drop n now) two
    ∙ (ap (λ x. take at now ++ x ∷ drop (at + 2) now) w_is
    ∙ sym (cut_joins now at from n joins inside)))))))

-- the blocks where nothing was left
pub emptied : {levels room len count : ℕ} (slots once new now : Blocks) (at from n : ℕ) (w : List Item) → IsSlotted levels room len count slots → take count slots ≡ now → at < length now → length (get_or now at []) ≡ n
    → once ≡ set slots at w → take (count - 1) new ≡ remove (take count once) at → take (count - 1) new ≡ cut_items now at from n
emptied {levels} {room} {len} {count} slots once new now at from n w s view within all once_is closed =
    let less : at < count = omega (arith, within, ap length view, count_blocks s) in
    closed ∙ (ap (λ (bs : Blocks). remove (take count bs) at) once_is
    ∙ (ap (λ (bs : Blocks). remove bs at) (take-set-lt count slots at w less ∙ ap (λ (bs : Blocks). set bs at w) view)
    ∙ (remove_set now at w ∙ sym (cut_all now at from n within all))))

-- the blocks where what was left stays
pub stayed : {levels room len count : ℕ} (slots once now : Blocks) (at from n : ℕ) (w : List Item) → IsSlotted levels room len count slots → take count slots ≡ now → at < length now → (JoinsNext now at n → ⊥) → from + n ≤ length (get_or now at []) → (length (get_or now at []) ≡ n → ⊥)
    → once ≡ set slots at w → w ≡ without_items (get_or now at []) from n → take count once ≡ cut_items now at from n
stayed {levels} {room} {len} {count} slots once now at from n w s view within alone inside some once_is w_is =
    let less : at < count = omega (arith, within, ap length view, count_blocks s) in
    ap (take count) once_is ∙ (take-set-lt count slots at w less ∙ (ap (λ (bs : Blocks). set bs at w) view
    ∙ (ap (set now at) w_is ∙ sym (cut_stays now at from n within alone inside some))))

-- an LSM without the items is stored
pub cut_stored : {levels room len count : ℕ} {slots : Blocks} (now : Blocks) (at from n : ℕ) → IsSlotted levels room len count slots → take count slots ≡ now → at < length now → from + n ≤ length (get_or now at []) → IsStored levels room (len - n) (cut_items now at from n)
cut_stored {levels} {room} {len} now at from n s view within inside =
    let stored : IsStored levels room len now = subst (IsStored levels room len) view s.stored in
    let size = length_cut_items now at from n within inside in
    record {
      within = record { lawful = lawful_cut_items now at from n stored.within.lawful inside; in_limit = omega (arith, size, stored.within.in_limit); levels_in_range = stored.within.levels_in_range };
      counted = omega (arith, size, stored.counted);
    }
