-- What cutting items out of a block keeps.
use Rattle.std.proofs.Common.{◌≡◌, ℕ, ◌+◌, ◌-◌, ◌<◌, ◌≤◌, true, false, List, [], ◌∷◌, ◌++◌, length, take, drop, get_or, sym, ap, ◌∙◌, subst, arith, if◌then◌else◌, eqb, zero, suc, inl, inr, Some}
use Rattle.std.specs.List.{AllByRecursion, slice_get}
use Rattle.std.proofs.lemmas.Bool.{cases_eq, eq-eqb, ne_eqb}
use Rattle.std.proofs.lemmas.List.{append_assoc, length-append, length-drop, length-take-le, take_all, take-append-drop, drop-drop}
use Rattle.std.proofs.lemmas.Option.{slice_get_within, none-some, same_Some}
use Rattle.klsm_run.specs.declared.item.Item.{Item}
use Rattle.klsm_run.specs.Block.{IsBlock}
use Rattle.klsm_run.specs.ItemOrder.{IsSmaller}
use Rattle.klsm_run.specs.Content.{sorted, ShareNone, IsAscending}
use Rattle.klsm_run.proofs.AllLemmas.{all_weaker, all_append, all_front, all_back}
use Rattle.klsm_run.proofs.SortedLemmas.{IsNew, length_sorted}
use Rattle.klsm_run.proofs.ApartLemmas.{AreApart, apart_if_sharing_none}
use Rattle.klsm_run.proofs.ContentLemmas.{sorted_swap, sorted_same_behind, sharing_none_if_apart}
use Rattle.klsm_run.proofs.HalfLemmas.{ascending_drop}
use Rattle.klsm_lsm.specs.Level.{level}
use Rattle.klsm_lsm.specs.Lsm.{content, IsLsm}
use Rattle.klsm_lsm.specs.Adding.{joined, without_items, cut_items, cut}
use Rattle.klsm_lsm.proofs.LevelLemmas.{level_mono}
use Rattle.klsm_lsm.proofs.JoinLemmas.{AllBelow, is_block, sharing_none_flipped, all_joined, sorted_joined, levels_joined, lawful_joined}
use Rattle.klsm_lsm.proofs.AddLemmas.{above_all}

-- the length of a run without some items
pub length_without : (b : List Item) (from count : ℕ) → from + count ≤ length b → length (without_items b from count) ≡ length b - count
length_without b from count within =
    omega (arith, length-append (take from b) (drop (from + count) b), length-take-le from b (omega (arith, within)), length-drop (from + count) b, within)

-- what is true of each item is true of each that is left
pub all_without : (P : Item → Type 0) (b : List Item) (from n : ℕ) → AllByRecursion P b → AllByRecursion P (take from b ++ drop n b)
all_without P b from n h =
    all_append P (take from b) (drop n b) (all_front P (take from b) (drop from b) (subst (AllByRecursion P) (sym (take-append-drop from b)) h)) (all_back P (take n b) (drop n b) (subst (AllByRecursion P) (sym (take-append-drop n b)) h))

-- what shares no item with others
pub none_of_rest : (b zs : List Item) (from n : ℕ) → ShareNone b zs → ShareNone (take from b ++ drop n b) zs
none_of_rest b zs from n none = sharing_none_if_apart (take from b ++ drop n b) zs (all_without (λ x. IsNew x zs) b from n (apart_if_sharing_none b zs none))

ascending_without : (b : List Item) (from n : ℕ) → from ≤ n → IsAscending b → IsAscending (take from b ++ drop n b)
ascending_without b zero n order up = ascending_drop n b up
ascending_without b (suc from) zero order up = absurd (omega (arith, order))
ascending_without [] (suc from) (suc n) order up = tt
ascending_without (x ∷ b) (suc from) (suc n) order up = (all_without (IsSmaller x) b from n up.0, ascending_without b from n (omega (arith, order)) up.1)

pub all_cut_items : (P : Item → Type 0) (bs : List (List Item)) (at from count : ℕ) → AllByRecursion P (content bs) → AllByRecursion P (content (cut_items bs at from count))
all_cut_items P [] at from count h = tt
all_cut_items P (b ∷ bs) zero from count h = elim (eqb (length b) count) as (λ t. AllByRecursion P (content (if t then bs else joined (without_items b from count) bs))) [
  | true ↦ all_back P b (content bs) h
  | false ↦ all_joined P (without_items b from count) bs (all_without P b from (from + count) (all_front P b (content bs) h)) (all_back P b (content bs) h)
]
all_cut_items P (b ∷ bs) (suc at) from count h =
    all_append P b (content (cut_items bs at from count)) (all_front P b (content bs) h) (all_cut_items P bs at from count (all_back P b (content bs) h))

-- two lists before a third may change places
pub sorted_swap_before : (xs ys zs : List Item) → sorted (xs ++ (ys ++ zs)) ≡ sorted (ys ++ (xs ++ zs))
sorted_swap_before xs ys zs =
    sorted_swap xs (ys ++ zs) ∙ (ap sorted (append_assoc ys zs xs) ∙ sorted_same_behind ys (zs ++ xs) (xs ++ zs) (sorted_swap zs xs))

-- items that are taken out of a list, and what is left before another list
sorted_out_front : (b zs : List Item) (from count : ℕ) → sorted (take count (drop from b) ++ (without_items b from count ++ zs)) ≡ sorted (b ++ zs)
sorted_out_front b zs from count =
    let gone = take count (drop from b) in let front = take from b in let back = drop (from + count) b in
    let whole : front ++ (gone ++ back) ≡ b = ap (λ ws. front ++ (gone ++ ws)) (sym (drop-drop count from b)) ∙ (ap (λ ws. front ++ ws) (take-append-drop count (drop from b)) ∙ take-append-drop from b) in
    ap (λ ws. sorted (gone ++ ws)) (append_assoc front back zs)
    ∙ (sorted_swap_before gone front (back ++ zs)
    ∙ ap sorted (ap (λ ws. front ++ ws) (sym (append_assoc gone back zs)) ∙ (sym (append_assoc front (gone ++ back) zs) ∙ ap (λ ws. ws ++ zs) whole)))

-- the content with the items that were cut out
pub sorted_cut_items : (bs : List (List Item)) (at from count : ℕ) → at < length bs → from + count ≤ length (get_or bs at []) → sorted (take count (drop from (get_or bs at [])) ++ content (cut_items bs at from count)) ≡ sorted (content bs)
sorted_cut_items [] at from count here within = absurd (omega (arith, here))
sorted_cut_items (b ∷ bs) zero from count here within = elim (cases_eq (length b) count) [
  | inl all ↦
      let first : from ≡ 0 = omega (arith, within, all) in
      rw (eq-eqb (length b) count all) (ap (λ ws. sorted (ws ++ content bs)) (ap (λ n. take count (drop n b)) first ∙ take_all count b (omega (arith, all))))
  | inr some ↦
      let left = without_items b from count in
      rw (ne_eqb (length b) count some) (sorted_same_behind (take count (drop from b)) (content (joined left bs)) (left ++ content bs) (sorted_joined left bs) ∙ sorted_out_front b (content bs) from count)
]
sorted_cut_items (b ∷ bs) (suc at) from count here within =
    let gone = take count (drop from (get_or bs at [])) in let rest = content (cut_items bs at from count) in
    sorted_swap_before gone b rest ∙ sorted_same_behind b (gone ++ rest) (content bs) (sorted_cut_items bs at from count (omega (arith, here)) within)

-- a block with some items less, which is not empty
record IsLess (b rest : List Item) : Type 0 where
  block : IsBlock (level rest) rest
  no_greater : level rest ≤ level b

less_block : (b : List Item) (from count : ℕ) → IsBlock (level b) b → from + count ≤ length b → (length b ≡ count → ⊥) → IsLess b (without_items b from count)
less_block b from count block within some =
    let left = without_items b from count in
    let size = length_without b from count within in
    record {
      block = is_block left (ascending_without b from (from + count) (omega arith) block.0) (omega (arith, size, within, some));
      no_greater = level_mono (length left) (length b) (omega (arith, size));
    }

-- blocks without some items, and a number above all their levels
record IsCutBelow (k : ℕ) (blocks : List (List Item)) : Type 0 where
  lawful : IsLsm blocks
  levels : AllBelow k blocks

cut_below : (k : ℕ) (bs : List (List Item)) (at from count : ℕ) → IsLsm bs → AllBelow k bs → from + count ≤ length (get_or bs at []) → IsCutBelow k (cut_items bs at from count)
cut_below k [] at from count lsm below within = record { lawful = tt; levels = tt }
cut_below k (b ∷ bs) zero from count lsm below within = elim (cases_eq (length b) count) [
  | inl all ↦ rw (eq-eqb (length b) count all) record { lawful = lsm.3; levels = below.1 }
  | inr some ↦
      let left = without_items b from count in
      let rest = less_block b from count lsm.0 within some in
      rw (ne_eqb (length b) count some) record {
        lawful = lawful_joined left bs rest.block lsm.3 (none_of_rest b (content bs) from (from + count) lsm.2);
        levels = all_weaker (λ c. level c ≤ level b) (λ c. level c < k) (λ c h. omega (arith, h, below.0)) (joined left bs) (levels_joined (level b) left bs rest.no_greater lsm.1);
      }
]
cut_below k (b ∷ bs) (suc at) from count lsm below within =
    let after = cut_items bs at from count in
    let rest : IsCutBelow (level b) after = cut_below (level b) bs at from count lsm.3 lsm.1 within in
    let apart : AreApart (content after) b = all_cut_items (λ x. IsNew x b) bs at from count (apart_if_sharing_none (content bs) b (sharing_none_flipped b (content bs) lsm.2)) in
    record {
      lawful = (lsm.0, rest.levels, sharing_none_flipped (content after) b (sharing_none_if_apart (content after) b apart), rest.lawful);
      levels = (below.0, all_weaker (λ c. level c < level b) (λ c. level c < k) (λ c h. omega (arith, h, below.0)) after rest.levels);
    }

-- cutting items keeps an LSM lawful
pub lawful_cut_items : (bs : List (List Item)) (at from count : ℕ) → IsLsm bs → from + count ≤ length (get_or bs at []) → IsLsm (cut_items bs at from count)
lawful_cut_items bs at from count lsm within = let bound = above_all bs lsm in (cut_below bound.0 bs at from count lsm bound.1 within).lawful

-- so many items less
pub length_cut_items : (bs : List (List Item)) (at from count : ℕ) → at < length bs → from + count ≤ length (get_or bs at []) → length (content (cut_items bs at from count)) + count ≡ length (content bs)
length_cut_items bs at from count here within =
    let gone = take count (drop from (get_or bs at [])) in let after = content (cut_items bs at from count) in
    let size : length gone ≡ count = length-take-le count (drop from (get_or bs at [])) (omega (arith, length-drop from (get_or bs at []), within)) in
    omega (arith, ap length (sorted_cut_items bs at from count here within), length_sorted (gone ++ after), length_sorted (content bs), length-append gone after, size)

-- the same of one item
pub all_cut : (P : Item → Type 0) (bs : List (List Item)) (at index : ℕ) → AllByRecursion P (content bs) → AllByRecursion P (content (cut bs at index))
all_cut P bs at index h = all_cut_items P bs at index 1 h

pub lawful_cut : (bs : List (List Item)) (at index : ℕ) → IsLsm bs → index < length (get_or bs at []) → IsLsm (cut bs at index)
lawful_cut bs at index lsm within = lawful_cut_items bs at index 1 lsm (omega (arith, within))

-- a block with an item is there
pub block_there : (bs : List (List Item)) (at index : ℕ) → index < length (get_or bs at []) → at < length bs
block_there [] at index within = absurd (omega (arith, within))
block_there (b ∷ bs) zero index within = omega arith
block_there (b ∷ bs) (suc at) index within = omega (arith, block_there bs at index within)

-- an item of a list, as the part that it is
pub part_of_one : (b : List Item) (index : ℕ) (item : Item) → slice_get b index ≡ Some item → take 1 (drop index b) ≡ item ∷ []
part_of_one [] index item found = absurd (none-some item found)
part_of_one (x ∷ b) zero item found = ap (λ y. y ∷ []) (same_Some x item found)
part_of_one (x ∷ b) (suc index) item found = part_of_one b index item found

pub sorted_cut : (bs : List (List Item)) (at index : ℕ) (item : Item) → slice_get (get_or bs at []) index ≡ Some item → sorted (item ∷ content (cut bs at index)) ≡ sorted (content bs)
sorted_cut bs at index item found =
    let within = slice_get_within (get_or bs at []) index item found in
    ap (λ gone. sorted (gone ++ content (cut bs at index))) (sym (part_of_one (get_or bs at []) index item found)) ∙ sorted_cut_items bs at index 1 (block_there bs at index within) (omega (arith, within))

pub length_cut : (bs : List (List Item)) (at index : ℕ) (item : Item) → slice_get (get_or bs at []) index ≡ Some item → suc (length (content (cut bs at index))) ≡ length (content bs)
length_cut bs at index item found =
    let within = slice_get_within (get_or bs at []) index item found in
    omega (arith, length_cut_items bs at index 1 (block_there bs at index within) (omega (arith, within)))
