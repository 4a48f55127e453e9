-- The items of an LSM by index, block after block.
use Rattle.std.proofs.Common.{◌≡◌, ℕ, ◌+◌, ◌-◌, ◌<◌, ◌≤◌, List, [], ◌∷◌, ◌++◌, length, drop, Some, None, refl, sym, ap, ◌∙◌, arith, zero, suc}
use Rattle.std.specs.List.{slice_get}
use Rattle.std.proofs.lemmas.Option.{none-some, get_or_from_slice_get}
use Rattle.klsm_run.specs.declared.item.Item.{Item}
use Rattle.klsm_run.proofs.IndexLemmas.{at_index}
use Rattle.klsm_lsm.specs.Lsm.{content}

in_front : (xs ys : List Item) (i : ℕ) → i < length xs → slice_get (xs ++ ys) i ≡ slice_get xs i
in_front [] ys i within = absurd (omega (arith, within))
in_front (x ∷ xs) ys zero within = refl
in_front (x ∷ xs) ys (suc i) within = in_front xs ys i (omega (arith, within))

behind : (xs ys : List Item) (i : ℕ) → length xs ≤ i → slice_get (xs ++ ys) i ≡ slice_get ys (i - length xs)
behind [] ys i past = let same : i ≡ i - 0 = omega arith in ap (slice_get ys) same
behind (x ∷ xs) ys zero past = absurd (omega (arith, past))
behind (x ∷ xs) ys (suc i) past = let same : i - length xs ≡ suc i - suc (length xs) = omega arith in behind xs ys i (omega (arith, past)) ∙ ap (slice_get ys) same

-- an item of the first of the blocks to come
pub item_here : (bs : List (List Item)) (at left : ℕ) (b : List Item) → slice_get bs at ≡ Some b → left < length b → slice_get (content (drop at bs)) left ≡ slice_get b left
item_here [] at left b found within = absurd (none-some b found)
item_here (c ∷ cs) zero left b found within =
    let same : c ≡ b = get_or_from_slice_get (c ∷ cs) 0 b [] found in
    rw same (in_front b (content cs) left within)
item_here (c ∷ cs) (suc at) left b found within = item_here cs at left b found within

-- an item of the others
pub item_past : (bs : List (List Item)) (at left : ℕ) (b : List Item) → slice_get bs at ≡ Some b → length b ≤ left → slice_get (content (drop at bs)) left ≡ slice_get (content (drop (at + 1) bs)) (left - length b)
item_past [] at left b found past = absurd (none-some b found)
item_past (c ∷ cs) zero left b found past =
    let same : c ≡ b = get_or_from_slice_get (c ∷ cs) 0 b [] found in
    rw same (behind b (content cs) left past)
item_past (c ∷ cs) (suc at) left b found past = let next : suc at + 1 ≡ suc (at + 1) = omega arith in rw next (item_past cs at left b found past)

no_item : (bs : List (List Item)) (at left : ℕ) → length bs ≤ at → slice_get (content (drop at bs)) left ≡ None
no_item [] zero left past = refl
no_item [] (suc at) left past = refl
no_item (c ∷ cs) zero left past = absurd (omega (arith, past))
no_item (c ∷ cs) (suc at) left past = no_item cs at left (omega (arith, past))

-- past the last block there is none
pub never_past : (bs : List (List Item)) (at left index : ℕ) → length bs ≤ at → index < length (content bs) → slice_get (content (drop at bs)) left ≡ slice_get (content bs) index → ⊥
never_past bs at left index past within same =
    let item = at_index (content bs) index within in
    none-some item.0 (sym (no_item bs at left past) ∙ (same ∙ item.1))
