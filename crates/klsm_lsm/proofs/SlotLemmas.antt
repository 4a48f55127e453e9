-- Slots and the blocks in them.
use Rattle.std.proofs.Common.{◌≡◌, ℕ, ◌<◌, List, [], ◌∷◌, ◌++◌, length, get_or, remove, take, drop, Option, Some, refl, sym, ap, ◌∙◌, subst, arith, zero, suc}
use Rattle.std.specs.List.{refill}
use Rattle.std.proofs.lemmas.List.{length-map, get_or-map, take-map, drop-map, map-append, take_at}
use Rattle.klsm_run.specs.declared.item.Item.{Item}
use Rattle.klsm_run.specs.Block.{IsBlock}
use Rattle.klsm_lsm.specs.Level.{level}
use Rattle.klsm_lsm.specs.Lsm.{IsLsm}
use Rattle.klsm_lsm.specs.Slots.{block_in, blocks_in, with_block}
use Rattle.klsm_lsm.proofs.JoinLemmas.{some_in_block}

-- a block of a lawful LSM
pub block_at : (bs : List (List Item)) (i : ℕ) → IsLsm bs → i < length bs → IsBlock (level (get_or bs i [])) (get_or bs i [])
block_at [] i lsm within = absurd (omega (arith, within))
block_at (b ∷ bs) zero lsm within = lsm.0
block_at (b ∷ bs) (suc i) lsm within = block_at bs i lsm.3 (omega (arith, within))

-- no block of a lawful LSM is empty
pub some_at : (bs : List (List Item)) (i : ℕ) → IsLsm bs → i < length bs → 0 < length (get_or bs i [])
some_at bs i lsm within = some_in_block (level (get_or bs i [])) (get_or bs i []) (block_at bs i lsm within)

-- the block in a slot
pub block_in_slot : {R : Type 0} (items : R → List Item) (slots : List (Option R)) (i : ℕ) (d : Option R) → i < length slots → get_or (blocks_in items slots) i [] ≡ block_in items (get_or slots i d)
block_in_slot items slots i d within = get_or-map (block_in items) slots i d [] within

-- a slot of a lawful LSM is not empty
pub slot_holds : {R : Type 0} (items : R → List Item) (slots : List (Option R)) (i : ℕ) (slot : Option R) → IsLsm (blocks_in items slots) → i < length slots → slot ≡ get_or slots i slot → 0 < length (block_in items slot)
slot_holds {R} items slots i slot lsm within is =
    let at : get_or (blocks_in items slots) i [] ≡ block_in items slot = block_in_slot items slots i slot within ∙ ap (block_in items) (sym is) in
    subst (λ (b : List Item). 0 < length b) at (some_at (blocks_in items slots) i lsm (rw length-map within))

-- the blocks of which some stay, with one in the place of the others
pub blocks_in_with : {R : Type 0} (items : R → List Item) (slots : List (Option R)) (start end : ℕ) (run : R) → blocks_in items (take start slots ++ Some run ∷ drop end slots) ≡ with_block (blocks_in items slots) start end (items run)
blocks_in_with {R} items slots start end run =
    map-append (block_in items) (take start slots) (Some run ∷ drop end slots)
    ∙ rw (take-map (block_in items) start slots, drop-map (block_in items) end slots) refl

-- a list that is filled up from one of its own length is as it was
pub refill_same : {X : Type 0} (xs ws : List X) → length ws ≡ length xs → refill (length xs) xs ws ≡ ws
refill_same xs ws same = take_at ws (drop (length ws) xs) (length xs) same

-- the blocks without one
pub blocks_in_remove : {R : Type 0} (items : R → List Item) (slots : List (Option R)) (i : ℕ) → blocks_in items (remove slots i) ≡ remove (blocks_in items slots) i
blocks_in_remove {R} items slots i = map-append (block_in items) (take i slots) (drop (suc i) slots) ∙ rw (take-map (block_in items) i slots, drop-map (block_in items) (suc i) slots) refl
