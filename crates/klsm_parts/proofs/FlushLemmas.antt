-- A full own part before and after a flush.
use Rattle.std.proofs.Common.{◌≡◌, ℕ, ◌<◌, ◌≤◌, List, [], ◌∷◌, length, get_or, refl, sym, ap, subst, arith, zero, suc}
use Rattle.std.proofs.lemmas.Option.{get_or_from_slice_get}
use Rattle.std.proofs.lemmas.List.{length-append}
use Rattle.std.specs.List.{Contains}
use Rattle.std.proofs.lemmas.List.Elements.{Contains-append_left}
use Rattle.klsm_run.specs.declared.item.Item.{Item}
use Rattle.klsm_run.specs.Content.{sorted, ShareNone}
use Rattle.klsm_lsm.specs.Level.{level}
use Rattle.klsm_lsm.specs.Lsm.{content, IsLsm}
use Rattle.klsm_lsm.proofs.JoinLemmas.{some_in_block}
use Rattle.klsm_parts.specs.Events.{MayFlush, own_after_flush}
use Rattle.klsm_parts.specs.Flushing.{moved, kept, IsLargest}
use Rattle.klsm_parts.proofs.EventLemmas.{flush_block, flush_item, no_items}

-- what a flush does to the contents, whether a block moves or the item itself
pub flush_takes_effect : (k : ℕ) (bs : List (List Item)) (x : Item) → IsLsm bs → length (content bs) ≡ k
    → MayFlush k (sorted (content bs)) x (moved bs x) × (sorted (content (kept bs x)) ≡ own_after_flush (sorted (content bs)) x (moved bs x))
flush_takes_effect k [] x lsm full = subst (λ n. MayFlush n [] x (x ∷ []) × ([] ≡ own_after_flush [] x (x ∷ []))) full (flush_item x)
flush_takes_effect k (b ∷ bs) x lsm full =
    let few : length (content (b ∷ bs)) ≤ k = omega (arith, full) in
    flush_block k b bs x lsm few

-- at least one item moves
pub some_move : (bs : List (List Item)) (x : Item) → IsLsm bs → 0 < length (moved bs x)
some_move [] x lsm = omega arith
some_move (b ∷ bs) x lsm = some_in_block (level b) b lsm.0

pub moved_none : (bs : List (List Item)) (x : Item) → IsLsm bs → length (content bs) ≡ 0 → moved bs x ≡ x ∷ []
moved_none bs x lsm none = rw (no_items bs lsm none) refl

pub moved_some : (bs : List (List Item)) (x : Item) → (length (content bs) ≡ 0 → ⊥) → moved bs x ≡ get_or bs 0 []
moved_some [] x some = absurd (some refl)
moved_some (b ∷ bs) x some = refl

-- and is a part of the content
pub first_few : (bs : List (List Item)) → length (get_or bs 0 []) ≤ length (content bs)
first_few [] = omega arith
first_few (b ∷ bs) = omega (arith, length-append b (content bs))

-- the first block shares nothing with a content that the blocks share nothing with
pub block_apart : (bs : List (List Item)) (c : List Item) → ShareNone (content bs) c → ShareNone c (get_or bs 0 [])
block_apart [] c apart x in_c in_none = absurd (omega (arith, in_none.1))
block_apart (b ∷ bs) c apart x in_c in_b = apart x (Contains-append_left b (content bs) x in_b) in_c

-- the largest block is what moves
pub moved_largest : (run : List Item) (bs : List (List Item)) (x : Item) → IsLsm bs → IsLargest run bs → run ≡ moved bs x
moved_largest run [] x lsm is = absurd (omega (arith, is.1, ap length (get_or_from_slice_get [] 0 run [] is.0)))
moved_largest run (b ∷ bs) x lsm is = sym (get_or_from_slice_get (b ∷ bs) 0 run [] is.0)

-- and shares nothing with a content that the blocks share nothing with
pub largest_apart : (run : List Item) (bs : List (List Item)) (c : List Item) → IsLargest run bs → ShareNone (content bs) c → ShareNone c run
largest_apart run bs c is apart = subst (ShareNone c) (get_or_from_slice_get bs 0 run [] is.0) (block_apart bs c apart)

pub some_block : (bs : List (List Item)) → (length (content bs) ≡ 0 → ⊥) → 0 < length bs
some_block [] some = absurd (some refl)
some_block (b ∷ bs) some = omega arith

-- an item that is new to a content shares nothing with it
pub one_apart : (c : List Item) (x : Item) → (Contains c x → ⊥) → ShareNone c (x ∷ [])
one_apart c x new y in_c (zero, within, same) = new (subst (Contains c) (sym same) in_c)
one_apart c x new y in_c (suc k, within, same) = absurd (omega (arith, within))

-- where there was no block, there is none
pub kept_none : (bs : List (List Item)) (x : Item) → length bs ≡ 0 → bs ≡ kept bs x
kept_none [] x none = refl
kept_none (b ∷ bs) x none = absurd (omega (arith, none))
