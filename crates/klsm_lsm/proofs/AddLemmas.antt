-- What adding a run keeps.
use Rattle.std.proofs.Common.{◌≡◌, ℕ, ◌+◌, ◌<◌, ◌≤◌, ◌^◌, true, false, List, [], ◌∷◌, ◌++◌, length, sym, ap, ◌∙◌, arith, if◌then◌else◌, nat_lt, suc, inl, inr}
use Rattle.std.specs.List.{AllByRecursion}
use Rattle.std.proofs.lemmas.Bool.{cases_lt, lt-ltb, le-ltb}
use Rattle.std.proofs.lemmas.List.{append-nil, append_assoc, length-append}
use Rattle.klsm_run.specs.declared.item.Item.{Item}
use Rattle.klsm_run.specs.Block.{IsBlock}
use Rattle.klsm_run.specs.Content.{sorted, ShareNone}
use Rattle.klsm_run.proofs.AllLemmas.{all_weaker, all_append, all_front, all_back}
use Rattle.klsm_run.proofs.SortedLemmas.{IsNew, length_sorted}
use Rattle.klsm_run.proofs.ApartLemmas.{apart_if_sharing_none}
use Rattle.klsm_run.proofs.ContentLemmas.{sorted_swap, sorted_same_behind, sharing_none_if_apart}
use Rattle.klsm_lsm.specs.Level.{level}
use Rattle.klsm_lsm.specs.Lsm.{content, IsLsm}
use Rattle.klsm_lsm.specs.Adding.{joined, add}
use Rattle.klsm_lsm.proofs.LevelLemmas.{level_least}
use Rattle.klsm_lsm.proofs.JoinLemmas.{AllBelow, AllUpTo, sharing_none_flipped, none_in_front, none_in_back, all_joined, sorted_joined, levels_joined, lawful_joined}

-- what is true of each item of the blocks and of the run is true of each item of the result
pub all_add : (P : Item → Type 0) (bs : List (List Item)) (run : List Item) → AllByRecursion P (content bs) → AllByRecursion P run → AllByRecursion P (content (add bs run))
all_add P [] run h k = all_append P run [] k tt
all_add P (b ∷ bs) run h k = elim (nat_lt (level b) (level run)) as (λ t. AllByRecursion P (content (if t then run ∷ b ∷ bs else joined b (add bs run)))) [
  | true ↦ all_append P run (b ++ content bs) k h
  | false ↦ all_joined P b (add bs run) (all_front P b (content bs) h) (all_add P bs run (all_back P b (content bs) h) k)
]

-- adding a run adds its items to the content
pub sorted_add : (bs : List (List Item)) (run : List Item) → sorted (content (add bs run)) ≡ sorted (content bs ++ run)
sorted_add [] run = ap sorted (append-nil run)
sorted_add (b ∷ bs) run = elim (nat_lt (level b) (level run)) as (λ t. sorted (content (if t then run ∷ b ∷ bs else joined b (add bs run))) ≡ sorted ((b ++ content bs) ++ run)) [
  | true ↦ sorted_swap run (b ++ content bs)
  | false ↦ sorted_joined b (add bs run) ∙ (sorted_same_behind b (content (add bs run)) (content bs ++ run) (sorted_add bs run) ∙ ap sorted (sym (append_assoc b (content bs) run)))
]

pub length_add : (bs : List (List Item)) (run : List Item) → length (content (add bs run)) ≡ length (content bs) + length run
length_add bs run = sym (length_sorted (content (add bs run))) ∙ (ap length (sorted_add bs run) ∙ (length_sorted (content bs ++ run) ∙ length-append (content bs) run))

-- blocks of a level below k and a run of level k at most
record IsAdded (k : ℕ) (blocks : List (List Item)) : Type 0 where
  lawful : IsLsm blocks
  levels : AllUpTo k blocks

added : (k : ℕ) (bs : List (List Item)) (run : List Item) → IsLsm bs → AllBelow k bs → IsBlock (level run) run → level run ≤ k → ShareNone (content bs) run → IsAdded k (add bs run)
added k [] run lsm below block at_most none = record { lawful = (block, tt, (λ x in_run in_none. absurd (omega (arith, in_none.1))), tt); levels = (at_most, tt) }
added k (b ∷ bs) run lsm below block at_most none = elim (cases_lt (level b) (level run)) [
  | inl less ↦ rw (lt-ltb (level b) (level run) less) record {
    lawful = (block, (less, all_weaker (λ c. level c < level b) (λ c. level c < level run) (λ c h. omega (arith, h, less)) bs lsm.1), sharing_none_flipped (b ++ content bs) run none, lsm);
    levels = (at_most, all_weaker (λ c. level c < k) (λ c. level c ≤ k) (λ c h. omega (arith, h)) (b ∷ bs) below);
  }
  | inr more ↦
      let none_flipped : ShareNone run (b ++ content bs) = sharing_none_flipped (b ++ content bs) run none in
      let rest : IsAdded (level b) (add bs run) = added (level b) bs run lsm.3 lsm.1 block more (sharing_none_flipped run (content bs) (none_in_back run b (content bs) none_flipped)) in
      let apart : ShareNone (content (add bs run)) b = sharing_none_if_apart (content (add bs run)) b (all_add (λ x. IsNew x b) bs run
      (apart_if_sharing_none (content bs) b (sharing_none_flipped b (content bs) lsm.2))
      (apart_if_sharing_none run b (none_in_front run b (content bs) none_flipped))) in
      rw (le-ltb (level b) (level run) more) record {
        lawful = lawful_joined b (add bs run) lsm.0 rest.lawful (sharing_none_flipped (content (add bs run)) b apart);
        levels = levels_joined k b (add bs run) (omega (arith, below.0)) (all_weaker (λ c. level c ≤ level b) (λ c. level c < k) (λ c h. omega (arith, h, below.0)) (add bs run) rest.levels);
      }
]

-- a number above all levels
pub above_all : (bs : List (List Item)) → IsLsm bs → (k : ℕ) × AllBelow k bs
above_all [] lsm = (0, tt)
above_all (b ∷ bs) lsm = (suc (level b), (omega arith, all_weaker (λ c. level c < level b) (λ c. level c < suc (level b)) (λ c h. omega (arith, h)) bs lsm.1))

-- adding a run that shares no item keeps an LSM lawful
pub lawful_add : (bs : List (List Item)) (run : List Item) → IsLsm bs → IsBlock (level run) run → ShareNone (content bs) run → IsLsm (add bs run)
lawful_add bs run lsm block none =
    let bound = above_all bs lsm in
    (added (bound.0 + level run) bs run lsm (all_weaker (λ c. level c < bound.0) (λ c. level c < bound.0 + level run) (λ c h. omega (arith, h)) bs bound.1) block (omega arith) none).lawful

-- blocks of levels below k are at most k
pub length_below : (k : ℕ) (bs : List (List Item)) → IsLsm bs → AllBelow k bs → length bs ≤ k
length_below k [] lsm below = omega arith
length_below k (b ∷ bs) lsm below = omega (arith, length_below (level b) bs lsm.3 lsm.1, below.0)

-- a lawful LSM of at most 2^m items has at most m + 1 blocks
pub length_lsm : (m : ℕ) (bs : List (List Item)) → IsLsm bs → length (content bs) ≤ 2 ^ m → length bs ≤ suc m
length_lsm m [] lsm fits = omega arith
length_lsm m (b ∷ bs) lsm fits =
    let top : level b ≤ m = level_least (length b) m (omega (arith, fits, length-append b (content bs))) in
    omega (arith, length_below (level b) bs lsm.3 lsm.1, top)
