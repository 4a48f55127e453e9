-- A block that is joined to the blocks after it: what stays true of all items, the content, the levels, and that the blocks are lawful.
use Rattle.std.proofs.Common.{◌≡◌, ℕ, ◌+◌, ◌<◌, ◌≤◌, ◌^◌, true, false, List, [], ◌∷◌, ◌++◌, length, nat_lt, refl, ap, ◌∙◌, subst, arith, pow-suc, if◌then◌else◌, zero, suc, inl, inr}
use Rattle.std.specs.List.{AllByRecursion, Contains}
use Rattle.std.proofs.Math.Pow.{pow_mono}
use Rattle.std.proofs.lemmas.Bool.{cases_lt, lt-ltb, le-ltb}
use Rattle.std.proofs.lemmas.List.Elements.{Contains-append_left, Contains-append_right}
use Rattle.std.proofs.lemmas.List.{append_assoc, length-append}
use Rattle.klsm_run.specs.declared.item.Item.{Item}
use Rattle.klsm_run.specs.Block.{IsBlock}
use Rattle.klsm_run.specs.Content.{sorted, ShareNone, IsAscending}
use Rattle.klsm_run.proofs.AllLemmas.{all_weaker, all_append, all_front, all_back}
use Rattle.klsm_run.proofs.SortedLemmas.{IsNew, all_sorted, length_sorted}
use Rattle.klsm_run.proofs.ApartLemmas.{AreApart, apart_if_sharing_none, ascending_sorted}
use Rattle.klsm_run.proofs.ContainsLemmas.{contains_unsorted}
use Rattle.klsm_run.proofs.ContentLemmas.{sorted_sorted, sharing_none_if_apart}
use Rattle.klsm_lsm.specs.Level.{least_level, level}
use Rattle.klsm_lsm.specs.Lsm.{content, IsLsm}
use Rattle.klsm_lsm.specs.Adding.{joined}
use Rattle.klsm_lsm.proofs.LevelLemmas.{has_level, level_sum, level_enough, level_least, level_mono}

-- each block is of a level below k
abbrev pub AllBelow : ℕ → List (List Item) → Type 0
AllBelow k = AllByRecursion (λ c. level c < k)

-- each block is of level k at most
abbrev pub AllUpTo : ℕ → List (List Item) → Type 0
AllUpTo k = AllByRecursion (λ c. level c ≤ k)

-- a block is not empty
pub some_in_block : (l : ℕ) (b : List Item) → IsBlock l b → 0 < length b
some_in_block zero b block = omega (arith, block.1)
some_in_block (suc l) b block = omega (arith, block.1.0)

-- an ascending list that is not empty is a block of its level
pub is_block : (b : List Item) → IsAscending b → 0 < length b → IsBlock (level b) b
is_block b up some = (up, has_level (length b) some)

-- no item shared, the other way round
pub sharing_none_flipped : (xs ys : List Item) → ShareNone xs ys → ShareNone ys xs
sharing_none_flipped xs ys none x in_ys in_xs = none x in_xs in_ys

-- nor with a list in its order
pub sharing_none_sorted : (xs ys run : List Item) → ShareNone xs ys → run ≡ sorted ys → ShareNone xs run
sharing_none_sorted xs ys run none is x in_xs in_run = none x in_xs (contains_unsorted x ys (subst (λ zs. Contains zs x) is in_run))

-- what shares no item with two lists together shares none with each
pub none_in_front : (xs ys zs : List Item) → ShareNone xs (ys ++ zs) → ShareNone xs ys
none_in_front xs ys zs none x in_xs in_ys = none x in_xs (Contains-append_left ys zs x in_ys)

pub none_in_back : (xs ys zs : List Item) → ShareNone xs (ys ++ zs) → ShareNone xs zs
none_in_back xs ys zs none x in_xs in_zs = none x in_xs (Contains-append_right ys zs x in_zs)

pub none_of_first : (xs ys zs : List Item) → ShareNone (xs ++ ys) zs → ShareNone xs zs
none_of_first xs ys zs none x within = none x (Contains-append_left xs ys x within)

-- what is true of each item of the block and of the others is true of each item of the result
pub all_joined : (P : Item → Type 0) (b : List Item) (bs : List (List Item)) → AllByRecursion P b → AllByRecursion P (content bs) → AllByRecursion P (content (joined b bs))
all_joined P b [] h k = all_append P b [] h tt
all_joined P b (c ∷ cs) h k = elim (nat_lt (level c) (level b)) as (λ t. AllByRecursion P (content (if t then b ∷ c ∷ cs else sorted (b ++ c) ∷ cs))) [
  | true ↦ all_append P b (c ++ content cs) h k
  | false ↦ all_append P (sorted (b ++ c)) (content cs) (all_sorted P (b ++ c) (all_append P b c h (all_front P c (content cs) k))) (all_back P c (content cs) k)
]

-- joining keeps the content
pub sorted_joined : (b : List Item) (bs : List (List Item)) → sorted (content (joined b bs)) ≡ sorted (b ++ content bs)
sorted_joined b [] = refl
sorted_joined b (c ∷ cs) = elim (nat_lt (level c) (level b)) as (λ t. sorted (content (if t then b ∷ c ∷ cs else sorted (b ++ c) ∷ cs)) ≡ sorted (b ++ (c ++ content cs))) [
  | true ↦ refl
  | false ↦ sorted_sorted (b ++ c) (content cs) ∙ ap sorted (append_assoc b c (content cs))
]

-- the level of two blocks of one level together
pub level_together : (b c : List Item) → 0 < length b → 0 < length c → level b ≡ level c → level (sorted (b ++ c)) ≡ suc (level c)
level_together b c some_b some_c same = ap least_level (length_sorted (b ++ c) ∙ length-append b c) ∙ level_sum (length b) (length c) some_b some_c same

-- the level of two blocks together, where the second is of no lesser one
level_of_both : (b c : List Item) → level b ≤ level c → level (sorted (b ++ c)) ≤ suc (level c)
level_of_both b c order =
    let fits : 2 ^ level b ≤ 2 ^ level c = pow_mono order in
    level_least (length (sorted (b ++ c))) (suc (level c)) (omega (arith, length_sorted (b ++ c), length-append b c, level_enough (length b), level_enough (length c), fits, pow-suc 2 (level c)))

-- a joined block and those after it are of level k at most
pub levels_joined : (k : ℕ) (b : List Item) (bs : List (List Item)) → level b ≤ k → AllBelow k bs → AllUpTo k (joined b bs)
levels_joined k b [] at_most below = (at_most, tt)
levels_joined k b (c ∷ cs) at_most below =
    let rest : AllUpTo k cs = all_weaker (λ d. level d < k) (λ d. level d ≤ k) (λ d less. omega (arith, less)) cs below.1 in
    elim (cases_lt (level c) (level b)) [
      | inl less ↦ rw (lt-ltb (level c) (level b) less) (at_most, (omega (arith, below.0), rest))
      | inr order ↦ rw (le-ltb (level c) (level b) order) (omega (arith, level_of_both b c order, below.0), rest)
    ]

-- a block before lawful ones, with no item in both, is joined to a lawful LSM
pub lawful_joined : (b : List Item) (bs : List (List Item)) → IsBlock (level b) b → IsLsm bs → ShareNone b (content bs) → IsLsm (joined b bs)
lawful_joined b [] block lsm none = (block, tt, none, tt)
lawful_joined b (c ∷ cs) block lsm none = elim (cases_lt (level c) (level b)) [
  | inl less ↦ rw (lt-ltb (level c) (level b) less) (block, (less, all_weaker (λ d. level d < level c) (λ d. level d < level b) (λ d h. omega (arith, h, less)) cs lsm.1), none, lsm)
  | inr order ↦
      let w = sorted (b ++ c) in
      let size : length w ≡ length b + length c = length_sorted (b ++ c) ∙ length-append b c in
      let at_least : level c ≤ level w = level_mono (length c) (length w) (omega (arith, size)) in
      let apart : AreApart (b ++ c) (content cs) = all_append (λ x. IsNew x (content cs)) b c (apart_if_sharing_none b (content cs) (none_in_back b c (content cs) none)) (apart_if_sharing_none c (content cs) lsm.2) in
      rw (le-ltb (level c) (level b) order) (
        is_block w (ascending_sorted b c block.0 lsm.0.0 (apart_if_sharing_none b c (none_in_front b c (content cs) none))) (omega (arith, size, some_in_block (level b) b block)),
        all_weaker (λ d. level d < level c) (λ d. level d < level w) (λ d h. omega (arith, h, at_least)) cs lsm.1,
        sharing_none_if_apart w (content cs) (all_sorted (λ x. IsNew x (content cs)) (b ++ c) apart),
        lsm.3,
      )
]
