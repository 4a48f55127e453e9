-- Where a level stands among the blocks of an LSM.
use Rattle.std.proofs.Common.{◌≡◌, ℕ, ◌+◌, ◌-◌, ◌<◌, ◌≤◌, List, [], ◌∷◌, ◌++◌, length, get_or, take, drop, subst, arith, zero, suc}
use Rattle.std.specs.List.{AllByRecursion}
use Rattle.std.proofs.lemmas.List.{drop_more, length-append}
use Rattle.klsm_run.specs.declared.item.Item.{Item}
use Rattle.klsm_run.specs.Content.{ShareNone}
use Rattle.klsm_lsm.specs.Level.{level}
use Rattle.klsm_lsm.specs.Lsm.{content, IsLsm}
use Rattle.klsm_lsm.proofs.JoinLemmas.{AllBelow, none_in_front}

-- each block is of level k at least
abbrev pub AllFrom : ℕ → List (List Item) → Type 0
AllFrom k = AllByRecursion (λ c. k ≤ level c)

-- one more block of a lesser level
pub below_more : (bs : List (List Item)) (place k : ℕ) → 0 < place → place ≤ length bs → level (get_or bs (place - 1) []) < k → AllBelow k (drop place bs) → AllBelow k (drop (place - 1) bs)
below_more bs place k some within less below =
    let next : place - 1 + 1 ≡ place = omega arith in
    rw (drop_more bs (place - 1) [] (omega arith), next) (less, below)

above_up_to : (bs : List (List Item)) (i k : ℕ) → IsLsm bs → i < length bs → k ≤ level (get_or bs i []) → AllFrom k (take (suc i) bs)
above_up_to [] i k lsm within more = tt
above_up_to (b ∷ bs) zero k lsm within more = (more, tt)
above_up_to (b ∷ bs) (suc i) k lsm within more =
    let first : level (get_or bs i []) < level b = below_at bs i (level b) (omega (arith, within)) lsm.1 in
    (omega (arith, more, first), above_up_to bs i k lsm.3 (omega (arith, within)) more)
  where
    below_at : (cs : List (List Item)) (j m : ℕ) → j < length cs → AllBelow m cs → level (get_or cs j []) < m
    below_at [] j m inside below = absurd (omega (arith, inside))
    below_at (c ∷ cs) zero m inside below = below.0
    below_at (c ∷ cs) (suc j) m inside below = below_at cs j m (omega (arith, inside)) below.1

-- the blocks up to one of at least this level
pub above_all_before : (bs : List (List Item)) (place k : ℕ) → IsLsm bs → 0 < place → place ≤ length bs → k ≤ level (get_or bs (place - 1) []) → AllFrom k (take place bs)
above_all_before bs place k lsm some within more =
    let next : suc (place - 1) ≡ place = omega arith in
    subst (λ n. AllFrom k (take n bs)) next (above_up_to bs (place - 1) k lsm (omega arith) more)

-- the next block is of a lesser level
pub level_next : (bs : List (List Item)) (i : ℕ) → IsLsm bs → suc i < length bs → level (get_or bs (suc i) []) < level (get_or bs i [])
level_next [] i lsm within = absurd (omega (arith, within))
level_next (b ∷ []) i lsm within = absurd (omega (arith, within))
level_next (b ∷ c ∷ cs) zero lsm within = lsm.1.0
level_next (b ∷ c ∷ cs) (suc i) lsm within = level_next (c ∷ cs) i lsm.3 (omega (arith, within))

-- two blocks share no item
pub next_shares_none : (bs : List (List Item)) (i : ℕ) → IsLsm bs → suc i < length bs → ShareNone (get_or bs i []) (get_or bs (suc i) [])
next_shares_none [] i lsm within = absurd (omega (arith, within))
next_shares_none (b ∷ []) i lsm within = absurd (omega (arith, within))
next_shares_none (b ∷ c ∷ cs) zero lsm within = none_in_front b c (content cs) lsm.2
next_shares_none (b ∷ c ∷ cs) (suc i) lsm within = next_shares_none (c ∷ cs) i lsm.3 (omega (arith, within))

-- two blocks hold no more than all
pub two_within : (bs : List (List Item)) (i : ℕ) → suc i < length bs → length (get_or bs i []) + length (get_or bs (suc i) []) ≤ length (content bs)
two_within [] i within = absurd (omega (arith, within))
two_within (b ∷ []) i within = absurd (omega (arith, within))
two_within (b ∷ c ∷ cs) zero within = omega (arith, length-append b (c ++ content cs), length-append c (content cs))
two_within (b ∷ c ∷ cs) (suc i) within = omega (arith, two_within (c ∷ cs) i (omega (arith, within)), length-append b (c ++ content cs))
