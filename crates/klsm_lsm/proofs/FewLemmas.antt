-- How many blocks a lawful LSM has that is not full.
use Rattle.std.proofs.Common.{ℕ, ◌<◌, ◌≤◌, ◌^◌, List, [], ◌∷◌, length, pow-suc, arith, inl, inr, zero, suc}
use Rattle.std.proofs.lemmas.Bool.{cases_lt}
use Rattle.std.proofs.lemmas.List.{length-append}
use Rattle.klsm_run.specs.declared.item.Item.{Item}
use Rattle.klsm_lsm.specs.Level.{level}
use Rattle.klsm_lsm.specs.Lsm.{content, IsLsm}
use Rattle.klsm_lsm.proofs.AddLemmas.{length_below}
use Rattle.klsm_lsm.proofs.JoinLemmas.{some_in_block}
use Rattle.klsm_lsm.proofs.LevelLemmas.{level_least}

-- one of fewer than 2^m items has at most m blocks
pub few_if_not_full : (m : ℕ) (bs : List (List Item)) → IsLsm bs → length (content bs) < 2 ^ m → length bs ≤ m
few_if_not_full m [] lsm less = omega arith
few_if_not_full zero (b ∷ bs) lsm less = absurd (omega (arith, less, length-append b (content bs), some_in_block (level b) b lsm.0))
few_if_not_full (suc m) (b ∷ bs) lsm less = elim (cases_lt (2 ^ m) (length b)) [
  | inl above ↦
      let rest : length bs ≤ m = few_if_not_full m bs lsm.3 (omega (arith, above, less, length-append b (content bs), pow-suc 2 m)) in
      omega (arith, rest)
  | inr below ↦ omega (arith, length_below (level b) bs lsm.3 lsm.1, level_least (length b) m below)
]
