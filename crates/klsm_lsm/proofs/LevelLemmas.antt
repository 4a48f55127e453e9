-- The level of a block, as the least l with n ≤ 2^l.
use Rattle.std.proofs.Common.{◌≡◌, ℕ, ◌+◌, ◌*◌, ◌^◌, ◌<◌, ◌≤◌, refl, subst, arith, zero, suc, inl, inr}
use Rattle.std.proofs.lemmas.Bool.{cases_lt, lt-ltb, le-ltb}
use Rattle.std.proofs.Math.Pow.{pow_mono}
use Rattle.std.proofs.Math.Nat.{pow-suc}
use Rattle.klsm_run.specs.Block.{HasLevel}
use Rattle.klsm_lsm.specs.Level.{least_level_within, least_level}

-- each number is below its power of two
pub below_power : (n : ℕ) → n < 2 ^ n
below_power zero = omega arith
below_power (suc n) = omega (arith, below_power n, pow-suc 2 n)

within_enough : (k n : ℕ) → n ≤ 2 ^ k → n ≤ 2 ^ least_level_within k n
within_enough zero n fits = fits
within_enough (suc k) n fits = elim (cases_lt (2 ^ k) n) [
  | inl above ↦ rw (lt-ltb (2 ^ k) n above) fits
  | inr below ↦ rw (le-ltb (2 ^ k) n below) (within_enough k n below)
]

within_least : (k n l : ℕ) → n ≤ 2 ^ l → least_level_within k n ≤ l
within_least zero n l fits = omega arith
within_least (suc k) n l fits = elim (cases_lt (2 ^ k) n) [
  | inl above ↦ rw (lt-ltb (2 ^ k) n above) (elim (cases_lt k l) [
    | inl more ↦ omega arith
    | inr less ↦ absurd (let low : 2 ^ l ≤ 2 ^ k = pow_mono less in omega (arith, above, fits, low))
  ])
  | inr below ↦ rw (le-ltb (2 ^ k) n below) (within_least k n l fits)
]

pub level_enough : (n : ℕ) → n ≤ 2 ^ least_level n
unfolding least_level
level_enough n = within_enough n n (omega (arith, below_power n))

pub level_least : (n l : ℕ) → n ≤ 2 ^ l → least_level n ≤ l
unfolding least_level
level_least n l fits = within_least n n l fits

-- a number that is above a power of two has a greater level
pub level_above : (n l : ℕ) → 2 ^ l < n → l < least_level n
level_above n l above = elim (cases_lt l (least_level n)) [
  | inl more ↦ more
  | inr less ↦ absurd (let low : 2 ^ least_level n ≤ 2 ^ l = pow_mono less in omega (arith, above, low, level_enough n))
]

-- the least l with n ≤ 2^l is the level
pub level_is : (n l : ℕ) → n ≤ 2 ^ l → ((k : ℕ) → n ≤ 2 ^ k → l ≤ k) → l ≡ least_level n
level_is n l enough least = omega (arith, level_least n l enough, least (least_level n) (level_enough n))

-- a block has its level
pub has_level : (n : ℕ) → 0 < n → HasLevel (least_level n) n
has_level n some = go (least_level n) refl where
  go : (l : ℕ) → least_level n ≡ l → HasLevel l n
  go zero is = let low : n ≤ 2 ^ 0 = subst (λ l. n ≤ 2 ^ l) is (level_enough n) in omega (arith, low, some)
  go (suc l) is = (
    elim (cases_lt (2 ^ l) n) [
      | inl above ↦ above
      | inr below ↦ absurd (omega (arith, level_least n l below, is))
    ],
    subst (λ k. n ≤ 2 ^ k) is (level_enough n),
  )

-- a block is more than half full
pub more_than_half : (n : ℕ) → 0 < n → 2 ^ least_level n < 2 * n
more_than_half n some = go (least_level n) (has_level n some) where
  go : (l : ℕ) → HasLevel l n → 2 ^ l < 2 * n
  go zero h = omega (arith, h)
  go (suc l) h = omega (arith, h.0, pow-suc 2 l)

-- two blocks of one level are together of the next
pub level_sum : (m n : ℕ) → 0 < m → 0 < n → least_level m ≡ least_level n → least_level (m + n) ≡ suc (least_level n)
level_sum m n some_m some_n same =
    let half : 2 ^ least_level n < 2 * m = subst (λ l. 2 ^ l < 2 * m) same (more_than_half m some_m) in
    let full : m ≤ 2 ^ least_level n = subst (λ l. m ≤ 2 ^ l) same (level_enough m) in
    let above : least_level n < least_level (m + n) = level_above (m + n) (least_level n) (omega (arith, half, more_than_half n some_n)) in
    let below : least_level (m + n) ≤ suc (least_level n) = level_least (m + n) (suc (least_level n)) (omega (arith, full, level_enough n, pow-suc 2 (least_level n))) in
    omega arith

-- fewer items are of no greater level
pub level_mono : (m n : ℕ) → m ≤ n → least_level m ≤ least_level n
level_mono m n less = level_least m (least_level n) (omega (arith, less, level_enough n))
