-- Things that are the same, one behind the other: what takes a later one is worth as much as what takes the first.
use Rattle.std.proofs.Common.{◌≡◌, ℕ, suc, ◌+◌, ◌*◌, ◌/◌, ◌%◌, ◌^◌, ◌<◌, ◌≤◌, List, drop, Some, sym, ap, ◌∙◌, subst, arith}
use Rattle.std.specs.List.{slice_get}
use Rattle.std.proofs.lemmas.Nat.{div-add-mod', mod_low, shr_high}
use Rattle.std.proofs.Math.Nat.{mul_assoc, pow-le-pow_right}
use Rattle.klsm_instance.specs.declared.thing.Thing.{Thing}
use Rattle.klsm_instance.specs.Selections.{Problem, sum_selected, value_of, weight_of}
use Rattle.klsm_instance.specs.Nodes.{NoneAbove}
use Rattle.klsm_instance.proofs.BitLemmas.{pow_more}
use Rattle.klsm_instance.proofs.SumLemmas.{sum_split, sum_with}
use Rattle.klsm_instance.proofs.SearchLemmas.{covers_both, rest_from}

-- the selection that takes thing i, where s takes the thing behind it in its place
abbrev exchanged : ℕ → ℕ → ℕ → ℕ
exchanged i q s = s / 2 ^ (i + 2) * 2 ^ (i + 2) + (q + 2 ^ i)

low_enough : (i q : ℕ) → q < 2 ^ i → q + 2 ^ i < 2 ^ (i + 2)
low_enough i q lt =
    let next : i + 2 ≡ (i + 1) + 1 = omega arith in
    rw next (omega (arith, pow_more i, pow_more (i + 1)))

-- it has the same sum
same_sum : (f : Thing → ℕ) (xs : List Thing) (i q s : ℕ) (x : Thing) → q < 2 ^ i → slice_get xs i ≡ Some x → slice_get xs (i + 1) ≡ Some x → s % 2 ^ (i + 2) ≡ q + 2 ^ (i + 1) → sum_selected f xs (exchanged i q s) ≡ sum_selected f xs s
same_sum f xs i q s x lt here next agrees =
    let h : ℕ = s / 2 ^ (i + 2) in
    let lower : q < 2 ^ (i + 1) = omega (arith, pow_more i) in
    let first : sum_selected f xs (q + 2 ^ i) ≡ sum_selected f xs q + f x = sum_with f i q xs x (drop (suc i) xs) lt (rest_from xs i x here) in
    let second : sum_selected f xs (q + 2 ^ (i + 1)) ≡ sum_selected f xs q + f x = sum_with f (i + 1) q xs x (drop (suc (i + 1)) xs) lower (rest_from xs (i + 1) x next) in
    let new : sum_selected f xs (exchanged i q s) ≡ sum_selected f xs (q + 2 ^ i) + sum_selected f (drop (i + 2) xs) h
    = rw (mod_low h (i + 2) (q + 2 ^ i) (low_enough i q lt), shr_high h (i + 2) (q + 2 ^ i) (low_enough i q lt)) at (sum_split f (i + 2) xs (exchanged i q s)) in
    let old : sum_selected f xs s ≡ sum_selected f xs (q + 2 ^ (i + 1)) + sum_selected f (drop (i + 2) xs) h
    = rw agrees at (sum_split f (i + 2) xs s) in
    omega (arith, first, second, new, old)

-- so where no completion that takes thing i is above n, none that takes the one behind it in its place is
alike_closed : (p : Problem) (i q n : ℕ) (x : Thing) → q < 2 ^ i → slice_get p.things i ≡ Some x → slice_get p.things (i + 1) ≡ Some x → NoneAbove p (i + 1) (q + 2 ^ i) n → NoneAbove p (i + 2) (q + 2 ^ (i + 1)) n
alike_closed p i q n x lt here next none s completion =
    let h : ℕ = s / 2 ^ (i + 2) in
    let value : value_of p (exchanged i q s) ≡ value_of p s = same_sum (λ z. z.value) p.things i q s x lt here next completion.agrees in
    let weight : weight_of p (exchanged i q s) ≡ weight_of p s = same_sum (λ z. z.weight) p.things i q s x lt here next completion.agrees in
    let two : i + 2 ≡ (i + 1) + 1 = omega arith in
    let double : 2 ^ (i + 2) ≡ 2 * 2 ^ (i + 1) = rw two (pow_more (i + 1)) in
    let whole : h * 2 ^ (i + 2) + s % 2 ^ (i + 2) ≡ s = div-add-mod' s (2 ^ (i + 2)) in
    let less : exchanged i q s ≤ s = omega (arith, whole, completion.agrees, pow_more i) in
    let lower : q + 2 ^ i < 2 ^ (i + 1) = omega (arith, pow_more i) in
    let twice : exchanged i q s ≡ (h * 2) * 2 ^ (i + 1) + (q + 2 ^ i) = ap (λ n. n + (q + 2 ^ i)) (ap (λ n. h * n) double ∙ sym (mul_assoc h 2 (2 ^ (i + 1)))) in
    let agrees : exchanged i q s % 2 ^ (i + 1) ≡ q + 2 ^ i = rw twice (mod_low (h * 2) (i + 1) (q + 2 ^ i) lower) in
    let below : value_of p (exchanged i q s) ≤ n = none (exchanged i q s) record {
      feasible = record {
        of_things = omega (arith, less, completion.feasible.of_things);
        fits = omega (arith, weight, completion.feasible.fits);
      };
      agrees = agrees;
    } in
    omega (arith, below, value)

-- The things from l to i are the same. Where no completion that takes the first is above n, none that leaves those
-- before i and takes i is; and then the node at l leaves what the one behind i leaves.
pub record ArePassed (p : Problem) (l q i : ℕ) (x : Thing) : Type 0 where
  pub from : l ≤ i
  pub thing : slice_get p.things i ≡ Some x
  pub last : (n : ℕ) → NoneAbove p (l + 1) (q + 2 ^ l) n → NoneAbove p (i + 1) (q + 2 ^ i) n
  pub covers : (n : ℕ) → NoneAbove p (l + 1) (q + 2 ^ l) n → NoneAbove p (i + 1) q n → NoneAbove p l q n

pub passed_first : (p : Problem) (l q : ℕ) (x : Thing) → slice_get p.things l ≡ Some x → ArePassed p l q l x
passed_first p l q x here = record {
  from = omega arith;
  thing = here;
  last = λ n none. none;
  covers = λ n none rest. covers_both p l q n rest (λ fits. none);
}

pub passed_more : (p : Problem) (l q i : ℕ) (x : Thing) → q < 2 ^ l → slice_get p.things (i + 1) ≡ Some x → ArePassed p l q i x → ArePassed p l q (i + 1) x
passed_more p l q i x lt next passed = record { from = omega (arith, passed.from); thing = next; last = last; covers = covers }
  where
    lower : q < 2 ^ i
    lower = omega (arith, lt, pow-le-pow_right {n = 2} (omega arith) passed.from)

    two : i + 2 ≡ (i + 1) + 1
    two = omega arith

    last : (n : ℕ) → NoneAbove p (l + 1) (q + 2 ^ l) n → NoneAbove p ((i + 1) + 1) (q + 2 ^ (i + 1)) n
    last n none = subst (λ (k : ℕ). NoneAbove p k (q + 2 ^ (i + 1)) n) two (alike_closed p i q n x lower passed.thing next (passed.last n none))

    covers : (n : ℕ) → NoneAbove p (l + 1) (q + 2 ^ l) n → NoneAbove p ((i + 1) + 1) q n → NoneAbove p l q n
    covers n none rest = passed.covers n none (covers_both p (i + 1) q n rest (λ fits. last n none))
