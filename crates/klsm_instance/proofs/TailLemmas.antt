-- The tails of an instance.
use Rattle.std.proofs.Common.{◌≡◌, ℕ, zero, suc, ◌+◌, ◌-◌, ◌*◌, ◌/◌, ◌%◌, ◌^◌, ◌<◌, ◌≤◌, ◌↔◌, ◌==◌, min, leb, nat_lt, IsTrue, if◌then◌else◌, Bool, true, false, ◌⊎◌, inl, inr, List, [], ◌∷◌, ◌++◌, length, drop, get_or, Option, Some, None, refl, sym, ap, ◌∙◌, subst, arith, drop-cons}
use Rattle.std.proofs.lemmas.Bool.{le-leb, lt-ltb, ltb-true}
use Rattle.std.proofs.Math.Nat.{div-lt_iff_lt-mul}
use Rattle.std.proofs.lemmas.List.{length-drop}
use Rattle.std.proofs.lemmas.List.Sums.{sum_by-cons}
use Rattle.std.specs.Option.{MatchOption}
use Rattle.std.specs.List.{AllByRecursion, slice_get, sum_by}
use Rattle.std.proofs.lemmas.Option.{none-some, same_Some, slice_get_read}
use Rattle.klsm_instance.specs.declared.thing.Thing.{Thing}
use Rattle.klsm_instance.specs.declared.tail.Tail.{Tail}
use Rattle.klsm_instance.specs.Selections.{Problem, sum_selected, value_of, weight_of}
use Rattle.klsm_instance.specs.Limits.{IsThing, IsInRange}
use Rattle.klsm_instance.specs.Nodes.{IsGain, IsBound}
use Rattle.klsm_instance.specs.Prepared.{IsTail, AreTails, IsSteepestOf, IsPrepared}
use Rattle.klsm_instance.proofs.SumLemmas.{sum_none, sum_small, sum_all}
use Rattle.klsm_instance.proofs.BitLemmas.{pow_suc}
use Rattle.klsm_instance.proofs.BoundLemmas.{all_contained, all_weaker}

pub last_of : {X : Type 0} (xs : List X) (y z : X) (n : ℕ) → slice_get (xs ++ y ∷ []) n ≡ Some z → (slice_get xs n ≡ Some z) ⊎ ((n ≡ length xs) × (y ≡ z))
last_of [] y z zero e = inr (refl, same_Some y z e)
last_of [] y z (suc n) e = absurd (none-some z e)
last_of (x ∷ xs) y z zero e = inl e
last_of (x ∷ xs) y z (suc n) e = later (last_of xs y z n e)
  where
    later : (slice_get xs n ≡ Some z) ⊎ ((n ≡ length xs) × (y ≡ z)) → (slice_get (x ∷ xs) (suc n) ≡ Some z) ⊎ ((suc n ≡ length (x ∷ xs)) × (y ≡ z))
    later (inl f) = inl f
    later (inr (f, same)) = inr (omega arith, same)

pub tails_more : (things : List Thing) (tails : List Tail) (tail : Tail) (n : ℕ) → length tails ≡ n → IsTail (drop (length things - n) things) tail → AreTails things tails → AreTails things (tails ++ tail ∷ [])
tails_more things tails tail n as_many is are m other found = by_place (last_of tails tail other m found)
  where
    by_place : (slice_get tails m ≡ Some other) ⊎ ((m ≡ length tails) × (tail ≡ other)) → IsTail (drop (length things - m) things) other
    by_place (inl f) = are m other f
    by_place (inr (here, same)) =
        let at : n ≡ m = omega arith in
        subst (λ (k : ℕ). IsTail (drop (length things - k) things) other) at (subst (λ (t : Tail). IsTail (drop (length things - n) things) t) same is)

pub tails_none : (things : List Thing) (tail : Tail) → IsTail [] tail → AreTails things (tail ∷ [])
tails_none things tail is zero other found =
    subst (λ (t : Tail). IsTail (drop (length things - 0) things) t) (same_Some tail other found)
    (subst (λ (xs : List Thing). IsTail xs tail) (sym (all_dropped (length things - 0) things (omega arith))) is)
  where
    all_dropped : (k : ℕ) (xs : List Thing) → length xs ≤ k → drop k xs ≡ []
    all_dropped zero [] le = refl
    all_dropped zero (x ∷ xs) le = absurd (omega arith)
    all_dropped (suc k) [] le = refl
    all_dropped (suc k) (x ∷ xs) le = all_dropped k xs (omega arith)
tails_none things tail is (suc n) other found = absurd (none-some other found)

pub steepest_thing : (xs : List Thing) (y : Option Thing) → AllByRecursion IsThing xs → IsSteepestOf xs y → MatchOption y (Unit {0}) IsThing
steepest_thing xs None things none = tt
steepest_thing xs (Some y) things steep = all_contained IsThing xs y things steep.among

pub tail_small : (xs : List Thing) (tail : Tail) → length xs ≤ 32 → AllByRecursion IsThing xs → IsTail xs tail → tail.value ≤ 32000000
tail_small xs tail few things is =
    let values : AllByRecursion (λ x. x.value ≤ 1000000) xs = all_weaker IsThing (λ x. x.value ≤ 1000000) (λ x thing. thing.value_small) xs things in
    omega (arith, is.value, sum_small (λ x. x.value) 1000000 xs values)

-- the things from the n-th last on
pub before : (things : List Thing) (n : ℕ) (d : Thing) → n < length things → drop (length things - (n + 1)) things ≡ get_or things (length things - 1 - n) d ∷ drop (length things - n) things
before things n d lt =
    let i : ℕ = length things - 1 - n in
    let same : length things - (n + 1) ≡ i = omega arith in
    let after : suc i ≡ length things - n = omega arith in
    let within : i < length things = omega arith in
    ap (λ k. drop k things) same ∙ (drop-cons things i d within ∙ ap (λ k. get_or things i d ∷ drop k things) after)

pub tail_at : (capacity : ℕ) (things : List Thing) (tails : List Tail) (level : ℕ) (tail : Tail) → IsPrepared capacity things tails → level ≤ length things → tail ≡ get_or tails (length things - level) tail → IsTail (drop level things) tail
tail_at capacity things tails level tail prepared le is =
    let n : ℕ = length things - level in
    let back : length things - n ≡ level = omega arith in
    let within : n < length tails = omega (arith, prepared.as_many) in
    subst (λ (k : ℕ). IsTail (drop k things) tail) back (prepared.tails_are n tail (slice_get_read tails (length tails) n tail refl within is))

-- what the things can add, where some of the capacity is left
pub gain_of : (xs : List Thing) (tail : Tail) (left : ℕ) → IsTail xs tail → (gain : ℕ) × IsGain xs left gain
gain_of [] tail left is = (0, refl)
gain_of (x ∷ xs) tail left is = by_steepest tail.steepest is.steepest
  where
    by_steepest : (y : Option Thing) → IsSteepestOf (x ∷ xs) y → (gain : ℕ) × IsGain (x ∷ xs) left gain
    by_steepest None none = absurd (omega (arith, ap length none))
    by_steepest (Some y) steep = (min (sum_by (λ z. z.value) (x ∷ xs)) (left * y.value / y.weight), (y, steep, refl))

-- where they have a steepest
pub gain_by : (xs : List Thing) (tail : Tail) (y : Thing) (left : ℕ) → IsTail xs tail → tail.steepest ≡ Some y → IsGain xs left (min tail.value (left * y.value / y.weight))
gain_by [] tail y left is steepest =
    let steep : IsSteepestOf [] (Some y) = subst (λ (o : Option Thing). IsSteepestOf [] o) steepest is.steepest in
    absurd (omega (arith, steep.among.1))
gain_by (x ∷ xs) tail y left is steepest =
    let steep : IsSteepestOf (x ∷ xs) (Some y) = subst (λ (o : Option Thing). IsSteepestOf (x ∷ xs) o) steepest is.steepest in
    (y, steep, ap (λ v. min v (left * y.value / y.weight)) is.value)

-- and where they have none
pub gain_none : (xs : List Thing) (tail : Tail) (left : ℕ) → IsTail xs tail → tail.steepest ≡ None → IsGain xs left 0
gain_none [] tail left is none = refl
gain_none (x ∷ xs) tail left is none =
    let empty : x ∷ xs ≡ [] = subst (λ (o : Option Thing). IsSteepestOf (x ∷ xs) o) none is.steepest in
    absurd (omega (arith, ap length empty))

-- the lesser of a sum and a quotient is no more than a number where the sum is not, or by the product
pub lesser_by_sum : (v q most : ℕ) → v ≤ most → IsTrue (leb v most) ↔ (min v q ≤ most)
lesser_by_sum v q most le = (λ yes. omega arith, λ lesser. le-leb v most le)

pub lesser_by_product : (v a w most : ℕ) → 0 < w → (v ≤ most → ⊥) → IsTrue (nat_lt a ((most + 1) * w)) ↔ (min v (a / w) ≤ most)
lesser_by_product v a w most some_weight more = (
  λ yes. let below : a / w < most + 1 = (div-lt_iff_lt-mul some_weight).1 (ltb-true a ((most + 1) * w) yes) in omega arith,
  λ lesser. let below : a / w < most + 1 = omega arith in lt-ltb a ((most + 1) * w) ((div-lt_iff_lt-mul some_weight).0 below),
)

-- the things from a level on
pub few_from : (p : Problem) (level : ℕ) → IsInRange p → length (drop level p.things) ≤ 32
few_from p level range = omega (arith, length-drop level p.things, range.few)

pub gain_small : (xs : List Thing) (left gain : ℕ) → length xs ≤ 32 → AllByRecursion IsThing xs → IsGain xs left gain → gain ≤ 32000000
gain_small [] left gain few things is = omega arith
gain_small (x ∷ xs) left gain few things (y, steep, is) =
    let values : AllByRecursion (λ z. z.value ≤ 1000000) (x ∷ xs) = all_weaker IsThing (λ z. z.value ≤ 1000000) (λ z thing. thing.value_small) (x ∷ xs) things in
    omega (arith, is, sum_small (λ z. z.value) 1000000 (x ∷ xs) values)

pub value_small : (p : Problem) (s : ℕ) → IsInRange p → value_of p s ≤ 32000000
value_small p s range =
    let values : AllByRecursion (λ z. z.value ≤ 1000000) p.things = all_weaker IsThing (λ z. z.value ≤ 1000000) (λ z thing. thing.value_small) p.things range.things_are in
    omega (arith, range.few, sum_all (λ z. z.value) p.things s, sum_small (λ z. z.value) 1000000 p.things values)

pub weight_small : (p : Problem) (s : ℕ) → IsInRange p → weight_of p s ≤ 32000000000
weight_small p s range =
    let weights : AllByRecursion (λ z. z.weight ≤ 1000000000) p.things = all_weaker IsThing (λ z. z.weight ≤ 1000000000) (λ z thing. thing.weight_small) p.things range.things_are in
    omega (arith, range.few, sum_all (λ z. z.weight) p.things s, sum_small (λ z. z.weight) 1000000000 p.things weights)

-- what a node takes, and all the other things
sum_low : (f : Thing → ℕ) (l : ℕ) (xs : List Thing) (q : ℕ) → q < 2 ^ l → sum_selected f xs q + sum_by f (drop l xs) ≤ sum_by f xs
sum_low f zero xs q lt =
    let none_taken : q ≡ 0 = omega arith in
    rw (none_taken, sum_none f xs) (omega arith)
sum_low f (suc l) [] q lt = omega arith
sum_low f (suc l) (x ∷ xs) q lt =
    let lower : q / 2 < 2 ^ l = omega (arith, pow_suc l) in
    rw (sum_by-cons f x xs) (by_bit (q % 2 == 1) (sum_low f l xs (q / 2) lower))
  where
    by_bit : (b : Bool) → sum_selected f xs (q / 2) + sum_by f (drop l xs) ≤ sum_by f xs → ((if b then f x else 0) + sum_selected f xs (q / 2)) + sum_by f (drop l xs) ≤ f x + sum_by f xs
    by_bit true le = omega arith
    by_bit false le = omega arith

gain_within : (xs : List Thing) (left gain : ℕ) → IsGain xs left gain → gain ≤ sum_by (λ x. x.value) xs
gain_within [] left gain is = omega arith
gain_within (x ∷ xs) left gain (y, steep, is) = omega arith

pub bound_small : (p : Problem) (l q n : ℕ) → IsInRange p → q < 2 ^ l → IsBound p l q n → n ≤ 32000000
bound_small p l q n range lt (gain, is_gain, is) =
    let values : AllByRecursion (λ z. z.value ≤ 1000000) p.things = all_weaker IsThing (λ z. z.value ≤ 1000000) (λ z thing. thing.value_small) p.things range.things_are in
    omega (arith, range.few, sum_low (λ z. z.value) l p.things q lt, gain_within (drop l p.things) (p.capacity - weight_of p q) gain is_gain, sum_small (λ z. z.value) 1000000 p.things values)
