-- No completion of a node has a value above its bound.
use Rattle.std.proofs.Common.{◌≡◌, ℕ, zero, suc, ◌+◌, ◌-◌, ◌*◌, ◌/◌, ◌^◌, ◌<◌, ◌≤◌, List, [], ◌∷◌, length, drop, get_or, refl, subst, arith}
use Rattle.std.specs.List.{AllByRecursion, Contains, sum_by}
use Rattle.std.proofs.lemmas.Nat.{le-div}
use Rattle.std.proofs.Math.Nat.{mul-le-mul_left, le_of_mul-le-mul_right}
use Rattle.klsm_instance.specs.declared.thing.Thing.{Thing}
use Rattle.klsm_instance.specs.Selections.{Problem, sum_selected, value_of, weight_of}
use Rattle.klsm_instance.specs.Limits.{IsThing, IsInRange}
use Rattle.klsm_instance.specs.Nodes.{NoneAbove, IsSteepest, IsGain, IsBound}
use Rattle.klsm_instance.proofs.SumLemmas.{sum_split, sum_all, sum_weighed}

pub all_at : {X : Type 0} (P : X → Type 0) → (xs : List X) (k : ℕ) (d : X) → AllByRecursion P xs → k < length xs → P (get_or xs k d)
all_at P [] k d all lt = absurd (omega arith)
all_at P (x ∷ xs) zero d all lt = all.0
all_at P (x ∷ xs) (suc k) d all lt = all_at P xs k d all.1 (omega arith)

pub all_contained : {X : Type 0} (P : X → Type 0) → (xs : List X) (x : X) → AllByRecursion P xs → Contains xs x → P x
all_contained P xs x all (k, lt, e) = subst P e (all_at P xs k x all lt)

pub all_weaker : {X : Type 0} (P Q : X → Type 0) → ((x : X) → P x → Q x) → (xs : List X) → AllByRecursion P xs → AllByRecursion Q xs
all_weaker P Q weaker [] all = tt
all_weaker P Q weaker (x ∷ xs) all = (weaker x all.0, all_weaker P Q weaker xs all.1)

pub all_drop : {X : Type 0} (P : X → Type 0) → (n : ℕ) (xs : List X) → AllByRecursion P xs → AllByRecursion P (drop n xs)
all_drop P zero xs all = all
all_drop P (suc n) [] all = tt
all_drop P (suc n) (x ∷ xs) all = all_drop P n xs all.1

pub gain_sound : (xs : List Thing) (left gain s : ℕ) → AllByRecursion IsThing xs → IsGain xs left gain → sum_selected (λ x. x.weight) xs s ≤ left → sum_selected (λ x. x.value) xs s ≤ gain
gain_sound [] left gain s things is fits = omega arith
gain_sound (x ∷ xs) left gain s things (y, steep, is) fits =
    let thing : IsThing y = all_contained IsThing (x ∷ xs) y things steep.among in
    let some_weight : 0 < y.weight = thing.some_weight in
    let v = sum_selected (λ z. z.value) (x ∷ xs) s in
    let w = sum_selected (λ z. z.weight) (x ∷ xs) s in
    let weighed : v * y.weight ≤ y.value * w = sum_weighed y.value y.weight (x ∷ xs) s steep.greatest in
    let filled : y.value * w ≤ y.value * left = mul-le-mul_left y.value fits in
    let by_ratio : v ≤ left * y.value / y.weight = le-div v (left * y.value) y.weight some_weight (omega arith) in
    let by_sum : v ≤ sum_by (λ z. z.value) (x ∷ xs) = sum_all (λ z. z.value) (x ∷ xs) s in
    omega arith

pub bound_sound : (p : Problem) (l q n : ℕ) → IsInRange p → IsBound p l q n → NoneAbove p l q n
bound_sound p l q n range (gain, is_gain, is) s completion =
    let value_is : value_of p s ≡ value_of p q + sum_selected (λ x. x.value) (drop l p.things) (s / 2 ^ l)
    = rw (← completion.agrees) (sum_split (λ x. x.value) l p.things s) in
    let weight_is : weight_of p s ≡ weight_of p q + sum_selected (λ x. x.weight) (drop l p.things) (s / 2 ^ l)
    = rw (← completion.agrees) (sum_split (λ x. x.weight) l p.things s) in
    let fits = completion.feasible.fits in
    let gained = gain_sound (drop l p.things) (p.capacity - weight_of p q) gain (s / 2 ^ l) (all_drop IsThing l p.things range.things_are) is_gain (omega arith) in
    omega arith

-- where b is as steep as any of xs, and a is as steep as b
over : (a b x : Thing) → 0 < b.weight → b.value * a.weight ≤ a.value * b.weight → x.value * b.weight ≤ b.value * x.weight → x.value * a.weight ≤ a.value * x.weight
over a b x some_weight a_over_b b_over_x =
    let first = mul-le-mul_left a.weight b_over_x in
    let second = mul-le-mul_left x.weight a_over_b in
    let both : x.value * a.weight * b.weight ≤ a.value * x.weight * b.weight = omega arith in
    le_of_mul-le-mul_right both some_weight

over_all : (a b : Thing) (xs : List Thing) → 0 < b.weight → b.value * a.weight ≤ a.value * b.weight → AllByRecursion (λ x. x.value * b.weight ≤ b.value * x.weight) xs → AllByRecursion (λ x. x.value * a.weight ≤ a.value * x.weight) xs
over_all a b [] some_weight a_over_b all = tt
over_all a b (x ∷ xs) some_weight a_over_b all = (over a b x some_weight a_over_b all.0, over_all a b xs some_weight a_over_b all.1)

pub steeper_first : (a b : Thing) (xs : List Thing) → 0 < b.weight → b.value * a.weight ≤ a.value * b.weight → IsSteepest xs b → IsSteepest (a ∷ xs) a
steeper_first a b xs some_weight a_over_b steep = record {
  among = (0, omega arith, refl);
  greatest = (omega arith, over_all a b xs some_weight a_over_b steep.greatest);
}

pub steeper_other : (a b : Thing) (xs : List Thing) → a.value * b.weight ≤ b.value * a.weight → IsSteepest xs b → IsSteepest (a ∷ xs) b
steeper_other a b xs b_over_a steep = record {
  among = (suc steep.among.0, omega (arith, steep.among.1), steep.among.2);
  greatest = (b_over_a, steep.greatest);
}

pub steepest_alone : (a : Thing) → IsSteepest (a ∷ []) a
steepest_alone a = record {
  among = (0, omega arith, refl);
  greatest = (omega arith, tt);
}
