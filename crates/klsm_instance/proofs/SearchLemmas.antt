-- What one node of the search leaves to its children.
use Rattle.std.proofs.Common.{◌≡◌, ℕ, suc, ◌+◌, ◌*◌, ◌%◌, ◌^◌, ◌<◌, ◌≤◌, ◌⊎◌, inl, inr, List, ◌∷◌, length, drop, drop-cons, Some, sym, ap, ◌∙◌, subst, arith}
use Rattle.std.specs.List.{slice_get}
use Rattle.std.proofs.lemmas.Nat.{one_shl}
use Rattle.std.proofs.lemmas.Option.{slice_get_within, get_or_from_slice_get}
use Rattle.klsm_instance.specs.declared.thing.Thing.{Thing}
use Rattle.klsm_instance.specs.declared.search.Best.{Best}
use Rattle.klsm_instance.specs.Selections.{Problem, value_of, weight_of, IsFeasible}
use Rattle.klsm_instance.specs.Nodes.{IsNode, IsCompletion, NoneAbove}
use Rattle.klsm_instance.specs.Answers.{IsAnswer}
use Rattle.klsm_instance.proofs.SumLemmas.{sum_none, sum_with}
use Rattle.klsm_instance.proofs.NodeLemmas.{own_feasible, root_node, taking, completes_child, completed_fits, completes_last}

pub raised_answer : (p : Problem) (best raised : Best) (q v : ℕ) → IsAnswer p best → IsFeasible p q → v ≡ value_of p q → (raised ≡ best) ⊎ (raised ≡ record { value = v; picks = q }) → IsAnswer p raised
raised_answer p best raised q v answer feasible is (inl same) = subst (λ (b : Best). IsAnswer p b) (sym same) answer
raised_answer p best raised q v answer feasible is (inr same) = subst (λ (b : Best). IsAnswer p b) (sym same) record { feasible = feasible; value = is }

pub first_answer : (p : Problem) → IsAnswer p record { value = 0; picks = 0 }
first_answer p = record { feasible = own_feasible p 0 0 (root_node p); value = sym (sum_none (λ x. x.value) p.things) }

pub rest_from : (xs : List Thing) (i : ℕ) (x : Thing) → slice_get xs i ≡ Some x → drop i xs ≡ x ∷ drop (suc i) xs
rest_from xs i x found = drop-cons xs i x (slice_get_within xs i x found) ∙ ap (λ y. y ∷ drop (suc i) xs) (get_or_from_slice_get xs i x x found)

pub shifted : (l : ℕ) → l < 64 → 1 * 2 ^ l % 18446744073709551616 ≡ 2 ^ l
shifted l lt = one_shl l 64 lt

-- what is above neither child is not above the node
pub covers_both : (p : Problem) (l q n : ℕ) → NoneAbove p (l + 1) q n → (weight_of p (q + 2 ^ l) ≤ p.capacity → NoneAbove p (l + 1) (q + 2 ^ l) n) → NoneAbove p l q n
covers_both p l q n leave take s completion = by_child (completes_child p l q s completion)
  where
    by_child : IsCompletion p (l + 1) q s ⊎ IsCompletion p (l + 1) (q + 2 ^ l) s → value_of p s ≤ n
    by_child (inl child) = leave s child
    by_child (inr child) = take (completed_fits p (l + 1) (q + 2 ^ l) s child) s child

pub covers_last : (p : Problem) (l q n : ℕ) → l ≡ length p.things → value_of p q ≤ n → NoneAbove p l q n
covers_last p l q n last le s completion =
    let same : s ≡ q = completes_last p q s (subst (λ (k : ℕ). IsCompletion p k q s) last completion) in
    subst (λ (t : ℕ). value_of p t ≤ n) (sym same) le

pub covers_more : (p : Problem) (l q m n : ℕ) → m ≤ n → NoneAbove p l q m → NoneAbove p l q n
covers_more p l q m n le none s completion = omega (arith, none s completion)

pub taking_node : (p : Problem) (l q : ℕ) (x : Thing) → slice_get p.things l ≡ Some x → weight_of p q + x.weight ≤ p.capacity → IsNode p l q → IsNode p (l + 1) (q + 2 ^ l)
taking_node p l q x found fits node = taking p l q x (drop (suc l) p.things) (slice_get_within p.things l x found) (rest_from p.things l x found) fits node

pub value_with : (p : Problem) (l q : ℕ) (x : Thing) → slice_get p.things l ≡ Some x → q < 2 ^ l → value_of p (q + 2 ^ l) ≡ value_of p q + x.value
value_with p l q x found lt = sum_with (λ z. z.value) l q p.things x (drop (suc l) p.things) lt (rest_from p.things l x found)

pub weight_with : (p : Problem) (l q : ℕ) (x : Thing) → slice_get p.things l ≡ Some x → q < 2 ^ l → weight_of p (q + 2 ^ l) ≡ weight_of p q + x.weight
weight_with p l q x found lt = sum_with (λ z. z.weight) l q p.things x (drop (suc l) p.things) lt (rest_from p.things l x found)
