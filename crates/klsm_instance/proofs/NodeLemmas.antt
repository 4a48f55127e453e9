-- Nodes, their children, and their completions.
use Rattle.std.proofs.Common.{◌≡◌, ℕ, ◌+◌, ◌/◌, ◌%◌, ◌^◌, ◌<◌, ◌≤◌, ◌⊎◌, inl, inr, List, ◌∷◌, length, drop, sym, ap, ◌∙◌, arith}
use Rattle.std.proofs.Math.Nat.{mod-one, pow-le-pow_right, mod-eq_of_lt}
use Rattle.klsm_instance.specs.declared.thing.Thing.{Thing}
use Rattle.klsm_instance.specs.Selections.{Problem, sum_selected, weight_of, IsFeasible}
use Rattle.klsm_instance.specs.Nodes.{IsNode, IsNodeOf, IsCompletion}
use Rattle.klsm_instance.proofs.BitLemmas.{pow_more, one_more}
use Rattle.klsm_instance.proofs.SumLemmas.{sum_split, sum_none, sum_with}

pub root_node : (p : Problem) → IsNode p 0 0
root_node p = record {
  of_things = omega arith;
  of_level = omega arith;
  fits = omega (arith, sum_none (λ x. x.weight) p.things);
}

-- each feasible selection completes the root
pub completes_root : (p : Problem) (s : ℕ) → IsFeasible p s → IsCompletion p 0 0 s
completes_root p s feasible = record { feasible = feasible; agrees = mod-one s }

pub leaving : (p : Problem) (l q : ℕ) → l < length p.things → IsNode p l q → IsNode p (l + 1) q
leaving p l q lt node = record {
  of_things = omega arith;
  of_level = omega (arith, pow_more l, node.of_level);
  fits = node.fits;
}

pub taking : (p : Problem) (l q : ℕ) (x : Thing) (ys : List Thing) → l < length p.things → drop l p.things ≡ x ∷ ys → weight_of p q + x.weight ≤ p.capacity → IsNode p l q → IsNode p (l + 1) (q + 2 ^ l)
taking p l q x ys lt e fits node = record {
  of_things = omega arith;
  of_level = omega (arith, pow_more l, node.of_level);
  fits = omega (arith, sum_with (λ z. z.weight) l q p.things x ys node.of_level e);
}

-- a completion of a node completes one of its children
pub completes_child : (p : Problem) (l q s : ℕ) → IsCompletion p l q s → IsCompletion p (l + 1) q s ⊎ IsCompletion p (l + 1) (q + 2 ^ l) s
completes_child p l q s completion = by_bit (one_more l s)
  where
    by_bit : (s % 2 ^ (l + 1) ≡ s % 2 ^ l) ⊎ (s % 2 ^ (l + 1) ≡ s % 2 ^ l + 2 ^ l) → IsCompletion p (l + 1) q s ⊎ IsCompletion p (l + 1) (q + 2 ^ l) s
    by_bit (inl e) = inl record { feasible = completion.feasible; agrees = e ∙ completion.agrees }
    by_bit (inr e) = inr record { feasible = completion.feasible; agrees = e ∙ ap (λ n. n + 2 ^ l) completion.agrees }

-- what a node with a completion takes fits
pub completed_fits : (p : Problem) (l q s : ℕ) → IsCompletion p l q s → weight_of p q ≤ p.capacity
completed_fits p l q s completion =
    let weight_is : weight_of p s ≡ weight_of p q + sum_selected (λ x. x.weight) (drop l p.things) (s / 2 ^ l)
    = rw (← completion.agrees) (sum_split (λ x. x.weight) l p.things s) in
    omega (arith, completion.feasible.fits)

-- a node's own selection
pub own_feasible : (p : Problem) (l q : ℕ) → IsNode p l q → IsFeasible p q
own_feasible p l q node = record {
  of_things = omega (arith, pow-le-pow_right {n = 2} (omega arith) node.of_things, node.of_level);
  fits = node.fits;
}

-- the one completion of a node that fixes all choices
pub completes_last : (p : Problem) (q s : ℕ) → IsCompletion p (length p.things) q s → s ≡ q
completes_last p q s completion = sym (mod-eq_of_lt completion.feasible.of_things) ∙ completion.agrees

-- no choice is made, and nothing is taken
pub root_is : (p : Problem) → IsNodeOf p record { level = 0; picks = 0; taken = record { value = 0; weight = 0 } }
root_is p = record {
  is_node = root_node p;
  value = sym (sum_none (λ x. x.value) p.things);
  weight = sym (sum_none (λ x. x.weight) p.things);
}
