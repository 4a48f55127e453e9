-- The item order is a total order in which no two items tie.
use Rattle.std.proofs.Common.{◌≡◌, ℕ, refl, sym, ap, ◌∙◌}
use Rattle.std.specs.Cmp.{IsTotalOrder}
use Rattle.std.specs.Ordering.{nat_cmp, ordering_then, ordering_reverse}
use Rattle.std.specs.declared.cmp.Ordering.{Ordering}
use Rattle.std.specs.declared.cmp.Ordering.TheVariants.{Less, Equal, Greater}
use Rattle.std.proofs.lemmas.Cmp.{nat_cmp_total, on_total, then_total, tied_itself}
use Rattle.std.proofs.lemmas.Map.Lookups.{CmpEqualImpliesEq, exact_unsigned, exact_pairs}
use Rattle.klsm_run.specs.declared.item.Item.{Item}
use Rattle.klsm_run.specs.declared.item.Stamp.{Stamp}
use Rattle.klsm_run.specs.ItemOrder.{stamp_cmp, item_cmp, IsSmaller}

stamp_total : IsTotalOrder stamp_cmp
stamp_total = then_total (on_total (λ s. s.owner) nat_cmp_total) (on_total (λ s. s.number) nat_cmp_total)

pub item_total : IsTotalOrder item_cmp
item_total = then_total (on_total (λ x. x.key) nat_cmp_total) (then_total (on_total (λ x. x.stamp) stamp_total) (on_total (λ x. x.load) nat_cmp_total))

stamp_exact : CmpEqualImpliesEq stamp_cmp
stamp_exact a b tie = ap (λ (p : ℕ × ℕ). record { owner = p.0; number = p.1 }) (exact_pairs nat_cmp nat_cmp exact_unsigned exact_unsigned (a.owner, a.number) (b.owner, b.number) tie)

-- items that tie are one
pub item_exact : CmpEqualImpliesEq item_cmp
item_exact a b tie =
    ap (λ (p : ℕ × (Stamp × ℕ)). record { key = p.0; stamp = p.1.0; load = p.1.1 })
    (exact_pairs nat_cmp (λ (x y : Stamp × ℕ). ordering_then (stamp_cmp x.0 y.0) (nat_cmp x.1 y.1)) exact_unsigned (exact_pairs stamp_cmp nat_cmp stamp_exact exact_unsigned)
    (a.key, (a.stamp, a.load)) (b.key, (b.stamp, b.load)) tie)

pub smaller_trans : (a b c : Item) → IsSmaller a b → IsSmaller b c → IsSmaller a c
smaller_trans a b c = item_total.trans a b c

pub not_smaller_than_itself : (a : Item) → IsSmaller a a → ⊥
not_smaller_than_itself a less = let tie = tied_itself item_total a in let bad : Less ≡ Equal = sym less ∙ tie in cc

-- of two items the first is smaller, or they are one, or the second is smaller
pub data Ranked (a b : Item) : Type 0 where
  Below : item_cmp a b ≡ Less → item_cmp b a ≡ Greater → Ranked a b
  Same : a ≡ b → Ranked a b
  Above : item_cmp a b ≡ Greater → item_cmp b a ≡ Less → Ranked a b

ranked_by : (a b : Item) (o : Ordering) → item_cmp a b ≡ o → Ranked a b
ranked_by a b Less e = Below e (item_total.antisymm b a ∙ ap ordering_reverse e)
ranked_by a b Equal e = Same (item_exact a b e)
ranked_by a b Greater e = Above e (item_total.antisymm b a ∙ ap ordering_reverse e)

pub ranked : (a b : Item) → Ranked a b
ranked a b = ranked_by a b (item_cmp a b) refl
