-- Lists that share no item, looked at one after another.
use Rattle.std.proofs.Common.{ℕ, ◌≡◌, ◌<◌, ◌≤◌, ◌+◌, ◌⊎◌, inl, inr, List, length, get_or, subst, sym, ap, ◌∙◌, arith}
use Rattle.std.specs.List.{Contains}
use Rattle.std.proofs.lemmas.Bool.{cases_lt}
use Rattle.std.proofs.lemmas.List.{get_or_default}
use Rattle.klsm_run.specs.declared.item.Item.{Item}

-- none of the first n items is among the others
abbrev pub ShareNoneUpTo : List Item → List Item → ℕ → Type 0
ShareNoneUpTo items others n = (k : ℕ) (x : Item) → k < n → get_or items k x ≡ x → Contains others x → ⊥

pub share_none_so_far : (items others : List Item) (n : ℕ) (d : Item) → n < length items → ShareNoneUpTo items others n → (Contains others (get_or items n d) → ⊥) → ShareNoneUpTo items others (n + 1)
share_none_so_far items others n d within before last k x lt is there = by_place (cases_lt k n)
  where
    by_place : (k < n) ⊎ (n ≤ k) → ⊥
    by_place (inl less) = before k x less is there
    by_place (inr not_less) =
        let same : k ≡ n = omega arith in
        let last_is : get_or items n d ≡ x = get_or_default items n d x within ∙ ap (λ i. get_or items i x) (sym same) ∙ is in
        last (subst (λ (y : Item). Contains others y) (sym last_is) there)
