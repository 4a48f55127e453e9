-- A victim's part before and after a spy.
use Rattle.std.proofs.Common.{◌≡◌, ◌<◌, ◌/◌, List, [], ◌∷◌, ◌++◌, length, take, drop, Option, Some, None, IfSome, cond, refl, sym, ap, ◌∙◌, subst, arith, inl, inr, ◌≤◌, ◌==◌, true, false, if◌then◌else◌}
use Rattle.std.specs.List.{count_by}
use Rattle.std.specs.Option.{option_to_list}
use Rattle.std.proofs.lemmas.Bool.{cases_eq, eq-eqb, ne_eqb}
use Rattle.std.proofs.lemmas.List.{append-nil, length-append, length-drop, take-append-drop, length-take}
use Rattle.std.proofs.lemmas.List.Sums.{sum_by-append}
use Rattle.std.proofs.lemmas.Option.{none-some, same_Some}
use Rattle.klsm_run.specs.declared.item.Item.{Item}
use Rattle.klsm_run.specs.ItemOrder.{is_same}
use Rattle.klsm_run.specs.Content.{sorted, IsAscending}
use Rattle.klsm_run.proofs.SortedLemmas.{sorted_ascending, length_sorted}
use Rattle.klsm_run.proofs.HalfLemmas.{ascending_drop}
use Rattle.klsm_run.proofs.ContentLemmas.{sorted_swap}
use Rattle.klsm_run.proofs.RankLemmas.{count_sorted}
use Rattle.klsm_lsm.specs.Level.{level}
use Rattle.klsm_lsm.specs.Lsm.{content, IsLsm}
use Rattle.klsm_lsm.specs.Spying.{spied, left_by_spy}
use Rattle.klsm_lsm.proofs.JoinLemmas.{some_in_block}
use Rattle.klsm_parts.specs.Events.{MaySpy, own_after_spy, victim_after_spy}
use Rattle.klsm_parts.proofs.EventLemmas.{minus_moved, no_items}

-- a part of no items has no block
pub no_items_in : (bs : List (List Item)) → IsLsm bs → sorted (content bs) ≡ [] → bs ≡ []
no_items_in bs lsm none = no_items bs lsm (sym (length_sorted (content bs)) ∙ ap length none)

-- the greatest half of the only block and what is left of it
halves : (b : List Item) → sorted (content (b ∷ [])) ≡ sorted (drop (length b / 2) b ++ content (left_by_spy (b ∷ [])))
halves b = elim (cases_eq (length b) 1) [
  | inl one ↦
      let none : 0 ≡ length b / 2 = omega (arith, one) in
      rw (eq-eqb (length b) 1 one) (ap (λ n. sorted (drop n b ++ [])) none)
  | inr more ↦
      let lower = take (length b / 2) b in let upper = drop (length b / 2) b in
      rw (ne_eqb (length b) 1 more) (ap sorted (append-nil b ∙ sym (take-append-drop (length b / 2) b)) ∙ (sorted_swap lower upper ∙ ap (λ xs. sorted (upper ++ xs)) (sym (append-nil lower))))
]

-- what moves and what is left are the items of the part
moved_and_left : (bs : List (List Item)) (moved : List Item) → spied bs ≡ Some moved → sorted (content bs) ≡ sorted (moved ++ content (left_by_spy bs))
moved_and_left [] moved is = absurd (none-some moved is)
moved_and_left (b ∷ []) moved is = subst (λ m. sorted (content (b ∷ [])) ≡ sorted (m ++ content (left_by_spy (b ∷ [])))) (same_Some (drop (length b / 2) b) moved is) (halves b)
moved_and_left (b ∷ c ∷ cs) moved is = ap (λ m. sorted (m ++ content (c ∷ cs))) (same_Some b moved is)

pub some_moved : (bs : List (List Item)) (moved : List Item) → IsLsm bs → spied bs ≡ Some moved → 0 < length moved
some_moved [] moved lsm is = absurd (none-some moved is)
some_moved (b ∷ []) moved lsm is =
    omega (arith, ap length (same_Some (drop (length b / 2) b) moved is), length-drop (length b / 2) b, some_in_block (level b) b lsm.0)
some_moved (b ∷ c ∷ cs) moved lsm is = omega (arith, ap length (same_Some b moved is), some_in_block (level b) b lsm.0)

ascending_moved : (bs : List (List Item)) (moved : List Item) → IsLsm bs → spied bs ≡ Some moved → IsAscending moved
ascending_moved [] moved lsm is = absurd (none-some moved is)
ascending_moved (b ∷ []) moved lsm is = subst IsAscending (same_Some (drop (length b / 2) b) moved is) (ascending_drop (length b / 2) b lsm.0.0)
ascending_moved (b ∷ c ∷ cs) moved lsm is = subst IsAscending (same_Some b moved is) lsm.0.0

-- a spy may move these items to an empty part
pub may_spy : (own : List Item) (bs : List (List Item)) (moved : List Item) → own ≡ [] → IsLsm bs → spied bs ≡ Some moved → MaySpy own (sorted (content bs)) moved
may_spy own bs moved empty lsm is =
    let left = content (left_by_spy bs) in
    record {
      own_empty = empty;
      some = λ none. omega (arith, some_moved bs moved lsm is, ap length none);
      ascending = ascending_moved bs moved lsm is;
      within = λ y. omega (
        arith,
        ap (count_by (is_same y)) (moved_and_left bs moved is),
        count_sorted (is_same y) (moved ++ left),
        sum_by-append (λ z. cond (is_same y z) 1 0) moved left,
      );
    }

-- what a spy leaves in the own part and in the victim's
pub own_spied : (bs : List (List Item)) (moved : List Item) → IsLsm bs → spied bs ≡ Some moved → sorted (content (moved ∷ [])) ≡ own_after_spy moved
own_spied bs moved lsm is = ap sorted (append-nil moved) ∙ sorted_ascending moved (ascending_moved bs moved lsm is)

pub victim_spied : (bs : List (List Item)) (moved : List Item) → spied bs ≡ Some moved → sorted (content (left_by_spy bs)) ≡ victim_after_spy (sorted (content bs)) moved
victim_spied bs moved is = sym (minus_moved moved (content (left_by_spy bs)) (content bs) (moved_and_left bs moved is))

-- nothing moves exactly where the victim has no item
moved_by : (bs : List (List Item)) (given : Option (List Item)) → IsLsm bs → spied bs ≡ given → length (content (option_to_list given)) ≡ 0 → bs ≡ []
moved_by [] given lsm is none = refl
moved_by (b ∷ bs) None lsm is none = absurd (spied_some b bs is)
  where
    spied_some : (c : List Item) (cs : List (List Item)) → spied (c ∷ cs) ≡ None → ⊥
    spied_some c [] same = none-some (drop (length c / 2) c) (sym same)
    spied_some c (d ∷ ds) same = none-some c (sym same)
moved_by (b ∷ bs) (Some moved) lsm is none = absurd (omega (arith, none, length-append moved [], some_moved (b ∷ bs) moved lsm is))

pub none_moved : (bs : List (List Item)) → IsLsm bs → length (content (option_to_list (spied bs))) ≡ 0 → bs ≡ []
none_moved bs lsm none = moved_by bs (spied bs) lsm refl none

-- what a spy leaves, and that it may happen
spy_by : (own : List Item) (bs own_after victim_after : List (List Item)) (given : Option (List Item)) → own ≡ [] → IsLsm bs → spied bs ≡ given → own_after ≡ option_to_list given → victim_after ≡ left_by_spy bs
    → IfSome given (λ moved. MaySpy own (sorted (content bs)) moved × (sorted (content own_after) ≡ own_after_spy moved) × (sorted (content victim_after) ≡ victim_after_spy (sorted (content bs)) moved))
spy_by own bs own_after victim_after None empty lsm is own_is victim_is = tt
spy_by own bs own_after victim_after (Some moved) empty lsm is own_is victim_is =
    (may_spy own bs moved empty lsm is, ap (λ cs. sorted (content cs)) own_is ∙ own_spied bs moved lsm is, ap (λ cs. sorted (content cs)) victim_is ∙ victim_spied bs moved is)

pub spy_takes_effect : (own : List Item) (bs own_after victim_after : List (List Item)) → own ≡ [] → IsLsm bs → own_after ≡ option_to_list (spied bs) → victim_after ≡ left_by_spy bs
    → IfSome (spied bs) (λ moved. MaySpy own (sorted (content bs)) moved × (sorted (content own_after) ≡ own_after_spy moved) × (sorted (content victim_after) ≡ victim_after_spy (sorted (content bs)) moved))
spy_takes_effect own bs own_after victim_after empty lsm own_is victim_is = spy_by own bs own_after victim_after (spied bs) empty lsm refl own_is victim_is

-- neither what goes nor what stays is more than there was
pub few_moved : (bs : List (List Item)) → length (content (option_to_list (spied bs))) ≤ length (content bs)
few_moved [] = omega arith
few_moved (b ∷ []) = omega (arith, length-append (drop (length b / 2) b) [], length-append b [], length-drop (length b / 2) b)
few_moved (b ∷ c ∷ cs) = omega (arith, length-append b [], length-append b (c ++ content cs))

pub few_stay : (bs : List (List Item)) → length (content (left_by_spy bs)) ≤ length (content bs)
few_stay [] = omega arith
few_stay (b ∷ []) =
    elim (length b == 1) as (λ t. length (content (if t then [] else take (length b / 2) b ∷ [])) ≤ length (b ++ [])) [ true ↦ omega arith | false ↦ omega (arith, length-append (take (length b / 2) b) [], length-append b [], length-take (length b / 2) b) ]
few_stay (b ∷ c ∷ cs) = omega (arith, length-append b (c ++ content cs))
