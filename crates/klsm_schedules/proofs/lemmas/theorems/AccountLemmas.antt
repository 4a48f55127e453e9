-- The account of a lawful world: what is left is what is live, all adds up, and no more is deleted than may be inserted.
use Rattle.std.proofs.Common.{◌≡◌, ℕ, zero, suc, ◌+◌, ◌*◌, ◌<◌, ◌≤◌, List, [], ◌∷◌, ◌++◌, length, get_or, sym, refl, ap, ◌∙◌, subst, arith, suc-mul}
use Rattle.std.specs.List.{flat_map}
use Rattle.std.proofs.lemmas.List.{length-append}
use Rattle.std.proofs.lemmas.List.Concat.{flat_map-cons}
use Rattle.klsm_run.specs.declared.item.Item.{Item}
use Rattle.klsm_run.specs.Content.{sorted}
use Rattle.klsm_run.proofs.SortedLemmas.{length_sorted}
use Rattle.klsm_parts.proofs.EventLemmas.{minus_moved}
use Rattle.klsm_schedules.specs.declared.step.Entry.{Entry}
use Rattle.klsm_schedules.specs.OwnSteps.{inserted, deleted}
use Rattle.klsm_schedules.specs.Worlds.{live}
use Rattle.klsm_schedules.specs.Laws.{AccountsLeaveLive, AccountsAddUp, DeletionsAreFew}
use Rattle.klsm_schedules.proofs.lemmas.counts.EventCountLemmas.{times_append}
use Rattle.klsm_schedules.proofs.lemmas.counts.SameLemmas.{same_if_counted}

-- what was inserted, without what was deleted, is what is live
pub left_is_live : AccountsLeaveLive
left_is_live limits w lawful =
    let all = flat_map inserted w.lists in
    let gone = flat_map deleted w.lists in
    minus_moved gone (live w) all
    (same_if_counted all (gone ++ live w) (λ x. lawful.each_once x ∙ sym (times_append x gone (live w))))

-- as many items were inserted as were deleted and are left
pub accounts_add_up : AccountsAddUp
accounts_add_up limits w lawful =
    let all = flat_map inserted w.lists in
    let gone = flat_map deleted w.lists in
    let same : sorted all ≡ sorted (gone ++ live w) = same_if_counted all (gone ++ live w) (λ x. lawful.each_once x ∙ sym (times_append x gone (live w))) in
    let long : length all ≡ length (gone ++ live w) = sym (length_sorted all) ∙ (ap length same ∙ length_sorted (gone ++ live w)) in
    let left = ap length (left_is_live limits w lawful) ∙ length_sorted (live w) in
    omega (arith, long, length-append gone (live w), left)

-- one list's items are among those of all lists
pub one_of_all : (f : List Entry → List Item) (lists : List (List Entry)) (t : ℕ) → t < length lists → length (f (get_or lists t [])) ≤ length (flat_map f lists)
one_of_all f [] t less = absurd (omega (arith, less))
one_of_all f (own ∷ lists) zero less =
    let both = ap length (flat_map-cons f own lists) ∙ length-append (f own) (flat_map f lists) in omega (arith, both)
one_of_all f (own ∷ lists) (suc t) less =
    let both = ap length (flat_map-cons f own lists) ∙ length-append (f own) (flat_map f lists) in
    let rest = one_of_all f lists t (omega (arith, less)) in
    omega (arith, both, rest)

-- lists of at most n items each have at most n for each list
all_within : (f : List Entry → List Item) (lists : List (List Entry)) (n : ℕ) → ((t : ℕ) → t < length lists → length (f (get_or lists t [])) ≤ n)
    → length (flat_map f lists) ≤ length lists * n
all_within f [] n each = let none : length (flat_map f []) ≡ 0 = refl in omega (arith, none)
all_within f (own ∷ lists) n each =
    let both = ap length (flat_map-cons f own lists) ∙ length-append (f own) (flat_map f lists) in
    let some : ℕ = length lists * n in
    let rest : length (flat_map f lists) ≤ some = all_within f lists n (λ t less. each (suc t) (omega (arith, less))) in
    let more : suc (length lists) * n ≡ some + n = suc-mul (length lists) n in
    let here : length (f own) ≤ n = each 0 (omega arith) in
    omega (arith, both, rest, more, here)

-- no more is deleted than all threads may insert
pub deletions_are_few : DeletionsAreFew
deletions_are_few limits quota w lawful within =
    let lists = lawful.agreed.lists_are in
    let up = accounts_add_up limits w lawful in
    let most : ℕ = limits.threads * quota in
    let all : length (flat_map inserted w.lists) ≤ length w.lists * quota = all_within inserted w.lists quota (λ t less. within t (omega (arith, less, lists))) in
    let all' : length (flat_map inserted w.lists) ≤ most = subst (λ n. length (flat_map inserted w.lists) ≤ n * quota) lists all in
    let few : length (flat_map deleted w.lists) ≤ most = omega (arith, all', up) in
    few
