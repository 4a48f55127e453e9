-- Pivots: the marked items and the others are the content, and one pivot more is one more of the least items.
use Rattle.std.proofs.Common.{◌≡◌, ℕ, ◌+◌, ◌<◌, ◌≤◌, Bool, true, false, cond, nat_lt, List, [], ◌∷◌, ◌++◌, length, get_or, set, take, drop, min, replicate, Some, refl, sym, ap, ◌∙◌, subst, arith, zero, suc}
use Rattle.std.specs.List.{AllByRecursion, slice_get, count_by}
use Rattle.std.proofs.lemmas.Bool.{lt-ltb, le-ltb}
use Rattle.std.proofs.lemmas.List.{append-nil, append_assoc, take-append-drop, take_more, take_min, length-take, length-take-le}
use Rattle.std.proofs.lemmas.List.Sums.{sum_by-take-drop}
use Rattle.std.proofs.lemmas.Option.{none-some, get_or_from_slice_get, slice_get_within}
use Rattle.klsm_run.specs.declared.item.Item.{Item}
use Rattle.klsm_run.specs.Content.{placed, sorted, skipped, IsAscending}
use Rattle.klsm_run.proofs.AllLemmas.{all_weaker, all_front, all_back}
use Rattle.klsm_run.proofs.SortedLemmas.{sorted_ascending, length_sorted}
use Rattle.klsm_run.proofs.HalfLemmas.{ascending_take, ascending_drop}
use Rattle.klsm_run.proofs.ContentLemmas.{sorted_middle, sorted_same_behind, sorted_sorted, sorted_itself}
use Rattle.klsm_run.proofs.LeastLemmas.{all_unsorted}
use Rattle.klsm_run.proofs.IndexLemmas.{first_behind, at_index}
use Rattle.klsm_run.proofs.RankLemmas.{count_all, count_none, least_skip_few, rest_skip_many}
use Rattle.klsm_run.proofs.WithoutLemmas.{sorted_cancel}
use Rattle.klsm_lsm.specs.Lsm.{content, IsLsm}
use Rattle.klsm_lsm.proofs.ContentLemmas.{ascending_content}
use Rattle.klsm_lsm.proofs.CutLemmas.{sorted_swap_before}
use Rattle.klsm_parts.specs.Least.{least}
use Rattle.klsm_parts.specs.Parts.{PartState, candidates_of}
use Rattle.klsm_parts.specs.Pivots.{marked, unmarked, AreWithin, ArePivots}

-- the marked items and the others are the content
pub marked_and_unmarked : (bs : List (List Item)) (ps : List ℕ) → sorted (content bs) ≡ sorted (marked bs ps ++ content (unmarked bs ps))
marked_and_unmarked [] ps = refl
marked_and_unmarked (b ∷ bs) [] = refl
marked_and_unmarked (b ∷ bs) (p ∷ ps) =
    let front = take p b in let back = drop p b in let m = marked bs ps in let u = content (unmarked bs ps) in
    sorted_same_behind b (content bs) (m ++ u) (marked_and_unmarked bs ps)
    ∙ (ap (λ xs. sorted (xs ++ (m ++ u))) (sym (take-append-drop p b))
    ∙ (ap sorted (append_assoc front back (m ++ u))
    ∙ (sorted_same_behind front (back ++ (m ++ u)) (m ++ (back ++ u)) (sorted_swap_before back m u)
    ∙ ap sorted (sym (append_assoc front m (back ++ u))))))

-- the marked items are n, or all where there are fewer
pub length_marked : (n : ℕ) (bs : List (List Item)) (ps : List ℕ) → ArePivots n bs ps → length (marked bs ps) ≡ min n (length (content bs))
length_marked n bs ps pivots =
    sym (length_sorted (marked bs ps)) ∙ (ap length pivots.exact ∙ (length-take n (sorted (content bs)) ∙ ap (min n) (length_sorted (content bs))))

-- the other items are all but the least n
pub unmarked_is_rest : (n : ℕ) (bs : List (List Item)) (ps : List ℕ) → IsAscending (sorted (content bs)) → ArePivots n bs ps → sorted (content (unmarked bs ps)) ≡ drop n (sorted (content bs))
unmarked_is_rest n bs ps up pivots =
    let all = sorted (content bs) in let first = take n all in let rest = drop n all in let u = content (unmarked bs ps) in
    let whole : sorted (first ++ rest) ≡ sorted (first ++ u) =
    ap sorted (take-append-drop n all)
    ∙ (sorted_itself (content bs)
    ∙ (marked_and_unmarked bs ps
    ∙ (sym (sorted_sorted (marked bs ps) u) ∙ ap (λ xs. sorted (xs ++ u)) pivots.exact))) in
    sym (sorted_cancel first rest u whole) ∙ sorted_ascending rest (ascending_drop n all up)

-- pivots of all items are those of any number that is not less
pub pivots_all : (n : ℕ) (bs : List (List Item)) (ps : List ℕ) → ArePivots (min n (length (content bs))) bs ps → ArePivots n bs ps
pivots_all n bs ps pivots = record {
  within = pivots.within;
  exact = pivots.exact ∙ (ap (λ m. take (min n m) (sorted (content bs))) (sym (length_sorted (content bs))) ∙ take_min n (sorted (content bs)));
}

-- the number of candidates
pub count_of_least : (k : ℕ) (bs : List (List Item)) → min (length (content bs)) (k + 1) ≡ length (least (k + 1) (content bs))
count_of_least k bs = omega (arith, length-take (k + 1) (sorted (content bs)), length_sorted (content bs))

-- candidates of a part, as its fields know it, are at most k+1, and are among its items
pub among_candidates : (inside part : PartState) (n : ℕ) → inside ≡ part → n ≤ length (candidates_of part) → (n ≤ inside.k + 1) × (n ≤ length (content inside.blocks))
among_candidates inside part n same few =
    let here : n ≤ length (candidates_of inside) = subst (λ (p : PartState). n ≤ length (candidates_of p)) (sym same) few in
    let count = count_of_least inside.k inside.blocks in
    (omega (arith, here, count), omega (arith, here, count))
