-- The block that begins with the least item.
use Rattle.std.proofs.Common.{◌≡◌, ℕ, ◌+◌, ◌<◌, ◌≤◌, true, false, List, [], ◌∷◌, length, get_or, take, Option, Some, None, MatchOption, IsTrue, take_all, refl, sym, ap, ◌∙◌, subst, arith}
use Rattle.std.specs.List.{slice_get}
use Rattle.std.specs.Option.{option_map}
use Rattle.std.proofs.lemmas.List.{length-append}
use Rattle.std.proofs.lemmas.Option.{same_Some}
use Rattle.klsm_run.specs.declared.item.Item.{Item}
use Rattle.klsm_run.specs.ItemOrder.{is_smaller}
use Rattle.klsm_run.specs.Content.{sorted}
use Rattle.klsm_run.proofs.SortedLemmas.{sorted_ascending}
use Rattle.klsm_run.proofs.RankLemmas.{empty_if_no_least}
use Rattle.klsm_run.proofs.LesserLemmas.{lesser, lesser_first, lesser_second, first_append}
use Rattle.klsm_lsm.specs.Level.{level}
use Rattle.klsm_lsm.specs.Lsm.{content, IsLsm}
use Rattle.klsm_lsm.specs.Places.{IsLeastBlock}
use Rattle.klsm_lsm.proofs.JoinLemmas.{some_in_block}
use Rattle.klsm_lsm.proofs.SlotLemmas.{block_at}
use Rattle.klsm_lsm.proofs.LeastLemmas.{content_more}

-- a block that begins with the least item of the first blocks, where there is one
pub record IsFirstFound (bs : List (List Item)) (i : ℕ) (found : Option (ℕ × Item)) : Type 0 where
  pub first : option_map (λ f. f.1) found ≡ slice_get (sorted (content (take i bs))) 0
  pub at : (b : ℕ) (x : Item) → found ≡ Some (b, x) → (b < i) × (slice_get (get_or bs b []) 0 ≡ Some x)

-- the least item of the first blocks and of one more
first_of_more : (bs : List (List Item)) (i : ℕ) → IsLsm bs → i < length bs → slice_get (sorted (content (take (i + 1) bs))) 0 ≡ lesser (slice_get (sorted (content (take i bs))) 0) (slice_get (get_or bs i []) 0)
first_of_more bs i lsm within =
    let up : sorted (get_or bs i []) ≡ get_or bs i [] = sorted_ascending (get_or bs i []) (block_at bs i lsm within).0 in
    ap (λ xs. slice_get (sorted xs) 0) (content_more bs i within)
    ∙ (first_append (content (take i bs)) (get_or bs i []) ∙ ap (λ xs. lesser (slice_get (sorted (content (take i bs))) 0) (slice_get xs 0)) up)

-- the block's first item is the least so far
pub first_found_here : (bs : List (List Item)) (i : ℕ) (block : List Item) (found : Option (ℕ × Item)) (item : Item) → IsLsm bs → i < length bs → block ≡ get_or bs i [] → slice_get block 0 ≡ Some item → MatchOption found (IsTrue true) (λ f. true ≡ is_smaller item f.1) → IsFirstFound bs i found → IsFirstFound bs (i + 1) (Some (i, item))
first_found_here bs i block found item lsm within is head smaller so_far = record {
  first = sym (first_of_more bs i lsm within ∙ rw (← so_far.first, ← is, head) (lesser_is found smaller));
  at = λ b x same. here_at b x (same_Some (i, item) (b, x) same);
}
  where
    here_at : (b : ℕ) (x : Item) → ◌≡◌ {A = ℕ × Item} (i, item) (b, x) → (b < i + 1) × (slice_get (get_or bs b []) 0 ≡ Some x)
    here_at b x same = subst (λ (f : ℕ × Item). (f.0 < i + 1) × (slice_get (get_or bs f.0 []) 0 ≡ Some f.1)) same (omega arith, rw (← is) head)

    lesser_is : (o : Option (ℕ × Item)) → MatchOption o (IsTrue true) (λ f. true ≡ is_smaller item f.1) → lesser (option_map (λ f. f.1) o) (Some item) ≡ Some item
    lesser_is None less = refl
    lesser_is (Some (b, x)) less = ap Some (lesser_second x item (sym less))

-- the least so far is smaller
pub first_found_before : (bs : List (List Item)) (i : ℕ) (block : List Item) (found : Option (ℕ × Item)) (item : Item) → IsLsm bs → i < length bs → block ≡ get_or bs i [] → slice_get block 0 ≡ Some item → MatchOption found (IsTrue false) (λ f. false ≡ is_smaller item f.1) → IsFirstFound bs i found → IsFirstFound bs (i + 1) found
first_found_before bs i block found item lsm within is head not_smaller so_far = record {
  first = sym (first_of_more bs i lsm within ∙ rw (← so_far.first, ← is, head) (lesser_is found not_smaller));
  at = λ c y same. let there = so_far.at c y same in (omega (arith, there.0), there.1);
}
  where
    lesser_is : (o : Option (ℕ × Item)) → MatchOption o (IsTrue false) (λ f. false ≡ is_smaller item f.1) → lesser (option_map (λ f. f.1) o) (Some item) ≡ option_map (λ f. f.1) o
    lesser_is None less = let bad : false ≡ true = less in cc
    lesser_is (Some (b, x)) less = ap Some (lesser_first x item (sym less))

-- no block was found, as there is none
pub none_found : (bs : List (List Item)) (i : ℕ) → IsLsm bs → length bs ≤ i → IsFirstFound bs i None → bs ≡ []
none_found [] i lsm all found = refl
none_found (b ∷ bs) i lsm all found =
    let none : slice_get (sorted (content (b ∷ bs))) 0 ≡ None = sym (found.first ∙ ap (λ cs. slice_get (sorted (content cs)) 0) (take_all i (b ∷ bs) all)) in
    let empty = ap length (empty_if_no_least (content (b ∷ bs)) none) in
    absurd (omega (arith, empty, length-append b (content bs), some_in_block (level b) b lsm.0))

-- the block that was found in the end
pub some_found : (bs : List (List Item)) (i b : ℕ) (x : Item) → length bs ≡ i → IsFirstFound bs i (Some (b, x)) → IsLeastBlock bs (Some b)
some_found bs i b x all found =
    let there = found.at b x refl in
    (omega (arith, there.0, all), there.1 ∙ (found.first ∙ ap (λ cs. slice_get (sorted (content cs)) 0) (take_all i bs (omega (arith, all)))))
