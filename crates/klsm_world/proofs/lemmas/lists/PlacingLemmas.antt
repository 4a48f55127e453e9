-- Contents that are merged, and items that are taken out one by one.
use Rattle.std.proofs.Common.{◌≡◌, ℕ, ◌+◌, ◌-◌, ◌<◌, ◌≤◌, Bool, true, false, not, nat_lt, List, [], ◌∷◌, ◌++◌, length, take, drop, get_or, remove, Some, None, cond, refl, sym, ap, ◌∙◌, subst, arith, zero, suc, if◌then◌else◌, inl, inr}
use Rattle.std.specs.List.{position, position_or_len, prefix_len, take_while}
use Rattle.std.proofs.lemmas.Bool.{cond_below, cases_lt}
use Rattle.std.proofs.lemmas.List.{append_assoc, length-append, length-drop, take_all, drop_all, drop_more, drop-drop}
use Rattle.std.proofs.lemmas.List.Folds.{length-prefix_len}
use Rattle.std.proofs.lemmas.Option.{cond_some}
use Rattle.klsm_run.specs.declared.item.Item.{Item}
use Rattle.klsm_run.specs.ItemOrder.{is_same, is_smaller}
use Rattle.klsm_run.specs.Content.{sorted, without}
use Rattle.klsm_run.proofs.AllLemmas.{all_append, all_weaker}
use Rattle.klsm_run.proofs.ContentLemmas.{sorted_middle}
use Rattle.klsm_run.proofs.LesserLemmas.{less_if_smaller, not_smaller_trans}
use Rattle.klsm_run.proofs.LeastLemmas.{IsNoneBelow, not_below, placed_least}
use Rattle.klsm_run.proofs.RankLemmas.{IsRising, rising_sorted}
use Rattle.klsm_run.proofs.SortedLemmas.{all_sorted}

-- an item that no item is smaller than goes first
sorted_least : (x : Item) (c : List Item) → IsNoneBelow x c → sorted (x ∷ c) ≡ x ∷ sorted c
sorted_least x c low = placed_least x (sorted c) (all_sorted (λ y. is_smaller y x ≡ false) c low)

sorted_rising : (c : List Item) → IsRising c → sorted c ≡ c
sorted_rising [] up = refl
sorted_rising (x ∷ c) up = sorted_least x c up.0 ∙ ap (λ zs. x ∷ zs) (sorted_rising c up.1)

rising_drop : (n : ℕ) (c : List Item) → IsRising c → IsRising (drop n c)
rising_drop zero c up = up
rising_drop (suc n) [] up = tt
rising_drop (suc n) (x ∷ c) up = rising_drop n c up.1

-- the last items of a sorted list rise
rising_behind : (n : ℕ) (c : List Item) → sorted c ≡ c → IsRising (drop n c)
rising_behind n c up = rising_drop n c (subst IsRising up (rising_sorted c))

-- no item is smaller than x where none is smaller than y, which is not smaller than x itself
none_below_smaller : (x y : Item) (c : List Item) → is_smaller y x ≡ false → IsNoneBelow y c → IsNoneBelow x c
none_below_smaller x y c not_smaller low = all_weaker (λ z. is_smaller z y ≡ false) (λ z. is_smaller z x ≡ false) (λ z no. not_smaller_trans x y z not_smaller no) c low

-- the first items that are smaller than one, and how many they are
abbrev pub smaller_first : Item → List Item → List Item
smaller_first x = take_while (λ y. is_smaller y x)

abbrev pub count_first : Item → List Item → ℕ
count_first x = prefix_len (λ y. is_smaller y x)

pub length_smaller : (x : Item) (c done pushed : List Item) → pushed ≡ done ++ smaller_first x c → length pushed ≡ length done + count_first x c
length_smaller x c done pushed pushed_is = ap length pushed_is ∙ omega (arith, length-append done (smaller_first x c), length-prefix_len (λ y. is_smaller y x) c)

-- of two rising lists the first item of one goes behind the smaller ones of the other
merged_first : (x : Item) (joining c : List Item) → IsNoneBelow x joining → IsRising c
    → sorted (x ∷ joining ++ c) ≡ smaller_first x c ++ x ∷ sorted (joining ++ drop (count_first x c) c)
merged_first x joining [] low up = sorted_least x (joining ++ []) (all_append (λ z. is_smaller z x ≡ false) joining [] low tt)
merged_first x joining (y ∷ c) low up = by_test (is_smaller y x) refl (merged_first x joining c low up.1)
  where
    by_test : (b : Bool) → is_smaller y x ≡ b → sorted (x ∷ joining ++ c) ≡ smaller_first x c ++ x ∷ sorted (joining ++ drop (count_first x c) c)
        → sorted (x ∷ joining ++ y ∷ c) ≡ take (cond b (1 + count_first x c) 0) (y ∷ c) ++ x ∷ sorted (joining ++ drop (cond b (1 + count_first x c) 0) (y ∷ c))
    by_test true smaller later =
        let not_smaller : is_smaller x y ≡ false = not_below y x (less_if_smaller y x smaller) in
        let one_more : suc (count_first x c) ≡ 1 + count_first x c = omega arith in
        sorted_middle y (x ∷ joining) c
        ∙ (sorted_least y (x ∷ joining ++ c) (not_smaller, all_append (λ z. is_smaller z y ≡ false) joining c (none_below_smaller y x joining not_smaller low) up.0)
        ∙ (ap (λ zs. y ∷ zs) later
        ∙ ap (λ n. take n (y ∷ c) ++ x ∷ sorted (joining ++ drop n (y ∷ c))) one_more))
    by_test false not_smaller later =
        sorted_least x (joining ++ y ∷ c) (all_append (λ z. is_smaller z x ≡ false) joining (y ∷ c) low (not_smaller, none_below_smaller x y c not_smaller up.0))

-- one more item is merged: behind the smaller ones from `at` on
pub merged_more : (joining items whole done pushed more : List Item) (index at stopped : ℕ) (d : Item)
    → sorted joining ≡ joining → sorted items ≡ items → index < length joining
    → whole ≡ done ++ sorted (drop index joining ++ drop at items)
    → pushed ≡ done ++ smaller_first (get_or joining index d) (drop at items)
    → stopped ≡ at + count_first (get_or joining index d) (drop at items)
    → more ≡ pushed ++ get_or joining index d ∷ []
    → whole ≡ more ++ sorted (drop (index + 1) joining ++ drop stopped items)
merged_more joining items whole done pushed more index at stopped d joining_sorted items_sorted within merged pushed_is stopped_is more_is =
    let x = get_or joining index d in
    let later = drop (index + 1) joining in
    let next : drop index joining ≡ x ∷ later = drop_more joining index d within in
    let rising : IsRising (x ∷ later) = subst IsRising next (rising_behind index joining joining_sorted) in
    let smaller = smaller_first x (drop at items) in
    let behind : drop (count_first x (drop at items)) (drop at items) ≡ drop stopped items =
    drop-drop (count_first x (drop at items)) at items ∙ ap (λ n. drop n items) (sym stopped_is) in
    let rest = sorted (later ++ drop stopped items) in
    let first : sorted (drop index joining ++ drop at items) ≡ smaller ++ x ∷ rest =
    ap (λ zs. sorted (zs ++ drop at items)) next
    ∙ (merged_first x later (drop at items) rising.0 (rising_behind at items items_sorted) ∙ ap (λ zs. smaller ++ x ∷ sorted (later ++ zs)) behind) in
    let added : more ++ rest ≡ done ++ (smaller ++ x ∷ rest) =
    ap (λ zs. zs ++ rest) (more_is ∙ ap (λ zs. zs ++ x ∷ []) pushed_is) ∙ (append_assoc (done ++ smaller) (x ∷ []) rest ∙ append_assoc done smaller (x ∷ rest)) in
    merged ∙ (ap (λ zs. done ++ zs) first ∙ sym added)

-- with no other item to merge the last items are added as they are
pub merged_all : (joining items whole done more : List Item) (index at : ℕ) → sorted items ≡ items → length joining ≤ index
    → whole ≡ done ++ sorted (drop index joining ++ drop at items) → more ≡ done ++ take (length items - at) (drop at items) → more ≡ whole
merged_all joining items whole done more index at items_sorted past merged added =
    added
    ∙ (ap (λ zs. done ++ zs) (take_all (length items - at) (drop at items) (omega (arith, length-drop at items)) ∙ sym (sorted_rising (drop at items) (rising_behind at items items_sorted)))
    ∙ sym (merged ∙ ap (λ zs. done ++ sorted (zs ++ drop at items)) (drop_all index joining past)))

remove_past : {X : Type 0} → (c : List X) (i : ℕ) → length c ≤ i → remove c i ≡ c
remove_past [] zero past = refl
remove_past [] (suc i) past = refl
remove_past (y ∷ c) zero past = absurd (omega (arith, past))
remove_past (y ∷ c) (suc i) past = ap (λ zs. y ∷ zs) (remove_past c i (omega (arith, past)))

remove_later : {X : Type 0} → (y : X) (c : List X) (i : ℕ) → remove (y ∷ c) (1 + i) ≡ y ∷ remove c i
remove_later y c i = let next : 1 + i ≡ suc i = omega arith in ap (remove (y ∷ c)) next

-- the first item that is the same is taken away
without_first_same : (x : Item) (c : List Item) → remove c (position_or_len (is_same x) c) ≡ without x c
without_first_same x [] = refl
without_first_same x (y ∷ c) =
    elim (is_same x y) as (λ b. remove (y ∷ c) (cond (not b) (1 + position_or_len (is_same x) c) 0) ≡ (if b then c else y ∷ without x c)) [
      | true ↦ refl
      | false ↦ remove_later y c (position_or_len (is_same x) c) ∙ ap (λ zs. y ∷ zs) (without_first_same x c)
    ]

-- where an item is found, it is taken away there
pub without_at : (x : Item) (c : List Item) (i : ℕ) → Some i ≡ position (is_same x) c → remove c i ≡ without x c
without_at x c i found =
    let place = cond_some (nat_lt (position_or_len (is_same x) c) (length c)) (position_or_len (is_same x) c) i (sym found) in
    ap (remove c) (sym place.1) ∙ without_first_same x c

-- where it is not found, nothing is
pub without_nowhere : (x : Item) (c : List Item) → None ≡ position (is_same x) c → c ≡ without x c
without_nowhere x c none = elim (cases_lt (position_or_len (is_same x) c) (length c)) [
  | inl here ↦ let found = cond_below (position_or_len (is_same x) c) (length c) (Some (position_or_len (is_same x) c)) None here in let bad : Some (position_or_len (is_same x) c) ≡ None = found ∙ sym none in cc
  | inr past ↦ sym (remove_past c (position_or_len (is_same x) c) past) ∙ without_first_same x c
]
