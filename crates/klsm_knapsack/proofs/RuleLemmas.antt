-- Each kind of step keeps the rule.
use Rattle.std.proofs.Common.{◌≡◌, ◌≢◌, ℕ, zero, suc, ◌<◌, ◌≤◌, ◌⊎◌, inl, inr, ⊎_elim, List, [], ◌∷◌, ◌++◌, length, set, get_or, max, refl, sym, ap, ◌∙◌, subst, arith, get_or-set_same, length-set}
use Rattle.std.specs.List.{AllByRecursion, Contains}
use Rattle.std.proofs.lemmas.List.Elements.{Contains-append_left, Contains-append_right}
use Rattle.std.proofs.lemmas.Bool.{cases_lt}
use mathlib.Core.Option.{some, none, some-injective, some-ne-none}
use mathlib.Core.Logic.{dite}
use native.Mathlib.Decide.{ℕ_discrete}
use lib.ListN.{get_elem?}
use Rattle.atomic_table.specs.Table.{State, Me, step, keeps, opening, Allows, Splits, Joins}
use Rattle.atomic_table.proofs.Lists.{at_set, at_snoc, at_longer, set_here, set_else}
use Rattle.klsm_instance.specs.Selections.{Problem}
use Rattle.klsm_knapsack.specs.Numbers.{IsIncumbent}
use Rattle.klsm_instance.proofs.BoundLemmas.{all_contained}
use Rattle.klsm_instance.proofs.SearchLemmas.{first_answer}
use Rattle.klsm_knapsack.specs.declared.rule.View.{View}
use Rattle.klsm_knapsack.specs.Highest.{nothing_yet, together, WasRaisedBy, IsSeen, IsHighest, finds, raises}

-- what is seen stays so where the word grows
seen_more : (p : Problem) (low high : ℕ) (v : View) → low ≤ high → IsSeen p low v → IsSeen p high v
seen_more p low high v le seen = record { raised = all_more v.raised seen.raised; found = omega (arith, seen.found) }
  where
    all_more : (ns : List ℕ) → AllByRecursion (λ n. (n ≤ low) × IsIncumbent p n) ns → AllByRecursion (λ n. (n ≤ high) × IsIncumbent p n) ns
    all_more [] all = tt
    all_more (n ∷ ns) all = ((omega (arith, all.0.0), all.0.1), all_more ns all.1)

-- the views, where one seat has a new one: each number that the seats raised the word by is among theirs still
raised_still : (views : List View) (id : ℕ) (v w : View) (n : ℕ) → get_elem? views id ≡ some v → ((k : ℕ) → Contains v.raised k → Contains w.raised k) → id < length views → WasRaisedBy views n → WasRaisedBy (set views id w) n
raised_still views id v w n at grows within (j, u, there, has) = dite {P = j ≡ id} (ℕ_discrete j id)
    (λ same.
    let is : u ≡ v = some-injective u v (sym there ∙ (ap (get_elem? views) same ∙ at)) in
    (id, w, set_here views id w within, grows n (subst (λ (z : View). Contains z.raised n) is has)))
    (λ other. (j, u, set_else views id j w other ∙ there, has))

within_views : (views : List View) (id : ℕ) (v : View) → get_elem? views id ≡ some v → id < length views
within_views [] id v at = absurd (some-ne-none v (sym at))
within_views (x ∷ views) zero v at = omega arith
within_views (x ∷ views) (suc id) v at = omega (arith, within_views views id v at)

seen_nothing : (p : Problem) (n : ℕ) → IsSeen p n nothing_yet
seen_nothing p n = record { raised = tt; found = omega arith }

all_both : (P : ℕ → Type 0) → (xs ys : List ℕ) → AllByRecursion P xs → AllByRecursion P ys → AllByRecursion P (xs ++ ys)
all_both P [] ys left right = right
all_both P (x ∷ xs) ys left right = (left.0, all_both P xs ys left.1 right)

pub read_at : (xs : List ℕ) (i n : ℕ) → get_elem? xs i ≡ some n → get_or xs i 0 ≡ n
read_at [] i n found = absurd (some-ne-none n (sym found))
read_at (x ∷ xs) zero n found = some-injective x n found
read_at (x ∷ xs) (suc i) n found = read_at xs i n found

module _ {S : Type 0} (p : Problem) where
  -- one seat's view and the word change, and the word doesn't fall
  changed : (s : State S View) (id high : ℕ) (v w : View) → IsHighest p s → get_elem? s.views id ≡ some v → get_or s.words 0 0 ≤ high
      → IsSeen p high w → ((k : ℕ) → Contains v.raised k → Contains w.raised k) → (high ≡ get_or s.words 0 0) ⊎ Contains w.raised high
      → IsHighest p record { words = set s.words 0 high; homes = s.homes; views = set s.views id w }
  changed s id high v w rule at le seen grows from =
      let within = within_views s.views id v at in
      let word_is : get_or (set s.words 0 high) 0 0 ≡ high = get_or-set_same s.words 0 high 0 (omega (arith, rule.one_word)) in
      record {
        one_word = rw length-set rule.one_word;
        is_one = subst (λ (n : ℕ). (n ≡ 0) ⊎ WasRaisedBy (set s.views id w) n) (sym word_is) (by_step within from);
        seen = λ j u there. subst (λ (n : ℕ). IsSeen p n u) (sym word_is) (by_seat j u (at_set s.views id j w u there));
      }
    where
      by_step : id < length s.views → (high ≡ get_or s.words 0 0) ⊎ Contains w.raised high → (high ≡ 0) ⊎ WasRaisedBy (set s.views id w) high
      by_step within (inl same) = subst (λ (n : ℕ). (n ≡ 0) ⊎ WasRaisedBy (set s.views id w) n) (sym same) (⊎_elim (λ (z : get_or s.words 0 0 ≡ 0). inl z) (λ (r : WasRaisedBy s.views (get_or s.words 0 0)). inr (raised_still s.views id v w (get_or s.words 0 0) at grows within r)) rule.is_one)
      by_step within (inr has) = inr (id, w, set_here s.views id w within, has)

      by_seat : (j : ℕ) (u : View) → ((j ≡ id) × (w ≡ u)) ⊎ ((j ≢ id) × (get_elem? s.views j ≡ some u)) → IsSeen p high u
      by_seat j u (inl (same, is)) = subst (λ (z : View). IsSeen p high z) is seen
      by_seat j u (inr (other, there)) = seen_more p (get_or s.words 0 0) high u le (rule.seen j u there)

  -- the word is the value and the picks of a feasible selection
  pub is_incumbent : (s : State S View) → IsHighest p s → IsIncumbent p (get_or s.words 0 0)
  is_incumbent s rule = by_step rule.is_one
    where
      by_step : (get_or s.words 0 0 ≡ 0) ⊎ WasRaisedBy s.views (get_or s.words 0 0) → IsIncumbent p (get_or s.words 0 0)
      by_step (inl still) =
          let first = first_answer p in
          let nothing : IsIncumbent p 0 = record { feasible = first.feasible; value = first.value } in
          subst (λ (n : ℕ). IsIncumbent p n) (sym still) nothing
      by_step (inr (j, u, found, has)) = (all_contained (λ n. (n ≤ get_or s.words 0 0) × IsIncumbent p n) u.raised (get_or s.words 0 0) (rule.seen j u found).raised has).1

  pub load_allows : (slots id : ℕ) (me : Me S View) → Allows (IsHighest p) slots id me 0 (λ n. n) (finds p (step slots 0 0 0 none) me)
  load_allows slots id me s rule homes at small =
      let n = get_or s.words 0 0 in
      let seen = rule.seen id me.0 at in
      let w : View = record { raised = me.0.raised; found = n } in
      (w, keeps, tt, changed s id n me.0 w rule at (omega arith) record { raised = seen.raised; found = omega arith } (λ k has. has) (inl refl), (seen.found, is_incumbent s rule, refl))

  pub max_allows : (slots id number : ℕ) (me : Me S View) → IsIncumbent p number → Allows (IsHighest p) slots id me 0 (λ n. max n number) (raises p (step slots 0 number 0 none) me)
  max_allows slots id number me is s rule homes at small =
      let n = get_or s.words 0 0 in
      let seen = rule.seen id me.0 at in
      let w : View = record { raised = number ∷ me.0.raised; found = max n number } in
      let more = seen_more p n (max n number) me.0 (omega arith) seen in (
        w,
        keeps,
        tt,
        changed s id (max n number) me.0 w rule at (omega arith) record { raised = ((omega arith, is), more.raised); found = omega arith } (λ k has. (suc has.0, omega (arith, has.1), has.2)) (by_order n (cases_lt n number)),
        (seen.found, is_incumbent s rule, refl),
      )
    where
      by_order : (n : ℕ) → (n < number) ⊎ (number ≤ n) → (max n number ≡ n) ⊎ Contains (number ∷ me.0.raised) (max n number)
      by_order n (inl lt) = inr (0, omega arith, omega arith)
      by_order n (inr ge) = inl (omega arith)

  -- a seat more
  pub divides : (id : ℕ) (v : View) → Splits (IsHighest {S = S} p) id v v nothing_yet
  divides id v s rule at =
      let within = within_views s.views id v at in
      let n = get_or s.words 0 0 in
      record {
        one_word = rule.one_word;
        is_one = ⊎_elim (λ (z : n ≡ 0). inl z) (λ (r : WasRaisedBy s.views n). inr (longer n (raised_still s.views id v v n at (λ k has. has) within r))) rule.is_one;
        seen = λ j u there. ⊎_elim
            (λ (in_set : get_elem? (set s.views id v) j ≡ some u). by_seat j u (at_set s.views id j v u in_set))
            (λ (last : nothing_yet ≡ u). subst (λ (z : View). IsSeen p n z) last (seen_nothing p n))
            (at_snoc (set s.views id v) nothing_yet u j there);
      }
    where
      longer : (n : ℕ) → WasRaisedBy (set s.views id v) n → WasRaisedBy (set s.views id v ++ nothing_yet ∷ []) n
      longer n (j, u, there, has) = (j, u, at_longer (set s.views id v) (nothing_yet ∷ []) j u there, has)

      by_seat : (j : ℕ) (u : View) → ((j ≡ id) × (v ≡ u)) ⊎ ((j ≢ id) × (get_elem? s.views j ≡ some u)) → IsSeen p (get_or s.words 0 0) u
      by_seat j u (inl (same, is)) = subst (λ (z : View). IsSeen p (get_or s.words 0 0) z) is (rule.seen id v at)
      by_seat j u (inr (other, there)) = rule.seen j u there

  -- two seats become one
  pub gathers : (id : ℕ) (v : View) (other : ℕ) (w : View) → Joins (IsHighest {S = S} p) id v other w (together v w) nothing_yet
  gathers id v other w s rule at apart at_other =
      let within = within_views s.views id v at in
      let n = get_or s.words 0 0 in
      let there : get_elem? s.views other ≡ some w = sym (set_else s.views id other (together v w) apart) ∙ at_other in
      record {
        one_word = rule.one_word;
        is_one = ⊎_elim (λ (z : n ≡ 0). inl z) (λ (r : WasRaisedBy s.views n). inr (moved n within there r)) rule.is_one;
        seen = λ j u found. by_other j u there (at_set (set s.views id (together v w)) other j nothing_yet u found);
      }
    where
      both_at : id < length s.views → get_elem? (set (set s.views id (together v w)) other nothing_yet) id ≡ some (together v w)
      both_at within = set_else (set s.views id (together v w)) other id nothing_yet (λ e. apart (sym e)) ∙ set_here s.views id (together v w) within

      moved : (n : ℕ) → id < length s.views → get_elem? s.views other ≡ some w → WasRaisedBy s.views n → WasRaisedBy (set (set s.views id (together v w)) other nothing_yet) n
      moved n within there (j, u, found, has) = dite {P = j ≡ id} (ℕ_discrete j id)
          (λ same.
          let is : u ≡ v = some-injective u v (sym found ∙ (ap (get_elem? s.views) same ∙ at)) in
          (id, together v w, both_at within, Contains-append_left v.raised w.raised n (subst (λ (z : View). Contains z.raised n) is has)))
          (λ not_first. dite {P = j ≡ other} (ℕ_discrete j other)
          (λ same.
          let is : u ≡ w = some-injective u w (sym found ∙ (ap (get_elem? s.views) same ∙ there)) in
          (id, together v w, both_at within, Contains-append_right v.raised w.raised n (subst (λ (z : View). Contains z.raised n) is has)))
          (λ not_second. (j, u, set_else (set s.views id (together v w)) other j nothing_yet not_second ∙ (set_else s.views id j (together v w) not_first ∙ found), has)))

      by_first : (j : ℕ) (u : View) → get_elem? s.views other ≡ some w → ((j ≡ id) × (together v w ≡ u)) ⊎ ((j ≢ id) × (get_elem? s.views j ≡ some u)) → IsSeen p (get_or s.words 0 0) u
      by_first j u there (inl (same, is)) =
          let a = rule.seen id v at in
          let b = rule.seen other w there in
          subst (λ (z : View). IsSeen p (get_or s.words 0 0) z) is record { raised = all_both (λ k. (k ≤ get_or s.words 0 0) × IsIncumbent p k) v.raised w.raised a.raised b.raised; found = omega (arith, a.found, b.found) }
      by_first j u there (inr (not_first, found)) = rule.seen j u found

      by_other : (j : ℕ) (u : View) → get_elem? s.views other ≡ some w → ((j ≡ other) × (nothing_yet ≡ u)) ⊎ ((j ≢ other) × (get_elem? (set s.views id (together v w)) j ≡ some u)) → IsSeen p (get_or s.words 0 0) u
      by_other j u there (inl (same, is)) = subst (λ (z : View). IsSeen p (get_or s.words 0 0) z) is (seen_nothing p (get_or s.words 0 0))
      by_other j u there (inr (not_second, found)) = by_first j u there (at_set s.views id j (together v w) u found)

  pub opens : IsHighest {S = S} p (opening (0 ∷ []) [] nothing_yet)
  opens = record { one_word = refl; is_one = inl refl; seen = only }
    where
      only : (j : ℕ) (u : View) → get_elem? (nothing_yet ∷ []) j ≡ some u → IsSeen p 0 u
      only zero u found = subst (λ (z : View). IsSeen p 0 z) (some-injective nothing_yet u found) (seen_nothing p 0)
      only (suc j) u found = absurd (some-ne-none u (sym found))
