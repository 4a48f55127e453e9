-- The views together keep each thread's list once, whatever one seat adds to its own.
use Rattle.std.proofs.Common.{◌≡◌, ◌≢◌, ℕ, zero, suc, ◌+◌, ◌≤◌, cond, eqb, true, List, [], ◌∷◌, set, sym, refl, ap, ◌∙◌, subst, ⊎_elim, eq-eqb, arith}
use mathlib.Core.Logic.{dite}
use mathlib.Core.Option.{some, some-injective, some-ne-none}
use native.Mathlib.Decide.{ℕ_discrete}
use lib.ListN.{get_elem?}
use Rattle.atomic_table.proofs.Lists.{at_set}
use Rattle.klsm_schedules.specs.declared.step.Entry.{Entry}
use Rattle.klsm_board.specs.declared.rule.Own.{Own}
use Rattle.klsm_board.specs.declared.rule.View.{View}
use Rattle.klsm_board.specs.Rule.{own, view, list_count, list_count_in}

pub has_one : (t : ℕ) (l : List Own) (i : ℕ) (o : Own) → get_elem? l i ≡ some o → o.thread ≡ t → 1 ≤ list_count t l
has_one t [] i o e is = absurd (some-ne-none o (sym e))
has_one t (x ∷ xs) zero o e is = let h : eqb x.thread t ≡ true = eq-eqb x.thread t (ap (λ (z : Own). z.thread) (some-injective x o e) ∙ is) in let k : ◌≡◌ {A = ℕ} (cond (eqb x.thread t) 1 0) 1 = ap (λ b. cond b 1 0) h in omega (arith, k)
has_one t (x ∷ xs) (suc i) o e is = let h = has_one t xs i o e is in omega (arith, h)

-- one view's lists, within all
pub within : (t : ℕ) (vs : List View) (i : ℕ) (v : View) → get_elem? vs i ≡ some v → list_count t v.lists ≤ list_count_in t vs
within t [] i v e = absurd (some-ne-none v (sym e))
within t (x ∷ xs) zero v e = let k : list_count t x.lists ≡ list_count t v.lists = ap (λ (z : View). list_count t z.lists) (some-injective x v e) in omega (arith, k)
within t (x ∷ xs) (suc i) v e = let h = within t xs i v e in omega (arith, h)

-- the lists of two views, within all
pub apart : (t : ℕ) (vs : List View) (i j : ℕ) (v u : View) → i ≢ j → get_elem? vs i ≡ some v → get_elem? vs j ≡ some u → list_count t v.lists + list_count t u.lists ≤ list_count_in t vs
apart t [] i j v u n e e' = absurd (some-ne-none v (sym e))
apart t (x ∷ xs) zero zero v u n e e' = absurd (n refl)
apart t (x ∷ xs) zero (suc j) v u n e e' = let k : list_count t x.lists ≡ list_count t v.lists = ap (λ (z : View). list_count t z.lists) (some-injective x v e) in let h = within t xs j u e' in omega (arith, k, h)
apart t (x ∷ xs) (suc i) zero v u n e e' = let k : list_count t x.lists ≡ list_count t u.lists = ap (λ (z : View). list_count t z.lists) (some-injective x u e') in let h = within t xs i v e in omega (arith, k, h)
apart t (x ∷ xs) (suc i) (suc j) v u n e e' = let h = apart t xs i j v u (λ k. n (ap suc k)) e e' in omega (arith, h)

-- a view in place of another
pub list_count_in-set : (t : ℕ) (vs : List View) (i : ℕ) (v w : View) → get_elem? vs i ≡ some v → list_count_in t (set vs i w) + list_count t v.lists ≡ list_count_in t vs + list_count t w.lists
list_count_in-set t [] i v w e = absurd (some-ne-none v (sym e))
list_count_in-set t (x ∷ xs) zero v w e = let k : list_count t x.lists ≡ list_count t v.lists = ap (λ (z : View). list_count t z.lists) (some-injective x v e) in omega (arith, k)
list_count_in-set t (x ∷ xs) (suc i) v w e = let h = list_count_in-set t xs i v w e in omega (arith, h)

abbrev pub Deals : List (List Entry) → List View → Type 0
Deals lists views = (j : ℕ) (v : View) → get_elem? views j ≡ some v → (i : ℕ) (o : Own) → get_elem? v.lists i ≡ some o → get_elem? lists o.thread ≡ some o.steps

-- a seat, which acts for thread t and knows the lists of others behind its own, gets the list es
module _ (T : ℕ) (lists : List (List Entry)) (views : List View) (id : ℕ) (v : View) (t : ℕ) (old : List Entry) (behind : List Own) (deals : Deals lists views) (at : get_elem? views id ≡ some v) (mine : v.lists ≡ own t old ∷ behind) where
  pub my_list : get_elem? lists t ≡ some old
  my_list = deals id v at 0 (own t old) (ap (λ (l : List Own). get_elem? l 0) mine)

  -- the lists behind it are those of other threads
  pub of_others : list_count_in t views ≡ 1 → (i : ℕ) (o : Own) → get_elem? behind i ≡ some o → (o.thread ≢ t) × (get_elem? lists o.thread ≡ some o.steps)
  of_others one i o there = (
    λ is. let all = within t views id v at in
        let one_here : list_count t (own t old ∷ behind) ≡ 1 + list_count t behind = ap (λ b. cond b 1 0 + list_count t behind) (eq-eqb t t refl) in
        let mine' : list_count t v.lists ≡ list_count t (own t old ∷ behind) = ap (λ (l : List Own). list_count t l) mine in
        let more = has_one t behind i o there is in
        absurd (omega (arith, all, one, one_here, mine', more)),
    deals id v at (suc i) o (ap (λ (l : List Own). get_elem? l (suc i)) mine ∙ there),
  )

  pub deals_on : (es : List Entry) → list_count_in t views ≡ 1 → (lists' : List (List Entry)) → get_elem? lists' t ≡ some es → ((u : ℕ) → u ≢ t → get_elem? lists' u ≡ get_elem? lists u) → Deals lists' (set views id (view (own t es ∷ behind)))
  deals_on es one lists' here else j u e i o e' = ⊎_elim
      (λ (s : (j ≡ id) × (view (own t es ∷ behind) ≡ u)). only i o (ap (λ (z : View). get_elem? z.lists i) s.1 ∙ e'))
      (λ (s : (j ≢ id) × (get_elem? views j ≡ some u)). dite (ℕ_discrete o.thread t)
      (λ is. let two = apart t views id j v u (λ k. s.0 (sym k)) at s.1 in let a = has_one t v.lists 0 (own t old) (ap (λ (l : List Own). get_elem? l 0) mine) refl in let b = has_one t u.lists i o e' is in absurd (omega (arith, two, a, b, one)))
      (λ n. else o.thread n ∙ deals j u s.1 i o e'))
      (at_set views id j (view (own t es ∷ behind)) u e)
    where
      only : (i : ℕ) (o : Own) → get_elem? (own t es ∷ behind) i ≡ some o → get_elem? lists' o.thread ≡ some o.steps
      only zero o e = subst (λ (z : Own). get_elem? lists' z.thread ≡ some z.steps) (some-injective (own t es) o e) here
      only (suc i) o e = let other = of_others one i o e in else o.thread other.0 ∙ other.1

  pub once_on : (es : List Entry) (u : ℕ) → list_count_in u views ≡ 1 → list_count_in u (set views id (view (own t es ∷ behind))) ≡ 1
  once_on es u one = let a = list_count_in-set u views id v (view (own t es ∷ behind)) at in let k : ◌≡◌ {A = ℕ} (list_count u v.lists) (cond (eqb t u) 1 0 + list_count u behind) = ap (λ (l : List Own). list_count u l) mine in
      let x : ℕ = cond (eqb t u) 1 0 + list_count u behind in let a' : list_count_in u (set views id (view (own t es ∷ behind))) + list_count u v.lists ≡ list_count_in u views + x = a in let k' : list_count u v.lists ≡ x = k in omega (arith, a', k', one)
