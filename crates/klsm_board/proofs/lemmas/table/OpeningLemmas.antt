-- The table of a new board meets the rule, and goes on to do so when a seat hands over a list and
-- when two seats join.
use Rattle.std.proofs.Common.{◌≡◌, ◌≢◌, ◌⊎◌, ℕ, zero, suc, ◌+◌, ◌<◌, ◌≤◌, cond, eqb, List, [], ◌∷◌, ◌++◌, map, length, length-set, set, replicate, sym, refl, ap, ◌∙◌, subst, ⊎_elim, inl, inr, arith}
use Rattle.std.specs.Prelude.{Some}
use mathlib.Core.Logic.{dite}
use mathlib.Core.Option.{some, some-injective, some-ne-none}
use native.Mathlib.Decide.{ℕ_discrete}
use lib.ListN.{get_elem?, length-replicate}
use Rattle.atomic_table.specs.Table.{Splits, Joins, opening}
use Rattle.atomic_table.proofs.Lists.{at_set, at_snoc, set_else}
use Rattle.klsm_run.specs.declared.item.Item.{Item}
use Rattle.klsm_schedules.specs.declared.step.Entry.{Entry}
use Rattle.klsm_schedules.specs.OwnSteps.{inserted, mark_of, work_of}
use Rattle.klsm_schedules.proofs.lemmas.hands.HandLemmas.{choice_hit, choice_miss}
use Rattle.klsm_board.specs.declared.sizes.Sizes.{Sizes}
use Rattle.klsm_board.specs.declared.rule.Own.{Own}
use Rattle.klsm_board.specs.declared.rule.View.{View}
use Rattle.klsm_board.specs.Rule.{own, view, place, mark_place, fresh, everyone, list_count, list_count_in, content_at, Ruled}
use Rattle.klsm_board.proofs.lemmas.table.PlaceLemmas.{got_else, got_blank, locks_blank, locks_stay, front_set_at, mark_stays}
use Rattle.klsm_board.proofs.lemmas.table.DealtLemmas.{list_count_in-set}

-- how many lists of a thread two rows of views have
list_count_in-append : (t : ℕ) (vs ws : List View) → list_count_in t (vs ++ ws) ≡ list_count_in t vs + list_count_in t ws
list_count_in-append t [] ws = omega arith
list_count_in-append t (v ∷ vs) ws = let h = list_count_in-append t vs ws in omega (arith, h)

-- and two rows of lists
list_count-append : (t : ℕ) (os ps : List Own) → list_count t (os ++ ps) ≡ list_count t os + list_count t ps
list_count-append t [] ps = omega arith
list_count-append t (o ∷ os) ps = let h = list_count-append t os ps in omega (arith, h)

-- an element of two lists stands in one of them
at_either : {A : Type 0} (xs ys : List A) (i : ℕ) (a : A) → get_elem? (xs ++ ys) i ≡ some a → ((j : ℕ) × (get_elem? xs j ≡ some a)) ⊎ ((j : ℕ) × (get_elem? ys j ≡ some a))
at_either [] ys i a e = inr (i, e)
at_either (x ∷ xs) ys zero a e = inl (0, e)
at_either {A} (x ∷ xs) ys (suc i) a e = ⊎_elim (λ (k : (j : ℕ) × (get_elem? xs j ≡ some a)). inl (suc k.0, k.1)) (λ (k : (j : ℕ) × (get_elem? ys j ≡ some a)). inr k) (at_either xs ys i a e)

-- what fresh lists have
fresh_at : (n from i : ℕ) (o : Own) → get_elem? (fresh from n) i ≡ some o → (o.thread ≡ from + i) × (o.steps ≡ []) × (i < n)
fresh_at zero from i o e = absurd (some-ne-none o (sym e))
fresh_at (suc n) from zero o e = let k = some-injective (own from []) o e in let a : from ≡ o.thread = ap (λ (z : Own). z.thread) k in (omega (arith, a), sym (ap (λ (z : Own). z.steps) k), omega arith)
fresh_at (suc n) from (suc i) o e = let h = fresh_at n (suc from) i o e in let a = h.0 in let b = h.2 in (omega (arith, a), h.1, omega (arith, b))

none_before : (n from t : ℕ) → t < from → ◌≡◌ {A = ℕ} (list_count t (fresh from n)) 0
none_before zero from t lt = refl
none_before (suc n) from t lt = let h = none_before n (suc from) t (omega (arith, lt)) in let ne : from ≢ t = (λ e. omega (arith, e, lt)) in let k : ◌≡◌ {A = ℕ} (cond (eqb from t) 1 0) 0 = choice_miss from t 1 0 ne in omega (arith, h, k)

fresh_once : (n from t : ℕ) → from ≤ t → t < from + n → ◌≡◌ {A = ℕ} (list_count t (fresh from n)) 1
fresh_once zero from t le lt = absurd (omega (arith, le, lt))
fresh_once (suc n) from t le lt = dite (ℕ_discrete from t)
    (λ e. let k : ◌≡◌ {A = ℕ} (cond (eqb from t) 1 0) 1 = choice_hit from t 1 0 e in let h = none_before n (suc from) t (omega (arith, e)) in omega (arith, k, h))
    (λ ne. let k : ◌≡◌ {A = ℕ} (cond (eqb from t) 1 0) 0 = choice_miss from t 1 0 ne in let h = fresh_once n (suc from) t (omega (arith, le, ne)) (omega (arith, lt)) in omega (arith, k, h))

-- what a world's lists have at first
blank_at : (n i : ℕ) → i < n → get_elem? (replicate {A = List Entry} n []) i ≡ some []
blank_at zero i h = absurd (omega arith)
blank_at (suc n) zero h = refl
blank_at (suc n) (suc i) h = blank_at n i (omega arith)

blank_is : (n i : ℕ) (es : List Entry) → get_elem? (replicate {A = List Entry} n []) i ≡ some es → es ≡ []
blank_is zero i es e = absurd (some-ne-none es (sym e))
blank_is (suc n) zero es e = sym (some-injective [] es e)
blank_is (suc n) (suc i) es e = blank_is n i es e

-- a value at home is one of the values laid into the slots
some_back : {A : Type 0} (xs : List A) (p : ℕ) (y : A) → get_elem? (map some xs) p ≡ some (some y) → get_elem? xs p ≡ some y
some_back [] p y e = absurd (some-ne-none (some y) (sym e))
some_back (x ∷ xs) zero y e = some-injective (some x) (some y) e
some_back (x ∷ xs) (suc p) y e = some_back xs p y e

-- the words of a new table: all locks are free, and the front is that of no item
abbrev pub first_words : Sizes → List ℕ
first_words m = set (replicate (place (m.threads + 2)) 0) (place (m.threads + 1)) 18446744073709551615

pub length_first : (m : Sizes) → length (first_words m) ≡ place (m.threads + 2)
length_first m = length-set (replicate (place (m.threads + 2)) 0) (place (m.threads + 1)) 18446744073709551615 ∙ length-replicate (place (m.threads + 2)) 0

module _ {S : Type 0} (content : S → List Item) (suits : ℕ → ℕ → S → Type 0) (m : Sizes) where
  -- a seat gives its first list to a new one
  pub divides : (id : ℕ) (v : View) (o : Own) (os : List Own) → v.lists ≡ o ∷ os → Splits (Ruled content suits m) id v (view os) (view (o ∷ []))
  divides id v o os is s r at =
      let deals = r.dealt in
      let mine : (i : ℕ) (x : Own) → get_elem? (o ∷ os) i ≡ some x → get_elem? r.lists x.thread ≡ some x.steps = (λ i x e. deals id v at i x (ap (λ (l : List Own). get_elem? l i) is ∙ e)) in
      record {
        lists = r.lists;
        schedule = r.schedule;
        wide = r.wide;
        between = r.between;
        leads = r.leads;
        dealt = λ j u e i x e'. ⊎_elim
            (λ (in_set : get_elem? (set s.views id (view os)) j ≡ some u). ⊎_elim (λ (k : (j ≡ id) × (view os ≡ u)). mine (suc i) x (ap (λ (z : View). get_elem? z.lists i) k.1 ∙ e')) (λ (k : (j ≢ id) × (get_elem? s.views j ≡ some u)). deals j u k.1 i x e') (at_set s.views id j (view os) u in_set))
            (λ (last : view (o ∷ []) ≡ u). head r.lists i x (ap (λ (z : View). get_elem? z.lists i) last ∙ e') (mine 0 o refl))
            (at_snoc (set s.views id (view os)) (view (o ∷ [])) u j e);
        once = λ t lt.
            let one = r.once t lt in
            let a = list_count_in-set t s.views id v (view os) at in
            let b = list_count_in-append t (set s.views id (view os)) (view (o ∷ []) ∷ []) in
            let x : ℕ = cond (eqb o.thread t) 1 0 in
            let whole : list_count t v.lists ≡ x + list_count t os = ap (list_count t) is in
            let b' : list_count_in t (set s.views id (view os) ++ view (o ∷ []) ∷ []) ≡ list_count_in t (set s.views id (view os)) + ((x + 0) + 0) = b in
            omega (arith, one, a, b', whole);
        suited = r.suited;
        marks = r.marks;
        marked = r.marked;
        within = r.within;
      }
    where
      head : (L : List (List Entry)) (i : ℕ) (x : Own) → get_elem? (o ∷ []) i ≡ some x → get_elem? L o.thread ≡ some o.steps → get_elem? L x.thread ≡ some x.steps
      head L zero x e h = subst (λ (z : Own). get_elem? L z.thread ≡ some z.steps) (some-injective o x e) h
      head L (suc i) x e h = absurd (some-ne-none x (sym e))

  -- a seat takes in the lists of another
  pub gathers : (id : ℕ) (v : View) (other : ℕ) (w : View) → Joins (Ruled content suits m) id v other w (view (v.lists ++ w.lists)) (view [])
  gathers id v other w s r at apart' there =
      let deals = r.dealt in
      let both : View = view (v.lists ++ w.lists) in
      let theirs : get_elem? s.views other ≡ some w = sym (set_else s.views id other both apart') ∙ there in
      record {
        lists = r.lists;
        schedule = r.schedule;
        wide = r.wide;
        between = r.between;
        leads = r.leads;
        dealt = λ j u e i x e'. ⊎_elim
            (λ (k : (j ≡ other) × (view [] ≡ u)). absurd (some-ne-none x (sym (ap (λ (z : View). get_elem? z.lists i) k.1 ∙ e'))))
            (λ (k : (j ≢ other) × (get_elem? (set s.views id both) j ≡ some u)). ⊎_elim
            (λ (q : (j ≡ id) × (both ≡ u)). ⊎_elim (λ (z : (n : ℕ) × (get_elem? v.lists n ≡ some x)). deals id v at z.0 x z.1) (λ (z : (n : ℕ) × (get_elem? w.lists n ≡ some x)). deals other w theirs z.0 x z.1)
            (at_either v.lists w.lists i x (ap (λ (z : View). get_elem? z.lists i) q.1 ∙ e')))
            (λ (q : (j ≢ id) × (get_elem? s.views j ≡ some u)). deals j u q.1 i x e')
            (at_set s.views id j both u k.1))
            (at_set (set s.views id both) other j (view []) u e);
        once = λ t lt.
            let one = r.once t lt in
            let a = list_count_in-set t s.views id v both at in
            let b = list_count_in-set t (set s.views id both) other w (view []) there in
            let c : list_count t both.lists ≡ list_count t v.lists + list_count t w.lists = list_count-append t v.lists w.lists in
            let b' : list_count_in t (set (set s.views id both) other (view [])) + list_count t w.lists ≡ list_count_in t (set s.views id both) + 0 = b in
            omega (arith, one, a, b', c);
        suited = r.suited;
        marks = r.marks;
        marked = r.marked;
        within = r.within;
      }

  all_empty : (xs : List S) → ((i : ℕ) (y : S) → get_elem? xs i ≡ some y → content y ≡ []) → map (content_at content) (map some xs) ≡ replicate (length xs) (Some [])
  all_empty [] h = refl
  all_empty (x ∷ xs) h = λ i. Some (h 0 x refl i) ∷ all_empty xs (λ j y e. h (suc j) y e) i

  -- at first, where each slot has its part and the part is empty
  pub opens : (xs : List S) → length xs ≡ m.threads + 1 → ((i : ℕ) (y : S) → get_elem? xs i ≡ some y → (content y ≡ []) × suits m.k i y) → Ruled content suits m (opening (first_words m) xs (everyone m))
  opens xs len each = record {
    lists = replicate m.threads [];
    schedule = [];
    wide = length_first m;
    between = λ i none unmarked. got_else (replicate (place (m.threads + 2)) 0) (place (m.threads + 1)) i 18446744073709551615 (none (m.threads + 1)) ∙ got_blank (place (m.threads + 2)) i;
    leads = λ i. record { words = (locks_stay m (replicate (place (m.threads + 2)) 0) 18446744073709551615 ∙ locks_blank 0 (m.threads + 1) (place (m.threads + 2))) i; front = front_set_at m (replicate (place (m.threads + 2)) 0) 18446744073709551615 (length-replicate (place (m.threads + 2)) 0) i; homes = (all_empty xs (λ j y e. (each j y e).0) ∙ ap (λ n. replicate n (Some [])) len) i; lists = replicate m.threads [] };
    dealt = λ j v e i o e'. one_view j v e i o e';
    once = λ t lt. let h = fresh_once m.threads 0 t (omega arith) (omega (arith, lt)) in omega (arith, h);
    suited = λ p y e. (each p y (some_back xs p y e)).1;
    marks = λ t es e. ap (λ (z : ℕ × List Entry). z.0 + mark_of z.1) (λ i. ((mark_stays (replicate (place (m.threads + 2)) 0) (m.threads + 1) 18446744073709551615 t ∙ got_blank (place (m.threads + 2)) (mark_place t)) i, blank_is m.threads t es e i));
    marked = λ t es e away. ap (λ z. mark_of z) (blank_is m.threads t es e) ∙ sym (ap (λ z. work_of z) (blank_is m.threads t es e));
    within = λ t es e. let none : ◌≡◌ {A = ℕ} (length (inserted es)) 0 = ap (λ z. length (inserted z)) (blank_is m.threads t es e) in omega (arith, none);
  }
    where
      one_view : (j : ℕ) (v : View) → get_elem? (everyone m ∷ []) j ≡ some v → (i : ℕ) (o : Own) → get_elem? v.lists i ≡ some o → get_elem? (replicate m.threads []) o.thread ≡ some o.steps
      one_view zero v e i o e' = let f = fresh_at m.threads 0 i o (ap (λ (z : View). get_elem? z.lists i) (some-injective (everyone m) v e) ∙ e') in
          let a = f.0 in let b = f.2 in blank_at m.threads o.thread (omega (arith, a, b)) ∙ ap some (sym f.1)
      one_view (suc j) v e i o e' = absurd (some-ne-none v (sym e))
