-- A thread's list comes to the front of those that a seat knows.
use Rattle.std.proofs.Common.{◌≡◌, ◌≢◌, ℕ, zero, suc, ◌+◌, ◌<◌, ◌≤◌, cond, eqb, List, [], ◌∷◌, ◌++◌, set, sym, refl, ap, ◌∙◌, subst, ◌⊎◌, inl, inr, ⊎_elim, arith}
use mathlib.Core.Logic.{dite}
use mathlib.Core.Option.{none, some, some-ne-none}
use native.Mathlib.Decide.{ℕ_discrete}
use lib.ListN.{get_elem?}
use Rattle.std.proofs.lemmas.List.{set-get_or}
use Rattle.atomic_table.specs.Table.{Me, Allows, step}
use Rattle.atomic_table.specs.Table.Act.{keeps}
use Rattle.atomic_table.proofs.Lists.{at_set}
use Rattle.klsm_run.specs.declared.item.Item.{Item}
use Rattle.klsm_schedules.proofs.lemmas.hands.HandLemmas.{choice_hit, choice_miss}
use Rattle.klsm_board.specs.declared.sizes.Sizes.{Sizes}
use Rattle.klsm_board.specs.declared.rule.Own.{Own}
use Rattle.klsm_board.specs.declared.rule.View.{View}
use Rattle.klsm_board.specs.Turning.{steps_known, HasList, picked, left_behind, turned}
use Rattle.klsm_board.specs.Rule.{own, view, list_count, Ruled}
use Rattle.klsm_board.specs.Steps.{mine, turned_to}
use Rattle.klsm_board.proofs.lemmas.table.DealtLemmas.{list_count_in-set}
use Rattle.klsm_board.proofs.lemmas.table.KeepLemmas.{world, list_at, each_within}

-- of a list of threads that begins with thread t's
picks : (t : ℕ) (o : Own) (os : List Own) → o.thread ≡ t → picked t (o ∷ os) ≡ o ∷ []
picks t o os is = choice_hit o.thread t (o ∷ []) (picked t os) is

leaves : (t : ℕ) (o : Own) (os : List Own) → o.thread ≡ t → left_behind t (o ∷ os) ≡ os
leaves t o os is = choice_hit o.thread t os (o ∷ left_behind t os) is

-- and of one that begins with another's
picks_later : (t : ℕ) (o : Own) (os : List Own) → o.thread ≢ t → picked t (o ∷ os) ≡ picked t os
picks_later t o os not = choice_miss o.thread t (o ∷ []) (picked t os) not

leaves_later : (t : ℕ) (o : Own) (os : List Own) → o.thread ≢ t → left_behind t (o ∷ os) ≡ o ∷ left_behind t os
leaves_later t o os not = choice_miss o.thread t os (o ∷ left_behind t os) not

pub known_here : (t : ℕ) (o : Own) (os : List Own) → o.thread ≡ t → steps_known (o ∷ os) t ≡ o.steps
known_here t o os is = choice_hit o.thread t o.steps (steps_known os t) is

pub known_later : (t : ℕ) (o : Own) (os : List Own) → o.thread ≢ t → steps_known (o ∷ os) t ≡ steps_known os t
known_later t o os not = choice_miss o.thread t o.steps (steps_known os t) not

-- thread t's list, where it has one, is the first that has its number
pub record IsFound (t : ℕ) (os : List Own) : Type 0 where
  pub picked_is : picked t os ≡ own t (steps_known os t) ∷ []
  pub place : ℕ
  pub there : get_elem? os place ≡ some (own t (steps_known os t))

pub finds : (t : ℕ) (os : List Own) → HasList os t → IsFound t os
finds t [] has = absurd (omega (arith, has))
finds t (o ∷ os) has = dite (ℕ_discrete o.thread t)
    (λ is. let same : o ≡ own t (steps_known (o ∷ os) t) = (λ i. own (is i) (sym (known_here t o os is) i)) in record {
      picked_is = picks t o os is ∙ ap (λ (z : Own). z ∷ []) same;
      place = 0;
      there = ap (λ (z : Own). some z) same;
    })
    (λ not.
    let none : ◌≡◌ {A = ℕ} (cond (eqb o.thread t) 1 0) 0 = choice_miss o.thread t 1 0 not in
    let c : ℕ = cond (eqb o.thread t) 1 0 in let some_there : 1 ≤ c + list_count t os = has in
    let found = finds t os (omega (arith, some_there, none)) in let same = known_later t o os not in record {
      picked_is = picks_later t o os not ∙ (found.picked_is ∙ ap (λ z. own t z ∷ []) (sym same));
      place = suc found.place;
      there = found.there ∙ ap (λ z. some (own t z)) (sym same);
    })

-- it comes to the front
pub turned_first : (t : ℕ) (os : List Own) → HasList os t → turned t os ≡ own t (steps_known os t) ∷ left_behind t os
turned_first t os has = ap (λ (z : List Own). z ++ left_behind t os) (finds t os has).picked_is

-- the lists are as many of each thread as before
count_behind : (u : ℕ) (xs : List Own) (o : Own) (ys : List Own) → list_count u (xs ++ o ∷ ys) ≡ cond (eqb o.thread u) 1 0 + list_count u (xs ++ ys)
count_behind u [] o ys = refl
count_behind u (x ∷ xs) o ys =
    let c : ℕ = cond (eqb x.thread u) 1 0 in let d : ℕ = cond (eqb o.thread u) 1 0 in
    let more : list_count u (xs ++ o ∷ ys) ≡ d + list_count u (xs ++ ys) = count_behind u xs o ys in
    let goal : c + list_count u (xs ++ o ∷ ys) ≡ d + (c + list_count u (xs ++ ys)) = omega (arith, more) in goal

pub count_turned : (t u : ℕ) (os : List Own) → list_count u (turned t os) ≡ list_count u os
count_turned t u [] = refl
count_turned t u (o ∷ os) = dite (ℕ_discrete o.thread t)
    (λ is. ap (λ (z : List Own × List Own). list_count u (z.0 ++ z.1)) (λ i. (picks t o os is i, leaves t o os is i)))
    (λ not.
    let split : list_count u (turned t (o ∷ os)) ≡ list_count u (picked t os ++ o ∷ left_behind t os) = ap (λ (z : List Own × List Own). list_count u (z.0 ++ z.1)) (λ i. (picks_later t o os not i, leaves_later t o os not i)) in
    split ∙ (count_behind u (picked t os) o (left_behind t os) ∙ ap (λ n. cond (eqb o.thread u) 1 0 + n) (count_turned t u os)))

-- what stands in two lists together stands in one of them
in_either : {A : Type 0} (xs ys : List A) (i : ℕ) (a : A) → get_elem? (xs ++ ys) i ≡ some a → ((j : ℕ) × (get_elem? xs j ≡ some a)) ⊎ ((j : ℕ) × (get_elem? ys j ≡ some a))
in_either [] ys i a there = inr (i, there)
in_either (x ∷ xs) ys zero a there = inl (0, there)
in_either (x ∷ xs) ys (suc i) a there = ⊎_elim (λ (k : (j : ℕ) × (get_elem? xs j ≡ some a)). inl (suc k.0, k.1)) (λ (k : (j : ℕ) × (get_elem? ys j ≡ some a)). inr k) (in_either xs ys i a there)

in_first : {A : Type 0} (xs ys : List A) (i : ℕ) (a : A) → get_elem? xs i ≡ some a → (j : ℕ) × (get_elem? (xs ++ ys) j ≡ some a)
in_first [] ys i a there = absurd (some-ne-none a (sym there))
in_first (x ∷ xs) ys zero a there = (0, there)
in_first (x ∷ xs) ys (suc i) a there = let k = in_first xs ys i a there in (suc k.0, k.1)

in_second : {A : Type 0} (xs ys : List A) (i : ℕ) (a : A) → get_elem? ys i ≡ some a → (j : ℕ) × (get_elem? (xs ++ ys) j ≡ some a)
in_second [] ys i a there = (i, there)
in_second (x ∷ xs) ys i a there = let k = in_second xs ys i a there in (suc k.0, k.1)

-- a list that is turned has the same lists
picked_from : (t : ℕ) (os : List Own) (i : ℕ) (o : Own) → get_elem? (picked t os) i ≡ some o → (j : ℕ) × (get_elem? os j ≡ some o)
picked_from t [] i o there = absurd (some-ne-none o (sym there))
picked_from t (x ∷ os) i o there = dite (ℕ_discrete x.thread t)
    (λ is. let k = in_first (x ∷ []) os i o (ap (λ (z : List Own). get_elem? z i) (sym (picks t x os is)) ∙ there) in k)
    (λ not. let k = picked_from t os i o (ap (λ (z : List Own). get_elem? z i) (sym (picks_later t x os not)) ∙ there) in (suc k.0, k.1))

first_or : (x : Own) (ys os : List Own) (o : Own) → ((n : ℕ) → get_elem? ys n ≡ some o → (j : ℕ) × (get_elem? os j ≡ some o)) → (i : ℕ) → get_elem? (x ∷ ys) i ≡ some o → (j : ℕ) × (get_elem? (x ∷ os) j ≡ some o)
first_or x ys os o later zero at = (0, at)
first_or x ys os o later (suc n) at = let k = later n at in (suc k.0, k.1)

behind_from : (t : ℕ) (os : List Own) (i : ℕ) (o : Own) → get_elem? (left_behind t os) i ≡ some o → (j : ℕ) × (get_elem? os j ≡ some o)
behind_from t [] i o there = absurd (some-ne-none o (sym there))
behind_from t (x ∷ os) i o there = dite (ℕ_discrete x.thread t)
    (λ is. (suc i, ap (λ (z : List Own). get_elem? z i) (sym (leaves t x os is)) ∙ there))
    (λ not. first_or x (left_behind t os) os o (λ n at. behind_from t os n o at) i (ap (λ (z : List Own). get_elem? z i) (sym (leaves_later t x os not)) ∙ there))

pub from_turned : (t : ℕ) (os : List Own) (i : ℕ) (o : Own) → get_elem? (turned t os) i ≡ some o → (j : ℕ) × (get_elem? os j ≡ some o)
from_turned t os i o there = ⊎_elim
    (λ (k : (j : ℕ) × (get_elem? (picked t os) j ≡ some o)). picked_from t os k.0 o k.1)
    (λ (k : (j : ℕ) × (get_elem? (left_behind t os) j ≡ some o)). behind_from t os k.0 o k.1)
    (in_either (picked t os) (left_behind t os) i o there)

pub into_turned : (t : ℕ) (os : List Own) (i : ℕ) (o : Own) → get_elem? os i ≡ some o → (j : ℕ) × (get_elem? (turned t os) j ≡ some o)
into_turned t [] i o there = absurd (some-ne-none o (sym there))
into_turned t (x ∷ os) i o there = dite (ℕ_discrete x.thread t)
    (λ is. (i, ap (λ (z : List Own × List Own). get_elem? (z.0 ++ z.1) i) (λ n. (picks t x os is n, leaves t x os is n)) ∙ there))
    (λ not. let split = ap (λ (z : List Own × List Own). z.0 ++ z.1) (λ n. (picks_later t x os not n, leaves_later t x os not n)) in let k = within (λ n at. into_turned t os n o at) i there in (k.0, ap (λ (z : List Own). get_elem? z k.0) split ∙ k.1))
  where
    moved : (j : ℕ) → get_elem? (picked t os ++ left_behind t os) j ≡ some o → (k : ℕ) × (get_elem? (picked t os ++ x ∷ left_behind t os) k ≡ some o)
    moved j at = ⊎_elim
        (λ (k : (n : ℕ) × (get_elem? (picked t os) n ≡ some o)). in_first (picked t os) (x ∷ left_behind t os) k.0 o k.1)
        (λ (k : (n : ℕ) × (get_elem? (left_behind t os) n ≡ some o)). in_second (picked t os) (x ∷ left_behind t os) (suc k.0) o k.1)
        (in_either (picked t os) (left_behind t os) j o at)

    within : ((n : ℕ) → get_elem? os n ≡ some o → (j : ℕ) × (get_elem? (picked t os ++ left_behind t os) j ≡ some o)) → (i : ℕ) → get_elem? (x ∷ os) i ≡ some o
        → (k : ℕ) × (get_elem? (picked t os ++ x ∷ left_behind t os) k ≡ some o)
    within later zero at = in_second (picked t os) (x ∷ left_behind t os) 0 o at
    within later (suc n) at = let k = later n at in moved k.0 k.1

pub has_turned : (t u : ℕ) (os : List Own) → HasList os u → HasList (turned t os) u
has_turned t u os has = let same = count_turned t u os in omega (arith, has, same)

-- and each thread's list is what it was
skips_picked : (t u : ℕ) (os ys : List Own) → u ≢ t → steps_known (picked t os ++ ys) u ≡ steps_known ys u
skips_picked t u [] ys other = refl
skips_picked t u (o ∷ os) ys other = dite (ℕ_discrete o.thread t)
    (λ is. ap (λ (z : List Own). steps_known (z ++ ys) u) (picks t o os is) ∙ known_later u o ys (λ same. other (sym same ∙ is)))
    (λ not. ap (λ (z : List Own). steps_known (z ++ ys) u) (picks_later t o os not) ∙ skips_picked t u os ys other)

pub behind_known : (t u : ℕ) (os : List Own) → u ≢ t → steps_known (left_behind t os) u ≡ steps_known os u
behind_known t u [] other = refl
behind_known t u (o ∷ os) other = dite (ℕ_discrete o.thread t)
    (λ is. ap (λ (z : List Own). steps_known z u) (leaves t o os is) ∙ sym (known_later u o os (λ same. other (sym same ∙ is))))
    (λ not. ap (λ (z : List Own). steps_known z u) (leaves_later t o os not) ∙ dite (ℕ_discrete o.thread u)
    (λ is. known_here u o (left_behind t os) is ∙ sym (known_here u o os is))
    (λ n. known_later u o (left_behind t os) n ∙ (behind_known t u os other ∙ sym (known_later u o os n))))

pub same_turned : (t : ℕ) (os : List Own) → HasList os t → (u : ℕ) → steps_known (turned t os) u ≡ steps_known os u
same_turned t os has u = dite (ℕ_discrete u t)
    (λ is. ap (λ (z : List Own). steps_known z u) (turned_first t os has) ∙ (known_here u (own t (steps_known os t)) (left_behind t os) (sym is) ∙ ap (steps_known os) (sym is)))
    (λ not. skips_picked t u os (left_behind t os) not ∙ behind_known t u os not)

-- and is still there behind thread t's, where it is another's
pub has_behind : (t u : ℕ) (os : List Own) → HasList os t → u ≢ t → HasList os u → HasList (left_behind t os) u
has_behind t u os has other has' =
    let all : list_count u (own t (steps_known os t) ∷ left_behind t os) ≡ list_count u os = ap (λ (z : List Own). list_count u z) (sym (turned_first t os has)) ∙ count_turned t u os in
    let none : ◌≡◌ {A = ℕ} (cond (eqb t u) 1 0) 0 = choice_miss t u 1 0 (λ is. other (sym is)) in
    let c : ℕ = cond (eqb t u) 1 0 in let all' : c + list_count u (left_behind t os) ≡ list_count u os = all in
    omega (arith, all', none, has')

-- a load that turns the lists is allowed
module _ {S : Type 0} (content : S → List Item) (suits : ℕ → ℕ → S → Type 0) (m : Sizes) where
  pub turn_allows : (slots id t : ℕ) (me : Me S View) → t < m.threads → HasList me.0.lists t → Allows (Ruled content suits m) slots id me 0 (λ n. n) (turned_to m t (step slots 0 0 0 none) me)
  turn_allows slots id t me below has s r deep at small =
      let w : View = view (turned t me.0.lists) in
      let found = finds t me.0.lists has in
      let deals = r.dealt in let few = r.within in let one = r.once in (
        w,
        keeps,
        tt,
        subst (λ (z : List ℕ). Ruled content suits m (record { words = z; homes = s.homes; views = set s.views id w })) (sym (set-get_or s.words 0 0)) (record {
          lists = r.lists;
          schedule = r.schedule;
          wide = r.wide;
          between = r.between;
          leads = r.leads;
          dealt = λ j u e i o e'. ⊎_elim
              (λ (k : (j ≡ id) × (w ≡ u)). let there = from_turned t me.0.lists i o (ap (λ (z : View). get_elem? z.lists i) k.1 ∙ e') in deals id me.0 at there.0 o there.1)
              (λ (k : (j ≢ id) × (get_elem? s.views j ≡ some u)). deals j u k.1 i o e')
              (at_set s.views id j w u e);
          once = λ u less. let a = list_count_in-set u s.views id me.0 w at in let b = count_turned t u me.0.lists in let c = one u less in omega (arith, a, b, c);
          suited = r.suited;
          marks = r.marks;
          marked = r.marked;
          within = r.within;
        }),
        (
          refl,
          record {
            world = world content suits m s r.lists;
            schedule = r.schedule;
            leads = r.leads;
            within = λ u less. each_within m.quota r.lists few u;
            list_is = list_at r.lists t (steps_known me.0.lists t) (deals id me.0 at found.place (own t (steps_known me.0.lists t)) found.there) ∙ sym (ap (λ (z : List Own). mine (view z)) (turned_first t me.0.lists has));
            thread = below;
            has = λ i o there. let k = from_turned t me.0.lists i o there in deals id me.0 at k.0 o k.1;
          },
        ),
      )
