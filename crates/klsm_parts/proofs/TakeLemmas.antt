-- The choice of a deletion: whether the picker is asked, and which of the candidate and the least own item goes.
use Rattle.std.proofs.Common.{◌≡◌, ℕ, ◌+◌, ◌<◌, Bool, true, false, not, List, [], ◌∷◌, length, inl, inr, Option, Some, None, MatchOption, refl, sym, ap, ◌∙◌, subst, arith, if◌then◌else◌}
use Rattle.std.specs.List.{Contains, slice_get}
use Rattle.std.proofs.lemmas.List.{length-take}
use Rattle.std.proofs.lemmas.Option.{slice_get_within, same_Some}
use Rattle.klsm_run.specs.declared.item.Item.{Item}
use Rattle.klsm_run.specs.ItemOrder.{is_smaller}
use Rattle.klsm_run.specs.Content.{sorted}
use Rattle.klsm_run.proofs.ContainsLemmas.{contains_sorted}
use Rattle.klsm_run.proofs.LesserLemmas.{less_if_smaller}
use Rattle.klsm_run.proofs.RankLemmas.{empty_if_no_least}
use Rattle.klsm_lsm.specs.Lsm.{content}
use Rattle.klsm_parts.specs.Least.{least, IsLeast}
use Rattle.klsm_parts.specs.Events.{MayTake}
use Rattle.klsm_parts.specs.Taking.{own_first, picks, lesser_of, unless_smaller, IsPicked, IsCutFrom}
use Rattle.klsm_parts.proofs.EventLemmas.{contains_cut, least_alone, least_candidate, least_own}
use Rattle.klsm_parts.proofs.OwnOrderLemmas.{rule_may_take, own_may_take}

-- what is said of the least own item, where there is one, by a test against another item
abbrev pub IsTested : Option Item → Item → Bool → Type 0
IsTested least_own y r = MatchOption least_own (r ≡ false) (λ x. r ≡ is_smaller x y)

pub not_asked : (o p : Option Item) (y : Item) (r : Bool) → p ≡ Some y → IsTested o y r → r ≡ true → picks o p ≡ false
not_asked None p y r is tested smaller = let bad : false ≡ true = sym tested ∙ smaller in cc
not_asked (Some x) p y r is tested smaller = rw is (ap not (sym tested ∙ smaller))

pub is_asked : (o p : Option Item) (y : Item) (r : Bool) → p ≡ Some y → IsTested o y r → r ≡ false → picks o p ≡ true
is_asked None p y r is tested not_smaller = rw is refl
is_asked (Some x) p y r is tested not_smaller = rw is (ap not (sym tested ∙ not_smaller))

pub own_goes : (o : Option Item) (candidate : Item) (r : Bool) → IsTested o candidate r → r ≡ true → None ≡ unless_smaller candidate o
own_goes None candidate r tested smaller = let bad : false ≡ true = sym tested ∙ smaller in cc
own_goes (Some x) candidate r tested smaller = let is : is_smaller x candidate ≡ true = sym tested ∙ smaller in rw is refl

pub candidate_goes : (o : Option Item) (candidate : Item) (r : Bool) → IsTested o candidate r → r ≡ false → Some candidate ≡ unless_smaller candidate o
candidate_goes None candidate r tested not_smaller = refl
candidate_goes (Some x) candidate r tested not_smaller = let is : is_smaller x candidate ≡ false = sym tested ∙ not_smaller in rw is refl

-- where there is a least item there is a candidate
pub some_candidate : (k : ℕ) (c : List Item) (y : Item) → slice_get (sorted c) 0 ≡ Some y → 0 < length (least (k + 1) c)
some_candidate k c y first = omega (arith, slice_get_within (sorted c) 0 y first, length-take (k + 1) (sorted c))

-- the candidate that goes by the rule for an index
abbrev pub IsRuled : ℕ → ℕ → ℕ → List Item → Item → Type 0
IsRuled k owner index shared c = slice_get (least (k + 1) shared) (own_first owner index (least (k + 1) shared)) ≡ Some c

-- where the candidate goes, and where the least own item does, that is what may be taken
go_candidate : (k owner : ℕ) (own shared : List Item) (c x : Item) (index : ℕ) (o : Option Item) → slice_get (sorted own) 0 ≡ o → IsRuled k owner index shared c → Some x ≡ unless_smaller c o → MayTake k owner own shared x
go_candidate k owner own shared c x index None first found goes =
    rule_may_take k owner index own shared c x found (subst (λ y. IsLeast y (c ∷ own)) (sym (same_Some x c goes)) (least_alone c own first))
go_candidate k owner own shared c x index (Some y) first found goes = by_test (is_smaller y c) refl goes
  where
    by_test : (b : Bool) → is_smaller y c ≡ b → Some x ≡ (if b then None else Some c) → MayTake k owner own shared x
    by_test true smaller bad = cc
    by_test false not_smaller goes =
        rule_may_take k owner index own shared c x found (subst (λ z. IsLeast z (c ∷ own)) (sym (same_Some x c goes)) (least_candidate c y own first not_smaller))

pub candidate_may_go : (k owner : ℕ) (own shared : List Item) (c x : Item) (index : ℕ) → IsRuled k owner index shared c → Some x ≡ unless_smaller c (slice_get (sorted own) 0) → MayTake k owner own shared x
candidate_may_go k owner own shared c x index found goes = go_candidate k owner own shared c x index (slice_get (sorted own) 0) refl found goes

smaller_if_none : (c x : Item) (o : Option Item) → o ≡ Some x → None ≡ unless_smaller c o → is_smaller x c ≡ true
smaller_if_none c x None is goes = cc
smaller_if_none c x (Some y) is goes = subst (λ z. is_smaller z c ≡ true) (same_Some y x is) (by_test (is_smaller y c) refl goes)
  where
    by_test : (b : Bool) → is_smaller y c ≡ b → None ≡ (if b then None else Some c) → is_smaller y c ≡ true
    by_test true smaller goes = smaller
    by_test false not_smaller bad = cc

own_may_go_asked : (k owner : ℕ) (own shared : List Item) (c x : Item) (index : ℕ) → slice_get (sorted own) 0 ≡ Some x → IsRuled k owner index shared c → None ≡ unless_smaller c (slice_get (sorted own) 0) → MayTake k owner own shared x
own_may_go_asked k owner own shared c x index first found goes =
    rule_may_take k owner index own shared c x found (least_own c x own first (smaller_if_none c x (slice_get (sorted own) 0) first goes))

own_may_go_unasked : (k owner : ℕ) (own shared : List Item) (x : Item) (p : Option Item) → slice_get (sorted own) 0 ≡ Some x → slice_get (sorted shared) 0 ≡ p → picks (Some x) p ≡ false → MayTake k owner own shared x
own_may_go_unasked k owner own shared x None first none unasked = own_may_take k owner own shared x first (inl (empty_if_no_least shared none))
own_may_go_unasked k owner own shared x (Some y) first is unasked = own_may_take k owner own shared x first (inr (y, is, less_if_smaller x y (by_test (is_smaller x y) unasked)))
  where
    by_test : (b : Bool) → not b ≡ false → b ≡ true
    by_test true same = refl
    by_test false bad = cc

-- the least own item may be taken, whether the picker was asked or not
pub own_may_go : {P : Type 0} (may_pick : P → ℕ → ℕ → P → Type 0) (before after : P) (k owner : ℕ) (own shared : List Item) (x : Item) → slice_get (sorted own) 0 ≡ Some x
    → (picks (slice_get (sorted own) 0) (slice_get (sorted shared) 0) ≡ true → IsPicked may_pick before after owner (least (k + 1) shared) (λ c. None ≡ unless_smaller c (slice_get (sorted own) 0)))
    → MayTake k owner own shared x
own_may_go may_pick before after k owner own shared x first asked = by_test (picks (slice_get (sorted own) 0) (slice_get (sorted shared) 0)) refl
  where
    by_test : (b : Bool) → picks (slice_get (sorted own) 0) (slice_get (sorted shared) 0) ≡ b → MayTake k owner own shared x
    by_test true is = let chosen = asked is in own_may_go_asked k owner own shared chosen.candidate x chosen.index first chosen.found chosen.follows
    by_test false is = own_may_go_unasked k owner own shared x (slice_get (sorted shared) 0) first refl (ap (λ o. picks o (slice_get (sorted shared) 0)) (sym first) ∙ is)

-- what is said of the picker, by another word for the least own item
pub asked_of : {P : Type 0} (may_pick : P → ℕ → ℕ → P → Type 0) (before after : P) (owner : ℕ) (cs : List Item) (p goes o own : Option Item) → o ≡ own
    → (picks o p ≡ true → IsPicked may_pick before after owner cs (λ c. goes ≡ unless_smaller c o))
    → picks own p ≡ true → IsPicked may_pick before after owner cs (λ c. goes ≡ unless_smaller c own)
asked_of may_pick before after owner cs p goes o own is asked = subst (λ o. picks o p ≡ true → IsPicked may_pick before after owner cs (λ c. goes ≡ unless_smaller c o)) is asked

-- what goes is the lesser of the candidate and the least own item
pub lesser_is_candidate : (c x : Item) (o : Option Item) → Some x ≡ unless_smaller c o → Some x ≡ Some (lesser_of c o)
lesser_is_candidate c x None goes = goes
lesser_is_candidate c x (Some y) goes = by_test (is_smaller y c) goes
  where
    by_test : (b : Bool) → Some x ≡ (if b then None else Some c) → Some x ≡ Some (if b then y else c)
    by_test true bad = cc
    by_test false goes = goes

pub lesser_is_own : (c x : Item) (o : Option Item) → o ≡ Some x → None ≡ unless_smaller c o → Some x ≡ Some (lesser_of c o)
lesser_is_own c x o is goes = let smaller = smaller_if_none c x o is goes in rw (is, smaller) refl

-- where there is no own item the candidate goes
pub none_is_smaller : (c : Item) (o : Option Item) → o ≡ None → None ≡ unless_smaller c o → ⊥
none_is_smaller c None is goes = cc
none_is_smaller c (Some y) is goes = cc

-- where the picker is not asked and there is no own item, there is no shared one
pub none_shared : (o p : Option Item) → o ≡ None → (picks o p ≡ true → ⊥) → p ≡ None
none_shared None None is unasked = refl
none_shared None (Some y) is unasked = absurd (unasked refl)
none_shared (Some x) p is unasked = cc

-- a part that an item was cut from had an item
pub some_cut : (bs rest : List (List Item)) (x : Item) → IsCutFrom x bs rest → sorted (content bs) ≡ [] → ⊥
some_cut bs rest x taken empty = in_none (contains_sorted x (content bs) (contains_cut bs rest x taken))
  where
    in_none : Contains (sorted (content bs)) x → ⊥
    in_none within = let bad : Contains [] x = subst (λ c. Contains c x) empty within in absurd (omega (arith, bad.1))

-- a candidate that goes may be taken: the picker was asked
pub chosen_may_go : {P : Type 0} (may_pick : P → ℕ → ℕ → P → Type 0) (before after : P) (k owner : ℕ) (own shared : List Item) (x : Item)
    → (picks (slice_get (sorted own) 0) (slice_get (sorted shared) 0) ≡ false → ⊥)
    → (picks (slice_get (sorted own) 0) (slice_get (sorted shared) 0) ≡ true → IsPicked may_pick before after owner (least (k + 1) shared) (λ c. Some x ≡ unless_smaller c (slice_get (sorted own) 0)))
    → MayTake k owner own shared x
chosen_may_go may_pick before after k owner own shared x unasked asked = by_test (picks (slice_get (sorted own) 0) (slice_get (sorted shared) 0)) refl
  where
    by_test : (b : Bool) → picks (slice_get (sorted own) 0) (slice_get (sorted shared) 0) ≡ b → MayTake k owner own shared x
    by_test true is = let chosen = asked is in candidate_may_go k owner own shared chosen.candidate x chosen.index chosen.found chosen.follows
    by_test false is = absurd (unasked is)
