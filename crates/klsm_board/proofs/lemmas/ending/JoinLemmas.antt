-- A seat that takes in the lists of one member after another.
use Rattle.std.proofs.Common.{◌≡◌, ℕ, zero, suc, List, [], ◌∷◌, ◌++◌, length, append_assoc, refl, sym, ap, subst, ◌∙◌}
use mathlib.Core.Option.{some, some-injective, some-ne-none}
use lib.ListN.{get_elem?}
use Rattle.klsm_board.specs.declared.board.Member.{Member}
use Rattle.klsm_board.specs.declared.rule.Own.{Own}
use Rattle.klsm_board.specs.declared.rule.View.{View}
use Rattle.klsm_board.specs.Rule.{own, view}
use Rattle.klsm_board.specs.Boards.{own_steps}
use Rattle.klsm_board.specs.Steps.{rest_of}
use Rattle.klsm_board.specs.Finishing.{Knows}

-- what stands in a list also stands there with others behind it
pub at_front : {A : Type 0} (xs ys : List A) (i : ℕ) (a : A) → get_elem? xs i ≡ some a → get_elem? (xs ++ ys) i ≡ some a
at_front [] ys i a there = absurd (some-ne-none a (sym there))
at_front (x ∷ xs) ys zero a there = there
at_front (x ∷ xs) ys (suc i) a there = at_front xs ys i a there

-- and the first behind a list stands where the list ends
pub at_end : {A : Type 0} (xs : List A) (y : A) (ys : List A) → get_elem? (xs ++ y ∷ ys) (length xs) ≡ some y
at_end [] y ys = refl
at_end (x ∷ xs) y ys = at_end xs y ys

module _ {CAP LEVELS : ℕ} where
  -- the members that are not among those left are known
  pub record AreJoined (whole left : List (Member CAP LEVELS)) (v : View) : Type 0 where
    pub gone : List (Member CAP LEVELS)
    pub whole_is : whole ≡ left ++ gone
    pub knows : (i : ℕ) (member : Member CAP LEVELS) → get_elem? gone i ≡ some member → Knows v member

  -- the last of those left is one of the whole
  pub last_of_whole : (whole left left' : List (Member CAP LEVELS)) (member : Member CAP LEVELS) (gone : List (Member CAP LEVELS)) → whole ≡ left ++ gone → left ≡ left' ++ member ∷ []
      → get_elem? whole (length left') ≡ some member
  last_of_whole whole left left' member gone whole_is last =
      ap (λ z. get_elem? z (length left')) (whole_is ∙ (ap (λ z. z ++ gone) last ∙ append_assoc left' (member ∷ []) gone)) ∙ at_end left' member gone

  -- the last member is joined to a seat that knows those behind it
  pub join_last : (whole left left' : List (Member CAP LEVELS)) (member : Member CAP LEVELS) (v w : View) → AreJoined whole left v → left ≡ left' ++ member ∷ [] → w.lists ≡ own member.number (own_steps member) ∷ rest_of w
      → AreJoined whole left' (view (v.lists ++ w.lists))
  join_last whole left left' member v w joined last mine = record {
    gone = member ∷ joined.gone;
    whole_is = joined.whole_is ∙ (ap (λ z. z ++ joined.gone) last ∙ append_assoc left' (member ∷ []) joined.gone);
    knows = each;
  }
    where
      each : (i : ℕ) (z : Member CAP LEVELS) → get_elem? (member ∷ joined.gone) i ≡ some z → Knows (view (v.lists ++ w.lists)) z
      each zero z there = subst (λ x. Knows (view (v.lists ++ w.lists)) x) (some-injective member z there)
          (length v.lists, ap (λ (l : List Own). get_elem? (v.lists ++ l) (length v.lists)) mine ∙ at_end v.lists (own member.number (own_steps member)) (rest_of w))
      each (suc i) z there = let k = joined.knows i z there in (k.0, at_front v.lists w.lists k.0 (own z.number (own_steps z)) k.1)

  -- the first seat knows its own member
  pub joins_one : (whole left : List (Member CAP LEVELS)) (member : Member CAP LEVELS) (v : View) → whole ≡ left ++ member ∷ [] → v.lists ≡ own member.number (own_steps member) ∷ rest_of v → AreJoined whole left v
  joins_one whole left member v last mine = record { gone = member ∷ []; whole_is = last; knows = only }
    where
      only : (i : ℕ) (z : Member CAP LEVELS) → get_elem? (member ∷ []) i ≡ some z → Knows v z
      only zero z there = subst (λ x. Knows v x) (some-injective member z there) (0, ap (λ (l : List Own). get_elem? l 0) mine)
      only (suc i) z there = absurd (some-ne-none z (sym there))

  -- where none is left, all are known
  pub joined_all : (whole left : List (Member CAP LEVELS)) (v : View) → AreJoined whole left v → left ≡ []
      → (i : ℕ) (member : Member CAP LEVELS) → get_elem? whole i ≡ some member → Knows v member
  joined_all whole left v joined none i member there =
      joined.knows i member (ap (λ z. get_elem? z i) (sym (joined.whole_is ∙ ap (λ z. z ++ joined.gone) none)) ∙ there)
