-- The slots and the members of a new board.
use Rattle.std.proofs.Common.{◌≢◌, ◌≡◌, None, ℕ, zero, suc, replicate, ◌+◌, ◌<◌, vec_len, List, [], ◌∷◌, ◌++◌, length, get_or, slice_index_or, sym, refl, ap, ◌∙◌, subst, arith}
use mathlib.Core.Option.{some, some-injective, some-ne-none}
use mathlib.Core.Option.{Option as Maybe}
use lib.ListN.{get_elem?}
use Rattle.atomic_table.specs.Table.{Me}
use Rattle.klsm_parts.specs.Parts.{PartState, items_in}
use Rattle.klsm_schedules.specs.declared.step.Entry.{Entry}
use Rattle.klsm_schedules.specs.OwnSteps.{inserted}
use Rattle.klsm_schedules.specs.Worlds.{first_world}
use Rattle.klsm_board.specs.declared.errors.SizesError.TheVariants.{BadThreads, BadK, BadQuota, BadRefill, NoMemory}
use Rattle.klsm_board.specs.declared.sizes.Sizes.{Sizes}
use Rattle.klsm_board.specs.declared.rule.Own.{Own as Listed}
use Rattle.klsm_board.specs.declared.rule.View.{View}
use Rattle.klsm_board.specs.Steps.{AreReached}
use Rattle.klsm_board.specs.declared.slot.Slot.{Slot}
use Rattle.klsm_board.specs.declared.slot.Slot.TheVariants.{Own, Common}
use Rattle.klsm_board.specs.Rule.{own, fresh, view, world_limits, IsReached}
use Rattle.klsm_board.specs.Slots.{slot_content, IsSlotOf}
use Rattle.klsm_board.specs.Members.{IsResting}
use Rattle.klsm_board.proofs.lemmas.slots.KindLemmas.{AnyHome, no_copy}

-- a slot of a new board has its part, which is empty
pub empty_common : (k : ℕ) (part : PartState) → part ≡ record { k = k; blocks = [] } → (slot_content (Common part) ≡ []) × IsSlotOf k 0 (Common part)
empty_common k part is = (ap items_in is, (refl, ap (λ (p : PartState). p.k) is))

pub empty_own : (k i : ℕ) (home : AnyHome) → 0 < i → home.part ≡ record { k = k; blocks = [] } → vec_len home.places ≡ k → home.count ≡ 0 → home.copy ≡ None → (slot_content (Own home) ≡ []) × IsSlotOf k i (Own home)
empty_own k i home pos part places count copy =
    (ap (λ (p : PartState). items_in p) part, (pos, ap (λ (p : PartState). p.k) part, omega (arith, places), omega (arith, count), no_copy home.copy home.part.blocks copy))

-- the first of n + 1 fresh lists, and the others
pub one_more_fresh : (n from : ℕ) → fresh from (n + 1) ≡ own from [] ∷ fresh (from + 1) n
one_more_fresh n from = let a : n + 1 ≡ suc n = omega arith in let b : suc from ≡ from + 1 = omega arith in ap (fresh from) a ∙ ap (λ z. own from [] ∷ fresh z n) b

-- a seat with n fresh lists, by another term for n
pub so_many_fresh : {S : Type 0} (from n n' : ℕ) (me : Me S View) → n ≡ n' → me ≡ (view (fresh from n), []) → me ≡ (view (fresh from n'), [])
so_many_fresh {S} from n n' me same is = is ∙ ap (λ z. (view (fresh from z), [])) same

-- an empty list is that of each thread in the first world
blank : (n t : ℕ) → ◌≡◌ {A = List Entry} (get_or (replicate n []) t []) []
blank zero t = refl
blank (suc n) zero = refl
blank (suc n) (suc t) = blank n t

pub fresh_is_reached : (m : Sizes) (t : ℕ) → t < m.threads → IsReached m t []
fresh_is_reached m t thread = record {
  world = first_world (world_limits m);
  schedule = [];
  leads = refl;
  within = λ u lt. let none : ◌≡◌ {A = ℕ} (length (inserted (get_or (replicate m.threads []) u []))) 0 = ap (λ es. length (inserted es)) (blank m.threads u) in omega (arith, none);
  list_is = blank m.threads t;
  thread = thread;
}

-- and alone in a view
fresh_alone : (m : Sizes) (t : ℕ) → t < m.threads → AreReached m t (view (own t [] ∷ []))
unfolding fresh_is_reached
fresh_alone m t thread =
    let fresh = fresh_is_reached m t thread in
    record {
      world = fresh.world;
      schedule = fresh.schedule;
      leads = fresh.leads;
      within = fresh.within;
      list_is = fresh.list_is;
      thread = thread;
      has = only;
    }
  where
    there : (n i : ℕ) → i < n → ◌≡◌ {A = Maybe (List Entry)} (get_elem? (replicate n []) i) (some [])
    there zero i less = absurd (omega (arith, less))
    there (suc n) zero less = refl
    there (suc n) (suc i) less = there n i (omega (arith, less))

    only : (i : ℕ) (o : Listed) → get_elem? (own t [] ∷ []) i ≡ some o → get_elem? (replicate m.threads []) o.thread ≡ some o.steps
    only zero o at = subst (λ (z : Listed). get_elem? (replicate m.threads []) z.thread ≡ some z.steps) (some-injective (own t []) o at) (there m.threads t thread)
    only (suc i) o at = absurd (some-ne-none o (sym at))

-- a list without elements has none at any place
pub none_at_start : {A : Type 0} (xs : List A) → xs ≡ [] → (i : ℕ) (a : A) → get_elem? xs i ≡ some a → ⊥
none_at_start xs none i a at = some-ne-none a (sym (ap (λ z. get_elem? z i) (sym none) ∙ at))

-- what holds of each element by its place holds with one more at the end
pub at_new_end : {A : Type 0} (xs : List A) (x : A) (n : ℕ) → length xs ≡ n → (P : ℕ → A → Type 0) → ((i : ℕ) (a : A) → get_elem? xs i ≡ some a → P i a) → P n x → (i : ℕ) (a : A) → get_elem? (xs ++ x ∷ []) i ≡ some a → P i a
at_new_end {A} [] x n len P all last zero a e = subst (λ (z : ℕ × A). P z.0 z.1) (λ i. (sym len i, some-injective x a e i)) last
at_new_end {A} [] x n len P all last (suc i) a e = absurd (some-ne-none a (sym e))
at_new_end {A} (y ∷ ys) x n len P all last zero a e = all 0 a e
at_new_end {A} (y ∷ ys) x n len P all last (suc i) a e = at_new_end ys x (length ys) refl (λ j z. P (suc j) z) (λ j z h. all (suc j) z h) (subst (λ z. P z x) (sym len) last) i a e

-- what stands at a place within a list is found there
pub found_at : {A : Type 0} (xs : List A) (k : ℕ) (d : A) → k < length xs → get_elem? xs k ≡ some (slice_index_or xs k d)
found_at [] k d h = absurd (omega (arith, h))
found_at (x ∷ xs) zero d h = refl
found_at (x ∷ xs) (suc k) d h = found_at xs k d (omega (arith, h))

-- a member without steps
pub rests_at_first : (m : Sizes) (t : ℕ) (me : Me (Slot PartState PartState) View) → t < m.threads → me ≡ (view (own t [] ∷ []), []) → IsResting m t 0 0 me
rests_at_first m t me thread is = subst (λ (z : Me (Slot PartState PartState) View). IsResting m t 0 0 z) (sym is) (record {
  acts = refl;
  carries_none = refl;
  hand_is = refl;
  marked = refl;
  insertions_are = refl;
  deletions_are = refl;
  within = omega arith;
  few = omega arith;
  thread = thread;
  reached = ∣ fresh_alone m t thread ∣₁;
})

-- want of memory is no other cause
pub memory_is_not_threads : NoMemory ≢ BadThreads
memory_is_not_threads same = cc

pub memory_is_not_k : NoMemory ≢ BadK
memory_is_not_k same = cc

pub memory_is_not_quota : NoMemory ≢ BadQuota
memory_is_not_quota same = cc

pub memory_is_not_refill : NoMemory ≢ BadRefill
memory_is_not_refill same = cc
