-- Tries that met a lock that was not free, one after another.
use Rattle.std.proofs.Common.{◌≡◌, ℕ, zero, suc, ◌<◌, ◌≤◌, List, [], ◌∷◌, ◌++◌, refl, sym, ap, ◌∙◌, subst, inl, inr, arith}
use Rattle.std.specs.Prelude.{Option}
use Rattle.klsm_run.specs.declared.item.Item.{Item}
use Rattle.klsm_schedules.specs.declared.step.Entry.{Entry}
use Rattle.klsm_schedules.specs.declared.step.Entry.TheVariants.{Missed, Released}
use Rattle.klsm_schedules.specs.OwnSteps.{own_part}
use Rattle.klsm_board.specs.declared.errors.Busy.{Busy}
use Rattle.klsm_board.specs.declared.errors.InsertError.{InsertError}
use Rattle.klsm_board.specs.declared.errors.InsertError.TheVariants as insert
use Rattle.klsm_board.specs.declared.errors.TryInsertError.TheVariants as try_insert
use Rattle.klsm_board.specs.declared.rule.Own.{Own}
use Rattle.klsm_board.specs.declared.rule.View.{View}
use Rattle.klsm_board.specs.declared.sizes.Sizes.{Sizes}
use Rattle.klsm_board.specs.Effects.{MeetsHolder, committed_in}
use Rattle.klsm_board.specs.Entries.{own_looked}
use Rattle.klsm_board.specs.Inserting.{Misses, MissesTimes, Waits, as_tried}
use Rattle.klsm_board.specs.Rule.{own, view}
use Rattle.klsm_board.specs.Steps.{mine, rest_of, HasHolder, IsMine}
use Rattle.klsm_board.proofs.lemmas.calls.EventLemmas.{same_events}
use Rattle.klsm_board.proofs.lemmas.calls.AddLemmas.{look_quiet}

module _ (t : ℕ) (Found : List Item → Option ℕ → Type 0) where
  -- they bring no event
  pub misses_quiet : (es es' : List Entry) (busy : Busy) → Misses t Found es es' busy → committed_in es' ≡ committed_in es
  misses_quiet es es' busy (inl own) = same_events es (Missed (own_part t) busy.by ∷ []) es' own.steps refl
  misses_quiet es es' busy (inr shared) =
      same_events (own_looked t shared.own shared.look es) (Missed 0 busy.by ∷ Released (own_part t) ∷ []) es' shared.steps refl ∙ look_quiet t shared.own shared.look es

  times_quiet : (n : ℕ) (es es' : List Entry) → MissesTimes n t Found es es' → committed_in es' ≡ committed_in es
  times_quiet zero es es' none = ap committed_in none
  times_quiet (suc n) es es' some = misses_quiet some.0 es' some.1 some.3 ∙ times_quiet n es some.0 some.2

  pub waits_quiet : (es es' : List Entry) → Waits t Found es es' → committed_in es' ≡ committed_in es
  waits_quiet es es' waits = times_quiet waits.tries es es' waits.missed

  -- none yet, and one more
  pub no_wait : (es : List Entry) → Waits t Found es es
  no_wait es = record { tries = 0; missed = refl }

  pub waits_more : (es now es' : List Entry) (busy : Busy) → Waits t Found es now → Misses t Found now es' busy → Waits t Found es es'
  waits_more es now es' busy waits miss = record { tries = suc waits.tries; missed = (now, busy, waits.missed, miss) }

  -- the lock is one of the board
  pub missed_part : (threads : ℕ) (es es' : List Entry) (busy : Busy) → t < threads → Misses t Found es es' busy → busy.lock ≤ threads
  missed_part threads es es' busy within (inl own) = let is = own.lock in omega (arith, within, is)
  missed_part threads es es' busy within (inr shared) = let is = shared.lock in omega (arith, is)

-- a try met the holder of the lock
pub meets : (m : Sizes) (t part : ℕ) (v : View) (es' after : List Entry) (busy : Busy) → IsMine v t → busy.lock ≡ part → HasHolder m t v part busy.by
    → es' ≡ mine v ++ Missed part busy.by ∷ after → MeetsHolder m t (rest_of v) es' busy
meets m t part v es' after busy acts lock holder steps = record {
  at = mine v;
  after = after;
  steps = steps ∙ ap (λ p. mine v ++ Missed p busy.by ∷ after) (sym lock);
  holder = subst (λ (z : List Own × ℕ). HasHolder m t (view z.0) z.1 busy.by) (λ i. (acts i, sym lock i)) holder;
}

-- a refusal for a lock names it
pub same_busy : (a b : Busy) → try_insert.Busy a ≡ try_insert.Busy b → a ≡ b
same_busy a b is = cc

-- the one cause that is Spent among all
pub only_spent : (why : InsertError) → as_tried why ≡ try_insert.Spent → why ≡ insert.Spent
only_spent insert.Spent is = refl
only_spent insert.Full is = cc
only_spent insert.NoMemory is = cc
