-- A call that may wait, after some tries that met a lock.
use Rattle.std.proofs.Common.{◌≡◌, ◌<◌, ◌≤◌, ℕ, List, Option, ◌++◌, ap, arith, ◌∙◌, ◌⊎◌, inl, inr, subst}
use Rattle.std.specs.List.{flat_map}
use Rattle.klsm_run.specs.declared.item.Item.{Item}
use Rattle.klsm_run.specs.declared.limits.TheConstants.{MOST_THREADS}
use Rattle.klsm_schedules.specs.declared.step.Entry.{Entry}
use Rattle.klsm_schedules.specs.OwnSteps.{inserted_by, deleted_by}
use Rattle.klsm_board.specs.declared.board.Board.{Board}
use Rattle.klsm_board.specs.declared.board.Member.{Member}
use Rattle.klsm_board.specs.declared.sizes.Sizes.{Sizes}
use Rattle.klsm_board.specs.declared.errors.Busy.{Busy}
use Rattle.klsm_board.specs.declared.errors.TryInsertError.TheVariants as try_insert
use Rattle.klsm_board.specs.Boards.{Adds, IsOf, IsSame, own_steps}
use Rattle.klsm_board.specs.Effects.{committed_in}
use Rattle.klsm_board.specs.Inserting.{Misses}
use Rattle.klsm_board.specs.Rule.{place}

module _ {CAP LEVELS : ℕ} (a b c : Member CAP LEVELS) where
  pub same_then : IsSame a b → IsSame b c → IsSame a c
  same_then s s' = (s'.0 ∙ s.0, s'.1 ∙ s.1, s'.2 ∙ s.2)

  -- what the last of the tries adds
  pub adds_then : (ins dels : List Item) → committed_in (own_steps b) ≡ committed_in (own_steps a) → Adds b c ins dels → Adds a c ins dels
  adds_then ins dels same adds = record {
    inserted_are = adds.inserted_are ∙ ap (λ z. flat_map inserted_by z ++ ins) same;
    deleted_are = adds.deleted_are ∙ ap (λ z. flat_map deleted_by z ++ dels) same;
  }

-- what is left where the second of two is not so
pub first_of_two : {A B : Type 0} → A ⊎ (B → ⊥) → B → A
first_of_two (inl a) b = a
first_of_two (inr isnt) b = absurd (isnt b)

pub busy_not_spent : (busy : Busy) → try_insert.Busy busy ≡ try_insert.Spent → ⊥
busy_not_spent busy is = cc

-- the lock that a try met is that of a part
pub lock_missed : (t threads : ℕ) (Found : List Item → Option ℕ → Type 0) (es es' : List Entry) (busy : Busy) → t < threads → Misses t Found es es' busy → busy.lock ≤ threads
lock_missed t threads Found es es' busy thread (inl own) = let lock = own.lock in omega (arith, lock, thread)
lock_missed t threads Found es es' busy thread (inr shared) = let lock = shared.lock in omega (arith, lock)

-- and so a word of the table, on which a member can sleep
module _ {CAP LEVELS : ℕ} (board : Board CAP LEVELS) (first now : Member CAP LEVELS) (of : IsOf first board) (same : IsSame first now) (lock : ℕ) (part : lock ≤ now.sizes.threads) where
  part_of_board : lock ≤ board.sizes.threads
  part_of_board = subst (λ (m : Sizes). lock ≤ m.threads) (same.1 ∙ of.1) part

  pub lock_in_range : lock ≤ MOST_THREADS
  lock_in_range = let few = board.sized.2 in let here = part_of_board in omega (arith, few, here)

  pub lock_in_table : (words : ℕ) → words ≡ board.table.shared.table_id.words → place lock < words
  lock_in_table words are = let all = board.sized.0 in let here = part_of_board in omega (arith, are, all, here)
