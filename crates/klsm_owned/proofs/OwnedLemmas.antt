-- All members of one board, and what a member's list gains.
use Rattle.std.proofs.Common.{ℕ, List, [], ◌++◌, sym, ap, ◌∙◌}
use Rattle.std.proofs.lemmas.List.{append-nil}
use Rattle.klsm_run.specs.declared.item.Item.{Item}
use Rattle.klsm_schedules.specs.declared.step.Entry.{Entry}
use Rattle.klsm_schedules.specs.OwnSteps.{inserted, deleted}
use Rattle.klsm_board.specs.declared.sizes.Sizes.{Sizes}
use Rattle.klsm_board.specs.Boards.{Gains}
use Rattle.klsm_parts.specs.declared.choice.Pick.{Pick}
use Rattle.klsm_owned.specs.declared.owned.OwnedMember.{OwnedMember}
use Rattle.klsm_owned.specs.Owned.{AreAllOfTheirBoard, AreNew, members_of}

-- new members are all those of their board
pub new_are_all : (threads k : ℕ) (pick : Pick) (seed refill balance : ℕ) (owned : List OwnedMember) → AreNew threads k pick seed refill balance owned → AreAllOfTheirBoard (members_of owned)
new_are_all threads k pick seed refill balance owned new i member there board of =
    let are = new.members.are in let here = are.of i member there in
    record {
      of = λ j other at. let its = are.of j other at in (its.0 ∙ (sym here.0 ∙ of.0), its.1 ∙ (sym here.1 ∙ of.1));
      many = are.many ∙ ap (λ (m : Sizes). m.threads) (sym here.1 ∙ of.1);
      numbered = are.numbered;
    }

-- what a list gains in two steps, of which the first inserts and deletes nothing
pub gains_on : (a b c : List Entry) (deletes : List Item) → Gains a b [] [] → Gains b c [] deletes → Gains a c [] deletes
gains_on a b c deletes first later = record {
  inserted_are = later.inserted_are ∙ ap (λ xs. xs ++ []) (first.inserted_are ∙ append-nil (inserted a));
  deleted_are = later.deleted_are ∙ ap (λ xs. xs ++ deletes) (first.deleted_are ∙ append-nil (deleted a));
}
