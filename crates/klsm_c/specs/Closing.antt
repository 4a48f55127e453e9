-- What the closing of a queue tells.
use Rattle.std.specs.Prelude.{◌≡◌, ℕ, List, length, map}
use Rattle.klsm_run.specs.declared.limits.TheConstants.{MOST_K, MOST_LEVELS}
use mathlib.Core.Option.{some}
use lib.ListN.{get_elem?}
use Rattle.klsm_schedules.specs.declared.step.Entry.{Entry}
use Rattle.klsm_schedules.specs.Account.{account}
use Rattle.klsm_board.specs.declared.board.Board.{Board}
use Rattle.klsm_board.specs.declared.board.Member.{Member}
use Rattle.klsm_board.specs.declared.sizes.Sizes.{Sizes}
use Rattle.klsm_board.specs.Boards.{IsOf, own_steps}
use Rattle.klsm_board.specs.Finishing.{AreEachOnce, AreListsAtEnd}
use Rattle.klsm_owned.specs.declared.owned.OwnedMember.{OwnedMember}
use Rattle.klsm_owned.specs.Owned.{members_of}
use Rattle.klsm_c.specs.declared.closing.Account.{Account}
use Rattle.klsm_c.specs.declared.item.PlainItem.{PlainItem}
use Rattle.klsm_c.specs.Items.{IsCopied}

-- the own steps of each of these members
abbrev pub all_steps : List OwnedMember → List (List Entry)
all_steps owned = map own_steps (members_of owned)

-- one of the members is of this board
pub record HasOneOf (board : Board MOST_K MOST_LEVELS) (members : List (Member MOST_K MOST_LEVELS)) : Type 0 where
  pub at : ℕ
  pub member : Member MOST_K MOST_LEVELS
  pub there : get_elem? members at ≡ some member
  pub of : IsOf member board

-- The members' lists are those of a world to which a schedule of legal steps leads. Each item that was
-- inserted was deleted, once, or is left, once. The account has the counts, and the least of the items
-- that are left are copied.
pub record IsAccount (members : List (Member MOST_K MOST_LEVELS)) (answer : Account) (old new : List PlainItem) : Type 0 where
  pub sizes : Sizes
  pub sizes_are : (i : ℕ) (member : Member MOST_K MOST_LEVELS) → get_elem? members i ≡ some member → member.sizes ≡ sizes
  pub at_end : AreListsAtEnd sizes (map own_steps members)
  pub each_once : AreEachOnce (map own_steps members)
  pub inserted_is : answer.inserted ≡ (account (map own_steps members)).inserted
  pub deleted_is : answer.deleted ≡ (account (map own_steps members)).deleted
  pub left_is : answer.left ≡ length (account (map own_steps members)).left
  pub copied : IsCopied (account (map own_steps members)).left old new
