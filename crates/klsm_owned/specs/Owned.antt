-- Members that own a share of their board.
use Rattle.std.specs.Prelude.{◌≡◌, ℕ, ◌+◌, ◌%◌, ◌^◌, List, map}
use Rattle.std.specs.Arc.{arc_value}
use Rattle.klsm_run.specs.declared.limits.TheConstants.{MOST_K, MOST_LEVELS}
use mathlib.Core.Option.{some}
use lib.ListN.{get_elem?}
use Rattle.klsm_board.specs.declared.board.Board.{Board}
use Rattle.klsm_board.specs.declared.board.Member.{Member}
use Rattle.klsm_board.specs.Boards.{AreMembersOf, AreNewMembersOf, IsOf, IsSame}
use Rattle.klsm_board.specs.declared.balancing.Balancing.{Balancing}
use Rattle.klsm_board.specs.declared.sizes.Sizes.{Sizes}
use Rattle.klsm_board.specs.Balancing.{balancing_each}
use Rattle.klsm_board.specs.Members.{most_insertions}
use Rattle.klsm_parts.specs.declared.choice.Choice.{Choice}
use Rattle.klsm_parts.specs.declared.choice.Pick.{Pick}
use Rattle.klsm_owned.specs.declared.owned.OwnedMember.{OwnedMember}
use Rattle.klsm_parts.specs.Choices.{choice_by}

abbrev pub member_of : OwnedMember → Member MOST_K MOST_LEVELS
member_of owned = owned.member

-- the picker of its deletions
abbrev pub choice_of : OwnedMember → Choice
choice_of owned = owned.choice

-- when it balances
abbrev pub balancing_of : OwnedMember → Balancing
balancing_of owned = owned.balancing

-- the board that it has a share of
abbrev pub board_of : OwnedMember → Board MOST_K MOST_LEVELS
board_of owned = arc_value owned.board

abbrev pub members_of : List OwnedMember → List (Member MOST_K MOST_LEVELS)
members_of owned = map member_of owned

-- it is the same member of the same board
pub record IsSameOwned (before after : OwnedMember) : Type 0 where
  pub member : IsSame (member_of before) (member_of after)
  pub board : board_of after ≡ board_of before

-- the picker of the one at place i is that by this pick whose seed is greater than this one by i, modulo 2^64
abbrev pub PickBy : Pick → ℕ → List OwnedMember → Type 0
PickBy pick seed owned = (i : ℕ) (x : OwnedMember) → get_elem? owned i ≡ some x
    → choice_of x ≡ choice_by pick ((seed + i) % 2 ^ 64)

-- each of them balances before each so-manyth of its deletions, of which it has made none
abbrev pub BalanceEach : ℕ → List OwnedMember → Type 0
BalanceEach every owned = (i : ℕ) (x : OwnedMember) → get_elem? owned i ≡ some x → balancing_of x ≡ balancing_each every

-- the sizes of a board whose members may make the most insertions, and whose deletions move so many items
abbrev pub sizes_with : ℕ → ℕ → ℕ → Sizes
sizes_with threads k refill = record { threads = threads; k = k; quota = most_insertions; refill = refill }

-- all members of one new board of these sizes, in the order of their numbers, with their pickers, and when they balance
pub record AreNew (threads k : ℕ) (pick : Pick) (seed refill balance : ℕ) (owned : List OwnedMember) : Type 0 where
  pub board : Board MOST_K MOST_LEVELS
  pub sizes : board.sizes ≡ sizes_with threads k refill
  pub members : AreNewMembersOf board (members_of owned)
  pub pickers : PickBy pick seed owned
  pub balancings : BalanceEach balance owned

-- Of whichever board one of them is a member, these are its members; or there are none. No board is named,
-- so that this is a property of the members alone.
abbrev pub AreAllOfTheirBoard : List (Member MOST_K MOST_LEVELS) → Type 0
AreAllOfTheirBoard members = (i : ℕ) (member : Member MOST_K MOST_LEVELS) → get_elem? members i ≡ some member
    → (board : Board MOST_K MOST_LEVELS) → IsOf member board → AreMembersOf board members
