-- What the public calls of a board say of its members.
use Rattle.std.specs.Prelude.{◌≡◌, ℕ, ◌++◌, List, [], ◌∷◌, length}
use mathlib.Core.Option.{some}
use lib.ListN.{get_elem?}
use Rattle.klsm_run.specs.declared.item.Item.{Item}
use Rattle.klsm_schedules.specs.declared.step.Entry.{Entry}
use Rattle.klsm_schedules.specs.declared.step.Entry.TheVariants.{Missed}
use Rattle.klsm_schedules.specs.OwnSteps.{content_in, hand_of, inserted, deleted}
use Rattle.klsm_board.specs.declared.board.Board.{Board}
use Rattle.klsm_board.specs.declared.board.Member.{Member}
use Rattle.klsm_board.specs.declared.board.Held.{Held}
use Rattle.klsm_board.specs.declared.errors.HoldError.{HoldError}
use Rattle.klsm_board.specs.declared.rule.Own.{Own}
use Rattle.klsm_board.specs.declared.errors.HoldError.TheVariants.{NoSuchLock, Busy}
use Rattle.klsm_board.specs.Steps.{mine, rest_of}

-- a list has these insertions and deletions more than another
pub record Gains (before after : List Entry) (inserts deletes : List Item) : Type 0 where
  pub inserted_are : inserted after ≡ inserted before ++ inserts
  pub deleted_are : deleted after ≡ deleted before ++ deletes

module _ {CAP LEVELS : ℕ} where
  -- the member's own steps
  abbrev pub own_steps : Member CAP LEVELS → List Entry
  own_steps member = mine member.seat.me.0

  -- and what its seat knows of other threads' lists, which is nothing unless it acts for all members
  abbrev pub known_of_others : Member CAP LEVELS → List Own
  known_of_others member = rest_of member.seat.me.0

  -- and those of a member that holds a part, with the content of that part
  abbrev pub held_steps : Held CAP LEVELS → List Entry
  held_steps held = mine held.seat.me.0

  abbrev pub held_content : Held CAP LEVELS → List Item
  held_content held = content_in (hand_of held.number (held_steps held)) held.lock

  -- the member was made with this board
  abbrev pub IsOf : Member CAP LEVELS → Board CAP LEVELS → Type 0
  IsOf member board = (member.seat.table_id ≡ board.table.shared.table_id) × (member.sizes ≡ board.sizes)

  -- it is the same member of the same board
  abbrev pub IsSame : Member CAP LEVELS → Member CAP LEVELS → Type 0
  IsSame before after = (after.number ≡ before.number) × (after.sizes ≡ before.sizes) × (after.seat.table_id ≡ before.seat.table_id)

  -- a member that holds a part is this member of the same board, and has the same insertions and
  -- deletions
  pub record IsHeldBy (member : Member CAP LEVELS) (held : Held CAP LEVELS) : Type 0 where
    pub number : held.number ≡ member.number
    pub sizes : held.sizes ≡ member.sizes
    pub seat : held.seat.table_id ≡ member.seat.table_id
    pub inserted_are : inserted (held_steps held) ≡ inserted (own_steps member)
    pub deleted_are : deleted (held_steps held) ≡ deleted (own_steps member)

  -- it is one of this board
  abbrev pub IsHeldOf : Held CAP LEVELS → Board CAP LEVELS → Type 0
  IsHeldOf held board = (held.seat.table_id ≡ board.table.shared.table_id) × (held.sizes ≡ board.sizes)

  -- its list has these insertions and deletions more
  abbrev pub Adds : Member CAP LEVELS → Member CAP LEVELS → List Item → List Item → Type 0
  Adds before after inserts deletes = Gains (own_steps before) (own_steps after) inserts deletes

  -- the members of this board, in the order of their numbers
  pub record AreMembersOf (board : Board CAP LEVELS) (members : List (Member CAP LEVELS)) : Type 0 where
    pub of : (i : ℕ) (member : Member CAP LEVELS) → get_elem? members i ≡ some member → IsOf member board
    pub many : length members ≡ board.sizes.threads
    pub numbered : (i : ℕ) (member : Member CAP LEVELS) → get_elem? members i ≡ some member
        → member.number ≡ i

  -- and none of them has made a step
  pub record AreNewMembersOf (board : Board CAP LEVELS) (members : List (Member CAP LEVELS)) : Type 0 where
    pub are : AreMembersOf board members
    pub new : (i : ℕ) (member : Member CAP LEVELS) → get_elem? members i ≡ some member
        → own_steps member ≡ []

-- why a part is not held, and what the member's list gained
abbrev pub RefusesHold : ℕ → List Entry → List Entry → HoldError → Type 0
RefusesHold lock es es' NoSuchLock = es' ≡ es
RefusesHold lock es es' (Busy busy) = (busy.lock ≡ lock) × (es' ≡ es ++ Missed lock busy.by ∷ [])
