-- All members of one board, of which one is known to be of it.
use Rattle.std.proofs.Common.{◌≡◌, ℕ, List, length, map, sym}
use Rattle.std.specs.Prelude.{All}
use Rattle.klsm_run.specs.declared.limits.TheConstants.{MOST_K, MOST_LEVELS}
use mathlib.Core.Option.{some}
use lib.ListN.{get_elem?}
use Rattle.klsm_board.specs.declared.board.Board.{Board}
use Rattle.klsm_board.specs.declared.board.Member.{Member}
use Rattle.klsm_board.specs.Boards.{AreMembersOf, IsOf, own_steps}
use Rattle.klsm_board.specs.Finishing.{AreAll, lists_of}
use Rattle.klsm_board.proofs.lemmas.ending.MemberLemmas as members_lemmas
use Rattle.klsm_owned.specs.Owned.{AreAllOfTheirBoard}
use Rattle.klsm_c.specs.Closing.{HasOneOf}

module _ (board : Board MOST_K MOST_LEVELS) (members : List (Member MOST_K MOST_LEVELS)) (whole : AreAllOfTheirBoard members) (one : HasOneOf board members) where
  are_of_board : AreMembersOf board members
  are_of_board = whole one.at one.member one.there board one.of

  pub threads_are : board.sizes.threads ≡ length members
  threads_are = sym are_of_board.many

  pub sizes_are : (i : ℕ) (member : Member MOST_K MOST_LEVELS) → get_elem? members i ≡ some member → member.sizes ≡ board.sizes
  sizes_are i member there = (are_of_board.of i member there).1

  pub all_of_board : All (λ member. IsOf member board) members
  all_of_board = members_lemmas.all_of_board board members are_of_board

  pub all_there : AreAll members board.sizes.threads
  all_there = members_lemmas.all_there board members are_of_board

  -- their lists, by their numbers, stand as the members do
  pub lists_are : lists_of board.sizes.threads members ≡ map own_steps members
  lists_are = sym (members_lemmas.lists_in_order board members are_of_board)
