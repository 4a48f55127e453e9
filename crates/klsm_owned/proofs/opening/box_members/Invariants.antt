use Rattle.std.proofs.Common.{◌≡◌, ◌+◌, ◌++◌, length, map}
use Rattle.std.specs.Prelude.{All}
use Rattle.std.specs.Arc.{arc_value}
use Rattle.klsm_board.specs.Boards.{IsOf}
use Rattle.klsm_owned.specs.Owned.{BalanceEach, PickBy, members_of}
use Rattle.klsm_owned.proofs.opening.box_members.Given as goal

abbrev pub invariant-loop-number : goal.invariant-loop-number
invariant-loop-number l = record {
  left : length l.members.items + l.number ≡ length l.fn.members.items;
  of : All (λ member. IsOf member (arc_value l.board)) l.members.items;
  made : length l.boxes.items ≡ l.number;
  boxed : members_of (map (λ b. b.value) l.boxes.items) ++ l.members.items ≡ l.fn.members.items;
  pickers : PickBy l.pick l.seed (map (λ b. b.value) l.boxes.items);
  balancings : BalanceEach l.balance (map (λ b. b.value) l.boxes.items);
}
