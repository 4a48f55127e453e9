use Rattle.std.proofs.Common.{◌≡◌, map, take}
use Rattle.klsm_board.specs.Boards.{IsSame, own_steps}
use Rattle.klsm_knapsack.specs.Courses.{IsOnCourse}
use Rattle.klsm_tool.specs.Courses.{CallsInTurn}
use Rattle.klsm_tool.specs.Picking.{picker_of}
use Rattle.klsm_tool.specs.Shown.{shown_in}
use Rattle.klsm_text.specs.Keeping.{operation_in}
use Rattle.klsm_tool.specs.MemberCalls.{AreAnswers}
use Rattle.klsm_tool.proofs.worker.answer_all.Given as goal

-- the rows so far are answered, by calls as the settings choose them
abbrev pub invariant-loop-row : goal.invariant-loop-row
invariant-loop-row g l = record {
  same : IsSame l.initial.member l.member;
  picks : l.picker.thread ≡ l.member.number;
  course : IsOnCourse (CallsInTurn l.board.sizes l.initial.member.number) (picker_of l.settings l.initial.member.number) l.picker (own_steps l.member);
  answers : AreAnswers (map operation_in (take l.row-index l.rows)) (shown_in (own_steps l.member));
}
