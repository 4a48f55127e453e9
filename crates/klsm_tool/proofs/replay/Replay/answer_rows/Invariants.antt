use Rattle.std.proofs.Common.{◌≡◌, ℕ, ◌*◌, ◌≤◌, List, [], length, Option}
use Rattle.klsm_text.specs.declared.answer.Line.{Line}
use Rattle.klsm_tool.specs.Answering.{live_kept, picker_count, pickers_kept}
use Rattle.klsm_board.specs.Together.{AreOf, all_lists}
use Rattle.klsm_tool.specs.Courses.{AreOnCourse}
use Rattle.klsm_tool.specs.Crews.{AreFew}
use Rattle.klsm_tool.specs.Picking.{picker_of}
use Rattle.klsm_rows.specs.Rows.{Row}
use Rattle.klsm_text.specs.Output.{put_count}
use Rattle.klsm_tool.specs.Progress.{IsTold, StandsAfter}
use Rattle.klsm_tool.proofs.replay.Replay.answer_rows.Given as goal

-- so many rows are answered, and their lines are told
abbrev pub invariant-loop-answered : goal.invariant-loop-answered
invariant-loop-answered g l = record {
  of : AreOf l.all l.board;
  pickers : picker_count l.self.state ≡ l.board.sizes.threads;
  few : AreFew l.answered (all_lists l.all);
  course : AreOnCourse l.board.sizes (picker_of l.settings) (all_lists l.all) (pickers_kept l.self.state);
  short : put_count l.self.output ≤ 160 * l.answered;
  stands : (input before : Option (List ℕ)) → StandsAfter g.R.Read.remaining l.settings.threads l.settings.k (all_lists l.initial.all) input [] [] l.initial.script (live_kept l.initial.self.state) l.initial.self.state.most
      → IsTold before (g.W.Write.contents l.initial.writer) [] l.initial.self.output
      → (rows : List Row) × (lines : List Line) × (length rows ≡ l.answered) × StandsAfter g.R.Read.remaining l.board.sizes.threads l.board.sizes.k (all_lists l.all) input rows lines l.script (live_kept l.self.state) l.self.state.most
      × IsTold before (g.W.Write.contents l.writer) lines l.self.output;
}
