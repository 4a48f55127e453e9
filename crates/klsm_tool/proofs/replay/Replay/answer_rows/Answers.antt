use Rattle.std.proofs.Common.{◌≡◌, ℕ, ◌+◌, ◌<◌, [], ◌∷◌, refl, ap, sym, length, subst, arith}
use Rattle.klsm_tool.specs.Answering.{live_kept, pickers_kept}
use Rattle.klsm_tool.specs.Picking.{picker_of}
use Rattle.klsm_board.specs.Together.{all_lists}
use Rattle.klsm_board.specs.declared.sizes.Sizes.{Sizes}
use Rattle.klsm_text.specs.Script.{row_limit}
use Rattle.klsm_text.specs.Reading.{reader_failed}
use Rattle.klsm_text.specs.ThreadRows.{StandsAtRefusal}
use Rattle.klsm_tool.specs.Progress.{HasStopped, StandsAfter}
use Rattle.klsm_tool.proofs.CourseLemmas.{all_go_on}
use Rattle.klsm_tool.proofs.ReplayLemmas.{accepted_rows}
use Rattle.klsm_tool.proofs.replay.Replay.answer_rows.Goals as goal

pub answer_row-requires-clause-quota : goal.answer_row-requires-clause-quota
answer_row-requires-clause-quota g c = let quota = ap (λ z. z.quota) c.requires.sizes in omega (arith, quota)

pub answer_row-requires-clause-few : goal.answer_row-requires-clause-few
answer_row-requires-clause-few g c = let few = c.loop-answered.invariant.few in let test = c.loop-answered-test.true in omega (arith, few, test)

pub returns-in-Err-clause-stops : goal.returns-in-Err-clause-stops
returns-in-Err-clause-stops g c input before stands told =
    let k = c.loop-answered.invariant.stands input before stands told in
    let sizes = c.requires.sizes in
    let stopped = c.in-Err.ensures.step input before k.0 k.1 k.3 (let few : length k.0 < row_limit = omega (arith, k.2, c.loop-answered-test.true) in few) k.4 in
    subst (λ (n : ℕ). HasStopped (reader_failed c.answer_row.new.script) c.args.settings.now.threads c.args.settings.now.k (all_lists c.answer_row.new.all) input before (g.W.Write.contents c.answer_row.new.writer) (n + 1) c.answer_row.new.self.state.most c.answer_row.new.self.output c.in-Err.stop) k.2
    (subst (λ z. HasStopped (reader_failed c.answer_row.new.script) z.threads z.k (all_lists c.answer_row.new.all) input before (g.W.Write.contents c.answer_row.new.writer) (length k.0 + 1) c.answer_row.new.self.state.most c.answer_row.new.self.output c.in-Err.stop) sizes stopped)

pub loop-answered-preserved : goal.loop-answered-preserved
loop-answered-preserved g c = record {
  of = c.in_default.ensures.of;
  pickers = c.in_default.ensures.pickers;
  few = c.in_default.ensures.few c.loop-answered.answered c.loop-answered.invariant.few;
  course = c.in_default.ensures.course (picker_of c.args.settings.now) c.loop-answered.invariant.course;
  short = omega (arith, c.in_default.ensures.put, c.loop-answered.invariant.short);
  stands = λ input before stands told.
      let k = c.loop-answered.invariant.stands input before stands told in
      let next = c.in_default.ensures.step input before k.0 k.1 k.3 (let few : length k.0 < row_limit = omega (arith, k.2, c.loop-answered-test.true) in few) k.4 in
      (next.0 ∷ k.0, next.1 ∷ k.1, omega (arith, k.2), next.2, next.3);
}

pub loop-answered-init : goal.loop-answered-init
loop-answered-init g c = record {
  of = c.requires.of;
  pickers = c.requires.pickers;
  few = c.requires.few;
  course = c.requires.course;
  short = omega (arith, c.requires.put);
  stands = λ input before stands told.
      ([], [], refl, subst (λ (z : Sizes). StandsAfter g.R.Read.remaining z.threads z.k (all_lists c.args.all.now) input [] [] c.args.script.now (live_kept c.args.self.now.state) c.args.self.now.state.most) (sym c.requires.sizes) stands, told);
}

pub returns-clause-stops : goal.returns-clause-stops
returns-clause-stops g c input before stands told =
    let k = c.loop-answered.invariant.stands input before stands told in
    let all : length k.0 ≡ row_limit = omega (arith, k.2, c.loop-answered-test.false) in
    let now = subst (λ (z : Sizes). StandsAfter g.R.Read.remaining z.threads z.k (all_lists c.loop-answered.all) input k.0 k.1 c.loop-answered.script (live_kept c.loop-answered.self.state) c.loop-answered.self.state.most) c.requires.sizes k.3 in
    let stops = c.stop_behind.ensures.stops c.args.settings.now.threads c.args.settings.now.k (all_lists c.loop-answered.all) input before k.0 k.1 _ _ now all k.4 in
    subst (λ (n : ℕ). HasStopped (reader_failed c.stop_behind.new.script) c.args.settings.now.threads c.args.settings.now.k (all_lists c.loop-answered.all) input before (g.W.Write.contents c.stop_behind.new.writer) (n + 1) c.loop-answered.self.state.most c.stop_behind.new.output c.stop_behind.result) all stops

pub returns-in-Err-clause-refused : goal.returns-in-Err-clause-refused
returns-in-Err-clause-refused g c input before stands told =
    let k = c.loop-answered.invariant.stands input before stands told in
    let few : length k.0 < row_limit = omega (arith, k.2, c.loop-answered-test.true) in
    let accepted = accepted_rows c.args.board.now.sizes.threads k.0 k.1 k.3.answered in
    let threads = ap (λ z. z.threads) c.requires.sizes in
    subst (λ n. StandsAtRefusal g.R.Read.remaining n input c.answer_row.new.script c.in-Err.stop) threads (c.in-Err.ensures.refused input k.0 k.3.read accepted few)

pub returns-clause-refused : goal.returns-clause-refused
returns-clause-refused g c input before stands told =
    let k = c.loop-answered.invariant.stands input before stands told in
    let all : length k.0 ≡ row_limit = omega (arith, k.2, c.loop-answered-test.false) in
    let accepted = accepted_rows c.args.board.now.sizes.threads k.0 k.1 k.3.answered in
    let threads = ap (λ z. z.threads) c.requires.sizes in
    subst (λ n. StandsAtRefusal g.R.Read.remaining n input c.stop_behind.new.script c.stop_behind.result) threads (c.stop_behind.ensures.refused _ input k.0 k.3.read accepted all)

pub returns-in-Err-clause-course : goal.returns-in-Err-clause-course
returns-in-Err-clause-course g c =
    let settings = c.args.settings.now in
    all_go_on settings c.args.board.now.sizes (all_lists c.answer_row.new.all) (pickers_kept c.answer_row.new.self.state) c.requires.sizes c.in-Err.ensures.pickers (c.in-Err.ensures.course (picker_of settings) c.loop-answered.invariant.course)

pub returns-clause-course : goal.returns-clause-course
returns-clause-course g c =
    all_go_on c.args.settings.now c.args.board.now.sizes (all_lists c.loop-answered.all) (pickers_kept c.loop-answered.self.state) c.requires.sizes c.loop-answered.invariant.pickers c.loop-answered.invariant.course
