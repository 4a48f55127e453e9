use Rattle.std.proofs.Common.{◌∙◌, ap, sym, rules}
use Rattle.klsm_run.specs.Content.{sorted}
use Rattle.klsm_run.proofs.WithoutLemmas.{sorted_without}
use Rattle.klsm_text.specs.AnswerText.{live_after}
use Rattle.klsm_tool.specs.Answering.{live_kept}
use Rattle.klsm_tool.proofs.replay_state.ReplayState.count_skip.Goals as goal

pub returns-clause-live : goal.returns-clause-live
returns-clause-live c =
    let old = live_kept c.args.self.now in
    c.remove-skip.ensures.content ∙ (sym (sorted_without c.in-Deleted.item old) ∙ ap (λ a. sorted (live_after old a)) (sym c.in-Deleted.is))

pub returns-clause-most : goal.returns-clause-most
returns-clause-most c = search rules
