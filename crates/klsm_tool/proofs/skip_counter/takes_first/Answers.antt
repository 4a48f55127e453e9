use Rattle.std.proofs.Common.{◌∙◌, sym, arith}
use Rattle.std.proofs.lemmas.Grind.{common_steps}
use Rattle.klsm_tool.proofs.SkipCounterLemmas.{popped_skips_none}
use Rattle.klsm_tool.proofs.skip_counter.takes_first.Goals as goal

pub returns-clause-taken : goal.returns-clause-taken
returns-clause-taken c taken = grind (arith, common_steps)

pub returns-clause-least : goal.returns-clause-least
returns-clause-least c taken =
    let pop = c.pop_first.ensures in
    popped_skips_none c.args.item c.pop_first.result c.args.items.now.keys c.pop_first.new.self.keys pop.removal pop.all_above (returns-clause-taken c taken) (sym c.is_some.ensures ∙ taken)
