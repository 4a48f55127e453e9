use Rattle.std.proofs.Common.{◌∙◌, ap, rules}
use Rattle.klsm_run.specs.Content.{sorted}
use Rattle.klsm_tool.proofs.SkipCounterLemmas.{inserted}
use Rattle.klsm_tool.proofs.skip_counter.adds.Goals as goal

pub returns-in-Ok-clause-added : goal.returns-in-Ok-clause-added
returns-in-Ok-clause-added c new = ap sorted c.in-Ok.ensures.keys ∙ inserted c.args.item c.args.items.now.keys (search rules)
