use Rattle.std.proofs.Common.{◌∙◌, arith, rules, tests}
use Rattle.std.proofs.lemmas.Iterator.Consumers.{YieldsList-from_rest, count_from_yields_List}
use Rattle.std.proofs.lemmas.Iterator.Search.{YieldsList-from_take_while}
use Rattle.std.proofs.lemmas.List.Folds.{length-prefix_len}
use Rattle.std.proofs.lemmas.List.Sums.{prefix_len-le-length}
use Rattle.klsm_run.specs.ItemOrder.{is_smaller}
use Rattle.klsm_tool.proofs.SkipCounterLemmas.{prefix_skipped}
use Rattle.klsm_tool.proofs.skip_counter.smaller_in.Goals as goal

pub returns-clause-skipped : goal.returns-clause-skipped
returns-clause-skipped c =
    let items = c.args.items.now.keys in
    count_from_yields_List c.take_while.result _ c.count.ensures.ran
    (YieldsList-from_take_while _ (λ other. is_smaller other c.args.item) (YieldsList-from_rest items (c.take_while.ensures.source ∙ c.iter.ensures.rest)) c.take_while.ensures.closure c.take_while.ensures.done (λ x b q k. search (rules, tests)))
    ∙ (length-prefix_len (λ other. is_smaller other c.args.item) items ∙ prefix_skipped c.args.item items c.iter.ensures.ordered)

pub returns-clause-small : goal.returns-clause-small
returns-clause-small c =
    let items = c.args.items.now.keys in
    omega (arith, returns-clause-skipped c, prefix_skipped c.args.item items c.iter.ensures.ordered, prefix_len-le-length (λ other. is_smaller other c.args.item) items, c.iter.ensures.fits)
