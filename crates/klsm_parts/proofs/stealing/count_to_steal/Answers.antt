use Rattle.std.proofs.Common.{◌∙◌, sym, arith}
use Rattle.klsm_run.proofs.SortedLemmas.{length_sorted}
use Rattle.klsm_lsm.specs.Lsm.{content}
use Rattle.klsm_parts.specs.Parts.{items_in}
use Rattle.klsm_parts.proofs.StealLemmas.{steal_counted}
use Rattle.klsm_parts.proofs.stealing.count_to_steal.Goals as goal

pub returns-clause-count : goal.returns-clause-count
returns-clause-count g c =
    let own = items_in c.args.own.now in let victim = items_in c.args.victim.now in
    steal_counted c.args.most c.args.own.now.k own victim c.len-size.result c.k.result c.len.result c.min.result c.min-2.result
    (c.len-size.ensures.len ∙ sym (length_sorted (content c.args.victim.now.blocks))) c.k.ensures.k
    (c.len.ensures.len ∙ sym (length_sorted (content c.args.own.now.blocks)))
    c.min.ensures c.min-2.ensures

pub returns-clause-few : goal.returns-clause-few
returns-clause-few g c = omega (arith, c.len.ensures.few, length_sorted (content c.args.own.now.blocks))

pub returns-clause-lawful : goal.returns-clause-lawful
returns-clause-lawful g c = c.len-size.ensures.lawful
