use Rattle.std.proofs.Common.{◌∙◌, sym, arith}
use Rattle.klsm_run.proofs.SortedLemmas.{length_sorted}
use Rattle.klsm_lsm.specs.Lsm.{content}
use Rattle.klsm_parts.specs.Parts.{items_in}
use Rattle.klsm_parts.proofs.RefillLemmas.{counted}
use Rattle.klsm_parts.proofs.refilling.count_to_move.Goals as goal

pub returns-clause-count : goal.returns-clause-count
returns-clause-count g c =
    let own = items_in c.args.own.now in let shared = items_in c.args.shared.now in
    counted c.args.most c.args.own.now.k own shared c.k.result c.len.result c.len-2.result c.min.result c.min-2.result c.k.ensures.k
    (c.len.ensures.len ∙ sym (length_sorted (content c.args.own.now.blocks))) (c.len-2.ensures.len ∙ sym (length_sorted (content c.args.shared.now.blocks)))
    c.min.ensures c.min-2.ensures

pub returns-clause-few : goal.returns-clause-few
returns-clause-few g c = omega (arith, c.len.ensures.few, length_sorted (content c.args.own.now.blocks))

pub returns-clause-lawful : goal.returns-clause-lawful
returns-clause-lawful g c = c.len-2.ensures.lawful
