use Rattle.std.proofs.Common.{◌<◌, length, arith, ◌∙◌, sym}
use Rattle.klsm_union.proofs.HeadLemmas.{before_by_test}
use Rattle.klsm_union.proofs.counting.leads.Goals as goal

pub returns-clause-before : goal.returns-clause-before
returns-clause-before c = λ so.
    let there : 0 < length c.args.other.now = grind (arith, c.is_empty.ensures, c.if-is_empty.false) in
    before_by_test c.args.one.now c.args.other.now c.args.count _ (omega (arith, c.if-count-eq0.false)) c.if-count-one.false there c.requires (sym c.is_before.ensures ∙ so)
