use Rattle.std.proofs.Common.{Some, ap, ◌∙◌, codes, pos}
use Rattle.klsm_words.specs.Options.{option_rule}
use Rattle.klsm_words.proofs.OptionLemmas.{added_last, last_none_global, narrowed}
use Rattle.klsm_words.proofs.options.with_balance.Goals as goal

pub returns-clause-app : goal.returns-clause-app
returns-clause-app c =
    let up_to_most = narrowed (pos 0) (pos 4294967295) _ _ _ _ c.value_parser.ensures c.new.ensures.start c.new.ensures.end c.range-up_to_most.ensures in
    added_last _ _ _ _ c.arg.result c.arg.ensures c.number.ensures.local c.in_ok-command.ensures.app
    (c.number.ensures.rule ∙ ap (λ p. option_rule (codes "balance") (codes "0") (Some p)) up_to_most)

pub returns-clause-local : goal.returns-clause-local
returns-clause-local c none = last_none_global _ _ c.arg.result c.arg.ensures c.number.ensures.local (c.in_ok-command.ensures.local none)
