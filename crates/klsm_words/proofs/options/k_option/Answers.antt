use Rattle.std.proofs.Common.{Some, ap, ◌∙◌, codes, pos}
use Rattle.klsm_run.specs.declared.limits.TheConstants.{PROGRAM_K}
use Rattle.klsm_words.specs.Options.{option_rule}
use Rattle.klsm_words.proofs.OptionLemmas.{lettered, narrowed}
use Rattle.klsm_words.proofs.options.k_option.Goals as goal

pub returns-clause-rule : goal.returns-clause-rule
returns-clause-rule c =
    let up_to_most = narrowed (pos 0) (pos PROGRAM_K) _ _ _ _ c.value_parser.ensures c.new.ensures.start c.new.ensures.end c.range-up_to_most.ensures in
    lettered c.number.result c.short.result (codes "k") _ c.short.ensures
    (c.number.ensures.rule ∙ ap (λ p. option_rule (codes "k") (codes "64") (Some p)) up_to_most)
