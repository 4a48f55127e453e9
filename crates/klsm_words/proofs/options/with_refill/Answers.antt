use Rattle.std.proofs.Common.{Some, ap, ◌∙◌, codes, pos}
use Rattle.klsm_run.specs.declared.limits.TheConstants.{PROGRAM_K}
use Rattle.klsm_words.specs.Options.{option_rule}
use Rattle.klsm_words.proofs.OptionLemmas.{added_last, last_none_global, narrowed}
use Rattle.klsm_words.proofs.options.with_refill.Goals as goal

pub returns-clause-app : goal.returns-clause-app
returns-clause-app c =
    let up_to_k = narrowed (pos 0) (pos PROGRAM_K) _ _ _ _ c.value_parser.ensures c.new.ensures.start c.new.ensures.end c.range-up_to_k.ensures in
    added_last _ _ _ _ c.arg.result c.arg.ensures c.number.ensures.local c.in_ok-command.ensures.app
    (c.number.ensures.rule ∙ ap (λ p. option_rule (codes "refill") (codes "0") (Some p)) up_to_k)

pub returns-clause-local : goal.returns-clause-local
returns-clause-local c none = last_none_global _ _ c.arg.result c.arg.ensures c.number.ensures.local (c.in_ok-command.ensures.local none)
