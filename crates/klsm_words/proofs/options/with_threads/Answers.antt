use Rattle.std.proofs.Common.{Some, ap, ◌∙◌, codes, pos, refl}
use Rattle.klsm_run.specs.declared.limits.TheConstants.{PROGRAM_THREADS}
use Rattle.klsm_words.specs.Options.{option_rule}
use Rattle.klsm_words.proofs.OptionLemmas.{added, added_last, last_none_global, narrowed, none_global}
use Rattle.klsm_words.proofs.options.with_threads.Goals as goal

pub returns-clause-app : goal.returns-clause-app
returns-clause-app c =
    let up_to_most = narrowed (pos 1) (pos PROGRAM_THREADS) _ _ _ _ c.value_parser.ensures c.new.ensures.start c.new.ensures.end c.range-one_to_most.ensures in
    let first = added _ _ _ _ _ c.in_ok-command.ensures c.number.ensures.local refl
    (c.number.ensures.rule ∙ ap (λ p. option_rule (codes "threads") (codes "1") (Some p)) up_to_most) in
    added_last _ _ _ _ c.arg-2.result c.arg-2.ensures c.k_option.ensures.local first c.k_option.ensures.rule

pub returns-clause-local : goal.returns-clause-local
returns-clause-local c none =
    let first = none_global _ _ _ c.in_ok-command.ensures c.number.ensures.local none in
    last_none_global _ _ c.arg-2.result c.arg-2.ensures c.k_option.ensures.local first
