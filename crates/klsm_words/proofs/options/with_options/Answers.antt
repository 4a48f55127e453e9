use Rattle.std.proofs.Common.{Some, ap, ◌∙◌, codes}
use Rattle.klsm_words.specs.Options.{option_rule}
use Rattle.klsm_words.proofs.OptionLemmas.{added_last, last_none_global}
use Rattle.klsm_words.proofs.options.with_options.Goals as goal

pub returns-clause-app : goal.returns-clause-app
returns-clause-app c =
    added_last _ _ _ _ c.arg.result c.arg.ensures c.number.ensures.local c.in_ok-with_pick.ensures.app
    (c.number.ensures.rule ∙ ap (λ p. option_rule (codes "seed") (codes "1") (Some p)) c.value_parser.ensures)

pub returns-clause-local : goal.returns-clause-local
returns-clause-local c none = last_none_global _ _ c.arg.result c.arg.ensures c.number.ensures.local (c.in_ok-with_pick.ensures.local none)
