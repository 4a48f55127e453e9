use Rattle.klsm_words.proofs.OptionLemmas.{added_last, last_none_global}
use Rattle.klsm_words.proofs.options.with_pick.Goals as goal

pub returns-clause-app : goal.returns-clause-app
returns-clause-app c = added_last _ _ _ _ c.arg.result c.arg.ensures c.option.ensures.local c.in_ok-with_balance.ensures.app c.option.ensures.rule

pub returns-clause-local : goal.returns-clause-local
returns-clause-local c none = last_none_global _ _ c.arg.result c.arg.ensures c.option.ensures.local (c.in_ok-with_balance.ensures.local none)
