use Rattle.klsm_words.proofs.OptionLemmas.{local_too, parsed}
use Rattle.klsm_words.proofs.options.number.Goals as goal

pub returns-clause-rule : goal.returns-clause-rule
returns-clause-rule c =
    let with = c.value_parser.ensures in
    parsed c.option.result c.value_parser.result with.given.0 _ c.args.name.now c.args.default.now with.others with.given.1 with.given.2 c.option.ensures.rule

pub returns-clause-local : goal.returns-clause-local
returns-clause-local c = local_too c.option.result c.value_parser.result c.value_parser.ensures.others c.option.ensures.local
