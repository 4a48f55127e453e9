use Rattle.std.proofs.Common.{◌∙◌, ap}
use Rattle.std.specs.Prelude.{max, min}
use Rattle.std.specs.Str.Parse.{ExplainsUnsignedError, HasUnsignedDigitsIfOk, ParsesUnsigned}
use Rattle.clap.specs.Words.{found_of}
use Rattle.klsm_words.proofs.OptionLemmas.{number_found}
use Rattle.klsm_words.proofs.options.number_in.Goals as goal

pub returns : goal.returns
returns c =
    let found = number_found (λ text r. ParsesUnsigned 64 10 text r × ExplainsUnsignedError 10 text r × HasUnsignedDigitsIfOk text r)
    (found_of c.args.options.now) c.args.name.now c.get_one.result c.get_one.ensures.none c.get_one.ensures.value (λ text r gives. gives.0) in
    c.min.ensures ∙ ap (λ n. min n c.args.most) (c.max.ensures ∙ ap (λ n. max n c.args.least) (c.unwrap_or.ensures ∙ found))
