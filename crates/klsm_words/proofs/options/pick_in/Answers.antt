use Rattle.std.proofs.Common.{◌∙◌, ap, codes}
use Rattle.std.specs.Prelude.{option_and_then}
use Rattle.clap.specs.Words.{found_of}
use Rattle.clap.proofs.WalkLemmas.{first_value-rows}
use Rattle.klsm_words.specs.Options.{pick_of}
use Rattle.klsm_words.proofs.options.pick_in.Goals as goal

pub returns : goal.returns
returns c = c.pick_named.ensures ∙ ap (option_and_then pick_of) (c.in_ok-get_str.ensures ∙ first_value-rows (found_of c.args.options.now) (codes "pick"))

pub returns-in_err-get_str : goal.returns-in_err-get_str
returns-in_err-get_str c = c.from_residual.ensures ∙ ap (option_and_then pick_of) (c.in_err-get_str.ensures ∙ first_value-rows (found_of c.args.options.now) (codes "pick"))
