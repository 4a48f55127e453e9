use Rattle.std.proofs.Common.{◌≡◌, ℕ, List, Result, Ok, Err, refl, ◌∙◌, codes}
use Rattle.std.specs.Prelude.{IfOk, IsSomeAnd}
use Rattle.std.specs.declared.alloc.AllocError.{AllocError}
use Rattle.clap.specs.Words.{App, app_of}
use Rattle.clap.specs.declared.builder.command.Command.{Command}
use Rattle.clap.specs.declared.builder.command.Command.TheViews.{out-Command as fields_of}
use Rattle.klsm_words.specs.CommandLine.{klsm_command}
use Rattle.klsm_words.proofs.command_line.command.Goals as goal

-- the name that the texts give a command is no matter of what it reads
same_app : (a b : Command) → fields_of b ≡ record (fields_of a) { bin_name = (fields_of b).bin_name } → app_of b ≡ app_of a
same_app a b is = rw is refl

named : (a : Command) (name : List ℕ) (app : App) (r : Result Command AllocError) → IfOk r (λ b. (fields_of b ≡ record (fields_of a) { bin_name = (fields_of b).bin_name }) × IsSomeAnd (fields_of b).bin_name (λ s. s.bytes.items ≡ name)) → app_of a ≡ app → IfOk r (λ b. app_of b ≡ app)
named a name app (Ok b) is was = same_app a b is.0 ∙ was
named a name app (Err e) is was = tt

pub returns : goal.returns
returns c = named c.in_ok-command.command (codes "klsm") klsm_command c.bin_name.result c.bin_name.ensures c.in_ok-command.ensures
