-- A command with one subcommand more.
use Rattle.std.proofs.Common.{◌≡◌, Result, Ok, Err, false, ap, ap₂, ◌∙◌}
use Rattle.std.specs.Prelude.{IfOk}
use Rattle.std.specs.declared.alloc.AllocError.{AllocError}
use Rattle.clap.specs.Words.{AddsSubcommand, App, app_of, with_subcommand}
use Rattle.clap.specs.declared.builder.command.Command.{Command}
use Rattle.clap.specs.declared.builder.command.Command.TheViews.{out-Command as fields_of}

pub with_one_more : (a s : Command) (app sub : App) (r : Result Command AllocError) → IfOk r (AddsSubcommand a s) → (fields_of s).has_globals ≡ false → app_of a ≡ app → app_of s ≡ sub → IfOk r (λ b. app_of b ≡ with_subcommand app sub.top)
with_one_more a s app sub (Ok b) adds local is same = adds.shape local ∙ ap₂ with_subcommand is (ap (λ (z : App). z.top) same)
with_one_more a s app sub (Err e) adds local is same = tt
