use Rattle.std.proofs.Common.{◌≡◌, ℕ, List, Option, Some, Result, Ok, Err, true, ap, ap₂, map, refl, sym, ◌∙◌, subst, inl, inr}
use Rattle.std.specs.Prelude.{◌⊎◌, IfErr, IfOk, OnOk, IsUtf8}
use Rattle.std.specs.List.{All}
use Rattle.clap.specs.Words.{App, HasMatchesOf, IsAmong, fault_of, is_simple, is_simple_and_free, subcommand_of, subcommand_rows_of}
use Rattle.clap.specs.declared.parser.matches.ArgMatches.{ArgMatches}
use Rattle.clap.specs.declared.error.kind.ErrorKind.{ErrorKind}
use Rattle.clap.specs.declared.error.kind.ErrorKind.TheVariants as kind
use Rattle.clap.proofs.OnLiterals.{clap_on_literals}
use Rattle.klsm_words.specs.declared.command_line.Fault.{Fault}
use Rattle.klsm_words.specs.declared.command_line.Fault.TheVariants.{Said, UnknownPick, BadRefill, NotText, NoMemory}
use Rattle.klsm_words.specs.declared.command_line.Action.{Action}
use Rattle.klsm_words.specs.CommandLine.{IsCommand, action_in, action_under, found_in, klsm_command}
use Rattle.klsm_words.specs.CommandLine.{Explains, IsFaultIn, IsFaultOf}
use Rattle.klsm_words.proofs.command_line.parse.Goals as goal

-- the command is one of which the parser's answers are known
command_simple : (a : App) → a ≡ klsm_command → is_simple_and_free a ≡ true
unfolding clap_on_literals
command_simple a is = subst (λ (b : App). is_simple_and_free b ≡ true) (sym is) refl

-- what the parser finds in the texts of the words
found_is : (a : App) (texts words : List (List ℕ)) → a ≡ klsm_command → texts ≡ words → fault_of a texts ≡ found_in words
unfolding found_in
found_is a texts words is same = ap₂ fault_of is same

-- an error of the parser, as a fault in the words
explained : (words : List (List ℕ)) (what : ErrorKind) (fault : Fault) → All IsUtf8 words → (what ≡ kind.OutOfMemory) ⊎ IsAmong what (found_in words) → Explains what fault → (what ≡ kind.OutOfMemory → fault ≡ NoMemory) → IsFaultIn words fault
explained words what NoMemory text among explains memory = tt
explained words what UnknownPick text among explains memory = absurd explains
explained words what BadRefill text among explains memory = absurd explains
explained words what NotText text among explains memory = absurd explains
explained words what (Said said status) text (inr among) explains memory = (text, (what, among, explains))
explained words what (Said said status) text (inl lacks) explains memory = subst (IsFaultIn words) (sym (memory lacks)) tt

-- the command is one of which the parser's matches are known
matches_known : (a : App) → a ≡ klsm_command → is_simple a ≡ true
unfolding clap_on_literals
matches_known a is = subst (λ (b : App). is_simple b ≡ true) (sym is) refl

-- what the words ask for is what the subcommand does that was found
action_found : (a : App) (texts words : List (List ℕ)) (m : ArgMatches) → a ≡ klsm_command → texts ≡ words → HasMatchesOf a texts m → action_in words ≡ action_under (subcommand_rows_of m)
unfolding action_in
action_found a texts words m is same has = sym (ap action_under ((has (matches_known a is)).1 ∙ ap₂ subcommand_of is same))

-- what is refused of what the words ask for is a fault in them
refused_in : (words : List (List ℕ)) (asked : Option Action) (fault : Fault) → IsCommand words → action_in words ≡ asked → IsFaultOf asked fault → IsFaultIn words fault
refused_in words asked UnknownPick command found is = (command, found ∙ is)
refused_in words asked BadRefill command found is = (command, (is.0, found ∙ is.1, is.2))
refused_in words asked (Said said status) command found is = absurd is
refused_in words asked NotText command found is = absurd is
refused_in words asked NoMemory command found is = absurd is

run_refused : (words : List (List ℕ)) (asked : Option Action) (r : Result Action Fault) → IfErr r (IsFaultOf asked) → IsCommand words → action_in words ≡ asked → IfErr r (IsFaultIn words)
run_refused words asked (Err fault) is command found = refused_in words asked fault command found is
run_refused words asked (Ok action) is command found = tt

action_asked : (words : List (List ℕ)) (asked : Option Action) (r : Result Action Fault) → IfOk r (λ action. asked ≡ Some action) → action_in words ≡ asked → IfOk r (λ action. action_in words ≡ Some action)
action_asked words asked (Ok action) is found = found ∙ is
action_asked words asked (Err fault) is found = tt

command_asked : (words : List (List ℕ)) (r : Result Action Fault) → IsCommand words → OnOk r (IsCommand words)
command_asked words (Ok action) command = command
command_asked words (Err fault) command = tt

pub returns-in-Ok-try_get_matches_from-clause-asked : goal.returns-in-Ok-try_get_matches_from-clause-asked
returns-in-Ok-try_get_matches_from-clause-asked c =
    let same = ap (map (λ text. text.now)) c.as_slice.ensures.value ∙ c.in_ok-texts.ensures.texts in
    command_asked _ c.run_of.result (c.in_ok-texts.ensures.readable, sym (found_is _ _ _ c.in-Ok.ensures same) ∙ c.in-Ok-try_get_matches_from.ensures.kinds (command_simple _ c.in-Ok.ensures))

pub returns-in-Ok-try_get_matches_from-clause-action : goal.returns-in-Ok-try_get_matches_from-clause-action
returns-in-Ok-try_get_matches_from-clause-action c =
    let same = ap (map (λ text. text.now)) c.as_slice.ensures.value ∙ c.in_ok-texts.ensures.texts in
    action_asked _ c.action_in.result c.run_of.result c.run_of.ensures.action (action_found _ _ _ c.in-Ok-try_get_matches_from.matches c.in-Ok.ensures same c.in-Ok-try_get_matches_from.ensures.matches ∙ sym c.action_in.ensures.action)

pub returns-in-Ok-try_get_matches_from-clause-fault : goal.returns-in-Ok-try_get_matches_from-clause-fault
returns-in-Ok-try_get_matches_from-clause-fault c =
    let same = ap (map (λ text. text.now)) c.as_slice.ensures.value ∙ c.in_ok-texts.ensures.texts in
    run_refused _ c.action_in.result c.run_of.result c.run_of.ensures.fault (c.in_ok-texts.ensures.readable, sym (found_is _ _ _ c.in-Ok.ensures same) ∙ c.in-Ok-try_get_matches_from.ensures.kinds (command_simple _ c.in-Ok.ensures)) (action_found _ _ _ c.in-Ok-try_get_matches_from.matches c.in-Ok.ensures same c.in-Ok-try_get_matches_from.ensures.matches ∙ sym c.action_in.ensures.action)

pub returns-clause-fault : goal.returns-clause-fault
returns-clause-fault c =
    let same = ap (map (λ text. text.now)) c.as_slice.ensures.value ∙ c.in_ok-texts.ensures.texts in
    explained _ _ c.fault_of.result c.in_ok-texts.ensures.readable (rw (found_is _ _ _ c.in-Ok.ensures same) at c.in-Err.ensures.kinds (command_simple _ c.in-Ok.ensures)) c.fault_of.ensures.fault c.fault_of.ensures.memory
