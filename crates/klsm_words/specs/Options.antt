-- The options of the commands, as the library clap reads them.
use Rattle.std.specs.Prelude.{ℕ, ◌≤◌, List, [], ◌∷◌, Option, Some, None, codes, if◌then◌else◌, slice_get}
use Rattle.std.specs.Prelude.{max, min, option_map, option_and_then, unwrap_or}
use Rattle.std.specs.Str.{bytes_eq}
use Rattle.std.specs.Str.Parse.{digits_value, without_leading_plus}
use Rattle.clap.specs.ValueTests.{is_unsigned_in}
use Rattle.clap.specs.Walk.{Row, Rule, Text, first_of, one_of}
use Rattle.clap.specs.Words.{App, new_rule, with_rule}
use Rattle.clap.specs.declared.builder.value_parser.ValueParser.{ValueParser}
use Rattle.clap.specs.declared.builder.value_parser.ValueParser.TheVariants as parser
use Rattle.klsm_run.specs.declared.limits.TheConstants.{PROGRAM_K, PROGRAM_THREADS}
use Rattle.klsm_parts.specs.declared.choice.Pick.{Pick}
use Rattle.klsm_parts.specs.declared.choice.Pick.TheVariants as pick
use Rattle.klsm_words.specs.declared.settings.Search.{Search}
use Rattle.klsm_words.specs.declared.settings.ScriptSettings.{ScriptSettings}

-- an option that takes one value, with what it has where no word gives it one
abbrev pub option_rule : Text → Text → Option ValueParser → Rule
option_rule name default parser = record (new_rule name) {
  long = Some name;
  value_names = 1;
  defaults = default ∷ [];
  parser = parser;
}

-- the same option by a letter too
abbrev pub with_letter : Text → Rule → Rule
with_letter letter rule = record rule { short = slice_get letter 0 }

-- `--k` or `-k`, from 0 to `PROGRAM_K`
abbrev pub k_rule : Rule
k_rule =
    with_letter (codes "k")
    (option_rule (codes "k") (codes "64") (Some (parser.Unsigned 0 PROGRAM_K)))

-- `--threads` from 1 to `PROGRAM_THREADS`, and `--k`
abbrev pub with_threads : App → App
with_threads a =
    let threads = option_rule (codes "threads") (codes "1") (Some (parser.Unsigned 1 PROGRAM_THREADS)) in
    with_rule (with_rule a threads) k_rule

-- these and `--refill`, from 0 to `PROGRAM_K`
abbrev pub with_refill : App → App
with_refill a =
    let refill = option_rule (codes "refill") (codes "0") (Some (parser.Unsigned 0 PROGRAM_K)) in
    with_rule (with_threads a) refill

-- these and `--balance`, from 0 to 2^32 - 1
abbrev pub with_balance : App → App
with_balance a =
    let balance = option_rule (codes "balance") (codes "0") (Some (parser.Unsigned 0 4294967295)) in
    with_rule (with_refill a) balance

-- these and `--pick`
abbrev pub with_pick : App → App
with_pick a = with_rule (with_balance a) (option_rule (codes "pick") (codes "first") None)

-- these and `--seed`
abbrev pub with_options : App → App
with_options a =
    let seed = option_rule (codes "seed") (codes "1")
    (Some (parser.Unsigned 0 18446744073709551615)) in
    with_rule (with_pick a) seed

-- `--threads`, `--k`, and `--idle` up to a million
abbrev pub with_search_options : App → App
with_search_options a =
    let idle = option_rule (codes "idle") (codes "64") (Some (parser.Unsigned 0 1000000)) in
    with_rule (with_threads a) idle

-- the number that a text spells, or 0 where it spells none that fits
abbrev pub number_or_zero : Text → ℕ
number_or_zero text =
    if is_unsigned_in 0 18446744073709551615 text
    then digits_value 10 (without_leading_plus text) else 0

-- the number of an option, which is within its range: the parser takes no other
abbrev pub number_at : List Row → Text → ℕ → ℕ → ℕ
number_at rows name least most =
    min (max (unwrap_or (option_map number_or_zero (one_of name rows)) 0) least) most

abbrev pub pick_of : Text → Option Pick
pick_of word =
    if bytes_eq word (codes "first") then Some pick.First
    else (if bytes_eq word (codes "last") then Some pick.Last
    else (if bytes_eq word (codes "random") then Some pick.Random else None))

-- the pick that the options name
abbrev pub pick_at : List Row → Option Pick
pick_at rows = option_and_then pick_of (first_of (codes "pick") rows)

-- what the options come to, where the word of `--pick` names one
abbrev pub settings_at : List Row → Option ScriptSettings
settings_at rows = option_map (λ pick. record {
  threads = number_at rows (codes "threads") 1 PROGRAM_THREADS;
  k = number_at rows (codes "k") 0 PROGRAM_K;
  refill = number_at rows (codes "refill") 0 PROGRAM_K;
  balance = number_at rows (codes "balance") 0 4294967295;
  pick = pick;
  seed = number_at rows (codes "seed") 0 18446744073709551615;
}) (pick_at rows)

-- what the options of a search come to
abbrev pub search_at : List Row → Search
search_at rows = record {
  threads = number_at rows (codes "threads") 1 PROGRAM_THREADS;
  k = number_at rows (codes "k") 0 PROGRAM_K;
  idle = number_at rows (codes "idle") 0 1000000;
}

abbrev pub IsSearchInRange : Search → Type 0
IsSearchInRange search = (1 ≤ search.threads) × (search.threads ≤ PROGRAM_THREADS) × (search.k ≤ PROGRAM_K)

-- what a script can be run by
abbrev pub AreInRange : ScriptSettings → Type 0
AreInRange settings =
    (1 ≤ settings.threads) × (settings.threads ≤ PROGRAM_THREADS) × (settings.k ≤ PROGRAM_K)
    × (settings.refill ≤ settings.k)
