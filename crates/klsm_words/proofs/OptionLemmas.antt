-- What the options of a command come to.
use Rattle.std.proofs.Common.{◌≡◌, ◌||◌, ℕ, Bool, true, false, List, Option, Some, None, Result, Ok, Err, arith, refl, ap, ap₂, ◌∙◌, subst, ℤ}
use Rattle.std.specs.Prelude.{IfOk, option_map, slice_get, unwrap_or}
use Rattle.std.specs.declared.alloc.AllocError.{AllocError}
use Rattle.std.specs.Str.Parse.{ParsesUnsigned}
use Rattle.clap.specs.Matches.{ReadsOne, one_text}
use Rattle.clap.proofs.WalkLemmas.{one_text-rows}
use Rattle.clap.specs.Walk.{Rule, Text, one_of}
use Rattle.clap.specs.Words.{Accepts, AddsArg, App, NarrowsTo, app_of, rows_of, rule_of, with_rule}
use Rattle.clap.specs.declared.builder.arg.Arg.{Arg}
use Rattle.clap.specs.declared.builder.command.Command.{Command}
use Rattle.clap.specs.declared.builder.command.Command.TheViews.{out-Command as fields_of}
use Rattle.clap.specs.declared.builder.value_parser.ValueParser.{ValueParser}
use Rattle.clap.specs.declared.parser.matches.Found.{Found}
use Rattle.clap.specs.ValueTests.{is_unsigned_in}
use Rattle.clap.proofs.ValueTestLemmas.{Accepts-accepts, accepts-Accepts}
use Rattle.clap.specs.declared.builder.value_parser.ValueParser.TheVariants as parser
use Rattle.klsm_words.specs.Options.{number_or_zero, option_rule, with_letter}

-- a text that is no number of 64 bits, or is one
none_read : (text : Text) (b : Bool) → is_unsigned_in 0 18446744073709551615 text ≡ b
    → (Accepts false (parser.Unsigned 0 18446744073709551615) text → ⊥) → 0 ≡ number_or_zero text
none_read text false t not = rw t refl
none_read text true t not = absurd (not (accepts-Accepts false (parser.Unsigned 0 18446744073709551615) text t))

-- a text that was read as a number of 64 bits, or as none
pub number_read : {E : Type 0} (G : List ℕ → Result ℕ E → Type 0) (text : Text) (r : Option ℕ)
    → ((u : List ℕ) (x : Result ℕ E) → G u x → ParsesUnsigned 64 10 u x) → ReadsOne G text r
    → unwrap_or r 0 ≡ number_or_zero text
number_read G text (Some n) only read =
    let h = only text (Ok n) read in
    rw (Accepts-accepts false (parser.Unsigned 0 18446744073709551615) text (h.0.0, h.0.1, omega arith, omega (arith, h.0.1))) h.1
number_read G text None only read = none_read text _ refl (λ passed. only text (Err read.0) read.1 (passed.0, passed.1))

-- the number at an option
pub number_found : {E : Type 0} (G : List ℕ → Result ℕ E → Type 0) (f : Found) (name : Text) (r : Option ℕ)
    → (one_text f name ≡ None → r ≡ None) → ((t : Text) → one_text f name ≡ Some t → ReadsOne G t r)
    → ((u : List ℕ) (x : Result ℕ E) → G u x → ParsesUnsigned 64 10 u x)
    → unwrap_or r 0 ≡ unwrap_or (option_map number_or_zero (one_of name (rows_of f))) 0
number_found G f name r none value only =
    go (one_text f name) refl ∙ ap (λ text. unwrap_or (option_map number_or_zero text) 0) (one_text-rows f name)
  where
    go : (found : Option Text) → one_text f name ≡ found → unwrap_or r 0 ≡ unwrap_or (option_map number_or_zero found) 0
    go None is = ap (λ (o : Option ℕ). unwrap_or o 0) (none is)
    go (Some text) is = number_read G text r only (value text is)

-- ---- the command with its options

-- one option more
pub added : (a : Command) (x : Arg) (b : Command) (app : App) (rule : Rule) → AddsArg a x b → x.global ≡ false
    → app_of a ≡ app → rule_of x ≡ rule → app_of b ≡ with_rule app rule
added a x b app rule adds local is same = adds.shape local ∙ ap₂ with_rule is same

-- an option that has a parser
pub parsed : (o x : Arg) (q p : ValueParser) (name default : Text) → x ≡ record o { value_parser = x.value_parser }
    → x.value_parser ≡ Some q → q ≡ p → rule_of o ≡ option_rule name default None
    → rule_of x ≡ option_rule name default (Some p)
parsed o x q p name default is has same rule =
    ap rule_of is ∙ ap₂ {A = Rule} (λ r v. record r { parser = v }) rule (has ∙ ap Some same)

-- an option that has a letter
pub lettered : (o x : Arg) (letter : Text) (rule : Rule) → x ≡ record o { short = slice_get letter 0 } → rule_of o ≡ rule
    → rule_of x ≡ with_letter letter rule
lettered o x letter rule is same = ap rule_of is ∙ ap (with_letter letter) same

pub local_too : (o x : Arg) → x ≡ record o { value_parser = x.value_parser } → o.global ≡ false → x.global ≡ false
local_too o x is local = ap (λ a. a.global) is ∙ local

pub none_global : (a : Command) (x : Arg) (b : Command) → AddsArg a x b → x.global ≡ false
    → (fields_of a).has_globals ≡ false → (fields_of b).has_globals ≡ false
none_global a x b adds local none = adds.globals ∙ ap₂ {A = Bool} {B = Bool} (λ g h. g || h) none local

pub last_none_global : (a : Command) (x : Arg) (r : Result Command AllocError) → IfOk r (AddsArg a x) → x.global ≡ false
    → (fields_of a).has_globals ≡ false → IfOk r (λ b. (fields_of b).has_globals ≡ false)
last_none_global a x (Ok b) adds local none = none_global a x b adds local none
last_none_global a x (Err e) adds local none = tt

-- the last option
pub added_last : (a : Command) (x : Arg) (app : App) (rule : Rule) (r : Result Command AllocError) → IfOk r (AddsArg a x)
    → x.global ≡ false → app_of a ≡ app → rule_of x ≡ rule → IfOk r (λ b. app_of b ≡ with_rule app rule)
added_last a x app rule (Ok b) adds local is same = added a x b app rule adds local is same
added_last a x app rule (Err e) adds local is same = tt

-- a parser of numbers with a range
pub narrowed : (low high lo hi : ℤ) (p q : ValueParser) → p ≡ parser.Unsigned 0 18446744073709551615 → lo ≡ low → hi ≡ high
    → NarrowsTo p (Some lo) (Some hi) q → NarrowsTo (parser.Unsigned 0 18446744073709551615) (Some low) (Some high) q
narrowed low high lo hi p q is start end narrows =
    let all = parser.Unsigned 0 18446744073709551615 in
    subst (λ (h : ℤ). NarrowsTo all (Some low) (Some h) q) end
    (subst (λ (l : ℤ). NarrowsTo all (Some l) (Some hi) q) start
    (subst (λ (v : ValueParser). NarrowsTo v (Some lo) (Some hi) q) is narrows))
