-- What the digits of a field spell, read one after another.
use Rattle.std.proofs.Common.{◌≡◌, ℕ, ◌+◌, ◌-◌, ◌*◌, ◌<◌, ◌≤◌, ◌^◌, Bool, true, false, ◌&&◌, List, [], ◌∷◌, length, Option, Some, None, nat_lt, refl, ◌∙◌, arith, if◌then◌else◌}
use Rattle.std.specs.Char.{is_ascii_digit, digit_value}
use Rattle.std.specs.Str.{all_ascii_digits}
use Rattle.std.specs.Str.Parse.{digits_value_after}
use Rattle.std.proofs.lemmas.Bool.{lt-ltb}
use Rattle.std.proofs.lemmas.Bool.Decides.{nat_tests}
use Rattle.klsm_rows.specs.Number.{number_of, EndsNumber}

-- the number that a field spells whose digits so far spell n, where these bytes are left
abbrev pub number_after : ℕ → List ℕ → Option ℕ
number_after n ds =
    if all_ascii_digits ds && nat_lt (digits_value_after 10 n ds) (2 ^ 64)
    then Some (digits_value_after 10 n ds) else None

pub number_begins : (field : List ℕ) → 0 < length field → number_of field ≡ number_after 0 field
number_begins [] some = absurd (omega arith)
number_begins (c ∷ cs) some = refl

-- a number does not get less by a digit
stays_great : (n : ℕ) (ds : List ℕ) → 2 ^ 64 ≤ n → 2 ^ 64 ≤ digits_value_after 10 n ds
stays_great n [] great = great
stays_great n (c ∷ cs) great = stays_great (n * 10 + digit_value c) cs (omega arith)

value_of_digit : (c : ℕ) → is_ascii_digit c ≡ true → digit_value c ≡ c - 48
value_of_digit c digit = grind (arith, nat_tests)

too_great : (b : Bool) (n : ℕ) → 2 ^ 64 ≤ n → (if b && nat_lt n (2 ^ 64) then Some n else None) ≡ None
too_great false n great = refl
too_great true n great = grind (arith, nat_tests)

pub number_goes_on : (n c : ℕ) (cs : List ℕ) → is_ascii_digit c ≡ true → number_after n (c ∷ cs) ≡ number_after (n * 10 + (c - 48)) cs
number_goes_on n c cs digit = rw (digit, value_of_digit c digit) refl

pub number_stops : (n c : ℕ) (cs : List ℕ) → EndsNumber n c → number_after n (c ∷ cs) ≡ None
number_stops n c cs ends = by (is_ascii_digit c) refl
  where
    by : (b : Bool) → is_ascii_digit c ≡ b → number_after n (c ∷ cs) ≡ None
    by true digit = number_goes_on n c cs digit ∙ too_great (all_ascii_digits cs) (digits_value_after 10 (n * 10 + (c - 48)) cs) (stays_great (n * 10 + (c - 48)) cs (ends digit))
    by false other = rw other refl

pub number_ends : (n : ℕ) → n < 2 ^ 64 → number_after n [] ≡ Some n
number_ends n fits = let low : nat_lt n (2 ^ 64) ≡ true = lt-ltb _ _ fits in rw low refl
