-- The numbers of a text.
use Rattle.std.specs.Prelude.{ℕ, ◌≡◌, ◌≤◌, ◌+◌, ◌-◌, ◌*◌, ◌^◌, Bool, true, false, ◌&&◌}
use Rattle.std.specs.Prelude.{List, [], ◌∷◌, Option, Some, None}
use Rattle.std.specs.Prelude.{if◌then◌else◌, nat_lt}
use Rattle.std.specs.Char.{is_ascii_digit}
use Rattle.std.specs.Str.{all_ascii_digits}
use Rattle.std.specs.Str.Parse.{digits_value}

-- one or more of the digits 0 to 9
abbrev pub is_numeral : List ℕ → Bool
is_numeral [] = false
is_numeral (c ∷ cs) = all_ascii_digits (c ∷ cs)

-- the number that a field spells: a numeral with a value below 2^64
abbrev pub number_of : List ℕ → Option ℕ
number_of field =
    if is_numeral field && nat_lt (digits_value 10 field) (2 ^ 64) then Some (digits_value 10 field)
    else None

-- no number below 2^64 goes on behind n with this byte: it is no digit, or the number gets too great
abbrev pub EndsNumber : ℕ → ℕ → Type 0
EndsNumber n c = is_ascii_digit c ≡ true → 2 ^ 64 ≤ n * 10 + (c - 48)
