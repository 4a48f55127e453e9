-- What the rows of an instance say, and the first thing that is wrong with a row.
use Rattle.std.specs.Prelude.{ℕ, ⊤, Bool, ◌≡◌, ◌+◌, ◌++◌, ◌==◌, ◌&&◌, ◌⊎◌, if◌then◌else◌, nat_lt}
use Rattle.std.specs.Prelude.{List, [], ◌∷◌, length, Option, Some, None, Result, Ok, Err, codes}
use Rattle.std.specs.Str.{bytes_eq}
use Rattle.klsm_instance.specs.declared.thing.Thing.{Thing}
use Rattle.klsm_instance.specs.declared.errors.ReadError.{ReadError}
use Rattle.klsm_instance.specs.declared.errors.ReadError.TheVariants as read_error
use Rattle.klsm_instance.specs.Selections.{Problem}
use Rattle.klsm_rows.specs.Number.{number_of}
use Rattle.klsm_rows.specs.Rows.{Row, AreFirstRows, AreAllRows}

-- the number is at most this
abbrev pub is_at_most : ℕ → ℕ → Bool
is_at_most most n = nat_lt n (most + 1)

-- it is at least 1, and at most this
abbrev pub is_some_at_most : ℕ → ℕ → Bool
is_some_at_most most n = nat_lt 0 n && nat_lt n (most + 1)

-- the capacity that the first row gives
abbrev pub capacity_in : Option ℕ → Result ℕ ReadError
capacity_in None = Err (read_error.BadNumber 1)
capacity_in (Some c) = if is_at_most 1000000000 c then Ok c else Err (read_error.OutOfRange 1)

abbrev pub capacity_of : Row → Result ℕ ReadError
capacity_of (word ∷ field ∷ []) =
    if bytes_eq word (codes "capacity") then capacity_in (number_of field)
    else Err (read_error.BadRow 1)
capacity_of row = Err (read_error.BadRow 1)

-- the thing that row r gives
abbrev pub thing_in : ℕ → Option ℕ → Option ℕ → Result Thing ReadError
thing_in r None w = Err (read_error.BadNumber r)
thing_in r (Some v) None = Err (read_error.BadNumber r)
thing_in r (Some v) (Some w) =
    if is_some_at_most 1000000 v && is_some_at_most 1000000000 w
    then Ok (record { value = v; weight = w }) else Err (read_error.OutOfRange r)

-- the thing that a row gives behind the first row and n things
abbrev pub thing_of : ℕ → Row → Result Thing ReadError
thing_of n (value ∷ weight ∷ []) =
    if n == 32 then Err read_error.TooMany else thing_in (n + 2) (number_of value) (number_of weight)
thing_of n row = Err (read_error.BadRow (n + 2))

-- all these rows, the latest first, give the problem
abbrev pub Give : List Row → Problem → Type 0
Give [] p = ⊥
Give (row ∷ []) p = (capacity_of row ≡ Ok p.capacity) × (p.things ≡ [])
Give (row ∷ first ∷ rows) p = (before : Problem) × (x : Thing) × Give (first ∷ rows) before
    × (thing_of (length rows) row ≡ Ok x)
    × (p ≡ record { capacity = before.capacity; things = before.things ++ x ∷ [] })

-- none of these rows is refused
abbrev pub AreGood : List Row → Type 0
AreGood [] = ⊤
AreGood (row ∷ rows) = (p : Problem) × Give (row ∷ rows) p

-- the row behind these is refused
abbrev pub RefusesRow : List Row → Row → ReadError → Type 0
RefusesRow [] row why = capacity_of row ≡ Err why
RefusesRow (first ∷ rows) row why = thing_of (length rows) row ≡ Err why

-- a row of the input is refused, and none before it is; or there is no row
abbrev pub IsRefused : Option (List ℕ) → ReadError → Type 0
IsRefused input why =
    ((rows : List Row) × (row : Row) × AreFirstRows input (row ∷ rows) × AreGood rows
    × RefusesRow rows row why)
    ⊎ (AreAllRows input [] × (why ≡ read_error.BadRow 1))

-- why an input is not read. Where the reader failed, or a growth was refused, the rows before that
-- are not refused.
abbrev pub RefusesInput : Option (List ℕ) → ReadError → Type 0
RefusesInput input (read_error.BadRow row) = IsRefused input (read_error.BadRow row)
RefusesInput input read_error.TooMany = IsRefused input read_error.TooMany
RefusesInput input (read_error.BadNumber row) = IsRefused input (read_error.BadNumber row)
RefusesInput input (read_error.OutOfRange row) = IsRefused input (read_error.OutOfRange row)
RefusesInput input read_error.ReadFault = (rows : List Row) × AreFirstRows input rows × AreGood rows
RefusesInput input read_error.NoMemory = (rows : List Row) × AreFirstRows input rows × AreGood rows

-- all the rows of the input give the problem
abbrev pub IsProblemIn : Option (List ℕ) → Problem → Type 0
IsProblemIn input p = (rows : List Row) × AreAllRows input rows × Give rows p
