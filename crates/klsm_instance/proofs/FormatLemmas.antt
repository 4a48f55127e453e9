-- What the rows of an instance give, one row after another.
use Rattle.std.proofs.Common.{◌≡◌, ℕ, ◌+◌, ◌<◌, ◌≤◌, ◌⊎◌, inl, inr, ◌==◌, Bool, true, false, not, if◌then◌else◌, List, [], ◌∷◌, ◌++◌, length, length-append, Option, Some, Bor, Result, Ok, Err, IfOk, MatchResult, refl, sym, ap, ◌∙◌, subst, arith}
use Rattle.std.specs.List.{AllByRecursion}
use Rattle.std.proofs.lemmas.Bool.{false≢true, ne_eqb}
use Rattle.csv.specs.Records.{field_at}
use Rattle.klsm_instance.specs.declared.thing.Thing.{Thing}
use Rattle.klsm_instance.specs.declared.errors.ReadError.{ReadError}
use Rattle.klsm_instance.specs.declared.errors.ReadError.TheVariants as read_error
use Rattle.klsm_instance.specs.Selections.{Problem}
use Rattle.klsm_instance.specs.Limits.{IsThing, IsInRange}
use Rattle.klsm_rows.specs.Rows.{Row, AreFirstRows}
use Rattle.klsm_instance.specs.Format.{capacity_of, thing_of, Give, AreGood, RefusesRow, RefusesInput}

-- the two fields that were looked at are the row
pub two : (row : Row) (a b : Bor (List ℕ)) → length row ≡ 2 → Some a.now ≡ field_at row 0 → Some b.now ≡ field_at row 1 → row ≡ a.now ∷ b.now ∷ []
unfolding field_at
two [] a b all is0 is1 = absurd (omega arith)
two (p ∷ []) a b all is0 is1 = absurd (omega arith)
two (p ∷ q ∷ []) a b all is0 is1 = cc
two (p ∷ q ∷ r ∷ rest) a b all is0 is1 = absurd (omega arith)

-- a choice by a test that was negated
pub not_so : {X : Type 0} (b : Bool) (x y : X) → true ≡ not b → y ≡ (if b then x else y)
not_so b x y wrong = by_test b refl
  where
    by_test : (t : Bool) → b ≡ t → y ≡ (if t then x else y)
    by_test true is = absurd (false≢true (ap not (sym is) ∙ sym wrong))
    by_test false is = refl

pub so : {X : Type 0} (b : Bool) (x y : X) → false ≡ not b → x ≡ (if b then x else y)
so b x y right = by_test b refl
  where
    by_test : (t : Bool) → b ≡ t → x ≡ (if t then x else y)
    by_test true is = refl
    by_test false is = absurd (false≢true (right ∙ ap not is))

pub not_equal : {X : Type 0} (m n : ℕ) (x y : X) → (m ≡ n → ⊥) → y ≡ (if m == n then x else y)
not_equal m n x y other = rw (ne_eqb m n other) refl

pub give_more : (rows : List Row) (row : Row) (c : ℕ) (xs : List Thing) (x : Thing) → Give rows record { capacity = c; things = xs } → length rows ≡ length xs + 1 → thing_of (length xs) row ≡ Ok x → Give (row ∷ rows) record { capacity = c; things = xs ++ x ∷ [] }
give_more [] row c xs x give many is = absurd give
give_more (first ∷ rows) row c xs x give many is =
    let same : length xs ≡ length rows = omega (arith, many) in
    (record { capacity = c; things = xs }, x, give, subst (λ (n : ℕ). thing_of n row ≡ Ok x) same is, refl)

pub refuses_next : (rows : List Row) (row : Row) (c : ℕ) (xs : List Thing) (why : ReadError) → Give rows record { capacity = c; things = xs } → length rows ≡ length xs + 1 → thing_of (length xs) row ≡ Err why → RefusesRow rows row why
refuses_next [] row c xs why give many is = absurd give
refuses_next (first ∷ rows) row c xs why give many is =
    let same : length xs ≡ length rows = omega (arith, many) in
    subst (λ (n : ℕ). thing_of n row ≡ Err why) same is

pub good : (rows : List Row) (p : Problem) → Give rows p → AreGood rows
good [] p give = absurd give
good (row ∷ rows) p give = (p, give)

-- a row is refused, and those before it are not
pub refused_row : (input : Option (List ℕ)) (rows : List Row) (row : Row) (why : ReadError) → AreFirstRows input rows → AreFirstRows input (row ∷ rows) → AreGood rows → RefusesRow rows row why → RefusesInput input why
refused_row input rows row (read_error.BadRow r) before first is refuses = inl (rows, row, first, is, refuses)
refused_row input rows row read_error.TooMany before first is refuses = inl (rows, row, first, is, refuses)
refused_row input rows row (read_error.BadNumber r) before first is refuses = inl (rows, row, first, is, refuses)
refused_row input rows row (read_error.OutOfRange r) before first is refuses = inl (rows, row, first, is, refuses)
refused_row input rows row read_error.ReadFault before first is refuses = (rows, before, is)
refused_row input rows row read_error.NoMemory before first is refuses = (rows, before, is)

-- the reader failed, or a growth was refused
pub cut_off : (input : Option (List ℕ)) (rows : List Row) (why : ReadError) → AreFirstRows input rows → AreGood rows → (why ≡ read_error.ReadFault) ⊎ (why ≡ read_error.NoMemory) → RefusesInput input why
cut_off input rows why first is (inl fault) = subst (RefusesInput input) (sym fault) (rows, first, is)
cut_off input rows why first is (inr memory) = subst (RefusesInput input) (sym memory) (rows, first, is)

-- what the first row gives
pub first_row : (input : Option (List ℕ)) (row : Row) (H : Row → Type 0) (result : Result ℕ ReadError) → AreFirstRows input [] → AreFirstRows input (row ∷ []) → H row → IfOk result (λ c. c ≤ 1000000000) → result ≡ capacity_of row
    → MatchResult result (λ c. (c ≤ 1000000000) × ((r : Row) × H r × (capacity_of r ≡ Ok c))) (RefusesInput input)
first_row input row H (Ok c) before first read small is = (small, (row, read, sym is))
first_row input row H (Err why) before first read small is = refused_row input [] row why before first tt (sym is)

all_more : (xs : List Thing) (x : Thing) → AllByRecursion IsThing xs → IsThing x → AllByRecursion IsThing (xs ++ x ∷ [])
all_more [] x all is = (is, tt)
all_more (y ∷ xs) x all is = (all.0, all_more xs x all.1 is)

pub in_range_more : (c : ℕ) (xs : List Thing) (x : Thing) → IsInRange record { capacity = c; things = xs } → IsThing x → length xs < 32 → IsInRange record { capacity = c; things = xs ++ x ∷ [] }
in_range_more c xs x range is few = record {
  few = omega (arith, length-append xs (x ∷ []), few);
  capacity_small = range.capacity_small;
  things_are = all_more xs x range.things_are is;
}
