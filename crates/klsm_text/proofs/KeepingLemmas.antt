-- What one row does to the rows that are kept for the threads.
use Rattle.std.proofs.Common.{◌≡◌, ◌≢◌, ℕ, zero, suc, ◌+◌, ◌<◌, ◌≤◌, Bool, true, false, List, [], ◌∷◌, ◌++◌, length, length-append, length-set, append-nil, map, slice_index_or, slice_set, Option, Result, Ok, Err, IfOk, IfErr, refl, sym, ap, ◌∙◌, subst, arith, eqb, cond}
use Rattle.std.specs.Prelude.{nat_lt}
use Rattle.std.proofs.lemmas.Bool.{eq-eqb, ne_eqb}
use Rattle.std.proofs.lemmas.Bool.Decides.{nat_tests}
use Rattle.std.proofs.lemmas.List.{get_or-set_same, get_or-set_other, map-append}
use mathlib.Core.Logic.{dite}
use native.Mathlib.Decide.{ℕ_discrete}
use Rattle.klsm_text.specs.declared.request.Operation.{Operation}
use Rattle.klsm_text.specs.declared.request.Refusal.{Refusal}
use Rattle.klsm_text.specs.declared.request.Refusal.TheVariants as refusal
use Rattle.klsm_text.specs.declared.request.Request.{Request}
use Rattle.klsm_text.specs.declared.stop.Stop.{Stop}
use Rattle.klsm_text.specs.declared.stop.Stop.TheVariants as stop
use Rattle.klsm_text.specs.declared.thread_rows.ThreadRow.{ThreadRow}
use Rattle.klsm_text.specs.declared.script.Script.{Script}
use Rattle.klsm_rows.specs.Rows.{Row}
use Rattle.klsm_text.specs.Script.{request_of, request_after, row_limit}
use Rattle.klsm_text.specs.Reading.{HasReadScript, ReadStops, reader_failed}
use Rattle.klsm_text.specs.Keeping.{AreKept, KeepsNoMore, KeepsOn, KeepsOne, kept_for, operation_in}
use Rattle.klsm_text.specs.ThreadRows.{AreAccepted, HasReadToRefusal, StandsAtRefusal, StopsReading, asked_of, asks}
use Rattle.klsm_text.proofs.ScriptLemmas.{first_read, judged}

-- a choice between two numbers that are one, or that differ
choice_hit : {X : Type 0} (p q : ℕ) (x y : X) → p ≡ q → cond (eqb p q) x y ≡ x
choice_hit p q x y same = ap (λ b. cond b x y) (eq-eqb p q same)

choice_miss : {X : Type 0} (p q : ℕ) (x y : X) → p ≢ q → cond (eqb p q) x y ≡ y
choice_miss p q x y differ = ap (λ b. cond b x y) (ne_eqb p q differ)

-- lists without rows keep none
none_there : (lists : List (List ThreadRow)) (t : ℕ) → ((u : ℕ) → slice_index_or lists u [] ≡ []) → slice_index_or (lists ++ [] ∷ []) t [] ≡ []
none_there [] zero none = refl
none_there [] (suc t) none = refl
none_there (l ∷ lists) zero none = none 0
none_there (l ∷ lists) (suc t) none = none_there lists t (λ u. none (suc u))

pub no_rows_more : (lists : List (List ThreadRow)) → ((u : ℕ) → slice_index_or lists u [] ≡ []) → (t : ℕ) → slice_index_or (lists ++ [] ∷ []) t [] ≡ []
no_rows_more lists none t = none_there lists t none

pub none_kept : (threads : ℕ) (lists : List (List ThreadRow)) → length lists ≡ threads → ((t : ℕ) → slice_index_or lists t [] ≡ []) → AreKept threads [] lists
none_kept threads lists many none = record { many = many; each = λ t below. ap (map operation_in) (none t) }

-- a row is put behind those of its thread
pub keeps_one : (request : Request) (row : ThreadRow) (lists : List (List ThreadRow)) (rows : List ThreadRow) → operation_in row ≡ request.operation → request.thread < length lists
    → rows ≡ slice_index_or lists request.thread [] ++ row ∷ [] → KeepsOne request lists (slice_set lists request.thread rows)
keeps_one request row lists rows is below rows_are = record {
  many = length-set lists request.thread rows;
  each = λ t within. dite (ℕ_discrete request.thread t)
      (λ here. subst (λ u. kept_for (slice_set lists request.thread rows) u ≡ kept_for lists u ++ asks u (Ok request)) here
      (ap (map operation_in) (get_or-set_same lists request.thread rows [] below ∙ rows_are)
      ∙ (map-append operation_in (slice_index_or lists request.thread []) (row ∷ [])
      ∙ ap (λ z. kept_for lists request.thread ++ z) (ap (λ z. z ∷ []) is ∙ sym (choice_hit request.thread request.thread (request.operation ∷ []) [] refl)))))
      (λ other. ap (map operation_in) (get_or-set_other lists request.thread t rows [] (λ same. other (sym same)))
      ∙ (sym (append-nil (kept_for lists t)) ∙ ap (λ z. kept_for lists t ++ z) (sym (choice_miss request.thread t (request.operation ∷ []) [] other))));
}

-- a row that is read and accepted
kept_next : (threads : ℕ) (rows : List Row) (row : Row) (request : Request) (lists lists' : List (List ThreadRow)) → request_of threads row ≡ Ok request → AreKept threads rows lists → KeepsOne request lists lists'
    → AreKept threads (row ∷ rows) lists'
kept_next threads rows row request lists lists' asks_for kept one = record {
  many = one.many ∙ kept.many;
  each = λ t below. one.each t (omega (arith, below, kept.many))
      ∙ (ap (λ z. z ++ asks t (Ok request)) (kept.each t below)
      ∙ ap (λ z. asked_of threads t rows ++ z) (ap (asks t) (sym asks_for)));
}

pub row_kept : {R : Type 0} (rem : R → Option (List ℕ)) (threads many : ℕ) (input : Option (List ℕ)) (rows : List Row) (a b : Script R) (row : Row) (request : Request) (lists lists' : List (List ThreadRow)) (result : Result (Unit {0}) Stop)
    → length lists ≡ many → HasReadScript rem input rows a → AreAccepted threads rows → length rows < row_limit → AreKept threads rows lists → HasReadScript rem input (row ∷ rows) b → request_of many row ≡ Ok request
    → IfOk result (λ _. KeepsOne request lists lists') → IfErr result (λ why. why ≡ stop.NoMemory) → KeepsOn rem threads input rows lists' b result
row_kept rem threads many input rows a b row request lists lists' (Ok done) so_many was accepted below kept read asks_for one memory =
    let asks : request_of threads row ≡ Ok request = ap (λ n. request_of n row) (sym kept.many ∙ so_many) ∙ asks_for in
    (row, read, ((request, judged threads rows row below ∙ asks), accepted), kept_next threads rows row request lists lists' asks kept one)
row_kept rem threads many input rows a b row request lists lists' (Err why) so_many was accepted below kept read asks_for one memory = (
  subst (StopsReading threads input rows) (sym memory) (first_read rem input rows a was),
  λ end. absurd (let bad : stop.NoMemory ≡ stop.AtEnd = sym memory ∙ end in cc),
  λ fault. absurd (let bad : stop.NoMemory ≡ stop.ReadFault = sym memory ∙ fault in cc),
  λ refusal is. absurd (let bad : stop.NoMemory ≡ stop.Refused refusal = sym memory ∙ is in cc),
)

-- a row that is read and refused
pub refusal_read : {R : Type 0} (rem : R → Option (List ℕ)) (threads : ℕ) (input : Option (List ℕ)) (rows : List Row) (b : Script R) (row : Row) (why : Refusal) → AreAccepted threads rows → HasReadScript rem input (row ∷ rows) b → request_after threads rows row ≡ Err why
    → HasReadToRefusal rem threads input b
refusal_read rem threads input rows b row why accepted read refused = record { rows = rows; row = row; why = why; accepted = accepted; refused = refused; read = read }

pub row_refused : {R : Type 0} (rem : R → Option (List ℕ)) (threads : ℕ) (input : Option (List ℕ)) (rows : List Row) (b : Script R) (row : Row) (why : Refusal) (many : ℕ) (before lists : List (List ThreadRow)) → length before ≡ many → AreAccepted threads rows → AreKept threads rows before → length rows < row_limit → HasReadScript rem input (row ∷ rows) b → request_of many row ≡ Err why
    → KeepsOn rem threads input rows lists b (Err (stop.Refused why))
row_refused rem threads input rows b row why many before lists so_many accepted kept below read asks_for =
    let asks : request_of threads row ≡ Err why = ap (λ n. request_of n row) (sym kept.many ∙ so_many) ∙ asks_for in
    let refused : request_after threads rows row ≡ Err why = judged threads rows row below ∙ asks in (
      (row, first_read rem input (row ∷ rows) b read, refused),
      λ end. absurd (let bad : stop.Refused why ≡ stop.AtEnd = end in cc),
      λ fault. absurd (let bad : stop.Refused why ≡ stop.ReadFault = fault in cc),
      λ refusal is. refusal_read rem threads input rows b row why accepted read refused,
    )

-- no row is read
pub stops_reading : (failed : Bool) (threads : ℕ) (input : Option (List ℕ)) (rows : List Row) (why : Stop) → ReadStops failed input rows why → StopsReading threads input rows why
stops_reading failed threads input rows stop.AtEnd h = h
stops_reading failed threads input rows (stop.Refused why) h = absurd h
stops_reading failed threads input rows stop.NoMemory h = h.0
stops_reading failed threads input rows stop.ReadFault h = h.0
stops_reading failed threads input rows stop.WriteFault h = absurd h

-- a read fault comes only where the reader has failed
pub fault_failed : (failed : Bool) (input : Option (List ℕ)) (rows : List Row) (why : Stop) → ReadStops failed input rows why → why ≡ stop.ReadFault → failed ≡ true
fault_failed failed input rows why h is = (subst (ReadStops failed input rows) is h).1

-- nor is a row refused then
pub none_refused : {R : Type 0} (rem : R → Option (List ℕ)) (threads : ℕ) (failed : Bool) (input : Option (List ℕ)) (rows : List Row) (b : Script R) (why : Stop) → ReadStops failed input rows why → StandsAtRefusal rem threads input b why
none_refused rem threads failed input rows b why stops refusal is = absurd (subst (ReadStops failed input rows) is stops)

-- no row is read, and none is kept
pub row_stops : {R : Type 0} (rem : R → Option (List ℕ)) (threads : ℕ) (input : Option (List ℕ)) (rows : List Row) (b : Script R) (why : Stop) (lists : List (List ThreadRow)) → AreKept threads rows lists → ReadStops (reader_failed b) input rows why → KeepsOn rem threads input rows lists b (Err why)
row_stops rem threads input rows b why lists kept stops = (stops_reading (reader_failed b) threads input rows why stops, λ end. kept, fault_failed (reader_failed b) input rows why stops, none_refused rem threads (reader_failed b) input rows b why stops)

-- one row too many
refuses_beyond : (threads : ℕ) (rows : List Row) (row : Row) → length rows ≡ row_limit → request_after threads rows row ≡ Err refusal.Rows
refuses_beyond threads rows row all = let at_limit : eqb (length rows) row_limit ≡ true = grind (arith, nat_tests) in rw at_limit refl

pub beyond : {R : Type 0} (rem : R → Option (List ℕ)) (threads : ℕ) (input : Option (List ℕ)) (rows : List Row) (b : Script R) (row : Row) → length rows ≡ row_limit → HasReadScript rem input (row ∷ rows) b → StopsReading threads input rows (stop.Refused refusal.Rows)
beyond rem threads input rows b row all read = (row, first_read rem input (row ∷ rows) b read, refuses_beyond threads rows row all)

pub beyond_read : {R : Type 0} (rem : R → Option (List ℕ)) (threads : ℕ) (input : Option (List ℕ)) (rows : List Row) (b : Script R) (row : Row) → AreAccepted threads rows → length rows ≡ row_limit → HasReadScript rem input (row ∷ rows) b → HasReadToRefusal rem threads input b
beyond_read rem threads input rows b row accepted all read = refusal_read rem threads input rows b row refusal.Rows accepted read (refuses_beyond threads rows row all)

-- as many rows are asked for as there are at most
pub asked_few : (threads t : ℕ) (rows : List Row) → length (asked_of threads t rows) ≤ length rows
asked_few threads t [] = omega arith
asked_few threads t (row ∷ rows) =
    let more = length-append (asked_of threads t rows) (asks t (request_of threads row)) in
    omega (arith, more, asked_few threads t rows, one (request_of threads row))
  where
    by_test : (b : Bool) (asked : Operation) → length (cond b (asked ∷ []) []) ≤ 1
    by_test true asked = omega arith
    by_test false asked = omega arith

    one : (asked : Result Request Refusal) → length (asks t asked) ≤ 1
    one (Ok request) = by_test (eqb request.thread t) request.operation
    one (Err why) = omega arith

-- reading has ended
pub ended : {R : Type 0} (rem : R → Option (List ℕ)) (threads number : ℕ) (input : Option (List ℕ)) (rows : List Row) (lists : List (List ThreadRow)) (b : Script R) (why : Stop) → AreAccepted threads rows → StopsReading threads input rows why → (why ≡ stop.AtEnd → AreKept threads rows lists) → (why ≡ stop.ReadFault → reader_failed b ≡ true) → StandsAtRefusal rem threads input b why → length rows ≤ row_limit → number ≡ length rows + 1
    → KeepsNoMore rem threads input lists b number why
ended rem threads number input rows lists b why accepted stops kept fault stands few number_is = record { rows = rows; accepted = accepted; stops = stops; kept = kept; fault = fault; stands = stands; few = few; number_is = number_is }

-- none is kept for a thread beyond the last
none_beyond : (lists : List (List ThreadRow)) (t : ℕ) → length lists ≤ t → slice_index_or lists t [] ≡ []
none_beyond [] zero past = refl
none_beyond [] (suc t) past = refl
none_beyond (l ∷ lists) zero past = absurd (omega (arith, past))
none_beyond (l ∷ lists) (suc t) past = none_beyond lists t (omega (arith, past))

-- so few rows are kept for a thread
pub few_kept : (threads n : ℕ) (rows : List Row) (lists : List (List ThreadRow)) → AreKept threads rows lists → length rows ≤ n → (t : ℕ) → length (kept_for lists t) ≤ n
few_kept threads n rows lists kept few t = by_test (nat_lt t threads) refl
  where
    by_test : (b : Bool) → nat_lt t threads ≡ b → length (kept_for lists t) ≤ n
    by_test true test =
        let below : t < threads = grind (arith, nat_tests) in
        let same = ap (λ (z : List Operation). length z) (kept.each t below) in omega (arith, same, asked_few threads t rows, few)
    by_test false test =
        let past : threads ≤ t = grind (arith, nat_tests) in
        let none = ap (λ (z : List ThreadRow). length (map operation_in z)) (none_beyond lists t (omega (arith, past, kept.many))) in omega (arith, none)
