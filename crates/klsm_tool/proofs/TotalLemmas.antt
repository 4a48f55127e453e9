-- The totals of a script that was run: the insertions of all threads are the script's.
use Rattle.std.proofs.Common.{◌≡◌, ◌≢◌, ℕ, zero, suc, ◌+◌, ◌<◌, ◌≤◌, Bool, true, false, List, [], ◌∷◌, ◌++◌, length, length-append, Option, Some, None, Result, Ok, Err, refl, sym, ap, ap₂, ◌∙◌, subst, arith, cond, eqb}
use Rattle.std.specs.Prelude.{nat_lt}
use mathlib.Core.Logic.{dite}
use native.Mathlib.Decide.{ℕ_discrete}
use Rattle.std.specs.List.{flat_map}
use Rattle.std.proofs.lemmas.List.Concat.{flat_map-cons}
use Rattle.std.proofs.lemmas.Bool.Decides.{nat_tests}
use Rattle.klsm_schedules.specs.declared.step.Event.{Event}
use Rattle.klsm_schedules.specs.declared.step.Event.TheVariants as event
use Rattle.klsm_schedules.specs.declared.step.Entry.{Entry}
use Rattle.klsm_schedules.specs.OwnSteps.{event_at, inserted, inserted_by}
use Rattle.klsm_schedules.specs.Account.{account}
use Rattle.klsm_schedules.proofs.lemmas.hands.HandLemmas.{choice_hit, choice_miss}
use Rattle.klsm_schedules.proofs.lemmas.theorems.AccountLemmas.{accounts_add_up}
use Rattle.klsm_schedules.proofs.lemmas.theorems.RunLemmas.{schedules_keep_lawful}
use Rattle.klsm_board.specs.declared.sizes.Sizes.{Sizes}
use Rattle.klsm_board.specs.Rule.{world_limits}
use Rattle.klsm_board.specs.Finishing.{AreListsAtEnd}
use Rattle.klsm_text.specs.declared.answer.Answer.{Answer}
use Rattle.klsm_text.specs.declared.answer.Answer.TheVariants.{Inserted, Deleted, Nothing}
use Rattle.klsm_text.specs.declared.request.Operation.{Operation}
use Rattle.klsm_text.specs.declared.request.Operation.TheVariants.{Insert, Delete}
use Rattle.klsm_text.specs.declared.request.Refusal.{Refusal}
use Rattle.klsm_text.specs.declared.request.Refusal.TheVariants as refusal
use Rattle.klsm_text.specs.declared.request.Request.{Request}
use Rattle.klsm_rows.specs.Rows.{Row}
use Rattle.klsm_text.specs.Script.{asked, asked_below, request_after, request_of, row_limit}
use Rattle.klsm_tool.specs.Crews.{steps_in}
use Rattle.klsm_tool.specs.Shown.{shown, shown_in}
use Rattle.klsm_tool.specs.MemberCalls.{IsAnswerTo}
use Rattle.klsm_text.specs.ThreadRows.{AreAccepted, asked_of, asks, insertion_rows, insertions_at, insertions_in, insertions_of}
use Rattle.klsm_tool.specs.MemberCalls.{AreAnswers}

-- ---- one thread

abbrev insertion_answers : List Answer → ℕ
insertion_answers [] = 0
insertion_answers (Inserted x ∷ answers) = 1 + insertion_answers answers
insertion_answers (Deleted x ∷ answers) = insertion_answers answers
insertion_answers (Nothing ∷ answers) = insertion_answers answers

-- the items inserted are those of the answers shown
pub inserted_shown : (es : List Entry) → length (inserted es) ≡ insertion_answers (shown_in es)
inserted_shown es = by_events (flat_map event_at es)
  where
    more : (e : Event) (answers : List Answer) → insertion_answers (shown e ++ answers) ≡ length (inserted_by e) + insertion_answers answers
    more (event.Put x) answers = omega arith
    more (event.Flush x moved) answers = omega arith
    more (event.Take x) answers = omega arith
    more (event.Early x front) answers = omega arith
    more event.Nothing answers = omega arith
    more (event.Spy victim moved) answers = omega arith
    more (event.Steal victim moved) answers = omega arith
    more (event.Refill moved) answers = omega arith
    more (event.Share moved) answers = omega arith

    by_events : (all : List Event) → length (flat_map inserted_by all) ≡ insertion_answers (flat_map shown all)
    by_events [] = refl
    by_events (e ∷ all) =
        ap length (flat_map-cons inserted_by e all) ∙ (length-append (inserted_by e) (flat_map inserted_by all)
        ∙ (ap (λ n. length (inserted_by e) + n) (by_events all) ∙ (sym (more e (flat_map shown all)) ∙ ap insertion_answers (sym (flat_map-cons shown e all)))))

-- and those of the rows that are answered
pub answers_insert : (rows : List Operation) (answers : List Answer) → AreAnswers rows answers → insertion_answers answers ≡ insertions_in rows
answers_insert [] [] all = refl
answers_insert [] (a ∷ answers) all = absurd all
answers_insert (x ∷ rows) [] all = absurd all
answers_insert (x ∷ rows) (a ∷ answers) all = one x a all.0 ∙ ap (λ n. insertions_at x + n) (answers_insert rows answers all.1)
  where
    one : (operation : Operation) (answer : Answer) → IsAnswerTo operation answer → insertion_answers (answer ∷ answers) ≡ insertions_at operation + insertion_answers answers
    one (Insert key load) (Inserted y) is = omega arith
    one (Insert key load) (Deleted y) is = absurd is
    one (Insert key load) Nothing is = absurd is
    one Delete (Inserted y) is = absurd is
    one Delete (Deleted y) is = omega arith
    one Delete Nothing is = omega arith

-- ---- all threads

-- a sum over the numbers below n
abbrev total : ℕ → (ℕ → ℕ) → ℕ
total zero f = 0
total (suc n) f = f 0 + total n (λ t. f (suc t))

total_alike : (n : ℕ) (f h : ℕ → ℕ) → ((t : ℕ) → t < n → f t ≡ h t) → total n f ≡ total n h
total_alike zero f h same = refl
total_alike (suc n) f h same = ap₂ {A = ℕ} {B = ℕ} (λ x y. x + y) (same 0 (omega arith)) (total_alike n (λ t. f (suc t)) (λ t. h (suc t)) (λ t below. same (suc t) (omega (arith, below))))

total_zero : (n : ℕ) → total n (λ t. 0) ≡ 0
total_zero zero = refl
total_zero (suc n) = omega (arith, total_zero n)

total_sum : (n : ℕ) (f h : ℕ → ℕ) → total n (λ t. f t + h t) ≡ total n f + total n h
total_sum zero f h = refl
total_sum (suc n) f h = omega (arith, total_sum n (λ t. f (suc t)) (λ t. h (suc t)))

-- where all but one are nothing
total_one : (n p v : ℕ) (f : ℕ → ℕ) → p < n → f p ≡ v → ((t : ℕ) → t ≢ p → f t ≡ 0) → total n f ≡ v
total_one zero p v f below here else = absurd (omega (arith, below))
total_one (suc n) zero v f below here else =
    let rest = total_alike n (λ t. f (suc t)) (λ t. 0) (λ t within. else (suc t) (λ same. absurd (omega (arith, same)))) ∙ total_zero n in
    omega (arith, here, rest)
total_one (suc n) (suc p) v f below here else =
    let first = else 0 (λ same. absurd (omega (arith, same))) in
    let rest = total_one n p v (λ t. f (suc t)) (omega (arith, below)) here (λ t other. else (suc t) (λ same. other (omega (arith, same)))) in
    omega (arith, first, rest)

-- all that the lists inserted
all_inserted : (lists : List (List Entry)) → length (flat_map inserted lists) ≡ total (length lists) (λ t. length (inserted (steps_in lists t)))
all_inserted [] = refl
all_inserted (es ∷ lists) =
    ap length (flat_map-cons inserted es lists) ∙ (length-append (inserted es) (flat_map inserted lists) ∙ ap (λ n. length (inserted es) + n) (all_inserted lists))

-- ---- the rows

-- a row that is accepted is one of a thread
below_of : (threads : ℕ) (number : Option ℕ) (operation : Result Operation Refusal) (request : Request) → asked_below threads number operation ≡ Ok request → request.thread < threads
below_of threads None operation request is = absurd (let bad : Err refusal.Thread ≡ Ok request = is in cc)
below_of threads (Some thread) operation request is = by_test (nat_lt thread threads) refl is
  where
    thread_is : (operation : Result Operation Refusal) → asked thread operation ≡ Ok request → request.thread ≡ thread
    thread_is (Ok op) asks_for = let same : record { thread = thread; operation = op } ≡ request = cc in ap (λ (r : Request). r.thread) (sym same)
    thread_is (Err why) asks_for = absurd (let bad : Err why ≡ Ok request = asks_for in cc)

    by_test : (b : Bool) → nat_lt thread threads ≡ b → cond b (asked thread operation) (Err refusal.Thread) ≡ Ok request → request.thread < threads
    by_test true test asks_for = let within : thread < threads = grind (arith, nat_tests) in subst (λ t. t < threads) (sym (thread_is operation asks_for)) within
    by_test false test asks_for = absurd (let bad : Err refusal.Thread ≡ Ok request = asks_for in cc)

row_below : (threads : ℕ) (row : Row) (request : Request) → request_of threads row ≡ Ok request → request.thread < threads
row_below threads [] request is = absurd (let bad : Err refusal.Fields ≡ Ok request = is in cc)
row_below threads (a ∷ []) request is = absurd (let bad : Err refusal.Fields ≡ Ok request = is in cc)
row_below threads (a ∷ b ∷ []) request is = absurd (let bad : Err refusal.Fields ≡ Ok request = is in cc)
row_below threads (a ∷ b ∷ c ∷ []) request is = absurd (let bad : Err refusal.Fields ≡ Ok request = is in cc)
row_below threads (a ∷ b ∷ c ∷ d ∷ []) request is = below_of threads _ _ request is
row_below threads (a ∷ b ∷ c ∷ d ∷ e ∷ row) request is = absurd (let bad : Err refusal.Fields ≡ Ok request = is in cc)

accepted_asks : (threads : ℕ) (earlier : List Row) (row : Row) (request : Request) → request_after threads earlier row ≡ Ok request → request_of threads row ≡ Ok request
accepted_asks threads earlier row request is = by_test (eqb (length earlier) row_limit) is
  where
    by_test : (b : Bool) → cond b (Err refusal.Rows) (request_of threads row) ≡ Ok request → request_of threads row ≡ Ok request
    by_test true asks_for = absurd (let bad : Err refusal.Rows ≡ Ok request = asks_for in cc)
    by_test false asks_for = asks_for

pub insertions_join : (rows more : List Operation) → insertions_in (rows ++ more) ≡ insertions_in rows + insertions_in more
insertions_join [] more = omega arith
insertions_join (x ∷ rows) more = omega (arith, insertions_join rows more)

-- a row is one of its thread alone
row_insertions : (threads : ℕ) (request : Request) → request.thread < threads → total threads (λ t. insertions_in (asks t (Ok request))) ≡ insertions_at request.operation
row_insertions threads request below =
    total_one threads request.thread (insertions_at request.operation) (λ t. insertions_in (asks t (Ok request))) below
    (ap insertions_in (choice_hit request.thread request.thread (request.operation ∷ []) [] refl) ∙ omega arith)
    (λ t other. ap insertions_in (choice_miss request.thread t (request.operation ∷ []) [] (λ same. other (sym same))))

-- all threads' rows insert what the script's do
script_insertions : (threads : ℕ) (rows : List Row) → AreAccepted threads rows → total threads (λ t. insertions_in (asked_of threads t rows)) ≡ insertion_rows threads rows
script_insertions threads [] accepted = total_zero threads
script_insertions threads (row ∷ rows) accepted =
    let request = accepted.0.0 in let asks_for = accepted_asks threads rows row request accepted.0.1 in
    let here = total_alike threads (λ t. insertions_in (asks t (request_of threads row))) (λ t. insertions_in (asks t (Ok request))) (λ t below. ap (λ r. insertions_in (asks t r)) asks_for)
    ∙ row_insertions threads request (row_below threads row request asks_for) in
    total_alike threads (λ t. insertions_in (asked_of threads t (row ∷ rows))) (λ t. insertions_in (asked_of threads t rows) + insertions_in (asks t (request_of threads row))) (λ t below. insertions_join (asked_of threads t rows) (asks t (request_of threads row)))
    ∙ (total_sum threads (λ t. insertions_in (asked_of threads t rows)) (λ t. insertions_in (asks t (request_of threads row)))
    ∙ (ap₂ {A = ℕ} {B = ℕ} (λ x y. x + y) (script_insertions threads rows accepted.1) here ∙ (ap (λ n. insertion_rows threads rows + n) (sym (ap insertions_of asks_for)) ∙ omega arith)))

-- the insertions of lists that answer all rows
pub insertions_are : (threads : ℕ) (rows : List Row) (lists : List (List Entry)) → AreAccepted threads rows → length lists ≡ threads → ((t : ℕ) → t < threads → AreAnswers (asked_of threads t rows) (shown_in (steps_in lists t)))
    → (account lists).inserted ≡ insertion_rows threads rows
insertions_are threads rows lists accepted many answers =
    all_inserted lists ∙ (ap (λ n. total n (λ t. length (inserted (steps_in lists t)))) many
    ∙ (total_alike threads (λ t. length (inserted (steps_in lists t))) (λ t. insertions_in (asked_of threads t rows)) (λ t below. inserted_shown (steps_in lists t) ∙ answers_insert (asked_of threads t rows) (shown_in (steps_in lists t)) (answers t below))
    ∙ script_insertions threads rows accepted))

total_within : (n : ℕ) (f h : ℕ → ℕ) → ((t : ℕ) → t < n → f t ≤ h t) → total n f ≤ total n h
total_within zero f h less = omega arith
total_within (suc n) f h less =
    let first = less 0 (omega arith) in
    let rest = total_within n (λ t. f (suc t)) (λ t. h (suc t)) (λ t below. less (suc t) (omega (arith, below))) in
    omega (arith, first, rest)

-- and of lists that answer some of them
pub insertions_within : (threads : ℕ) (rows : List Row) (lists : List (List Entry)) → AreAccepted threads rows → length lists ≡ threads → ((t : ℕ) → t < threads → length (inserted (steps_in lists t)) ≤ insertions_in (asked_of threads t rows))
    → (account lists).inserted ≤ insertion_rows threads rows
insertions_within threads rows lists accepted many less =
    let all : length (flat_map inserted lists) ≡ total threads (λ t. length (inserted (steps_in lists t))) = all_inserted lists ∙ ap (λ n. total n (λ t. length (inserted (steps_in lists t)))) many in
    let within = total_within threads (λ t. length (inserted (steps_in lists t))) (λ t. insertions_in (asked_of threads t rows)) less in
    let script = script_insertions threads rows accepted in
    omega (arith, all, within, script)

-- a row inserts one item at most
one_row : (request : Result Request Refusal) → insertions_of request ≤ 1
one_row (Ok request) = by_operation request.operation
  where
    by_operation : (operation : Operation) → insertions_at operation ≤ 1
    by_operation (Insert key load) = omega arith
    by_operation Delete = omega arith
one_row (Err why) = omega arith

pub rows_insert : (threads : ℕ) (rows : List Row) → insertion_rows threads rows ≤ length rows
rows_insert threads [] = omega arith
rows_insert threads (row ∷ rows) = omega (arith, rows_insert threads rows, one_row (request_of threads row))

-- and no more rows are accepted than a script can have
pub accepted_few : (threads : ℕ) (rows : List Row) → AreAccepted threads rows → length rows ≤ row_limit
accepted_few threads [] accepted = omega arith
accepted_few threads (row ∷ rows) accepted =
    let few = accepted_few threads rows accepted.1 in
    let below : length rows < row_limit = dite (ℕ_discrete (length rows) row_limit)
    (λ (all : length rows ≡ row_limit). absurd (none_beyond all)) (λ other. omega (arith, few, other)) in
    omega (arith, below)
  where
    none_beyond : length rows ≡ row_limit → ⊥
    none_beyond all =
        let beyond : eqb (length rows) row_limit ≡ true = grind (arith, nat_tests) in
        let refused : request_after threads rows row ≡ Err refusal.Rows = rw beyond refl in
        let bad : Err refusal.Rows ≡ Ok accepted.0.0 = sym refused ∙ accepted.0.1 in cc

-- what was inserted is deleted or left
pub adds_up : (m : Sizes) (lists : List (List Entry)) → AreListsAtEnd m lists → (account lists).inserted ≡ (account lists).deleted + length (account lists).left
adds_up m lists at_end =
    subst (λ (z : List (List Entry)). (account z).inserted ≡ (account z).deleted + length (account z).left) at_end.lists_are
    (accounts_add_up (world_limits m) at_end.world (schedules_keep_lawful (world_limits m) at_end.schedule at_end.world at_end.leads))
