-- The workers at their places, before they begin and when all are back.
use Rattle.std.proofs.Common.{◌≡◌, ℕ, Bool, zero, suc, ◌+◌, ◌<◌, ◌≤◌, List, [], ◌∷◌, length, map, slice_index_or, Option, Some, None, Result, Ok, Err, IfOk, IfErr, refl, sym, ap, ◌∙◌, subst, arith}
use Rattle.std.specs.List.{All}
use Rattle.std.proofs.lemmas.List.{length-map}
use Rattle.klsm_run.specs.declared.limits.TheConstants.{PROGRAM_LEVELS, PROGRAM_K}
use mathlib.Core.Option.{some, some-injective, some-ne-none}
use lib.ListN.{get_elem?}
use Rattle.klsm_schedules.specs.declared.step.Entry.{Entry}
use Rattle.klsm_board.specs.declared.board.Board.{Board}
use Rattle.klsm_board.specs.declared.board.Member.{Member}
use Rattle.klsm_board.specs.declared.sizes.Sizes.{Sizes}
use Rattle.klsm_board.specs.Boards.{AreMembersOf, AreNewMembersOf, IsOf, own_steps}
use Rattle.klsm_board.specs.Finishing.{AreListsAtEnd}
use Rattle.klsm_board.proofs.lemmas.ending.FoundLemmas.{insertions}
use Rattle.klsm_board.proofs.lemmas.ending.EndLemmas.{each_of}
use Rattle.klsm_text.specs.declared.stop.Stop.TheVariants as stop
use Rattle.klsm_text.specs.declared.stop.Closing.{Closing}
use Rattle.klsm_text.specs.declared.totals.Totals.{Totals}
use Rattle.klsm_tool.specs.declared.member_calls.Want.{Want}
use Rattle.klsm_tool.specs.declared.member_calls.Want.TheVariants as want
use Rattle.klsm_words.specs.declared.settings.ScriptSettings.{ScriptSettings}
use Rattle.klsm_tool.specs.declared.picking.ThreadPicker.{ThreadPicker}
use Rattle.klsm_tool.specs.declared.worker.Worker.{Worker}
use Rattle.klsm_knapsack.specs.Courses.{IsOnCourse}
use Rattle.klsm_tool.specs.Courses.{CallsInTurn, GoInTurn}
use Rattle.klsm_tool.specs.Crews.{board_sizes, lists_in, steps_in}
use Rattle.klsm_tool.specs.Picking.{picker_of}
use Rattle.klsm_tool.specs.Live.{HasNoTotals, RunsAll, RunsScript}
use Rattle.klsm_rows.specs.Rows.{AreAllRows, Row}
use Rattle.klsm_tool.specs.Shown.{shown_in}
use Rattle.klsm_text.specs.declared.request.Operation.{Operation}
use Rattle.klsm_text.specs.Script.{row_limit}
use Rattle.klsm_text.specs.ThreadRows.{AreAccepted, asked_of}
use Rattle.klsm_tool.specs.MemberCalls.{AreAnswers, Wants}
use Rattle.klsm_tool.specs.Working.{AreAccounted, HasRunRows, HasRunAt, IsReady, IsReadyAt, Works, gave_up_at, members_in, ready, steps_at}
use Rattle.klsm_tool.proofs.RoomLemmas.{all_few, never_full, works_few}
use Rattle.klsm_tool.proofs.TotalLemmas.{adds_up, insertions_are}

-- ---- before they begin

ready_from : (board : Board PROGRAM_K PROGRAM_LEVELS) (members : List (Member PROGRAM_K PROGRAM_LEVELS)) (n : ℕ) → ((i : ℕ) (member : Member PROGRAM_K PROGRAM_LEVELS) → get_elem? members i ≡ some member → IsReady board (n + i) member) → (t : ℕ) (d : Option Worker) → t < length (map ready members) → IsReadyAt board (n + t) (slice_index_or (map ready members) t d)
ready_from board [] n each t d within = absurd (omega (arith, within))
ready_from board (m ∷ members) n each zero d within = each 0 m refl
ready_from board (m ∷ members) n each (suc t) d within =
    subst (λ j. IsReadyAt board j (slice_index_or (map ready members) t d)) (let e : (n + 1) + t ≡ n + suc t = omega arith in e)
    (ready_from board members (n + 1) (λ i member there. subst (λ j. IsReady board j member) (let e : n + suc i ≡ (n + 1) + i = omega arith in e) (each (suc i) member there)) t d (omega (arith, within)))

-- the members of a new board are ready at their places
pub crew_ready : (board : Board PROGRAM_K PROGRAM_LEVELS) (members : List (Member PROGRAM_K PROGRAM_LEVELS)) → All (λ member. IsOf member board) members → AreNewMembersOf board members → (t : ℕ) (d : Option Worker) → t < length (map ready members)
    → IsReadyAt board t (slice_index_or (map ready members) t d)
crew_ready board members of crew t d within =
    subst (λ j. IsReadyAt board j (slice_index_or (map ready members) t d)) (let e : 0 + t ≡ t = omega arith in e)
    (ready_from board members 0 (λ i member there. record { of = each_of (λ z. IsOf z board) members of i member there; number = (let n = crew.are.numbered i member there in omega (arith, n)); no_steps = crew.new i member there }) t d within)

-- ---- when all are back

-- what stands at the places from the n-th on
record AreBack (board : Board PROGRAM_K PROGRAM_LEVELS) (n : ℕ) (crew : List (Option Worker)) : Type 0 where
  of : (i : ℕ) (member : Member PROGRAM_K PROGRAM_LEVELS) → get_elem? (members_in crew) i ≡ some member → IsOf member board
  numbered : (i : ℕ) (member : Member PROGRAM_K PROGRAM_LEVELS) → get_elem? (members_in crew) i ≡ some member → member.number ≡ n + i
  lists : lists_in (members_in crew) ≡ map steps_at crew

one_more : (board : Board PROGRAM_K PROGRAM_LEVELS) (n : ℕ) (worker : Worker) (crew : List (Option Worker)) → IsOf worker.member board → worker.member.number ≡ n → AreBack board (n + 1) crew → AreBack board n (Some worker ∷ crew)
one_more board n worker crew is_of number rest = record { of = of; numbered = numbered; lists = ap (λ z. own_steps worker.member ∷ z) rest.lists }
  where
    of : (i : ℕ) (member : Member PROGRAM_K PROGRAM_LEVELS) → get_elem? (worker.member ∷ members_in crew) i ≡ some member → IsOf member board
    of zero member there = subst (λ (z : Member PROGRAM_K PROGRAM_LEVELS). IsOf z board) (some-injective worker.member member there) is_of
    of (suc i) member there = rest.of i member there

    numbered : (i : ℕ) (member : Member PROGRAM_K PROGRAM_LEVELS) → get_elem? (worker.member ∷ members_in crew) i ≡ some member → member.number ≡ n + i
    numbered zero member there = subst (λ (z : Member PROGRAM_K PROGRAM_LEVELS). z.number ≡ n + 0) (some-injective worker.member member there) (omega (arith, number))
    numbered (suc i) member there = let behind = rest.numbered i member there in omega (arith, behind)

are_back : (settings : ScriptSettings) (board : Board PROGRAM_K PROGRAM_LEVELS) (asked : ℕ → List Operation) (crew : List (Option Worker)) (n : ℕ) → ((t : ℕ) (d : Option Worker) → t < length crew → HasRunAt settings board (n + t) (asked (n + t)) (slice_index_or crew t d)) → AreBack board n crew
are_back settings board asked [] n ran = record { of = λ i member there. absurd (some-ne-none member (sym there)); numbered = λ i member there. absurd (some-ne-none member (sym there)); lists = refl }
are_back settings board asked (None ∷ crew) n ran = absurd (ran 0 None (omega arith))
are_back settings board asked (Some worker ∷ crew) n ran =
    let here : HasRunRows settings board n (asked n) worker = subst (λ j. HasRunRows settings board j (asked j) worker) (let e : n + 0 ≡ n = omega arith in e) (ran 0 None (omega arith)) in
    let rest = are_back settings board asked crew (n + 1) (λ t d below. subst (λ j. HasRunAt settings board j (asked j) (slice_index_or crew t d)) (let e : n + suc t ≡ (n + 1) + t = omega arith in e) (ran (suc t) d (omega (arith, below)))) in
    one_more board n worker crew here.of here.number rest

-- they are the members of the board, and their lists stand at their places
pub all_back : (settings : ScriptSettings) (board : Board PROGRAM_K PROGRAM_LEVELS) (asked : ℕ → List Operation) (crew : List (Option Worker)) → length crew ≡ board.sizes.threads → ((t : ℕ) (d : Option Worker) → t < length crew → HasRunAt settings board t (asked t) (slice_index_or crew t d))
    → AreMembersOf board (members_in crew) × (lists_in (members_in crew) ≡ map steps_at crew)
all_back settings board asked crew many ran =
    let from_zero = λ (t : ℕ). let e : t ≡ 0 + t = omega arith in e in
    let told = are_back settings board asked crew 0 (λ t d below. subst (λ j. HasRunAt settings board j (asked j) (slice_index_or crew t d)) (from_zero t) (ran t d below)) in
    let so_many : length (members_in crew) ≡ board.sizes.threads = sym (length-map (members_in crew) own_steps) ∙ (ap (λ (z : List (List Entry)). length z) told.lists ∙ (length-map crew steps_at ∙ many)) in (
      record { of = told.of; many = so_many; numbered = λ i member there. told.numbered i member there ∙ sym (from_zero i) },
      told.lists,
    )

steps_there : (crew : List (Option Worker)) (t : ℕ) (d : Option Worker) → t < length crew → steps_in (map steps_at crew) t ≡ steps_at (slice_index_or crew t d)
steps_there [] t d below = absurd (omega (arith, below))
steps_there (place ∷ crew) zero d below = refl
steps_there (place ∷ crew) (suc t) d below = steps_there crew t d (omega (arith, below))

works_at : (settings : ScriptSettings) (board : Board PROGRAM_K PROGRAM_LEVELS) (t : ℕ) (asked : List Operation) (place : Option Worker) → HasRunAt settings board t asked place → Works board.sizes.k t asked (steps_at place) (gave_up_at place)
works_at settings board t asked None ran = absurd ran
works_at settings board t asked (Some worker) ran = ran.works

-- one that did not give up made calls as the settings choose them
calls_at : (settings : ScriptSettings) (board : Board PROGRAM_K PROGRAM_LEVELS) (t : ℕ) (asked : List Operation) (place : Option Worker) → HasRunAt settings board t asked place → gave_up_at place ≡ None
    → (picker : ThreadPicker) × IsOnCourse (CallsInTurn board.sizes t) (picker_of settings t) picker (steps_at place)
calls_at settings board t asked None ran none = absurd ran
calls_at settings board t asked (Some worker) ran none = ran.course none

-- the totals of members that are back
pub all_run : (settings : ScriptSettings) (input : Option (List ℕ)) (rows : List Row) (lists : List (List Entry)) (totals : Totals) → AreAllRows input rows → AreAccepted settings.threads rows → length lists ≡ settings.threads → GoInTurn settings lists
    → ((t : ℕ) → t < settings.threads → AreAnswers (asked_of settings.threads t rows) (shown_in (steps_in lists t))) → AreAccounted (board_sizes settings) lists totals → RunsAll settings input totals
all_run settings input rows lists totals all accepted many course answers accounted =
    let insertions = insertions_are settings.threads rows lists accepted many answers in
    let sum = adds_up (board_sizes settings) lists accounted.at_end in
    record {
      rows = rows;
      all = all;
      accepted = accepted;
      lists = lists;
      many = many;
      at_end = accounted.at_end;
      course = course;
      answers = answers;
      inserted_is = accounted.inserted_is;
      deleted_is = accounted.deleted_is;
      left_is = accounted.left_is;
      insertions = accounted.inserted_is ∙ insertions;
      sum = omega (arith, sum, accounted.inserted_is, accounted.deleted_is, accounted.left_is);
    }

module _ (settings : ScriptSettings) (rows : List Row) (accepted : AreAccepted settings.threads rows) (board : Board PROGRAM_K PROGRAM_LEVELS) (sizes : board.sizes ≡ board_sizes settings) (crew : List (Option Worker)) (many : length crew ≡ settings.threads)
    (ran : (t : ℕ) (d : Option Worker) → t < length crew → HasRunAt settings board t (asked_of settings.threads t rows) (slice_index_or crew t d)) where
  abbrev m : Sizes
  m = board_sizes settings

  back : AreMembersOf board (members_in crew) × (lists_in (members_in crew) ≡ map steps_at crew)
  back = all_back settings board (λ t. asked_of settings.threads t rows) crew (many ∙ sym (ap (λ (z : Sizes). z.threads) sizes)) ran

  -- the list of a thread
  list_of : (t : ℕ) → t < settings.threads → steps_in (lists_in (members_in crew)) t ≡ steps_at (slice_index_or crew t None)
  list_of t below = ap (λ (z : List (List Entry)). steps_in z t) back.1 ∙ steps_there crew t None (omega (arith, below, many))

  -- and how it works
  works : (t : ℕ) → t < settings.threads → Works settings.k t (asked_of settings.threads t rows) (steps_in (lists_in (members_in crew)) t) (gave_up_at (slice_index_or crew t None))
  works t below =
      subst (λ es. Works settings.k t (asked_of settings.threads t rows) es (gave_up_at (slice_index_or crew t None))) (sym (list_of t below))
      (subst (λ (z : Sizes). Works z.k t (asked_of settings.threads t rows) (steps_at (slice_index_or crew t None)) (gave_up_at (slice_index_or crew t None))) sizes
      (works_at settings board t (asked_of settings.threads t rows) (slice_index_or crew t None) (ran t None (omega (arith, below, many)))))

  -- by calls as the settings choose them, where none gave up
  course : ((t : ℕ) → t < settings.threads → gave_up_at (slice_index_or crew t None) ≡ None) → GoInTurn settings (lists_in (members_in crew))
  course none t below =
      let place = slice_index_or crew t None in let first = picker_of settings t in
      let calls = calls_at settings board t (asked_of settings.threads t rows) place (ran t None (omega (arith, below, many))) (none t below) in
      (calls.0, subst (λ (es : List Entry). IsOnCourse (CallsInTurn m t) first calls.0 es) (sym (list_of t below)) (subst (λ (z : Sizes). IsOnCourse (CallsInTurn z t) first calls.0 (steps_at place)) sizes calls.1))

  so_many : length (lists_in (members_in crew)) ≡ settings.threads
  so_many = length-map (members_in crew) own_steps ∙ (back.0.many ∙ ap (λ (z : Sizes). z.threads) sizes)

  -- where none gave up there are totals, unless memory was wanted for them
  pub finished : (failed : Bool) (input : Option (List ℕ)) → AreAllRows input rows → (result : Result Totals Closing) → ((t : ℕ) → t < settings.threads → gave_up_at (slice_index_or crew t None) ≡ None)
      → IfOk result (λ totals. AreAccounted board.sizes (lists_in (members_in crew)) totals) → IfErr result (λ closing. closing.stop ≡ stop.NoMemory) → RunsScript failed settings input result
  finished failed input all (Ok totals) none ok err =
      all_run settings input rows (lists_in (members_in crew)) totals all accepted so_many (course none)
      (λ t below. subst (Works settings.k t (asked_of settings.threads t rows) (steps_in (lists_in (members_in crew)) t)) (none t below) (works t below))
      (subst (λ (z : Sizes). AreAccounted z (lists_in (members_in crew)) totals) sizes ok)
  finished failed input all (Err closing) none ok err = subst (HasNoTotals failed settings.threads input closing.row) (sym err) tt

  -- where one did, and their lists are those of one schedule, it was not for want of room
  pub room_was_there : (lacked : Want) (t : ℕ) → t < settings.threads → settings.k ≤ PROGRAM_K → gave_up_at (slice_index_or crew t None) ≡ Some lacked → lacked ≡ want.Room → AreListsAtEnd board.sizes (lists_in (members_in crew)) → ⊥
  room_was_there lacked t below small is room at_end =
      never_full m (lists_in (members_in crew)) t (subst (λ (z : Sizes). AreListsAtEnd z (lists_in (members_in crew))) sizes at_end) few small
      (subst (Wants PROGRAM_LEVELS settings.k t (steps_in (lists_in (members_in crew)) t)) room (subst (Works settings.k t (asked_of settings.threads t rows) (steps_in (lists_in (members_in crew)) t)) is (works t below)).wants)
    where
      few : insertions (lists_in (members_in crew)) ≤ row_limit
      few = all_few settings.threads rows (lists_in (members_in crew)) accepted so_many
          (λ u within. works_few settings.k u (asked_of settings.threads u rows) (steps_in (lists_in (members_in crew)) u) (gave_up_at (slice_index_or crew u None)) (works u within))
