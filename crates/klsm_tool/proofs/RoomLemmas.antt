-- No worker of a script finds the shared part full.
use Rattle.std.proofs.Common.{◌≡◌, ℕ, ◌+◌, ◌<◌, ◌≤◌, max, List, [], ◌∷◌, length, get_or, Option, Some, None, ap, ◌∙◌, arith}
use Rattle.klsm_run.specs.declared.limits.TheConstants.{PROGRAM_LEVELS, PROGRAM_K}
use lib.ListN.{get_elem?}
use Rattle.klsm_run.specs.Capacity.{heap_room}
use Rattle.klsm_parts.specs.Limit.{limit_of}
use Rattle.klsm_schedules.specs.declared.step.Entry.{Entry}
use Rattle.klsm_schedules.specs.OwnSteps.{inserted, shared_part}
use Rattle.klsm_board.specs.declared.sizes.Sizes.{Sizes}
use Rattle.klsm_board.specs.Finishing.{AreListsAtEnd}
use Rattle.klsm_board.specs.Inserting.{LacksRoom}
use Rattle.klsm_board.specs.Rule.{world_limits}
use Rattle.klsm_board.proofs.lemmas.ending.FoundLemmas.{found_few, insertions}
use Rattle.klsm_board.proofs.lemmas.ending.FullLemmas.{gave_up_at}
use Rattle.klsm_rows.specs.Rows.{Row}
use Rattle.klsm_text.specs.declared.request.Operation.{Operation}
use Rattle.klsm_text.specs.Script.{row_limit}
use Rattle.klsm_text.specs.ThreadRows.{AreAccepted, asked_of, insertion_rows, insertions_in}
use Rattle.klsm_tool.specs.declared.member_calls.Want.{Want}
use Rattle.klsm_tool.specs.Crews.{steps_in}
use Rattle.klsm_tool.specs.Shown.{shown_in}
use Rattle.klsm_tool.specs.MemberCalls.{EndsFull}
use Rattle.klsm_tool.specs.Working.{Works}
use Rattle.klsm_tool.proofs.AllLemmas.{has_room}
use Rattle.klsm_tool.proofs.TotalLemmas.{accepted_few, answers_insert, inserted_shown, insertions_join, insertions_within, rows_insert}

-- a worker inserts no more items than it is asked for
pub works_few : (k t : ℕ) (asked : List Operation) (es : List Entry) (gave_up : Option Want) → Works k t asked es gave_up → length (inserted es) ≤ insertions_in asked
works_few k t asked es None works =
    let all = inserted_shown es ∙ answers_insert asked (shown_in es) works in omega (arith, all)
works_few k t asked es (Some want) works =
    let earlier = inserted_shown es ∙ answers_insert works.earlier (shown_in es) works.answers in
    let all = ap insertions_in works.all ∙ insertions_join works.earlier (works.here ∷ works.later) in
    omega (arith, earlier, all)

-- so all of them insert no more than a script has rows
pub all_few : (threads : ℕ) (rows : List Row) (lists : List (List Entry)) → AreAccepted threads rows → length lists ≡ threads → ((t : ℕ) → t < threads → length (inserted (steps_in lists t)) ≤ insertions_in (asked_of threads t rows))
    → insertions lists ≤ row_limit
all_few threads rows lists accepted many less =
    let within : insertions lists ≤ insertion_rows threads rows = insertions_within threads rows lists accepted many less in
    let most = rows_insert threads rows in let few = accepted_few threads rows accepted in
    omega (arith, within, most, few)

-- and in one world with the others none of them finds the shared part full
pub never_full : (m : Sizes) (lists : List (List Entry)) (t : ℕ) → AreListsAtEnd m lists → insertions lists ≤ row_limit → m.k ≤ PROGRAM_K → EndsFull PROGRAM_LEVELS m.k t (steps_in lists t) → ⊥
never_full m lists t at_end few small full =
    let up = full.1.2 in
    let at = gave_up_at m.k t full.1.0 (steps_in lists t) (LacksRoom PROGRAM_LEVELS m.k) up in
    let there = ap (λ (z : List (List Entry)). get_elem? (get_or z t []) at.0) at_end.lists_are ∙ at.1 in
    let found = found_few (world_limits m) at_end.schedule at_end.world at_end.leads t at.0 shared_part up.shared there in
    let all : insertions at_end.world.lists ≡ insertions lists = ap insertions at_end.lists_are in
    let most : ℕ = max 1 m.k in
    let limit : ℕ = limit_of PROGRAM_LEVELS heap_room in
    let lacks : limit < length up.shared + most = up.found in
    let beyond : limit < insertions lists + most = omega (arith, found, all, lacks) in
    has_room (insertions lists) m.k few small beyond
