use Rattle.std.proofs.Common.{◌≡◌, ◌<◌, ◌≤◌, ◌++◌, rules, All, length, drop, take, vec_capacity, lit<, sym, ap, subst, arith, List}
use Rattle.klsm_run.specs.declared.limits.TheConstants.{PROGRAM_K}
use Rattle.klsm_board.specs.declared.board.Member.{Member}
use Rattle.klsm_board.specs.declared.sizes.Sizes.{Sizes}
use Rattle.klsm_board.specs.Members.{most_insertions, sizes_of}
use Rattle.klsm_board.specs.Boards.{AreMembersOf, IsOf}
use Rattle.klsm_knapsack.specs.declared.search_state.SearchState.{SearchState}
use Rattle.klsm_knapsack.specs.declared.search_state.NoRoom.{NoRoom}
use Rattle.klsm_knapsack.specs.declared.search_state.Worker.{Worker}
use Rattle.klsm_knapsack.specs.declared.errors.SearchError.{SearchError}
use Rattle.klsm_parts.specs.Generators.{generator_of}
use Rattle.klsm_knapsack.specs.IncumbentSeats.{IsSeatAt}
use Rattle.klsm_knapsack.specs.Ends.{IsLeastRefusal}
use Rattle.klsm_knapsack.specs.Refusals.{RefusesSearch}
use Rattle.klsm_knapsack.specs.Workers.{AreWorkersOf, HasNotBegun, HaveEndedSo, HaveWorked, IsSearched}
use Rattle.klsm_knapsack.proofs.CrewLemmas.{each_ran, none_refused, so_many_workers}
use Rattle.klsm_parts.proofs.FitLemmas.{shared_fits}
use Rattle.klsm_knapsack.proofs.FinishLemmas.{good_threads, good_k, good_refill, memory_is_not_threads, memory_is_not_k, memory_is_not_refill, memory_is_not_full, whole, refuses, refused_too, workers_made, are_new, members_of, least_refusal, searched}
use Rattle.klsm_knapsack.proofs.RoomLemmas.{never_full}
use Rattle.klsm_knapsack.proofs.SearchLemmas.{has_searched}
use Rattle.klsm_knapsack.proofs.solving.solve_on_board.Goals as goal

pub search-requires-after_bounds : goal.search-requires-after_bounds
search-requires-after_bounds g c κs within =
    let board = c.in_ok-board.board in
    let state : SearchState g.row.LEVELS = record { board = board; incumbent = c.in-Ok.incumbent; no_room = c.args.no_room } in
    let workers : List (Worker g.row.LEVELS) = c.in-Ok-make_workers.crew.items in
    let made = c.in_ok-board.ensures in
    let threads : board.sizes.threads ≡ c.args.options.now.threads = ap (λ (m : Sizes). m.threads) made.sizes in
    let quota : board.sizes.quota ≡ most_insertions = ap (λ (m : Sizes). m.quota) made.sizes in
    let some_thread : 0 < board.sizes.threads = omega (arith, threads, made.in_range.0) in
    let crew : AreWorkersOf state workers = workers_made state workers c.in_ok-board.members.items c.in-Ok-make_workers.ensures.members made.crew some_thread c.in-Ok-make_workers.ensures.seats in
    let new : All HasNotBegun workers = are_new state workers c.in_ok-board.members.items c.in-Ok-make_workers.ensures.members made.crew some_thread c.in-Ok-make_workers.ensures.seats in
    let lent : workers ≡ c.as_mut_slice.result.now = sym c.as_mut_slice.ensures.value in
    (lit< tt, (lit< tt, (c.in-Ok.ensures.0, (subst (λ (ws : List (Worker g.row.LEVELS)). AreWorkersOf state ws) lent crew, (subst (λ (ws : List (Worker g.row.LEVELS)). All HasNotBegun ws) lent new, (omega (arith, quota), subst (λ (ws : List (Worker g.row.LEVELS)). All (λ (w : Worker g.row.LEVELS). w.picker ≡ generator_of w.member.number) ws) lent c.in-Ok-make_workers.ensures.pickers))))))

pub join_workers-requires : goal.join_workers-requires
join_workers-requires g c =
    let state : SearchState g.row.LEVELS = record { board = c.in_ok-board.board; incumbent = c.in-Ok.incumbent; no_room = c.args.no_room } in
    let after : List (Worker g.row.LEVELS) = c.search.new.crew in
    let crew : AreWorkersOf state after = c.search.ensures.crew in
    let as_long : c.in-Ok-make_workers.crew.len ≡ length after = search rules in
    let is : take c.in-Ok-make_workers.crew.len (after ++ drop (length after) c.in-Ok-make_workers.crew.items) ≡ after = whole c.in-Ok-make_workers.crew.len after (drop (length after) c.in-Ok-make_workers.crew.items) as_long in
    let threads : c.in_ok-board.board.sizes.threads ≡ c.args.options.now.threads = ap (λ (m : Sizes). m.threads) c.in_ok-board.ensures.sizes in
    let room : length after ≤ vec_capacity c.in-Ok-with_capacity.back = omega (arith, so_many_workers state after crew, threads, c.in-Ok-with_capacity.ensures.exact) in
    let seats : All (λ (w : Worker g.row.LEVELS). IsSeatAt c.in-Ok.incumbent w.seat) after = crew.seats in (
      lit< tt,
      (
        lit< tt,
        (
          c.in-Ok-make_workers.ensures.first,
          (
            subst (λ (ws : List (Worker g.row.LEVELS)). All (λ (w : Worker g.row.LEVELS). IsSeatAt c.in-Ok.incumbent w.seat) ws) (sym is) seats,
            (c.in-Ok-with_capacity.ensures.items, subst (λ (ws : List (Worker g.row.LEVELS)). length ws ≤ vec_capacity c.in-Ok-with_capacity.back) (sym is) room),
          ),
        ),
      ),
    )

pub returns-in-Err-clause-refused : goal.returns-in-Err-clause-refused
returns-in-Err-clause-refused g c = λ not_alone.
    let state : SearchState g.row.LEVELS = record { board = c.in_ok-board.board; incumbent = c.in-Ok.incumbent; no_room = c.args.no_room } in
    let after : List (Worker g.row.LEVELS) = c.search.new.crew in
    let as_long : c.in-Ok-make_workers.crew.len ≡ length after = search rules in
    let is : take c.in-Ok-make_workers.crew.len (after ++ drop (length after) c.in-Ok-make_workers.crew.items) ≡ after = whole c.in-Ok-make_workers.crew.len after (drop (length after) c.in-Ok-make_workers.crew.items) as_long in
    let first = rw is at c.in-Err.ensures.refused in
    let least : IsLeastRefusal g.row.LEVELS c.in_ok-board.board.sizes c.in-Err.why = least_refusal state after c.search.ensures.crew c.args.options.now.idle c.in-Err.why (subst (λ (m : NoRoom). HaveEndedSo m c.args.options.now.idle after) not_alone c.search.ensures.ended) first in
    let told = refused_too g.row.LEVELS (sizes_of c.args.options.now.threads c.args.options.now.k) c.args.options.now.refill c.in-Err.why (subst (λ (m : Sizes). IsLeastRefusal g.row.LEVELS m c.in-Err.why) c.in_ok-board.ensures.sizes least) in
    subst (λ (why : SearchError). RefusesSearch g.row.LEVELS c.args.options.now.threads c.args.options.now.k c.args.options.now.refill why) (sym c.error_in_one_hand.ensures.error)
    (refuses g.row.LEVELS c.args.options.now.threads c.args.options.now.k c.args.options.now.refill c.in-Err.why c.in_ok-board.ensures.in_range told)

pub finish-requires : goal.finish-requires
finish-requires g c =
    let state : SearchState g.row.LEVELS = record { board = c.in_ok-board.board; incumbent = c.in-Ok.incumbent; no_room = c.args.no_room } in
    let after : List (Worker g.row.LEVELS) = c.search.new.crew in
    let as_long : c.in-Ok-make_workers.crew.len ≡ length after = search rules in
    let is : take c.in-Ok-make_workers.crew.len (after ++ drop (length after) c.in-Ok-make_workers.crew.items) ≡ after = whole c.in-Ok-make_workers.crew.len after (drop (length after) c.in-Ok-make_workers.crew.items) as_long in
    let back = rw is at c.in_default-join_workers.ensures.members in
    (lit< tt, (lit< tt, (lit< tt, subst (λ (ms : List (Member PROGRAM_K g.row.LEVELS)). All (λ (m : Member PROGRAM_K g.row.LEVELS). IsOf m c.in_ok-board.board) ms) (sym back) (members_of state after c.search.ensures.crew))))

pub returns-clause-best : goal.returns-clause-best
returns-clause-best g c =
    let p = c.args.instance.now in
    let state : SearchState g.row.LEVELS = record { board = c.in_ok-board.board; incumbent = c.in-Ok.incumbent; no_room = c.args.no_room } in
    let after : List (Worker g.row.LEVELS) = c.search.new.crew in
    let as_long : c.in-Ok-make_workers.crew.len ≡ length after = search rules in
    let is : take c.in-Ok-make_workers.crew.len (after ++ drop (length after) c.in-Ok-make_workers.crew.items) ≡ after = whole c.in-Ok-make_workers.crew.len after (drop (length after) c.in-Ok-make_workers.crew.items) as_long in
    let back = rw is at c.in_default-join_workers.ensures.members in
    let found = rw is at c.in_default-join_workers.ensures.found in
    let none = rw is at c.in_default-join_workers.ensures.none in
    let worked : HaveWorked p after = c.search.ensures.worked (none_refused after none) in
    let done : IsSearched p c.finish-number.result c.in-Ok-finish.account.left.items = searched state after c.search.ensures.crew p _ c.finish-number.result c.join_workers.new.back.items c.in-Ok-finish.account.left.items back worked found c.finish-number.ensures.found
    c.in-Ok-finish.ensures.each_once c.in-Ok-finish.ensures.ok.4 in
    c.conclude.ensures.best (rw c.as_slice.ensures.value done)

pub returns-clause-ran : goal.returns-clause-ran
returns-clause-ran g c =
    let state : SearchState g.row.LEVELS = record { board = c.in_ok-board.board; incumbent = c.in-Ok.incumbent; no_room = c.args.no_room } in
    let after : List (Worker g.row.LEVELS) = c.search.new.crew in
    let as_long : c.in-Ok-make_workers.crew.len ≡ length after = search rules in
    let is : take c.in-Ok-make_workers.crew.len (after ++ drop (length after) c.in-Ok-make_workers.crew.items) ≡ after = whole c.in-Ok-make_workers.crew.len after (drop (length after) c.in-Ok-make_workers.crew.items) as_long in
    let back = rw is at c.in_default-join_workers.ensures.members in
    let none = none_refused after (rw is at c.in_default-join_workers.ensures.none) in
    has_searched state after c.search.ensures.crew c.args.options.now c.in_ok-board.ensures.sizes c.args.no_room c.join_workers.new.back.items back c.in-Ok-finish.ensures.ok.1 (each_ran c.args.no_room c.args.options.now.idle after c.search.ensures.ended none) none

pub drop-members-requires-room-T-Destruct : goal.drop-members-requires-room-T-Destruct
drop-members-requires-room-T-Destruct g c κs = lit< tt

pub drop-members-requires-in_default-with_capacity-room-T-Destruct : goal.drop-members-requires-in_default-with_capacity-room-T-Destruct
drop-members-requires-in_default-with_capacity-room-T-Destruct g c κs = lit< tt

pub drop-back-requires-room-T-Destruct : goal.drop-back-requires-room-T-Destruct
drop-back-requires-room-T-Destruct g c κs = lit< tt

pub drop-requires-in_default-finish-room-T-Destruct : goal.drop-requires-in_default-finish-room-T-Destruct
drop-requires-in_default-finish-room-T-Destruct g c κs = lit< tt

pub drop-board-requires-room-P-TableRule : goal.drop-board-requires-room-P-TableRule
drop-board-requires-room-P-TableRule g c κs = lit< tt

pub drop-board-requires-room-P-TableRule-2 : goal.drop-board-requires-room-P-TableRule-2
drop-board-requires-room-P-TableRule-2 g c κs = shared_fits _ c.requires.levels

pub drop-board-requires-room-S-Destruct : goal.drop-board-requires-room-S-Destruct
drop-board-requires-room-S-Destruct g c κs = shared_fits _ c.requires.levels

pub drop-board-requires-in_default-with_capacity-room-P-TableRule : goal.drop-board-requires-in_default-with_capacity-room-P-TableRule
drop-board-requires-in_default-with_capacity-room-P-TableRule g c κs = lit< tt

pub drop-board-requires-in_default-with_capacity-room-P-TableRule-2 : goal.drop-board-requires-in_default-with_capacity-room-P-TableRule-2
drop-board-requires-in_default-with_capacity-room-P-TableRule-2 g c κs = shared_fits _ c.requires.levels

pub drop-board-requires-in_default-with_capacity-room-S-Destruct : goal.drop-board-requires-in_default-with_capacity-room-S-Destruct
drop-board-requires-in_default-with_capacity-room-S-Destruct g c κs = shared_fits _ c.requires.levels

pub drop-board-requires-in_default-make_workers-room-P-TableRule : goal.drop-board-requires-in_default-make_workers-room-P-TableRule
drop-board-requires-in_default-make_workers-room-P-TableRule g c κs = lit< tt

pub drop-board-requires-in_default-make_workers-room-P-TableRule-2 : goal.drop-board-requires-in_default-make_workers-room-P-TableRule-2
drop-board-requires-in_default-make_workers-room-P-TableRule-2 g c κs = shared_fits _ c.requires.levels

pub drop-board-requires-in_default-make_workers-room-S-Destruct : goal.drop-board-requires-in_default-make_workers-room-S-Destruct
drop-board-requires-in_default-make_workers-room-S-Destruct g c κs = shared_fits _ c.requires.levels

pub drop-state-requires-room-P-TableRule : goal.drop-state-requires-room-P-TableRule
drop-state-requires-room-P-TableRule g c κs = lit< tt

pub drop-state-requires-room-P-TableRule-2 : goal.drop-state-requires-room-P-TableRule-2
drop-state-requires-room-P-TableRule-2 g c κs = shared_fits _ c.requires.levels

pub drop-state-requires-room-S-Destruct : goal.drop-state-requires-room-S-Destruct
drop-state-requires-room-S-Destruct g c κs = shared_fits _ c.requires.levels

pub drop-requires-room-P-TableRule : goal.drop-requires-room-P-TableRule
drop-requires-room-P-TableRule g c κs = lit< tt

pub drop-requires-room-P-TableRule-2 : goal.drop-requires-room-P-TableRule-2
drop-requires-room-P-TableRule-2 g c κs = shared_fits _ c.requires.levels

pub drop-requires-room-S-Destruct : goal.drop-requires-room-S-Destruct
drop-requires-room-S-Destruct g c κs = shared_fits _ c.requires.levels

pub returns-in_default-clause-refused : goal.returns-in_default-clause-refused
returns-in_default-clause-refused g c = λ not_alone. c.in_ok-board.ensures.in_range

pub returns-in_default-clause-bad_threads : goal.returns-in_default-clause-bad_threads
returns-in_default-clause-bad_threads g c = good_threads _ _ memory_is_not_threads c.in_ok-board.ensures.in_range

pub returns-in_default-clause-bad_k : goal.returns-in_default-clause-bad_k
returns-in_default-clause-bad_k g c = good_k _ _ memory_is_not_k c.in_ok-board.ensures.in_range

pub returns-in_default-clause-bad_refill : goal.returns-in_default-clause-bad_refill
returns-in_default-clause-bad_refill g c = good_refill _ _ _ memory_is_not_refill c.in_ok-board.ensures.refill

pub returns-in_default-with_capacity-clause-refused : goal.returns-in_default-with_capacity-clause-refused
returns-in_default-with_capacity-clause-refused g c = λ not_alone. c.in_ok-board.ensures.in_range

pub returns-in_default-with_capacity-clause-bad_threads : goal.returns-in_default-with_capacity-clause-bad_threads
returns-in_default-with_capacity-clause-bad_threads g c = good_threads _ _ memory_is_not_threads c.in_ok-board.ensures.in_range

pub returns-in_default-with_capacity-clause-bad_k : goal.returns-in_default-with_capacity-clause-bad_k
returns-in_default-with_capacity-clause-bad_k g c = good_k _ _ memory_is_not_k c.in_ok-board.ensures.in_range

pub returns-in_default-with_capacity-clause-bad_refill : goal.returns-in_default-with_capacity-clause-bad_refill
returns-in_default-with_capacity-clause-bad_refill g c = good_refill _ _ _ memory_is_not_refill c.in_ok-board.ensures.refill

pub returns-in_default-make_workers-clause-refused : goal.returns-in_default-make_workers-clause-refused
returns-in_default-make_workers-clause-refused g c = λ not_alone. c.in_ok-board.ensures.in_range

pub returns-in_default-make_workers-clause-bad_threads : goal.returns-in_default-make_workers-clause-bad_threads
returns-in_default-make_workers-clause-bad_threads g c = good_threads _ _ memory_is_not_threads c.in_ok-board.ensures.in_range

pub returns-in_default-make_workers-clause-bad_k : goal.returns-in_default-make_workers-clause-bad_k
returns-in_default-make_workers-clause-bad_k g c = good_k _ _ memory_is_not_k c.in_ok-board.ensures.in_range

pub returns-in_default-make_workers-clause-bad_refill : goal.returns-in_default-make_workers-clause-bad_refill
returns-in_default-make_workers-clause-bad_refill g c = good_refill _ _ _ memory_is_not_refill c.in_ok-board.ensures.refill

pub returns-in_default-finish-clause-refused : goal.returns-in_default-finish-clause-refused
returns-in_default-finish-clause-refused g c = λ not_alone. c.in_ok-board.ensures.in_range

pub returns-in_default-finish-clause-bad_threads : goal.returns-in_default-finish-clause-bad_threads
returns-in_default-finish-clause-bad_threads g c = good_threads _ _ memory_is_not_threads c.in_ok-board.ensures.in_range

pub returns-in_default-finish-clause-bad_k : goal.returns-in_default-finish-clause-bad_k
returns-in_default-finish-clause-bad_k g c = good_k _ _ memory_is_not_k c.in_ok-board.ensures.in_range

pub returns-in_default-finish-clause-bad_refill : goal.returns-in_default-finish-clause-bad_refill
returns-in_default-finish-clause-bad_refill g c = good_refill _ _ _ memory_is_not_refill c.in_ok-board.ensures.refill

pub returns-clause-bad_threads : goal.returns-clause-bad_threads
returns-clause-bad_threads g c = good_threads _ _ (λ none. none) c.in_ok-board.ensures.in_range

pub returns-clause-bad_k : goal.returns-clause-bad_k
returns-clause-bad_k g c = good_k _ _ (λ none. none) c.in_ok-board.ensures.in_range

pub returns-clause-bad_refill : goal.returns-clause-bad_refill
returns-clause-bad_refill g c = good_refill _ _ _ (λ none. none) c.in_ok-board.ensures.refill

pub error_in_one_hand-requires : goal.error_in_one_hand-requires
error_in_one_hand-requires g c =
    let state : SearchState g.row.LEVELS = record { board = c.in_ok-board.board; incumbent = c.in-Ok.incumbent; no_room = c.args.no_room } in
    let after : List (Worker g.row.LEVELS) = c.search.new.crew in
    let as_long : c.in-Ok-make_workers.crew.len ≡ length after = search rules in
    let is : take c.in-Ok-make_workers.crew.len (after ++ drop (length after) c.in-Ok-make_workers.crew.items) ≡ after = whole c.in-Ok-make_workers.crew.len after (drop (length after) c.in-Ok-make_workers.crew.items) as_long in
    let back = rw is at c.in-Err.ensures.members in
    let first = rw is at c.in-Err.ensures.refused in
    let crew : AreWorkersOf state after = c.search.ensures.crew in
    let members : AreMembersOf c.in_ok-board.board c.join_workers.new.back.items = subst (λ (ms : List (Member PROGRAM_K g.row.LEVELS)). AreMembersOf c.in_ok-board.board ms) (sym back) crew.members in
    (lit< tt, (lit< tt, (members, λ alone full ended. never_full state after c.join_workers.new.back.items c.in-Err.why crew back first (c.search.ensures.room alone) full ended)))

pub returns-in-Err-clause-never_full : goal.returns-in-Err-clause-never_full
returns-in-Err-clause-never_full g c = c.error_in_one_hand.ensures.never_full

pub returns-in_default-clause-never_full : goal.returns-in_default-clause-never_full
returns-in_default-clause-never_full g c = λ alone. memory_is_not_full

pub returns-in_default-with_capacity-clause-never_full : goal.returns-in_default-with_capacity-clause-never_full
returns-in_default-with_capacity-clause-never_full g c = λ alone. memory_is_not_full

pub returns-in_default-make_workers-clause-never_full : goal.returns-in_default-make_workers-clause-never_full
returns-in_default-make_workers-clause-never_full g c = λ alone. memory_is_not_full

pub returns-in_default-finish-clause-never_full : goal.returns-in_default-finish-clause-never_full
returns-in_default-finish-clause-never_full g c = λ alone. memory_is_not_full
