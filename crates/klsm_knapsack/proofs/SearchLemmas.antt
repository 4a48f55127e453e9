-- The lists of the workers of a search, once all are back.
use Rattle.std.proofs.Common.{◌≡◌, ℕ, ◌<◌, List, [], length, map, get_or, All, None, sym, ap, ◌∙◌, subst, arith}
use Rattle.std.proofs.lemmas.List.{length-map}
use mathlib.Core.Option.{some}
use lib.ListN.{get_elem?}
use Rattle.klsm_run.specs.declared.limits.TheConstants.{PROGRAM_K}
use Rattle.klsm_schedules.specs.declared.step.Entry.{Entry}
use Rattle.klsm_board.specs.declared.board.Member.{Member}
use Rattle.klsm_board.specs.declared.sizes.Sizes.{Sizes}
use Rattle.klsm_board.specs.Boards.{own_steps}
use Rattle.klsm_board.specs.Finishing.{AreListsAtEnd, lists_of}
use Rattle.klsm_board.proofs.lemmas.ending.EndLemmas.{each_of}
use Rattle.klsm_board.proofs.lemmas.ending.MemberLemmas.{lists_in_order, stands_mapped, stands_within}
use Rattle.klsm_knapsack.specs.declared.options.SearchOptions.{SearchOptions}
use Rattle.klsm_knapsack.specs.declared.search_state.NoRoom.{NoRoom}
use Rattle.klsm_knapsack.specs.declared.search_state.SearchState.{SearchState}
use Rattle.klsm_knapsack.specs.declared.search_state.Worker.{Worker}
use Rattle.klsm_knapsack.specs.Searches.{HasSearched, IsRunOf, search_sizes}
use Rattle.klsm_knapsack.specs.Workers.{AreWorkersOf, HasEndedSo, IsWorkerOf}
use Rattle.klsm_knapsack.proofs.CrewLemmas.{each_worker, is_at, member_of, so_many_workers, worker_number}

module _ {LEVELS : ℕ} (state : SearchState LEVELS) (crew : List (Worker LEVELS)) (are : AreWorkersOf state crew) (options : SearchOptions) (sizes : state.board.sizes ≡ search_sizes options) where
  abbrev m : Sizes
  m = search_sizes options

  abbrev lists : List (List Entry)
  lists = map own_steps (map member_of crew)

  threads : state.board.sizes.threads ≡ options.threads
  threads = ap (λ (z : Sizes). z.threads) sizes

  -- worker t, and its list among those of all
  record Stands (t : ℕ) : Type 0 where
    worker : Worker LEVELS
    there : get_elem? crew t ≡ some worker
    list : get_or lists t [] ≡ own_steps worker.member
    sizes_are : worker.member.sizes ≡ m
    number : worker.member.number ≡ t

  stands : (t : ℕ) → t < options.threads → Stands t
  stands t below =
      let many : length crew ≡ options.threads = so_many_workers state crew are ∙ threads in
      let one = stands_within crew t (omega (arith, below, many)) in let w : Worker LEVELS = one.0 in
      let of : IsWorkerOf state w = each_of (IsWorkerOf state) crew (each_worker state crew are) t w one.1 in
      record {
        worker = w;
        there = one.1;
        list = is_at lists t [] (own_steps w.member) (stands_mapped own_steps (map member_of crew) t w.member (stands_mapped member_of crew t w one.1));
        sizes_are = of.member.1 ∙ sizes;
        number = worker_number state crew are t w one.1;
      }

  run_of : (no_room : NoRoom) (idle : ℕ) (w : Worker LEVELS) → HasEndedSo no_room idle w → w.refused ≡ None → IsRunOf LEVELS w.member.sizes idle w.member.number (own_steps w.member)
  run_of no_room idle w ended none = record { stopped = ended.stopped; picker = w.picker; course = ended.course; idles = ended.idles none; shares = ended.shares }

  pub has_searched : (no_room : NoRoom) (members : List (Member PROGRAM_K LEVELS)) → members ≡ map member_of crew → AreListsAtEnd state.board.sizes (lists_of state.board.sizes.threads members)
      → All (HasEndedSo no_room options.idle) crew → All (λ (w : Worker LEVELS). w.refused ≡ None) crew → (ls : List (List Entry)) × HasSearched LEVELS options ls
  has_searched no_room members back at_end ended none = (
    lists,
    record {
      many = length-map (map member_of crew) own_steps ∙ (length-map crew member_of ∙ (so_many_workers state crew are ∙ threads));
      at_end =
          let in_order : lists_of state.board.sizes.threads members ≡ lists = ap (lists_of state.board.sizes.threads) back ∙ sym (lists_in_order state.board (map member_of crew) are.members) in
          subst (λ (z : Sizes). AreListsAtEnd z lists) sizes (subst (λ (z : List (List Entry)). AreListsAtEnd state.board.sizes z) in_order at_end);
      ran = λ t below.
          let s = stands t below in let w = s.worker in
          let run = run_of no_room options.idle w (each_of (HasEndedSo no_room options.idle) crew ended t w s.there) (each_of (λ (v : Worker LEVELS). v.refused ≡ None) crew none t w s.there) in
          subst (λ (z : Sizes × ℕ × List Entry). IsRunOf LEVELS z.0 options.idle z.1 z.2) (λ i. (s.sizes_are i, s.number i, sym s.list i)) run;
    },
  )
