-- The workers of a search at its start and at its end.
use Rattle.std.proofs.Common.{◌≡◌, ℕ, zero, suc, ◌+◌, ◌<◌, ◌≤◌, ◌⊎◌, ◌↔◌, inl, inr, List, [], ◌∷◌, ◌++◌, length, map, take, get_or, All, Option, Some, None, MatchOption, refl, sym, ap, ◌∙◌, subst, arith}
use Rattle.std.proofs.Math.Logic.{∥∥₁_map}
use Rattle.std.specs.List.{Contains, flat_map}
use Rattle.std.proofs.lemmas.List.{length-map, take_at}
use Rattle.std.proofs.lemmas.List.Elements.{recursion_from_All, All-map}
use mathlib.Core.Option.{some}
use lib.ListN.{get_elem?}
use Rattle.klsm_run.specs.declared.item.Item.{Item}
use Rattle.klsm_run.specs.declared.limits.TheConstants.{MOST_THREADS, PROGRAM_K}
use Rattle.klsm_parts.specs.Events.{times}
use Rattle.klsm_schedules.specs.declared.step.Entry.{Entry}
use Rattle.klsm_schedules.specs.OwnSteps.{inserted, deleted}
use Rattle.klsm_schedules.specs.Account.{account}
use Rattle.klsm_schedules.proofs.lemmas.counts.EventCountLemmas.{times_contained, contained_if_counted}
use Rattle.klsm_board.specs.declared.board.Member.{Member}
use Rattle.klsm_board.specs.declared.sizes.Sizes.{Sizes}
use Rattle.klsm_board.specs.Rule.{IsReached}
use Rattle.klsm_board.proofs.lemmas.hands.PossibleLemmas.{each_reached}
use Rattle.klsm_board.specs.Boards.{AreMembersOf, AreNewMembersOf, IsOf, own_steps}
use Rattle.klsm_board.specs.Finishing.{AreEachOnce, lists_of}
use Rattle.klsm_board.proofs.lemmas.ending.EndLemmas.{each_of}
use Rattle.klsm_board.proofs.lemmas.ending.MemberLemmas.{all_of_board, lists_in_order, stands_mapped, stands_unmapped}
use Rattle.klsm_knapsack.specs.declared.search_state.SearchState.{SearchState}
use Rattle.klsm_knapsack.specs.declared.search_state.NoRoom.TheVariants.{Refuses}
use Rattle.klsm_knapsack.specs.declared.search_state.Worker.{Worker}
use Rattle.klsm_knapsack.specs.declared.errors.Refusal.{Refusal}
use Rattle.klsm_knapsack.specs.declared.errors.Refusal.TheVariants as refusal
use Rattle.klsm_knapsack.specs.declared.errors.SearchError.TheVariants.{BadThreads, BadK, BadRefill, Full, NoMemory}
use Rattle.klsm_instance.specs.Selections.{Problem}
use Rattle.klsm_knapsack.specs.IncumbentSeats.{IsSeatAt, found_by}
use Rattle.klsm_knapsack.specs.Work.{HasNode, HasWorked, all_inserted, all_deleted}
use Rattle.klsm_knapsack.specs.Ends.{End, EndsAnswered, EndsRefused, HasEnded, StopsWith, HaveEnded, IsLeastRefusal, NoneHasRun, first_refusal}
use Rattle.klsm_knapsack.specs.Workers.{HasEndedSo, HaveEndedSo, HaveWorked, AreWorkersOf, HasNotBegun, IsSearched, IsWorkerOf, RootWasRefused, work_by}
use Rattle.klsm_board.specs.Members.{sizes_of}
use Rattle.klsm_knapsack.specs.Refusals.{RefusesSearch, error_of}
use Rattle.klsm_knapsack.proofs.CrewLemmas.{each_worker, member_of, so_many_workers, stands_at, worker_number}

-- what a list is after its store was lent as a slice
pub whole : {A : Type 0} (n : ℕ) (xs ys : List A) → n ≡ length xs → take n (xs ++ ys) ≡ xs
whole n xs ys e = ap (λ k. take k (xs ++ ys)) e ∙ take_at xs ys (length xs) refl

mapped_twice : {A B C : Type 0} (f : A → B) (g : B → C) (xs : List A) → map (λ x. g (f x)) xs ≡ map g (map f xs)
mapped_twice f g [] = refl
mapped_twice f g (x ∷ xs) = ap (λ ys. g (f x) ∷ ys) (mapped_twice f g xs)

flat_of_map : {A B C : Type 0} (f : A → B) (g : B → List C) (xs : List A) → flat_map g (map f xs) ≡ flat_map (λ x. g (f x)) xs
flat_of_map f g [] = refl
flat_of_map f g (x ∷ xs) = ap (λ ys. g (f x) ++ ys) (flat_of_map f g xs)

-- the refusal of a worker is that of the search
pub refuses : (levels threads k refill : ℕ) (why : Refusal) → (1 ≤ threads) × (threads ≤ MOST_THREADS) × (k ≤ PROGRAM_K) → IsLeastRefusal levels (sizes_of threads k) why → RefusesSearch levels threads k refill (error_of why)
refuses levels threads k refill refusal.Full in_range least = least
refuses levels threads k refill refusal.NoMemory in_range least = in_range

-- a search of sizes in range is not refused for them
pub good_threads : {A : Type 0} (threads k : ℕ) → (A → ⊥) → (1 ≤ threads) × (threads ≤ MOST_THREADS) × (k ≤ PROGRAM_K) → A ↔ ((threads ≡ 0) ⊎ (MOST_THREADS < threads))
good_threads {A} threads k none in_range = (λ a. absurd (none a), outside) where
  outside : (threads ≡ 0) ⊎ (MOST_THREADS < threads) → A
  outside (inl few) = absurd (omega (arith, few, in_range.0))
  outside (inr many) = absurd (omega (arith, many, in_range.1))

pub good_refill : {A : Type 0} (threads k refill : ℕ) → (A → ⊥) → refill ≤ k → A ↔ ((1 ≤ threads) × (threads ≤ MOST_THREADS) × (k ≤ PROGRAM_K) × (k < refill))
good_refill threads k refill none fits = (λ a. absurd (none a), λ big. absurd (omega (arith, big.3, fits)))

pub good_k : {A : Type 0} (threads k : ℕ) → (A → ⊥) → (1 ≤ threads) × (threads ≤ MOST_THREADS) × (k ≤ PROGRAM_K) → A ↔ ((1 ≤ threads) × (threads ≤ MOST_THREADS) × (PROGRAM_K < k))
good_k threads k none in_range = (λ a. absurd (none a), λ big. absurd (omega (arith, big.2, in_range.2)))

pub memory_is_not_threads : NoMemory ≡ BadThreads → ⊥
memory_is_not_threads is = cc

pub memory_is_not_k : NoMemory ≡ BadK → ⊥
memory_is_not_k is = cc

pub memory_is_not_refill : NoMemory ≡ BadRefill → ⊥
memory_is_not_refill is = cc

pub memory_is_not_full : NoMemory ≡ Full → ⊥
memory_is_not_full is = cc

-- which lists a schedule leads to, and how workers end, has nothing to do with how many items deletions
-- move
reached_too : (m : Sizes) (refill t : ℕ) (es : List Entry) → IsReached (record m { refill = refill }) t es → IsReached m t es
reached_too m refill t es is = record { world = is.world; schedule = is.schedule; leads = is.leads; within = is.within; list_is = is.list_is; thread = is.thread }

pub refused_too : (levels : ℕ) (m : Sizes) (refill : ℕ) (why : Refusal) → IsLeastRefusal levels (record m { refill = refill }) why → IsLeastRefusal levels m why
refused_too levels m refill why is = record {
  ends = is.ends;
  many = is.many;
  reached = λ t end there. ∥∥₁_map (is.reached t end there) (reached_too m refill t end.steps);
  ended = is.ended;
  first = is.first;
}

-- a worker that does not go on without room stopped so
stopped_so : (levels k t : ℕ) (es : List Entry) (refused : Option Refusal) → MatchOption refused (Refuses ≡ Refuses → EndsAnswered t es) (EndsRefused levels k t es) → StopsWith levels k t es refused
stopped_so levels k t es None told = told refl
stopped_so levels k t es (Some why) told = told

module _ {LEVELS : ℕ} where
  module _ (state : SearchState LEVELS) (crew : List (Worker LEVELS)) (members : List (Member PROGRAM_K LEVELS)) (are : map (λ (w : Worker LEVELS). w.member) crew ≡ members)
      (new : AreNewMembersOf state.board members) (some_thread : 0 < state.board.sizes.threads)
      (seats : All (λ (w : Worker LEVELS). IsSeatAt state.incumbent w.seat × (found_by w.seat ≡ 0) × (w.refused ≡ None)) crew) where
    stands : (i : ℕ) (w : Worker LEVELS) → get_elem? crew i ≡ some w → get_elem? members i ≡ some w.member
    stands i w there = ap (λ ms. get_elem? ms i) (sym are) ∙ stands_mapped member_of crew i w there

    -- the workers that were made are a crew
    pub workers_made : AreWorkersOf state crew
    workers_made = record {
      members = subst (λ (ms : List (Member PROGRAM_K LEVELS)). AreMembersOf state.board ms) (sym are) new.are;
      seats = λ i d lt. (seats i d lt).0;
      some_worker = (let long : length crew ≡ length members = sym (length-map crew member_of) ∙ ap length are in omega (arith, long, new.are.many, some_thread));
    }

    -- none of which has begun
    pub are_new : All HasNotBegun crew
    are_new i d lt =
        let w = get_or crew i d in
        let there = stands i w (stands_at crew i d lt) in
        record { steps = new.new i w.member there; found = (seats i d lt).1; refused = (seats i d lt).2 }

  abbrev end_of : Worker LEVELS → End
  end_of w = record { steps = own_steps w.member; refused = w.refused }

  -- where the first worker was refused the root, none ran
  none_has_run : (state : SearchState LEVELS) (crew : List (Worker LEVELS)) → AreWorkersOf state crew → RootWasRefused crew → NoneHasRun LEVELS state.board.sizes.k (map end_of crew)
  none_has_run state [] is root = root
  none_has_run state (w ∷ crew) is root =
      let first = root.0 in
      let of : IsWorkerOf state w = each_worker state (w ∷ crew) is 0 w (omega arith) in
      let refused : EndsRefused LEVELS state.board.sizes.k 0 (own_steps w.member) first.why =
      subst (λ (z : Sizes × ℕ). EndsRefused LEVELS z.0.k z.1 (own_steps w.member) first.why) (λ i. (of.member.1 i, worker_number state (w ∷ crew) is 0 w refl i)) first.ended in
      let others : All (λ (end : End). (end.steps ≡ []) × (end.refused ≡ None)) (map end_of crew) =
      All-map (λ (end : End). (end.steps ≡ []) × (end.refused ≡ None)) end_of crew (λ k d lt. ((root.1 k d lt).steps, (root.1 k d lt).refused)) in
      ((first.why, first.refused, refused), first.none_inserted, recursion_from_All (λ (end : End). (end.steps ≡ []) × (end.refused ≡ None)) (map end_of crew) others)

  module _ (state : SearchState LEVELS) (crew : List (Worker LEVELS)) (is : AreWorkersOf state crew) where
    -- the members are those of the board
    pub members_of : All (λ (m : Member PROGRAM_K LEVELS). IsOf m state.board) (map (λ (w : Worker LEVELS). w.member) crew)
    members_of = all_of_board state.board (map member_of crew) is.members

    worker_at : (t : ℕ) (w : Worker LEVELS) → get_elem? crew t ≡ some w → IsWorkerOf state w
    worker_at t w there = each_of (IsWorkerOf state) crew (each_worker state crew is) t w there

    reached_by : (t : ℕ) (w : Worker LEVELS) → get_elem? crew t ≡ some w → ∥ IsReached state.board.sizes t (own_steps w.member) ∥₁
    reached_by t w there =
        subst (λ (m : Sizes). ∥ IsReached m t (own_steps w.member) ∥₁) (worker_at t w there).member.1
        (subst (λ (n : ℕ). ∥ IsReached w.member.sizes n (own_steps w.member) ∥₁) (worker_number state crew is t w there) (each_reached w.member.sizes w.member.number w.member.seat.me.0 w.member.rests.reached))

    ended_by : (idle t : ℕ) (w : Worker LEVELS) → get_elem? crew t ≡ some w → HasEndedSo Refuses idle w → HasEnded LEVELS state.board.sizes.k t (own_steps w.member) w.refused
    ended_by idle t w there ended =
        subst (λ (m : Sizes). HasEnded LEVELS m.k t (own_steps w.member) w.refused) (worker_at t w there).member.1
        (subst (λ (n : ℕ). HasEnded LEVELS w.member.sizes.k n (own_steps w.member) w.refused) (worker_number state crew is t w there) (ended.stopped, stopped_so LEVELS w.member.sizes.k w.member.number ended.stopped w.refused ended.stops, ended.shares))

    all_ended_by : (idle : ℕ) → HaveEndedSo Refuses idle crew → HaveEnded LEVELS state.board.sizes.k (map end_of crew)
    all_ended_by idle (inl ended) = inl
        (λ t end there.
        let at = stands_unmapped end_of crew t end there in
        subst (λ (e : End). HasEnded LEVELS state.board.sizes.k t e.steps e.refused) at.2 (ended_by idle t at.0 at.1 (each_of (HasEndedSo Refuses idle) crew ended t at.0 at.1)))
    all_ended_by idle (inr root) = inr (none_has_run state crew is root.0)

    refusals : (ws : List (Worker LEVELS)) → map (λ (end : End). end.refused) (map end_of ws) ≡ map (λ (w : Worker LEVELS). w.refused) ws
    refusals [] = refl
    refusals (w ∷ ws) = ap (λ (rs : List (Option Refusal)). w.refused ∷ rs) (refusals ws)

    -- the first refusal is that of the least numbered worker that met one
    pub least_refusal : (idle : ℕ) (why : Refusal) → HaveEndedSo Refuses idle crew → first_refusal (map (λ (w : Worker LEVELS). w.refused) crew) ≡ Some why → IsLeastRefusal LEVELS state.board.sizes why
    least_refusal idle why ended first = record {
      ends = map end_of crew;
      many = length-map crew end_of ∙ so_many_workers state crew is;
      reached = λ t end there.
          let at = stands_unmapped end_of crew t end there in
          subst (λ (e : End). ∥ IsReached state.board.sizes t e.steps ∥₁) at.2 (reached_by t at.0 at.1);
      ended = all_ended_by idle ended;
      first = ap first_refusal (refusals crew) ∙ first;
    }

    -- by the account of the board, all nodes but those left are done with
    pub searched : (p : Problem) (found number : ℕ) (members : List (Member PROGRAM_K LEVELS)) (left : List Item) → members ≡ map (λ (w : Worker LEVELS). w.member) crew → HaveWorked p crew
        → All (λ (w : Worker LEVELS). found_by w.seat ≤ found) crew → found ≤ number
        → AreEachOnce (lists_of state.board.sizes.threads members)
        → left ≡ (account (lists_of state.board.sizes.threads members)).left → IsSearched p number left
    searched p found number members left back worked below le once left_is = record {
      works = map work_by crew;
      root = subst (λ (xs : List Item). HasNode xs 0 0) (sym (flat_of_map work_by (λ w. w.inserted) crew)) worked.root;
      none_lost = none_lost;
      have_worked = recursion_from_All (HasWorked p) (map work_by crew) (All-map (HasWorked p) work_by crew worked.each);
      found = recursion_from_All (λ w. w.found ≤ number) (map work_by crew) (All-map (λ w. w.found ≤ number) work_by crew (λ k d lt. omega (arith, below k d lt, le)));
    }
      where
        lists_are : map (λ (w : Worker LEVELS). own_steps w.member) crew ≡ lists_of state.board.sizes.threads members
        lists_are = mapped_twice member_of own_steps crew ∙ (lists_in_order state.board (map member_of crew) is.members ∙ ap (lists_of state.board.sizes.threads) (sym back))

        inserted_are : all_inserted (map work_by crew) ≡ flat_map inserted (lists_of state.board.sizes.threads members)
        inserted_are = flat_of_map work_by (λ w. w.inserted) crew ∙ (sym (flat_of_map (λ (w : Worker LEVELS). own_steps w.member) inserted crew) ∙ ap (λ ls. flat_map inserted ls) lists_are)

        deleted_are : all_deleted (map work_by crew) ≡ flat_map deleted (lists_of state.board.sizes.threads members)
        deleted_are = flat_of_map work_by (λ w. w.deleted) crew ∙ (sym (flat_of_map (λ (w : Worker LEVELS). own_steps w.member) deleted crew) ∙ ap (λ ls. flat_map deleted ls) lists_are)

        by_count : (x : Item) (n : ℕ) → times x (all_deleted (map work_by crew)) ≡ n → 0 < n + times x left → Contains (all_deleted (map work_by crew)) x ⊎ Contains left x
        by_count x zero none some_left = inr (contained_if_counted x left (omega (arith, some_left)))
        by_count x (suc n) some_deleted more = inl (contained_if_counted x (all_deleted (map work_by crew)) (omega (arith, some_deleted)))

        none_lost : (x : Item) → Contains (all_inserted (map work_by crew)) x → Contains (all_deleted (map work_by crew)) x ⊎ Contains left x
        none_lost x there =
            let counted : 0 < times x (flat_map inserted (lists_of state.board.sizes.threads members)) = subst (λ (xs : List Item). 0 < times x xs) inserted_are (times_contained x (all_inserted (map work_by crew)) there) in
            let gone : times x (all_deleted (map work_by crew)) ≡ times x (flat_map deleted (lists_of state.board.sizes.threads members)) = ap (times x) deleted_are in
            let rest : times x left ≡ times x (account (lists_of state.board.sizes.threads members)).left = ap (times x) left_is in
            by_count x (times x (all_deleted (map work_by crew))) refl (omega (arith, counted, gone, rest, (once x).1))
