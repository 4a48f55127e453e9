-- The workers of a search together.
use Rattle.std.proofs.Common.{◌≡◌, ℕ, zero, suc, ◌<◌, ◌≤◌, ◌⊎◌, inl, inr, List, [], ◌∷◌, ◌++◌, length, map, get_or, set, All, Option, Some, None, refl, sym, ap, ◌∙◌, subst, arith}
use Rattle.std.specs.List.{Contains, flat_map}
use Rattle.std.specs.Option.{option_or}
use Rattle.std.proofs.lemmas.List.{length-map}
use Rattle.std.proofs.lemmas.Option.{none-some}
use Rattle.std.proofs.lemmas.List.Elements.{Contains-append_left}
use mathlib.Core.Option.{some, some-injective, some-ne-none}
use lib.ListN.{get_elem?}
use Rattle.klsm_run.specs.declared.item.Item.{Item}
use Rattle.klsm_run.specs.declared.limits.TheConstants.{PROGRAM_K}
use Rattle.klsm_schedules.specs.declared.step.Entry.{Entry}
use Rattle.klsm_schedules.specs.OwnSteps.{inserted, deleted}
use Rattle.klsm_board.specs.declared.board.Member.{Member}
use Rattle.klsm_board.specs.Boards.{IsOf, own_steps}
use Rattle.klsm_board.proofs.lemmas.ending.EndLemmas.{each_of, place_within}
use Rattle.klsm_board.proofs.lemmas.ending.MemberLemmas.{stands_mapped, stands_unmapped}
use Rattle.klsm_knapsack.specs.declared.search_state.SearchState.{SearchState}
use Rattle.klsm_knapsack.specs.declared.search_state.NoRoom.{NoRoom}
use Rattle.klsm_knapsack.specs.declared.search_state.Worker.{Worker}
use Rattle.klsm_knapsack.specs.declared.errors.Refusal.{Refusal}
use Rattle.klsm_instance.specs.Selections.{Problem}
use Rattle.klsm_instance.specs.Nodes.{level_in, picks_in}
use Rattle.klsm_knapsack.specs.IncumbentSeats.{found_by}
use Rattle.klsm_knapsack.specs.Work.{HasNode, HasWorked, IsNodeItem}
use Rattle.klsm_knapsack.specs.Ends.{EndsAnswered, first_refusal}
use Rattle.klsm_knapsack.specs.Answers.{GainsOthers, IsIdle}
use Rattle.klsm_knapsack.specs.Workers.{GoesByItsSeed, HasEndedSo, HasRun, HaveEndedSo, HaveWorked, IsAtWork, AreWorkersOf, HasNotBegun, IsSameWorker, IsWorkerOf, work_by}
use Rattle.klsm_knapsack.proofs.CoverageLemmas.{wider}
use Rattle.klsm_knapsack.proofs.WorkLemmas.{inserts_one, has_last}
use Rattle.klsm_knapsack.proofs.CourseLemmas.{goes_on}
use Rattle.klsm_knapsack.proofs.IdleLemmas.{gains_none, idle_after_others}

-- what stands at an index, in two ways of saying so
pub stands_at : {A : Type 0} (xs : List A) (i : ℕ) (d : A) → i < length xs → get_elem? xs i ≡ some (get_or xs i d)
stands_at [] i d lt = absurd (omega (arith, lt))
stands_at (x ∷ xs) zero d lt = refl
stands_at (x ∷ xs) (suc i) d lt = stands_at xs i d (omega (arith, lt))

pub is_at : {A : Type 0} (xs : List A) (i : ℕ) (d a : A) → get_elem? xs i ≡ some a → get_or xs i d ≡ a
is_at [] i d a there = absurd (some-ne-none a (sym there))
is_at (x ∷ xs) zero d a there = some-injective x a there
is_at (x ∷ xs) (suc i) d a there = is_at xs i d a there

-- what holds of a worker holds of each of a list of it alone
pub each_alone : {A : Type 0} (P : A → Type 0) (x : A) → P x → All P (x ∷ [])
each_alone P x here zero d lt = here
each_alone P x here (suc k) d lt = absurd (omega (arith, lt))

-- a list that is idle from some step on is so from its first one, where no answer "nothing" came before
idle_from_first : (n quota : ℕ) (es es' : List Entry) → GainsOthers [] es → IsIdle n quota es es' → IsIdle n quota [] es'
idle_from_first n quota es es' gains (inl idle) = inl (idle_after_others n [] es es' gains idle)
idle_from_first n quota es es' gains (inr spent) = inr spent

module _ {LEVELS : ℕ} where
  abbrev pub member_of : Worker LEVELS → Member PROGRAM_K LEVELS
  member_of w = w.member

  -- a worker that has not begun has done all that it began
  pub new_at_work : (m : NoRoom) (p : Problem) (w : Worker LEVELS) → HasNotBegun w → IsAtWork m p w
  new_at_work m p w new = record {
    worked = subst (λ (es : List Entry). HasWorked p record { inserted = inserted es; deleted = deleted es; found = found_by w.seat }) (sym new.steps) none;
    answered = λ refuses. inl new.steps;
  }
    where
      none : HasWorked p record { inserted = []; deleted = []; found = found_by w.seat }
      none = record { inserts_nodes = λ x there. absurd (omega (arith, there.1)); is_done = λ x there node. absurd (omega (arith, there.1)) }

  -- it has room for its first insertion
  pub new_room : (w : Worker LEVELS) → HasNotBegun w → 2 ≤ w.member.sizes.quota → length (work_by w).inserted < w.member.sizes.quota
  new_room w new room = subst (λ (es : List Entry). length (inserted es) < w.member.sizes.quota) (sym new.steps) (omega (arith, room))

  -- after which it is at work
  pub root_at_work : (m : NoRoom) (p : Problem) (before after : Worker LEVELS) (x : Item) → HasNotBegun before → IsNodeItem p x → level_in x.load ≡ 0 → picks_in x.load ≡ 0 → (work_by after).inserted ≡ (work_by before).inserted ++ x ∷ []
      → (work_by after).deleted ≡ (work_by before).deleted → EndsAnswered after.member.number (own_steps after.member) → IsAtWork m p after × HasNode (work_by after).inserted 0 0
  root_at_work m p before after x new node level picks is same answered = (record { worked = worked; answered = λ refuses. answered }, has_last _ _ x 0 0 is level picks)
    where
      only : (work_by after).inserted ≡ x ∷ []
      only = is ∙ ap (λ (es : List Entry). inserted es ++ x ∷ []) new.steps

      no_more : (work_by after).deleted ≡ []
      no_more = same ∙ ap deleted new.steps

      by_place : (y : Item) → Contains [] y ⊎ IsNodeItem p y → IsNodeItem p y
      by_place y (inl there) = absurd (omega (arith, there.1))
      by_place y (inr here) = here

      worked : HasWorked p (work_by after)
      worked = record {
        inserts_nodes = λ y there. by_place y ((inserts_one p [] (work_by after).inserted x node only).nodes y there);
        is_done = λ y there found. absurd (none_in y (subst (λ (ys : List Item). Contains ys y) no_more there));
      }
        where
          none_in : (y : Item) → Contains [] y → ⊥
          none_in y there = omega (arith, there.1)

  -- the first refusal among one worker more
  pub first_refused : (before : List (Worker LEVELS)) (w : Worker LEVELS) → first_refusal (map (λ (v : Worker LEVELS). v.refused) (before ++ w ∷ [])) ≡ option_or (first_refusal (map (λ (v : Worker LEVELS). v.refused) before)) w.refused
  first_refused [] w = alone w.refused
    where
      alone : (r : Option Refusal) → first_refusal (r ∷ []) ≡ r
      alone (Some why) = refl
      alone None = refl
  first_refused (v ∷ before) w = by_first v.refused (first_refused before w)
    where
      by_first : (r : Option Refusal) → first_refusal (map (λ (u : Worker LEVELS). u.refused) (before ++ w ∷ [])) ≡ option_or (first_refusal (map (λ (u : Worker LEVELS). u.refused) before)) w.refused
          → first_refusal (r ∷ map (λ (u : Worker LEVELS). u.refused) (before ++ w ∷ [])) ≡ option_or (first_refusal (r ∷ map (λ (u : Worker LEVELS). u.refused) before)) w.refused
      by_first (Some why) more = refl
      by_first None more = more

  -- where there is none, no worker was refused
  pub none_refused : (crew : List (Worker LEVELS)) → first_refusal (map (λ (v : Worker LEVELS). v.refused) crew) ≡ None → All (λ (v : Worker LEVELS). v.refused ≡ None) crew
  none_refused [] none = λ k d lt. absurd (omega (arith, lt))
  none_refused (v ∷ crew) none = by_place (by_first v.refused refl none) (λ later. none_refused crew later)
    where
      by_first : (r : Option Refusal) → v.refused ≡ r → first_refusal (r ∷ map (λ (u : Worker LEVELS). u.refused) crew) ≡ None → (v.refused ≡ None) × (first_refusal (map (λ (u : Worker LEVELS). u.refused) crew) ≡ None)
      by_first (Some why) is none = absurd (none-some why (sym none))
      by_first None is none = (is, none)

      by_place : (v.refused ≡ None) × (first_refusal (map (λ (u : Worker LEVELS). u.refused) crew) ≡ None)
          → (first_refusal (map (λ (u : Worker LEVELS). u.refused) crew) ≡ None → All (λ (u : Worker LEVELS). u.refused ≡ None) crew)
          → All (λ (u : Worker LEVELS). u.refused ≡ None) (v ∷ crew)
      by_place (here, later) others zero d lt = here
      by_place (here, later) others (suc k) d lt = others later k d (omega (arith, lt))

  -- one worker more is sent home
  pub member_appended : (before : List (Worker LEVELS)) (w : Worker LEVELS) → map (λ (v : Worker LEVELS). v.member) before ++ w.member ∷ [] ≡ map (λ (v : Worker LEVELS). v.member) (before ++ w ∷ [])
  member_appended [] w = refl
  member_appended (v ∷ before) w = ap (λ (ms : List (Member PROGRAM_K LEVELS)). v.member ∷ ms) (member_appended before w)

  -- and what its seat found is known too
  pub found_too : (before : List (Worker LEVELS)) (w : Worker LEVELS) (m n : ℕ) → m ≤ n → found_by w.seat ≤ n → All (λ (v : Worker LEVELS). found_by v.seat ≤ m) before → All (λ (v : Worker LEVELS). found_by v.seat ≤ n) (before ++ w ∷ [])
  found_too [] w m n le here all = alone
    where
      alone : (k : ℕ) (d : Worker LEVELS) → k < length (w ∷ []) → found_by (get_or (w ∷ []) k d).seat ≤ n
      alone zero d lt = here
      alone (suc k) d lt = absurd (omega (arith, lt))
  found_too (v ∷ before) w m n le here all = by_place (found_too before w m n le here (λ k d lt. all (suc k) d (omega (arith, lt))))
    where
      by_place : All (λ (u : Worker LEVELS). found_by u.seat ≤ n) (before ++ w ∷ []) → (k : ℕ) (d : Worker LEVELS) → k < length (v ∷ (before ++ w ∷ [])) → found_by (get_or (v ∷ (before ++ w ∷ [])) k d).seat ≤ n
      by_place others zero d lt = omega (arith, le, all 0 d (omega arith))
      by_place others (suc k) d lt = others k d (omega (arith, lt))

  -- where each worker ran and none was refused, they have worked
  pub all_worked : (m : NoRoom) (p : Problem) (idle : ℕ) (old new : List (Worker LEVELS)) (d : Worker LEVELS) → 0 < length old → length new ≡ length old
      → ((i : ℕ) (e : Worker LEVELS) → i < length old → HasRun m p idle (get_or old i e) (get_or new i e)) → HasNode (work_by (get_or old 0 d)).inserted 0 0
      → All (λ (w : Worker LEVELS). w.refused ≡ None) new → HaveWorked p new
  all_worked m p idle [] new d some_worker many runs root none = absurd (omega (arith, some_worker))
  all_worked m p idle (w ∷ old) [] d some_worker many runs root none = absurd (omega (arith, many))
  all_worked m p idle (w ∷ old) (v ∷ new) d some_worker many runs root none = record {
    root =
        let inserts = (runs 0 v (omega arith)).inserts (none 0 v (omega arith)) in
        wider (work_by w).inserted (flat_map (λ (u : Worker LEVELS). (work_by u).inserted) (v ∷ new)) 0 0
        (λ y there. Contains-append_left (work_by v).inserted (flat_map (λ (u : Worker LEVELS). (work_by u).inserted) new) y (inserts.kept y there)) root;
    each = λ k e lt. (runs k e (omega (arith, lt, many))).worked (none k e lt);
  }

  -- where the first worker has begun, no list has an answer "nothing"
  pub begun_gains : (crew : List (Worker LEVELS)) (after : Worker LEVELS) → All HasNotBegun crew → GainsOthers [] (own_steps after.member) → All (λ (w : Worker LEVELS). GainsOthers [] (own_steps w.member)) (set crew 0 after)
  begun_gains [] after new gains = λ k d lt. absurd (omega (arith, lt))
  begun_gains (w ∷ crew) after new gains = by_place
    where
      by_place : (k : ℕ) (d : Worker LEVELS) → k < length (after ∷ crew) → GainsOthers [] (own_steps (get_or (after ∷ crew) k d).member)
      by_place zero d lt = gains
      by_place (suc k) d lt = subst (λ (es : List Entry). GainsOthers [] es) (sym (new (suc k) d lt).steps) (gains_none [])

  -- so a worker that ran has ended so
  from_first : (m : NoRoom) (p : Problem) (idle : ℕ) (before after : Worker LEVELS) → GoesByItsSeed before → GainsOthers [] (own_steps before.member) → HasRun m p idle before after → HasEndedSo m idle after
  from_first m p idle before after on gains run = record {
    stopped = run.stopped;
    stops = run.stops;
    course = goes_on before after run.stopped run.same run.course on;
    idles = λ none. idle_from_first idle after.member.sizes.quota (own_steps before.member) run.stopped gains (run.idles none);
    shares = run.shares;
  }

  -- and where each ran, all have
  pub all_ended : (m : NoRoom) (p : Problem) (idle : ℕ) (old new : List (Worker LEVELS)) → length new ≡ length old
      → ((i : ℕ) (e : Worker LEVELS) → i < length old → HasRun m p idle (get_or old i e) (get_or new i e)) → All GoesByItsSeed old → All (λ (w : Worker LEVELS). GainsOthers [] (own_steps w.member)) old
      → All (HasEndedSo m idle) new
  all_ended m p idle old new many runs on gains = λ k e lt.
      let within : k < length old = omega (arith, lt, many) in
      from_first m p idle (get_or old k e) (get_or new k e) (on k e within) (gains k e within) (runs k e within)

  -- and where none was refused, each ran
  pub each_ran : (m : NoRoom) (idle : ℕ) (crew : List (Worker LEVELS)) → HaveEndedSo m idle crew → All (λ (w : Worker LEVELS). w.refused ≡ None) crew → All (HasEndedSo m idle) crew
  each_ran m idle crew (inl ended) none = ended
  each_ran m idle [] (inr root) none = absurd root.0
  each_ran m idle (w ∷ crew) (inr root) none = let first = root.0.0 in absurd (none-some first.why (sym (none 0 w (omega arith)) ∙ first.refused))

  module _ (state : SearchState LEVELS) where
    pub same_of : (before after : Worker LEVELS) → IsWorkerOf state before → IsSameWorker before after → IsWorkerOf state after
    same_of before after of same = record {
      member = (same.member.2 ∙ of.member.0, same.member.1 ∙ of.member.1);
      seat = same.seat ∙ of.seat;
    }

    -- workers of the search, each at its number, and as many as the board has threads
    pub are_workers : (crew : List (Worker LEVELS)) → All (IsWorkerOf state) crew → length crew ≡ state.board.sizes.threads → 0 < length crew
        → ((i : ℕ) (w : Worker LEVELS) → get_elem? crew i ≡ some w → w.member.number ≡ i) → AreWorkersOf state crew
    are_workers crew of many some_worker numbered = record {
      members = record {
        of = λ i member there.
            let at = stands_unmapped member_of crew i member there in
            subst (λ (z : Member PROGRAM_K LEVELS). IsOf z state.board) at.2 (each_of (IsWorkerOf state) crew of i at.0 at.1).member;
        many = length-map crew member_of ∙ many;
        numbered = λ i member there.
            let at = stands_unmapped member_of crew i member there in
            ap (λ (z : Member PROGRAM_K LEVELS). z.number) (sym at.2) ∙ numbered i at.0 at.1;
      };
      seats = λ k d lt. (of k d lt).seat;
      some_worker = some_worker;
    }

    -- and back
    pub each_worker : (crew : List (Worker LEVELS)) → AreWorkersOf state crew → All (IsWorkerOf state) crew
    each_worker crew is k d lt =
        let w = get_or crew k d in
        record { member = is.members.of k w.member (stands_mapped member_of crew k w (stands_at crew k d lt)); seat = is.seats k d lt }

    pub so_many_workers : (crew : List (Worker LEVELS)) → AreWorkersOf state crew → length crew ≡ state.board.sizes.threads
    so_many_workers crew is = sym (length-map crew member_of) ∙ is.members.many

    pub worker_number : (crew : List (Worker LEVELS)) → AreWorkersOf state crew → (i : ℕ) (w : Worker LEVELS) → get_elem? crew i ≡ some w → w.member.number ≡ i
    worker_number crew is i w there = is.members.numbered i w.member (stands_mapped member_of crew i w there)

    -- the first worker has begun
    pub crew_begun : (crew : List (Worker LEVELS)) (d after : Worker LEVELS) → AreWorkersOf state crew → IsSameWorker (get_or crew 0 d) after → AreWorkersOf state (set crew 0 after)
    crew_begun [] d after is same = absurd (omega (arith, is.some_worker))
    crew_begun (w ∷ crew) d after is same = are_workers (after ∷ crew) of (so_many_workers (w ∷ crew) is) is.some_worker numbered
      where
        of : (k : ℕ) (e : Worker LEVELS) → k < length (after ∷ crew) → IsWorkerOf state (get_or (after ∷ crew) k e)
        of zero e lt = same_of w after (each_worker (w ∷ crew) is 0 e lt) same
        of (suc k) e lt = each_worker (w ∷ crew) is (suc k) e lt

        numbered : (i : ℕ) (v : Worker LEVELS) → get_elem? (after ∷ crew) i ≡ some v → v.member.number ≡ i
        numbered zero v there = subst (λ (u : Worker LEVELS). u.member.number ≡ 0) (some-injective after v there) (same.member.0 ∙ worker_number (w ∷ crew) is 0 w refl)
        numbered (suc i) v there = worker_number (w ∷ crew) is (suc i) v there

    -- and all are ready to run
    pub crew_ready : (m : NoRoom) (p : Problem) (crew : List (Worker LEVELS)) (d after : Worker LEVELS) → AreWorkersOf state crew → All HasNotBegun crew → IsSameWorker (get_or crew 0 d) after → IsAtWork m p after
        → All (λ (w : Worker LEVELS). IsWorkerOf state w × IsAtWork m p w) (set crew 0 after)
    crew_ready m p [] d after is new same begun = absurd (omega (arith, is.some_worker))
    crew_ready m p (w ∷ crew) d after is new same begun = ready
      where
        ready : (k : ℕ) (e : Worker LEVELS) → k < length (after ∷ crew) → IsWorkerOf state (get_or (after ∷ crew) k e) × IsAtWork m p (get_or (after ∷ crew) k e)
        ready zero e lt = (same_of w after (each_worker (w ∷ crew) is 0 e lt) same, begun)
        ready (suc k) e lt = (each_worker (w ∷ crew) is (suc k) e lt, new_at_work m p (get_or crew k e) (new (suc k) e lt))

    -- a crew that ran is one still
    pub crew_run : (m : NoRoom) (p : Problem) (idle : ℕ) (old new : List (Worker LEVELS)) → length new ≡ length old → ((i : ℕ) (e : Worker LEVELS) → i < length old → HasRun m p idle (get_or old i e) (get_or new i e))
        → AreWorkersOf state old → AreWorkersOf state new
    crew_run m p idle old new many runs is =
        are_workers new (λ k e lt. same_of (get_or old k e) (get_or new k e) (each_worker old is k e (omega (arith, lt, many))) (runs k e (omega (arith, lt, many))).same)
        (many ∙ so_many_workers old is) (omega (arith, many, is.some_worker))
        (λ i v there.
        let lt : i < length old = omega (arith, place_within new i v there, many) in
        let run = runs i v lt in
        ap (λ (u : Worker LEVELS). u.member.number) (sym (is_at new i v v there)) ∙ (run.same.member.0 ∙ worker_number old is i (get_or old i v) (stands_at old i v lt)))
