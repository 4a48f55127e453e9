-- Workers that go on without room are not refused for want of it: the root is the first item of its board.
use Rattle.std.proofs.Common.{◌≡◌, ℕ, zero, suc, ◌+◌, ◌-◌, ◌<◌, ◌^◌, ◌∙◌, ◌⊎◌, inl, inr, max, min, List, [], ◌∷◌, length, map, get_or, set, All, Option, Some, None, refl, sym, ap, subst, arith, length-append, lit<}
use Rattle.std.specs.Prelude.{IfSome}
use Rattle.std.specs.List.{flat_map}
use Rattle.std.proofs.lemmas.List.Concat.{flat_map-cons}
use Rattle.std.proofs.lemmas.Nat.{pow_pos}
use Rattle.std.proofs.lemmas.Option.{none-some, same_Some}
use mathlib.Core.Option.{some}
use lib.ListN.{get_elem?}
use Rattle.klsm_run.specs.declared.limits.TheConstants.{PROGRAM_K}
use Rattle.klsm_run.specs.Capacity.{heap_room}
use Rattle.klsm_parts.specs.Limit.{limit_of}
use Rattle.klsm_schedules.specs.declared.step.Entry.{Entry}
use Rattle.klsm_schedules.specs.declared.step.Entry.TheVariants.{Acquired}
use Rattle.klsm_schedules.specs.OwnSteps.{inserted, own_part, shared_part}
use Rattle.klsm_board.specs.declared.board.Member.{Member}
use Rattle.klsm_board.specs.declared.sizes.Sizes.{Sizes}
use Rattle.klsm_board.specs.Boards.{own_steps}
use Rattle.klsm_board.specs.Entries.{both_acquired, both_released, own_acquired}
use Rattle.klsm_board.specs.Finishing.{AreListsAtEnd, lists_of}
use Rattle.klsm_board.specs.Inserting.{GivesUp, LacksRoom}
use Rattle.klsm_board.specs.Rule.{world_limits}
use Rattle.klsm_board.proofs.lemmas.ending.FoundLemmas.{found_few, insertions}
use Rattle.klsm_board.proofs.lemmas.ending.FullLemmas.{gave_up_at}
use Rattle.klsm_board.proofs.lemmas.ending.JoinLemmas.{at_end, at_front}
use Rattle.klsm_board.proofs.lemmas.ending.MemberLemmas.{lists_in_order}
use Rattle.klsm_knapsack.specs.declared.search_state.SearchState.{SearchState}
use Rattle.klsm_knapsack.specs.declared.search_state.Worker.{Worker}
use Rattle.klsm_knapsack.specs.declared.errors.Refusal.{Refusal}
use Rattle.klsm_knapsack.specs.declared.errors.Refusal.TheVariants.{Full, NoMemory}
use Rattle.klsm_knapsack.specs.Ends.{EndsRefused, first_refusal}
use Rattle.klsm_knapsack.specs.Workers.{AreWorkersOf, HasNotBegun, LacksNoRoom, RootWasRefused, WasRefusedFirst}
use Rattle.klsm_knapsack.proofs.CrewLemmas.{member_of}

-- the shared part can have an item
some_of_each : (a b : ℕ) → 0 < a → 0 < b → min a b < 1 → ⊥
some_of_each a b some_a some_b less = omega (arith, some_a, some_b, less)

some_limit : (levels : ℕ) → limit_of levels heap_room < 1 → ⊥
some_limit levels less = some_of_each (2 ^ (levels - 1)) heap_room (pow_pos (levels - 1)) (lit< tt) less

-- so where no thread has inserted an item, none was refused its insertion for want of room
room_for_first : (levels k t u : ℕ) (m : Sizes) (lists : List (List Entry)) (now es : List Entry) → AreListsAtEnd m lists → insertions lists ≡ 0 → get_or lists u [] ≡ es → GivesUp k t now es (LacksRoom levels k) → ⊥
room_for_first levels k t u m lists now es ended none is up =
    let own_entry : Entry = Acquired (own_part t) up.own in
    let own_there : get_elem? es (length now) ≡ some own_entry =
    ap (λ (z : List Entry). get_elem? z (length now)) up.steps
    ∙ at_front (both_acquired t up.own up.shared now) (both_released t) (length now) own_entry
    (at_front (own_acquired t up.own now) (Acquired shared_part up.shared ∷ []) (length now) own_entry (at_end now own_entry [])) in
    let shared_there = gave_up_at k t now es (LacksRoom levels k) up in
    let there : get_or ended.world.lists u [] ≡ es = ap (λ (z : List (List Entry)). get_or z u []) ended.lists_are ∙ is in
    let own_few = found_few (world_limits m) ended.schedule ended.world ended.leads u (length now) (own_part t) up.own (ap (λ (z : List Entry). get_elem? z (length now)) there ∙ own_there) in
    let shared_few = found_few (world_limits m) ended.schedule ended.world ended.leads u shared_there.0 shared_part up.shared (ap (λ (z : List Entry). get_elem? z shared_there.0) there ∙ shared_there.1) in
    let all : insertions ended.world.lists ≡ 0 = ap insertions ended.lists_are ∙ none in
    let none_kept : k ≡ 0 = omega (arith, own_few, all, up.full) in
    let none_shared : length up.shared ≡ 0 = omega (arith, shared_few, all) in
    some_limit levels
    (subst (λ (n : ℕ). limit_of levels heap_room < n + 1) none_shared (subst (λ (n : ℕ). limit_of levels heap_room < length up.shared + max 1 n) none_kept up.found))

module _ {LEVELS : ℕ} where
  -- the first worker was refused the root, and so none has inserted a node
  pub root_refused : (crew : List (Worker LEVELS)) (after : Worker LEVELS) → 0 < length crew → All HasNotBegun crew → WasRefusedFirst after → RootWasRefused (set crew 0 after)
  root_refused [] after some_worker new refused = absurd (omega (arith, some_worker))
  root_refused (w ∷ crew) after some_worker new refused = (refused, λ k d lt. new (suc k) d (omega (arith, lt)))

  none_inserted : (w : Worker LEVELS) (crew : List (Worker LEVELS)) → RootWasRefused (w ∷ crew) → (k : ℕ) (d : Worker LEVELS) → k < length (w ∷ crew) → inserted (own_steps (get_or (w ∷ crew) k d).member) ≡ []
  none_inserted w crew root zero d lt = root.0.none_inserted
  none_inserted w crew root (suc k) d lt = ap inserted (root.1 k d (omega (arith, lt))).steps

  -- where no worker lacked room, it is memory that was wanted
  memory_wanted : (crew : List (Worker LEVELS)) (why : Refusal) → All LacksNoRoom crew → first_refusal (map (λ (w : Worker LEVELS). w.refused) crew) ≡ Some why → why ≡ NoMemory
  memory_wanted [] why none first = absurd (none-some why first)
  memory_wanted (w ∷ crew) why none first = by_first w.refused (none 0 w (omega arith)) first (λ later. memory_wanted crew why (λ k d lt. none (suc k) d (omega (arith, lt))) later)
    where
      by_first : (r : Option Refusal) → IfSome r (λ (y : Refusal). y ≡ NoMemory) → first_refusal (r ∷ map (λ (u : Worker LEVELS). u.refused) crew) ≡ Some why → (first_refusal (map (λ (u : Worker LEVELS). u.refused) crew) ≡ Some why → why ≡ NoMemory) → why ≡ NoMemory
      by_first (Some y) is told later = sym (same_Some y why told) ∙ is
      by_first None is told later = later told

  -- the first worker's refusal is the first one
  head_refusal : (w : Worker LEVELS) (crew : List (Worker LEVELS)) (r why : Refusal) → w.refused ≡ Some r → first_refusal (map (λ (v : Worker LEVELS). v.refused) (w ∷ crew)) ≡ Some why → r ≡ why
  head_refusal w crew r why is first = same_Some r why (subst (λ (o : Option Refusal). first_refusal (o ∷ map (λ (u : Worker LEVELS). u.refused) crew) ≡ Some why) is first)

  none_in_all : (crew : List (Worker LEVELS)) → All (λ (w : Worker LEVELS). inserted (own_steps w.member) ≡ []) crew → insertions (map own_steps (map member_of crew)) ≡ 0
  none_in_all [] none = refl
  none_in_all (w ∷ crew) none =
      let rest : List (List Entry) = map own_steps (map member_of crew) in
      let all = ap length (flat_map-cons inserted (own_steps w.member) rest) ∙ length-append (inserted (own_steps w.member)) (flat_map inserted rest) in
      let here : length (inserted (own_steps w.member)) ≡ 0 = ap length (none 0 w (omega arith)) in
      let others : insertions rest ≡ 0 = none_in_all crew (λ k d lt. none (suc k) d (omega (arith, lt))) in
      omega (arith, all, here, others)

  -- so once all members are back, the first refusal is not for want of room
  pub never_full : (state : SearchState LEVELS) (crew : List (Worker LEVELS)) (members : List (Member PROGRAM_K LEVELS)) (why : Refusal) → AreWorkersOf state crew → members ≡ map member_of crew → first_refusal (map (λ (w : Worker LEVELS). w.refused) crew) ≡ Some why
      → All LacksNoRoom crew ⊎ RootWasRefused crew → why ≡ Full → AreListsAtEnd state.board.sizes (lists_of state.board.sizes.threads members) → ⊥
  never_full state crew members why are back first (inl none) full ended = let bad : Full ≡ NoMemory = sym full ∙ memory_wanted crew why none first in cc
  never_full state [] members why are back first (inr root) full ended = root
  never_full state (w ∷ crew) members why are back first (inr root) full ended =
      let refused = root.0 in
      let lists : List (List Entry) = map own_steps (map member_of (w ∷ crew)) in
      let in_order : lists_of state.board.sizes.threads members ≡ lists = ap (lists_of state.board.sizes.threads) back ∙ sym (lists_in_order state.board (map member_of (w ∷ crew)) are.members) in
      let by_room : EndsRefused LEVELS w.member.sizes.k w.member.number (own_steps w.member) Full =
      subst (λ (r : Refusal). EndsRefused LEVELS w.member.sizes.k w.member.number (own_steps w.member) r) (head_refusal w crew refused.why why refused.refused first ∙ full) refused.ended in
      room_for_first LEVELS w.member.sizes.k w.member.number 0 state.board.sizes lists by_room.1.0 (own_steps w.member) (subst (λ (z : List (List Entry)). AreListsAtEnd state.board.sizes z) in_order ended) (none_in_all (w ∷ crew) (none_inserted w crew root)) refl by_room.1.2
