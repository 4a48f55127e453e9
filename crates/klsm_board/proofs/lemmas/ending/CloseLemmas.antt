-- A closed board has all its parts at home, and their items are those that its account leaves.
use Rattle.std.proofs.Common.{◌≡◌, ℕ, zero, suc, ◌+◌, ◌<◌, ◌≤◌, List, [], ◌++◌, length, get_or, take, refl, sym, ap, subst, ◌∙◌, arith, add-one}
use Rattle.std.specs.Prelude.{unwrap_or}
use Rattle.std.specs.List.{flat_map}
use Rattle.std.proofs.lemmas.List.{length-map}
use Rattle.std.proofs.lemmas.Option.{none-some}
use Rattle.std.proofs.Math.Seq.{take-length}
use mathlib.Core.Logic.{dite}
use native.Mathlib.Decide.{ℕ_discrete}
use mathlib.Core.Option.{some}
use lib.ListN.{get_elem?}
use Rattle.atomic_table.specs.Table.{State, Final, Seen}
use Rattle.klsm_run.specs.declared.item.Item.{Item}
use Rattle.klsm_run.specs.Content.{sorted}
use Rattle.klsm_run.specs.ItemOrder.{is_same}
use Rattle.klsm_run.proofs.RankLemmas.{count_sorted}
use Rattle.klsm_run.proofs.SortedLemmas.{length_sorted}
use Rattle.klsm_parts.specs.Events.{times}
use Rattle.klsm_parts.specs.Parts.{PartState}
use Rattle.klsm_schedules.specs.declared.step.Entry.{Entry}
use Rattle.klsm_schedules.specs.OwnSteps.{content_in, deleted, found_in, hand_of}
use Rattle.klsm_schedules.specs.Worlds.{World, content_of, hand_in, holder_of, live, live_below, word_of}
use Rattle.klsm_schedules.specs.LawfulWorlds.{IsLawful}
use Rattle.klsm_schedules.specs.Account.{account}
use Rattle.klsm_schedules.proofs.lemmas.lists.ListLemmas.{items_more}
use Rattle.klsm_schedules.proofs.lemmas.theorems.AccountLemmas.{left_is_live, accounts_add_up}
use Rattle.klsm_schedules.proofs.lemmas.theorems.LiveOnceLemmas.{inserted_once}
use Rattle.klsm_schedules.proofs.lemmas.theorems.OwnEventLemmas.{lists_have_events}
use Rattle.klsm_schedules.proofs.lemmas.theorems.RunLemmas.{schedules_are_runs, schedules_keep_lawful}
use Rattle.klsm_board.specs.declared.board.Member.{Member}
use Rattle.klsm_board.specs.declared.rule.View.{View}
use Rattle.klsm_board.specs.declared.sizes.Sizes.{Sizes}
use Rattle.klsm_board.specs.declared.slot.Slot.{Slot}
use Rattle.klsm_board.specs.Boards.{own_steps}
use Rattle.klsm_board.specs.Finishing.{AreAll, AreEachOnce, AreListsAtEnd, Knows, lists_of, steps_among}
use Rattle.klsm_board.specs.Rule.{content_at, world_limits, own, Ruled}
use Rattle.klsm_board.specs.Slots.{slot_content, IsSlotOf}
use Rattle.klsm_board.proofs.lemmas.table.KeepLemmas as keep
use Rattle.klsm_board.proofs.lemmas.ending.EndLemmas.{are_lists, found_first, list_at}
use Rattle.klsm_board.proofs.lemmas.ending.ListLemmas.{got}

-- these are the lists at the end, and the slots have what their account leaves
pub record IsClosed {S : Type 0} (content : S → List Item) (m : Sizes) (lists : List (List Entry)) (slots : List S) : Type 0 where
  pub at_end : AreListsAtEnd m lists
  pub left_are : (account lists).left ≡ sorted (flat_map content slots)
  pub each_once : AreEachOnce lists
  pub adds_up : (account lists).inserted ≡ (account lists).deleted + length (flat_map content slots)

module _ {S : Type 0} (content : S → List Item) (suits : ℕ → ℕ → S → Type 0) (m : Sizes) (s : State S View) (r : Ruled content suits m s) (empty : (t : ℕ) → t < m.threads → hand_of t (get_or r.lists t []) ≡ []) (slots : List S)
    (as_many : length s.homes ≡ length slots) (stand : (p : ℕ) (y : S) → get_elem? s.homes p ≡ some (some y) → get_elem? slots p ≡ some y) where
  abbrev w : World
  w = keep.world content suits m s r.lists

  lawful : IsLawful (world_limits m) w
  lawful = schedules_keep_lawful (world_limits m) r.schedule w r.leads

  -- no hand has a part, so each is free
  is_free : (p : ℕ) → p ≤ m.threads → word_of w p ≡ 0
  is_free p within = dite (ℕ_discrete (word_of w p) 0) (λ free. free)
      (λ taken. let held = lawful.agreed.held p within taken in let some_of = held.held in
      absurd (none-some some_of.content (sym (ap (λ h. found_in h p) (empty held.by held.thread)) ∙ some_of.holds)))

  -- and its content is that of its slot
  at_home : (p : ℕ) → p ≤ m.threads → (y : S) × (get_elem? slots p ≡ some y) × (content_of w p ≡ content y)
  at_home p within =
      let home = lawful.agreed.free p within (is_free p within) in
      let back = keep.home_back content suits m s.homes p home.0 home.1 in
      (back.0, stand p back.0 back.1, ap (λ z. unwrap_or z (content_in (hand_in w (holder_of w p)) p)) home.1 ∙ sym back.2)

  so_many : length slots ≡ m.threads + 1
  so_many = sym as_many ∙ (sym (length-map s.homes (content_at content)) ∙ lawful.agreed.homes_are)

  live_of_slots : (n : ℕ) → n ≤ m.threads + 1 → live_below w n ≡ flat_map content (take n slots)
  live_of_slots zero within = refl
  live_of_slots (suc n) within =
      let here = at_home n (omega (arith, within)) in
      ap (λ c. c ++ content_of w n) (live_of_slots n (omega (arith, within)))
      ∙ (ap (λ c. flat_map content (take n slots) ++ c) (here.2 ∙ ap content (sym (got slots n here.0 here.0 here.1)))
      ∙ (sym (items_more content slots n here.0 (omega (arith, within, so_many))) ∙ ap (λ i. flat_map content (take i slots)) (add-one n)))

  live_is : live w ≡ flat_map content slots
  live_is = ap (live_below w) lawful.agreed.homes_are ∙ (live_of_slots (m.threads + 1) (omega arith) ∙ (ap (λ n. flat_map content (take n slots)) (sym so_many) ∙ ap (flat_map content) (take-length slots)))

  pub closes : (lists : List (List Entry)) → r.lists ≡ lists → IsClosed content m lists slots
  closes lists same = subst (λ (l : List (List Entry)). IsClosed content m l slots) same (record {
    at_end = record { world = w; schedule = r.schedule; leads = r.leads; within = λ t below. keep.each_within m.quota r.lists r.within t; lists_are = refl; in_order = λ t below. lists_have_events (world_limits m) r.schedule w t r.leads below; run = schedules_are_runs (world_limits m) r.schedule w r.leads };
    each_once = λ x. (inserted_once (world_limits m) w x lawful, lawful.each_once x ∙ ap (λ n. times x (flat_map deleted r.lists) + n) (sym (ap (times x) (left_is_live (world_limits m) w lawful) ∙ count_sorted (is_same x) (live w))));
    left_are = left_is_live (world_limits m) w lawful ∙ ap sorted live_is;
    adds_up = accounts_add_up (world_limits m) w lawful ∙ ap (λ n. (account r.lists).deleted + n) (ap length (left_is_live (world_limits m) w lawful ∙ ap sorted live_is) ∙ length_sorted (flat_map content slots));
  })

module _ {CAP LEVELS : ℕ} where
  -- a table that a seat closes which knows all members
  pub closes_board : (m : Sizes) (members : List (Member CAP LEVELS)) (v : View) (id : ℕ) (words : List ℕ) (slots : List (Slot PartState PartState)) → AreAll members m.threads
      → ((i : ℕ) (member : Member CAP LEVELS) → get_elem? members i ≡ some member → Knows v member)
      → Final (Seen (Ruled slot_content IsSlotOf m) id v) words slots
      → IsClosed slot_content m (lists_of m.threads members) slots
  closes_board m members v id words slots all knows final =
      closes slot_content IsSlotOf m s r empty slots final.3 final.4 (lists_of m.threads members) same
    where
      s : State (Slot PartState PartState) View
      s = final.0

      r : Ruled slot_content IsSlotOf m s
      r = final.1.0

      same : r.lists ≡ lists_of m.threads members
      same = are_lists r.lists m.threads members (schedules_keep_lawful (world_limits m) r.schedule (keep.world slot_content IsSlotOf m s r.lists) r.leads).agreed.lists_are all
          (λ i member there. let k = knows i member there in r.dealt id v final.1.1 k.0 (own member.number (own_steps member)) k.1)

      empty : (t : ℕ) → t < m.threads → hand_of t (get_or r.lists t []) ≡ []
      empty t below =
          let first = found_first members t (all t below) in
          let member : Member CAP LEVELS = first.1 in
          ap (λ (l : List (List Entry)). hand_of t (get_or l t [])) same
          ∙ (ap (hand_of t) (keep.list_at (lists_of m.threads members) t (steps_among members t) (list_at m.threads members t below) ∙ first.4)
          ∙ (ap (λ n. hand_of n (own_steps member)) (sym first.3) ∙ member.rests.hand_is))
