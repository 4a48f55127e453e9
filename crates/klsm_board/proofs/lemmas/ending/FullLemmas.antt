-- An insertion found the shared part full only where the members have inserted as much.
use Rattle.std.proofs.Common.{◌≡◌, ℕ, ◌+◌, ◌<◌, ◌≤◌, max, List, [], ◌∷◌, ◌++◌, length, refl, sym, ap, subst, ◌∙◌, arith}
use Rattle.std.proofs.lemmas.List.{append-nil}
use Rattle.std.proofs.Math.Logic.{∥∥₁_elim}
use Rattle.std.specs.Coded.{le_prop}
use mathlib.Core.Logic.{dite}
use native.Mathlib.Decide.{ℕ_discrete}
use mathlib.Core.Option.{some}
use lib.ListN.{get_elem?}
use Rattle.klsm_run.specs.Capacity.{heap_room}
use Rattle.klsm_parts.specs.Limit.{limit_of}
use Rattle.klsm_schedules.specs.declared.step.Entry.{Entry}
use Rattle.klsm_schedules.specs.declared.step.Entry.TheVariants.{Acquired}
use Rattle.klsm_schedules.specs.OwnSteps.{inserted, shared_part}
use Rattle.klsm_board.specs.declared.board.Member.{Member}
use Rattle.klsm_board.specs.declared.sizes.Sizes.{Sizes}
use Rattle.klsm_board.specs.Boards.{Adds, IsSame, known_of_others, own_steps}
use Rattle.klsm_board.specs.Entries.{both_released, own_acquired}
use Rattle.klsm_board.specs.Inserting.{GivesUp, LacksRoom}
use Rattle.klsm_board.specs.Knowing.{IsWhole}
use Rattle.klsm_board.specs.Rule.{world_limits}
use Rattle.klsm_board.specs.Turning.{lists_known, steps_known}
use Rattle.klsm_board.proofs.lemmas.ending.FoundLemmas.{found_few, insertions}
use Rattle.klsm_board.proofs.lemmas.ending.JoinLemmas.{at_end, at_front}
use Rattle.klsm_board.proofs.lemmas.ending.WholeLemmas.{known_elsewhere, own_known, same_items, whole_acted, world_lists}

-- a call that gave up found the shared part as its list says
pub gave_up_at : (k t : ℕ) (es es' : List Entry) (Found : List Rattle.klsm_run.specs.declared.item.Item.Item → Type 0) → (up : GivesUp k t es es' Found)
    → (i : ℕ) × (get_elem? es' i ≡ some (Acquired shared_part up.shared))
gave_up_at k t es es' Found up =
    let before : List Entry = own_acquired t up.own es in
    let shared : Entry = Acquired shared_part up.shared in (
      length before,
      ap (λ (z : List Entry). get_elem? z (length before)) up.steps
          ∙ at_front (before ++ shared ∷ []) (both_released t) (length before) shared (at_end before shared []),
    )

module _ {CAP LEVELS : ℕ} where
  -- what the member whose turn it is found in a part is no more than all members inserted
  found_in_all : (after : Member CAP LEVELS) (ins dels : List ℕ) (i p : ℕ) (found : List Rattle.klsm_run.specs.declared.item.Item.Item) → IsWhole after.sizes after.number after.seat.me.0.lists ins dels → get_elem? (own_steps after) i ≡ some (Acquired p found)
      → length found ≤ insertions (lists_known after.sizes.threads after.seat.me.0.lists)
  found_in_all after ins dels i p found whole there =
      let rests = after.rests in
      ∥∥₁_elim rests.reached le_prop (λ r.
      subst (λ (l : List (List Entry)). length found ≤ insertions l) (world_lists after.sizes after.number after.seat.me.0 r whole.has)
      (found_few (world_limits after.sizes) r.schedule r.world r.leads after.number i p found (ap (λ (es : List Entry). get_elem? es i) r.list_is ∙ there)))

  -- a call that adds nothing leaves these as they were
  same_insertions : (before after : Member CAP LEVELS) → IsSame before after → known_of_others after ≡ known_of_others before → Adds before after [] []
      → insertions (lists_known before.sizes.threads after.seat.me.0.lists) ≡ insertions (lists_known before.sizes.threads before.seat.me.0.lists)
  same_insertions before after same others adds =
      let rests = before.rests in let rests' = after.rests in let n : ℕ = before.number in
      let acts' : after.seat.me.0.lists ≡ Rattle.klsm_board.specs.Rule.own n (own_steps after) ∷ known_of_others after = subst (λ j. Rattle.klsm_board.specs.Steps.IsMine after.seat.me.0 j) same.0 rests'.acts in
      ap length (same_items inserted before.sizes.threads after.seat.me.0.lists before.seat.me.0.lists (λ t below. dite (ℕ_discrete t n)
      (λ here. ap (λ j. inserted (steps_known after.seat.me.0.lists j)) here
      ∙ (ap inserted (sym (own_known after n same.0)) ∙ (adds.inserted_are ∙ (append-nil (inserted (own_steps before)) ∙ (ap inserted (own_known before n refl) ∙ ap (λ j. inserted (steps_known before.seat.me.0.lists j)) (sym here))))))
      (λ other. ap inserted (known_elsewhere n before.seat.me.0 after.seat.me.0 rests.acts acts' others t other))))

  -- so an insertion was full only where they are about as many as the shared part can have
  pub full_of_all : (before after : Member CAP LEVELS) (m : Sizes) (ins dels : List ℕ) (lists : List (List Entry)) (now : List Entry) → before.sizes ≡ m → IsSame before after → known_of_others after ≡ known_of_others before
      → IsWhole before.sizes before.number before.seat.me.0.lists ins dels → lists_known m.threads before.seat.me.0.lists ≡ lists → Adds before after [] []
      → GivesUp before.sizes.k before.number now (own_steps after) (LacksRoom LEVELS before.sizes.k)
      → limit_of LEVELS heap_room < insertions lists + max 1 m.k
  full_of_all before after m ins dels lists now sizes same others whole is adds up =
      let at = gave_up_at before.sizes.k before.number now (own_steps after) (LacksRoom LEVELS before.sizes.k) up in
      let few = found_in_all after ins dels at.0 shared_part up.shared (whole_acted before after ins dels same others whole) at.1 in
      let all : insertions (lists_known after.sizes.threads after.seat.me.0.lists) ≡ insertions lists =
      ap (λ (z : Sizes). insertions (lists_known z.threads after.seat.me.0.lists)) same.1
      ∙ (same_insertions before after same others adds ∙ (ap (λ (z : Sizes). insertions (lists_known z.threads before.seat.me.0.lists)) sizes ∙ ap insertions is)) in
      let most : ℕ = max 1 before.sizes.k in let k_is : most ≡ max 1 m.k = ap (λ (z : Sizes). max 1 z.k) sizes in
      let most' : ℕ = max 1 m.k in let k_is' : most ≡ most' = k_is in
      let limit : ℕ = limit_of LEVELS heap_room in let lacks : limit < length up.shared + most = up.found in
      let goal : limit < insertions lists + most' = omega (arith, few, all, lacks, k_is') in goal
