use Rattle.std.proofs.Common.{◌≡◌, ℕ, ◌+◌, ◌∷◌, ◌++◌, ◌∙◌, [], List, ap, append_assoc, inl, subst, sym}
use Rattle.atomic_table.specs.Table.{Me, rest}
use Rattle.klsm_run.specs.declared.item.Item.{Item}
use Rattle.klsm_run.specs.Content.{ShareNone}
use Rattle.klsm_parts.specs.Events.{MayRefill, own_after_refill, shared_after_refill}
use Rattle.klsm_schedules.specs.declared.step.Entry.TheVariants.{Committed, Released}
use Rattle.klsm_schedules.specs.declared.step.Event.TheVariants.{Refill}
use Rattle.klsm_schedules.specs.OwnSteps.{hand_of, work_of}
use Rattle.klsm_board.specs.declared.sizes.Sizes.{Sizes}
use Rattle.klsm_board.specs.declared.rule.View.{View}
use Rattle.klsm_board.specs.Steps.{gain, mine, rest_of}
use Rattle.klsm_board.specs.Seats.{Carries, own_in_hand, both_in_hand, last_arriving}
use Rattle.klsm_board.specs.Entries.{own_marked}
use Rattle.klsm_board.specs.TakingOut.{HasFetched}
use Rattle.klsm_board.proofs.lemmas.hands.CommitLemmas.{refill_may, refill_sets_front}
use Rattle.klsm_board.proofs.lemmas.hands.EventLemmas.{refill_leaves}
use Rattle.klsm_board.proofs.lemmas.hands.PossibleLemmas.{arriving_apart}
use Rattle.klsm_board.proofs.lemmas.hands.WorkLemmas.{work_append}
use Rattle.klsm_board.proofs.lemmas.seats.CarryLemmas.{two_arriving}
use Rattle.klsm_board.proofs.lemmas.table.SeatLemmas.{mine_set, set_carries, set_hand, set_others, mine_released, released_others}
use Rattle.klsm_board.proofs.deleting.release_refilled.Goals as goal

module _ {S : Type 0} (content : S → List Item) (suits : ℕ → ℕ → S → Type 0) (arriving : S → List Item) (m : Sizes) (t : ℕ) where
  -- the hand by the list has what moved, and the seat carries the own part as it was
  committed : (own shared : List Item) (me me' : Me S View) → hand_of t (mine me.0) ≡ both_in_hand t own shared → HasFetched content suits arriving m t own shared me
      → me' ≡ (gain me.0 (Committed (Refill (last_arriving arriving me.1))), me.1)
      → Carries content suits m t (both_in_hand t own (shared_after_refill shared (last_arriving arriving me.1))) me'
      × (hand_of t (mine me'.0) ≡ both_in_hand t (own_after_refill own (last_arriving arriving me.1)) (shared_after_refill shared (last_arriving arriving me.1)))
  committed own shared me me' hand_is fetched same =
      let moved = last_arriving arriving me.1 in let carries = fetched.carries in (
        set_carries content suits m t (Refill moved) (both_in_hand t own (shared_after_refill shared moved)) me me' carries same,
        set_hand content suits m t (Refill moved) me me' carries.acts same ∙ refill_leaves t (hand_of t (mine me.0)) own shared hand_is moved,
      )

  -- once the shared part is released, the same items are on their way
  still_due : (own shared : List Item) (me me' after : Me S View) → HasFetched content suits arriving m t own shared me
      → me' ≡ (gain me.0 (Committed (Refill (last_arriving arriving me.1))), me.1) → after ≡ (gain me'.0 (Released 0), rest me'.1)
      → last_arriving arriving after.1 ≡ last_arriving arriving me.1
  still_due own shared me me' after fetched same released =
      let carries = fetched.carries in
      ap (λ (z : Me S View). last_arriving arriving z.1) released ∙ (ap (λ (z : Me S View). last_arriving arriving (rest z.1)) same
      ∙ two_arriving content suits m t arriving 0 (t + 1) (shared_after_refill shared (last_arriving arriving me.1)) own me.1 carries.contents_are carries.suited)

  -- and once they are merged, the own part is as the list says
  joins : (own : List Item) (me after later : Me S View) → last_arriving arriving after.1 ≡ last_arriving arriving me.1
      → hand_of t (mine after.0) ≡ own_in_hand t (own_after_refill own (last_arriving arriving me.1))
      → Carries content suits m t (own_in_hand t (own_after_refill own (last_arriving arriving after.1))) later → later.0 ≡ after.0
      → Carries content suits m t (own_in_hand t (own_after_refill own (last_arriving arriving me.1))) later
      × (hand_of t (mine later.0) ≡ own_in_hand t (own_after_refill own (last_arriving arriving me.1)))
  joins own me after later due hand_is carries same = (
    subst (λ z. Carries content suits m t (own_in_hand t (own_after_refill own z)) later) due carries,
    ap (λ v. hand_of t (mine v)) same ∙ hand_is,
  )

pub commit_refill-requires-clause-view : goal.commit_refill-requires-clause-view
commit_refill-requires-clause-view g c = let k = c.requires.fetched in let fetched = k.3 in let carries = fetched.carries in carries.acts

pub commit_refill-requires-clause-sets : goal.commit_refill-requires-clause-sets
commit_refill-requires-clause-sets g c =
    let me = c.args.seat.now.me in let k = c.requires.fetched in
    refill_sets_front g.S.Holding.content g.S.Holding.suits c.args.table.now.key c.args.thread k.0 k.1 (last_arriving g.S.Holding.arriving me.1) c.args.front me.0 k.2 k.4

pub commit_refill-requires-clause-may : goal.commit_refill-requires-clause-may
commit_refill-requires-clause-may g c =
    let me = c.args.seat.now.me in let k = c.requires.fetched in let fetched = k.3 in
    refill_may g.S.Holding.content g.S.Holding.suits c.args.table.now.key c.args.thread k.0 k.1 (last_arriving g.S.Holding.arriving me.1) me.0 k.2 fetched.may

pub release_shared-requires-clause-carries : goal.release_shared-requires-clause-carries
release_shared-requires-clause-carries g c =
    let me = c.args.seat.now.me in let moved = last_arriving g.S.Holding.arriving me.1 in let k = c.requires.fetched in
    let ahead = committed g.S.Holding.content g.S.Holding.suits g.S.Holding.arriving c.args.table.now.key c.args.thread k.0 k.1 me c.commit_refill.new.seat.me k.2 k.3 c.commit_refill.ensures.same.2 in
    (k.0, own_after_refill k.0 moved, shared_after_refill k.1 moved, ahead.0, ahead.1)

pub take_fetched_in-requires-clause-carries : goal.take_fetched_in-requires-clause-carries
take_fetched_in-requires-clause-carries g c =
    let content = g.S.Holding.content in let suits = g.S.Holding.suits in let arriving = g.S.Holding.arriving in
    let m = c.args.table.now.key in let t = c.args.thread in let me = c.args.seat.now.me in let me' = c.commit_refill.new.seat.me in
    let k = c.requires.fetched in let fetched = k.3 in
    let ahead = committed content suits arriving m t k.0 k.1 me me' k.2 fetched c.commit_refill.ensures.same.2 in
    let behind = c.release_shared.ensures.carries k.0 (own_after_refill k.0 (last_arriving arriving me.1)) (shared_after_refill k.1 (last_arriving arriving me.1)) ahead.0 ahead.1 in
    let due = still_due content suits arriving m t k.0 k.1 me me' c.release_shared.new.seat.me fetched c.commit_refill.ensures.same.2 c.release_shared.ensures.same.2 in (
      k.0,
      k.1,
      behind.0,
      subst (MayRefill m.k k.0 k.1) (sym due) fetched.may,
      subst (ShareNone k.0) (sym due) (arriving_apart m t me.0 k.0 k.1 (last_arriving arriving me.1) c.requires.reached k.2 fetched.may),
    )

pub release_marked-requires-clause-carries : goal.release_marked-requires-clause-carries
release_marked-requires-clause-carries g c =
    let content = g.S.Holding.content in let suits = g.S.Holding.suits in let arriving = g.S.Holding.arriving in
    let m = c.args.table.now.key in let t = c.args.thread in let me = c.args.seat.now.me in let me' = c.commit_refill.new.seat.me in
    let k = c.requires.fetched in let fetched = k.3 in
    let ahead = committed content suits arriving m t k.0 k.1 me me' k.2 fetched c.commit_refill.ensures.same.2 in
    let behind = c.release_shared.ensures.carries k.0 (own_after_refill k.0 (last_arriving arriving me.1)) (shared_after_refill k.1 (last_arriving arriving me.1)) ahead.0 ahead.1 in
    let due = still_due content suits arriving m t k.0 k.1 me me' c.release_shared.new.seat.me fetched c.commit_refill.ensures.same.2 c.release_shared.ensures.same.2 in
    let joined = joins content suits arriving m t k.0 me c.release_shared.new.seat.me c.take_fetched_in.new.seat.me due behind.1 (c.take_fetched_in.ensures.joined k.0 behind.0) c.take_fetched_in.ensures.same.2 in
    (own_after_refill k.0 (last_arriving arriving me.1), joined.0, joined.1)

pub release_marked-requires-clause-key : goal.release_marked-requires-clause-key
release_marked-requires-clause-key g c =
    let content = g.S.Holding.content in let suits = g.S.Holding.suits in let m = c.args.table.now.key in let t = c.args.thread in
    let me = c.args.seat.now.me in let me' = c.commit_refill.new.seat.me in let es = mine me.0 in
    let k = c.requires.fetched in let fetched = k.3 in let moved = last_arriving g.S.Holding.arriving me.1 in
    let ahead = committed content suits g.S.Holding.arriving m t k.0 k.1 me me' k.2 fetched c.commit_refill.ensures.same.2 in
    let carries = fetched.carries in let then_carries = ahead.0 in
    inl (c.requires.key ∙ sym (ap work_of (ap mine c.take_fetched_in.ensures.same.2
    ∙ (mine_released content suits m t 0 me' c.release_shared.new.seat.me then_carries.acts c.release_shared.ensures.same.2
    ∙ (ap (λ z. z ++ Released 0 ∷ []) (mine_set content suits m t (Refill moved) me me' carries.acts c.commit_refill.ensures.same.2)
    ∙ append_assoc es (Committed (Refill moved) ∷ []) (Released 0 ∷ []))))
    ∙ work_append es (Committed (Refill moved) ∷ Released 0 ∷ [])))

pub returns-clause-has : goal.returns-clause-has
returns-clause-has g c =
    let content = g.S.Holding.content in let suits = g.S.Holding.suits in let arriving = g.S.Holding.arriving in
    let m = c.args.table.now.key in let t = c.args.thread in let me = c.args.seat.now.me in let me' = c.commit_refill.new.seat.me in
    let k = c.requires.fetched in let fetched = k.3 in
    let ahead = committed content suits arriving m t k.0 k.1 me me' k.2 fetched c.commit_refill.ensures.same.2 in
    let behind = c.release_shared.ensures.carries k.0 (own_after_refill k.0 (last_arriving arriving me.1)) (shared_after_refill k.1 (last_arriving arriving me.1)) ahead.0 ahead.1 in
    let due = still_due content suits arriving m t k.0 k.1 me me' c.release_shared.new.seat.me fetched c.commit_refill.ensures.same.2 c.release_shared.ensures.same.2 in
    let joined = joins content suits arriving m t k.0 me c.release_shared.new.seat.me c.take_fetched_in.new.seat.me due behind.1 (c.take_fetched_in.ensures.joined k.0 behind.0) c.take_fetched_in.ensures.same.2 in
    c.release_marked.ensures.has

pub returns-clause-others : goal.returns-clause-others
returns-clause-others g c =
    let content = g.S.Holding.content in let suits = g.S.Holding.suits in let m = c.args.table.now.key in let t = c.args.thread in
    let me = c.args.seat.now.me in let me' = c.commit_refill.new.seat.me in
    c.release_marked.ensures.others ∙ (ap rest_of c.take_fetched_in.ensures.same.2
    ∙ (released_others content suits m t 0 me' c.release_shared.new.seat.me c.release_shared.ensures.same.2
    ∙ set_others content suits m t (Refill (last_arriving g.S.Holding.arriving me.1)) me me' c.commit_refill.ensures.same.2))

pub returns-clause-list : goal.returns-clause-list
returns-clause-list g c =
    let content = g.S.Holding.content in let suits = g.S.Holding.suits in let m = c.args.table.now.key in let t = c.args.thread in
    let me = c.args.seat.now.me in let me' = c.commit_refill.new.seat.me in let es = mine me.0 in let key = c.args.key in
    let k = c.requires.fetched in let fetched = k.3 in let moved = last_arriving g.S.Holding.arriving me.1 in
    let ahead = committed content suits g.S.Holding.arriving m t k.0 k.1 me me' k.2 fetched c.commit_refill.ensures.same.2 in
    let carries = fetched.carries in let then_carries = ahead.0 in
    c.release_marked.ensures.list ∙ (ap (λ z. z ++ own_marked t key) (ap mine c.take_fetched_in.ensures.same.2
    ∙ (mine_released content suits m t 0 me' c.release_shared.new.seat.me then_carries.acts c.release_shared.ensures.same.2
    ∙ (ap (λ z. z ++ Released 0 ∷ []) (mine_set content suits m t (Refill moved) me me' carries.acts c.commit_refill.ensures.same.2)
    ∙ append_assoc es (Committed (Refill moved) ∷ []) (Released 0 ∷ []))))
    ∙ append_assoc es (Committed (Refill moved) ∷ Released 0 ∷ []) (own_marked t key))
