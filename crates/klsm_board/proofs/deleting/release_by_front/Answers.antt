use Rattle.std.proofs.Common.{◌≡◌, ℕ, ◌++◌, ◌∷◌, ◌∙◌, List, [], Option, Some, ap, append_assoc, inl, subst, sym}
use Rattle.atomic_table.specs.Table.{Me}
use Rattle.klsm_run.specs.declared.item.Item.{Item}
use Rattle.klsm_parts.specs.Events.{MayRefill, own_after_take, shared_after_take, shared_after_refill, front_of}
use Rattle.klsm_parts.specs.Refilling.{refill_of}
use Rattle.klsm_schedules.specs.declared.step.Entry.TheVariants.{Committed}
use Rattle.klsm_schedules.specs.declared.step.Event.TheVariants.{Take, Refill}
use Rattle.klsm_schedules.specs.OwnSteps.{hand_of, work_of}
use Rattle.klsm_board.specs.declared.sizes.Sizes.{Sizes}
use Rattle.klsm_board.specs.declared.rule.View.{View}
use Rattle.klsm_board.specs.Steps.{gain, mine}
use Rattle.klsm_board.specs.Seats.{Carries, both_in_hand, last_arriving}
use Rattle.klsm_board.specs.Entries.{both_marked}
use Rattle.klsm_board.specs.Deleting.{refilled}
use Rattle.klsm_board.specs.TakingOut.{FetchesTo, HasFetched}
use Rattle.klsm_board.proofs.lemmas.calls.RefillLemmas.{some_refilled}
use Rattle.klsm_board.proofs.lemmas.hands.CommitLemmas.{take_may}
use Rattle.klsm_board.proofs.lemmas.hands.EventLemmas.{take_leaves}
use Rattle.klsm_board.proofs.lemmas.hands.WorkLemmas.{work_append}
use Rattle.klsm_board.proofs.lemmas.table.SeatLemmas.{mine_set, set_carries, set_hand, set_others}
use Rattle.klsm_board.proofs.deleting.release_by_front.Goals as goal

-- what was fetched is still on its way, once the Take is committed
has_fetched : {S : Type 0} (content : S → List Item) (suits : ℕ → ℕ → S → Type 0) (arriving : S → List Item) (m : Sizes) (t : ℕ) (item : Item) (most : ℕ) (own shared left : List Item) (refilled : Option ℕ) (front : ℕ) (me me' : Me S View)
    → Carries content suits m t (both_in_hand t own left) me → FetchesTo most m.k own shared refilled left (last_arriving arriving me.1) → refilled ≡ Some front
    → me' ≡ (gain me.0 (Committed (Take item)), me.1)
    → HasFetched content suits arriving m t own shared me' × (front ≡ front_of (shared_after_refill shared (last_arriving arriving me'.1)))
has_fetched {S} content suits arriving m t item most own shared left refilled front me me' carries fetches some same =
    let did = subst (λ o. FetchesTo most m.k own shared o left (last_arriving arriving me.1)) some fetches in
    let due : last_arriving arriving me'.1 ≡ refill_of most m.k own shared = ap (λ (z : Me S View). last_arriving arriving z.1) same ∙ did.1 in
    let left_is : left ≡ shared_after_refill shared (last_arriving arriving me'.1) = did.2 ∙ ap (shared_after_refill shared) (sym due) in (
      record {
        may = subst (MayRefill m.k own shared) (sym due) did.0;
        carries = subst (λ z. Carries content suits m t (both_in_hand t own z) me') left_is (set_carries content suits m t (Take item) (both_in_hand t own left) me me' carries same);
      },
      did.3 ∙ ap front_of left_is,
    )

-- where nothing was fetched, the seat carries both parts, and they are the hand by the list
is_taken : {S : Type 0} (content : S → List Item) (suits : ℕ → ℕ → S → Type 0) (m : Sizes) (t : ℕ) (item : Item) (own shared left : List Item) (me me' : Me S View)
    → hand_of t (mine me.0) ≡ both_in_hand t own shared → Carries content suits m t (both_in_hand t (own_after_take own item) left) me → left ≡ shared_after_take own shared item
    → me' ≡ (gain me.0 (Committed (Take item)), me.1)
    → Carries content suits m t (both_in_hand t (own_after_take own item) (shared_after_take own shared item)) me'
    × (hand_of t (mine me'.0) ≡ both_in_hand t (own_after_take own item) (shared_after_take own shared item))
is_taken content suits m t item own shared left me me' hand_is carries none same = (
  subst (λ z. Carries content suits m t (both_in_hand t (own_after_take own item) z) me') none (set_carries content suits m t (Take item) (both_in_hand t (own_after_take own item) left) me me' carries same),
  set_hand content suits m t (Take item) me me' carries.acts same ∙ take_leaves t (hand_of t (mine me.0)) own shared hand_is item,
)

pub commit_by_front-requires-clause-view : goal.commit_by_front-requires-clause-view
commit_by_front-requires-clause-view g c = let left = (c.requires.out).5 in let carries = left.1 in carries.acts

pub commit_by_front-requires-clause-may : goal.commit_by_front-requires-clause-may
commit_by_front-requires-clause-may g c =
    let k = c.requires.out in
    take_may g.S.Holding.content g.S.Holding.suits c.args.table.now.key c.args.thread k.1 k.2 c.args.item c.args.seat.now.me.0 k.3 k.4

pub release_refilled-requires-clause-fetched : goal.release_refilled-requires-clause-fetched
release_refilled-requires-clause-fetched g c =
    let content = g.S.Holding.content in let suits = g.S.Holding.suits in let arriving = g.S.Holding.arriving in
    let m = c.args.table.now.key in let t = c.args.thread in let item = c.args.item in let me = c.args.seat.now.me in let me' = c.commit_by_front.new.seat.me in
    let same = c.commit_by_front.ensures.same.2 in let k = c.requires.out in let left = k.5 in let carries = left.1 in
    let own = own_after_take k.1 item in let shared = shared_after_take k.1 k.2 item in
    let hand_is = set_hand content suits m t (Take item) me me' carries.acts same ∙ take_leaves t (hand_of t (mine me.0)) k.1 k.2 k.3 item in
    let got = has_fetched content suits arriving m t item k.0 own shared left.0 c.args.fronts.refilled c.in-Some.front me me' carries left.2 c.in-Some.is same in
    (own, shared, hand_is, got.0, got.1)

pub release_refilled-requires-clause-key : goal.release_refilled-requires-clause-key
release_refilled-requires-clause-key g c =
    let m = c.args.table.now.key in let item = c.args.item in let me = c.args.seat.now.me in let left = (c.requires.out).5 in let carries = left.1 in
    sym (ap work_of (mine_set g.S.Holding.content g.S.Holding.suits m c.args.thread (Take item) me c.commit_by_front.new.seat.me carries.acts c.commit_by_front.ensures.same.2) ∙ work_append (mine me.0) (Committed (Take item) ∷ []))

pub release_both_marked-requires-clause-carries : goal.release_both_marked-requires-clause-carries
release_both_marked-requires-clause-carries g c =
    let content = g.S.Holding.content in let suits = g.S.Holding.suits in
    let m = c.args.table.now.key in let t = c.args.thread in let item = c.args.item in let me = c.args.seat.now.me in let me' = c.commit_by_front.new.seat.me in
    let same = c.commit_by_front.ensures.same.2 in let k = c.requires.out in let left = k.5 in
    let none = subst (λ o. FetchesTo k.0 m.k (own_after_take k.1 item) (shared_after_take k.1 k.2 item) o left.0 (last_arriving g.S.Holding.arriving me.1)) c.in-None.is left.2 in
    let ahead = is_taken content suits m t item k.1 k.2 left.0 me me' k.3 left.1 none.1 same in
    (own_after_take k.1 item, shared_after_take k.1 k.2 item, ahead.0, ahead.1)

pub release_both_marked-requires-clause-key : goal.release_both_marked-requires-clause-key
release_both_marked-requires-clause-key g c =
    let m = c.args.table.now.key in let item = c.args.item in let me = c.args.seat.now.me in let left = (c.requires.out).5 in let carries = left.1 in
    inl (sym (ap work_of (mine_set g.S.Holding.content g.S.Holding.suits m c.args.thread (Take item) me c.commit_by_front.new.seat.me carries.acts c.commit_by_front.ensures.same.2) ∙ work_append (mine me.0) (Committed (Take item) ∷ [])))

pub returns-in-Some-clause-others : goal.returns-in-Some-clause-others
returns-in-Some-clause-others g c =
    c.release_refilled.ensures.others
    ∙ set_others g.S.Holding.content g.S.Holding.suits c.args.table.now.key c.args.thread (Take c.args.item) c.args.seat.now.me c.commit_by_front.new.seat.me c.commit_by_front.ensures.same.2

pub returns-in-None-clause-others : goal.returns-in-None-clause-others
returns-in-None-clause-others g c =
    c.release_both_marked.ensures.others
    ∙ set_others g.S.Holding.content g.S.Holding.suits c.args.table.now.key c.args.thread (Take c.args.item) c.args.seat.now.me c.commit_by_front.new.seat.me c.commit_by_front.ensures.same.2

pub returns-in-Some-clause-list : goal.returns-in-Some-clause-list
returns-in-Some-clause-list g c most own shared hand_is left =
    let content = g.S.Holding.content in let suits = g.S.Holding.suits in let arriving = g.S.Holding.arriving in
    let m = c.args.table.now.key in let t = c.args.thread in let item = c.args.item in let me = c.args.seat.now.me in let me' = c.commit_by_front.new.seat.me in
    let same = c.commit_by_front.ensures.same.2 in let carries = left.1 in let es = mine me.0 in
    let own' = own_after_take own item in let shared' = shared_after_take own shared item in
    let moved = refill_of most m.k own' shared' in
    let did = subst (λ o. FetchesTo most m.k own' shared' o left.0 (last_arriving arriving me.1)) c.in-Some.is left.2 in
    let due : last_arriving arriving me'.1 ≡ moved = ap (λ (z : Me g.row.S.Denot View). last_arriving arriving z.1) same ∙ did.1 in
    c.release_refilled.ensures.list
    ∙ (ap (λ z. mine me'.0 ++ Committed (Refill z) ∷ both_marked t item.key) due
    ∙ (ap (λ z. z ++ Committed (Refill moved) ∷ both_marked t item.key) (mine_set content suits m t (Take item) me me' carries.acts same)
    ∙ (append_assoc es (Committed (Take item) ∷ []) (Committed (Refill moved) ∷ both_marked t item.key)
    ∙ ap (λ z. es ++ Committed (Take item) ∷ (z ++ both_marked t item.key)) (sym (some_refilled moved did.0.some)))))

pub returns-in-None-clause-list : goal.returns-in-None-clause-list
returns-in-None-clause-list g c most own shared hand_is left =
    let content = g.S.Holding.content in let suits = g.S.Holding.suits in
    let m = c.args.table.now.key in let t = c.args.thread in let item = c.args.item in let me = c.args.seat.now.me in let me' = c.commit_by_front.new.seat.me in
    let same = c.commit_by_front.ensures.same.2 in let carries = left.1 in let es = mine me.0 in
    let none = subst (λ o. FetchesTo most m.k (own_after_take own item) (shared_after_take own shared item) o left.0 (last_arriving g.S.Holding.arriving me.1)) c.in-None.is left.2 in
    c.release_both_marked.ensures.list
    ∙ (ap (λ z. z ++ both_marked t item.key) (mine_set content suits m t (Take item) me me' carries.acts same)
    ∙ (append_assoc es (Committed (Take item) ∷ []) (both_marked t item.key)
    ∙ ap (λ z. es ++ Committed (Take item) ∷ (refilled z ++ both_marked t item.key)) (sym none.0)))
