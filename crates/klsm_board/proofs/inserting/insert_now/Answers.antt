use Rattle.std.proofs.Common.{◌+◌, ◌∷◌, ◌++◌, ◌∙◌, [], ap, refl, subst, inl, inr, append_assoc}
use Rattle.std.specs.Prelude.{None}
use Rattle.klsm_schedules.specs.declared.step.Event.TheVariants.{Put}
use Rattle.klsm_schedules.specs.declared.step.Entry.TheVariants.{Acquired, Committed, Released, Missed}
use Rattle.klsm_board.specs.Effects.{MeetsHolder}
use Rattle.klsm_board.specs.Steps.{mine, rest_of}
use Rattle.klsm_board.specs.Seats.{own_in_hand}
use Rattle.klsm_board.specs.Entries.{own_acquired}
use Rattle.klsm_board.proofs.lemmas.seats.StandLemmas.{stands}
use Rattle.klsm_board.proofs.lemmas.hands.EventLemmas.{shared_not_in_one}
use Rattle.klsm_board.proofs.lemmas.calls.EventLemmas.{same_events, stamp_kept, room_kept}
use Rattle.klsm_board.specs.Inserting.{LacksRoom, IsBelowLimit}
use Rattle.klsm_board.proofs.lemmas.calls.MissLemmas.{meets, same_busy}
use Rattle.klsm_board.proofs.lemmas.calls.FullLemmas.{full_now, full_is_quiet, flushed, gave_up}
use Rattle.klsm_board.proofs.inserting.insert_now.Goals as goal

pub put_own-requires-clause-stamp : goal.put_own-requires-clause-stamp
put_own-requires-clause-stamp g c =
    let t = c.args.thread in let es = mine c.args.seat.now.me.0 in
    let own = c.in_default.ensures.ok [] c.requires.stands in
    stamp_kept t c.args.item es (mine c.try_acquire.new.seat.me.0) (same_events es (Acquired (t + 1) own.0 ∷ []) (mine c.try_acquire.new.seat.me.0) own.2 refl) c.requires.stamp

pub put_own-requires-clause-room : goal.put_own-requires-clause-room
put_own-requires-clause-room g c =
    let t = c.args.thread in let es = mine c.args.seat.now.me.0 in
    let own = c.in_default.ensures.ok [] c.requires.stands in
    room_kept c.args.table.now.key.quota es (mine c.try_acquire.new.seat.me.0) (same_events es (Acquired (t + 1) own.0 ∷ []) (mine c.try_acquire.new.seat.me.0) own.2 refl) c.requires.room

pub put_own-requires-clause-has : goal.put_own-requires-clause-has
put_own-requires-clause-has g c = let own = c.in_default.ensures.ok [] c.requires.stands in (own.0, own.1)

pub returns-then-put_own-clause-has : goal.returns-then-put_own-clause-has
returns-then-put_own-clause-has g c =
    let own = c.in_default.ensures.ok [] c.requires.stands in
    (c.if-put_own.ensures.done own.0 own.1).1

pub returns-then-put_own-clause-ok : goal.returns-then-put_own-clause-ok
returns-then-put_own-clause-ok g c =
    let t = c.args.thread in let es = mine c.args.seat.now.me.0 in
    let own = c.in_default.ensures.ok [] c.requires.stands in
    let put = c.if-put_own.ensures.done own.0 own.1 in
    inl (record { own = own.0; room = put.0; steps = put.2 ∙ ap (λ z. z ++ Committed (Put c.args.item) ∷ Released (t + 1) ∷ []) own.2 })

pub try_acquire-requires-2-clause-has : goal.try_acquire-requires-2-clause-has
try_acquire-requires-2-clause-has g c =
    let t = c.args.thread in let es = mine c.args.seat.now.me.0 in
    let own = c.in_default.ensures.ok [] c.requires.stands in
    let kept = c.if-put_own.ensures.done own.0 own.1 in
    (own_in_hand t own.0, stands kept.1, shared_not_in_one t own.0)

pub release_part-requires-clause-has : goal.release_part-requires-clause-has
release_part-requires-clause-has g c =
    let t = c.args.thread in let es = mine c.args.seat.now.me.0 in
    let own = c.in_default.ensures.ok [] c.requires.stands in
    let kept = c.if-put_own.ensures.done own.0 own.1 in
    let busy = c.in-Err-try_acquire.ensures.busy in
    (own.0, [], stands (busy.1 (own_in_hand t own.0) (stands kept.1)), refl)

pub returns-in-Err-try_acquire-clause-has : goal.returns-in-Err-try_acquire-clause-has
returns-in-Err-try_acquire-clause-has g c =
    let t = c.args.thread in let es = mine c.args.seat.now.me.0 in
    let own = c.in_default.ensures.ok [] c.requires.stands in
    let kept = c.if-put_own.ensures.done own.0 own.1 in
    let busy = c.in-Err-try_acquire.ensures.busy in
    c.release_part.ensures.released own.0 [] (stands (busy.1 (own_in_hand t own.0) (stands kept.1))) refl

pub returns-in-Err-try_acquire-clause-refused : goal.returns-in-Err-try_acquire-clause-refused
returns-in-Err-try_acquire-clause-refused g c =
    let t = c.args.thread in let es = mine c.args.seat.now.me.0 in
    let own = c.in_default.ensures.ok [] c.requires.stands in
    let kept = c.if-put_own.ensures.done own.0 own.1 in
    let busy = c.in-Err-try_acquire.ensures.busy in let by = c.in-Err-try_acquire.busy.by in
    inr (record {
      own = own.0;
      look = None;
      found = (kept.0, refl);
      lock = busy.0;
      steps = c.release_part.ensures.list ∙ (ap (λ z. z ++ Released (t + 1) ∷ []) (busy.2 ∙ ap (λ z. z ++ Missed 0 by ∷ []) (kept.2 ∙ own.2))
          ∙ append_assoc (own_acquired t own.0 es) (Missed 0 by ∷ []) (Released (t + 1) ∷ []));
    })

pub flush_both-requires-clause-stamp : goal.flush_both-requires-clause-stamp
flush_both-requires-clause-stamp g c =
    let content = g.S.Holding.content in let suits = g.S.Holding.suits in let m = c.args.table.now.key in let t = c.args.thread in
    let me = c.args.seat.now.me in let both = c.try_acquire-2.new.seat.me in
    let k = full_now content suits m t me c.try_acquire.new.seat.me c.put_own.new.seat.me both c.requires.stands c.in_default.ensures.ok c.if-put_own.ensures.done c.in_default-try_acquire.ensures.ok in
    stamp_kept t c.args.item (mine me.0) (mine both.0) (full_is_quiet content suits m t (mine me.0) (mine both.0) both k) c.requires.stamp

pub flush_both-requires-clause-room : goal.flush_both-requires-clause-room
flush_both-requires-clause-room g c =
    let content = g.S.Holding.content in let suits = g.S.Holding.suits in let m = c.args.table.now.key in let t = c.args.thread in
    let me = c.args.seat.now.me in let both = c.try_acquire-2.new.seat.me in
    let k = full_now content suits m t me c.try_acquire.new.seat.me c.put_own.new.seat.me both c.requires.stands c.in_default.ensures.ok c.if-put_own.ensures.done c.in_default-try_acquire.ensures.ok in
    room_kept m.quota (mine me.0) (mine both.0) (full_is_quiet content suits m t (mine me.0) (mine both.0) both k) c.requires.room

pub flush_both-requires-clause-has : goal.flush_both-requires-clause-has
flush_both-requires-clause-has g c =
    let content = g.S.Holding.content in let suits = g.S.Holding.suits in let m = c.args.table.now.key in let t = c.args.thread in
    let me = c.args.seat.now.me in let both = c.try_acquire-2.new.seat.me in
    let k = full_now content suits m t me c.try_acquire.new.seat.me c.put_own.new.seat.me both c.requires.stands c.in_default.ensures.ok c.if-put_own.ensures.done c.in_default-try_acquire.ensures.ok in
    (k.own, k.shared, k.has, k.full)

pub returns-in-Ok-clause-ok : goal.returns-in-Ok-clause-ok
returns-in-Ok-clause-ok g c =
    let content = g.S.Holding.content in let suits = g.S.Holding.suits in let m = c.args.table.now.key in let t = c.args.thread in
    let me = c.args.seat.now.me in let both = c.try_acquire-2.new.seat.me in
    let k = full_now content suits m t me c.try_acquire.new.seat.me c.put_own.new.seat.me both c.requires.stands c.in_default.ensures.ok c.if-put_own.ensures.done c.in_default-try_acquire.ensures.ok in
    inr (flushed content suits m t (mine me.0) (mine c.flush_both.new.seat.me.0) both k g.S.PartSlot.levels c.args.item (c.in-Ok.ensures.done k.own k.shared k.has))

pub returns-in-Err-Full-clause-refused : goal.returns-in-Err-Full-clause-refused
returns-in-Err-Full-clause-refused g c =
    let content = g.S.Holding.content in let suits = g.S.Holding.suits in let m = c.args.table.now.key in let t = c.args.thread in
    let me = c.args.seat.now.me in let both = c.try_acquire-2.new.seat.me in
    let k = full_now content suits m t me c.try_acquire.new.seat.me c.put_own.new.seat.me both c.requires.stands c.in_default.ensures.ok c.if-put_own.ensures.done c.in_default-try_acquire.ensures.ok in
    gave_up content suits m t (mine me.0) (mine c.flush_both.new.seat.me.0) both k (LacksRoom g.S.PartSlot.levels m.k) (c.in-Err-Full.ensures.full c.in-Err-Full.field-0-is k.own k.shared k.has) c.in-Err-Full.ensures.refused

pub returns-in-Err-NoMemory-clause-refused : goal.returns-in-Err-NoMemory-clause-refused
returns-in-Err-NoMemory-clause-refused g c =
    let content = g.S.Holding.content in let suits = g.S.Holding.suits in let m = c.args.table.now.key in let t = c.args.thread in
    let me = c.args.seat.now.me in let both = c.try_acquire-2.new.seat.me in
    let k = full_now content suits m t me c.try_acquire.new.seat.me c.put_own.new.seat.me both c.requires.stands c.in_default.ensures.ok c.if-put_own.ensures.done c.in_default-try_acquire.ensures.ok in
    gave_up content suits m t (mine me.0) (mine c.flush_both.new.seat.me.0) both k (IsBelowLimit g.S.PartSlot.levels) (c.in-Err-NoMemory.ensures.memory c.in-Err-NoMemory.field-0-is k.own k.shared k.has) c.in-Err-NoMemory.ensures.refused

pub returns-in-Err-clause-holder : goal.returns-in-Err-clause-holder
returns-in-Err-clause-holder g c busy is =
    let m = c.args.table.now.key in let t = c.args.thread in let me = c.args.seat.now.me in let es' = mine c.try_acquire.new.seat.me.0 in
    let told = c.in-Err.ensures in let carries = c.requires.stands.carries in
    subst (MeetsHolder m t (rest_of me.0) es') (same_busy c.in-Err.busy busy is)
    (meets m t (t + 1) me.0 es' [] c.in-Err.busy carries.acts told.busy.0 told.holder told.busy.2)

pub returns-in-Err-try_acquire-clause-holder : goal.returns-in-Err-try_acquire-clause-holder
returns-in-Err-try_acquire-clause-holder g c busy is =
    let m = c.args.table.now.key in let t = c.args.thread in let me = c.put_own.new.seat.me in let es' = mine c.release_part.new.seat.me.0 in
    let own = c.in_default.ensures.ok [] c.requires.stands in let kept = (c.if-put_own.ensures.done own.0 own.1).1 in let carries = kept.carries in
    let told = c.in-Err-try_acquire.ensures in let by = c.in-Err-try_acquire.busy.by in
    let steps = c.release_part.ensures.list ∙ (ap (λ z. z ++ Released (t + 1) ∷ []) told.busy.2 ∙ append_assoc (mine me.0) (Missed 0 by ∷ []) (Released (t + 1) ∷ [])) in
    subst (λ z. MeetsHolder m t z es' busy) (c.put_own.ensures.others ∙ c.try_acquire.ensures.others)
    (subst (MeetsHolder m t (rest_of me.0) es') (same_busy c.in-Err-try_acquire.busy busy is)
    (meets m t 0 me.0 es' (Released (t + 1) ∷ []) c.in-Err-try_acquire.busy carries.acts told.busy.0 told.holder steps))
