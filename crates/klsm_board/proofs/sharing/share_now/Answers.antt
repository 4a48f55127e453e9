use Rattle.std.proofs.Common.{◌+◌, ◌∷◌, ◌++◌, ◌∙◌, [], ap, refl, subst, inl, inr, append_assoc, arith}
use Rattle.std.specs.Prelude.{None}
use Rattle.klsm_schedules.specs.declared.step.Entry.TheVariants.{Missed, Released}
use Rattle.klsm_board.specs.Effects.{MeetsHolder}
use Rattle.klsm_board.specs.Steps.{mine, rest_of}
use Rattle.klsm_board.specs.Seats.{own_in_hand}
use Rattle.klsm_board.specs.Entries.{own_acquired}
use Rattle.klsm_board.specs.Sharing.{LacksRoomFor, HasRoomFor}
use Rattle.klsm_board.proofs.lemmas.seats.StandLemmas.{stands}
use Rattle.klsm_board.proofs.lemmas.hands.EventLemmas.{shared_not_in_one}
use Rattle.klsm_board.proofs.lemmas.calls.MissLemmas.{meets}
use Rattle.klsm_board.proofs.lemmas.calls.SharingLemmas.{none_shared, both_now, has_some, all_shared, all_kept, same_share_busy}
use Rattle.klsm_board.proofs.sharing.share_now.Goals as goal

pub count_own-count-requires-clause-has : goal.count_own-count-requires-clause-has
count_own-count-requires-clause-has g c = let own = c.in_default.ensures.ok [] c.requires.stands in (own.0, own.1)

pub release_part-requires-clause-has : goal.release_part-requires-clause-has
release_part-requires-clause-has g c =
    let own = c.in_default.ensures.ok [] c.requires.stands in
    let kept = c.count_own-count.ensures.counted own.0 own.1 in
    (own.0, [], stands kept.1, refl)

pub returns-then-count-eq0-clause-has : goal.returns-then-count-eq0-clause-has
returns-then-count-eq0-clause-has g c =
    let own = c.in_default.ensures.ok [] c.requires.stands in
    let kept = c.count_own-count.ensures.counted own.0 own.1 in
    c.release_part.ensures.released own.0 [] (stands kept.1) refl

pub returns-then-count-eq0-clause-ok : goal.returns-then-count-eq0-clause-ok
returns-then-count-eq0-clause-ok g c =
    let t = c.args.thread in let es = mine c.args.seat.now.me.0 in
    let own = c.in_default.ensures.ok [] c.requires.stands in
    let kept = c.count_own-count.ensures.counted own.0 own.1 in
    inl (none_shared t own.0 es (mine c.count_own-count.new.seat.me.0) (mine c.release_part.new.seat.me.0) c.count_own-count.result c.if-count-eq0.true kept.0 (kept.2 ∙ own.2) c.release_part.ensures.list)

pub copy_own-copy-requires-clause-has : goal.copy_own-copy-requires-clause-has
copy_own-copy-requires-clause-has g c =
    let own = c.in_default.ensures.ok [] c.requires.stands in
    let kept = c.count_own-count.ensures.counted own.0 own.1 in
    (own.0, kept.1)

pub try_acquire-requires-2-clause-has : goal.try_acquire-requires-2-clause-has
try_acquire-requires-2-clause-has g c =
    let t = c.args.thread in
    let own = c.in_default.ensures.ok [] c.requires.stands in
    let kept = c.count_own-count.ensures.counted own.0 own.1 in
    let still = c.copy_own-copy.ensures.copied own.0 kept.1 in
    (own_in_hand t own.0, stands still.1, shared_not_in_one t own.0)

pub release_part-requires-in-Err-try_acquire-clause-has : goal.release_part-requires-in-Err-try_acquire-clause-has
release_part-requires-in-Err-try_acquire-clause-has g c =
    let t = c.args.thread in
    let own = c.in_default.ensures.ok [] c.requires.stands in
    let kept = c.count_own-count.ensures.counted own.0 own.1 in
    let still = c.copy_own-copy.ensures.copied own.0 kept.1 in
    let busy = c.in-Err-try_acquire.ensures.busy in
    (own.0, [], stands (busy.1 (own_in_hand t own.0) (stands still.1)), refl)

pub returns-in-Err-try_acquire-clause-has : goal.returns-in-Err-try_acquire-clause-has
returns-in-Err-try_acquire-clause-has g c =
    let t = c.args.thread in
    let own = c.in_default.ensures.ok [] c.requires.stands in
    let kept = c.count_own-count.ensures.counted own.0 own.1 in
    let still = c.copy_own-copy.ensures.copied own.0 kept.1 in
    let busy = c.in-Err-try_acquire.ensures.busy in
    c.release_part-in-Err-try_acquire.ensures.released own.0 [] (stands (busy.1 (own_in_hand t own.0) (stands still.1))) refl

pub returns-in-Err-try_acquire-clause-refused : goal.returns-in-Err-try_acquire-clause-refused
returns-in-Err-try_acquire-clause-refused g c =
    let t = c.args.thread in let es = mine c.args.seat.now.me.0 in
    let own = c.in_default.ensures.ok [] c.requires.stands in
    let kept = c.count_own-count.ensures.counted own.0 own.1 in
    let still = c.copy_own-copy.ensures.copied own.0 kept.1 in
    let busy = c.in-Err-try_acquire.ensures.busy in let by = c.in-Err-try_acquire.busy.by in
    inr (record {
      own = own.0;
      look = None;
      found = (omega (arith, c.if-count-eq0.false, kept.0), refl);
      lock = busy.0;
      steps = c.release_part-in-Err-try_acquire.ensures.list ∙ (ap (λ z. z ++ Released (t + 1) ∷ []) (busy.2 ∙ ap (λ z. z ++ Missed 0 by ∷ []) (still.2 ∙ (kept.2 ∙ own.2)))
          ∙ append_assoc (own_acquired t own.0 es) (Missed 0 by ∷ []) (Released (t + 1) ∷ []));
    })

pub share_both-requires-clause-has : goal.share_both-requires-clause-has
share_both-requires-clause-has g c =
    let content = g.S.Holding.content in let suits = g.S.Holding.suits in let m = c.args.table.now.key in let t = c.args.thread in
    let me = c.args.seat.now.me in let both = c.try_acquire-2.new.seat.me in let count = c.count_own-count.result in let copy = c.copy_own-copy.result in
    let k = both_now content suits m t count copy me c.try_acquire.new.seat.me c.count_own-count.new.seat.me c.copy_own-copy.new.seat.me both c.if-count-eq0.false c.requires.stands c.in_default.ensures.ok c.count_own-count.ensures.counted c.copy_own-copy.ensures.copied c.in_default-try_acquire.ensures.ok in
    has_some content suits m t count copy (mine me.0) [] both k

pub returns-in-Ok-clause-ok : goal.returns-in-Ok-clause-ok
returns-in-Ok-clause-ok g c =
    let content = g.S.Holding.content in let suits = g.S.Holding.suits in let m = c.args.table.now.key in let t = c.args.thread in
    let me = c.args.seat.now.me in let both = c.try_acquire-2.new.seat.me in let count = c.count_own-count.result in let copy = c.copy_own-copy.result in
    let k = both_now content suits m t count copy me c.try_acquire.new.seat.me c.count_own-count.new.seat.me c.copy_own-copy.new.seat.me both c.if-count-eq0.false c.requires.stands c.in_default.ensures.ok c.count_own-count.ensures.counted c.copy_own-copy.ensures.copied c.in_default-try_acquire.ensures.ok in
    inr (all_shared content suits m t count copy (mine me.0) (mine c.share_both.new.seat.me.0) both k g.S.PartSlot.levels (c.in-Ok.ensures.done k.own k.shared k.has))

pub returns-in-Err-Full-clause-refused : goal.returns-in-Err-Full-clause-refused
returns-in-Err-Full-clause-refused g c =
    let content = g.S.Holding.content in let suits = g.S.Holding.suits in let m = c.args.table.now.key in let t = c.args.thread in
    let me = c.args.seat.now.me in let both = c.try_acquire-2.new.seat.me in let count = c.count_own-count.result in let copy = c.copy_own-copy.result in
    let k = both_now content suits m t count copy me c.try_acquire.new.seat.me c.count_own-count.new.seat.me c.copy_own-copy.new.seat.me both c.if-count-eq0.false c.requires.stands c.in_default.ensures.ok c.count_own-count.ensures.counted c.copy_own-copy.ensures.copied c.in_default-try_acquire.ensures.ok in
    all_kept content suits m t count copy (mine me.0) (mine c.share_both.new.seat.me.0) both k (LacksRoomFor g.S.PartSlot.levels) (c.in-Err-Full.ensures.full c.in-Err-Full.field-0-is k.own k.shared k.has) c.in-Err-Full.ensures.refused

pub returns-in-Err-NoMemory-clause-refused : goal.returns-in-Err-NoMemory-clause-refused
returns-in-Err-NoMemory-clause-refused g c =
    let content = g.S.Holding.content in let suits = g.S.Holding.suits in let m = c.args.table.now.key in let t = c.args.thread in
    let me = c.args.seat.now.me in let both = c.try_acquire-2.new.seat.me in let count = c.count_own-count.result in let copy = c.copy_own-copy.result in
    let k = both_now content suits m t count copy me c.try_acquire.new.seat.me c.count_own-count.new.seat.me c.copy_own-copy.new.seat.me both c.if-count-eq0.false c.requires.stands c.in_default.ensures.ok c.count_own-count.ensures.counted c.copy_own-copy.ensures.copied c.in_default-try_acquire.ensures.ok in
    all_kept content suits m t count copy (mine me.0) (mine c.share_both.new.seat.me.0) both k (HasRoomFor g.S.PartSlot.levels) (c.in-Err-NoMemory.ensures.memory c.in-Err-NoMemory.field-0-is k.own k.shared k.has) c.in-Err-NoMemory.ensures.refused

pub returns-in-Err-clause-holder : goal.returns-in-Err-clause-holder
returns-in-Err-clause-holder g c busy is =
    let m = c.args.table.now.key in let t = c.args.thread in let me = c.args.seat.now.me in let es' = mine c.try_acquire.new.seat.me.0 in
    let told = c.in-Err.ensures in let carries = c.requires.stands.carries in
    subst (MeetsHolder m t (rest_of me.0) es') (same_share_busy c.in-Err.busy busy is)
    (meets m t (t + 1) me.0 es' [] c.in-Err.busy carries.acts told.busy.0 told.holder told.busy.2)

pub returns-in-Err-try_acquire-clause-holder : goal.returns-in-Err-try_acquire-clause-holder
returns-in-Err-try_acquire-clause-holder g c busy is =
    let m = c.args.table.now.key in let t = c.args.thread in let me = c.copy_own-copy.new.seat.me in let es' = mine c.release_part-in-Err-try_acquire.new.seat.me.0 in
    let own = c.in_default.ensures.ok [] c.requires.stands in let kept = (c.count_own-count.ensures.counted own.0 own.1).1 in
    let still = (c.copy_own-copy.ensures.copied own.0 kept).1 in let carries = still.carries in
    let told = c.in-Err-try_acquire.ensures in let by = c.in-Err-try_acquire.busy.by in
    let steps = c.release_part-in-Err-try_acquire.ensures.list ∙ (ap (λ z. z ++ Released (t + 1) ∷ []) told.busy.2 ∙ append_assoc (mine me.0) (Missed 0 by ∷ []) (Released (t + 1) ∷ [])) in
    subst (λ z. MeetsHolder m t z es' busy) (c.copy_own-copy.ensures.others ∙ (c.count_own-count.ensures.others ∙ c.try_acquire.ensures.others))
    (subst (MeetsHolder m t (rest_of me.0) es') (same_share_busy c.in-Err-try_acquire.busy busy is)
    (meets m t 0 me.0 es' (Released (t + 1) ∷ []) c.in-Err-try_acquire.busy carries.acts told.busy.0 told.holder steps))
