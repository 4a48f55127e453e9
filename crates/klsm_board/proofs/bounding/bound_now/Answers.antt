use Rattle.std.proofs.Common.{[], ◌∷◌, ◌++◌, sym, ap, ◌∙◌, subst, arith, append_assoc}
use Rattle.klsm_schedules.specs.declared.step.Entry.TheVariants.{Acquired, Missed}
use Rattle.klsm_board.specs.Bounding.{MissesSome, all_acquired, all_in_hand, all_released, keys_seen, owns_acquired, owns_in_hand, owns_released}
use Rattle.klsm_board.specs.Effects.{MeetsHolder}
use Rattle.klsm_board.specs.Steps.{mine, rest_of}
use Rattle.klsm_board.proofs.lemmas.calls.AddedLemmas.{passed_on}
use Rattle.klsm_board.proofs.lemmas.calls.BoundingLemmas.{all_are_few, all_has, misses_some, owns_lack_shared, sees_all, shared_behind}
use Rattle.klsm_board.proofs.lemmas.calls.MissLemmas.{meets}
use Rattle.klsm_board.proofs.lemmas.calls.SeenLemmas.{seen_is_least}
use Rattle.klsm_board.proofs.lemmas.seats.StandLemmas.{stands}
use Rattle.klsm_board.proofs.bounding.bound_now.Goals as goal

-- an own part was held
pub returns-in_err-acquire_owns-clause-has : goal.returns-in_err-acquire_owns-clause-has
returns-in_err-acquire_owns-clause-has g c = c.in_err-acquire_owns.ensures.busy.0

pub returns-in_err-acquire_owns-clause-busy : goal.returns-in_err-acquire_owns-clause-busy
returns-in_err-acquire_owns-clause-busy g c =
    let es = mine c.args.seat.now.me.0 in let es' = mine c.acquire_owns.new.seat.me.0 in
    passed_on c.from_residual.result _ _ c.from_residual.ensures.1 (λ why is. subst (MissesSome c.args.threads es es') (sym is) c.in_err-acquire_owns.ensures.busy.1)

pub returns-in_err-acquire_owns-clause-holder : goal.returns-in_err-acquire_owns-clause-holder
returns-in_err-acquire_owns-clause-holder g c =
    let m = c.args.table.now.key in let t = c.args.thread in let me = c.args.seat.now.me in let es' = mine c.acquire_owns.new.seat.me.0 in
    passed_on c.from_residual.result _ _ c.from_residual.ensures.1 (λ why is. subst (MeetsHolder m t (rest_of me.0) es') (sym is) c.in_err-acquire_owns.ensures.holder)

-- the shared one was held
pub try_acquire-requires-clause-has : goal.try_acquire-requires-clause-has
try_acquire-requires-clause-has g c =
    let owns = c.in_ok-acquire_owns.ensures.ok in (owns_in_hand owns.0, stands owns.2, owns_lack_shared owns.0)

pub release_owns-requires-clause-count : goal.release_owns-requires-clause-count
release_owns-requires-clause-count g c = omega (arith, c.requires.threads)

pub release_owns-requires-clause-has : goal.release_owns-requires-clause-has
release_owns-requires-clause-has g c =
    let owns = c.in_ok-acquire_owns.ensures.ok in let told = c.in-Err.ensures.busy in
    (owns.0, owns.1, told.1 (owns_in_hand owns.0) (stands owns.2))

pub returns-in-Err-clause-busy : goal.returns-in-Err-clause-busy
returns-in-Err-clause-busy g c =
    let threads = c.args.threads in let owns = c.in_ok-acquire_owns.ensures.ok in let told = c.in-Err.ensures.busy in let busy = c.in-Err.busy in
    let before = mine c.acquire_owns.new.seat.me.0 in
    misses_some threads threads (mine c.args.seat.now.me.0) before (mine c.try_acquire.new.seat.me.0) (mine c.release_owns.new.seat.me.0) busy owns.0 owns.1 (omega arith) (told.0 ∙ sym (shared_behind threads)) owns.3
    (told.2 ∙ ap (λ p. before ++ Missed p busy.by ∷ []) (sym told.0)) c.release_owns.ensures.list

pub returns-in-Err-clause-holder : goal.returns-in-Err-clause-holder
returns-in-Err-clause-holder g c =
    let m = c.args.table.now.key in let t = c.args.thread in let threads = c.args.threads in
    let owns = c.in_ok-acquire_owns.ensures.ok in let has = owns.2 in let carries = has.carries in
    let told = c.in-Err.ensures in let busy = c.in-Err.busy in let v = c.acquire_owns.new.seat.me.0 in let es' = mine c.release_owns.new.seat.me.0 in
    let steps = c.release_owns.ensures.list ∙ (ap (λ z. z ++ owns_released threads) told.busy.2 ∙ append_assoc (mine v) (Missed 0 busy.by ∷ []) (owns_released threads)) in
    subst (λ z. MeetsHolder m t z es' busy) c.acquire_owns.ensures.others (meets m t 0 v es' (owns_released threads) busy carries.acts told.busy.0 told.holder steps)

-- all were acquired
pub see_all_work-work-requires-clause-has : goal.see_all_work-work-requires-clause-has
see_all_work-work-requires-clause-has g c =
    let owns = c.in_ok-acquire_owns.ensures.ok in let all = c.in_default.ensures.ok (owns_in_hand owns.0) (stands owns.2) in
    (all_in_hand owns.0 all.0, all.1, λ p within. all_has owns.0 all.0 p (omega (arith, within, owns.1)))

pub read_all-requires-clause-has : goal.read_all-requires-clause-has
read_all-requires-clause-has g c =
    let m = c.args.table.now.key in let t = c.args.thread in
    let owns = c.in_ok-acquire_owns.ensures.ok in let all = c.in_default.ensures.ok (owns_in_hand owns.0) (stands owns.2) in let has = all.1 in (
      owns.0,
      all.0,
      owns.1,
      c.see_all_work-work.ensures.has (all_in_hand owns.0 all.0) has,
      all_are_few m t c.try_acquire.new.seat.me.0 owns.0 all.0 has.reached has.hand_is (owns.1 ∙ c.requires.threads) c.requires.seat.1.2 c.requires.quota,
    )

pub returns-clause-ok : goal.returns-clause-ok
returns-clause-ok g c =
    let es = mine c.args.seat.now.me.0 in
    let owns = c.in_ok-acquire_owns.ensures.ok in let all = c.in_default.ensures.ok (owns_in_hand owns.0) (stands owns.2) in
    let list = all.2 ∙ (ap (λ z. z ++ Acquired 0 all.0 ∷ []) owns.3 ∙ append_assoc es (owns_acquired owns.0) (Acquired 0 all.0 ∷ [])) in
    let seen = c.see_all_work-work.ensures.seen in
    record {
      owns = owns.0;
      shared = all.0;
      keys = seen.0;
      all = owns.1;
      each = seen.1;
      is = c.read_all.ensures.read owns.0 all.0 owns.1 (c.see_all_work-work.ensures.has (all_in_hand owns.0 all.0) all.1);
      work = c.read_all.ensures.work ∙ seen.2;
      steps = c.read_all.ensures.list ∙ ap (λ z. z ++ all_released c.args.threads) (seen.3 ∙ ap (λ z. z ++ keys_seen seen.0) list);
    }

pub returns-clause-live : goal.returns-clause-live
returns-clause-live g c =
    let m = c.args.table.now.key in let t = c.args.thread in let es = mine c.args.seat.now.me.0 in let v = c.see_all_work-work.new.seat.me.0 in
    let owns = c.in_ok-acquire_owns.ensures.ok in let all = c.in_default.ensures.ok (owns_in_hand owns.0) (stands owns.2) in
    let has = c.see_all_work-work.ensures.has (all_in_hand owns.0 all.0) all.1 in let carries = has.carries in
    let list = all.2 ∙ (ap (λ z. z ++ Acquired 0 all.0 ∷ []) owns.3 ∙ append_assoc es (owns_acquired owns.0) (Acquired 0 all.0 ∷ [])) in
    let seen = c.see_all_work-work.ensures.seen in let list' = seen.3 ∙ ap (λ z. z ++ keys_seen seen.0) list in
    sees_all m t v (rest_of c.args.seat.now.me.0) es (mine c.read_all.new.seat.me.0) (all_released c.args.threads) owns.0 all.0 seen.0 c.read_all.result carries.acts
    (c.see_all_work-work.ensures.others ∙ (c.try_acquire.ensures.others ∙ c.acquire_owns.ensures.others)) has.reached has.hand_is
    (owns.1 ∙ c.requires.threads) list' (c.read_all.ensures.list ∙ ap (λ z. z ++ all_released c.args.threads) list') (c.read_all.ensures.read owns.0 all.0 owns.1 has)
    (c.read_all.ensures.work ∙ (seen.2 ∙ seen_is_least m t v (es ++ all_acquired owns.0 all.0) seen.0 has.reached list' (seen.1 ∙ c.requires.threads)))
