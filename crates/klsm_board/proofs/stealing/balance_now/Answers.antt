use Rattle.std.proofs.Common.{◌≡◌, ◌+◌, ◌∷◌, ◌++◌, ◌∙◌, [], Some, ap, refl, subst, sym}
use Rattle.klsm_schedules.specs.declared.step.Entry.TheVariants.{Looked}
use Rattle.klsm_board.specs.Effects.{MeetsHolder}
use Rattle.klsm_board.specs.Entries.{own_looked}
use Rattle.klsm_board.specs.Inserting.{MissesOwn}
use Rattle.klsm_board.specs.Stealing.{TriesVictim}
use Rattle.klsm_board.specs.Steps.{mine, rest_of}
use Rattle.klsm_board.specs.Seats.{own_in_hand}
use Rattle.klsm_board.proofs.lemmas.seats.StandLemmas.{stands}
use Rattle.klsm_board.proofs.lemmas.calls.AddedLemmas.{passed_on}
use Rattle.klsm_board.proofs.lemmas.calls.MissLemmas.{meets}
use Rattle.klsm_board.proofs.lemmas.calls.StealLemmas.{tried_either}
use Rattle.klsm_board.proofs.stealing.balance_now.Goals as goal

pub see_front-front-requires-clause-view : goal.see_front-front-requires-clause-view
see_front-front-requires-clause-view g c = let own = c.in_ok-try_acquire.ensures.ok [] c.requires.stands in own.1.carries.acts

pub steal_from-moves-requires-clause-has : goal.steal_from-moves-requires-clause-has
steal_from-moves-requires-clause-has g c =
    let own = c.in_ok-try_acquire.ensures.ok [] c.requires.stands in
    (own.0, c.see_front-front.ensures.still (own_in_hand c.args.thread own.0) (stands own.1))

pub release_part-requires-clause-has : goal.release_part-requires-clause-has
release_part-requires-clause-has g c =
    let content = g.S.Holding.content in let suits = g.S.Holding.suits in let m = c.args.table.now.key in let t = c.args.thread in
    let own = c.in_ok-try_acquire.ensures.ok [] c.requires.stands in
    let has = c.see_front-front.ensures.still (own_in_hand t own.0) (stands own.1) in
    let tried = tried_either content suits m t c.see_front-front.result c.args.most c.args.victim own.0 (mine c.see_front-front.new.seat.me.0) c.steal_from-moves.new.seat.me c.steal_from-moves.result (c.steal_from-moves.ensures.done own.0 has) in
    (tried.own_after, [], stands tried.has, refl)

pub returns-clause-has : goal.returns-clause-has
returns-clause-has g c =
    let content = g.S.Holding.content in let suits = g.S.Holding.suits in let m = c.args.table.now.key in let t = c.args.thread in
    let own = c.in_ok-try_acquire.ensures.ok [] c.requires.stands in
    let has = c.see_front-front.ensures.still (own_in_hand t own.0) (stands own.1) in
    let tried = tried_either content suits m t c.see_front-front.result c.args.most c.args.victim own.0 (mine c.see_front-front.new.seat.me.0) c.steal_from-moves.new.seat.me c.steal_from-moves.result (c.steal_from-moves.ensures.done own.0 has) in
    c.release_part.ensures.released tried.own_after [] (stands tried.has) refl

pub returns-clause-ok : goal.returns-clause-ok
returns-clause-ok g c =
    let content = g.S.Holding.content in let suits = g.S.Holding.suits in let m = c.args.table.now.key in let t = c.args.thread in
    let own = c.in_ok-try_acquire.ensures.ok [] c.requires.stands in let front = c.see_front-front.result in
    let has = c.see_front-front.ensures.still (own_in_hand t own.0) (stands own.1) in
    let looked : mine c.see_front-front.new.seat.me.0 ≡ own_looked t own.0 (Some front) (mine c.args.seat.now.me.0) = c.see_front-front.ensures.list ∙ ap (λ z. z ++ Looked front ∷ []) own.2 in
    let tried = tried_either content suits m t front c.args.most c.args.victim own.0 (mine c.see_front-front.new.seat.me.0) c.steal_from-moves.new.seat.me c.steal_from-moves.result (c.steal_from-moves.ensures.done own.0 has) in
    record {
      own = own.0;
      front = front;
      tried = mine c.steal_from-moves.new.seat.me.0;
      tries = subst (λ es. TriesVictim front c.args.most m.k c.args.victim own.0 es (mine c.steal_from-moves.new.seat.me.0) c.steal_from-moves.result) looked tried.tries;
      steps = c.release_part.ensures.list;
    }

pub returns-in_err-try_acquire-clause-has : goal.returns-in_err-try_acquire-clause-has
returns-in_err-try_acquire-clause-has g c = c.in_err-try_acquire.ensures.busy.1 [] c.requires.stands

pub returns-in_err-try_acquire-clause-busy : goal.returns-in_err-try_acquire-clause-busy
returns-in_err-try_acquire-clause-busy g c =
    let t = c.args.thread in let es = mine c.args.seat.now.me.0 in let es' = mine c.try_acquire.new.seat.me.0 in
    let told = c.in_err-try_acquire.ensures.busy in
    passed_on c.from_residual.result _ _ c.from_residual.ensures.1 (λ why is.
    subst (MissesOwn t es es') (sym is) (record { lock = told.0; steps = told.2 }))

pub returns-in_err-try_acquire-clause-holder : goal.returns-in_err-try_acquire-clause-holder
returns-in_err-try_acquire-clause-holder g c =
    let m = c.args.table.now.key in let t = c.args.thread in let me = c.args.seat.now.me in let es' = mine c.try_acquire.new.seat.me.0 in
    let told = c.in_err-try_acquire.ensures in let busy = c.in_err-try_acquire.field-0.0 in let carries = c.requires.stands.carries in
    passed_on c.from_residual.result _ _ c.from_residual.ensures.1 (λ why is.
    subst (MeetsHolder m t (rest_of me.0) es') (sym is) (meets m t (t + 1) me.0 es' [] busy carries.acts told.busy.0 told.holder told.busy.2))
