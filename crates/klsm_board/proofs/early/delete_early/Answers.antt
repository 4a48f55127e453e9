use Rattle.std.proofs.Common.{◌≡◌, ◌<◌, ◌∙◌, [], ◌∷◌, ◌++◌, ap, arith, inl, refl, subst, sym}
use Rattle.std.proofs.lemmas.Option.{same_Some}
use Rattle.klsm_run.specs.declared.item.Item.{Item}
use Rattle.klsm_parts.specs.Least.{IsLeast}
use Rattle.klsm_parts.specs.Events.{own_after_early}
use Rattle.klsm_schedules.specs.declared.step.Entry.{Entry}
use Rattle.klsm_schedules.specs.declared.step.Entry.TheVariants.{Looked}
use Rattle.klsm_board.specs.Steps.{mine, rest_of}
use Rattle.klsm_board.specs.Seats.{own_in_hand}
use Rattle.std.specs.Prelude.{Some, None}
use Rattle.klsm_board.specs.declared.rule.View.{View}
use Rattle.klsm_board.specs.Deleting.{TakesEarly}
use Rattle.klsm_board.specs.Entries.{own_marked}
use Rattle.klsm_board.specs.Effects.{TakesEffect}
use Rattle.klsm_board.proofs.lemmas.seats.StandLemmas.{stands}
use Rattle.klsm_board.proofs.lemmas.calls.EarlyLemmas.{looked_only, early_out, early_work, takes_early, early_effect, slot_there, slot_is}
use Rattle.klsm_board.proofs.lemmas.calls.TestLemmas.{none_told}
use Rattle.klsm_board.proofs.lemmas.table.SeatLemmas.{has_noted, mine_noted}
use Rattle.klsm_board.proofs.early.delete_early.Goals as goal

pub look_at_front-requires-clause-has : goal.look_at_front-requires-clause-has
look_at_front-requires-clause-has g c = let k = c.requires.has in let did = c.in_ok-least.ensures.looked k.0 k.1 in (k.0, did.0, did.1)

pub returns-then-least-look_at_front-clause-done : goal.returns-then-least-look_at_front-clause-done
returns-then-least-look_at_front-clause-done g c own has =
    let content = g.S.Holding.content in let suits = g.S.Holding.suits in let m = c.args.table.now.key in let t = c.args.thread in
    let did = c.in_ok-least.ensures.looked own has in
    let told = looked_only content suits m t c.in_ok-least.least c.look_at_front.result c.least_own.new.seat.me c.look_at_front.new.seat.me c.if-least-look_at_front.true c.look_at_front.ensures.looked in
    let entry : Entry = Looked c.look_at_front.result in let me = c.least_own.new.seat.me in let me' = c.look_at_front.new.seat.me in (
      Some c.look_at_front.result,
      (c.in_ok-least.least, did.1, c.if-least-look_at_front.true),
      has_noted content suits m t entry (own_in_hand t own) me me' (λ _. refl) (λ _. refl) (λ _. refl) (stands did.0) told.0 told.1,
      mine_noted content suits m t entry me me' did.0.carries.acts told.0 ∙ ap (λ z. mine z ++ entry ∷ []) c.least_own.ensures.same.2,
    )

pub slot_mut-requires : goal.slot_mut-requires
slot_mut-requires g c =
    let k = c.requires.has in let did = c.in_ok-least.ensures.looked k.0 k.1 in
    let below : c.in_ok-least.least.key < c.look_at_front.result = omega (arith, c.if-least-look_at_front.false) in (
      c.look_at_front.ensures.same.0 ∙ (c.least_own.ensures.same.0 ∙ c.requires.seat.0),
      slot_there g.S.Holding.content g.S.Holding.suits c.args.table.now.key c.args.thread k.0 c.in_ok-least.least c.look_at_front.result c.least_own.new.seat.me c.look_at_front.new.seat.me did.0 did.1 below c.look_at_front.ensures.looked,
    )

pub take_least-item-requires-clause-own : goal.take_least-item-requires-clause-own
take_least-item-requires-clause-own g c =
    let k = c.requires.has in let did = c.in_ok-least.ensures.looked k.0 k.1 in
    let below : c.in_ok-least.least.key < c.look_at_front.result = omega (arith, c.if-least-look_at_front.false) in
    let is = slot_is g.S.Holding.content g.S.Holding.suits c.args.table.now.key c.args.thread k.0 c.in_ok-least.least c.look_at_front.result c.least_own.new.seat.me c.look_at_front.new.seat.me did.0 did.1 below c.look_at_front.ensures.looked c.slot_mut.result.now c.slot_mut.ensures.value in
    (c.args.table.now.key.k, c.args.thread, is.1)

pub take_least-item-requires-clause-some : goal.take_least-item-requires-clause-some
take_least-item-requires-clause-some g c =
    let k = c.requires.has in let did = c.in_ok-least.ensures.looked k.0 k.1 in
    let below : c.in_ok-least.least.key < c.look_at_front.result = omega (arith, c.if-least-look_at_front.false) in
    let is = slot_is g.S.Holding.content g.S.Holding.suits c.args.table.now.key c.args.thread k.0 c.in_ok-least.least c.look_at_front.result c.least_own.new.seat.me c.look_at_front.new.seat.me did.0 did.1 below c.look_at_front.ensures.looked c.slot_mut.result.now c.slot_mut.ensures.value in
    (c.in_ok-least.least, subst (λ z. IsLeast c.in_ok-least.least z) (sym is.0) did.1)

pub release_marked-requires-clause-carries : goal.release_marked-requires-clause-carries
release_marked-requires-clause-carries g c =
    let content = g.S.Holding.content in let suits = g.S.Holding.suits in let m = c.args.table.now.key in let t = c.args.thread in
    let k = c.requires.has in let own = k.0 in let did = c.in_ok-least.ensures.looked own k.1 in
    let x = c.in_ok-least.least in let item = c.take_least-item.result in
    let below : x.key < c.look_at_front.result = omega (arith, c.if-least-look_at_front.false) in
    let is = slot_is content suits m t own x c.look_at_front.result c.least_own.new.seat.me c.look_at_front.new.seat.me did.0 did.1 below c.look_at_front.ensures.looked c.slot_mut.result.now c.slot_mut.ensures.value in
    let same : item ≡ x = same_Some item x (sym (subst (λ z. IsLeast item z) is.0 c.take_least-item.ensures.least) ∙ did.1) in
    let left : content c.take_least-item.new.self ≡ own_after_early own x = c.take_least-item.ensures.left ∙ λ i. own_after_early (is.0 i) (same i) in
    let out = early_out content suits m t own x c.look_at_front.result c.least_own.new.seat.me c.look_at_front.new.seat.me did.0 did.1 below c.look_at_front.ensures.looked c.take_least-item.new.self left (c.take_least-item.ensures.kind m.k t is.1) in
    (own_after_early own x, out.0, out.1)

pub release_marked-requires-clause-key : goal.release_marked-requires-clause-key
release_marked-requires-clause-key g c =
    let content = g.S.Holding.content in let suits = g.S.Holding.suits in let m = c.args.table.now.key in let t = c.args.thread in
    let k = c.requires.has in let did = c.in_ok-least.ensures.looked k.0 k.1 in
    let x = c.in_ok-least.least in let item = c.take_least-item.result in
    let below : x.key < c.look_at_front.result = omega (arith, c.if-least-look_at_front.false) in
    let is = slot_is content suits m t k.0 x c.look_at_front.result c.least_own.new.seat.me c.look_at_front.new.seat.me did.0 did.1 below c.look_at_front.ensures.looked c.slot_mut.result.now c.slot_mut.ensures.value in
    let same : item ≡ x = same_Some item x (sym (subst (λ z. IsLeast item z) is.0 c.take_least-item.ensures.least) ∙ did.1) in
    inl (ap (λ (z : Item). z.key) same ∙ early_work content suits m t k.0 x c.look_at_front.result c.least_own.new.seat.me c.look_at_front.new.seat.me did.0 did.1 below c.look_at_front.ensures.looked)

pub returns-clause-done : goal.returns-clause-done
returns-clause-done g c own has =
    let content = g.S.Holding.content in let suits = g.S.Holding.suits in let m = c.args.table.now.key in let t = c.args.thread in
    let did = c.in_ok-least.ensures.looked own has in
    let x = c.in_ok-least.least in let item = c.take_least-item.result in
    let below : x.key < c.look_at_front.result = omega (arith, c.if-least-look_at_front.false) in
    let is = slot_is content suits m t own x c.look_at_front.result c.least_own.new.seat.me c.look_at_front.new.seat.me did.0 did.1 below c.look_at_front.ensures.looked c.slot_mut.result.now c.slot_mut.ensures.value in
    let same : item ≡ x = same_Some item x (sym (subst (λ z. IsLeast item z) is.0 c.take_least-item.ensures.least) ∙ did.1) in
    let left : content c.take_least-item.new.self ≡ own_after_early own x = c.take_least-item.ensures.left ∙ λ i. own_after_early (is.0 i) (same i) in
    let out = early_out content suits m t own x c.look_at_front.result c.least_own.new.seat.me c.look_at_front.new.seat.me did.0 did.1 below c.look_at_front.ensures.looked c.take_least-item.new.self left (c.take_least-item.ensures.kind m.k t is.1) in
    let did_take = takes_early content suits m t own x c.look_at_front.result c.least_own.new.seat.me c.look_at_front.new.seat.me did.0 did.1 below c.look_at_front.ensures.looked (mine c.release_marked.new.seat.me.0) (c.release_marked.ensures.list ∙ ap (λ (z : Item). mine c.look_at_front.new.seat.me.0 ++ own_marked t z.key) same) in (
      c.release_marked.ensures.has,
      subst (λ z. TakesEarly m t own z (mine c.release_marked.new.seat.me.0) item) (ap mine c.least_own.ensures.same.2)
          (subst (λ z. TakesEarly m t own (mine c.least_own.new.seat.me.0) (mine c.release_marked.new.seat.me.0) z) (sym same) did_take),
    )

pub returns-clause-effect : goal.returns-clause-effect
returns-clause-effect g c =
    let content = g.S.Holding.content in let suits = g.S.Holding.suits in let m = c.args.table.now.key in let t = c.args.thread in
    let k = c.requires.has in let did = c.in_ok-least.ensures.looked k.0 k.1 in
    let x = c.in_ok-least.least in let item = c.take_least-item.result in let es' = mine c.release_marked.new.seat.me.0 in
    let below : x.key < c.look_at_front.result = omega (arith, c.if-least-look_at_front.false) in
    let is = slot_is content suits m t k.0 x c.look_at_front.result c.least_own.new.seat.me c.look_at_front.new.seat.me did.0 did.1 below c.look_at_front.ensures.looked c.slot_mut.result.now c.slot_mut.ensures.value in
    let same : item ≡ x = same_Some item x (sym (subst (λ z. IsLeast item z) is.0 c.take_least-item.ensures.least) ∙ did.1) in
    subst (λ (v : View). TakesEffect m t (rest_of v) (mine v) es' (Some item)) c.least_own.ensures.same.2
    (subst (λ z. TakesEffect m t (rest_of c.least_own.new.seat.me.0) (mine c.least_own.new.seat.me.0) es' (Some z)) (sym same)
    (early_effect content suits m t k.0 x c.look_at_front.result c.least_own.new.seat.me c.look_at_front.new.seat.me did.0 did.1 below c.look_at_front.ensures.looked es' (c.release_marked.ensures.list ∙ ap (λ (z : Item). mine c.look_at_front.new.seat.me.0 ++ own_marked t z.key) same)))

pub returns-in_err-least-clause-done : goal.returns-in_err-least-clause-done
returns-in_err-least-clause-done g c own has =
    let did = c.in_err-least.ensures.looked own has in
    none_told c.from_residual.result _ _ c.from_residual.ensures (None, did.1, did.0, ap mine c.least_own.ensures.same.2)
