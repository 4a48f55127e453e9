use Rattle.std.proofs.Common.{rules, arith, ◌≡◌, ℕ, ◌+◌, ◌<◌, [], ◌∷◌, ◌++◌, refl, sym, ap, ◌∙◌, subst, append_assoc}
use Rattle.klsm_schedules.specs.declared.step.Entry.TheVariants.{Missed}
use Rattle.klsm_board.specs.Bounding.{owns_in_hand, owns_released}
use Rattle.klsm_board.specs.Effects.{MeetsHolder}
use Rattle.klsm_board.specs.Steps.{mine}
use Rattle.klsm_board.proofs.lemmas.calls.BoundingLemmas.{misses_some, own_behind, owns_lack}
use Rattle.klsm_board.proofs.lemmas.calls.MissLemmas.{meets}
use Rattle.klsm_board.proofs.lemmas.calls.ReadingLemmas.{acquiring_all, acquiring_more, acquiring_none}
use Rattle.klsm_board.proofs.bounding.acquire_owns.Goals as goal

pub loop-number-init : goal.loop-number-init
loop-number-init g c = record {
  same = refl;
  others = refl;
  acquiring = acquiring_none g.S.Holding.content g.S.Holding.suits c.args.table.now.key c.args.thread c.args.seat.now.me c.requires.stands;
}

pub try_acquire-requires-clause-seat : goal.try_acquire-requires-clause-seat
try_acquire-requires-clause-seat g c = let inv = c.loop-number.invariant in let seat = c.requires.seat in (inv.same ∙ seat.0, seat.1, seat.2)

pub try_acquire-requires-clause-part : goal.try_acquire-requires-clause-part
try_acquire-requires-clause-part g c =
    let less : c.loop-number.number < c.args.threads = search rules in omega (arith, less, c.requires.threads)

pub try_acquire-requires-clause-has : goal.try_acquire-requires-clause-has
try_acquire-requires-clause-has g c =
    let inv = c.loop-number.invariant in let a = inv.acquiring in let many = a.many in
    (owns_in_hand a.owns, a.stands_with, owns_lack a.owns (c.loop-number.number + 1) (omega (arith, many)))

pub release_owns-requires-clause-seat : goal.release_owns-requires-clause-seat
release_owns-requires-clause-seat g c =
    let inv = c.loop-number.invariant in let seat = c.requires.seat in (c.try_acquire.ensures.same ∙ (inv.same ∙ seat.0), seat.1, seat.2)

pub release_owns-requires-clause-count : goal.release_owns-requires-clause-count
release_owns-requires-clause-count g c =
    let less : c.loop-number.number < c.args.threads = search rules in omega (arith, less, c.requires.threads)

pub release_owns-requires-clause-has : goal.release_owns-requires-clause-has
release_owns-requires-clause-has g c =
    let inv = c.loop-number.invariant in let a = inv.acquiring in let told = c.in-Err.ensures.busy in
    (a.owns, a.many, told.1 (owns_in_hand a.owns) a.stands_with)

pub returns-in-Err-clause-same : goal.returns-in-Err-clause-same
returns-in-Err-clause-same g c =
    let inv = c.loop-number.invariant in c.release_owns.ensures.same ∙ (c.try_acquire.ensures.same ∙ inv.same)

pub returns-in-Err-clause-others : goal.returns-in-Err-clause-others
returns-in-Err-clause-others g c =
    let inv = c.loop-number.invariant in c.release_owns.ensures.others ∙ (c.try_acquire.ensures.others ∙ inv.others)

pub returns-in-Err-clause-busy : goal.returns-in-Err-clause-busy
returns-in-Err-clause-busy g c =
    let n : ℕ = c.loop-number.number in let threads = c.args.threads in let less : n < threads = search rules in
    let inv = c.loop-number.invariant in let a = inv.acquiring in let told = c.in-Err.ensures.busy in let busy = c.in-Err.busy in
    let before = mine c.loop-number.seat.me.0 in (
      c.release_owns.ensures.has,
      misses_some threads n (mine c.args.seat.now.me.0) before (mine c.try_acquire.new.seat.me.0) (mine c.release_owns.new.seat.me.0) busy a.owns a.many (omega (arith, less)) (told.0 ∙ sym (own_behind threads n less)) a.list
          (told.2 ∙ ap (λ p. before ++ Missed p busy.by ∷ []) (sym told.0)) c.release_owns.ensures.list,
    )

pub returns-in-Err-clause-holder : goal.returns-in-Err-clause-holder
returns-in-Err-clause-holder g c =
    let m = c.args.table.now.key in let t = c.args.thread in let n : ℕ = c.loop-number.number in
    let inv = c.loop-number.invariant in let a = inv.acquiring in let with_all = a.stands_with in let carries = with_all.carries in
    let told = c.in-Err.ensures in let busy = c.in-Err.busy in let v = c.loop-number.seat.me.0 in let es' = mine c.release_owns.new.seat.me.0 in
    let steps = c.release_owns.ensures.list ∙ (ap (λ z. z ++ owns_released n) told.busy.2 ∙ append_assoc (mine v) (Missed (n + 1) busy.by ∷ []) (owns_released n)) in
    subst (λ z. MeetsHolder m t z es' busy) inv.others (meets m t (n + 1) v es' (owns_released n) busy carries.acts told.busy.0 told.holder steps)

pub loop-number-preserved : goal.loop-number-preserved
loop-number-preserved g c =
    let inv = c.loop-number.invariant in
    record {
      same = c.try_acquire.ensures.same ∙ inv.same;
      others = c.try_acquire.ensures.others ∙ inv.others;
      acquiring = acquiring_more g.S.Holding.content g.S.Holding.suits c.args.table.now.key c.args.thread (mine c.args.seat.now.me.0) c.loop-number.number c.loop-number.seat.me c.try_acquire.new.seat.me inv.acquiring c.in_default.ensures.ok;
    }

pub returns-clause-others : goal.returns-clause-others
returns-clause-others g c = let inv = c.loop-number.invariant in inv.others

pub returns-clause-ok : goal.returns-clause-ok
returns-clause-ok g c =
    let n : ℕ = c.loop-number.number in let inv = c.loop-number.invariant in let a = inv.acquiring in
    let ends : n ≡ c.args.threads = search rules in let within = c.requires.seat.2 in
    let some : 0 < n = omega (arith, ends, within, c.requires.threads) in
    (a.owns, a.many ∙ ends, acquiring_all g.S.Holding.content g.S.Holding.suits c.args.table.now.key c.args.thread (mine c.args.seat.now.me.0) n c.loop-number.seat.me some a, a.list)
