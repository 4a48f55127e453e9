use Rattle.std.proofs.Common.{◌≡◌, ◌+◌, ◌-◌, ◌<◌, ◌≤◌, [], length, drop, get_or, refl, sym, ap, ◌∙◌, arith}
use Rattle.std.proofs.lemmas.List.{length-map, length-take-le, drop-set-lt}
use Rattle.klsm_lsm.specs.Level.{level}
use Rattle.klsm_lsm.specs.Slots.{blocks_in}
use Rattle.klsm_lsm.proofs.CarryLemmas.{carrying_first, some_before, carrying_can, carrying_more, carrying_last, carrying_all}
use Rattle.klsm_lsm.proofs.fixed.carry.Goals as goal

pub loop-at-init : goal.loop-at-init
loop-at-init g c =
    let within : c.args.last < length (blocks_in (λ run. run) c.args.slots.now) = rw length-map c.requires.within in
    record {
      order = omega arith;
      len = refl;
      rest = refl;
      carrying = carrying_first _ _ _ _ (length-take-le _ _ (omega (arith, within))) within refl c.requires.lawful c.requires.some c.requires.apart c.requires.room c.requires.above;
    }

pub level_in-requires : goal.level_in-requires
level_in-requires g c =
    (search, (omega (arith, c.loop-at.invariant.order, c.loop-at.invariant.len, c.requires.within, c.loop-at-test.true), some_before _ _ _ _ _ c.loop-at-test.true c.loop-at.invariant.carrying))

pub unite_next-requires : goal.unite_next-requires
unite_next-requires g c =
    let back : c.loop-at.at - 1 + 1 ≡ c.loop-at.at = omega (arith, c.loop-at-test.true) in
    let now = c.loop-at.invariant in
    let can = carrying_can _ _ _ _ _ c.loop-at-test.true now.carrying in
    (search, (omega (arith, now.order, now.len, c.requires.within, c.loop-at-test.true), (some_before _ _ _ _ _ c.loop-at-test.true now.carrying, (rw back now.carrying.carried.some, (rw back can.apart, rw back can.fits)))))

pub loop-at-preserved : goal.loop-at-preserved
loop-at-preserved g c =
    let back : c.loop-at.at - 1 + 1 ≡ c.loop-at.at = omega (arith, c.loop-at-test.true) in
    let now = c.loop-at.invariant in
    let same : level (get_or (blocks_in (λ run. run) c.loop-at.slots) (c.loop-at.at - 1) []) ≡ level (get_or (blocks_in (λ run. run) c.loop-at.slots) c.loop-at.at []) =
    sym c.level_in.ensures ∙ (c.if-level_in.false ∙ c.level_in-in-loop-at.ensures) in
    record {
      order = omega (arith, now.order);
      len = c.unite_next.ensures.len ∙ now.len;
      rest = ap (drop (c.args.last + 1)) c.unite_next.ensures.united ∙ (drop-set-lt (c.args.last + 1) (blocks_in (λ run. run) c.loop-at.slots) (c.loop-at.at - 1) _ (omega (arith, now.order)) ∙ now.rest);
      carrying = carrying_more _ _ _ _ _ _ c.loop-at-test.true now.carrying same (rw back at c.unite_next.ensures.united);
    }

pub returns-then-level_in-clause-added : goal.returns-then-level_in-clause-added
returns-then-level_in-clause-added g c =
    carrying_last _ _ _ _ _ c.loop-at-test.true c.loop-at.invariant.carrying (λ same. c.if-level_in.true (c.level_in.ensures ∙ (same ∙ sym c.level_in-in-loop-at.ensures)))

pub returns-after-loop-at-clause-added : goal.returns-after-loop-at-clause-added
returns-after-loop-at-clause-added g c =
    let none : c.loop-at.at ≤ 0 = omega (arith, c.loop-at-test.false) in
    carrying_all _ _ _ _ _ none c.loop-at.invariant.carrying
