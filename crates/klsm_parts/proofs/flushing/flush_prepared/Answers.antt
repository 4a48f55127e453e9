use Rattle.std.proofs.Common.{rules, ap, ◌∙◌, refl}
use Rattle.klsm_parts.specs.Parts.{items_in}
use Rattle.klsm_parts.specs.Flushing.{moved}
use Rattle.klsm_parts.proofs.EventLemmas.{shared_flushed}
use Rattle.klsm_parts.proofs.FlushLemmas.{flush_takes_effect, some_move}
use Rattle.klsm_parts.proofs.flushing.flush_prepared.Goals as goal

pub returns-in-Ok-clause-event : goal.returns-in-Ok-clause-event
returns-in-Ok-clause-event g c =
    let effect = flush_takes_effect c.args.own.now.k c.args.own.now.blocks c.args.item c.in-Ok.ensures.lawful c.requires.full in
    (effect.0, ap items_in c.replace_largest.ensures ∙ effect.1, ap items_in c.in-Ok.ensures.added ∙ shared_flushed c.args.shared.now.blocks (moved c.args.own.now.blocks c.args.item))

pub absorb_prepared-requires : goal.absorb_prepared-requires
absorb_prepared-requires g c = search rules

pub replace_largest-requires : goal.replace_largest-requires
replace_largest-requires g c = search

pub returns-in-Ok-clause-own : goal.returns-in-Ok-clause-own
returns-in-Ok-clause-own g c = c.replace_largest.ensures

pub returns-in-Ok-clause-shared : goal.returns-in-Ok-clause-shared
returns-in-Ok-clause-shared g c = c.in-Ok.ensures.added

pub returns-in-Ok-clause-full : goal.returns-in-Ok-clause-full
returns-in-Ok-clause-full g c = c.in-Ok.ensures.full

pub returns-in-Ok-clause-unchanged : goal.returns-in-Ok-clause-unchanged
returns-in-Ok-clause-unchanged g c = tt

pub returns-in-Ok-clause-moves : goal.returns-in-Ok-clause-moves
returns-in-Ok-clause-moves g c = some_move c.args.own.now.blocks c.args.item c.in-Ok.ensures.lawful

pub returns-in-Err-clause-moves : goal.returns-in-Err-clause-moves
returns-in-Err-clause-moves g c = some_move c.args.own.now.blocks c.args.item c.in-Err.ensures.lawful

pub returns-in-Err-clause-own : goal.returns-in-Err-clause-own
returns-in-Err-clause-own g c = tt

pub returns-in-Err-clause-shared : goal.returns-in-Err-clause-shared
returns-in-Err-clause-shared g c = tt

pub returns-in-Err-clause-event : goal.returns-in-Err-clause-event
returns-in-Err-clause-event g c = tt

pub returns-in-Err-clause-full : goal.returns-in-Err-clause-full
returns-in-Err-clause-full g c = c.in-Err.ensures.full

pub returns-in-Err-clause-unchanged : goal.returns-in-Err-clause-unchanged
returns-in-Err-clause-unchanged g c = (refl, c.in-Err.ensures.unchanged)
