use Rattle.std.proofs.Common.{rules, List, ◌∷◌, ◌∙◌, [], length, sym, ap, refl, subst}
use Rattle.klsm_run.specs.declared.item.Item.{Item}
use Rattle.klsm_schedules.specs.declared.step.Entry.TheVariants.{Released}
use Rattle.klsm_schedules.specs.OwnSteps.{content_in, hand_of}
use Rattle.klsm_parts.proofs.FitLemmas.{local_fits, shared_fits}
use Rattle.klsm_board.specs.Steps.{mine}
use Rattle.klsm_board.specs.Seats.{Has, Stands}
use Rattle.klsm_board.specs.Slots.{slot_content, IsSlotOf}
use Rattle.klsm_board.proofs.lemmas.seats.RestLemmas.{stands_holding, rests_after}
use Rattle.klsm_board.proofs.lemmas.calls.AddedLemmas.{quiet_same}
use Rattle.klsm_board.proofs.board.Held.put_back.Goals as goal

pub release_part-requires-clause-has : goal.release_part-requires-clause-has
release_part-requires-clause-has g c =
    let me = c.args.self in let t = me.number in let lock = me.lock in let seat = me.seat.me in
    let board = c.args.board.now in let same = board.key ∙ sym c.requires.1 in
    let found = content_in (hand_of t (mine seat.0)) lock in (
      found,
      [],
      subst (λ m. Stands slot_content IsSlotOf m t ((lock, found) ∷ []) seat) (sym same) (stands_holding g.row.CAP me.sizes me.in_range t me.inserted me.deleted lock me.len me.least seat me.holds),
      refl,
    )

pub invariant_of-result : goal.invariant_of-result
invariant_of-result g c =
    let me = c.args.self in let t = me.number in let lock = me.lock in let seat = me.seat.me in let after = c.release_part.new.seat.me in
    let board = c.args.board.now in let same = board.key ∙ sym c.requires.1 in let holds = me.holds in
    let found = content_in (hand_of t (mine seat.0)) lock in
    let stands = stands_holding g.row.CAP me.sizes me.in_range t me.inserted me.deleted lock me.len me.least seat holds in
    let has = c.release_part.ensures.released found [] (subst (λ m. Stands slot_content IsSlotOf m t ((lock, found) ∷ []) seat) (sym same) stands) refl in
    let quiet = quiet_same (mine seat.0) (Released lock ∷ []) (mine after.0) c.release_part.ensures.list refl in
    record {
      rests = rests_after g.row.CAP me.sizes me.in_range t me.inserted me.deleted after (subst (λ m. Has slot_content IsSlotOf m t [] after) same has)
          (ap (λ (z : List Item). length z) quiet.inserted_are ∙ holds.insertions_are) (ap (λ (z : List Item). length z) quiet.deleted_are ∙ holds.deletions_are);
      in_range = me.in_range;
      capacity = me.capacity;
      levels = me.levels;
    }

pub returns-clause-same : goal.returns-clause-same
returns-clause-same g c =
    let me = c.args.self in let seat = me.seat.me in let after = c.release_part.new.seat.me in
    let quiet = quiet_same (mine seat.0) (Released me.lock ∷ []) (mine after.0) c.release_part.ensures.list refl in
    record {
      number = refl;
      sizes = refl;
      seat = sym c.release_part.ensures.same.0;
      inserted_are = sym quiet.inserted_are;
      deleted_are = sym quiet.deleted_are;
    }

pub release_part-requires-room-S-Holding : goal.release_part-requires-room-S-Holding
release_part-requires-room-S-Holding g c κs = local_fits _ c.args.self.capacity

pub release_part-requires-room-S-Holding-2 : goal.release_part-requires-room-S-Holding-2
release_part-requires-room-S-Holding-2 g c κs = shared_fits _ c.args.self.levels

pub returns-clause-steps : goal.returns-clause-steps
returns-clause-steps g c = search rules
