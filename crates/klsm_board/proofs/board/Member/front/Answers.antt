use Rattle.std.proofs.Common.{List, [], ◌∷◌, ◌∙◌, length, refl, sym, subst, ap}
use Rattle.klsm_schedules.specs.declared.step.Entry.TheVariants.{Looked}
use Rattle.klsm_board.specs.declared.rule.Own.{Own}
use Rattle.klsm_board.specs.declared.sizes.Sizes.{Sizes}
use Rattle.klsm_parts.proofs.FitLemmas.{local_fits, shared_fits}
use Rattle.klsm_board.specs.Rule.{view}
use Rattle.klsm_board.specs.Seats.{Has, Stands}
use Rattle.klsm_board.specs.Slots.{slot_content, IsSlotOf}
use Rattle.klsm_board.specs.Steps.{mine, HasFront}
use Rattle.klsm_board.proofs.lemmas.calls.AddedLemmas.{quiet_gains, quiet_same}
use Rattle.klsm_board.proofs.lemmas.calls.EventLemmas.{same_events}
use Rattle.klsm_board.proofs.lemmas.seats.RestLemmas.{rests_after, stands_at_rest}
use Rattle.klsm_board.proofs.board.Member.front.Goals as goal

pub invariant_of-self : goal.invariant_of-self
invariant_of-self g c =
    let me = c.args.self.now in let t = me.number in let rests = me.rests in let told = c.see_front.ensures in
    let after = c.see_front.new.seat.me in let same = c.args.board.now.key ∙ sym c.requires.1 in
    let stands = subst (λ m. Stands slot_content IsSlotOf m t [] me.seat.me) (sym same) (stands_at_rest g.row.CAP me.sizes me.in_range t me.inserted me.deleted me.seat.me rests) in
    let has = subst (λ m. Has slot_content IsSlotOf m t [] after) same (told.still [] stands) in
    let quiet = quiet_same (mine me.seat.me.0) (Looked c.see_front.result ∷ []) (mine after.0) told.list refl in
    record {
      rests = rests_after g.row.CAP me.sizes me.in_range t me.inserted me.deleted after has (ap (λ z. length z) quiet.inserted_are ∙ rests.insertions_are) (ap (λ z. length z) quiet.deleted_are ∙ rests.deletions_are);
      in_range = me.in_range;
      capacity = me.capacity;
      levels = me.levels;
    }

pub returns-clause-adds : goal.returns-clause-adds
returns-clause-adds g c =
    let me = c.args.self.now in let told = c.see_front.ensures in
    let gains = quiet_gains (mine me.seat.me.0) (mine c.see_front.new.seat.me.0) (same_events (mine me.seat.me.0) (Looked c.see_front.result ∷ []) (mine c.see_front.new.seat.me.0) told.list refl) in
    record { inserted_are = gains.inserted_are; deleted_are = gains.deleted_are }

pub returns-clause-known : goal.returns-clause-known
returns-clause-known g c =
    let me = c.args.self.now in
    subst (λ (z : Sizes × List Own). HasFront z.0 me.number (view z.1) c.see_front.result)
    (λ i. ((c.args.board.now.key ∙ sym c.requires.1) i, me.rests.acts i)) c.see_front.ensures.known

pub see_front-requires-room-S-Holding : goal.see_front-requires-room-S-Holding
see_front-requires-room-S-Holding g c κs = local_fits _ c.args.self.now.capacity

pub see_front-requires-room-S-Holding-2 : goal.see_front-requires-room-S-Holding-2
see_front-requires-room-S-Holding-2 g c κs = shared_fits _ c.args.self.now.levels
