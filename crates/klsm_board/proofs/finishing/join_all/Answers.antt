use Rattle.std.proofs.Common.{List, [], ◌∷◌, length, sym, ap, subst, ◌∙◌, append-nil, arith}
use Rattle.std.proofs.lemmas.List.{length-append, nil_from_length}
use Rattle.klsm_parts.proofs.FitLemmas.{local_fits, shared_fits}
use Rattle.klsm_board.specs.declared.board.Member.{Member}
use Rattle.klsm_board.specs.Slots.{slot_content, IsSlotOf}
use Rattle.klsm_board.proofs.lemmas.table.OpeningLemmas.{gathers}
use Rattle.klsm_board.proofs.lemmas.ending.JoinLemmas.{AreJoined, join_last, joins_one, joined_all, last_of_whole}
use Rattle.klsm_board.proofs.finishing.join_all.Goals as goal

pub loop-member-init : goal.loop-member-init
loop-member-init g c =
    let whole = c.args.members.now.items in let left = c.pop.new.self.items in let member = c.in-Some.field-0 in (
      c.requires.of (length left) member (last_of_whole whole whole left member [] (sym (append-nil whole)) c.in-Some.ensures.items),
      member.rests.carries_none,
      c.pop.ensures.capacity,
      joins_one whole left member member.seat.me.0 c.in-Some.ensures.items member.rests.acts,
    )

pub join_seat-requires : goal.join_seat-requires
join_seat-requires g c =
    let whole = c.args.members.now.items in let left = c.loop-member.members.items in let next = c.pop-in-loop-member.new.self.items in let member = c.in-Some-pop.member in
    let joined = c.loop-member.invariant.3 in let seat = c.loop-member.seat in (
      c.loop-member.invariant.0,
      c.requires.of (length next) member (last_of_whole whole left next member joined.gone joined.whole_is c.in-Some-pop.ensures.items),
      member.rests.carries_none,
      c.requires.words,
      gathers slot_content IsSlotOf c.args.table.now.key seat.id seat.me.0 member.seat.id member.seat.me.0,
    )

pub loop-member-preserved : goal.loop-member-preserved
loop-member-preserved g c =
    let whole = c.args.members.now.items in let left = c.loop-member.members.items in let next = c.pop-in-loop-member.new.self.items in let member = c.in-Some-pop.member in
    let seat = c.loop-member.seat in let outcome = c.join_seat.ensures in (
      outcome.0 ∙ c.loop-member.invariant.0,
      ap (λ z. z.1) outcome.2 ∙ c.loop-member.invariant.1,
      c.pop-in-loop-member.ensures.capacity ∙ c.loop-member.invariant.2,
      subst (AreJoined whole next) (sym (ap (λ z. z.0) outcome.2)) (join_last whole left next member seat.me.0 member.seat.me.0 c.loop-member.invariant.3 c.in-Some-pop.ensures.items member.rests.acts),
    )

pub returns-clause-knows : goal.returns-clause-knows
returns-clause-knows g c =
    let left = c.loop-member.members in
    joined_all c.args.members.now.items left.items c.loop-member.seat.me.0 c.loop-member.invariant.3
    (nil_from_length left.items (sym left.ok.0 ∙ c.in_default-pop.ensures.cases.0))

pub join_seat-requires-room-P-TableRule : goal.join_seat-requires-room-P-TableRule
join_seat-requires-room-P-TableRule g c κs = local_fits _ c.in-Some-pop.member.capacity

pub join_seat-requires-room-P-TableRule-2 : goal.join_seat-requires-room-P-TableRule-2
join_seat-requires-room-P-TableRule-2 g c κs = shared_fits _ c.in-Some-pop.member.levels

pub returns-clause-empty : goal.returns-clause-empty
returns-clause-empty g c = let left = c.loop-member.members in nil_from_length c.pop-in-loop-member.new.self.items (sym c.pop-in-loop-member.new.self.ok.0 ∙ c.in_default-pop.ensures.cases.1)

pub returns-clause-room : goal.returns-clause-room
returns-clause-room g c = c.pop-in-loop-member.ensures.capacity ∙ c.loop-member.invariant.2

pub returns-clause-table : goal.returns-clause-table
returns-clause-table g c = c.loop-member.invariant.0

pub returns-clause-none : goal.returns-clause-none
returns-clause-none g c = c.loop-member.invariant.1

pub unreachable-requires : goal.unreachable-requires
unreachable-requires g c = omega (arith, c.requires.some, c.args.members.now.ok.0, c.in_default.ensures.cases.0)

pub loop-member-smaller : goal.loop-member-smaller
loop-member-smaller g c =
    let more = ap (λ (z : List (Member g.row.CAP g.row.LEVELS)). length z) c.in-Some-pop.ensures.items ∙ length-append c.pop-in-loop-member.new.self.items (c.in-Some-pop.member ∷ []) in
    omega (arith, more)

pub unreachable-unreachable : goal.unreachable-unreachable
unreachable-unreachable g c = c.unreachable.type_inv
