use Rattle.std.proofs.Common.{length, sym, ap, ◌∙◌, arith}
use Rattle.klsm_schedules.specs.OwnSteps.{inserted, deleted}
use Rattle.klsm_board.proofs.lemmas.ending.NumberLemmas.{first_of_number, item_at, none_more, none_numbered}
use Rattle.klsm_board.proofs.finishing.counts_of.Goals as goal

pub returns-then-member-number-clause-found : goal.returns-then-member-number-clause-found
returns-then-member-number-clause-found g c =
    let member = c.member-item.result in let at = item_at c.args.members.now c.loop-member.member-index member c.loop-member-test.true c.member-item.is in
    let rests = member.rests in let range = member.in_range in
    let steps = first_of_number c.args.members.now c.args.number c.loop-member.member-index member at c.if-member-number.true c.loop-member.invariant in (
      (c.loop-member.member-index, member, at, c.if-member-number.true),
      sym (ap (λ es. length (inserted es)) steps ∙ rests.insertions_are),
      sym (ap (λ es. length (deleted es)) steps ∙ rests.deletions_are),
      omega (arith, rests.within, range.quota),
      rests.few,
    )

pub loop-member-preserved : goal.loop-member-preserved
loop-member-preserved g c = none_more c.args.members.now c.args.number c.loop-member.member-index c.member-item.result
    (item_at c.args.members.now c.loop-member.member-index c.member-item.result c.loop-member-test.true c.member-item.is) c.if-member-number.false c.loop-member.invariant

pub returns-clause-none : goal.returns-clause-none
returns-clause-none g c = λ none. none_numbered c.args.members.now c.args.number c.loop-member.member-index (omega (arith, c.loop-member-test.false)) c.loop-member.invariant
