use Rattle.std.proofs.Common.{rules, arith, ◌≡◌, ◌-◌, ◌<◌, ◌∷◌, refl, ◌∙◌}
use Rattle.klsm_board.specs.Bounding.{owns_in_hand}
use Rattle.klsm_board.specs.Steps.{mine}
use Rattle.klsm_board.proofs.lemmas.calls.ReadingLemmas.{releasing_all, releasing_more, releasing_next, releasing_none}
use Rattle.klsm_board.proofs.lemmas.seats.StandLemmas.{stands}
use Rattle.klsm_board.proofs.bounding.release_owns.Goals as goal

pub loop-done-init : goal.loop-done-init
loop-done-init g c =
    let k = c.requires.has in
    record {
      same = refl;
      others = refl;
      releasing = releasing_none g.S.Holding.content g.S.Holding.suits c.args.table.now.key c.args.thread c.args.count k.0 c.args.seat.now.me k.1 k.2;
    }

pub release_part-requires-clause-seat : goal.release_part-requires-clause-seat
release_part-requires-clause-seat g c = let inv = c.loop-done.invariant in let seat = c.requires.seat in (inv.same ∙ seat.0, seat.1, seat.2)

pub release_part-requires-clause-part : goal.release_part-requires-clause-part
release_part-requires-clause-part g c = omega (arith, c.requires.count)

pub release_part-requires-clause-has : goal.release_part-requires-clause-has
release_part-requires-clause-has g c =
    let inv = c.loop-done.invariant in let less : c.loop-done.done < c.args.count = search rules in
    let next = releasing_next g.S.Holding.content g.S.Holding.suits c.args.table.now.key c.args.thread (mine c.args.seat.now.me.0) c.args.count c.loop-done.done c.loop-done.seat.me less inv.releasing in
    (next.c, owns_in_hand next.cs, stands {hand = (c.args.count - c.loop-done.done, next.c) ∷ owns_in_hand next.cs} next.has, next.away)

pub loop-done-preserved : goal.loop-done-preserved
loop-done-preserved g c =
    let inv = c.loop-done.invariant in let less : c.loop-done.done < c.args.count = search rules in
    record {
      same = c.release_part.ensures.same.0 ∙ inv.same;
      others = c.release_part.ensures.others ∙ inv.others;
      releasing = releasing_more g.S.Holding.content g.S.Holding.suits c.args.table.now.key c.args.thread (mine c.args.seat.now.me.0) c.args.count c.loop-done.done c.loop-done.seat.me c.release_part.new.seat.me less inv.releasing
          c.release_part.ensures.released c.release_part.ensures.list;
    }

pub returns-clause-has : goal.returns-clause-has
returns-clause-has g c =
    let inv = c.loop-done.invariant in let ends : c.loop-done.done ≡ c.args.count = search rules in
    (releasing_all g.S.Holding.content g.S.Holding.suits c.args.table.now.key c.args.thread (mine c.args.seat.now.me.0) c.args.count c.loop-done.done c.loop-done.seat.me ends inv.releasing).0

pub returns-clause-list : goal.returns-clause-list
returns-clause-list g c =
    let inv = c.loop-done.invariant in let ends : c.loop-done.done ≡ c.args.count = search rules in
    (releasing_all g.S.Holding.content g.S.Holding.suits c.args.table.now.key c.args.thread (mine c.args.seat.now.me.0) c.args.count c.loop-done.done c.loop-done.seat.me ends inv.releasing).1

pub returns-clause-others : goal.returns-clause-others
returns-clause-others g c = let inv = c.loop-done.invariant in inv.others
