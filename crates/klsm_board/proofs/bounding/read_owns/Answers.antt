use Rattle.std.proofs.Common.{rules, arith, ◌≡◌, ◌<◌, ◌++◌, refl, ◌∙◌}
use Rattle.klsm_board.specs.Bounding.{owns_in_hand, owns_items}
use Rattle.klsm_board.specs.Steps.{mine}
use Rattle.klsm_board.proofs.lemmas.calls.ReadingLemmas.{reading_all, reading_few, reading_more, reading_next, reading_none}
use Rattle.klsm_board.proofs.bounding.read_owns.Goals as goal

pub loop-done-init : goal.loop-done-init
loop-done-init g c = record {
  same = refl;
  others = refl;
  work = refl;
  reading = λ owns read many has is. reading_none g.S.Holding.content g.S.Holding.suits c.args.table.now.key c.args.thread c.args.threads owns read c.args.before c.args.seat.now.me many has is;
}

pub read_part-bound-requires-clause-seat : goal.read_part-bound-requires-clause-seat
read_part-bound-requires-clause-seat g c = let inv = c.loop-done.invariant in let seat = c.requires.seat in (inv.same ∙ seat.0, seat.1, seat.2)

pub read_part-bound-requires-clause-part : goal.read_part-bound-requires-clause-part
read_part-bound-requires-clause-part g c = omega (arith, c.requires.threads)

pub read_part-bound-requires-clause-has : goal.read_part-bound-requires-clause-has
read_part-bound-requires-clause-has g c =
    let content = g.S.Holding.content in let suits = g.S.Holding.suits in let m = c.args.table.now.key in let t = c.args.thread in
    let k = c.requires.has in let inv = c.loop-done.invariant in let less : c.loop-done.done < c.args.threads = search rules in
    let r = inv.reading k.0 k.1 k.2 k.3 k.4 in
    let next = reading_next content suits m t (mine c.args.seat.now.me.0) (k.1 ++ owns_items k.0) c.args.threads c.loop-done.done c.loop-done.bound c.loop-done.seat.me less r in (
      next.c,
      owns_in_hand next.cs,
      next.has,
      next.away,
      reading_few content suits m t (mine c.args.seat.now.me.0) (k.1 ++ owns_items k.0) c.args.threads c.loop-done.done c.loop-done.bound c.loop-done.seat.me less r k.5,
    )

pub loop-done-preserved : goal.loop-done-preserved
loop-done-preserved g c =
    let inv = c.loop-done.invariant in let less : c.loop-done.done < c.args.threads = search rules in
    record {
      same = c.read_part-bound.ensures.same ∙ inv.same;
      others = c.read_part-bound.ensures.others ∙ inv.others;
      work = c.read_part-bound.ensures.work ∙ inv.work;
      reading = λ owns read many has is.
          reading_more g.S.Holding.content g.S.Holding.suits c.args.table.now.key c.args.thread (mine c.args.seat.now.me.0) (read ++ owns_items owns) c.args.threads c.loop-done.done c.loop-done.bound c.read_part-bound.result c.loop-done.seat.me c.read_part-bound.new.seat.me less
          (inv.reading owns read many has is) c.read_part-bound.ensures.released c.read_part-bound.ensures.read c.read_part-bound.ensures.list;
    }

pub returns-clause-has : goal.returns-clause-has
returns-clause-has g c =
    let k = c.requires.has in let inv = c.loop-done.invariant in let ends : c.loop-done.done ≡ c.args.threads = search rules in
    (reading_all g.S.Holding.content g.S.Holding.suits c.args.table.now.key c.args.thread (mine c.args.seat.now.me.0) (k.1 ++ owns_items k.0) c.args.threads c.loop-done.done c.loop-done.bound c.loop-done.seat.me ends (inv.reading k.0 k.1 k.2 k.3 k.4)).0

pub returns-clause-list : goal.returns-clause-list
returns-clause-list g c =
    let k = c.requires.has in let inv = c.loop-done.invariant in let ends : c.loop-done.done ≡ c.args.threads = search rules in
    (reading_all g.S.Holding.content g.S.Holding.suits c.args.table.now.key c.args.thread (mine c.args.seat.now.me.0) (k.1 ++ owns_items k.0) c.args.threads c.loop-done.done c.loop-done.bound c.loop-done.seat.me ends (inv.reading k.0 k.1 k.2 k.3 k.4)).1

pub returns-clause-read : goal.returns-clause-read
returns-clause-read g c owns read many has is =
    let inv = c.loop-done.invariant in let ends : c.loop-done.done ≡ c.args.threads = search rules in
    (reading_all g.S.Holding.content g.S.Holding.suits c.args.table.now.key c.args.thread (mine c.args.seat.now.me.0) (read ++ owns_items owns) c.args.threads c.loop-done.done c.loop-done.bound c.loop-done.seat.me ends (inv.reading owns read many has is)).2

pub returns-clause-work : goal.returns-clause-work
returns-clause-work g c = let inv = c.loop-done.invariant in inv.work

pub returns-clause-others : goal.returns-clause-others
returns-clause-others g c = let inv = c.loop-done.invariant in inv.others
