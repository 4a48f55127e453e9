use Rattle.std.proofs.Common.{rules, arith, ◌≡◌, ◌+◌, ◌<◌, refl, ◌∙◌}
use Rattle.klsm_board.specs.Steps.{mine}
use Rattle.klsm_board.proofs.lemmas.calls.SeenLemmas.{seeing_more, seeing_none}
use Rattle.klsm_board.proofs.lemmas.seats.StandLemmas.{stands}
use Rattle.klsm_board.proofs.bounding.see_all_work.Goals as goal

pub loop-other-init : goal.loop-other-init
loop-other-init g c = record {
  same = refl;
  others = refl;
  has = λ hand has. has;
  seeing = seeing_none c.args.seat.now.me;
}

pub see_work-key-requires-clause-seat : goal.see_work-key-requires-clause-seat
see_work-key-requires-clause-seat g c = let inv = c.loop-other.invariant in let seat = c.requires.seat in (inv.same ∙ seat.0, seat.1, seat.2)

pub see_work-key-requires-clause-other : goal.see_work-key-requires-clause-other
see_work-key-requires-clause-other g c =
    let less : c.loop-other.other < c.args.threads = search rules in omega (arith, less, c.requires.threads)

pub see_work-key-requires-clause-has : goal.see_work-key-requires-clause-has
see_work-key-requires-clause-has g c =
    let k = c.requires.has in let inv = c.loop-other.invariant in
    let less : c.loop-other.other < c.args.threads = search rules in
    (k.0, stands (inv.has k.0 k.1), k.2 (c.loop-other.other + 1) (omega (arith, less)))

pub loop-other-preserved : goal.loop-other-preserved
loop-other-preserved g c =
    let inv = c.loop-other.invariant in let told = c.see_work-key.ensures in
    record {
      same = told.same.0 ∙ inv.same;
      others = told.others ∙ inv.others;
      has = λ hand has. told.still hand (stands (inv.has hand has));
      seeing = seeing_more (mine c.args.seat.now.me.0) c.loop-other.other c.see_work-key.result c.loop-other.least c.min-least.result c.loop-other.seat.me c.see_work-key.new.seat.me inv.seeing c.min-least.ensures told.list;
    }

pub returns-clause-has : goal.returns-clause-has
returns-clause-has g c hand has = let inv = c.loop-other.invariant in inv.has hand has

pub returns-clause-others : goal.returns-clause-others
returns-clause-others g c = let inv = c.loop-other.invariant in inv.others

pub returns-clause-seen : goal.returns-clause-seen
returns-clause-seen g c =
    let inv = c.loop-other.invariant in let seen = inv.seeing in let ends : c.loop-other.other ≡ c.args.threads = search rules in
    (seen.keys, seen.many ∙ ends, seen.least_is, seen.list)
