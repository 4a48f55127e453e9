use Rattle.std.proofs.Common.{[], ◌∷◌, ◌++◌, refl, ap, ◌∙◌, arith, length-append}
use Rattle.klsm_schedules.specs.declared.step.Entry.TheVariants.{Released}
use Rattle.klsm_board.specs.Steps.{mine, rest_of}
use Rattle.klsm_board.proofs.lemmas.calls.ReadingLemmas.{first_is_least}
use Rattle.klsm_board.proofs.lemmas.hands.CommitLemmas.{has_still}
use Rattle.klsm_board.proofs.lemmas.seats.StandLemmas.{stands}
use Rattle.klsm_board.proofs.bounding.read_part.Goals as goal

pub look-len-requires-clause-carries : goal.look-len-requires-clause-carries
look-len-requires-clause-carries g c = let k = c.requires.has in (k.0, k.1, k.2.carries)

pub release_part-requires-clause-has : goal.release_part-requires-clause-has
release_part-requires-clause-has g c =
    let content = g.S.Holding.content in let suits = g.S.Holding.suits in let m = c.args.table.now.key in let t = c.args.thread in
    let k = c.requires.has in let looked = c.look-len.ensures.looked k.0 k.1 k.2.carries in
    let has = has_still content suits m t ((c.args.part, k.0) ∷ k.1) c.args.seat.now.me c.look-len.new.seat.me k.2 c.look-len.ensures.same.1 looked.0 in
    (k.0, k.1, stands has, k.3)

pub overflow_add-items : goal.overflow_add-items
overflow_add-items g c =
    let k = c.requires.has in let looked = c.look-len.ensures.looked k.0 k.1 k.2.carries in
    omega (arith, looked.1, k.4)

pub returns-clause-same : goal.returns-clause-same
returns-clause-same g c = c.release_part.ensures.same.0 ∙ c.look-len.ensures.same.0

pub returns-clause-others : goal.returns-clause-others
returns-clause-others g c = c.release_part.ensures.others ∙ ap rest_of c.look-len.ensures.same.1

pub returns-clause-list : goal.returns-clause-list
returns-clause-list g c = c.release_part.ensures.list ∙ ap (λ v. mine v ++ Released c.args.part ∷ []) c.look-len.ensures.same.1

pub returns-clause-released : goal.returns-clause-released
returns-clause-released g c found hand has away =
    let content = g.S.Holding.content in let suits = g.S.Holding.suits in let m = c.args.table.now.key in let t = c.args.thread in
    let looked = c.look-len.ensures.looked found hand has.carries in
    let kept = has_still content suits m t ((c.args.part, found) ∷ hand) c.args.seat.now.me c.look-len.new.seat.me has c.look-len.ensures.same.1 looked.0 in
    c.release_part.ensures.released found hand (stands kept) away

pub returns-clause-read : goal.returns-clause-read
returns-clause-read g c found hand read has bounds =
    let looked = c.look-len.ensures.looked found hand has.carries in
    let counted = bounds.counted in let both = length-append read found in
    record {
      least = c.least_read-queue.ensures read found bounds.least (first_is_least c.look-len.result.1 found looked.2 looked.3);
      counted = omega (arith, counted, both, looked.1);
    }

pub returns-clause-work : goal.returns-clause-work
returns-clause-work g c = refl
