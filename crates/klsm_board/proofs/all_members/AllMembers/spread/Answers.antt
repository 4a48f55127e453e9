use Rattle.std.proofs.Common.{arith, ◌≡◌, ◌≤◌, ◌<◌, ◌+◌, ℕ, List, [], ◌∷◌, ◌++◌, length, slice_index_or, refl, sym, ap, subst, ◌∙◌, length-append}
use Rattle.klsm_run.specs.declared.limits.TheConstants.{MOST_THREADS}
use lib.ListN.{get_elem?}
use Rattle.klsm_parts.proofs.FitLemmas.{local_fits, shared_fits}
use Rattle.klsm_schedules.specs.declared.step.Entry.{Entry}
use Rattle.klsm_board.specs.declared.board.Member.{Member}
use Rattle.klsm_board.specs.declared.sizes.Sizes.{Sizes}
use Rattle.klsm_board.specs.Boards.{IsOf, own_steps}
use Rattle.klsm_board.specs.Knowing.{IsAtRest}
use Rattle.klsm_board.specs.Turning.{HasList, steps_known}
use Rattle.klsm_board.proofs.lemmas.table.KnownLemmas.{behind_known, has_behind}
use Rattle.klsm_board.proofs.lemmas.table.MakeLemmas.{at_new_end, found_at, none_at_start}
use Rattle.klsm_board.proofs.lemmas.ending.WholeLemmas.{all_rest, rests_as}
use Rattle.klsm_board.proofs.all_members.AllMembers.spread.Goals as goal

pub loop-number-init : goal.loop-number-init
loop-number-init g c =
    let all = c.args.self in let me = all.acting in let whole = all.whole in let noted = c.note.ensures in let empty = all.empty in
    let inside : length all.tally.inserted ≡ MOST_THREADS = all.tally.sized.0 in let inside' : length all.tally.deleted ≡ MOST_THREADS = all.tally.sized.1 in
    let thread : me.number < me.sizes.threads = me.rests.thread in let few : me.sizes.threads ≤ MOST_THREADS = me.in_range.threads in
    let rests = all_rest me.sizes me.number me.inserted me.deleted me.seat.me.0.lists all.tally.inserted all.tally.deleted (omega (arith, inside, thread, few)) (omega (arith, inside', thread, few)) whole (rests_as me.sizes me.number me.inserted me.deleted me.seat.me me.rests) in
    record {
      of_table = c.requires.of.0;
      none = me.rests.carries_none;
      has = λ t above below. whole.has t below;
      same = λ t above below. refl;
      rests = λ t below. subst (λ (z : Sizes × List ℕ × List ℕ). IsAtRest z.0 t (steps_known me.seat.me.0.lists t) (slice_index_or z.1 t 0) (slice_index_or z.2 t 0)) (λ i. (c.requires.of.1 i, sym noted.inserted i, sym noted.deleted i)) (rests t below);
      room = all.roomy;
      count = ap (λ (z : List (Member g.row.CAP g.row.LEVELS)). length z) empty;
      members = λ i member at. absurd (none_at_start all.room.items empty i member at);
    }

pub member_of-member-requires : goal.member_of-member-requires
member_of-member-requires g c =
    let inv = c.loop-number.invariant in let n = c.loop-number.number in let me = c.args.self.acting in let test : n < me.sizes.threads = c.loop-number-test.true in
    let at : n ≤ n = omega arith in
    let rest = subst (λ (es : List Entry). IsAtRest c.args.board.now.sizes n es (slice_index_or c.note.new.self.inserted n 0) (slice_index_or c.note.new.self.deleted n 0)) (sym (inv.same n at test)) (inv.rests n test) in
    (search, (local_fits _ me.capacity, (shared_fits _ me.levels, (search, (inv.of_table, (omega (arith, test, ap (λ (z : Sizes). z.threads) c.requires.of.1), (inv.none, (inv.has n at test, rest))))))))

pub loop-number-preserved : goal.loop-number-preserved
loop-number-preserved g c =
    let inv = c.loop-number.invariant in let n = c.loop-number.number in let me = c.args.self.acting in let lists = c.loop-number.seat.me.0.lists in let test : n < me.sizes.threads = c.loop-number-test.true in
    let member = c.member_of-member.result in let outcome = c.member_of-member.ensures in let pushed = c.in-Ok.ensures in let at : n ≤ n = omega arith in
    let items : c.push.new.self.items ≡ c.loop-number.members.items ++ member ∷ [] = pushed.items in
    record {
      of_table = outcome.table ∙ inv.of_table;
      none = ap (λ z. z.1) outcome.left;
      has = λ t above below. subst (λ z. HasList z.0.lists t) (sym outcome.left) (has_behind n t lists (inv.has n at test) (λ same. omega (arith, same, above)) (inv.has t (omega (arith, above)) below));
      same = λ t above below. ap (λ z. steps_known z.0.lists t) outcome.left ∙ (behind_known n t lists (λ same. omega (arith, same, above)) ∙ inv.same t (omega (arith, above)) below);
      rests = inv.rests;
      room = omega (arith, pushed.capacity, inv.room);
      count = ap (λ (z : List (Member g.row.CAP g.row.LEVELS)). length z) items ∙ (length-append c.loop-number.members.items (member ∷ []) ∙ ap (λ z. z + 1) inv.count);
      members = λ i one there. at_new_end c.loop-number.members.items member n inv.count (λ j z. (z.number ≡ j) × IsOf z c.args.board.now × (own_steps z ≡ steps_known me.seat.me.0.lists j)) inv.members
          (outcome.member.0, outcome.member.1, outcome.member.2 ∙ inv.same n at test) i one (ap (λ (z : List (Member g.row.CAP g.row.LEVELS)). get_elem? z i) (sym items) ∙ there);
    }

pub returns-clause-of : goal.returns-clause-of
returns-clause-of g c k d h =
    let members = c.loop-number.members.items in
    (c.loop-number.invariant.members k (slice_index_or members k d) (found_at members k d h)).1

pub returns-clause-crew : goal.returns-clause-crew
returns-clause-crew g c =
    let inv = c.loop-number.invariant in let sizes : c.args.self.acting.sizes.threads ≡ c.args.board.now.sizes.threads = ap (λ (z : Sizes). z.threads) c.requires.of.1 in
    record {
      of = λ i member at. (inv.members i member at).1;
      many = omega (arith, inv.count, sizes, c.loop-number-test.false, c.loop-number.auto.number-end);
      numbered = λ i member at. (inv.members i member at).0;
    }

pub returns-clause-steps : goal.returns-clause-steps
returns-clause-steps g c i member at = (c.loop-number.invariant.members i member at).2
