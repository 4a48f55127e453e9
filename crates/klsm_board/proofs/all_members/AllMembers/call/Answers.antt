use Rattle.std.proofs.Common.{◌≡◌, ◌<◌, ◌≤◌, ℕ, List, length, slice_index_or, sym, ap, subst, ◌∙◌, arith}
use Rattle.klsm_run.specs.declared.limits.TheConstants.{MOST_THREADS}
use Rattle.klsm_board.specs.declared.rule.Own.{Own}
use Rattle.klsm_board.specs.declared.rule.View.{View}
use Rattle.klsm_board.specs.declared.sizes.Sizes.{Sizes}
use Rattle.klsm_board.specs.Knowing.{IsAtRest, IsWhole}
use Rattle.klsm_board.specs.Turning.{steps_known}
use Rattle.klsm_board.proofs.lemmas.ending.WholeLemmas.{all_rest, rests_as, whole_at_turn}
use Rattle.klsm_board.proofs.lemmas.table.KnownLemmas.{same_turned}
use Rattle.klsm_board.proofs.all_members.AllMembers.call.Goals as goal

pub invariant_of-self : goal.invariant_of-self
invariant_of-self g c =
    let all = c.args.self.now in let me = all.acting in let n = c.args.number in let lists = me.seat.me.0.lists in let noted = c.note.ensures in let outcome = c.hand_on.ensures in
    let inside : length all.tally.inserted ≡ MOST_THREADS = all.tally.sized.0 in let inside' : length all.tally.deleted ≡ MOST_THREADS = all.tally.sized.1 in
    let thread : me.number < me.sizes.threads = me.rests.thread in let few : me.sizes.threads ≤ MOST_THREADS = me.in_range.threads in let whole = all.whole in
    let rests = all_rest me.sizes me.number me.inserted me.deleted lists all.tally.inserted all.tally.deleted (omega (arith, inside, thread, few)) (omega (arith, inside', thread, few)) whole (rests_as me.sizes me.number me.inserted me.deleted me.seat.me me.rests) in
    let ins = c.note.new.self.inserted in let dels = c.note.new.self.deleted in
    let now : (u : ℕ) → u < me.sizes.threads → IsAtRest me.sizes u (steps_known lists u) (slice_index_or ins u 0) (slice_index_or dels u 0) = (λ u below.
    subst (λ (z : List ℕ × List ℕ). IsAtRest me.sizes u (steps_known lists u) (slice_index_or z.0 u 0) (slice_index_or z.1 u 0)) (λ i. (sym noted.inserted i, sym noted.deleted i)) (rests u below)) in
    let sizes : me.sizes ≡ c.hand_on.new.acting.sizes = c.requires.of.1 ∙ sym outcome.of.1 in
    record {
      whole = subst (λ (z : Sizes × ℕ × List Own). IsWhole z.0 z.1 z.2 ins dels) (λ i. (sizes i, sym outcome.turn i, ap (λ (v : View). v.lists) (sym outcome.lists) i))
          (whole_at_turn me.sizes n lists ins dels (whole.has n c.requires.number) whole.has now);
      empty = all.empty;
      roomy = let threads = ap (λ (z : Sizes). z.threads) sizes in omega (arith, threads, all.roomy);
    }

pub returns-clause-lists : goal.returns-clause-lists
returns-clause-lists g c u =
    let all = c.args.self.now in let whole = all.whole in
    ap (λ (v : View). steps_known v.lists u) c.hand_on.ensures.lists ∙ same_turned c.args.number all.acting.seat.me.0.lists (whole.has c.args.number c.requires.number) u
