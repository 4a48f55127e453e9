use Rattle.std.proofs.Common.{rules, ◌<◌, length, slice_index_or, refl, sym, subst, w32}
use Rattle.std.proofs.lemmas.Int.{to_z-of_z}
use Rattle.klsm_board.proofs.lemmas.table.MakeLemmas.{found_at}
use Rattle.klsm_c.specs.Calls.{RestsBySlot}
use Rattle.klsm_c.proofs.KeptLemmas.{kept_by_rest, members_kept}
use Rattle.klsm_c.proofs.SlotLemmas.{held}
use Rattle.klsm_c.proofs.queue.Queue.try_rest.Goals as goal

pub invariant_of-self : goal.invariant_of-self
invariant_of-self c =
    let slots = c.args.self.now.slots in let n = c.args.number in let d = c.index-self-number.result in let there : n < length slots = search rules in
    let before = slice_index_or slots n d in let after = c.klsm_try_rest.new.slot in
    record { whole = members_kept slots n before after (found_at slots n d there) (kept_by_rest (held before) (held after) _ c.klsm_try_rest.ensures) c.args.self.now.whole }

pub returns : goal.returns
returns c =
    let slots = c.args.self.now.slots in let n = c.args.number in let d = c.index-self-number.result in let there : n < length slots = search rules in
    let before = slice_index_or slots n d in let after = c.klsm_try_rest.new.slot in
    let code = to_z-of_z w32 c.klsm_try_rest.result (search rules) in
    (before, after, found_at slots n d there, refl, subst (λ code. RestsBySlot (held before) (held after) code) (sym code) c.klsm_try_rest.ensures)
