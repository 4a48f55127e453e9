use Rattle.std.proofs.Common.{rules, ◌<◌, length, slice_index_or, refl}
use Rattle.klsm_board.proofs.lemmas.table.MakeLemmas.{found_at}
use Rattle.klsm_c.proofs.KeptLemmas.{kept_by_look, members_kept}
use Rattle.klsm_c.proofs.SlotLemmas.{held}
use Rattle.klsm_c.proofs.queue.Queue.front.Goals as goal

pub invariant_of-self : goal.invariant_of-self
invariant_of-self c =
    let slots = c.args.self.now.slots in let n = c.args.number in let d = c.index-self-number.result in let there : n < length slots = search rules in
    let before = slice_index_or slots n d in let after = c.klsm_front.new.slot in
    record { whole = members_kept slots n before after (found_at slots n d there) (kept_by_look (held before) (held after) c.klsm_front.result c.klsm_front.ensures) c.args.self.now.whole }

pub returns : goal.returns
returns c =
    let slots = c.args.self.now.slots in let n = c.args.number in let d = c.index-self-number.result in let there : n < length slots = search rules in
    (slice_index_or slots n d, c.klsm_front.new.slot, found_at slots n d there, refl, c.klsm_front.ensures)
