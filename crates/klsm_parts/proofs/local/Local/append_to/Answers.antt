use Rattle.std.proofs.Common.{◌≡◌, ◌≤◌, ◌+◌, ◌++◌, length, subst, vec_len, vec_capacity, IsOk, OnOk}
use Rattle.klsm_lsm.specs.Lsm.{content}
use Rattle.klsm_parts.specs.Parts.{PartState}
use Rattle.klsm_parts.proofs.FitLemmas.{run_fits, own_lsm_fits}
use Rattle.klsm_parts.proofs.local.Local.append_to.Goals as goal

pub append_blocks-requires-room-R-Run : goal.append_blocks-requires-room-R-Run
append_blocks-requires-room-R-Run g c κs within = search run_fits

pub returns-clause-items : goal.returns-clause-items
returns-clause-items g c = subst (λ (s : PartState). OnOk c.append_blocks.result (c.append_blocks.new.all.items ≡ c.args.all.now.items ++ content s.blocks)) c.self.view_is c.append_blocks.ensures.items

pub returns-clause-capacity : goal.returns-clause-capacity
returns-clause-capacity g c = c.append_blocks.ensures.capacity

pub returns-clause-succeeds : goal.returns-clause-succeeds
returns-clause-succeeds g c = subst (λ (s : PartState). vec_len c.args.all.now + length (content s.blocks) ≤ vec_capacity c.args.all.now → IsOk c.append_blocks.result) c.self.view_is c.append_blocks.ensures.succeeds

pub append_blocks-requires : goal.append_blocks-requires
append_blocks-requires g c = own_lsm_fits _ c.self.invariant.capacity_in_range
