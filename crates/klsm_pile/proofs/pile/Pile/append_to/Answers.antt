use Rattle.std.proofs.Common.{◌≡◌, ◌+◌, ◌≤◌, ◌++◌, length, subst, vec_capacity}
use Rattle.std.specs.Prelude.{IsOk, OnOk, vec_len}
use Rattle.klsm_lsm.specs.Lsm.{content}
use Rattle.klsm_pile.specs.Piles.{PileState}
use Rattle.klsm_pile.proofs.pile.Pile.append_to.Goals as goal

pub returns-clause-items : goal.returns-clause-items
returns-clause-items g c =
    subst (λ (p : PileState). OnOk c.append_blocks.result (c.append_blocks.new.all.items ≡ c.args.all.now.items ++ content p.blocks)) c.self.view_is (rw c.as_slice.ensures.value at c.append_blocks.ensures.items)

pub returns-clause-succeeds : goal.returns-clause-succeeds
returns-clause-succeeds g c =
    subst (λ (p : PileState). vec_len c.args.all.now + length (content p.blocks) ≤ vec_capacity c.args.all.now → IsOk c.append_blocks.result) c.self.view_is (rw c.as_slice.ensures.value at c.append_blocks.ensures.succeeds)
