use Rattle.std.proofs.Common.{◌≡◌, ◌+◌, ◌-◌, ◌∙◌, ap, drop, length, arith}
use Rattle.klsm_run.specs.Stores.{HeapState}
use Rattle.klsm_union.proofs.UnionLemmas.{union_start, union_within}
use Rattle.klsm_union.proofs.union.Union.collect.Goals as goal

pub overflow_sub-start : goal.overflow_sub-start
overflow_sub-start g c =
    let is = ap (λ (s : HeapState). s.items) c.deref.ensures ∙ c.in-Some.ensures.value in
    omega (arith, union_within c.self.inside.left c.self.inside.right _ c.deref.result.now.items c.self.invariant is, c.len.ensures.len, c.len-2.ensures.len, c.len-3.ensures.len)

pub returns-clause-items : goal.returns-clause-items
returns-clause-items g c =
    let stored = c.in-Some.run'.value.items in
    let place : c.len.result - (c.len-2.result + c.len-3.result) ≡ length stored - (length c.self.inside.left + length c.self.inside.right) =
    omega (arith, c.len.ensures.len, ap (λ (s : HeapState). length s.items) c.deref.ensures, c.len-2.ensures.len, c.len-3.ensures.len) in
    c.starting_at.ensures
    ∙ (ap (λ n. drop n stored) place
    ∙ (union_start c.self.inside.left c.self.inside.right _ stored c.self.invariant c.in-Some.ensures.value ∙ c.self.view_is))
