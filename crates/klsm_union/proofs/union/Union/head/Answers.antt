use Rattle.std.proofs.Common.{◌∙◌, ◌≡◌, sym, subst, true, false}
use Rattle.klsm_run.specs.Content.{IsAscending}
use Rattle.klsm_run.proofs.ApartLemmas.{ascending_sorted, apart_if_sharing_none}
use Rattle.klsm_union.specs.Heads.{precedes, IsHead}
use Rattle.klsm_union.proofs.HeadLemmas.{head_first, head_second}
use Rattle.klsm_union.proofs.union.Union.head.Goals as goal

pub returns-then-precedes-clause-head : goal.returns-then-precedes-clause-head
returns-then-precedes-clause-head g c =
    let first : precedes c.self.inside.left c.self.inside.right ≡ true = rw (c.as_slice.ensures.items, c.as_slice-2.ensures.items) at (sym c.precedes.ensures ∙ c.if-precedes.true) in
    rw (c.as_slice-then-precedes.ensures.items, c.first.ensures.first)
    (subst (IsHead _ _) c.self.view_is (head_first c.self.inside.left c.self.inside.right c.as_slice.ensures.ascending c.as_slice-2.ensures.ascending c.self.invariant.apart first))

pub returns-then-precedes-clause-ascending : goal.returns-then-precedes-clause-ascending
returns-then-precedes-clause-ascending g c = (
  rw c.as_slice-then-precedes.ensures.items c.as_slice.ensures.ascending,
  subst IsAscending c.self.view_is (ascending_sorted c.self.inside.left c.self.inside.right c.as_slice.ensures.ascending c.as_slice-2.ensures.ascending (apart_if_sharing_none _ _ c.self.invariant.apart)),
)

pub returns-else-precedes-clause-head : goal.returns-else-precedes-clause-head
returns-else-precedes-clause-head g c =
    let second : precedes c.self.inside.left c.self.inside.right ≡ false = rw (c.as_slice.ensures.items, c.as_slice-2.ensures.items) at (sym c.precedes.ensures ∙ c.if-precedes.false) in
    rw (c.as_slice-else-precedes.ensures.items, c.first-else-precedes.ensures.first)
    (subst (IsHead _ _) c.self.view_is (head_second c.self.inside.left c.self.inside.right c.as_slice.ensures.ascending c.as_slice-2.ensures.ascending c.self.invariant.apart second))

pub returns-else-precedes-clause-ascending : goal.returns-else-precedes-clause-ascending
returns-else-precedes-clause-ascending g c = (
  rw c.as_slice-else-precedes.ensures.items c.as_slice-2.ensures.ascending,
  subst IsAscending c.self.view_is (ascending_sorted c.self.inside.left c.self.inside.right c.as_slice.ensures.ascending c.as_slice-2.ensures.ascending (apart_if_sharing_none _ _ c.self.invariant.apart)),
)
