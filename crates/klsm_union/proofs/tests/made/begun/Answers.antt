use Rattle.klsm_run.specs.Content.{ShareNone}
use Rattle.klsm_union.proofs.tests.made.begun.Goals as goal

pub begin-requires-clause-apart : goal.begin-requires-clause-apart
begin-requires-clause-apart g c =
    let apart : ShareNone c.in_ok-left.left c.in_ok-right.right = rw (c.as_slice.ensures.items, c.as_slice-2.ensures.items) at (c.share_none.ensures c.if-not-share_none.false) in
    apart
