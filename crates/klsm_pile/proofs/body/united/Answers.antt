use Rattle.std.proofs.Common.{List, ap, subst}
use Rattle.klsm_run.specs.declared.item.Item.{Item}
use Rattle.klsm_run.specs.Content.{ShareNone}
use Rattle.klsm_pile.specs.Body.{body_items}
use Rattle.klsm_pile.proofs.body.united.Goals as goal

pub begin-requires-clause-apart : goal.begin-requires-clause-apart
begin-requires-clause-apart g c =
    subst (λ (ys : List Item). ShareNone c.in-One-One.left ys) (ap body_items c.in-One-One.is-1) (subst (λ (xs : List Item). ShareNone xs (body_items c.args.other)) (ap body_items c.in-One-One.is-0) c.requires.apart)
