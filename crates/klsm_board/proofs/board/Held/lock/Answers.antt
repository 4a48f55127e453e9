use Rattle.std.proofs.Common.{rules, ◌≡◌, ◌∙◌, Some, List, [], sym, ap, subst}
use Rattle.klsm_run.specs.declared.item.Item.{Item}
use Rattle.klsm_schedules.specs.declared.step.Entry.{Entry}
use Rattle.klsm_schedules.specs.OwnSteps.{Holds, found_in, hand_of}
use Rattle.klsm_schedules.proofs.lemmas.hands.HandLemmas.{found_first}
use Rattle.klsm_schedules.proofs.lemmas.hands.PartContentLemmas.{content_held}
use Rattle.klsm_board.specs.Boards.{held_content, held_steps}
use Rattle.klsm_board.specs.Rule.{world_limits}
use Rattle.klsm_board.proofs.board.Held.lock.Goals as goal

pub returns-clause-lock : goal.returns-clause-lock
returns-clause-lock g c = search rules

pub returns-clause-content : goal.returns-clause-content
returns-clause-content g c = λ w lawful same.
    let me = c.args.self.now in let t = me.number in let found : List Item = held_content me in
    let here : found_in (hand_of t (held_steps me)) me.lock ≡ Some found = ap (λ h. found_in h me.lock) me.holds.hand_is ∙ found_first [] me.lock found in
    content_held (world_limits me.sizes) w t me.lock found lawful.agreed me.holds.thread (subst (λ (es : List Entry). Holds (hand_of t es) me.lock found) (sym same) here)
