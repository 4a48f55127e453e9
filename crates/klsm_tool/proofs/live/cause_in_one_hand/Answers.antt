use Rattle.std.proofs.Common.{rules, ◌∙◌, List, refl, sym, ap, subst}
use Rattle.klsm_run.specs.declared.limits.TheConstants.{PROGRAM_LEVELS, PROGRAM_K}
use Rattle.klsm_schedules.specs.declared.step.Entry.{Entry}
use Rattle.klsm_board.specs.declared.board.Member.{Member}
use Rattle.klsm_board.specs.Boards.{AreMembersOf}
use Rattle.klsm_board.specs.Finishing.{AreListsAtEnd}
use Rattle.klsm_board.proofs.lemmas.ending.MemberLemmas.{none_missing}
use Rattle.klsm_tool.specs.Crews.{lists_in}
use Rattle.klsm_board.proofs.lemmas.ending.MemberLemmas.{all_of_board, lists_in_order}
use Rattle.klsm_tool.proofs.live.cause_in_one_hand.Goals as goal

pub gather-requires : goal.gather-requires
gather-requires c =
    let crew : AreMembersOf c.args.board.now c.in-Ok.members.items = subst (λ (z : List (Member PROGRAM_K PROGRAM_LEVELS)). AreMembersOf c.args.board.now z) (sym c.in-Ok.ensures) c.requires.crew in
    let all = all_of_board c.args.board.now c.in-Ok.members.items crew in
    (search rules, (search rules, (search rules, (search rules, all))))

pub unreachable-requires : goal.unreachable-requires
unreachable-requires c =
    let crew : AreMembersOf c.args.board.now c.in-Ok.members.items = subst (λ (z : List (Member PROGRAM_K PROGRAM_LEVELS)). AreMembersOf c.args.board.now z) (sym c.in-Ok.ensures) c.requires.crew in
    let refused = c.in_default-gather.field-0 in
    none_missing c.args.board.now c.in-Ok.members.items crew refused.missing ((c.in_default-gather.ensures.missing refused.missing).0 refl)

pub unreachable-requires-in-Room : goal.unreachable-requires-in-Room
unreachable-requires-in-Room c =
    let board = c.args.board.now in let members = c.in-Ok.members.items in
    let crew : AreMembersOf board members = subst (λ (z : List (Member PROGRAM_K PROGRAM_LEVELS)). AreMembersOf board z) (sym c.in-Ok.ensures) c.requires.crew in
    let lists = c.in-Ok-gather.ensures.same.1 ∙ (sym (lists_in_order board members crew) ∙ ap (λ (z : List (Member PROGRAM_K PROGRAM_LEVELS)). lists_in z) c.in-Ok.ensures) in
    c.requires.room c.in-Room.is (subst (λ (z : List (List Entry)). AreListsAtEnd board.sizes z) lists c.in-Ok-gather.ensures.lists)
