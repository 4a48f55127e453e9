use Rattle.std.proofs.Common.{rules, ◌∙◌, List, length, sym, ap, subst}
use Rattle.klsm_run.specs.declared.limits.TheConstants.{PROGRAM_LEVELS, PROGRAM_K}
use Rattle.klsm_schedules.specs.declared.step.Entry.{Entry}
use Rattle.klsm_schedules.specs.Account.{account}
use Rattle.klsm_board.specs.declared.board.Member.{Member}
use Rattle.klsm_board.specs.Boards.{AreMembersOf}
use Rattle.klsm_board.specs.Finishing.{AreListsAtEnd}
use Rattle.klsm_tool.specs.Crews.{lists_in}
use Rattle.klsm_board.proofs.lemmas.ending.MemberLemmas.{all_of_board, lists_in_order}
use Rattle.klsm_tool.proofs.live.finish.Goals as goal

pub finish-requires : goal.finish-requires
finish-requires c =
    let crew : AreMembersOf c.args.board c.in-Ok.members.items = subst (λ (z : List (Member PROGRAM_K PROGRAM_LEVELS)). AreMembersOf c.args.board z) (sym c.in-Ok.ensures) c.requires.crew in
    (search rules, (search rules, (search rules, all_of_board c.args.board c.in-Ok.members.items crew)))

pub returns-in-Ok-finish-clause-totals : goal.returns-in-Ok-finish-clause-totals
returns-in-Ok-finish-clause-totals c =
    let board = c.args.board in let members = c.in-Ok.members.items in
    let crew : AreMembersOf board members = subst (λ (z : List (Member PROGRAM_K PROGRAM_LEVELS)). AreMembersOf board z) (sym c.in-Ok.ensures) c.requires.crew in
    let lists = sym (lists_in_order board members crew) ∙ ap (λ (z : List (Member PROGRAM_K PROGRAM_LEVELS)). lists_in z) c.in-Ok.ensures in let ok = c.in-Ok-finish.ensures.ok in
    record {
      at_end = subst (λ (z : List (List Entry)). AreListsAtEnd board.sizes z) lists ok.1;
      inserted_is = ok.2 ∙ ap (λ (z : List (List Entry)). (account z).inserted) lists;
      deleted_is = ok.3 ∙ ap (λ (z : List (List Entry)). (account z).deleted) lists;
      left_is = c.len.ensures ∙ (c.in-Ok-finish.account.left.ok.0 ∙ ap length (ok.4 ∙ ap (λ (z : List (List Entry)). (account z).left) lists));
    }
