use Rattle.std.proofs.Common.{rules, ◌≤◌, ◌+◌, length, vec_capacity, ap, sym, subst, ◌∙◌}
use Rattle.std.specs.List.{flat_map}
use Rattle.klsm_run.specs.declared.limits.TheConstants.{MOST_K, MOST_LEVELS}
use Rattle.klsm_schedules.specs.Account.{account}
use Rattle.klsm_schedules.specs.OwnSteps.{deleted, inserted}
use Rattle.klsm_board.specs.declared.board.Board.{Board}
use Rattle.klsm_board.specs.Finishing.{AreEachOnce, AreListsAtEnd}
use Rattle.klsm_c.specs.Closing.{HasOneOf}
use Rattle.klsm_c.specs.Items.{IsCopied}
use Rattle.klsm_c.proofs.BoardLemmas.{all_of_board, all_there, lists_are, sizes_are}
use Rattle.klsm_c.proofs.closing.finish.Goals as goal

pub finish_into-requires : goal.finish_into-requires
finish_into-requires c =
    let members = c.args.members.items in let board = c.in_ok-board.board in
    let one = subst (λ (b : Board MOST_K MOST_LEVELS). HasOneOf b members) (sym c.in_ok-board.ensures) c.requires.one in
    let lists = lists_are board members c.requires.whole one in (
      search rules,
      (
        search rules,
        (
          search rules,
          (
            all_of_board board members c.requires.whole one,
            (
              c.requires.empty,
              subst (λ ls. length (flat_map inserted ls) ≤ length (flat_map deleted ls) + vec_capacity c.args.items) (sym lists) c.requires.room,
            ),
          ),
        ),
      ),
    )

pub unreachable-requires : goal.unreachable-requires
unreachable-requires c =
    let members = c.args.members.items in let board = c.in_ok-board.board in
    let one = subst (λ (b : Board MOST_K MOST_LEVELS). HasOneOf b members) (sym c.in_ok-board.ensures) c.requires.one in
    let missing = c.in_default.ensures.missing in
    missing.2.1 (all_there board members c.requires.whole one missing.0 missing.2.0)

pub returns-clause-some : goal.returns-clause-some
returns-clause-some c =
    let members = c.args.members.items in let board = c.in_ok-board.board in
    let one = subst (λ (b : Board MOST_K MOST_LEVELS). HasOneOf b members) (sym c.in_ok-board.ensures) c.requires.one in
    let lists = lists_are board members c.requires.whole one in
    let told = c.in-Ok.ensures.ok in
    let left = told.4 ∙ ap (λ ls. (account ls).left) lists in
    record {
      sizes = board.sizes;
      sizes_are = sizes_are board members c.requires.whole one;
      at_end = subst (AreListsAtEnd board.sizes) lists told.1;
      each_once = subst AreEachOnce lists c.in-Ok.ensures.each_once;
      inserted_is = told.2 ∙ ap (λ ls. (account ls).inserted) lists;
      deleted_is = told.3 ∙ ap (λ ls. (account ls).deleted) lists;
      left_is = search rules;
      copied = subst (λ items. IsCopied items c.args.left.now c.copy_items.new.room) (c.as_slice.ensures.value ∙ left) c.copy_items.ensures;
    }
