use Rattle.std.proofs.Common.{map, ap, sym, subst, ◌∙◌, List}
use Rattle.std.specs.Arc.{arc_value}
use Rattle.klsm_run.specs.declared.limits.TheConstants.{MOST_K, MOST_LEVELS}
use Rattle.klsm_board.specs.declared.board.Board.{Board}
use Rattle.klsm_board.specs.declared.board.Member.{Member}
use Rattle.klsm_board.specs.Boards.{AreNewMembersOf}
use Rattle.klsm_owned.proofs.OwnedLemmas.{new_are_all}
use Rattle.klsm_owned.proofs.opening.open_board.Goals as goal

pub returns-clause-new : goal.returns-clause-new
returns-clause-new c =
    let board = arc_value c.in-Ok.board in
    record {
      board = board;
      sizes = ap (λ (b : Board MOST_K MOST_LEVELS). b.sizes) c.in-Ok.ensures.ok ∙ c.in_ok-board.ensures.sizes;
      members = subst (λ (ms : List (Member MOST_K MOST_LEVELS)). AreNewMembersOf board ms) (sym c.in-Ok-box_members.ensures.members)
          (subst (λ (b : Board MOST_K MOST_LEVELS). AreNewMembersOf b c.in_ok-board.members.items) (sym c.in-Ok.ensures.ok) c.in_ok-board.ensures.crew);
      pickers = c.in-Ok-box_members.ensures.pickers;
      balancings = c.in-Ok-box_members.ensures.balancings;
    }

pub returns-clause-whole : goal.returns-clause-whole
returns-clause-whole c = new_are_all c.args.threads c.args.k c.args.pick c.args.seed c.args.refill c.args.balance (map (λ b. b.value) c.in-Ok-box_members.boxes.items) (returns-clause-new c)
