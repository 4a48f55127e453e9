use Rattle.std.proofs.Common.{rules}
use Rattle.std.proofs.lemmas.List.Elements.{All-pop}
use Rattle.klsm_board.specs.Boards.{IsOf}
use Rattle.klsm_test_support.proofs.crew.Crew.leave.Goals as goal

pub invariant_of-self : goal.invariant_of-self
invariant_of-self g c =
    let crew = c.args.self.now in
    record {
      members_are_of = (All-pop (λ member. IsOf member crew.board) crew.members.items c.pop.new.self.items c.pop.result c.pop.ensures.items crew.members_are_of).0;
      held_is_of = crew.held_is_of;
      away_are_of = crew.away_are_of;
    }

pub invariant_of-self-2 : goal.invariant_of-self-2
invariant_of-self-2 g c =
    let crew = c.args.self.now in
    record {
      members_are_of = (All-pop (λ member. IsOf member crew.board) crew.members.items c.pop.new.self.items c.pop.result c.pop.ensures.items crew.members_are_of).0;
      held_is_of = crew.held_is_of;
      away_are_of = search rules;
    }
