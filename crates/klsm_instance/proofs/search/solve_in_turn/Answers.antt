use Rattle.klsm_instance.proofs.SearchLemmas.{first_answer}
use Rattle.klsm_instance.proofs.search.solve_in_turn.Goals as goal

pub finish-requires-clause-best : goal.finish-requires-clause-best
finish-requires-clause-best c = first_answer c.args.instance.now
