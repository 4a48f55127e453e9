use Rattle.klsm_parts.proofs.FitLemmas.{shared_fits}
use Rattle.klsm_test_support.proofs.crew.Crew.try_hold.Goals as goal

pub drop-self-requires-room-S-Destruct : goal.drop-self-requires-room-S-Destruct
drop-self-requires-room-S-Destruct g c κs = shared_fits _ c.args.self.now.board.levels
