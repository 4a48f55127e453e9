use Rattle.klsm_board.specs.Boards.{held_content}
use Rattle.klsm_parts.proofs.EmptyLemmas.{is_none}
use Rattle.klsm_board.proofs.board.Held.is_empty.Goals as goal

pub returns : goal.returns
returns g c = is_none (held_content c.args.self.now) c.len.result c.len.ensures
