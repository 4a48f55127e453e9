use Rattle.std.proofs.Common.{rules}
use Rattle.klsm_parts.proofs.FitLemmas.{local_fits, shared_fits}
use Rattle.klsm_board.proofs.lemmas.table.MakeLemmas.{memory_is_not_threads, memory_is_not_k, memory_is_not_quota, memory_is_not_refill}
use Rattle.klsm_board.proofs.board.Board.with_refill.Goals as goal

pub drop-board-requires-room-P-TableRule : goal.drop-board-requires-room-P-TableRule
drop-board-requires-room-P-TableRule g c κs = local_fits _ c.requires.capacity

pub drop-board-requires-room-P-TableRule-2 : goal.drop-board-requires-room-P-TableRule-2
drop-board-requires-room-P-TableRule-2 g c κs = shared_fits _ c.requires.levels

pub drop-board-requires-room-S-Destruct : goal.drop-board-requires-room-S-Destruct
drop-board-requires-room-S-Destruct g c κs = shared_fits _ c.requires.levels

pub returns-in_default-clause-bad_threads : goal.returns-in_default-clause-bad_threads
returns-in_default-clause-bad_threads g c = (λ same. absurd (memory_is_not_threads same), λ bad. absurd (c.in_ok-sizes.ensures.bad_threads.1 bad))

pub returns-in_default-clause-bad_k : goal.returns-in_default-clause-bad_k
returns-in_default-clause-bad_k g c = (λ same. absurd (memory_is_not_k same), λ bad. absurd (c.in_ok-sizes.ensures.bad_k.1 bad))

pub returns-in_default-clause-bad_quota : goal.returns-in_default-clause-bad_quota
returns-in_default-clause-bad_quota g c = (λ same. absurd (memory_is_not_quota same), λ bad. absurd (c.in_ok-sizes.ensures.bad_quota.1 bad))

pub returns-in_default-deal-clause-bad_threads : goal.returns-in_default-deal-clause-bad_threads
returns-in_default-deal-clause-bad_threads g c = (λ same. absurd (memory_is_not_threads same), λ bad. absurd (c.in_ok-sizes.ensures.bad_threads.1 bad))

pub returns-in_default-deal-clause-bad_k : goal.returns-in_default-deal-clause-bad_k
returns-in_default-deal-clause-bad_k g c = (λ same. absurd (memory_is_not_k same), λ bad. absurd (c.in_ok-sizes.ensures.bad_k.1 bad))

pub returns-in_default-deal-clause-bad_quota : goal.returns-in_default-deal-clause-bad_quota
returns-in_default-deal-clause-bad_quota g c = (λ same. absurd (memory_is_not_quota same), λ bad. absurd (c.in_ok-sizes.ensures.bad_quota.1 bad))

pub returns-clause-bad_threads : goal.returns-clause-bad_threads
returns-clause-bad_threads g c = (λ never. absurd never, λ bad. absurd (c.in_ok-sizes.ensures.bad_threads.1 bad))

pub returns-clause-bad_k : goal.returns-clause-bad_k
returns-clause-bad_k g c = (λ never. absurd never, λ bad. absurd (c.in_ok-sizes.ensures.bad_k.1 bad))

pub returns-clause-bad_quota : goal.returns-clause-bad_quota
returns-clause-bad_quota g c = (λ never. absurd never, λ bad. absurd (c.in_ok-sizes.ensures.bad_quota.1 bad))

pub table_of-requires : goal.table_of-requires
table_of-requires g c = (search rules, (local_fits _ c.requires.capacity, (shared_fits _ c.requires.levels, (c.requires.capacity, (c.requires.levels, c.in_ok-sizes.ensures.in_range)))))

pub deal-requires : goal.deal-requires
deal-requires g c = (search rules, (local_fits _ c.requires.capacity, (shared_fits _ c.requires.levels, (search rules, (search rules, search rules)))))

pub returns-in_default-clause-bad_refill : goal.returns-in_default-clause-bad_refill
returns-in_default-clause-bad_refill g c = (λ same. absurd (memory_is_not_refill same), λ bad. absurd (c.in_ok-sizes.ensures.bad_refill.1 bad))

pub returns-in_default-deal-clause-bad_refill : goal.returns-in_default-deal-clause-bad_refill
returns-in_default-deal-clause-bad_refill g c = (λ same. absurd (memory_is_not_refill same), λ bad. absurd (c.in_ok-sizes.ensures.bad_refill.1 bad))

pub returns-clause-bad_refill : goal.returns-clause-bad_refill
returns-clause-bad_refill g c = (λ never. absurd never, λ bad. absurd (c.in_ok-sizes.ensures.bad_refill.1 bad))
