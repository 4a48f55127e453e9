use Rattle.std.proofs.Common.{rules}
use Rattle.klsm_knapsack.proofs.solving.board_for.Goals as goal

pub returns-in-Err-BadThreads-clause-refused : goal.returns-in-Err-BadThreads-clause-refused
returns-in-Err-BadThreads-clause-refused g c = search rules

pub returns-in-Err-BadThreads-clause-bad_threads : goal.returns-in-Err-BadThreads-clause-bad_threads
returns-in-Err-BadThreads-clause-bad_threads g c = search rules

pub returns-in-Err-BadThreads-clause-bad_k : goal.returns-in-Err-BadThreads-clause-bad_k
returns-in-Err-BadThreads-clause-bad_k g c = search rules

pub unreachable-unreachable : goal.unreachable-unreachable
unreachable-unreachable g c = c.unreachable.type_inv

pub returns-in-Ok-clause-sizes : goal.returns-in-Ok-clause-sizes
returns-in-Ok-clause-sizes g c = c.in-Ok.ensures.sizes

pub returns-in-Err-BadRefill-clause-refused : goal.returns-in-Err-BadRefill-clause-refused
returns-in-Err-BadRefill-clause-refused g c = search rules

pub returns-in-Err-BadRefill-clause-bad_k : goal.returns-in-Err-BadRefill-clause-bad_k
returns-in-Err-BadRefill-clause-bad_k g c = search rules

pub returns-in-Err-BadRefill-clause-bad_refill : goal.returns-in-Err-BadRefill-clause-bad_refill
returns-in-Err-BadRefill-clause-bad_refill g c = search rules

pub returns-in-Ok-clause-refill : goal.returns-in-Ok-clause-refill
returns-in-Ok-clause-refill g c = search rules

pub returns-in-Ok-clause-bad_refill : goal.returns-in-Ok-clause-bad_refill
returns-in-Ok-clause-bad_refill g c = search rules

pub returns-in-Err-NoMemory-clause-bad_refill : goal.returns-in-Err-NoMemory-clause-bad_refill
returns-in-Err-NoMemory-clause-bad_refill g c = search rules
