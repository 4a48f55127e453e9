use Rattle.std.proofs.Common.{rules}
use Rattle.klsm_board.proofs.making.sizes_for.Goals as goal

pub returns-then-threads-eq0-clause-bad_threads : goal.returns-then-threads-eq0-clause-bad_threads
returns-then-threads-eq0-clause-bad_threads g = search rules

pub returns-then-threads-eq0-clause-bad_k : goal.returns-then-threads-eq0-clause-bad_k
returns-then-threads-eq0-clause-bad_k g = search rules

pub returns-then-threads-eq0-clause-bad_quota : goal.returns-then-threads-eq0-clause-bad_quota
returns-then-threads-eq0-clause-bad_quota g = search rules

pub returns-then-k-capacity-clause-bad_threads : goal.returns-then-k-capacity-clause-bad_threads
returns-then-k-capacity-clause-bad_threads g = search rules

pub returns-then-k-capacity-clause-bad_k : goal.returns-then-k-capacity-clause-bad_k
returns-then-k-capacity-clause-bad_k g = search rules

pub returns-then-k-capacity-clause-bad_quota : goal.returns-then-k-capacity-clause-bad_quota
returns-then-k-capacity-clause-bad_quota g = search rules

pub returns-then-quota-gt-MOST_INSERTIONS-clause-bad_threads : goal.returns-then-quota-gt-MOST_INSERTIONS-clause-bad_threads
returns-then-quota-gt-MOST_INSERTIONS-clause-bad_threads g = search rules

pub returns-then-quota-gt-MOST_INSERTIONS-clause-bad_k : goal.returns-then-quota-gt-MOST_INSERTIONS-clause-bad_k
returns-then-quota-gt-MOST_INSERTIONS-clause-bad_k g = search rules

pub returns-then-quota-gt-MOST_INSERTIONS-clause-bad_quota : goal.returns-then-quota-gt-MOST_INSERTIONS-clause-bad_quota
returns-then-quota-gt-MOST_INSERTIONS-clause-bad_quota g = search rules

pub returns-clause-bad_threads : goal.returns-clause-bad_threads
returns-clause-bad_threads g = search rules

pub returns-clause-bad_k : goal.returns-clause-bad_k
returns-clause-bad_k g = search rules

pub returns-clause-bad_quota : goal.returns-clause-bad_quota
returns-clause-bad_quota g = search rules

pub returns-clause-in_range : goal.returns-clause-in_range
returns-clause-in_range g = search rules

pub returns-then-threads-eq0-clause-bad_refill : goal.returns-then-threads-eq0-clause-bad_refill
returns-then-threads-eq0-clause-bad_refill g = search rules

pub returns-then-k-capacity-clause-bad_refill : goal.returns-then-k-capacity-clause-bad_refill
returns-then-k-capacity-clause-bad_refill g = search rules

pub returns-then-quota-gt-MOST_INSERTIONS-clause-bad_refill : goal.returns-then-quota-gt-MOST_INSERTIONS-clause-bad_refill
returns-then-quota-gt-MOST_INSERTIONS-clause-bad_refill g = search rules

pub returns-then-refill-k-clause-bad_threads : goal.returns-then-refill-k-clause-bad_threads
returns-then-refill-k-clause-bad_threads g = search rules

pub returns-then-refill-k-clause-bad_k : goal.returns-then-refill-k-clause-bad_k
returns-then-refill-k-clause-bad_k g = search rules

pub returns-then-refill-k-clause-bad_quota : goal.returns-then-refill-k-clause-bad_quota
returns-then-refill-k-clause-bad_quota g = search rules

pub returns-then-refill-k-clause-bad_refill : goal.returns-then-refill-k-clause-bad_refill
returns-then-refill-k-clause-bad_refill g = search rules

pub returns-clause-bad_refill : goal.returns-clause-bad_refill
returns-clause-bad_refill g = search rules
