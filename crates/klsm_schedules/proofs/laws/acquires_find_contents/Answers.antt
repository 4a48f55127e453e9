use Rattle.klsm_schedules.proofs.lemmas.theorems.FoundContentLemmas.{found_is_content}
use Rattle.klsm_schedules.proofs.laws.acquires_find_contents.Goals as goal

pub returns : goal.returns
returns c = found_is_content
