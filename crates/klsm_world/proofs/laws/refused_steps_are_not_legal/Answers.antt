use Rattle.klsm_world.proofs.lemmas.refusals.RefusedLemmas.{refused_is_not_legal}
use Rattle.klsm_world.proofs.laws.refused_steps_are_not_legal.Goals as goal

pub returns : goal.returns
returns c = refused_is_not_legal
