-- Each legal step keeps a world lawful.
use Rattle.klsm_schedules.specs.declared.step.Step.{Step}
use Rattle.klsm_schedules.specs.Worlds.{Limits, World}
use Rattle.klsm_schedules.specs.LawfulWorlds.{IsLawful}
use Rattle.klsm_schedules.specs.Schedules.{MayStep, next}
use Rattle.klsm_schedules.proofs.lemmas.hands.AgreeLemmas.{agreed_kept}
use Rattle.klsm_schedules.proofs.lemmas.lawful.LegalLemmas.{legal_kept}
use Rattle.klsm_schedules.proofs.lemmas.lawful.FewLemmas.{few_kept}
use Rattle.klsm_schedules.proofs.lemmas.lawful.FrontLemmas.{front_kept}
use Rattle.klsm_schedules.proofs.lemmas.lawful.OnceLemmas.{once_kept}

-- a legal step leads from a lawful world to a lawful one
pub lawful_kept : (limits : Limits) (w : World) (step : Step) → IsLawful limits w → MayStep limits w step → IsLawful limits (next w step)
lawful_kept limits w step lawful may = record {
  legal = legal_kept limits w step lawful.agreed lawful.legal lawful.few may;
  agreed = agreed_kept limits w step lawful.agreed may;
  few = few_kept limits w step lawful.agreed lawful.few may;
  front_is = front_kept limits w lawful.agreed lawful.front_is step may;
  each_once = once_kept limits w step lawful.agreed lawful.each_once may;
}
