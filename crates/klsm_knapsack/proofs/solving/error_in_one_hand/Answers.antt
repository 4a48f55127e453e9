use Rattle.std.proofs.Common.{◌≡◌, ◌∙◌, sym, lit<}
use Rattle.klsm_knapsack.specs.declared.errors.SearchError.TheVariants.{Full, NoMemory}
use Rattle.klsm_knapsack.specs.declared.search_state.NoRoom.TheVariants.{Refuses, SearchesAlone}
use Rattle.klsm_knapsack.proofs.solving.error_in_one_hand.Goals as goal

pub memory_in_one_hand-requires : goal.memory_in_one_hand-requires
memory_in_one_hand-requires g c = (lit< tt, (lit< tt, (c.requires.crew, c.requires.room c.in-SearchesAlone.is)))

pub returns-in-SearchesAlone-clause-never_full : goal.returns-in-SearchesAlone-clause-never_full
returns-in-SearchesAlone-clause-never_full g c = λ alone full. let bad : NoMemory ≡ Full = sym c.memory_in_one_hand.ensures.memory ∙ full in cc

pub returns-in-Refuses-clause-never_full : goal.returns-in-Refuses-clause-never_full
returns-in-Refuses-clause-never_full g c = λ alone. let bad : Refuses ≡ SearchesAlone = sym c.in-Refuses.is ∙ alone in absurd (let none : ⊥ = cc in none)
