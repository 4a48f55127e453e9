-- The threads' lists of own steps, and their hands, after one list gained an entry.
use Rattle.std.proofs.Common.{ℕ, ◌≡◌, ◌≢◌, ◌<◌, List, [], ◌∷◌, ◌++◌, length, get_or, ap, ◌∙◌}
use Rattle.std.proofs.lemmas.List.{length-set, get_or-set_same, get_or-set_other}
use Rattle.std.proofs.lemmas.List.Sums.{fold-append}
use Rattle.klsm_schedules.specs.declared.step.Entry.{Entry}
use Rattle.klsm_schedules.specs.OwnSteps.{after_entry, hand_of}
use Rattle.klsm_schedules.specs.Worlds.{World, steps_of, hand_in}
use Rattle.klsm_schedules.specs.Schedules.{noted}

-- there are as many lists as before
pub length_noted : (w : World) (t : ℕ) (entry : Entry) → length (noted w t entry) ≡ length w.lists
length_noted w t entry = length-set w.lists t (steps_of w t ++ entry ∷ [])

-- the thread's list gained the entry
pub steps_noted : (w v : World) (t : ℕ) (entry : Entry) → t < length w.lists → v.lists ≡ noted w t entry → steps_of v t ≡ steps_of w t ++ entry ∷ []
steps_noted w v t entry within lists =
    ap (λ ls. get_or ls t []) lists ∙ get_or-set_same w.lists t (steps_of w t ++ entry ∷ []) [] within

-- another thread's list is as it was
pub steps_else : (w v : World) (t u : ℕ) (entry : Entry) → u ≢ t → v.lists ≡ noted w t entry → steps_of v u ≡ steps_of w u
steps_else w v t u entry other lists =
    ap (λ ls. get_or ls u []) lists ∙ get_or-set_other w.lists t u (steps_of w t ++ entry ∷ []) [] other

-- a hand after one more entry
pub hand_of_more : (t : ℕ) (own : List Entry) (entry : Entry) → hand_of t (own ++ entry ∷ []) ≡ after_entry t (hand_of t own) entry
hand_of_more t own entry = fold-append (after_entry t) [] own (entry ∷ [])

-- the thread's hand is what the entry leaves of it
pub hand_noted : (w v : World) (t : ℕ) (entry : Entry) → t < length w.lists → v.lists ≡ noted w t entry → hand_in v t ≡ after_entry t (hand_in w t) entry
hand_noted w v t entry within lists = ap (hand_of t) (steps_noted w v t entry within lists) ∙ hand_of_more t (steps_of w t) entry

-- another thread's hand is as it was
pub hand_else : (w v : World) (t u : ℕ) (entry : Entry) → u ≢ t → v.lists ≡ noted w t entry → hand_in v u ≡ hand_in w u
hand_else w v t u entry other lists = ap (hand_of u) (steps_else w v t u entry other lists)
