-- What the calls of a member add to its list, one after another, and how its picker goes on by them.
use Rattle.std.specs.Prelude.{ℕ, zero, suc, ◌≡◌, ◌⊎◌, ◌%◌, List, [], Option}
use Rattle.rand_core.specs.Steps.{stream_of, steps_u32}
use Rattle.rand_core.specs.Stream.{next_u64}
use Rattle.rand_pcg.specs.Lcg.{Lcg}
use Rattle.rand_pcg.specs.Pcg.{pcg32}
use Rattle.klsm_run.specs.declared.item.Item.{Item}
use Rattle.klsm_schedules.specs.declared.step.Entry.{Entry}
use Rattle.klsm_board.specs.declared.errors.InsertError.{InsertError}
use Rattle.klsm_board.specs.declared.sizes.Sizes.{Sizes}
use Rattle.klsm_board.specs.Deleting.{AnswersWaiting}
use Rattle.klsm_board.specs.Inserting.{InsertsWaiting, RefusesInsertWaiting}

module _ {P : Type 0} (Calls : P → P → List Entry → List Entry → Type 0) (first : P) where
  -- so many calls of one kind, one after another, from an empty list and the first picker on
  abbrev pub HasMade : ℕ → P → List Entry → Type 0
  HasMade zero picker es = (picker ≡ first) × (es ≡ [])
  HasMade (suc n) picker es = (before : P) × (earlier : List Entry) × HasMade n before earlier
      × Calls before picker earlier es

  -- a list is that of some calls, by which the picker went on from the first one to this
  pub record IsOnCourse (picker : P) (es : List Entry) : Type 0 where
    pub calls : ℕ
    pub made : HasMade calls picker es

-- the number that a generator gives next is drawn, and it goes on
abbrev pub draws_next : Lcg → ℕ → ℕ → Lcg → Type 0
draws_next before candidates index after =
    (index ≡ (next_u64 (stream_of (steps_u32 pcg32) before)).0 % candidates)
    × (stream_of (steps_u32 pcg32) after ≡ (next_u64 (stream_of (steps_u32 pcg32) before)).1)

-- One call of worker t: it inserted a node or was refused that, and the picker is as it was. Or it deleted by its
-- picker.
abbrev pub CallsOfWorker : ℕ → Sizes → ℕ → Lcg → Lcg → List Entry → List Entry → Type 0
CallsOfWorker levels m t picker picker' es es' =
    ((((x : Item) × InsertsWaiting levels m.k t es es' x)
    ⊎ ((why : InsertError) × RefusesInsertWaiting ⊥ levels m.k t es es' why)) × (picker' ≡ picker))
    ⊎ ((answer : Option Item) × AnswersWaiting draws_next picker picker' m t es es' answer)
