-- How a picker picks that is chosen while a program runs.
use Rattle.std.specs.Prelude.{◌≡◌, ℕ, ◌-◌, ◌%◌}
use Rattle.rand_core.specs.Steps.{stream_of, steps_u32}
use Rattle.rand_core.specs.Stream.{next_u64}
use Rattle.rand_pcg.specs.Lcg.{Lcg}
use Rattle.rand_pcg.specs.Pcg.{pcg32}
use Rattle.klsm_parts.specs.Generators.{generator_of}
use Rattle.klsm_parts.specs.declared.choice.Pick.{Pick}
use Rattle.klsm_parts.specs.declared.choice.Pick.TheVariants as pick
use Rattle.klsm_parts.specs.declared.choice.Choice.{Choice}
use Rattle.klsm_parts.specs.declared.choice.Choice.TheVariants as choice

-- the picker of a kind, with a seed where it is random
abbrev pub choice_by : Pick → ℕ → Choice
choice_by pick.First seed = choice.First
choice_by pick.Last seed = choice.Last
choice_by pick.Random seed = choice.Random (generator_of seed)

-- the number that a generator gives next is drawn, and it goes on
abbrev pub Draws : Lcg → ℕ → ℕ → Choice → Type 0
Draws before candidates index choice.First = ⊥
Draws before candidates index choice.Last = ⊥
Draws before candidates index (choice.Random after) =
    (index ≡ (next_u64 (stream_of (steps_u32 pcg32) before)).0 % candidates)
    × (stream_of (steps_u32 pcg32) after ≡ (next_u64 (stream_of (steps_u32 pcg32) before)).1)

-- the least candidate, the greatest, or one drawn at random
abbrev pub may_choose : Choice → ℕ → ℕ → Choice → Type 0
may_choose choice.First candidates index after = (index ≡ 0) × (after ≡ choice.First)
may_choose choice.Last candidates index after = (index ≡ candidates - 1) × (after ≡ choice.Last)
may_choose (choice.Random before) candidates index after = Draws before candidates index after
