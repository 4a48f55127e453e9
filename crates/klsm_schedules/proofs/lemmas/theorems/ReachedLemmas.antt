-- Schedules of two threads, written out, that reach the bounds.
use Rattle.std.proofs.Common.{inr, ◌≢◌, ℕ, List, [], ◌∷◌, refl, arith}
use Rattle.klsm_run.specs.declared.item.Item.{Item}
use Rattle.klsm_schedules.specs.declared.step.Event.TheVariants.{Put, Flush}
use Rattle.klsm_schedules.specs.declared.step.Step.{Step}
use Rattle.klsm_schedules.specs.declared.step.Step.TheVariants.{Acquire, Commit, Release}
use Rattle.klsm_schedules.specs.Worlds.{World, first_world}
use Rattle.klsm_schedules.specs.Schedules.{next, Leads}
use Rattle.klsm_schedules.specs.Reached.{two_threads, ReachesMostLeft, ReachesMostSkipped, ReachesMostSkippedEarly}

abbrev pub item : ℕ → ℕ → ℕ → Item
item key owner number = record { key = key; stamp = record { owner = owner; number = number }; load = 0 }

-- thread 0 takes its part and puts 1 there
abbrev one : Item
one = item 1 0 0

abbrev pub own_acquired : World
own_acquired = next (first_world two_threads) (Acquire 0 1)

abbrev one_put : World
one_put = next own_acquired (Commit 0 (Put one))

-- thread 1 takes its own part and the shared one, which are empty
abbrev other_acquired : World
other_acquired = next one_put (Acquire 1 2)

abbrev both_acquired : World
both_acquired = next other_acquired (Acquire 1 0)

abbrev to_both_acquired : List Step
to_both_acquired = Acquire 1 0 ∷ Acquire 1 2 ∷ Commit 0 (Put one) ∷ Acquire 0 1 ∷ []

leads_to_own_acquired : Leads two_threads (Acquire 0 1 ∷ []) own_acquired
leads_to_own_acquired = record {
  before = first_world two_threads;
  led = refl;
  legal = record { thread = omega arith; part = omega arith; free = refl };
  after = refl;
}

leads_to_one_put : Leads two_threads (Commit 0 (Put one) ∷ Acquire 0 1 ∷ []) one_put
leads_to_one_put = record {
  before = own_acquired;
  led = leads_to_own_acquired;
  legal = record {
    thread = omega arith;
    commit = record { held = record { own = []; holds_own = refl; fits = omega arith }; stamp = record { owner = refl; number = refl } };
    front = tt;
  };
  after = refl;
}

leads_to_other_acquired : Leads two_threads (Acquire 1 2 ∷ Commit 0 (Put one) ∷ Acquire 0 1 ∷ []) other_acquired
leads_to_other_acquired = record {
  before = one_put;
  led = leads_to_one_put;
  legal = record { thread = omega arith; part = omega arith; free = refl };
  after = refl;
}

leads_to_both_acquired : Leads two_threads to_both_acquired both_acquired
leads_to_both_acquired = record {
  before = other_acquired;
  led = leads_to_other_acquired;
  legal = record { thread = omega arith; part = omega arith; free = refl };
  after = refl;
}

-- it may answer "nothing", though 1 lives
pub most_left_is_reached : ReachesMostLeft two_threads
most_left_is_reached = record {
  steps = to_both_acquired;
  world = both_acquired;
  thread = 1;
  leads = leads_to_both_acquired;
  legal = record {
    thread = omega arith;
    commit = record { own = []; other = []; holds_own = refl; holds_other = refl; fits = record { own_empty = refl; shared_empty = refl } };
    front = tt;
  };
  reached = refl;
}

-- or put 2 into its own part, which it may then delete by the front, though 1 lives
abbrev two_of_other : Item
two_of_other = item 2 1 0

abbrev two_put : World
two_put = next other_acquired (Commit 1 (Put two_of_other))

leads_to_two_put : Leads two_threads (Commit 1 (Put two_of_other) ∷ Acquire 1 2 ∷ Commit 0 (Put one) ∷ Acquire 0 1 ∷ []) two_put
leads_to_two_put = record {
  before = other_acquired;
  led = leads_to_other_acquired;
  legal = record {
    thread = omega arith;
    commit = record { held = record { own = []; holds_own = refl; fits = omega arith }; stamp = record { owner = refl; number = refl } };
    front = tt;
  };
  after = refl;
}

pub most_skipped_early_is_reached : ReachesMostSkippedEarly two_threads
most_skipped_early_is_reached = record {
  steps = Commit 1 (Put two_of_other) ∷ Acquire 1 2 ∷ Commit 0 (Put one) ∷ Acquire 0 1 ∷ [];
  world = two_put;
  thread = 1;
  item = two_of_other;
  front = 18446744073709551615;
  leads = leads_to_two_put;
  legal = record {
    thread = omega arith;
    commit = record { own = two_of_other ∷ []; holds_own = refl; fits = record { least = refl; below = omega arith } };
    front = refl;
  };
  reached = refl;
}

-- where thread 0 has both parts, flushes 3 and then 2, each of which goes to the shared part, and puts 1
abbrev pub three : Item
three = item 3 0 0

abbrev pub two : Item
two = item 2 0 1

abbrev pub last : Item
last = item 1 0 2

abbrev pub shared_acquired : World
shared_acquired = next own_acquired (Acquire 0 0)

abbrev pub three_flushed : World
three_flushed = next shared_acquired (Commit 0 (Flush three (three ∷ [])))

abbrev pub two_flushed : World
two_flushed = next three_flushed (Commit 0 (Flush two (two ∷ [])))

abbrev last_put : World
last_put = next two_flushed (Commit 0 (Put last))

abbrev shared_released : World
shared_released = next last_put (Release 0 0)

abbrev other_own_acquired : World
other_own_acquired = next shared_released (Acquire 1 2)

abbrev other_both_acquired : World
other_both_acquired = next other_own_acquired (Acquire 1 0)

abbrev pub to_shared_acquired : List Step
to_shared_acquired = Acquire 0 0 ∷ Acquire 0 1 ∷ []

abbrev pub to_two_flushed : List Step
to_two_flushed = Commit 0 (Flush two (two ∷ [])) ∷ Commit 0 (Flush three (three ∷ [])) ∷ to_shared_acquired

abbrev to_other_both_acquired : List Step
to_other_both_acquired = Acquire 1 0 ∷ Acquire 1 2 ∷ Release 0 0 ∷ Commit 0 (Put last) ∷ to_two_flushed

pub leads_to_shared_acquired : Leads two_threads to_shared_acquired shared_acquired
leads_to_shared_acquired = record {
  before = own_acquired;
  led = leads_to_own_acquired;
  legal = record { thread = omega arith; part = omega arith; free = refl };
  after = refl;
}

pub leads_to_three_flushed : Leads two_threads (Commit 0 (Flush three (three ∷ [])) ∷ to_shared_acquired) three_flushed
leads_to_three_flushed = record {
  before = shared_acquired;
  led = leads_to_shared_acquired;
  legal = record {
    thread = omega arith;
    commit = record {
      held = record {
        own = [];
        other = [];
        holds_own = refl;
        holds_other = refl;
        fits = record { ascending = (tt, tt); within = λ x. omega arith; few_stay = omega arith };
      };
      stamp = record { owner = refl; number = refl };
    };
    front = tt;
  };
  after = refl;
}

pub leads_to_two_flushed : Leads two_threads to_two_flushed two_flushed
leads_to_two_flushed = record {
  before = three_flushed;
  led = leads_to_three_flushed;
  legal = record {
    thread = omega arith;
    commit = record {
      held = record {
        own = [];
        other = three ∷ [];
        holds_own = refl;
        holds_other = refl;
        fits = record { ascending = (tt, tt); within = λ x. omega arith; few_stay = omega arith };
      };
      stamp = record { owner = refl; number = refl };
    };
    front = tt;
  };
  after = refl;
}

leads_to_last_put : Leads two_threads (Commit 0 (Put last) ∷ to_two_flushed) last_put
leads_to_last_put = record {
  before = two_flushed;
  led = leads_to_two_flushed;
  legal = record {
    thread = omega arith;
    commit = record { held = record { own = []; holds_own = refl; fits = omega arith }; stamp = record { owner = refl; number = refl } };
    front = tt;
  };
  after = refl;
}

leads_to_shared_released : Leads two_threads (Release 0 0 ∷ Commit 0 (Put last) ∷ to_two_flushed) shared_released
leads_to_shared_released = record {
  before = last_put;
  led = leads_to_last_put;
  legal = record { thread = omega arith; held = record { content = two ∷ three ∷ []; holds = refl } };
  after = refl;
}

leads_to_other_own_acquired : Leads two_threads (Acquire 1 2 ∷ Release 0 0 ∷ Commit 0 (Put last) ∷ to_two_flushed) other_own_acquired
leads_to_other_own_acquired = record {
  before = shared_released;
  led = leads_to_shared_released;
  legal = record { thread = omega arith; part = omega arith; free = refl };
  after = refl;
}

leads_to_other_both_acquired : Leads two_threads to_other_both_acquired other_both_acquired
leads_to_other_both_acquired = record {
  before = other_own_acquired;
  led = leads_to_other_own_acquired;
  legal = record { thread = omega arith; part = omega arith; free = refl };
  after = refl;
}

pub not_of_one : ◌≢◌ {A = ℕ} 0 1
not_of_one same = omega (arith, same)

-- then thread 1 may take 3, the second candidate, of which it inserted none, and skips 2 and 1
pub most_skipped_is_reached : ReachesMostSkipped two_threads
most_skipped_is_reached = record {
  steps = to_other_both_acquired;
  world = other_both_acquired;
  thread = 1;
  item = three;
  leads = leads_to_other_both_acquired;
  legal = record {
    thread = omega arith;
    commit = record {
      own = [];
      other = two ∷ three ∷ [];
      holds_own = refl;
      holds_other = refl;
      fits = record {
        in_reach = inr (three, (1, omega arith, refl), refl);
        own_order = (λ is. absurd (not_of_one is), (λ is. absurd (not_of_one is), tt));
      };
    };
    front = tt;
  };
  reached = refl;
}
