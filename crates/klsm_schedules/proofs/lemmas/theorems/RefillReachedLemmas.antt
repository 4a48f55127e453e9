-- Schedules of two threads, written out, that reach the bounds with items that a refill moved.
use Rattle.std.proofs.Common.{inr, List, [], ◌∷◌, length, refl, ap, arith}
use Rattle.klsm_run.specs.declared.item.Item.{Item}
use Rattle.klsm_schedules.specs.declared.step.Event.TheVariants.{Put, Flush, Refill}
use Rattle.klsm_schedules.specs.declared.step.Step.{Step}
use Rattle.klsm_schedules.specs.declared.step.Step.TheVariants.{Acquire, Commit, Release}
use Rattle.klsm_schedules.specs.Worlds.{World}
use Rattle.klsm_schedules.specs.Schedules.{next, Leads}
use Rattle.klsm_schedules.specs.Reached.{two_threads, ReachesMostLeftRefilled, ReachesMostSkippedRefilled, ReachesMostSkippedEarlyRefilled}
use Rattle.klsm_schedules.proofs.lemmas.theorems.ReachedLemmas.{item, three, two, last, three_flushed, two_flushed, to_shared_acquired, to_two_flushed, leads_to_three_flushed, leads_to_two_flushed, not_of_one}

-- where thread 0 has flushed 3 and 2, it flushes 1 too, which goes to the shared part
abbrev one_flushed : World
one_flushed = next two_flushed (Commit 0 (Flush last (last ∷ [])))

abbrev to_one_flushed : List Step
to_one_flushed = Commit 0 (Flush last (last ∷ [])) ∷ to_two_flushed

leads_to_one_flushed : Leads two_threads to_one_flushed one_flushed
leads_to_one_flushed = record {
  before = two_flushed;
  led = leads_to_two_flushed;
  legal = record {
    thread = omega arith;
    commit = record {
      held = record {
        own = [];
        other = two ∷ three ∷ [];
        holds_own = refl;
        holds_other = refl;
        fits = record { ascending = (tt, tt); within = λ x. omega arith; few_stay = omega arith };
      };
      stamp = record { owner = refl; number = refl };
    };
    front = tt;
  };
  after = refl;
}

-- 1 comes back to its own part by a refill
abbrev one_back : World
one_back = next one_flushed (Commit 0 (Refill (last ∷ [])))

abbrev to_one_back : List Step
to_one_back = Commit 0 (Refill (last ∷ [])) ∷ to_one_flushed

leads_to_one_back : Leads two_threads to_one_back one_back
leads_to_one_back = record {
  before = one_flushed;
  led = leads_to_one_flushed;
  legal = record {
    thread = omega arith;
    commit = record {
      own = [];
      other = last ∷ two ∷ three ∷ [];
      holds_own = refl;
      holds_other = refl;
      fits = record { some = λ none. omega (arith, ap length none); ascending = (tt, tt); within = λ x. omega arith; room = omega arith };
    };
    front = tt;
  };
  after = refl;
}

-- thread 1 acquires its own part and then the shared one
abbrev shared_released : World
shared_released = next one_back (Release 0 0)

abbrev other_own_acquired : World
other_own_acquired = next shared_released (Acquire 1 2)

abbrev other_both_acquired : World
other_both_acquired = next other_own_acquired (Acquire 1 0)

abbrev to_other_own_acquired : List Step
to_other_own_acquired = Acquire 1 2 ∷ Release 0 0 ∷ to_one_back

abbrev to_other_both_acquired : List Step
to_other_both_acquired = Acquire 1 0 ∷ to_other_own_acquired

leads_to_shared_released : Leads two_threads (Release 0 0 ∷ to_one_back) shared_released
leads_to_shared_released = record {
  before = one_back;
  led = leads_to_one_back;
  legal = record { thread = omega arith; held = record { content = two ∷ three ∷ []; holds = refl } };
  after = refl;
}

leads_to_other_own_acquired : Leads two_threads to_other_own_acquired other_own_acquired
leads_to_other_own_acquired = record {
  before = shared_released;
  led = leads_to_shared_released;
  legal = record { thread = omega arith; part = omega arith; free = refl };
  after = refl;
}

leads_to_other_both_acquired : Leads two_threads to_other_both_acquired other_both_acquired
leads_to_other_both_acquired = record {
  before = other_own_acquired;
  led = leads_to_other_own_acquired;
  legal = record { thread = omega arith; part = omega arith; free = refl };
  after = refl;
}

-- there it may take 3, the second candidate, of which it inserted none, and skips 2 and 1
pub most_skipped_is_reached_refilled : ReachesMostSkippedRefilled two_threads
most_skipped_is_reached_refilled = (
  record {
    steps = to_other_both_acquired;
    world = other_both_acquired;
    thread = 1;
    item = three;
    leads = leads_to_other_both_acquired;
    legal = record {
      thread = omega arith;
      commit = record {
        own = [];
        other = two ∷ three ∷ [];
        holds_own = refl;
        holds_other = refl;
        fits = record {
          in_reach = inr (three, (1, omega arith, refl), refl);
          own_order = (λ is. absurd (not_of_one is), (λ is. absurd (not_of_one is), tt));
        };
      };
      front = tt;
    };
    reached = refl;
  },
  (0, last ∷ [], (3, omega arith, refl)),
)

-- or put another 1 into its own part, which it may then delete by the front, though 1 of thread 0 is smaller
abbrev one_of_other : Item
one_of_other = item 1 1 0

abbrev other_put : World
other_put = next other_own_acquired (Commit 1 (Put one_of_other))

leads_to_other_put : Leads two_threads (Commit 1 (Put one_of_other) ∷ to_other_own_acquired) other_put
leads_to_other_put = record {
  before = other_own_acquired;
  led = leads_to_other_own_acquired;
  legal = record {
    thread = omega arith;
    commit = record { held = record { own = []; holds_own = refl; fits = omega arith }; stamp = record { owner = refl; number = refl } };
    front = tt;
  };
  after = refl;
}

pub most_skipped_early_is_reached_refilled : ReachesMostSkippedEarlyRefilled two_threads
most_skipped_early_is_reached_refilled = (
  record {
    steps = Commit 1 (Put one_of_other) ∷ to_other_own_acquired;
    world = other_put;
    thread = 1;
    item = one_of_other;
    front = 2;
    leads = leads_to_other_put;
    legal = record {
      thread = omega arith;
      commit = record { own = one_of_other ∷ []; holds_own = refl; fits = record { least = refl; below = omega arith } };
      front = refl;
    };
    reached = refl;
  },
  (0, last ∷ [], (3, omega arith, refl)),
)

-- where 3 alone was flushed and came back, the shared part is empty, and thread 1 may answer "nothing", though 3 lives
abbrev three_back : World
three_back = next three_flushed (Commit 0 (Refill (three ∷ [])))

abbrev to_three_back : List Step
to_three_back = Commit 0 (Refill (three ∷ [])) ∷ Commit 0 (Flush three (three ∷ [])) ∷ to_shared_acquired

abbrev empty_released : World
empty_released = next three_back (Release 0 0)

abbrev empty_own_acquired : World
empty_own_acquired = next empty_released (Acquire 1 2)

abbrev empty_both_acquired : World
empty_both_acquired = next empty_own_acquired (Acquire 1 0)

leads_to_three_back : Leads two_threads to_three_back three_back
leads_to_three_back = record {
  before = three_flushed;
  led = leads_to_three_flushed;
  legal = record {
    thread = omega arith;
    commit = record {
      own = [];
      other = three ∷ [];
      holds_own = refl;
      holds_other = refl;
      fits = record { some = λ none. omega (arith, ap length none); ascending = (tt, tt); within = λ x. omega arith; room = omega arith };
    };
    front = tt;
  };
  after = refl;
}

leads_to_empty_released : Leads two_threads (Release 0 0 ∷ to_three_back) empty_released
leads_to_empty_released = record {
  before = three_back;
  led = leads_to_three_back;
  legal = record { thread = omega arith; held = record { content = []; holds = refl } };
  after = refl;
}

leads_to_empty_own_acquired : Leads two_threads (Acquire 1 2 ∷ Release 0 0 ∷ to_three_back) empty_own_acquired
leads_to_empty_own_acquired = record {
  before = empty_released;
  led = leads_to_empty_released;
  legal = record { thread = omega arith; part = omega arith; free = refl };
  after = refl;
}

leads_to_empty_both_acquired : Leads two_threads (Acquire 1 0 ∷ Acquire 1 2 ∷ Release 0 0 ∷ to_three_back) empty_both_acquired
leads_to_empty_both_acquired = record {
  before = empty_own_acquired;
  led = leads_to_empty_own_acquired;
  legal = record { thread = omega arith; part = omega arith; free = refl };
  after = refl;
}

pub most_left_is_reached_refilled : ReachesMostLeftRefilled two_threads
most_left_is_reached_refilled = (
  record {
    steps = Acquire 1 0 ∷ Acquire 1 2 ∷ Release 0 0 ∷ to_three_back;
    world = empty_both_acquired;
    thread = 1;
    leads = leads_to_empty_both_acquired;
    legal = record {
      thread = omega arith;
      commit = record { own = []; other = []; holds_own = refl; holds_other = refl; fits = record { own_empty = refl; shared_empty = refl } };
      front = tt;
    };
    reached = refl;
  },
  (0, three ∷ [], (3, omega arith, refl)),
)
