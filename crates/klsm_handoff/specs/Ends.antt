-- What contracts see of the two ends.
use Rattle.std.specs.Prelude.{◌≡◌, length}
use Rattle.rtrb.specs.Ring.{received}
use Rattle.klsm_handoff.specs.declared.giver.Giver.{Giver}
use Rattle.klsm_handoff.specs.declared.taker.Taker.{Taker}

module _ {T K A : Type 0} where
  -- what the value has to meet
  abbrev pub giver_terms : Giver T K A → K
  giver_terms g = g.terms.value

  -- what the value will meet
  abbrev pub taker_terms : Taker T K A → K
  taker_terms t = t.terms.value

  -- the value has been taken
  abbrev pub HasTaken : Taker T K A → Type 0
  HasTaken t = length (received t.consumer) ≡ 2
