-- An LSM within its limit after a change.
use Rattle.std.proofs.Common.{◌≡◌, ℕ, ◌+◌, ◌-◌, ◌<◌, ◌≤◌, List, length, arith, suc}
use Rattle.klsm_run.specs.declared.item.Item.{Item}
use Rattle.klsm_run.specs.Content.{ShareNone, IsAscending}
use Rattle.klsm_lsm.specs.Lsm.{content}
use Rattle.klsm_lsm.specs.Limit.{limit_of}
use Rattle.klsm_lsm.specs.Adding.{add}
use Rattle.klsm_lsm.specs.Slots.{IsStored}
use Rattle.klsm_lsm.proofs.JoinLemmas.{is_block}
use Rattle.klsm_lsm.proofs.AddLemmas.{lawful_add, length_add, length_lsm}

-- an LSM with a run within the limit
pub stored_add : (levels room len : ℕ) (bs : List (List Item)) (run : List Item) → IsStored levels room len bs → IsAscending run → 0 < length run → ShareNone (content bs) run → length (content bs) + length run ≤ limit_of levels room → IsStored levels room (len + length run) (add bs run)
stored_add levels room len bs run stored up some apart fits =
    let count = length_add bs run in
    record {
      within = record {
        lawful = lawful_add bs run stored.within.lawful (is_block run up some) apart;
        in_limit = rw count fits;
        levels_in_range = stored.within.levels_in_range;
      };
      counted = omega (arith, count, stored.counted);
    }

-- it has at most as many blocks as levels
pub blocks_fit : (levels room len : ℕ) (bs : List (List Item)) → IsStored levels room len bs → length bs ≤ levels
blocks_fit levels room len bs stored =
    let few : length bs ≤ suc (levels - 1) = length_lsm (levels - 1) bs stored.within.lawful (omega (arith, stored.within.in_limit)) in
    omega (arith, few, stored.within.levels_in_range.some_level)

-- there is room for a run
pub room_left : (levels room len count limit : ℕ) (bs : List (List Item)) (run : List Item) → IsStored levels room len bs → count ≡ length run → limit ≡ limit_of levels room → count ≤ limit - len → length (content bs) + length run ≤ limit_of levels room
room_left levels room len count limit bs run stored counted is few = omega (arith, stored.within.in_limit, stored.counted, counted, is, few)
