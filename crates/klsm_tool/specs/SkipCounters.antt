-- What the live items are, as a content.
use Rattle.std.specs.Prelude.{◌<◌, List, ◌++◌}
use Rattle.std.specs.Vec.{vec_len, vec_capacity}
use Rattle.klsm_run.specs.declared.item.Item.{Item}
use Rattle.klsm_tool.specs.declared.skip_counter.SkipCounter.{SkipCounter}

-- the items of the set, and those that it did not take
abbrev pub live_content : SkipCounter → List Item
live_content live = live.ascending.keys ++ live.apart.items

-- one more item finds room
abbrev pub HasRoomForOne : SkipCounter → Type 0
HasRoomForOne live = vec_len live.apart < vec_capacity live.apart
