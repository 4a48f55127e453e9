-- The codes that calls answer, as klsm.h numbers them.
use Rattle.std.specs.Prelude.{ℤ, pos}

-- it was done
abbrev pub ok : ℤ
ok = pos 0

-- a deletion found nothing
abbrev pub nothing : ℤ
nothing = pos 1

-- a part is locked by another member
abbrev pub busy : ℤ
busy = pos 2

-- the shared part has no place for the block
abbrev pub full : ℤ
full = pos 3

-- an allocation was refused
abbrev pub no_memory : ℤ
no_memory = pos 4

-- the member has made all insertions that it may
abbrev pub spent : ℤ
spent = pos 5

-- there is no member
abbrev pub not_open : ℤ
not_open = pos 6

-- the queue is open already
abbrev pub already_open : ℤ
already_open = pos 7

-- the number of threads is not 1 to `MOST_THREADS`
abbrev pub bad_count : ℤ
bad_count = pos 8

-- k is above `MOST_K`
abbrev pub bad_k : ℤ
bad_k = pos 9

-- there is no such pick
abbrev pub bad_pick : ℤ
bad_pick = pos 10

-- the board has another owner than the members of the queue
abbrev pub shared : ℤ
shared = pos 11

-- the refill is above k
abbrev pub bad_refill : ℤ
bad_refill = pos 12
