-- The store: "The input store is 512 slots" (01, Sizes), 16 for each of 32 channels, the front of a channel's queue in its first slot.
-- Only this file says where a slot is.
-- Assumes nothing.
use Rattle.std.specs.Prelude.{cond, ◌&&◌, List, ℕ, zero, suc, ◌+◌, ◌*◌, ltb, get_or, set}
use Rattle.base.specs.declared.flit.Flit.{Flit}
use Rattle.base.specs.Sizes.{most_channels}

-- where the slots of channel x begin, and its slot k
abbrev pub first_slot : ℕ → ℕ
first_slot x = 16 * x

abbrev pub slot : ℕ → ℕ → ℕ
slot x k = first_slot x + k

-- the flit in a channel's first slot; the empty slot's where there is no such channel
unfoldable pub front_of : List ℕ → ℕ → Flit
front_of store x = record { word = cond (ltb x most_channels) (get_or store (first_slot x) 0) 0 }

-- a flit "joins the end of its VC queue" (01, phase 3), of which q are queued: its word goes into the slot behind them
unfoldable pub pushed : List ℕ → ℕ → ℕ → Flit → List ℕ
pushed store x q f = cond (ltb x most_channels && ltb q 16) (set store (slot x q) f.word) store

-- each of a channel's first n slots gets what the slot behind it held
unfoldable pub moved_up : ℕ → List ℕ → ℕ → List ℕ
moved_up zero store x = store
moved_up (suc n) store x = set (moved_up n store x) (slot x n) (get_or store (slot x (n + 1)) 0)

-- the front "leaves its queue" (01, phase 7): all others move up, and the last slot is empty
unfoldable pub popped : List ℕ → ℕ → List ℕ
popped store x = cond (ltb x most_channels) (set (moved_up 15 store x) (slot x 15) 0) store
