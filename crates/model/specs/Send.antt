-- The send rule. It is the one place that knows how an input's slots are shared out, and only the private depth is known so far.
-- Assumes nothing.
use Rattle.std.specs.Prelude.{ℕ, ◌<◌}
use Rattle.model.specs.Sizes.{Config}

-- "5: no sender credit, after phase 1" (01, Numbers given back): the sender of an input may send on VC v, where `taken u` slots of its
-- VC u are taken after
-- phase 1, while fewer than D are taken on v.
abbrev pub MaySend : Config → (ℕ → ℕ) → ℕ → Type 0
MaySend c taken v = taken v < c.depth
