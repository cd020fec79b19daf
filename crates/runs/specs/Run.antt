-- A run between two calls, and when it is sound.
-- Assumes nothing.
use Rattle.std.specs.Prelude.{Bool, false, cond, not, ◌&&◌, ◌||◌, ℕ, ◌-◌, ◌*◌, eqb, leb}
use Rattle.base.specs.Search.{any}
use Rattle.base.specs.Sizes.{no_config}
use Rattle.state.specs.Blank.{blank}
use Rattle.state.specs.Fresh.{fresh_router}
use Rattle.state.specs.Sound.{sound}
use Rattle.trace.specs.declared.place.Place.{Place}
use Rattle.trace.specs.Blocks.{most_held}
use Rattle.trace.specs.Place as place
use Rattle.trace.specs.Place.{cycle_blocks, good_place}
use Rattle.runs.specs.declared.Run.{Run}

-- before the first block of a file: no router yet, nothing read, nothing printed
unfoldable pub started : Run
started = record { router = fresh_router no_config; place = place.start; flits = 0; over = false }

-- A run skips no cycle. So between two blocks some file leads to its place, and each cycle block before brought at least one accepted
-- cycle.
unfoldable pub between_blocks : Place → ℕ → Bool
between_blocks p c = good_place p c && leb (cycle_blocks p) c

-- the place before the last block
abbrev pub before : Place → Place
before p = record { number = p.number - 1; configured = p.configured; ended = p.ended }

-- The run stopped in the last block at a cycle that was refused: it comes after the configuration block, and there is k at most 6 such that
-- without that block and with k fewer cycles the run stood between two blocks.
unfoldable pub stopped_inside : Place → ℕ → Bool
stopped_inside p c =
    p.configured && (leb 1 p.number && (not p.ended && any most_held (λ (k : ℕ). leb k c && between_blocks (before p) (c - k))))

-- some file leads a run to this place with so many cycles accepted
unfoldable pub place_right : Place → ℕ → Bool → Bool
place_right p c over = between_blocks p c || (over && stopped_inside p c)

-- A run is 2 where a part of it cannot be: its place is one that no file leads to with so many cycles accepted; or after the configuration
-- block the router is not sound, or more flits have left than one by each output in each cycle; or before it there is a router, or a flit.
unfoldable pub run_sound : Run → Bool
run_sound n =
    place_right n.place n.router.cycle n.over
    && cond n.place.configured (sound n.router && leb n.flits (n.router.config.ports * n.router.cycle))
    (blank n.router && eqb n.flits 0)
