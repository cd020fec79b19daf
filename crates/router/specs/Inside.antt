-- A run inside a call: the parts that travel by value and the arrays that are lent make the run and its buffer.
-- Assumes nothing.
use Rattle.std.specs.Prelude.{◌≡◌, true, false, List, ℕ, ◌*◌, ◌≤◌, ◌<◌, length}
use Rattle.base.specs.declared.config.Config.{Config}
use Rattle.state.specs.Sound.{Sound}
use Rattle.router.specs.declared.running.RunParts.{RunParts}
use Rattle.router.specs.Running.{Writing}
use Rattle.router.specs.Whole.{router_of}

abbrev pub writing_of : Config → RunParts → List ℕ → List ℕ → List ℕ → List ℕ → Writing
writing_of c w store wire home buffer =
    record {
      run = record { router = router_of c w.cycle w.parts store wire home; place = w.place; flits = w.flits; over = w.over };
      at = w.at;
      buffer = buffer;
    }

-- a place inside a buffer, which is no longer than a slice can be
pub record Within (at : ℕ) (buffer : List ℕ) : Type 0 where
  pub inside : at ≤ length buffer
  pub short : length buffer < 18446744073709551616

-- a run that can take another block: a sound router, no more flits than its cycles can have let out, and a place to write at
pub record GoesOn (w : Writing) : Type 0 where
  pub sound : Sound w.run.router
  pub few : w.run.flits ≤ 8 * w.run.router.cycle
  pub room : Within w.at w.buffer

-- one that is not over can, and its configuration block was read
abbrev pub Ongoing : Writing → Type 0
Ongoing w = w.run.over ≡ false → GoesOn w × (w.run.place.configured ≡ true)
