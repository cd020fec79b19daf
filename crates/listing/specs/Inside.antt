-- What the writer's own functions tell each other. The public contracts do not speak of it.
-- Assumes nothing.
use Rattle.std.specs.Prelude.{◌≡◌, Bool, cond, List, ℕ, ◌+◌, ◌<◌, length, drop}
use Rattle.std.specs.Prelude.{Result, Ok, Err}
use Rattle.std.proofs.lemmas.List.Edits.{sets}
use Rattle.listing.specs.declared.Unwritten.{Unwritten}
use Rattle.listing.specs.declared.Unwritten.TheVariants.{NoRoom, OutOfRange}
use Rattle.listing.specs.Digits.{decimal}

-- bytes stored one after another from a place on, and the place after them
pub record Laid (before : List ℕ) (place : ℕ) (bytes : List ℕ) (after : List ℕ) (next : ℕ) : Type 0 where
  pub stored : after ≡ sets before place bytes
  pub ahead : next ≡ place + length bytes

-- ten digits, and how many zeros lead; a number of up to ten digits stands after them
pub record Spelled (n : ℕ) (digits : List ℕ) (zeros : ℕ) : Type 0 where
  pub ten : length digits ≡ 10
  pub shown : zeros < 10
  pub stands : n < 10000000000 → drop zeros digits ≡ decimal n

-- what a write answers to its two tests: of the ranges, then of the room
abbrev pub allowed : Bool → Bool → Result Unit Unwritten
allowed in_range lacking = cond in_range (cond lacking (Err NoRoom) (Ok tt)) (Err OutOfRange)
