-- Two histories that tell the same, though they may list the departures of a cycle in another order: `Step.entry` lists them input by
-- input, a router's reply output by output.
-- Assumes nothing.
use Rattle.std.specs.Prelude.{◌≡◌, Bool, [], ◌∷◌, ℕ, length}
use Rattle.model.specs.Lists.{keep}
use Rattle.model.specs.History.{Departure, Entry, History, departures_from, departures_on}

-- one cycle
pub record SameCycle {Flit : Type 0} (a b : Entry Flit) : Type 0 where
  pub cycle : a.cycle ≡ b.cycle
  pub offers : a.offers ≡ b.offers
  pub reached : a.reached ≡ b.reached
  pub credits : a.credits ≡ b.credits
  -- of each input VC and of each output VC the same departures, in their order
  pub from : (i v : ℕ) → departures_from i v a ≡ departures_from i v b
  pub on : (o w : ℕ) → departures_on o w a ≡ departures_on o w b
  -- none is lost and none doubled: whatever is asked of a departure, it is true of as many
  pub many : (p : Departure Flit → Bool) → length (keep p a.departures) ≡ length (keep p b.departures)

-- cycle by cycle
abbrev pub Alike : {Flit : Type 0} → History Flit → History Flit → Type 0
Alike [] [] = Unit {0}
Alike [] (b ∷ g) = ⊥
Alike (a ∷ h) [] = ⊥
Alike (a ∷ h) (b ∷ g) = SameCycle a b × Alike h g
