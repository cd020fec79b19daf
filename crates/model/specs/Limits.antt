-- The limits of a cycle, as the history shows them.
-- Assumes nothing.
use Rattle.std.specs.Prelude.{◌≡◌, List, ℕ, ◌+◌, ◌≤◌, ◌<◌, eqb, length}
use Rattle.model.specs.Lists.{keep, All}
use Rattle.model.specs.Sizes.{Config}
use Rattle.model.specs.Router.{Router, OutVc, InVc}
use Rattle.model.specs.History.{Entry, History, Offer, Departure, same, gather, left_on}

-- VC v of port p is one that the configuration has
abbrev pub InRange : Config → ℕ → ℕ → Type 0
InRange c p v = (p < c.ports) × (v < c.vcs)

-- Whatever the entry names is in range.
pub record NamesInRange {Flit : Type 0} (c : Config) (e : Entry Flit) : Type 0 where
  pub offers : All (λ (o : Offer Flit). InRange c o.input o.vc) e.offers
  pub sources : All (λ (d : Departure Flit). InRange c d.input d.vc) e.departures
  pub outputs : All (λ (d : Departure Flit). InRange c d.output d.out_vc) e.departures
  pub reached : All (λ (r : InVc). InRange c r.input r.vc) e.reached
  pub credits : All (λ (r : OutVc). InRange c r.output r.vc) e.credits

-- "at most one flit per input and per output" (02, k)
pub record OncePerPort {Flit : Type 0} (e : Entry Flit) : Type 0 where
  pub inputs : (i : ℕ) → length (keep (λ (d : Departure Flit). eqb d.input i) e.departures) ≤ 1
  pub outputs : (o : ℕ) → length (keep (λ (d : Departure Flit). eqb d.output o) e.departures) ≤ 1

-- the credits that came from downstream for VC w of output o
abbrev pub credits_for : {Flit : Type 0} → ℕ → ℕ → Entry Flit → List OutVc
credits_for o w e = keep (λ (r : OutVc). same r.output r.vc o w) e.credits

abbrev pub credits_on : {Flit : Type 0} → ℕ → ℕ → History Flit → List OutVc
credits_on o w h = gather (credits_for o w) h

-- "Downstream depth E .. per output VC", "Each credit from downstream raises the named output VC's credit by one", "Each winner ..
-- costs one output credit":
-- what left on VC w of output o is as far ahead of the credits that came back for it as its credit is below E.
pub record OutputCredits {Flit : Type 0} (c : Config) (s : Router Flit) (h : History Flit) (o w : ℕ) : Type 0 where
  pub sum : s.out_credit o w + length (left_on o w h) ≡ c.downstream + length (credits_on o w h)
  pub fits : s.out_credit o w ≤ c.downstream
