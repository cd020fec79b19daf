-- When things happen: the cycles in which a channel's flits were accepted and left, and its credits reached their sender.
-- Assumes nothing.
use Rattle.std.specs.Prelude.{List, [], ◌∷◌, map, ℕ, ◌+◌, ◌≤◌}
use Rattle.model.specs.Lists.{keep}
use Rattle.model.specs.Router.{InVc}
use Rattle.model.specs.History.{History, Entry, same, Offer, Departure, gather, offers_on, departures_from}

-- Each time of the second list is at least n after the time in its place of the first.
abbrev pub Later : ℕ → List ℕ → List ℕ → Type 0
Later n firsts [] = Unit {0}
Later n [] (b ∷ seconds) = ⊥
Later n (a ∷ firsts) (b ∷ seconds) = (a + n ≤ b) × Later n firsts seconds

module _ {Flit : Type 0} where
  abbrev pub reached_for : ℕ → ℕ → Entry Flit → List InVc
  reached_for i v e = keep (λ (r : InVc). same r.input r.vc i v) e.reached

  -- the cycles in which the flits of VC v of input i were accepted: one for each flit, the oldest first
  abbrev pub accepted_in : ℕ → ℕ → History Flit → List ℕ
  accepted_in i v h = gather (λ (e : Entry Flit). map (λ (o : Offer Flit). e.cycle) (offers_on i v e)) h

  -- the cycles in which its flits left
  abbrev pub left_in : ℕ → ℕ → History Flit → List ℕ
  left_in i v h = gather (λ (e : Entry Flit). map (λ (d : Departure Flit). e.cycle) (departures_from i v e)) h

  -- the cycles in which its credits reached their sender
  abbrev pub reached_in : ℕ → ℕ → History Flit → List ℕ
  reached_in i v h = gather (λ (e : Entry Flit). map (λ (r : InVc). e.cycle) (reached_for i v e)) h
