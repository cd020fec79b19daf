-- The history: what went in and out in each accepted cycle, and how to count over it.
-- Assumes nothing.
use Rattle.std.specs.Prelude.{◌≡◌, Bool, ◌&&◌, List, [], ◌∷◌, ◌++◌, map, ℕ, suc, ◌+◌, leb, ltb, eqb}
use Rattle.model.specs.Lists.{keep}
use Rattle.model.specs.Router.{OutVc, InVc}

-- an accepted offer
pub record Offer (Flit : Type 0) : Type 0 where
  pub input : ℕ
  pub vc : ℕ
  pub flit : Flit

-- a flit that left: by which output VC, from which input VC
pub record Departure (Flit : Type 0) : Type 0 where
  pub output : ℕ
  pub out_vc : ℕ
  pub input : ℕ
  pub vc : ℕ
  pub flit : Flit

-- one accepted cycle, under its number
pub record Entry (Flit : Type 0) : Type 0 where
  pub cycle : ℕ
  pub offers : List (Offer Flit)
  pub departures : List (Departure Flit)
  pub reached : List InVc  -- the credits that reached their senders
  pub credits : List OutVc  -- the credits that came from downstream

-- the newest cycle first
abbrev pub History : Type 0 → Type 0
History Flit = List (Entry Flit)

-- "accepted cycles in a run, numbered from 0" (01, Sizes): the history of n cycles has one entry for each of n − 1, .., 1, 0
abbrev pub Numbered : {Flit : Type 0} → ℕ → History Flit → Type 0
Numbered n [] = n ≡ 0
Numbered n (e ∷ h) = (n ≡ suc e.cycle) × Numbered e.cycle h

-- whether VC v of port i is VC u of port j
abbrev pub same : ℕ → ℕ → ℕ → ℕ → Bool
same i v j u = eqb i j && eqb v u

module _ {Flit : Type 0} where
  -- what `of` finds in the entries, the oldest first
  abbrev pub gather : {A : Type 0} → (Entry Flit → List A) → History Flit → List A
  gather of [] = []
  gather of (e ∷ h) = gather of h ++ of e

  -- "up to t−n": the cycles c with c + n ≤ t
  abbrev pub up_to : ℕ → ℕ → History Flit → History Flit
  up_to t n h = keep (λ (e : Entry Flit). leb (e.cycle + n) t) h

  -- "after t−n": the cycles c with t < c + n
  abbrev pub after : ℕ → ℕ → History Flit → History Flit
  after t n h = keep (λ (e : Entry Flit). ltb t (e.cycle + n)) h

  abbrev pub offers_on : ℕ → ℕ → Entry Flit → List (Offer Flit)
  offers_on i v e = keep (λ (o : Offer Flit). same o.input o.vc i v) e.offers

  abbrev pub departures_from : ℕ → ℕ → Entry Flit → List (Departure Flit)
  departures_from i v e = keep (λ (d : Departure Flit). same d.input d.vc i v) e.departures

  abbrev pub departures_on : ℕ → ℕ → Entry Flit → List (Departure Flit)
  departures_on o w e = keep (λ (d : Departure Flit). same d.output d.out_vc o w) e.departures

  -- the flits accepted on VC v of input i, the first accepted first
  abbrev pub accepted : ℕ → ℕ → History Flit → List Flit
  accepted i v h = gather (λ (e : Entry Flit). map (λ (o : Offer Flit). o.flit) (offers_on i v e)) h

  -- what left from VC v of input i, the first to leave first
  abbrev pub left_from : ℕ → ℕ → History Flit → List (Departure Flit)
  left_from i v h = gather (departures_from i v) h

  -- what left on VC w of output o, the first to leave first
  abbrev pub left_on : ℕ → ℕ → History Flit → List (Departure Flit)
  left_on o w h = gather (departures_on o w) h

  abbrev pub flits : List (Departure Flit) → List Flit
  flits ds = map (λ (d : Departure Flit). d.flit) ds
