-- Demand 3, sentence by sentence, of a router s after cycle t and its history h.
-- Assumes nothing.
use Rattle.std.specs.Prelude.{◌≡◌, true, List, [], ◌∷◌, ◌++◌, ℕ, suc, ◌+◌, ◌<◌, length}
use Rattle.model.specs.Lists.{All}
use Rattle.model.specs.Sizes.{Config}
use Rattle.model.specs.Flit.{Look}
use Rattle.model.specs.Channel.{Channel, stored, on_wire, going_home}
use Rattle.model.specs.Router.{Router}
use Rattle.model.specs.History.{History, Numbered, Departure, up_to, after, accepted, left_from, left_on, flits}
use Rattle.model.specs.Limits.{NamesInRange}
use Rattle.model.specs.Packets.{Packets}

-- leaving by the port that the packet's head named
abbrev pub ByHeadsPort : {Flit : Type 0} → Look Flit → Departure Flit → Departure Flit → Type 0
ByHeadsPort look h d = d.output ≡ look.port h.flit

-- "each leaving by the port its packet's head named", of the head as it was accepted, whatever flit the history puts down as leaving: if
-- the k-th flit accepted starts a packet, the k-th departure left by its destination. A departure before its flit was accepted is refused.
abbrev pub LeftByDestination : {Flit : Type 0} → Look Flit → List (Departure Flit) → List Flit → Type 0
LeftByDestination look [] taken = Unit {0}
LeftByDestination look (d ∷ ds) [] = ⊥
LeftByDestination look (d ∷ ds) (f ∷ taken) = (look.starts f ≡ true → d.output ≡ look.port f) × LeftByDestination look ds taken

-- coming from the same source as the packet's head
abbrev pub FromOneSource : {Flit : Type 0} → Departure Flit → Departure Flit → Type 0
FromOneSource h d = (d.input ≡ h.input) × (d.vc ≡ h.vc)

-- Of VC v of input i. `ch` is the channel, F and B are the delays, D is the depth.
pub record InputDemand {Flit : Type 0} (look : Look Flit) (c : Config) (ch : Channel Flit) (h : History Flit) (t i v : ℕ) : Type 0 where
  -- "on the wire, its offers accepted after t−F"
  pub wire : length (on_wire ch) ≡ length (accepted i v (after t c.forward h))
  -- "buffered, its offers accepted up to t−F less its departures up to t"
  pub buffered : length ch.queue + length (left_from i v (up_to t 0 h)) ≡ length (accepted i v (up_to t c.forward h))
  -- "on the way home, its departures after t−B"
  pub home : going_home ch ≡ length (left_from i v (after t c.back h))
  -- "stored credits, D less its offers up to t plus its departures up to t−B"
  pub credits : stored c ch + length (accepted i v (up_to t 0 h)) ≡ c.depth + length (left_from i v (up_to t c.back h))
  -- the stored credits are D less the slots that the sender has taken
  pub slots : stored c ch + ch.taken ≡ c.depth
  -- ".. and together make the depth."
  pub depth : stored c ch + length (on_wire ch) + length ch.queue + going_home ch ≡ c.depth
  -- "The flits that left from that channel, then those buffered, then those on the wire, are exactly the flits accepted on it, in order"
  pub order : flits (left_from i v h) ++ ch.queue ++ on_wire ch ≡ accepted i v h
  -- ".. each leaving by the port its packet's head named."
  pub ports : Packets look (ByHeadsPort look) (left_from i v h)
  -- the same of the flits accepted, in whose places they left
  pub destinations : LeftByDestination look (left_from i v h) (accepted i v h)

pub record Demand3 {Flit : Type 0} (look : Look Flit) (c : Config) (s : Router Flit) (h : History Flit) (t : ℕ) : Type 0 where
  -- the history has one entry for each of the cycles t, .., 1, 0
  pub cycles : Numbered (suc t) h
  -- Every offer, departure and credit names a port below P and a VC below V. The sentences below speak of the channels that there are; a
  -- flit that was accepted or left anywhere else would be in none of them.
  pub names : All (NamesInRange c) h
  -- "After each accepted cycle, each input channel's ..": the two sentences above
  pub inputs : (i v : ℕ) → i < c.ports → v < c.vcs → InputDemand look c (s.channel i v) h t i v
  -- "On each output channel the flits form whole packets one after another, at most the last unfinished, none holding flits of two
  -- sources."
  pub outputs : (o w : ℕ) → o < c.ports → w < c.vcs → Packets look FromOneSource (left_on o w h)
