-- Demand 3, sentence by sentence, of a router s of configuration c after accepted cycle t, and the history h of its run. The counts over
-- the history are those of crates/model: `up_to t n` keeps the cycles up to t−n, `after t n` those after it.
-- Assumes nothing.
use Rattle.std.specs.Prelude.{◌≡◌, List, ◌++◌, ℕ, suc, ◌+◌, ◌<◌, length}
use Rattle.base.specs.declared.config.Config.{Config}
use Rattle.base.specs.declared.flit.Flit.{Flit}
use Rattle.model.specs.Demand3.{ByHeadsPort, LeftByDestination, FromOneSource}
use Rattle.model.specs.History.{History, Numbered, up_to, after, accepted, left_from, left_on, flits}
use Rattle.model.specs.Limits.{NamesInRange}
use Rattle.model.specs.Lists.{All}
use Rattle.model.specs.Packets.{Packets}
use Rattle.state.specs.declared.Router.{Router}
use Rattle.state.specs.Views.{input_at, queue_of, wire_of, home_of, flat, total}
use Rattle.rules.specs.Free.{look, sizes_of}

-- what the router keeps of VC v of input i
module _ (c : Config) (s : Router) (i v : ℕ) where
  abbrev pub stored_credits : ℕ
  stored_credits = (input_at c s.inputs i v).credit

  -- how many flits are buffered, and which
  abbrev pub buffered : ℕ
  buffered = (input_at c s.inputs i v).queued

  abbrev pub queue : List Flit
  queue = queue_of c s.store i v buffered

  -- the flits on the wire, oldest first
  abbrev pub on_wire : List Flit
  on_wire = flat (wire_of c s.wire i v)

  abbrev pub going_home : ℕ
  going_home = total (home_of c s.home i v)

pub record InputDemand (c : Config) (s : Router) (h : History Flit) (t i v : ℕ) : Type 0 where
  -- "on the wire, its offers accepted after t−F"
  pub wire : length (on_wire c s i v) ≡ length (accepted i v (after t c.forward h))
  -- "buffered, its offers accepted up to t−F less its departures up to t"
  pub buffers : buffered c s i v + length (left_from i v (up_to t 0 h)) ≡ length (accepted i v (up_to t c.forward h))
  -- "on the way home, its departures after t−B"
  pub home : going_home c s i v ≡ length (left_from i v (after t c.back h))
  -- "stored credits, D less its offers up to t plus its departures up to t−B"
  pub credits : stored_credits c s i v + length (accepted i v (up_to t 0 h)) ≡ c.depth + length (left_from i v (up_to t c.back h))
  -- ".. and together make the depth."
  pub depth : stored_credits c s i v + length (on_wire c s i v) + buffered c s i v + going_home c s i v ≡ c.depth
  -- "The flits that left from that channel, then those buffered, then those on the wire, are exactly the flits accepted on it, in order"
  pub order : flits (left_from i v h) ++ queue c s i v ++ on_wire c s i v ≡ accepted i v h
  -- the buffered flits are as many as the router counts
  pub queued : length (queue c s i v) ≡ buffered c s i v
  -- ".. each leaving by the port its packet's head named."
  pub ports : Packets look (ByHeadsPort look) (left_from i v h)
  -- the same of the flits accepted, in whose places they left
  pub destinations : LeftByDestination look (left_from i v h) (accepted i v h)

pub record Demand3 (c : Config) (s : Router) (h : History Flit) (t : ℕ) : Type 0 where
  -- the history has one entry for each of the cycles t, .., 1, 0
  pub cycles : Numbered (suc t) h
  -- Every offer, departure and credit names a port below P and a VC below V. The sentences below speak of the channels that there are; a
  -- flit that was accepted or left anywhere else would be in none of them.
  pub names : All (NamesInRange (sizes_of c)) h
  -- "After each accepted cycle, each input channel's ..": the two sentences above
  pub inputs : (i v : ℕ) → i < c.ports → v < c.vcs → InputDemand c s h t i v
  -- "On each output channel the flits form whole packets one after another, at most the last unfinished, none holding flits of two
  -- sources."
  pub outputs : (o w : ℕ) → o < c.ports → w < c.vcs → Packets look FromOneSource (left_on o w h)
