-- How flits that left read as packets.
-- Assumes nothing.
use Rattle.std.specs.Prelude.{◌≡◌, true, false, List, [], ◌∷◌, ◌++◌}
use Rattle.model.specs.Flit.{Look}
use Rattle.model.specs.History.{Departure}

-- `Fits h d` is what is asked of each flit d of a packet whose first flit is h.
module _ {Flit : Type 0} (look : Look Flit) (Fits : Departure Flit → Departure Flit → Type 0) where
  -- H, any number of B: a packet with the head h, not yet finished
  pub data Begun (h : Departure Flit) : List (Departure Flit) → Type 0 where
    head : look.starts h.flit ≡ true → look.ends h.flit ≡ false → Fits h h → Begun h (h ∷ [])
    body : {p : List (Departure Flit)} {d : Departure Flit} → Begun h p → look.starts d.flit ≡ false → look.ends d.flit ≡ false
        → Fits h d →
        Begun h (p ++ (d ∷ []))

  -- "A packet is S alone, or H, any number of B, then T." (01, Sizes)
  pub data Packet : List (Departure Flit) → Type 0 where
    single : {h : Departure Flit} → look.starts h.flit ≡ true → look.ends h.flit ≡ true → Fits h h → Packet (h ∷ [])
    tail : {h d : Departure Flit} {p : List (Departure Flit)} → Begun h p → look.starts d.flit ≡ false → look.ends d.flit ≡ true
        → Fits h d →
        Packet (p ++ (d ∷ []))

  -- "whole packets one after another"
  pub data Whole : List (Departure Flit) → Type 0 where
    nothing : Whole []
    next : {ps p : List (Departure Flit)} → Whole ps → Packet p → Whole (ps ++ p)

  -- "whole packets one after another, at most the last unfinished" (demand 3)
  pub data Packets : List (Departure Flit) → Type 0 where
    finished : {ps : List (Departure Flit)} → Whole ps → Packets ps
    unfinished : {ps p : List (Departure Flit)} {h : Departure Flit} → Whole ps → Begun h p → Packets (ps ++ p)
