-- Reading flits as packets, one flit at a time.
-- Assumes nothing.
use mathlib.Core.Path.{◌≡◌, refl}
use mathlib.Core.Bool.{Bool, true, false, cond, not}
use Rattle.std.specs.Prelude.{Option, None, Some}
use mathlib.Core.List.{List, [], ◌∷◌, ◌++◌, append_assoc}
use Rattle.model.specs.Flit.{Look}
use Rattle.model.specs.History.{Departure}
use Rattle.model.specs.Packets.{Begun, Whole, Packets, head, body, single, tail, next, finished, unfinished}

module _ {Flit : Type 0} (look : Look Flit) where
  -- flits whose kinds are in order, read from where a packet is open or not (`a`) to where one is open or not (`b`)
  abbrev pub Reads : Bool → List Flit → Bool → Type 0
  Reads a [] b = a ≡ b
  Reads a (f ∷ fs) b = (look.starts f ≡ not a) × Reads (not (look.ends f)) fs b

  pub reads_append : (a : Bool) (fs gs : List Flit) (b z : Bool) → Reads a fs b → Reads b gs z → Reads a (fs ++ gs) z
  reads_append a [] gs b z r q = rw r q
  reads_append a (f ∷ fs) gs b z r q = (r.0, reads_append (not (look.ends f)) fs gs b z r.1 q)

-- whether a reading stands inside a packet: with some head
abbrev pub is_open : {Flit : Type 0} → Option (Departure Flit) → Bool
is_open None = false
is_open (Some h) = true

-- the head of the packet that a flit d read there belongs to
abbrev pub head_of : {Flit : Type 0} → Option (Departure Flit) → Departure Flit → Departure Flit
head_of None d = d
head_of (Some h) d = h

module _ {Flit : Type 0} (look : Look Flit) (Fits : Departure Flit → Departure Flit → Type 0) where
  -- whole packets, and then none, or an unfinished one with the given head
  abbrev pub Reading : Option (Departure Flit) → List (Departure Flit) → Type 0
  Reading None ds = Whole look Fits ds
  Reading (Some h) ds = (ps : List (Departure Flit)) × (p : List (Departure Flit)) × (ds ≡ ps ++ p) × Whole look Fits ps
      × Begun look Fits h p

  pub reading_packets : (r : Option (Departure Flit)) (ds : List (Departure Flit)) → Reading r ds → Packets look Fits ds
  reading_packets None ds w = finished w
  reading_packets (Some h) ds w = rw w.2 (unfinished w.3 w.4)

  -- one more flit, of a kind that is in order and of the packet that is open
  pub read_on : (r : Option (Departure Flit)) (ds : List (Departure Flit)) (d : Departure Flit) → Reading r ds → look.starts d.flit
      ≡ not (is_open r) →
      Fits (head_of r d) d → Reading (cond (look.ends d.flit) None (Some (head_of r d))) (ds ++ (d ∷ []))
  read_on r ds d w starts fits = go r (look.ends d.flit) refl w starts fits
    where
      go : (r : Option (Departure Flit)) (ends : Bool) → look.ends d.flit ≡ ends → Reading r ds → look.starts d.flit
          ≡ not (is_open r) →
          Fits (head_of r d) d → Reading (cond ends None (Some (head_of r d))) (ds ++ (d ∷ []))
      go None true e w s f = next w (single s e f)
      go None false e w s f = (ds, d ∷ [], refl, w, head s e f)
      go (Some h) true e w s f = rw (w.2, append_assoc w.0 w.1 (d ∷ [])) (next w.3 (tail w.4 s e f))
      go (Some h) false e w s f = (w.0, w.1 ++ (d ∷ []), rw w.2 (append_assoc w.0 w.1 (d ∷ [])), w.3, body w.4 s e f)
