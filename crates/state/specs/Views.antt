-- What a router holds, channel by channel: VC v of port i, where i is below P and v below V. Each view takes the parts that it reads.
-- Assumes nothing.
use Rattle.arbiter.specs.declared.Arbiter.{Arbiter}
use Rattle.std.specs.Prelude.{cond, not, ◌&&◌, List, [], ◌∷◌, ◌++◌, map, ℕ, zero, suc, ◌+◌, ◌*◌, ◌/◌, ◌%◌, ◌^◌, eqb, get_or, take, drop}
use Rattle.base.specs.declared.config.Config.{Config}
use Rattle.base.specs.declared.flit.Flit.{Flit}
use Rattle.state.specs.declared.InputVc.{InputVc}
use Rattle.state.specs.declared.OutputVc.{OutputVc}
use Rattle.state.specs.declared.Arbiters.{Arbiters}
use Rattle.state.specs.Fresh.{fresh_input, fresh_output, past_arbiter}
use Rattle.store.specs.Store.{first_slot}

-- "requester number i·V+v": the place of a channel in the arrays
abbrev pub channel_number : Config → ℕ → ℕ → ℕ
channel_number c i v = i * c.vcs + v

abbrev pub input_at : Config → List InputVc → ℕ → ℕ → InputVc
input_at c inputs i v = get_or inputs (channel_number c i v) (fresh_input 0)

abbrev pub output_at : Config → List OutputVc → ℕ → ℕ → OutputVc
output_at c outputs o w = get_or outputs (channel_number c o w) (fresh_output 0)

-- the flit in a slot
abbrev pub slot_flit : ℕ → Flit
slot_flit slot = record { word = slot }

-- "The input store is 512 slots": 16 for each channel, of which the first so many hold its queue
unfoldable pub queue_at : List ℕ → ℕ → ℕ → List Flit
queue_at store base queued = map slot_flit (take queued (take 16 (drop base store)))

-- the flits queued on a channel, the front first, where so many are queued
abbrev pub queue_of : Config → List ℕ → ℕ → ℕ → ℕ → List Flit
queue_of c store i v queued = queue_at store (first_slot (channel_number c i v)) queued

-- the wire's place k of port i, the oldest being 0: empty, or a flit with its VC above it
abbrev pub wire_place : List ℕ → ℕ → ℕ → ℕ
wire_place wire k i = get_or wire (8 * k + i) 0

abbrev pub wire_flit : ℕ → Flit
wire_flit place = record { word = place % 2 ^ 38 }

abbrev pub wire_vc : ℕ → ℕ
wire_vc place = place / 2 ^ 38

-- f 0, then f 1, .., last f (n - 1)
unfoldable pub places : {A : Type 0} → ℕ → (ℕ → A) → List A
places zero f = []
places (suc n) f = places n f ++ (f n ∷ [])

-- the flits of a wire place that are on VC v
abbrev pub on_vc : ℕ → ℕ → List Flit
on_vc v place = cond (not (eqb place 0) && eqb (wire_vc place) v) (wire_flit place ∷ []) []

-- the wire of a channel, a place for each cycle, the oldest first
unfoldable pub wire_of : Config → List ℕ → ℕ → ℕ → List (List Flit)
wire_of c wire i v = places c.forward (λ (k : ℕ). on_vc v (wire_place wire k i))

-- the home line's place k of port i, the oldest being 0: empty, or 1 + VC
abbrev pub home_place : List ℕ → ℕ → ℕ → ℕ
home_place home k i = get_or home (8 * k + i) 0

-- the credits of a home place that go to VC v
abbrev pub to_vc : ℕ → ℕ → ℕ
to_vc v place = cond (eqb place (v + 1)) 1 0

-- the credits on their way home to VC v of port i, a place for each cycle, the oldest first
unfoldable pub home_of : Config → List ℕ → ℕ → ℕ → List ℕ
home_of c home i v = places c.back (λ (k : ℕ). to_vc v (home_place home k i))

-- the lists of a list, one after another
unfoldable pub flat : {A : Type 0} → List (List A) → List A
flat [] = []
flat (x ∷ xs) = x ++ flat xs

-- the sum
unfoldable pub total : List ℕ → ℕ
total [] = 0
total (n ∷ ns) = n + total ns

-- the arbiters: an output's over all input VCs, an input's over its VCs, an output's over the inputs
abbrev pub vc_arbiter : Arbiters → ℕ → Arbiter 32
vc_arbiter a o = get_or a.vcs o past_arbiter

abbrev pub input_arbiter : Arbiters → ℕ → Arbiter 8
input_arbiter a i = get_or a.inputs i past_arbiter

abbrev pub output_arbiter : Arbiters → ℕ → Arbiter 8
output_arbiter a o = get_or a.outputs o past_arbiter
