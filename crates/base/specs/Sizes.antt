-- "Sizes" (01): the configuration, its fields with their bounds, and the largest sizes there are.
-- Assumes nothing.
use Rattle.std.specs.Prelude.{Bool, cond, ◌&&◌, List, [], ◌∷◌, ℕ, suc, ◌≤◌, leb}
use Rattle.std.specs.Prelude.{Option, Some, None, Ok}
use Rattle.base.specs.Numbers as numbers
use Rattle.base.specs.declared.config.Config.{Config}
use Rattle.base.specs.Refusal.{Verdict, refusing}

-- "Ports P 1..8. VCs per port V 1..4."
abbrev pub most_ports : ℕ
most_ports = 8

abbrev pub most_vcs : ℕ
most_vcs = 4

-- so at most 32 channels
abbrev pub most_channels : ℕ
most_channels = 32

-- P, V, D, E, F, B and the arbiter code, in the document's order
abbrev pub sized : ℕ → ℕ → ℕ → ℕ → ℕ → ℕ → ℕ → Config
sized p v d e f b code = record { ports = p; vcs = v; depth = d; downstream = e; forward = f; back = b; arbiter = code }

-- no configuration, as before a file's first block
abbrev pub no_config : Config
no_config = sized 0 0 0 0 0 0 0

abbrev pub with_downstream : ℕ → Config → Config
with_downstream e c = sized c.ports c.vcs c.depth e c.forward c.back c.arbiter

-- each field at least so much and at most what its range ends with: from 1 on a configuration is legal, from 0 on it may be none
pub record Bounds (least : ℕ) (c : Config) : Type 0 where
  pub ports : (least ≤ c.ports) × (c.ports ≤ most_ports)
  pub vcs : (least ≤ c.vcs) × (c.vcs ≤ most_vcs)
  pub depth : (least ≤ c.depth) × (c.depth ≤ 16)
  pub downstream : (least ≤ c.downstream) × (c.downstream ≤ 16)
  pub forward : (least ≤ c.forward) × (c.forward ≤ 8)
  pub back : (least ≤ c.back) × (c.back ≤ 8)
  pub arbiter : (least ≤ c.arbiter) × (c.arbiter ≤ 2)

-- "At most 1,000,000,000 accepted cycles in a run"
abbrev pub cycle_limit : ℕ
cycle_limit = 1000000000

-- "flits at most 8·10^9" (01, the list)
abbrev pub flit_limit : ℕ
flit_limit = 8000000000

-- a value, and the range that it has to be in
pub record Field : Type 0 where
  pub value : ℕ
  pub least : ℕ
  pub most : ℕ

abbrev pub field : ℕ → ℕ → ℕ → Field
field value least most = record { value = value; least = least; most = most }

-- "Ports P 1..8. VCs per port V 1..4. Input depth D 1..16 flits per VC. Downstream depth E 1..16 per output VC. Forward delay F 1..8,
-- credit delay B 1..8 cycles. Arbiter code 1 (round robin) or 2 (matrix)."
abbrev pub fields_of : Config → List Field
fields_of c =
    field c.ports 1 most_ports ∷ field c.vcs 1 most_vcs ∷ field c.depth 1 16 ∷ field c.downstream 1 16 ∷ field c.forward 1 8
    ∷ field c.back 1 8 ∷ field c.arbiter 1 2 ∷ []

unfoldable pub in_range : Field → Bool
in_range f = leb f.least f.value && leb f.value f.most

-- the number of the first field out of its range, where they are counted from k
unfoldable pub first_illegal : ℕ → List Field → Option ℕ
first_illegal k [] = None
first_illegal k (f ∷ fs) = cond (in_range f) (first_illegal (suc k) fs) (Some k)

-- "configuration value out of range; the first such field, 1..7"
unfoldable pub illegal_field : Config → Option ℕ
illegal_field c = first_illegal 1 (fields_of c)

-- the verdict on a configuration: 0, "done", or 1 with the field
abbrev pub judged : Option ℕ → Verdict
judged None = Ok tt
judged (Some k) = refusing numbers.configuration_wrong k
