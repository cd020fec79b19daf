-- The byte rules of a row, each by itself (01, "Blocks", and 3 of "Numbers given back"): what may be wrong with the row of port i.
-- `Rows` has the same as tests.
-- Assumes nothing.
use Rattle.std.specs.Prelude.{◌≡◌, ◌⊎◌, List, ℕ, ◌≤◌, ◌<◌}
use Rattle.base.specs.declared.config.Config.{Config}
use Rattle.base.specs.Flit.{head, body, tail, single}
use Rattle.rules.specs.Rows.{row_byte, kind_at, vc_at, destination_at, credit_at}

pub data BreaksRow (c : Config) (part : List ℕ) (i : ℕ) : Type 0 where
  -- "Ports at or beyond P are all zero."
  beyond_p : (k : ℕ) → c.ports ≤ i → k < 8 → 0 < row_byte part i k → BreaksRow c part i
  -- "kind (1 head H, 2 body B, 3 tail T, 4 single S)", "kind (0 no offer)"
  no_such_kind : i < c.ports → single < kind_at part i → BreaksRow c part i
  -- "With kind 0, VC, destination and payload are 0."
  idle_vc : i < c.ports → kind_at part i ≡ 0 → 0 < vc_at part i → BreaksRow c part i
  idle_destination : i < c.ports → kind_at part i ≡ 0 → 0 < destination_at part i → BreaksRow c part i
  idle_payload : (k : ℕ) → i < c.ports → kind_at part i ≡ 0 → 4 ≤ k → k < 8 → 0 < row_byte part i k → BreaksRow c part i
  -- "VC .. too large", of a flit
  vc_too_large : i < c.ports → 0 < kind_at part i → c.vcs ≤ vc_at part i → BreaksRow c part i
  -- "destination .. too large", on H and S
  destination_too_large : i < c.ports → (kind_at part i ≡ head) ⊎ (kind_at part i ≡ single) → c.ports ≤ destination_at part i
      → BreaksRow c part i
  -- "Destination is 0 on B and T."
  destination_inside : i < c.ports → (kind_at part i ≡ body) ⊎ (kind_at part i ≡ tail) → 0 < destination_at part i → BreaksRow c part i
  -- "credit too large"; it is "0 none, else 1 + output VC"
  credit_too_large : i < c.ports → c.vcs < credit_at part i → BreaksRow c part i
