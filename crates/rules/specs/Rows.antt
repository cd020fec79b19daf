-- "Cycles: 64 bytes each .., 8 per port: kind (0 no offer), VC, destination, credit (0 none, else 1 + output VC), payload big-endian." (01,
-- blocks): what the row of a port says, and when it breaks the byte rules.
-- Assumes nothing.
use Rattle.std.specs.Prelude.{Bool, cond, not, ◌&&◌, List, ℕ, ◌+◌, ◌*◌, eqb, leb, ltb}
use Rattle.base.specs.declared.config.Config.{Config}
use Rattle.base.specs.declared.flit.Flit.{Flit}
use Rattle.base.specs.Flit.{flit_of, starts_kind, single}
use Rattle.base.specs.Search.{every}
use Rattle.trace.specs.Bytes.{byte, big_endian}

-- byte k of port i's row
abbrev pub row_byte : List ℕ → ℕ → ℕ → ℕ
row_byte part i k = byte part (8 * i + k)

abbrev pub kind_at : List ℕ → ℕ → ℕ
kind_at part i = row_byte part i 0

abbrev pub vc_at : List ℕ → ℕ → ℕ
vc_at part i = row_byte part i 1

abbrev pub destination_at : List ℕ → ℕ → ℕ
destination_at part i = row_byte part i 2

abbrev pub credit_at : List ℕ → ℕ → ℕ
credit_at part i = row_byte part i 3

abbrev pub payload_at : List ℕ → ℕ → ℕ
payload_at part i = big_endian part (8 * i + 4) 4

-- "kind (0 no offer)": whether port i brings a flit
abbrev pub brings : List ℕ → ℕ → Bool
brings part i = not (eqb (kind_at part i) 0)

abbrev pub flit_at : List ℕ → ℕ → Flit
flit_at part i = flit_of (kind_at part i) (destination_at part i) (payload_at part i)

-- "Ports at or beyond P are all zero."
unfoldable pub row_zero : List ℕ → ℕ → Bool
row_zero part i = every 8 (λ (k : ℕ). eqb (row_byte part i k) 0)

-- "With kind 0, VC, destination and payload are 0."
unfoldable pub no_offer : List ℕ → ℕ → Bool
no_offer part i = eqb (vc_at part i) 0 && eqb (destination_at part i) 0 && eqb (payload_at part i) 0

-- "kind (1 head H, 2 body B, 3 tail T, 4 single S)", "Destination is 0 on B and T.", no "VC, destination .. too large"
unfoldable pub legal_offer : Config → List ℕ → ℕ → Bool
legal_offer c part i =
    leb (kind_at part i) single && ltb (vc_at part i) c.vcs
    && cond (starts_kind (kind_at part i)) (ltb (destination_at part i) c.ports) (eqb (destination_at part i) 0)

-- the row of a port that there is; its credit is "1 + output VC", so at most V
unfoldable pub row_legal : Config → List ℕ → ℕ → Bool
row_legal c part i = leb (credit_at part i) c.vcs && cond (brings part i) (legal_offer c part i) (no_offer part i)
