-- What happens port by port.
-- Assumes nothing.
use Rattle.std.specs.Prelude.{Option, Some, None}
use Rattle.std.specs.Prelude.{ℕ, zero, suc}

-- f at port 0, then at port 1, .., last at port n - 1
unfoldable pub over_ports : {A : Type 0} → ℕ → (A → ℕ → A) → A → A
over_ports zero f s = s
over_ports (suc n) f s = f (over_ports n f s) n

-- "0 none, else 1 + .. VC"
abbrev pub named : ℕ → Option ℕ
named zero = None
named (suc v) = Some v
