-- "A flit has a kind (1 head H, 2 body B, 3 tail T, 4 single S), a destination port and a 32-bit payload." (01, sizes)
-- Assumes nothing.
use Rattle.std.specs.Prelude.{Bool, cond, ◌||◌, ℕ, ◌+◌, ◌*◌, ◌/◌, ◌%◌, ◌^◌, eqb}
use Rattle.base.specs.declared.flit.Flit.{Flit}

-- the four kinds
abbrev pub head : ℕ
head = 1

abbrev pub body : ℕ
body = 2

abbrev pub tail : ℕ
tail = 3

abbrev pub single : ℕ
single = 4

-- where in a flit's word its three parts lie: the payload in the low 32 bits, the destination in the next 3, the kind in the 3 above
unfoldable pub flit_of : ℕ → ℕ → ℕ → Flit
flit_of kind destination payload = record { word = kind * 2 ^ 35 + destination * 2 ^ 32 + payload }

unfoldable pub kind_of : Flit → ℕ
kind_of f = f.word / 2 ^ 35 % 8

unfoldable pub destination_of : Flit → ℕ
destination_of f = f.word / 2 ^ 32 % 8

unfoldable pub payload_of : Flit → ℕ
payload_of f = f.word % 2 ^ 32

-- "A packet is S alone, or H, any number of B, then T."
unfoldable pub starts_kind : ℕ → Bool
starts_kind kind = eqb kind head || eqb kind single

unfoldable pub ends_kind : ℕ → Bool
ends_kind kind = eqb kind tail || eqb kind single

-- "Kind is its letter" (01, the list): H, B, T, S as their ASCII codes; 0 for a number that is no kind
unfoldable pub letter_of : ℕ → ℕ
letter_of kind = cond (eqb kind head) 72 (cond (eqb kind body) 66 (cond (eqb kind tail) 84 (cond (eqb kind single) 83 0)))
