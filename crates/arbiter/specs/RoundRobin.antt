-- "Round robin over n: a pointer, fresh at 0; the winner is the first requester at or after it, cyclically; the pointer becomes
-- winner+1 modulo n." (01)
-- Assumes nothing.
use Rattle.std.specs.Prelude.{Bool, ℕ, ◌+◌, ◌-◌, ◌%◌}
use Rattle.std.specs.Prelude.{Option}
use Rattle.base.specs.Search.{first_from, or_else}

-- "the first requester at or after it, cyclically": from the pointer up to n, else from 0 up to the pointer
unfoldable pub next_in_turn : ℕ → (ℕ → Bool) → ℕ → Option ℕ
next_in_turn n ask pointer = or_else (first_from ask (n - pointer) pointer) (first_from ask pointer 0)

-- "the pointer becomes winner+1 modulo n"
unfoldable pub pointer_after : ℕ → ℕ → ℕ
pointer_after n winner = (winner + 1) % n
