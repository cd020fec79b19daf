-- One arbiter of either kind, with room for `places` requesters and used for n of them: its choice, its move, fresh, sound.
-- Where the width, the kind or round robin's pointer is out of range the document has no number: nothing is chosen and nothing moves.
-- Assumes nothing.
use Rattle.std.specs.Prelude.{Bool, cond, not, ◌&&◌, ◌||◌, List, ℕ, eqb, leb, ltb, length, replicate}
use Rattle.std.specs.Prelude.{Option, Some, None}
use Rattle.arbiter.specs.declared.Arbiter.{Arbiter}
use Rattle.arbiter.specs.RoundRobin.{next_in_turn, pointer_after}
use Rattle.arbiter.specs.Matrix.{champion, defeated, fresh_rows, total_order, blank_from, within}

abbrev pub arbiter_of : {places : ℕ} → ℕ → List ℕ → Arbiter places
arbiter_of pointer rows = record { pointer = pointer; rows = rows }

-- one of the two changed, the other kept
abbrev pub with_pointer : {places : ℕ} → ℕ → Arbiter places → Arbiter places
with_pointer pointer a = arbiter_of pointer a.rows

abbrev pub with_rows : {places : ℕ} → List ℕ → Arbiter places → Arbiter places
with_rows rows a = arbiter_of a.pointer rows

-- "Arbiter code 1 (round robin) or 2 (matrix)" (01, sizes)
abbrev pub round_robin : ℕ
round_robin = 1

abbrev pub matrix : ℕ
matrix = 2

-- a known code, and a width that is at least 1 and within the room
unfoldable pub known : ℕ → ℕ → ℕ → Bool
known places code n = (eqb code round_robin || eqb code matrix) && (leb 1 n && leb n places)

-- known, and of round robin, which alone has a pointer, it is below the width
unfoldable pub usable : ℕ → ℕ → ℕ → ℕ → Bool
usable places code n pointer = known places code n && (not (eqb code round_robin) || ltb pointer n)

-- who wins among those of the n that ask
unfoldable pub choice : (places : ℕ) → ℕ → ℕ → (ℕ → Bool) → Arbiter places → Option ℕ
choice places code n ask a =
    cond (usable places code n a.pointer) (cond (eqb code round_robin) (next_in_turn n ask a.pointer) (champion n ask a.rows)) None

-- the arbiter after requester w has won
unfoldable pub moved : (places : ℕ) → ℕ → ℕ → ℕ → Arbiter places → Arbiter places
moved places code n w a =
    cond (usable places code n a.pointer && ltb w n)
    (cond (eqb code round_robin) (with_pointer (pointer_after n w) a) (with_rows (defeated n w a.rows) a)) a

-- "No request: no winner, nothing moves."
unfoldable pub after : (places : ℕ) → ℕ → ℕ → Option ℕ → Arbiter places → Arbiter places
after places code n None a = a
after places code n (Some w) a = moved places code n w a

-- a fresh arbiter; the rows of round robin, and of an arbiter that is not known, are zero
unfoldable pub fresh : (places : ℕ) → ℕ → ℕ → Arbiter places
fresh places code n =
    arbiter_of 0 (cond (known places code n && eqb code matrix) (fresh_rows places n) (replicate places 0))

-- "one row of priority bits for each requester" there is room for; "round-robin pointers are below their width and matrices are a total
-- order, no requester beating itself"; rows and bits beyond the width, and the other kind's state, are zero (01, sound states)
unfoldable pub sound : (places : ℕ) → ℕ → ℕ → Arbiter places → Bool
sound places code n a =
    known places code n && eqb (length a.rows) places
    && cond (eqb code round_robin) (ltb a.pointer n && blank_from 0 places a.rows)
    (eqb a.pointer 0 && (total_order n a.rows && within n a.rows && blank_from n places a.rows))
