-- "Matrix: the state keeps one row of priority bits for each requester; fresh, a lower number beats a higher; the winner beats every
-- other requester, then loses to all." (01)
-- Assumes nothing.
use Rattle.std.specs.Prelude.{Bool, not, ◌&&◌, ◌||◌, List, [], ◌∷◌, ◌++◌, ℕ, zero, suc, ◌+◌, ◌-◌, ◌^◌, eqb, ltb, get_or, set}
use Rattle.std.specs.Bool.{xor}
use Rattle.std.specs.Prelude.{Option}
use Rattle.base.specs.Bits.{bit, word_of, with_bit}
use Rattle.base.specs.Search.{first_from, every}

-- row i holds those that requester i beats
unfoldable pub beats : List ℕ → ℕ → ℕ → Bool
beats rows i j = bit (get_or rows i 0) j

-- i "beats every other requester" among the n
unfoldable pub beats_every_other : ℕ → (ℕ → Bool) → List ℕ → ℕ → Bool
beats_every_other n ask rows i = every n (λ (j : ℕ). not (ask j) || eqb j i || beats rows i j)

-- "the winner beats every other requester"
unfoldable pub champion : ℕ → (ℕ → Bool) → List ℕ → Option ℕ
champion n ask rows = first_from (λ (i : ℕ). ask i && beats_every_other n ask rows i) n 0

-- the first k rows, each with w among those it beats
unfoldable pub raised : ℕ → ℕ → List ℕ → List ℕ
raised w zero rows = rows
raised w (suc k) rows = set (raised w k rows) k (with_bit w (get_or (raised w k rows) k 0))

-- "then loses to all": each of the n beats w, and w beats nobody
unfoldable pub defeated : ℕ → ℕ → List ℕ → List ℕ
defeated n w rows = set (raised w n rows) w 0

-- the list of f 0, f 1, .. up to k of them
unfoldable pub list_of : (ℕ → ℕ) → ℕ → List ℕ
list_of f zero = []
list_of f (suc k) = list_of f k ++ (f k ∷ [])

-- "fresh, a lower number beats a higher": row i holds the higher numbers below n
unfoldable pub fresh_row : ℕ → ℕ → ℕ
fresh_row n i = word_of (λ (j : ℕ). ltb i j) n

unfoldable pub fresh_rows : ℕ → ℕ → List ℕ
fresh_rows places n = list_of (fresh_row n) places

-- "matrices are a total order, no requester beating itself" (01, sound states): nobody beats itself; of two, exactly one beats the
-- other; who beats one that beats a third beats the third
unfoldable pub total_order : ℕ → List ℕ → Bool
total_order n rows =
    every n (λ (i : ℕ). not (beats rows i i))
    && every n (λ (i : ℕ). every n (λ (j : ℕ). eqb i j || xor (beats rows i j) (beats rows j i)))
    && every n (λ (i : ℕ). every n (λ (j : ℕ). every n (λ (k : ℕ). not (beats rows i j && beats rows j k) || beats rows i k)))

-- the first n rows have no bit beyond the width n
unfoldable pub within : ℕ → List ℕ → Bool
within n rows = every n (λ (i : ℕ). ltb (get_or rows i 0) (2 ^ n))

-- of the rows, those from k on are zero
unfoldable pub blank_from : ℕ → ℕ → List ℕ → Bool
blank_from k places rows = every (places - k) (λ (i : ℕ). eqb (get_or rows (k + i) 0) 0)
