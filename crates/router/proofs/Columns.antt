-- The table of switch requests: what an input's pick asks for, and the rows, one more at a time.
-- Assumes nothing.
use Rattle.std.proofs.Common.{◌≡◌, refl, ◌∙◌, ap, Bool, false, List, [], ℕ, zero, suc, ◌<◌, ◌≤◌, Option, arith}
use Rattle.std.proofs.Common.{get_or, length, replicate}
use lib.ListN.{get_or-replicate}
use Rattle.base.specs.declared.config.Config.{Config}
use Rattle.base.specs.Bits.{bit, word_of}
use Rattle.base.proofs.Bits.{bit_word}
use Rattle.arbiter.specs.declared.Arbiter.{Arbiter}
use Rattle.arbiter.specs.Arbiter.{choice}
use Rattle.arbiter.proofs.ByKind.{choice_same}
use Rattle.state.specs.declared.InputVc.{InputVc}
use Rattle.state.specs.Fresh.{past_arbiter}
use Rattle.rules.specs.Allocation.{picked}
use Rattle.router.specs.Picks.{pick_in, asks_in}

-- the rows below i are made, and the others are empty
pub record RowsSoFar (c : Config) (inputs : List InputVc) (picks : List (Option ℕ)) (table : List (List Bool)) (i : ℕ) : Type 0 where
  pub long : length table ≡ 8
  pub wide : (j : ℕ) → j < 8 → length (get_or table j []) ≡ 8
  pub made : (j o : ℕ) → j < i → o < 8 → asks_in table j o ≡ picked c inputs j o (pick_in picks j)
  pub blank : (j o : ℕ) → i ≤ j → asks_in table j o ≡ false

-- nothing is in a row, and in a table, of which nothing is made yet
blank_row : (n o : ℕ) → get_or (replicate n false) o false ≡ false
blank_row zero o = refl
blank_row (suc n) zero = refl
blank_row (suc n) (suc o) = blank_row n o

blank_rows : (n j o : ℕ) → asks_in (replicate n (replicate 8 false)) j o ≡ false
blank_rows zero j o = refl
blank_rows (suc n) zero o = blank_row 8 o
blank_rows (suc n) (suc j) o = blank_rows n j o

-- the empty table
pub rows_empty : (c : Config) (inputs : List InputVc) (picks : List (Option ℕ))
    → RowsSoFar c inputs picks (replicate 8 (replicate 8 false)) 0
rows_empty c inputs picks =
    record {
      long = refl;
      wide = λ j h. ap length (get_or-replicate 8 j (replicate 8 false) [] h);
      made = λ j o h g. absurd (omega arith);
      blank = λ j o h. blank_rows 8 j o;
    }

-- which row output o picks
abbrev pub output_choice : Config → List (List Bool) → List (Arbiter 8) → ℕ → Option ℕ
output_choice c table arbiters o = choice 8 c.arbiter c.ports (λ (i : ℕ). asks_in table i o) (get_or arbiters o past_arbiter)

-- the column as a word says who asks
pub column_choice : (c : Config) (table : List (List Bool)) (arbiters : List (Arbiter 8)) (o word : ℕ) → c.ports ≤ 8
    → word ≡ word_of (λ (i : ℕ). asks_in table i o) 8
    → choice 8 c.arbiter c.ports (bit word) (get_or arbiters o past_arbiter) ≡ output_choice c table arbiters o
column_choice c table arbiters o word h e =
    choice_same 8 c.arbiter c.ports (bit word) (λ (i : ℕ). asks_in table i o) (get_or arbiters o past_arbiter)
    (λ i l. ap (λ (x : ℕ). bit x i) e ∙ bit_word (λ (i : ℕ). asks_in table i o) 8 i (omega arith))
