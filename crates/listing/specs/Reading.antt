-- Reading the list back: a number from its digits, a line from its words. `Reread` proves that it inverts the printing.
-- Assumes nothing.
use Rattle.std.specs.Prelude.{cond, List, [], ◌∷◌, ◌++◌, ℕ, ◌+◌, ◌-◌, ◌*◌, eqb, ltb, get_or}
use Rattle.base.specs.Flit.{head, body, tail, single}
use Rattle.listing.specs.Lines.{Line, credit, flit, finish, refusal, space, newline}

-- the value of a digit: `0` to `9`, then `a` to `f`
unfoldable pub digit_of : ℕ → ℕ
digit_of c = cond (ltb c 58) (c - 48) (c - 87)

-- the number that n and then these digits in base b are
unfoldable pub value_from : ℕ → ℕ → List ℕ → ℕ
value_from b n [] = n
value_from b n (c ∷ cs) = value_from b (n * b + digit_of c) cs

unfoldable pub value_of : ℕ → List ℕ → ℕ
value_of b cs = value_from b 0 cs

-- the kind of a letter
unfoldable pub kind_of_letter : ℕ → ℕ
kind_of_letter c = cond (eqb c 72) head (cond (eqb c 66) body (cond (eqb c 84) tail single))

-- the words up to the next newline, and the bytes after it
pub record Cut : Type 0 where
  pub words : List (List ℕ)
  pub rest : List ℕ

-- a word so far, and the bytes that follow: a space ends the word, a newline the line
unfoldable pub cut : List ℕ → List ℕ → Cut
cut word [] = record { words = word ∷ []; rest = [] }
cut word (c ∷ cs) =
    cond (eqb c newline) (record { words = word ∷ []; rest = cs })
    (cond (eqb c space) (record { words = word ∷ (cut [] cs).words; rest = (cut [] cs).rest }) (cut (word ++ (c ∷ [])) cs))

-- the line of some words: the first names its kind; where it names none it is taken for an R line
unfoldable pub line_of : List (List ℕ) → Line
line_of words =
    cond (eqb first 67) (credit (number 1) (number 2) (number 3))
    (cond (eqb first 70)
    (flit (number 1) (number 2)
    (record {
      out_vc = number 3;
      input = number 4;
      vc = number 5;
      kind = kind_of_letter (get_or (get_or words 6 []) 0 0);
      payload = value_of 16 (get_or words 7 []);
    }))
    (cond (eqb first 69) (finish (number 1) (number 2)) (refusal (number 1) (number 2) (number 3))))
  where
    first : ℕ
    first = get_or (get_or words 0 []) 0 0

    number : ℕ → ℕ
    number i = value_of 10 (get_or words i [])

-- the first line of some bytes, and what follows it
pub record Read : Type 0 where
  pub line : Line
  pub rest : List ℕ

unfoldable pub read_line : List ℕ → Read
read_line bytes = record { line = line_of (cut [] bytes).words; rest = (cut [] bytes).rest }
