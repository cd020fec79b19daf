-- A line: a delay of as many cycles as it has places, the oldest place first.
-- Assumes nothing.
use Rattle.std.specs.Prelude.{List, [], ◌∷◌, ◌++◌, get_or, drop}

module _ {A : Type 0} where
  -- what comes out in this cycle (z from a line without places)
  abbrev pub out : A → List A → A
  out z line = get_or line 0 z

  -- the line after this cycle, in which x went in
  abbrev pub shift : List A → A → List A
  shift line x = drop 1 line ++ (x ∷ [])
