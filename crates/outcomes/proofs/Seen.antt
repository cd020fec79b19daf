-- The law behind each function's line. A line says: nothing is asked, the two results are one, and so is what they leave in lent places.
-- Most contracts are an equation of the result itself, `p ∙ sym q`; the others are one of the result seen through a view.
-- Assumes nothing.
use mathlib.Core.Path.{◌≡◌, sym, ap, ◌∙◌}
use mathlib.Core.List.{List}
use Prim.Native.Nat.{ℕ}
use denote.Ref.{Bor}
use Rattle.trace.specs.Cycles.{slice_of}

-- A view from which there is a way back loses nothing: two outcomes that are seen as the same are the same.
pub seen_once : {X S : Type 0} (view : X → S) (back : S → X) → ((x : X) → back (view x) ≡ x)
    → {s : S} (x y : X) → view x ≡ s → view y ≡ s → x ≡ y
seen_once view back home x y p q = sym (home x) ∙ ap back (p ∙ sym q) ∙ home y

-- memory, start and bytes are all that a slice is
pub slice_whole : (r s : Bor (List ℕ)) → slice_of r ≡ slice_of s → r ≡ s
slice_whole r s e = λ i. record { ref_ptr = ((e i).memory, (e i).start); now = (e i).bytes }
