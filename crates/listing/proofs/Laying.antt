-- The lines of the ports, laid one port after another.
-- Assumes nothing.
use mathlib.Core.Path.{◌≡◌, sym, ap, ◌∙◌}
use mathlib.Core.List.{List, [], ◌∷◌, ◌++◌, append-nil}
use Prim.Native.Nat.{ℕ, ◌+◌}
use Rattle.listing.specs.Inside.{Laid}
use Rattle.listing.specs.Lines.{Line, print, text, by_port}
use Rattle.listing.proofs.Ports.{text_append, text_one, ports_more}
use Rattle.listing.proofs.Stores.{laid_none, laid_as, laid_more}

module _ (f : ℕ → List Line) where
  -- no port yet
  pub ports_none : (l : List ℕ) (p : ℕ) → Laid l p (text (by_port f 0)) l p
  unfolding text by_port
  ports_none l p = laid_none l p

  text_more : (n : ℕ) → text (by_port f n) ++ text (f n) ≡ text (by_port f (n + 1))
  text_more n = sym (ap text (ports_more f n) ∙ text_append (by_port f n) (f n))

  -- a port without a line
  pub ports_same : {l m : List ℕ} {p q : ℕ} (n : ℕ) → f n ≡ [] → Laid l p (text (by_port f n)) m q → Laid l p (text (by_port f (n + 1))) m q
  unfolding text
  ports_same n e x = laid_as x (sym (append-nil (text (by_port f n))) ∙ ap (λ (ls : List Line). text (by_port f n) ++ text ls) (sym e)
      ∙ text_more n)

  -- a port with one
  pub ports_line : {l m o : List ℕ} {p q r : ℕ} (n : ℕ) (line : Line) → f n ≡ line ∷ [] → Laid l p (text (by_port f n)) m q
      → Laid m q (print line) o r
      → Laid l p (text (by_port f (n + 1))) o r
  ports_line n line e x y =
      laid_as (laid_more x y) (ap (λ (bs : List ℕ). text (by_port f n) ++ bs) (sym (text_one line) ∙ ap text (sym e)) ∙ text_more n)
