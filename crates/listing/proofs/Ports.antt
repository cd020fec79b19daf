-- Lines port by port: what is printable and what the bytes are, for one port more.
-- Assumes nothing.
use mathlib.Core.Path.{◌≡◌, refl, sym, ap, ap₂, ◌∙◌}
use mathlib.Core.Bool.{Bool, true, false, ◌&&◌, and-false, true≢false}
use mathlib.Core.List.{List, [], ◌∷◌, ◌++◌, append_assoc, append-nil}
use Prim.Native.Nat.{ℕ, zero, suc, ◌+◌, ◌<◌}
use native.Mathlib.Nat.{not-suc-le-zero}
use native.Mathlib.Numerals.{add-one}
use native.Mathlib.Omega.{arith}
use lib.Arith.{lt_of_le-ne}
use lib.Dec.{eqb}
use lib.ListN.{get_or}
use borrow.Author.Tests.{eqb-true, eqb-false}
use Rattle.std.specs.Prelude.{Some, None}
use Rattle.base.specs.declared.reply.Departure.{Departure}
use Rattle.base.specs.declared.reply.Reply.{Reply}
use Rattle.listing.specs.Lines.{Line, credit, flit, values_of, all_in_range, printable, print, text, by_port, credit_line, flit_line}
use Rattle.listing.specs.Lines.{cycle_lines}
use Rattle.base.proofs.Search.{both}

-- the bytes of two runs of lines
pub text_append : (ks ls : List Line) → text (ks ++ ls) ≡ text ks ++ text ls
unfolding text
text_append [] ls = refl
text_append (k ∷ ks) ls = ap (λ (bs : List ℕ). print k ++ bs) (text_append ks ls) ∙ sym (append_assoc (print k) (text ks) (text ls))

-- one line's bytes
pub text_one : (l : Line) → text (l ∷ []) ≡ print l
unfolding text
text_one l = append-nil (print l)

pub printable_append : (ks ls : List Line) → printable (ks ++ ls) ≡ (printable ks && printable ls)
unfolding printable
printable_append [] ls = refl
printable_append (k ∷ ks) ls = go (all_in_range (values_of k)) (printable_append ks ls)
  where
    go : (b : Bool) → printable (ks ++ ls) ≡ (printable ks && printable ls) → (b && printable (ks ++ ls))
        ≡ ((b && printable ks) && printable ls)
    go true e = e
    go false e = refl

-- one port more
pub ports_more : (f : ℕ → List Line) (n : ℕ) → by_port f (n + 1) ≡ by_port f n ++ f n
unfolding by_port
ports_more f n = ap (by_port f) (add-one n)

module _ (f : ℕ → List Line) where
  pub printable_more : (n : ℕ) → printable (by_port f n) ≡ true → printable (f n) ≡ true → printable (by_port f (n + 1)) ≡ true
  printable_more n before here =
      ap printable (ports_more f n) ∙ printable_append (by_port f n) (f n) ∙ ap₂ (λ (a b : Bool). a && b) before here

  -- a port whose lines are not printable spoils them all
  pub printable_stops : (n k : ℕ) → n < k → printable (f n) ≡ false → printable (by_port f k) ≡ false
  unfolding by_port
  printable_stops n zero h bad = absurd (not-suc-le-zero h)
  printable_stops n (suc k) h bad =
      printable_append (by_port f k) (f k) ∙ go (eqb n k) refl (λ (g : n < k). printable_stops n k g bad)
    where
      go : (b : Bool) → eqb n k ≡ b → (n < k → printable (by_port f k) ≡ false) → (printable (by_port f k) && printable (f k)) ≡ false
      go true e below = ap (λ (b : Bool). printable (by_port f k) && b) (ap (λ (m : ℕ). printable (f m)) (sym (eqb-true n k e)) ∙ bad)
          ∙ and-false (printable (by_port f k))
      go false e below = ap (λ (b : Bool). b && printable (f k)) (below (lt_of_le-ne (omega arith) (eqb-false n k e)))

  -- where all ports' lines are printable, each port's are
  pub printable_at : (n k : ℕ) → n < k → printable (by_port f k) ≡ true → printable (f n) ≡ true
  printable_at n k h all = go (printable (f n)) refl
    where
      go : (b : Bool) → printable (f n) ≡ b → b ≡ true
      go true e = refl
      go false e = absurd (true≢false (sym all ∙ printable_stops n k h e))

-- what a port has, by what the reply says of it
module _ (cycle : ℕ) (reply : Reply) (i : ℕ) where
  pub no_credit : get_or reply.senders i None ≡ None → credit_line cycle reply i ≡ []
  unfolding credit_line
  no_credit e = rw e

  pub one_credit : (vc : ℕ) → get_or reply.senders i None ≡ Some vc → credit_line cycle reply i ≡ credit cycle i vc ∷ []
  unfolding credit_line
  one_credit vc e = rw e

  pub no_flit : get_or reply.outputs i None ≡ None → flit_line cycle reply i ≡ []
  unfolding flit_line
  no_flit e = rw e

  pub one_flit : (d : Departure) → get_or reply.outputs i None ≡ Some d → flit_line cycle reply i ≡ flit cycle i d ∷ []
  unfolding flit_line
  one_flit d e = rw e

-- a step from a port to the next
pub ruleset one_more = (printable_more, no_credit, one_credit, no_flit, one_flit)

-- a cycle's bytes are those of its C lines, then those of its F lines
pub cycle_text : (cycle : ℕ) (reply : Reply)
    → text (by_port (credit_line cycle reply) 8) ++ text (by_port (flit_line cycle reply) 8) ≡ text (cycle_lines cycle reply)
unfolding cycle_lines
cycle_text cycle reply = sym (text_append (by_port (credit_line cycle reply) 8) (by_port (flit_line cycle reply) 8))

-- a cycle's lines are printable when those of its credits and those of its flits are
pub cycle_printable : (cycle : ℕ) (reply : Reply)
    → printable (cycle_lines cycle reply) ≡ (printable (by_port (credit_line cycle reply) 8) && printable (by_port (flit_line cycle reply) 8))
unfolding cycle_lines
cycle_printable cycle reply = printable_append (by_port (credit_line cycle reply) 8) (by_port (flit_line cycle reply) 8)

pub cycle_parts : (cycle : ℕ) (reply : Reply) → printable (cycle_lines cycle reply) ≡ true
    → (printable (by_port (credit_line cycle reply) 8) ≡ true) × (printable (by_port (flit_line cycle reply) 8) ≡ true)
cycle_parts cycle reply ok =
    both (printable (by_port (credit_line cycle reply) 8)) (printable (by_port (flit_line cycle reply) 8))
    (sym (cycle_printable cycle reply) ∙ ok)
