-- How many of a cycle's lines are F lines: one for each flit out.
-- Assumes nothing.
use mathlib.Core.Path.{◌≡◌, refl, ap, ◌∙◌}
use mathlib.Core.List.{List, [], ◌∷◌, ◌++◌}
use Prim.Native.Nat.{ℕ, zero, suc, ◌+◌, ◌≤◌}
use native.Mathlib.Omega.{arith}
use lib.ListN.{get_or}
use Rattle.std.specs.Prelude.{Option, Some, None}
use Rattle.base.specs.declared.reply.Departure.{Departure}
use Rattle.base.specs.declared.reply.Reply.{Reply}
use Rattle.base.specs.Sizes.{most_ports}
use Rattle.listing.specs.Lines.{Line, credit, flit, finish, refusal, by_port, credit_line, flit_line, cycle_lines, flit_lines}
use Rattle.listing.proofs.Ports.{ports_more}

pub flit_lines_append : (a b : List Line) → flit_lines (a ++ b) ≡ flit_lines a + flit_lines b
unfolding flit_lines
flit_lines_append [] b = omega arith
flit_lines_append (credit cycle input vc ∷ a) b = flit_lines_append a b
flit_lines_append (flit cycle output d ∷ a) b = let e = flit_lines_append a b in omega (arith, e)
flit_lines_append (finish cycles flits ∷ a) b = flit_lines_append a b
flit_lines_append (refusal number cycle place ∷ a) b = flit_lines_append a b

-- one port more
pub flit_lines_more : (f : ℕ → List Line) (n : ℕ) → flit_lines (by_port f (n + 1)) ≡ flit_lines (by_port f n) + flit_lines (f n)
flit_lines_more f n = ap flit_lines (ports_more f n) ∙ flit_lines_append (by_port f n) (f n)

module _ (cycle : ℕ) (reply : Reply) where
  -- a C line is none
  credit_none : (i : ℕ) → flit_lines (credit_line cycle reply i) ≡ 0
  unfolding credit_line flit_lines
  credit_none i = go (get_or reply.senders i None) refl
    where
      go : (r : Option ℕ) → get_or reply.senders i None ≡ r → flit_lines (credit_line cycle reply i) ≡ 0
      go None e = rw e
      go (Some v) e = rw e

  -- an output without a flit has none, one with a flit has one
  pub flit_none : (o : ℕ) → get_or reply.outputs o None ≡ None → flit_lines (flit_line cycle reply o) ≡ 0
  unfolding flit_line flit_lines
  flit_none o e = rw e

  pub flit_one : (o : ℕ) (d : Departure) → get_or reply.outputs o None ≡ Some d → flit_lines (flit_line cycle reply o) ≡ 1
  unfolding flit_line flit_lines
  flit_one o d e = rw e

  pub flit_most : (o : ℕ) → flit_lines (flit_line cycle reply o) ≤ 1
  flit_most o = go (get_or reply.outputs o None) refl
    where
      go : (l : Option Departure) → get_or reply.outputs o None ≡ l → flit_lines (flit_line cycle reply o) ≤ 1
      go None e = let n = flit_none o e in omega (arith, n)
      go (Some d) e = let n = flit_one o d e in omega (arith, n)

  credits_none : (n : ℕ) → flit_lines (by_port (credit_line cycle reply) n) ≡ 0
  unfolding by_port flit_lines
  credits_none zero = refl
  credits_none (suc n) = let e = flit_lines_append (by_port (credit_line cycle reply) n) (credit_line cycle reply n) in
      let f = credits_none n in let g = credit_none n in omega (arith, e, f, g)

  pub flits_most : (n : ℕ) → flit_lines (by_port (flit_line cycle reply) n) ≤ n
  unfolding by_port flit_lines
  flits_most zero = omega arith
  flits_most (suc n) = let e = flit_lines_append (by_port (flit_line cycle reply) n) (flit_line cycle reply n) in let f = flits_most n in
      let g = flit_most n in omega (arith, e, f, g)

  -- of a cycle's lines only those of the outputs count
  pub cycle_flit_lines : flit_lines (cycle_lines cycle reply) ≡ flit_lines (by_port (flit_line cycle reply) most_ports)
  unfolding cycle_lines
  cycle_flit_lines =
      flit_lines_append (by_port (credit_line cycle reply) most_ports) (by_port (flit_line cycle reply) most_ports)
      ∙ ap (λ (n : ℕ). n + flit_lines (by_port (flit_line cycle reply) most_ports)) (credits_none most_ports)
      ∙ (let n = flit_lines (by_port (flit_line cycle reply) most_ports) in omega arith)
