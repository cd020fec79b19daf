-- Counting the flits of a reply output by output counts its F lines.
-- Assumes nothing.
use Rattle.std.specs.Prelude.{Option, Some, None, is_some}
use mir.Val.{bool_byte}
use mathlib.Core.Path.{◌≡◌, refl, sym, ap, ◌∙◌}
use mathlib.Core.List.{List}
use Prim.Native.Nat.{ℕ, ◌+◌}
use native.Mathlib.Omega.{arith}
use lib.ListN.{get_or}
use Rattle.base.specs.declared.reply.Departure.{Departure}
use Rattle.base.specs.declared.reply.Reply.{Reply}
use Rattle.listing.specs.Lines.{by_port, flit_line, flit_lines, cycle_lines}
use Rattle.listing.proofs.Counting.{flit_lines_more, flit_none, flit_one, cycle_flit_lines}

-- of the first n outputs so many have a flit, whatever the senders and the cycle
abbrev pub CountIs : List (Option Departure) → ℕ → ℕ → Type 0
CountIs outputs n count = (senders : List (Option ℕ)) (cycle : ℕ) → count
    ≡ flit_lines (by_port (flit_line cycle (record { senders = senders; outputs = outputs })) n)

module _ (outputs : List (Option Departure)) where
  pub count_none : CountIs outputs 0 0
  unfolding by_port flit_lines
  count_none senders cycle = refl

  -- one output more
  pub counted_more : (n count : ℕ) → CountIs outputs n count → CountIs outputs (n + 1) (count + bool_byte (is_some (get_or outputs n None)))
  counted_more n count h senders cycle = go (get_or outputs n None) refl
    where
      r : Reply
      r = record { senders = senders; outputs = outputs }

      go : (l : Option Departure) → get_or outputs n None ≡ l
          → count + bool_byte (is_some l) ≡ flit_lines (by_port (flit_line cycle r) (n + 1))
      go None e =
          let f = flit_lines_more (flit_line cycle r) n in
          let g = flit_none cycle r n e in
          let k = h senders cycle in omega (arith, f, g, k)
      go (Some d) e =
          let f = flit_lines_more (flit_line cycle r) n in
          let g = flit_one cycle r n d e in
          let k = h senders cycle in omega (arith, f, g, k)

-- after all eight
pub counted : (reply : Reply) (cycle n count : ℕ) → n ≡ 8 → CountIs reply.outputs n count → count ≡ flit_lines (cycle_lines cycle reply)
counted reply cycle n count e h =
    h reply.senders cycle ∙ ap (λ (m : ℕ). flit_lines (by_port (flit_line cycle reply) m)) e ∙ sym (cycle_flit_lines cycle reply)
