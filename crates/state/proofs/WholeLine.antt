-- A test of all 64 places of a line, by index, is the clauses on the line.
-- Assumes nothing.
use Rattle.std.proofs.Common.{◌≡◌, ◌↔◌, ◌&&◌, ◌∙◌, ℕ, ◌+◌, ◌*◌, ◌≤◌, Bool, true, List, length, get_or, arith, EachIndex, IsTrue}
use Rattle.base.specs.Search.{every}
use Rattle.base.proofs.Search.{every_at, all_every}
use Rattle.state.specs.Sound.{line_unused}
use Rattle.state.proofs.Tests.{same_test}
use Rattle.state.proofs.Places.{line_sound, line_is}

pub whole_line : (delay ports : ℕ) (legal : ℕ → Bool) (line : List ℕ) (t : Bool) → length line ≡ 64 → delay ≤ 8 → ports ≤ 8
    → (IsTrue t ↔ EachIndex line (λ m. line_sound delay ports legal line m ≡ true))
    → t ≡ (every delay (λ (k : ℕ). every ports (λ (i : ℕ). legal (get_or line (8 * k + i) 0))) && line_unused delay ports line)
whole_line delay ports legal line t whole hd hp each =
    same_test t (every 64 (line_sound delay ports legal line))
    (λ e. all_every 64 _ (λ m h. each.0 e m (omega arith)))
    (λ e. each.1 (λ m h. every_at 64 _ e m (omega arith)))
    ∙ line_is delay ports legal line hd hp
