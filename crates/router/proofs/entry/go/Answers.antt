-- `router::entry::go` meets its contract: the run taken apart, its blocks, and the run put together.
-- Assumes nothing.
use Rattle.std.proofs.Common.{ℕ, ◌≤◌, sym, ap, subst}
use native.Mathlib.Nat.{le_trans}
use Rattle.router.specs.Running.{Call, answered}
use Rattle.router.proofs.Onward.{goes_on}
use Rattle.router.proofs.entry.go.Goals as goal

pub blocks-through-requires : goal.blocks-through-requires
blocks-through-requires c = (rw c.unpack.ensures c.requires.0, c.requires.1)

pub overflow_sub-result : goal.overflow_sub-result
overflow_sub-result c =
    le_trans c.requires.2 (subst (λ (n : ℕ). c.args.at ≤ n)
    (sym (ap (λ (x : Call). x.writing.at) c.blocks-through.ensures))
    (goes_on c.args.part.now c.args.count _))

pub returns : goal.returns
returns c = rw c.pack.ensures (ap (answered c.args.start) (rw c.unpack.ensures at c.blocks-through.ensures))
