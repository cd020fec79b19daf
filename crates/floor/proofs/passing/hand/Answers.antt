-- `floor::passing::hand` meets its contract: what was read, handed over, and where it does not fill the buffer the end of the input.
-- Assumes nothing.
use mathlib.Core.Path.{◌≡◌, sym, subst, ◌∙◌}
use mathlib.Core.Bool.{true}
use mathlib.Core.List.{List}
use Prim.Native.Nat.{ℕ, ◌-◌, ◌<◌}
use native.Mathlib.Omega.{arith}
use lib.ListN.{length, take}
use lib.Seq.{length-take-le}
use borrow.Author.Rules.{rules}
use Rattle.trace.specs.Bytes.{AreBytes}
use Rattle.router.proofs.Going.{piece_bytes}
use Rattle.floor.specs.Handing.{Passes, is_whole_blocks, uneven, fills, last, beyond, hands}
use Rattle.floor.proofs.Calls.{passes_few}
use Rattle.floor.proofs.passing.hand.Given.{Over}
use Rattle.floor.proofs.passing.hand.Goals as goal
use Rattle.floor.proofs.passing.hand.Goals.{After-pass-passed, Else-not-holds_blocks, Start}

-- what was read
abbrev piece : (g : Over) → Else-not-holds_blocks g → List ℕ
piece g c = take c.args.bytes c.args.buf.now

are : (g : Over) (c : Else-not-holds_blocks g) → AreBytes (piece g c)
are g c =
    piece_bytes c.args.bytes 0 c.args.buf.now (λ i. (c.shared_slice_known-1.given i).fits)

even : (g : Over) (c : Else-not-holds_blocks g) → is_whole_blocks (length c.args.buf.now) ≡ true
even g c = sym c.holds_blocks.ensures ∙ c.if-not-holds_blocks.false

long : (g : Over) (c : Else-not-holds_blocks g) → length (piece g c) ≡ c.args.bytes
long g c = length-take-le c.args.bytes c.args.buf.now c.if-buf-bytes.false

short : (g : Over) (c : Start g) → length c.args.buf.now < 9223372036854775808
short g c = search rules

-- it is the part that is handed over
passed : (g : Over) (c : After-pass-passed g) → Passes (piece g (goal.at.After-pass-passed g c).Else-not-holds_blocks)
    (record { run = c.args.run; buffer = c.args.out.now })
    c.pass-passed.result.calls c.pass-passed.result.outcome (record { run = c.pass-passed.result.run; buffer = c.pass-passed.new.out })
passed g c =
    let e : c.args.bytes - 0 ≡ c.args.bytes = omega arith in
    subst (λ (n : ℕ). Passes (take n c.args.buf.now) (record { run = c.args.run; buffer = c.args.out.now })
    c.pass-passed.result.calls c.pass-passed.result.outcome (record { run = c.pass-passed.result.run; buffer = c.pass-passed.new.out })) e
    c.pass-passed.ensures

pub returns-then-buf-bytes : goal.returns-then-buf-bytes
returns-then-buf-bytes g c = beyond c.if-buf-bytes.true

pub returns-then-not-holds_blocks : goal.returns-then-not-holds_blocks
returns-then-not-holds_blocks g c =
    hands 0 _ _ c.if-buf-bytes.false
    (uneven (sym c.holds_blocks.ensures ∙ c.if-not-holds_blocks.true))

pub returns-then-bytes-buf : goal.returns-then-bytes-buf
returns-then-bytes-buf g c =
    hands _ _ _ c.if-buf-bytes.false
    (fills _ _ _ (even g (goal.at.returns-then-bytes-buf g c).Else-not-holds_blocks) (are g
    (goal.at.returns-then-bytes-buf g c).Else-not-holds_blocks) (long g (goal.at.returns-then-bytes-buf g c).Else-not-holds_blocks
    ∙ c.if-bytes-buf.true) (passed g (goal.at.returns-then-bytes-buf g c).After-pass-passed))

pub finish-requires : goal.finish-requires
finish-requires g c =
    omega (
      arith,
      passes_few (piece g (goal.at.finish-requires g c).Else-not-holds_blocks) _ _ _ _ (passed g
          (goal.at.finish-requires g c).After-pass-passed),
      long g (goal.at.finish-requires g c).Else-not-holds_blocks,
      c.if-buf-bytes.false,
      short g (goal.at.finish-requires g c).Start,
    )

pub returns : goal.returns
returns g c =
    hands _ _ _ c.if-buf-bytes.false
    (last _ _ _ _ _ _ (even g (goal.at.returns g c).Else-not-holds_blocks) (are g (goal.at.returns g c).Else-not-holds_blocks) (omega
    (arith, long g (goal.at.returns g c).Else-not-holds_blocks, c.if-buf-bytes.false, c.if-bytes-buf.false)) (passed g
    (goal.at.returns g c).After-pass-passed) c.finish.ensures)
