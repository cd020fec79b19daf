-- `floor::whole::list` meets its contract: pieces of the input handed over one after another.
-- Assumes nothing.
use Rattle.std.proofs.Common.{◌≡◌, ap, subst, List, [], ◌∷◌, ℕ, length, take}
use Rattle.std.specs.Prelude.{is_ok}
use borrow.Author.Rules.{rules}
use Rattle.floor.specs.Handing.{Outcome, Handed, HandsOver, unread, stopped, over, goes}
use Rattle.floor.proofs.Calls.{handing_piece}
use Rattle.floor.proofs.whole.list.Given.{Over}
use Rattle.floor.proofs.whole.list.Goals as goal
use Rattle.floor.proofs.whole.list.Goals.{After-hand-passed}

-- the piece that was read, and what handing it over came to
abbrev piece : (g : Over) → After-hand-passed g → List ℕ
piece g c = take c.in-Ok.bytes c.fill.new.buf

abbrev after : (g : Over) → After-hand-passed g → Handed
after g c = record { run = c.hand-passed.result.run; buffer = c.hand-passed.new.out }

-- reading leaves the buffer as long as it was
kept : (g : Over) (c : After-hand-passed g) → length c.fill.new.buf ≡ length c.args.buf.now
kept g c = search rules

handed : (g : Over) (c : After-hand-passed g) → HandsOver (length c.args.buf.now) (piece g c)
    (record { run = c.each.run; buffer = c.each.out }) c.hand-passed.result.calls c.hand-passed.result.outcome (after g c)
handed g c =
    subst (λ (n : ℕ). HandsOver n (piece g c) (record { run = c.each.run; buffer = c.each.out })
    c.hand-passed.result.calls c.hand-passed.result.outcome (after g c)) (kept g c)
    (handing_piece c.fill.new.buf c.in-Ok.bytes _ _ _ _ c.in-Ok.ensures.0 c.hand-passed.ensures)

pub returns-in-Err : goal.returns-in-Err
returns-in-Err g c =
    let at = (goal.at.returns-in-Err g c).After-hand-passed in
    c.each.invariant.2 (piece g at ∷ []) _ _ (stopped _ _ c.hand-passed.result.calls c.in-Err.stop _
    (subst (λ (s : Outcome). HandsOver (length c.args.buf.now) (piece g at) (record { run = c.each.run; buffer = c.each.out })
    c.hand-passed.result.calls s (after g at)) c.in-Err.is (handed g at)))

pub returns-then-run : goal.returns-then-run
returns-then-run g c =
    let at = (goal.at.returns-then-run g c).After-hand-passed in
    c.each.invariant.2 (piece g at ∷ []) _ _ (over _ _ _ _ _ (ap is_ok c.in_default-outcome.is) c.if-run.true (handed g at))

pub each-preserved : goal.each-preserved
each-preserved g c =
    let at = (goal.at.each-preserved g c).After-hand-passed in (
      kept g at,
      (search rules),
      (λ pieces r e p. c.each.invariant.2 (piece g at ∷ pieces) r e
          (goes _ _ _ _ _ pieces r e (ap is_ok c.in_default-outcome.is) c.if-run.false (handed g at) p)),
    )

pub returns-after-each : goal.returns-after-each
returns-after-each g c = c.each.invariant.2 [] _ _ (unread _)

pub returns-in_default : goal.returns-in_default
returns-in_default g c = c.each.invariant.2 [] _ _ (unread _)
