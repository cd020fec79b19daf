-- `floor::passing::pass` meets its contract: a part handed over call by call; it stays inside its part and its buffer and ends.
-- Assumes nothing.
use mathlib.Core.Path.{◌≡◌, refl, sym, ap, subst, ◌∙◌}
use mathlib.Core.Bool.{true≢false}
use mathlib.Core.List.{List}
use native.Mathlib.Nat.{zero-add}
use native.Mathlib.Omega.{arith}
use Prim.Native.Nat.{ℕ, suc, ◌+◌, ◌-◌, ◌≤◌, ◌<◌}
use lib.ListN.{length, take, drop, length-drop}
use lib.Seq.{drop-drop}
use borrow.Author.Rules.{rules}
use Rattle.base.proofs.Lists.{rest_of}
use Rattle.runs.specs.declared.Run.{Run}
use Rattle.router.specs.Running.{CallOutcome, ran_of}
use Rattle.floor.specs.Handing.{Handed, called, handed_by, Passes}
use Rattle.floor.proofs.Calls.{call_most, refused_passes, unwritten_passes, whole_passes, full_passes, more_passes}
use Rattle.floor.proofs.passing.pass.Goals as goal

-- a call's outcome is the run entry's with what is left of the part
call : (part out : List ℕ) (from : ℕ) (run : Run) (o : CallOutcome)
    → o ≡ ran_of run (take (length part - from) (drop from part)) out 0 → o ≡ called (drop from part) (record { run = run; buffer = out })
call part out from run o e = e ∙ ap (λ (l : List ℕ). ran_of run l out 0) (rest_of from part)

-- what is used is inside the part
inside : (part : List ℕ) (from : ℕ) (h : Handed) (o : CallOutcome) → o ≡ called (drop from part) h → from ≤ length part
    → from + o.ran.used ≤ length part
inside part from h o e l = omega (arith, call_most (drop from part) h o e, length-drop from part, l)

pub overflow_add-calls : goal.overflow_add-calls
overflow_add-calls g c =
    let short : length c.args.part.now < 9223372036854775808 = search rules in
    record { fits = omega (arith, c.loop-from.invariant.2, c.loop-from.invariant.0, short) }

pub returns-then-ran-ne-DONE : goal.returns-then-ran-ne-DONE
returns-then-ran-ne-DONE g c =
    let l = c.loop-from in
    let o : CallOutcome = record { ran = c.run-ran.result; buffer = c.run-ran.new.buf } in
    l.invariant.3 1 _ _
    (refused_passes (drop l.from c.args.part.now) (record { run = l.run; buffer = l.out }) o
    (call c.args.part.now l.out l.from l.run o c.run-ran.ensures) c.if-ran-ne-DONE.true)

pub returns-then-not-put : goal.returns-then-not-put
returns-then-not-put g c =
    let l = c.loop-from in
    let o : CallOutcome = record { ran = c.run-ran.result; buffer = c.run-ran.new.buf } in
    l.invariant.3 1 _ _
    (unwritten_passes (drop l.from c.args.part.now) (record { run = l.run; buffer = l.out }) o
    (call c.args.part.now l.out l.from l.run o c.run-ran.ensures) c.if-ran-ne-DONE.false
    (λ e. true≢false (sym (c.put.ensures.none e) ∙ c.if-not-put.true)))

pub returns-then-ran-eq0 : goal.returns-then-ran-eq0
returns-then-ran-eq0 g c =
    let l = c.loop-from in
    let o : CallOutcome = record { ran = c.run-ran.result; buffer = c.run-ran.new.buf } in
    l.invariant.3 1 _ _
    (whole_passes (drop l.from c.args.part.now) (record { run = l.run; buffer = l.out }) o
    (call c.args.part.now l.out l.from l.run o c.run-ran.ensures) c.if-ran-ne-DONE.false c.if-ran-eq0.true)

pub returns-then-ran-eq0-2 : goal.returns-then-ran-eq0-2
returns-then-ran-eq0-2 g c =
    let l = c.loop-from in
    let o : CallOutcome = record { ran = c.run-ran.result; buffer = c.run-ran.new.buf } in
    l.invariant.3 1 _ _
    (full_passes (drop l.from c.args.part.now) (record { run = l.run; buffer = l.out }) o
    (call c.args.part.now l.out l.from l.run o c.run-ran.ensures) c.if-ran-ne-DONE.false c.if-ran-eq0.false c.if-ran-eq0-2.true)

pub overflow_add-from : goal.overflow_add-from
overflow_add-from g c =
    let l = c.loop-from in
    let o : CallOutcome = record { ran = c.run-ran.result; buffer = c.run-ran.new.buf } in
    let short : length c.args.part.now < 9223372036854775808 = search rules in
    record {
      fits = omega (
        arith,
        short,
        inside c.args.part.now l.from _ o
            (call c.args.part.now l.out l.from l.run o c.run-ran.ensures) l.invariant.0,
      );
    }

pub loop-from-smaller : goal.loop-from-smaller
loop-from-smaller g c =
    let l = c.loop-from in
    let o : CallOutcome = record { ran = c.run-ran.result; buffer = c.run-ran.new.buf } in
    omega (
      arith,
      c.if-ran-eq0-2.false,
      inside c.args.part.now l.from _ o
          (call c.args.part.now l.out l.from l.run o c.run-ran.ensures) l.invariant.0,
    )

pub loop-from-preserved : goal.loop-from-preserved
loop-from-preserved g c =
    let l = c.loop-from in
    let part = c.args.part.now in
    let o : CallOutcome = record { ran = c.run-ran.result; buffer = c.run-ran.new.buf } in
    let e : o ≡ called (drop l.from part) (record { run = l.run; buffer = l.out }) = call part l.out l.from l.run o c.run-ran.ensures in (
      inside part l.from _ o e l.invariant.0,
      (search rules),
      omega (arith, l.invariant.2, c.if-ran-eq0-2.false),
      (λ k s g p.
          let n : l.calls + suc k ≡ l.calls + 1 + k = omega arith in
          subst (λ (m : ℕ). Passes part (record { run = c.args.before; buffer = c.args.out.now }) m s g) n
          (l.invariant.3 (suc k) s g
          (more_passes (drop l.from part) (record { run = l.run; buffer = l.out }) o e c.if-ran-ne-DONE.false c.if-ran-eq0.false
          c.if-ran-eq0-2.false k s g
          (subst (λ (rest : List ℕ). Passes rest (handed_by o) k s g) (sym (drop-drop c.run-ran.result.used l.from part)) p)))),
    )

pub returns : goal.returns
returns g c = absurd (omega (arith, c.loop-from-test.false, c.loop-from.invariant.0))

pub loop-from-init : goal.loop-from-init
loop-from-init g c = (
  omega arith,
  refl,
  omega arith,
  (λ k s g p.
      subst (λ (m : ℕ). Passes c.args.part.now (record { run = c.args.before; buffer = c.args.out.now }) m s g)
      (sym (zero-add k)) p),
)
