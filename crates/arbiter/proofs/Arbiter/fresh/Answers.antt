-- `arbiter::Arbiter::fresh` meets its contract.
-- Assumes nothing.
use Rattle.std.proofs.Common.{ℕ, sym, ap, ◌∙◌, arith}
use Rattle.std.proofs.lemmas.List.{length-replicate}
use Rattle.base.proofs.Search.{both}
use Rattle.arbiter.specs.Matrix.{fresh_rows}
use Rattle.arbiter.specs.Arbiter.{arbiter_of, fresh}
use Rattle.arbiter.proofs.ByKind.{known_is}
use Rattle.arbiter.proofs.Arbiter.fresh.Goals as goal
use Rattle.arbiter.proofs.Arbiter.fresh.Goals.{then-is_matrix, else-is_matrix}

pub order-requires : goal.order-requires
order-requires g c =
    let k = known_is g.row.PLACES c.args.code c.width-n.result (both _ _ (sym c.if-is_matrix.ensures)).0 in
    let w = c.width-n.ensures.word k.some in
    let r = k.room in
    let e = length-replicate {A = ℕ} g.row.PLACES 0 in
    (omega arith, omega arith)

pub returns : goal.returns
unfolding fresh
returns g c =
    let told = ap (λ (n : ℕ). fresh g.row.PLACES c.args.code n) c.width-n.ensures.value in
    elim c.if-is_matrix.branch [
      | then-is_matrix w ↦
          rw (← w.if-is_matrix.ensures)
          (ap (arbiter_of 0) (w.rows-is ∙ w.order.ensures
          ∙ ap (λ (p : ℕ). fresh_rows p c.width-n.result) (length-replicate {A = ℕ} g.row.PLACES 0)))
          ∙ told
      | else-is_matrix w ↦ rw (← w.if-is_matrix.ensures) (ap (arbiter_of 0) w.rows-is) ∙ told
    ]
