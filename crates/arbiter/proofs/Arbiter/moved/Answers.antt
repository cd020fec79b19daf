-- `arbiter::Arbiter::moved` meets its contract, kind by kind.
-- Assumes nothing.
use Rattle.std.proofs.Common.{rules, ◌≡◌, ℕ, List, length, sym, ap, ◌∙◌, arith}
use Rattle.arbiter.specs.Arbiter.{arbiter_of, moved}
use Rattle.arbiter.proofs.ByKind.{usable_fits, moved_unusable, moved_nobody, moved_turn, moved_defeat}
use Rattle.arbiter.proofs.Arbiter.moved.Goals as goal

pub returns-then-code-eq-ROUND_ROBIN : goal.returns-then-code-eq-ROUND_ROBIN
returns-then-code-eq-ROUND_ROBIN g c =
    let a = c.args in
    ap (λ (p : ℕ). arbiter_of p a.self.rows) c.next.ensures
    ∙ moved_turn g.row.PLACES a.code c.width-n.result a.w a.self (sym c.if-not-is_usable.ensures) c.if-n-w.false
    c.if-code-eq-ROUND_ROBIN.true
    ∙ ap (λ (n : ℕ). moved g.row.PLACES a.code n a.w a.self) c.width-n.ensures.value

pub defeat-requires : goal.defeat-requires
defeat-requires g c =
    let f = usable_fits _ _ _ _ (sym c.if-not-is_usable.ensures) in
    let r = f.1 in
    let e : length c.args.self.rows ≡ g.row.PLACES = search rules in
    (omega (arith, f.1, c.width-n.ensures.word f.0), omega arith, c.if-n-w.false)

pub returns : goal.returns
returns g c =
    let a = c.args in
    ap (λ (l : List ℕ). arbiter_of a.self.pointer l) c.defeat.ensures
    ∙ moved_defeat g.row.PLACES a.code c.width-n.result a.w a.self (sym c.if-not-is_usable.ensures) c.if-n-w.false
    c.if-code-eq-ROUND_ROBIN.false
    ∙ ap (λ (n : ℕ). moved g.row.PLACES a.code n a.w a.self) c.width-n.ensures.value

pub returns-then-not-is_usable : goal.returns-then-not-is_usable
returns-then-not-is_usable g c =
    let a = c.args in
    moved_unusable g.row.PLACES a.code c.width-n.result a.w a.self (sym c.if-not-is_usable.ensures)
    ∙ ap (λ (n : ℕ). moved g.row.PLACES a.code n a.w a.self) c.width-n.ensures.value

pub returns-then-n-w : goal.returns-then-n-w
returns-then-n-w g c =
    let a = c.args in
    moved_nobody g.row.PLACES a.code c.width-n.result a.w a.self c.if-n-w.true
    ∙ ap (λ (n : ℕ). moved g.row.PLACES a.code n a.w a.self) c.width-n.ensures.value
