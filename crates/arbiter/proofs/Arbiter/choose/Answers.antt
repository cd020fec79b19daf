-- `arbiter::Arbiter::choose` meets its contract, kind by kind.
-- Assumes nothing.
use Rattle.std.proofs.Common.{rules, ◌≡◌, ℕ, length, sym, ap, ◌∙◌, arith}
use Rattle.arbiter.specs.Requests.{asks}
use Rattle.arbiter.specs.Arbiter.{choice}
use Rattle.arbiter.proofs.ByKind.{usable_fits, usable_is, masked_lt, choice_unusable, choice_turn, choice_champion}
use Rattle.arbiter.proofs.Arbiter.choose.Goals as goal

pub returns-then-not-is_usable : goal.returns-then-not-is_usable
unfolding asks
returns-then-not-is_usable g c =
    let a = c.args in
    choice_unusable g.row.PLACES a.code c.width-n.result a.requests.set a.self (sym c.if-not-is_usable.ensures)
    ∙ ap (λ (n : ℕ). choice g.row.PLACES a.code n (asks a.requests) a.self) c.width-n.ensures.value

pub below-asking-requires : goal.below-asking-requires
below-asking-requires g c =
    let u = usable_fits _ _ _ _ (sym c.if-not-is_usable.ensures) in omega (arith, u.1, c.width-n.ensures.word u.0)

pub choose-requires : goal.choose-requires
choose-requires g c =
    let u = sym c.if-not-is_usable.ensures in
    let f = usable_fits _ _ _ _ u in (
      omega (arith, f.1, c.width-n.ensures.word f.0),
      (usable_is _ _ _ _ u).1 c.if-code-eq-ROUND_ROBIN.true,
      rw c.below-asking.ensures (masked_lt c.width-n.result c.args.requests.set),
    )

pub returns-then-code-eq-ROUND_ROBIN : goal.returns-then-code-eq-ROUND_ROBIN
unfolding asks
returns-then-code-eq-ROUND_ROBIN g c =
    let a = c.args in
    c.choose.ensures
    ∙ rw c.below-asking.ensures
    (choice_turn g.row.PLACES a.code c.width-n.result a.requests.set a.self (sym c.if-not-is_usable.ensures) c.if-code-eq-ROUND_ROBIN.true)
    ∙ ap (λ (n : ℕ). choice g.row.PLACES a.code n (asks a.requests) a.self) c.width-n.ensures.value

pub choose-requires-2 : goal.choose-requires-2
choose-requires-2 g c =
    let f = usable_fits _ _ _ _ (sym c.if-not-is_usable.ensures) in
    let r = f.1 in
    let e : length c.args.self.rows ≡ g.row.PLACES = search rules in (
      omega (arith, f.1, c.width-n.ensures.word f.0),
      omega arith,
      rw c.below-asking.ensures (masked_lt c.width-n.result c.args.requests.set),
    )

pub returns : goal.returns
unfolding asks
returns g c =
    let a = c.args in
    c.choose-2.ensures
    ∙ rw c.below-asking.ensures
    (choice_champion g.row.PLACES a.code c.width-n.result a.requests.set a.self (sym c.if-not-is_usable.ensures)
    c.if-code-eq-ROUND_ROBIN.false)
    ∙ ap (λ (n : ℕ). choice g.row.PLACES a.code n (asks a.requests) a.self) c.width-n.ensures.value
