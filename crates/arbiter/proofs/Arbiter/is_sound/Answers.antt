-- `arbiter::Arbiter::is_sound` meets its contract, kind by kind.
-- Assumes nothing.
use Rattle.std.proofs.Common.{rules, ◌≡◌, ℕ, length, sym, ap, ◌∙◌, arith}
use Rattle.arbiter.specs.Matrix.{blank_from}
use Rattle.arbiter.specs.Arbiter.{sound}
use Rattle.arbiter.proofs.ByKind.{known_is, sound_unknown, sound_past, sound_turn, sound_pointer, sound_beyond, sound_order}
use Rattle.arbiter.proofs.Arbiter.is_sound.Goals as goal

pub returns-then-not-is_known : goal.returns-then-not-is_known
returns-then-not-is_known g c =
    let a = c.args in
    sound_unknown g.row.PLACES a.code c.width-n.result a.self (sym c.if-not-is_known.ensures)
    ∙ ap (λ (n : ℕ). sound g.row.PLACES a.code n a.self) c.width-n.ensures.value

pub returns-then-n-self : goal.returns-then-n-self
returns-then-n-self g c =
    let a = c.args in
    let long : length a.self.rows ≡ g.row.PLACES = search rules in
    sound_past g.row.PLACES a.code c.width-n.result a.self (sym c.if-not-is_known.ensures) long c.if-code-eq-ROUND_ROBIN.true c.if-n-self.true
    ∙ ap (λ (n : ℕ). sound g.row.PLACES a.code n a.self) c.width-n.ensures.value

pub returns-then-code-eq-ROUND_ROBIN : goal.returns-then-code-eq-ROUND_ROBIN
returns-then-code-eq-ROUND_ROBIN g c =
    let a = c.args in
    let long : length a.self.rows ≡ g.row.PLACES = search rules in
    c.are_blank.ensures ∙ ap (λ (p : ℕ). blank_from 0 p a.self.rows) long
    ∙ sound_turn g.row.PLACES a.code c.width-n.result a.self (sym c.if-not-is_known.ensures) long c.if-code-eq-ROUND_ROBIN.true c.if-n-self.false
    ∙ ap (λ (n : ℕ). sound g.row.PLACES a.code n a.self) c.width-n.ensures.value

pub returns-then-self-ne0 : goal.returns-then-self-ne0
returns-then-self-ne0 g c =
    let a = c.args in
    let long : length a.self.rows ≡ g.row.PLACES = search rules in
    sound_pointer g.row.PLACES a.code c.width-n.result a.self (sym c.if-not-is_known.ensures) long c.if-code-eq-ROUND_ROBIN.false c.if-self-ne0.true
    ∙ ap (λ (n : ℕ). sound g.row.PLACES a.code n a.self) c.width-n.ensures.value

pub are_blank-requires-2 : goal.are_blank-requires-2
are_blank-requires-2 g c =
    let r = (known_is g.row.PLACES c.args.code c.width-n.result (sym c.if-not-is_known.ensures)).room in
    let long : length c.args.self.rows ≡ g.row.PLACES = search rules in
    omega arith

pub returns-then-not-are_blank : goal.returns-then-not-are_blank
returns-then-not-are_blank g c =
    let a = c.args in
    let long : length a.self.rows ≡ g.row.PLACES = search rules in
    sound_beyond g.row.PLACES a.code c.width-n.result a.self (sym c.if-not-is_known.ensures) long c.if-code-eq-ROUND_ROBIN.false
    (sym (c.if-not-are_blank.ensures ∙ ap (λ (p : ℕ). blank_from c.width-n.result p a.self.rows) long))
    ∙ ap (λ (n : ℕ). sound g.row.PLACES a.code n a.self) c.width-n.ensures.value

pub is_total-requires : goal.is_total-requires
is_total-requires g c =
    let k = known_is g.row.PLACES c.args.code c.width-n.result (sym c.if-not-is_known.ensures) in
    let w = c.width-n.ensures.word k.some in
    let r = k.room in
    let long : length c.args.self.rows ≡ g.row.PLACES = search rules in
    (k.some, omega arith, omega arith)

pub returns : goal.returns
returns g c =
    let a = c.args in
    let long : length a.self.rows ≡ g.row.PLACES = search rules in
    c.is_total.ensures
    ∙ sound_order g.row.PLACES a.code c.width-n.result a.self (sym c.if-not-is_known.ensures) long c.if-code-eq-ROUND_ROBIN.false c.if-self-ne0.false
    (sym (c.if-not-are_blank.ensures ∙ ap (λ (p : ℕ). blank_from c.width-n.result p a.self.rows) long))
    ∙ ap (λ (n : ℕ). sound g.row.PLACES a.code n a.self) c.width-n.ensures.value
