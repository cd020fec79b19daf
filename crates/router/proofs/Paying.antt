-- Phases 1 and 2, turn by turn: sender credits by the home line, output credits by the rows.
-- Assumes nothing.
use Rattle.std.proofs.Common.{◌≡◌, refl, sym, ap, ◌∙◌, List, length, get_or, set, ℕ, ◌+◌, ◌-◌, ◌*◌, ◌≤◌, arith}
use Rattle.std.specs.Prelude.{Option}
use Rattle.base.specs.declared.config.Config.{Config}
use Rattle.state.specs.declared.InputVc.{InputVc}
use Rattle.state.specs.declared.OutputVc.{OutputVc}
use Rattle.state.specs.Fresh.{fresh_input, fresh_output}
use Rattle.state.specs.Views.{channel_number, home_place}
use Rattle.state.proofs.Exact.{length_any}
use Rattle.rules.specs.Rows.{credit_at}
use Rattle.rules.specs.Ports.{over_ports, named}
use Rattle.rules.proofs.Folds.{over_none, over_again}
use Rattle.rules.specs.Intake.{sender_paid, credit_to, output_paid, credit_from}
use Rattle.router.specs.Fitting.{CreditsFit, OutputCreditsFit}
use Rattle.router.proofs.Turns as turns

place_is : (home : List ℕ) (i : ℕ) → get_or home i 0 ≡ home_place home 0 i
place_is home i = let e : 8 * 0 + i ≡ i = omega arith in rw e

-- the turn of port i in phase 1
abbrev pub sender_turn : Config → List ℕ → List InputVc → ℕ → List InputVc
sender_turn c home xs i = credit_to c i (named (home_place home 0 i)) xs

-- the turn of port o in phase 2
abbrev pub output_turn : Config → List ℕ → List OutputVc → ℕ → List OutputVc
output_turn c part ys o = credit_from c o (named (credit_at part o)) ys

module _ (c : Config) (home : List ℕ) (s xs : List InputVc) (i : ℕ) (so : xs ≡ over_ports i (sender_turn c home) s) where
  pub sender_none : get_or home i 0 ≡ 0 → xs ≡ over_ports (i + 1) (sender_turn c home) s
  sender_none e =
      turns.turn_none (fresh_input 0) sender_paid c (home_place home 0) (credit_to c) (λ i xs. refl) (λ i v xs. refl) s xs i so
      (sym (place_is home i) ∙ e)

  module _ (p x : ℕ) (is : p ≡ get_or home i 0) (some : p ≡ 0 → ⊥) (number : x ≡ channel_number c i (p - 1)) where
    pub sender_some : (a : InputVc) → a ≡ sender_paid (get_or xs x (fresh_input 0)) → set xs x a ≡ over_ports (i + 1) (sender_turn c home) s
    sender_some =
        turns.turn_some (fresh_input 0) sender_paid c (home_place home 0) (credit_to c) (λ i xs. refl) (λ i v xs. refl) s xs i so
        p x (is ∙ place_is home i) some number

    pub sender_out : length xs ≤ x → xs ≡ over_ports (i + 1) (sender_turn c home) s
    sender_out =
        turns.turn_out (fresh_input 0) sender_paid c (home_place home 0) (credit_to c) (λ i xs. refl) (λ i v xs. refl) s xs i so
        p x (is ∙ place_is home i) some number

-- the start of the loop, and its turns
pub ruleset sender_turns = (over_none, sender_none, sender_some, sender_out, length_any)

-- a turn raises one credit by one
pub credits_fit : (xs : List InputVc) (i k : ℕ) (a : InputVc) → CreditsFit (16 + i) xs → a ≡ sender_paid (get_or xs k (fresh_input 0))
    → CreditsFit (16 + (i + 1)) (set xs k a)
credits_fit xs i k a f e x =
    turns.set_keeps (λ (y : InputVc). y.credit ≤ 16 + (i + 1)) xs k a (fresh_input 0)
    (let p = ap (λ (y : InputVc). y.credit) e in let l = f k in omega arith) x (let l = f x in omega arith)

module _ (c : Config) (part : List ℕ) (s ys : List OutputVc) (o : ℕ) (so : ys ≡ over_ports o (output_turn c part) s) where
  pub output_none : credit_at part o ≡ 0 → ys ≡ over_ports (o + 1) (output_turn c part) s
  output_none =
      turns.turn_none (fresh_output 0) output_paid c (credit_at part) (credit_from c) (λ o ys. refl) (λ o w ys. refl) s ys o so

  module _ (p y : ℕ) (is : p ≡ credit_at part o) (some : p ≡ 0 → ⊥) (number : y ≡ channel_number c o (p - 1)) where
    pub output_some : (a : OutputVc) → a ≡ output_paid (get_or ys y (fresh_output 0))
        → set ys y a ≡ over_ports (o + 1) (output_turn c part) s
    output_some =
        turns.turn_some (fresh_output 0) output_paid c (credit_at part) (credit_from c) (λ o ys. refl) (λ o w ys. refl) s ys o so
        p y is some number

    pub output_out : length ys ≤ y → ys ≡ over_ports (o + 1) (output_turn c part) s
    output_out =
        turns.turn_out (fresh_output 0) output_paid c (credit_at part) (credit_from c) (λ o ys. refl) (λ o w ys. refl) s ys o so
        p y is some number

pub ruleset output_turns = (over_none, output_none, output_some, output_out, length_any)

pub output_credits_fit : (ys : List OutputVc) (o k : ℕ) (a : OutputVc) → OutputCreditsFit (16 + o) ys
    → a ≡ output_paid (get_or ys k (fresh_output 0)) → OutputCreditsFit (16 + (o + 1)) (set ys k a)
output_credits_fit ys o k a f e y =
    turns.set_keeps (λ (x : OutputVc). x.credit ≤ 16 + (o + 1)) ys k a (fresh_output 0)
    (let p = ap (λ (x : OutputVc). x.credit) e in let l = f k in omega arith) y (let l = f y in omega arith)

-- the turn of port i of the report
abbrev pub report_turn : List ℕ → List (Option ℕ) → ℕ → List (Option ℕ)
report_turn home senders i = set senders i (named (home_place home 0 i))

pub report_again : (home : List ℕ) (b senders : List (Option ℕ)) (i : ℕ) (s : Option ℕ) → senders ≡ over_ports i (report_turn home) b
    → s ≡ named (get_or home i 0) → set senders i s ≡ over_ports (i + 1) (report_turn home) b
report_again home b senders i s e h =
    over_again i (report_turn home) b senders (set senders i s) e
    (ap (set senders i) (h ∙ ap (λ (p : ℕ). named p) (place_is home i)))
