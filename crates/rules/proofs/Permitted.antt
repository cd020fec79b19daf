-- What the rows of a cycle say that no rule refuses: each downstream credit has room, and each flit is legal, in turn and paid for.
-- Assumes nothing.
use mathlib.Core.Path.{◌≡◌, refl, sym, ap, ◌∙◌}
use mathlib.Core.Bool.{Bool, true, false, cond, not, xor, beq, ◌&&◌}
use mathlib.Core.List.{List}
use Rattle.std.specs.Prelude.{Some}
use Rattle.std.proofs.lemmas.Option.{same_Some, none-some}
use Prim.Native.Nat.{ℕ, zero, suc, ◌-◌, ◌≤◌, ◌<◌}
use native.Mathlib.Omega.{arith}
use lib.Dec.{eqb, leb, ltb}
use borrow.Author.Tests.{not-true, not-false, lt-ltb, ltb-true, leb-true, eqb-false, ne_eqb}
use Rattle.base.specs.declared.config.Config.{Config}
use Rattle.base.specs.Flit.{starts_kind, single}
use Rattle.base.specs.Numbers as numbers
use Rattle.base.proofs.Configurations.{Legal}
use Rattle.base.proofs.Search.{both, some_number}
use Rattle.state.specs.declared.InputVc.{InputVc}
use Rattle.state.specs.declared.OutputVc.{OutputVc}
use Rattle.state.specs.declared.Router.{Router}
use Rattle.state.specs.Views.{input_at, output_at}
use Rattle.rules.specs.Ports.{named}
use Rattle.rules.specs.Intake.{senders_paid}
use Rattle.rules.specs.Rows.{kind_at, vc_at, destination_at, credit_at, brings, row_zero, no_offer, legal_offer, row_legal}
use Rattle.rules.specs.Numbers.{row_wrong, credit_past_room, out_of_turn, no_sender_credit, rules_of}
use Rattle.rules.proofs.FirstRule.{NoneHolds, none_from, none_first, none_rest}

-- the second of two tests, where the first holds and both do not
second_fails : (a b : Bool) → (a && b) ≡ false → a ≡ true → b ≡ false
second_fails a b e h = sym (ap (λ (t : Bool). t && b) h) ∙ e

-- the row of a port that brings a flit
pub record Offered (c : Config) (part : List ℕ) (i : ℕ) : Type 0 where
  pub some : 1 ≤ kind_at part i
  pub kind : kind_at part i ≤ 4
  pub vc : vc_at part i < c.vcs
  pub destination : cond (starts_kind (kind_at part i)) (ltb (destination_at part i) c.ports) (eqb (destination_at part i) 0) ≡ true

-- a downstream credit names a VC that there is, which has room for it
pub record CreditFits (c : Config) (outputs : List OutputVc) (part : List ℕ) (o : ℕ) : Type 0 where
  pub there : credit_at part o ≤ c.vcs
  pub room : (w : ℕ) → named (credit_at part o) ≡ Some w → (output_at c outputs o w).credit ≡ c.downstream → ⊥

-- the flit may come next at its sender VC
abbrev pub InTurn : Config → List InputVc → List ℕ → ℕ → Type 0
InTurn c inputs part i = xor (input_at c inputs i (vc_at part i)).opened (starts_kind (kind_at part i)) ≡ true

-- its sender VC has a credit for it
abbrev pub PaidFor : Config → List InputVc → List ℕ → ℕ → Type 0
PaidFor c inputs part i = 1 ≤ (input_at c inputs i (vc_at part i)).credit

-- the whole of it, port by port
pub record Permitted (s : Router) (part : List ℕ) : Type 0 where
  pub credits : (o : ℕ) → o < s.config.ports → CreditFits s.config s.outputs part o
  pub offers : (i : ℕ) → i < s.config.ports → brings part i ≡ true → Offered s.config part i
  pub turns : (i : ℕ) → i < s.config.ports → brings part i ≡ true → InTurn s.config s.inputs part i
  pub paid : (i : ℕ) → i < s.config.ports → brings part i ≡ true
      → PaidFor s.config (senders_paid s.config s.home s.inputs) part i

module _ (s : Router) (part : List ℕ) where
  abbrev c : Config
  c = s.config

  row_legal-law : Legal c → ((i : ℕ) → i < 8 → row_wrong c part i ≡ false) → (i : ℕ) → i < c.ports → row_legal c part i ≡ true
  unfolding row_wrong
  row_legal-law legal wrong i h =
      let few = legal.ports.1 in
      sym (ap (λ (b : Bool). cond b (row_legal c part i) (row_zero part i)) (lt-ltb i c.ports h)) ∙ not-false _ (wrong i (omega arith))

  row_offered : (i : ℕ) → row_legal c part i ≡ true → brings part i ≡ true → Offered c part i
  unfolding row_legal legal_offer
  row_offered i e b =
      let p = both (leb (credit_at part i) c.vcs) _ e in
      let q = sym (ap (λ (t : Bool). cond t (legal_offer c part i) (no_offer part i)) b) ∙ p.1 in
      let r = both _ (cond (starts_kind (kind_at part i)) (ltb (destination_at part i) c.ports) (eqb (destination_at part i) 0)) q in
      let t = both (leb (kind_at part i) single) (ltb (vc_at part i) c.vcs) r.0 in
      record {
        some = some_number (kind_at part i) (eqb-false (kind_at part i) 0 (not-true (eqb (kind_at part i) 0) b));
        kind = leb-true (kind_at part i) single t.0;
        vc = ltb-true (vc_at part i) c.vcs t.1;
        destination = r.1;
      }

  row_credit : (o : ℕ) → row_legal c part o ≡ true → credit_past_room c s.outputs part o ≡ false → CreditFits c s.outputs part o
  unfolding row_legal credit_past_room
  row_credit o e f =
      let p = both (leb (credit_at part o) c.vcs) _ e in
      record { there = leb-true (credit_at part o) c.vcs p.0; room = λ w. go w (credit_at part o) refl f }
    where
      go : (w k : ℕ) → credit_at part o ≡ k → (not (eqb k 0) && eqb (output_at c s.outputs o (k - 1)).credit c.downstream) ≡ false
          → named k ≡ Some w → (output_at c s.outputs o w).credit ≡ c.downstream → ⊥
      go w zero r q n full = none-some w n
      go w (suc k) r q n full =
          let same = same_Some k w n in
          let here : w ≡ suc k - 1 = omega arith in
          let Some = ap not (ne_eqb (suc k) 0 (λ z. omega arith)) in
          eqb-false (output_at c s.outputs o (suc k - 1)).credit c.downstream (second_fails (not (eqb (suc k) 0)) _ q Some)
          (ap (λ (u : ℕ). (output_at c s.outputs o u).credit) (sym here) ∙ full)

  turn_comes : (i : ℕ) → out_of_turn c s.inputs part i ≡ false → brings part i ≡ true
      → InTurn c s.inputs part i
  unfolding out_of_turn xor
  turn_comes i e b =
      go (starts_kind (kind_at part i)) (input_at c s.inputs i (vc_at part i)).opened
      (second_fails (brings part i) (beq (starts_kind (kind_at part i)) (input_at c s.inputs i (vc_at part i)).opened) e b)
    where
      go : (starts inside : Bool) → beq starts inside ≡ false → xor inside starts ≡ true
      go true true q = sym q
      go true false q = refl
      go false true q = refl
      go false false q = sym q

  credit_there : (i : ℕ) → no_sender_credit c (senders_paid c s.home s.inputs) part i ≡ false → brings part i ≡ true
      → PaidFor c (senders_paid c s.home s.inputs) part i
  unfolding no_sender_credit
  credit_there i e b =
      go (input_at c (senders_paid c s.home s.inputs) i (vc_at part i)).credit
      (second_fails (brings part i) _ e b)
    where
      go : (n : ℕ) → eqb n 0 ≡ false → 1 ≤ n
      go zero q = absurd (eqb-false 0 0 q refl)
      go (suc n) q = omega arith

  -- where no rule holds, the rows say so
  pub none_permits : Legal c → NoneHolds (rules_of s part) → Permitted s part
  none_permits legal none =
      let three = row_legal-law legal (none_first (none_rest (none_from numbers.row_wrong (rules_of s part) none))) in
      record {
        credits = λ o h. row_credit o (three o h) (none_first (none_from numbers.credit_past_room (rules_of s part) none) o h);
        offers = λ i h. row_offered i (three i h);
        turns = λ i h. turn_comes i (none_first (none_from numbers.out_of_turn (rules_of s part) none) i h);
        paid = λ i h. credit_there i (none_first (none_from numbers.no_sender_credit (rules_of s part) none) i h);
      }
