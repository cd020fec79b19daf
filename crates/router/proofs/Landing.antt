-- Phase 3, turn by turn.
-- Assumes nothing.
use Rattle.std.proofs.Common.{◌≡◌, refl, sym, ap, ◌∙◌, List, length, get_or, set, ℕ, ◌+◌, ◌*◌, ◌≤◌, arith}
use lib.Seq.{set_out}
use borrow.Author.Tests.{eq-eqb, ne_eqb}
use Rattle.base.specs.declared.config.Config.{Config}
use Rattle.state.specs.declared.InputVc.{InputVc}
use Rattle.state.specs.Fresh.{fresh_input}
use Rattle.store.specs.Store.{pushed}
use Rattle.state.specs.Views.{channel_number, wire_place, wire_vc, wire_flit}
use Rattle.store.proofs.Slots.{push_beyond}
use Rattle.rules.specs.Ports.{over_ports}
use Rattle.rules.specs.Intake.{one_more_queued, Queues, joined, landed_at}
use Rattle.rules.proofs.Folds.{over_again}
use Rattle.router.specs.Fitting.{QueuesFit}
use Rattle.router.proofs.Turns.{set_keeps}

abbrev pub land_turn : Config → List ℕ → Queues → ℕ → Queues
land_turn c wire q i = landed_at c (wire_place wire 0 i) i q

first_place : (wire : List ℕ) (i : ℕ) → get_or wire i 0 ≡ wire_place wire 0 i
first_place wire i = let e : 8 * 0 + i ≡ i = omega arith in rw e

module _ (c : Config) (wire : List ℕ) (s : Queues) (inputs : List InputVc) (store : List ℕ) (i : ℕ)
    (so : ◌≡◌ {A = Queues} (record { inputs = inputs; store = store }) (over_ports i (land_turn c wire) s)) where
  abbrev pub q : Queues
  q = record { inputs = inputs; store = store }

  -- nothing lands
  pub land_none : get_or wire i 0 ≡ 0 → q ≡ over_ports (i + 1) (land_turn c wire) s
  land_none e = over_again i (land_turn c wire) s q q so (rw (sym (first_place wire i), eq-eqb (get_or wire i 0) 0 e))

  some_lands : (get_or wire i 0 ≡ 0 → ⊥) → joined c i (wire_vc (get_or wire i 0)) (wire_flit (get_or wire i 0)) q ≡ land_turn c wire q i
  some_lands n = rw (sym (first_place wire i), ne_eqb (get_or wire i 0) 0 n)

  module _ (some : get_or wire i 0 ≡ 0 → ⊥) (x v : ℕ) (vc : v ≡ wire_vc (get_or wire i 0)) (number : x ≡ channel_number c i v) where
    -- a flit lands on channel x
    pub land_some : (y : InputVc) → y ≡ one_more_queued (get_or inputs x (fresh_input 0))
        → (l : List ℕ) → l ≡ pushed store x (get_or inputs x (fresh_input 0)).queued (wire_flit (get_or wire i 0))
        → ◌≡◌ {A = Queues} (record { inputs = set inputs x y; store = l }) (over_ports (i + 1) (land_turn c wire) s)
    land_some y f l g = over_again i (land_turn c wire) s q _ so (rw (f, g, number, vc) (some_lands some))

    -- a channel that there is not
    pub land_out : length inputs ≡ 32 → 32 ≤ x → q ≡ over_ports (i + 1) (land_turn c wire) s
    land_out e h = same ∙ land_some _ refl _ refl
      where
        input : InputVc
        input = get_or inputs x (fresh_input 0)

        same : ◌≡◌ {A = Queues} q
            (record {
              inputs = set inputs x (one_more_queued input);
              store = pushed store x input.queued (wire_flit (get_or wire i 0));
            })
        same =
            let far : length inputs ≤ x = omega arith in
            rw (set_out inputs x (one_more_queued input) far, sym (push_beyond store x input.queued (wire_flit (get_or wire i 0)) h))

-- a turn makes one queue longer by one
pub queues_fit : (xs : List InputVc) (i k : ℕ) (a : InputVc) → QueuesFit (16 + i) xs → a ≡ one_more_queued (get_or xs k (fresh_input 0))
    → QueuesFit (16 + (i + 1)) (set xs k a)
queues_fit xs i k a f e x =
    set_keeps (λ (y : InputVc). y.queued ≤ 16 + (i + 1)) xs k a (fresh_input 0)
    (let p = ap (λ (y : InputVc). y.queued) e in let l = f k in omega arith) x (let l = f x in omega arith)
