-- What a cycle brings, in both views; and a channel that there is not, which brings nothing and stays as on a fresh router.
-- Assumes nothing.
use Rattle.std.specs.Prelude.{Ok}
use mathlib.Core.Path.{◌≡◌, refl, sym, ap, ◌∙◌}
use mathlib.Core.Bool.{Bool, true, false, cond, ◌&&◌, false≢true}
use mathlib.Core.List.{List, [], ◌∷◌}
use Rattle.std.specs.Prelude.{Some, None}
use Prim.Native.Nat.{ℕ, zero, suc, ◌+◌, ◌-◌, ◌≤◌, ◌<◌}
use native.Mathlib.Numerals.{add-one}
use native.Mathlib.Omega.{arith}
use lib.Dec.{eqb, ltb}
use lib.ListN.{replicate, replicate-append-replicate}
use borrow.Author.Tests.{ne_eqb, ltb-true, lt-ltb}
use Rattle.base.specs.declared.config.Config.{Config}
use Rattle.model.specs.Channel.{after_cycle}
use Rattle.model.specs.Line.{out, shift}
use Rattle.model.specs.Phases as phases
use Rattle.model.specs.Phases.{credit_for, on_vc}
use Rattle.state.specs.declared.Router.{Router}
use Rattle.state.specs.Channels.{fresh_view, is_there}
use Rattle.trace.specs.Bytes.{AreBytes}
use Rattle.rules.specs.Free.{channel_of, event_of}
use Rattle.rules.specs.Ports.{named}
use Rattle.rules.specs.Rows.{credit_at, brings, vc_at, flit_at}
use Rattle.rules.specs.Step.{step_of}
use Rattle.rules.proofs.Accepted.{accepted_none, accepted_before}
use Rattle.rules.proofs.ChosenViews.{is_there-law, credit_named}
use Rattle.rules.proofs.IntakeSound.{permitted}
use Rattle.rules.proofs.LeavingViews.{one}
use Rattle.rules.proofs.Offers.{offered}

-- a line with the same in each place
module _ {A : Type 0} (z : A) where
  fresh_out : (n : ℕ) → out z (replicate n z) ≡ z
  fresh_out zero = refl
  fresh_out (suc n) = refl

  fresh_shift : (n : ℕ) → 1 ≤ n → shift (replicate n z) z ≡ replicate n z
  fresh_shift zero h = absurd (omega arith)
  fresh_shift (suc n) h = replicate-append-replicate n 1 z ∙ ap (λ (m : ℕ). replicate m z) (add-one n)

-- nothing comes to a fresh channel, and it stays
pub fresh_stays : (c : Config) → 1 ≤ c.forward → 1 ≤ c.back → channel_of (fresh_view c) ≡ after_cycle (channel_of (fresh_view c)) [] 0
fresh_stays c f b =
    let taken : 0 ≡ 0 - out 0 (replicate c.back 0) + 0 = omega arith in
    λ t.
    record {
      taken = taken t;
      wire = sym (fresh_shift [] c.forward f) t;
      queue = sym (fresh_out [] c.forward) t;
      home = sym (fresh_shift 0 c.back b) t;
    }

-- the flit that a port that there is brings on a VC
pub offered_alike : (c : Config) (part : List ℕ) (i v : ℕ) → i < c.ports → phases.offered (event_of c part) i v ≡ offered part i v
unfolding event_of
offered_alike c part i v port =
    ap (λ (b : Bool). on_vc v (cond (b && brings part i) (Some (record { vc = vc_at part i; flit = flit_at part i })) None))
    (lt-ltb i c.ports port)
    ∙ go (brings part i)
  where
    go : (b : Bool) → on_vc v (cond b (Some (record { vc = vc_at part i; flit = flit_at part i })) None)
        ≡ cond (b && eqb (vc_at part i) v) (flit_at part i ∷ []) []
    go true = refl
    go false = refl

module _ (s : Router) (part : List ℕ) (bytes : AreBytes part) (accepted : (step_of s part).verdict ≡ Ok tt) where
  abbrev c : Config
  c = s.config

  -- no flit is brought on an input VC that there is not
  pub offered_beyond : (i v : ℕ) → is_there c i v ≡ false → phases.offered (event_of c part) i v ≡ []
  unfolding event_of
  offered_beyond i v out = go (ltb i c.ports) refl (brings part i) refl
    where
      go : (b : Bool) → ltb i c.ports ≡ b → (d : Bool) → brings part i ≡ d
          → on_vc v (cond (b && d) (Some (record { vc = vc_at part i; flit = flit_at part i })) None) ≡ []
      go false p d q = refl
      go true p false q = refl
      go true p true q =
          let port = ltb-true i c.ports p in
          let low = ((permitted s part (accepted_before s part bytes accepted) (accepted_none s part bytes accepted)).offers i port q).vc in
          ap (λ (b : Bool). cond b (flit_at part i ∷ []) [])
          (ne_eqb (vc_at part i) v (λ k. false≢true (sym out ∙ is_there-law c i v port (omega arith))))

  -- no credit comes to an output VC that there is not
  pub credit_beyond : (o w : ℕ) → is_there c o w ≡ false → credit_for w ((event_of c part).credit o) ≡ 0
  unfolding event_of
  credit_beyond o w out = go (ltb o c.ports) refl
    where
      go : (b : Bool) → ltb o c.ports ≡ b → credit_for w (cond b (named (credit_at part o)) None) ≡ 0
      go false p = refl
      go true p =
          let port = ltb-true o c.ports p in
          let low = ((permitted s part (accepted_before s part bytes accepted) (accepted_none s part bytes accepted)).credits o port).there in
          credit_named w (credit_at part o)
          ∙ ap one (ne_eqb (credit_at part o) (w + 1) (λ k. false≢true (sym out ∙ is_there-law c o w port (omega arith))))
