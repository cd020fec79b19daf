-- The cases at one place of a cycle: a VC in range or not, a flit offered or none, a flit that leaves or none.
-- Assumes nothing.
use mathlib.Core.Path.{◌≡◌, refl}
use mathlib.Core.Logic.Dec
use mathlib.Core.Bool.{Bool, true, false, cond}
use Rattle.std.specs.Prelude.{Option, None, Some}
use mathlib.Core.List.{List, [], ◌∷◌}
use Prim.Native.Nat.{ℕ}
use native.Mathlib.Decide.{dec_lt}
use lib.Dec.{eqb}
use Rattle.model.specs.Sizes.{Config}
use Rattle.model.specs.Router.{OutVc}
use Rattle.model.specs.Cycle.{Event, Brought}
use Rattle.model.specs.History.{Departure}
use Rattle.model.specs.Phases.{on_vc, offered, leaving}
use Rattle.model.specs.Limits.{InRange}
use Rattle.model.proofs.Lists.{eqb-true}

-- A VC is in range or not; what cannot be otherwise is.
pub in_range? : (c : Config) (i v : ℕ) → Dec (InRange c i v)
in_range? c i v = Dec.and (dec_lt i c.ports) (dec_lt v c.vcs)

pub not_otherwise : {A : Type 0} → Dec A → ¬ ¬ A → A
not_otherwise (yes a) f = a
not_otherwise (no a) f = absurd (f a)

module _ {Flit : Type 0} (i v : ℕ) where
  -- What is offered on an input VC is nothing, or the flit that its port brings for it.
  pub offered_cases : (e : Event Flit) (P : List Flit → Type 0) → P []
      → ((b : Brought Flit) → e.offer i ≡ Some b → b.vc ≡ v → P (b.flit ∷ [])) →
      P (offered e i v)
  offered_cases e P none-offered one-offered = go (e.offer i) refl
    where
      go : (o : Option (Brought Flit)) → e.offer i ≡ o → P (on_vc v o)
      go None q = none-offered
      go (Some b) q = test (eqb b.vc v) refl
        where
          test : (t : Bool) → eqb b.vc v ≡ t → P (cond t (b.flit ∷ []) [])
          test true t = one-offered b q (eqb-true b.vc v t)
          test false t = none-offered

  -- a flit as it leaves from VC v of input i by the output VC b
  abbrev pub gone : OutVc → Flit → Departure Flit
  gone b f = record { output = b.output; out_vc = b.vc; input = i; vc = v; flit = f }

  -- What leaves from an input VC is nothing, or the front of its queue by what it is bound to.
  pub leaving_cases : (P : List (Departure Flit) → Type 0) (l : Bool) (b : Option OutVc) (q : List Flit) → P [] →
      ((a : OutVc) (f : Flit) → l ≡ true → b ≡ Some a → P (gone a f ∷ [])) → P (leaving i v l b q)
  leaving_cases P false b q none_left one_left = none_left
  leaving_cases P true None q none_left one_left = none_left
  leaving_cases P true (Some b) [] none_left one_left = none_left
  leaving_cases P true (Some b) (f ∷ q) none_left one_left = one_left b f refl refl
