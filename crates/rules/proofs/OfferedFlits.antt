-- The flit that a permitted row brings: its parts, that it is legal, and the wire place that it makes.
-- Assumes nothing.
use mathlib.Core.Path.{◌≡◌, ap, ap₂, ◌∙◌}
use mathlib.Core.Logic.{◌≢◌}
use mathlib.Core.Bool.{Bool, true, false, cond, not, ◌&&◌, ◌||◌}
use mathlib.Core.List.{List, [], ◌∷◌}
use Prim.Native.Nat.{ℕ, ◌+◌, ◌*◌, ◌%◌, ◌^◌, ◌<◌}
use native.Mathlib.Omega.{arith}
use lib.Dec.{eqb, leb, ltb}
use borrow.Author.Tests.{eqb-true, ltb-true, lt-ltb, le-leb, ne_eqb}
use Rattle.base.specs.declared.config.Config.{Config}
use Rattle.base.specs.declared.flit.Flit.{Flit}
use Rattle.base.specs.Flit.{flit_of, kind_of, destination_of, starts_kind, head, single}
use Rattle.base.proofs.Configurations.{Legal}
use Rattle.base.proofs.Flits.{kind_back, destination_back}
use Rattle.state.specs.Sound.{legal_flit, wire_place_legal}
use Rattle.state.specs.Views.{wire_vc, wire_flit, on_vc}
use Rattle.trace.specs.Bytes.{AreBytes, big_endian}
use Rattle.rules.specs.Intake.{on_wire}
use Rattle.rules.specs.Rows.{kind_at, vc_at, destination_at, payload_at, flit_at}
use Rattle.rules.proofs.Permitted.{Offered}

-- four bytes spell a number below 2^32
pub payload_fits : (part : List ℕ) (i : ℕ) → AreBytes part → payload_at part i < 2 ^ 32
unfolding big_endian
payload_fits part i bytes =
    omega (arith, bytes (8 * i + 4 + 0), bytes (8 * i + 4 + 1), bytes (8 * i + 4 + 2), bytes (8 * i + 4 + 3))

module _ (c : Config) (legal : Legal c) (part : List ℕ) (bytes : AreBytes part) (i : ℕ) (offered : Offered c part i) where
  destination_fits : destination_at part i < 8
  destination_fits = go (starts_kind (kind_at part i)) offered.destination
    where
      go : (b : Bool) → cond b (ltb (destination_at part i) c.ports) (eqb (destination_at part i) 0) ≡ true → destination_at part i < 8
      go true e = let few = legal.ports.1 in let l = ltb-true (destination_at part i) c.ports e in omega arith
      go false e = let z = eqb-true (destination_at part i) 0 e in omega arith

  pub offered_kind : kind_of (flit_at part i) ≡ kind_at part i
  offered_kind =
      kind_back (kind_at part i) (destination_at part i) (payload_at part i) (let k = offered.kind in omega arith) destination_fits
      (payload_fits part i bytes)

  pub offered_destination : destination_of (flit_at part i) ≡ destination_at part i
  offered_destination =
      destination_back (kind_at part i) (destination_at part i) (payload_at part i) (let k = offered.kind in omega arith) destination_fits
      (payload_fits part i bytes)

  word_range : (0 < (flit_at part i).word) × ((flit_at part i).word < 2 ^ 38)
  unfolding flit_of
  word_range =
      let k = offered.kind in
      let s = offered.some in
      let d = destination_fits in
      let p = payload_fits part i bytes in
      (omega arith, omega arith)

  pub offered_legal : legal_flit c (flit_at part i) ≡ true
  unfolding legal_flit
  offered_legal =
      ap₂ (λ (k d : ℕ). leb head k && leb k single && cond (starts_kind k) (ltb d c.ports) (eqb d 0)
      && ltb (flit_at part i).word (2 ^ 38))
      offered_kind offered_destination
      ∙ ap₂ ◌&&◌
      (ap₂ ◌&&◌ (ap₂ ◌&&◌ (le-leb head (kind_at part i) offered.some) (le-leb (kind_at part i) single offered.kind))
      offered.destination)
      (lt-ltb (flit_at part i).word (2 ^ 38) word_range.1)

  -- a wire place gives back the flit and its VC
  place_some : (v : ℕ) → on_wire v (flit_at part i) ≢ 0
  place_some v e = let w = word_range.0 in omega arith

  place_vc : (v : ℕ) → wire_vc (on_wire v (flit_at part i)) ≡ v
  place_vc v = let w = word_range.1 in omega arith

  place_flit : (v : ℕ) → wire_flit (on_wire v (flit_at part i)) ≡ flit_at part i
  unfolding flit_of
  place_flit v =
      let w = word_range.1 in
      let e : on_wire v (flit_at part i) % 2 ^ 38 ≡ (flit_at part i).word = omega arith in
      ap (λ (n : ℕ). record { word = n }) e

  pub offered_place_legal : wire_place_legal c (on_wire (vc_at part i) (flit_at part i)) ≡ true
  unfolding wire_place_legal
  offered_place_legal =
      ap₂ ◌||◌ (ne_eqb (on_wire (vc_at part i) (flit_at part i)) 0 (place_some (vc_at part i)))
      (ap₂ ◌&&◌ (ap (legal_flit c) (place_flit (vc_at part i)) ∙ offered_legal)
      (lt-ltb (wire_vc (on_wire (vc_at part i) (flit_at part i))) c.vcs
      (let e = place_vc (vc_at part i) in let l = offered.vc in omega arith)))

  pub offered_on : (v : ℕ) → on_vc v (on_wire (vc_at part i) (flit_at part i)) ≡ cond (eqb (vc_at part i) v) (flit_at part i ∷ []) []
  offered_on v =
      ap₂ (λ (b : Bool) (u : ℕ). cond (not b && eqb u v) (wire_flit (on_wire (vc_at part i) (flit_at part i)) ∷ []) [])
      (ne_eqb (on_wire (vc_at part i) (flit_at part i)) 0 (place_some (vc_at part i))) (place_vc (vc_at part i))
      ∙ ap (λ (f : Flit). cond (eqb (vc_at part i) v) (f ∷ []) []) (place_flit (vc_at part i))
