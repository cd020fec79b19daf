-- A fresh router holds nothing on any channel: what each of its views shows.
-- Assumes nothing.
use mathlib.Core.Path.{◌≡◌, refl, ap, ap₂, ◌∙◌}
use mathlib.Core.Bool.{Bool, true, false, cond}
use mathlib.Core.List.{[], ◌∷◌, ◌++◌}
use Prim.Native.Nat.{ℕ, zero, suc, ◌+◌, ◌<◌, ◌-◌}
use native.Mathlib.Nat.{sub_self}
use native.Mathlib.Numerals.{add-one}
use native.Mathlib.Omega.{arith}
use lib.Dec.{eqb, ltb}
use lib.ListN.{replicate, replicate-append-replicate}
use borrow.Author.Tests.{ltb-true, ne_eqb}
use Rattle.base.specs.declared.config.Config.{Config}
use Rattle.base.proofs.Configurations.{Legal}
use Rattle.base.proofs.Search.{both}
use Rattle.state.specs.declared.InputVc.{InputVc}
use Rattle.state.specs.Fresh.{fresh_router}
use Rattle.state.specs.Views.{places, on_vc, to_vc, wire_place, home_place, wire_of, home_of, output_at}
use Rattle.state.specs.Channels.{bound_to, fresh_view, is_there, channel_view, view_of, out_credit_of}
use Rattle.state.proofs.FreshIsSound.{input_is, output_is, wire_is, home_is, no_queue}

-- places that are all alike
places_same : {A : Type 0} (n : ℕ) (f : ℕ → A) (z : A) → ((k : ℕ) → f k ≡ z) → places n f ≡ replicate n z
unfolding places
places_same zero f z same = refl
places_same (suc n) f z same =
    ap₂ (λ l x. l ++ (x ∷ [])) (places_same n f z same) (same n) ∙ replicate-append-replicate n 1 z ∙ ap (λ m. replicate m z) (add-one n)

module _ (c : Config) (legal : Legal c) where
  wire_empty : (i v : ℕ) → wire_of c (fresh_router c).wire i v ≡ replicate c.forward []
  unfolding wire_of
  wire_empty i v = places_same c.forward (λ (k : ℕ). on_vc v (wire_place (fresh_router c).wire k i)) []
      (λ k. ap (on_vc v) (wire_is c legal k i))

  home_empty : (i v : ℕ) → home_of c (fresh_router c).home i v ≡ replicate c.back 0
  unfolding home_of
  home_empty i v =
      places_same c.back (λ (k : ℕ). to_vc v (home_place (fresh_router c).home k i)) 0 (λ k.
      ap (λ b. cond b 1 0) (ap (λ x. eqb x (v + 1)) (home_is c legal k i) ∙ ne_eqb 0 (v + 1) (λ e. omega arith)))

  there : (i v : ℕ) → i < c.ports → v < c.vcs → channel_view (fresh_router c) i v ≡ fresh_view c
  unfolding fresh_router
  there i v h g =
      λ t. record {
        taken = (ap (λ (x : InputVc). c.depth - x.credit) (input_is c legal i v h g) ∙ sub_self c.depth) t;
        wire = wire_empty i v t;
        queue = no_queue c legal i v h g t;
        home = home_empty i v t;
        opened = (input_is c legal i v h g t).opened;
        bound = bound_to (input_is c legal i v h g t).binding;
      }

  -- every channel is empty and unbound
  pub fresh_view-law : (i v : ℕ) → view_of (fresh_router c) i v ≡ fresh_view c
  unfolding view_of fresh_router
  fresh_view-law i v = go (is_there c i v) refl
    where
      go : (b : Bool) → is_there c i v ≡ b → cond b (channel_view (fresh_router c) i v) (fresh_view c) ≡ fresh_view c
      go true e =
          let p = both (ltb i c.ports) (ltb v c.vcs) e in
          there i v (ltb-true i c.ports p.0) (ltb-true v c.vcs p.1)
      go false e = refl

  -- "each output credit E"
  pub fresh_credit : (o w : ℕ) → out_credit_of (fresh_router c) o w ≡ c.downstream
  unfolding out_credit_of fresh_router
  fresh_credit o w = go (is_there c o w) refl
    where
      go : (b : Bool) → is_there c o w ≡ b → cond b (output_at c (fresh_router c).outputs o w).credit c.downstream ≡ c.downstream
      go true e =
          let p = both (ltb o c.ports) (ltb w c.vcs) e in
          ap (λ x. x.credit) (output_is c legal o w (ltb-true o c.ports p.0) (ltb-true w c.vcs p.1))
      go false e = refl
