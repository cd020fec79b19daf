-- What each channel is after phases 5 to 7, by its views: its binding, its queue, its line home, and its output VC's credit.
-- Assumes nothing.
use mathlib.Core.Path.{◌≡◌, refl, sym, ap, ap₂, ◌∙◌}
use mathlib.Core.Logic.{◌⊎◌, inl, inr}
use mathlib.Core.Bool.{Bool, true, false, cond, ◌&&◌}
use mathlib.Core.List.{List, [], ◌∷◌, ◌++◌}
use Rattle.std.specs.Prelude.{Option, Some, None}
use Prim.Native.Nat.{ℕ, zero, suc, ◌-◌, ◌≤◌, ◌<◌}
use native.Mathlib.Omega.{arith}
use lib.ListN.{drop}
use Rattle.base.specs.declared.config.Config.{Config}
use Rattle.base.specs.declared.flit.Flit.{Flit}
use Rattle.base.specs.Flit.{kind_of, ends_kind}
use Rattle.state.specs.declared.OutVc.{OutVc}
use Rattle.state.specs.declared.Binding.{Binding}
use Rattle.state.specs.declared.Binding.TheVariants.{Unbound}
use Rattle.state.specs.declared.InputVc.{InputVc}
use Rattle.state.specs.declared.OutputVc.{OutputVc}
use Rattle.state.specs.declared.Router.{Router}
use Rattle.state.specs.Channels.{bound_to}
use Rattle.state.specs.Sound.{Sound}
use Rattle.state.specs.Views.{channel_number, input_at, output_at, queue_of, home_place, home_of, places, to_vc}
use Rattle.state.specs.Setters.{set_binding, with_queued}
use Rattle.rules.specs.Allocation.{grant_of, allocated}
use Rattle.rules.specs.Departures.{leaving_of}
use Rattle.rules.proofs.Acts.{Actor, Untouched, touched_or_not}
use Rattle.rules.proofs.AllocatedNames.{bound_at}
use Rattle.rules.proofs.Bound.{asking, ungranted_stays, granted_or_not}
use Rattle.rules.proofs.Choices.{grant_to, leaves_from, grant_to-law, no_grant_to, leaves_from-law, none_leaves, passes_by, passes_by-law}
use Rattle.rules.proofs.Choices.{none_passes}
use Rattle.rules.proofs.Exits.{exit}
use Rattle.rules.proofs.Facts.{sound_legal}
use Rattle.rules.proofs.Left.{ends, from_place, by_place, others_stay, unused_outputs_stay}
use Rattle.rules.proofs.LeftHome.{older_stays, sent_counts, unsent_counts}
use Rattle.rules.proofs.LeftNames.{Leaves, Passes, left_at, passed_at}
use Rattle.rules.proofs.LeftPackets.{exit_front, queue_stays}
use Rattle.rules.proofs.Lines.{places_ext}

-- what an input VC is bound to after phase 5: what it is granted, or what it was bound to
abbrev pub now_bound : Option OutVc → Option OutVc → Option OutVc
now_bound None before = before
now_bound (Some b) before = Some b

-- one, if it leaves
abbrev pub one : Bool → ℕ
one b = cond b 1 0

-- whether a queue's front ends a packet
abbrev pub front_ends : List Flit → Bool
front_ends [] = false
front_ends (f ∷ fs) = ends_kind (kind_of f)

module _ (s : Router) (sound : Sound s) (i v : ℕ) (port : i < s.config.ports) (vc : v < s.config.vcs) where
  abbrev c : Config
  c = s.config

  abbrev x : ℕ
  x = channel_number c i v

  abbrev queue : List Flit
  queue = queue_of c s.store i v (input_at c s.inputs i v).queued

  -- phase 5
  pub bound_now-law : bound_to (input_at c (allocated s).inputs i v).binding
      ≡ now_bound (grant_to s x) (bound_to (input_at c s.inputs i v).binding)
  bound_now-law = go (granted_or_not s x)
    where
      go : Actor (grant_of s) (asking s) c.ports x ⊎ Untouched (grant_of s) (asking s) c.ports x
          → bound_to (input_at c (allocated s).inputs i v).binding ≡ now_bound (grant_to s x) (bound_to (input_at c s.inputs i v).binding)
      go (inl a) =
          ap (λ (y : InputVc). bound_to y.binding) (bound_at s sound x a)
          ∙ ap (λ (b : Option OutVc). now_bound b (bound_to (input_at c s.inputs i v).binding)) (sym (grant_to-law s x a))
      go (inr off) =
          ap (λ (y : InputVc). bound_to y.binding) (ungranted_stays s x off)
          ∙ ap (λ (b : Option OutVc). now_bound b (bound_to (input_at c s.inputs i v).binding)) (sym (no_grant_to s x off))

  -- phases 6 and 7: a flit that leaves is gone from its queue
  pub queue_left : queue_of c (leaving_of s).store i v (input_at c (leaving_of s).inputs i v).queued ≡ drop (one (leaves_from s x)) queue
  queue_left = go (touched_or_not (exit s) (from_place s) c.ports x)
    where
      go : Leaves s sound x ⊎ Untouched (exit s) (from_place s) c.ports x
          → queue_of c (leaving_of s).store i v (input_at c (leaving_of s).inputs i v).queued ≡ drop (one (leaves_from s x)) queue
      go (inl a) =
          ap (drop 1) (sym (exit_front s sound i v port vc a)) ∙ ap (λ (b : Bool). drop (one b) queue) (sym (leaves_from-law s x a))
      go (inr off) = queue_stays s sound i v port vc off ∙ ap (λ (b : Bool). drop (one b) queue) (sym (none_leaves s x off))

  -- its VC is unbound, if it ends a packet
  pub bound_left : bound_to (input_at c (leaving_of s).inputs i v).binding
      ≡ cond (leaves_from s x && front_ends queue) None (bound_to (input_at c s.inputs i v).binding)
  bound_left = go (touched_or_not (exit s) (from_place s) c.ports x)
    where
      unbound : (b : Bool) (y : Binding) → bound_to (cond b Unbound y) ≡ cond b None (bound_to y)
      unbound true y = refl
      unbound false y = refl

      go : Leaves s sound x ⊎ Untouched (exit s) (from_place s) c.ports x
          → bound_to (input_at c (leaving_of s).inputs i v).binding
          ≡ cond (leaves_from s x && front_ends queue) None (bound_to (input_at c s.inputs i v).binding)
      go (inl a) =
          ap (λ (y : InputVc). bound_to y.binding) (left_at s sound x a)
          ∙ unbound (ends a.deed) (input_at c s.inputs i v).binding
          ∙ ap₂ (λ (l : Bool) (q : List Flit). cond (l && front_ends q) None (bound_to (input_at c s.inputs i v).binding))
          (sym (leaves_from-law s x a))
          (sym (exit_front s sound i v port vc a))
      go (inr off) =
          ap (λ (y : InputVc). bound_to y.binding) (others_stay s x off)
          ∙ ap (λ (l : Bool). cond (l && front_ends queue) None (bound_to (input_at c s.inputs i v).binding)) (sym (none_leaves s x off))

  -- nothing else of it changes
  pub input_left : {B : Type 0} (see : InputVc → B) → ((b : Binding) (q : ℕ) (y : InputVc)
      → see (set_binding b (with_queued q y)) ≡ see y)
      → see (input_at c (leaving_of s).inputs i v) ≡ see (input_at c s.inputs i v)
  input_left {B} see same = go (touched_or_not (exit s) (from_place s) c.ports x)
    where
      go : Leaves s sound x ⊎ Untouched (exit s) (from_place s) c.ports x
          → see (input_at c (leaving_of s).inputs i v) ≡ see (input_at c s.inputs i v)
      go (inl a) = ap see (left_at s sound x a) ∙ same _ _ (input_at c s.inputs i v)
      go (inr off) = ap see (others_stay s x off)

  -- and a credit for it is in the newest place of the line home
  pub home_left : ((i : ℕ) → i < c.ports → home_place s.home (c.back - 1) i ≡ 0) → (older : List ℕ)
      → home_of c s.home i v ≡ older ++ (0 ∷ []) → home_of c (leaving_of s).home i v ≡ older ++ (one (leaves_from s x) ∷ [])
  unfolding home_of places
  home_left empty older e =
      newest c.back (sound_legal s sound).back.0 (λ (k : ℕ). to_vc v (home_place s.home k i))
      (λ (k : ℕ). to_vc v (home_place (leaving_of s).home k i))
      (λ k l. let few = (sound_legal s sound).ports.1 in ap (to_vc v) (older_stays s sound k i (omega arith) (λ q. omega arith)))
      (λ k q. let last : k ≡ c.back - 1 = omega arith in
      ap (λ (k : ℕ). to_vc v (home_place (leaving_of s).home k i)) last ∙ go (touched_or_not (exit s) (from_place s) c.ports x)) e
    where
      go : Leaves s sound x ⊎ Untouched (exit s) (from_place s) c.ports x
          → to_vc v (home_place (leaving_of s).home (c.back - 1) i) ≡ one (leaves_from s x)
      go (inl a) = sent_counts s sound i v port vc a ∙ ap one (sym (leaves_from-law s x a))
      go (inr off) = unsent_counts s sound empty i v port vc off ∙ ap one (sym (none_leaves s x off))

      before_last : List ℕ → List ℕ
      before_last [] = []
      before_last (y ∷ []) = []
      before_last (y ∷ z ∷ zs) = y ∷ before_last (z ∷ zs)

      less : (ys : List ℕ) (y : ℕ) → before_last (ys ++ (y ∷ [])) ≡ ys
      less [] y = refl
      less (z ∷ []) y = refl
      less (z ∷ w ∷ ws) y = ap (λ (l : List ℕ). z ∷ l) (less (w ∷ ws) y)

      newest : (n : ℕ) → 1 ≤ n → (f g : ℕ → ℕ) → ((k : ℕ) → suc k < n → g k ≡ f k) → ((k : ℕ) → suc k ≡ n → g k ≡ one (leaves_from s x))
          → places n f ≡ older ++ (0 ∷ []) → places n g ≡ older ++ (one (leaves_from s x) ∷ [])
      newest zero h f g same last e = absurd (omega arith)
      newest (suc n) h f g same last e =
          ap₂ (λ (l : List ℕ) (z : ℕ). l ++ (z ∷ []))
          (places_ext n g f (λ k l. same k (omega arith)) ∙ sym (less (places n f) (f n)) ∙ ap before_last e ∙ less older 0) (last n refl)

-- the output VC that it leaves by has one credit less
pub output_credit_left : (s : Router) → Sound s → (o w : ℕ)
    → (output_at s.config (leaving_of s).outputs o w).credit
    ≡ (output_at s.config s.outputs o w).credit - one (passes_by s (channel_number s.config o w))
output_credit_left s sound o w = go (touched_or_not (exit s) (by_place s) s.config.ports (channel_number s.config o w))
  where
    all_of : (n : ℕ) → n ≡ n - 0
    all_of n = omega arith

    go : Passes s sound (channel_number s.config o w) ⊎ Untouched (exit s) (by_place s) s.config.ports (channel_number s.config o w)
        → (output_at s.config (leaving_of s).outputs o w).credit
        ≡ (output_at s.config s.outputs o w).credit - one (passes_by s (channel_number s.config o w))
    go (inl a) =
        ap (λ (y : OutputVc). y.credit) (passed_at s sound (channel_number s.config o w) a)
        ∙ ap (λ (b : Bool). (output_at s.config s.outputs o w).credit - one b) (sym (passes_by-law s (channel_number s.config o w) a))
    go (inr off) =
        ap (λ (y : OutputVc). y.credit) (unused_outputs_stay s (channel_number s.config o w) off)
        ∙ all_of (output_at s.config s.outputs o w).credit
        ∙ ap (λ (b : Bool). (output_at s.config s.outputs o w).credit - one b) (sym (none_passes s (channel_number s.config o w) off))
