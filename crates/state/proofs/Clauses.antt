-- The clauses of one channel, test by test, and of the places that are not in use.
-- Assumes nothing.
use Rattle.std.specs.Prelude.{Option, None}
use Rattle.state.specs.declared.InVc.{InVc}
use mathlib.Core.Path.{◌≡◌, refl, sym, ap, ap₂, ◌∙◌}
use mathlib.Core.Bool.{Bool, true, false, not, ◌&&◌, ◌||◌, or-true}
use mathlib.Core.List.{List, ◌++◌}
use Prim.Native.Nat.{ℕ, ◌+◌, ◌*◌, ◌≤◌, ◌<◌}
use native.Mathlib.Omega.{arith}
use lib.Dec.{eqb, leb, ltb}
use lib.ListN.{length, get_or}
use borrow.Author.Tests.{lt-ltb, le-ltb, le-leb, lt-leb, eq-eqb, ne_eqb, eqb-true}
use Rattle.base.specs.declared.config.Config.{Config}
use Rattle.base.specs.Search.{every}
use Rattle.base.proofs.Search.{all_every}
use Rattle.base.specs.Sizes.{Bounds}
use Rattle.state.specs.declared.Binding.{Binding}
use Rattle.state.specs.declared.Binding.TheVariants.{Unbound}
use Rattle.state.specs.declared.InputVc.{InputVc}
use Rattle.state.specs.declared.OutputVc.{OutputVc}
use Rattle.state.specs.Fresh.{fresh_input, fresh_output}
use Rattle.state.specs.Views.{input_at, output_at, queue_of, wire_of, home_of, flat, total}
use Rattle.state.specs.Sound.{all, legal_flit, credits_whole, reading, ends_as, begins_inside, reads, is_unbound, is_vc_free, input_unused}
use Rattle.state.specs.Sound.{output_unused}
use Rattle.state.specs.Testing.{place_bound, place_held, input_names, output_names, input_sound, names_pass, names_sound}
use Rattle.state.specs.Testing.{channel_sound}
use Rattle.state.proofs.Naming.{channel_fits, input_names-law, output_names-law}
use Rattle.state.proofs.Tests.{and_no, and_yes}

-- what is counted is what the clause says
pub credits_are : (c : Config) (wire home : List ℕ) (i v : ℕ) (input : InputVc) (wired homing : ℕ) → wired
    ≡ length (flat (wire_of c wire i v))
    → homing ≡ total (home_of c home i v) → eqb (input.credit + wired + input.queued + homing) c.depth
    ≡ credits_whole c wire home i v input
unfolding credits_whole
credits_are c wire home i v input wired homing e f = ap₂ (λ a b. eqb (input.credit + a + input.queued + b) c.depth) e f

-- credits that add up leave room for the queue
pub queue_part : (a w q r d : ℕ) → a + w + q + r ≡ d → d ≤ 16 → q ≤ 16
queue_part a w q r d s l = omega arith

pub queued_fits : (c : Config) (wire home : List ℕ) (i v : ℕ) (input : InputVc) → credits_whole c wire home i v input ≡ true → c.depth ≤ 16
    → input.queued ≤ 16
unfolding credits_whole
queued_fits c wire home i v input e h =
    queue_part input.credit (length (flat (wire_of c wire i v))) input.queued (total (home_of c home i v)) c.depth (eqb-true _ _ e) h

-- the slots of a channel stand in the store
pub base_fits : (c : Config) (i v : ℕ) → Bounds 0 c → i < c.ports → v < c.vcs → 16 * (i * c.vcs + v) + 16 ≤ 512
base_fits c i v b h g = let l = channel_fits c.ports c.vcs i v h g b.ports.1 b.vcs.1 in omega arith

-- one input VC
module _ (c : Config) (store wire home : List ℕ) (i v : ℕ) (input : InputVc) where
  pub input_credits_fail : credits_whole c wire home i v input ≡ false → false ≡ input_sound c store wire home i v input
  unfolding input_sound
  input_credits_fail e = and_no (credits_whole c wire home i v input) _ e

  pub input_is : (start : Bool) → credits_whole c wire home i v input ≡ true
      → start ≡ begins_inside (queue_of c store i v input.queued) input.binding
      → (all (legal_flit c) (queue_of c store i v input.queued)
      && ends_as input.opened (reading start (queue_of c store i v input.queued ++ flat (wire_of c wire i v))))
      ≡ input_sound c store wire home i v input
  unfolding input_sound reads
  input_is start e s =
      ap (λ b. all (legal_flit c) (queue_of c store i v input.queued)
      && ends_as input.opened (reading b (queue_of c store i v input.queued ++ flat (wire_of c wire i v)))) s
      ∙ and_yes (credits_whole c wire home i v input) _ e

-- one channel's names
module _ (c : Config) (i v : ℕ) (input : InputVc) (output : OutputVc) (holder : Option InVc) (binding : Binding) where
  pub names_credit : c.downstream < output.credit → false ≡ names_pass c i v input output holder binding
  unfolding names_pass
  names_credit h = and_no (leb output.credit c.downstream) _ (lt-leb output.credit c.downstream h)

  pub names_input : output.credit ≤ c.downstream → input_names c i v input.binding holder ≡ false
      → false ≡ names_pass c i v input output holder binding
  unfolding names_pass
  names_input h e =
      and_no (input_names c i v input.binding holder) _ e
      ∙ and_yes (leb output.credit c.downstream) _ (le-leb output.credit c.downstream h)

  pub names_are : output.credit ≤ c.downstream → input_names c i v input.binding holder ≡ true
      → output_names c i v output.holder binding ≡ names_pass c i v input output holder binding
  unfolding names_pass
  names_are h e =
      and_yes (input_names c i v input.binding holder) _ e
      ∙ and_yes (leb output.credit c.downstream) _ (le-leb output.credit c.downstream h)

-- one channel
module _ (c : Config) (inputs : List InputVc) (outputs : List OutputVc) (i v : ℕ) where
  -- y and z are the places of what the two VCs name
  pub names_pass-law : (y z : ℕ) (r : Bool) → Bounds 0 c → y ≡ place_bound c (input_at c inputs i v).binding → z
      ≡ place_held c (output_at c outputs i v).holder
      → r ≡ names_pass c i v (input_at c inputs i v) (output_at c outputs i v) (get_or outputs y (fresh_output 0)).holder
      (get_or inputs z (fresh_input 0)).binding
      → r ≡ names_sound c inputs outputs i v
  unfolding names_pass names_sound
  names_pass-law y z r b d e f =
      f ∙ ap₂ (λ p q. leb (output_at c outputs i v).credit c.downstream && (p && q))
      (ap (λ n. input_names c i v (input_at c inputs i v).binding (get_or outputs n (fresh_output 0)).holder) d
      ∙ input_names-law c outputs i v (input_at c inputs i v).binding b.ports.1 b.vcs.1)
      (ap (λ n. output_names c i v (output_at c outputs i v).holder (get_or inputs n (fresh_input 0)).binding) e
      ∙ output_names-law c inputs i v (output_at c outputs i v).holder b.ports.1 b.vcs.1)

  pub channel_fails : (store wire home : List ℕ) → names_sound c inputs outputs i v ≡ false → false
      ≡ channel_sound c inputs outputs store wire home i v
  unfolding channel_sound
  channel_fails store wire home e = and_no (names_sound c inputs outputs i v) _ e

  pub channel_is : (store wire home : List ℕ) → names_sound c inputs outputs i v ≡ true
      → input_sound c store wire home i v (input_at c inputs i v) ≡ channel_sound c inputs outputs store wire home i v
  unfolding channel_sound
  channel_is store wire home e = and_yes (names_sound c inputs outputs i v) _ e

-- an input VC and an output VC that are not in use
pub input_credit_left : (x : InputVc) → x.binding ≡ Unbound → (x.credit ≡ 0 → ⊥) → false ≡ input_unused x
input_credit_left x e n = sym (ap₂ (λ b t. is_unbound b && t && not x.opened && eqb x.queued 0) e (ne_eqb x.credit 0 n))

pub input_open : (x : InputVc) → x.binding ≡ Unbound → x.credit ≡ 0 → x.opened ≡ true → false ≡ input_unused x
input_open x e z o =
    sym (ap₂ (λ b t. is_unbound b && t && not x.opened && eqb x.queued 0) e (eq-eqb x.credit 0 z)
    ∙ ap (λ t. not t && eqb x.queued 0) o)

pub input_unused-law : (x : InputVc) → x.binding ≡ Unbound → x.credit ≡ 0 → x.opened ≡ false → eqb x.queued 0 ≡ input_unused x
input_unused-law x e z o =
    sym (ap₂ (λ b t. is_unbound b && t && not x.opened && eqb x.queued 0) e (eq-eqb x.credit 0 z)
    ∙ ap (λ t. not t && eqb x.queued 0) o)

pub output_unused-law : (y : OutputVc) → y.holder ≡ None → eqb y.credit 0 ≡ output_unused y
output_unused-law y e = sym (ap (λ h. is_vc_free h && eqb y.credit 0) e)

-- a channel from n on is not in use
abbrev pub unused_from : ℕ → List InputVc → List OutputVc → ℕ → Bool
unused_from n inputs outputs x = ltb x n || input_unused (get_or inputs x (fresh_input 0)) && output_unused (get_or outputs x (fresh_output 0))

pub unused_below : (n : ℕ) (inputs : List InputVc) (outputs : List OutputVc) → every n (unused_from n inputs outputs) ≡ true
unused_below n inputs outputs =
    all_every n (unused_from n inputs outputs) (λ x h.
    ap (λ b. b || (input_unused (get_or inputs x (fresh_input 0)) && output_unused (get_or outputs x (fresh_output 0)))) (lt-ltb x n h))

pub unused_is : (n : ℕ) (inputs : List InputVc) (outputs : List OutputVc) (x : ℕ) (a b : Bool) → n ≤ x
    → input_unused (get_or inputs x (fresh_input 0)) ≡ a → output_unused (get_or outputs x (fresh_output 0)) ≡ b → unused_from n inputs outputs x
    ≡ (a && b)
unused_is n inputs outputs x a b h e f =
    ap (λ t. t || (input_unused (get_or inputs x (fresh_input 0)) && output_unused (get_or outputs x (fresh_output 0)))) (le-ltb x n h)
    ∙ ap₂ ◌&&◌ e f

pub unused_input : (n : ℕ) (inputs : List InputVc) (outputs : List OutputVc) (x : ℕ) → n ≤ x
    → input_unused (get_or inputs x (fresh_input 0)) ≡ false → unused_from n inputs outputs x ≡ false
unused_input n inputs outputs x h e =
    unused_is n inputs outputs x false (output_unused (get_or outputs x (fresh_output 0))) h e refl

-- a slot from the queue's end on is zero
abbrev pub empty_behind : ℕ → ℕ → List ℕ → ℕ → Bool
empty_behind base queued store k = ltb k queued || eqb (get_or store (base + k) 0) 0

pub behind_queue : (base queued : ℕ) (store : List ℕ) → every queued (empty_behind base queued store) ≡ true
behind_queue base queued store =
    all_every queued (empty_behind base queued store) (λ k h. ap (λ b. b || eqb (get_or store (base + k) 0) 0) (lt-ltb k queued h))

pub behind_zero : (base queued : ℕ) (store : List ℕ) (k : ℕ) → get_or store (base + k) 0 ≡ 0 → empty_behind base queued store k ≡ true
behind_zero base queued store k e = ap (λ b. ltb k queued || b) (eq-eqb (get_or store (base + k) 0) 0 e) ∙ or-true (ltb k queued)

pub behind_some : (base queued : ℕ) (store : List ℕ) (k : ℕ) → queued ≤ k → (get_or store
    (base + k) 0 ≡ 0 → ⊥) → empty_behind base queued store k ≡ false
behind_some base queued store k h n = ap₂ ◌||◌ (le-ltb k queued h) (ne_eqb (get_or store (base + k) 0) 0 n)
