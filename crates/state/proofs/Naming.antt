-- One input VC and what it names, and one output VC and what it names.
-- Assumes nothing.
use Rattle.std.specs.Prelude.{Option, Some, None}
use mathlib.Core.Path.{◌≡◌, refl, sym, ap, ap₂, ◌∙◌}
use mathlib.Core.Bool.{Bool, true, false, ◌&&◌, false≢true}
use mathlib.Core.List.{List}
use Prim.Native.Nat.{ℕ, ◌+◌, ◌*◌, ◌%◌, ◌≤◌, ◌<◌}
use native.Mathlib.Nat.{le_trans, lt_of_lt_of_le, mul-le-mul_right}
use native.Mathlib.Omega.{arith}
use lib.Arith.{digits_lt}
use lib.Dec.{eqb, ltb}
use lib.ListN.{get_or}
use borrow.Author.Tests.{eq-eqb, ne_eqb, lt-ltb, le-ltb, ltb-true}
use Rattle.base.specs.declared.config.Config.{Config}
use Rattle.state.specs.declared.InVc.{InVc}
use Rattle.state.specs.declared.OutVc.{OutVc}
use Rattle.state.specs.declared.Binding.{Binding}
use Rattle.state.specs.declared.Binding.TheVariants.{Unbound, Bound}
use Rattle.state.specs.declared.InputVc.{InputVc}
use Rattle.state.specs.declared.OutputVc.{OutputVc}
use Rattle.state.specs.Fresh.{fresh_input, fresh_output}
use Rattle.state.specs.Views.{channel_number}
use Rattle.state.specs.Sound.{binding_is, holder_is, input_named, output_named, is_unbound, is_vc_free}
use Rattle.state.specs.Testing.{place_of, place_bound, place_held, input_names, output_names}
use Rattle.state.proofs.Made.{channels_fit}

-- the tests of an input VC that is not bound, and of an output VC that nobody holds
pub unbound_is : (b : Binding) → is_unbound b ≡ true → b ≡ Unbound
unbound_is Unbound e = refl
unbound_is (Bound b) e = absurd (false≢true e)

pub free_is : (h : Option InVc) → is_vc_free h ≡ true → h ≡ None
free_is None e = refl
free_is (Some h) e = absurd (false≢true e)

-- a channel that there is stands in the arrays
pub channel_fits : (p v i w : ℕ) → i < p → w < v → p ≤ 8 → v ≤ 4 → i * v + w < 32
channel_fits p v i w h g a b = lt_of_lt_of_le (digits_lt h g) (channels_fit p v a b)

-- two names are the same in both numbers
other_port : (a b x y : ℕ) → (a ≡ b → ⊥) → false ≡ (eqb a b && eqb x y)
other_port a b x y n = sym (ap (λ t. t && eqb x y) (ne_eqb a b n))

same_port : (a b x y : ℕ) → a ≡ b → eqb x y ≡ (eqb a b && eqb x y)
same_port a b x y e = sym (ap (λ t. t && eqb x y) (eq-eqb a b e))

pub held_elsewhere : (i v : ℕ) (h : Option InVc) (by : InVc) → h ≡ Some by → (by.input ≡ i → ⊥) → false ≡ holder_is i v h
held_elsewhere i v h by e n = other_port by.input i by.vc v n ∙ sym (ap (holder_is i v) e)

pub held_here : (i v : ℕ) (h : Option InVc) (by : InVc) → h ≡ Some by → by.input ≡ i → eqb by.vc v ≡ holder_is i v h
held_here i v h by e s = same_port by.input i by.vc v s ∙ sym (ap (holder_is i v) e)

pub bound_elsewhere : (o w : ℕ) (b : Binding) (to : OutVc) → b ≡ Bound to → (to.output ≡ o → ⊥) → false ≡ binding_is o w b
bound_elsewhere o w b to e n = other_port to.output o to.vc w n ∙ sym (ap (binding_is o w) e)

pub bound_here : (o w : ℕ) (b : Binding) (to : OutVc) → b ≡ Bound to → to.output ≡ o → eqb to.vc w ≡ binding_is o w b
bound_here o w b to e s = same_port to.output o to.vc w s ∙ sym (ap (binding_is o w) e)

-- a name beyond P, beyond V, or of a channel that there is
beyond_port : (o p w v : ℕ) (t : Bool) → p ≤ o → false ≡ (ltb o p && ltb w v && t)
beyond_port o p w v t h = sym (ap (λ b. b && ltb w v && t) (le-ltb o p h))

beyond_vc : (o p w v : ℕ) (t : Bool) → o < p → v ≤ w → false ≡ (ltb o p && ltb w v && t)
beyond_vc o p w v t g h = sym (ap₂ (λ a b. a && b && t) (lt-ltb o p g) (le-ltb w v h))

named_there : (o p w v : ℕ) (t : Bool) → o < p → w < v → t ≡ (ltb o p && ltb w v && t)
named_there o p w v t g h = sym (ap₂ (λ a b. a && b && t) (lt-ltb o p g) (lt-ltb w v h))

pub input_beyond_port : (c : Config) (i v : ℕ) (b : Binding) (holder : Option InVc) (to : OutVc) → b ≡ Bound to → c.ports ≤ to.output
    → false ≡ input_names c i v b holder
input_beyond_port c i v b holder to e h =
    beyond_port to.output c.ports to.vc c.vcs (holder_is i v holder) h ∙ sym (ap
    (λ x. input_names c i v x holder) e)

pub input_beyond_vc : (c : Config) (i v : ℕ) (b : Binding) (holder : Option InVc) (to : OutVc) → b ≡ Bound to → to.output < c.ports
    → c.vcs ≤ to.vc → false ≡ input_names c i v b holder
input_beyond_vc c i v b holder to e g h =
    beyond_vc to.output c.ports to.vc c.vcs (holder_is i v holder) g h ∙ sym (ap
    (λ x. input_names c i v x holder) e)

pub input_there : (c : Config) (i v : ℕ) (b : Binding) (holder : Option InVc) (to : OutVc) → b ≡ Bound to → to.output < c.ports
    → to.vc < c.vcs → holder_is i v holder ≡ input_names c i v b holder
input_there c i v b holder to e g h =
    named_there to.output c.ports to.vc c.vcs (holder_is i v holder) g h ∙ sym (ap
    (λ x. input_names c i v x holder) e)

pub output_beyond_port : (c : Config) (o w : ℕ) (h : Option InVc) (binding : Binding) (by : InVc) → h ≡ Some by → c.ports ≤ by.input
    → false ≡ output_names c o w h binding
output_beyond_port c o w h binding by e l =
    beyond_port by.input c.ports by.vc c.vcs (binding_is o w binding) l ∙ sym (ap
    (λ x. output_names c o w x binding) e)

pub output_beyond_vc : (c : Config) (o w : ℕ) (h : Option InVc) (binding : Binding) (by : InVc) → h ≡ Some by → by.input < c.ports
    → c.vcs ≤ by.vc → false ≡ output_names c o w h binding
output_beyond_vc c o w h binding by e g l =
    beyond_vc by.input c.ports by.vc c.vcs (binding_is o w binding) g l ∙ sym (ap
    (λ x. output_names c o w x binding) e)

pub output_there : (c : Config) (o w : ℕ) (h : Option InVc) (binding : Binding) (by : InVc) → h ≡ Some by → by.input < c.ports
    → by.vc < c.vcs → binding_is o w binding ≡ output_names c o w h binding
output_there c o w h binding by e g l =
    named_there by.input c.ports by.vc c.vcs (binding_is o w binding) g l ∙ sym (ap
    (λ x. output_names c o w x binding) e)

-- a place is within the arrays
below : (r n : ℕ) → r ≡ n % 32 → r < 32
below r n e = omega arith

pub bound_at : (c : Config) (b : Binding) (to : OutVc) (r : ℕ) → b ≡ Bound to → r ≡ place_of c to.output to.vc
    → (r ≡ place_bound c b) × (r < 32)
bound_at c b to r e f = (f ∙ sym (ap (place_bound c) e), below r (channel_number c to.output to.vc) f)

pub held_at : (c : Config) (h : Option InVc) (by : InVc) (r : ℕ) → h ≡ Some by → r ≡ place_of c by.input by.vc
    → (r ≡ place_held c h) × (r < 32)
held_at c h by r e f = (f ∙ sym (ap (place_held c) e), below r (channel_number c by.input by.vc) f)

-- two bytes' product is small
pub bytes_fit : (a b : ℕ) → a < 256 → b < 256 → a * b ≤ 65536
bytes_fit a b h g = let l : a ≤ 256 = omega arith in le_trans (mul-le-mul_right b l) (omega arith)

-- a channel that there is stands at its place
place_is : (c : Config) (i v : ℕ) → c.ports ≤ 8 → c.vcs ≤ 4 → i < c.ports → v < c.vcs → place_of c i v ≡ channel_number c i v
place_is c i v h g a b = small (channel_number c i v) (channel_fits c.ports c.vcs i v a b h g)
  where
    small : (n : ℕ) → n < 32 → n % 32 ≡ n
    small n l = omega arith

-- what is at the place of a name is what is named, where there is such a channel
at_place : {A : Type 0} (c : Config) (f : ℕ → A) (test : A → Bool) (i v : ℕ) → c.ports ≤ 8 → c.vcs ≤ 4
    → (ltb i c.ports && ltb v c.vcs && test (f (place_of c i v)))
    ≡ (ltb i c.ports && ltb v c.vcs && test (f (channel_number c i v)))
at_place c f test i v h g = go (ltb i c.ports) refl (ltb v c.vcs) refl
  where
    go : (p : Bool) → ltb i c.ports ≡ p → (q : Bool) → ltb v c.vcs ≡ q → (p && q && test (f (place_of c i v))) ≡ (p && q && test
        (f (channel_number c i v)))
    go true e true d = ap (λ n. test (f n)) (place_is c i v h g (ltb-true i c.ports e) (ltb-true v c.vcs d))
    go true e false d = refl
    go false e q d = refl

pub input_names-law : (c : Config) (outputs : List OutputVc) (i v : ℕ) (b : Binding) → c.ports ≤ 8 → c.vcs ≤ 4
    → input_names c i v b (get_or outputs (place_bound c b) (fresh_output 0)).holder ≡ input_named c outputs i v b
input_names-law c outputs i v Unbound h g = refl
input_names-law c outputs i v (Bound b) h g = at_place c (λ n. get_or outputs n (fresh_output 0)) (λ y. holder_is i v y.holder) b.output
    b.vc h g

pub output_names-law : (c : Config) (inputs : List InputVc) (o w : ℕ) (h : Option InVc) → c.ports ≤ 8 → c.vcs ≤ 4
    → output_names c o w h (get_or inputs (place_held c h) (fresh_input 0)).binding ≡ output_named c inputs o w h
output_names-law c inputs o w None p q = refl
output_names-law c inputs o w (Some h) p q = at_place c (λ n. get_or inputs n (fresh_input 0)) (λ x. binding_is o w x.binding) h.input
    h.vc p q
