-- Phase 5, who is bound: what an output grants, and that no two outputs grant the same requester.
-- Assumes nothing.
use mathlib.Core.Path.{◌≡◌, sym, ap, ◌∙◌}
use mathlib.Core.Bool.{true, false, false≢true}
use mathlib.Core.List.{List, [], ◌∷◌}
use Rattle.std.specs.Prelude.{Option, Some, None}
use Rattle.std.proofs.lemmas.Option.{same_Some, none-some}
use Prim.Native.Nat.{ℕ, ◌*◌, ◌<◌}
use native.Mathlib.Omega.{arith}
use lib.Dec.{eqb}
use lib.ListN.{get_or}
use borrow.Author.Tests.{eqb-true}
use Rattle.base.specs.declared.flit.Flit.{Flit}
use Rattle.base.specs.Flit.{kind_of, destination_of, starts_kind}
use Rattle.base.proofs.Search.{both, first_found}
use Rattle.arbiter.specs.Arbiter.{choice}
use Rattle.arbiter.proofs.Winners.{winner_asks}
use Rattle.state.specs.declared.Binding.TheVariants.{Unbound}
use Rattle.state.specs.declared.Router.{Router}
use Rattle.state.specs.Fresh.{fresh_input}
use Rattle.state.specs.Sound.{is_unbound, is_vc_free, front_is_for}
use Rattle.store.specs.Store.{first_slot}
use Rattle.state.specs.Views.{output_at, queue_at, vc_arbiter}
use Rattle.state.proofs.Naming.{unbound_is, free_is}
use Rattle.rules.specs.Allocation.{Grant, asks, lowest_free_vc, granted, grant_of}

-- a front that is for an output starts a packet, and names no other
front_names : (o p : ℕ) (queue : List Flit) → front_is_for o queue ≡ true → front_is_for p queue ≡ true → o ≡ p
front_names o p [] e f = absurd (false≢true e)
front_names o p (x ∷ xs) e f =
    let a = both (starts_kind (kind_of x)) (eqb (destination_of x) o) e in
    let b = both (starts_kind (kind_of x)) (eqb (destination_of x) p) f in
    sym (eqb-true (destination_of x) o a.1) ∙ eqb-true (destination_of x) p b.1

-- what output o of router s grants: the requester asks there, and is bound to the lowest-numbered free VC
pub record Granted (s : Router) (o : ℕ) (g : Grant) : Type 0 where
  pub requester_below : g.requester < s.config.ports * s.config.vcs
  pub unbound : (get_or s.inputs g.requester (fresh_input 0)).binding ≡ Unbound
  pub front : front_is_for o (queue_at s.store (first_slot g.requester) (get_or s.inputs g.requester (fresh_input 0)).queued) ≡ true
  pub vc_below : g.vc < s.config.vcs
  pub free : (output_at s.config s.outputs o g.vc).holder ≡ None
  pub lowest : (w : ℕ) → w < g.vc → is_vc_free (output_at s.config s.outputs o w).holder ≡ false

-- a grant has both its parts
granted_is : (a b : Option ℕ) (g : Grant) → granted a b ≡ Some g → (a ≡ Some g.vc) × (b ≡ Some g.requester)
granted_is None b g e = absurd (none-some g e)
granted_is (Some w) None g e = absurd (none-some g e)
granted_is (Some w) (Some x) g e =
    let q = same_Some (record { requester = x; vc = w }) g e in
    (ap (λ (h : Grant). Some h.vc) q, ap (λ (h : Grant). Some h.requester) q)

pub grant_is : (s : Router) (o : ℕ) (g : Grant) → grant_of s o ≡ Some g → Granted s o g
unfolding grant_of lowest_free_vc asks
grant_is s o g e =
    let c = s.config in
    let p = granted_is (lowest_free_vc c s.outputs o)
    (choice 32 c.arbiter (c.ports * c.vcs) (asks s.inputs s.store o) (vc_arbiter s.arbiters o)) g e in
    let f = first_found (λ (w : ℕ). is_vc_free (output_at c s.outputs o w).holder) c.vcs 0 g.vc p.0 in
    let w = winner_asks 32 c.arbiter (c.ports * c.vcs) (asks s.inputs s.store o) (vc_arbiter s.arbiters o)
    g.requester
    p.1 in
    let a = both (is_unbound (get_or s.inputs g.requester (fresh_input 0)).binding)
    (front_is_for o (queue_at s.store (first_slot g.requester) (get_or s.inputs g.requester (fresh_input 0)).queued)) w.1 in
    record {
      requester_below = w.0;
      unbound = unbound_is (get_or s.inputs g.requester (fresh_input 0)).binding a.0;
      front = a.1;
      vc_below = let l = f.below in omega arith;
      free = free_is (output_at c s.outputs o g.vc).holder f.passes;
      lowest = λ v h. f.before v (omega arith) h;
    }

-- two outputs never grant the same requester: its front names one destination
pub grants_differ : (s : Router) (o p : ℕ) (g h : Grant) → grant_of s o ≡ Some g → grant_of s p ≡ Some h → g.requester ≡ h.requester → o ≡ p
grants_differ s o p g h e f same =
    front_names o p (queue_at s.store (first_slot g.requester) (get_or s.inputs g.requester (fresh_input 0)).queued)
    (grant_is s o g e).front
    (ap (λ (x : ℕ). front_is_for p (queue_at s.store (first_slot x) (get_or s.inputs x (fresh_input 0)).queued)) same
    ∙ (grant_is s p h f).front)
