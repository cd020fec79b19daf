-- What the arbiters choose, seen from an input VC: the output VC that it is granted, and whether its front flit leaves.
-- Assumes nothing.
use mathlib.Core.Path.{◌≡◌, refl, sym, ap, ◌∙◌}
use mathlib.Core.Bool.{Bool, true, false, not, false≢true}
use Rattle.std.specs.Prelude.{Option, Some, None}
use Prim.Native.Nat.{ℕ, ◌<◌}
use native.Mathlib.Omega.{arith}
use lib.Dec.{eqb}
use borrow.Author.Tests.{eqb-true, eq-eqb, ne_eqb}
use Rattle.base.specs.Search.{first_from}
use Rattle.base.proofs.Search.{first_found, first_missing, first_none}
use Rattle.state.specs.declared.OutVc.{OutVc}
use Rattle.state.specs.declared.Router.{Router}
use Rattle.state.specs.Sound.{is_none}
use Rattle.rules.specs.Allocation.{Grant, grant_of}
use Rattle.rules.proofs.Acts.{Actor, Untouched}
use Rattle.rules.proofs.Bound.{asking}
use Rattle.rules.proofs.Exits.{exit}
use Rattle.rules.proofs.Grants.{grants_differ}
use Rattle.rules.proofs.Left.{from_place, by_place}

-- whether an act, if there is one, is on place x
abbrev is_on : {E : Type 0} → (E → ℕ) → ℕ → Option E → Bool
is_on place x None = false
is_on place x (Some e) = eqb (place e) x

-- the first port that acts on place x
abbrev pub first_acting : {E : Type 0} → (ℕ → Option E) → (ℕ → E → ℕ) → ℕ → ℕ → Option ℕ
first_acting act place n x = first_from (λ (i : ℕ). is_on (place i) x (act i)) n 0

module _ {E : Type 0} (act : ℕ → Option E) (place : ℕ → E → ℕ) (n x : ℕ) where
  on_is : (i : ℕ) (o : Option E) → is_on (place i) x o ≡ true → (e : E) × (o ≡ Some e) × (place i e ≡ x)
  on_is i None q = absurd (false≢true q)
  on_is i (Some e) q = (e, refl, eqb-true (place i e) x q)

  -- where some port acts on it, the one found does
  pub first_on : Actor act place n x → (a : Actor act place n x) × (first_acting act place n x ≡ Some a.port)
  first_on a = go (first_acting act place n x) refl
    where
      here : is_on (place a.port) x (act a.port) ≡ true
      here = ap (is_on (place a.port) x) a.acts ∙ eq-eqb (place a.port a.deed) x a.there

      go : (m : Option ℕ) → first_acting act place n x ≡ m → (a : Actor act place n x) × (m ≡ Some a.port)
      go None q =
          absurd (false≢true (sym (first_missing (λ (i : ℕ). is_on (place i) x (act i)) n 0 q a.port (omega arith)
          (let l = a.below in omega arith)) ∙ here))
      go (Some i) q =
          let f = first_found (λ (i : ℕ). is_on (place i) x (act i)) n 0 i q in
          let e = on_is i (act i) f.passes in
          (record { port = i; deed = e.0; below = let l = f.below in omega arith; acts = e.1; there = e.2 }, refl)

  pub none_on : Untouched act place n x → first_acting act place n x ≡ None
  none_on off =
      first_none (λ (i : ℕ). is_on (place i) x (act i)) n 0 (λ i h l. go i (omega arith) (act i) refl)
    where
      go : (i : ℕ) → i < n → (o : Option E) → act i ≡ o → is_on (place i) x o ≡ false
      go i l None q = refl
      go i l (Some e) q = ne_eqb (place i e) x (off i e l q)

-- the VC of output o that a grant gives out
abbrev given_by : ℕ → Option Grant → Option OutVc
given_by o None = None
given_by o (Some g) = Some (record { output = o; vc = g.vc })

abbrev given_at : (ℕ → Option Grant) → Option ℕ → Option OutVc
given_at grant None = None
given_at grant (Some o) = given_by o (grant o)

-- the output VC that input VC x is granted (phase 5)
unfoldable pub grant_to : Router → ℕ → Option OutVc
grant_to s x = given_at (grant_of s) (first_acting (grant_of s) (asking s) s.config.ports x)

-- whether the front flit of input VC x leaves (phases 6 and 7)
unfoldable pub leaves_from : Router → ℕ → Bool
leaves_from s x = not (is_none (first_acting (exit s) (from_place s) s.config.ports x))

-- whether a flit leaves by output VC x
unfoldable pub passes_by : Router → ℕ → Bool
passes_by s x = not (is_none (first_acting (exit s) (by_place s) s.config.ports x))

module _ (s : Router) (x : ℕ) where
  pub grant_to-law : (a : Actor (grant_of s) (asking s) s.config.ports x) → grant_to s x
      ≡ Some (record { output = a.port; vc = a.deed.vc })
  unfolding grant_to
  grant_to-law a =
      let f = first_on (grant_of s) (asking s) s.config.ports x a in
      let b = f.0 in
      let port : b.port ≡ a.port = grants_differ s b.port a.port b.deed a.deed b.acts a.acts
      (b.there ∙ sym a.there) in
      ap (given_at (grant_of s)) (f.1 ∙ ap Some port) ∙ ap (given_by a.port) a.acts

  pub no_grant_to : Untouched (grant_of s) (asking s) s.config.ports x → grant_to s x ≡ None
  unfolding grant_to
  no_grant_to off = ap (given_at (grant_of s)) (none_on (grant_of s) (asking s) s.config.ports x off)

  pub leaves_from-law : Actor (exit s) (from_place s) s.config.ports x → leaves_from s x ≡ true
  unfolding leaves_from is_none
  leaves_from-law a = ap (λ (o : Option ℕ). not (is_none o)) (first_on (exit s) (from_place s) s.config.ports x a).1

  pub none_leaves : Untouched (exit s) (from_place s) s.config.ports x → leaves_from s x ≡ false
  unfolding leaves_from is_none
  none_leaves off = ap (λ (o : Option ℕ). not (is_none o)) (none_on (exit s) (from_place s) s.config.ports x off)

  pub passes_by-law : Actor (exit s) (by_place s) s.config.ports x → passes_by s x ≡ true
  unfolding passes_by is_none
  passes_by-law a = ap (λ (o : Option ℕ). not (is_none o)) (first_on (exit s) (by_place s) s.config.ports x a).1

  pub none_passes : Untouched (exit s) (by_place s) s.config.ports x → passes_by s x ≡ false
  unfolding passes_by is_none
  none_passes off = ap (λ (o : Option ℕ). not (is_none o)) (none_on (exit s) (by_place s) s.config.ports x off)
