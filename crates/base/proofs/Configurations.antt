-- The configuration's one test: 1 with field k comes exactly when field k is out of its range and none before it is.
-- Assumes nothing.
use mathlib.Core.Path.{◌≡◌, refl, sym, ap, ap₂, subst, ◌∙◌}
use mathlib.Core.Logic.{◌↔◌}
use mathlib.Core.Bool.{Bool, true, false, cond, ◌&&◌, true≢false, false≢true}
use mathlib.Core.List.{List, [], ◌∷◌}
use Rattle.std.specs.Prelude.{Option, Some, None, is_err}
use Rattle.std.proofs.lemmas.Option.{same_Some, none-some}
use Prim.Native.Nat.{ℕ, zero, suc, ◌+◌, ◌≤◌, ◌<◌}
use native.Mathlib.Nat.{add-zero}
use native.Mathlib.Omega.{arith}
use lib.Dec.{leb}
use lib.ListN.{length, get_or}
use borrow.Author.Tests.{leb-true, le-leb}
use Rattle.base.specs.declared.config.Config.{Config}
use Rattle.base.specs.Sizes.{Bounds, Field, field, fields_of, in_range, first_illegal, illegal_field, judged}
use Rattle.base.proofs.Search.{both}

-- the field at place m, counted from 0; past the last, one that is in range
abbrev pub field_at : List Field → ℕ → Field
field_at fs m = get_or fs m (field 0 0 0)

-- the m-th field is the first out of its range
pub record FirstOut (fs : List Field) (m : ℕ) : Type 0 where
  pub there : m < length fs
  pub out : in_range (field_at fs m) ≡ false
  pub before : (j : ℕ) → j < m → in_range (field_at fs j) ≡ true

first_out : (k : ℕ) (fs : List Field) (x : ℕ) → first_illegal k fs ≡ Some x → (m : ℕ) × (x ≡ k + m) × FirstOut fs m
unfolding first_illegal
first_out k [] x e = absurd (none-some x e)
first_out k (f ∷ fs) x e = go (in_range f) refl e (λ q. first_out (suc k) fs x q)
  where
    go : (b : Bool) → in_range f ≡ b → cond b (first_illegal (suc k) fs) (Some k) ≡ Some x
        → (first_illegal (suc k) fs ≡ Some x → (m : ℕ) × (x ≡ suc k + m) × FirstOut fs m) → (m : ℕ) × (x ≡ k + m) × FirstOut (f ∷ fs) m
    go true p q rest =
        let r = rest q in (
          suc r.0,
          omega (arith, r.1),
          record { there = let l = r.2.there in omega arith; out = r.2.out; before = later r.2.before },
        )
      where
        later : {m : ℕ} → ((j : ℕ) → j < m → in_range (field_at fs j) ≡ true) → (j : ℕ) → j < suc m → in_range (field_at (f ∷ fs) j) ≡ true
        later before zero l = p
        later before (suc j) l = before j (omega arith)
    go false p q rest = (
      0,
      sym (same_Some k x q) ∙ sym (add-zero k),
      record { there = omega arith; out = p; before = λ j l. absurd (omega arith) },
    )

out_first : (k : ℕ) (fs : List Field) (m : ℕ) → FirstOut fs m → first_illegal k fs ≡ Some (k + m)
unfolding first_illegal
out_first k [] m o = absurd (let l = o.there in omega arith)
out_first k (f ∷ fs) zero o =
    ap (λ (b : Bool). cond b (first_illegal (suc k) fs) (Some k)) o.out ∙ ap Some (sym (add-zero k))
out_first k (f ∷ fs) (suc m) o =
    let e : suc k + m ≡ k + suc m = omega arith in
    ap (λ (b : Bool). cond b (first_illegal (suc k) fs) (Some k)) (o.before 0 (omega arith))
    ∙ out_first (suc k) fs m
    (record { there = let l = o.there in omega arith; out = o.out; before = λ j l. o.before (suc j) (omega arith) })
    ∙ ap Some e

-- 1 with field m + 1 comes exactly when that field is the first out of its range
pub illegal_exact : (c : Config) (m : ℕ) → (illegal_field c ≡ Some (suc m)) ↔ FirstOut (fields_of c) m
unfolding illegal_field
illegal_exact c m = (first, back)
  where
    first : first_illegal 1 (fields_of c) ≡ Some (suc m) → FirstOut (fields_of c) m
    first e = let r = first_out 1 (fields_of c) (suc m) e in subst (FirstOut (fields_of c)) (omega (arith, r.1)) r.2

    back : FirstOut (fields_of c) m → first_illegal 1 (fields_of c) ≡ Some (suc m)
    back o = let e : 1 + m ≡ suc m = omega arith in out_first 1 (fields_of c) m o ∙ ap Some e

-- a legal configuration
abbrev pub Legal : Config → Type 0
Legal c = Bounds 1 c

all_in_range : (k : ℕ) (fs : List Field) → first_illegal k fs ≡ None → (j : ℕ) → j < length fs → in_range (field_at fs j) ≡ true
unfolding first_illegal
all_in_range k [] e j l = absurd (omega arith)
all_in_range k (f ∷ fs) e j l = go (in_range f) refl e (λ q. all_in_range (suc k) fs q) j l
  where
    go : (b : Bool) → in_range f ≡ b → cond b (first_illegal (suc k) fs) (Some k) ≡ None
        → (first_illegal (suc k) fs ≡ None → (j : ℕ) → j < length fs → in_range (field_at fs j) ≡ true)
        → (j : ℕ) → j < suc (length fs) → in_range (field_at (f ∷ fs) j) ≡ true
    go true p q rest zero l = p
    go true p q rest (suc j) l = rest q j (omega arith)
    go false p q rest j l = absurd (none-some k (sym q))

-- the test of a range is exact
range : (x a b : ℕ) → in_range (field x a b) ≡ true → (a ≤ x) × (x ≤ b)
unfolding in_range
range x a b e = let p = both (leb a x) (leb x b) e in (leb-true a x p.0, leb-true x b p.1)

pub in_range-law : (x a b : ℕ) → a ≤ x → x ≤ b → in_range (field x a b) ≡ true
unfolding in_range
in_range-law x a b l m = ap₂ ◌&&◌ (le-leb a x l) (le-leb x b m)

-- no field is named exactly when the configuration is legal
pub legal_exact : (c : Config) → (illegal_field c ≡ None) ↔ Legal c
unfolding illegal_field first_illegal
legal_exact c = (is, holds)
  where
    fits : (x a b : ℕ) → (a ≤ x) × (x ≤ b) → in_range (field x a b) ≡ true
    fits x a b r = in_range-law x a b r.0 r.1

    is : first_illegal 1 (fields_of c) ≡ None → Legal c
    is e =
        let r = all_in_range 1 (fields_of c) e in
        record {
          ports = range c.ports 1 8 (r 0 (omega arith));
          vcs = range c.vcs 1 4 (r 1 (omega arith));
          depth = range c.depth 1 16 (r 2 (omega arith));
          downstream = range c.downstream 1 16 (r 3 (omega arith));
          forward = range c.forward 1 8 (r 4 (omega arith));
          back = range c.back 1 8 (r 5 (omega arith));
          arbiter = range c.arbiter 1 2 (r 6 (omega arith));
        }

    holds : Legal c → first_illegal 1 (fields_of c) ≡ None
    holds l =
        rw (
          fits c.ports 1 8 l.ports,
          fits c.vcs 1 4 l.vcs,
          fits c.depth 1 16 l.depth,
          fits c.downstream 1 16 l.downstream,
          fits c.forward 1 8 l.forward,
          fits c.back 1 8 l.back,
          fits c.arbiter 1 2 l.arbiter,
        )

-- so an answer says whether the configuration is legal
pub judged_legal : (o : Option ℕ) → false ≡ is_err (judged o) → o ≡ None
judged_legal None e = refl
judged_legal (Some k) e = absurd (false≢true e)

pub judged_illegal : (o : Option ℕ) → true ≡ is_err (judged o) → (k : ℕ) × (o ≡ Some k)
judged_illegal None e = absurd (true≢false e)
judged_illegal (Some k) e = (k, refl)
