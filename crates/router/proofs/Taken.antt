-- A block of a run: what it is found to be decides what becomes of the run.
-- Assumes nothing.
use mathlib.Core.Path.{◌≡◌, sym, ap, ◌∙◌}
use mathlib.Core.Bool.{true, false}
use mathlib.Core.List.{List}
use Rattle.std.specs.Prelude.{None, Result, Ok, Err}
use Prim.Native.Nat.{ℕ, ◌≤◌}
use native.Mathlib.Omega.{arith}
use lib.ListN.{length}
use Rattle.base.specs.declared.config.Config.{Config}
use Rattle.base.specs.Sizes.{illegal_field}
use Rattle.trace.specs.declared.place.Place.{Place}
use Rattle.trace.specs.Blocks.{held_of}
use Rattle.trace.specs.declared.judging.Answer.{Answer}
use Rattle.trace.specs.declared.judging.Found.{Found}
use Rattle.base.specs.declared.refusal.Refusal.{Refusal}
use Rattle.trace.specs.declared.judging.Found.TheVariants as found
use Rattle.trace.specs.Judged.{judged}
use Rattle.trace.specs.Way.{cycles_in}
use Rattle.trace.proofs.Findings.{FoundAs, refuses, configures, holds, ends, is_over, found_as}
use Rattle.router.specs.Running.{Writing, by_found, block_taken}

module _ (block : List ℕ) (w : Writing) where
  abbrev p : Place
  p = w.run.place

  abbrev c : ℕ
  c = w.run.router.cycle

  was_found : FoundAs p c block (judged p c block)
  was_found = found_as p c block

  -- what a block was judged decides
  pub taken_as : (a : Answer) (f : Result Found Refusal) → a ≡ judged p c block → a.found ≡ f
      → by_found f a.place block w ≡ block_taken block w
  unfolding block_taken
  taken_as a f e g =
      ap (λ (h : Result Found Refusal). by_found h a.place block w) (sym g) ∙ ap (λ (b : Answer). by_found b.found b.place block w) e

  -- of a block with cycles
  pub record Holds (n : ℕ) : Type 0 where
    pub whole : 512 ≤ length block
    pub most : held_of block ≤ 7
    pub held : n ≡ held_of block

  -- which kind of block was read, and what it holds
  abbrev pub kind : Result Found Refusal → ℕ
  kind (Err r) = 0
  kind (Ok (found.Configuration k)) = 1
  kind (Ok (found.Cycles n)) = 2
  kind (Ok found.End) = 3
  kind (Ok found.Done) = 4

  abbrev sizes : Config → Result Found Refusal → Config
  sizes d (Err r) = d
  sizes d (Ok (found.Configuration k)) = k
  sizes d (Ok (found.Cycles n)) = d
  sizes d (Ok found.End) = d
  sizes d (Ok found.Done) = d

  cycles_of : (n : ℕ) (o : Answer) → FoundAs p c block o → Ok (found.Cycles n) ≡ o.found → Holds n
  cycles_of n _ (refuses m k) e = absurd (let x = ap kind e in omega (arith, x))
  cycles_of n _ (configures a b _) e = absurd (let x = ap kind e in omega (arith, x))
  cycles_of n _ (holds a l h _) e = record { whole = l; most = h; held = ap cycles_in e }
  cycles_of n _ (ends a _) e = absurd (let x = ap kind e in omega (arith, x))
  cycles_of n _ (is_over a) e = absurd (let x = ap kind e in omega (arith, x))

  pub cycles_held : (a : Answer) (n : ℕ) → a ≡ judged p c block → a.found ≡ Ok (found.Cycles n) → Holds n
  cycles_held a n e f = cycles_of n (judged p c block) was_found (sym f ∙ ap (λ (o : Answer). o.found) e)

  configuration_of : (k : Config) (o : Answer) → FoundAs p c block o → Ok (found.Configuration k) ≡ o.found → (p.configured ≡ false)
      × (illegal_field k ≡ None)
  configuration_of k _ (refuses m j) e = absurd (let x = ap kind e in omega (arith, x))
  configuration_of k _ (configures a b _) e = (a, ap illegal_field (ap (sizes k) e) ∙ b)
  configuration_of k _ (holds a l h _) e = absurd (let x = ap kind e in omega (arith, x))
  configuration_of k _ (ends a _) e = absurd (let x = ap kind e in omega (arith, x))
  configuration_of k _ (is_over a) e = absurd (let x = ap kind e in omega (arith, x))

  -- a configuration block comes first, and its values are in range
  pub configuration_first : (a : Answer) (k : Config) → a ≡ judged p c block → a.found ≡ Ok (found.Configuration k)
      → (p.configured ≡ false) × (illegal_field k ≡ None)
  configuration_first a k e f = configuration_of k (judged p c block) was_found (sym f ∙ ap (λ (o : Answer). o.found) e)

  others_of : (r : Found) → (kind (Ok r) ≡ 1 → ⊥) → (o : Answer) → FoundAs p c block o → Ok r ≡ o.found → p.configured ≡ true
  others_of r n _ (refuses m k) e = absurd (nothing r (ap kind e))
    where
      nothing : (r : Found) → kind (Ok r) ≡ 0 → ⊥
      nothing (found.Configuration k) x = omega (arith, x)
      nothing (found.Cycles n) x = omega (arith, x)
      nothing found.End x = omega (arith, x)
      nothing found.Done x = omega (arith, x)
  others_of r n _ (configures a b _) e = absurd (n (ap kind e))
  others_of r n _ (holds a l h _) e = a
  others_of r n _ (ends a _) e = a
  others_of r n _ (is_over a) e = a

  -- any other block that is taken comes after it
  pub others_follow : (a : Answer) (r : Found) → (kind (Ok r) ≡ 1 → ⊥) → a ≡ judged p c block → a.found ≡ Ok r → p.configured ≡ true
  others_follow a r n e f = others_of r n (judged p c block) was_found (sym f ∙ ap (λ (o : Answer). o.found) e)
