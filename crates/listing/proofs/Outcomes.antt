-- The outcomes of a write, from what its two tests found and what it laid.
-- Assumes nothing.
use mathlib.Core.Path.{◌≡◌, refl, sym, ap, ap₂, ◌∙◌}
use mathlib.Core.Bool.{Bool, true, false, cond, not, ◌||◌, true≢false}
use mathlib.Core.List.{List, ◌++◌}
use Prim.Native.Nat.{ℕ, ◌+◌, ◌-◌, ◌≤◌}
use native.Mathlib.Omega.{arith}
use lib.Dec.{ltb}
use lib.ListN.{length, take, drop}
use lib.Seq.{sets}
use borrow.Author.Tests.{ltb-false, not-true}
use Rattle.base.proofs.Lists.{rest_of}
use Rattle.base.specs.Numbers.{done, no_room, out_of_range, room}
use Rattle.std.specs.Prelude.{Ok, Err}
use Rattle.listing.specs.declared.Unwritten.{Unwritten}
use Rattle.listing.specs.declared.Unwritten.TheVariants.{NoRoom, OutOfRange}
use Rattle.listing.specs.Inside.{Laid, allowed}
use Rattle.listing.specs.Lines.{Line, text, printable}
use Rattle.listing.specs.Writing.{WriteOutcome, put, lacks, lacks_room, refused_with, written, write_outcome}
use Rattle.listing.proofs.Stores.{part_put}

-- where the test finds room there are as many bytes from the place on as were asked for
pub room_there : (n : ℕ) (l : List ℕ) (p : ℕ) → not (lacks n l p) ≡ true → p + n ≤ length l
room_there n l p e = go (ltb (length l) p) refl (ltb (length l - p) n) refl (not-true (lacks n l p) e)
  where
    go : (a : Bool) → ltb (length l) p ≡ a → (b : Bool) → ltb (length l - p) n ≡ b → (a || b) ≡ false → p + n ≤ length l
    go true ea b eb e = absurd (true≢false e)
    go false ea true eb e = absurd (true≢false e)
    go false ea false eb e = omega (arith, ltb-false (length l) p ea, ltb-false (length l - p) n eb)

-- both tests passed
pub allowed_there : (b : Bool) (l : List ℕ) (p : ℕ) → Ok tt ≡ allowed b (lacks room l p) → (b ≡ true) × (not (lacks room l p) ≡ true)
allowed_there true l p e = go (lacks room l p) e
  where
    go : (f : Bool) → Ok tt ≡ allowed true f → (true ≡ true) × (not f ≡ true)
    go true e = absurd (cc)
    go false e = (refl, refl)
allowed_there false l p e = absurd (cc)

module _ (l : List ℕ) (p : ℕ) (ls : List Line) where
  -- one of them failed
  pub written_nothing : (b : Bool) (e : Unwritten) → b ≡ printable ls → Err e ≡ allowed b (lacks room l p)
      → write_outcome (Err e) l ≡ written l p ls
  unfolding written lacks_room
  written_nothing b e q r = rw (← q) (go b (lacks room l p) e r)
    where
      go : (b f : Bool) (e : Unwritten) → Err e ≡ allowed b f → write_outcome (Err e) l
          ≡ cond b (cond f (refused_with no_room l) (record { number = done; bytes = length (text ls); buffer = put l p (text ls) }))
          (refused_with out_of_range l)
      go true true NoRoom r = refl
      go false f OutOfRange r = refl
      go true true OutOfRange r = absurd (cc)
      go true false e r = absurd (cc)
      go false f NoRoom r = absurd (cc)

  -- the lines laid from the start of the part that was lent
  pub written_lines : (part : List ℕ) (bytes : ℕ) (b : Bool) → b ≡ printable ls → Ok tt ≡ allowed b (lacks room l p)
      → (printable ls ≡ true → length (text ls) ≤ room)
      → Laid (take (length l - p) (drop p l)) 0 (text ls) part bytes
      → ◌≡◌ {A = WriteOutcome} (record { number = done; bytes = bytes; buffer = take p l ++ (part ++ drop (length l - p) (drop p l)) })
      (written l p ls)
  unfolding written lacks_room
  written_lines part bytes b q r short x =
      let tests = allowed_there b l p r in
      let ok : printable ls ≡ true = sym q ∙ tests.0 in
      let there = tests.1 in
      let fits = room_there room l p there in
      let all : take (length l - p) (drop p l) ≡ drop p l = rest_of p l in
      let laid : part ≡ sets (drop p l) 0 (text ls) = x.stored ∙ ap (λ (k : List ℕ). sets k 0 (text ls)) all in
      let count : bytes ≡ length (text ls) = omega (arith, x.ahead) in
      let whole : take p l ++ (part ++ drop (length l - p) (drop p l)) ≡ put l p (text ls) =
      ap (λ (k : List ℕ). take p l ++ (k ++ drop (length l - p) (drop p l))) laid ∙ part_put l (text ls) p (omega (arith, short ok)) in
      rw (ok, not-true (lacks room l p) there) (ap₂ (λ (n : ℕ) (b : List ℕ). record { number = done; bytes = n; buffer = b }) count whole)
