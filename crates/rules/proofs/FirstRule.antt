-- Rules in their order: which of them holds first, and at which port; or that none holds anywhere.
-- Assumes nothing.
use Rattle.std.specs.Prelude.{Ok}
use mathlib.Core.Path.{◌≡◌, refl, sym, ◌∙◌}
use mathlib.Core.Bool.{Bool, true, false, cond, ◌||◌, or-true, true≢false}
use mathlib.Core.List.{List, [], ◌∷◌}
use Rattle.std.specs.Prelude.{Option, Some, None}
use Prim.Native.Nat.{ℕ, ◌<◌}
use lib.Dec.{eqb}
use borrow.Author.Tests.{eq-eqb, eqb-false}
use native.Mathlib.Omega.{arith}
use Rattle.base.specs.Search.{first_from}
use Rattle.base.proofs.Search as search
use Rattle.base.specs.Refusal.{Verdict}
use Rattle.base.specs.Refusal.{refusing}
use Rattle.rules.specs.Numbers.{Rule, refused_at, first_of}

-- the rule holds at port p and at no lower one
pub record FirstAt (r : Rule) (p : ℕ) : Type 0 where
  pub inside : p < r.ports
  pub here : r.holds p ≡ true
  pub lower : (i : ℕ) → i < p → r.holds i ≡ false

-- the rule holds at no port
abbrev pub Nowhere : Rule → Type 0
Nowhere r = (i : ℕ) → i < r.ports → r.holds i ≡ false

-- of the rules, in their order, the first that holds anywhere has number n and holds first at port p
pub data First : List Rule → ℕ → ℕ → Type 0 where
  this : {r : Rule} {rs : List Rule} {p : ℕ} → FirstAt r p → First (r ∷ rs) r.number p
  later : {r : Rule} {rs : List Rule} {n p : ℕ} → Nowhere r → First rs n p → First (r ∷ rs) n p

-- none of the rules holds anywhere
pub data NoneHolds : List Rule → Type 0 where
  done : NoneHolds []
  also : {r : Rule} {rs : List Rule} → Nowhere r → NoneHolds rs → NoneHolds (r ∷ rs)

-- what the search for a rule's first port finds, and the other way round
pub found : (r : Rule) (p : ℕ) → first_from r.holds r.ports 0 ≡ Some p → FirstAt r p
found r p e =
    let f = search.first_found r.holds r.ports 0 p e in
    record { inside = let b = f.below in omega arith; here = f.passes; lower = λ i h. f.before i (omega arith) h }

finds : (r : Rule) (p : ℕ) → FirstAt r p → first_from r.holds r.ports 0 ≡ Some p
finds r p f =
    search.first_at r.holds r.ports 0 p
    (record { from = omega arith; below = let b = f.inside in omega arith; passes = f.here; before = λ j l h. f.lower j h })

missed : (r : Rule) → first_from r.holds r.ports 0 ≡ None → Nowhere r
missed r e i h = search.first_missing r.holds r.ports 0 e i (omega arith) (omega arith)

misses : (r : Rule) → Nowhere r → first_from r.holds r.ports 0 ≡ None
misses r f = search.first_none r.holds r.ports 0 (λ j l h. f j (omega arith))

-- the verdict, and why it is so
pub data Why (rs : List Rule) : Verdict → Type 0 where
  refuses : (n p : ℕ) → First rs n p → Why rs (refusing n p)
  accepts : NoneHolds rs → Why rs (Ok tt)

pub why : (rs : List Rule) → Why rs (first_of rs)
unfolding first_of
why [] = accepts done
why (r ∷ rs) = go (first_from r.holds r.ports 0) refl (first_of rs) (why rs)
  where
    on : (v : Verdict) → Nowhere r → Why rs v → Why (r ∷ rs) v
    on _ f (refuses n p g) = refuses n p (later f g)
    on _ f (accepts g) = accepts (also f g)

    go : (o : Option ℕ) → first_from r.holds r.ports 0 ≡ o → (v : Verdict) → Why rs v → Why (r ∷ rs) (refused_at r.number o v)
    go (Some p) e v w = refuses r.number p (this (found r p e))
    go None e v w = on v (missed r e) w

pub first_refuses : (rs : List Rule) (n p : ℕ) → First rs n p → first_of rs ≡ refusing n p
unfolding first_of
first_refuses [] n p x' = elim x' [ ]
first_refuses (r ∷ rs) _ p (this f) = rw (finds r p f)
first_refuses (r ∷ rs) n p (later f g) = rw (misses r f) (first_refuses rs n p g)

pub none_accepts : (rs : List Rule) → NoneHolds rs → first_of rs ≡ Ok tt
unfolding first_of
none_accepts [] done = refl
none_accepts (r ∷ rs) (also f g) = rw (misses r f) (none_accepts rs g)

-- the rules before the first of number n, and those from it on
abbrev pub before : ℕ → List Rule → List Rule
before n [] = []
before n (r ∷ rs) = cond (eqb n r.number) [] (r ∷ before n rs)

abbrev pub from : ℕ → List Rule → List Rule
from n [] = []
from n (r ∷ rs) = cond (eqb n r.number) (r ∷ rs) (from n rs)

-- where none of the rules holds, none from there on does
pub none_from : (n : ℕ) (rs : List Rule) → NoneHolds rs → NoneHolds (from n rs)
none_from n [] done = done
none_from n (r ∷ rs) (also f g) = go (eqb n r.number) (none_from n rs g)
  where
    go : (b : Bool) → NoneHolds (from n rs) → NoneHolds (cond b (r ∷ rs) (from n rs))
    go true h = also f g
    go false h = h

pub none_first : {r : Rule} {rs : List Rule} → NoneHolds (r ∷ rs) → Nowhere r
none_first (also f g) = f

pub none_rest : {r : Rule} {rs : List Rule} → NoneHolds (r ∷ rs) → NoneHolds rs
none_rest (also f g) = g

-- a rule of another number is passed over
passed_over : (r : Rule) (rs : List Rule) (n p : ℕ) → eqb n r.number ≡ false → First (r ∷ rs) n p → Nowhere r × First rs n p
passed_over r rs _ p e (this f) = absurd (eqb-false r.number r.number e refl)
passed_over r rs n p e (later g f) = (g, f)

-- n comes first where no rule before the first of number n holds, and of the others n comes first
pub split : (n : ℕ) (rs : List Rule) (p : ℕ) → First rs n p → NoneHolds (before n rs) × First (from n rs) n p
split n [] p f = elim f [ ]
split n (r ∷ rs) p f = go (eqb n r.number) refl (split n rs p) f
  where
    go : (b : Bool) → eqb n r.number ≡ b → (First rs n p → NoneHolds (before n rs) × First (from n rs) n p) → First (r ∷ rs) n p
        → NoneHolds (cond b [] (r ∷ before n rs)) × First (cond b (r ∷ rs) (from n rs)) n p
    go true e rest h = (done, h)
    go false e rest h =
        let g = passed_over r rs n p e h in
        let k = rest g.1 in
        (also g.0 k.0, k.1)

pub join : (n : ℕ) (rs : List Rule) (p : ℕ) → NoneHolds (before n rs) → First (from n rs) n p → First rs n p
join n [] p g f = f
join n (r ∷ rs) p g f = go (eqb n r.number) (join n rs p) g f
  where
    go : (b : Bool) → (NoneHolds (before n rs) → First (from n rs) n p → First rs n p) → NoneHolds (cond b [] (r ∷ before n rs))
        → First (cond b (r ∷ rs) (from n rs)) n p → First (r ∷ rs) n p
    go true rest d f = f
    go false rest (also g d) f = later g (rest d f)

-- whether one of the rules has number n
abbrev pub numbered : ℕ → List Rule → Bool
numbered n [] = false
numbered n (r ∷ rs) = eqb n r.number || numbered n rs

first_numbered : (rs : List Rule) (n p : ℕ) → First rs n p → numbered n rs ≡ true
first_numbered [] n p x' = elim x' [ ]
first_numbered (r ∷ rs) _ p (this f) = rw (eq-eqb r.number r.number refl)
first_numbered (r ∷ rs) n p (later f g) = rw (first_numbered rs n p g) (or-true (eqb n r.number))

-- a rule whose number no later rule has
pub alone : (r : Rule) (rs : List Rule) (p : ℕ) → numbered r.number rs ≡ false → First (r ∷ rs) r.number p → FirstAt r p
alone r rs p e f = at r.number refl e f
  where
    at : (n : ℕ) → n ≡ r.number → numbered n rs ≡ false → First (r ∷ rs) n p → FirstAt r p
    at _ same none_so (this g) = g
    at n same none_so (later _ g) = absurd (true≢false (sym (first_numbered rs n p g) ∙ none_so))
