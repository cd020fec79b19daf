-- Bytes stored one after another: as straight-line code stores them, in parts, and into a part that was lent.
-- Assumes nothing.
use mathlib.Core.Path.{◌≡◌, refl, sym, ap, subst, ◌∙◌}
use mathlib.Core.List.{List, [], ◌∷◌, ◌++◌, append_assoc, append-nil}
use Prim.Native.Nat.{ℕ, suc, ◌+◌, ◌-◌, ◌≤◌}
use native.Mathlib.Nat.{add-suc, add-zero, zero-add, suc-add}
use native.Mathlib.Numerals.{add-one}
use native.Mathlib.Omega.{arith}
use lib.ListN.{length, take, drop, set, length-append, length-drop, drop_of_length-le}
use lib.Seq.{take_all, sets, length-sets, sets-eq, drop-drop}
use borrow.Rule.Slice.PartMut.{put_mid}
use Rattle.std.proofs.lemmas.Slice.{put_mid-paste}
use Rattle.listing.specs.Inside.{Laid}
use Rattle.listing.specs.Writing.{put}

-- bytes at the places p + j, p + (j + 1), ..
abbrev pub stores : List ℕ → ℕ → ℕ → List ℕ → List ℕ
stores l p j [] = l
stores l p j (b ∷ bs) = stores (set l (p + j) b) p (suc j) bs

stores_sets : (l : List ℕ) (p j : ℕ) (bs : List ℕ) → stores l p j bs ≡ sets l (p + j) bs
stores_sets l p j [] = refl
stores_sets l p j (b ∷ bs) =
    stores_sets (set l (p + j) b) p (suc j) bs ∙ ap (λ (k : ℕ). sets (set l (p + j) b) k bs) (add-suc p j)

-- stores at p, p + 1, .. are bytes stored from p on
pub stores_from : (l : List ℕ) (p b : ℕ) (bs : List ℕ) → stores (set l p b) p 1 bs ≡ sets l p (b ∷ bs)
stores_from l p b bs = stores_sets (set l p b) p 1 bs ∙ ap (λ (k : ℕ). sets (set l p b) k bs) (add-one p)

-- bytes in two parts
pub sets_append : (l : List ℕ) (p : ℕ) (xs bs : List ℕ) → sets l p (xs ++ bs) ≡ sets (sets l p xs) (p + length xs) bs
sets_append l p [] bs = ap (λ (k : ℕ). sets l k bs) (sym (add-zero p))
sets_append l p (a ∷ xs) bs =
    sets_append (set l p a) (suc p) xs bs
    ∙ ap (λ (k : ℕ). sets (sets (set l p a) (suc p) xs) k bs) (suc-add p (length xs) ∙ sym (add-suc p (length xs)))

-- nothing is laid yet
pub laid_none : (l : List ℕ) (p : ℕ) → Laid l p [] l p
laid_none l p = record { stored = refl; ahead = sym (add-zero p) }

-- the same bytes under another name
pub laid_as : {l m : List ℕ} {p q : ℕ} {bs cs : List ℕ} → Laid l p bs m q → bs ≡ cs → Laid l p cs m q
laid_as {l} {m} {p} {q} {bs} {cs} x e = subst (λ (ds : List ℕ). Laid l p ds m q) e x

-- straight-line stores at p, p + 1, .. lay their bytes
pub laid_stores : (l : List ℕ) (p b : ℕ) (bs : List ℕ) → Laid l p (b ∷ bs) (stores (set l p b) p 1 bs) (p + length (b ∷ bs))
laid_stores l p b bs = record { stored = stores_from l p b bs; ahead = refl }

-- bytes laid after bytes
pub laid_more : {l m n : List ℕ} {p q r : ℕ} {xs bs : List ℕ} → Laid l p xs m q → Laid m q bs n r → Laid l p (xs ++ bs) n r
laid_more {l} {m} {n} {p} {q} {r} {xs} {bs} x y =
    record {
      stored = y.stored ∙ ap (λ (k : List ℕ). sets k q bs) x.stored ∙ ap (λ (k : ℕ). sets (sets l p xs) k bs) x.ahead
          ∙ sym (sets_append l p xs bs);
      ahead = omega (arith, x.ahead, y.ahead, length-append xs bs);
    }

-- laying bytes keeps the length
pub laid_length : {l m : List ℕ} {p q : ℕ} {bs : List ℕ} → Laid l p bs m q → length m ≡ length l
laid_length {l} {m} {p} {q} {bs} x = ap length x.stored ∙ length-sets l p bs

-- bytes laid from the start of a part that was lent are put into the whole, and nothing else changes
pub part_put : (l bs : List ℕ) (p : ℕ) → p + length bs ≤ length l
    → take p l ++ (sets (drop p l) 0 bs ++ drop (length l - p) (drop p l)) ≡ put l p bs
unfolding put
part_put l bs p h =
    let inside : 0 + length bs ≤ length (drop p l) = omega (arith, length-drop p l) in
    let past : drop (length l - p) (drop p l) ≡ [] = drop_of_length-le (drop p l) {i = length l - p} (omega (arith, length-drop p l)) in
    ap (λ (r : List ℕ). take p l ++ (sets (drop p l) 0 bs ++ r)) past
    ∙ ap (λ (r : List ℕ). take p l ++ r) (append-nil (sets (drop p l) 0 bs) ∙ sets-eq bs (drop p l) 0 inside)
    ∙ ap (λ (k : List ℕ). take p l ++ (bs ++ k)) (drop-drop (0 + length bs) p l ∙ ap (λ (k : ℕ). drop (p + k) l) (zero-add (length bs)))
    ∙ sym (append_assoc (take p l) bs (drop (p + length bs) l))

-- the buffer keeps its length
pub put_length : (l bs : List ℕ) (p : ℕ) → p + length bs ≤ length l → length (put l p bs) ≡ length l
unfolding put
put_length l bs p h = ap length (sym (sets-eq bs l p h)) ∙ length-sets l p bs

-- a slice copied over a part lays its bytes
pub laid_copy : (l : List ℕ) (p : ℕ) (bs ys : List ℕ) → ys ≡ bs → p + length bs ≤ length l
    → Laid l p bs (put_mid p (p + length bs - p) l ys) (p + length bs)
laid_copy l p bs ys e h =
    record {
      stored =
          put_mid-paste p (p + length bs - p) l ys bs (length bs) e (omega arith) refl
          ∙ ap (λ r. take p l ++ r ++ drop (p + length bs) l) (take_all (length bs) bs (omega arith)) ∙ sym (sets-eq bs l p h);
      ahead = refl;
    }
