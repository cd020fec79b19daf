-- Lines in closed form: a line of n places holds what the newest n entries of the history put in.
-- Assumes nothing.
use mathlib.Core.Path.{◌≡◌, refl, sym, ap}
use mathlib.Core.List.{List, [], ◌∷◌, ◌++◌, append-nil, append_assoc}
use Prim.Native.Nat.{ℕ, zero, suc, ◌≤◌}
use native.Mathlib.Omega.{arith}
use lib.ListN.{length, length-append, take, drop, replicate}
use Rattle.model.specs.Lists.{flat}
use Rattle.model.specs.Line.{out, shift}
use Rattle.model.specs.History.{Entry, History, gather}
use Rattle.model.proofs.Lists.{flat_append}

module _ {Flit : Type 0} {A : Type 0} (of : Entry Flit → List A) where
  -- what `of` finds in the newest n entries, the oldest first; in front of a short history empty places
  abbrev pub line_of : ℕ → History Flit → List (List A)
  line_of zero h = []
  line_of (suc n) [] = [] ∷ line_of n []
  line_of (suc n) (e ∷ h) = line_of n h ++ (of e ∷ [])

  -- what `of` finds n entries back
  abbrev pub back : ℕ → History Flit → List A
  back n [] = []
  back zero (e ∷ h) = of e
  back (suc n) (e ∷ h) = back n h

  -- the line of a fresh router
  pub line_fresh : (n : ℕ) → replicate n [] ≡ line_of n []
  line_fresh zero = refl
  line_fresh (suc n) = ap (λ (w : List (List A)). [] ∷ w) (line_fresh n)

  -- the oldest place
  pub line_front : (n : ℕ) (h : History Flit) → line_of (suc n) h ≡ back n h ∷ line_of n h
  line_front n [] = refl
  line_front zero (e ∷ h) = refl
  line_front (suc n) (e ∷ h) = ap (λ (w : List (List A)). w ++ (of e ∷ [])) (line_front n h)

  -- a cycle shifts the line
  pub line_shift : (n : ℕ) → 1 ≤ n → (e : Entry Flit) (h : History Flit) → shift (line_of n h) (of e) ≡ line_of n (e ∷ h)
  line_shift zero l e h = absurd (omega arith)
  line_shift (suc n) l e h = rw (line_front n h)

  -- what comes out of the line is what lies its length back
  pub line_out : (n : ℕ) (h : History Flit) → out [] (line_of (suc n) h) ≡ back n h
  line_out n h = rw (line_front n h)

  -- what lies n back is the last of what lies at least n back
  pub gather_back : (n : ℕ) (h : History Flit) → gather of (drop n h) ≡ gather of (drop (suc n) h) ++ back n h
  gather_back zero [] = refl
  gather_back (suc n) [] = refl
  gather_back zero (e ∷ h) = refl
  gather_back (suc n) (e ∷ h) = gather_back n h

  -- one cycle on, what comes out of the line is added to what had come out before
  pub gather_out : (n : ℕ) → 1 ≤ n → (e : Entry Flit) (h : History Flit) → gather of (drop n (e ∷ h))
      ≡ gather of (drop n h) ++ out [] (line_of n h)
  gather_out zero l e h = absurd (omega arith)
  gather_out (suc n) l e h = rw (line_out n h) (gather_back n h)

  -- a history is what lies at least n back, then the newest n
  pub gather_split : (n : ℕ) (h : History Flit) → gather of h ≡ gather of (drop n h) ++ gather of (take n h)
  gather_split zero h = sym (append-nil (gather of h))
  gather_split (suc n) [] = refl
  gather_split (suc n) (e ∷ h) = rw (gather_split n h, append_assoc (gather of (drop n h)) (gather of (take n h)) (of e))

  -- what is in the line is what the newest n entries put in
  pub line_flat : (n : ℕ) (h : History Flit) → flat (line_of n h) ≡ gather of (take n h)
  line_flat zero h = refl
  line_flat (suc n) [] = go n
    where
      go : (n : ℕ) → flat (line_of n []) ≡ []
      go zero = refl
      go (suc n) = go n
  line_flat (suc n) (e ∷ h) = rw (flat_append (line_of n h) (of e ∷ []), line_flat n h, append-nil (of e))

  -- one cycle on, what has come out is at most what ever went in
  pub gather_out_le : (n : ℕ) → 1 ≤ n → (e : Entry Flit) (h : History Flit) → length (gather of (drop n (e ∷ h))) ≤ length (gather of h)
  gather_out_le zero l e h = absurd (omega arith)
  gather_out_le (suc n) l e h = omega (arith, simp length-append at (ap length (gather_split n h)))
