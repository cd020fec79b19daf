-- What handing over comes to is fixed by what is handed over and by how many calls were made, or by whether their lines were written.
-- Assumes nothing.
use mathlib.Core.Path.{◌≡◌, refl, sym, ap, subst, ◌∙◌}
use mathlib.Core.Bool.{Bool, true, false, true≢false}
use mathlib.Core.List.{List}
use Rattle.std.specs.Prelude.{Ok, Err, is_ok}
use Rattle.std.proofs.lemmas.Option.{none-some, same_Some}
use Prim.Native.Nat.{ℕ, suc, ◌+◌}
use native.Mathlib.Omega.{arith}
use Rattle.floor.specs.declared.passing.Stop.TheVariants.{Beyond, Uneven, Refused, NoRoom, NotWritten}
use Rattle.floor.specs.Handing.{Outcome, Handed, Passes, stops, fails, goes, calls, Finishes, stopped, over}
use Rattle.floor.specs.Handing.{ends, HandsOver, uneven, fills, last, Handing, beyond, hands}

-- with the calls made, run and buffer are an equation, where lines were not written too
pub passes_calls : {part : List ℕ} {h : Handed} {k : ℕ} {s : Outcome} {g : Handed} → Passes part h k s g → g ≡ calls k part h
unfolding calls
passes_calls (stops part h s e) = refl
passes_calls (fails part h e l) = refl
passes_calls (goes part h k s g e more) = passes_calls more

-- whether the system took all lines
abbrev pub is_written : Outcome → Bool
is_written (Ok x) = true
is_written (Err Beyond) = true
is_written (Err Uneven) = true
is_written (Err (Refused n)) = true
is_written (Err (NoRoom n)) = true
is_written (Err NotWritten) = false

-- what came of handing over, told by what was handed over alone
pub record Same (k l : ℕ) (s t : Outcome) (g e : Handed) : Type 0 where
  pub calls : k ≡ l
  pub stop : s ≡ t
  pub after : g ≡ e

pub passes_once : {part : List ℕ} {h : Handed} {k l : ℕ} {s t : Outcome} {g e : Handed} → Passes part h k s g → Passes part h l t e
    → is_written s ≡ true → is_written t ≡ true → Same k l s t g e
passes_once (stops part h s a) (stops _ _ t b) w x = record { calls = refl; stop = same_Some s t (sym a ∙ b); after = refl }
passes_once (stops part h s a) (fails _ _ b l) w x = absurd (true≢false (sym x))
passes_once (stops part h s a) (goes _ _ l t e b more) w x = absurd (none-some s (sym b ∙ a))
passes_once (fails part h a l) p w x = absurd (true≢false (sym w))
passes_once (goes part h k s g a more) (stops _ _ t b) w x = absurd (none-some t (sym a ∙ b))
passes_once (goes part h k s g a more) (fails _ _ b l) w x = absurd (true≢false (sym x))
passes_once (goes part h k s g a more) (goes _ _ l t e b rest) w x =
    let same = passes_once more rest w x in
    record { calls = ap suc same.calls; stop = same.stop; after = same.after }

-- a part handed over whole was written
whole_written : (s : Outcome) → is_ok s ≡ true → is_written s ≡ true
whole_written (Ok x) e = refl
whole_written (Err t) e = absurd (true≢false (sym e))

finish_written : {g : Handed} {k : ℕ} {s : Outcome} {l : ℕ} {t : Outcome} {e : Handed} → Finishes g k s l t e → is_written t ≡ true
    → is_written s ≡ true
finish_written (stopped w) x = x
finish_written (over w o) x = x
finish_written {s = s} (ends l t e w o p) x = whole_written s w

finish_once : {g : Handed} {k : ℕ} {s : Outcome} {l m : ℕ} {t u : Outcome} {e f : Handed} → Finishes g k s l t e → Finishes g k s m u f
    → is_written t ≡ true → is_written u ≡ true → Same l m t u e f
finish_once (stopped w) (stopped v) x y = record { calls = refl; stop = refl; after = refl }
finish_once (stopped w) (over v o) x y = record { calls = refl; stop = refl; after = refl }
finish_once (stopped w) (ends m u f v o p) x y = absurd (true≢false (sym v ∙ w))
finish_once (over w o) (stopped v) x y = record { calls = refl; stop = refl; after = refl }
finish_once (over w o) (over v q) x y = record { calls = refl; stop = refl; after = refl }
finish_once (over w o) (ends m u f v q p) x y = absurd (true≢false (sym o ∙ q))
finish_once (ends l t e w o p) (stopped v) x y = absurd (true≢false (sym w ∙ v))
finish_once (ends l t e w o p) (over v q) x y = absurd (true≢false (sym q ∙ o))
finish_once {k = k} (ends l t e w o p) (ends m u f v q r) x y =
    let same = passes_once p r x y in
    record { calls = ap (λ (n : ℕ). k + n) same.calls; stop = same.stop; after = same.after }

finish_as : {g f : Handed} {k m : ℕ} {s u : Outcome} {l : ℕ} {t : Outcome} {e : Handed} → Same k m s u g f → Finishes f m u l t e
    → Finishes g k s l t e
finish_as {g} {f} {k} {m} {s} {u} {l} {t} {e} same q =
    subst (λ (x : Handed). Finishes x k s l t e) (sym same.after)
    (subst (λ (x : ℕ). Finishes f x s l t e) (sym same.calls) (subst (λ (x : Outcome). Finishes f m x l t e) (sym same.stop) q))

piece_once : {full : ℕ} {piece : List ℕ} {h : Handed} {k l : ℕ} {s t : Outcome} {g e : Handed} → HandsOver full piece h k s g
    → HandsOver full piece h l t e → is_written s ≡ true → is_written t ≡ true → Same k l s t g e
piece_once (uneven f) (uneven v) x y = record { calls = refl; stop = refl; after = refl }
piece_once (uneven f) (fills _ _ _ v _ _ _) x y = absurd (true≢false (sym v ∙ f))
piece_once (uneven f) (last _ _ _ _ _ _ v _ _ _ _) x y = absurd (true≢false (sym v ∙ f))
piece_once (fills _ _ _ f _ _ _) (uneven v) x y = absurd (true≢false (sym f ∙ v))
piece_once (fills _ _ _ _ _ _ p) (fills _ _ _ _ _ _ q) x y = passes_once p q x y
piece_once (fills _ _ _ _ _ a _) (last _ _ _ _ _ _ _ _ b _ _) x y = absurd (omega (arith, a, b))
piece_once (last _ _ _ _ _ _ f _ _ _ _) (uneven v) x y = absurd (true≢false (sym f ∙ v))
piece_once (last _ _ _ _ _ _ _ _ b _ _) (fills _ _ _ _ _ a _) x y = absurd (omega (arith, a, b))
piece_once (last _ _ _ _ _ _ _ _ _ p q) (last _ _ _ _ _ _ _ _ _ r v) x y =
    finish_once q (finish_as (passes_once p r (finish_written q x) (finish_written v y)) v) x y

pub handing_once : {buf : List ℕ} {bytes : ℕ} {h : Handed} {k l : ℕ} {s t : Outcome} {g e : Handed} → Handing buf bytes h k s g
    → Handing buf bytes h l t e → is_written s ≡ true → is_written t ≡ true → Same k l s t g e
handing_once (beyond a) (beyond b) x y = record { calls = refl; stop = refl; after = refl }
handing_once (beyond a) (hands _ _ _ b q) x y = absurd (omega (arith, a, b))
handing_once (hands _ _ _ a p) (beyond b) x y = absurd (omega (arith, a, b))
handing_once (hands _ _ _ a p) (hands _ _ _ b q) x y = piece_once p q x y
