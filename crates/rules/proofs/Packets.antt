-- Flits that read as packets: a flit that goes from the wire into the queue leaves the reading as it is, and one more at the end reads on.
-- Assumes nothing.
use mathlib.Core.Path.{◌≡◌, refl, sym, ap, ap₂, ◌∙◌}
use mathlib.Core.Bool.{Bool, true, false, cond, not, xor, beq, ◌&&◌, false≢true}
use mathlib.Core.List.{List, [], ◌∷◌, ◌++◌, append_assoc}
use Rattle.std.specs.Prelude.{Some, None}
use lib.Dec.{eqb}
use Rattle.base.specs.declared.flit.Flit.{Flit}
use Rattle.base.specs.Flit.{kind_of, destination_of, starts_kind, ends_kind}
use Rattle.base.proofs.Search.{both, beq_same}
use Rattle.state.specs.declared.Binding.{Binding}
use Rattle.state.specs.declared.Binding.TheVariants.{Unbound, Bound}
use Rattle.state.specs.Sound.{all, reading, ends_as, begins_inside, reads}

-- what passes for both parts passes for the whole
pub all_append : {A : Type 0} (test : A → Bool) (xs ys : List A) → all test xs ≡ true → all test ys ≡ true → all test (xs ++ ys) ≡ true
unfolding all
all_append test [] ys e f = f
all_append test (x ∷ xs) ys e f = let p = both (test x) (all test xs) e in ap₂ ◌&&◌ p.0 (all_append test xs ys p.1 f)

-- the next flit decides where a reading starts only where the queue is empty; there it comes inside a packet
start_stays : (queue more rest : List Flit) (b : Binding) (inside : Bool) → reads queue (more ++ rest) b inside ≡ true
    → begins_inside (queue ++ more) b ≡ begins_inside queue b
unfolding reads reading xor
start_stays (f ∷ queue) more rest Unbound inside e = refl
start_stays (f ∷ queue) more rest (Bound b) inside e = refl
start_stays [] more rest Unbound inside e = refl
start_stays [] [] rest (Bound b) inside e = refl
start_stays [] (f ∷ more) rest (Bound b) inside e = go (starts_kind (kind_of f)) e
  where
    go : (starts : Bool) → ends_as inside (cond (xor true starts) (reading (not (ends_kind (kind_of f))) (more ++ rest)) None) ≡ true
        → not (starts && eqb (destination_of f) b.output) ≡ true
    go true q = absurd (false≢true q)
    go false q = refl

-- flits that go from the front of the wire to the end of the queue
pub reads_lands : (queue more rest : List Flit) (b : Binding) (inside : Bool) → reads queue (more ++ rest) b inside ≡ true
    → reads (queue ++ more) rest b inside ≡ true
unfolding reads
reads_lands queue more rest b inside e =
    ap₂ (λ (start : Bool) (fs : List Flit). ends_as inside (reading start fs)) (start_stays queue more rest b inside e)
    (append_assoc queue more rest)
    ∙ e

same_beq : (a : Bool) → beq a a ≡ true
same_beq true = refl
same_beq false = refl

-- a reading goes on with one flit more
reading_on : (start inside : Bool) (fs : List Flit) (f : Flit) → ends_as inside (reading start fs) ≡ true
    → xor inside (starts_kind (kind_of f)) ≡ true
    → reading start (fs ++ (f ∷ [])) ≡ Some (not (ends_kind (kind_of f)))
unfolding reading
reading_on start inside [] f e turn =
    ap (λ (b : Bool). cond (xor b (starts_kind (kind_of f))) (Some (not (ends_kind (kind_of f)))) None) (beq_same start inside e)
    ∙ ap (λ (b : Bool). cond b (Some (not (ends_kind (kind_of f)))) None) turn
reading_on start inside (g ∷ fs) f e turn = go (xor start (starts_kind (kind_of g))) e
    (λ q. reading_on (not (ends_kind (kind_of g))) inside fs f q turn)
  where
    go : (b : Bool) → ends_as inside (cond b (reading (not (ends_kind (kind_of g))) fs) None) ≡ true
        → (ends_as inside (reading (not (ends_kind (kind_of g))) fs) ≡ true
        → reading (not (ends_kind (kind_of g))) (fs ++ (f ∷ [])) ≡ Some (not (ends_kind (kind_of f))))
        → cond b (reading (not (ends_kind (kind_of g))) (fs ++ (f ∷ []))) None ≡ Some (not (ends_kind (kind_of f)))
    go true q rest = rest q
    go false q rest = absurd (false≢true q)

-- a flit that may come next joins the wire's end; the sender has a packet open after it, unless it ends one
pub reads_on : (queue wire : List Flit) (b : Binding) (inside : Bool) (f : Flit) → reads queue wire b inside ≡ true
    → xor inside (starts_kind (kind_of f)) ≡ true → reads queue (wire ++ (f ∷ [])) b (not (ends_kind (kind_of f))) ≡ true
unfolding reads
reads_on queue wire b inside f e turn =
    ap (λ (fs : List Flit). ends_as (not (ends_kind (kind_of f))) (reading (begins_inside queue b) fs)) (sym (append_assoc queue wire (f ∷ [])))
    ∙ ap (ends_as (not (ends_kind (kind_of f)))) (reading_on (begins_inside queue b) inside (queue ++ wire) f e turn)
    ∙ same_beq (not (ends_kind (kind_of f)))
