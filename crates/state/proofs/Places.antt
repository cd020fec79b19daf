-- Laws of the lines: what is counted stage by stage, and a test of all 64 places.
-- Assumes nothing.
use mathlib.Core.Path.{◌≡◌, refl, sym, ap, ap₂, ◌∙◌}
use mathlib.Core.Bool.{Bool, true, false, cond, not, ◌&&◌, ◌||◌, and-true, and-false}
use mathlib.Core.List.{List, [], ◌∷◌, ◌++◌}
use Prim.Native.Nat.{ℕ, zero, suc, ◌+◌, ◌*◌, ◌/◌, ◌%◌, ◌≤◌, ◌<◌}
use native.Mathlib.Nat.{add-zero, zero-add, add_assoc}
use native.Mathlib.Numerals.{add-one}
use native.Mathlib.Omega.{arith}
use lib.Dec.{eqb, ltb}
use lib.ListN.{length, get_or, length-append}
use borrow.Author.Tests.{lt-ltb, le-ltb, ltb-true, eq-eqb, ne_eqb}
use Rattle.base.specs.declared.config.Config.{Config}
use Rattle.base.specs.Search.{every}
use Rattle.base.proofs.Search.{both, every_at, all_every}
use Rattle.state.specs.Views.{places, flat, total, wire_place, home_place, wire_of, home_of, wire_flit, wire_vc, on_vc, to_vc}
use Rattle.state.specs.Sound.{wire_place_legal, legal_flit, line_unused}
use Rattle.state.proofs.Tests.{same_test}

flat_end : {A : Type 0} (xs : List (List A)) (x : List A) → length (flat (xs ++ (x ∷ []))) ≡ length (flat xs) + length x
unfolding flat
flat_end [] x = length-append x [] ∙ add-zero (length x) ∙ sym (zero-add (length x))
flat_end (y ∷ xs) x =
    length-append y (flat (xs ++ (x ∷ []))) ∙ ap (λ n. length y + n) (flat_end xs x)
    ∙ sym (add_assoc (length y) (length (flat xs)) (length x))
    ∙ ap (λ n. n + length x) (sym (length-append y (flat xs)))

-- the sum with one number more at the end
pub total_end : (xs : List ℕ) (x : ℕ) → total (xs ++ (x ∷ [])) ≡ total xs + x
unfolding total
total_end [] x = add-zero x ∙ sym (zero-add x)
total_end (y ∷ xs) x = ap (λ n. y + n) (total_end xs x) ∙ sym (add_assoc y (total xs) x)

-- one stage more
pub flits_more : {A : Type 0} (k : ℕ) (f : ℕ → List A) → length (flat (places (k + 1) f)) ≡ length (flat (places k f)) + length (f k)
unfolding places
flits_more k f = ap (λ n. length (flat (places n f))) (add-one k) ∙ flat_end (places k f) (f k)

pub credits_more : (k : ℕ) (f : ℕ → ℕ) → total (places (k + 1) f) ≡ total (places k f) + f k
unfolding places
credits_more k f = ap (λ n. total (places n f)) (add-one k) ∙ total_end (places k f) (f k)

-- whether a wire place holds a flit on a VC
pub none_there : (place : ℕ) (t : Bool) → place ≡ 0 → false ≡ (not (eqb place 0) && t)
none_there place t e = sym (ap (λ b. not b && t) (eq-eqb place 0 e))

pub some_there : (place : ℕ) (t : Bool) → (place ≡ 0 → ⊥) → t ≡ (not (eqb place 0) && t)
some_there place t n = sym (ap (λ b. not b && t) (ne_eqb place 0 n))

pub flit_on : (v place : ℕ) → (not (eqb place 0) && eqb (wire_vc place) v) ≡ true → on_vc v place ≡ (wire_flit place ∷ [])
flit_on v place e = ap (λ b. cond b (wire_flit place ∷ []) []) e

pub flit_off : (v place : ℕ) → (not (eqb place 0) && eqb (wire_vc place) v) ≡ false → on_vc v place ≡ []
flit_off v place e = ap (λ b. cond b (wire_flit place ∷ []) []) e

pub credit_on : (v place : ℕ) → place ≡ v + 1 → 1 ≡ to_vc v place
credit_on v place e = sym (ap (λ b. cond b 1 0) (eq-eqb place (v + 1) e))

pub credit_off : (v place : ℕ) → (place ≡ v + 1 → ⊥) → 0 ≡ to_vc v place
credit_off v place n = sym (ap (λ b. cond b 1 0) (ne_eqb place (v + 1) n))

-- nothing is counted yet
pub flits_none : {A : Type 0} (f : ℕ → List A) → 0 ≡ length (flat (places 0 f))
unfolding places flat
flits_none f = refl

pub credits_none : (f : ℕ → ℕ) → 0 ≡ total (places 0 f)
unfolding places total
credits_none f = refl

-- a place holds at most one
pub one_flit : (v place : ℕ) → length (on_vc v place) ≤ 1
one_flit v place = go (not (eqb place 0) && eqb (wire_vc place) v)
  where
    go : (b : Bool) → length (cond b (wire_flit place ∷ []) []) ≤ 1
    go true = omega arith
    go false = omega arith

pub one_credit : (v place : ℕ) → to_vc v place ≤ 1
one_credit v place = go (eqb place (v + 1))
  where
    go : (b : Bool) → cond b 1 0 ≤ 1
    go true = omega arith
    go false = omega arith

-- so a line holds at most one for each stage
pub wire_few : (c : Config) (wire : List ℕ) (i v : ℕ) → length (flat (wire_of c wire i v)) ≤ c.forward
unfolding wire_of
wire_few c wire i v = few c.forward
  where
    few : (n : ℕ) → length (flat (places n (λ (k : ℕ). on_vc v (wire_place wire k i)))) ≤ n
    few zero = let e = flits_none (λ (k : ℕ). on_vc v (wire_place wire k i)) in omega arith
    few (suc n) =
        let r = few n in
        let o = one_flit v (wire_place wire n i) in
        let e : length (flat (places (suc n) (λ (k : ℕ). on_vc v (wire_place wire k i))))
        ≡ length (flat (places n (λ (k : ℕ). on_vc v (wire_place wire k i)))) + length (on_vc v (wire_place wire n i))
        = ap (λ m. length (flat (places m (λ (k : ℕ). on_vc v (wire_place wire k i))))) (sym (add-one n)) ∙ flits_more n (λ (k : ℕ). on_vc v
        (wire_place wire k i)) in
        omega arith

pub home_few : (c : Config) (home : List ℕ) (i v : ℕ) → total (home_of c home i v) ≤ c.back
unfolding home_of
home_few c home i v = few c.back
  where
    few : (n : ℕ) → total (places n (λ (k : ℕ). to_vc v (home_place home k i))) ≤ n
    few zero = let e = credits_none (λ (k : ℕ). to_vc v (home_place home k i)) in omega arith
    few (suc n) =
        let r = few n in
        let o = one_credit v (home_place home n i) in
        let e : total (places (suc n) (λ (k : ℕ). to_vc v (home_place home k i)))
        ≡ total (places n (λ (k : ℕ). to_vc v (home_place home k i))) + to_vc v (home_place home n i)
        = ap (λ m. total (places m (λ (k : ℕ). to_vc v (home_place home k i)))) (sym (add-one n)) ∙ credits_more n (λ (k : ℕ). to_vc v
        (home_place home k i)) in
        omega arith

-- a place in use passes its test, any other is zero
abbrev pub place_sound : ℕ → ℕ → (ℕ → Bool) → ℕ → ℕ → ℕ → Bool
place_sound delay ports legal k i place = cond (ltb k delay && ltb i ports) (legal place) (eqb place 0)

abbrev pub line_sound : ℕ → ℕ → (ℕ → Bool) → List ℕ → ℕ → Bool
line_sound delay ports legal line m = place_sound delay ports legal (m / 8) (m % 8) (get_or line m 0)

pub past_delay : (delay ports : ℕ) (legal : ℕ → Bool) (k i place : ℕ) → delay ≤ k → eqb place 0 ≡ place_sound delay ports legal k i place
past_delay delay ports legal k i place h = sym (ap (λ b. cond (b && ltb i ports) (legal place) (eqb place 0)) (le-ltb k delay h))

pub past_ports : (delay ports : ℕ) (legal : ℕ → Bool) (k i place : ℕ) → ports ≤ i → eqb place 0 ≡ place_sound delay ports legal k i place
past_ports delay ports legal k i place h =
    sym (ap (λ b. cond (ltb k delay && b) (legal place) (eqb place 0)) (le-ltb i ports h)
    ∙ ap (λ b. cond b (legal place) (eqb place 0)) (and-false (ltb k delay)))

pub place_used : (delay ports : ℕ) (legal : ℕ → Bool) (k i place : ℕ) → k < delay → i < ports → legal place
    ≡ place_sound delay ports legal k i place
place_used delay ports legal k i place h g =
    sym (ap₂ (λ a b. cond (a && b) (legal place) (eqb place 0)) (lt-ltb k delay h) (lt-ltb i ports g))

-- all 64 places pass: those in use pass their test, and the others are zero
pub line_is : (delay ports : ℕ) (legal : ℕ → Bool) (line : List ℕ) → delay ≤ 8 → ports ≤ 8
    → every 64 (line_sound delay ports legal line)
    ≡ (every delay (λ (k : ℕ). every ports (λ (i : ℕ). legal (get_or line (8 * k + i) 0))) && line_unused delay ports line)
unfolding line_unused
line_is delay ports legal line hd hp = same_test _ _ there back
  where
    at : every 64 (line_sound delay ports legal line) ≡ true → (k i : ℕ) → k < 8 → i < 8
        → place_sound delay ports legal k i (get_or line (8 * k + i) 0) ≡ true
    at e k i h g =
        let q : (8 * k + i) / 8 ≡ k = omega arith in
        let r : (8 * k + i) % 8 ≡ i = omega arith in
        sym (ap₂ (λ a b. place_sound delay ports legal a b (get_or line (8 * k + i) 0)) q r) ∙ every_at 64 (line_sound delay ports legal line) e
        (8 * k + i) (omega arith)

    rest : (b : Bool) (x : ℕ) → cond b (legal x) (eqb x 0) ≡ true → (b || eqb x 0) ≡ true
    rest true x e = refl
    rest false x e = e

    there : every 64 (line_sound delay ports legal line) ≡ true
        → (every delay (λ (k : ℕ). every ports (λ (i : ℕ). legal (get_or line (8 * k + i) 0)))
        && every 8 (λ (k : ℕ). every 8 (λ (i : ℕ). ltb k delay && ltb i ports || eqb (get_or line (8 * k + i) 0) 0))) ≡ true
    there e =
        ap₂ ◌&&◌
        (all_every delay _ (λ k h. all_every ports _ (λ i g. place_used delay ports legal k i (get_or line (8 * k + i) 0) h g
        ∙ at e k i (omega arith)
        (omega arith))))
        (all_every 8 _ (λ k h. all_every 8 _ (λ i g. rest (ltb k delay && ltb i ports) (get_or line (8 * k + i) 0) (at e k i h g))))

    back : (every delay (λ (k : ℕ). every ports (λ (i : ℕ). legal (get_or line (8 * k + i) 0)))
        && every 8 (λ (k : ℕ). every 8 (λ (i : ℕ). ltb k delay && ltb i ports || eqb (get_or line (8 * k + i) 0) 0))) ≡ true
        → every 64 (line_sound delay ports legal line) ≡ true
    back e =
        let p = both (every delay (λ (k : ℕ). every ports (λ (i : ℕ). legal (get_or line (8 * k + i) 0)))) (every 8 (λ (k : ℕ). every 8 (λ
        (i : ℕ). ltb k delay && ltb i ports || eqb (get_or line (8 * k + i) 0) 0))) e in
        all_every 64 (line_sound delay ports legal line) (λ m h.
        let whole : 8 * (m / 8) + m % 8 ≡ m = omega arith in
        ap (λ n. place_sound delay ports legal (m / 8) (m % 8) (get_or line n 0)) (sym whole)
        ∙ joined (m / 8) (m % 8) (ltb (m / 8) delay) refl (ltb (m % 8) ports) refl
        (λ l g. every_at ports _ (every_at delay _ p.0 (m / 8) l) (m % 8) g)
        (every_at 8 _ (every_at 8 _ p.1 (m / 8) (omega arith)) (m % 8) (omega arith)))
      where
        joined : (k i : ℕ) (a : Bool) → ltb k delay ≡ a → (b : Bool) → ltb i ports ≡ b
            → (k < delay → i < ports → legal (get_or line (8 * k + i) 0) ≡ true)
            → (ltb k delay && ltb i ports || eqb (get_or line (8 * k + i) 0) 0) ≡ true
            → place_sound delay ports legal k i (get_or line (8 * k + i) 0) ≡ true
        joined k i true ea true eb used free =
            ap₂ (λ a b. cond (a && b) (legal (get_or line (8 * k + i) 0)) (eqb (get_or line (8 * k + i) 0) 0)) ea eb
            ∙ used (ltb-true k delay ea)
            (ltb-true i ports eb)
        joined k i true ea false eb used free =
            ap₂ (λ a b. cond (a && b) (legal (get_or line (8 * k + i) 0)) (eqb (get_or line (8 * k + i) 0) 0)) ea eb
            ∙ sym (ap₂ (λ a b. a && b || eqb (get_or line (8 * k + i) 0) 0) ea eb) ∙ free
        joined k i false ea b eb used free =
            ap (λ a. cond (a && ltb i ports) (legal (get_or line (8 * k + i) 0)) (eqb (get_or line (8 * k + i) 0) 0)) ea
            ∙ sym (ap (λ a. a && ltb i ports || eqb (get_or line (8 * k + i) 0) 0) ea) ∙ free

-- a wire place: empty, of a VC that there is not, or a flit
pub wire_empty : (c : Config) (place : ℕ) → place ≡ 0 → true ≡ wire_place_legal c place
unfolding wire_place_legal
wire_empty c place e = sym (ap (λ b. b || (legal_flit c (wire_flit place) && ltb (wire_vc place) c.vcs)) (eq-eqb place 0 e))

pub wire_beyond : (c : Config) (place : ℕ) → (place ≡ 0 → ⊥) → c.vcs ≤ wire_vc place → false ≡ wire_place_legal c place
unfolding wire_place_legal
wire_beyond c place n h =
    sym (ap₂ (λ a b. a || (legal_flit c (wire_flit place) && b)) (ne_eqb place 0 n) (le-ltb (wire_vc place) c.vcs h)
    ∙ and-false (legal_flit c
    (wire_flit place)))

pub wire_flit-law : (c : Config) (place : ℕ) → (place ≡ 0 → ⊥) → wire_vc place < c.vcs → legal_flit c (wire_flit place) ≡ wire_place_legal c place
unfolding wire_place_legal
wire_flit-law c place n h =
    sym (ap₂ (λ a b. a || (legal_flit c (wire_flit place) && b)) (ne_eqb place 0 n) (lt-ltb (wire_vc place) c.vcs h) ∙ and-true (legal_flit c
    (wire_flit place)))
