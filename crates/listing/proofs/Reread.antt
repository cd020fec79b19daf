-- A printed line is read back to its fields, whatever follows it.
-- Assumes nothing.
use mathlib.Core.Path.{◌≡◌, refl, sym, ap, ◌∙◌}
use mathlib.Core.Bool.{Bool, true, false, cond}
use mathlib.Core.List.{List, [], ◌∷◌, ◌++◌, append_assoc, append-nil}
use Prim.Native.Nat.{ℕ, zero, suc, ◌+◌, ◌/◌, ◌%◌, ◌^◌, ◌≤◌, ◌<◌}
use native.Mathlib.Omega.{arith}
use lib.Dec.{ltb, lit<}
use borrow.Author.Tests.{ne_eqb}
use Rattle.base.specs.declared.reply.Departure.{Departure}
use Rattle.base.specs.Flit.{letter_of}
use Rattle.listing.specs.Digits.{glyph, decimal, last_digits, hex}
use Rattle.listing.specs.Lines.{Line, credit, flit, finish, refusal, letter_of_line, words_of, spaced, print}
use Rattle.listing.specs.Reading.{kind_of_letter, Cut, cut, line_of, read_line}
use Rattle.listing.proofs.Decimals.{decimal_digit, decimal_more}
use Rattle.listing.proofs.ReadBack.{by_tenths, decimal_read, hex_read}

-- no byte of a word is a space or a newline
abbrev Plain : List ℕ → Type 0
Plain [] = Unit {0}
Plain (c ∷ cs) = (32 < c) × Plain cs

abbrev AllPlain : List (List ℕ) → Type 0
AllPlain [] = Unit {0}
AllPlain (w ∷ ws) = Plain w × AllPlain ws

plain_more : (w : List ℕ) (c : ℕ) → Plain w → 32 < c → Plain (w ++ (c ∷ []))
plain_more [] c p h = (h, tt)
plain_more (x ∷ w) c p h = (p.0, plain_more w c p.1 h)

glyph_plain : (d : ℕ) → 32 < glyph d
unfolding glyph
glyph_plain d = go (ltb d 10)
  where
    go : (b : Bool) → 32 < cond b (48 + d) (87 + d)
    go true = omega arith
    go false = omega arith

decimal_plain : (n : ℕ) → Plain (decimal n)
decimal_plain =
    by_tenths (λ (n : ℕ). Plain (decimal n)) (λ n h. rw (decimal_digit n h) (omega arith, tt))
    (λ n h p. rw (decimal_more n h) (plain_more (decimal (n / 10)) (glyph (n % 10)) p (glyph_plain (n % 10))))

last_plain : (b k n : ℕ) → Plain (last_digits b k n)
unfolding last_digits
last_plain b zero n = tt
last_plain b (suc k) n = plain_more (last_digits b k (n / b)) (glyph (n % b)) (last_plain b k (n / b)) (glyph_plain (n % b))

-- a plain word goes on
word_more : (u w cs : List ℕ) → Plain w → cut u (w ++ cs) ≡ cut (u ++ w) cs
unfolding cut
word_more u [] cs p = ap (λ (v : List ℕ). cut v cs) (sym (append-nil u))
word_more u (c ∷ w) cs p =
    let h = p.0 in
    rw (ne_eqb c 10 (λ e. omega arith), ne_eqb c 32 (λ e. omega arith))
    (word_more (u ++ (c ∷ [])) w cs p.1 ∙ ap (λ (v : List ℕ). cut v cs) (append_assoc u (c ∷ []) w))

-- the words of a line are cut apart again
pub words_cut : (v : List ℕ) (ws : List (List ℕ)) (rest : List ℕ) → AllPlain ws → cut v (spaced ws ++ rest)
    ≡ record { words = v ∷ ws; rest = rest }
unfolding cut spaced
words_cut v [] rest p = refl
words_cut v (w ∷ ws) rest p =
    let more : cut [] ((w ++ spaced ws) ++ rest) ≡ record { words = w ∷ ws; rest = rest } =
    ap (cut []) (append_assoc w (spaced ws) rest) ∙ word_more [] w (spaced ws ++ rest) p.0 ∙ words_cut w ws rest p.1 in
    ap (λ (x : Cut). record { words = v ∷ x.words; rest = x.rest }) more

letter_plain : (l : Line) → 32 < letter_of_line l
letter_plain (credit cycle input vc) = lit< tt
letter_plain (flit cycle output d) = lit< tt
letter_plain (finish cycles flits) = lit< tt
letter_plain (refusal number cycle place) = lit< tt

-- a line's bytes, with what follows, are read as the line of its words
line_cut : (l : Line) (rest : List ℕ) → AllPlain (words_of l) → read_line (print l ++ rest)
    ≡ record { line = line_of ((letter_of_line l ∷ []) ∷ words_of l); rest = rest }
unfolding read_line print
line_cut l rest plain =
    ap (λ (x : Cut). record { line = line_of x.words; rest = x.rest })
    (word_more [] (letter_of_line l ∷ []) (spaced (words_of l) ++ rest) (letter_plain l, tt)
    ∙ words_cut (letter_of_line l ∷ []) (words_of l) rest plain)

-- a kind is read back from its letter
pub kind_read : (kind : ℕ) → 1 ≤ kind → kind ≤ 4 → kind_of_letter (letter_of kind) ≡ kind
unfolding kind_of_letter letter_of
kind_read zero l m = absurd (omega arith)
kind_read (suc zero) l m = refl
kind_read (suc (suc zero)) l m = refl
kind_read (suc (suc (suc zero))) l m = refl
kind_read (suc (suc (suc (suc zero)))) l m = refl
kind_read (suc (suc (suc (suc (suc k))))) l m = absurd (omega arith)

letter_of_kind_plain : (kind : ℕ) → 1 ≤ kind → kind ≤ 4 → 32 < letter_of kind
unfolding letter_of
letter_of_kind_plain zero l m = absurd (omega arith)
letter_of_kind_plain (suc zero) l m = lit< tt
letter_of_kind_plain (suc (suc zero)) l m = lit< tt
letter_of_kind_plain (suc (suc (suc zero))) l m = lit< tt
letter_of_kind_plain (suc (suc (suc (suc zero)))) l m = lit< tt
letter_of_kind_plain (suc (suc (suc (suc (suc k))))) l m = absurd (omega arith)

-- each kind of line is read back to its fields
module _ (rest : List ℕ) where
  pub credit_read : (cycle input vc : ℕ) → read_line (print (credit cycle input vc) ++ rest)
      ≡ record { line = credit cycle input vc; rest = rest }
  unfolding line_of
  credit_read cycle input vc =
      line_cut (credit cycle input vc) rest (decimal_plain cycle, (decimal_plain input, (decimal_plain vc, tt)))
      ∙ rw (decimal_read cycle, decimal_read input, decimal_read vc)

  pub finish_read : (cycles flits : ℕ) → read_line (print (finish cycles flits) ++ rest) ≡ record { line = finish cycles flits; rest = rest }
  unfolding line_of
  finish_read cycles flits =
      line_cut (finish cycles flits) rest (decimal_plain cycles, (decimal_plain flits, tt)) ∙ rw (decimal_read cycles, decimal_read flits)

  pub refusal_read : (number cycle place : ℕ) → read_line (print (refusal number cycle place) ++ rest)
      ≡ record { line = refusal number cycle place; rest = rest }
  unfolding line_of
  refusal_read number cycle place =
      line_cut (refusal number cycle place) rest (decimal_plain number, (decimal_plain cycle, (decimal_plain place, tt)))
      ∙ rw (decimal_read number, decimal_read cycle, decimal_read place)

  pub flit_read : (cycle output : ℕ) (d : Departure) → 1 ≤ d.kind → d.kind ≤ 4 → d.payload < 2 ^ 32
      → read_line (print (flit cycle output d) ++ rest) ≡ record { line = flit cycle output d; rest = rest }
  unfolding line_of hex
  flit_read cycle output d least most word =
      line_cut (flit cycle output d) rest (
        decimal_plain cycle,
        (
          decimal_plain output,
          (
            decimal_plain d.out_vc,
            (
              decimal_plain d.input,
              (
                decimal_plain d.vc,
                (
                  (letter_of_kind_plain d.kind least most, tt),
                  (last_plain 16 8 d.payload, tt),
                ),
              ),
            ),
          ),
        ),
      )
      ∙ rw (
        decimal_read cycle,
        decimal_read output,
        decimal_read d.out_vc,
        decimal_read d.input,
        decimal_read d.vc,
        kind_read d.kind least most,
        hex_read d.payload word,
      )
