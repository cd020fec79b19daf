-- Blocks that are accepted where they stand: one of h empty cycles, and the end block.
-- Assumes nothing.
use mathlib.Core.Path.{◌≡◌, refl, sym, ap, ◌∙◌}
use mathlib.Core.Bool.{Bool, true, false}
use mathlib.Core.List.{List, [], ◌∷◌}
use Prim.Native.Nat.{ℕ, ◌+◌, ◌≤◌, ◌<◌}
use native.Mathlib.Omega.{arith}
use lib.Arith.{lt_of_le-ne}
use lib.Dec.{eqb, lit<}
use lib.ListN.{length}
use borrow.Author.Tests.{eqb-true, eqb-false}
use Rattle.trace.specs.declared.place.Place.{Place}
use Rattle.trace.specs.Bytes.{byte, AreBytes, big_endian}
use Rattle.trace.specs.Blocks.{kind_of, held_of, number_of, total_of, cycle_start, end_of_body}
use Rattle.trace.specs.Check.{check_holds}
use Rattle.trace.specs.Place.{good_place}
use Rattle.trace.specs.declared.judging.Found.TheVariants as found
use Rattle.trace.specs.Judged.{accepted, judged}
use Rattle.trace.proofs.Formed.{Formed, formed_holds}
use Rattle.trace.proofs.Order.{judged_read}
use Rattle.trace.proofs.Reading.{read_cycles, read_end}
use Rattle.trace.proofs.Sealed.{sealed, length_sealed, sealed_holds, sealed_head, sealed_blank, sealed_bytes, known_bytes}
use Rattle.trace.proofs.Sealed.{more_bytes, spelt, spelt_bytes, spelt_number}
use Rattle.trace.proofs.Spelling.{spell_ext}

-- before the end block, with the configuration read
abbrev pub at : ℕ → Place
at n = record { number = n; configured = true; ended = false }

-- "6..7 zero"
two_zeros : (l : List ℕ) → byte l 6 ≡ 0 → byte l 7 ≡ 0 → (i : ℕ) → 6 ≤ i → i < 8 → byte l i ≡ 0
two_zeros l six seven i g h = go (eqb i 6) refl
  where
    go : (b : Bool) → eqb i 6 ≡ b → byte l i ≡ 0
    go true e = ap (byte l) (eqb-true i 6 e) ∙ six
    go false e =
        let more : 6 < i = lt_of_le-ne g (λ q. eqb-false i 6 e (sym q)) in
        let at : i ≡ 7 = omega arith in
        ap (byte l) at ∙ seven

-- ---- a cycles block of h empty cycles

cycles_head : ℕ → ℕ → List ℕ
cycles_head n h = 2 ∷ h ∷ spelt n (0 ∷ 0 ∷ [])

module _ (n c h : ℕ) (small : n < 4294967296) (from : 1 ≤ h) (to : h ≤ 7) where
  pub cycles_block : List ℕ
  cycles_block = sealed (cycles_head n h)

  eight : length (cycles_head n h) ≡ 8
  unfolding cycles_head spelt
  eight = refl

  pub cycles_bytes : AreBytes cycles_block
  unfolding cycles_block cycles_head
  cycles_bytes = sealed_bytes (cycles_head n h) (more_bytes 2 (h ∷ spelt n (0 ∷ 0 ∷ [])) (lit< tt)
      (more_bytes h (spelt n (0 ∷ 0 ∷ [])) (omega arith) (spelt_bytes n (0 ∷ 0 ∷ []) small (known_bytes (0 ∷ 0 ∷ []) refl))))

  cycles_byte : (i : ℕ) → i < 8 → byte cycles_block i ≡ byte (cycles_head n h) i
  unfolding cycles_block
  cycles_byte i g = sealed_head (cycles_head n h) (omega (arith, eight)) i (omega (arith, eight))

  cycles_blank : (i : ℕ) → 8 ≤ i → i < 510 → byte cycles_block i ≡ 0
  unfolding cycles_block
  cycles_blank i g l = sealed_blank (cycles_head n h) (omega (arith, eight)) i (omega (arith, eight)) l

  cycles_long : 512 ≤ length cycles_block
  unfolding cycles_block
  cycles_long = omega (arith, length_sealed (cycles_head n h) (omega (arith, eight)))

  cycles_check : check_holds cycles_block ≡ true
  unfolding cycles_block
  cycles_check = sealed_holds (cycles_head n h) (omega (arith, eight))

  cycles_kind : kind_of cycles_block ≡ 2
  unfolding cycles_head
  cycles_kind = cycles_byte 0 (lit< tt)

  cycles_held : held_of cycles_block ≡ h
  unfolding cycles_head
  cycles_held = cycles_byte 1 (lit< tt)

  cycles_number : number_of cycles_block ≡ n
  unfolding cycles_head spelt big_endian
  cycles_number = spell_ext cycles_block (cycles_head n h) 2 4 (λ i g. cycles_byte (2 + i) (omega arith)) ∙ spelt_number n

  cycles_six : byte cycles_block 6 ≡ 0
  unfolding cycles_head spelt
  cycles_six = cycles_byte 6 (lit< tt)

  cycles_seven : byte cycles_block 7 ≡ 0
  unfolding cycles_head spelt
  cycles_seven = cycles_byte 7 (lit< tt)

  cycles_end : end_of_body cycles_block ≡ cycle_start h
  unfolding end_of_body
  cycles_end = rw cycles_kind (ap cycle_start cycles_held)

  cycles_formed : Formed (at n) c cycles_block
  cycles_formed =
      record {
        kind_from = omega (arith, cycles_kind);
        kind_to = omega (arith, cycles_kind);
        number = cycles_number;
        held_from = λ q. omega (arith, cycles_held);
        held_to = λ q. omega (arith, cycles_held);
        none_held = λ q. absurd (q cycles_kind);
        head_blank = two_zeros cycles_block cycles_six cycles_seven;
        rest_blank = λ i g l. cycles_blank i (omega (arith, cycles_end)) l;
        opens = λ q. absurd (omega (arith, cycles_kind));
        follows = λ q. refl;
        total = λ q. absurd (omega (arith, cycles_kind));
      }

  pub cycles_judged : good_place (at n) c ≡ true → judged (at n) c cycles_block ≡ accepted (found.Cycles h) (at (n + 1))
  cycles_judged g =
      judged_read (at n) c cycles_block g refl cycles_long cycles_check (formed_holds (at n) c cycles_block cycles_formed)
      ∙ sym (read_cycles (at n) cycles_block refl (λ q. absurd (omega (arith, cycles_kind))) cycles_kind)
      ∙ (λ i. accepted (found.Cycles (cycles_held i)) (record { number = n + 1; configured = true; ended = eqb (cycles_kind i) 3 }))

-- ---- the end block

end_head : ℕ → ℕ → List ℕ
end_head n c = 3 ∷ 0 ∷ spelt n (0 ∷ 0 ∷ spelt c [])

module _ (n c : ℕ) (small : n < 4294967296) (few : c < 4294967296) where
  pub end_block : List ℕ
  end_block = sealed (end_head n c)

  twelve : length (end_head n c) ≡ 12
  unfolding end_head spelt
  twelve = refl

  pub end_bytes : AreBytes end_block
  unfolding end_block end_head
  end_bytes =
      sealed_bytes (end_head n c)
      (more_bytes 3 (0 ∷ spelt n (0 ∷ 0 ∷ spelt c [])) (lit< tt)
      (more_bytes 0 (spelt n (0 ∷ 0 ∷ spelt c [])) (lit< tt)
      (spelt_bytes n (0 ∷ 0 ∷ spelt c []) small
      (more_bytes 0 (0 ∷ spelt c []) (lit< tt) (more_bytes 0 (spelt c []) (lit< tt) (spelt_bytes c [] few (known_bytes [] refl)))))))

  end_byte : (i : ℕ) → i < 12 → byte end_block i ≡ byte (end_head n c) i
  unfolding end_block
  end_byte i g = sealed_head (end_head n c) (omega (arith, twelve)) i (omega (arith, twelve))

  end_blank : (i : ℕ) → 12 ≤ i → i < 510 → byte end_block i ≡ 0
  unfolding end_block
  end_blank i g l = sealed_blank (end_head n c) (omega (arith, twelve)) i (omega (arith, twelve)) l

  end_long : 512 ≤ length end_block
  unfolding end_block
  end_long = omega (arith, length_sealed (end_head n c) (omega (arith, twelve)))

  end_check : check_holds end_block ≡ true
  unfolding end_block
  end_check = sealed_holds (end_head n c) (omega (arith, twelve))

  end_kind : kind_of end_block ≡ 3
  unfolding end_head
  end_kind = end_byte 0 (lit< tt)

  end_held : held_of end_block ≡ 0
  unfolding end_head
  end_held = end_byte 1 (lit< tt)

  end_number : number_of end_block ≡ n
  unfolding end_head spelt big_endian
  end_number = spell_ext end_block (end_head n c) 2 4 (λ i g. end_byte (2 + i) (omega arith)) ∙ spelt_number n

  end_total : total_of end_block ≡ c
  unfolding end_head spelt big_endian
  end_total = spell_ext end_block (end_head n c) 8 4 (λ i g. end_byte (8 + i) (omega arith)) ∙ spelt_number c

  end_six : byte end_block 6 ≡ 0
  unfolding end_head spelt
  end_six = end_byte 6 (lit< tt)

  end_seven : byte end_block 7 ≡ 0
  unfolding end_head spelt
  end_seven = end_byte 7 (lit< tt)

  end_end : end_of_body end_block ≡ 12
  unfolding end_of_body
  end_end = rw end_kind

  end_formed : Formed (at n) c end_block
  end_formed =
      record {
        kind_from = omega (arith, end_kind);
        kind_to = omega (arith, end_kind);
        number = end_number;
        held_from = λ q. absurd (omega (arith, end_kind));
        held_to = λ q. absurd (omega (arith, end_kind));
        none_held = λ q. end_held;
        head_blank = two_zeros end_block end_six end_seven;
        rest_blank = λ i g l. end_blank i (omega (arith, end_end)) l;
        opens = λ q. absurd (omega (arith, end_kind));
        follows = λ q. refl;
        total = λ q. end_total;
      }

  pub end_judged : good_place (at n) c ≡ true → judged (at n) c end_block
      ≡ accepted found.End (record { number = n + 1; configured = true; ended = true })
  end_judged g =
      judged_read (at n) c end_block g refl end_long end_check (formed_holds (at n) c end_block end_formed)
      ∙ sym (read_end (at n) end_block refl (λ q. absurd (omega (arith, end_kind))) (λ q. absurd (omega (arith, end_kind))))
      ∙ (λ i. accepted found.End (record { number = n + 1; configured = true; ended = eqb (end_kind i) 3 }))
