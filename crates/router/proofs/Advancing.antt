-- A line of 64 places moved on by 8, and its last eight places written.
-- Assumes nothing.
use Rattle.std.proofs.Common.{◌≡◌, ap, ◌∙◌, ◌-◌, ◌≤◌, List, ◌++◌, length, drop, take, append-nil, arith, length-drop}
use Rattle.std.specs.List.{copy_within}
use Rattle.std.proofs.lemmas.List.{take_all, drop_all}
use Rattle.std.proofs.lemmas.List.Edits.{length-paste, take-paste}
use borrow.Rule.Slice.PartMut.{put_mid}

pub line_advanced : {A : Type 0} (before line last : List A) → length before ≡ 64 → line ≡ copy_within before 8 (length before) 0
    → put_mid 56 (length line - 56) line last ≡ drop 8 before ++ last
line_advanced before line last long moves =
    let e = rw long at moves in
    let rest : length (drop 8 before) ≡ 56 = omega (arith, length-drop 8 before) in
    let same : length line ≡ 64 = ap length e ∙ length-paste before 0 (drop 8 before) 56 (omega arith) (omega arith) ∙ long in
    let moved : take 56 line ≡ drop 8 before =
    ap (take 56) e ∙ take-paste before 0 (drop 8 before) 56 (omega arith) (omega arith) ∙ take_all 56 (drop 8 before) (omega arith) in
    let past : length (drop 56 line) ≤ length line - 56 = omega (arith, length-drop 56 line) in
    rw (moved, drop_all (length line - 56) (drop 56 line) past, append-nil last)
