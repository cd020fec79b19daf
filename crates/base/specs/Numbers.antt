-- "Numbers given back" (01): each number of the table under one name, and the bounds that later requests move.
-- Assumes nothing.
use Rattle.std.specs.Prelude.{ℕ}

-- "done"
abbrev pub done : ℕ
done = 0

-- "configuration value out of range; the first such field, 1..7"
abbrev pub configuration_wrong : ℕ
configuration_wrong = 1

-- "state not sound"
abbrev pub not_sound : ℕ
not_sound = 2

-- "row breaks the byte rules above, or VC, destination or credit too large"
abbrev pub row_wrong : ℕ
row_wrong = 3

-- "B or T with no packet open at that sender VC, or H or S with one open"
abbrev pub out_of_turn : ℕ
out_of_turn = 4

-- "no sender credit, after phase 1"
abbrev pub no_sender_credit : ℕ
no_sender_credit = 5

-- "downstream credit where that output VC already has E"
abbrev pub credit_past_room : ℕ
credit_past_room = 6

-- "block check wrong"
abbrev pub check_wrong : ℕ
check_wrong = 7

-- "block kind, number, count, unused byte, place in the file, or end total wrong"
abbrev pub block_wrong : ℕ
block_wrong = 8

-- "fewer than 512 bytes in a block, or input ends before the end block"
abbrev pub block_short : ℕ
block_short = 9

-- "the run already has 1,000,000,000 cycles"
abbrev pub run_full : ℕ
run_full = 10

-- "fewer than 376 bytes from the named place, or place past the end"
abbrev pub no_room : ℕ
no_room = 11

-- "reply or line value outside its range"
abbrev pub out_of_range : ℕ
out_of_range = 12

-- of an R line: "number 1..10, place 0..7"
abbrev pub largest_number : ℕ
largest_number = 10

abbrev pub largest_place : ℕ
largest_place = 7

-- "Each write .. asks for 376 bytes."
abbrev pub room : ℕ
room = 376
