-- What a write answers, and what then stands in a buffer that was all zero.
-- Assumes nothing.
use Rattle.std.specs.Prelude.{◌≡◌, List, [], ℕ, ◌-◌, ◌≤◌, length, take, drop, replicate, set, Result, Some}
use Rattle.base.specs.declared.reply.Reply.{Reply}
use Rattle.base.specs.Reply.{empty_reply}
use Rattle.listing.specs.declared.Unwritten.{Unwritten}
use Rattle.listing.specs.Writing.{WriteOutcome, write_outcome}

-- by listing's own definition of an answer; the buffer has no part in either
abbrev pub number_of : Result ℕ Unwritten → ℕ
number_of w = (write_outcome w []).number

abbrev pub bytes_of : Result ℕ Unwritten → ℕ
bytes_of w = (write_outcome w []).bytes

-- this number, and this line from place 0 on with zeros behind it; no line where the write is refused
pub record Answers (o : WriteOutcome) (number : ℕ) (line : List ℕ) : Type 0 where
  pub said : o.number ≡ number
  pub count : o.bytes ≡ length line
  pub fits : length line ≤ length o.buffer
  pub there : take (length line) o.buffer ≡ line
  pub behind : drop (length line) o.buffer ≡ replicate (length o.buffer - length line) 0

-- a reply of one credit, of this VC, at the sender of input 7
abbrev pub with_one_credit : ℕ → Reply
with_one_credit vc = record { senders = set empty_reply.senders 7 (Some vc); outputs = empty_reply.outputs }

-- a credit at each input, and at each output a flit with the longest words
abbrev pub full_reply : Reply
full_reply =
    record {
      senders = replicate 8 (Some 3);
      outputs = replicate 8 (Some (record { out_vc = 3; input = 7; vc = 3; kind = 1; payload = 0xffffffff }));
    }
