-- The reply of a cycle: per input the credit that reached its sender, per output the flit that left.
-- Assumes nothing.
use Rattle.std.specs.Prelude.{None, replicate}
use Rattle.base.specs.declared.reply.Reply.{Reply}

-- a reply that reports nothing
abbrev pub empty_reply : Reply
empty_reply = record { senders = replicate 8 None; outputs = replicate 8 None }
