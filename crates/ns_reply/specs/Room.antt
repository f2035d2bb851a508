-- What a host is given into a room, and what it is told beside.
use Rattle.std.specs.Prelude.{◌≡◌, ◌⊎◌, ℕ, List, [], ◌++◌, take, drop, length}
use Rattle.ns_base.specs.declared.status.Status.{Status}
use Rattle.ns_base.specs.declared.status.Status.TheVariants.{Memory}
use Rattle.ns_handed.specs.Hands.{no_value}
use Rattle.ns_reply.specs.declared.reply.Reply.{Reply}
use Rattle.ns_reply.specs.declared.room.Told.{Told}

-- what stands in a room that was given these bytes: the first of them, as many as there is room for, and then what stood there
abbrev pub given : (bytes room : List ℕ) → List ℕ
given bytes room = take (length room) bytes ++ drop (length bytes) room

-- the parts of a reply, one behind the other: the program, what it printed, the line that reports its end, the text of its value
abbrev pub parts_of : Reply → List ℕ
parts_of reply = reply.program ++ (reply.printed ++ (reply.report ++ reply.text))

-- what is told beside: the lengths of the parts, the value, and what was used
abbrev pub told_of : Reply → Told
told_of reply = record {
  program = length reply.program;
  printed = length reply.printed;
  report = length reply.report;
  text = length reply.text;
  value = reply.value;
  steps = reply.used.steps;
  cells = reply.used.cells;
  depth = reply.used.depth;
  out = reply.used.out;
}

-- where nothing is told
abbrev pub nothing_told : Told
nothing_told = record { program = 0; printed = 0; report = 0; text = 0; value = no_value; steps = 0; cells = 0; depth = 0; out = 0 }

-- The call ended as the reply says, and gave all that it has.
pub record GivesReply (reply : Reply) (status : Status) (old new : List ℕ) (told : Told) : Type 0 where
  pub status_is : status ≡ reply.status
  pub room : new ≡ given (parts_of reply) old
  pub lengths : told ≡ told_of reply

-- The room is as it was, and nothing is told.
pub record IsUntouched (old new : List ℕ) (told : Told) : Type 0 where
  pub room : new ≡ old
  pub told_is : told ≡ nothing_told

-- how a call ends of which that is the reply: with all of that; or without memory, and nothing was given
abbrev pub Gives : Reply → Status → (old new : List ℕ) → Told → Type 0
Gives reply status old new told = GivesReply reply status old new told ⊎ ((status ≡ Memory) × IsUntouched old new told)
