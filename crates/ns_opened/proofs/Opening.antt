-- How an opening ends of which a reply is told.
use Rattle.std.proofs.Common.{ℕ, Bool, true, false, List, inl, inr}
use Rattle.std.specs.Bool.{OnTrue}
use Rattle.ns_base.specs.declared.status.Status.{Status}
use Rattle.ns_opened.specs.Host.{Ends}
use Rattle.ns_reply.specs.Room.{Gives}
use Rattle.ns_reply.specs.declared.reply.Reply.{Reply}
use Rattle.ns_reply.specs.declared.room.Told.{Told}

-- It ends with that reply, if the reply was given.
pub ends_with : (is_good : Bool) (Is : Reply → Type 0) (reply : Reply) (status : Status) (old new : List ℕ) (told : Told) → Is reply
    → Gives reply status old new told → OnTrue is_good (Ends Is status old new told)
ends_with true Is reply status old new told is (inl gives) = inl (reply, is, gives)
ends_with true Is reply status old new told is (inr untold) = inr untold
ends_with false Is reply status old new told is gives = tt
