-- What it means that nothing answers a selector: no lookup finds it.
use Rattle.std.specs.Prelude.{◌≡◌, ℕ}
use Rattle.ns_base.specs.declared.selector.Sel.{Sel}
use Rattle.ns_code.specs.declared.program.CodeProgram.{CodeProgram}
use Rattle.ns_world.specs.declared.kernel.Start.{Start}
use Rattle.ns_world.specs.Heap.{Heap}
use Rattle.ns_find.specs.declared.found.Found.TheVariants.{Absent}
use Rattle.ns_find.specs.declared.found.Sending.{Sending}
use Rattle.ns_find.specs.declared.members.Side.{Side}
use Rattle.ns_find.specs.Find.{found_from, found_private}
use Rattle.ns_static_all.specs.Ascending.{IsOneOf}
use Rattle.ns_sends.specs.declared.sent.SentAt.{SentAt}
use Rattle.ns_sends.specs.Unanswered.{unanswered}

-- In no heap a lookup finds that selector, from whichever object or class it starts and however it was sent; nor is it found
-- among the private members of a declaration.
pub record IsNeverFound (code : CodeProgram) (sel : Sel) : Type 0 where
  pub by_lookup : (heap : Heap) (from : Start) (kind : Sending) → found_from heap code from sel.0 kind ≡ Absent
  pub among_private : (heap : Heap) (holder : ℕ) (side : Side) → found_private heap code holder side sel.0 ≡ Absent

-- What is told to be unanswered is never found.
abbrev pub ToldAreNeverFound : CodeProgram → Type 0
ToldAreNeverFound code = (sent : SentAt) → IsOneOf (unanswered code) sent → IsNeverFound code sent.sel
