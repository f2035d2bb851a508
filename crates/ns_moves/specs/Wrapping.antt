-- The Message with which a send goes on that found nothing.
use Rattle.std.specs.Prelude.{ℕ, List, [], ◌∷◌, Result, Ok, Err}
use Rattle.ns_base.specs.declared.selector.Sel.{Sel}
use Rattle.ns_world.specs.declared.value.Value.{Value}
use Rattle.ns_world.specs.declared.value.Value.TheVariants.{Ref}
use Rattle.ns_world.specs.declared.ending.Fault.{Fault}
use Rattle.ns_world.specs.declared.ending.LimitKind.TheVariants.{Cells}
use Rattle.ns_world.specs.Cell.{ArrayCell, MessageCell}
use Rattle.ns_world.specs.Heap.{heap_size}
use Rattle.ns_world.specs.World.{made}
use Rattle.ns_moves.specs.declared.site.Site.{Site}
use Rattle.ns_moves.specs.Site.{fault_ending}
use Rattle.ns_moves.specs.Control.{Progress, After, Gives, Halts, Control, halts, charged}

-- the array of the arguments is charged, and then the Message itself
abbrev pub wrapped : Sel → List Value → Progress → After
wrapped sel values progress =
    charged Halts Cells (made progress.world (ArrayCell values)) progress λ next.
    charged Halts Cells (made next.world (MessageCell sel (Ref (heap_size progress.world.cells)))) next
    (Gives (Ref (heap_size next.world.cells)))

-- how a send goes on with it
abbrev pub with_message : After → (List Value → Progress → Control) → Control
with_message (Gives message progress) go = go (message ∷ []) progress
with_message (Halts ending progress) go = halts ending progress

-- the number of a Message, or the end of the run
abbrev pub message_shown : Site → Result ℕ Fault → Progress → After
message_shown site (Ok message) progress = Gives (Ref message) progress
message_shown site (Err fault) progress = Halts (fault_ending fault site) progress
