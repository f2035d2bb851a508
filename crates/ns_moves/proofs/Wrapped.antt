-- How a send goes on with a Message.
use Rattle.std.proofs.Common.{◌≡◌, List, [], ◌∷◌, refl, Option, Some, None}
use Rattle.ns_base.specs.declared.selector.Sel.{Sel}
use Rattle.ns_world.specs.declared.value.Value.{Value}
use Rattle.ns_world.specs.declared.value.Value.TheVariants.{Ref}
use Rattle.ns_world.specs.declared.ending.LimitKind.TheVariants.{Cells}
use Rattle.ns_world.specs.Cell.{ArrayCell, MessageCell}
use Rattle.ns_world.specs.Heap.{heap_size}
use Rattle.ns_world.specs.World.{World, made}
use Rattle.ns_moves.specs.Control.{Progress, in_world, Gives, Halts, Control, halts, charged}
use Rattle.ns_moves.specs.Sends.{Wrapped, given}
use Rattle.ns_moves.specs.Wrapping.{wrapped, with_message}

-- by the Message that was made, or the end of the run
pub given_wrapped : (sel : Sel) (values : List Value) (progress : Progress) (go : List Value → Progress → Control) →
    given (Wrapped sel values) progress go ≡ with_message (wrapped sel values progress) go
given_wrapped sel values progress go = array (made progress.world (ArrayCell values))
  where
    message : (next : Progress) (o : Option World) → charged halts Cells o next (go (Ref (heap_size next.world.cells) ∷ [])) ≡ with_message (charged Halts Cells o next (Gives (Ref (heap_size next.world.cells)))) go
    message next (Some world) = refl
    message next None = refl

    array : (o : Option World)
        → (charged halts Cells o progress λ next. charged halts Cells (made next.world (MessageCell sel (Ref (heap_size progress.world.cells)))) next (go (Ref (heap_size next.world.cells) ∷ [])))
        ≡ with_message (charged Halts Cells o progress λ next. charged Halts Cells (made next.world (MessageCell sel (Ref (heap_size progress.world.cells)))) next (Gives (Ref (heap_size next.world.cells)))) go
    array (Some world) = message (in_world progress world) (made world (MessageCell sel (Ref (heap_size progress.world.cells))))
    array None = refl
