-- The rows of String, and how texts are made.
use Rattle.std.specs.Prelude.{◌≡◌, ℕ, ◌+◌, pos, nat_lt, List, [], ◌∷◌, ◌++◌, length, take, drop, replicate, Bool, true, false, ◌==◌, Some, None, Result, Ok, Err, if◌then◌else◌}
use Rattle.std.specs.List.{slice_index}
use Rattle.std.specs.Str.{bytes_eq}
use Rattle.ns_world.specs.declared.value.Value.{Value}
use Rattle.ns_world.specs.declared.value.Value.TheVariants.{Int}
use Rattle.ns_world.specs.declared.ending.Fault.{Fault}
use Rattle.ns_world.specs.declared.ending.Fault.TheVariants.{Limit}
use Rattle.ns_world.specs.declared.ending.LimitKind.TheVariants.{Cells}
use Rattle.ns_world.specs.Cell.{TextCell}
use Rattle.ns_world.specs.Heap.{Heap, heap_size}
use Rattle.ns_world.specs.World.{World, WorldView, SameRoom, made, byte_written}
use Rattle.ns_kdata.specs.declared.arguments.Part.{Part}
use Rattle.ns_kdata.specs.Outcome.{RowOutcome, Fails, making, wrong_kind}
use Rattle.ns_kdata.specs.Arguments.{is_text, bytes_of, place_in, part_in}
use Rattle.ns_world.specs.Booleans.{truth}
use Rattle.ns_base.specs.Quoted.{quoted}

-- the world with bytes written into a text, from a place on
abbrev pub filled : WorldView → ℕ → ℕ → List ℕ → WorldView
filled view to place [] = view
filled view to place (byte ∷ bytes) = filled (record view { world = byte_written view.world to place byte }) to (place + 1) bytes

-- A new text of so many bytes, each 0; or the limit on cells, and nothing changes.
abbrev pub MakesText : WorldView → ℕ → Result ℕ Fault → WorldView → Type 0
MakesText old bytes (Ok number) new =
    (made old.world (TextCell (replicate bytes 0)) ≡ Some new.world) × (number ≡ heap_size old.world.cells) × SameRoom old new
MakesText old bytes (Err fault) new = (made old.world (TextCell (replicate bytes 0)) ≡ None) × (fault ≡ Limit Cells) × (new ≡ old)

-- some of the bytes
abbrev pub bytes_in : List ℕ → Part → List ℕ
bytes_in bytes part = take part.count (drop part.start bytes)

-- whether bytes come before others: at the first place at which they differ, or where they end first
abbrev pub is_before : List ℕ → List ℕ → Bool
is_before first [] = false
is_before [] (byte ∷ bytes) = true
is_before (one ∷ ones) (byte ∷ bytes) = if one == byte then is_before ones bytes else nat_lt one byte

-- `size`
abbrev pub text_size : Heap → Value → Value
text_size heap text = Int (pos (length (bytes_of heap text)))

-- the byte of a place, or the fault of the place
abbrev pub byte_at_place : List ℕ → Result ℕ Fault → Result Value Fault
byte_at_place bytes (Ok place) = Ok (Int (pos (slice_index bytes place)))
byte_at_place bytes (Err fault) = Err fault

-- `at:`
abbrev pub text_at : Heap → Value → Value → Result Value Fault
text_at heap text place = byte_at_place (bytes_of heap text) (place_in place (length (bytes_of heap text)))

-- a new text of a part of the bytes, or the fault of the part
abbrev pub copied : World → List ℕ → Result Part Fault → RowOutcome
copied world bytes (Ok part) = making world (TextCell (bytes_in bytes part))
copied world bytes (Err fault) = Fails fault

-- `copyFrom:to:`
abbrev pub text_copy : World → Value → Value → Value → RowOutcome
text_copy world text first last = copied world (bytes_of world.cells text) (part_in first last (length (bytes_of world.cells text)))

-- `,`
abbrev pub text_join : World → Value → Value → RowOutcome
text_join world text other =
    if is_text world.cells other then making world (TextCell (bytes_of world.cells text ++ bytes_of world.cells other)) else Fails wrong_kind

-- `=`
abbrev pub text_equal : Heap → Value → Value → Value
text_equal heap text other = if is_text heap other then truth (bytes_eq (bytes_of heap text) (bytes_of heap other)) else truth false

-- `<`
abbrev pub text_less : Heap → Value → Value → Result Value Fault
text_less heap text other =
    if is_text heap other then Ok (truth (is_before (bytes_of heap text) (bytes_of heap other))) else Err wrong_kind

-- `printString`
abbrev pub text_print : World → Value → RowOutcome
text_print world text = making world (TextCell (quoted (bytes_of world.cells text)))
