-- The rows of Console.
use Rattle.std.specs.Prelude.{ℕ, ◌+◌, nat_le, List, ◌++◌, length, Option, Some, None, Bool, if◌then◌else◌}
use Rattle.std.specs.Fmt.{signed_decimal}
use Rattle.ns_code.specs.declared.program.CodeProgram.{CodeProgram}
use Rattle.ns_code.specs.Selector.{selector_text}
use Rattle.ns_world.specs.declared.value.Value.{Value}
use Rattle.ns_world.specs.declared.value.Value.TheVariants.{Nil, Int, Sym}
use Rattle.ns_world.specs.declared.ending.Fault.TheVariants.{Limit}
use Rattle.ns_world.specs.declared.ending.LimitKind.TheVariants.{Out}
use Rattle.ns_world.specs.World.{World, WorldView, printed}
use Rattle.ns_kdata.specs.Outcome.{RowOutcome, Answers, Fails, wrong_kind}
use Rattle.ns_kdata.specs.Arguments.{is_text, bytes_of}

-- whether so many bytes can be printed
abbrev pub fits : World → ℕ → Bool
fits world bytes = nat_le (length world.output + bytes) world.limits.out

-- the world with bytes behind its output
abbrev pub appended : WorldView → List ℕ → WorldView
appended view bytes = record view { world = record view.world { output = view.world.output ++ bytes } }

-- nil after a print, or the limit on output where there is no next world
abbrev pub printed_as : Option World → RowOutcome
printed_as (Some next) = Answers Nil next
printed_as None = Fails (Limit Out)

-- bytes printed in one piece
abbrev pub printed_bytes : World → List ℕ → RowOutcome
printed_bytes world bytes = printed_as (printed world bytes)

-- a String printed with bytes behind it; any other value is of the wrong kind
abbrev pub printed_text : World → Value → List ℕ → RowOutcome
printed_text world text tail =
    if is_text world.cells text then printed_bytes world (bytes_of world.cells text ++ tail) else Fails wrong_kind

-- a String's bytes, an Integer in decimal or a Symbol's text, with bytes behind them
abbrev pub printing : World → CodeProgram → Value → List ℕ → RowOutcome
printing world code (Int number) tail = printed_bytes world (signed_decimal number ++ tail)
printing world code (Sym sel) tail = printed_bytes world (selector_text code sel.0 ++ tail)
printing world code value tail = printed_text world value tail
