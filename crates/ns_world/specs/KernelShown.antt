-- What lines of the code's table are rows of.
use Rattle.std.specs.Prelude.{ℕ, List, map}
use Rattle.std.specs.Option.{option_map}
use Rattle.ns_world.specs.declared.kernel_table.Line.{Line as CodeLine}
use Rattle.ns_world.specs.declared.kernel_table.Rows.{Rows}
use Rattle.ns_world.specs.KernelTable.{Line, Numbered, numbered}

-- a line of the code, as a row
abbrev pub shown : CodeLine → Line
shown line = record { text = option_map (λ text. text.now) line.text; access = line.access; answer = line.row }

-- rows of the code, with their numbers
abbrev pub listed : Rows → List Numbered
listed rows = numbered rows.first (map shown rows.lines.now)
