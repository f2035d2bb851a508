-- The world that a row leaves is lawful.
use Rattle.std.proofs.Common.{◌++◌, length}
use Rattle.std.specs.Prelude.{codes}
use Rattle.std.specs.Fmt.{signed_decimal}
use Rattle.ns_code.specs.declared.program.CodeProgram.{CodeProgram}
use Rattle.ns_world.specs.declared.value.Value.{Value}
use Rattle.ns_world.specs.World.{World}
use Rattle.ns_world.specs.Lawful.{IsLawful, IsLiveValue}
use Rattle.ns_world.specs.declared.kernel_parts.DataRow.{DataRow}
use Rattle.ns_world.specs.declared.kernel_parts.DataRow.TheVariants as row
use Rattle.ns_kdata.specs.Arguments.{bytes_of, is_text, part_in, symbol_text, number_of}
use Rattle.ns_kdata.specs.Texts.{text_at, text_less}
use Rattle.ns_base.specs.Quoted.{quoted}
use Rattle.ns_kdata.specs.Rows.{conjunction, disjunction, symbol_less, boolean_text, array_at}
use Rattle.ns_kdata.specs.Datum.{row_outcome}
use Rattle.ns_kdata.specs.Lawful.{LeavesLawful}
use Rattle.ns_kdata.specs.laws.Leaving.{unchanged_lawful, text_lawful, object_lawful, array_lawful, copied_lawful, joined_lawful}
use Rattle.ns_kdata.specs.lemmas.Storing.{put_lawful}

-- each row leaves a lawful world, where the value that may be stored is live
pub rows_lawful : (world : World) (code : CodeProgram) (row : DataRow) (receiver first second : Value) → IsLawful world code →
    IsLiveValue world.cells code second → LeavesLawful code (row_outcome world code row receiver first second)
rows_lawful world code row.Identical receiver first second lawful live = lawful
rows_lawful world code row.Equal receiver first second lawful live = lawful
rows_lawful world code row.IsNil receiver first second lawful live = lawful
rows_lawful world code row.NotNil receiver first second lawful live = lawful
rows_lawful world code row.KernelObject receiver first second lawful live = lawful
rows_lawful world code row.DoesNotUnderstand receiver first second lawful live = tt
rows_lawful world code row.NewObject receiver first second lawful live = object_lawful world code lawful
rows_lawful world code row.NewArray receiver first second lawful live = array_lawful world code first lawful
rows_lawful world code row.NilPrint receiver first second lawful live = text_lawful world code (codes "nil") lawful
rows_lawful world code row.Not receiver first second lawful live = lawful
rows_lawful world code row.BooleanPrint receiver first second lawful live = text_lawful world code (boolean_text receiver) lawful
rows_lawful world code row.And receiver first second lawful live = unchanged_lawful world code (conjunction receiver first) lawful
rows_lawful world code row.Or receiver first second lawful live = unchanged_lawful world code (disjunction receiver first) lawful
rows_lawful world code row.IntegerPrint receiver first second lawful live =
    text_lawful world code (signed_decimal (number_of receiver)) lawful
rows_lawful world code row.TextSize receiver first second lawful live = lawful
rows_lawful world code row.TextAt receiver first second lawful live =
    unchanged_lawful world code (text_at world.cells receiver first) lawful
rows_lawful world code row.TextCopy receiver first second lawful live =
    copied_lawful world code (bytes_of world.cells receiver) (part_in first second (length (bytes_of world.cells receiver))) lawful
rows_lawful world code row.TextJoin receiver first second lawful live =
    joined_lawful world code (bytes_of world.cells receiver ++ bytes_of world.cells first) (is_text world.cells first) lawful
rows_lawful world code row.TextEqual receiver first second lawful live = lawful
rows_lawful world code row.TextLess receiver first second lawful live =
    unchanged_lawful world code (text_less world.cells receiver first) lawful
rows_lawful world code row.TextPrint receiver first second lawful live =
    text_lawful world code (quoted (bytes_of world.cells receiver)) lawful
rows_lawful world code row.SymbolSize receiver first second lawful live = lawful
rows_lawful world code row.SymbolText receiver first second lawful live = text_lawful world code (symbol_text code receiver) lawful
rows_lawful world code row.SymbolPrint receiver first second lawful live = text_lawful world code (codes "#" ++ symbol_text code receiver) lawful
rows_lawful world code row.SymbolLess receiver first second lawful live =
    unchanged_lawful world code (symbol_less code receiver first) lawful
rows_lawful world code row.ArraySize receiver first second lawful live = lawful
rows_lawful world code row.ArrayAt receiver first second lawful live =
    unchanged_lawful world code (array_at world.cells receiver first) lawful
rows_lawful world code row.ArrayPut receiver first second lawful live = put_lawful world code receiver first second lawful live
rows_lawful world code row.MessageSelector receiver first second lawful live = lawful
rows_lawful world code row.MessageArguments receiver first second lawful live = lawful
