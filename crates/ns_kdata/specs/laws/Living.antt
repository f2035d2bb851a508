-- What a row answers is live.
use Rattle.std.proofs.Common.{◌++◌, [], length, refl, not}
use Rattle.std.specs.Prelude.{codes}
use Rattle.std.specs.Fmt.{signed_decimal}
use Rattle.std.specs.Str.{bytes_eq}
use Rattle.ns_code.specs.declared.program.CodeProgram.{CodeProgram}
use Rattle.ns_world.specs.declared.value.Value.{Value}
use Rattle.ns_world.specs.Cell.{ObjectCell, TextCell}
use Rattle.ns_world.specs.Heap.{no_class}
use Rattle.ns_world.specs.World.{World}
use Rattle.ns_world.specs.Lawful.{IsLawful, IsLiveValue}
use Rattle.ns_world.specs.declared.kernel_parts.DataRow.{DataRow}
use Rattle.ns_world.specs.declared.kernel_parts.DataRow.TheVariants as row
use Rattle.ns_kdata.specs.Arguments.{items_of, bytes_of, is_text, place_in, part_in, symbol_text, number_of}
use Rattle.ns_kdata.specs.Texts.{byte_at_place, text_less, is_before}
use Rattle.ns_base.specs.Quoted.{quoted}
use Rattle.ns_kdata.specs.Rows.{conjunction, disjunction, item_at_place, same_value, is_nil, symbol_less, boolean_text}
use Rattle.ns_kdata.specs.Datum.{row_outcome}
use Rattle.ns_kdata.specs.Living.{AnswersLive}
use Rattle.ns_kdata.specs.laws.LivingValues.{truth_live, making_live, unchanged_live, negation_live, conjunction_live, disjunction_live, byte_live, copied_live, joined_live, equal_live, less_live, array_live, symbols_live}
use Rattle.ns_kdata.specs.laws.LivingItems.{items_live, item_live, put_live}
use Rattle.ns_kdata.specs.lemmas.LivingMessages.{selector_live, arguments_live}

-- each row's answer is live, where the value that may be stored is
pub rows_live : (world : World) (code : CodeProgram) (row : DataRow) (receiver first second : Value) → IsLawful world code →
    IsLiveValue world.cells code second → AnswersLive code (row_outcome world code row receiver first second)
rows_live world code row.Identical receiver first second lawful live = truth_live world.cells code (same_value receiver first)
rows_live world code row.Equal receiver first second lawful live = truth_live world.cells code (same_value receiver first)
rows_live world code row.IsNil receiver first second lawful live = truth_live world.cells code (is_nil receiver)
rows_live world code row.NotNil receiver first second lawful live = truth_live world.cells code (not (is_nil receiver))
rows_live world code row.KernelObject receiver first second lawful live = (tt, refl)
rows_live world code row.DoesNotUnderstand receiver first second lawful live = tt
rows_live world code row.NewObject receiver first second lawful live = making_live world code (ObjectCell no_class []) refl
rows_live world code row.NewArray receiver first second lawful live = array_live world code first
rows_live world code row.NilPrint receiver first second lawful live = making_live world code (TextCell (codes "nil")) refl
rows_live world code row.Not receiver first second lawful live = negation_live world.cells code receiver
rows_live world code row.BooleanPrint receiver first second lawful live = making_live world code (TextCell (boolean_text receiver)) refl
rows_live world code row.And receiver first second lawful live =
    unchanged_live world code (conjunction receiver first) (conjunction_live world.cells code receiver first)
rows_live world code row.Or receiver first second lawful live =
    unchanged_live world code (disjunction receiver first) (disjunction_live world.cells code receiver first)
rows_live world code row.IntegerPrint receiver first second lawful live =
    making_live world code (TextCell (signed_decimal (number_of receiver))) refl
rows_live world code row.TextSize receiver first second lawful live = (tt, refl)
rows_live world code row.TextAt receiver first second lawful live =
    unchanged_live world code (byte_at_place (bytes_of world.cells receiver) (place_in first (length (bytes_of world.cells receiver)))) (byte_live world.cells code (bytes_of world.cells receiver) (place_in first (length (bytes_of world.cells receiver))))
rows_live world code row.TextCopy receiver first second lawful live =
    copied_live world code (bytes_of world.cells receiver) (part_in first second (length (bytes_of world.cells receiver)))
rows_live world code row.TextJoin receiver first second lawful live =
    joined_live world code (bytes_of world.cells receiver ++ bytes_of world.cells first) (is_text world.cells first)
rows_live world code row.TextEqual receiver first second lawful live =
    equal_live world.cells code (is_text world.cells first) (bytes_eq (bytes_of world.cells receiver) (bytes_of world.cells first))
rows_live world code row.TextLess receiver first second lawful live =
    unchanged_live world code (text_less world.cells receiver first) (less_live world.cells code (is_text world.cells first) (is_before (bytes_of world.cells receiver) (bytes_of world.cells first)))
rows_live world code row.TextPrint receiver first second lawful live =
    making_live world code (TextCell (quoted (bytes_of world.cells receiver))) refl
rows_live world code row.SymbolSize receiver first second lawful live = (tt, refl)
rows_live world code row.SymbolText receiver first second lawful live = making_live world code (TextCell (symbol_text code receiver)) refl
rows_live world code row.SymbolPrint receiver first second lawful live = making_live world code (TextCell (codes "#" ++ symbol_text code receiver)) refl
rows_live world code row.SymbolLess receiver first second lawful live =
    unchanged_live world code (symbol_less code receiver first) (symbols_live world.cells code receiver first)
rows_live world code row.ArraySize receiver first second lawful live = (tt, refl)
rows_live world code row.ArrayAt receiver first second lawful live =
    unchanged_live world code (item_at_place (items_of world.cells receiver) (place_in first (length (items_of world.cells receiver)))) (item_live world code (items_of world.cells receiver) (place_in first (length (items_of world.cells receiver))) (items_live world code receiver lawful))
rows_live world code row.ArrayPut receiver first second lawful live =
    put_live world code receiver (place_in first (length (items_of world.cells receiver))) second live
rows_live world code row.MessageSelector receiver first second lawful live = selector_live world code receiver lawful
rows_live world code row.MessageArguments receiver first second lawful live = arguments_live world code receiver lawful
