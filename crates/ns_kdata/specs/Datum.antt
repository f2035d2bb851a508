-- What each row comes to, by its receiver and its arguments.
use Rattle.std.specs.Prelude.{List, not}
use Rattle.ns_code.specs.declared.program.CodeProgram.{CodeProgram}
use Rattle.ns_world.specs.declared.value.Value.{Value}
use Rattle.ns_world.specs.declared.value.Value.TheVariants.{Kernel}
use Rattle.ns_world.specs.declared.value.KClass.TheVariants.{Object}
use Rattle.ns_world.specs.World.{World}
use Rattle.ns_world.specs.declared.kernel_parts.DataRow.{DataRow}
use Rattle.ns_world.specs.declared.kernel_parts.DataRow.TheVariants as row
use Rattle.ns_kdata.specs.Outcome.{RowOutcome, Answers, Fails, unchanged}
use Rattle.ns_kdata.specs.Arguments.{argument}
use Rattle.ns_world.specs.Booleans.{truth}
use Rattle.ns_kdata.specs.Texts.{text_size, text_at, text_copy, text_join, text_equal, text_less, text_print}
use Rattle.ns_kdata.specs.Rows.{same_value, is_nil, not_understood, new_object, new_array, nil_print, boolean_print, integer_print, negation}
use Rattle.ns_kdata.specs.Rows.{conjunction, disjunction, symbol_size, symbol_string, symbol_print, symbol_less, array_size, array_at, array_put}
use Rattle.ns_kdata.specs.Rows.{message_selector, message_arguments}

-- the outcome of each row, by its receiver and its first two arguments
abbrev pub row_outcome : World → CodeProgram → DataRow → Value → Value → Value → RowOutcome
row_outcome world code row.Identical receiver first second = Answers (truth (same_value receiver first)) world
row_outcome world code row.Equal receiver first second = Answers (truth (same_value receiver first)) world
row_outcome world code row.IsNil receiver first second = Answers (truth (is_nil receiver)) world
row_outcome world code row.NotNil receiver first second = Answers (truth (not (is_nil receiver))) world
row_outcome world code row.KernelObject receiver first second = Answers (Kernel Object) world
row_outcome world code row.DoesNotUnderstand receiver first second = Fails (not_understood world.cells first)
row_outcome world code row.NewObject receiver first second = new_object world
row_outcome world code row.NewArray receiver first second = new_array world first
row_outcome world code row.NilPrint receiver first second = nil_print world
row_outcome world code row.Not receiver first second = Answers (negation receiver) world
row_outcome world code row.BooleanPrint receiver first second = boolean_print world receiver
row_outcome world code row.And receiver first second = unchanged world (conjunction receiver first)
row_outcome world code row.Or receiver first second = unchanged world (disjunction receiver first)
row_outcome world code row.IntegerPrint receiver first second = integer_print world receiver
row_outcome world code row.TextSize receiver first second = Answers (text_size world.cells receiver) world
row_outcome world code row.TextAt receiver first second = unchanged world (text_at world.cells receiver first)
row_outcome world code row.TextCopy receiver first second = text_copy world receiver first second
row_outcome world code row.TextJoin receiver first second = text_join world receiver first
row_outcome world code row.TextEqual receiver first second = Answers (text_equal world.cells receiver first) world
row_outcome world code row.TextLess receiver first second = unchanged world (text_less world.cells receiver first)
row_outcome world code row.TextPrint receiver first second = text_print world receiver
row_outcome world code row.SymbolSize receiver first second = Answers (symbol_size code receiver) world
row_outcome world code row.SymbolText receiver first second = symbol_string world code receiver
row_outcome world code row.SymbolPrint receiver first second = symbol_print world code receiver
row_outcome world code row.SymbolLess receiver first second = unchanged world (symbol_less code receiver first)
row_outcome world code row.ArraySize receiver first second = Answers (array_size world.cells receiver) world
row_outcome world code row.ArrayAt receiver first second = unchanged world (array_at world.cells receiver first)
row_outcome world code row.ArrayPut receiver first second = array_put world receiver first second
row_outcome world code row.MessageSelector receiver first second = Answers (message_selector world.cells receiver) world
row_outcome world code row.MessageArguments receiver first second = Answers (message_arguments world.cells receiver) world

-- the outcome of a row with a list of arguments
abbrev pub datum : World → CodeProgram → DataRow → Value → List Value → RowOutcome
datum world code row receiver args = row_outcome world code row receiver (argument args 0) (argument args 1)
