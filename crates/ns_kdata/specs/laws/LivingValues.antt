-- What a row makes or computes is live.
use Rattle.std.proofs.Common.{◌≡◌, ℕ, ◌+◌, ◌∷◌, List, replicate, refl, Some, None, Bool, true, false, cond, pos, int_lt, unsigned_abs, ◌||◌}
use Rattle.std.specs.Prelude.{Result, Ok, Err, IfOk, nat_le}
use Rattle.ns_code.specs.declared.program.CodeProgram.{CodeProgram}
use Rattle.ns_world.specs.declared.value.Value.{Value}
use Rattle.ns_world.specs.declared.value.Value.TheVariants.{Nil, True, False, Int, Sym, Kernel, Ref}
use Rattle.ns_world.specs.declared.ending.Fault.{Fault}
use Rattle.ns_world.specs.Cell.{Cell, cell_size, ArrayCell, TextCell}
use Rattle.ns_world.specs.Heap.{Heap, heap_size}
use Rattle.ns_world.specs.World.{World}
use Rattle.ns_world.specs.Starts.{is_receiver_cell}
use Rattle.ns_world.specs.Lawful.{IsLiveValue}
use Rattle.ns_world.specs.laws.Changing.{found_new}
use Rattle.ns_kdata.specs.declared.arguments.Part.{Part}
use Rattle.ns_kdata.specs.Outcome.{making, made_as, unchanged, Fails, wrong_kind, out_of_range}
use Rattle.ns_kdata.specs.Arguments.{symbol_text}
use Rattle.ns_world.specs.Booleans.{truth}
use Rattle.ns_kdata.specs.Texts.{byte_at_place, copied, bytes_in, is_before}
use Rattle.ns_kdata.specs.Rows.{negation, only_true, conjunction, disjunction, new_array, symbol_less}
use Rattle.ns_kdata.specs.Living.{AnswersLive}

-- booleans are live
pub truth_live : (heap : Heap) (code : CodeProgram) (b : Bool) → IsLiveValue heap code (truth b)
truth_live heap code true = (tt, refl)
truth_live heap code false = (tt, refl)

-- a cell that is made is live, unless it is an environment
pub making_live : (world : World) (code : CodeProgram) (cell : Cell) → is_receiver_cell (Some cell) ≡ true →
    AnswersLive code (making world cell)
making_live world code cell h = tested (nat_le (heap_size world.cells + cell_size cell) world.limits.cells)
  where
    next : World
    next = record world { cells = cell ∷ world.cells }

    here : IsLiveValue next.cells code (Ref (heap_size world.cells))
    here = let f = found_new world.cells cell in (rw f refl, rw f h)

    tested : (b : Bool) → AnswersLive code (made_as (heap_size world.cells) (cond b (Some next) None))
    tested true = here
    tested false = tt

-- A row that changes nothing answers a live value.
pub unchanged_live : (world : World) (code : CodeProgram) (r : Result Value Fault) → IfOk r (λ v. IsLiveValue world.cells code v) →
    AnswersLive code (unchanged world r)
unchanged_live world code (Ok value) h = h
unchanged_live world code (Err fault) h = tt

only_true_live : (heap : Heap) (code : CodeProgram) (value : Value) → IsLiveValue heap code (only_true value)
only_true_live heap code Nil = (tt, refl)
only_true_live heap code True = (tt, refl)
only_true_live heap code False = (tt, refl)
only_true_live heap code (Int number) = (tt, refl)
only_true_live heap code (Sym sel) = (tt, refl)
only_true_live heap code (Kernel class) = (tt, refl)
only_true_live heap code (Ref at) = (tt, refl)

pub negation_live : (heap : Heap) (code : CodeProgram) (value : Value) → IsLiveValue heap code (negation value)
negation_live heap code Nil = (tt, refl)
negation_live heap code True = (tt, refl)
negation_live heap code False = (tt, refl)
negation_live heap code (Int number) = (tt, refl)
negation_live heap code (Sym sel) = (tt, refl)
negation_live heap code (Kernel class) = (tt, refl)
negation_live heap code (Ref at) = (tt, refl)

pub conjunction_live : (heap : Heap) (code : CodeProgram) (receiver value : Value) →
    IfOk (conjunction receiver value) (λ v. IsLiveValue heap code v)
conjunction_live heap code receiver Nil = tt
conjunction_live heap code receiver True = only_true_live heap code receiver
conjunction_live heap code receiver False = (tt, refl)
conjunction_live heap code receiver (Int number) = tt
conjunction_live heap code receiver (Sym sel) = tt
conjunction_live heap code receiver (Kernel class) = tt
conjunction_live heap code receiver (Ref at) = tt

pub disjunction_live : (heap : Heap) (code : CodeProgram) (receiver value : Value) →
    IfOk (disjunction receiver value) (λ v. IsLiveValue heap code v)
disjunction_live heap code receiver Nil = tt
disjunction_live heap code receiver True = (tt, refl)
disjunction_live heap code receiver False = only_true_live heap code receiver
disjunction_live heap code receiver (Int number) = tt
disjunction_live heap code receiver (Sym sel) = tt
disjunction_live heap code receiver (Kernel class) = tt
disjunction_live heap code receiver (Ref at) = tt

pub byte_live : (heap : Heap) (code : CodeProgram) (bytes : List ℕ) (place : Result ℕ Fault) →
    IfOk (byte_at_place bytes place) (λ v. IsLiveValue heap code v)
byte_live heap code bytes (Ok place) = (tt, refl)
byte_live heap code bytes (Err fault) = tt

pub copied_live : (world : World) (code : CodeProgram) (bytes : List ℕ) (part : Result Part Fault) →
    AnswersLive code (copied world bytes part)
copied_live world code bytes (Ok part) = making_live world code (TextCell (bytes_in bytes part)) refl
copied_live world code bytes (Err fault) = tt

pub joined_live : (world : World) (code : CodeProgram) (bytes : List ℕ) (b : Bool) →
    AnswersLive code (cond b (making world (TextCell bytes)) (Fails wrong_kind))
joined_live world code bytes true = making_live world code (TextCell bytes) refl
joined_live world code bytes false = tt

pub equal_live : (heap : Heap) (code : CodeProgram) (b c : Bool) → IsLiveValue heap code (cond b (truth c) (truth false))
equal_live heap code true c = truth_live heap code c
equal_live heap code false c = (tt, refl)

pub less_live : (heap : Heap) (code : CodeProgram) (b c : Bool) →
    IfOk (cond b (Ok (truth c)) (Err wrong_kind)) (λ v. IsLiveValue heap code v)
less_live heap code true c = truth_live heap code c
less_live heap code false c = tt

sized_live : (world : World) (code : CodeProgram) (size : ℕ) (b : Bool) →
    AnswersLive code (cond b (Fails out_of_range) (making world (ArrayCell (replicate size Nil))))
sized_live world code size true = tt
sized_live world code size false = making_live world code (ArrayCell (replicate size Nil)) refl

pub array_live : (world : World) (code : CodeProgram) (size : Value) → AnswersLive code (new_array world size)
array_live world code Nil = tt
array_live world code True = tt
array_live world code False = tt
array_live world code (Int number) = sized_live world code (unsigned_abs number) (int_lt number (pos 0) || int_lt (pos 64000000) number)
array_live world code (Sym sel) = tt
array_live world code (Kernel class) = tt
array_live world code (Ref at) = tt

pub symbols_live : (heap : Heap) (code : CodeProgram) (symbol other : Value) →
    IfOk (symbol_less code symbol other) (λ v. IsLiveValue heap code v)
symbols_live heap code symbol Nil = tt
symbols_live heap code symbol True = tt
symbols_live heap code symbol False = tt
symbols_live heap code symbol (Int number) = tt
symbols_live heap code symbol (Sym sel) = truth_live heap code (is_before (symbol_text code symbol) (symbol_text code (Sym sel)))
symbols_live heap code symbol (Kernel class) = tt
symbols_live heap code symbol (Ref at) = tt
