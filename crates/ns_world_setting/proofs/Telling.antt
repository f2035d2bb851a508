-- What the shape of a cell tells.
use Rattle.std.proofs.Common.{◌≡◌, ℕ, ◌<◌, [], ◌∷◌, List, length, get_or, refl, sym, subst, arith, Option, Some, None, IsSome, All, true, lt-ltb}
use Rattle.std.specs.Option.{option_map_or}
use Rattle.std.proofs.lemmas.List.Elements.{All-nil, All-cons}
use Rattle.ns_code.specs.declared.program.CodeProgram.{CodeProgram}
use Rattle.ns_code.specs.Selector.{is_selector_number}
use Rattle.ns_world.specs.declared.value.Value.{Value}
use Rattle.ns_world.specs.declared.value.Value.TheVariants.{Nil, Ref}
use Rattle.ns_world.specs.declared.cell.NewCell.TheVariants.{Mirror}
use Rattle.ns_world.specs.Cell.{Cell, cell_words, shape_of, ObjectCell, ClassCell, BlockCell, EnvironmentCell, ArrayCell, TextCell, FacetCell, MirrorCell, MessageCell}
use Rattle.ns_world.specs.Heap.{Heap, find_cell, shape_at, words_at}
use Rattle.ns_world.specs.Starts.{is_receiver_cell}
use Rattle.ns_world.specs.Lawful.{IsLive, IsLiveValue, class_of_object}
use Rattle.ns_kdata.specs.Arguments.{is_array, is_array_shape}
use Rattle.ns_world_setting.specs.Program.{program_code}
use Rattle.ns_world_setting.specs.Looking.{is_no_environment, object_words}

-- a cell that is no environment can be a receiver
pub receives : (heap : Heap) (at : ℕ) → IsSome (find_cell heap at) → is_no_environment (shape_at heap at) ≡ true →
    is_receiver_cell (find_cell heap at) ≡ true
receives heap at there e = told (find_cell heap at) there e
  where
    told : (o : Option Cell) → IsSome o → is_no_environment (option_map_or shape_of o (Mirror Nil)) ≡ true → is_receiver_cell o ≡ true
    told None there e = absurd (cc)
    told (Some (ObjectCell class entries)) there e = refl
    told (Some (ClassCell decl base encl holder over)) there e = refl
    told (Some (BlockCell body env home receiver holder)) there e = refl
    told (Some (EnvironmentCell parent locals)) there e = absurd (cc)
    told (Some (ArrayCell items)) there e = refl
    told (Some (TextCell bytes)) there e = refl
    told (Some (FacetCell kind)) there e = refl
    told (Some (MirrorCell mirrored)) there e = refl
    told (Some (MessageCell sel args)) there e = refl

-- an array is no object
pub array_is_no_object : (heap : Heap) (at : ℕ) → is_array heap (Ref at) ≡ true → class_of_object (find_cell heap at) ≡ None
array_is_no_object heap at e = told (find_cell heap at) e
  where
    told : (o : Option Cell) → is_array_shape (option_map_or shape_of o (Mirror Nil)) ≡ true → class_of_object o ≡ None
    told None e = refl
    told (Some (ObjectCell class entries)) e = absurd (cc)
    told (Some (ClassCell decl base encl holder over)) e = refl
    told (Some (BlockCell body env home receiver holder)) e = refl
    told (Some (EnvironmentCell parent locals)) e = refl
    told (Some (ArrayCell items)) e = refl
    told (Some (TextCell bytes)) e = refl
    told (Some (FacetCell kind)) e = refl
    told (Some (MirrorCell mirrored)) e = refl
    told (Some (MessageCell sel args)) e = refl

-- an object has as many words as its shape says
pub words_told : (heap : Heap) (at word : ℕ) → word < object_words (shape_at heap at) → word < length (words_at heap at)
words_told heap at word below = told (find_cell heap at) below
  where
    told : (o : Option Cell) → word < object_words (option_map_or shape_of o (Mirror Nil)) → word < length (option_map_or cell_words o [])
    told None below = absurd (omega (arith, below))
    told (Some (ObjectCell class entries)) below = below
    told (Some (ClassCell decl base encl holder over)) below = absurd (omega (arith, below))
    told (Some (BlockCell body env home receiver holder)) below = absurd (omega (arith, below))
    told (Some (EnvironmentCell parent locals)) below = absurd (omega (arith, below))
    told (Some (ArrayCell items)) below = absurd (omega (arith, below))
    told (Some (TextCell bytes)) below = absurd (omega (arith, below))
    told (Some (FacetCell kind)) below = absurd (omega (arith, below))
    told (Some (MirrorCell mirrored)) below = absurd (omega (arith, below))
    told (Some (MessageCell sel args)) below = absurd (omega (arith, below))

-- up to two live values are a list of them
pub one_live : (heap : Heap) (one : Value) → IsLiveValue heap program_code one → All (IsLiveValue heap program_code) (one ∷ [])
one_live heap one live = All-cons (IsLiveValue heap program_code) one [] live (All-nil (IsLiveValue heap program_code))

pub two_live : (heap : Heap) (one other : Value) → IsLiveValue heap program_code one → IsLiveValue heap program_code other →
    All (IsLiveValue heap program_code) (one ∷ other ∷ [])
two_live heap one other live more = All-cons (IsLiveValue heap program_code) one (other ∷ []) live (one_live heap other more)

-- what is live for the program is so for a code that is equal to it
pub live_for : (heap : Heap) (code : CodeProgram) (value : Value) → code ≡ program_code → IsLiveValue heap program_code value →
    IsLive heap code value
live_for heap code value is live = subst (λ (k : CodeProgram). IsLive heap k value) (sym is) live.0

pub all_live_for : (heap : Heap) (code : CodeProgram) (values : List Value) → code ≡ program_code →
    All (IsLiveValue heap program_code) values → All (IsLive heap code) values
all_live_for heap code values is live = λ k d h. live_for heap code (get_or values k d) is (live k d h)

pub all_values_for : (heap : Heap) (code : CodeProgram) (values : List Value) → code ≡ program_code →
    All (IsLiveValue heap program_code) values → All (IsLiveValue heap code) values
all_values_for heap code values is live = subst (λ (k : CodeProgram). All (IsLiveValue heap k) values) (sym is) live

-- the numbers of the program's names are selectors
pub names_are_selectors : (number : ℕ) → number < 42 → is_selector_number program_code number ≡ true
names_are_selectors number below = rw (lt-ltb number 42 below) refl
