-- Tests of values, chains, bodies and environments in a heap that needn't be lawful.
use Rattle.std.specs.Prelude.{ℕ, zero, suc, nat_lt, nat_le, List, [], ◌∷◌, length, slice_get, Option, Some, None, Bool, true, false, ◌==◌, ◌&&◌, if◌then◌else◌}
use Rattle.std.specs.Option.{option_map_or}
use Rattle.std.specs.List.{list_any, list_all}
use Rattle.ns_code.specs.declared.program.CodeProgram.{CodeProgram}
use Rattle.ns_code.specs.declared.body.BodyCode.{BodyCode}
use Rattle.ns_code.specs.Selector.{is_selector_number}
use Rattle.ns_code.specs.Soundness.{instance_side}
use Rattle.ns_world.specs.declared.value.Value.{Value}
use Rattle.ns_world.specs.declared.value.Value.TheVariants.{Sym, Kernel, Ref}
use Rattle.ns_world.specs.declared.value.KClass.TheVariants.{Object}
use Rattle.ns_world.specs.Cell.{Cell, ObjectCell, ClassCell}
use Rattle.ns_world.specs.Heap.{Heap, find_cell, is_class, chain_of}
use Rattle.ns_world.specs.Layout.{declaration_of}
use Rattle.ns_world.specs.Lawful.{environment_in}
use Rattle.ns_world.specs.Seek.{is_nil}
use Rattle.ns_world.specs.Starts.{is_receiver}

-- ---- values

-- whether a value is live and no environment
abbrev pub is_live : CodeProgram → Heap → Value → Bool
is_live code heap (Ref at) = is_receiver heap (Ref at)
is_live code heap (Sym sel) = is_selector_number code sel.0
is_live code heap value = true

-- the same of some values
abbrev pub are_live : CodeProgram → Heap → List Value → Bool
are_live code heap values = list_all (is_live code heap) values

-- whether a value refers to that cell
abbrev pub is_ref : ℕ → Value → Bool
is_ref number (Ref at) = at == number
is_ref number value = false

-- ---- chains

-- whether a value is the kernel's class Object
abbrev pub is_object_class : Value → Bool
is_object_class (Kernel Object) = true
is_object_class value = false

-- whether a class has a declaration, and a superclass that is the first of those above it, or the kernel's class Object
-- where there are none
abbrev pub is_link : CodeProgram → List ℕ → Option Cell → Bool
is_link code [] (Some (ClassCell decl base encl holder over)) = nat_lt decl (length code.classes) && is_object_class over
is_link code (class ∷ above) (Some (ClassCell decl base encl holder over)) = nat_lt decl (length code.classes)
is_link code above cell = false

-- the same of all classes of a chain
abbrev pub are_links : CodeProgram → Heap → List ℕ → Bool
are_links code heap [] = true
are_links code heap (class ∷ above) = is_link code above (find_cell heap class) && are_links code heap above

-- whether a class has at most 256 declared classes above it and itself, each made before the one below it
abbrev pub has_chain : CodeProgram → Heap → ℕ → Bool
has_chain code heap class =
    is_class (find_cell heap class) && (nat_le (length (chain_of heap class)) 256 && are_links code heap (chain_of heap class))

-- whether a class stands in the chain of another, which has one
abbrev pub is_in_chain : CodeProgram → Heap → ℕ → ℕ → Bool
is_in_chain code heap class holder = has_chain code heap class && list_any (λ above. above == holder) (chain_of heap class)

-- ---- holders

-- whether a cell is an object with that holder in the chain of its class
abbrev pub is_object_of : CodeProgram → Heap → ℕ → Option Cell → Bool
is_object_of code heap holder (Some (ObjectCell class entries)) = is_in_chain code heap class holder
is_object_of code heap holder cell = false

-- whether a value is one
abbrev pub has_holder : CodeProgram → Heap → ℕ → Value → Bool
has_holder code heap holder (Ref at) = is_object_of code heap holder (find_cell heap at)
has_holder code heap holder value = false

-- whether a value is a class with that holder in its chain
abbrev pub is_class_of : CodeProgram → Heap → ℕ → Value → Bool
is_class_of code heap holder (Ref at) = is_class (find_cell heap at) && is_in_chain code heap at holder
is_class_of code heap holder value = false

-- whether a cell is a class of that declaration
abbrev pub declares : Heap → ℕ → ℕ → Bool
declares heap decl class = is_class (find_cell heap class) && declaration_of heap class == decl

-- whether a self and a holder fit a body
abbrev pub fits_body : CodeProgram → Heap → BodyCode → Value → ℕ → Bool
fits_body code heap body self holder =
    declares heap body.class holder
    && (if body.side == instance_side then has_holder code heap holder self else is_class_of code heap holder self)

-- ---- environments

-- whether an environment fits a body, or nil no body; each body stands in one of a smaller number
abbrev pub fits_environment : ℕ → CodeProgram → Heap → Option ℕ → Value → Bool
fits_environment depth code heap None env = is_nil env
fits_environment zero code heap (Some body) env = false
fits_environment (suc depth) code heap (Some body) (Ref at) =
    option_map_or (λ (e : Value × List Value). option_map_or
    (λ (b : BodyCode). length e.1 == b.locals && fits_environment depth code heap b.parent e.0) (slice_get code.bodies body) false)
    (environment_in (find_cell heap at)) false
fits_environment (suc depth) code heap (Some body) env = false
