-- The opening of a program of tests, and the tests of the class that it answers.
use Rattle.std.specs.Prelude.{ℕ, List, [], filter, map, slice_get, Option, None, Some, Bool, ◌==◌, ◌&&◌, nat_eq, codes, option_and_then}
use Rattle.std.specs.Prelude.{if◌then◌else◌}
use Rattle.std.specs.List.{starts_with}
use Rattle.std.specs.Str.{bytes_eq}
use Rattle.ns_base.specs.declared.limits.Limits.{Limits}
use Rattle.ns_base.specs.declared.selector.Sel.{Sel}
use Rattle.ns_code.specs.declared.program.CodeProgram.{CodeProgram}
use Rattle.ns_code.specs.declared.class.ClassCode.{ClassCode}
use Rattle.ns_code.specs.declared.class.MethodCode.{MethodCode}
use Rattle.ns_code.specs.Access.{public_access}
use Rattle.ns_code.specs.Selector.{selector_text, text_arity}
use Rattle.ns_world.specs.declared.value.Value.{Value}
use Rattle.ns_world.specs.declared.value.Value.TheVariants.{Ref}
use Rattle.ns_world.specs.Heap.{Heap, find_cell, is_class}
use Rattle.ns_world.specs.Layout.{declaration_of}
use Rattle.ns_moves.specs.State.{State}
use Rattle.ns_run_code.specs.Machine.{begins_with, rested}

-- where the opening comes to rest: a run with what a command grants, and without arguments
abbrev pub opened : CodeProgram → Limits → State
opened code limits = rested code (begins_with code limits [])

-- ---- the class of tests

-- the declaration of a value, where that is a declared class
abbrev pub class_declared : Heap → Value → Option ℕ
class_declared heap (Ref at) = if is_class (find_cell heap at) then Some (declaration_of heap at) else None
class_declared heap value = None

-- a class, where its factory is `new`
abbrev pub with_new : CodeProgram → ClassCode → Option ClassCode
with_new code class = if bytes_eq (selector_text code class.factory.0) (codes "new") then Some class else None

-- the class of that number, where its factory is `new`
abbrev pub class_with_new : CodeProgram → ℕ → Option ClassCode
class_with_new code number = option_and_then (with_new code) (slice_get code.classes number)

-- the class of tests that a value is, if it is one: a declared class whose factory is `new`
abbrev pub tests_class : CodeProgram → Heap → Value → Option ClassCode
tests_class code heap value = option_and_then (class_with_new code) (class_declared heap value)

-- ---- its tests

-- whether a name is a test's: it takes no argument and begins with `test`
abbrev pub names_test : List ℕ → Bool
names_test name = text_arity name == 0 && starts_with nat_eq name (codes "test")

-- whether a method is a test: it is public, and its name is a test's
abbrev pub is_test : CodeProgram → MethodCode → Bool
is_test code method = method.access == public_access && names_test (selector_text code method.sel.0)

-- the tests of a class: those of its own instance side, in the order of the text
abbrev pub tests_of : CodeProgram → ClassCode → List Sel
tests_of code class = map (λ (method : MethodCode). method.sel) (filter (is_test code) class.methods)
