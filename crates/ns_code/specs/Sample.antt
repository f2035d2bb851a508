-- The parts of small programs, on which definitions and rows are tried.
use Rattle.std.specs.Prelude.{ℕ, List, [], Option, None, true, false}
use Rattle.ns_base.specs.declared.selector.Sel.{Sel}
use Rattle.ns_code.specs.declared.class.ClassCode.{ClassCode}
use Rattle.ns_code.specs.declared.class.SlotCode.{SlotCode}
use Rattle.ns_code.specs.declared.class.NestedCode.{NestedCode}
use Rattle.ns_code.specs.declared.class.MethodCode.{MethodCode}
use Rattle.ns_code.specs.declared.body.BodyCode.{BodyCode}

-- the name of that number
abbrev pub sel : ℕ → Sel
sel number = record { 0 = number }

-- an immutable slot of that name and access
abbrev pub slot_of : ℕ → ℕ → SlotCode
slot_of name access = record { name = sel name; access = access; mutable = false }

-- a mutable one
abbrev pub mutable_slot_of : ℕ → ℕ → SlotCode
mutable_slot_of name access = record { name = sel name; access = access; mutable = true }

-- a method of that selector, access and body
abbrev pub method_of : ℕ → ℕ → ℕ → MethodCode
method_of number access body = record { sel = sel number; access = access; body = body }

-- a class whose factory and whose superclass message are `new`, the name of number 1
abbrev pub class_of : ℕ → Option ℕ → ℕ → List SlotCode → List NestedCode → List MethodCode → List MethodCode → ClassCode
class_of name outer init slots nested methods side_methods =
    record {
      name = sel name;
      outer = outer;
      factory = sel 1;
      params = 0;
      clause = None;
      init = init;
      super_sel = sel 1;
      slots = slots;
      nested = nested;
      methods = methods;
      side_methods = side_methods;
    }

-- a body without instructions, with so many parameters and no other locals
abbrev pub body_of : ℕ → ℕ → ℕ → ℕ → BodyCode
body_of kind side class params =
    record {
      kind = kind;
      side = side;
      class = class;
      parent = None;
      params = params;
      locals = params;
      environment = false;
      height = 0;
      instrs = [];
      places = [];
      local_names = [];
    }
