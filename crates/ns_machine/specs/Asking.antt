-- What a host may ask a machine for, by the name of a selector.
use Rattle.std.specs.Prelude.{◌≡◌, ℕ, ◌≤◌, List, length, IsTrue, All, Contains}
use Rattle.ns_base.specs.declared.selector.Sel.{Sel}
use Rattle.ns_code.specs.declared.program.CodeProgram.{CodeProgram}
use Rattle.ns_code.specs.Selector.{text_arity, name_number}
use Rattle.ns_world.specs.declared.value.Value.{Value}
use Rattle.ns_world.specs.Lawful.{IsLiveValue}
use Rattle.ns_moves.specs.State.{State, is_idle, world_of}

-- the selector of a name: its number among the names of the code, where it is one of them
abbrev pub named : CodeProgram → List ℕ → Sel
named code name = record { 0 = name_number code.names 0 name (length code.names) }

-- The code has the name, which takes so many arguments; and they are at most 255.
pub record HasSelector (code : CodeProgram) (name : List ℕ) (count : ℕ) : Type 0 where
  pub has_name : Contains code.names name
  pub arity : text_arity name ≡ count
  pub few : count ≤ 255

-- A host may ask a machine that is idle, of a live value, with live arguments, by a name of the code that takes as many.
pub record MayAsk (code : CodeProgram) (state : State) (receiver : Value) (name : List ℕ) (arguments : List Value) : Type 0 where
  pub idle : IsTrue (is_idle state)
  pub live : IsLiveValue (world_of state).cells code receiver
  pub all_live : All (IsLiveValue (world_of state).cells code) arguments
  pub selector : HasSelector code name (length arguments)
