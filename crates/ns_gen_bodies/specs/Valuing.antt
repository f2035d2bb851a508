-- What is written of expressions whose values are dropped or kept: in the locals of a body, or in the slots of a new object.
use Rattle.std.specs.Prelude.{ℕ, List, [], ◌∷◌}
use Rattle.ns_code.specs.declared.instruction.Instr.{Instr}
use Rattle.ns_code.specs.declared.instruction.Instr.TheVariants as i
use Rattle.ns_resolved.specs.Program as m
use Rattle.ns_gen_code.specs.Code.{does}
use Rattle.ns_gen_draft.specs.Drafts.{Written, with_line}
use Rattle.ns_gen_exprs.specs.Sending.{with_node}
use Rattle.ns_gen_bodies.specs.declared.values.Stores.{Stores}
use Rattle.ns_gen_bodies.specs.declared.values.Stores.TheVariants.{Locals, Slots}

-- with an expression, and an instruction behind it
abbrev pub with_ended : m.Node → Instr → Written → Written
with_ended node end before = with_line (with_node node before) (does end)

-- with a value that a local gets
abbrev pub with_local : ℕ → m.Node → Written → Written
with_local index value before = with_line (with_ended value (i.StoreLocal 0 index) before) (does i.Pop)

-- with a value that a slot gets
abbrev pub with_slot : ℕ → m.Node → Written → Written
with_slot index value before = with_ended value (i.StoreSlot index) before

-- with a value that either gets
abbrev pub with_value : Stores → ℕ → m.Node → Written → Written
with_value Locals index value before = with_local index value before
with_value Slots index value before = with_slot index value before

-- with values that they get
abbrev pub with_values : Stores → List m.First → Written → Written
with_values stores [] before = before
with_values stores (first ∷ others) before = with_values stores others (with_value stores first.index first.value before)
