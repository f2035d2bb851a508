-- What holds of where operands lead.
use Rattle.std.proofs.Common.{ℕ, zero, suc, List, [], ◌∷◌}
use Rattle.ns_world.specs.declared.value.Value.{Value}
use Rattle.ns_moves.specs.State.{State}
use Rattle.ns_moves.specs.Operands.{on_top, taken_off, picked}

-- What holds of each state to which the topmost operand leads holds where it is taken.
pub on_top_all : (P : State → Type 0) (missing : State) (stack : List Value) (go : Value → List Value → State) → P missing
    → ((v : Value) (below : List Value) → P (go v below)) → P (on_top missing stack go)
on_top_all P missing [] go m g = m
on_top_all P missing (v ∷ below) go m g = g v below

-- What holds of each state to which operands lead holds where they are taken.
pub taken_all : (P : State → Type 0) (missing : State) (count : ℕ) (values stack : List Value) (go : List Value → List Value → State) →
    P missing
    → ((vs below : List Value) → P (go vs below)) → P (taken_off missing count values stack go)
taken_all P missing zero values stack go m g = g values stack
taken_all P missing (suc count) values [] go m g = m
taken_all P missing (suc count) values (v ∷ stack) go m g = taken_all P missing count (v ∷ values) stack go m g

-- What holds of each state to which an operand leads holds where one is picked.
pub picked_all : (P : State → Type 0) (missing : State) (place : ℕ) (stack : List Value) (go : Value → State) → P missing →
    ((v : Value) → P (go v))
    → P (picked missing place stack go)
picked_all P missing place [] go m g = m
picked_all P missing zero (v ∷ stack) go m g = g v
picked_all P missing (suc place) (v ∷ stack) go m g = picked_all P missing place stack go m g
