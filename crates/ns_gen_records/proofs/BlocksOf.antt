-- The blocks of parts, as they are counted one behind the other.
use Rattle.std.proofs.Common.{◌≡◌, ℕ, ◌+◌, List, ◌∷◌, ◌++◌, length, length-append, arith}
use Rattle.std.specs.Prelude.{Option}
use Rattle.ns_tree.specs.Plain as p
use Rattle.ns_scope.specs.declared.scope.Scope.{Scope}
use Rattle.ns_scope.specs.Bodies as b
use Rattle.ns_gen_draft.specs.Counting as counting
use Rattle.ns_gen_draft.specs.laws.BlockCounts as counts
use Rattle.ns_scope.specs.Bodies.{start_blocks}

pub slots_counted : (scope : Scope) (slots : p.Slots) → length (b.slots_blocks scope slots) ≡ counting.slots_count slots
slots_counted scope slots = counts.slots_counted slots scope

pub message_counted : (scope : Scope) (message : p.Message) → length (b.message_blocks scope message) ≡ counting.message_count message
message_counted scope message = counts.message_counted message scope

pub statements_counted : (scope : Scope) (body : p.Statements) → length (b.statements_blocks scope body) ≡ counting.statements_count body
statements_counted scope body = counts.statements_counted body scope

pub routine_counted : (scope : Scope) (bars : p.Bars) (body : p.Statements) (first middle last : ℕ) →
    middle ≡ first + length (b.bars_blocks scope bars) →
    last ≡ middle + counting.statements_count body → last ≡ first + length (b.bars_blocks scope bars ++ b.statements_blocks scope body)
routine_counted scope bars body first middle last one two =
    omega (one, two, length-append (b.bars_blocks scope bars) (b.statements_blocks scope body), statements_counted scope body, arith)

pub start_counted : (scope : Scope) (clause : Option p.SuperClause) (bars : p.Bars) (body : p.Statements) (first middle last : ℕ) →
    middle ≡ first + length (b.super_blocks scope clause) → last ≡ middle + length (b.bars_blocks scope bars ++ b.statements_blocks scope body) →
    last ≡ first + length (start_blocks scope clause bars body)
start_counted scope clause bars body first middle last one two =
    omega (one, two, length-append (b.super_blocks scope clause) (b.bars_blocks scope bars ++ b.statements_blocks scope body), arith)

pub method_counted : (scope : Scope) (rest : List Scope) (first middle last : ℕ) → middle ≡ first + 1 → last ≡ middle + length rest →
    last ≡ first + length (scope ∷ rest)
method_counted scope rest first middle last one two = omega (one, two, arith)
