use Rattle.std.proofs.Common.{ℕ, List, ◌++◌, drop, ap, sym, ◌∙◌, arith}
use Rattle.std.proofs.lemmas.List.{append-nil}
use Rattle.ns_frozen_tables.proofs.Found.{past_end}
use Rattle.ns_frozen_tables.proofs.numbers.numbers_of.Goals as goal

pub returns-then-number-from : goal.returns-then-number-from
returns-then-number-from c =
    c.from_vec.ensures
    ∙ (sym (append-nil c.cells.numbers.items)
    ∙ (ap (λ (rest : List ℕ). c.cells.numbers.items ++ rest)
    (sym (past_end c.cells.number (drop c.cells.place c.args.cells.now) (omega (arith, c.if-number-from.true, c.from.ensures))))
    ∙ c.cells.invariant))
