use Rattle.std.proofs.Common.{ℕ, arith, ap}
use Rattle.ns_base.specs.declared.selector.Sel.{Sel}
use Rattle.ns_machine.proofs.Asked.{is_name, has_number}
use Rattle.ns_machine.proofs.asking.selector_named.Goals as goal

abbrev numbered : ℕ → Sel
numbered number = record { 0 = number }

pub returns-then-number-names : goal.returns-then-number-names
returns-then-number-names c = (
  is_name c.args.names.now c.args.name.now (omega (arith, c.if-number-names.true, c.name_number-number.ensures)),
  ap numbered c.name_number-number.ensures,
)

pub returns-else-number-names : goal.returns-else-number-names
returns-else-number-names c = λ has.
    absurd (omega (arith, has_number c.args.names.now c.args.name.now has, c.if-number-names.false, c.name_number-number.ensures))
