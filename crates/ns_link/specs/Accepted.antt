-- Which programs get code.
use Rattle.std.specs.Prelude.{◌≡◌, None}
use Rattle.ns_scope.specs.declared.program.Program.{Program}
use Rattle.ns_scope.specs.Whole.{IsWhole}
use Rattle.ns_static.specs.Check.{IsFaultless}
use Rattle.ns_resolved.specs.Classes.{meant}
use Rattle.ns_gen_code.specs.Code.{code_of}
use Rattle.ns_gen_code.specs.Sizes.{size_fault}

-- A whole program without static faults, the sizes of whose code are within their limits.
pub record IsAccepted (program : Program) : Type 0 where
  pub whole : IsWhole program
  pub faultless : IsFaultless program
  pub small : size_fault (code_of (meant program)) ≡ None
