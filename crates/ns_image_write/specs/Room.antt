-- What writing asks of a body: its counts and its parent's number fit their fields.
use Rattle.std.specs.Prelude.{◌-◌, ◌<◌, ◌^◌, length, All}
use Rattle.std.specs.Option.{ForSome}
use Rattle.ns_code.specs.declared.body.BodyCode.{BodyCode}
use Rattle.ns_code.specs.Fits.{IsWord, IsShort}

pub record ImageHasRoom (body : BodyCode) : Type 0 where
  pub parent : ForSome body.parent (λ k. k < 2 ^ 32 - 1)
  pub instr_count : IsWord (length body.instrs)
  pub local_names : All IsShort body.local_names
  pub place_count : IsWord (length body.places)
