-- Bodies without their code.
use Rattle.std.specs.Prelude.{[]}
use Rattle.ns_code.specs.declared.body.BodyCode.{BodyCode}

-- a body without its instructions
abbrev pub head_of : BodyCode → BodyCode
head_of body = record body { height = 0; instrs = []; places = [] }
