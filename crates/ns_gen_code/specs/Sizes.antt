-- Which code is too large.
use Rattle.std.specs.Prelude.{ℕ, length, nat_lt, Bool, Option, Some, None, if◌then◌else◌}
use Rattle.std.specs.List.{list_any}
use Rattle.ns_code.specs.declared.program.CodeProgram.{CodeProgram}
use Rattle.ns_code.specs.declared.body.BodyCode.{BodyCode}
use Rattle.ns_gen_code.specs.declared.size.SizeKind.{SizeKind}
use Rattle.ns_gen_code.specs.declared.size.SizeKind.TheVariants.{Names, Bodies, Code, Height}

-- how many names, bodies and instructions of a body there are at most
abbrev pub most : ℕ
most = 65536

abbrev pub most_height : ℕ
most_height = 1023

abbrev pub is_too_long : BodyCode → Bool
is_too_long body = nat_lt most (length body.instrs)

abbrev pub is_too_high : BodyCode → Bool
is_too_high body = nat_lt most_height body.height

-- the first size that passes its limit
abbrev pub size_fault : CodeProgram → Option SizeKind
size_fault code =
    if nat_lt most (length code.names) then Some Names
    else if nat_lt most (length code.bodies) then Some Bodies
    else if list_any is_too_long code.bodies then Some Code
    else if list_any is_too_high code.bodies then Some Height
    else None
