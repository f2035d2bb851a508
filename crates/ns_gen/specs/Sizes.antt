-- What is too large among bodies, and the bodies that fit.
use Rattle.std.specs.Prelude.{List, [], ◌∷◌, Option, Some, None, if◌then◌else◌}
use Rattle.std.specs.List.{list_any}
use Rattle.ns_code.specs.declared.body.BodyCode.{BodyCode}
use Rattle.ns_gen_code.specs.declared.size.SizeKind.{SizeKind}
use Rattle.ns_gen_code.specs.declared.size.SizeKind.TheVariants.{Code, Height}
use Rattle.ns_gen_code.specs.Sizes.{is_too_long, is_too_high}
use Rattle.ns_gen_bodies.specs.Coding.{Coded, with_kept}
use Rattle.ns_gen_bodies.specs.Finishing.{finished}

-- what of bodies is too large, as it is found in the end
abbrev pub bodies_fault : List BodyCode → Option SizeKind
bodies_fault codes = if list_any is_too_long codes then Some Code else if list_any is_too_high codes then Some Height else None

-- the bodies put one by one
abbrev pub put_codes : List BodyCode → Coded → Coded
put_codes [] before = before
put_codes (code ∷ codes) before = put_codes codes (with_kept before.keeps (finished code) before)
