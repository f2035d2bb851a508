-- Which code of a body is too large.
use Rattle.std.specs.Prelude.{if◌then◌else◌}
use Rattle.ns_code.specs.declared.body.BodyCode.{BodyCode}
use Rattle.ns_gen_code.specs.Sizes.{is_too_long, is_too_high}
use Rattle.ns_gen_code.specs.declared.size.SizeKind.TheVariants.{Code, Height}
use Rattle.ns_gen_bodies.specs.declared.finish.Finished.{Finished}
use Rattle.ns_gen_bodies.specs.declared.finish.Finished.TheVariants.{Fits, TooLarge}

-- the code of a body, or what of it is too large
abbrev pub finished : BodyCode → Finished
finished code = if is_too_long code then TooLarge Code else if is_too_high code then TooLarge Height else Fits code
