-- What is asked of a frame, part by part.
use Rattle.std.specs.Prelude.{ℕ, ◌+◌, length, slice_get, Bool, false, ◌==◌, ◌&&◌}
use Rattle.std.specs.Option.{option_map_or}
use Rattle.ns_code.specs.declared.program.CodeProgram.{CodeProgram}
use Rattle.ns_code.specs.declared.body.BodyCode.{BodyCode}
use Rattle.ns_world.specs.Heap.{Heap}
use Rattle.ns_world.specs.Layout.{declaration_of}
use Rattle.ns_world.specs.declared.kernel_parts.KMethod.{KMethod}
use Rattle.ns_kcode.specs.declared.state.KState.{KState}
use Rattle.ns_moves.specs.Bodies.{clause_of}
use Rattle.ns_moves.specs.Fitting.{environment_body, locals_beside}
use Rattle.ns_frozen.specs.declared.frame.FrozenFrame.{FrozenFrame}
use Rattle.ns_frozen.specs.Live.{are_live, fits_environment}
use Rattle.ns_frozen.specs.Frames.{Above, is_site, is_state, is_looping, is_under_block, is_number, has_nested}
use Rattle.ns_frozen.specs.Frames as frames

-- whether a frame of a method of the kernel is as it must be
abbrev pub is_good_looping : CodeProgram → Heap → Above → FrozenFrame → KMethod → KState → Bool
is_good_looping code heap above frame method state =
    (is_state code heap method state && is_looping frame state) && (is_under_block above && is_site code frame.site)

-- whether a frame runs a body of that kind
abbrev pub is_running : CodeProgram → Heap → Above → FrozenFrame → ℕ → ℕ → Bool
is_running code heap above frame sort number =
    option_map_or (λ (body : BodyCode). body.kind == sort && frames.is_running code heap above frame number body) (slice_get code.bodies number) false

-- whether a frame has the environment and the locals of its body
abbrev pub has_locals : CodeProgram → Heap → FrozenFrame → ℕ → Bool
has_locals code heap frame number =
    fits_environment (number + 1) code heap (environment_body code number) frame.env && length frame.locals == locals_beside code number

-- whether what a frame holds is live, and its site one of the code
abbrev pub has_live_parts : CodeProgram → Heap → FrozenFrame → Bool
has_live_parts code heap frame = are_live code heap frame.locals && (are_live code heap frame.operands && is_site code frame.site)

-- whether a class has that clause
abbrev pub has_clause : CodeProgram → ℕ → ℕ → Bool
has_clause code body class = is_number body (clause_of code class)

-- whether a clause is that of a class, which is a nested one of a holder's declaration
abbrev pub makes : CodeProgram → Heap → ℕ → ℕ → ℕ → Bool
makes code heap body holder class = has_clause code body class && has_nested code (declaration_of heap holder) class
