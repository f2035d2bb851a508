-- A world in which a charge was made, or whose counters were set, is lawful.
use Rattle.std.proofs.Common.{◌≡◌, ℕ, ◌+◌, ◌-◌, ◌≤◌, List, ◌++◌, length, refl, subst, arith, Some, None, Bool, true, false, cond, length-append}
use Rattle.std.proofs.lemmas.Bool.{leb-true, ltb-true}
use Rattle.std.specs.Prelude.{nat_le, nat_lt}
use Rattle.ns_base.specs.declared.limits.Limits.{Limits}
use Rattle.ns_base.specs.Limits.{InRange}
use Rattle.ns_code.specs.declared.program.CodeProgram.{CodeProgram}
use Rattle.ns_code.specs.Fits.{Fits}
use Rattle.ns_code.specs.Soundness.{has_sound_classes, are_parents_earlier}
use Rattle.ns_world.specs.World.{World, empty_world, stepped, entered, left, printed}
use Rattle.ns_world.specs.Lawful.{IsLawful}

-- other counters and other output, within the limits
recounted : (world : World) (code : CodeProgram) (steps depth : ℕ) (output : List ℕ) → IsLawful world code → steps ≤ world.limits.steps →
    depth ≤ world.limits.depth → length output ≤ world.limits.out →
    IsLawful (record world { steps = steps; depth = depth; output = output }) code
recounted world code steps depth output lawful s d o = record {
  within = record { limits = lawful.within.limits; cells = lawful.within.cells; steps = s; depth = d; out = o };
  ordered = lawful.ordered;
  fits = lawful.fits;
  parents = lawful.parents;
  classes = lawful.classes;
  cells = lawful.cells;
}

-- a charge leaves what it leaves where it fits
charged : (after more : World) (code : CodeProgram) (b : Bool) → (b ≡ true → IsLawful more code) → cond b (Some more) None ≡ Some after →
    IsLawful after code
charged after more code true lawful e = let is : more ≡ after = cc in subst (λ (w : World). IsLawful w code) is (lawful refl)
charged after more code false lawful e = absurd (cc)

-- A step leaves a lawful world lawful.
pub step_keeps : (world after : World) (code : CodeProgram) → IsLawful world code → stepped world ≡ Some after → IsLawful after code
step_keeps world after code lawful e =
    charged after (record world { steps = world.steps + 1 }) code (nat_lt world.steps world.limits.steps)
    (λ t. recounted world code (world.steps + 1) world.depth world.output lawful (omega (arith, ltb-true world.steps world.limits.steps t)) lawful.within.depth lawful.within.out) e

-- A frame that is entered leaves a lawful world lawful.
pub enter_keeps : (world after : World) (code : CodeProgram) → IsLawful world code → entered world ≡ Some after → IsLawful after code
enter_keeps world after code lawful e =
    charged after (record world { depth = world.depth + 1 }) code (nat_lt world.depth world.limits.depth)
    (λ t. recounted world code world.steps (world.depth + 1) world.output lawful lawful.within.steps (omega (arith, ltb-true world.depth world.limits.depth t)) lawful.within.out) e

-- A frame that is left leaves a lawful world lawful.
pub leave_keeps : (world : World) (code : CodeProgram) → IsLawful world code → IsLawful (left world) code
leave_keeps world code lawful =
    recounted world code world.steps (world.depth - 1) world.output lawful lawful.within.steps (omega (arith, lawful.within.depth)) lawful.within.out

-- What is printed leaves a lawful world lawful.
pub print_keeps : (world after : World) (code : CodeProgram) (bytes : List ℕ) → IsLawful world code → printed world bytes ≡ Some after →
    IsLawful after code
print_keeps world after code bytes lawful e =
    charged after (record world { output = world.output ++ bytes }) code (nat_le (length world.output + length bytes) world.limits.out)
    (λ t. recounted world code world.steps world.depth (world.output ++ bytes) lawful lawful.within.steps lawful.within.depth (omega (arith, leb-true (length world.output + length bytes) world.limits.out t, length-append world.output bytes))) e

pub resume_keeps : (world : World) (code : CodeProgram) (steps depth : ℕ) → IsLawful world code → steps ≤ world.limits.steps →
    depth ≤ world.limits.depth → IsLawful (record world { steps = steps; depth = depth }) code
resume_keeps world code steps depth lawful s d = recounted world code steps depth world.output lawful s d lawful.within.out

-- a world without cells
pub empty_is_lawful : (limits : Limits) (code : CodeProgram) → InRange limits → Fits code → are_parents_earlier 0 code.bodies ≡ true →
    has_sound_classes code ≡ true → IsLawful (empty_world limits) code
empty_is_lawful limits code range fits parents classes = record {
  within = record { limits = range; cells = omega arith; steps = omega arith; depth = omega arith; out = omega arith };
  ordered = refl;
  fits = fits;
  parents = parents;
  classes = classes;
  cells = λ number cell e. absurd (cc);
}
