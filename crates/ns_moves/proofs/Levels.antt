-- The declarations around running code.
use Rattle.std.proofs.Common.{◌≡◌, ℕ, zero, suc, ◌+◌, ◌-◌, ◌≤◌, refl, subst, arith, Option, Some, None}
use Rattle.std.specs.Prelude.{IsSome}
use Rattle.ns_code.specs.declared.program.CodeProgram.{CodeProgram}
use Rattle.ns_moves.specs.Lawful.{outer_of, declaration_at}

outer_there : (code : CodeProgram) (o : Option ℕ) → IsSome (outer_of code o) → IsSome o
outer_there code (Some decl) some = refl
outer_there code None some = absurd (cc)

further_there : (code : CodeProgram) (body more level total : ℕ) → total ≡ more + level → IsSome (declaration_at code body total) →
    IsSome (declaration_at code body level)
further_there code body zero level total is some =
    let same : total ≡ level = omega (arith, is) in subst (λ n. IsSome (declaration_at code body n)) same some
further_there code body (suc more) level total is some =
    let next : total ≡ suc (more + level) = omega (arith, is) in
    further_there code body more level (more + level) refl (outer_there code (declaration_at code body (more + level)) (subst (λ n. IsSome (declaration_at code body n)) next some))

-- where there is one so many levels out, there is one at each level below
pub level_there : (code : CodeProgram) (body level below : ℕ) → below ≤ level → IsSome (declaration_at code body level) →
    IsSome (declaration_at code body below)
level_there code body level below under some =
    let is : level ≡ (level - below) + below = omega (arith, under) in
    further_there code body (level - below) below level is some
