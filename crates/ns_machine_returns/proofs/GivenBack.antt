-- Depth that is given back for frames.
use Rattle.std.proofs.Common.{◌≡◌, ℕ, zero, suc, ◌+◌, ◌<◌, refl, ap, sym, ◌∙◌, arith}
use Rattle.ns_code.specs.declared.program.CodeProgram.{CodeProgram}
use Rattle.ns_world.specs.Lawful.{IsLawful}
use Rattle.ns_world.specs.World.{World, left}
use Rattle.ns_moves.specs.Control.{Progress, frame_left}
use Rattle.ns_machine_frames.specs.Stated.{parts_ended}

parts_suc : (count : ℕ) (p : Progress) → parts_ended (suc count) p ≡ frame_left (parts_ended count p)
parts_suc zero p = refl
parts_suc (suc count) p = parts_suc count (frame_left p)

pub one_more_ended : (count : ℕ) (first now : Progress) → now ≡ parts_ended count first → frame_left now ≡ parts_ended (count + 1) first
one_more_ended count first now so_far =
    let next : suc count ≡ count + 1 = omega arith in
    ap frame_left so_far ∙ (sym (parts_suc count first) ∙ ap (λ (n : ℕ). parts_ended n first) next)

pub less_depth : (now : World) (count all : ℕ) → now.depth + count ≡ all → 0 < now.depth → (left now).depth + (count + 1) ≡ all
less_depth now count all so_far some = omega (arith, so_far, some)

pub parts_lawful : ((world : World) (code : CodeProgram) → IsLawful world code → IsLawful (left world) code)
    → (code : CodeProgram) (count : ℕ) (p : Progress) → IsLawful p.world code → IsLawful (parts_ended count p).world code
parts_lawful law code zero p lawful = lawful
parts_lawful law code (suc count) p lawful = parts_lawful law code count (frame_left p) (law p.world code lawful)

pub parts_cells : (count : ℕ) (p : Progress) → (parts_ended count p).world.cells ≡ p.world.cells
parts_cells zero p = refl
parts_cells (suc count) p = parts_cells count (frame_left p)
