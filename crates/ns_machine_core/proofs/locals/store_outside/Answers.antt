use Rattle.std.proofs.Common.{ℕ, length, ap, sym, ◌∙◌, arith}
use Rattle.ns_world.specs.Heap.{open_words_at}
use Rattle.ns_world.specs.World.{WorldView, written}
use Rattle.ns_moves.specs.declared.run.Run.{Run}
use Rattle.ns_moves.specs.Bodies.{is_beside, environment_at}
use Rattle.ns_moves.specs.Control.{in_world}
use Rattle.ns_moves.specs.Locals.{environments_out}
use Rattle.ns_moves.specs.Running.{activation_at, code_of, nowhere}
use Rattle.ns_machine_core.proofs.LocalsDone.{not_taken}
use Rattle.ns_machine_core.proofs.Outside.{locals_open}
use Rattle.ns_machine_core.proofs.locals.store_outside.Goals as goal

pub environment_of-at-requires-clause-way : goal.environment_of-at-requires-clause-way
environment_of-at-requires-clause-way c = c.requires.readable.way c.requires.outside

pub write-requires : goal.write-requires
write-requires c =
    let heap = c.args.run.now.world.world.cells in
    let code = c.args.code.now in
    let out : ℕ = environments_out code c.args.here.body c.args.hops in
    let all = locals_open heap (environment_at heap code (code_of c.args.here) c.args.hops) (c.requires.readable.way c.requires.outside out (omega (arith))) in
    omega (
      arith,
      c.from.ensures,
      c.requires.readable.inside c.requires.outside,
      ap length all,
      ap (λ n. length (open_words_at heap n)) (c.environment_of-at.ensures.number nowhere),
      ap (λ (run : Run). length (open_words_at run.world.world.cells c.environment_of-at.result)) c.environment_of-at.ensures.rest,
    )

pub returns-clause-stored : goal.returns-clause-stored
returns-clause-stored c = λ site rest.
    let world = c.args.run.now.world.world in
    let code = c.args.code.now in
    let at : ℕ = environment_at world.cells code (activation_at site c.args.here) c.args.hops in
    ap (λ (v : WorldView). in_world rest v.world) c.write.ensures
    ∙ (ap (λ (run : Run). in_world rest (written run.world.world c.environment_of-at.result c.from.result c.args.value)) c.environment_of-at.ensures.rest
    ∙ (ap (λ n. in_world rest (written world c.environment_of-at.result n c.args.value)) c.from.ensures
    ∙ (ap (λ n. in_world rest (written world n c.args.index c.args.value)) (c.environment_of-at.ensures.number site)
    ∙ sym (ap (in_world rest) (not_taken (is_beside code (activation_at site c.args.here) c.args.hops) world (written world at c.args.index c.args.value)
    c.requires.outside)))))
