use Rattle.std.proofs.Common.{ℕ, length, ap, sym, ◌∙◌, arith, slice_index_or}
use Rattle.ns_world.specs.declared.value.Value.TheVariants.{Nil}
use Rattle.ns_world.specs.Heap.{words_at, word_at}
use Rattle.ns_moves.specs.Bodies.{is_beside, environment_at}
use Rattle.ns_moves.specs.declared.run.Run.{Run}
use Rattle.ns_moves.specs.Running.{activation_at, nowhere}
use Rattle.ns_machine_frames.specs.Standing.{locals_in}
use Rattle.ns_machine_frames.specs.Stack.{stood}
use Rattle.ns_machine_core.proofs.LocalsDone.{not_taken}
use Rattle.ns_machine_core.proofs.locals.local.Goals as goal

pub environment_of-environment-requires-clause-way : goal.environment_of-environment-requires-clause-way
environment_of-environment-requires-clause-way c =
    c.requires.there.outside.way (sym (c.stands_beside.ensures nowhere) ∙ c.if-stands_beside.false)

pub read-requires : goal.read-requires
read-requires c =
    let heap = c.args.run.now.world.world.cells in
    omega (
      arith,
      c.from-2.ensures,
      c.requires.there.outside.inside (sym (c.stands_beside.ensures nowhere) ∙ c.if-stands_beside.false),
      ap (λ n. length (words_at heap n)) (c.environment_of-environment.ensures.number nowhere),
      ap (λ (run : Run). length (words_at run.world.world.cells c.environment_of-environment.result)) c.environment_of-environment.ensures.rest,
    )

pub returns-clause-value : goal.returns-clause-value
returns-clause-value c site =
    let heap = c.args.run.now.world.world.cells in
    let code = c.args.code.now in
    let at : ℕ = environment_at heap code (activation_at site c.args.here) c.args.hops in
    c.read.ensures
    ∙ (ap (λ (run : Run). word_at run.world.world.cells c.environment_of-environment.result c.from-2.result) c.environment_of-environment.ensures.rest
    ∙ (ap (word_at heap c.environment_of-environment.result) c.from-2.ensures
    ∙ (ap (λ n. word_at heap n c.args.index) (c.environment_of-environment.ensures.number site)
    ∙ sym (not_taken (is_beside code (activation_at site c.args.here) c.args.hops)
    (slice_index_or (locals_in (stood c.args.stack.now c.args.at)) c.args.index Nil) (word_at heap at c.args.index)
    (sym (c.stands_beside.ensures site) ∙ c.if-stands_beside.false)))))
