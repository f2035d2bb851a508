-- The locals and the environment with which a body begins.
use Rattle.std.proofs.Common.{◌≡◌, ℕ, suc, ◌-◌, ◌≤◌, List, [], length, replicate, slice_get, refl, ap, sym, ◌∙◌, subst, arith, Option, Some, None, true, false, cond, ◌≢◌}
use Rattle.std.proofs.lemmas.List.{length-append, length-replicate}
use Rattle.std.specs.Prelude.{IsSome}
use Rattle.std.specs.Option.{option_map_or}
use Rattle.ns_code.specs.declared.program.CodeProgram.{CodeProgram}
use Rattle.ns_code.specs.declared.body.BodyCode.{BodyCode}
use Rattle.ns_code.specs.Soundness.{block_kind}
use Rattle.ns_world.specs.declared.value.Value.{Value}
use Rattle.ns_world.specs.declared.value.Value.TheVariants.{Nil, Ref}
use Rattle.ns_world.specs.Cell.{EnvironmentCell}
use Rattle.ns_world.specs.Heap.{Heap, heap_size, find_cell}
use Rattle.ns_world.specs.World.{World, made}
use Rattle.ns_world.specs.Lawful.{FitsEnvironment, environment_in, parent_of}
use Rattle.ns_moves.specs.Bodies.{has_environment, first_locals, parameters_of, locals_of}
use Rattle.ns_moves.specs.Fitting.{kind_of, StandsWell, locals_beside, environment_body}
use Rattle.ns_moves.specs.lemmas.LawfulBodies.{new_found}

-- ---- what stands around a body

-- The environment around a body fits its parent.
abbrev pub FitsAround : Heap → CodeProgram → ℕ → Value → Type 0
FitsAround heap code body env = (depth : ℕ) → body ≤ depth → FitsEnvironment depth heap code (parent_of code body) env

-- a body that is no block has nothing around it
pub nothing_around : (heap : Heap) (code : CodeProgram) (body kind : ℕ) → kind_of code body ≡ kind → kind ≢ block_kind →
    StandsWell code body → FitsAround heap code body Nil
nothing_around heap code body kind is other stands =
    λ depth deep. subst (λ o. FitsEnvironment depth heap code o Nil) (sym (stands.alone (λ e. other (sym is ∙ e)))) refl

-- ---- the beginning of a body

-- A body began: all of its locals stand beside it where it has no environment, and in that where it has one.
pub record IsOpened (heap : Heap) (code : CodeProgram) (body : ℕ) (around : Value) (arguments : List Value) (env : Value) (locals : List Value) : Type 0 where
  pub beside : length arguments ≡ parameters_of code body → StandsWell code body → length locals ≡ locals_beside code body
  pub environment : length arguments ≡ parameters_of code body → StandsWell code body → FitsAround heap code body around → FitsEnvironment (suc body) heap code (environment_body code body) env

-- a body has all of its locals
all_locals : (code : CodeProgram) (body : ℕ) (arguments : List Value) → length arguments ≡ parameters_of code body → StandsWell code body →
    length (first_locals code body arguments) ≡ locals_of code body
all_locals code body arguments count stands =
    let more = locals_of code body - parameters_of code body in
    omega (arith, length-append arguments (replicate more Nil), length-replicate more Nil, count, stands.parameters)

has_body : (o : Option BodyCode) → option_map_or (λ (b : BodyCode). b.environment) o false ≡ true → IsSome o
has_body (Some body) t = refl
has_body None t = absurd (cc)

-- without an environment
pub opened_bare : (heap : Heap) (code : CodeProgram) (body : ℕ) (around : Value) (arguments : List Value) →
    has_environment code body ≡ false → IsOpened heap code body around arguments around (first_locals code body arguments)
opened_bare heap code body around arguments b = record {
  beside = λ count stands. rw b (all_locals code body arguments count stands);
  environment = λ count stands outer. subst (λ c. FitsEnvironment (suc body) heap code (cond c (Some body) (parent_of code body)) around) (sym b) (outer (suc body) (omega arith));
}

-- with one, which was just made
pub opened_over : (code : CodeProgram) (old new : World) (body : ℕ) (around : Value) (arguments : List Value) →
    has_environment code body ≡ true → made old (EnvironmentCell around (first_locals code body arguments)) ≡ Some new
    → IsOpened new.cells code body around arguments (Ref (heap_size old.cells)) []
opened_over code old new body around arguments b made_is = record {
  beside = λ count stands. rw b refl;
  environment = λ count stands outer. subst (λ c. FitsEnvironment (suc body) new.cells code (cond c (Some body) (parent_of code body)) (Ref fresh)) (sym b) (own count stands outer);
}
  where
    fresh : ℕ
    fresh = heap_size old.cells

    locals : List Value
    locals = first_locals code body arguments

    there : environment_in (find_cell new.cells fresh) ≡ Some (around, locals)
    there = ap environment_in (new_found old new (EnvironmentCell around locals) made_is)

    own : length arguments ≡ parameters_of code body → StandsWell code body → FitsAround new.cells code body around → FitsEnvironment (suc body) new.cells code (Some body) (Ref fresh)
    own count stands outer = (
      λ e g b c.
          let both : Some (around, locals) ≡ Some e = sym there ∙ g in
          let same : (around, locals) ≡ e = cc in
          let many : length locals ≡ b.locals = all_locals code body arguments count stands ∙ ap (λ o. option_map_or (λ (b : BodyCode). b.locals) o 0) c in
          let parent : parent_of code body ≡ b.parent = ap (λ o. option_map_or (λ (b : BodyCode). b.parent) o None) c in
          let fits : FitsEnvironment body new.cells code b.parent around = subst (λ o. FitsEnvironment body new.cells code o around) parent (outer body (omega arith)) in
          subst (λ x. (length x.1 ≡ b.locals) × FitsEnvironment body new.cells code b.parent x.0) same (many, fits),
      rw there refl,
      has_body (slice_get code.bodies body) b,
    )
