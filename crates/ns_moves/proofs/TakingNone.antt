-- Actions after which no step was charged, and none was missing.
use Rattle.std.proofs.Common.{◌≡◌, ℕ, List, [], ◌∷◌, refl, ◌∙◌, arith, eqb, Option, Some, None, Bool, true, false, cond}
use Rattle.std.specs.Prelude.{codes}
use Rattle.std.specs.Str.{bytes_eq}
use Rattle.ns_code.specs.declared.program.CodeProgram.{CodeProgram}
use Rattle.ns_code.specs.Selector.{selector_text}
use Rattle.ns_world.specs.declared.value.Value.{Value}
use Rattle.ns_world.specs.declared.value.Value.TheVariants as value
use Rattle.ns_world.specs.declared.ending.Kind.TheVariants.{InitMismatch, DeadReturn}
use Rattle.ns_world.specs.declared.ending.LimitKind.TheVariants.{Depth, Cells}
use Rattle.ns_world.specs.Cell.{Cell}
use Rattle.ns_world.specs.World.{made, entered, left}
use Rattle.ns_world.specs.Layout.{declaration_of}
use Rattle.ns_world.specs.Heap.{find_cell, superclass_in}
use Rattle.ns_classes.specs.declared.apply.MakeFault.{MakeFault}
use Rattle.ns_classes.specs.declared.apply.MakeFault.TheVariants.{NotAClass, KernelSuper, ChainLimit, CellLimit}
use Rattle.ns_classes.specs.Apply.{class_fault, class_cell}
use Rattle.ns_classes.specs.Nested.{kept_class}
use Rattle.ns_moves.specs.declared.site.Site.{Site}
use Rattle.ns_moves.specs.Site.{error}
use Rattle.ns_moves.specs.Control.{Progress, in_world, Activation, Exit, FromMethod, FromBody, FromClause, After, Gives, Halts, PartControl, Skip, Stop, frame_left}
use Rattle.ns_moves.specs.Control.{EnterPart, charged}
use Rattle.ns_moves.specs.Bodies.{initialiser_of, no_home, opened}
use Rattle.ns_moves.specs.Blocks.{new_cell}
use Rattle.ns_moves.specs.Classes.{class_made, keeping, newly_kept, kept_or, factory_selector, super_selector, declared_part, object_part}
use Rattle.ns_moves.specs.Classes.{part_of, super_part, body_ended}
use Rattle.ns_moves.specs.laws.Onward.{charged_all}
use Rattle.ns_moves.specs.laws.Counting.{made_counts, frame_charged, nothing_charged, opened_counts}
use Rattle.ns_moves.specs.State.{Leaving, Loud, Silent, Frame, Running, Looping, Phase, Start, First, Second, Hosted, Ended}
use Rattle.ns_moves.specs.Turn.{is_step_limit}
use Rattle.ns_moves.specs.Returns.{concluded, delivered, settled, returned, is_home, has_home, unwound, returned_home}
use Rattle.ns_moves.specs.Arrivals.{part_arrived}
use Rattle.ns_moves.specs.Charges.{TookNone}

-- an action that gives a value or ends the run
abbrev pub AfterNone : Progress → After → Type 0
AfterNone old (Gives answer next) = next.world.steps ≡ old.world.steps
AfterNone old (Halts ending next) = (next.world.steps ≡ old.world.steps) × (is_step_limit ending ≡ false)

-- ---- a value comes to where it goes

concluded_none : (code : CodeProgram) (phase : Phase) (answer : Value) (old next : Progress) → next.world.steps ≡ old.world.steps
    → TookNone old (concluded code phase answer next)
concluded_none code Start answer old next e = record { steps = e; going = refl }
concluded_none code (First arguments) answer old next e = record { steps = e; going = refl }
concluded_none code Second answer old next e = record { steps = e; going = refl }
concluded_none code Hosted answer old next e = record { steps = e; going = refl }

pub delivered_none : (code : CodeProgram) (phase : Phase) (answer : Value) (frames : List Frame) (old next : Progress) →
    next.world.steps ≡ old.world.steps
    → TookNone old (delivered code phase answer frames next)
delivered_none code phase answer [] old next e = concluded_none code phase answer old next e
delivered_none code phase answer (Running leaving a ls rest stack ∷ frames) old next e = record { steps = e; going = refl }
delivered_none code phase answer (Looping method state site ∷ frames) old next e = record { steps = e; going = refl }

pub settled_none : (code : CodeProgram) (phase : Phase) (after : After) (frames : List Frame) (old : Progress) → AfterNone old after
    → TookNone old (settled code phase after frames)
settled_none code phase (Gives answer next) frames old e = delivered_none code phase answer frames old next e
settled_none code phase (Halts ending next) frames old e = record { steps = e.0; going = e.1 }

-- ---- new cells

pub cell_none : (cell : Cell) (p : Progress) → AfterNone p (new_cell cell p)
cell_none cell p =
    charged_all (AfterNone p) Halts Cells (made p.world cell) p _ (refl, refl) (λ world e. (made_counts p.world world cell e).steps)

-- ---- the end of a body

class_none : (code : CodeProgram) (object holder class : ℕ) (cell : Cell) (fault : Option MakeFault) (site : Site) (old p : Progress)
    → p.world.steps ≡ old.world.steps
    → AfterNone old (class_made cell fault site p (λ number next.
    Gives (value.Ref number) (in_world next (keeping code object holder class number next.world))))
class_none code object holder class cell (Some NotAClass) site old p s = (s, refl)
class_none code object holder class cell (Some KernelSuper) site old p s = (s, refl)
class_none code object holder class cell (Some ChainLimit) site old p s = (s, refl)
class_none code object holder class cell (Some CellLimit) site old p s = (s, refl)
class_none code object holder class cell None site old p s =
    charged_all (AfterNone old) Halts Cells (made p.world cell) p _ (s, refl) (λ world e. (made_counts p.world world cell e).steps ∙ s)

kept_none : (kept : Option ℕ) (new : After) (old p : Progress) → p.world.steps ≡ old.world.steps → AfterNone old new →
    AfterNone old (kept_or kept p new)
kept_none (Some number) new old p s h = s
kept_none None new old p s h = h

pub ended_none : (code : CodeProgram) (exit : Exit) (a : Activation) (answer : Value) (p : Progress) →
    AfterNone p (body_ended code exit a answer p)
ended_none code FromMethod a answer p = refl
ended_none code FromBody a answer p = refl
ended_none code (FromClause object holder class) a answer p =
    let down : Progress = in_world p (left p.world) in
    kept_none (kept_class down.world.cells code object holder class) (newly_kept code object holder class answer a.site down) p down refl
    (class_none code object holder class (class_cell down.world.cells code class (value.Ref object) (value.Ref holder) answer) (class_fault down.world.cells answer) a.site
    p down refl)

pub returned_none : (code : CodeProgram) (phase : Phase) (leaving : Leaving) (a : Activation) (answer : Value) (frames : List Frame) (p : Progress)
    → TookNone p (returned code phase leaving a answer frames p)
returned_none code phase (Loud exit) a answer frames p =
    settled_none code phase (body_ended code exit a answer p) frames p (ended_none code exit a answer p)
returned_none code phase Silent a answer frames p = record { steps = refl; going = refl }

unwound_none : (code : CodeProgram) (phase : Phase) (home : ℕ) (answer : Value) (frames : List Frame) (old p : Progress) →
    p.world.steps ≡ old.world.steps
    → TookNone old (unwound code phase home answer frames p)
unwound_none code phase home answer [] old p e = record { steps = e; going = refl }
unwound_none code phase home answer (frame ∷ frames) old p e = tested (is_home home frame)
    (delivered_none code phase answer frames old (frame_left p) e) (unwound_none code phase home answer frames old (frame_left p) e)
  where
    tested : (b : Bool) → TookNone old (delivered code phase answer frames (frame_left p)) → TookNone old (unwound code phase home answer frames (frame_left p))
        → TookNone old (cond b (delivered code phase answer frames (frame_left p)) (unwound code phase home answer frames (frame_left p)))
    tested true here below = here
    tested false here below = below

pub home_none : (code : CodeProgram) (phase : Phase) (a : Activation) (answer : Value) (frames : List Frame) (p : Progress)
    → TookNone p (returned_home code phase a answer frames p)
home_none code phase a answer frames p = tested (has_home a.home frames)
  where
    tested : (b : Bool) → TookNone p (cond b (unwound code phase a.home answer frames p) (Ended (error DeadReturn a.site) phase p))
    tested true = unwound_none code phase a.home answer frames p p refl
    tested false = record { steps = refl; going = refl }

-- ---- superclass parts

abbrev pub PartNone : Progress → PartControl → Type 0
PartNone old (Skip next) = next.world.steps ≡ old.world.steps
PartNone old (Stop ending next) = (next.world.steps ≡ old.world.steps) × (is_step_limit ending ≡ false)
PartNone old (EnterPart a ls next) = next.world.steps ≡ old.world.steps

object_none : (code : CodeProgram) (a : Activation) (sel : ℕ) (p : Progress) → PartNone p (object_part code a sel p)
object_none code a sel p = tested (bytes_eq (selector_text code sel) (codes "new"))
  where
    tested : (b : Bool) → PartNone p (cond b (Skip p) (Stop (error InitMismatch a.site) p))
    tested true = refl
    tested false = (refl, refl)

declared_none : (code : CodeProgram) (a : Activation) (over sel : ℕ) (arguments : List Value) (p : Progress)
    → PartNone p (declared_part code a over sel arguments p)
declared_none code a over sel arguments p = tested (eqb sel (factory_selector code (declaration_of p.world.cells over)))
  where
    inner : Activation
    inner =
        record { self = a.self; holder = over; body = initialiser_of code (declaration_of p.world.cells over); home = no_home; env = value.Nil; site = a.site }

    tested : (b : Bool)
        → PartNone p (cond b (charged Stop Depth (entered p.world) p (opened code Stop EnterPart inner arguments)) (Stop (error InitMismatch a.site) p))
    tested true =
        charged_all (PartNone p) Stop Depth (entered p.world) p (opened code Stop EnterPart inner arguments) (refl, refl)
        (λ world e. let there = frame_charged 0 p p world (nothing_charged p) e in
        let steps : world.steps ≡ p.world.steps = omega (arith, there.steps) in
        opened_counts (PartNone p) code Stop EnterPart inner arguments (in_world p world) (steps, refl) (λ running locals last same home. same.steps ∙ steps))
    tested false = (refl, refl)

part_of_none : (code : CodeProgram) (a : Activation) (over : Value) (sel : ℕ) (arguments : List Value) (p : Progress)
    → PartNone p (part_of code a over sel arguments p)
part_of_none code a (value.Ref over) sel arguments p = declared_none code a over sel arguments p
part_of_none code a value.Nil sel arguments p = object_none code a sel p
part_of_none code a value.True sel arguments p = object_none code a sel p
part_of_none code a value.False sel arguments p = object_none code a sel p
part_of_none code a (value.Int number) sel arguments p = object_none code a sel p
part_of_none code a (value.Sym name) sel arguments p = object_none code a sel p
part_of_none code a (value.Kernel class) sel arguments p = object_none code a sel p

part_settled : (code : CodeProgram) (phase : Phase) (part : PartControl) (frames : List Frame) (p : Progress) → PartNone p part
    → TookNone p (part_arrived code phase part frames)
part_settled code phase (Skip next) frames p e = record { steps = e; going = refl }
part_settled code phase (Stop ending next) frames p e = record { steps = e.0; going = e.1 }
part_settled code phase (EnterPart a ls next) frames p e = record { steps = e; going = refl }

pub part_none : (code : CodeProgram) (phase : Phase) (a : Activation) (arguments : List Value) (frames : List Frame) (p : Progress)
    → TookNone p (part_arrived code phase (super_part code a arguments p) frames)
part_none code phase a arguments frames p =
    part_settled code phase (super_part code a arguments p) frames p
    (part_of_none code a (superclass_in (find_cell p.world.cells a.holder)) (super_selector code (declaration_of p.world.cells a.holder)) arguments p)
