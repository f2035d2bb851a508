-- The actions of a run stay within a set of cells.
use Rattle.std.proofs.Common.{◌≡◌, ℕ, ◌-◌, List, [], Option, Some, None, Bool, true, false, cond, ap, replicate}
use Rattle.std.specs.Prelude.{◌==◌, codes}
use Rattle.std.specs.Str.{bytes_eq}
use Rattle.ns_code.specs.declared.program.CodeProgram.{CodeProgram}
use Rattle.ns_code.specs.Selector.{selector_text}
use Rattle.ns_world.specs.declared.value.Value.{Value}
use Rattle.ns_world.specs.declared.value.Value.TheVariants.{Nil, True, False, Int, Sym, Kernel, Ref}
use Rattle.ns_world.specs.declared.value.KClass.TheVariants.{Object}
use Rattle.ns_world.specs.declared.ending.Ending.{Ending}
use Rattle.ns_world.specs.declared.ending.Ending.TheVariants.{Limit}
use Rattle.ns_world.specs.declared.ending.Kind.TheVariants as kind
use Rattle.ns_world.specs.declared.ending.LimitKind.TheVariants.{Steps, Cells, Depth}
use Rattle.ns_world.specs.declared.cell.NewCell.{NewCell}
use Rattle.ns_world.specs.declared.cell.NewCell.TheVariants as new
use Rattle.ns_world.specs.Cell.{Cell, ObjectCell, EnvironmentCell}
use Rattle.ns_world.specs.Heap.{heap_size, find_cell, superclass_in, word_at}
use Rattle.ns_world.specs.Layout.{declaration_of, layout_of, entry_word}
use Rattle.ns_world.specs.World.{World, made, stepped, entered, left}
use Rattle.ns_classes.specs.declared.apply.MakeFault.{MakeFault}
use Rattle.ns_classes.specs.Apply.{class_fault, class_cell}
use Rattle.ns_classes.specs.Nested.{kept_in, kept_class, nested_entry}
use Rattle.ns_moves.specs.Control.{Progress, in_world, Activation, Exit, FromMethod, FromBody, FromClause, After, Gives, Halts, Enter, Skip, Stop, EnterPart, halts, charged, frame_left}
use Rattle.ns_moves.specs.Site.{make_fault, error}
use Rattle.ns_moves.specs.declared.site.Site.{Site}
use Rattle.ns_moves.specs.Bodies.{no_home, first_locals, opened, has_environment, locals_of, parameters_of, initialiser_of, clause_of}
use Rattle.ns_moves.specs.Classes.{class_made, mixed, keeping, newly_kept, kept_or, class_over, head, nested, instance, super_selector, factory_selector, declared_part, object_part, part_of, super_part, slot_filled, body_ended}
use Rattle.ns_machine_reach.specs.Within.{HasLater, In, AllIn, NumberIn, CellIn, Kept, ActivationIn, ExitIn, AfterIn, ControlIn, PartIn}
use Rattle.ns_machine_reach.proofs.Cells.{all_append, all_nil}
use Rattle.ns_machine_reach.proofs.Keeping.{NoFacet, faulted, charged_so, stepped_is, entered_is, stepped_kept, entered_kept, left_kept, made_kept, written_kept}
use Rattle.ns_machine_reach.proofs.Reading.{ShapeIn, word_at_in, superclass_is_in}
use Rattle.ns_machine_reach.proofs.Rows.{stored_in}

module _ (Has : ℕ → Type 0) (first : Progress) where
  -- ---- charges

  -- a frame, a step or a cell is charged, or the run halts
  pub step_charged : {A : Type 0} (P : A → Type 0) (stop : Ending → Progress → A) (now : Progress) (go : Progress → A) → Kept Has first now → P (stop (Limit Steps) now)
      → ((next : Progress) → next.world.cells ≡ now.world.cells → Kept Has first next → P (go next)) → P (charged stop Steps (stepped now.world) now go)
  step_charged P stop now go kept stopped goes =
      charged_so P stop Steps (stepped now.world) now go stopped (λ world e. goes (in_world now world) (ap (λ (w : World). w.cells) (stepped_is now.world world e)) (stepped_kept Has first now world e kept))

  pub frame_charged : {A : Type 0} (P : A → Type 0) (stop : Ending → Progress → A) (now : Progress) (go : Progress → A) → Kept Has first now → P (stop (Limit Depth) now)
      → ((next : Progress) → next.world.cells ≡ now.world.cells → Kept Has first next → P (go next)) → P (charged stop Depth (entered now.world) now go)
  frame_charged P stop now go kept stopped goes =
      charged_so P stop Depth (entered now.world) now go stopped (λ world e. goes (in_world now world) (ap (λ (w : World). w.cells) (entered_is now.world world e)) (entered_kept Has first now world e kept))

  pub cell_charged : {A : Type 0} (P : A → Type 0) (stop : Ending → Progress → A) (now : Progress) (cell : Cell) (go : Progress → A) → HasLater Has first.world.cells → Kept Has first now → CellIn Has now.world.cells cell → NoFacet cell
      → P (stop (Limit Cells) now) → ((next : Progress) → Has (heap_size now.world.cells) → Kept Has first next → P (go next)) → P (charged stop Cells (made now.world cell) now go)
  cell_charged P stop now cell go later kept inside plain stopped goes =
      charged_so P stop Cells (made now.world cell) now go stopped
      (λ world e. let m = made_kept Has first now cell world later e inside plain kept in goes (in_world now world) m.0 m.1)

  -- ---- bodies

  pub locals_in : (code : CodeProgram) (body : ℕ) (arguments : List Value) → AllIn Has arguments → AllIn Has (first_locals code body arguments)
  locals_in code body arguments all =
      all_append Has arguments (replicate (locals_of code body - parameters_of code body) Nil) all (all_nil Has (locals_of code body - parameters_of code body))

  pub opened_in : {A : Type 0} (P : A → Type 0) (code : CodeProgram) (stop : Ending → Progress → A) (go : Activation → List Value → Progress → A) (activation : Activation) (arguments : List Value) (now : Progress)
      → HasLater Has first.world.cells → Kept Has first now → ActivationIn Has activation → AllIn Has arguments → P (stop (Limit Cells) now)
      → ((inner : Activation) (locals : List Value) (next : Progress) → ActivationIn Has inner → AllIn Has locals → Kept Has first next → P (go inner locals next))
      → P (opened code stop go activation arguments now)
  opened_in P code stop go activation arguments now later kept a all stopped goes = by (has_environment code activation.body)
    where
      by : (b : Bool) → P (cond b (charged stop Cells (made now.world (EnvironmentCell activation.env (first_locals code activation.body arguments))) now (go (record activation { env = Ref (heap_size now.world.cells) }) [])) (go activation (first_locals code activation.body arguments) now))
      by true =
          cell_charged P stop now (EnvironmentCell activation.env (first_locals code activation.body arguments)) (go (record activation { env = Ref (heap_size now.world.cells) }) []) later kept (a.2, locals_in code activation.body arguments all)
          (λ kind e. absurd (cc (e))) stopped
          (λ next has k. goes (record activation { env = Ref (heap_size now.world.cells) }) [] next (a.0, a.1, has) tt k)
      by false = goes activation (first_locals code activation.body arguments) now a (locals_in code activation.body arguments all) kept

  -- ---- classes

  pub class_made_in : (cell : Cell) (fault : Option MakeFault) (site : Site) (now : Progress) (go : ℕ → Progress → After) → HasLater Has first.world.cells → Kept Has first now → CellIn Has now.world.cells cell → NoFacet cell
      → ((next : Progress) → Has (heap_size now.world.cells) → Kept Has first next → AfterIn Has first (go (heap_size now.world.cells) next)) → AfterIn Has first (class_made cell fault site now go)
  class_made_in cell (Some fault) site now go later kept inside plain goes = (faulted Has (make_fault fault) site, kept)
  class_made_in cell None site now go later kept inside plain goes =
      cell_charged (AfterIn Has first) Halts now cell (go (heap_size now.world.cells)) later kept inside plain (tt, kept) goes

  pub mixed_in : (code : CodeProgram) (shape : NewCell) (over : Value) (site : Site) (now : Progress) → HasLater Has first.world.cells → Kept Has first now → ShapeIn Has shape → In Has over → AfterIn Has first (mixed code shape over site now)
  mixed_in code (new.Class decl base encl holder under) over site now later kept s i =
      class_made_in (class_cell now.world.cells code decl encl holder over) (class_fault now.world.cells over) site now (λ number progress. Gives (Ref number) progress) later kept (s.0, s.1, i) (λ kind e. absurd (cc (e))) (λ next has k. (has, k))
  mixed_in code (new.Object class words) over site now later kept s i = (tt, kept)
  mixed_in code (new.Block body env home receiver holder) over site now later kept s i = (tt, kept)
  mixed_in code (new.Environment parent locals) over site now later kept s i = (tt, kept)
  mixed_in code (new.Array size) over site now later kept s i = (tt, kept)
  mixed_in code (new.Text bytes) over site now later kept s i = (tt, kept)
  mixed_in code (new.Facet facet) over site now later kept s i = (tt, kept)
  mixed_in code (new.Mirror mirrored) over site now later kept s i = (tt, kept)
  mixed_in code (new.Message sel args) over site now later kept s i = (tt, kept)

  newly_kept_in : (code : CodeProgram) (object holder class : ℕ) (over : Value) (site : Site) (now : Progress) → HasLater Has first.world.cells → Kept Has first now → Has object → Has holder → In Has over
      → AfterIn Has first (newly_kept code object holder class over site now)
  newly_kept_in code object holder class over site now later kept o h i =
      class_made_in (class_cell now.world.cells code class (Ref object) (Ref holder) over) (class_fault now.world.cells over) site now
      (λ number progress. Gives (Ref number) (in_world progress (keeping code object holder class number progress.world))) later kept (o, h, i) (λ kind e. absurd (cc (e)))
      (λ next has k. (has, written_kept Has first next object (entry_word next.world.cells code holder (nested_entry code (declaration_of next.world.cells holder) class)) (Ref (heap_size now.world.cells)) k o has))

  -- the class that an object keeps
  number_kept : (value : Value) → In Has value → NumberIn Has (kept_in value)
  number_kept (Ref class) i = i
  number_kept Nil i = tt
  number_kept True i = tt
  number_kept False i = tt
  number_kept (Int number) i = tt
  number_kept (Sym sel) i = tt
  number_kept (Kernel class) i = tt

  pub kept_class_in : (code : CodeProgram) (now : Progress) (object holder class : ℕ) → Kept Has first now → Has object → NumberIn Has (kept_class now.world.cells code object holder class)
  kept_class_in code now object holder class kept o =
      let word = entry_word now.world.cells code holder (nested_entry code (declaration_of now.world.cells holder) class) in
      number_kept (word_at now.world.cells object word) (word_at_in Has now.world.cells object word kept.closed o)

  pub class_over_in : (code : CodeProgram) (object holder class : ℕ) (over : Value) (site : Site) (now : Progress) → HasLater Has first.world.cells → Kept Has first now → Has object → Has holder → In Has over
      → AfterIn Has first (class_over code object holder class over site now)
  class_over_in code object holder class over site now later kept o h i =
      by (kept_class now.world.cells code object holder class) (kept_class_in code now object holder class kept o)
    where
      by : (k : Option ℕ) → NumberIn Has k → AfterIn Has first (kept_or k now (newly_kept code object holder class over site now))
      by (Some class') k = (k, kept)
      by None k = newly_kept_in code object holder class over site now later kept o h i

  head_in : (code : CodeProgram) (object holder class : ℕ) (clause : Option ℕ) (site : Site) (now : Progress) → HasLater Has first.world.cells → Kept Has first now → Has object → Has holder
      → ControlIn Has first (head code object holder class clause site now)
  head_in code object holder class None site now later kept o h = class_over_in code object holder class (Kernel Object) site now later kept o h tt
  head_in code object holder class (Some clause) site now later kept o h =
      frame_charged (ControlIn Has first) halts now
      (opened code halts (Enter (FromClause object holder class)) (record { self = Ref object; holder = holder; body = clause; home = no_home; env = Nil; site = site }) []) kept (tt, kept)
      (λ next same k. opened_in (ControlIn Has first) code halts (Enter (FromClause object holder class)) (record { self = Ref object; holder = holder; body = clause; home = no_home; env = Nil; site = site }) [] next later k (o, h, tt) tt (tt, k)
      (λ inner locals last a all z. ((o, h), a, all, z)))

  pub nested_in_set : (code : CodeProgram) (object holder class : ℕ) (kept_one : Option ℕ) (site : Site) (now : Progress) → HasLater Has first.world.cells → Kept Has first now → Has object → Has holder → NumberIn Has kept_one
      → ControlIn Has first (nested code object holder class kept_one site now)
  nested_in_set code object holder class (Some one) site now later kept o h k = (k, kept)
  nested_in_set code object holder class None site now later kept o h k = head_in code object holder class (clause_of code class) site now later kept o h

  -- ---- instances and superclass parts

  pub instance_in : (code : CodeProgram) (class : ℕ) (arguments : List Value) (site : Site) (now : Progress) → HasLater Has first.world.cells → Kept Has first now → Has class → AllIn Has arguments
      → ControlIn Has first (instance code class arguments site now)
  instance_in code class arguments site now later kept c all =
      cell_charged (ControlIn Has first) halts now (ObjectCell class (replicate (layout_of now.world.cells code class) Nil))
      (opened code halts (Enter FromBody)
      (record { self = Ref (heap_size now.world.cells); holder = class; body = initialiser_of code (declaration_of now.world.cells class); home = no_home; env = Nil; site = site }) arguments) later kept
      (c, all_nil Has (layout_of now.world.cells code class)) (λ kind e. absurd (cc (e))) (tt, kept)
      (λ next has k. opened_in (ControlIn Has first) code halts (Enter FromBody)
      (record { self = Ref (heap_size now.world.cells); holder = class; body = initialiser_of code (declaration_of now.world.cells class); home = no_home; env = Nil; site = site }) arguments next later k (has, c, tt) all (tt, k)
      (λ inner locals last a l z. (tt, a, l, z)))

  declared_part_in : (code : CodeProgram) (activation : Activation) (over sel : ℕ) (arguments : List Value) (now : Progress) → HasLater Has first.world.cells → Kept Has first now → ActivationIn Has activation → Has over → AllIn Has arguments
      → PartIn Has first (declared_part code activation over sel arguments now)
  declared_part_in code activation over sel arguments now later kept a o all = by (sel == factory_selector code (declaration_of now.world.cells over))
    where
      by : (b : Bool) → PartIn Has first (cond b (charged Stop Depth (entered now.world) now
          (opened code Stop EnterPart (record { self = activation.self; holder = over; body = initialiser_of code (declaration_of now.world.cells over); home = no_home; env = Nil; site = activation.site }) arguments))
          (Stop (error kind.InitMismatch activation.site) now))
      by true =
          frame_charged (PartIn Has first) Stop now
          (opened code Stop EnterPart (record { self = activation.self; holder = over; body = initialiser_of code (declaration_of now.world.cells over); home = no_home; env = Nil; site = activation.site }) arguments) kept (tt, kept)
          (λ next same k. opened_in (PartIn Has first) code Stop EnterPart (record { self = activation.self; holder = over; body = initialiser_of code (declaration_of now.world.cells over); home = no_home; env = Nil; site = activation.site }) arguments next later k (a.0, o, tt) all (tt, k)
          (λ inner locals last b l z. (b, l, z)))
      by false = (tt, kept)

  object_part_in : (code : CodeProgram) (activation : Activation) (sel : ℕ) (now : Progress) → Kept Has first now → PartIn Has first (object_part code activation sel now)
  object_part_in code activation sel now kept = by (bytes_eq (selector_text code sel) (codes "new"))
    where
      by : (b : Bool) → PartIn Has first (cond b (Skip now) (Stop (error kind.InitMismatch activation.site) now))
      by true = kept
      by false = (tt, kept)

  pub super_part_in : (code : CodeProgram) (activation : Activation) (arguments : List Value) (now : Progress) → HasLater Has first.world.cells → Kept Has first now → ActivationIn Has activation → AllIn Has arguments
      → PartIn Has first (super_part code activation arguments now)
  super_part_in code activation arguments now later kept a all =
      by (superclass_in (find_cell now.world.cells activation.holder)) (superclass_is_in Has now.world.cells activation.holder kept.closed a.1)
    where
      by : (over : Value) → In Has over → PartIn Has first (part_of code activation over (super_selector code (declaration_of now.world.cells activation.holder)) arguments now)
      by (Ref over) i = declared_part_in code activation over (super_selector code (declaration_of now.world.cells activation.holder)) arguments now later kept a i all
      by Nil i = object_part_in code activation (super_selector code (declaration_of now.world.cells activation.holder)) now kept
      by True i = object_part_in code activation (super_selector code (declaration_of now.world.cells activation.holder)) now kept
      by False i = object_part_in code activation (super_selector code (declaration_of now.world.cells activation.holder)) now kept
      by (Int number) i = object_part_in code activation (super_selector code (declaration_of now.world.cells activation.holder)) now kept
      by (Sym name) i = object_part_in code activation (super_selector code (declaration_of now.world.cells activation.holder)) now kept
      by (Kernel class) i = object_part_in code activation (super_selector code (declaration_of now.world.cells activation.holder)) now kept

  pub slot_filled_in : (code : CodeProgram) (activation : Activation) (slot : ℕ) (value : Value) (now : Progress) → Kept Has first now → ActivationIn Has activation → In Has value → Kept Has first (slot_filled code activation slot value now)
  slot_filled_in code activation slot value now kept a i = stored_in Has first now activation.self (entry_word now.world.cells code activation.holder slot) value kept a.0 i

  -- ---- the end of a body

  pub body_ended_in : (code : CodeProgram) (exit : Exit) (activation : Activation) (value : Value) (now : Progress) → HasLater Has first.world.cells → Kept Has first now → ExitIn Has exit → In Has value
      → AfterIn Has first (body_ended code exit activation value now)
  body_ended_in code FromMethod activation value now later kept x i = (i, left_kept Has first now kept)
  body_ended_in code FromBody activation value now later kept x i = (i, left_kept Has first now kept)
  body_ended_in code (FromClause object holder class) activation value now later kept x i =
      class_over_in code object holder class value activation.site (in_world now (left now.world)) later (left_kept Has first now kept) x.0 x.1 i

  pub part_ended_in : (now : Progress) → Kept Has first now → Kept Has first (frame_left now)
  part_ended_in now kept = left_kept Has first now kept
