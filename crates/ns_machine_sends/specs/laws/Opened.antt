-- Bodies that are opened where the limits have room for them.
use Rattle.std.proofs.Common.{◌≡◌, ◌∙◌, ◌+◌, ◌-◌, ◌<◌, ◌≤◌, ℕ, suc, List, [], ◌∷◌, length, replicate, ap, sym, subst, refl, arith}
use Rattle.std.proofs.Common.{Bool, true, false, cond, Option, Some, None}
use Rattle.std.specs.Prelude.{if◌then◌else◌}
use Rattle.std.proofs.lemmas.Bool.{eq-eqb, le-leb, lt-ltb}
use Rattle.std.proofs.lemmas.List.{length-append, length-replicate}
use Rattle.ns_code.specs.declared.program.CodeProgram.{CodeProgram}
use Rattle.ns_world.specs.declared.ending.LimitKind.TheVariants.{Cells, Depth, Steps}
use Rattle.ns_world.specs.declared.ending.Kind.TheVariants.{WrongArity}
use Rattle.ns_world.specs.declared.value.Value.{Value}
use Rattle.ns_world.specs.declared.value.Value.TheVariants.{Nil, Ref}
use Rattle.ns_world.specs.Cell.{Cell, EnvironmentCell, cell_size}
use Rattle.ns_world.specs.Heap.{heap_size}
use Rattle.ns_world.specs.World.{World, entered, made, stepped}
use Rattle.ns_moves.specs.declared.control.Exit.TheVariants as exit
use Rattle.ns_moves.specs.declared.control.Given.TheVariants as given
use Rattle.ns_moves.specs.declared.control.Reached.TheVariants as reached
use Rattle.ns_moves.specs.declared.site.Site.{Site}
use Rattle.ns_moves.specs.Bodies.{opened, parameters_of}
use Rattle.ns_moves.specs.Blocks.{block_entered}
use Rattle.ns_moves.specs.Control.{Activation, Control, Enter, FromBody, FromMethod, Progress, charged, fails, halts, in_world}
use Rattle.ns_moves.specs.Sends.{Listed, method_entered, one_more}
use Rattle.ns_moves.specs.Shown.{reached_shown}
use Rattle.ns_moves.specs.declared.running.Running.{Running}
use Rattle.ns_machine_frames.specs.declared.calls.BodyShape.{BodyShape}
use Rattle.ns_machine_core.specs.Arriving.{shape_of}
use Rattle.ns_machine_core.specs.laws.Charged.{step_is}
use Rattle.ns_machine_sends.specs.Opening.{CellsFit, ChargesAndOpens, HasRoomFor, OpensBody, locals_in}
use Rattle.ns_machine_sends.specs.Blocks.{block_of}

-- ---- what fits

-- A frame below the limit on depth is charged,
pub depth_fits : (world : World) → world.depth < world.limits.depth → entered world ≡ Some (record world { depth = world.depth + 1 })
depth_fits world low =
    ap (λ (b : Bool). if b then Some (let w : World = record world { depth = world.depth + 1 } in w) else None) (lt-ltb world.depth world.limits.depth low)

-- a cell for which there is room is made,
cell_fits : (world : World) (cell : Cell) → heap_size world.cells + cell_size cell ≤ world.limits.cells →
    made world cell ≡ Some (record world { cells = cell ∷ world.cells })
cell_fits world cell low =
    ap (λ (b : Bool). if b then Some (let w : World = record world { cells = cell ∷ world.cells } in w) else None)
    (le-leb (heap_size world.cells + cell_size cell) world.limits.cells low)

-- as many locals as the arguments and the nils behind them
locals_many : (shape : BodyShape) (arguments : List Value) → length (locals_in shape arguments) ≡ length arguments + (shape.locals - shape.params)
locals_many shape arguments =
    length-append arguments (replicate (shape.locals - shape.params) Nil)
    ∙ ap (λ n. length arguments + n) (length-replicate (shape.locals - shape.params) Nil)

-- and so is the environment of a body with so many arguments.
pub own_fits : (world : World) (shape : BodyShape) (around : Value) (arguments : List Value) → CellsFit world shape (length arguments)
    → made world (EnvironmentCell around (locals_in shape arguments))
    ≡ Some (record world { cells = EnvironmentCell around (locals_in shape arguments) ∷ world.cells })
own_fits world shape around arguments room =
    cell_fits world (EnvironmentCell around (locals_in shape arguments))
    (subst (λ (n : ℕ). heap_size world.cells + (1 + n) ≤ world.limits.cells) (sym (locals_many shape arguments)) room)

-- ---- how a body opens

module _ (around : Value) (arguments : List Value) (old : World) (go : Activation → List Value → Progress → Control)
    (activation : Activation) (rest : Progress) where
  -- a body of that shape begins, by whether it has an environment of its own, and by the world in which that is made
  abbrev begun : BodyShape → Bool → Option World → Control
  begun shape own world =
      cond own (charged halts Cells world (in_world rest old) (go (record activation { env = Ref (heap_size old.cells) }) []))
      (go activation (locals_in shape arguments) (in_world rest old))

  -- where it goes on in an environment and a world
  abbrev on : BodyShape → Bool → Value → World → Control
  on shape own env new = go (record activation { env = env }) (if own then [] else locals_in shape arguments) (in_world rest new)

  bare : (shape : BodyShape) (own : Bool) → own ≡ false → activation.env ≡ around → (world : Option World)
      → begun shape own world ≡ on shape own around old
  bare shape true none is world = absurd (cc)
  bare shape false none is world = ap (λ (env : Value). go (record activation { env = env }) (locals_in shape arguments) (in_world rest old)) is

  over : (shape : BodyShape) (new : World) (number : ℕ) → number ≡ heap_size old.cells → (own : Bool) → own ≡ true → (world : Option World)
      → world ≡ Some new → begun shape own world ≡ on shape own (Ref number) new
  over shape new number at false has world is = absurd (cc)
  over shape new number at true has world is = rw (is, at) refl

-- A body without an environment of its own is opened in the one around it,
pub opens_bare : (shape : BodyShape) (around : Value) (arguments : List Value) (old : World) → shape.environment ≡ false
    → OpensBody shape around arguments old around old
opens_bare shape around arguments old none code go activation rest is env =
    subst (λ (s : BodyShape).
    begun around arguments old go activation rest s s.environment (made old (EnvironmentCell activation.env (locals_in s arguments)))
    ≡ on around arguments old go activation rest shape shape.environment around old) is
    (bare around arguments old go activation rest shape shape.environment none env
    (made old (EnvironmentCell activation.env (locals_in shape arguments))))

-- and one with it in that, which is made.
pub opens_own : (shape : BodyShape) (around : Value) (arguments : List Value) (old new : World) (number : ℕ) → shape.environment ≡ true
    → made old (EnvironmentCell around (locals_in shape arguments)) ≡ Some new → number ≡ heap_size old.cells
    → OpensBody shape around arguments old (Ref number) new
opens_own shape around arguments old new number has made_is at code go activation rest is env =
    subst (λ (s : BodyShape).
    begun around arguments old go activation rest s s.environment (made old (EnvironmentCell activation.env (locals_in s arguments)))
    ≡ on around arguments old go activation rest shape shape.environment (Ref number) new) is
    (over around arguments old go activation rest shape new number at shape.environment has
    (made old (EnvironmentCell activation.env (locals_in shape arguments)))
    (subst (λ (v : Value). made old (EnvironmentCell v (locals_in shape arguments)) ≡ Some new) (sym env) made_is))

-- ---- how a method begins

-- where a method's body goes on, when it has begun
abbrev go : Activation → List Value → Progress → Control
go activation locals progress = Enter FromMethod activation locals (one_more progress)

-- A method whose frame is charged and whose body is opened is entered.
pub method_opens : (code : CodeProgram) (body holder : ℕ) (receiver : Value) (arguments : List Value) (shape : BodyShape) (site : Site) (old : Progress)
    (env : Value) (new : World) → shape ≡ shape_of code body → ChargesAndOpens shape Nil arguments old.world env new
    → reached_shown code site arguments
    (reached.Enters exit.Method (record { me = receiver; holder = holder; body = body; home = old.begun; env = env; given = given.Listed }))
    (record old { world = new; begun = old.begun + 1 })
    ≡ method_entered code body holder receiver (Listed arguments) site old
method_opens code body holder receiver arguments shape site old env new is opens =
    ap (λ (n : ℕ). Enter FromMethod (record { self = receiver; holder = holder; body = body; home = old.begun; env = env; site = site })
    (if (shape_of code body).environment then [] else locals_in (shape_of code body) arguments) (record old { world = new; begun = n }))
    (let one : old.begun + 1 ≡ suc old.begun = omega arith in one)
    ∙ sym (ap (λ (s : BodyShape). Enter FromMethod (record { self = receiver; holder = holder; body = body; home = old.begun; env = env; site = site })
    (if s.environment then [] else locals_in s arguments) (one_more (in_world old new))) is)
    ∙ sym (opens.opens code go (record { self = receiver; holder = holder; body = body; home = old.begun; env = Nil; site = site }) old is refl)
    ∙ sym (ap (λ (world : Option World). charged halts Depth world old (λ p. opened code halts go
    (record { self = receiver; holder = holder; body = body; home = p.begun; env = Nil; site = site }) arguments p)) opens.charges)

-- ---- how a block is entered

-- A charge of a step leaves the room as it is.
pub room_later : (old new : World) (shape : BodyShape) (count : ℕ) → stepped old ≡ Some new → HasRoomFor old shape count → HasRoomFor new shape count
room_later old new shape count steps room =
    subst (λ (w : World). HasRoomFor w shape count) (sym (step_is old new steps)) (record { depth = room.depth; cells = room.cells })

-- A block that takes so many arguments, whose step and frame are charged, and whose body is opened, is entered.
pub block_opens : (code : CodeProgram) (running : Running) (arguments : List Value) (shape : BodyShape) (site : Site) (old : Progress)
    (stepping : World) (env : Value) (new : World) → shape ≡ shape_of code running.body → length arguments ≡ shape.params → stepped old.world ≡ Some stepping
    → ChargesAndOpens shape running.env arguments stepping env new
    → reached_shown code site arguments
    (reached.Enters exit.Body (record { me = running.me; holder = running.holder; body = running.body; home = running.home; env = env; given = given.Listed }))
    (in_world old new)
    ≡ block_entered code (block_of running) arguments site old
block_opens code running arguments shape site old stepping env new is many steps opens =
    sym (ap (λ (s : BodyShape). Enter FromBody (record activation { env = env }) (if s.environment then [] else locals_in s arguments) (in_world old new)) is)
    ∙ sym (opens.opens code (Enter FromBody) activation old is refl)
    ∙ sym (ap (λ (world : Option World). charged halts Depth world (in_world old stepping) body_opens) opens.charges)
    ∙ sym (ap (λ (world : Option World). charged halts Steps world old (λ p. charged halts Depth (entered p.world) p body_opens)) steps)
    ∙ sym (ap (λ (b : Bool). cond b (charged halts Steps (stepped old.world) old (λ p. charged halts Depth (entered p.world) p body_opens))
    (fails WrongArity site old))
    (eq-eqb (length arguments) (parameters_of code running.body) (many ∙ ap (λ (s : BodyShape). s.params) is)))
  where
    activation : Activation
    activation = record { self = running.me; holder = running.holder; body = running.body; home = running.home; env = running.env; site = site }

    body_opens : Progress → Control
    body_opens = opened code halts (Enter FromBody) activation arguments
