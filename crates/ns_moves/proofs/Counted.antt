-- A method that is entered counts as one that has begun.
use Rattle.std.proofs.Common.{◌≡◌, ℕ, suc, ◌+◌, List, refl, ap, sym, ◌∙◌, arith, Option, Some, None, Bool, true, false, cond}
use Rattle.std.specs.Prelude.{[], ◌∷◌}
use Rattle.ns_base.specs.declared.selector.Sel.{Sel}
use Rattle.ns_code.specs.declared.program.CodeProgram.{CodeProgram}
use Rattle.ns_world.specs.declared.value.Value.{Value}
use Rattle.ns_world.specs.declared.value.Value.TheVariants.{Nil, Ref}
use Rattle.ns_world.specs.declared.ending.LimitKind.TheVariants.{Depth, Cells}
use Rattle.ns_world.specs.Cell.{EnvironmentCell, ArrayCell, MessageCell}
use Rattle.ns_world.specs.Heap.{heap_size}
use Rattle.ns_world.specs.World.{World, made, entered}
use Rattle.ns_moves.specs.declared.site.Site.{Site}
use Rattle.ns_moves.specs.declared.control.Reached.{Reached}
use Rattle.ns_moves.specs.declared.control.Reached.TheVariants as reached
use Rattle.ns_moves.specs.declared.control.Exit.TheVariants as exit
use Rattle.ns_moves.specs.Control.{Progress, in_world, Activation, Control, Enter, FromMethod, halts, charged}
use Rattle.ns_moves.specs.Bodies.{has_environment, first_locals, opened}
use Rattle.ns_moves.specs.Sends.{Listed, Wrapped, given, one_more, method_entered}
use Rattle.ns_moves.specs.Shown.{reached_shown}
use Rattle.ns_moves.specs.Counting.{counted, begins}

-- the same run with another count
abbrev pub with_begun : Progress → ℕ → Progress
with_begun progress count = record progress { begun = count }

-- by what an action comes to
counted_shown : (code : CodeProgram) (site : Site) (values : List Value) (r : Reached) (progress : Progress)
    → counted (reached_shown code site values r progress) ≡ reached_shown code site values r (with_begun progress (progress.begun + begins r))
counted_shown code site values r progress = told r
  where
    none : progress ≡ with_begun progress (progress.begun + 0)
    none = ap (with_begun progress) (let e : progress.begun ≡ progress.begun + 0 = omega arith in e)

    one : one_more progress ≡ with_begun progress (progress.begun + 1)
    one = ap (with_begun progress) (let e : suc progress.begun ≡ progress.begun + 1 = omega arith in e)

    told : (r : Reached) → counted (reached_shown code site values r progress) ≡ reached_shown code site values r (with_begun progress (progress.begun + begins r))
    told (reached.Gives value) = ap (reached_shown code site values (reached.Gives value)) none
    told (reached.Fails fault) = ap (reached_shown code site values (reached.Fails fault)) none
    told (reached.Refused sel) = ap (reached_shown code site values (reached.Refused sel)) none
    told (reached.Enters exit.Method entered) = ap (reached_shown code site values (reached.Enters exit.Method entered)) one
    told (reached.Enters exit.Body entered) = ap (reached_shown code site values (reached.Enters exit.Body entered)) none
    told (reached.Enters (exit.Clause class) entered) = ap (reached_shown code site values (reached.Enters (exit.Clause class) entered)) none
    told (reached.Evaluates block given) = ap (reached_shown code site values (reached.Evaluates block given)) none
    told (reached.Begins method state) = ap (reached_shown code site values (reached.Begins method state)) none
    told (reached.Performs receiver sel array) = ap (reached_shown code site values (reached.Performs receiver sel array)) none

-- by the body that is opened
pub counted_opened : (code : CodeProgram) (activation : Activation) (arguments : List Value) (progress : Progress)
    → counted (opened code halts (Enter FromMethod) activation arguments progress) ≡ opened code halts (λ activation locals progress. Enter FromMethod activation locals (one_more progress)) activation arguments progress
counted_opened code activation arguments progress = tested (has_environment code activation.body)
  where
    locals : List Value
    locals = first_locals code activation.body arguments

    inner : Activation
    inner = record activation { env = Ref (heap_size progress.world.cells) }

    charge : (o : Option World) → counted (charged halts Cells o progress (Enter FromMethod inner [])) ≡ charged halts Cells o progress (λ p. Enter FromMethod inner [] (one_more p))
    charge (Some world) = refl
    charge None = refl

    tested : (b : Bool) → counted (cond b (charged halts Cells (made progress.world (EnvironmentCell activation.env locals)) progress (Enter FromMethod inner [])) (Enter FromMethod activation locals progress))
        ≡ cond b (charged halts Cells (made progress.world (EnvironmentCell activation.env locals)) progress (λ p. Enter FromMethod inner [] (one_more p))) (Enter FromMethod activation locals (one_more progress))
    tested true = charge (made progress.world (EnvironmentCell activation.env locals))
    tested false = refl

-- and by the frame that is charged
counted_frame : (code : CodeProgram) (activation : Activation) (arguments : List Value) (progress : Progress) (o : Option World)
    → counted (charged halts Depth o progress (opened code halts (Enter FromMethod) activation arguments)) ≡ charged halts Depth o progress (opened code halts (λ activation locals progress. Enter FromMethod activation locals (one_more progress)) activation arguments)
counted_frame code activation arguments progress (Some world) = counted_opened code activation arguments (in_world progress world)
counted_frame code activation arguments progress None = refl

-- a method as it is entered, whose home is the count of those before it
abbrev pub method_activation : Site → ℕ → ℕ → ℕ → Value → Activation
method_activation site home body holder receiver =
    record { self = receiver; holder = holder; body = body; home = home; env = Nil; site = site }

-- a method whose body was entered has begun
pub method_counts : (code : CodeProgram) (site : Site) (values : List Value) (r : Reached) (old new : Progress) (body holder : ℕ) (receiver : Value) (arguments : List Value)
    → reached_shown code site values r new ≡ charged halts Depth (entered old.world) old (opened code halts (Enter FromMethod) (method_activation site old.begun body holder receiver) arguments)
    → reached_shown code site values r (with_begun new (new.begun + begins r)) ≡ method_entered code body holder receiver (Listed arguments) site old
method_counts code site values r old new body holder receiver arguments e =
    sym (counted_shown code site values r new) ∙ (ap counted e ∙ (counted_frame code (method_activation site old.begun body holder receiver) arguments old (entered old.world) ∙ same (entered old.world)))
  where
    same : (o : Option World)
        → charged halts Depth o old (opened code halts (λ activation locals progress. Enter FromMethod activation locals (one_more progress)) (method_activation site old.begun body holder receiver) arguments)
        ≡ (charged halts Depth o old λ progress. given (Listed arguments) progress λ values progress. opened code halts (λ activation locals progress. Enter FromMethod activation locals (one_more progress)) (method_activation site progress.begun body holder receiver) values progress)
    same (Some world) = refl
    same None = refl

-- so it is where a Message comes between
counted_given : (code : CodeProgram) (sel : Sel) (wrapped : List Value) (activation : Activation) (progress : Progress)
    → counted (given (Wrapped sel wrapped) progress (opened code halts (Enter FromMethod) activation)) ≡ given (Wrapped sel wrapped) progress (opened code halts (λ activation locals progress. Enter FromMethod activation locals (one_more progress)) activation)
counted_given code sel wrapped activation progress = array (made progress.world (ArrayCell wrapped))
  where
    begun : Activation → List Value → Progress → Control
    begun = λ activation locals progress. Enter FromMethod activation locals (one_more progress)

    message : (next : Progress) (o : Option World) → counted (charged halts Cells o next (opened code halts (Enter FromMethod) activation (Ref (heap_size next.world.cells) ∷ []))) ≡ charged halts Cells o next (opened code halts begun activation (Ref (heap_size next.world.cells) ∷ []))
    message next (Some world) = counted_opened code activation (Ref (heap_size next.world.cells) ∷ []) (in_world next world)
    message next None = refl

    array : (o : Option World)
        → counted (charged halts Cells o progress λ next. charged halts Cells (made next.world (MessageCell sel (Ref (heap_size progress.world.cells)))) next (opened code halts (Enter FromMethod) activation (Ref (heap_size next.world.cells) ∷ [])))
        ≡ (charged halts Cells o progress λ next. charged halts Cells (made next.world (MessageCell sel (Ref (heap_size progress.world.cells)))) next (opened code halts begun activation (Ref (heap_size next.world.cells) ∷ [])))
    array (Some world) = message (in_world progress world) (made world (MessageCell sel (Ref (heap_size progress.world.cells))))
    array None = refl

pub message_counts : (code : CodeProgram) (site : Site) (values : List Value) (r : Reached) (old new : Progress) (body holder : ℕ) (receiver : Value) (sel : Sel) (wrapped : List Value)
    → reached_shown code site values r new ≡ charged halts Depth (entered old.world) old (λ p. given (Wrapped sel wrapped) p (opened code halts (Enter FromMethod) (method_activation site old.begun body holder receiver)))
    → reached_shown code site values r (with_begun new (new.begun + begins r)) ≡ method_entered code body holder receiver (Wrapped sel wrapped) site old
message_counts code site values r old new body holder receiver sel wrapped e =
    sym (counted_shown code site values r new) ∙ (ap counted e ∙ frame (entered old.world))
  where
    activation : Activation
    activation = method_activation site old.begun body holder receiver

    begun : Activation → List Value → Progress → Control
    begun = λ activation locals progress. Enter FromMethod activation locals (one_more progress)

    message : (next : Progress) (o : Option World) → next.begun ≡ old.begun
        → charged halts Cells o next (opened code halts begun activation (Ref (heap_size next.world.cells) ∷ []))
        ≡ (charged halts Cells o next λ progress. opened code halts begun (method_activation site progress.begun body holder receiver) (Ref (heap_size next.world.cells) ∷ []) progress)
    message next (Some world) same = ap (λ home. opened code halts begun (method_activation site home body holder receiver) (Ref (heap_size next.world.cells) ∷ []) (in_world next world)) (sym same)
    message next None same = refl

    array : (progress : Progress) (o : Option World) → progress.begun ≡ old.begun
        → (charged halts Cells o progress λ next. charged halts Cells (made next.world (MessageCell sel (Ref (heap_size progress.world.cells)))) next (opened code halts begun activation (Ref (heap_size next.world.cells) ∷ [])))
        ≡ (charged halts Cells o progress λ next. charged halts Cells (made next.world (MessageCell sel (Ref (heap_size progress.world.cells)))) next λ progress. opened code halts begun (method_activation site progress.begun body holder receiver) (Ref (heap_size next.world.cells) ∷ []) progress)
    array progress (Some world) same = message (in_world progress world) (made world (MessageCell sel (Ref (heap_size progress.world.cells)))) same
    array progress None same = refl

    frame : (o : Option World) → counted (charged halts Depth o old (λ p. given (Wrapped sel wrapped) p (opened code halts (Enter FromMethod) activation)))
        ≡ (charged halts Depth o old λ progress. given (Wrapped sel wrapped) progress λ values progress. opened code halts begun (method_activation site progress.begun body holder receiver) values progress)
    frame (Some world) = counted_given code sel wrapped activation (in_world old world) ∙ array (in_world old world) (made world (ArrayCell wrapped)) refl
    frame None = refl
