-- What an action hands on is what the next one asks for.
use Rattle.std.specs.Prelude.{◌≡◌, ◌≢◌, ℕ, pos, int_le, suc, ◌+◌, ◌<◌, ◌≤◌, nat_lt, List, length, slice_get, Option, Some, None, IsTrue, All, Bool, true, ◌==◌, ◌&&◌, if◌then◌else◌}
use Rattle.std.specs.Option.{option_map_or, ForSome}
use Rattle.std.specs.Ordering.{int_eq}
use Rattle.ns_base.specs.declared.place.Place.{Place as SourcePlace}
use Rattle.ns_code.specs.declared.program.CodeProgram.{CodeProgram}
use Rattle.ns_code.specs.declared.body.BodyCode.{BodyCode}
use Rattle.ns_code.specs.Selector.{is_selector_number, selector_arity}
use Rattle.ns_code.specs.Soundness.{method_kind, block_kind, initialiser_kind, clause_kind}
use Rattle.ns_world.specs.declared.value.Value.{Value}
use Rattle.ns_world.specs.declared.value.Value.TheVariants.{Ref}
use Rattle.ns_world.specs.declared.cell.NewCell.{NewCell}
use Rattle.ns_world.specs.declared.cell.NewCell.TheVariants as new
use Rattle.ns_world.specs.declared.kernel.ClassName.{ClassName}
use Rattle.ns_world.specs.declared.kernel.ClassName.TheVariants as name
use Rattle.ns_world.specs.Heap.{Heap}
use Rattle.ns_world.specs.Layout.{declaration_of}
use Rattle.ns_world.specs.Lawful.{IsLiveValue, HasHolder, FitsEnvironment, parent_of}
use Rattle.ns_kdata.specs.Arguments.{items_of, is_array}
use Rattle.ns_world.specs.declared.kernel_parts.KMethod.{KMethod}
use Rattle.ns_world.specs.declared.kernel_parts.KMethod.TheVariants as method
use Rattle.ns_kcode.specs.declared.state.KState.{KState}
use Rattle.ns_moves.specs.declared.site.Site.{Site}
use Rattle.ns_moves.specs.Control.{Progress, Activation, Exit, FromMethod, FromBody, FromClause, Control, Now, Enter, Evaluate, Begin, Perform, PartControl, Skip, Stop, EnterPart, Waiting, Waits, Finishes}
use Rattle.ns_moves.specs.Bodies.{parameters_of, locals_of, has_environment, clause_of, no_home}
use Rattle.ns_moves.specs.Classes.{super_selector, super_part}
use Rattle.ns_moves.specs.Blocks.{is_block, is_integer, has_arguments, evaluated, method_next}
use Rattle.ns_world.specs.Booleans.{is_boolean}
use Rattle.ns_moves.specs.Sends.{sent, sent_plain, performed}
use Rattle.ns_moves.specs.Lawful.{FitsActivation, FitsExit, FitsSelector, FitsTarget}
use Rattle.ns_moves.specs.Actions.{Action, Sends, SendsPlain, Performs, Evaluates, Continues, BeginsPart}

-- whether a receiver is of the kind to which a method of the kernel belongs
abbrev pub belongs_to : Heap → Value → KMethod → Bool
belongs_to heap receiver method.WhileTrue = is_block heap receiver
belongs_to heap receiver method.WhileFalse = is_block heap receiver
belongs_to heap receiver method.ToDo = is_integer receiver
belongs_to heap receiver method.TimesRepeat = is_integer receiver
belongs_to heap receiver method.Do = is_array heap receiver
belongs_to heap receiver method.And = is_boolean receiver
belongs_to heap receiver method.Or = is_boolean receiver
belongs_to heap receiver method.IfTrue = is_boolean receiver
belongs_to heap receiver method.IfFalse = is_boolean receiver
belongs_to heap receiver method.IfTrueIfFalse = is_boolean receiver
belongs_to heap receiver method.IfFalseIfTrue = is_boolean receiver

-- whether the counts of `do:` are within its array
abbrev pub counts_fit : Heap → KState → KMethod → Bool
counts_fit heap state method.Do =
    int_eq state.size (pos (length (items_of heap state.receiver))) && int_le (pos 0) state.count && int_le state.count state.size
counts_fit heap state method = true

-- A method of the kernel has a receiver and arguments of its kinds, and counts within them.
pub record FitsMethod (heap : Heap) (method : KMethod) (state : KState) : Type 0 where
  pub arguments : IsTrue (has_arguments heap method state.first state.second)
  pub receiver : IsTrue (belongs_to heap state.receiver method)
  pub counts : IsTrue (counts_fit heap state method)

-- the kind of a body
abbrev pub kind_of : CodeProgram → ℕ → ℕ
kind_of code body = option_map_or (λ (b : BodyCode). b.kind) (slice_get code.bodies body) clause_kind

-- whether an end is that of a body of a kind, where a body without a name of its own is of this kind: a block's
-- where a block is evaluated, and an initialiser's in a send
abbrev pub ends_kind : ℕ → Exit → ℕ → Bool
ends_kind own FromMethod kind = kind == method_kind
ends_kind own FromBody kind = kind == own
ends_kind own (FromClause object holder class) kind = kind == clause_kind

-- The end of a clause names the self and the holder that run it, and the class whose clause it is.
abbrev pub EndsOwn : CodeProgram → Exit → Activation → Type 0
EndsOwn code (FromClause object holder class) activation =
    (activation.self ≡ Ref object) × (activation.holder ≡ holder) × (clause_of code class ≡ Some activation.body)
EndsOwn code exit activation = Unit {0}

-- The end of a body that is entered can be met, and is that of a body of its kind.
pub record FitsEnd (sort : ℕ) (heap : Heap) (code : CodeProgram) (exit : Exit) (activation : Activation) : Type 0 where
  pub met : FitsExit heap code exit
  pub kind : IsTrue (ends_kind sort exit (kind_of code activation.body))
  pub own : EndsOwn code exit activation

-- how many locals stand beside an activation
abbrev pub locals_beside : CodeProgram → ℕ → ℕ
locals_beside code body = if has_environment code body then 0 else locals_of code body

-- the body whose locals the environment of an activation has: its own, or the one around it
abbrev pub environment_body : CodeProgram → ℕ → Option ℕ
environment_body code body = if has_environment code body then Some body else parent_of code body

-- The environment of running code is that.
abbrev pub FitsOwnEnvironment : Heap → CodeProgram → Activation → Type 0
FitsOwnEnvironment heap code activation =
    FitsEnvironment (activation.body + 1) heap code (environment_body code activation.body) activation.env

-- What holds of all code that was verified: the parameters of a body are among its locals, and one that is no
-- block stands in no other.
pub record StandsWell (code : CodeProgram) (body : ℕ) : Type 0 where
  pub parameters : parameters_of code body ≤ locals_of code body
  pub alone : kind_of code body ≢ block_kind → parent_of code body ≡ None

-- An initialiser runs with an object that has its holder.
abbrev pub FitsObject : Heap → CodeProgram → Activation → Type 0
FitsObject heap code activation = kind_of code activation.body ≡ initialiser_kind → HasHolder heap activation.self activation.holder

-- A body that is entered fits its self, its holder and its environment, and has all of its locals.
pub record FitsEntered (heap : Heap) (code : CodeProgram) (activation : Activation) (locals : List Value) : Type 0 where
  pub fits : FitsActivation heap code activation
  pub object : FitsObject heap code activation
  pub beside : StandsWell code activation.body → length locals ≡ locals_beside code activation.body
  pub environment : StandsWell code activation.body
      → FitsEnvironment (activation.body + 1) heap code (environment_body code activation.body) activation.env

-- A body that is entered fits, and so does its end; what is evaluated is a block; a
-- method of the kernel has a receiver and arguments of the kinds that it asks for; and a send that waits has an
-- array, a selector and as many live arguments as it takes.
abbrev pub FitsNext : ℕ → CodeProgram → Control → Type 0
FitsNext own code (Now after) = Unit {0}
FitsNext own code (Enter exit activation locals progress) =
    FitsEntered progress.world.cells code activation locals × FitsEnd own progress.world.cells code exit activation
FitsNext own code (Evaluate block arguments site progress) = IsTrue (is_block progress.world.cells block)
FitsNext own code (Begin method state site progress) = FitsMethod progress.world.cells method state
FitsNext own code (Perform receiver sel array site progress) =
    FitsSelector progress.world.cells code sel (items_of progress.world.cells (Ref array)) × IsTrue (is_array progress.world.cells (Ref array))

-- So does the initialiser of a superclass that is entered.
abbrev pub FitsNextPart : CodeProgram → PartControl → Type 0
FitsNextPart code (Skip progress) = Unit {0}
FitsNextPart code (Stop ending progress) = Unit {0}
FitsNextPart code (EnterPart activation locals progress) =
    FitsActivation progress.world.cells code activation × (kind_of code activation.body ≡ initialiser_kind)

-- It has all of its locals and fits its environment as well.
abbrev pub EntersPart : CodeProgram → PartControl → Type 0
EntersPart code (EnterPart activation locals progress) = FitsEntered progress.world.cells code activation locals
EntersPart code other = Unit {0}

-- So it is where a superclass message has as many arguments as it takes, which holds of all code that was verified.
pub record FitsMessage (heap : Heap) (code : CodeProgram) (activation : Activation) (arguments : List Value) : Type 0 where
  pub arity : length arguments ≡ selector_arity code (super_selector code (declaration_of heap activation.holder))

-- A method of the kernel that waits for a block evaluates one, and keeps its receiver and its arguments.
abbrev pub FitsNextWaiting : KMethod → Waiting → Type 0
FitsNextWaiting method (Waits block arguments state progress) =
    IsTrue (is_block progress.world.cells block) × FitsMethod progress.world.cells method state
FitsNextWaiting method (Finishes after) = Unit {0}

-- whether a class name names a declaration of the code, or a class of the kernel
abbrev pub names_class : CodeProgram → ClassName → Bool
names_class code (name.Declared decl) = nat_lt decl (length code.classes)
names_class code (name.ClassOf decl) = nat_lt decl (length code.classes)
names_class code (name.Kernel row) = true

-- A site names a file of the code, where it has a place, a class and a selector.
pub record FitsSite (code : CodeProgram) (site : Site) : Type 0 where
  pub place : ForSome site.place (λ (place : SourcePlace). place.file < length code.files)
  pub class : IsTrue (names_class code site.class)
  pub sel : IsTrue (is_selector_number code site.sel.0)

-- the home of a block
abbrev pub home_in : NewCell → ℕ
home_in (new.Block body env home receiver holder) = home
home_in cell = no_home

-- The home of a method is its own activation, which has just begun; a block's is given, and all else has none.
abbrev pub HasHome : ℕ → Exit → Activation → Progress → Type 0
HasHome home FromMethod activation progress = suc activation.home ≡ progress.begun
HasHome home FromBody activation progress = activation.home ≡ home
HasHome home exit activation progress = activation.home ≡ no_home

-- What goes on has this site and its home, and a block is evaluated with at most 255 arguments where that is asked.
abbrev pub GoesOnAt : Type 0 → Site → ℕ → Control → Type 0
GoesOnAt Few site home (Now after) = Unit {0}
GoesOnAt Few site home (Enter exit activation locals progress) = (activation.site ≡ site) × HasHome home exit activation progress
GoesOnAt Few site home (Evaluate block arguments at progress) = (at ≡ site) × (Few → length arguments ≤ 255)
GoesOnAt Few site home (Begin method state at progress) = at ≡ site
GoesOnAt Few site home (Perform receiver sel array at progress) = at ≡ site

-- The initialiser of a superclass has the site of what begins it, and no home.
abbrev pub PartGoesOnAt : Site → PartControl → Type 0
PartGoesOnAt site (Skip progress) = Unit {0}
PartGoesOnAt site (Stop ending progress) = Unit {0}
PartGoesOnAt site (EnterPart activation locals progress) = (activation.site ≡ site) × (activation.home ≡ no_home)

-- What is entered is that block's body, and nothing else goes on.
abbrev pub EntersBlock : ℕ → Control → Type 0
EntersBlock body (Now after) = Unit {0}
EntersBlock body (Enter FromBody activation locals progress) = activation.body ≡ body
EntersBlock body (Enter FromMethod activation locals progress) = ⊥
EntersBlock body (Enter (FromClause object holder class) activation locals progress) = ⊥
EntersBlock body (Evaluate block arguments site progress) = ⊥
EntersBlock body (Begin method state site progress) = ⊥
EntersBlock body (Perform receiver sel array site progress) = ⊥

-- What the actions that go on elsewhere ask for: a send one that can be made, with arguments that fit its
-- selector, an evaluation live arguments, a superclass part a self with the holder in its chain as well, and a
-- method of the kernel a receiver and arguments of its kinds.
abbrev pub Asks : CodeProgram → Action → Progress → Type 0
Asks code (Sends activation target sel values place) progress =
    FitsTarget progress.world.cells code activation target × FitsSelector progress.world.cells code sel values
Asks code (SendsPlain receiver sel values place) progress =
    IsLiveValue progress.world.cells code receiver × FitsSelector progress.world.cells code sel values
Asks code (Performs receiver sel array site) progress =
    IsLiveValue progress.world.cells code receiver × FitsSelector progress.world.cells code sel (items_of progress.world.cells (Ref array))
Asks code (Evaluates block arguments site) progress = All (IsLiveValue progress.world.cells code) arguments
Asks code (BeginsPart activation arguments) progress =
    HasHolder progress.world.cells activation.self activation.holder × All (IsLiveValue progress.world.cells code) arguments
Asks code (Continues method state site) progress = FitsMethod progress.world.cells method state
Asks code other progress = Unit {0}

-- What they hand on fits.
abbrev pub HandsOn : CodeProgram → Action → Progress → Type 0
HandsOn code (Sends activation target sel values place) progress =
    FitsNext initialiser_kind code (sent code activation target sel values place progress)
HandsOn code (SendsPlain receiver sel values place) progress =
    FitsNext initialiser_kind code (sent_plain code receiver sel values place progress)
HandsOn code (Performs receiver sel array site) progress = FitsNext initialiser_kind code (performed code receiver sel array site progress)
HandsOn code (Evaluates block arguments site) progress = FitsNext block_kind code (evaluated code block arguments site progress)
HandsOn code (BeginsPart activation arguments) progress =
    FitsNextPart code (super_part code activation arguments progress)
    × (FitsMessage progress.world.cells code activation arguments → EntersPart code (super_part code activation arguments progress))
HandsOn code (Continues method state site) progress = FitsNextWaiting method (method_next method state site progress)
HandsOn code other progress = Unit {0}
