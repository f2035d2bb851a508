-- What the methods that evaluate blocks mean, each as a recursion over its turns; and their actions, one after another.
use Rattle.std.specs.Prelude.{◌≡◌, ℕ, zero, suc, ℤ, pos, ◌+ℤ◌, ◌+◌, int_le, true, false, if◌then◌else◌, Option, Some, None}
use Rattle.ns_world.specs.declared.value.Value.{Value}
use Rattle.ns_world.specs.declared.value.Value.TheVariants.{Nil, True, False, Int}
use Rattle.ns_world.specs.declared.ending.Kind.{Kind}
use Rattle.ns_world.specs.declared.ending.Kind.TheVariants.{MustBeBoolean}
use Rattle.ns_world.specs.declared.kernel_parts.KMethod.{KMethod}
use Rattle.ns_kcode.specs.declared.state.KState.{KState}
use Rattle.ns_kcode.specs.declared.state.KAction.{KAction}
use Rattle.ns_kcode.specs.declared.state.KAction.TheVariants.{Evaluate, EvaluateItem, Answer, Fail}
use Rattle.ns_kcode.specs.Next.{next}

-- the run in which a method stands: W has its states, and O what it comes to
pub record Host (W O : Type 0) : Type 0 where
  -- the method ends with a value
  pub answers : Value → W → O
  -- it ends with an error
  pub fails : Kind → W → O
  -- a block is evaluated, with an argument if there is one, and the run goes on with its value
  pub evaluates : Value → Option Value → W → (Value → W → O) → O
  -- the step of a turn is charged, and the run goes on
  pub begins_turn : W → (W → O) → O
  -- an element of an array, as it is now
  pub element : Value → ℤ → W → Value
  -- the bound on turns is used up
  pub spent : O

-- a method's state as it begins
abbrev pub beginning : Value → Value → Value → ℤ → KState
beginning receiver first second size =
    record { receiver = receiver; first = first; second = second; size = size; count = pos 0; last = None }

-- its state when a block has answered
abbrev pub answered : KState → ℤ → Value → KState
answered state count value = record state { count = count; last = Some value }

-- two actions for each turn
abbrev pub double : ℕ → ℕ
double zero = zero
double (suc n) = suc (suc (double n))

module _ {W O : Type 0} (host : Host W O) where
  -- `and:`
  abbrev pub and_row : Value → Value → W → O
  and_row True block w = host.evaluates block None w host.answers
  and_row receiver block w = host.answers receiver w

  -- `or:`
  abbrev pub or_row : Value → Value → W → O
  or_row False block w = host.evaluates block None w host.answers
  or_row receiver block w = host.answers receiver w

  -- `ifTrue:`
  abbrev pub if_true_row : Value → Value → W → O
  if_true_row True block w = host.evaluates block None w host.answers
  if_true_row receiver block w = host.answers Nil w

  -- `ifFalse:`
  abbrev pub if_false_row : Value → Value → W → O
  if_false_row False block w = host.evaluates block None w host.answers
  if_false_row receiver block w = host.answers Nil w

  -- `ifTrue:ifFalse:`, and with its blocks exchanged `ifFalse:ifTrue:`
  abbrev pub choice_row : Value → Value → Value → W → O
  choice_row True chosen otherwise w = host.evaluates chosen None w host.answers
  choice_row receiver chosen otherwise w = host.evaluates otherwise None w host.answers

  -- a turn: its step, and then the block, whose value is dropped
  abbrev pub turn : Value → Option Value → W → (W → O) → O
  turn block arg w go = host.begins_turn w (λ w. host.evaluates block arg w (λ value w. go w))

  -- what `whileTrue:` does with the value of its receiver
  abbrev pub on_true : Value → W → O → O
  on_true True w turned = turned
  on_true False w turned = host.answers Nil w
  on_true other w turned = host.fails MustBeBoolean w

  -- `whileTrue:`, of at most so many turns
  abbrev pub while_true_row : ℕ → Value → Value → W → O
  while_true_row zero receiver block w = host.spent
  while_true_row (suc n) receiver block w =
      host.evaluates receiver None w (λ value w. on_true value w (turn block None w (λ w. while_true_row n receiver block w)))

  -- what `whileFalse:` does with the value of its receiver
  abbrev pub on_false : Value → W → O → O
  on_false False w turned = turned
  on_false True w turned = host.answers Nil w
  on_false other w turned = host.fails MustBeBoolean w

  -- `whileFalse:`, of at most so many turns
  abbrev pub while_false_row : ℕ → Value → Value → W → O
  while_false_row zero receiver block w = host.spent
  while_false_row (suc n) receiver block w =
      host.evaluates receiver None w (λ value w. on_false value w (turn block None w (λ w. while_false_row n receiver block w)))

  -- `to:do:` from a number on, of at most so many turns
  abbrev pub to_do_row : ℕ → ℤ → ℤ → ℤ → Value → W → O
  to_do_row zero start number end block w = host.spent
  to_do_row (suc n) start number end block w =
      if int_le number end
      then turn block (Some (Int number)) w (λ w. to_do_row n start (number +ℤ pos 1) end block w)
      else host.answers (Int start) w

  -- `timesRepeat:` with so many turns left, of at most so many turns
  abbrev pub times_row : ℕ → ℕ → Value → Value → W → O
  times_row zero left receiver block w = host.spent
  times_row (suc n) zero receiver block w = host.answers receiver w
  times_row (suc n) (suc left) receiver block w = turn block None w (λ w. times_row n left receiver block w)

  -- `do:` from an element on, with so many left, of at most so many turns
  abbrev pub do_row : ℕ → ℕ → ℕ → Value → Value → W → O
  do_row zero place left receiver block w = host.spent
  do_row (suc n) place zero receiver block w = host.answers receiver w
  do_row (suc n) place (suc left) receiver block w =
      host.begins_turn w (λ w. host.evaluates block (Some (host.element receiver (pos place) w)) w (λ value w. do_row n (place + 1) left receiver block w))

  -- an action, and then what comes after it
  abbrev pub acted : KAction → KState → W → (KState → W → O) → O
  acted (Evaluate block arg false count) state w go = host.evaluates block arg w (λ value w. go (answered state count value) w)
  acted (Evaluate block arg true count) state w go =
      host.begins_turn w (λ w. host.evaluates block arg w (λ value w. go (answered state count value) w))
  acted (EvaluateItem block item count) state w go =
      host.begins_turn w (λ w. host.evaluates block (Some (host.element state.receiver item w)) w (λ value w. go (answered state count value) w))
  acted (Answer value) state w go = host.answers value w
  acted (Fail kind) state w go = host.fails kind w

  -- the actions of a method, one after another, at most so many
  abbrev pub actions : KMethod → ℕ → KState → W → O
  actions m zero state w = host.spent
  actions m (suc n) state w = acted (next m state) state w (λ state w. actions m n state w)

  -- So many actions from a state on do what a row does.
  abbrev pub ActsAs : KMethod → ℕ → KState → (W → O) → Type 0
  ActsAs method n state row = (w : W) → actions method n state w ≡ row w
