-- What a kernel method that evaluates blocks does next.
use Rattle.std.specs.Prelude.{ℤ, pos, neg_ℤ, ◌+ℤ◌, ◌^◌, int_lt, int_le, Bool, true, false, ◌&&◌, if◌then◌else◌, Option, Some, None}
use Rattle.std.specs.Ordering.{int_eq}
use Rattle.std.specs.Int.{w64, saturate_signed}
use Rattle.ns_world.specs.declared.value.Value.{Value}
use Rattle.ns_world.specs.declared.value.Value.TheVariants.{Nil, True, False, Int}
use Rattle.ns_world.specs.declared.ending.Kind.TheVariants.{MustBeBoolean}
use Rattle.ns_world.specs.declared.kernel_parts.KMethod.{KMethod}
use Rattle.ns_world.specs.declared.kernel_parts.KMethod.TheVariants as method
use Rattle.ns_kcode.specs.declared.state.KState.{KState}
use Rattle.ns_kcode.specs.declared.state.KAction.{KAction}
use Rattle.ns_kcode.specs.declared.state.KAction.TheVariants.{Evaluate, EvaluateItem, Answer, Fail}

-- evaluates a block without an argument, which begins no turn
abbrev pub evaluate : Value → KAction
evaluate block = Evaluate block None false (pos 1)

-- evaluates the chosen block, and answers its value then
abbrev pub value_of : Value → Option Value → KAction
value_of block None = evaluate block
value_of block (Some value) = Answer value

-- `and:`: the block decides where the receiver is true
abbrev pub and_next : Value → Value → Option Value → KAction
and_next True block last = value_of block last
and_next receiver block last = Answer receiver

-- `or:`: the block decides where the receiver is false
abbrev pub or_next : Value → Value → Option Value → KAction
or_next False block last = value_of block last
or_next receiver block last = Answer receiver

-- `ifTrue:`: nil where the block isn't evaluated
abbrev pub if_true_next : Value → Value → Option Value → KAction
if_true_next True block last = value_of block last
if_true_next receiver block last = Answer Nil

-- `ifFalse:`: nil where the block isn't evaluated
abbrev pub if_false_next : Value → Value → Option Value → KAction
if_false_next False block last = value_of block last
if_false_next receiver block last = Answer Nil

-- `ifTrue:ifFalse:`, and with its blocks exchanged `ifFalse:ifTrue:`
abbrev pub choice_next : Value → Value → Value → Option Value → KAction
choice_next True chosen otherwise last = value_of chosen last
choice_next receiver chosen otherwise last = value_of otherwise last

-- what a loop's receiver answered, where that was evaluated last
abbrev pub tested : ℤ → Option Value → Option Value
tested count last = if int_eq count (pos 0) then None else last

-- begins a turn of a while loop
abbrev pub while_turn : Value → KAction
while_turn block = Evaluate block None true (pos 0)

-- `whileTrue:`: a turn after each true of the receiver, nil after false
abbrev pub while_true_next : Value → Value → Option Value → KAction
while_true_next receiver block None = evaluate receiver
while_true_next receiver block (Some True) = while_turn block
while_true_next receiver block (Some False) = Answer Nil
while_true_next receiver block (Some other) = Fail MustBeBoolean

-- `whileFalse:`: a turn after each false of the receiver, nil after true
abbrev pub while_false_next : Value → Value → Option Value → KAction
while_false_next receiver block None = evaluate receiver
while_false_next receiver block (Some False) = while_turn block
while_false_next receiver block (Some True) = Answer Nil
while_false_next receiver block (Some other) = Fail MustBeBoolean

-- whether `to:do:` has a turn with that number: it is an Integer that isn't past the end
abbrev pub has_turn : ℤ → ℤ → Bool
has_turn number end = int_le (neg_ℤ (pos (2 ^ 63))) number && int_le number end

-- `to:do:`: a turn with each number from the receiver to the end; the count of turns stands still
-- at the greatest Integer
abbrev pub to_do_next : Value → Value → Value → ℤ → KAction
to_do_next (Int start) (Int end) block count =
    if has_turn (start +ℤ count) end
    then Evaluate block (Some (Int (start +ℤ count))) true (saturate_signed w64 (count +ℤ pos 1))
    else Answer (Int start)
to_do_next receiver end block count = Answer receiver

-- `timesRepeat:`: so many turns as the receiver says, none below 1
abbrev pub times_next : Value → Value → ℤ → KAction
times_next (Int times) block count = if int_lt count times then Evaluate block None true (count +ℤ pos 1) else Answer (Int times)
times_next receiver block count = Answer receiver

-- `do:`: a turn for each element
abbrev pub do_next : Value → Value → ℤ → ℤ → KAction
do_next receiver block size count = if int_lt count size then EvaluateItem block count (count +ℤ pos 1) else Answer receiver

-- the next action of each method
abbrev pub next : KMethod → KState → KAction
next method.And s = and_next s.receiver s.first s.last
next method.Or s = or_next s.receiver s.first s.last
next method.IfTrue s = if_true_next s.receiver s.first s.last
next method.IfFalse s = if_false_next s.receiver s.first s.last
next method.IfTrueIfFalse s = choice_next s.receiver s.first s.second s.last
next method.IfFalseIfTrue s = choice_next s.receiver s.second s.first s.last
next method.WhileTrue s = while_true_next s.receiver s.first (tested s.count s.last)
next method.WhileFalse s = while_false_next s.receiver s.first (tested s.count s.last)
next method.ToDo s = to_do_next s.receiver s.first s.second s.count
next method.TimesRepeat s = times_next s.receiver s.first s.count
next method.Do s = do_next s.receiver s.first s.size s.count
