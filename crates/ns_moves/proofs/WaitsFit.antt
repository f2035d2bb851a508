-- What a method of the kernel waits for is a block.
use Rattle.std.proofs.Common.{◌≡◌, ℤ, [], ◌∷◌, length, refl, sym, subst, Option, Some, None, Bool, true, false, cond}
use Rattle.std.specs.Prelude.{pos, int_lt, ◌+ℤ◌}
use Rattle.std.specs.Int.{w64, saturate_signed}
use Rattle.ns_world.specs.declared.value.Value.{Value}
use Rattle.ns_world.specs.declared.value.Value.TheVariants.{Nil, True, False, Int, Sym, Kernel, Ref}
use Rattle.ns_world.specs.declared.ending.LimitKind.TheVariants.{Steps}
use Rattle.ns_world.specs.Heap.{Heap}
use Rattle.ns_world.specs.World.{stepped}
use Rattle.ns_world.specs.laws.Chains.{both_of}
use Rattle.ns_kdata.specs.Arguments.{items_of}
use Rattle.ns_world.specs.declared.kernel_parts.KMethod.{KMethod}
use Rattle.ns_world.specs.declared.kernel_parts.KMethod.TheVariants as method
use Rattle.ns_kcode.specs.declared.state.KState.{KState}
use Rattle.ns_kcode.specs.declared.state.KAction.{KAction}
use Rattle.ns_kcode.specs.declared.state.KAction.TheVariants as action
use Rattle.ns_kcode.specs.Next.{value_of, and_next, or_next, if_true_next, if_false_next, choice_next, tested, while_true_next, while_false_next, has_turn, to_do_next, times_next, do_next, next}
use Rattle.ns_moves.specs.declared.site.Site.{Site}
use Rattle.ns_moves.specs.Control.{Progress, in_world, Halts, Waiting, Waits, Finishes}
use Rattle.ns_moves.specs.Blocks.{is_block, is_integer, listed, waiting, turned, item_at, acted, method_next}
use Rattle.ns_moves.specs.Fitting.{counts_fit, FitsMethod, FitsNextWaiting}
use Rattle.ns_moves.specs.lemmas.Counts.{next_within}
use Rattle.ns_moves.specs.laws.Growing.{step_cells}
use Rattle.ns_moves.specs.laws.Onward.{charged_all}

-- What an action evaluates is a block.
abbrev EvaluatesBlock : Heap → KAction → Type 0
EvaluatesBlock heap (action.Evaluate block argument turn count) = is_block heap block ≡ true
EvaluatesBlock heap (action.EvaluateItem block item count) = is_block heap block ≡ true
EvaluatesBlock heap (action.Answer value) = Unit {0}
EvaluatesBlock heap (action.Fail kind) = Unit {0}

value_blocks : (heap : Heap) (block : Value) (last : Option Value) → is_block heap block ≡ true → EvaluatesBlock heap (value_of block last)
value_blocks heap block None h = h
value_blocks heap block (Some value) h = tt

and_blocks : (heap : Heap) (receiver block : Value) (last : Option Value) → is_block heap block ≡ true →
    EvaluatesBlock heap (and_next receiver block last)
and_blocks heap Nil block last h = tt
and_blocks heap True block last h = value_blocks heap block last h
and_blocks heap False block last h = tt
and_blocks heap (Int number) block last h = tt
and_blocks heap (Sym sel) block last h = tt
and_blocks heap (Kernel class) block last h = tt
and_blocks heap (Ref at) block last h = tt

or_blocks : (heap : Heap) (receiver block : Value) (last : Option Value) → is_block heap block ≡ true →
    EvaluatesBlock heap (or_next receiver block last)
or_blocks heap Nil block last h = tt
or_blocks heap True block last h = tt
or_blocks heap False block last h = value_blocks heap block last h
or_blocks heap (Int number) block last h = tt
or_blocks heap (Sym sel) block last h = tt
or_blocks heap (Kernel class) block last h = tt
or_blocks heap (Ref at) block last h = tt

if_true_blocks : (heap : Heap) (receiver block : Value) (last : Option Value) → is_block heap block ≡ true →
    EvaluatesBlock heap (if_true_next receiver block last)
if_true_blocks heap Nil block last h = tt
if_true_blocks heap True block last h = value_blocks heap block last h
if_true_blocks heap False block last h = tt
if_true_blocks heap (Int number) block last h = tt
if_true_blocks heap (Sym sel) block last h = tt
if_true_blocks heap (Kernel class) block last h = tt
if_true_blocks heap (Ref at) block last h = tt

if_false_blocks : (heap : Heap) (receiver block : Value) (last : Option Value) → is_block heap block ≡ true →
    EvaluatesBlock heap (if_false_next receiver block last)
if_false_blocks heap Nil block last h = tt
if_false_blocks heap True block last h = tt
if_false_blocks heap False block last h = value_blocks heap block last h
if_false_blocks heap (Int number) block last h = tt
if_false_blocks heap (Sym sel) block last h = tt
if_false_blocks heap (Kernel class) block last h = tt
if_false_blocks heap (Ref at) block last h = tt

choice_blocks : (heap : Heap) (receiver chosen otherwise : Value) (last : Option Value) → is_block heap chosen ≡ true →
    is_block heap otherwise ≡ true → EvaluatesBlock heap (choice_next receiver chosen otherwise last)
choice_blocks heap Nil chosen otherwise last h k = value_blocks heap otherwise last k
choice_blocks heap True chosen otherwise last h k = value_blocks heap chosen last h
choice_blocks heap False chosen otherwise last h k = value_blocks heap otherwise last k
choice_blocks heap (Int number) chosen otherwise last h k = value_blocks heap otherwise last k
choice_blocks heap (Sym sel) chosen otherwise last h k = value_blocks heap otherwise last k
choice_blocks heap (Kernel class) chosen otherwise last h k = value_blocks heap otherwise last k
choice_blocks heap (Ref at) chosen otherwise last h k = value_blocks heap otherwise last k

while_true_blocks : (heap : Heap) (receiver block : Value) (last : Option Value) → is_block heap receiver ≡ true →
    is_block heap block ≡ true → EvaluatesBlock heap (while_true_next receiver block last)
while_true_blocks heap receiver block None h k = h
while_true_blocks heap receiver block (Some Nil) h k = tt
while_true_blocks heap receiver block (Some True) h k = k
while_true_blocks heap receiver block (Some False) h k = tt
while_true_blocks heap receiver block (Some (Int number)) h k = tt
while_true_blocks heap receiver block (Some (Sym sel)) h k = tt
while_true_blocks heap receiver block (Some (Kernel class)) h k = tt
while_true_blocks heap receiver block (Some (Ref at)) h k = tt

while_false_blocks : (heap : Heap) (receiver block : Value) (last : Option Value) → is_block heap receiver ≡ true →
    is_block heap block ≡ true → EvaluatesBlock heap (while_false_next receiver block last)
while_false_blocks heap receiver block None h k = h
while_false_blocks heap receiver block (Some Nil) h k = tt
while_false_blocks heap receiver block (Some True) h k = tt
while_false_blocks heap receiver block (Some False) h k = k
while_false_blocks heap receiver block (Some (Int number)) h k = tt
while_false_blocks heap receiver block (Some (Sym sel)) h k = tt
while_false_blocks heap receiver block (Some (Kernel class)) h k = tt
while_false_blocks heap receiver block (Some (Ref at)) h k = tt

to_do_blocks : (heap : Heap) (receiver end' block : Value) (count : ℤ) → is_block heap block ≡ true →
    EvaluatesBlock heap (to_do_next receiver end' block count)
to_do_blocks heap (Int start) (Int last) block count h = turn (has_turn (start +ℤ count) last)
  where
    turn : (b : Bool) → EvaluatesBlock heap (cond b (action.Evaluate block (Some (Int (start +ℤ count))) true (saturate_signed w64 (count +ℤ pos 1))) (action.Answer (Int start)))
    turn true = h
    turn false = tt
to_do_blocks heap (Int start) Nil block count h = tt
to_do_blocks heap (Int start) True block count h = tt
to_do_blocks heap (Int start) False block count h = tt
to_do_blocks heap (Int start) (Sym sel) block count h = tt
to_do_blocks heap (Int start) (Kernel class) block count h = tt
to_do_blocks heap (Int start) (Ref at) block count h = tt
to_do_blocks heap Nil end' block count h = tt
to_do_blocks heap True end' block count h = tt
to_do_blocks heap False end' block count h = tt
to_do_blocks heap (Sym sel) end' block count h = tt
to_do_blocks heap (Kernel class) end' block count h = tt
to_do_blocks heap (Ref at) end' block count h = tt

times_blocks : (heap : Heap) (receiver block : Value) (count : ℤ) → is_block heap block ≡ true →
    EvaluatesBlock heap (times_next receiver block count)
times_blocks heap (Int times) block count h = turn (int_lt count times)
  where
    turn : (b : Bool) → EvaluatesBlock heap (cond b (action.Evaluate block None true (count +ℤ pos 1)) (action.Answer (Int times)))
    turn true = h
    turn false = tt
times_blocks heap Nil block count h = tt
times_blocks heap True block count h = tt
times_blocks heap False block count h = tt
times_blocks heap (Sym sel) block count h = tt
times_blocks heap (Kernel class) block count h = tt
times_blocks heap (Ref at) block count h = tt

do_blocks : (heap : Heap) (receiver block : Value) (size count : ℤ) → is_block heap block ≡ true →
    EvaluatesBlock heap (do_next receiver block size count)
do_blocks heap receiver block size count h = turn (int_lt count size)
  where
    turn : (b : Bool) → EvaluatesBlock heap (cond b (action.EvaluateItem block count (count +ℤ pos 1)) (action.Answer receiver))
    turn true = h
    turn false = tt

-- the next action of a method whose arguments are of its kinds
next_blocks : (heap : Heap) (named : KMethod) (state : KState) → FitsMethod heap named state → EvaluatesBlock heap (next named state)
next_blocks heap method.And state fits = and_blocks heap state.receiver state.first state.last fits.arguments
next_blocks heap method.Or state fits = or_blocks heap state.receiver state.first state.last fits.arguments
next_blocks heap method.IfTrue state fits = if_true_blocks heap state.receiver state.first state.last fits.arguments
next_blocks heap method.IfFalse state fits = if_false_blocks heap state.receiver state.first state.last fits.arguments
next_blocks heap method.IfTrueIfFalse state fits =
    let both = both_of (is_block heap state.first) (is_block heap state.second) fits.arguments in choice_blocks heap state.receiver state.first state.second state.last both.0 both.1
next_blocks heap method.IfFalseIfTrue state fits =
    let both = both_of (is_block heap state.first) (is_block heap state.second) fits.arguments in choice_blocks heap state.receiver state.second state.first state.last both.1 both.0
next_blocks heap method.WhileTrue state fits =
    while_true_blocks heap state.receiver state.first (tested state.count state.last) fits.receiver fits.arguments
next_blocks heap method.WhileFalse state fits =
    while_false_blocks heap state.receiver state.first (tested state.count state.last) fits.receiver fits.arguments
next_blocks heap method.ToDo state fits =
    to_do_blocks heap state.receiver state.first state.second state.count (both_of (is_integer state.first) (is_block heap state.second) fits.arguments).1
next_blocks heap method.TimesRepeat state fits = times_blocks heap state.receiver state.first state.count fits.arguments
next_blocks heap method.Do state fits = do_blocks heap state.receiver state.first state.size state.count fits.arguments

-- An action counts on within the counts of its method.
abbrev CountsOn : Heap → KMethod → KState → KAction → Type 0
CountsOn heap named state (action.Evaluate block argument turn count) = counts_fit heap (waiting state count) named ≡ true
CountsOn heap named state (action.EvaluateItem block item count) = counts_fit heap (waiting state count) named ≡ true
CountsOn heap named state (action.Answer value) = Unit {0}
CountsOn heap named state (action.Fail kind) = Unit {0}

-- where each count is within them
freely : (heap : Heap) (named : KMethod) (state : KState) → ((count : ℤ) → counts_fit heap (waiting state count) named ≡ true) →
    (a : KAction) → CountsOn heap named state a
freely heap named state free (action.Evaluate block argument turn count) = free count
freely heap named state free (action.EvaluateItem block item count) = free count
freely heap named state free (action.Answer value) = tt
freely heap named state free (action.Fail kind) = tt

do_counts : (heap : Heap) (state : KState) → counts_fit heap state method.Do ≡ true →
    CountsOn heap method.Do state (do_next state.receiver state.first state.size state.count)
do_counts heap state within = turn (int_lt state.count state.size) refl
  where
    turn : (b : Bool) → int_lt state.count state.size ≡ b → CountsOn heap method.Do state (cond b (action.EvaluateItem state.first state.count (state.count +ℤ pos 1)) (action.Answer state.receiver))
    turn true t = next_within state.size state.count (length (items_of heap state.receiver)) within t
    turn false t = tt

next_counts : (heap : Heap) (named : KMethod) (state : KState) → FitsMethod heap named state → CountsOn heap named state (next named state)
next_counts heap method.Do state fits = do_counts heap state fits.counts
next_counts heap method.And state fits = freely heap method.And state (λ count. refl) (next method.And state)
next_counts heap method.Or state fits = freely heap method.Or state (λ count. refl) (next method.Or state)
next_counts heap method.IfTrue state fits = freely heap method.IfTrue state (λ count. refl) (next method.IfTrue state)
next_counts heap method.IfFalse state fits = freely heap method.IfFalse state (λ count. refl) (next method.IfFalse state)
next_counts heap method.IfTrueIfFalse state fits = freely heap method.IfTrueIfFalse state (λ count. refl) (next method.IfTrueIfFalse state)
next_counts heap method.IfFalseIfTrue state fits = freely heap method.IfFalseIfTrue state (λ count. refl) (next method.IfFalseIfTrue state)
next_counts heap method.WhileTrue state fits = freely heap method.WhileTrue state (λ count. refl) (next method.WhileTrue state)
next_counts heap method.WhileFalse state fits = freely heap method.WhileFalse state (λ count. refl) (next method.WhileFalse state)
next_counts heap method.ToDo state fits = freely heap method.ToDo state (λ count. refl) (next method.ToDo state)
next_counts heap method.TimesRepeat state fits = freely heap method.TimesRepeat state (λ count. refl) (next method.TimesRepeat state)

-- a method that waits keeps its receiver and its arguments
waiting_fits : (heap : Heap) (named : KMethod) (state : KState) (count : ℤ) → FitsMethod heap named state →
    counts_fit heap (waiting state count) named ≡ true → FitsMethod heap named (waiting state count)
waiting_fits heap named state count fits within = record { arguments = fits.arguments; receiver = fits.receiver; counts = within }

turned_fits : (named : KMethod) (turn : Bool) (progress : Progress) (go : Progress → Waiting) →
    ((next : Progress) → next.world.cells ≡ progress.world.cells → FitsNextWaiting named (go next)) →
    FitsNextWaiting named (turned turn progress go)
turned_fits named true progress go goes =
    charged_all (FitsNextWaiting named) (λ ending progress. Finishes (Halts ending progress)) Steps (stepped progress.world) progress go tt (λ world e. goes (in_world progress world) (step_cells progress.world world e))
turned_fits named false progress go goes = goes progress refl

acted_fits : (named : KMethod) (a : KAction) (state : KState) (site : Site) (progress : Progress) →
    FitsMethod progress.world.cells named state → EvaluatesBlock progress.world.cells a → CountsOn progress.world.cells named state a →
    FitsNextWaiting named (acted a state site progress)
acted_fits named (action.Evaluate block argument turn count) state site progress fits is within =
    turned_fits named turn progress (Waits block (listed argument) (waiting state count))
    (λ next same. (subst (λ cells. is_block cells block ≡ true) (sym same) is, subst (λ cells. FitsMethod cells named (waiting state count)) (sym same) (waiting_fits progress.world.cells named state count fits within)))
acted_fits named (action.EvaluateItem block item count) state site progress fits is within =
    turned_fits named true progress (λ progress. Waits block (item_at progress.world.cells state.receiver item ∷ []) (waiting state count) progress)
    (λ next same. (subst (λ cells. is_block cells block ≡ true) (sym same) is, subst (λ cells. FitsMethod cells named (waiting state count)) (sym same) (waiting_fits progress.world.cells named state count fits within)))
acted_fits named (action.Answer value) state site progress fits is within = tt
acted_fits named (action.Fail kind) state site progress fits is within = tt

pub method_hands_on : (named : KMethod) (state : KState) (site : Site) (progress : Progress) → FitsMethod progress.world.cells named state →
    FitsNextWaiting named (method_next named state site progress)
method_hands_on named state site progress fits =
    acted_fits named (next named state) state site progress fits (next_blocks progress.world.cells named state fits) (next_counts progress.world.cells named state fits)
