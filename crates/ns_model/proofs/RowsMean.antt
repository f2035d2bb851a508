-- The kernel's methods that evaluate blocks mean their rows.
use Rattle.std.proofs.Common.{◌≡◌, ℕ, zero, suc, ◌≤◌, pos, negsuc, ℤ, List, [], ◌∷◌, length, refl, ap, ◌∙◌, arith, Option, Some, None, true, false}
use Rattle.ns_code.specs.declared.program.CodeProgram.{CodeProgram}
use Rattle.ns_world.specs.declared.value.Value.{Value}
use Rattle.ns_world.specs.declared.value.Value.TheVariants.{Nil, True, False, Int, Sym, Kernel, Ref}
use Rattle.ns_world.specs.declared.ending.LimitKind.TheVariants.{Steps}
use Rattle.ns_world.specs.World.{World, stepped}
use Rattle.ns_kdata.specs.Arguments.{items_of}
use Rattle.ns_world.specs.declared.kernel_parts.KMethod.{KMethod}
use Rattle.ns_world.specs.declared.kernel_parts.KMethod.TheVariants as method
use Rattle.ns_kcode.specs.declared.state.KState.{KState}
use Rattle.ns_kcode.specs.declared.state.KAction.{KAction}
use Rattle.ns_kcode.specs.declared.state.KAction.TheVariants as action
use Rattle.ns_kcode.specs.Next.{next}
use Rattle.ns_kcode.specs.Rows.{Host, double, beginning, answered, actions, times_row, acted as row_acted}
use Rattle.ns_kcode.specs.laws.OneAfterAnother.{and_is, or_is, if_true_is, if_false_is, choice_is, exchanged_is, while_true_is, while_false_is}
use Rattle.ns_kcode.specs.laws.OneAfterAnother.{times_is, no_times, do_is, to_do_is}
use Rattle.ns_moves.specs.declared.site.Site.{Site}
use Rattle.ns_moves.specs.Control.{Progress, in_world, Begin, Waits, Finishes, Halts, charged}
use Rattle.ns_moves.specs.Blocks.{evaluated, acted, listed, item_at, waiting}
use Rattle.ns_resolved.specs.Program.{Meant}
use Rattle.ns_model.specs.Outcome.{Completion, Ends, bind, passed}
use Rattle.ns_model.specs.Rows.{host, counted, repeated, method_row}
use Rattle.ns_model.specs.Run.{gone_on, run}
use Rattle.ns_model.specs.Laws.{IsEnough, TurnsAreCounted, method_begins, MethodsAreRows}
use Rattle.ns_model.proofs.ActionsRead.{act_alike}
use Rattle.ns_model.proofs.Agreeing.{Agrees, agreed, agree_bind, agree_passed, runs_agree}

module _ (meant : Meant) (code : CodeProgram) (enough : ℕ) (live : List ℕ) (site : Site) where
  abbrev here : Host Progress (Completion Value)
  here = host code (run meant code enough) live site

  more : (n : ℕ) → n ≤ enough → (block : Value) (arguments : List Value) (p : Progress)
      → Agrees (run meant code n (evaluated code block arguments site p) live) (run meant code enough (evaluated code block arguments site p) live)
  more n le block arguments p =
      runs_agree meant code code (act_alike code code (record { files = refl; names = refl; classes = refl; heads = refl })) refl n enough le
      (evaluated code block arguments site p) live

  -- so many moves of a method agree with so many actions
  abbrev Go : KMethod → ℕ → ℕ → Type 0
  Go named n k = (state : KState) (p : Progress) → Agrees (run meant code n (Begin named state site p) live) (actions here named k state p)

  -- a block is evaluated, and the method goes on with its value
  evaluates : (named : KMethod) (n k : ℕ) → n ≤ enough → Go named n k → (block : Value) (arguments : List Value) (count : ℤ) (state : KState) (p : Progress)
      → Agrees (gone_on code (run meant code n) named site (Waits block arguments (waiting state count) p) live)
      (bind (passed (run meant code enough (evaluated code block arguments site p) live)) (λ v ls p. actions here named k (answered state count v) p))
  evaluates named n k below go block arguments count state p =
      agree_bind _ _ _ _ (agree_passed _ _ (more n below block arguments p)) (λ v ls p. go (answered state count v) p)

  -- a turn
  turns : (named : KMethod) (n k : ℕ) → n ≤ enough → Go named n k → (block : Value) (arguments : Progress → List Value) (count : ℤ) (state : KState)
      (p : Progress) (o : Option World)
      → Agrees (gone_on code (run meant code n) named site (charged (λ ending p. Finishes (Halts ending p)) Steps o p
      (λ p. Waits block (arguments p) (waiting state count) p)) live)
      (charged Ends Steps o p (λ p.
      bind (passed (run meant code enough (evaluated code block (arguments p) site p) live)) (λ v ls p. actions here named k (answered state count v) p)))
  turns named n k below go block arguments count state p (Some world) =
      evaluates named n k below go block (arguments (in_world p world)) count state (in_world p world)
  turns named n k below go block arguments count state p None = refl

  acts_on : (named : KMethod) (n k : ℕ) → n ≤ enough → Go named n k → (a : KAction) (state : KState) (p : Progress)
      → Agrees (gone_on code (run meant code n) named site (acted a state site p) live) (row_acted here a state p (λ state p. actions here named k state p))
  acts_on named n k below go (action.Evaluate block argument false count) state p = evaluates named n k below go block (listed argument) count state p
  acts_on named n k below go (action.Evaluate block argument true count) state p =
      turns named n k below go block (λ p. listed argument) count state p (stepped p.world)
  acts_on named n k below go (action.EvaluateItem block item count) state p =
      turns named n k below go block (λ p. item_at p.world.cells state.receiver item ∷ []) count state p (stepped p.world)
  acts_on named n k below go (action.Answer value) state p = refl
  acts_on named n k below go (action.Fail kind) state p = refl

  acts : (named : KMethod) (n k : ℕ) → n ≤ k → n ≤ enough → Go named n k
  acts named zero k le below state p = tt
  acts named (suc n) zero le below state p = absurd (omega (arith, le))
  acts named (suc n) (suc k) le below state p =
      acts_on named n k (omega (arith, below)) (acts named n k (omega (arith, le)) (omega (arith, below))) (next named state) state p

  -- ---- the rows

  -- a method that answers at once
  at_once : (n : ℕ) (named : KMethod) (state : KState) (value : Value) (p : Progress) → next named state ≡ action.Answer value → 1 ≤ n
      → actions here named n state p ≡ here.answers value p
  at_once zero named state value p e some = absurd (omega (arith, some))
  at_once (suc n) named state value p e some = ap (λ a. row_acted here a state p (λ state p. actions here named n state p)) e

  to_do : (receiver first second : Value) (z : ℤ) (p : Progress) → 1 ≤ enough → TurnsAreCounted enough method.ToDo receiver
      → actions here method.ToDo enough (beginning receiver first second z) p ≡ counted code (run meant code enough) live site enough receiver first second p
  to_do (Int start) (Int last) second z p some fits = to_do_is here enough start last second z p fits.0 fits.1
  to_do (Int start) Nil second z p some fits = at_once enough method.ToDo (beginning (Int start) Nil second z) (Int start) p refl some
  to_do (Int start) True second z p some fits = at_once enough method.ToDo (beginning (Int start) True second z) (Int start) p refl some
  to_do (Int start) False second z p some fits = at_once enough method.ToDo (beginning (Int start) False second z) (Int start) p refl some
  to_do (Int start) (Sym sel) second z p some fits = at_once enough method.ToDo (beginning (Int start) (Sym sel) second z) (Int start) p refl some
  to_do (Int start) (Kernel class) second z p some fits = at_once enough method.ToDo (beginning (Int start) (Kernel class) second z) (Int start) p refl some
  to_do (Int start) (Ref at) second z p some fits = at_once enough method.ToDo (beginning (Int start) (Ref at) second z) (Int start) p refl some
  to_do Nil first second z p some fits = at_once enough method.ToDo (beginning Nil first second z) Nil p refl some
  to_do True first second z p some fits = at_once enough method.ToDo (beginning True first second z) True p refl some
  to_do False first second z p some fits = at_once enough method.ToDo (beginning False first second z) False p refl some
  to_do (Sym sel) first second z p some fits = at_once enough method.ToDo (beginning (Sym sel) first second z) (Sym sel) p refl some
  to_do (Kernel class) first second z p some fits = at_once enough method.ToDo (beginning (Kernel class) first second z) (Kernel class) p refl some
  to_do (Ref at) first second z p some fits = at_once enough method.ToDo (beginning (Ref at) first second z) (Ref at) p refl some

  -- without a number there is no turn
  not_counted : (n : ℕ) (receiver first second : Value) (z : ℤ) (p : Progress)
      → next method.TimesRepeat (beginning receiver first second z) ≡ action.Answer receiver
      → actions here method.TimesRepeat n (beginning receiver first second z) p ≡ times_row here n 0 receiver first p
  not_counted zero receiver first second z p e = refl
  not_counted (suc n) receiver first second z p e = at_once (suc n) method.TimesRepeat (beginning receiver first second z) receiver p e (omega arith)

  times : (receiver first second : Value) (z : ℤ) (p : Progress)
      → actions here method.TimesRepeat enough (beginning receiver first second z) p ≡ repeated code (run meant code enough) live site enough receiver first p
  times (Int (pos n)) first second z p = times_is here enough n first second z p
  times (Int (negsuc n)) first second z p = no_times here enough n first second z p
  times Nil first second z p = not_counted enough Nil first second z p refl
  times True first second z p = not_counted enough True first second z p refl
  times False first second z p = not_counted enough False first second z p refl
  times (Sym sel) first second z p = not_counted enough (Sym sel) first second z p refl
  times (Kernel class) first second z p = not_counted enough (Kernel class) first second z p refl
  times (Ref at) first second z p = not_counted enough (Ref at) first second z p refl

  means : (fuel k : ℕ) (named : KMethod) (state : KState) (p : Progress) → fuel ≤ k → fuel ≤ enough
      → IsEnough (run meant code fuel (Begin named state site p) live) → run meant code fuel (Begin named state site p) live ≡ actions here named k state p
  means fuel k named state p le below fine = agreed _ _ fine (acts named fuel k le below state p)

  doubled : (n : ℕ) → n ≤ double n
  doubled zero = omega arith
  doubled (suc n) = let e = doubled n in omega (arith, e)

  some_fuel : (fuel : ℕ) (named : KMethod) (state : KState) (p : Progress) → fuel ≤ enough → IsEnough (run meant code fuel (Begin named state site p) live)
      → 1 ≤ enough
  some_fuel zero named state p le fine = absurd fine
  some_fuel (suc fuel) named state p le fine = omega (arith, le)

  by_method : (fuel : ℕ) (named : KMethod) (receiver first second : Value) (p : Progress) → fuel ≤ enough → TurnsAreCounted enough named receiver
      → IsEnough (run meant code fuel (method_begins named receiver first second site p) live)
      → run meant code fuel (method_begins named receiver first second site p) live
      ≡ method_row code (run meant code enough) live site enough named receiver first second p
  by_method fuel method.And receiver first second p le fits fine =
      means fuel (suc (suc enough)) method.And (beginning receiver first second (pos 0)) p (omega (arith, le)) le fine
      ∙ and_is here enough receiver first second (pos 0) p
  by_method fuel method.Or receiver first second p le fits fine =
      means fuel (suc (suc enough)) method.Or (beginning receiver first second (pos 0)) p (omega (arith, le)) le fine
      ∙ or_is here enough receiver first second (pos 0) p
  by_method fuel method.IfTrue receiver first second p le fits fine =
      means fuel (suc (suc enough)) method.IfTrue (beginning receiver first second (pos 0)) p (omega (arith, le)) le fine
      ∙ if_true_is here enough receiver first second (pos 0) p
  by_method fuel method.IfFalse receiver first second p le fits fine =
      means fuel (suc (suc enough)) method.IfFalse (beginning receiver first second (pos 0)) p (omega (arith, le)) le fine
      ∙ if_false_is here enough receiver first second (pos 0) p
  by_method fuel method.IfTrueIfFalse receiver first second p le fits fine =
      means fuel (suc (suc enough)) method.IfTrueIfFalse (beginning receiver first second (pos 0)) p (omega (arith, le)) le fine
      ∙ choice_is here enough receiver first second (pos 0) p
  by_method fuel method.IfFalseIfTrue receiver first second p le fits fine =
      means fuel (suc (suc enough)) method.IfFalseIfTrue (beginning receiver first second (pos 0)) p (omega (arith, le)) le fine
      ∙ exchanged_is here enough receiver first second (pos 0) p
  by_method fuel method.WhileTrue receiver first second p le fits fine =
      means fuel (double enough) method.WhileTrue (beginning receiver first second (pos 0)) p (let e = doubled enough in omega (arith, le, e)) le fine
      ∙ while_true_is here enough receiver first second (pos 0) p
  by_method fuel method.WhileFalse receiver first second p le fits fine =
      means fuel (double enough) method.WhileFalse (beginning receiver first second (pos 0)) p (let e = doubled enough in omega (arith, le, e)) le fine
      ∙ while_false_is here enough receiver first second (pos 0) p
  by_method fuel method.ToDo receiver first second p le fits fine =
      means fuel enough method.ToDo (beginning receiver first second (pos 0)) p le le fine
      ∙ to_do receiver first second (pos 0) p (some_fuel fuel method.ToDo (beginning receiver first second (pos 0)) p le fine) fits
  by_method fuel method.TimesRepeat receiver first second p le fits fine =
      means fuel enough method.TimesRepeat (beginning receiver first second (pos 0)) p le le fine ∙ times receiver first second (pos 0) p
  by_method fuel method.Do receiver first second p le fits fine =
      means fuel enough method.Do (beginning receiver first second (pos (length (items_of p.world.cells receiver)))) p le le fine
      ∙ do_is here enough (length (items_of p.world.cells receiver)) receiver first second p

pub methods_are_rows : (meant : Meant) (code : CodeProgram) → MethodsAreRows meant code
methods_are_rows meant code fuel enough named receiver first second site live p le fits fine =
    by_method meant code enough live site fuel named receiver first second p le fits fine
