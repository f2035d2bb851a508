-- The machine does what calls mean.
use Rattle.std.proofs.Common.{◌≡◌, ℕ, zero, suc, List, [], ◌∷◌, refl, sym, ap, subst}
use Rattle.std.specs.Prelude.{Bool, true, false, cond, ◌==◌}
use Rattle.ns_code.specs.declared.program.CodeProgram.{CodeProgram}
use Rattle.ns_world.specs.declared.value.Value.{Value}
use Rattle.ns_world.specs.declared.kernel_parts.KMethod.{KMethod}
use Rattle.ns_kcode.specs.declared.state.KState.{KState}
use Rattle.ns_moves.specs.declared.site.Site.{Site}
use Rattle.ns_moves.specs.Control.{Progress, Activation, Exit, FromMethod, FromBody, FromClause, Now, Enter, Evaluate, frame_left}
use Rattle.ns_moves.specs.Control.{Begin, Perform, Skip, Stop, EnterPart, Waiting, Waits, Finishes}
use Rattle.ns_moves.specs.Classes.{body_ended}
use Rattle.ns_moves.specs.Blocks.{evaluated, method_next, taken}
use Rattle.ns_moves.specs.Sends.{performed}
use Rattle.ns_resolved.specs.Program.{Meant}
use Rattle.ns_resolved.specs.Tables.{gathered, node_texts, nodes_texts}
use Rattle.ns_model.specs.Outcome.{Completion, Yields, Returns, Ends, Spent, passed, caught, finish, finish_part, is_home}
use Rattle.ns_model.specs.Eval.{Call}
use Rattle.ns_model.specs.Run.{does_at, gone_on, run_part, run}
use Rattle.ns_gen_code.specs.Code.{body_lines}
use Rattle.ns_moves.specs.Steps.{steps_of}
use Rattle.ns_moves.specs.State.{Leaving, Loud, Silent, Frame, Running, Looping, Phase, State, Going}
use Rattle.ns_moves.specs.Returns.{unwound, delivered, returned}
use Rattle.ns_moves.specs.Arrivals.{arrived, acted_on}
use Rattle.ns_link.specs.Shown.{shown, homes}
use Rattle.ns_link.proofs.Lands.{Reaches, here, step, Lands, first, seq, gives}
use Rattle.ns_link.proofs.Sim.{CallOk, PartOk, Texts, sim_body}

-- the code of a body is that of its tree
pub record Coded (meant : Meant) (code : CodeProgram) (body : ℕ) : Type 0 where
  pub text : ℕ
  pub is : steps_of code body ≡ shown code.names (body_lines text (does_at meant body))
  pub texts : Texts code text (gathered node_texts nodes_texts (does_at meant body))

module _ (code : CodeProgram) (phase : Phase) where
  caught_ok : (b : Bool) (s : State) (h : ℕ) (v : Value) (p : Progress) (fs : List Frame)
      → Reaches code s (cond b (delivered code phase v fs p) (unwound code phase h v fs p))
      → Lands code phase s (λ v _ p. delivered code phase v fs p) fs (caught b h v p)
  caught_ok true s h v p fs r = r
  caught_ok false s h v p fs r = r

  -- a return comes to a body's frame
  returns_ok : (exit : Exit) (a : Activation) (s : State) (h : ℕ) (v : Value) (p : Progress) (fs : List Frame)
      → Reaches code s (unwound code phase h v (Running (Loud exit) a [] [] [] ∷ fs) p)
      → Lands code phase s (λ v _ p. delivered code phase v fs p) fs (caught (is_home exit a.home h) h v (frame_left p))
  returns_ok FromMethod a s h v p fs r = caught_ok (a.home == h) s h v (frame_left p) fs r
  returns_ok FromBody a s h v p fs r = r
  returns_ok (FromClause o g c) a s h v p fs r = r

  finish_ok : (exit : Exit) (a : Activation) (s : State) (fs : List Frame) (o : Completion Value)
      → Lands code phase s (λ v _ p. returned code phase (Loud exit) a v fs p) (Running (Loud exit) a [] [] [] ∷ fs) o
      → Lands code phase s (λ v _ p. delivered code phase v fs p) fs (finish code exit a o)
  finish_ok exit a s fs (Yields v ls p) r = gives code phase s fs [] (body_ended code exit a v p) r
  finish_ok exit a s fs (Returns h v p) r = returns_ok exit a s h v p fs r
  finish_ok exit a s fs (Ends e p) r = r
  finish_ok exit a s fs Spent r = tt

  finish_part_ok : (a : Activation) (s : State) (fs : List Frame) (o : Completion Value)
      → Lands code phase s (λ v _ p. returned code phase Silent a v fs p) (Running Silent a [] [] [] ∷ fs) o
      → Lands code phase s (λ _ _ p. Going phase fs p) fs (finish_part o)
  finish_part_ok a s fs (Yields v ls p) r = r
  finish_part_ok a s fs (Returns h v p) r = r
  finish_part_ok a s fs (Ends e p) r = r
  finish_part_ok a s fs Spent r = tt

  passed_ok : (named : KMethod) (state : KState) (site : Site) (s : State) (good : Value → List Value → Progress → State) (fs : List Frame)
      (o : Completion Value) → Lands code phase s good (Looping named state site ∷ fs) o → Lands code phase s good fs (passed o)
  passed_ok named state site s good fs (Yields v ls p) r = r
  passed_ok named state site s good fs (Returns h v p) r = r
  passed_ok named state site s good fs (Ends e p) r = r
  passed_ok named state site s good fs Spent r = tt

  gone_on_ok : (call : Call) → CallOk code phase call → (named : KMethod) (site : Site) (w : Waiting) (fs : List Frame)
      → Lands code phase (acted_on code phase named site w fs) (λ v _ p. delivered code phase v fs p) fs (gone_on code call named site w (homes fs))
  gone_on_ok call ok named site (Finishes after) fs = gives code phase _ fs [] after (here code _)
  gone_on_ok call ok named site (Waits block arguments state p) fs =
      seq code phase _ (λ v _ p. Going phase (Looping named (taken state v) site ∷ fs) p) (λ v _ p. delivered code phase v fs p) fs _ _
      (passed_ok named state site _ _ fs _
      (first code phase _ (arrived code phase (evaluated code block arguments site p) (Looping named state site ∷ fs)) (λ v _ p.
      delivered code phase v (Looping named state site ∷ fs) p) (Looping named state site ∷ fs) _ (step code _ _ refl)
      (ok (evaluated code block arguments site p) (Looping named state site ∷ fs))))
      (λ v _ p. ok (Begin named (taken state v) site p) fs)

module _ (meant : Meant) (code : CodeProgram) (phase : Phase) (coded : (body : ℕ) → Coded meant code body) where
  -- a frame that begins, by its tree
  begun : (x : Leaving) (a : Activation) (ls : List Value) (fs : List Frame) (p : Progress)
      → Going phase (Running x a ls (steps_of code a.body) [] ∷ fs) p ≡ Going phase
      (Running x a ls (shown code.names (body_lines (coded a.body).text (does_at meant a.body))) [] ∷ fs) p
  begun x a ls fs p = ap (λ steps. Going phase (Running x a ls steps [] ∷ fs) p) (coded a.body).is

  part_ok : (call : Call) → CallOk code phase call → (n : ℕ) → PartOk code phase (run_part meant code call n)
  part_ok call ok n (Skip p) fs = here code _
  part_ok call ok n (Stop e p) fs = here code _
  part_ok call ok zero (EnterPart a ls p) fs = tt
  part_ok call ok (suc n) (EnterPart a ls p) fs =
      subst (λ s. Lands code phase s (λ _ _ p. Going phase fs p) fs (run_part meant code call (suc n) (EnterPart a ls p) (homes fs)))
      (sym (begun Silent a ls fs p))
      (finish_part_ok code phase a _ fs _ (sim_body code phase call (run_part meant code call n) ok
      (part_ok call ok n) Silent a fs (does_at meant a.body) (coded a.body).text ls p (coded a.body).texts))

  pub run_ok : (n : ℕ) → CallOk code phase (run meant code n)
  run_ok n (Now after) fs = gives code phase _ fs [] after (here code _)
  run_ok zero (Enter exit a ls p) fs = tt
  run_ok zero (Evaluate block arguments site p) fs = tt
  run_ok zero (Begin named state site p) fs = tt
  run_ok zero (Perform receiver sel array site p) fs = tt
  run_ok (suc n) (Enter exit a ls p) fs =
      subst (λ s. Lands code phase s (λ v _ p. delivered code phase v fs p) fs (run meant code (suc n) (Enter exit a ls p) (homes fs)))
      (sym (begun (Loud exit) a ls fs p))
      (finish_ok code phase exit a _ fs _ (sim_body code phase (run meant code n) (run_part meant code (run meant code n) a.holder)
      (run_ok n) (part_ok (run meant code n) (run_ok n) a.holder) (Loud exit) a fs
      (does_at meant a.body) (coded a.body).text ls p (coded a.body).texts))
  run_ok (suc n) (Evaluate block arguments site p) fs =
      first code phase _ (arrived code phase (evaluated code block arguments site p) fs) (λ v _ p. delivered code phase v fs p) fs _ (step code _ _ refl)
      (run_ok n (evaluated code block arguments site p) fs)
  run_ok (suc n) (Begin named state site p) fs =
      first code phase _ (acted_on code phase named site (method_next named state site p) fs) (λ v _ p. delivered code phase v fs p) fs _ (step code _ _ refl)
      (gone_on_ok code phase (run meant code n) (run_ok n) named site (method_next named state site p) fs)
  run_ok (suc n) (Perform receiver sel array site p) fs =
      first code phase _ (arrived code phase (performed code receiver sel array site p) fs) (λ v _ p. delivered code phase v fs p) fs _ (step code _ _ refl)
      (run_ok n (performed code receiver sel array site p) fs)
