-- What a state is said to send, its next move sends.
use Rattle.std.specs.Prelude.{option_map}
use Rattle.std.proofs.Common.{◌≡◌, List, [], ◌∷◌, refl, inl, inr, subst, Option, Some, None}
use Rattle.std.proofs.lemmas.Option.{same_Some}
use Rattle.ns_base.specs.declared.place.Place.{Place as SourcePlace}
use Rattle.ns_base.specs.declared.selector.Sel.{Sel}
use Rattle.ns_code.specs.declared.program.CodeProgram.{CodeProgram}
use Rattle.ns_code.specs.declared.instruction.Instr.{Instr}
use Rattle.ns_code.specs.declared.instruction.Instr.TheVariants as i
use Rattle.ns_world.specs.declared.value.Value.{Value}
use Rattle.ns_find.specs.declared.found.Sending.TheVariants.{Inner}
use Rattle.ns_moves.specs.Control.{Activation, Progress}
use Rattle.ns_moves.specs.Sends.{Target, To, ToPrivate, ToSuper, to_value}
use Rattle.ns_moves.specs.Sends as actions
use Rattle.ns_moves.specs.State.{Leaving, Frame, Running, Looping, Sending, Performing, Evaluating, Phase, State, Unbegun, Going, Pends, Ended, Stuck}
use Rattle.ns_moves.specs.Steps.{PlacedInstr}
use Rattle.ns_moves.specs.Arrivals.{arrived}
use Rattle.ns_moves.specs.Instructions.{executed}
use Rattle.ns_moves.specs.laws.Operands.{on_top_all, taken_all}
use Rattle.ns_audit.specs.Audit.{sent_by}
use Rattle.ns_audit.specs.NextSend.{send_of}
use Rattle.ns_audit.specs.Stated.{ComesFromSend, PerformedIsTold, SendsNext, SendsAreMade, SendsCarryPlaces}

module _ (code : CodeProgram) (phase : Phase) (leaving : Leaving) (a : Activation) (ls : List Value) (rest : List PlacedInstr) (frames : List Frame) (p : Progress) where
  abbrev Made : Sel → Option SourcePlace → State → Type 0
  Made sel place state = ComesFromSend code phase a sel place p state

  to_target : (target : Target) (sel : Sel) (values below : List Value) (place : Option SourcePlace) →
      Made sel place (arrived code phase (actions.sent code a target sel values place p) (Running leaving a ls rest below ∷ frames))
  to_target target sel values below place = inr (target, values, Running leaving a ls rest below ∷ frames, refl)

  -- an instruction that sends makes that send
  made : (instr : Instr) (place : Option SourcePlace) (stack : List Value) (sel : Sel) → sent_by instr ≡ Some sel →
      Made sel place (executed code phase instr place leaving a ls rest stack frames p)
  made i.PushNil place stack sel e = absurd (cc)
  made i.PushTrue place stack sel e = absurd (cc)
  made i.PushFalse place stack sel e = absurd (cc)
  made (i.PushInt number) place stack sel e = absurd (cc)
  made (i.PushSym name) place stack sel e = absurd (cc)
  made (i.PushText text) place stack sel e = absurd (cc)
  made i.PushSelf place stack sel e = absurd (cc)
  made (i.PushOuter level) place stack sel e = absurd (cc)
  made (i.PushLocal hops index) place stack sel e = absurd (cc)
  made (i.StoreLocal hops index) place stack sel e = absurd (cc)
  made (i.PushBlock body) place stack sel e = absurd (cc)
  made (i.MakeArray count) place stack sel e = absurd (cc)
  made i.Pop place stack sel e = absurd (cc)
  made (i.Pick number) place stack sel e = absurd (cc)
  made (i.Send name argc) place stack sel e =
      subst (λ (s : Sel). Made s place (executed code phase (i.Send name argc) place leaving a ls rest stack frames p)) (same_Some _ _ e)
      (taken_all (Made name place) (Stuck p) argc [] stack _ (inl refl)
      (λ values below. on_top_all (Made name place) (Stuck p) below _ (inl refl) (λ receiver below. to_target (to_value receiver) name values below place)))
  made (i.SendInner name argc) place stack sel e =
      subst (λ (s : Sel). Made s place (executed code phase (i.SendInner name argc) place leaving a ls rest stack frames p)) (same_Some _ _ e)
      (taken_all (Made name place) (Stuck p) argc [] stack _ (inl refl)
      (λ values below. on_top_all (Made name place) (Stuck p) below _ (inl refl) (λ receiver below. to_target (To receiver Inner) name values below place)))
  made (i.SendPrivate level name argc) place stack sel e =
      subst (λ (s : Sel). Made s place (executed code phase (i.SendPrivate level name argc) place leaving a ls rest stack frames p)) (same_Some _ _ e)
      (taken_all (Made name place) (Stuck p) argc [] stack _ (inl refl) (λ values below. to_target (ToPrivate level) name values below place))
  made (i.SendSuper name argc) place stack sel e =
      subst (λ (s : Sel). Made s place (executed code phase (i.SendSuper name argc) place leaving a ls rest stack frames p)) (same_Some _ _ e)
      (taken_all (Made name place) (Stuck p) argc [] stack _ (inl refl) (λ values below. to_target ToSuper name values below place))
  made (i.InitSuper argc) place stack sel e = absurd (cc)
  made (i.StoreSlot slot) place stack sel e = absurd (cc)
  made i.Return place stack sel e = absurd (cc)
  made i.ReturnSelf place stack sel e = absurd (cc)
  made i.ReturnHome place stack sel e = absurd (cc)
  made (i.Jump target) place stack sel e = absurd (cc)
  made (i.JumpFalse target) place stack sel e = absurd (cc)
  made (i.JumpTrue target) place stack sel e = absurd (cc)

pub sends_made : (code : CodeProgram) → SendsAreMade code
sends_made code (Unbegun arguments progress) one e = absurd (cc)
sends_made code (Going phase [] progress) one e = absurd (cc)
sends_made code (Going phase (Running leaving a ls [] stack ∷ frames) progress) one e = absurd (cc)
sends_made code (Going phase (Running leaving a ls (step ∷ rest) stack ∷ frames) progress) one e = by (sent_by step.0) refl e
  where
    by : (o : Option Sel) → sent_by step.0 ≡ o → option_map (send_of a.body) o ≡ Some one →
        SendsNext code (Going phase (Running leaving a ls (step ∷ rest) stack ∷ frames) progress) one
    by None sends is = absurd (cc)
    by (Some sel) sends is =
        let same : send_of a.body sel ≡ one = same_Some _ _ is in
        subst (SendsNext code (Going phase (Running leaving a ls (step ∷ rest) stack ∷ frames) progress)) same
        (refl, made code phase leaving a ls rest frames progress step.0 step.1 stack sel sends)
sends_made code (Going phase (Looping method state site ∷ frames) progress) one e = absurd (cc)
sends_made code (Pends phase (Sending receiver sel arguments site) frames progress) one e = absurd (cc)
sends_made code (Pends phase (Performing receiver sel array site) [] progress) one e = absurd (cc)
sends_made code (Pends phase (Performing receiver sel array site) (Running leaving a ls rest stack ∷ frames) progress) one e =
    let same : send_of a.body sel ≡ one = same_Some _ _ e in
    subst (SendsNext code (Pends phase (Performing receiver sel array site) (Running leaving a ls rest stack ∷ frames) progress)) same (refl, refl)
sends_made code (Pends phase (Performing receiver sel array site) (Looping method state named ∷ frames) progress) one e = absurd (cc)
sends_made code (Pends phase (Evaluating block arguments site) frames progress) one e = absurd (cc)
sends_made code (Ended ending phase progress) one e = absurd (cc)
sends_made code (Stuck progress) one e = absurd (cc)

pub sends_carry : SendsCarryPlaces
sends_carry i.PushNil = refl
sends_carry i.PushTrue = refl
sends_carry i.PushFalse = refl
sends_carry (i.PushInt number) = refl
sends_carry (i.PushSym sel) = refl
sends_carry (i.PushText text) = refl
sends_carry i.PushSelf = refl
sends_carry (i.PushOuter level) = refl
sends_carry (i.PushLocal hops index) = refl
sends_carry (i.StoreLocal hops index) = refl
sends_carry (i.PushBlock body) = refl
sends_carry (i.MakeArray count) = refl
sends_carry i.Pop = refl
sends_carry (i.Pick number) = refl
sends_carry (i.Send sel argc) = refl
sends_carry (i.SendInner sel argc) = refl
sends_carry (i.SendPrivate level sel argc) = refl
sends_carry (i.SendSuper sel argc) = refl
sends_carry (i.InitSuper argc) = refl
sends_carry (i.StoreSlot slot) = refl
sends_carry i.Return = refl
sends_carry i.ReturnSelf = refl
sends_carry i.ReturnHome = refl
sends_carry (i.Jump target) = refl
sends_carry (i.JumpFalse target) = refl
sends_carry (i.JumpTrue target) = refl

pub performed_told : PerformedIsTold
performed_told phase receiver sel array site leaving a ls stack rest frames progress = refl
