-- Runs over codes that act alike, with more fuel or as much, agree: where the fuel was enough they come to the same.
use Rattle.std.proofs.Common.{◌≡◌, ℕ, zero, suc, ◌≤◌, List, [], ◌∷◌, refl, sym, subst, ap, ap₂, ◌∙◌, arith}
use Rattle.std.specs.Prelude.{Some}
use Rattle.ns_code.specs.declared.program.CodeProgram.{CodeProgram}
use Rattle.ns_world.specs.declared.value.Value.{Value}
use Rattle.ns_world.specs.declared.value.Value.TheVariants.{Sym}
use Rattle.ns_world.specs.declared.kernel_parts.KMethod.{KMethod}
use Rattle.ns_moves.specs.declared.site.Site.{Site}
use Rattle.ns_moves.specs.Control.{Progress, Activation, Exit, Control, Now, Enter, Evaluate, Begin, Perform, frame_left}
use Rattle.ns_moves.specs.Control.{PartControl, Skip, Stop, EnterPart, Waiting, Waits, Finishes}
use Rattle.ns_moves.specs.Classes.{super_part, slot_filled, body_ended}
use Rattle.ns_moves.specs.Blocks.{evaluated, method_next, taken, new_block, new_text, new_array}
use Rattle.ns_moves.specs.Sends.{Target, ToSuper, to_value, sent, performed}
use Rattle.ns_resolved.specs.Program as m
use Rattle.ns_resolved.specs.Tables.{sel_of}
use Rattle.ns_model.specs.Outcome.{Completion, Yields, Returns, Ends, Spent, bind, settled, back, passed, is_home, homes_in, is_live}
use Rattle.ns_model.specs.Outcome.{going_home, caught, finish, finish_part}
use Rattle.ns_model.specs.Eval.{Call, PartCall, reached_by, send_made, local_set, eval, eval_all, eval_messages, locals_begun, slots_filled}
use Rattle.ns_model.specs.Eval.{each_evaluated, method_steps, block_steps, part_made, eval_initialiser, eval_body}
use Rattle.ns_model.specs.Run.{does_at, gone_on, run_part, run}
use Rattle.ns_model.specs.Tables.{ActAlike}
use Rattle.ns_model.specs.Laws.{IsEnough}

-- ---- outcomes that are the same where the fuel of the first was enough

abbrev pub Agrees : {A : Type 0} → Completion A → Completion A → Type 0
Agrees (Yields v ls p) o = Yields v ls p ≡ o
Agrees (Returns h v p) o = Returns h v p ≡ o
Agrees (Ends e p) o = Ends e p ≡ o
Agrees Spent o = Unit {0}

agree : {A : Type 0} (o : Completion A) → Agrees o o
agree (Yields v ls p) = refl
agree (Returns h v p) = refl
agree (Ends e p) = refl
agree Spent = tt

agree_on : {A : Type 0} (o o' : Completion A) → o ≡ o' → Agrees o o'
agree_on o o' e = subst (Agrees o) e (agree o)

-- where the fuel was enough they are the same
pub agreed : {A : Type 0} (o o' : Completion A) → IsEnough o → Agrees o o' → o ≡ o'
agreed (Yields v ls p) o' enough e = e
agreed (Returns h v p) o' enough e = e
agreed (Ends e p) o' enough same = same
agreed Spent o' enough e = absurd enough

spent_last : {A : Type 0} (o : Completion A) → Agrees o Spent → o ≡ Spent
spent_last (Yields v ls p) e = e
spent_last (Returns h v p) e = e
spent_last (Ends e p) same = same
spent_last Spent e = refl

-- and where each agrees with the other
pub agreed_both : {A : Type 0} (o o' : Completion A) → Agrees o o' → Agrees o' o → o ≡ o'
agreed_both (Yields v ls p) o' e f = e
agreed_both (Returns h v p) o' e f = e
agreed_both (Ends e p) o' same f = same
agreed_both Spent o' e f = sym (spent_last o' f)

pub agree_bind : {A B : Type 0} (o o' : Completion A) (k k' : A → List Value → Progress → Completion B) → Agrees o o'
    → ((v : A) (ls : List Value) (p : Progress) → Agrees (k v ls p) (k' v ls p)) → Agrees (bind o k) (bind o' k')
agree_bind (Yields v ls p) o' k k' e f = subst (λ o. Agrees (k v ls p) (bind o k')) e (f v ls p)
agree_bind (Returns h v p) o' k k' e f = ap (λ o. bind o k') e
agree_bind (Ends ending p) o' k k' e f = ap (λ o. bind o k') e
agree_bind Spent o' k k' e f = tt

agree_back : {A : Type 0} (ls : List Value) (o o' : Completion A) → Agrees o o' → Agrees (back ls o) (back ls o')
agree_back ls o o' e = agree_bind o o' _ (λ v others p. Yields v ls p) e (λ v others p. refl)

pub agree_passed : (o o' : Completion Value) → Agrees o o' → Agrees (passed o) (passed o')
agree_passed (Yields v ls p) o' e = ap passed e
agree_passed (Returns h v p) o' e = ap passed e
agree_passed (Ends ending p) o' e = ap passed e
agree_passed Spent o' e = tt

agree_finish_part : (o o' : Completion Value) → Agrees o o' → Agrees (finish_part o) (finish_part o')
agree_finish_part (Yields v ls p) o' e = ap finish_part e
agree_finish_part (Returns h v p) o' e = ap finish_part e
agree_finish_part (Ends ending p) o' e = ap finish_part e
agree_finish_part Spent o' e = tt

agree_finish : (code other : CodeProgram) → ActAlike code other → (exit : Exit) (a : Activation) (o o' : Completion Value) → Agrees o o'
    → Agrees (finish code exit a o) (finish other exit a o')
agree_finish code other alike exit a (Yields v ls p) o' e =
    agree_on (settled [] (body_ended code exit a v p)) (finish other exit a o') (ap (settled []) (alike.ends exit a v p) ∙ ap (finish other exit a) e)
agree_finish code other alike exit a (Returns h v p) o' e =
    subst (λ o. Agrees (finish code exit a (Returns h v p)) (finish other exit a o)) e (agree (caught (is_home exit a.home h) h v (frame_left p)))
agree_finish code other alike exit a (Ends ending p) o' e = ap (finish other exit a) e
agree_finish code other alike exit a Spent o' e = tt

abbrev CallsAgree : Call → Call → Type 0
CallsAgree call call' = (c : Control) (live : List ℕ) → Agrees (call c live) (call' c live)

abbrev PartsAgree : PartCall → PartCall → Type 0
PartsAgree part part' = (c : PartControl) (live : List ℕ) → Agrees (part c live) (part' c live)

-- a call of what is the same
called : (call call' : Call) (c c' : Control) (live : List ℕ) → CallsAgree call call' → c ≡ c' → Agrees (call c live) (call' c' live)
called call call' c c' live ok same = subst (λ other. Agrees (call c live) (call' other live)) same (ok c live)

module _ (code other : CodeProgram) (alike : ActAlike code other) (names : other.names ≡ code.names) (call call' : Call) (part part' : PartCall)
    (a : Activation) (live : List ℕ) (call_ok : CallsAgree call call') (part_ok : PartsAgree part part') where
  same_send : (target : Target) (message : m.Sent) (vs ls : List Value) (p : Progress)
      → Agrees (send_made code call part a live target message vs ls p) (send_made other call' part' a live target message vs ls p)
  same_send target message vs ls p =
      let sel = sel_of code.names message.selector in
      agree_back ls _ _
      (called call call' (sent code a target sel vs (Some message.place) p)
      (sent other a target (sel_of other.names message.selector) vs (Some message.place) p) live call_ok
      (alike.sends a target sel vs (Some message.place) p
      ∙ ap (λ names. sent other a target (sel_of names message.selector) vs (Some message.place) p) (sym names)))

  same_set : (hops index : ℕ) (v : Value) (ls : List Value) (p : Progress)
      → Agrees (local_set code call part a live hops index v ls p) (local_set other call' part' a live hops index v ls p)
  same_set hops index v ls p = ap₂ (λ ls p. Yields v ls p) (alike.sets a ls hops index v) (alike.stores a hops index v p)

  mutual
    pub same : (e : m.Node) (ls : List Value) (p : Progress) → Agrees (eval code call part a live e ls p) (eval other call' part' a live e ls p)
    same m.nil_value ls p = refl
    same m.true_value ls p = refl
    same m.false_value ls p = refl
    same (m.integer k) ls p = refl
    same (m.text bytes) ls p = agree (settled ls (new_text bytes p))
    same (m.symbol bytes) ls p = ap (λ names. Yields (Sym (sel_of names bytes)) ls p) (sym names)
    same m.self_value ls p = refl
    same (m.local hops index) ls p = ap (λ v. Yields v ls p) (alike.reads p.world.cells a ls hops index)
    same (m.set_local hops index e) ls p = agree_bind _ _ _ _ (same e ls p) (same_set hops index)
    same (m.set_by_send reach message e) ls p =
        agree_bind _ _ _ _ (same e ls p)
        (λ v ls p. agree_bind _ _ _ (λ answer ls p. Yields v ls p) (same_send (reached_by reach a p) message (v ∷ []) ls p) (λ answer ls p. refl))
    same (m.array items) ls p =
        agree_bind _ _ _ (λ vs ls p. settled ls (new_array vs p)) (same_all items ls p) (λ vs ls p. agree (settled ls (new_array vs p)))
    same (m.block body) ls p = agree (settled ls (new_block a body p))
    same (m.send e message args) ls p =
        agree_bind _ _ _ _ (same e ls p) (λ v ls p. agree_bind _ _ _ _ (same_all args ls p) (same_send (to_value v) message))
    same (m.send_to reach message args) ls p = agree_bind _ _ _ _ (same_all args ls p) (same_send (reached_by reach a p) message)
    same (m.send_super message args) ls p = agree_bind _ _ _ _ (same_all args ls p) (same_send ToSuper message)
    same (m.cascade e messages) ls p = agree_bind _ _ _ _ (same e ls p) (λ v ls p. same_messages messages v ls p)
    same (m.in_turn e then_node) ls p = agree_bind _ _ _ _ (same e ls p) (λ v ls p. same then_node ls p)

    pub same_all : (args : m.Nodes) (ls : List Value) (p : Progress)
        → Agrees (eval_all code call part a live args ls p) (eval_all other call' part' a live args ls p)
    same_all m.no_nodes ls p = refl
    same_all (m.more_nodes e more) ls p =
        agree_bind _ _ _ _ (same e ls p) (λ v ls p. agree_bind _ _ _ (λ vs ls p. Yields (v ∷ vs) ls p) (same_all more ls p) (λ vs ls p. refl))

    pub same_messages : (ms : m.Messages) (v : Value) (ls : List Value) (p : Progress)
        → Agrees (eval_messages code call part a live ms v ls p) (eval_messages other call' part' a live ms v ls p)
    same_messages (m.last_message message args) v ls p = agree_bind _ _ _ _ (same_all args ls p) (same_send (to_value v) message)
    same_messages (m.more_messages message args more) v ls p =
        agree_bind _ _ _ _ (agree_bind _ _ _ _ (same_all args ls p) (same_send (to_value v) message)) (λ answer ls p. same_messages more v ls p)

  same_locals : (firsts : List m.First) (ls : List Value) (p : Progress)
      → Agrees (locals_begun code call part a live firsts ls p) (locals_begun other call' part' a live firsts ls p)
  same_locals [] ls p = refl
  same_locals (first ∷ firsts) ls p =
      agree_bind _ _ _ _ (agree_bind _ _ _ _ (same first.value ls p) (same_set 0 first.index)) (λ v ls p. same_locals firsts ls p)

  same_slots : (firsts : List m.First) (ls : List Value) (p : Progress)
      → Agrees (slots_filled code call part a live firsts ls p) (slots_filled other call' part' a live firsts ls p)
  same_slots [] ls p = refl
  same_slots (first ∷ firsts) ls p =
      agree_bind _ _ _ _ (same first.value ls p)
      (λ v ls p.
      subst (λ q. Agrees (slots_filled code call part a live firsts ls (slot_filled code a first.index v p))
      (slots_filled other call' part' a live firsts ls q)) (alike.fills a first.index v p)
      (same_slots firsts ls (slot_filled code a first.index v p)))

  same_each : (nodes : List m.Node) (ls : List Value) (p : Progress)
      → Agrees (each_evaluated code call part a live nodes ls p) (each_evaluated other call' part' a live nodes ls p)
  same_each [] ls p = refl
  same_each (node ∷ nodes) ls p = agree_bind _ _ _ _ (same node ls p) (λ v ls p. same_each nodes ls p)

  same_method : (steps : List m.Step) (ls : List Value) (p : Progress)
      → Agrees (method_steps code call part a live steps ls p) (method_steps other call' part' a live steps ls p)
  same_method [] ls p = refl
  same_method (m.evaluate node ∷ steps) ls p = agree_bind _ _ _ _ (same node ls p) (λ v ls p. same_method steps ls p)
  same_method (m.return node ∷ steps) ls p = same node ls p

  same_block : (steps : List m.Step) (ls : List Value) (p : Progress)
      → Agrees (block_steps code call part a live steps ls p) (block_steps other call' part' a live steps ls p)
  same_block [] ls p = refl
  same_block (m.evaluate node ∷ []) ls p = same node ls p
  same_block (m.evaluate node ∷ (step ∷ steps)) ls p = agree_bind _ _ _ _ (same node ls p) (λ v ls p. same_block (step ∷ steps) ls p)
  same_block (m.return node ∷ steps) ls p =
      agree_bind _ _ _ (λ v ls p. going_home (is_live live a.home) a v p) (same node ls p) (λ v ls p. agree (going_home (is_live live a.home) a v p))

  same_part : (vs ls : List Value) (p : Progress) → Agrees (part_made code call part a live vs ls p) (part_made other call' part' a live vs ls p)
  same_part vs ls p =
      agree_back ls _ _
      (subst (λ c. Agrees (part (super_part code a vs p) live) (part' c live)) (alike.parts a vs p) (part_ok (super_part code a vs p) live))

  same_initialiser : (init : m.Initialiser) (ls : List Value) (p : Progress)
      → Agrees (eval_initialiser code call part a live init ls p) (eval_initialiser other call' part' a live init ls p)
  same_initialiser init ls p =
      agree_bind _ _ _ _ (agree_bind _ _ _ _ (same_all init.arguments ls p) same_part)
      (λ u ls p. agree_bind _ _ _ _ (same_slots init.slots ls p)
      (λ u ls p. agree_bind _ _ _ (λ u ls p. Yields a.self ls p) (same_each init.expressions ls p) (λ u ls p. refl)))

  pub same_body : (d : m.Does) (ls : List Value) (p : Progress) → Agrees (eval_body code call part a live d ls p) (eval_body other call' part' a live d ls p)
  same_body (m.as_method firsts steps) ls p = agree_bind _ _ _ _ (same_locals firsts ls p) (λ u ls p. same_method steps ls p)
  same_body (m.as_block firsts steps) ls p = agree_bind _ _ _ _ (same_locals firsts ls p) (λ u ls p. same_block steps ls p)
  same_body (m.as_initialiser init) ls p = same_initialiser init ls p
  same_body (m.as_clause e) ls p = same e ls p

module _ (meant : m.Meant) (code other : CodeProgram) (alike : ActAlike code other) (names : other.names ≡ code.names) where
  same_chain : (call call' : Call) → CallsAgree call call' → (above : ℕ) → PartsAgree (run_part meant code call above) (run_part meant other call' above)
  same_chain call call' ok above (Skip p) live = refl
  same_chain call call' ok above (Stop e p) live = refl
  same_chain call call' ok zero (EnterPart a ls p) live = tt
  same_chain call call' ok (suc above) (EnterPart a ls p) live =
      agree_finish_part _ _
      (same_body code other alike names call call' (run_part meant code call above) (run_part meant other call' above) a live ok
      (same_chain call call' ok above) (does_at meant a.body) ls p)

  same_gone : (call call' : Call) → CallsAgree call call' → (named : KMethod) (site : Site) (w : Waiting) (live : List ℕ)
      → Agrees (gone_on code call named site w live) (gone_on other call' named site w live)
  same_gone call call' ok named site (Finishes after) live = agree (settled [] after)
  same_gone call call' ok named site (Waits block arguments state p) live =
      agree_bind _ _ _ _
      (agree_passed _ _ (called call call' (evaluated code block arguments site p) (evaluated other block arguments site p) live ok
      (alike.evaluates block arguments site p)))
      (λ v ls p. ok (Begin named (taken state v) site p) live)

  -- with more fuel, or as much
  pub runs_agree : (n k : ℕ) → n ≤ k → CallsAgree (run meant code n) (run meant other k)
  runs_agree n k le (Now after) live = agree (settled [] after)
  runs_agree zero k le (Enter exit a ls p) live = tt
  runs_agree zero k le (Evaluate block arguments site p) live = tt
  runs_agree zero k le (Begin named state site p) live = tt
  runs_agree zero k le (Perform receiver sel array site p) live = tt
  runs_agree (suc n) zero le (Enter exit a ls p) live = absurd (omega (arith, le))
  runs_agree (suc n) zero le (Evaluate block arguments site p) live = absurd (omega (arith, le))
  runs_agree (suc n) zero le (Begin named state site p) live = absurd (omega (arith, le))
  runs_agree (suc n) zero le (Perform receiver sel array site p) live = absurd (omega (arith, le))
  runs_agree (suc n) (suc k) le (Enter exit a ls p) live =
      let ok = runs_agree n k (omega (arith, le)) in
      agree_finish code other alike exit a _ _
      (same_body code other alike names (run meant code n) (run meant other k) (run_part meant code (run meant code n) a.holder)
      (run_part meant other (run meant other k) a.holder) a (homes_in exit a.home live) ok (same_chain (run meant code n) (run meant other k) ok a.holder)
      (does_at meant a.body) ls p)
  runs_agree (suc n) (suc k) le (Evaluate block arguments site p) live =
      called (run meant code n) (run meant other k) (evaluated code block arguments site p) (evaluated other block arguments site p) live
      (runs_agree n k (omega (arith, le))) (alike.evaluates block arguments site p)
  runs_agree (suc n) (suc k) le (Begin named state site p) live =
      same_gone (run meant code n) (run meant other k) (runs_agree n k (omega (arith, le))) named site (method_next named state site p) live
  runs_agree (suc n) (suc k) le (Perform receiver sel array site p) live =
      called (run meant code n) (run meant other k) (performed code receiver sel array site p) (performed other receiver sel array site p) live
      (runs_agree n k (omega (arith, le))) (alike.performs receiver sel array site p)
