-- A return that a call leaves goes to a home that is live.
use Rattle.std.proofs.Common.{◌≡◌, ℕ, zero, suc, List, [], ◌∷◌, refl}
use Rattle.std.specs.Prelude.{Bool, true, false, ◌==◌, ◌||◌, Some}
use Rattle.ns_code.specs.declared.program.CodeProgram.{CodeProgram}
use Rattle.ns_world.specs.declared.value.Value.{Value}
use Rattle.ns_world.specs.declared.kernel_parts.KMethod.{KMethod}
use Rattle.ns_moves.specs.declared.site.Site.{Site}
use Rattle.ns_moves.specs.Control.{Progress, Activation, Exit, FromMethod, FromBody, FromClause, After, Gives, Halts, Control, Now, Enter, Evaluate, frame_left}
use Rattle.ns_moves.specs.Control.{Begin, Perform, PartControl, Skip, Stop, EnterPart, Waiting, Waits, Finishes}
use Rattle.ns_moves.specs.Classes.{super_part, slot_filled, body_ended}
use Rattle.ns_moves.specs.Blocks.{evaluated, method_next, taken, new_block, new_text, new_array}
use Rattle.ns_moves.specs.Sends.{Target, ToSuper, to_value, sent, performed}
use Rattle.ns_resolved.specs.Program as m
use Rattle.ns_resolved.specs.Tables.{sel_of}
use Rattle.ns_model.specs.Outcome.{Completion, Yields, Returns, Ends, Spent, bind, settled, back, passed, homes_in, is_live}
use Rattle.ns_model.specs.Outcome.{going_home, caught, finish, finish_part}
use Rattle.ns_model.specs.Eval.{Call, PartCall, reached_by, send_made, eval, eval_all, eval_messages, locals_begun, slots_filled, each_evaluated}
use Rattle.ns_model.specs.Eval.{method_steps, block_steps, eval_initialiser, eval_body}
use Rattle.ns_model.specs.Run.{does_at, gone_on, run_part, run}
use Rattle.ns_model.specs.Laws.{GoesHome}

home_bind : {A B : Type 0} (live : List ℕ) (o : Completion A) (k : A → List Value → Progress → Completion B) → GoesHome live o
    → ((v : A) (ls : List Value) (p : Progress) → GoesHome live (k v ls p)) → GoesHome live (bind o k)
home_bind live (Yields v ls p) k h m = m v ls p
home_bind live (Returns home v p) k h m = h
home_bind live (Ends e p) k h m = tt
home_bind live Spent k h m = tt

home_settled : (live : List ℕ) (ls : List Value) (after : After) → GoesHome live (settled ls after)
home_settled live ls (Gives v p) = tt
home_settled live ls (Halts e p) = tt

home_passed : (live : List ℕ) (o : Completion Value) → GoesHome live o → GoesHome live (passed o)
home_passed live (Yields v ls p) h = tt
home_passed live (Returns home v p) h = h
home_passed live (Ends e p) h = tt
home_passed live Spent h = tt

home_going : (live : List ℕ) (a : Activation) (v : Value) (p : Progress) (b : Bool) → is_live live a.home ≡ b →
    GoesHome live (going_home b a v p)
home_going live a v p true e = e
home_going live a v p false e = tt

or_second : (b c : Bool) → (b || c) ≡ true → b ≡ false → c ≡ true
or_second true c e f = absurd (cc)
or_second false c e f = e

home_caught : (live : List ℕ) (own home : ℕ) (v : Value) (p : Progress) → is_live (own ∷ live) home ≡ true →
    GoesHome live (caught (own == home) home v p)
home_caught live own home v p e = tested (own == home) refl
  where
    tested : (b : Bool) → (own == home) ≡ b → GoesHome live (caught b home v p)
    tested true f = tt
    tested false f = or_second (own == home) (is_live live home) e f

home_finish : (code : CodeProgram) (exit : Exit) (a : Activation) (live : List ℕ) (o : Completion Value) →
    GoesHome (homes_in exit a.home live) o
    → GoesHome live (finish code exit a o)
home_finish code exit a live (Yields v ls p) h = home_settled live [] (body_ended code exit a v p)
home_finish code FromMethod a live (Returns home v p) h = home_caught live a.home home v (frame_left p) h
home_finish code FromBody a live (Returns home v p) h = h
home_finish code (FromClause object holder class) a live (Returns home v p) h = h
home_finish code exit a live (Ends e p) h = tt
home_finish code exit a live Spent h = tt

home_finish_part : (live : List ℕ) (o : Completion Value) → GoesHome live o → GoesHome live (finish_part o)
home_finish_part live (Yields v ls p) h = tt
home_finish_part live (Returns home v p) h = h
home_finish_part live (Ends e p) h = tt
home_finish_part live Spent h = tt

abbrev pub CallHome : Call → Type 0
CallHome call = (c : Control) (live : List ℕ) → GoesHome live (call c live)

abbrev pub PartHome : PartCall → Type 0
PartHome part = (c : PartControl) (live : List ℕ) → GoesHome live (part c live)

module _ (code : CodeProgram) (call : Call) (part : PartCall) (a : Activation) (live : List ℕ) (call_home : CallHome call) (part_home : PartHome part) where
  home_back : {A : Type 0} (ls : List Value) (o : Completion A) → GoesHome live o → GoesHome live (back ls o)
  home_back ls o h = home_bind live o (λ v others p. Yields v ls p) h (λ v others p. tt)

  home_send : (target : Target) (message : m.Sent) (vs ls : List Value) (p : Progress) → GoesHome live (send_made code call part a live target message vs ls p)
  home_send target message vs ls p =
      let c = sent code a target (sel_of code.names message.selector) vs (Some message.place) p in
      home_back ls (call c live) (call_home c live)

  mutual
    pub home : (e : m.Node) (ls : List Value) (p : Progress) → GoesHome live (eval code call part a live e ls p)
    home m.nil_value ls p = tt
    home m.true_value ls p = tt
    home m.false_value ls p = tt
    home (m.integer n) ls p = tt
    home (m.text bytes) ls p = home_settled live ls (new_text bytes p)
    home (m.symbol bytes) ls p = tt
    home m.self_value ls p = tt
    home (m.local hops index) ls p = tt
    home (m.set_local hops index e) ls p = home_bind live (eval code call part a live e ls p) _ (home e ls p) (λ v ls p. tt)
    home (m.set_by_send reach message e) ls p =
        home_bind live (eval code call part a live e ls p) _ (home e ls p)
        (λ v ls p. home_bind live _ _ (home_send (reached_by reach a p) message (v ∷ []) ls p) (λ answer ls p. tt))
    home (m.array items) ls p =
        home_bind live (eval_all code call part a live items ls p) _ (home_all items ls p) (λ vs ls p. home_settled live ls (new_array vs p))
    home (m.block body) ls p = home_settled live ls (new_block a body p)
    home (m.send e message args) ls p =
        home_bind live (eval code call part a live e ls p) _ (home e ls p)
        (λ v ls p. home_bind live (eval_all code call part a live args ls p) _ (home_all args ls p) (λ vs ls p. home_send (to_value v) message vs ls p))
    home (m.send_to reach message args) ls p =
        home_bind live (eval_all code call part a live args ls p) _ (home_all args ls p) (λ vs ls q. home_send (reached_by reach a p) message vs ls q)
    home (m.send_super message args) ls p =
        home_bind live (eval_all code call part a live args ls p) _ (home_all args ls p) (λ vs ls p. home_send ToSuper message vs ls p)
    home (m.cascade e messages) ls p = home_bind live (eval code call part a live e ls p) _ (home e ls p) (λ v ls p. home_messages messages v ls p)
    home (m.in_turn e other) ls p = home_bind live (eval code call part a live e ls p) _ (home e ls p) (λ v ls p. home other ls p)

    pub home_all : (args : m.Nodes) (ls : List Value) (p : Progress) → GoesHome live (eval_all code call part a live args ls p)
    home_all m.no_nodes ls p = tt
    home_all (m.more_nodes e more) ls p =
        home_bind live (eval code call part a live e ls p) _ (home e ls p)
        (λ v ls p. home_bind live (eval_all code call part a live more ls p) _ (home_all more ls p) (λ vs ls p. tt))

    pub home_messages : (ms : m.Messages) (v : Value) (ls : List Value) (p : Progress) → GoesHome live (eval_messages code call part a live ms v ls p)
    home_messages (m.last_message message args) v ls p =
        home_bind live (eval_all code call part a live args ls p) _ (home_all args ls p) (λ vs ls p. home_send (to_value v) message vs ls p)
    home_messages (m.more_messages message args more) v ls p =
        home_bind live _ _
        (home_bind live (eval_all code call part a live args ls p) _ (home_all args ls p) (λ vs ls p. home_send (to_value v) message vs ls p))
        (λ answer ls p. home_messages more v ls p)

  home_locals : (firsts : List m.First) (ls : List Value) (p : Progress) → GoesHome live (locals_begun code call part a live firsts ls p)
  home_locals [] ls p = tt
  home_locals (f ∷ firsts) ls p =
      home_bind live _ _ (home_bind live (eval code call part a live f.value ls p) _ (home f.value ls p) (λ v ls p. tt)) (λ v ls p. home_locals firsts ls p)

  home_slots : (firsts : List m.First) (ls : List Value) (p : Progress) → GoesHome live (slots_filled code call part a live firsts ls p)
  home_slots [] ls p = tt
  home_slots (f ∷ firsts) ls p =
      home_bind live (eval code call part a live f.value ls p) _ (home f.value ls p) (λ v ls p. home_slots firsts ls (slot_filled code a f.index v p))

  home_each : (nodes : List m.Node) (ls : List Value) (p : Progress) → GoesHome live (each_evaluated code call part a live nodes ls p)
  home_each [] ls p = tt
  home_each (e ∷ nodes) ls p = home_bind live (eval code call part a live e ls p) _ (home e ls p) (λ v ls p. home_each nodes ls p)

  home_method : (steps : List m.Step) (ls : List Value) (p : Progress) → GoesHome live (method_steps code call part a live steps ls p)
  home_method [] ls p = tt
  home_method (m.evaluate e ∷ steps) ls p = home_bind live (eval code call part a live e ls p) _ (home e ls p) (λ v ls p. home_method steps ls p)
  home_method (m.return e ∷ steps) ls p = home e ls p

  home_block : (steps : List m.Step) (ls : List Value) (p : Progress) → GoesHome live (block_steps code call part a live steps ls p)
  home_block [] ls p = tt
  home_block (m.evaluate e ∷ []) ls p = home e ls p
  home_block (m.evaluate e ∷ (s ∷ steps)) ls p = home_bind live (eval code call part a live e ls p) _ (home e ls p) (λ v ls p. home_block (s ∷ steps) ls p)
  home_block (m.return e ∷ steps) ls p =
      home_bind live (eval code call part a live e ls p) _ (home e ls p) (λ v ls p. home_going live a v p (is_live live a.home) refl)

  home_initialiser : (init : m.Initialiser) (ls : List Value) (p : Progress) → GoesHome live (eval_initialiser code call part a live init ls p)
  home_initialiser init ls p =
      home_bind live _ _
      (home_bind live (eval_all code call part a live init.arguments ls p) _ (home_all init.arguments ls p) (λ vs ls p.
      home_back ls _ (part_home (super_part code a vs p) live)))
      (λ u ls p. home_bind live (slots_filled code call part a live init.slots ls p) _ (home_slots init.slots ls p)
      (λ u ls p. home_bind live (each_evaluated code call part a live init.expressions ls p) _ (home_each init.expressions ls p) (λ u ls p. tt)))

  pub home_body : (d : m.Does) (ls : List Value) (p : Progress) → GoesHome live (eval_body code call part a live d ls p)
  home_body (m.as_method firsts steps) ls p =
      home_bind live (locals_begun code call part a live firsts ls p) _ (home_locals firsts ls p) (λ u ls p. home_method steps ls p)
  home_body (m.as_block firsts steps) ls p =
      home_bind live (locals_begun code call part a live firsts ls p) _ (home_locals firsts ls p) (λ u ls p. home_block steps ls p)
  home_body (m.as_initialiser init) ls p = home_initialiser init ls p
  home_body (m.as_clause e) ls p = home e ls p

module _ (meant : m.Meant) (code : CodeProgram) where
  part_home : (call : Call) → CallHome call → (n : ℕ) → PartHome (run_part meant code call n)
  part_home call ok n (Skip p) live = tt
  part_home call ok n (Stop e p) live = tt
  part_home call ok zero (EnterPart a ls p) live = tt
  part_home call ok (suc n) (EnterPart a ls p) live =
      home_finish_part live _ (home_body code call (run_part meant code call n) a live ok (part_home call ok n) (does_at meant a.body) ls p)

  gone_home : (call : Call) → CallHome call → (named : KMethod) (site : Site) (w : Waiting) (live : List ℕ)
      → GoesHome live (gone_on code call named site w live)
  gone_home call ok named site (Finishes after) live = home_settled live [] after
  gone_home call ok named site (Waits block arguments state p) live =
      home_bind live _ _ (home_passed live _ (ok (evaluated code block arguments site p) live)) (λ v ls p. ok (Begin named (taken state v) site p) live)

  pub run_home : (n : ℕ) → CallHome (run meant code n)
  run_home n (Now after) live = home_settled live [] after
  run_home zero (Enter exit a ls p) live = tt
  run_home zero (Evaluate block arguments site p) live = tt
  run_home zero (Begin named state site p) live = tt
  run_home zero (Perform receiver sel array site p) live = tt
  run_home (suc n) (Enter exit a ls p) live =
      home_finish code exit a live _
      (home_body code (run meant code n) (run_part meant code (run meant code n) a.holder) a (homes_in exit a.home live)
      (run_home n) (part_home (run meant code n) (run_home n) a.holder) (does_at meant a.body) ls p)
  run_home (suc n) (Evaluate block arguments site p) live = run_home n (evaluated code block arguments site p) live
  run_home (suc n) (Begin named state site p) live = gone_home (run meant code n) (run_home n) named site (method_next named state site p) live
  run_home (suc n) (Perform receiver sel array site p) live = run_home n (performed code receiver sel array site p) live
