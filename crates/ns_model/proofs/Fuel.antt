-- Fuel that is above the steps that are left never runs out, where single actions are as they should be.
use Rattle.std.proofs.Common.{◌≡◌, ℕ, zero, suc, ◌<◌, ◌≤◌, List, [], ◌∷◌, refl, ◌∙◌, arith}
use Rattle.std.specs.Prelude.{Bool, true, false, IsTrue, Option, Some}
use Rattle.ns_base.specs.declared.place.Place.{Place as SourcePlace}
use Rattle.ns_base.specs.declared.selector.Sel.{Sel}
use Rattle.ns_code.specs.declared.program.CodeProgram.{CodeProgram}
use Rattle.ns_world.specs.declared.value.Value.{Value}
use Rattle.ns_world.specs.Heap.{is_ordered}
use Rattle.ns_world.specs.declared.kernel_parts.KMethod.{KMethod}
use Rattle.ns_kcode.specs.declared.state.KState.{KState}
use Rattle.ns_moves.specs.declared.site.Site.{Site}
use Rattle.ns_moves.specs.Control.{Progress, Activation, Exit, After, Gives, Halts, Control, Now, Enter, Evaluate, frame_left}
use Rattle.ns_moves.specs.Control.{Begin, Perform, PartControl, Skip, Stop, EnterPart, Waiting, Waits, Finishes}
use Rattle.ns_moves.specs.Onward.{reached}
use Rattle.ns_moves.specs.Bodies.{local_stored}
use Rattle.ns_moves.specs.Classes.{super_part, slot_filled, body_ended}
use Rattle.ns_moves.specs.Blocks.{evaluated, method_next, taken, new_block, new_text, new_array}
use Rattle.ns_moves.specs.Sends.{Target, ToSuper, to_value, sent, sent_plain, performed}
use Rattle.ns_resolved.specs.Program as m
use Rattle.ns_resolved.specs.Tables.{sel_of}
use Rattle.ns_model.specs.Outcome.{Completion, Yields, Returns, Ends, Spent, bind, settled, back, passed, is_home, homes_in, is_live}
use Rattle.ns_model.specs.Outcome.{going_home, caught, finish, finish_part}
use Rattle.ns_model.specs.Eval.{Call, PartCall, reached_by, send_made, eval, eval_all, eval_messages, locals_begun, slots_filled}
use Rattle.ns_model.specs.Eval.{each_evaluated, method_steps, block_steps, part_made, eval_initialiser, eval_body}
use Rattle.ns_model.specs.Run.{does_at, gone_on, run_part, run}
use Rattle.ns_model.specs.Laws.{Ready}

abbrev pub IsOrdered : Progress → Type 0
IsOrdered p = IsTrue (is_ordered p.world.cells)

-- ---- what an action leaves

pub record Later (old new : Progress) : Type 0 where
  pub steps : old.world.steps ≤ new.world.steps
  pub limits : new.world.limits.steps ≡ old.world.limits.steps
  pub ordered : IsOrdered old → IsOrdered new

-- a step was charged for which there was room
pub record Past (old new : Progress) : Type 0 where
  pub steps : old.world.steps < new.world.steps
  pub room : old.world.steps < old.world.limits.steps
  pub limits : new.world.limits.steps ≡ old.world.limits.steps
  pub ordered : IsOrdered old → IsOrdered new

pub stay : (p : Progress) → Later p p
stay p = record { steps = omega arith; limits = refl; ordered = λ o. o }

also : (one two three : Progress) → Later one two → Later two three → Later one three
also one two three a b =
    record { steps = omega (arith, a.steps, b.steps); limits = b.limits ∙ a.limits; ordered = λ o. b.ordered (a.ordered o) }

past_later : (old new : Progress) → Past old new → Later old new
past_later old new a = record { steps = omega (arith, a.steps); limits = a.limits; ordered = a.ordered }

past_on : (one two three : Progress) → Past one two → Later two three → Past one three
past_on one two three a b =
    record { steps = omega (arith, a.steps, b.steps); room = a.room; limits = b.limits ∙ a.limits; ordered = λ o. b.ordered (a.ordered o) }

later_past : (one two three : Progress) → Later one two → Past two three → Past one three
later_past one two three a b =
    record {
      steps = omega (arith, a.steps, b.steps);
      room = omega (arith, a.steps, b.room, a.limits);
      limits = b.limits ∙ a.limits;
      ordered = λ o.
          b.ordered (a.ordered o);
    }

abbrev pub AfterLater : Progress → After → Type 0
AfterLater old (Gives v p) = Later old p
AfterLater old (Halts e p) = Later old p

abbrev pub Moves : Progress → Control → Type 0
Moves old (Now (Gives v p)) = Past old p
Moves old (Now (Halts e p)) = Later old p
Moves old (Enter exit a ls p) = Past old p
Moves old (Evaluate block arguments site p) = Past old p
Moves old (Begin named state site p) = Past old p
Moves old (Perform receiver sel array site p) = Past old p

-- a superclass part of a smaller class
abbrev pub PartLater : ℕ → Progress → PartControl → Type 0
PartLater above old (Skip p) = Later old p
PartLater above old (Stop e p) = Later old p
PartLater above old (EnterPart a ls p) = Later old p × (a.holder < above)

abbrev pub WaitsLater : Progress → Waiting → Type 0
WaitsLater old (Waits block arguments state p) = Later old p
WaitsLater old (Finishes after) = AfterLater old after

-- what is asked of single actions
pub record Facts (code : CodeProgram) : Type 0 where
  pub sends : (a : Activation) (target : Target) (sel : Sel) (values : List Value) (place : Option SourcePlace) (p : Progress)
      → Moves p (sent code a target sel values place p)
  pub plain : (receiver : Value) (sel : Sel) (values : List Value) (place : Option SourcePlace) (p : Progress)
      → Moves p (sent_plain code receiver sel values place p)
  pub performs : (receiver : Value) (sel : Sel) (array : ℕ) (site : Site) (p : Progress) → Moves p (performed code receiver sel array site p)
  pub evaluates : (block : Value) (arguments : List Value) (site : Site) (p : Progress) → Moves p (evaluated code block arguments site p)
  pub next : (named : KMethod) (state : KState) (site : Site) (p : Progress) → WaitsLater p (method_next named state site p)
  pub part : (a : Activation) (arguments : List Value) (p : Progress) → IsOrdered p → PartLater a.holder p (super_part code a arguments p)
  pub text : (bytes : List ℕ) (p : Progress) → AfterLater p (new_text bytes p)
  pub array : (items : List Value) (p : Progress) → AfterLater p (new_array items p)
  pub block : (a : Activation) (body : ℕ) (p : Progress) → AfterLater p (new_block a body p)
  pub local : (a : Activation) (hops index : ℕ) (v : Value) (p : Progress) → Later p (local_stored code a hops index v p)
  pub slot : (a : Activation) (slot : ℕ) (v : Value) (p : Progress) → Later p (slot_filled code a slot v p)
  pub ended : (exit : Exit) (a : Activation) (v : Value) (p : Progress) → AfterLater p (body_ended code exit a v p)

left_later : (p : Progress) → Later p (frame_left p)
left_later p = record { steps = omega arith; limits = refl; ordered = λ o. o }

-- ---- outcomes for which the fuel was enough

abbrev pub Fine : {A : Type 0} → Progress → Completion A → Type 0
Fine old (Yields v ls p) = Later old p
Fine old (Returns h v p) = Later old p
Fine old (Ends e p) = Unit {0}
Fine old Spent = ⊥

fine_from : {A : Type 0} (old p : Progress) (o : Completion A) → Later old p → Fine p o → Fine old o
fine_from old p (Yields v ls q) l f = also old p q l f
fine_from old p (Returns h v q) l f = also old p q l f
fine_from old p (Ends e q) l f = tt
fine_from old p Spent l f = f

pub fine_bind : {A B : Type 0} (old : Progress) (o : Completion A) (k : A → List Value → Progress → Completion B) → Fine old o
    → ((v : A) (ls : List Value) (p : Progress) → Later old p → Fine p (k v ls p)) → Fine old (bind o k)
fine_bind old (Yields v ls p) k f g = fine_from old p (k v ls p) f (g v ls p f)
fine_bind old (Returns h v p) k f g = f
fine_bind old (Ends e p) k f g = tt
fine_bind old Spent k f g = f

fine_settled : (old : Progress) (ls : List Value) (after : After) → AfterLater old after → Fine old (settled ls after)
fine_settled old ls (Gives v p) l = l
fine_settled old ls (Halts e p) l = tt

fine_back : {A : Type 0} (old : Progress) (ls : List Value) (o : Completion A) → Fine old o → Fine old (back ls o)
fine_back old ls o f = fine_bind old o (λ v others p. Yields v ls p) f (λ v others p l. stay p)

fine_passed : (old : Progress) (o : Completion Value) → Fine old o → Fine old (passed o)
fine_passed old (Yields v ls p) f = f
fine_passed old (Returns h v p) f = also old p (frame_left p) f (left_later p)
fine_passed old (Ends e p) f = tt
fine_passed old Spent f = f

fine_going : (b : Bool) (a : Activation) (v : Value) (p : Progress) → Fine p (going_home b a v p)
fine_going true a v p = stay p
fine_going false a v p = tt

fine_caught : (b : Bool) (h : ℕ) (v : Value) (p : Progress) → Fine p (caught b h v p)
fine_caught true h v p = stay p
fine_caught false h v p = stay p

fine_finish : (code : CodeProgram) → Facts code → (exit : Exit) (a : Activation) (old : Progress) (o : Completion Value) → Fine old o
    → Fine old (finish code exit a o)
fine_finish code facts exit a old (Yields v ls p) f =
    fine_from old p _ f (fine_settled p [] (body_ended code exit a v p) (facts.ended exit a v p))
fine_finish code facts exit a old (Returns h v p) f =
    fine_from old (frame_left p) _ (also old p (frame_left p) f (left_later p)) (fine_caught (is_home exit a.home h) h v (frame_left p))
fine_finish code facts exit a old (Ends e p) f = tt
fine_finish code facts exit a old Spent f = f

fine_finish_part : (old : Progress) (o : Completion Value) → Fine old o → Fine old (finish_part o)
fine_finish_part old (Yields v ls p) f = also old p (frame_left p) f (left_later p)
fine_finish_part old (Returns h v p) f = also old p (frame_left p) f (left_later p)
fine_finish_part old (Ends e p) f = tt
fine_finish_part old Spent f = f

-- ---- fuel

ready_on : (n : ℕ) (old new : Progress) → Ready n old → Later old new → Ready n new
ready_on n old new r l = record { above = omega (arith, r.above, l.steps, l.limits); ordered = l.ordered r.ordered }

ready_past : (n : ℕ) (old new : Progress) → Ready (suc n) old → Past old new → Ready n new
ready_past n old new r a = record { above = omega (arith, r.above, a.steps, a.limits); ordered = a.ordered r.ordered }

ready_not : (old new : Progress) → Ready 0 old → Past old new → ⊥
ready_not old new r a = omega (arith, r.above, a.room)

abbrev pub CallFine : ℕ → Call → Type 0
CallFine n call = (c : Control) (live : List ℕ) (old : Progress) → Moves old c → Ready n old → Fine (reached c) (call c live)

abbrev pub PartFine : ℕ → ℕ → PartCall → Type 0
PartFine n above part = (c : PartControl) (live : List ℕ) (old : Progress) → PartLater above old c → Ready n old → Fine old (part c live)

pub moves_on : {A : Type 0} (old : Progress) (c : Control) (o : Completion A) → Moves old c → Fine (reached c) o → Fine old o
moves_on old (Now (Gives v p)) o l f = fine_from old p o (past_later old p l) f
moves_on old (Now (Halts e p)) o l f = fine_from old p o l f
moves_on old (Enter exit a ls p) o l f = fine_from old p o (past_later old p l) f
moves_on old (Evaluate block arguments site p) o l f = fine_from old p o (past_later old p l) f
moves_on old (Begin named state site p) o l f = fine_from old p o (past_later old p l) f
moves_on old (Perform receiver sel array site p) o l f = fine_from old p o (past_later old p l) f

module _ (code : CodeProgram) (facts : Facts code) (call : Call) (part : PartCall) (a : Activation) (live : List ℕ) (n : ℕ)
    (call_fine : CallFine n call) (part_fine : PartFine n a.holder part) where
  fine_send : (target : Target) (message : m.Sent) (vs ls : List Value) (p : Progress) → Ready n p
      → Fine p (send_made code call part a live target message vs ls p)
  fine_send target message vs ls p r =
      let c = sent code a target (sel_of code.names message.selector) vs (Some message.place) p in
      let moves = facts.sends a target (sel_of code.names message.selector) vs (Some message.place) p in
      fine_back p ls (call c live) (moves_on p c (call c live) moves (call_fine c live p moves r))

  mutual
    pub fine : (e : m.Node) (ls : List Value) (p : Progress) → Ready n p → Fine p (eval code call part a live e ls p)
    fine m.nil_value ls p r = stay p
    fine m.true_value ls p r = stay p
    fine m.false_value ls p r = stay p
    fine (m.integer k) ls p r = stay p
    fine (m.text bytes) ls p r = fine_settled p ls (new_text bytes p) (facts.text bytes p)
    fine (m.symbol bytes) ls p r = stay p
    fine m.self_value ls p r = stay p
    fine (m.local hops index) ls p r = stay p
    fine (m.set_local hops index e) ls p r = fine_bind p (eval code call part a live e ls p) _ (fine e ls p r) (λ v ls q l. facts.local a hops index v q)
    fine (m.set_by_send reach message e) ls p r =
        fine_bind p (eval code call part a live e ls p) _ (fine e ls p r)
        (λ v ls q l.
        fine_bind q (send_made code call part a live (reached_by reach a q) message (v ∷ []) ls q) _
        (fine_send (reached_by reach a q) message (v ∷ []) ls q (ready_on n p q r l)) (λ answer ls s k. stay s))
    fine (m.array items) ls p r =
        fine_bind p (eval_all code call part a live items ls p) _ (fine_all items ls p r) (λ vs ls q l. fine_settled q ls (new_array vs q) (facts.array vs q))
    fine (m.block body) ls p r = fine_settled p ls (new_block a body p) (facts.block a body p)
    fine (m.send e message args) ls p r =
        fine_bind p (eval code call part a live e ls p) _ (fine e ls p r)
        (λ v ls q l. fine_bind q (eval_all code call part a live args ls q) _ (fine_all args ls q (ready_on n p q r l))
        (λ vs ls s k. fine_send (to_value v) message vs ls s (ready_on n q s (ready_on n p q r l) k)))
    fine (m.send_to reach message args) ls p r =
        fine_bind p (eval_all code call part a live args ls p) _ (fine_all args ls p r)
        (λ vs ls q l. fine_send (reached_by reach a p) message vs ls q (ready_on n p q r l))
    fine (m.send_super message args) ls p r =
        fine_bind p (eval_all code call part a live args ls p) _ (fine_all args ls p r) (λ vs ls q l. fine_send ToSuper message vs ls q (ready_on n p q r l))
    fine (m.cascade e messages) ls p r =
        fine_bind p (eval code call part a live e ls p) _ (fine e ls p r) (λ v ls q l. fine_messages messages v ls q (ready_on n p q r l))
    fine (m.in_turn e other) ls p r =
        fine_bind p (eval code call part a live e ls p) _ (fine e ls p r) (λ v ls q l. fine other ls q (ready_on n p q r l))

    pub fine_all : (args : m.Nodes) (ls : List Value) (p : Progress) → Ready n p → Fine p (eval_all code call part a live args ls p)
    fine_all m.no_nodes ls p r = stay p
    fine_all (m.more_nodes e more) ls p r =
        fine_bind p (eval code call part a live e ls p) _ (fine e ls p r)
        (λ v ls q l. fine_bind q (eval_all code call part a live more ls q) _ (fine_all more ls q (ready_on n p q r l)) (λ vs ls s k. stay s))

    pub fine_messages : (ms : m.Messages) (v : Value) (ls : List Value) (p : Progress) → Ready n p → Fine p (eval_messages code call part a live ms v ls p)
    fine_messages (m.last_message message args) v ls p r =
        fine_bind p (eval_all code call part a live args ls p) _ (fine_all args ls p r)
        (λ vs ls q l. fine_send (to_value v) message vs ls q (ready_on n p q r l))
    fine_messages (m.more_messages message args more) v ls p r =
        fine_bind p _ _
        (fine_bind p (eval_all code call part a live args ls p) _ (fine_all args ls p r) (λ vs ls q l.
        fine_send (to_value v) message vs ls q (ready_on n p q r l)))
        (λ answer ls q l. fine_messages more v ls q (ready_on n p q r l))

  fine_locals : (firsts : List m.First) (ls : List Value) (p : Progress) → Ready n p → Fine p (locals_begun code call part a live firsts ls p)
  fine_locals [] ls p r = stay p
  fine_locals (f ∷ firsts) ls p r =
      fine_bind p _ _ (fine_bind p (eval code call part a live f.value ls p) _ (fine f.value ls p r) (λ v ls q l. facts.local a 0 f.index v q))
      (λ v ls q l. fine_locals firsts ls q (ready_on n p q r l))

  fine_slots : (firsts : List m.First) (ls : List Value) (p : Progress) → Ready n p → Fine p (slots_filled code call part a live firsts ls p)
  fine_slots [] ls p r = stay p
  fine_slots (f ∷ firsts) ls p r =
      fine_bind p (eval code call part a live f.value ls p) _ (fine f.value ls p r)
      (λ v ls q l.
      let k = facts.slot a f.index v q in fine_from q (slot_filled code a f.index v q) _ k
      (fine_slots firsts ls (slot_filled code a f.index v q) (ready_on n q _ (ready_on n p q r l) k)))

  fine_each : (nodes : List m.Node) (ls : List Value) (p : Progress) → Ready n p → Fine p (each_evaluated code call part a live nodes ls p)
  fine_each [] ls p r = stay p
  fine_each (e ∷ nodes) ls p r = fine_bind p (eval code call part a live e ls p) _ (fine e ls p r) (λ v ls q l. fine_each nodes ls q (ready_on n p q r l))

  fine_method : (steps : List m.Step) (ls : List Value) (p : Progress) → Ready n p → Fine p (method_steps code call part a live steps ls p)
  fine_method [] ls p r = stay p
  fine_method (m.evaluate e ∷ steps) ls p r =
      fine_bind p (eval code call part a live e ls p) _ (fine e ls p r) (λ v ls q l. fine_method steps ls q (ready_on n p q r l))
  fine_method (m.return e ∷ steps) ls p r = fine e ls p r

  fine_block : (steps : List m.Step) (ls : List Value) (p : Progress) → Ready n p → Fine p (block_steps code call part a live steps ls p)
  fine_block [] ls p r = stay p
  fine_block (m.evaluate e ∷ []) ls p r = fine e ls p r
  fine_block (m.evaluate e ∷ (s ∷ steps)) ls p r =
      fine_bind p (eval code call part a live e ls p) _ (fine e ls p r) (λ v ls q l. fine_block (s ∷ steps) ls q (ready_on n p q r l))
  fine_block (m.return e ∷ steps) ls p r =
      fine_bind p (eval code call part a live e ls p) _ (fine e ls p r) (λ v ls q l. fine_going (is_live live a.home) a v q)

  fine_part : (vs ls : List Value) (p : Progress) → Ready n p → Fine p (part_made code call part a live vs ls p)
  fine_part vs ls p r = fine_back p ls _ (part_fine (super_part code a vs p) live p (facts.part a vs p r.ordered) r)

  fine_initialiser : (init : m.Initialiser) (ls : List Value) (p : Progress) → Ready n p → Fine p (eval_initialiser code call part a live init ls p)
  fine_initialiser init ls p r =
      fine_bind p _ _
      (fine_bind p (eval_all code call part a live init.arguments ls p) _ (fine_all init.arguments ls p r) (λ vs ls q l.
      fine_part vs ls q (ready_on n p q r l)))
      (λ u ls q l. fine_bind q (slots_filled code call part a live init.slots ls q) _ (fine_slots init.slots ls q (ready_on n p q r l))
      (λ u ls s k.
      fine_bind s (each_evaluated code call part a live init.expressions ls s) _ (fine_each init.expressions ls s (ready_on n q s (ready_on n p q r l) k))
      (λ u ls t j. stay t)))

  pub fine_body : (d : m.Does) (ls : List Value) (p : Progress) → Ready n p → Fine p (eval_body code call part a live d ls p)
  fine_body (m.as_method firsts steps) ls p r =
      fine_bind p (locals_begun code call part a live firsts ls p) _ (fine_locals firsts ls p r) (λ u ls q l. fine_method steps ls q (ready_on n p q r l))
  fine_body (m.as_block firsts steps) ls p r =
      fine_bind p (locals_begun code call part a live firsts ls p) _ (fine_locals firsts ls p r) (λ u ls q l. fine_block steps ls q (ready_on n p q r l))
  fine_body (m.as_initialiser init) ls p r = fine_initialiser init ls p r
  fine_body (m.as_clause e) ls p r = fine e ls p r

module _ (meant : m.Meant) (code : CodeProgram) (facts : Facts code) where
  part_fine : (n : ℕ) (call : Call) → CallFine n call → (above : ℕ) → PartFine n above (run_part meant code call above)
  part_fine n call ok above (Skip p) live old l r = l
  part_fine n call ok above (Stop e p) live old l r = tt
  part_fine n call ok zero (EnterPart a ls p) live old l r = let no : ⊥ = omega (arith, l.1) in absurd no
  part_fine n call ok (suc above) (EnterPart a ls p) live old l r =
      fine_from old p _ l.0
      (fine_finish_part p _ (fine_body code facts call (run_part meant code call above) a live n ok (less (part_fine n call ok above))
      (does_at meant a.body) ls p (ready_on n old p r l.0)))
    where
      lower : (c : PartControl) (q : Progress) → PartLater a.holder q c → PartLater above q c
      lower (Skip s) q g = g
      lower (Stop e s) q g = g
      lower (EnterPart b ls s) q g = (g.0, omega (arith, g.1, l.1))

      less : PartFine n above (run_part meant code call above) → PartFine n a.holder (run_part meant code call above)
      less ok' c live q g h = ok' c live q (lower c q g) h

  -- a kernel method goes on after a block
  again : (n : ℕ) → CallFine n (run meant code n) → (named : KMethod) (state : KState) (site : Site) (live : List ℕ) (old p : Progress) → Ready n old
      → Past old p → (o : Completion Value) → Fine p o
      → Fine p (bind (passed o) (λ v ls q. run meant code n (Begin named (taken state v) site q) live))
  again n ok named state site live old p r past o f =
      fine_bind p (passed o) _ (fine_passed p o f) (λ v ls q l. ok (Begin named (taken state v) site q) live old (past_on old p q past l) r)

  after_block : (n : ℕ) → CallFine n (run meant code n) → (c : Control) (named : KMethod) (state : KState) (site : Site) (live : List ℕ) (old : Progress)
      → Moves old c → Ready n old
      → Fine old (bind (passed (run meant code n c live)) (λ v ls q. run meant code n (Begin named (taken state v) site q) live))
  after_block n ok (Now (Gives v p)) named state site live old s r =
      fine_from old p _ (past_later old p s)
      (again n ok named state site live old p r s (run meant code n (Now (Gives v p)) live) (ok (Now (Gives v p)) live old s r))
  after_block n ok (Now (Halts e p)) named state site live old s r = tt
  after_block n ok (Enter exit a ls p) named state site live old s r =
      fine_from old p _ (past_later old p s) (again n ok named state site live old p r s _ (ok (Enter exit a ls p) live old s r))
  after_block n ok (Evaluate block arguments site' p) named state site live old s r =
      fine_from old p _ (past_later old p s) (again n ok named state site live old p r s _ (ok (Evaluate block arguments site' p) live old s r))
  after_block n ok (Begin named' state' site' p) named state site live old s r =
      fine_from old p _ (past_later old p s) (again n ok named state site live old p r s _ (ok (Begin named' state' site' p) live old s r))
  after_block n ok (Perform receiver sel array site' p) named state site live old s r =
      fine_from old p _ (past_later old p s) (again n ok named state site live old p r s _ (ok (Perform receiver sel array site' p) live old s r))

  pub gone_fine : (n : ℕ) → CallFine n (run meant code n) → (named : KMethod) (site : Site) (w : Waiting) (live : List ℕ) (old : Progress) → WaitsLater old w
      → Ready n old → Fine old (gone_on code (run meant code n) named site w live)
  gone_fine n ok named site (Finishes after) live old l r = fine_settled old [] after l
  gone_fine n ok named site (Waits block arguments state p) live old l r =
      fine_from old p _ l
      (after_block n ok (evaluated code block arguments site p) named state site live p (facts.evaluates block arguments site p) (ready_on n old p r l))

  pub run_fine : (n : ℕ) → CallFine n (run meant code n)
  run_fine n (Now (Gives v p)) live old l r = stay p
  run_fine n (Now (Halts e p)) live old l r = tt
  run_fine zero (Enter exit a ls p) live old l r = absurd (ready_not old p r l)
  run_fine zero (Evaluate block arguments site p) live old l r = absurd (ready_not old p r l)
  run_fine zero (Begin named state site p) live old l r = absurd (ready_not old p r l)
  run_fine zero (Perform receiver sel array site p) live old l r = absurd (ready_not old p r l)
  run_fine (suc n) (Enter exit a ls p) live old l r =
      fine_finish code facts exit a p _
      (fine_body code facts (run meant code n) (run_part meant code (run meant code n) a.holder) a (homes_in exit a.home live) n (run_fine n)
      (part_fine n (run meant code n) (run_fine n) a.holder)
      (does_at meant a.body) ls p (ready_past n old p r l))
  run_fine (suc n) (Evaluate block arguments site p) live old l r =
      let s = facts.evaluates block arguments site p in
      moves_on p _ _ s (run_fine n (evaluated code block arguments site p) live p s (ready_past n old p r l))
  run_fine (suc n) (Begin named state site p) live old l r =
      gone_fine n (run_fine n) named site (method_next named state site p) live p (facts.next named state site p) (ready_past n old p r l)
  run_fine (suc n) (Perform receiver sel array site p) live old l r =
      let s = facts.performs receiver sel array site p in
      moves_on p _ _ s (run_fine n (performed code receiver sel array site p) live p s (ready_past n old p r l))
