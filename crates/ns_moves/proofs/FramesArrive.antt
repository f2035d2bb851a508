-- What an action leads to is valid: a frame that is entered, a method of the kernel that begins, and what waits.
use Rattle.std.proofs.Common.{◌≡◌, ℕ, ◌≤◌, List, [], ◌∷◌, length, refl, ap, sym, ◌∙◌, subst, arith, Option, Some, None, true, false, cond}
use Rattle.std.specs.Prelude.{nat_lt, ◌==◌}
use Rattle.std.proofs.lemmas.Bool.{eqb-true}
use Rattle.ns_code.specs.declared.program.CodeProgram.{CodeProgram}
use Rattle.ns_code.specs.Soundness.{method_kind, block_kind, initialiser_kind, clause_kind}
use Rattle.ns_world.specs.declared.value.Value.{Value}
use Rattle.ns_world.specs.declared.ending.LimitKind.TheVariants.{Steps}
use Rattle.ns_world.specs.World.{World, stepped}
use Rattle.ns_world.specs.Later.{IsLater}
use Rattle.ns_verify.specs.Verify.{IsSound}
use Rattle.ns_world.specs.declared.kernel_parts.KMethod.{KMethod}
use Rattle.ns_kcode.specs.declared.state.KState.{KState}
use Rattle.ns_kcode.specs.declared.state.KAction.{KAction}
use Rattle.ns_kcode.specs.declared.state.KAction.TheVariants as action
use Rattle.ns_moves.specs.declared.site.Site.{Site}
use Rattle.ns_moves.specs.Control.{Progress, Activation, Exit, FromMethod, FromBody, FromClause, Gives, Halts, Control, Now, Enter, Evaluate, Begin, Perform}
use Rattle.ns_moves.specs.Control.{PartControl, Skip, Stop, EnterPart, Waiting, Waits, Finishes, charged}
use Rattle.ns_moves.specs.Bodies.{no_home}
use Rattle.ns_moves.specs.Blocks.{item_at, listed, waiting, acted}
use Rattle.ns_moves.specs.Lawful.{LawfulRun, LawfulControl, LawfulPart, LawfulWaiting}
use Rattle.ns_moves.specs.Onward.{reached, part_reached, waiting_reached}
use Rattle.ns_moves.specs.Spending.{Charged, ControlSpends, PartSpends, WaitingSpends}
use Rattle.ns_moves.specs.Fitting.{FitsEnd, FitsNext, FitsNextPart, EntersPart, FitsNextWaiting, GoesOnAt, HasHome, PartGoesOnAt, EntersBlock, FitsSite, kind_of}
use Rattle.ns_moves.specs.Fitting.{ends_kind as own_kind}
use Rattle.ns_moves.specs.State.{Loud, Silent, Frame, Running, Looping, Phase}
use Rattle.ns_moves.specs.Arrivals.{arrived, part_arrived, acted_on}
use Rattle.ns_moves.specs.ValidFrames.{Nothing, SendValue, BlockValue, PartEnd, has_home_of, has_block_home, ends_kind, FitsLeaving}
use Rattle.ns_moves.specs.ValidFrames.{LoopingIsValid, FramesAreValid}
use Rattle.ns_moves.specs.Standing.{FramesStand}
use Rattle.ns_moves.proofs.FramesKnown.{Known}
use Rattle.ns_moves.proofs.FramesLast.{Onto, frames_last}
use Rattle.ns_moves.proofs.FramesEnter.{entered_valid}
use Rattle.ns_moves.proofs.FramesReturn.{EndsWell, onto_of, settled_stands, part_over}

-- ---- kinds, ends and homes

-- the end of a body that is entered
leaves_of : (code : CodeProgram) (own : ℕ) (q : Progress) (exit : Exit) (a : Activation) → FitsEnd own q.world.cells code exit a
    → FitsLeaving q.world.cells code (Loud exit) a
leaves_of code own q FromMethod a fits = tt
leaves_of code own q FromBody a fits = tt
leaves_of code own q (FromClause object holder class) a fits = let is = fits.own in (fits.met, is.0, is.1, is.2)

-- a send enters no block
sent_kind : (kind : ℕ) (exit : Exit) → own_kind initialiser_kind exit kind ≡ true →
    (ends_kind (Loud exit) kind ≡ true) × ((kind == block_kind) ≡ false)
sent_kind kind FromMethod e = let is = eqb-true kind method_kind e in (e, ap (λ k. k == block_kind) is)
sent_kind kind FromBody e =
    let is = eqb-true kind initialiser_kind e in
    (ap (λ k. ends_kind (Loud FromBody) k) is, ap (λ k. k == block_kind) is)
sent_kind kind (FromClause object holder class) e = let is = eqb-true kind clause_kind e in (e, ap (λ k. k == block_kind) is)

-- a method's home is its own, which has just begun, and others have none
sent_home : (code : CodeProgram) (q : Progress) (exit : Exit) (a : Activation) → own_kind initialiser_kind exit (kind_of code a.body) ≡ true
    → HasHome no_home exit a q → has_home_of code q.begun (kind_of code a.body) a.body a.home ≡ true
sent_home code q FromMethod a e has =
    let under : nat_lt a.home q.begun ≡ true = grind (arith, has) in
    subst (λ kind. has_home_of code q.begun kind a.body a.home ≡ true) (sym (eqb-true (kind_of code a.body) method_kind e)) under
sent_home code q FromBody a e has =
    subst (λ kind. has_home_of code q.begun kind a.body a.home ≡ true) (sym (eqb-true (kind_of code a.body) initialiser_kind e)) (ap (λ home. home == no_home) has)
sent_home code q (FromClause object holder class) a e has =
    subst (λ kind. has_home_of code q.begun kind a.body a.home ≡ true) (sym (eqb-true (kind_of code a.body) clause_kind e)) (ap (λ home. home == no_home) has)

-- what a send waits for, below what isn't a block's body
below_sent : (code : CodeProgram) (p : Progress) (kind : ℕ) (frames : List Frame) → (kind == block_kind) ≡ false →
    FramesAreValid code p SendValue frames
    → FramesAreValid code p (cond (kind == block_kind) BlockValue SendValue) frames
below_sent code p kind frames is valid = subst (λ b. FramesAreValid code p (cond b BlockValue SendValue) frames) (sym is) valid

-- a block may be waited for where a send may
block_too : (code : CodeProgram) (p : Progress) (frames : List Frame) → FramesAreValid code p SendValue frames →
    FramesAreValid code p BlockValue frames
block_too code p [] valid = valid
block_too code p (Running leaving a ls rest stack ∷ frames) (own, others) = (
  record {
    fits = own.fits;
    object = own.object;
    kind = own.kind;
    leaves = own.leaves;
    inside = own.inside;
    stands = own.stands;
    environment = own.environment;
    beside = own.beside;
    live_locals = own.live_locals;
    live_stack = own.live_stack;
    home = own.home;
    named = own.named;
  },
  others,
)
block_too code p (Looping named state site ∷ frames) (own, others) = let no = own.waits in absurd (cc)

-- ---- arguments of a kernel method's block

abbrev pub FewWaits : Waiting → Type 0
FewWaits (Waits block arguments state p) = length arguments ≤ 255
FewWaits (Finishes after) = Unit {0}

few_listed : (o : Option Value) → length (listed o) ≤ 255
few_listed (Some v) = omega arith
few_listed None = omega arith

few_charged : (o : Option World) (p : Progress) (block : Value) (arguments : List Value) (state : KState) → length arguments ≤ 255
    → FewWaits (charged (λ ending q. Finishes (Halts ending q)) Steps o p (Waits block arguments state))
few_charged (Some world) p block arguments state few = few
few_charged None p block arguments state few = tt

pub few_acted : (a : KAction) (state : KState) (site : Site) (p : Progress) → FewWaits (acted a state site p)
few_acted (action.Evaluate block argument true count) state site p =
    few_charged (stepped p.world) p block (listed argument) _ (few_listed argument)
few_acted (action.Evaluate block argument false count) state site p = few_listed argument
few_acted (action.EvaluateItem block item count) state site p = stepped_few (stepped p.world)
  where
    go : Progress → Waiting
    go q = Waits block (item_at q.world.cells state.receiver item ∷ []) (waiting state count) q

    stepped_few : (o : Option World) → FewWaits (charged (λ ending q. Finishes (Halts ending q)) Steps o p go)
    stepped_few (Some world) = omega arith
    stepped_few None = tt
few_acted (action.Answer v) state site p = tt
few_acted (action.Fail kind) state site p = tt

module _ (known : Known) (code : CodeProgram) (sound : IsSound code) (phase : Phase) (frames : List Frame) (p : Progress) (lawful : LawfulRun code p)
    (ends : EndsWell code phase p) where
  -- the run has charged steps and frames, and begun so much more
  charged_onto : (steps depth begun : ℕ) (q : Progress) → LawfulRun code q → IsLater p.world q.world → Charged steps depth begun p q → Onto code p q
  charged_onto steps depth begun q after later s = let b = s.begun in onto_of code p q lawful after later (omega (arith, b))

  enters : (steps : ℕ) (exit : Exit) (a : Activation) (ls : List Value) (q : Progress) → ControlSpends steps p (Enter exit a ls q)
      → LawfulRun code q → IsLater p.world q.world → Onto code p q
  enters steps FromMethod a ls q s after later = charged_onto steps 1 1 q after later s.0
  enters steps FromBody a ls q s after later = charged_onto steps 1 0 q after later s
  enters steps (FromClause object holder class) a ls q s after later = charged_onto steps 1 0 q after later s

  -- ---- sends

  pub sent_stands : (steps : ℕ) (Few : Type 0) (site : Site) (c : Control) → FramesAreValid code p SendValue frames → FitsSite code site → Few
      → LawfulControl code c → FitsNext initialiser_kind code c → GoesOnAt Few site no_home c → IsLater p.world (reached c).world → ControlSpends steps p c
      → FramesStand code (arrived code phase c frames)
  sent_stands steps Few site (Now (Gives v q)) valid named few after fits at later s =
      settled_stands known code sound phase (Gives v q) frames p SendValue ends refl (charged_onto steps 0 0 q after.0 later s, after.1) valid
  sent_stands steps Few site (Now (Halts ending q)) valid named few after fits at later s = tt
  sent_stands steps Few site (Enter exit a ls q) valid named few after fits at later s =
      let onto = enters steps exit a ls q s after.0 later in
      let kind = sent_kind (kind_of code a.body) exit fits.1.kind in
      let here = subst (λ (s : Site). FitsSite code s) (sym at.0) named in (
        refl,
        (
          entered_valid known code sound q (Loud exit) a ls fits.0 kind.0 (leaves_of code initialiser_kind q exit a fits.1) after.1.locals
              (sent_home code q exit a fits.1.kind at.1) here,
          below_sent code q (kind_of code a.body) frames kind.1 (frames_last known code p q onto SendValue frames valid),
        ),
      )
  sent_stands steps Few site (Evaluate block arguments at q) valid named few after fits goes later s =
      let onto = charged_onto steps 0 0 q after.0 later s in
      let here = subst (λ (s : Site). FitsSite code s) (sym goes.0) named in
      ((fits, goes.1 few, after.2, here), block_too code q frames (frames_last known code p q onto SendValue frames valid))
  sent_stands steps Few site (Begin method state at q) valid named few after fits goes later s =
      let onto = charged_onto steps 1 0 q after.0 later s in
      let here = subst (λ (s : Site). FitsSite code s) (sym goes) named in
      let own : LoopingIsValid q.world.cells code Nothing method state at = record {
        live = after.1;
        receiver = fits.receiver;
        arguments = fits.arguments;
        counts = fits.counts;
        waits = refl;
        named = here;
      } in
      (refl, (own, frames_last known code p q onto SendValue frames valid))
  sent_stands steps Few site (Perform receiver sel array at q) valid named few after fits goes later s =
      let onto = charged_onto steps 0 0 q after.0 later s in
      let place = subst (λ (s : Site). FitsSite code s) (sym goes) named in
      let here = known.sends.sites code receiver sel at.place q after.0 fits.0.selector place.place in
      ((after.1, fits.1, fits.0, here), frames_last known code p q onto SendValue frames valid)

  -- ---- evaluations

  pub evaluated_stands : (steps body home : ℕ) (Few : Type 0) (site : Site) (c : Control) → FramesAreValid code p BlockValue frames → FitsSite code site
      → ((q : Progress) → p.begun ≤ q.begun → has_block_home code q.begun body home ≡ true)
      → LawfulControl code c → FitsNext block_kind code c → GoesOnAt Few site home c → EntersBlock body c → IsLater p.world (reached c).world → ControlSpends steps p c
      → FramesStand code (arrived code phase c frames)
  evaluated_stands steps body home Few site (Now (Gives v q)) valid named homes after fits at is later s =
      settled_stands known code sound phase (Gives v q) frames p BlockValue ends refl (charged_onto steps 0 0 q after.0 later s, after.1) valid
  evaluated_stands steps body home Few site (Now (Halts ending q)) valid named homes after fits at is later s = tt
  evaluated_stands steps body home Few site (Enter FromBody a ls q) valid named homes after fits at is later s =
      let onto = enters steps FromBody a ls q s after.0 later in
      let kind : kind_of code a.body ≡ block_kind = eqb-true (kind_of code a.body) block_kind fits.1.kind in
      let here = subst (λ (s : Site). FitsSite code s) (sym at.0) named in
      let own : has_block_home code q.begun a.body a.home ≡ true =
      ap (λ b. has_block_home code q.begun b a.home) is ∙ (ap (λ h. has_block_home code q.begun body h) at.1 ∙ homes q onto.begun) in
      let at_home = subst (λ k. has_home_of code q.begun k a.body a.home ≡ true) (sym kind) own in (
        refl,
        (
          entered_valid known code sound q (Loud FromBody) a ls fits.0 (ap (λ k. ends_kind (Loud FromBody) k) kind) tt after.1.locals at_home here,
          subst (λ k. FramesAreValid code q (cond (k == block_kind) BlockValue SendValue) frames) (sym kind)
              (frames_last known code p q onto BlockValue frames valid),
        ),
      )
  evaluated_stands steps body home Few site (Enter FromMethod a ls q) valid named homes after fits at is later s = absurd is
  evaluated_stands steps body home Few site (Enter (FromClause object holder class) a ls q) valid named homes after fits at is later s = absurd is
  evaluated_stands steps body home Few site (Evaluate block arguments at q) valid named homes after fits goes is later s = absurd is
  evaluated_stands steps body home Few site (Begin method state at q) valid named homes after fits goes is later s = absurd is
  evaluated_stands steps body home Few site (Perform receiver sel array at q) valid named homes after fits goes is later s = absurd is

  -- ---- superclass parts

  pub part_stands : (site : Site) (part : PartControl) → FramesAreValid code p PartEnd frames → FitsSite code site → LawfulPart code part → FitsNextPart code part
      → EntersPart code part → PartGoesOnAt site part → IsLater p.world (part_reached part).world → PartSpends p part
      → FramesStand code (part_arrived code phase part frames)
  part_stands site (Skip q) valid named after fits enters' at later s =
      part_over known code sound frames q (frames_last known code p q (charged_onto 0 0 0 q after later s) PartEnd frames valid)
  part_stands site (Stop ending q) valid named after fits enters' at later s = tt
  part_stands site (EnterPart a ls q) valid named after fits enters' at later s =
      let onto = charged_onto 0 1 0 q after.0 later s in
      let here = subst (λ (s : Site). FitsSite code s) (sym at.0) named in
      let home = subst (λ k. has_home_of code q.begun k a.body a.home ≡ true) (sym fits.1) (ap (λ home. home == no_home) at.1) in (
        refl,
        (
          entered_valid known code sound q Silent a ls enters' (ap (λ k. k == initialiser_kind) fits.1) tt after.1.locals home here,
          frames_last known code p q onto PartEnd frames valid,
        ),
      )

  -- ---- methods of the kernel

  pub waited_stands : (steps : ℕ) (method : KMethod) (site : Site) (w : Waiting) → FramesAreValid code p SendValue frames → FitsSite code site → LawfulWaiting code w
      → FitsNextWaiting method w → FewWaits w → IsLater p.world (waiting_reached w).world → WaitingSpends steps p w
      → FramesStand code (acted_on code phase method site w frames)
  waited_stands steps method site (Waits block arguments state q) valid named after fits few later s =
      let onto = charged_onto steps 0 0 q after.0 later s in
      let fitting = fits.1 in
      let own : LoopingIsValid q.world.cells code BlockValue method state site = record {
        live = after.3;
        receiver = fitting.receiver;
        arguments = fitting.arguments;
        counts = fitting.counts;
        waits = refl;
        named = named;
      } in
      ((fits.0, few, after.2, named), (own, frames_last known code p q onto SendValue frames valid))
  waited_stands steps method site (Finishes (Gives v q)) valid named after fits few later s =
      let b = s.begun in
      settled_stands known code sound phase (Gives v q) frames p SendValue ends refl (onto_of code p q lawful after.0 later (omega (arith, b)), after.1) valid
  waited_stands steps method site (Finishes (Halts ending q)) valid named after fits few later s = tt
