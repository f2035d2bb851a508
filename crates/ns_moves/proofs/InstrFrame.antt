-- The frame whose instruction is done: what it goes on with, and what it waits with, is valid.
use Rattle.std.proofs.Common.{◌≡◌, ℕ, suc, ◌+◌, ◌-◌, ◌<◌, ◌≤◌, List, [], ◌∷◌, length, refl, ap, sym, ◌∙◌, subst, arith, All, Option, Some, None, Bool, true, false, cond, slice_get, set}
use Rattle.std.specs.Prelude.{◌^◌}
use Rattle.std.proofs.lemmas.Bool.{eqb-true}
use Rattle.std.proofs.lemmas.List.{length-set}
use Rattle.std.proofs.lemmas.List.Elements.{All-set}
use Rattle.std.specs.Option.{option_map_or, ForSome}
use Rattle.ns_code.specs.declared.class.ClassCode.{ClassCode}
use Rattle.ns_code.specs.declared.instruction.Instr.TheVariants as i
use Rattle.ns_code.specs.Selector.{selector_arity}
use Rattle.ns_code.specs.Soundness.{method_kind, block_kind, initialiser_kind, clause_kind}
use Rattle.ns_world.specs.declared.value.Value.TheVariants as value
use Rattle.ns_world.specs.Layout.{declaration_of}
use Rattle.ns_world.specs.Later.{IsLater}
use Rattle.ns_verify.specs.Uses.{IsUsable, HasLocal, HasSlot, IsSendOf, IsStartOf}
use Rattle.ns_find.specs.declared.found.Sending.TheVariants.{Inner}
use Rattle.ns_moves.specs.Bodies.{is_beside, locals_with, local_stored}
use Rattle.ns_moves.specs.Blocks.{new_text, new_block, new_array}
use Rattle.ns_world.specs.Booleans.{is_boolean}
use Rattle.ns_moves.specs.Classes.{super_selector, super_part, slot_filled}
use Rattle.ns_moves.specs.Fitting.{FitsMessage, kind_of}
use Rattle.ns_moves.specs.Operands.{on_top, taken_off}
use Rattle.ns_moves.specs.Instructions.{executed}
use Rattle.ns_moves.proofs.FramesArrive.{part_stands}
use Rattle.ns_moves.specs.laws.Levels.{level_there}
use Rattle.ns_moves.proofs.InstrFacts.{is_selector, instr_fits, place_fits, out_there, block_in}
use Rattle.ns_moves.proofs.InstrStacks.{top_there, taken_there, picked_there, none_at_all}
use Rattle.ns_base.specs.declared.place.Place.{Place as SourcePlace}
use Rattle.ns_base.specs.declared.selector.Sel.{Sel}
use Rattle.ns_code.specs.declared.program.CodeProgram.{CodeProgram}
use Rattle.ns_code.specs.declared.body.BodyCode.{BodyCode}
use Rattle.ns_code.specs.declared.instruction.Instr.{Instr}
use Rattle.ns_code.specs.Table.{takes, leaves, goes_on, target}
use Rattle.ns_world.specs.declared.value.Value.{Value}
use Rattle.ns_world.specs.declared.ending.LimitKind.TheVariants.{Steps}
use Rattle.ns_world.specs.declared.ending.Kind.TheVariants.{MustBeBoolean, DeadReturn}
use Rattle.ns_world.specs.World.{World, stepped}
use Rattle.ns_world.specs.Lawful.{IsLiveValue, FitsBody}
use Rattle.ns_verify.specs.Verify.{IsSound}
use Rattle.ns_moves.specs.Site.{error}
use Rattle.ns_moves.specs.Control.{Progress, in_world, Activation, FromMethod, FromBody, FromClause, After, Gives, Halts, charged, frame_left}
use Rattle.ns_moves.specs.Lawful.{LawfulRun, FitsTarget, FitsSelector, FitsSlot, FitsLocal}
use Rattle.ns_moves.specs.Sends.{Target, To, ToPrivate, ToSuper, to_value, receiver_of, sent}
use Rattle.ns_moves.specs.Actions.{Sends, BeginsPart, MakesText, MakesArray, MakesBlock, FillsSlot, StoresLocal}
use Rattle.ns_moves.specs.State.{Leaving, Loud, Silent, Frame, Running, Phase, State, Going, Ended, Stuck}
use Rattle.ns_moves.specs.Steps.{PlacedInstr, place_in, steps_from, literal}
use Rattle.ns_moves.specs.Returns.{settled, returned, has_home, unwound, returned_home}
use Rattle.ns_moves.specs.Arrivals.{arrived, part_arrived}
use Rattle.ns_moves.specs.Jumps.{goes_back, jumped, takes_jump, jumped_on}
use Rattle.ns_moves.specs.ValidFrames.{Awaited, Nothing, SendValue, PartEnd, awaited_below, is_send, is_super_part, next_number, height_of, ends_kind, Stands, StandsBefore, RunningIsValid, FramesAreValid}
use Rattle.ns_moves.specs.Standing.{FramesStand}
use Rattle.ns_moves.proofs.FramesKnown.{Known}
use Rattle.ns_moves.proofs.FramesLast.{Onto, both_valid, value_lasts, values_last, running_lasts, frames_last}
use Rattle.ns_moves.proofs.FramesStanding.{IsNext, next_is, target_left, enough, stands_behind, stands_at, waits_here}
use Rattle.ns_moves.proofs.FramesReturn.{EndsWell, GivesOnto, same_below, all_more, onto_of, onto_same, onto_left, cell_gives, returned_stands, unwound_stands}
use Rattle.ns_moves.proofs.FramesArrive.{sent_stands}

-- a frame of a block ends as a block's
block_leaves : (leaving : Leaving) (kind : ℕ) → ends_kind leaving kind ≡ true → kind ≡ block_kind → leaving ≡ Loud FromBody
block_leaves (Loud FromMethod) kind ends is = let q : 1 ≡ 0 = sym is ∙ eqb-true kind method_kind ends in absurd (omega (arith, q))
block_leaves (Loud FromBody) kind ends is = refl
block_leaves (Loud (FromClause object holder class)) kind ends is = let q : 1 ≡ 3 = sym is ∙ eqb-true kind clause_kind ends in absurd (omega (arith, q))
block_leaves Silent kind ends is = let q : 1 ≡ 2 = sym is ∙ eqb-true kind initialiser_kind ends in absurd (omega (arith, q))

module _ (known : Known) (code : CodeProgram) (sound : IsSound code) (phase : Phase) (leaving : Leaving) (a : Activation) (ls : List Value) (step : PlacedInstr)
    (rest : List PlacedInstr) (first : List Value) (frames : List Frame) (p : Progress) (lawful : LawfulRun code p) (ends : EndsWell code phase p) (b : BodyCode)
    (there : slice_get code.bodies a.body ≡ Some b) (valid : RunningIsValid code p Nothing leaving a ls (step ∷ rest) first)
    (below : FramesAreValid code p (awaited_below code (Running leaving a ls (step ∷ rest) first)) frames) where
  pub next : IsNext code a.body b step rest
  next = next_is code a.body b step rest there valid.inside

  -- which instruction it is
  abbrev pub Is : Instr → Type 0
  Is which = slice_get b.instrs next.at ≡ Some which

  count : length first ≡ height_of b next.at
  count = (valid.stands b there).1 ∙ ap (height_of b) next.before

  pub takes_enough : (which : Instr) → Is which → takes which ≤ length first
  takes_enough which is = enough known.sound code a.body b sound there next.at which (length first) is count

  -- the frame with other locals, operands and another rest of its body
  frame_with : (q : Progress) → Onto code p q → (ls' : List Value) → length ls' ≡ length ls → All (IsLiveValue q.world.cells code) ls' → (rest' : List PlacedInstr)
      → rest' ≡ steps_from code a.body (next_number code a.body rest') → (stack : List Value) → All (IsLiveValue q.world.cells code) stack → (w : Awaited)
      → Stands b w (next_number code a.body rest') (length stack) → FramesAreValid code q w (Running leaving a ls' rest' stack ∷ frames)
  frame_with q onto ls' many live rest' inside stack alive w stands =
      let old = running_lasts known code p q onto Nothing leaving a ls (step ∷ rest) first valid in
      let own : RunningIsValid code q w leaving a ls' rest' stack = record {
        fits = old.fits;
        object = old.object;
        kind = old.kind;
        leaves = old.leaves;
        inside = inside;
        stands = λ c e.
            let both : Some b ≡ Some c = sym there ∙ e in
            let same : b ≡ c = cc in
            subst (λ c. Stands c w (next_number code a.body rest') (length stack)) same stands;
        environment = old.environment;
        beside = many ∙ old.beside;
        live_locals = live;
        live_stack = alive;
        home = old.home;
        named = old.named;
      } in
      let others = frames_last known code p q onto (awaited_below code (Running leaving a ls (step ∷ rest) first)) frames below in
      both_valid code q w (Running leaving a ls' rest' stack) frames own
      (subst (λ w. FramesAreValid code q w frames) (same_below code leaving a ls ls' (step ∷ rest) rest' first stack) others)

  same_locals : (q : Progress) → Onto code p q → All (IsLiveValue q.world.cells code) ls
  same_locals q onto = values_last known code p q onto ls valid.live_locals

  -- ---- it goes on

  pub goes_with : (which : Instr) → Is which → goes_on which ≡ true → (q : Progress) → Onto code p q → (ls' : List Value) → length ls' ≡ length ls
      → All (IsLiveValue q.world.cells code) ls' → (stack : List Value) → All (IsLiveValue q.world.cells code) stack
      → length stack ≡ length first - takes which + leaves which → FramesStand code (Going phase (Running leaving a ls' rest stack ∷ frames) q)
  goes_with which is on q onto ls' many live stack alive left =
      let c = count in
      let behind : StandsBefore b (suc next.at) (length stack) = stands_behind known.sound code a.body b sound there next.at which (length stack) is on (omega (arith, left, c)) in
      (refl, frame_with q onto ls' many live rest next.left stack alive Nothing (subst (λ n. StandsBefore b n (length stack)) (sym next.behind) behind))

  pub goes : (which : Instr) → Is which → goes_on which ≡ true → (q : Progress) → Onto code p q → (stack : List Value)
      → All (IsLiveValue q.world.cells code) stack → length stack ≡ length first - takes which + leaves which
      → FramesStand code (Going phase (Running leaving a ls rest stack ∷ frames) q)
  goes which is on q onto stack alive left = goes_with which is on q onto ls refl (same_locals q onto) stack alive left

  -- with one operand more
  pub pushes : (which : Instr) → Is which → goes_on which ≡ true → takes which ≡ 0 → leaves which ≡ 1 → (v : Value) → IsLiveValue p.world.cells code v
      → FramesStand code (Going phase (Running leaving a ls rest (v ∷ first) ∷ frames) p)
  pushes which is on none one v live =
      let more : length (v ∷ first) ≡ length first + 1 = omega arith in
      goes which is on p (onto_same known code sound p lawful) (v ∷ first) (all_more (IsLiveValue p.world.cells code) v first live valid.live_stack)
      (omega (arith, none, one, more))

  -- with a value that was made
  pub makes : (which : Instr) → Is which → goes_on which ≡ true → leaves which ≡ 1 → (after : After) → GivesOnto code p after → (stack : List Value)
      → All (IsLiveValue p.world.cells code) stack → length stack ≡ length first - takes which
      → FramesStand code (settled code phase after (Running leaving a ls rest stack ∷ frames))
  makes which is on one (Gives v q) gives stack alive left =
      let more : length (v ∷ stack) ≡ length stack + 1 = omega arith in
      goes which is on q gives.0 (v ∷ stack) (all_more (IsLiveValue q.world.cells code) v stack gives.1 (values_last known code p q gives.0 stack alive))
      (omega (arith, left, one, more))
  makes which is on one (Halts ending q) gives stack alive left = tt

  -- ---- it waits

  pub waits_with : (which : Instr) → Is which → is_send which ≡ true → (stack : List Value) → All (IsLiveValue p.world.cells code) stack
      → length stack ≡ length first - takes which → FramesAreValid code p SendValue (Running leaving a ls rest stack ∷ frames)
  waits_with which is sends stack alive left =
      let c = count in
      let behind = waits_here known.sound code a.body b sound there next.at which is_send (length stack) is sends (omega (arith, left, c)) in
      let onto = onto_same known code sound p lawful in
      frame_with p onto ls refl valid.live_locals rest next.left stack alive SendValue (subst (λ n. Stands b SendValue n (length stack)) (sym next.behind) behind)

  pub part_waits : (which : Instr) → Is which → is_super_part which ≡ true → (stack : List Value) → All (IsLiveValue p.world.cells code) stack
      → length stack ≡ length first - takes which → FramesAreValid code p PartEnd (Running leaving a ls rest stack ∷ frames)
  part_waits which is part stack alive left =
      let c = count in
      let behind = waits_here known.sound code a.body b sound there next.at which is_super_part (length stack) is part (omega (arith, left, c)) in
      let onto = onto_same known code sound p lawful in
      frame_with p onto ls refl valid.live_locals rest next.left stack alive PartEnd (subst (λ n. Stands b PartEnd n (length stack)) (sym next.behind) behind)

  pub sends : (which : Instr) → Is which → is_send which ≡ true → (target : Target) (sel : Sel) (vs : List Value) (place : Option SourcePlace) (stack : List Value)
      → length vs ≤ 255 → ForSome place (λ (place : SourcePlace). place.file < length code.files) → FitsTarget p.world.cells code a target
      → FitsSelector p.world.cells code sel vs → All (IsLiveValue p.world.cells code) stack → length stack ≡ length first - takes which
      → FramesStand code (arrived code phase (sent code a target sel vs place p) (Running leaving a ls rest stack ∷ frames))
  sends which is waits target sel vs place stack few file fits selector alive left =
      let action = Sends a target sel vs place in
      sent_stands known code sound phase (Running leaving a ls rest stack ∷ frames) p lawful ends 1 (length vs ≤ 255) _ (sent code a target sel vs place p)
      (waits_with which is waits stack alive left) (known.sends.sites code (receiver_of p.world.cells a target) sel place p lawful selector.selector file) few
      (known.sends.lawful code a target sel vs place p lawful fits selector) (known.actions.hands_on code action p lawful (fits, selector))
      (known.sends.at code a target sel vs place p) (known.actions.leads code action p) (known.actions.spends code action p)

  -- ---- it jumps

  pub jumps : (which : Instr) → Is which → (to : ℕ) → target which ≡ Some to → (stack : List Value) → All (IsLiveValue p.world.cells code) stack
      → length stack ≡ length first - takes which + leaves which
      → FramesStand code (jumped phase leaving a ls rest (steps_from code a.body to) stack frames p)
  jumps which is to leads stack alive left = tested (goes_back rest landing)
    where
      landing : List PlacedInstr
      landing = steps_from code a.body to

      c : length first ≡ height_of b next.at
      c = count

      at : StandsBefore b to (length stack)
      at = stands_at known.sound code a.body b sound there next.at which to (length stack) is leads (omega (arith, left, c))

      number : next_number code a.body (steps_from code a.body to) ≡ to
      number = target_left code a.body b to there at.0

      lands : (q : Progress) → Onto code p q → FramesStand code (Going phase (Running leaving a ls (steps_from code a.body to) stack ∷ frames) q)
      lands q onto = (
        refl,
        frame_with q onto ls refl (same_locals q onto) (steps_from code a.body to) (ap (steps_from code a.body) (sym number)) stack
            (values_last known code p q onto stack alive) Nothing (subst (λ n. StandsBefore b n (length stack)) (sym number) at),
      )

      go : Progress → State
      go = Going phase (Running leaving a ls (steps_from code a.body to) stack ∷ frames)

      steps : (o : Option World) → stepped p.world ≡ o → FramesStand code (charged (λ ending q. Ended ending phase q) Steps o p go)
      steps (Some world) e =
          lands (in_world p world) (onto_of code p (in_world p world) lawful (known.worlds.step_lawful p.world world code lawful e) (known.worlds.step_later p.world world e) (omega arith))
      steps None e = tt

      tested : (b : Bool) → FramesStand code (cond b (charged (λ ending q. Ended ending phase q) Steps (stepped p.world) p go) (go p))
      tested true = steps (stepped p.world) refl
      tested false = lands p (onto_same known code sound p lawful)

  pub jumps_on : (which : Instr) → Is which → (to : ℕ) → target which ≡ Some to → goes_on which ≡ true → (wanted : Bool) (v : Value) (stack : List Value)
      → All (IsLiveValue p.world.cells code) stack → length stack ≡ length first - takes which + leaves which
      → FramesStand code (jumped_on phase wanted v leaving a ls rest (steps_from code a.body to) stack frames p)
  jumps_on which is to leads on wanted v stack alive left = tested (is_boolean v) (takes_jump wanted v)
    where
      tested : (b c : Bool) → FramesStand code
          (cond b (cond c (jumped phase leaving a ls rest (steps_from code a.body to) stack frames p) (Going phase (Running leaving a ls rest stack ∷ frames) p))
          (Ended (error MustBeBoolean a.site) phase p))
      tested true true = jumps which is to leads stack alive left
      tested true false = goes which is on p (onto_same known code sound p lawful) stack alive left
      tested false c = tt

  -- ---- what it relies on

  pub uses : (which : Instr) → Is which → IsUsable code a.body b next.at which
  uses which is = known.sound.usable code a.body next.at b which sound there is

  body_kind : kind_of code a.body ≡ b.kind
  body_kind = ap (λ o. option_map_or (λ (b : BodyCode). b.kind) o clause_kind) there

  pub named : (place : Option SourcePlace) → place ≡ place_in b.places next.at → ForSome place (λ (place : SourcePlace). place.file < length code.files)
  named place is = subst (λ o. ForSome o (λ (place : SourcePlace). place.file < length code.files)) (sym is) (place_fits code a.body next.at b lawful.fits there)

  byte : (argc : ℕ) → argc < 2 ^ 8 → argc ≤ 255
  byte argc h = let k : argc < 256 = h in omega (arith, k)

  -- a selector of so many arguments, which were taken
  selects : (sel : Sel) (argc : ℕ) (vs : List Value) → sel.0 < length code.names → argc ≡ selector_arity code sel.0 → length vs ≡ argc
      → All (IsLiveValue p.world.cells code) vs → FitsSelector p.world.cells code sel vs
  selects sel argc vs is arity many live = record { selector = is_selector code sel.0 is; arity = many ∙ arity; live = live }

  -- the run with another world, in which as much was begun
  onto_in : (q : Progress) → LawfulRun code q → IsLater p.world q.world → q.begun ≡ p.begun + 0 → Onto code p q
  onto_in q after later same = onto_of code p q lawful after later (omega (arith, same))

  pub local_there : (hops index : ℕ) → HasLocal code a.body hops index → FitsLocal p.world.cells code a hops
  local_there hops index (out, holder, is, holder_is, inside) = known.names.local_stands code a hops p valid.environment (out_there code a.body hops out is)

  stored_locals : (hops index : ℕ) (v : Value) → (length (locals_with code a ls hops index v) ≡ length ls)
      × ((q : Progress) → Onto code p q → IsLiveValue q.world.cells code v → All (IsLiveValue q.world.cells code) (locals_with code a ls hops index v))
  stored_locals hops index v = tested (is_beside code a hops)
    where
      tested : (b : Bool) → (length (cond b (set ls index v) ls) ≡ length ls)
          × ((q : Progress) → Onto code p q → IsLiveValue q.world.cells code v → All (IsLiveValue q.world.cells code) (cond b (set ls index v) ls))
      tested true = (length-set ls index v, λ q onto live. All-set (IsLiveValue q.world.cells code) ls index v live (same_locals q onto))
      tested false = (refl, λ q onto live. same_locals q onto)

  -- the declaration of the holder is that of the body
  holder_declares : (self : Value) → FitsBody p.world.cells code b self a.holder → declaration_of p.world.cells a.holder ≡ b.class
  holder_declares (value.Ref at) fits = fits.1
  holder_declares value.Nil fits = absurd fits
  holder_declares value.True fits = absurd fits
  holder_declares value.False fits = absurd fits
  holder_declares (value.Int number) fits = absurd fits
  holder_declares (value.Sym sel) fits = absurd fits
  holder_declares (value.Kernel class) fits = absurd fits

  declares : declaration_of p.world.cells a.holder ≡ b.class
  declares = holder_declares a.self (valid.fits.fits b there)

  pub has_slot : (slot : ℕ) → HasSlot code b slot → b.kind ≡ initialiser_kind → FitsSlot p.world.cells code a slot
  has_slot slot (declared, is, inside) kind =
      let at : slice_get code.classes (declaration_of p.world.cells a.holder) ≡ Some declared = ap (slice_get code.classes) declares ∙ is in
      record {
        holder = valid.object (body_kind ∙ kind);
        declared = rw at refl;
        within = λ class e. let both : Some declared ≡ Some class = sym at ∙ e in
            let same : declared ≡ class = cc in
            subst (λ (class : ClassCode). slot < length class.slots) same inside;
      }

  message_fits : (argc : ℕ) (vs : List Value) → IsStartOf code b argc → length vs ≡ argc → FitsMessage p.world.cells code a vs
  message_fits argc vs (declared, is, name, arity) many =
      let at : slice_get code.classes (declaration_of p.world.cells a.holder) ≡ Some declared = ap (slice_get code.classes) declares ∙ is in
      let same : super_selector code (declaration_of p.world.cells a.holder) ≡ declared.super_sel.0 = ap (λ o. option_map_or (λ (class : ClassCode). class.super_sel.0) o 0) at in
      record { arity = many ∙ (arity ∙ ap (selector_arity code) (sym same)) }

  -- ---- superclass parts, slots, locals and returns

  begins_part : (argc : ℕ) (vs stack : List Value) → Is (i.InitSuper argc) → length vs ≡ argc → All (IsLiveValue p.world.cells code) vs
      → All (IsLiveValue p.world.cells code) stack → length stack ≡ length first - argc
      → FramesStand code (part_arrived code phase (super_part code a vs p) (Running leaving a ls rest stack ∷ frames))
  begins_part argc vs stack is many live alive left =
      let usable = uses (i.InitSuper argc) is in
      let asks = known.actions.hands_on code (BeginsPart a vs) p lawful (valid.object (body_kind ∙ usable.1), live) in
      part_stands known code sound phase (Running leaving a ls rest stack ∷ frames) p lawful ends a.site (super_part code a vs p)
      (part_waits (i.InitSuper argc) is refl stack alive left) valid.named (known.actions.part code a vs p lawful valid.fits.live live) asks.0
      (asks.1 (message_fits argc vs usable.0 many)) (known.actions.part_at code a vs p) (known.actions.leads code (BeginsPart a vs) p)
      (known.actions.spends code (BeginsPart a vs) p)

  fills_slot : (slot : ℕ) (v : Value) (stack : List Value) → Is (i.StoreSlot slot) → IsLiveValue p.world.cells code v → All (IsLiveValue p.world.cells code) stack
      → length first ≡ length stack + 1 → FramesStand code (Going phase (Running leaving a ls rest stack ∷ frames) (slot_filled code a slot v p))
  fills_slot slot v stack is live alive left =
      let usable = uses (i.StoreSlot slot) is in
      let action = FillsSlot a slot v in
      let after = known.names.slot code a slot v p lawful (has_slot slot usable.0 usable.1) live in
      let q = slot_filled code a slot v p in
      let onto = onto_in q after (known.actions.leads code action p) (known.actions.spends code action p).begun in
      let count : length stack ≡ length first - 1 + 0 = omega (arith, left) in
      goes (i.StoreSlot slot) is refl q onto stack (values_last known code p q onto stack alive) count

  stores_local : (hops index : ℕ) (v : Value) (stack : List Value) → Is (i.StoreLocal hops index) → IsLiveValue p.world.cells code v
      → All (IsLiveValue p.world.cells code) stack → length first ≡ length stack + 1
      → FramesStand code (Going phase (Running leaving a (locals_with code a ls hops index v) rest (v ∷ stack) ∷ frames) (local_stored code a hops index v p))
  stores_local hops index v stack is live alive left =
      let action = StoresLocal a hops index v in
      let fits = local_there hops index (uses (i.StoreLocal hops index) is) in
      let after = known.names.stored code a hops index v p lawful fits live in
      let q = local_stored code a hops index v p in
      let onto = onto_in q after (known.actions.leads code action p) (known.actions.spends code action p).begun in
      let live' = value_lasts known code p q onto v live in
      let stored = stored_locals hops index v in
      let more : length (v ∷ stack) ≡ length stack + 1 = omega arith in
      let count : length (v ∷ stack) ≡ length first - 1 + 1 = omega (arith, left, more) in
      goes_with (i.StoreLocal hops index) is refl q onto (locals_with code a ls hops index v) stored.0 (stored.1 q onto live') (v ∷ stack)
      (all_more (IsLiveValue q.world.cells code) v stack live' (values_last known code p q onto stack alive)) count

  returns : (v : Value) → IsLiveValue p.world.cells code v → FramesStand code (returned code phase leaving a v frames p)
  returns v live = returned_stands known code sound phase leaving a ls (step ∷ rest) first v frames p lawful ends valid.leaves live below

  -- a block's own frame is no home
  returns_home : (stack : List Value) (v : Value) → b.kind ≡ block_kind → IsLiveValue p.world.cells code v
      → FramesStand code (returned_home code phase a v (Running leaving a ls rest stack ∷ frames) p)
  returns_home stack v kind live =
      subst (λ l. FramesStand code (returned_home code phase a v (Running l a ls rest stack ∷ frames) p))
      (sym (block_leaves leaving (kind_of code a.body) valid.kind (body_kind ∙ kind))) (tested (has_home a.home frames) refl)
    where
      down : Onto code p (frame_left p)
      down = onto_left known code sound p lawful

      tested : (c : Bool) → has_home a.home frames ≡ c
          → FramesStand code (cond c (unwound code phase a.home v frames (frame_left p)) (Ended (error DeadReturn a.site) phase p))
      tested true has =
          unwound_stands known code sound phase a.home v frames p (frame_left p) (awaited_below code (Running leaving a ls (step ∷ rest) first)) ends down has
          (value_lasts known code p (frame_left p) down v live)
          (frames_last known code p (frame_left p) down (awaited_below code (Running leaving a ls (step ∷ rest) first)) frames below)
      tested false has = tt

  abbrev Live : Value → Type 0
  Live v = IsLiveValue p.world.cells code v

  abbrev Good : State → Type 0
  Good s = FramesStand code s

  -- ---- sends

  sends_within : (which : Instr) (place : Option SourcePlace) → Is which → place ≡ place_in b.places next.at → (sel : Sel) (argc : ℕ) → takes which ≡ argc
      → is_send which ≡ true → (target : Target) → FitsTarget p.world.cells code a target → IsSendOf code sel argc → argc < 2 ^ 8
      → FramesStand code (taken_off (Stuck p) argc [] first λ arguments below.
      arrived code phase (sent code a target sel arguments place p) (Running leaving a ls rest below ∷ frames))
  sends_within which place is at sel argc takes_it waits target fits send few =
      let all = takes_enough which is in
      taken_there Live Good (Stuck p) argc [] first _ (omega (arith, all, takes_it)) (none_at_all Live) valid.live_stack
      (λ vs stack many left live alive.
      let m : length vs ≡ argc = omega (arith, many) in
      let small = byte argc few in
      sends which is waits target sel vs place stack (omega (arith, m, small)) (named place at) fits (selects sel argc vs send.0 send.1 m live) alive
      (omega (arith, left, takes_it)))

  sends_to : (which : Instr) (place : Option SourcePlace) → Is which → place ≡ place_in b.places next.at → (sel : Sel) (argc : ℕ) → takes which ≡ argc + 1
      → is_send which ≡ true → (target : Value → Target) → ((v : Value) → Live v → FitsTarget p.world.cells code a (target v)) → IsSendOf code sel argc → argc < 2 ^ 8
      → FramesStand code (taken_off (Stuck p) argc [] first λ arguments below. on_top (Stuck p) below λ receiver below.
      arrived code phase (sent code a (target receiver) sel arguments place p) (Running leaving a ls rest below ∷ frames))
  sends_to which place is at sel argc takes_it waits target fits send few =
      let all = takes_enough which is in
      taken_there Live Good (Stuck p) argc [] first _ (omega (arith, all, takes_it)) (none_at_all Live) valid.live_stack
      (λ vs lower many left live alive.
      let m : length vs ≡ argc = omega (arith, many) in
      let small = byte argc few in
      top_there Live Good (Stuck p) lower _ (omega (arith, left, all, takes_it)) alive
      (λ v stack one here others.
      sends which is waits (target v) sel vs place stack (omega (arith, m, small)) (named place at) (fits v here) (selects sel argc vs send.0 send.1 m live) others
      (omega (arith, left, takes_it, one))))

  -- ---- each instruction

  pub executed_stands : (which : Instr) (place : Option SourcePlace) → Is which → place ≡ place_in b.places next.at
      → FramesStand code (executed code phase which place leaving a ls rest first frames p)
  executed_stands i.PushNil place is at = pushes i.PushNil is refl refl refl value.Nil (tt, refl)
  executed_stands i.PushTrue place is at = pushes i.PushTrue is refl refl refl value.True (tt, refl)
  executed_stands i.PushFalse place is at = pushes i.PushFalse is refl refl refl value.False (tt, refl)
  executed_stands (i.PushInt number) place is at = pushes (i.PushInt number) is refl refl refl (value.Int number) (tt, refl)
  executed_stands (i.PushSym sel) place is at = pushes (i.PushSym sel) is refl refl refl (value.Sym sel) (is_selector code sel.0 (uses (i.PushSym sel) is), refl)
  executed_stands (i.PushText text) place is at =
      let bytes = literal code text in
      makes (i.PushText text) is refl refl (new_text bytes p)
      (cell_gives code p (new_text bytes p) lawful (known.names.text code bytes p lawful) (known.actions.leads code (MakesText bytes) p) (known.actions.spends code (MakesText bytes) p))
      first valid.live_stack (let same : length first ≡ length first - 0 = omega arith in same)
  executed_stands i.PushSelf place is at = pushes i.PushSelf is refl refl refl a.self valid.fits.live
  executed_stands (i.PushOuter level) place is at =
      let u = uses (i.PushOuter level) is in
      pushes (i.PushOuter level) is refl refl refl _ (known.names.enclosing_live code a level p lawful valid.fits (level_there code a.body level u.0 b there u.1))
  executed_stands (i.PushLocal hops index) place is at =
      pushes (i.PushLocal hops index) is refl refl refl _
      (known.names.local_live code a ls hops index p lawful (local_there hops index (uses (i.PushLocal hops index) is)) valid.live_locals)
  executed_stands (i.StoreLocal hops index) place is at =
      top_there Live Good (Stuck p) first _ (takes_enough (i.StoreLocal hops index) is) valid.live_stack
      (λ v stack left live alive. stores_local hops index v stack is live alive left)
  executed_stands (i.PushBlock block) place is at =
      let made = known.names.block_lawful code a block p lawful valid.fits valid.environment
      (block_in known.sound code a.body block b sound there (uses (i.PushBlock block) is)) in
      makes (i.PushBlock block) is refl refl (new_block a block p)
      (cell_gives code p (new_block a block p) lawful (known.names.block code a block p lawful made) (known.actions.leads code (MakesBlock a block) p)
      (known.actions.spends code (MakesBlock a block) p))
      first valid.live_stack (let same : length first ≡ length first - 0 = omega arith in same)
  executed_stands (i.MakeArray count) place is at =
      taken_there Live Good (Stuck p) count [] first _ (takes_enough (i.MakeArray count) is) (none_at_all Live) valid.live_stack
      (λ items stack many left live alive.
      makes (i.MakeArray count) is refl refl (new_array items p)
      (cell_gives code p (new_array items p) lawful (known.names.array code items p lawful live) (known.actions.leads code (MakesArray items) p)
      (known.actions.spends code (MakesArray items) p))
      stack alive (let c : length stack ≡ length first - count = omega (arith, left) in c))
  executed_stands i.Pop place is at =
      top_there Live Good (Stuck p) first _ (takes_enough i.Pop is) valid.live_stack
      (λ v stack left live alive.
      goes i.Pop is refl p (onto_same known code sound p lawful) stack alive (let c : length stack ≡ length first - 1 + 0 = omega (arith, left) in c))
  executed_stands (i.Pick number) place is at =
      let some : number + 1 ≤ length first = takes_enough (i.Pick number) is in
      picked_there Live Good (Stuck p) number first _ (omega (arith, some)) valid.live_stack
      (λ v live.
      let more : length (v ∷ first) ≡ length first + 1 = omega arith in
      let c : length (v ∷ first) ≡ length first - (number + 1) + (number + 2) = omega (arith, some, more) in
      goes (i.Pick number) is refl p (onto_same known code sound p lawful) (v ∷ first) (all_more Live v first live valid.live_stack) c)
  executed_stands (i.Send sel argc) place is at = sends_to (i.Send sel argc) place is at sel argc refl refl (λ v. to_value v) (λ v live. live) (uses (i.Send sel argc) is)
      (instr_fits code a.body next.at b (i.Send sel argc) lawful.fits there is).1
  executed_stands (i.SendInner sel argc) place is at = sends_to (i.SendInner sel argc) place is at sel argc refl refl (λ v. To v Inner) (λ v live. live)
      (uses (i.SendInner sel argc) is) (instr_fits code a.body next.at b (i.SendInner sel argc) lawful.fits there is).1
  executed_stands (i.SendPrivate level sel argc) place is at =
      let u = uses (i.SendPrivate level sel argc) is in
      let f = instr_fits code a.body next.at b (i.SendPrivate level sel argc) lawful.fits there is in
      sends_within (i.SendPrivate level sel argc) place is at sel argc refl refl (ToPrivate level) (valid.fits, level_there code a.body level u.1.0 b there u.1.2) u.0 f.2
  executed_stands (i.SendSuper sel argc) place is at =
      sends_within (i.SendSuper sel argc) place is at sel argc refl refl ToSuper valid.fits (uses (i.SendSuper sel argc) is)
      (instr_fits code a.body next.at b (i.SendSuper sel argc) lawful.fits there is).1
  executed_stands (i.InitSuper argc) place is at =
      taken_there Live Good (Stuck p) argc [] first _ (takes_enough (i.InitSuper argc) is) (none_at_all Live) valid.live_stack
      (λ vs stack many left live alive.
      let c : length stack ≡ length first - argc = omega (arith, left) in
      let m : length vs ≡ argc = omega (arith, many) in
      begins_part argc vs stack is m live alive c)
  executed_stands (i.StoreSlot slot) place is at =
      top_there Live Good (Stuck p) first _ (takes_enough (i.StoreSlot slot) is) valid.live_stack (λ v stack left live alive. fills_slot slot v stack is live alive left)
  executed_stands i.Return place is at =
      top_there Live Good (Stuck p) first _ (takes_enough i.Return is) valid.live_stack (λ v stack left live alive. returns v live)
  executed_stands i.ReturnSelf place is at = returns a.self valid.fits.live
  executed_stands i.ReturnHome place is at =
      top_there Live Good (Stuck p) first _ (takes_enough i.ReturnHome is) valid.live_stack
      (λ v stack left live alive. returns_home stack v (uses i.ReturnHome is).0 live)
  executed_stands (i.Jump target) place is at =
      jumps (i.Jump target) is target refl first valid.live_stack (let c : length first ≡ length first - 0 + 0 = omega arith in c)
  executed_stands (i.JumpFalse target) place is at =
      top_there Live Good (Stuck p) first _ (takes_enough (i.JumpFalse target) is) valid.live_stack
      (λ v stack left live alive.
      jumps_on (i.JumpFalse target) is target refl refl false v stack alive (let c : length stack ≡ length first - 1 + 0 = omega (arith, left) in c))
  executed_stands (i.JumpTrue target) place is at =
      top_there Live Good (Stuck p) first _ (takes_enough (i.JumpTrue target) is) valid.live_stack
      (λ v stack left live alive.
      jumps_on (i.JumpTrue target) is target refl refl true v stack alive (let c : length stack ≡ length first - 1 + 0 = omega (arith, left) in c))

  -- so with the next instruction and its place
  pub next_step : ((which : Instr) (place : Option SourcePlace) → Is which → place ≡ place_in b.places next.at
      → FramesStand code (executed code phase which place leaving a ls rest first frames p))
      → FramesStand code (executed code phase step.0 step.1 leaving a ls rest first frames p)
  next_step stands = stands step.0 step.1 next.instr next.place
