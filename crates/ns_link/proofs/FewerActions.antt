-- Actions read the limit on steps only where they charge one: with a smaller one they come to the same, or to that limit.
use Rattle.std.proofs.Common.{◌≡◌, ◌≤◌, ℕ, ◌+◌, List, [], ◌∷◌, length, replicate, refl, ap, ◌∙◌, arith, inl, inr, Option, Some, None, Bool, true, false, cond}
use Rattle.std.specs.Prelude.{◌⊎◌, ◌==◌, nat_lt, codes}
use Rattle.std.specs.Str.{bytes_eq}
use Rattle.std.proofs.lemmas.Bool.{ltb-true, ltb-false}
use Rattle.ns_base.specs.declared.place.Place.{Place as SourcePlace}
use Rattle.ns_base.specs.declared.selector.Sel.{Sel}
use Rattle.ns_code.specs.declared.program.CodeProgram.{CodeProgram}
use Rattle.ns_code.specs.declared.own.Own.TheVariants.{DoesNotUnderstand}
use Rattle.ns_code.specs.Selector.{own_number, selector_text}
use Rattle.ns_world.specs.declared.value.Value.{Value}
use Rattle.ns_world.specs.declared.value.Value.TheVariants as value
use Rattle.ns_world.specs.declared.value.KClass.TheVariants.{Object}
use Rattle.ns_world.specs.declared.cell.NewCell.{NewCell}
use Rattle.ns_world.specs.declared.cell.NewCell.TheVariants as new
use Rattle.ns_world.specs.declared.ending.Ending.{Ending}
use Rattle.ns_world.specs.declared.ending.Ending.TheVariants.{Limit}
use Rattle.ns_world.specs.declared.ending.Kind.TheVariants.{WrongArity, InitMismatch}
use Rattle.ns_world.specs.declared.ending.LimitKind.TheVariants.{Steps, Depth, Cells}
use Rattle.ns_world.specs.Cell.{Cell, ObjectCell, EnvironmentCell, ArrayCell, MessageCell}
use Rattle.ns_world.specs.Heap.{heap_size, find_cell, superclass_in}
use Rattle.ns_world.specs.Layout.{declaration_of, layout_of, entry_word}
use Rattle.ns_world.specs.Starts.{start_of}
use Rattle.ns_world.specs.World.{World, made, stepped, entered, left, written}
use Rattle.ns_classes.specs.Apply.{class_fault, class_cell}
use Rattle.ns_classes.specs.Nested.{kept_class}
use Rattle.ns_find.specs.declared.found.Found.{Found}
use Rattle.ns_find.specs.declared.found.Found.TheVariants as found
use Rattle.ns_find.specs.declared.found.Sending.TheVariants.{Plain, Inner}
use Rattle.ns_find.specs.Find.{found_from}
use Rattle.ns_kdata.specs.Arguments.{shape_of_value}
use Rattle.ns_world.specs.declared.kernel_parts.KMethod.{KMethod}
use Rattle.ns_kcode.specs.declared.state.KState.{KState}
use Rattle.ns_kcode.specs.declared.state.KAction.{KAction}
use Rattle.ns_kcode.specs.declared.state.KAction.TheVariants as action
use Rattle.ns_kcode.specs.Next.{next}
use Rattle.ns_moves.specs.declared.site.Site.{Site}
use Rattle.ns_moves.specs.Site.{error}
use Rattle.ns_moves.specs.Control.{Progress, in_world, Activation, Exit, FromMethod, FromBody, FromClause, Gives, Halts}
use Rattle.ns_moves.specs.Control.{Control, Now, Enter, PartControl, Skip, Stop, EnterPart, Waiting, Waits, Finishes, halts, fails, charged, gives}
use Rattle.ns_moves.specs.Bodies.{parameters_of, has_environment, first_locals, initialiser_of, clause_of, no_home, opened, is_beside, environment_at}
use Rattle.ns_moves.specs.Bodies.{local_stored}
use Rattle.ns_moves.specs.Classes.{newly_kept, kept_or, class_over, head, nested, instance, factory_selector, super_selector}
use Rattle.ns_moves.specs.Classes.{declared_part, object_part, part_of, super_part, slot_filled, body_ended}
use Rattle.ns_moves.specs.Blocks.{new_cell, block_entered, evaluated, waiting, listed, item_at, acted, method_next}
use Rattle.ns_world.specs.KernelTable.{row_at}
use Rattle.ns_moves.specs.Sends.{Target, receiver_of, found_at, site_at, Arguments, Listed, Wrapped, given, first_of, one_more}
use Rattle.ns_moves.specs.Sends.{method_entered, factory_entered, set, nested_in, done_with, message_sel, not_found, answered_by, sent, sent_from}
use Rattle.ns_link.specs.Fewer.{world_to, to_steps, after_to, control_to, part_to, waiting_to}
use Rattle.ns_link.proofs.FewerRows.{made_to, entered_to, charged_to, stored_to, class_made_to, row_to}

-- the same with that limit, or the limit
abbrev pub Follows : {A : Type 0} → ℕ → (A → A) → (Ending → Progress → A) → Progress → A → A → Type 0
Follows k to stop p x' x = (x' ≡ to x) ⊎ (x' ≡ stop (Limit Steps) (to_steps k p))

-- what is done with what follows
pub follows_on : {A B : Type 0} (k : ℕ) (to : A → A) (stop : Ending → Progress → A) (to' : B → B) (stop' : Ending → Progress → B) (p : Progress) (f : A → B)
    (x' x : A) → f (to x) ≡ to' (f x) → f (stop (Limit Steps) (to_steps k p)) ≡ stop' (Limit Steps) (to_steps k p) → Follows k to stop p x' x
    → Follows k to' stop' p (f x') (f x)
follows_on k to stop to' stop' p f x' x e s (inl same) = inl (ap f same ∙ e)
follows_on k to stop to' stop' p f x' x e s (inr spent) = inr (ap f spent ∙ s)

pub steps_follow : {A : Type 0} (k : ℕ) (to : A → A) (stop : Ending → Progress → A) (p : Progress) (go' go : Progress → A) →
    k ≤ p.world.limits.steps
    → ((q : Progress) → go' (to_steps k q) ≡ to (go q))
    → Follows k to stop p (charged stop Steps (stepped (world_to k p.world)) (to_steps k p) go') (charged stop Steps (stepped p.world) p go)
steps_follow k to stop p go' go le goes = tested (nat_lt p.world.steps k) (nat_lt p.world.steps p.world.limits.steps) refl refl
  where
    next : World
    next = record p.world { steps = p.world.steps + 1 }

    tested : (b' b : Bool) → nat_lt p.world.steps k ≡ b' → nat_lt p.world.steps p.world.limits.steps ≡ b
        → Follows k to stop p (charged stop Steps (cond b' (Some (world_to k next)) None) (to_steps k p) go') (charged stop Steps (cond b (Some next) None) p go)
    tested true true e f = inl (goes (in_world p next))
    tested true false e f = absurd (let less = ltb-true p.world.steps k e in let most = ltb-false p.world.steps p.world.limits.steps f in omega (arith, less, most, le))
    tested false b e f = inr refl

module _ (k : ℕ) (code : CodeProgram) where
  -- ---- bodies

  opened_to : {A : Type 0} (to : A → A) (stop : Ending → Progress → A) (go : Activation → List Value → Progress → A) (a : Activation) (arguments : List Value)
      (p : Progress) → stop (Limit Cells) (to_steps k p) ≡ to (stop (Limit Cells) p)
      → ((a : Activation) (ls : List Value) (q : Progress) → go a ls (to_steps k q) ≡ to (go a ls q))
      → opened code stop go a arguments (to_steps k p) ≡ to (opened code stop go a arguments p)
  opened_to to stop go a arguments p stops goes = tested (has_environment code a.body)
    where
      cell : Cell
      cell = EnvironmentCell a.env (first_locals code a.body arguments)

      inner : Activation
      inner = record a { env = value.Ref (heap_size p.world.cells) }

      tested : (b : Bool) → cond b (charged stop Cells (made (world_to k p.world) cell) (to_steps k p) (go inner []))
          (go a (first_locals code a.body arguments) (to_steps k p))
          ≡ to (cond b (charged stop Cells (made p.world cell) p (go inner [])) (go a (first_locals code a.body arguments) p))
      tested true =
          charged_to k to stop Cells (made (world_to k p.world) cell) (made p.world cell) p (go inner []) (go inner []) (made_to k p.world cell) stops (goes inner [])
      tested false = goes a (first_locals code a.body arguments) p

  given_to : (arguments : Arguments) (p : Progress) (go' go : List Value → Progress → Control)
      → ((values : List Value) (q : Progress) → go' values (to_steps k q) ≡ control_to k (go values q))
      → given arguments (to_steps k p) go' ≡ control_to k (given arguments p go)
  given_to (Listed values) p go' go goes = goes values p
  given_to (Wrapped sel values) p go' go goes =
      charged_to k (control_to k) halts Cells (made (world_to k p.world) (ArrayCell values)) (made p.world (ArrayCell values)) p _ _
      (made_to k p.world (ArrayCell values)) refl λ q.
      let message = MessageCell sel (value.Ref (heap_size p.world.cells)) in
      charged_to k (control_to k) halts Cells (made (world_to k q.world) message) (made q.world message) q _ _ (made_to k q.world message) refl
      (goes (value.Ref (heap_size q.world.cells) ∷ []))

  pub new_cell_to : (cell : Cell) (p : Progress) → new_cell cell (to_steps k p) ≡ after_to k (new_cell cell p)
  new_cell_to cell p =
      charged_to k (after_to k) Halts Cells (made (world_to k p.world) cell) (made p.world cell) p (Gives (value.Ref (heap_size p.world.cells)))
      (Gives (value.Ref (heap_size p.world.cells))) (made_to k p.world cell) refl (λ q. refl)

  pub local_to : (a : Activation) (hops index : ℕ) (new : Value) (p : Progress)
      → local_stored code a hops index new (to_steps k p) ≡ to_steps k (local_stored code a hops index new p)
  local_to a hops index new p = tested (is_beside code a hops)
    where
      next : World
      next = written p.world (environment_at p.world.cells code a hops) index new

      tested : (b : Bool) → in_world (to_steps k p) (cond b (world_to k p.world) (world_to k next)) ≡ to_steps k (in_world p (cond b p.world next))
      tested true = refl
      tested false = refl

  pub slot_to : (a : Activation) (slot : ℕ) (new : Value) (p : Progress)
      → slot_filled code a slot new (to_steps k p) ≡ to_steps k (slot_filled code a slot new p)
  slot_to a slot new p = ap (in_world (to_steps k p)) (stored_to k p.world a.self (entry_word p.world.cells code a.holder slot) new)

  -- ---- classes and instances

  over_to : (object holder class : ℕ) (over : Value) (site : Site) (p : Progress)
      → class_over code object holder class over site (to_steps k p) ≡ after_to k (class_over code object holder class over site p)
  over_to object holder class over site p = cases (kept_class p.world.cells code object holder class)
    where
      cases : (o : Option ℕ) → kept_or o (to_steps k p) (newly_kept code object holder class over site (to_steps k p))
          ≡ after_to k (kept_or o p (newly_kept code object holder class over site p))
      cases (Some kept) = refl
      cases None =
          class_made_to k (class_cell p.world.cells code class (value.Ref object) (value.Ref holder) over) (class_fault p.world.cells over) site p _ _ (λ number q. refl)

  head_to : (object holder class : ℕ) (clause : Option ℕ) (site : Site) (p : Progress)
      → head code object holder class clause site (to_steps k p) ≡ control_to k (head code object holder class clause site p)
  head_to object holder class None site p = ap Now (over_to object holder class (value.Kernel Object) site p)
  head_to object holder class (Some clause) site p =
      charged_to k (control_to k) halts Depth (entered (world_to k p.world)) (entered p.world) p _ _ (entered_to k p.world) refl λ q.
      opened_to (control_to k) halts (Enter (FromClause object holder class))
      (record { self = value.Ref object; holder = holder; body = clause; home = no_home; env = value.Nil; site = site }) [] q refl (λ a ls q. refl)

  nested_to : (object holder class : ℕ) (kept : Option ℕ) (site : Site) (p : Progress)
      → nested code object holder class kept site (to_steps k p) ≡ control_to k (nested code object holder class kept site p)
  nested_to object holder class (Some kept) site p = refl
  nested_to object holder class None site p = head_to object holder class (clause_of code class) site p

  instance_to : (class : ℕ) (arguments : List Value) (site : Site) (p : Progress)
      → instance code class arguments site (to_steps k p) ≡ control_to k (instance code class arguments site p)
  instance_to class arguments site p =
      let cell = ObjectCell class (replicate (layout_of p.world.cells code class) value.Nil) in
      charged_to k (control_to k) halts Cells (made (world_to k p.world) cell) (made p.world cell) p _ _ (made_to k p.world cell) refl λ q.
      opened_to (control_to k) halts (Enter FromBody)
      (record {
        self = value.Ref (heap_size p.world.cells);
        holder = class;
        body = initialiser_of code (declaration_of p.world.cells class);
        home = no_home;
        env = value.Nil;
        site = site;
      }) arguments q refl (λ a ls q. refl)

  either_part : (b : Bool) (x' x y : PartControl) → x' ≡ part_to k x → cond b x' (part_to k y) ≡ part_to k (cond b x y)
  either_part true x' x y e = e
  either_part false x' x y e = refl

  declared_to : (a : Activation) (over sel : ℕ) (arguments : List Value) (p : Progress)
      → declared_part code a over sel arguments (to_steps k p) ≡ part_to k (declared_part code a over sel arguments p)
  declared_to a over sel arguments p =
      either_part (sel == factory_selector code (declaration_of p.world.cells over)) _ _ (Stop (error InitMismatch a.site) p)
      (charged_to k (part_to k) Stop Depth (entered (world_to k p.world)) (entered p.world) p _ _ (entered_to k p.world) refl λ q.
      opened_to (part_to k) Stop EnterPart
      (record {
        self = a.self;
        holder = over;
        body = initialiser_of code (declaration_of p.world.cells over);
        home = no_home;
        env = value.Nil;
        site = a.site;
      }) arguments q refl (λ a ls q. refl))

  object_to : (a : Activation) (sel : ℕ) (p : Progress) → object_part code a sel (to_steps k p) ≡ part_to k (object_part code a sel p)
  object_to a sel p = either_part (bytes_eq (selector_text code sel) (codes "new")) (Skip (to_steps k p)) (Skip p) (Stop (error InitMismatch a.site) p) refl

  of_to : (a : Activation) (over : Value) (sel : ℕ) (arguments : List Value) (p : Progress)
      → part_of code a over sel arguments (to_steps k p) ≡ part_to k (part_of code a over sel arguments p)
  of_to a value.Nil sel arguments p = object_to a sel p
  of_to a value.True sel arguments p = object_to a sel p
  of_to a value.False sel arguments p = object_to a sel p
  of_to a (value.Int number) sel arguments p = object_to a sel p
  of_to a (value.Sym name) sel arguments p = object_to a sel p
  of_to a (value.Kernel class) sel arguments p = object_to a sel p
  of_to a (value.Ref at) sel arguments p = declared_to a at sel arguments p

  pub super_to : (a : Activation) (arguments : List Value) (p : Progress)
      → super_part code a arguments (to_steps k p) ≡ part_to k (super_part code a arguments p)
  super_to a arguments p =
      of_to a (superclass_in (find_cell p.world.cells a.holder)) (super_selector code (declaration_of p.world.cells a.holder)) arguments p

  pub ended_to : (exit : Exit) (a : Activation) (new : Value) (p : Progress)
      → body_ended code exit a new (to_steps k p) ≡ after_to k (body_ended code exit a new p)
  ended_to FromMethod a new p = refl
  ended_to FromBody a new p = refl
  ended_to (FromClause object holder class) a new p = over_to object holder class new a.site (in_world p (left p.world))

  -- ---- what is done with what is found

  method_to : (body holder : ℕ) (receiver : Value) (arguments : Arguments) (site : Site) (p : Progress)
      → method_entered code body holder receiver arguments site (to_steps k p) ≡ control_to k (method_entered code body holder receiver arguments site p)
  method_to body holder receiver arguments site p =
      charged_to k (control_to k) halts Depth (entered (world_to k p.world)) (entered p.world) p _ _ (entered_to k p.world) refl λ q.
      given_to arguments q _ _ λ values q.
      opened_to (control_to k) halts (λ activation locals progress. Enter FromMethod activation locals (one_more progress))
      (record { self = receiver; holder = holder; body = body; home = q.begun; env = value.Nil; site = site }) values q refl (λ a ls q. refl)

  factory_to : (class : ℕ) (arguments : Arguments) (site : Site) (p : Progress)
      → factory_entered code class arguments site (to_steps k p) ≡ control_to k (factory_entered code class arguments site p)
  factory_to class arguments site p =
      charged_to k (control_to k) halts Depth (entered (world_to k p.world)) (entered p.world) p _ _ (entered_to k p.world) refl λ q.
      given_to arguments q _ _ λ values q. instance_to class values site q

  set_to : (word : ℕ) (receiver : Value) (arguments : Arguments) (p : Progress)
      → set word receiver arguments (to_steps k p) ≡ control_to k (set word receiver arguments p)
  set_to word receiver arguments p =
      given_to arguments p _ _ λ values q. ap (λ world. gives receiver (in_world (to_steps k q) world)) (stored_to k q.world receiver word (first_of values))

  within_to : (receiver : Value) (holder class : ℕ) (site : Site) (p : Progress)
      → nested_in code receiver holder class site (to_steps k p) ≡ control_to k (nested_in code receiver holder class site p)
  within_to value.Nil holder class site p = refl
  within_to value.True holder class site p = refl
  within_to value.False holder class site p = refl
  within_to (value.Int number) holder class site p = refl
  within_to (value.Sym sel) holder class site p = refl
  within_to (value.Kernel kernel) holder class site p = refl
  within_to (value.Ref object) holder class site p = nested_to object holder class (kept_class p.world.cells code object holder class) site p

  done_to : (member : Found) (sel : Sel) (receiver : Value) (arguments : Arguments) (site : Site) (p : Progress)
      → done_with code member sel receiver arguments site (to_steps k p) ≡ control_to k (done_with code member sel receiver arguments site p)
  done_to (found.Method body holder) sel receiver arguments site p = method_to body holder receiver arguments site p
  done_to (found.Getter holder word) sel receiver arguments site p = refl
  done_to (found.Setter holder word) sel receiver arguments site p = set_to word receiver arguments p
  done_to (found.Nested class holder) sel receiver arguments site p = within_to receiver holder class site p
  done_to (found.Factory class) sel receiver arguments site p = factory_to class arguments site p
  done_to (found.Kernel number) sel receiver arguments site p =
      given_to arguments p _ _ λ values q. row_to k code (row_at number) sel receiver values site q
  done_to found.NotPublic sel receiver arguments site p = refl
  done_to found.Absent sel receiver arguments site p = refl

  missed_to : (member : Found) (sel : Sel) (receiver : Value) (values : List Value) (site : Site) (p : Progress)
      → not_found code member sel receiver values site (to_steps k p) ≡ control_to k (not_found code member sel receiver values site p)
  missed_to (found.Method body holder) sel receiver values site p = done_to (found.Method body holder) (message_sel code) receiver (Wrapped sel values) site p
  missed_to (found.Getter holder word) sel receiver values site p = done_to (found.Getter holder word) (message_sel code) receiver (Wrapped sel values) site p
  missed_to (found.Setter holder word) sel receiver values site p = done_to (found.Setter holder word) (message_sel code) receiver (Wrapped sel values) site p
  missed_to (found.Nested class holder) sel receiver values site p = done_to (found.Nested class holder) (message_sel code) receiver (Wrapped sel values) site p
  missed_to (found.Factory class) sel receiver values site p = done_to (found.Factory class) (message_sel code) receiver (Wrapped sel values) site p
  missed_to (found.Kernel number) sel receiver values site p = refl
  missed_to found.NotPublic sel receiver values site p = done_to found.NotPublic (message_sel code) receiver (Wrapped sel values) site p
  missed_to found.Absent sel receiver values site p = done_to found.Absent (message_sel code) receiver (Wrapped sel values) site p

  answered_to : (member : Found) (sel : Sel) (receiver : Value) (values : List Value) (site : Site) (p : Progress)
      → answered_by code member sel receiver values site (to_steps k p) ≡ control_to k (answered_by code member sel receiver values site p)
  answered_to (found.Method body holder) sel receiver values site p = done_to (found.Method body holder) sel receiver (Listed values) site p
  answered_to (found.Getter holder word) sel receiver values site p = done_to (found.Getter holder word) sel receiver (Listed values) site p
  answered_to (found.Setter holder word) sel receiver values site p = done_to (found.Setter holder word) sel receiver (Listed values) site p
  answered_to (found.Nested class holder) sel receiver values site p = done_to (found.Nested class holder) sel receiver (Listed values) site p
  answered_to (found.Factory class) sel receiver values site p = done_to (found.Factory class) sel receiver (Listed values) site p
  answered_to (found.Kernel number) sel receiver values site p = done_to (found.Kernel number) sel receiver (Listed values) site p
  answered_to found.NotPublic sel receiver values site p = done_to found.NotPublic sel receiver (Listed values) site p
  answered_to found.Absent sel receiver values site p =
      missed_to (found_from p.world.cells code (start_of p.world.cells receiver) (own_number code DoesNotUnderstand) Inner) sel receiver values site p

  -- ---- sends, evaluations and the kernel's methods

  pub sends_follow : (a : Activation) (target : Target) (sel : Sel) (values : List Value) (place : Option SourcePlace) (p : Progress)
      → k ≤ p.world.limits.steps
      → Follows k (control_to k) halts p (sent code a target sel values place (to_steps k p)) (sent code a target sel values place p)
  sends_follow a target sel values place p le =
      let heap = p.world.cells in
      let receiver = receiver_of heap a target in
      steps_follow k (control_to k) halts p _ _ le
      (answered_to (found_at heap code a target sel.0) sel receiver values (site_at heap place receiver sel))

  pub from_follows : (receiver : Value) (sel : Sel) (values : List Value) (site : Site) (p : Progress) → k ≤ p.world.limits.steps
      → Follows k (control_to k) halts p (sent_from code receiver sel values site (to_steps k p)) (sent_from code receiver sel values site p)
  from_follows receiver sel values site p le =
      let heap = p.world.cells in
      steps_follow k (control_to k) halts p _ _ le (answered_to (found_from heap code (start_of heap receiver) sel.0 Plain) sel receiver values site)

  either_follows : (b : Bool) (p : Progress) (x' x y : Control) → Follows k (control_to k) halts p x' x
      → Follows k (control_to k) halts p (cond b x' (control_to k y)) (cond b x y)
  either_follows true p x' x y f = f
  either_follows false p x' x y f = inl refl

  block_follows : (cell : NewCell) (arguments : List Value) (site : Site) (p : Progress) → k ≤ p.world.limits.steps
      → Follows k (control_to k) halts p (block_entered code cell arguments site (to_steps k p)) (block_entered code cell arguments site p)
  block_follows (new.Block body env home receiver holder) arguments site p le =
      either_follows (length arguments == parameters_of code body) p _ _ (fails WrongArity site p)
      (steps_follow k (control_to k) halts p _ _ le λ q.
      charged_to k (control_to k) halts Depth (entered (world_to k q.world)) (entered q.world) q _ _ (entered_to k q.world) refl λ q.
      opened_to (control_to k) halts (Enter FromBody)
      (record { self = receiver; holder = holder; body = body; home = home; env = env; site = site }) arguments q refl (λ a ls q. refl))
  block_follows (new.Object class words) arguments site p le = inl refl
  block_follows (new.Class decl base encl holder over) arguments site p le = inl refl
  block_follows (new.Environment parent locals) arguments site p le = inl refl
  block_follows (new.Array size) arguments site p le = inl refl
  block_follows (new.Text bytes) arguments site p le = inl refl
  block_follows (new.Facet kind) arguments site p le = inl refl
  block_follows (new.Mirror shown) arguments site p le = inl refl
  block_follows (new.Message sel args) arguments site p le = inl refl

  pub evaluated_follows : (block : Value) (arguments : List Value) (site : Site) (p : Progress) → k ≤ p.world.limits.steps
      → Follows k (control_to k) halts p (evaluated code block arguments site (to_steps k p)) (evaluated code block arguments site p)
  evaluated_follows block arguments site p le = block_follows (shape_of_value p.world.cells block) arguments site p le

  abbrev pub ends_waiting : Ending → Progress → Waiting
  ends_waiting ending progress = Finishes (Halts ending progress)

  acted_follows : (a : KAction) (state : KState) (site : Site) (p : Progress) → k ≤ p.world.limits.steps
      → Follows k (waiting_to k) ends_waiting p (acted a state site (to_steps k p)) (acted a state site p)
  acted_follows (action.Evaluate block argument false count) state site p le = inl refl
  acted_follows (action.Evaluate block argument true count) state site p le =
      steps_follow k (waiting_to k) ends_waiting p _ (Waits block (listed argument) (waiting state count)) le (λ q. refl)
  acted_follows (action.EvaluateItem block item count) state site p le =
      steps_follow k (waiting_to k) ends_waiting p _ (λ p. Waits block (item_at p.world.cells state.receiver item ∷ []) (waiting state count) p) le (λ q. refl)
  acted_follows (action.Answer value) state site p le = inl refl
  acted_follows (action.Fail kind) state site p le = inl refl

  pub next_follows : (named : KMethod) (state : KState) (site : Site) (p : Progress) → k ≤ p.world.limits.steps
      → Follows k (waiting_to k) ends_waiting p (method_next named state site (to_steps k p)) (method_next named state site p)
  next_follows named state site p le = acted_follows (next named state) state site p le
