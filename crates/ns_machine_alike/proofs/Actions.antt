-- The actions of a run that make instances and classes, begin bodies and end them keep two runs paired.
use Rattle.std.proofs.Common.{◌≡◌, ℕ, ◌-◌, List, [], ◌∷◌, Option, Some, None, false, cond, refl, ap, ◌∙◌, subst, replicate, arith}
use Rattle.std.specs.Prelude.{◌==◌, codes, length, nat_lt}
use Rattle.std.specs.Str.{bytes_eq}
use Rattle.ns_code.specs.declared.program.CodeProgram.{CodeProgram}
use Rattle.ns_code.specs.Selector.{selector_text}
use Rattle.std.proofs.lemmas.Option.{same_Some}
use Rattle.ns_world.specs.declared.value.Value.{Value}
use Rattle.ns_world.specs.declared.value.Value.TheVariants.{Nil, True, False, Int, Sym, Kernel, Ref}
use Rattle.ns_world.specs.declared.value.KClass.TheVariants.{Object}
use Rattle.ns_world.specs.declared.ending.Ending.{Ending}
use Rattle.ns_world.specs.declared.ending.Ending.TheVariants.{Limit}
use Rattle.ns_world.specs.declared.ending.Kind.{Kind}
use Rattle.ns_world.specs.declared.ending.Kind.TheVariants as kind
use Rattle.ns_world.specs.declared.ending.LimitKind.TheVariants.{Cells, Depth}
use Rattle.ns_world.specs.declared.cell.NewCell.{NewCell}
use Rattle.ns_world.specs.declared.cell.NewCell.TheVariants as new
use Rattle.ns_world.specs.Cell.{Cell, ObjectCell, EnvironmentCell}
use Rattle.ns_world.specs.Heap.{Heap, heap_size, find_cell, superclass_in, word_at, is_class, chain_of}
use Rattle.ns_world.specs.Layout.{declaration_of, layout_of, entry_word}
use Rattle.ns_world.specs.World.{made, entered, written, stored}
use Rattle.ns_classes.specs.declared.apply.MakeFault.{MakeFault}
use Rattle.ns_classes.specs.declared.apply.MakeFault.TheVariants.{NotAClass, ChainLimit}
use Rattle.ns_classes.specs.Apply.{class_fault, class_cell, chain_fault}
use Rattle.ns_classes.specs.Nested.{kept_in, kept_class, nested_entry}
use Rattle.ns_moves.specs.Suiting.{is_reference}
use Rattle.ns_moves.specs.Control.{Progress, in_world, Activation, Exit, FromMethod, FromBody, FromClause, After, Gives, Halts, Enter, Skip, Stop, EnterPart, halts, charged, frame_left}
use Rattle.ns_moves.specs.Site.{make_fault, error, fault_ending}
use Rattle.ns_moves.specs.declared.site.Site.{Site}
use Rattle.ns_moves.specs.Bodies.{no_home, first_locals, opened, has_environment, locals_of, parameters_of, initialiser_of, clause_of}
use Rattle.ns_moves.specs.Classes.{class_made, mixed, keeping, newly_kept, kept_or, class_over, head, nested, instance, super_selector, factory_selector, declared_part, object_part, part_of, super_part, slot_filled, body_ended}
use Rattle.ns_machine_alike.specs.Paired.{IsPairing, Homeless, Paired, Partners, Same, AllPaired, NumberPaired, NumbersPaired, EndingPaired, CellPaired, HeapPaired, Abreast, ActivationPaired, ExitPaired, AfterPaired, ControlPaired, PartPaired}
use Rattle.ns_machine_alike.proofs.Values.{cond_so, all_append, all_nil}
use Rattle.ns_machine_alike.proofs.Charging.{faulted, frame_charged, left_abreast}
use Rattle.ns_machine_alike.proofs.Keeping.{NoBoard, cell_charged, written_abreast}
use Rattle.ns_machine_alike.proofs.Reading.{ShapePaired, word_at_paired, superclass_paired, same_class, same_declaration, same_layout, same_entry}
use Rattle.ns_machine_alike.proofs.Rows.{stored_abreast}

-- an error ends both with the same
pub same_error : (Pair : ℕ → ℕ → Type 0) (k : Kind) (site site' : Site) → site ≡ site' → EndingPaired Pair (error k site) (error k site')
same_error Pair k site site' e = ap (λ s. record { kind = k; place = s.place; class = s.class; sel = s.sel }) e

module _ (Pair : ℕ → ℕ → Type 0) (first second : Progress) (pairing : IsPairing Pair first.world second.world) where
  -- ---- bodies

  pub locals_paired : (code : CodeProgram) (body body' : ℕ) (arguments arguments' : List Value) → body ≡ body' → AllPaired Pair arguments arguments' → AllPaired Pair (first_locals code body arguments) (first_locals code body' arguments')
  locals_paired code body body' arguments arguments' e all =
      subst (λ b. AllPaired Pair (first_locals code body arguments) (first_locals code b arguments')) e
      (all_append Pair arguments (replicate (locals_of code body - parameters_of code body) Nil) arguments' (replicate (locals_of code body - parameters_of code body) Nil) all (all_nil Pair (locals_of code body - parameters_of code body)))

  -- Two bodies begin, with environments of their own where they have them; the homes are those that were given.
  pub opened_paired : {A B : Type 0} (P : A → B → Type 0) (code : CodeProgram) (stop : Ending → Progress → A) (stop' : Ending → Progress → B) (go : Activation → List Value → Progress → A) (go' : Activation → List Value → Progress → B)
      (activation activation' : Activation) (arguments arguments' : List Value) (one two : Progress)
      → Abreast Pair first second one two → ActivationPaired Pair first second activation activation' → AllPaired Pair arguments arguments' → P (stop (Limit Cells) one) (stop' (Limit Cells) two)
      → ((inner inner' : Activation) (locals locals' : List Value) (next next' : Progress) → ActivationPaired Pair first second inner inner' → inner.home ≡ activation.home → inner'.home ≡ activation'.home → AllPaired Pair locals locals'
      → Abreast Pair first second next next' → P (go inner locals next) (go' inner' locals' next'))
      → P (opened code stop go activation arguments one) (opened code stop' go' activation' arguments' two)
  opened_paired P code stop stop' go go' activation activation' arguments arguments' one two a p all stopped goes =
      let locals = locals_paired code activation.body activation'.body arguments arguments' p.body all in
      cond_so P (has_environment code activation.body) (has_environment code activation'.body)
      (charged stop Cells (made one.world (EnvironmentCell activation.env (first_locals code activation.body arguments))) one (go (record activation { env = Ref (heap_size one.world.cells) }) []))
      (go activation (first_locals code activation.body arguments) one)
      (charged stop' Cells (made two.world (EnvironmentCell activation'.env (first_locals code activation'.body arguments'))) two (go' (record activation' { env = Ref (heap_size two.world.cells) }) []))
      (go' activation' (first_locals code activation'.body arguments') two)
      (ap (has_environment code) p.body)
      (λ t. cell_charged Pair first second pairing P stop stop' one two (EnvironmentCell activation.env (first_locals code activation.body arguments)) (EnvironmentCell activation'.env (first_locals code activation'.body arguments'))
      (go (record activation { env = Ref (heap_size one.world.cells) }) []) (go' (record activation' { env = Ref (heap_size two.world.cells) }) []) a (p.env, locals) (λ e. absurd (cc (e))) stopped
      (λ next next' new b. goes (record activation { env = Ref (heap_size one.world.cells) }) (record activation' { env = Ref (heap_size two.world.cells) }) [] [] next next'
      (record { self = p.self; holder = p.holder; body = p.body; home = p.home; env = Partners (heap_size one.world.cells) (heap_size two.world.cells) new; site = p.site }) refl refl tt b))
      (λ t. goes activation activation' (first_locals code activation.body arguments) (first_locals code activation'.body arguments') one two p refl refl locals a)

  -- ---- classes

  same_length_of : (ns ms : List ℕ) → NumbersPaired Pair ns ms → length ns ≡ length ms
  same_length_of [] [] p = refl
  same_length_of [] (m ∷ ms) p = absurd p
  same_length_of (n ∷ ns) [] p = absurd p
  same_length_of (n ∷ ns) (m ∷ ms) p = omega (arith, same_length_of ns ms p.1)

  pub same_fault : (heap other : Heap) (over over' : Value) → HeapPaired Pair first second heap other → Paired Pair over over' → class_fault heap over ≡ class_fault other over'
  same_fault heap other over over' h (Partners n m p) =
      let class = same_class Pair first second pairing heap other h n m p in
      let chain : chain_fault (chain_of heap n) ≡ chain_fault (chain_of other m) = ap (λ k. cond (nat_lt 255 k) (Some ChainLimit) None) (same_length_of (chain_of heap n) (chain_of other m) (h.chains n m p)) in
      ap (λ b. cond b (chain_fault (chain_of heap n)) (Some NotAClass)) class ∙ ap (λ f. cond (is_class (find_cell other m)) f (Some NotAClass)) chain
  same_fault heap other over over' h (Same value e) = by value e
    where
      by : (v : Value) → is_reference v ≡ false → class_fault heap v ≡ class_fault other v
      by Nil e = refl
      by True e = refl
      by False e = refl
      by (Int number) e = refl
      by (Sym sel) e = refl
      by (Kernel class) e = refl
      by (Ref at) e = absurd (cc (e))

  class_made_paired : (cell cell' : Cell) (fault fault' : Option MakeFault) (site site' : Site) (one two : Progress) (go go' : ℕ → Progress → After) → Abreast Pair first second one two
      → fault ≡ fault' → site ≡ site' → CellPaired Pair first second one.world.cells two.world.cells cell cell' → NoBoard cell
      → ((next next' : Progress) → Pair (heap_size one.world.cells) (heap_size two.world.cells) → Abreast Pair first second next next' → AfterPaired Pair first second (go (heap_size one.world.cells) next) (go' (heap_size two.world.cells) next'))
      → AfterPaired Pair first second (class_made cell fault site one go) (class_made cell' fault' site' two go')
  class_made_paired cell cell' (Some f) (Some f') site site' one two go go' a e s p plain goes =
      (subst (λ g. EndingPaired Pair (fault_ending (make_fault f) site) (fault_ending (make_fault g) site')) (same_Some f f' e) (faulted Pair (make_fault f) site site' s), a)
  class_made_paired cell cell' None None site site' one two go go' a e s p plain goes =
      cell_charged Pair first second pairing (AfterPaired Pair first second) Halts Halts one two cell cell' (go (heap_size one.world.cells)) (go' (heap_size two.world.cells)) a p plain (refl, a) goes
  class_made_paired cell cell' (Some f) None site site' one two go go' a e s p plain goes = absurd (cc (e))
  class_made_paired cell cell' None (Some f') site site' one two go go' a e s p plain goes = absurd (cc (e))

  pub mixed_paired : (code : CodeProgram) (shape shape' : NewCell) (over over' : Value) (site site' : Site) (one two : Progress) → Abreast Pair first second one two → ShapePaired Pair first second pairing shape shape' → Paired Pair over over'
      → site ≡ site' → AfterPaired Pair first second (mixed code shape over site one) (mixed code shape' over' site' two)
  mixed_paired code (new.Class decl base encl holder under) (new.Class decl' base' encl' holder' under') over over' site site' one two a s p e =
      class_made_paired (class_cell one.world.cells code decl encl holder over) (class_cell two.world.cells code decl' encl' holder' over') (class_fault one.world.cells over) (class_fault two.world.cells over') site site' one two
      (λ number progress. Gives (Ref number) progress) (λ number progress. Gives (Ref number) progress) a (same_fault one.world.cells two.world.cells over over' a.heaps p) e (s.0, s.1, s.2, p) (λ q. absurd (cc (q)))
      (λ next next' new b. (Partners (heap_size one.world.cells) (heap_size two.world.cells) new, b))
  mixed_paired code (new.Object class words) (new.Object class' words') over over' site site' one two a s p e = (same_error Pair kind.NotAClass site site' e, a)
  mixed_paired code (new.Block body env home receiver holder) (new.Block body' env' home' receiver' holder') over over' site site' one two a s p e = (same_error Pair kind.NotAClass site site' e, a)
  mixed_paired code (new.Environment parent locals) (new.Environment parent' locals') over over' site site' one two a s p e = (same_error Pair kind.NotAClass site site' e, a)
  mixed_paired code (new.Array size) (new.Array size') over over' site site' one two a s p e = (same_error Pair kind.NotAClass site site' e, a)
  mixed_paired code (new.Text bytes) (new.Text bytes') over over' site site' one two a s p e = (same_error Pair kind.NotAClass site site' e, a)
  mixed_paired code (new.Facet facet) (new.Facet facet') over over' site site' one two a s p e = (same_error Pair kind.NotAClass site site' e, a)
  mixed_paired code (new.Mirror mirrored) (new.Mirror mirrored') over over' site site' one two a s p e = (same_error Pair kind.NotAClass site site' e, a)
  mixed_paired code (new.Message sel args) (new.Message sel' args') over over' site site' one two a s p e = (same_error Pair kind.NotAClass site site' e, a)
  mixed_paired code shape shape' over over' site site' one two a s p e = absurd s

  -- the word in which a nested class is kept
  same_nested_word : (code : CodeProgram) (heap other : Heap) (holder holder' class : ℕ) → HeapPaired Pair first second heap other → Pair holder holder'
      → entry_word heap code holder (nested_entry code (declaration_of heap holder) class) ≡ entry_word other code holder' (nested_entry code (declaration_of other holder') class)
  same_nested_word code heap other holder holder' class h p =
      ap (λ d. entry_word heap code holder (nested_entry code d class)) (same_declaration Pair first second pairing heap other h holder holder' p)
      ∙ same_entry Pair first second pairing heap other h code holder holder' (nested_entry code (declaration_of other holder') class) p

  newly_kept_paired : (code : CodeProgram) (object object' holder holder' class : ℕ) (over over' : Value) (site site' : Site) (one two : Progress) → Abreast Pair first second one two → Pair object object' → Pair holder holder'
      → Paired Pair over over' → site ≡ site' → AfterPaired Pair first second (newly_kept code object holder class over site one) (newly_kept code object' holder' class over' site' two)
  newly_kept_paired code object object' holder holder' class over over' site site' one two a o h p e =
      class_made_paired (class_cell one.world.cells code class (Ref object) (Ref holder) over) (class_cell two.world.cells code class (Ref object') (Ref holder') over') (class_fault one.world.cells over) (class_fault two.world.cells over') site site' one two
      (λ number progress. Gives (Ref number) (in_world progress (keeping code object holder class number progress.world))) (λ number progress. Gives (Ref number) (in_world progress (keeping code object' holder' class number progress.world)))
      a (same_fault one.world.cells two.world.cells over over' a.heaps p) e (refl, Partners object object' o, Partners holder holder' h, p) (λ q. absurd (cc (q)))
      (λ next next' new b. (Partners (heap_size one.world.cells) (heap_size two.world.cells) new, kept next next' new b))
    where
      kept : (next next' : Progress) → Pair (heap_size one.world.cells) (heap_size two.world.cells) → Abreast Pair first second next next'
          → Abreast Pair first second (in_world next (keeping code object holder class (heap_size one.world.cells) next.world)) (in_world next' (keeping code object' holder' class (heap_size two.world.cells) next'.world))
      kept next next' new b =
          subst (λ word. Abreast Pair first second (in_world next (keeping code object holder class (heap_size one.world.cells) next.world)) (in_world next' (written next'.world object' word (Ref (heap_size two.world.cells)))))
          (same_nested_word code next.world.cells next'.world.cells holder holder' class b.heaps h)
          (written_abreast Pair first second pairing next next' object object' (entry_word next.world.cells code holder (nested_entry code (declaration_of next.world.cells holder) class)) (Ref (heap_size one.world.cells)) (Ref (heap_size two.world.cells)) b o
          (Partners (heap_size one.world.cells) (heap_size two.world.cells) new))

  -- the class that an object keeps
  number_kept : (value value' : Value) → Paired Pair value value' → NumberPaired Pair (kept_in value) (kept_in value')
  number_kept value value' (Partners n m p) = p
  number_kept value value' (Same same e) = by same e
    where
      by : (v : Value) → is_reference v ≡ false → NumberPaired Pair (kept_in v) (kept_in v)
      by Nil e = tt
      by True e = tt
      by False e = tt
      by (Int number) e = tt
      by (Sym sel) e = tt
      by (Kernel class) e = tt
      by (Ref at) e = absurd (cc (e))

  pub kept_class_paired : (code : CodeProgram) (heap other : Heap) (object object' holder holder' class : ℕ) → HeapPaired Pair first second heap other → Pair object object' → Pair holder holder'
      → NumberPaired Pair (kept_class heap code object holder class) (kept_class other code object' holder' class)
  kept_class_paired code heap other object object' holder holder' class h o p =
      let word = entry_word heap code holder (nested_entry code (declaration_of heap holder) class) in
      subst (λ w. NumberPaired Pair (kept_class heap code object holder class) (kept_in (word_at other object' w))) (same_nested_word code heap other holder holder' class h p)
      (number_kept (word_at heap object word) (word_at other object' word) (word_at_paired Pair first second pairing heap other h object object' word o))

  pub class_over_paired : (code : CodeProgram) (object object' holder holder' class : ℕ) (over over' : Value) (site site' : Site) (one two : Progress) → Abreast Pair first second one two → Pair object object' → Pair holder holder'
      → Paired Pair over over' → site ≡ site' → AfterPaired Pair first second (class_over code object holder class over site one) (class_over code object' holder' class over' site' two)
  class_over_paired code object object' holder holder' class over over' site site' one two a o h p e =
      by (kept_class one.world.cells code object holder class) (kept_class two.world.cells code object' holder' class) (kept_class_paired code one.world.cells two.world.cells object object' holder holder' class a.heaps o h)
    where
      by : (k k' : Option ℕ) → NumberPaired Pair k k'
          → AfterPaired Pair first second (kept_or k one (newly_kept code object holder class over site one)) (kept_or k' two (newly_kept code object' holder' class over' site' two))
      by (Some n) (Some m) q = (Partners n m q, a)
      by None None q = newly_kept_paired code object object' holder holder' class over over' site site' one two a o h p e
      by (Some n) None q = absurd q
      by None (Some m) q = absurd q

  head_paired : (code : CodeProgram) (object object' holder holder' class : ℕ) (clause : Option ℕ) (site site' : Site) (one two : Progress) → Abreast Pair first second one two → Pair object object' → Pair holder holder' → site ≡ site'
      → ControlPaired Pair first second (head code object holder class clause site one) (head code object' holder' class clause site' two)
  head_paired code object object' holder holder' class None site site' one two a o h e = class_over_paired code object object' holder holder' class (Kernel Object) (Kernel Object) site site' one two a o h (Same (Kernel Object) refl) e
  head_paired code object object' holder holder' class (Some clause) site site' one two a o h e =
      frame_charged Pair first second pairing (ControlPaired Pair first second) halts halts one two
      (opened code halts (Enter (FromClause object holder class)) (record { self = Ref object; holder = holder; body = clause; home = no_home; env = Nil; site = site }) [])
      (opened code halts (Enter (FromClause object' holder' class)) (record { self = Ref object'; holder = holder'; body = clause; home = no_home; env = Nil; site = site' }) []) a (refl, a)
      (λ next next' same same' b. opened_paired (ControlPaired Pair first second) code halts halts (Enter (FromClause object holder class)) (Enter (FromClause object' holder' class))
      (record { self = Ref object; holder = holder; body = clause; home = no_home; env = Nil; site = site }) (record { self = Ref object'; holder = holder'; body = clause; home = no_home; env = Nil; site = site' }) [] [] next next' b
      (record { self = Partners object object' o; holder = h; body = refl; home = Homeless refl refl; env = Same Nil refl; site = e }) tt (refl, b)
      (λ inner inner' locals locals' last last' q home home' l z. ((o, h, refl), tt, q, l, z)))

  pub nested_paired : (code : CodeProgram) (object object' holder holder' class : ℕ) (kept_one kept_two : Option ℕ) (site site' : Site) (one two : Progress) → Abreast Pair first second one two → Pair object object' → Pair holder holder'
      → NumberPaired Pair kept_one kept_two → site ≡ site' → ControlPaired Pair first second (nested code object holder class kept_one site one) (nested code object' holder' class kept_two site' two)
  nested_paired code object object' holder holder' class (Some n) (Some m) site site' one two a o h k e = (Partners n m k, a)
  nested_paired code object object' holder holder' class None None site site' one two a o h k e = head_paired code object object' holder holder' class (clause_of code class) site site' one two a o h e
  nested_paired code object object' holder holder' class (Some n) None site site' one two a o h k e = absurd k
  nested_paired code object object' holder holder' class None (Some m) site site' one two a o h k e = absurd k

  -- ---- instances and superclass parts

  same_size_nils : (n m : ℕ) → n ≡ m → AllPaired Pair (replicate n Nil) (replicate m Nil)
  same_size_nils n m e = subst (λ k. AllPaired Pair (replicate n Nil) (replicate k Nil)) e (all_nil Pair n)

  pub instance_paired : (code : CodeProgram) (class class' : ℕ) (arguments arguments' : List Value) (site site' : Site) (one two : Progress) → Abreast Pair first second one two → Pair class class' → AllPaired Pair arguments arguments' → site ≡ site'
      → ControlPaired Pair first second (instance code class arguments site one) (instance code class' arguments' site' two)
  instance_paired code class class' arguments arguments' site site' one two a c all e =
      cell_charged Pair first second pairing (ControlPaired Pair first second) halts halts one two (ObjectCell class (replicate (layout_of one.world.cells code class) Nil)) (ObjectCell class' (replicate (layout_of two.world.cells code class') Nil))
      (opened code halts (Enter FromBody)
      (record { self = Ref (heap_size one.world.cells); holder = class; body = initialiser_of code (declaration_of one.world.cells class); home = no_home; env = Nil; site = site }) arguments)
      (opened code halts (Enter FromBody)
      (record { self = Ref (heap_size two.world.cells); holder = class'; body = initialiser_of code (declaration_of two.world.cells class'); home = no_home; env = Nil; site = site' }) arguments') a
      (c, same_size_nils (layout_of one.world.cells code class) (layout_of two.world.cells code class') (same_layout Pair first second pairing one.world.cells two.world.cells a.heaps code class class' c)) (λ q. absurd (cc (q))) (refl, a)
      (λ next next' new b. opened_paired (ControlPaired Pair first second) code halts halts (Enter FromBody) (Enter FromBody)
      (record { self = Ref (heap_size one.world.cells); holder = class; body = initialiser_of code (declaration_of one.world.cells class); home = no_home; env = Nil; site = site })
      (record { self = Ref (heap_size two.world.cells); holder = class'; body = initialiser_of code (declaration_of two.world.cells class'); home = no_home; env = Nil; site = site' }) arguments arguments' next next' b
      (record {
        self = Partners (heap_size one.world.cells) (heap_size two.world.cells) new;
        holder = c;
        body = ap (initialiser_of code) (same_declaration Pair first second pairing one.world.cells two.world.cells a.heaps class class' c);
        home = Homeless refl refl;
        env = Same Nil refl;
        site = e;
      }) all (refl, b)
      (λ inner inner' locals locals' last last' q home home' l z. (tt, tt, q, l, z)))

  declared_part_paired : (code : CodeProgram) (activation activation' : Activation) (over over' sel sel' : ℕ) (arguments arguments' : List Value) (one two : Progress) → Abreast Pair first second one two
      → ActivationPaired Pair first second activation activation' → Pair over over' → sel ≡ sel' → AllPaired Pair arguments arguments'
      → PartPaired Pair first second (declared_part code activation over sel arguments one) (declared_part code activation' over' sel' arguments' two)
  declared_part_paired code activation activation' over over' sel sel' arguments arguments' one two a p o e all =
      let decl = same_declaration Pair first second pairing one.world.cells two.world.cells a.heaps over over' o in
      cond_so (PartPaired Pair first second) (sel == factory_selector code (declaration_of one.world.cells over)) (sel' == factory_selector code (declaration_of two.world.cells over'))
      (charged Stop Depth (entered one.world) one
      (opened code Stop EnterPart (record { self = activation.self; holder = over; body = initialiser_of code (declaration_of one.world.cells over); home = no_home; env = Nil; site = activation.site }) arguments))
      (Stop (error kind.InitMismatch activation.site) one)
      (charged Stop Depth (entered two.world) two
      (opened code Stop EnterPart (record { self = activation'.self; holder = over'; body = initialiser_of code (declaration_of two.world.cells over'); home = no_home; env = Nil; site = activation'.site }) arguments'))
      (Stop (error kind.InitMismatch activation'.site) two)
      (ap (λ s. s == factory_selector code (declaration_of one.world.cells over)) e ∙ ap (λ d. sel' == factory_selector code d) decl)
      (λ t. frame_charged Pair first second pairing (PartPaired Pair first second) Stop Stop one two
      (opened code Stop EnterPart (record { self = activation.self; holder = over; body = initialiser_of code (declaration_of one.world.cells over); home = no_home; env = Nil; site = activation.site }) arguments)
      (opened code Stop EnterPart (record { self = activation'.self; holder = over'; body = initialiser_of code (declaration_of two.world.cells over'); home = no_home; env = Nil; site = activation'.site }) arguments') a (refl, a)
      (λ next next' same same' b. opened_paired (PartPaired Pair first second) code Stop Stop EnterPart EnterPart
      (record { self = activation.self; holder = over; body = initialiser_of code (declaration_of one.world.cells over); home = no_home; env = Nil; site = activation.site })
      (record { self = activation'.self; holder = over'; body = initialiser_of code (declaration_of two.world.cells over'); home = no_home; env = Nil; site = activation'.site }) arguments arguments' next next' b
      (record { self = p.self; holder = o; body = ap (initialiser_of code) decl; home = Homeless refl refl; env = Same Nil refl; site = p.site }) all (refl, b)
      (λ inner inner' locals locals' last last' q home home' l z. (q, l, z))))
      (λ t. (same_error Pair kind.InitMismatch activation.site activation'.site p.site, a))

  object_part_paired : (code : CodeProgram) (activation activation' : Activation) (sel sel' : ℕ) (one two : Progress) → Abreast Pair first second one two → ActivationPaired Pair first second activation activation' → sel ≡ sel'
      → PartPaired Pair first second (object_part code activation sel one) (object_part code activation' sel' two)
  object_part_paired code activation activation' sel sel' one two a p e =
      cond_so (PartPaired Pair first second) (bytes_eq (selector_text code sel) (codes "new")) (bytes_eq (selector_text code sel') (codes "new")) (Skip one) (Stop (error kind.InitMismatch activation.site) one)
      (Skip two) (Stop (error kind.InitMismatch activation'.site) two) (ap (λ s. bytes_eq (selector_text code s) (codes "new")) e) (λ t. a) (λ t. (same_error Pair kind.InitMismatch activation.site activation'.site p.site, a))

  part_of_paired : (code : CodeProgram) (activation activation' : Activation) (over over' : Value) (sel sel' : ℕ) (arguments arguments' : List Value) (one two : Progress) → Abreast Pair first second one two
      → ActivationPaired Pair first second activation activation' → Paired Pair over over' → sel ≡ sel' → AllPaired Pair arguments arguments'
      → PartPaired Pair first second (part_of code activation over sel arguments one) (part_of code activation' over' sel' arguments' two)
  part_of_paired code activation activation' over over' sel sel' arguments arguments' one two a p (Partners n m o) e all = declared_part_paired code activation activation' n m sel sel' arguments arguments' one two a p o e all
  part_of_paired code activation activation' over over' sel sel' arguments arguments' one two a p (Same value r) e all = by value r
    where
      by : (v : Value) → is_reference v ≡ false → PartPaired Pair first second (part_of code activation v sel arguments one) (part_of code activation' v sel' arguments' two)
      by Nil r = object_part_paired code activation activation' sel sel' one two a p e
      by True r = object_part_paired code activation activation' sel sel' one two a p e
      by False r = object_part_paired code activation activation' sel sel' one two a p e
      by (Int number) r = object_part_paired code activation activation' sel sel' one two a p e
      by (Sym name) r = object_part_paired code activation activation' sel sel' one two a p e
      by (Kernel class) r = object_part_paired code activation activation' sel sel' one two a p e
      by (Ref at) r = absurd (cc (r))

  pub super_part_paired : (code : CodeProgram) (activation activation' : Activation) (arguments arguments' : List Value) (one two : Progress)
      → Abreast Pair first second one two → ActivationPaired Pair first second activation activation' → AllPaired Pair arguments arguments'
      → PartPaired Pair first second (super_part code activation arguments one) (super_part code activation' arguments' two)
  super_part_paired code activation activation' arguments arguments' one two a p all =
      part_of_paired code activation activation' (superclass_in (find_cell one.world.cells activation.holder)) (superclass_in (find_cell two.world.cells activation'.holder))
      (super_selector code (declaration_of one.world.cells activation.holder)) (super_selector code (declaration_of two.world.cells activation'.holder)) arguments arguments' one two a p
      (superclass_paired Pair first second pairing one.world.cells two.world.cells a.heaps activation.holder activation'.holder p.holder)
      (ap (super_selector code) (same_declaration Pair first second pairing one.world.cells two.world.cells a.heaps activation.holder activation'.holder p.holder)) all

  pub slot_filled_abreast : (code : CodeProgram) (activation activation' : Activation) (slot : ℕ) (value value' : Value) (one two : Progress)
      → Abreast Pair first second one two → ActivationPaired Pair first second activation activation' → Paired Pair value value'
      → Abreast Pair first second (slot_filled code activation slot value one) (slot_filled code activation' slot value' two)
  slot_filled_abreast code activation activation' slot value value' one two a p v =
      subst (λ word. Abreast Pair first second (slot_filled code activation slot value one) (in_world two (stored two.world activation'.self word value')))
      (same_entry Pair first second pairing one.world.cells two.world.cells a.heaps code activation.holder activation'.holder slot p.holder)
      (stored_abreast Pair first second pairing one two activation.self activation'.self (entry_word one.world.cells code activation.holder slot) value value' a p.self v)

  -- ---- the end of a body

  pub body_ended_paired : (code : CodeProgram) (exit exit' : Exit) (activation activation' : Activation) (value value' : Value) (one two : Progress)
      → Abreast Pair first second one two → ExitPaired Pair exit exit' → ActivationPaired Pair first second activation activation' → Paired Pair value value'
      → AfterPaired Pair first second (body_ended code exit activation value one) (body_ended code exit' activation' value' two)
  body_ended_paired code FromMethod FromMethod activation activation' value value' one two a x p v = (v, left_abreast Pair first second pairing one two a)
  body_ended_paired code FromBody FromBody activation activation' value value' one two a x p v = (v, left_abreast Pair first second pairing one two a)
  body_ended_paired code (FromClause object holder class) (FromClause object' holder' class') activation activation' value value' one two a x p v =
      subst (λ c. AfterPaired Pair first second (class_over code object holder class value activation.site (frame_left one)) (class_over code object' holder' c value' activation'.site (frame_left two))) x.2
      (class_over_paired code object object' holder holder' class value value' activation.site activation'.site (frame_left one) (frame_left two) (left_abreast Pair first second pairing one two a) x.0 x.1 v p.site)
  body_ended_paired code exit exit' activation activation' value value' one two a x p v = absurd x
