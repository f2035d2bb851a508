-- The rows of mirrors answer paired values, or are the same sends of partners.
use Rattle.std.proofs.Common.{◌≡◌, ℕ, List, [], ◌∷◌, length, Option, Some, None, true, false, cond, refl, sym, ap, ◌∙◌, subst}
use Rattle.std.specs.Prelude.{◌==◌}
use Rattle.ns_base.specs.declared.selector.Sel.{Sel}
use Rattle.ns_code.specs.declared.program.CodeProgram.{CodeProgram}
use Rattle.ns_code.specs.declared.class.SlotCode.{SlotCode}
use Rattle.ns_code.specs.declared.class.MethodCode.{MethodCode}
use Rattle.ns_code.specs.Selector.{selector_arity}
use Rattle.ns_world.specs.declared.value.Value.{Value}
use Rattle.ns_world.specs.declared.value.Value.TheVariants.{Nil, True, False, Int, Sym, Kernel, Ref}
use Rattle.ns_world.specs.declared.ending.Fault.TheVariants as fault
use Rattle.ns_world.specs.declared.ending.Kind.TheVariants as kind
use Rattle.ns_world.specs.declared.cell.NewCell.{NewCell}
use Rattle.ns_world.specs.declared.cell.NewCell.TheVariants as new
use Rattle.ns_world.specs.declared.cell.FacetKind.TheVariants as kinds
use Rattle.ns_world.specs.Cell.{ArrayCell, FacetCell, MirrorCell}
use Rattle.ns_world.specs.Heap.{Heap, find_cell, chain_of, shape_at, no_class, cell_number, word_of_object}
use Rattle.ns_world.specs.Starts.{class_name_of}
use Rattle.ns_world.specs.Layout.{declaration_of}
use Rattle.ns_kdata.specs.Outcome.{RowOutcome, Answers, Fails, making, unchanged, wrong_kind}
use Rattle.ns_kdata.specs.Arguments.{argument, items_of, shape_of_value, is_array, is_array_shape}
use Rattle.ns_world.specs.World.{stored}
use Rattle.ns_mirror.specs.declared.row.Mirrored.{Mirrored}
use Rattle.ns_mirror.specs.declared.row.Mirrored.TheVariants.{Answer, Perform}
use Rattle.ns_world.specs.declared.kernel_parts.MirrorRow.{MirrorRow}
use Rattle.ns_world.specs.declared.kernel_parts.MirrorRow.TheVariants as mirrors
use Rattle.ns_mirror.specs.declared.slots.Entry.{Entry}
use Rattle.ns_mirror.specs.declared.slots.SlotPlace.{SlotPlace}
use Rattle.ns_mirror.specs.Mirror.{Reflected, Reflects, Refuses, reflected, performed, perform, row_outcome, mirror}
use Rattle.ns_mirror.specs.Looking as looking
use Rattle.ns_mirror.specs.Slots as slots
use Rattle.ns_mirror.specs.Selectors as selectors
use Rattle.ns_mirror.specs.Naming as naming
use Rattle.ns_moves.specs.declared.site.Site.{Site}
use Rattle.ns_moves.specs.Suiting.{is_reference}
use Rattle.ns_moves.specs.Control.{Progress, in_world}
use Rattle.ns_moves.specs.Kernel as kernel
use Rattle.ns_machine_alike.specs.Paired.{IsPairing, Paired, Partners, Same, AllPaired, NumbersPaired, HeapPaired, Abreast, ControlPaired}
use Rattle.ns_machine_alike.proofs.Values.{cond_so, all_append, at_index, same_length}
use Rattle.ns_machine_alike.proofs.Keeping.{same_number}
use Rattle.ns_machine_alike.proofs.Reading.{ShapePaired, shape_paired, value_shape_paired, word_at_paired, items_paired, same_declaration, same_entry}
use Rattle.ns_machine_alike.proofs.Finding.{same_name}
use Rattle.ns_machine_alike.proofs.Integers.{AnswerPaired, same_fault}
use Rattle.ns_machine_alike.proofs.Rows.{OutcomePaired, unchanged_paired, making_paired, text_paired, stored_abreast}

module _ (Pair : ℕ → ℕ → Type 0) where
  -- ---- symbols

  symbols_self : (named : List SlotCode) → AllPaired Pair (slots.slot_symbols named) (slots.slot_symbols named)
  symbols_self [] = tt
  symbols_self (slot ∷ named) = (Same (Sym slot.name) refl, symbols_self named)

  public_self : (methods : List MethodCode) → AllPaired Pair (selectors.public_selectors methods) (selectors.public_selectors methods)
  public_self [] = tt
  public_self (method ∷ methods) =
      cond_so (AllPaired Pair) (method.access == 0) (method.access == 0) (Sym method.sel ∷ selectors.public_selectors methods) (selectors.public_selectors methods) (Sym method.sel ∷ selectors.public_selectors methods) (selectors.public_selectors methods) refl
      (λ t. (Same (Sym method.sel) refl, public_self methods)) (λ t. public_self methods)

module _ (Pair : ℕ → ℕ → Type 0) (first second : Progress) (pairing : IsPairing Pair first.world second.world) where
  pub word_of_object_paired : (heap other : Heap) (object object' : Value) (word : ℕ) → HeapPaired Pair first second heap other → Paired Pair object object'
      → Paired Pair (word_of_object heap object word) (word_of_object other object' word)
  word_of_object_paired heap other object object' word h (Partners n m p) = word_at_paired Pair first second pairing heap other h n m word p
  word_of_object_paired heap other object object' word h (Same same e) = by same e
    where
      by : (v : Value) → is_reference v ≡ false → Paired Pair (word_of_object heap v word) (word_of_object other v word)
      by Nil e = Same Nil refl
      by True e = Same Nil refl
      by False e = Same Nil refl
      by (Int number) e = Same Nil refl
      by (Sym sel) e = Same Nil refl
      by (Kernel named) e = Same Nil refl
      by (Ref at) e = absurd (cc (e))

  module _ (one two : Progress) (a : Abreast Pair first second one two) where
    abbrev heap : Heap
    heap = one.world.cells

    abbrev other : Heap
    other = two.world.cells

    -- ---- mirrors

    abbrev MirroredPaired : Mirrored → Mirrored → Type 0
    MirroredPaired (Answer value) (Answer value') = Paired Pair value value'
    MirroredPaired (Answer value) (Perform receiver' sel' array') = ⊥
    MirroredPaired (Perform receiver sel array) (Answer value') = ⊥
    MirroredPaired (Perform receiver sel array) (Perform receiver' sel' array') = Paired Pair receiver receiver' × (sel ≡ sel') × Pair array array'

    abbrev ReflectedPaired : Reflected → Reflected → Type 0
    ReflectedPaired (Reflects answer world) (Reflects answer' world') = MirroredPaired answer answer' × Abreast Pair first second (in_world one world) (in_world two world')
    ReflectedPaired (Reflects answer world) (Refuses f') = ⊥
    ReflectedPaired (Refuses f) (Reflects answer' world') = ⊥
    ReflectedPaired (Refuses f) (Refuses f') = f ≡ f'

    outcome_reflected : (outcome outcome' : RowOutcome) → OutcomePaired Pair first second pairing one two a outcome outcome' → ReflectedPaired (reflected outcome) (reflected outcome')
    outcome_reflected (Answers value world) (Answers value' world') o = o
    outcome_reflected (Fails f) (Fails f') o = o
    outcome_reflected (Answers value world) (Fails f') o = absurd o
    outcome_reflected (Fails f) (Answers value' world') o = absurd o

    -- the class of an object, or no class
    shape_class : (shape shape' : NewCell) → ShapePaired Pair first second pairing shape shape' → Pair (looking.object_class_in shape) (looking.object_class_in shape')
    shape_class (new.Object class words) (new.Object class' words') s = s.0
    shape_class (new.Class decl base encl holder over) (new.Class decl' base' encl' holder' over') s = pairing.none
    shape_class (new.Block body env home receiver holder) (new.Block body' env' home' receiver' holder') s = pairing.none
    shape_class (new.Environment parent locals) (new.Environment parent' locals') s = pairing.none
    shape_class (new.Array size) (new.Array size') s = pairing.none
    shape_class (new.Text bytes) (new.Text bytes') s = pairing.none
    shape_class (new.Facet kind) (new.Facet kind') s = pairing.none
    shape_class (new.Mirror mirrored) (new.Mirror mirrored') s = pairing.none
    shape_class (new.Message sel args) (new.Message sel' args') s = pairing.none
    shape_class shape shape' s = absurd s

    value_shapes : (value value' : Value) → Paired Pair value value' → ShapePaired Pair first second pairing (shape_of_value heap value) (shape_of_value other value')
    value_shapes value value' p = value_shape_paired Pair first second pairing heap other a.heaps value value' p

    class_of : (value value' : Value) → Paired Pair value value' → Pair (looking.object_class heap value) (looking.object_class other value')
    class_of value value' p = shape_class (shape_of_value heap value) (shape_of_value other value') (value_shapes value value' p)

    same_decl : (n m : ℕ) → Pair n m → declaration_of heap n ≡ declaration_of other m
    same_decl n m p = same_declaration Pair first second pairing heap other a.heaps n m p

    -- ---- slots

    names_paired : (code : CodeProgram) (ns ms : List ℕ) → NumbersPaired Pair ns ms → AllPaired Pair (slots.slot_names_along heap code ns) (slots.slot_names_along other code ms)
    names_paired code [] [] p = tt
    names_paired code (n ∷ ns) (m ∷ ms) p =
        all_append Pair (slots.slot_names_along heap code ns) (slots.slot_symbols (slots.declared_slots code (declaration_of heap n))) (slots.slot_names_along other code ms) (slots.slot_symbols (slots.declared_slots code (declaration_of other m)))
        (names_paired code ns ms p.1)
        (subst (λ d. AllPaired Pair (slots.slot_symbols (slots.declared_slots code (declaration_of heap n))) (slots.slot_symbols (slots.declared_slots code d))) (same_decl n m p.0) (symbols_self Pair (slots.declared_slots code (declaration_of heap n))))
    names_paired code [] (m ∷ ms) p = absurd p
    names_paired code (n ∷ ns) [] p = absurd p

    same_place_of : (code : CodeProgram) (n m : ℕ) (o : Option Entry) → Pair n m → slots.place_of heap code n o ≡ slots.place_of other code m o
    same_place_of code n m None p = refl
    same_place_of code n m (Some entry) p = ap (λ w. Some (record { word = w; mutable = entry.mutable })) (same_entry Pair first second pairing heap other a.heaps code n m entry.number p)

    same_slot_in : (code : CodeProgram) (n m : ℕ) (sel : Sel) → Pair n m → slots.slot_in heap code n sel ≡ slots.slot_in other code m sel
    same_slot_in code n m sel p =
        same_place_of code n m (slots.entry_of (slots.declared_slots code (declaration_of heap n)) sel 0) p ∙ ap (λ d. slots.place_of other code m (slots.entry_of (slots.declared_slots code d) sel 0)) (same_decl n m p)

    same_slot_along : (code : CodeProgram) (ns ms : List ℕ) (sel : Sel) → NumbersPaired Pair ns ms → slots.slot_along heap code ns sel ≡ slots.slot_along other code ms sel
    same_slot_along code [] [] sel p = refl
    same_slot_along code (n ∷ ns) (m ∷ ms) sel p =
        ap (λ o. slots.slot_or o (slots.slot_along heap code ns sel)) (same_slot_in code n m sel p.0) ∙ ap (slots.slot_or (slots.slot_in other code m sel)) (same_slot_along code ns ms sel p.1)
    same_slot_along code [] (m ∷ ms) sel p = absurd p
    same_slot_along code (n ∷ ns) [] sel p = absurd p

    same_slot : (code : CodeProgram) (value value' : Value) (sel : Sel) → Paired Pair value value' → slots.slot_of heap code value sel ≡ slots.slot_of other code value' sel
    same_slot code value value' sel p =
        let c = class_of value value' p in
        same_slot_along code (chain_of heap (looking.object_class heap value)) (chain_of other (looking.object_class other value')) sel (a.heaps.chains (looking.object_class heap value) (looking.object_class other value') c)

    slot_paired : (code : CodeProgram) (value value' name name' : Value) → Paired Pair value value' → Paired Pair name name' → AnswerPaired Pair (slots.slot heap code value name) (slots.slot other code value' name')
    slot_paired code value value' name name' v (Partners n m p) = refl
    slot_paired code value value' name name' v (Same same e) = by same
      where
        read : (o : Option SlotPlace) → AnswerPaired Pair (slots.read_slot heap value o) (slots.read_slot other value' o)
        read None = refl
        read (Some place) = word_of_object_paired heap other value value' place.word a.heaps v

        by : (w : Value) → AnswerPaired Pair (slots.slot heap code value w) (slots.slot other code value' w)
        by (Sym sel) = subst (λ o. AnswerPaired Pair (slots.slot heap code value (Sym sel)) (slots.read_slot other value' o)) (same_slot code value value' sel v) (read (slots.slot_of heap code value sel))
        by Nil = refl
        by True = refl
        by False = refl
        by (Int number) = refl
        by (Kernel named) = refl
        by (Ref at) = refl

    slot_put_paired : (code : CodeProgram) (object object' name name' value value' : Value) → Paired Pair object object' → Paired Pair name name' → Paired Pair value value'
        → OutcomePaired Pair first second pairing one two a (slots.slot_put one.world code object name value) (slots.slot_put two.world code object' name' value')
    slot_put_paired code object object' name name' value value' o (Partners n m p) v = refl
    slot_put_paired code object object' name name' value value' o (Same same e) v = by same
      where
        write : (q : Option SlotPlace) → OutcomePaired Pair first second pairing one two a (slots.write_slot one.world object value q) (slots.write_slot two.world object' value' q)
        write None = refl
        write (Some place) =
            cond_so (OutcomePaired Pair first second pairing one two a) place.mutable place.mutable (Answers value (stored one.world object place.word value)) (Fails (fault.Kind kind.FixedSlot)) (Answers value' (stored two.world object' place.word value')) (Fails (fault.Kind kind.FixedSlot)) refl
            (λ t. (v, stored_abreast Pair first second pairing one two object object' place.word value value' a o v)) (λ t. refl)

        by : (w : Value) → OutcomePaired Pair first second pairing one two a (slots.slot_put one.world code object w value) (slots.slot_put two.world code object' w value')
        by (Sym sel) =
            subst (λ q. OutcomePaired Pair first second pairing one two a (slots.slot_put one.world code object (Sym sel) value) (slots.write_slot two.world object' value' q)) (same_slot code object object' sel o) (write (slots.slot_of heap code object sel))
        by Nil = refl
        by True = refl
        by False = refl
        by (Int number) = refl
        by (Kernel named) = refl
        by (Ref at) = refl

    -- ---- selectors and enclosing objects

    same_methods_of : (code : CodeProgram) (n m : ℕ) → Pair n m → selectors.methods_of_class heap code n ≡ selectors.methods_of_class other code m
    same_methods_of code n m p =
        ap (λ b. cond b [] (selectors.declared_methods code (declaration_of heap n))) (same_number Pair first second pairing n m no_class no_class p pairing.none)
        ∙ ap (λ d. cond (m == no_class) [] (selectors.declared_methods code d)) (same_decl n m p)

    shape_methods : (code : CodeProgram) (shape shape' : NewCell) → ShapePaired Pair first second pairing shape shape' → selectors.methods_of_shape heap code shape ≡ selectors.methods_of_shape other code shape'
    shape_methods code (new.Object class words) (new.Object class' words') s = same_methods_of code class class' s.0
    shape_methods code (new.Class decl base encl holder over) (new.Class decl' base' encl' holder' over') s = ap (selectors.declared_side_methods code) s.0
    shape_methods code (new.Block body env home receiver holder) (new.Block body' env' home' receiver' holder') s = refl
    shape_methods code (new.Environment parent locals) (new.Environment parent' locals') s = refl
    shape_methods code (new.Array size) (new.Array size') s = refl
    shape_methods code (new.Text bytes) (new.Text bytes') s = refl
    shape_methods code (new.Facet kind) (new.Facet kind') s = refl
    shape_methods code (new.Mirror mirrored) (new.Mirror mirrored') s = refl
    shape_methods code (new.Message sel args) (new.Message sel' args') s = refl
    shape_methods code shape shape' s = absurd s

    shape_enclosing : (shape shape' : NewCell) → ShapePaired Pair first second pairing shape shape' → Paired Pair (looking.enclosing_in shape) (looking.enclosing_in shape')
    shape_enclosing (new.Class decl base encl holder over) (new.Class decl' base' encl' holder' over') s = s.1
    shape_enclosing (new.Object class words) (new.Object class' words') s = Same Nil refl
    shape_enclosing (new.Block body env home receiver holder) (new.Block body' env' home' receiver' holder') s = Same Nil refl
    shape_enclosing (new.Environment parent locals) (new.Environment parent' locals') s = Same Nil refl
    shape_enclosing (new.Array size) (new.Array size') s = Same Nil refl
    shape_enclosing (new.Text bytes) (new.Text bytes') s = Same Nil refl
    shape_enclosing (new.Facet kind) (new.Facet kind') s = Same Nil refl
    shape_enclosing (new.Mirror mirrored) (new.Mirror mirrored') s = Same Nil refl
    shape_enclosing (new.Message sel args) (new.Message sel' args') s = Same Nil refl
    shape_enclosing shape shape' s = absurd s

    class_enclosing : (n m : ℕ) → Pair n m → Paired Pair (looking.enclosing_of_class heap n) (looking.enclosing_of_class other m)
    class_enclosing n m p =
        cond_so (Paired Pair) (n == no_class) (m == no_class) Nil (looking.enclosing_in (shape_at heap n)) Nil (looking.enclosing_in (shape_at other m)) (same_number Pair first second pairing n m no_class no_class p pairing.none) (λ t. Same Nil refl)
        (λ t. shape_enclosing (shape_at heap n) (shape_at other m) (shape_paired Pair first second pairing heap other a.heaps n m p))

    around_paired : (shape shape' : NewCell) → ShapePaired Pair first second pairing shape shape' → Paired Pair (looking.enclosing_of_shape heap shape) (looking.enclosing_of_shape other shape')
    around_paired (new.Object class words) (new.Object class' words') s = class_enclosing class class' s.0
    around_paired (new.Class decl base encl holder over) (new.Class decl' base' encl' holder' over') s = s.1
    around_paired (new.Block body env home receiver holder) (new.Block body' env' home' receiver' holder') s = Same Nil refl
    around_paired (new.Environment parent locals) (new.Environment parent' locals') s = Same Nil refl
    around_paired (new.Array size) (new.Array size') s = Same Nil refl
    around_paired (new.Text bytes) (new.Text bytes') s = Same Nil refl
    around_paired (new.Facet kind) (new.Facet kind') s = Same Nil refl
    around_paired (new.Mirror mirrored) (new.Mirror mirrored') s = Same Nil refl
    around_paired (new.Message sel args) (new.Message sel' args') s = Same Nil refl
    around_paired shape shape' s = absurd s

    -- ---- sends by mirrors

    shape_array : (shape shape' : NewCell) → ShapePaired Pair first second pairing shape shape' → is_array_shape shape ≡ is_array_shape shape'
    shape_array (new.Array size) (new.Array size') s = refl
    shape_array (new.Object class words) (new.Object class' words') s = refl
    shape_array (new.Class decl base encl holder over) (new.Class decl' base' encl' holder' over') s = refl
    shape_array (new.Block body env home receiver holder) (new.Block body' env' home' receiver' holder') s = refl
    shape_array (new.Environment parent locals) (new.Environment parent' locals') s = refl
    shape_array (new.Text bytes) (new.Text bytes') s = refl
    shape_array (new.Facet kind) (new.Facet kind') s = refl
    shape_array (new.Mirror mirrored) (new.Mirror mirrored') s = refl
    shape_array (new.Message sel args) (new.Message sel' args') s = refl
    shape_array shape shape' s = absurd s

    -- an array is a reference
    array_numbers : (args args' : Value) → Paired Pair args args' → is_array heap args ≡ true → Pair (cell_number args) (cell_number args')
    array_numbers args args' (Partners n m p) t = p
    array_numbers args args' (Same same e) t = by same e t
      where
        by : (v : Value) → is_reference v ≡ false → is_array heap v ≡ true → Pair (cell_number v) (cell_number v)
        by Nil e t = absurd (cc (t))
        by True e t = absurd (cc (t))
        by False e t = absurd (cc (t))
        by (Int number) e t = absurd (cc (t))
        by (Sym sel) e t = absurd (cc (t))
        by (Kernel named) e t = absurd (cc (t))
        by (Ref at) e t = absurd (cc (e))

    perform_paired : (code : CodeProgram) (receiver receiver' name name' args args' : Value) → Paired Pair receiver receiver' → Paired Pair name name' → Paired Pair args args'
        → ReflectedPaired (perform one.world code receiver name args) (perform two.world code receiver' name' args')
    perform_paired code receiver receiver' name name' args args' r (Partners n m p) g = refl
    perform_paired code receiver receiver' name name' args args' r (Same same e) g = by same
      where
        send : (sel : Sel) → is_array heap args ≡ true → ReflectedPaired (performed one.world code receiver sel args) (performed two.world code receiver' sel args')
        send sel t =
            cond_so ReflectedPaired (length (items_of heap args) == selector_arity code sel.0) (length (items_of other args') == selector_arity code sel.0) (Reflects (Perform receiver sel (cell_number args)) one.world) (Refuses (fault.Kind kind.WrongArity))
            (Reflects (Perform receiver' sel (cell_number args')) two.world) (Refuses (fault.Kind kind.WrongArity))
            (ap (λ k. k == selector_arity code sel.0) (same_length Pair (items_of heap args) (items_of other args') (items_paired Pair first second pairing heap other a.heaps args args' g)))
            (λ u. ((r, refl, array_numbers args args' g t), a)) (λ u. refl)

        by : (w : Value) → ReflectedPaired (perform one.world code receiver w args) (perform two.world code receiver' w args')
        by (Sym sel) =
            cond_so ReflectedPaired (is_array heap args) (is_array other args') (performed one.world code receiver sel args) (Refuses wrong_kind) (performed two.world code receiver' sel args') (Refuses wrong_kind)
            (shape_array (shape_of_value heap args) (shape_of_value other args') (value_shapes args args' g)) (λ t. send sel t) (λ t. refl)
        by Nil = refl
        by True = refl
        by False = refl
        by (Int number) = refl
        by (Kernel named) = refl
        by (Ref at) = refl

    -- ---- the rows of mirrors

    mirror_paired : (code : CodeProgram) (asked : MirrorRow) (v v' x x' y y' : Value) → Paired Pair v v' → Paired Pair x x' → Paired Pair y y' → ReflectedPaired (row_outcome one.world code asked v x y) (row_outcome two.world code asked v' x' y')
    mirror_paired code mirrors.On v v' x x' y y' p q s =
        outcome_reflected (making one.world (MirrorCell x)) (making two.world (MirrorCell x')) (making_paired Pair first second pairing one two a (MirrorCell x) (MirrorCell x') q (λ e. absurd (cc (e))))
    mirror_paired code mirrors.ClassName v v' x x' y y' p q s =
        outcome_reflected (naming.class_name one.world code v) (naming.class_name two.world code v')
        (text_paired Pair first second pairing one two a (naming.class_text code (class_name_of heap v)) (naming.class_text code (class_name_of other v')) (ap (naming.class_text code) (same_name Pair first second pairing heap other a.heaps v v' p)))
    mirror_paired code mirrors.SlotNames v v' x x' y y' p q s =
        let c = class_of v v' p in
        let names = slots.slot_names_along heap code (chain_of heap (looking.object_class heap v)) in
        let names' = slots.slot_names_along other code (chain_of other (looking.object_class other v')) in
        outcome_reflected (making one.world (ArrayCell names)) (making two.world (ArrayCell names'))
        (making_paired Pair first second pairing one two a (ArrayCell names) (ArrayCell names')
        (names_paired code (chain_of heap (looking.object_class heap v)) (chain_of other (looking.object_class other v')) (a.heaps.chains (looking.object_class heap v) (looking.object_class other v') c)) (λ e. absurd (cc (e))))
    mirror_paired code mirrors.Slot v v' x x' y y' p q s =
        outcome_reflected (unchanged one.world (slots.slot heap code v x)) (unchanged two.world (slots.slot other code v' x'))
        (unchanged_paired Pair first second pairing one two a (slots.slot heap code v x) (slots.slot other code v' x') (slot_paired code v v' x x' p q))
    mirror_paired code mirrors.SlotPut v v' x x' y y' p q s = outcome_reflected (slots.slot_put one.world code v x y) (slots.slot_put two.world code v' x' y') (slot_put_paired code v v' x x' y y' p q s)
    mirror_paired code mirrors.Selectors v v' x x' y y' p q s =
        let methods = selectors.methods_of_shape heap code (shape_of_value heap v) in
        let methods' = selectors.methods_of_shape other code (shape_of_value other v') in
        outcome_reflected (making one.world (ArrayCell (selectors.public_selectors methods))) (making two.world (ArrayCell (selectors.public_selectors methods')))
        (making_paired Pair first second pairing one two a (ArrayCell (selectors.public_selectors methods)) (ArrayCell (selectors.public_selectors methods'))
        (subst (λ k. AllPaired Pair (selectors.public_selectors methods) (selectors.public_selectors k)) (shape_methods code (shape_of_value heap v) (shape_of_value other v') (value_shapes v v' p)) (public_self Pair methods)) (λ e. absurd (cc (e))))
    mirror_paired code mirrors.Enclosing v v' x x' y y' p q s = (around_paired (shape_of_value heap v) (shape_of_value other v') (value_shapes v v' p), a)
    mirror_paired code mirrors.Perform v v' x x' y y' p q s = perform_paired code v v' x x' y y' p q s

    reflected_paired : (outcome outcome' : Reflected) (site site' : Site) → ReflectedPaired outcome outcome' → site ≡ site' → ControlPaired Pair first second (kernel.reflected_reached outcome site one) (kernel.reflected_reached outcome' site' two)
    reflected_paired (Reflects (Answer value) world) (Reflects (Answer value') world') site site' o e = o
    reflected_paired (Reflects (Perform receiver sel array) world) (Reflects (Perform receiver' sel' array') world') site site' o e = (o.0.0, o.0.1, o.0.2, e, o.1)
    reflected_paired (Refuses f) (Refuses f') site site' o e = (same_fault Pair f f' site site' o e, a)
    reflected_paired (Reflects (Answer value) world) (Reflects (Perform receiver' sel' array') world') site site' o e = absurd o.0
    reflected_paired (Reflects (Perform receiver sel array) world) (Reflects (Answer value') world') site site' o e = absurd o.0
    reflected_paired (Reflects answer world) (Refuses f') site site' o e = absurd o
    reflected_paired (Refuses f) (Reflects answer' world') site site' o e = absurd o

    -- what two mirrors mirror
    shape_mirrored : (shape shape' : NewCell) → ShapePaired Pair first second pairing shape shape' → Paired Pair (looking.mirrored_in shape) (looking.mirrored_in shape')
    shape_mirrored (new.Mirror mirrored) (new.Mirror mirrored') s = s
    shape_mirrored (new.Object class words) (new.Object class' words') s = Same Nil refl
    shape_mirrored (new.Class decl base encl holder over) (new.Class decl' base' encl' holder' over') s = Same Nil refl
    shape_mirrored (new.Block body env home receiver holder) (new.Block body' env' home' receiver' holder') s = Same Nil refl
    shape_mirrored (new.Environment parent locals) (new.Environment parent' locals') s = Same Nil refl
    shape_mirrored (new.Array size) (new.Array size') s = Same Nil refl
    shape_mirrored (new.Text bytes) (new.Text bytes') s = Same Nil refl
    shape_mirrored (new.Facet kind) (new.Facet kind') s = Same Nil refl
    shape_mirrored (new.Message sel args) (new.Message sel' args') s = Same Nil refl
    shape_mirrored shape shape' s = absurd s

    manifest_mirrors : (h : Heap) → find_cell h 0 ≡ Some (FacetCell kinds.Manifest) → looking.mirrored h 0 ≡ Nil
    manifest_mirrors h e = rw e refl

    mirrored_paired : (receiver receiver' : Value) → Paired Pair receiver receiver' → Paired Pair (looking.mirrored heap (cell_number receiver)) (looking.mirrored other (cell_number receiver'))
    mirrored_paired receiver receiver' (Partners n m p) = shape_mirrored (shape_at heap n) (shape_at other m) (shape_paired Pair first second pairing heap other a.heaps n m p)
    mirrored_paired receiver receiver' (Same same e) = by same e
      where
        none : Paired Pair (looking.mirrored heap 0) (looking.mirrored other 0)
        none = subst (λ v. Paired Pair v (looking.mirrored other 0)) (sym (manifest_mirrors heap a.heaps.manifest)) (subst (Paired Pair Nil) (sym (manifest_mirrors other a.heaps.other_manifest)) (Same Nil refl))

        by : (v : Value) → is_reference v ≡ false → Paired Pair (looking.mirrored heap (cell_number v)) (looking.mirrored other (cell_number v))
        by Nil e = none
        by True e = none
        by False e = none
        by (Int number) e = none
        by (Sym sel) e = none
        by (Kernel named) e = none
        by (Ref at) e = absurd (cc (e))

  pub mirror_row_paired : (code : CodeProgram) (asked : MirrorRow) (receiver receiver' : Value) (arguments arguments' : List Value) (site site' : Site) (one two : Progress)
      → Abreast Pair first second one two → Paired Pair receiver receiver' → AllPaired Pair arguments arguments' → site ≡ site'
      → ControlPaired Pair first second (kernel.reflected_reached (mirror one.world code asked (cell_number receiver) arguments) site one)
      (kernel.reflected_reached (mirror two.world code asked (cell_number receiver') arguments') site' two)
  mirror_row_paired code asked receiver receiver' arguments arguments' site site' one two a r all s =
      reflected_paired one two a (mirror one.world code asked (cell_number receiver) arguments) (mirror two.world code asked (cell_number receiver') arguments') site site'
      (mirror_paired one two a code asked (looking.mirrored one.world.cells (cell_number receiver)) (looking.mirrored two.world.cells (cell_number receiver')) (argument arguments 0) (argument arguments' 0) (argument arguments 1) (argument arguments' 1)
      (mirrored_paired one two a receiver receiver' r) (at_index Pair arguments arguments' 0 all) (at_index Pair arguments arguments' 1 all)) s
