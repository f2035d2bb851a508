-- Operands, enclosing objects and locals of paired frames are paired.
use Rattle.std.proofs.Common.{◌≡◌, ◌⊎◌, inl, inr, ℕ, zero, suc, ◌-◌, List, [], ◌∷◌, Some, true, false, refl, sym, ap, ◌∙◌, subst}
use Rattle.std.specs.Prelude.{slice_set, if◌then◌else◌}
use Rattle.std.specs.List.{slice_index_or}
use Rattle.ns_code.specs.declared.program.CodeProgram.{CodeProgram}
use Rattle.ns_world.specs.declared.value.Value.{Value}
use Rattle.ns_world.specs.declared.value.Value.TheVariants.{Nil, True, False, Int, Sym, Kernel, Ref}
use Rattle.ns_world.specs.declared.cell.NewCell.{NewCell}
use Rattle.ns_world.specs.declared.cell.NewCell.TheVariants as new
use Rattle.ns_world.specs.declared.cell.FacetKind.TheVariants.{Manifest}
use Rattle.ns_world.specs.Cell.{FacetCell}
use Rattle.ns_world.specs.Heap.{Heap, find_cell, shape_at, is_class, word_at, cell_number}
use Rattle.ns_world.specs.World.{written}
use Rattle.ns_moves.specs.Suiting.{is_reference}
use Rattle.ns_moves.specs.Control.{Progress, in_world, Activation}
use Rattle.ns_moves.specs.Bodies.{Place, enclosing_place, lexical, enclosing, parent_in, environment_out, is_beside, has_environment, environment_at, local_at, locals_with, local_stored}
use Rattle.ns_moves.specs.Operands.{on_top, taken_off, picked}
use Rattle.ns_machine_alike.specs.Paired.{IsPairing, Paired, Partners, Same, AllPaired, HeapPaired, Abreast, ActivationPaired}
use Rattle.ns_machine_alike.proofs.Values.{cond_so, at_index, all_set}
use Rattle.ns_machine_alike.proofs.Keeping.{manifest_unwritten, written_abreast}
use Rattle.ns_machine_alike.proofs.Reading.{ShapePaired, shape_paired, word_at_paired}

module _ (Pair : ℕ → ℕ → Type 0) (first second : Progress) (pairing : IsPairing Pair first.world second.world) where
  -- ---- operands

  pub top_paired : {A B : Type 0} (P : A → B → Type 0) (missing : A) (missing' : B) (stack stack' : List Value) (go : Value → List Value → A) (go' : Value → List Value → B) → AllPaired Pair stack stack' → P missing missing'
      → ((value value' : Value) (below below' : List Value) → Paired Pair value value' → AllPaired Pair below below' → P (go value below) (go' value' below')) → P (on_top missing stack go) (on_top missing' stack' go')
  top_paired P missing missing' [] [] go go' all none goes = none
  top_paired P missing missing' (value ∷ stack) (value' ∷ stack') go go' all none goes = goes value value' stack stack' all.0 all.1
  top_paired P missing missing' [] (value' ∷ stack') go go' all none goes = absurd all
  top_paired P missing missing' (value ∷ stack) [] go go' all none goes = absurd all

  pub taken_off_paired : {A B : Type 0} (P : A → B → Type 0) (missing : A) (missing' : B) (count : ℕ) (values values' stack stack' : List Value) (go : List Value → List Value → A) (go' : List Value → List Value → B) → AllPaired Pair values values'
      → AllPaired Pair stack stack' → P missing missing' → ((taken taken' below below' : List Value) → AllPaired Pair taken taken' → AllPaired Pair below below' → P (go taken below) (go' taken' below'))
      → P (taken_off missing count values stack go) (taken_off missing' count values' stack' go')
  taken_off_paired P missing missing' zero values values' stack stack' go go' some all none goes = goes values values' stack stack' some all
  taken_off_paired P missing missing' (suc count) values values' [] [] go go' some all none goes = none
  taken_off_paired P missing missing' (suc count) values values' (value ∷ stack) (value' ∷ stack') go go' some all none goes =
      taken_off_paired P missing missing' count (value ∷ values) (value' ∷ values') stack stack' go go' (all.0, some) all.1 none goes
  taken_off_paired P missing missing' (suc count) values values' [] (value' ∷ stack') go go' some all none goes = absurd all
  taken_off_paired P missing missing' (suc count) values values' (value ∷ stack) [] go go' some all none goes = absurd all

  pub picked_paired : {A B : Type 0} (P : A → B → Type 0) (missing : A) (missing' : B) (place : ℕ) (stack stack' : List Value) (go : Value → A) (go' : Value → B) → AllPaired Pair stack stack' → P missing missing'
      → ((value value' : Value) → Paired Pair value value' → P (go value) (go' value')) → P (picked missing place stack go) (picked missing' place stack' go')
  picked_paired P missing missing' place [] [] go go' all none goes = none
  picked_paired P missing missing' zero (value ∷ stack) (value' ∷ stack') go go' all none goes = goes value value' all.0
  picked_paired P missing missing' (suc place) (value ∷ stack) (value' ∷ stack') go go' all none goes = picked_paired P missing missing' place stack stack' go go' all.1 none goes
  picked_paired P missing missing' place [] (value' ∷ stack') go go' all none goes = absurd all
  picked_paired P missing missing' place (value ∷ stack) [] go go' all none goes = absurd all

  -- ---- enclosing objects

  -- partners; or there was none further out, and both numbers are that of Manifest
  abbrev HolderPaired : ℕ → ℕ → Type 0
  HolderPaired n m = Pair n m ⊎ ((n ≡ 0) × (m ≡ 0))

  manifest_shape : (heap : Heap) → find_cell heap 0 ≡ Some (FacetCell Manifest) → shape_at heap 0 ≡ new.Facet Manifest
  manifest_shape heap e = rw e refl

  number_paired : (value value' : Value) → Paired Pair value value' → HolderPaired (cell_number value) (cell_number value')
  number_paired value value' (Partners n m p) = inl p
  number_paired value value' (Same same e) = by same e
    where
      by : (v : Value) → is_reference v ≡ false → HolderPaired (cell_number v) (cell_number v)
      by Nil e = inr (refl, refl)
      by True e = inr (refl, refl)
      by False e = inr (refl, refl)
      by (Int number) e = inr (refl, refl)
      by (Sym sel) e = inr (refl, refl)
      by (Kernel class) e = inr (refl, refl)
      by (Ref at) e = absurd (cc (e))

  abbrev PlacePaired : Place → Place → Type 0
  PlacePaired place other = Paired Pair place.object other.object × HolderPaired place.holder other.holder

  place_paired : (shape shape' : NewCell) → ShapePaired Pair first second pairing shape shape' → PlacePaired (enclosing_place shape) (enclosing_place shape')
  place_paired (new.Class decl base encl holder over) (new.Class decl' base' encl' holder' over') s = (s.1, number_paired holder holder' s.2)
  place_paired (new.Object class words) (new.Object class' words') s = (Same Nil refl, inr (refl, refl))
  place_paired (new.Block body env home receiver holder) (new.Block body' env' home' receiver' holder') s = (Same Nil refl, inr (refl, refl))
  place_paired (new.Environment parent locals) (new.Environment parent' locals') s = (Same Nil refl, inr (refl, refl))
  place_paired (new.Array size) (new.Array size') s = (Same Nil refl, inr (refl, refl))
  place_paired (new.Text bytes) (new.Text bytes') s = (Same Nil refl, inr (refl, refl))
  place_paired (new.Facet facet) (new.Facet facet') s = (Same Nil refl, inr (refl, refl))
  place_paired (new.Mirror mirrored) (new.Mirror mirrored') s = (Same Nil refl, inr (refl, refl))
  place_paired (new.Message sel args) (new.Message sel' args') s = (Same Nil refl, inr (refl, refl))
  place_paired shape shape' s = absurd s

  -- the shapes of partners, or of Manifest
  holder_shape : (heap other : Heap) (n m : ℕ) → HeapPaired Pair first second heap other → HolderPaired n m → ShapePaired Pair first second pairing (shape_at heap n) (shape_at other m)
  holder_shape heap other n m h (inl p) = shape_paired Pair first second pairing heap other h n m p
  holder_shape heap other n m h (inr e) =
      subst (λ s. ShapePaired Pair first second pairing s (shape_at other m)) (sym (ap (shape_at heap) e.0 ∙ manifest_shape heap h.manifest))
      (subst (ShapePaired Pair first second pairing (new.Facet Manifest)) (sym (ap (shape_at other) e.1 ∙ manifest_shape other h.other_manifest)) refl)

  lexical_paired : (heap other : Heap) (self self' : Value) (holder holder' level : ℕ) → HeapPaired Pair first second heap other → Paired Pair self self' → Pair holder holder' → PlacePaired (lexical heap self holder level) (lexical other self' holder' level)
  lexical_paired heap other self self' holder holder' zero h i p = (i, inl p)
  lexical_paired heap other self self' holder holder' (suc level) h i p =
      let out = lexical_paired heap other self self' holder holder' level h i p in
      place_paired (shape_at heap (lexical heap self holder level).holder) (shape_at other (lexical other self' holder' level).holder)
      (holder_shape heap other (lexical heap self holder level).holder (lexical other self' holder' level).holder h out.1)

  pub enclosing_paired : (one two : Progress) (activation activation' : Activation) (level : ℕ) → Abreast Pair first second one two → ActivationPaired Pair first second activation activation'
      → PlacePaired (enclosing one.world.cells activation level) (enclosing two.world.cells activation' level)
  enclosing_paired one two activation activation' level a p = lexical_paired one.world.cells two.world.cells activation.self activation'.self activation.holder activation'.holder level a.heaps p.self p.holder

  -- a holder that is a class isn't Manifest
  pub class_paired : (one two : Progress) (n m : ℕ) → Abreast Pair first second one two → is_class (find_cell one.world.cells n) ≡ true → HolderPaired n m → Pair n m
  class_paired one two n m a t (inl p) = p
  class_paired one two n m a t (inr e) =
      let facet : is_class (find_cell one.world.cells n) ≡ false = ap (λ k. is_class (find_cell one.world.cells k)) e.0 ∙ ap is_class a.heaps.manifest in
      absurd (cc)

  -- ---- locals

  shape_parent : (shape shape' : NewCell) → ShapePaired Pair first second pairing shape shape' → Paired Pair (parent_in shape) (parent_in shape')
  shape_parent (new.Environment parent locals) (new.Environment parent' locals') s = s.0
  shape_parent (new.Object class words) (new.Object class' words') s = Same Nil refl
  shape_parent (new.Class decl base encl holder over) (new.Class decl' base' encl' holder' over') s = Same Nil refl
  shape_parent (new.Block body env home receiver holder) (new.Block body' env' home' receiver' holder') s = Same Nil refl
  shape_parent (new.Array size) (new.Array size') s = Same Nil refl
  shape_parent (new.Text bytes) (new.Text bytes') s = Same Nil refl
  shape_parent (new.Facet facet) (new.Facet facet') s = Same Nil refl
  shape_parent (new.Mirror mirrored) (new.Mirror mirrored') s = Same Nil refl
  shape_parent (new.Message sel args) (new.Message sel' args') s = Same Nil refl
  shape_parent shape shape' s = absurd s

  environment_paired : (heap other : Heap) (env env' : Value) (hops : ℕ) → HeapPaired Pair first second heap other → Paired Pair env env' → Paired Pair (environment_out heap env hops) (environment_out other env' hops)
  environment_paired heap other env env' zero h p = p
  environment_paired heap other env env' (suc hops) h p =
      let out = environment_paired heap other env env' hops h p in
      shape_parent (shape_at heap (cell_number (environment_out heap env hops))) (shape_at other (cell_number (environment_out other env' hops)))
      (holder_shape heap other (cell_number (environment_out heap env hops)) (cell_number (environment_out other env' hops)) h (number_paired (environment_out heap env hops) (environment_out other env' hops) out))

  same_beside : (code : CodeProgram) (activation activation' : Activation) (hops : ℕ) → ActivationPaired Pair first second activation activation' → is_beside code activation hops ≡ is_beside code activation' hops
  same_beside code activation activation' zero p = ap (λ b. if has_environment code b then false else true) p.body
  same_beside code activation activation' (suc hops) p = refl

  place_at : (code : CodeProgram) (one two : Progress) (activation activation' : Activation) (hops : ℕ) → Abreast Pair first second one two → ActivationPaired Pair first second activation activation'
      → HolderPaired (environment_at one.world.cells code activation hops) (environment_at two.world.cells code activation' hops)
  place_at code one two activation activation' hops a p =
      let out = if has_environment code activation.body then hops else hops - 1 in
      subst (λ b. HolderPaired (environment_at one.world.cells code activation hops) (cell_number (environment_out two.world.cells activation'.env (if has_environment code b then hops else hops - 1)))) p.body
      (number_paired (environment_out one.world.cells activation.env out) (environment_out two.world.cells activation'.env out) (environment_paired one.world.cells two.world.cells activation.env activation'.env out a.heaps p.env))

  manifest_word : (heap : Heap) (k : ℕ) → find_cell heap 0 ≡ Some (FacetCell Manifest) → word_at heap 0 k ≡ Nil
  manifest_word heap k e = rw e refl

  word_paired : (heap other : Heap) (n m word : ℕ) → HeapPaired Pair first second heap other → HolderPaired n m → Paired Pair (word_at heap n word) (word_at other m word)
  word_paired heap other n m word h (inl p) = word_at_paired Pair first second pairing heap other h n m word p
  word_paired heap other n m word h (inr e) =
      subst (λ v. Paired Pair v (word_at other m word)) (sym (ap (λ k. word_at heap k word) e.0 ∙ manifest_word heap word h.manifest))
      (subst (Paired Pair Nil) (sym (ap (λ k. word_at other k word) e.1 ∙ manifest_word other word h.other_manifest)) (Same Nil refl))

  pub local_paired : (code : CodeProgram) (one two : Progress) (activation activation' : Activation) (locals locals' : List Value) (hops place : ℕ) → Abreast Pair first second one two → ActivationPaired Pair first second activation activation'
      → AllPaired Pair locals locals' → Paired Pair (local_at one.world.cells code activation locals hops place) (local_at two.world.cells code activation' locals' hops place)
  local_paired code one two activation activation' locals locals' hops place a p all =
      cond_so (Paired Pair) (is_beside code activation hops) (is_beside code activation' hops) (slice_index_or locals place Nil) (word_at one.world.cells (environment_at one.world.cells code activation hops) place)
      (slice_index_or locals' place Nil) (word_at two.world.cells (environment_at two.world.cells code activation' hops) place) (same_beside code activation activation' hops p) (λ t. at_index Pair locals locals' place all)
      (λ t. word_paired one.world.cells two.world.cells (environment_at one.world.cells code activation hops) (environment_at two.world.cells code activation' hops) place a.heaps (place_at code one two activation activation' hops a p))

  pub locals_with_paired : (code : CodeProgram) (activation activation' : Activation) (locals locals' : List Value) (hops place : ℕ) (value value' : Value) → ActivationPaired Pair first second activation activation' → AllPaired Pair locals locals' → Paired Pair value value'
      → AllPaired Pair (locals_with code activation locals hops place value) (locals_with code activation' locals' hops place value')
  locals_with_paired code activation activation' locals locals' hops place value value' p all v =
      cond_so (AllPaired Pair) (is_beside code activation hops) (is_beside code activation' hops) (slice_set locals place value) locals (slice_set locals' place value') locals' (same_beside code activation activation' hops p)
      (λ t. all_set Pair locals locals' place value value' all v) (λ t. all)

  -- a word of Manifest that is written changes nothing
  holder_written : (one two : Progress) (n m word : ℕ) (value value' : Value) → Abreast Pair first second one two → HolderPaired n m → Paired Pair value value'
      → Abreast Pair first second (in_world one (written one.world n word value)) (in_world two (written two.world m word value'))
  holder_written one two n m word value value' a (inl p) v = written_abreast Pair first second pairing one two n m word value value' a p v
  holder_written one two n m word value value' a (inr e) v =
      let same : one.world ≡ written one.world n word value = sym (ap (λ k. written one.world k word value) e.0 ∙ ap (λ heap. record one.world { cells = heap }) (manifest_unwritten one.world.cells word value a.heaps.manifest)) in
      let same' : two.world ≡ written two.world m word value' = sym (ap (λ k. written two.world k word value') e.1 ∙ ap (λ heap. record two.world { cells = heap }) (manifest_unwritten two.world.cells word value' a.heaps.other_manifest)) in
      subst (λ w. Abreast Pair first second (in_world one w) (in_world two (written two.world m word value'))) same (subst (λ w. Abreast Pair first second one (in_world two w)) same' a)

  pub local_stored_abreast : (code : CodeProgram) (activation activation' : Activation) (hops place : ℕ) (value value' : Value) (one two : Progress) → Abreast Pair first second one two → ActivationPaired Pair first second activation activation' → Paired Pair value value'
      → Abreast Pair first second (local_stored code activation hops place value one) (local_stored code activation' hops place value' two)
  local_stored_abreast code activation activation' hops place value value' one two a p v =
      cond_so (λ w w'. Abreast Pair first second (in_world one w) (in_world two w')) (is_beside code activation hops) (is_beside code activation' hops) one.world (written one.world (environment_at one.world.cells code activation hops) place value)
      two.world (written two.world (environment_at two.world.cells code activation' hops) place value') (same_beside code activation activation' hops p) (λ t. a)
      (λ t. holder_written one two (environment_at one.world.cells code activation hops) (environment_at two.world.cells code activation' hops) place value value' a (place_at code one two activation activation' hops a p) v)
