-- The cells of two worlds that are alike are paired.
use Rattle.std.proofs.Common.{◌≡◌, ◌≢◌, inl, inr, ℕ, zero, suc, ◌+◌, ◌<◌, ◌≤◌, List, [], ◌∷◌, length, Option, Some, None, Bool, true, false, cond, refl, sym, ap, ◌∙◌, subst, arith}
use Rattle.std.specs.Prelude.{Contains, IsSome, nat_lt, ◌==◌}
use Rattle.std.specs.List.{AllPairs}
use Rattle.std.proofs.lemmas.Bool.{eqb-true, ltb-true}
use Rattle.ns_code.specs.declared.program.CodeProgram.{CodeProgram}
use Rattle.ns_world.specs.declared.value.Value.{Value}
use Rattle.ns_world.specs.declared.value.Value.TheVariants.{Nil, True, False, Int, Sym, Kernel, Ref}
use Rattle.ns_world.specs.declared.cell.FacetKind.{FacetKind}
use Rattle.ns_world.specs.declared.cell.FacetKind.TheVariants.{Manifest, Platform, Console, Mirrors, Kernel as KernelFacet, Board}
use Rattle.ns_world.specs.Cell.{Cell, ObjectCell, ClassCell, BlockCell, EnvironmentCell, ArrayCell, TextCell, FacetCell, MirrorCell, MessageCell}
use Rattle.ns_world.specs.Heap.{Heap, heap_size, find_cell, is_class, chain_of, chain_at, chain_above, no_class}
use Rattle.ns_world.specs.Seek.{first_such, is_facet, is_top}
use Rattle.ns_world.specs.Reach.{IsInReach, all_referred}
use Rattle.ns_world.specs.World.{World}
use Rattle.ns_world.specs.Lawful.{IsLawful}
use Rattle.ns_world.specs.Alike.{Renaming, AlikeValue, AlikeValues, AlikeClass, AlikeNumber, AlikeCell, AlikeHeld, Alike}
use Rattle.ns_world.specs.laws.Chains.{linked, both_of}
use Rattle.ns_world.specs.laws.Firsts.{found_past}
use Rattle.ns_kdata.specs.Arguments.{CellIsThere}
use Rattle.ns_moves.specs.Suiting.{is_reference}
use Rattle.ns_moves.specs.Bodies.{no_home}
use Rattle.ns_moves.specs.Control.{Progress}
use Rattle.ns_moves.specs.Starts.{begun}
use Rattle.ns_moves.specs.ValidFrames.{is_in_method, has_block_home}
use Rattle.ns_moves.specs.Valid.{blocks_have_homes}
use Rattle.ns_machine_reach.specs.Within.{IsGranted, In, AllIn, NumberIn, CellIn}
use Rattle.ns_machine_reach.specs.Reached.{InReach}
use Rattle.ns_machine_alike.specs.Paired.{IsPairing, HomePaired, EndedBefore, Homeless, Paired, Partners, Same, AllPaired, NumberPaired, NumbersPaired, FacetPaired, CellPaired, MaybeCellPaired, HeapPaired}
use Rattle.ns_machine_alike.specs.Isolated.{SendPair, Earlier, Made, NoClass}
use Rattle.ns_machine_alike.proofs.There.{reach_there, there_below, reach_cell, AllThere, ClassThere, CellThere, cell_there, first_there}

-- ---- lists of pairs

pub first_once : (pairs : Renaming) (n m k : ℕ) → AllPairs (λ p q. p.0 ≢ q.0) pairs → Contains pairs (n, m) → Contains pairs (n, k) → m ≡ k
first_once [] n m k once (i, inside, is) c = absurd (omega (arith, inside))
first_once (p ∷ pairs) n m k once (zero, inside, is) (zero, inside', is') = sym (ap (λ (q : ℕ × ℕ). q.1) is) ∙ ap (λ (q : ℕ × ℕ). q.1) is'
first_once (p ∷ pairs) n m k once (zero, inside, is) (suc j, inside', is') =
    absurd (once 0 (suc j) (n, k) (omega arith) inside' (ap (λ (q : ℕ × ℕ). q.0) is ∙ sym (ap (λ (q : ℕ × ℕ). q.0) is')))
first_once (p ∷ pairs) n m k once (suc i, inside, is) (zero, inside', is') =
    absurd (once 0 (suc i) (n, m) (omega arith) inside (ap (λ (q : ℕ × ℕ). q.0) is' ∙ sym (ap (λ (q : ℕ × ℕ). q.0) is)))
first_once (p ∷ pairs) n m k once (suc i, inside, is) (suc j, inside', is') =
    first_once pairs n m k (λ a b d less within. once (suc a) (suc b) d (omega (arith, less)) (omega (arith, within))) (i, omega (arith, inside), is) (j, omega (arith, inside'), is')

pub second_once : (pairs : Renaming) (n m k : ℕ) → AllPairs (λ p q. p.1 ≢ q.1) pairs → Contains pairs (n, k) → Contains pairs (m, k) → n ≡ m
second_once [] n m k once (i, inside, is) c = absurd (omega (arith, inside))
second_once (p ∷ pairs) n m k once (zero, inside, is) (zero, inside', is') = sym (ap (λ (q : ℕ × ℕ). q.0) is) ∙ ap (λ (q : ℕ × ℕ). q.0) is'
second_once (p ∷ pairs) n m k once (zero, inside, is) (suc j, inside', is') =
    absurd (once 0 (suc j) (m, k) (omega arith) inside' (ap (λ (q : ℕ × ℕ). q.1) is ∙ sym (ap (λ (q : ℕ × ℕ). q.1) is')))
second_once (p ∷ pairs) n m k once (suc i, inside, is) (zero, inside', is') =
    absurd (once 0 (suc i) (n, k) (omega arith) inside (ap (λ (q : ℕ × ℕ). q.1) is' ∙ sym (ap (λ (q : ℕ × ℕ). q.1) is)))
second_once (p ∷ pairs) n m k once (suc i, inside, is) (suc j, inside', is') =
    second_once pairs n m k (λ a b d less within. once (suc a) (suc b) d (omega (arith, less)) (omega (arith, within))) (i, omega (arith, inside), is) (j, omega (arith, inside'), is')

-- what is no class has no chain
plain_chain : (cell : Cell) (n : ℕ) (chain : ℕ → List ℕ) → is_class (Some cell) ≡ false → chain_at cell n chain ≡ []
plain_chain (ClassCell decl base encl holder over) n chain e = absurd (cc (e))
plain_chain (ObjectCell class entries) n chain e = refl
plain_chain (BlockCell body env home receiver holder) n chain e = refl
plain_chain (EnvironmentCell parent locals) n chain e = refl
plain_chain (ArrayCell items) n chain e = refl
plain_chain (TextCell bytes) n chain e = refl
plain_chain (FacetCell kind) n chain e = refl
plain_chain (MirrorCell mirrored) n chain e = refl
plain_chain (MessageCell sel args) n chain e = refl

no_chain : (heap : Heap) (n : ℕ) → is_class (find_cell heap n) ≡ false → chain_of heap n ≡ []
no_chain [] n e = refl
no_chain (cell ∷ earlier) n e = by (n == heap_size earlier) e (no_chain earlier n)
  where
    by : (b : Bool) → is_class (cond b (Some cell) (find_cell earlier n)) ≡ false → (is_class (find_cell earlier n) ≡ false → chain_of earlier n ≡ []) → cond b (chain_at cell n (chain_of earlier)) (chain_of earlier n) ≡ []
    by true f go = plain_chain cell n (chain_of earlier) f
    by false f go = go f

-- ---- two alike worlds

module _ (pairs : Renaming) (code : CodeProgram) (one two : World) (roots others : List Value) (alike : Alike pairs one two roots others) (lawful : IsLawful one code) (lawful' : IsLawful two code) where
  abbrev P : ℕ → ℕ → Type 0
  P = SendPair pairs one two (all_referred roots) (all_referred others)

  small : heap_size one.cells ≤ no_class
  small = omega (arith, lawful.within.cells, lawful.within.limits.1.1)

  small' : heap_size two.cells ≤ no_class
  small' = omega (arith, lawful'.within.cells, lawful'.within.limits.1.1)

  -- ---- the pairing

  below : (n : ℕ) → IsInReach one.cells (all_referred roots) n → n < heap_size one.cells
  below n r = there_below one.cells n (reach_there one.cells (all_referred roots) n r)

  below' : (n : ℕ) → IsInReach two.cells (all_referred others) n → n < heap_size two.cells
  below' n r = there_below two.cells n (reach_there two.cells (all_referred others) n r)

  made_small : (n k : ℕ) → n ≡ heap_size one.cells + k → n < one.limits.cells → n < no_class
  made_small n k e less = omega (arith, less, lawful.within.limits.1.1)

  made_small' : (n m k : ℕ) → n ≡ heap_size one.cells + k → m ≡ heap_size two.cells + k → n < one.limits.cells → m < no_class
  made_small' n m k e e' less = omega (arith, e, e', less, alike.room, lawful'.within.limits.1.1)

  pair_forth : (n m k : ℕ) → P n m → P n k → m ≡ k
  pair_forth n m k (Earlier c r r') (Earlier d s s') = first_once pairs n m k alike.once_first c d
  pair_forth n m k (Earlier c r r') (Made j e e' less) = let b = below n r in absurd (omega (arith, b, e))
  pair_forth n m k (Earlier c r r') (NoClass e e') = let b = below n r in absurd (omega (arith, b, e, small))
  pair_forth n m k (Made j e e' less) (Earlier d s s') = let b = below n s in absurd (omega (arith, b, e))
  pair_forth n m k (Made j e e' less) (Made i f f' less') = omega (arith, e, e', f, f')
  pair_forth n m k (Made j e e' less) (NoClass f f') = let b = made_small n j e less in absurd (omega (arith, b, f))
  pair_forth n m k (NoClass e e') (Earlier d s s') = let b = below n s in absurd (omega (arith, b, e, small))
  pair_forth n m k (NoClass e e') (Made i f f' less) = let b = made_small n i f less in absurd (omega (arith, b, e))
  pair_forth n m k (NoClass e e') (NoClass f f') = e' ∙ sym f'

  pair_back : (n m k : ℕ) → P n k → P m k → n ≡ m
  pair_back n m k (Earlier c r r') (Earlier d s s') = second_once pairs n m k alike.once_second c d
  pair_back n m k (Earlier c r r') (Made j e e' less) = let b = below' k r' in absurd (omega (arith, b, e'))
  pair_back n m k (Earlier c r r') (NoClass e e') = let b = below' k r' in absurd (omega (arith, b, e', small'))
  pair_back n m k (Made j e e' less) (Earlier d s s') = let b = below' k s' in absurd (omega (arith, b, e'))
  pair_back n m k (Made j e e' less) (Made i f f' less') = omega (arith, e, e', f, f')
  pair_back n m k (Made j e e' less) (NoClass f f') = let b = made_small' n k j e e' less in absurd (omega (arith, b, f'))
  pair_back n m k (NoClass e e') (Earlier d s s') = let b = below' k s' in absurd (omega (arith, b, e', small'))
  pair_back n m k (NoClass e e') (Made i f f' less) = let b = made_small' m k i f f' less in absurd (omega (arith, b, e'))
  pair_back n m k (NoClass e e') (NoClass f f') = e ∙ sym f

  pub alike_pairing : IsPairing P one two
  alike_pairing = record { forth = pair_forth; back = pair_back; none = NoClass refl refl; later = λ k less. Made k refl refl less }

  -- ---- values

  abbrev In1 : ℕ → Type 0
  In1 = InReach one.cells (all_referred roots)

  abbrev In2 : ℕ → Type 0
  In2 = InReach two.cells (all_referred others)

  pub value_paired : (value other : Value) → AlikeValue pairs value other → In In1 value → In In2 other → CellIsThere one.cells value → CellIsThere two.cells other → Paired P value other
  value_paired (Ref n) (Ref m) c i j t t' = Partners n m (Earlier c (i t) (j t'))
  value_paired (Ref n) other c i j t t' = absurd c
  value_paired Nil other c i j t t' = subst (Paired P Nil) c (Same Nil refl)
  value_paired True other c i j t t' = subst (Paired P True) c (Same True refl)
  value_paired False other c i j t t' = subst (Paired P False) c (Same False refl)
  value_paired (Int number) other c i j t t' = subst (Paired P (Int number)) c (Same (Int number) refl)
  value_paired (Sym sel) other c i j t t' = subst (Paired P (Sym sel)) c (Same (Sym sel) refl)
  value_paired (Kernel class) other c i j t t' = subst (Paired P (Kernel class)) c (Same (Kernel class) refl)

  pub values_paired : (values others' : List Value) → AlikeValues pairs values others' → AllIn In1 values → AllIn In2 others' → AllThere one.cells values → AllThere two.cells others' → AllPaired P values others'
  values_paired [] [] c i j t t' = tt
  values_paired (value ∷ values) (other ∷ others') c i j t t' = (value_paired value other c.0 i.0 j.0 t.0 t'.0, values_paired values others' c.1 i.1 j.1 t.1 t'.1)
  values_paired [] (other ∷ others') c i j t t' = absurd c
  values_paired (value ∷ values) [] c i j t t' = absurd c

  -- a class and its partner; a class that is reached has a partner that is reached
  class_paired : (n m : ℕ) → AlikeClass pairs n m → In1 n → In2 m → ClassThere one.cells n → ClassThere two.cells m → P n m
  class_paired n m (inr e) i j t t' = NoClass e.0 e.1
  class_paired n m (inl c) i j (inl t) (inl t') = Earlier c (i t) (j t')
  class_paired n m (inl c) i j (inr e) (inr e') = NoClass e e'
  class_paired n m (inl c) i j (inl t) (inr e') =
      let on = alike.onto n (i t) in
      let same : m ≡ on.0 = first_once pairs n m on.0 alike.once_first c on.1 in
      let b = below' on.0 on.2 in absurd (omega (arith, b, same, e', small'))
  class_paired n m (inl c) i j (inr e) (inl t') =
      let on = alike.back m (j t') in
      let same : n ≡ on.0 = second_once pairs n on.0 m alike.once_second c on.1 in
      let b = below on.0 on.2 in absurd (omega (arith, b, same, e, small))

  -- ---- facets

  number_paired : (o o' : Option ℕ) → AlikeNumber pairs o o' → NumberIn In1 o → NumberIn In2 o' → ((n : ℕ) → o ≡ Some n → IsSome (find_cell one.cells n)) → ((n : ℕ) → o' ≡ Some n → IsSome (find_cell two.cells n)) → NumberPaired P o o'
  number_paired None None c i j t t' = tt
  number_paired (Some n) (Some m) c i j t t' = Earlier c (i (t n refl)) (j (t' m refl))
  number_paired None (Some m) c i j t t' = absurd c
  number_paired (Some n) None c i j t t' = absurd c

  first_paired : (test : Cell → Bool) → AlikeNumber pairs (first_such test one.cells) (first_such test two.cells) → NumberIn In1 (first_such test one.cells) → NumberIn In2 (first_such test two.cells)
      → NumberPaired P (first_such test one.cells) (first_such test two.cells)
  first_paired test c i j = number_paired (first_such test one.cells) (first_such test two.cells) c i j (λ n e. first_there test one.cells n e) (λ n e. first_there test two.cells n e)

  no_manifest : (kind : FacetKind) → IsGranted kind → kind ≢ Manifest
  no_manifest kind g e = subst IsGranted e g

  no_platform : (kind : FacetKind) → IsGranted kind → kind ≢ Platform
  no_platform kind g e = subst IsGranted e g

  facet_paired : (kind : FacetKind) → AlikeHeld pairs one.cells two.cells (FacetCell kind) → CellIn In1 one.cells (FacetCell kind) → CellIn In2 two.cells (FacetCell kind) → FacetPaired P one.cells two.cells kind
  facet_paired Manifest c i j = λ decl. first_paired (is_top decl) (c decl) (i decl) (j decl)
  facet_paired Platform c i j = λ kind g. first_paired (is_facet kind) (c kind (no_manifest kind g) (no_platform kind g)) (i kind g) (j kind g)
  facet_paired Console c i j = tt
  facet_paired Mirrors c i j = tt
  facet_paired KernelFacet c i j = tt
  facet_paired Board c i j = tt

  -- ---- homes

  module _ (first second : Progress) (is : first.world ≡ one) (is' : second.world ≡ two) (homes : blocks_have_homes code first.begun one.cells ≡ true) (homes' : blocks_have_homes code second.begun two.cells ≡ true) where
    block_homes : (begun body home : ℕ) (b : Bool) → is_in_method code body ≡ b → has_block_home code begun body home ≡ true → cond b (home < begun) (home ≡ no_home)
    block_homes begun body home true e h = ltb-true home begun (subst (λ c. cond c (nat_lt home begun) (home == no_home) ≡ true) e h)
    block_homes begun body home false e h = eqb-true home no_home (subst (λ c. cond c (nat_lt home begun) (home == no_home) ≡ true) e h)

    home_paired : (body home home' : ℕ) → has_block_home code first.begun body home ≡ true → has_block_home code second.begun body home' ≡ true → HomePaired first.begun second.begun home home'
    home_paired body home home' h h' = by (is_in_method code body) refl
      where
        by : (b : Bool) → is_in_method code body ≡ b → HomePaired first.begun second.begun home home'
        by true e = EndedBefore (block_homes first.begun body home true e h) (block_homes second.begun body home' true e h')
        by false e = Homeless (block_homes first.begun body home false e h) (block_homes second.begun body home' false e h')

    rest_homes : (begun : ℕ) (cell : Cell) (cells : Heap) → blocks_have_homes code begun (cell ∷ cells) ≡ true → blocks_have_homes code begun cells ≡ true
    rest_homes begun (BlockCell body env home receiver holder) cells e = (both_of (has_block_home code begun body home) (blocks_have_homes code begun cells) e).1
    rest_homes begun (ObjectCell class entries) cells e = e
    rest_homes begun (ClassCell decl base encl holder over) cells e = e
    rest_homes begun (EnvironmentCell parent locals) cells e = e
    rest_homes begun (ArrayCell items) cells e = e
    rest_homes begun (TextCell bytes) cells e = e
    rest_homes begun (FacetCell kind) cells e = e
    rest_homes begun (MirrorCell mirrored) cells e = e
    rest_homes begun (MessageCell sel args) cells e = e

    home_of : (begun : ℕ) (heap : Heap) (n body : ℕ) (env : Value) (home : ℕ) (receiver : Value) (holder : ℕ) → blocks_have_homes code begun heap ≡ true → find_cell heap n ≡ Some (BlockCell body env home receiver holder)
        → has_block_home code begun body home ≡ true
    home_of begun [] n body env home receiver holder h e = absurd (cc (e))
    home_of begun (cell ∷ cells) n body env home receiver holder h e =
        by (n == heap_size cells) e (λ f. home_of begun cells n body env home receiver holder (rest_homes begun cell cells h) f)
      where
        by : (b : Bool) → cond b (Some cell) (find_cell cells n) ≡ Some (BlockCell body env home receiver holder) → (find_cell cells n ≡ Some (BlockCell body env home receiver holder) → has_block_home code begun body home ≡ true)
            → has_block_home code begun body home ≡ true
        by true f go =
            let is : cell ≡ BlockCell body env home receiver holder = cc (f) in
            (both_of (has_block_home code begun body home) (blocks_have_homes code begun cells) (subst (λ c. blocks_have_homes code begun (c ∷ cells) ≡ true) is h)).0
        by false f go = go f

    -- ---- cells

    reached_paired : (n m : ℕ) (cell cell' : Cell) → find_cell one.cells n ≡ Some cell → find_cell two.cells m ≡ Some cell' → AlikeCell pairs cell cell' → AlikeHeld pairs one.cells two.cells cell
        → CellIn In1 one.cells cell → CellIn In2 two.cells cell' → CellThere one.cells cell → CellThere two.cells cell' → CellPaired P first second one.cells two.cells cell cell'
    reached_paired n m (ObjectCell class entries) (ObjectCell class' entries') e e' c holds i j t t' = (class_paired class class' c.0 i.0 j.0 t.0 t'.0, values_paired entries entries' c.1 i.1 j.1 t.1 t'.1)
    reached_paired n m (ClassCell decl base encl holder over) (ClassCell decl' base' encl' holder' over') e e' c holds i j t t' =
        (c.0, value_paired encl encl' c.1.0 i.0 j.0 t.0 t'.0, value_paired holder holder' c.1.1.0 i.1 j.1 t.1 t'.1, value_paired over over' c.1.1.1.0 i.2 j.2 t.2 t'.2)
    reached_paired n m (BlockCell body env home receiver holder) (BlockCell body' env' home' receiver' holder') e e' c holds i j t t' = (
      c.0,
      value_paired env env' c.1.0 i.0 j.0 t.0 t'.0,
      home_paired body home home' (home_of first.begun one.cells n body env home receiver holder homes e)
          (subst (λ b. has_block_home code second.begun b home' ≡ true) (sym c.0) (home_of second.begun two.cells m body' env' home' receiver' holder' homes' e')),
      value_paired receiver receiver' c.1.1.0 i.1 j.1 t.1 t'.1,
      class_paired holder holder' c.2 i.2 j.2 t.2 t'.2,
    )
    reached_paired n m (EnvironmentCell parent locals) (EnvironmentCell parent' locals') e e' c holds i j t t' = (value_paired parent parent' c.0 i.0 j.0 t.0 t'.0, values_paired locals locals' c.1 i.1 j.1 t.1 t'.1)
    reached_paired n m (ArrayCell items) (ArrayCell items') e e' c holds i j t t' = values_paired items items' c i j t t'
    reached_paired n m (TextCell bytes) (TextCell bytes') e e' c holds i j t t' = c
    reached_paired n m (FacetCell kind) (FacetCell kind') e e' c holds i j t t' =
        (c, facet_paired kind holds i (subst (λ k. CellIn In2 two.cells (FacetCell k)) (sym c) j))
    reached_paired n m (MirrorCell mirrored) (MirrorCell mirrored') e e' c holds i j t t' = value_paired mirrored mirrored' c i j t t'
    reached_paired n m (MessageCell sel args) (MessageCell sel' args') e e' c holds i j t t' = (c.0, value_paired args args' c.1 i j t t')
    reached_paired n m cell cell' e e' c holds i j t t' = absurd c

    nothing : (n m : ℕ) → find_cell one.cells n ≡ None → find_cell two.cells m ≡ None → MaybeCellPaired P first second one.cells two.cells (find_cell one.cells n) (find_cell two.cells m)
    nothing n m e e' = subst (λ o. MaybeCellPaired P first second one.cells two.cells o (find_cell two.cells m)) (sym e) (subst (MaybeCellPaired P first second one.cells two.cells None) (sym e') tt)

    alike_cells : (n m : ℕ) → P n m → MaybeCellPaired P first second one.cells two.cells (find_cell one.cells n) (find_cell two.cells m)
    alike_cells n m (Earlier c r r') =
        let a = alike.cells n m c r in
        subst (λ o. MaybeCellPaired P first second one.cells two.cells o (find_cell two.cells m)) (sym a.one_is) (subst (MaybeCellPaired P first second one.cells two.cells (Some a.one)) (sym a.two_is)
        (reached_paired n m a.one a.two a.one_is a.two_is a.cells a.holds (reach_cell one.cells (all_referred roots) n a.one small r a.one_is) (reach_cell two.cells (all_referred others) m a.two small' r' a.two_is)
        (cell_there one code n a.one lawful a.one_is) (cell_there two code m a.two lawful' a.two_is)))
    alike_cells n m (Made k e e' less) = nothing n m (found_past one.cells n (omega (arith, e))) (found_past two.cells m (omega (arith, e')))
    alike_cells n m (NoClass e e') = nothing n m (found_past one.cells n (omega (arith, e, small))) (found_past two.cells m (omega (arith, e', small')))

    -- ---- chains

    neither : (n m : ℕ) → is_class (find_cell one.cells n) ≡ false → is_class (find_cell two.cells m) ≡ false → NumbersPaired P (chain_of one.cells n) (chain_of two.cells m)
    neither n m e e' = subst (λ ns. NumbersPaired P ns (chain_of two.cells m)) (sym (no_chain one.cells n e)) (subst (NumbersPaired P []) (sym (no_chain two.cells m e')) tt)

    -- the chains of two classes, by those of their superclasses
    linked_paired : (n m decl base decl' base' : ℕ) (encl holder over encl' holder' over' : Value) → P n m → find_cell one.cells n ≡ Some (ClassCell decl base encl holder over) → find_cell two.cells m ≡ Some (ClassCell decl' base' encl' holder' over')
        → Paired P over over' → ((a b : ℕ) → P a b → length (chain_of one.cells a) < length (chain_of one.cells n) → NumbersPaired P (chain_of one.cells a) (chain_of two.cells b))
        → NumbersPaired P (chain_of one.cells n) (chain_of two.cells m)
    linked_paired n m decl base decl' base' encl holder over encl' holder' over' p e e' o go =
        let l = (linked one.cells n decl base encl holder over lawful.ordered e).chain in
        let l' = (linked two.cells m decl' base' encl' holder' over' lawful'.ordered e').chain in
        subst (λ ns. NumbersPaired P ns (chain_of two.cells m)) (sym l) (subst (NumbersPaired P (n ∷ chain_above over (chain_of one.cells))) (sym l') (p, above over over' o l))
      where
        above : (v v' : Value) → Paired P v v' → chain_of one.cells n ≡ n ∷ chain_above v (chain_of one.cells) → NumbersPaired P (chain_above v (chain_of one.cells)) (chain_above v' (chain_of two.cells))
        above v v' (Partners a b q) l = go a b q (omega (arith, ap length l))
        above v v' (Same value r) l = same value r
          where
            same : (w : Value) → is_reference w ≡ false → NumbersPaired P (chain_above w (chain_of one.cells)) (chain_above w (chain_of two.cells))
            same Nil r = tt
            same True r = tt
            same False r = tt
            same (Int number) r = tt
            same (Sym sel) r = tt
            same (Kernel class) r = tt
            same (Ref at) r = absurd (cc (r))

    chains_by : (n m : ℕ) (o o' : Option Cell) → P n m → find_cell one.cells n ≡ o → find_cell two.cells m ≡ o' → MaybeCellPaired P first second one.cells two.cells o o'
        → ((a b : ℕ) → P a b → length (chain_of one.cells a) < length (chain_of one.cells n) → NumbersPaired P (chain_of one.cells a) (chain_of two.cells b))
        → NumbersPaired P (chain_of one.cells n) (chain_of two.cells m)
    chains_by n m None None p e e' c go = neither n m (ap is_class e) (ap is_class e')
    chains_by n m (Some (ClassCell decl base encl holder over)) (Some (ClassCell decl' base' encl' holder' over')) p e e' c go = linked_paired n m decl base decl' base' encl holder over encl' holder' over' p e e' c.3 go
    chains_by n m (Some (ObjectCell class entries)) (Some (ObjectCell class' entries')) p e e' c go = neither n m (ap is_class e) (ap is_class e')
    chains_by n m (Some (BlockCell body env home receiver holder)) (Some (BlockCell body' env' home' receiver' holder')) p e e' c go = neither n m (ap is_class e) (ap is_class e')
    chains_by n m (Some (EnvironmentCell parent locals)) (Some (EnvironmentCell parent' locals')) p e e' c go = neither n m (ap is_class e) (ap is_class e')
    chains_by n m (Some (ArrayCell items)) (Some (ArrayCell items')) p e e' c go = neither n m (ap is_class e) (ap is_class e')
    chains_by n m (Some (TextCell bytes)) (Some (TextCell bytes')) p e e' c go = neither n m (ap is_class e) (ap is_class e')
    chains_by n m (Some (FacetCell kind)) (Some (FacetCell kind')) p e e' c go = neither n m (ap is_class e) (ap is_class e')
    chains_by n m (Some (MirrorCell mirrored)) (Some (MirrorCell mirrored')) p e e' c go = neither n m (ap is_class e) (ap is_class e')
    chains_by n m (Some (MessageCell sel args)) (Some (MessageCell sel' args')) p e e' c go = neither n m (ap is_class e) (ap is_class e')
    chains_by n m o o' p e e' c go = absurd c

    chains_within : (k n m : ℕ) → P n m → length (chain_of one.cells n) < k → NumbersPaired P (chain_of one.cells n) (chain_of two.cells m)
    chains_within zero n m p short = absurd (omega (arith, short))
    chains_within (suc k) n m p short =
        chains_by n m (find_cell one.cells n) (find_cell two.cells m) p refl refl (alike_cells n m p) (λ a b q shorter. chains_within k a b q (omega (arith, short, shorter)))

    pub alike_heaps : find_cell one.cells 0 ≡ Some (FacetCell Manifest) → find_cell two.cells 0 ≡ Some (FacetCell Manifest) → HeapPaired P first second one.cells two.cells
    alike_heaps manifest manifest' = record {
      cells = alike_cells;
      chains = λ n m p. chains_within (suc (length (chain_of one.cells n))) n m p (omega arith);
      manifest = manifest;
      other_manifest = manifest';
    }
