-- What is kept of classes tells which words an object has for nested ones.
use Rattle.std.proofs.Common.{◌≡◌, ℕ, ◌+◌, ◌<◌, ◌≤◌, List, [], ◌∷◌, ◌++◌, length, get_or, slice_get, refl, ap, sym, ◌∙◌, subst, arith, Option, Some, None, Bool, true, false, cond, ltb, ◌&&◌, option_map}
use Rattle.std.specs.Prelude.{not, ◌==◌, nat_lt, unwrap_or, IfSome}
use Rattle.std.specs.List.{list_all}
use Rattle.std.specs.Option.{option_map_or}
use Rattle.std.proofs.lemmas.Bool.{ltb-true, ltb-false}
use Rattle.std.proofs.lemmas.Option.{slice_get_within}
use Rattle.ns_code.specs.declared.program.CodeProgram.{CodeProgram}
use Rattle.ns_code.specs.declared.class.ClassCode.{ClassCode}
use Rattle.ns_code.specs.declared.class.NestedCode.{NestedCode}
use Rattle.ns_world.specs.declared.value.Value.{Value}
use Rattle.ns_world.specs.declared.value.Value.TheVariants.{Nil}
use Rattle.ns_world.specs.declared.cell.NewCell.TheVariants.{Mirror}
use Rattle.ns_world.specs.Cell.{Cell, ObjectCell, ClassCell, BlockCell, EnvironmentCell, ArrayCell, TextCell, FacetCell, MirrorCell, MessageCell, shape_of}
use Rattle.ns_world.specs.Heap.{Heap, find_cell, is_class, chain_of, superclass_of, no_class}
use Rattle.ns_world.specs.Starts.{declaration_in}
use Rattle.ns_world.specs.Layout.{declaration_of, layout_of}
use Rattle.ns_frozen.specs.Freezing.{cell_frozen}
use Rattle.ns_frozen.specs.Live.{has_chain, are_live}
use Rattle.ns_frozen.specs.Cells.{are_kept_of, are_kept_from, is_instance}
use Rattle.ns_frozen_seen.specs.declared.keepers.Keeper.{Keeper}
use Rattle.ns_frozen_tables.specs.declared.chain.Chain.{Chain}
use Rattle.ns_frozen_tables.specs.declared.chain.Chains.{Chains}
use Rattle.ns_frozen_seen.specs.declared.seen.Seen.{Seen}
use Rattle.ns_frozen_tables.specs.Numbers.{number_end, IsRising, IsPlaceOf}
use Rattle.ns_frozen_tables.specs.Chain.{no_chain, chain_at, AreChains}
use Rattle.ns_frozen_seen.specs.Climbs.{IsClimb}
use Rattle.ns_frozen_seen.specs.Keepers.{nested_of, slots_of, rest_of, are_kept, are_kept_at, IsNext, IsOver, IsAbove, IsKeeper, AreKeepers}
use Rattle.ns_frozen_seen.specs.Seen.{IsSeen}
use Rattle.ns_frozen_tables.specs.laws.Linked.{chain_told, class_linked}
use Rattle.ns_frozen_seen.proofs.Walked.{chain_goes_on, chained_class, chain_on}
use Rattle.ns_frozen_tables.specs.laws.Lists.{past, got_left, got_end, one_longer}

-- ---- places

-- a place can be told in 32 bits
pub place_few : (seen : Seen) (numbers : List ℕ) (class place : ℕ) → IsSeen seen → class < number_end → numbers ≡ seen.chains.numbers.items
    → IsPlaceOf numbers class (Some place) → place < number_end
place_few seen numbers class place is small same at =
    let within : place < length seen.chains.numbers.items = subst (λ (ns : List ℕ). place < length ns) same at.0 in
    omega (arith, small, is.chains.few place within, ap (λ (ns : List ℕ). get_or ns place 0) (sym same), at.1)

-- a class with a chain stands at a place
pub class_there : (code : CodeProgram) (heap : Heap) (chains : Chains) (class : ℕ) → AreChains code heap chains → class < number_end
    → has_chain code heap class ≡ true → IsPlaceOf chains.numbers.items class None → ⊥
class_there code heap chains class are small e none =
    let not_so : true ≡ false = sym e ∙ (chain_told code heap class ∙ ap (λ (c : Chain). not (c.links == 0)) (are.absent class small none)) in
    cc

-- what is kept at a place is the chain of the class that stands there
pub chain_here : (code : CodeProgram) (heap : Heap) (chains : Chains) (place : ℕ) → AreChains code heap chains → place < length chains.numbers.items
    → unwrap_or (slice_get chains.chains.items place) no_chain ≡ chain_at code heap (get_or chains.numbers.items place 0)
chain_here code heap chains place are within = ap (λ (o : Option Chain). unwrap_or o no_chain) (are.there place within)

-- no object is an instance of a class at no place
pub no_instance : (code : CodeProgram) (heap : Heap) (chains : Chains) (object class : ℕ) (words : List Value) → AreChains code heap chains → class < number_end
    → IsPlaceOf chains.numbers.items class None → false ≡ is_instance code heap object class words
no_instance code heap chains object class words are small none = tested (has_chain code heap class) refl
  where
    tested : (b : Bool) → has_chain code heap class ≡ b
        → false ≡ (b && (length words == layout_of heap code class
        && (are_live code heap words && list_all (are_kept_of code heap object words) (chain_of heap class))))
    tested true e = absurd (class_there code heap chains class are small e none)
    tested false e = refl

-- ---- a class

-- a class with a chain has a declaration
declared : (code : CodeProgram) (heap : Heap) (class : ℕ) → has_chain code heap class ≡ true → nat_lt (declaration_of heap class) (length code.classes) ≡ true
declared code heap class e = of (find_cell heap class) refl (chained_class code heap class e)
  where
    linked : (d : Bool) (n : ℕ) → not (cond d n 0 == 0) ≡ true → d ≡ true
    linked true n e = refl
    linked false n e = absurd (cc)

    of : (o : Option Cell) → find_cell heap class ≡ o → is_class o ≡ true → nat_lt (declaration_of heap class) (length code.classes) ≡ true
    of (Some (ClassCell decl base encl holder over)) f c =
        let is : declaration_of heap class ≡ decl = ap (λ o. declaration_in (option_map_or shape_of o (Mirror Nil))) f in
        subst (λ (n : ℕ). nat_lt n (length code.classes) ≡ true) (sym is)
        (linked (nat_lt decl (length code.classes)) _ (class_linked code heap class decl encl holder over (ap (option_map cell_frozen) f) ∙ e))
    of None f c = absurd (cc)
    of (Some (ObjectCell class' entries)) f c = absurd (cc)
    of (Some (BlockCell body env home receiver holder)) f c = absurd (cc)
    of (Some (EnvironmentCell parent locals)) f c = absurd (cc)
    of (Some (ArrayCell items)) f c = absurd (cc)
    of (Some (TextCell bytes)) f c = absurd (cc)
    of (Some (FacetCell kind)) f c = absurd (cc)
    of (Some (MirrorCell mirrored)) f c = absurd (cc)
    of (Some (MessageCell sel args)) f c = absurd (cc)

-- the words of a declared class are those for its nested classes, behind its slots
words_of : (code : CodeProgram) (heap : Heap) (object : ℕ) (words : List Value) (holder : ℕ) → has_chain code heap holder ≡ true
    → are_kept_from heap object holder words (layout_of heap code (superclass_of heap holder) + slots_of code (declaration_of heap holder))
    (nested_of code (declaration_of heap holder))
    ≡ are_kept_of code heap object words holder
words_of code heap object words holder e = of (slice_get code.classes (declaration_of heap holder)) refl
  where
    layout : ℕ
    layout = layout_of heap code (superclass_of heap holder)

    of : (o : Option ClassCode) → slice_get code.classes (declaration_of heap holder) ≡ o
        → are_kept_from heap object holder words (layout + option_map_or (λ (class : ClassCode). length class.slots) o 0)
        (option_map_or (λ (class : ClassCode). class.nested) o [])
        ≡ option_map_or (λ (class : ClassCode). are_kept_from heap object holder words (layout + length class.slots) class.nested) o false
    of (Some class) f = refl
    of None f = absurd (omega (arith, past code.classes (declaration_of heap holder) f, ltb-true (declaration_of heap holder) (length code.classes) (declared code heap holder e)))

-- what is found of a class is what is to be kept
pub keeper_is : (code : CodeProgram) (heap : Heap) (numbers : List ℕ) (place : ℕ) (keeper : Keeper) → keeper.holder ≡ get_or numbers place 0
    → keeper.holder ≤ no_class → keeper.decl ≡ declaration_of heap keeper.holder
    → keeper.first ≡ layout_of heap code (superclass_of heap keeper.holder) + slots_of code keeper.decl → keeper.first ≤ 562949953486848
    → (has_chain code heap keeper.holder ≡ true → IsNext code heap numbers place (rest_of heap keeper.holder) keeper.above)
    → (has_chain code heap keeper.holder ≡ true → IsClimb code heap numbers place keeper.climb)
    → has_chain code heap (get_or numbers place 0) ≡ true → IsKeeper code heap numbers place keeper
keeper_is code heap numbers place keeper here small decl first few next climb e = record {
  few = few;
  before = (next chained).before;
  chained = (next chained).chained;
  tells = tells;
  climb = climb chained;
}
  where
    holder : ℕ
    holder = keeper.holder

    chained : has_chain code heap keeper.holder ≡ true
    chained = subst (λ (n : ℕ). has_chain code heap n ≡ true) (sym here) e

    own : (object : ℕ) (words : List Value)
        → are_kept_from heap object holder words keeper.first (nested_of code keeper.decl) ≡ are_kept_of code heap object words holder
    own object words =
        ap (λ (n : ℕ). are_kept_from heap object holder words n (nested_of code keeper.decl)) first
        ∙ (ap (λ (d : ℕ). are_kept_from heap object holder words (layout_of heap code (superclass_of heap holder) + slots_of code d) (nested_of code d)) decl
        ∙ words_of code heap object words holder chained)

    tells : (object : ℕ) (words : List Value)
        → (are_kept_from heap object holder words keeper.first (nested_of code keeper.decl) && are_kept_at code heap numbers object words keeper.above)
        ≡ are_kept code heap object words (chain_of heap (get_or numbers place 0))
    tells object words =
        ap (λ (b : Bool). b && are_kept_at code heap numbers object words keeper.above) (own object words)
        ∙ (ap (λ (b : Bool). are_kept_of code heap object words holder && b) ((next chained).tells object words)
        ∙ ap (are_kept code heap object words) (sym (chain_goes_on heap holder small (chained_class code heap holder chained)) ∙ ap (chain_of heap) here))

-- ---- the next class to look at

-- from a class without nested ones on
pub passing_on : (code : CodeProgram) (heap : Heap) (numbers : List ℕ) (place : ℕ) (keeper : Keeper) → IsKeeper code heap numbers place keeper
    → nested_of code keeper.decl ≡ [] → IsNext code heap numbers (place + 1) (chain_of heap (get_or numbers place 0)) keeper.above
passing_on code heap numbers place keeper is none = record {
  before = omega (arith, is.before);
  chained = is.chained;
  tells = λ object words.
      sym (ap (λ (ns : List NestedCode). are_kept_from heap object keeper.holder words keeper.first ns && are_kept_at code heap numbers object words keeper.above) none)
      ∙ is.tells object words;
}

-- from any other
pub passing_here : (code : CodeProgram) (heap : Heap) (numbers : List ℕ) (place : ℕ) → place < length numbers
    → has_chain code heap (get_or numbers place 0) ≡ true → IsNext code heap numbers (place + 1) (chain_of heap (get_or numbers place 0)) (Some place)
passing_here code heap numbers place within e = record { before = omega arith; chained = (within, e); tells = λ object words. refl }

-- above the topmost class
pub above_none : (code : CodeProgram) (heap : Heap) (numbers : List ℕ) (place holder over : ℕ) → over ≡ superclass_of heap holder → holder ≤ over
    → IsNext code heap numbers place (rest_of heap holder) None
above_none code heap numbers place holder over is h = record {
  before = omega arith;
  chained = tt;
  tells = λ object words. sym (ap (are_kept code heap object words) (none (ltb (superclass_of heap holder) holder) refl));
}
  where
    none : (b : Bool) → ltb (superclass_of heap holder) holder ≡ b → cond b (chain_of heap (superclass_of heap holder)) [] ≡ []
    none true t = absurd (omega (arith, h, is, ltb-true (superclass_of heap holder) holder t))
    none false t = refl

-- above any other, from its superclass on
pub above_at : (code : CodeProgram) (heap : Heap) (numbers : List ℕ) (place at holder over : ℕ) (next : Option ℕ) → IsRising numbers → place < length numbers
    → holder ≡ get_or numbers place 0 → holder ≤ no_class → over ≡ superclass_of heap holder → over < holder → IsPlaceOf numbers over (Some at)
    → (has_chain code heap (get_or numbers at 0) ≡ true → IsNext code heap numbers (at + 1) (chain_of heap (get_or numbers at 0)) next)
    → has_chain code heap holder ≡ true → IsNext code heap numbers place (rest_of heap holder) next
above_at code heap numbers place at holder over next rising within here small is h there from e = record {
  before = omega (arith, (from chained).before, lower (ltb at place) refl);
  chained = (from chained).chained;
  tells = λ object words. (from chained).tells object words ∙ ap (are_kept code heap object words) (ap (chain_of heap) same ∙ sym (rest (ltb (superclass_of heap holder) holder) refl));
}
  where
    same : get_or numbers at 0 ≡ superclass_of heap holder
    same = there.1 ∙ is

    chained : has_chain code heap (get_or numbers at 0) ≡ true
    chained = subst (λ (n : ℕ). has_chain code heap n ≡ true) (sym same) (chain_on code heap holder e small (subst (λ (n : ℕ). n < holder) is h))

    lower : (b : Bool) → ltb at place ≡ b → at < place
    lower true t = ltb-true at place t
    lower false t = absurd (omega (arith, rising place at (ltb-false at place t) there.0, there.1, here, h))

    rest : (b : Bool) → ltb (superclass_of heap holder) holder ≡ b → cond b (chain_of heap (superclass_of heap holder)) [] ≡ chain_of heap (superclass_of heap holder)
    rest true t = refl
    rest false t = absurd (omega (arith, h, is, ltb-false (superclass_of heap holder) holder t))

-- by where the superclass stands, if there is one
pub next_is : (code : CodeProgram) (heap : Heap) (numbers : List ℕ) (place holder over : ℕ) (at next : Option ℕ) → IsRising numbers → place < length numbers
    → holder ≡ get_or numbers place 0 → holder ≤ no_class → over ≡ superclass_of heap holder → has_chain code heap holder ≡ true
    → IsOver numbers holder over at → IsAbove code heap numbers at next → IsNext code heap numbers place (rest_of heap holder) next
next_is code heap numbers place holder over None next rising within here small is e top none =
    subst (IsNext code heap numbers place (rest_of heap holder)) (sym none) (above_none code heap numbers place holder over is top)
next_is code heap numbers place holder over (Some at) next rising within here small is e there from =
    above_at code heap numbers place at holder over next rising within here small is there.0 there.1 from e

-- the superclass of a class with a chain stands at a place
pub over_is : (code : CodeProgram) (heap : Heap) (chains : Chains) (holder over : ℕ) (at : Option ℕ) → AreChains code heap chains → holder ≤ no_class
    → over ≡ superclass_of heap holder → over < holder → IsPlaceOf chains.numbers.items over at → has_chain code heap holder ≡ true
    → IsOver chains.numbers.items holder over at
over_is code heap chains holder over (Some at) are small is h there e = (h, there)
over_is code heap chains holder over None are small is h none e =
    absurd (class_there code heap chains over are (omega (arith, h, small))
    (subst (λ (n : ℕ). has_chain code heap n ≡ true) (sym is) (chain_on code heap holder e small (subst (λ (n : ℕ). n < holder) is h))) none)

-- a place that is one of a superclass is one
pub placed : (numbers : List ℕ) (over : ℕ) (at : Option ℕ) → IsPlaceOf numbers over at → IfSome at (λ (p : ℕ). IsPlaceOf numbers over (Some p))
placed numbers over (Some at) there = there
placed numbers over None none = tt

pub placed_within : (numbers : List ℕ) (over : ℕ) (at : Option ℕ) → IfSome at (λ (p : ℕ). IsPlaceOf numbers over (Some p)) → IfSome at (λ (p : ℕ). p < length numbers)
placed_within numbers over (Some at) there = there.0
placed_within numbers over None none = tt

-- ---- all classes

-- nothing is kept
pub none_kept : (code : CodeProgram) (heap : Heap) (numbers : List ℕ) (keepers : List Keeper) → keepers ≡ [] → AreKeepers code heap numbers keepers
none_kept code heap numbers keepers none place keeper there chain =
    let nowhere : None ≡ Some keeper = sym (ap (λ (ks : List Keeper). slice_get ks place) none) ∙ there in
    absurd (cc)

-- one more is kept
pub more_kept : (code : CodeProgram) (heap : Heap) (numbers : List ℕ) (keepers after : List Keeper) (one : Keeper) → AreKeepers code heap numbers keepers
    → (has_chain code heap (get_or numbers (length keepers) 0) ≡ true → IsKeeper code heap numbers (length keepers) one)
    → after ≡ keepers ++ one ∷ [] → AreKeepers code heap numbers after
more_kept code heap numbers keepers after one are is more place keeper there = tested (ltb place (length keepers)) refl
  where
    found : slice_get (keepers ++ one ∷ []) place ≡ Some keeper
    found = ap (λ (ks : List Keeper). slice_get ks place) (sym more) ∙ there

    tested : (b : Bool) → ltb place (length keepers) ≡ b → has_chain code heap (get_or numbers place 0) ≡ true → IsKeeper code heap numbers place keeper
    tested true t = are place keeper (sym (got_left keepers one place (ltb-true place (length keepers) t)) ∙ found)
    tested false t =
        let last : length keepers ≡ place = omega (arith, ltb-false place (length keepers) t, slice_get_within (keepers ++ one ∷ []) place keeper found, one_longer keepers one) in
        let same : Some one ≡ Some keeper = sym (got_end keepers one) ∙ (ap (λ (n : ℕ). slice_get (keepers ++ one ∷ []) n) last ∙ found) in
        let it : one ≡ keeper = cc in
        subst (λ (n : ℕ). has_chain code heap (get_or numbers n 0) ≡ true → IsKeeper code heap numbers n keeper) last
        (subst (λ (k : Keeper). has_chain code heap (get_or numbers (length keepers) 0) ≡ true → IsKeeper code heap numbers (length keepers) k) it is)

-- ---- the walk

-- a class whose words are so, and the next one
pub kept_on : (code : CodeProgram) (heap : Heap) (numbers : List ℕ) (object : ℕ) (words : List Value) (place : ℕ) (keeper : Keeper)
    (nested : List NestedCode) (whole : Bool) → IsKeeper code heap numbers place keeper → nested ≡ nested_of code keeper.decl
    → are_kept_from heap object keeper.holder words keeper.first nested ≡ true
    → are_kept_at code heap numbers object words (Some place) ≡ whole → are_kept_at code heap numbers object words keeper.above ≡ whole
kept_on code heap numbers object words place keeper nested whole is these kept same =
    sym (ap (λ (b : Bool). b && are_kept_at code heap numbers object words keeper.above)
    (ap (are_kept_from heap object keeper.holder words keeper.first) (sym these) ∙ kept))
    ∙ (is.tells object words ∙ same)

-- a class whose words aren't
pub kept_not : (code : CodeProgram) (heap : Heap) (numbers : List ℕ) (object : ℕ) (words : List Value) (place : ℕ) (keeper : Keeper)
    (nested : List NestedCode) (whole : Bool) → IsKeeper code heap numbers place keeper → nested ≡ nested_of code keeper.decl
    → are_kept_from heap object keeper.holder words keeper.first nested ≡ false
    → are_kept_at code heap numbers object words (Some place) ≡ whole → false ≡ whole
kept_not code heap numbers object words place keeper nested whole is these kept same =
    sym (ap (λ (b : Bool). b && are_kept_at code heap numbers object words keeper.above)
    (ap (are_kept_from heap object keeper.holder words keeper.first) (sym these) ∙ kept))
    ∙ (is.tells object words ∙ same)

-- above the topmost
pub kept_end : (code : CodeProgram) (heap : Heap) (numbers : List ℕ) (object : ℕ) (words : List Value) (at : Option ℕ) (whole : Bool) → at ≡ None
    → are_kept_at code heap numbers object words at ≡ whole → true ≡ whole
kept_end code heap numbers object words at whole none same = ap (are_kept_at code heap numbers object words) (sym none) ∙ same
