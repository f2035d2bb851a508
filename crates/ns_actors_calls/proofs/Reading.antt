-- What is read of an outbox are its letters.
use Rattle.std.proofs.Common.{◌≡◌, ◌<◌, ℕ, suc, ◌+◌, List, [], ◌∷◌, ◌++◌, append_assoc, refl, sym, ap, ◌∙◌, subst, arith, Option, Some, None, Bool, true, false, length, drop, if◌then◌else◌, ◌==◌}
use Rattle.std.specs.Prelude.{option_and_then, option_map}
use Rattle.std.specs.List.{slice_index_or}
use Rattle.std.proofs.lemmas.List.{drop_more}
use Rattle.ns_base.specs.declared.selector.Sel.{Sel}
use Rattle.ns_code.specs.declared.program.CodeProgram.{CodeProgram}
use Rattle.ns_code.specs.Selector.{selector_arity, selector_text}
use Rattle.ns_world.specs.declared.value.Value.{Value}
use Rattle.ns_world.specs.declared.value.Value.TheVariants as value
use Rattle.ns_world.specs.Cell.{Cell, ObjectCell, ClassCell, BlockCell, EnvironmentCell, ArrayCell, TextCell, FacetCell, MirrorCell, MessageCell}
use Rattle.ns_world.specs.Heap.{Heap, find_cell}
use Rattle.ns_kdata.specs.Arguments.{array_items, items_of}
use Rattle.ns_facets.specs.declared.board.Plain.{Plain}
use Rattle.ns_actors.specs.declared.letter.Letter.{Letter}
use Rattle.ns_actors_calls.specs.declared.outbox.Parts.{Parts}
use Rattle.ns_actors.specs.Outbox.{actor_of, array_in, items_in, letter_in, letter_of, letter_with, letters_of, outbox, plain_in, selector_of, with_letters}
use Rattle.ns_actors_calls.specs.Parts.{letter_as, one_selector, parts_at, parts_in, parts_of, parts_with, sized, sized_with}

-- ---- elements

-- an Array's elements are those of its cell
items_at : (cell : Option Cell) (items : List Value) → items_in cell ≡ Some items → array_items cell ≡ items
items_at (Some (ArrayCell items)) others e = same e
  where
    same : Some items ≡ Some others → items ≡ others
    same e = cc (e)
items_at None others e = absurd (cc (e))
items_at (Some (ObjectCell class entries)) others e = absurd (cc (e))
items_at (Some (ClassCell decl base encl holder over)) others e = absurd (cc (e))
items_at (Some (BlockCell body env home receiver holder)) others e = absurd (cc (e))
items_at (Some (EnvironmentCell parent locals)) others e = absurd (cc (e))
items_at (Some (TextCell bytes)) others e = absurd (cc (e))
items_at (Some (FacetCell kind)) others e = absurd (cc (e))
items_at (Some (MirrorCell mirrored)) others e = absurd (cc (e))
items_at (Some (MessageCell sel args)) others e = absurd (cc (e))

items_are : (heap : Heap) (array : Value) (items : List Value) → array_in heap array ≡ Some items → items_of heap array ≡ items
items_are heap (value.Ref at) items e = items_at (find_cell heap at) items e
items_are heap value.Nil items e = absurd (cc (e))
items_are heap value.True items e = absurd (cc (e))
items_are heap value.False items e = absurd (cc (e))
items_are heap (value.Int number) items e = absurd (cc (e))
items_are heap (value.Sym sel) items e = absurd (cc (e))
items_are heap (value.Kernel class) items e = absurd (cc (e))

-- what has so many elements is an Array of them
sized_array : (heap : Heap) (array : Value) (size : ℕ) → option_map length (array_in heap array) ≡ Some size
    → array_in heap array ≡ Some (items_of heap array)
sized_array heap array size e = by (array_in heap array) refl e
  where
    by : (o : Option (List Value)) → array_in heap array ≡ o → option_map length o ≡ Some size → array_in heap array ≡ Some (items_of heap array)
    by (Some items) f g = f ∙ ap (λ (xs : List Value). Some xs) (sym (items_are heap array items f))
    by None f g = absurd (cc (g))

pub size_is : (heap : Heap) (array : Value) (size : ℕ) → option_map length (array_in heap array) ≡ Some size → size ≡ length (items_of heap array)
size_is heap array size e =
    let both : Some (length (items_of heap array)) ≡ Some size = sym (ap (λ (o : Option (List Value)). option_map length o) (sized_array heap array size e)) ∙ e in
    cc (both)

-- ---- the parts of a letter

-- three elements as parts
three : (code : CodeProgram) (count : ℕ) (items : List Value) → length items ≡ 3
    → parts_in code count items ≡ parts_of code count (slice_index_or items 0 value.Nil) (slice_index_or items 1 value.Nil) (slice_index_or items 2 value.Nil)
three code count [] e = absurd (omega (arith, e))
three code count (to ∷ []) e = absurd (omega (arith, e))
three code count (to ∷ sel ∷ []) e = absurd (omega (arith, e))
three code count (to ∷ sel ∷ arg ∷ []) e = refl
three code count (to ∷ sel ∷ arg ∷ other ∷ others) e = absurd (omega (arith, e))

three_are : (code : CodeProgram) (heap : Heap) (count : ℕ) (array : Value) → option_map length (array_in heap array) ≡ Some 3
    → parts_of code count (slice_index_or (items_of heap array) 0 value.Nil) (slice_index_or (items_of heap array) 1 value.Nil)
    (slice_index_or (items_of heap array) 2 value.Nil)
    ≡ parts_at code heap count array
three_are code heap count array e =
    sym (ap (λ (o : Option (List Value)). option_and_then (parts_in code count) o) (sized_array heap array 3 e)
    ∙ three code count (items_of heap array) (sym (size_is heap array 3 e)))

-- the parts that are read
pub three_read : (code : CodeProgram) (heap : Heap) (count size : ℕ) (array to sel arg : Value) → Some size ≡ option_map length (array_in heap array) → size ≡ 3
    → to ≡ slice_index_or (items_of heap array) 0 value.Nil → sel ≡ slice_index_or (items_of heap array) 1 value.Nil
    → arg ≡ slice_index_or (items_of heap array) 2 value.Nil → parts_of code count to sel arg ≡ parts_at code heap count array
three_read code heap count size array to sel arg sized three tos sels args =
    ap (λ (v : Value). parts_of code count v sel arg) tos
    ∙ (ap (λ (v : Value). parts_of code count (slice_index_or (items_of heap array) 0 value.Nil) v arg) sels
    ∙ (ap (λ (v : Value). parts_of code count (slice_index_or (items_of heap array) 0 value.Nil) (slice_index_or (items_of heap array) 1 value.Nil) v) args
    ∙ three_are code heap count array (sym sized ∙ ap (λ (n : ℕ). Some n) three)))

-- ---- letters

-- a letter is that of its parts
with_parts : (code : CodeProgram) (from : ℕ) (to : Option ℕ) (sel : Value) (arg : Option Plain)
    → letter_with from to (selector_of code sel) arg ≡ option_map (letter_as code from) (parts_with to (one_selector code sel) arg)
with_parts code from None sel arg = by (selector_of code sel) (one_selector code sel) arg
  where
    by : (s : Option (List ℕ)) (p : Option Sel) (a : Option Plain) → letter_with from None s a ≡ option_map (letter_as code from) (parts_with None p a)
    by s p a = refl
with_parts code from (Some to) (value.Sym sel) arg = by (selector_arity code sel.0 == 1) arg
  where
    by : (b : Bool) (a : Option Plain)
        → letter_with from (Some to) (if b then Some (selector_text code sel.0) else None) a ≡ option_map (letter_as code from) (parts_with (Some to) (if b then Some sel else None) a)
    by true (Some plain) = refl
    by true None = refl
    by false a = refl
with_parts code from (Some to) value.Nil arg = refl
with_parts code from (Some to) value.True arg = refl
with_parts code from (Some to) value.False arg = refl
with_parts code from (Some to) (value.Int number) arg = refl
with_parts code from (Some to) (value.Kernel class) arg = refl
with_parts code from (Some to) (value.Ref at) arg = refl

in_parts : (code : CodeProgram) (from count : ℕ) (items : List Value)
    → letter_in code from count items ≡ option_map (letter_as code from) (parts_in code count items)
in_parts code from count [] = refl
in_parts code from count (to ∷ []) = refl
in_parts code from count (to ∷ sel ∷ []) = refl
in_parts code from count (to ∷ sel ∷ arg ∷ []) = with_parts code from (actor_of count to) sel (plain_in arg)
in_parts code from count (to ∷ sel ∷ arg ∷ other ∷ others) = refl

letter_is : (code : CodeProgram) (heap : Heap) (from count : ℕ) (element : Value)
    → letter_of code heap from count element ≡ option_map (letter_as code from) (parts_at code heap count element)
letter_is code heap from count element = by (array_in heap element)
  where
    by : (o : Option (List Value)) → option_and_then (letter_in code from count) o ≡ option_map (letter_as code from) (option_and_then (parts_in code count) o)
    by (Some items) = in_parts code from count items
    by None = refl

-- how many letters there are
sized_is : (code : CodeProgram) (heap : Heap) (from count before : ℕ) (values : List Value)
    → sized code heap count before values ≡ option_map (λ (letters : List Letter). before + length letters) (letters_of code heap from count values)
sized_is code heap from count before [] = let e : before ≡ before + 0 = omega arith in ap (λ (n : ℕ). Some n) e
sized_is code heap from count before (element ∷ values) =
    ap (λ (o : Option ℕ). sized_with (parts_at code heap count element) o) (sized_is code heap from count (before + 1) values)
    ∙ (by (parts_at code heap count element) (letters_of code heap from count values)
    ∙ sym (ap (λ (o : Option Letter). option_map (λ (letters : List Letter). before + length letters) (with_letters o (letters_of code heap from count values)))
    (letter_is code heap from count element)))
  where
    by : (p : Option Parts) (rest : Option (List Letter))
        → sized_with p (option_map (λ (letters : List Letter). (before + 1) + length letters) rest)
        ≡ option_map (λ (letters : List Letter). before + length letters) (with_letters (option_map (letter_as code from) p) rest)
    by (Some parts) (Some letters) =
        let e : (before + 1) + length letters ≡ before + suc (length letters) = omega arith in ap (λ (n : ℕ). Some n) e
    by (Some parts) None = refl
    by None (Some letters) = refl
    by None None = refl

-- ---- reading all

-- Of these values so many are counted, each of which is a letter.
abbrev pub AreCounted : CodeProgram → Heap → ℕ → List Value → ℕ → Type 0
AreCounted code heap count values place = sized code heap count place (drop place values) ≡ sized code heap count 0 values

-- Of these values the first are read as letters, and these are those of all the others.
abbrev pub AreRead : CodeProgram → Heap → ℕ → ℕ → List Value → ℕ → List Letter → Type 0
AreRead code heap from count values place letters =
    letters_of code heap from count values ≡ option_map (λ (more : List Letter). letters ++ more) (letters_of code heap from count (drop place values))

reads_more : (code : CodeProgram) (heap : Heap) (from count : ℕ) (values : List Value) (place : ℕ) (letters : List Letter) (parts : Parts)
    → place < length values → parts_at code heap count (slice_index_or values place value.Nil) ≡ Some parts
    → AreRead code heap from count values place letters
    → AreRead code heap from count values (place + 1) (letters ++ letter_as code from parts ∷ [])
reads_more code heap from count values place letters parts within is are =
    are
    ∙ (ap (λ (vs : List Value). option_map (λ (more : List Letter). letters ++ more) (letters_of code heap from count vs)) (drop_more values place value.Nil within)
    ∙ (ap (λ (o : Option Letter). option_map (λ (more : List Letter). letters ++ more) (with_letters o (letters_of code heap from count (drop (place + 1) values))))
    (letter_is code heap from count (slice_index_or values place value.Nil) ∙ ap (λ (p : Option Parts). option_map (letter_as code from) p) is)
    ∙ by (letters_of code heap from count (drop (place + 1) values))))
  where
    by : (o : Option (List Letter))
        → option_map (λ (more : List Letter). letters ++ more) (with_letters (Some (letter_as code from parts)) o)
        ≡ option_map (λ (more : List Letter). (letters ++ letter_as code from parts ∷ []) ++ more) o
    by (Some more) = ap (λ (ls : List Letter). Some ls) (sym (append_assoc letters (letter_as code from parts ∷ []) more))
    by None = refl

-- a letter that is read is put behind them
pub read_more : (code : CodeProgram) (heap : Heap) (from count : ℕ) (values : List Value) (place : ℕ) (letters next : List Letter) (element : Value)
    (parts : Parts) (letter : Letter) → place < length values → element ≡ slice_index_or values place value.Nil
    → Some parts ≡ parts_at code heap count element → letter ≡ letter_as code from parts → next ≡ letters ++ letter ∷ []
    → AreRead code heap from count values place letters → AreRead code heap from count values (place + 1) next
read_more code heap from count values place letters next element parts letter within elements is letter_is nexts are =
    subst (AreRead code heap from count values (place + 1)) (sym (nexts ∙ ap (λ (l : Letter). letters ++ l ∷ []) letter_is))
    (reads_more code heap from count values place letters parts within
    (ap (λ (v : Value). parts_at code heap count v) (sym elements) ∙ sym is) are)

-- ---- outboxes

-- the letters of what isn't nil are those of an Array
pub whole_size : (code : CodeProgram) (heap : Heap) (from count : ℕ) (box : Value) → (box ≡ value.Nil → ⊥)
    → option_map length (outbox code heap box from count) ≡ option_and_then (sized code heap count 0) (array_in heap box)
whole_size code heap from count value.Nil n = absurd (n refl)
whole_size code heap from count value.True n = refl
whole_size code heap from count value.False n = refl
whole_size code heap from count (value.Int number) n = refl
whole_size code heap from count (value.Sym sel) n = refl
whole_size code heap from count (value.Kernel class) n = refl
whole_size code heap from count (value.Ref at) n = by (array_in heap (value.Ref at))
  where
    by : (o : Option (List Value)) → option_map length (option_and_then (letters_of code heap from count) o) ≡ option_and_then (sized code heap count 0) o
    by (Some values) = here (letters_of code heap from count values) ∙ sym (sized_is code heap from count 0 values)
      where
        here : (o : Option (List Letter)) → option_map length o ≡ option_map (λ (letters : List Letter). 0 + length letters) o
        here (Some letters) = let e : length letters ≡ 0 + length letters = omega arith in ap (λ (n : ℕ). Some n) e
        here None = refl
    by None = refl

-- as many letters as the elements of an Array stand for, and none of what is no Array
pub array_sized : (code : CodeProgram) (heap : Heap) (count size : ℕ) (array : Value) → option_map length (array_in heap array) ≡ Some size
    → sized code heap count 0 (items_of heap array) ≡ option_and_then (sized code heap count 0) (array_in heap array)
array_sized code heap count size array e =
    sym (ap (λ (o : Option (List Value)). option_and_then (sized code heap count 0) o) (sized_array heap array size e))

pub none_sized : (code : CodeProgram) (heap : Heap) (count : ℕ) (array : Value) → option_map length (array_in heap array) ≡ None
    → None ≡ option_and_then (sized code heap count 0) (array_in heap array)
none_sized code heap count array e = by (array_in heap array) e
  where
    by : (o : Option (List Value)) → option_map length o ≡ None → None ≡ option_and_then (sized code heap count 0) o
    by (Some values) f = absurd (cc (f))
    by None f = refl
