-- What lookup finds in a lawful world suits its receiver.
use Rattle.std.proofs.Common.{◌≡◌, ℕ, zero, suc, ◌<◌, List, [], ◌∷◌, length, get_or, refl, ap, sym, ◌∙◌, subst, arith, Option, Some, None, true, false}
use Rattle.std.specs.Prelude.{Contains, IsSome}
use Rattle.std.specs.Option.{option_map_or, ForSome}
use Rattle.ns_code.specs.declared.program.CodeProgram.{CodeProgram}
use Rattle.ns_world.specs.declared.value.Value.{Value}
use Rattle.ns_world.specs.declared.value.Value.TheVariants as value
use Rattle.ns_world.specs.declared.cell.NewCell.TheVariants as new
use Rattle.ns_world.specs.declared.kernel_class.KernelRow.{KernelRow}
use Rattle.ns_world.specs.declared.kernel_class.KernelRow.TheVariants as row
use Rattle.ns_world.specs.declared.kernel.Start.{Start}
use Rattle.ns_world.specs.declared.kernel.Start.TheVariants as start
use Rattle.ns_world.specs.Cell.{Cell, ObjectCell, ClassCell, BlockCell, EnvironmentCell, ArrayCell, TextCell, FacetCell, MirrorCell, MessageCell, shape_of}
use Rattle.ns_world.specs.Heap.{Heap, find_cell, is_class, is_chain_start, chain_of, superclass_of}
use Rattle.ns_world.specs.Starts.{start_of, start_of_cell, facet_row, kernel_class_row}
use Rattle.ns_world.specs.World.{World}
use Rattle.ns_world.specs.Lawful.{IsLawful, HasHolder, class_of_object}
use Rattle.ns_world.specs.laws.Classes.{IsInOrder, lawful_order, class_in_chain, started}
use Rattle.ns_find.specs.declared.found.Found.{Found}
use Rattle.ns_find.specs.declared.found.Found.TheVariants as found
use Rattle.ns_find.specs.declared.found.Sending.{Sending}
use Rattle.ns_find.specs.declared.found.Sending.TheVariants.{Inner}
use Rattle.ns_find.specs.declared.members.Side.{Side}
use Rattle.ns_find.specs.declared.members.Side.TheVariants.{Instance as InstanceSide, Class as ClassSide}
use Rattle.ns_find.specs.Find.{found_from, found_private}
use Rattle.ns_find.specs.Belonging.{Belongs}
use Rattle.ns_find.specs.laws.Belonging.{instance_belongs, class_belongs, kernel_belongs, private_belongs}
use Rattle.ns_moves.specs.Suits.{Suits}

pub no_holder : (holder : ℕ) → Contains [] holder → ⊥
no_holder holder (k, inside, is) = omega (arith, inside)

-- on the instance side each holder in the chain is one of the receiver's
instance_suits : (heap : Heap) (code : CodeProgram) (receiver : Value) (chain : List ℕ) (f : Found) →
    ((holder : ℕ) → Contains chain holder → HasHolder heap receiver holder × (is_class (find_cell heap holder) ≡ true)) →
    Belongs heap code InstanceSide chain [] f → Suits heap code receiver f
instance_suits heap code receiver chain (found.Getter holder word) among b = let h = among holder b.1 in (h.0, h.1, b.2)
instance_suits heap code receiver chain (found.Setter holder word) among b = let h = among holder b.1 in (h.0, h.1, b.2)
instance_suits heap code receiver chain (found.Nested class holder) among b = let h = among holder b.1 in (h.0, h.1, b.2)
instance_suits heap code receiver chain (found.Factory class) among b = absurd (no_holder class b)
instance_suits heap code receiver chain (found.Method body holder) among b = tt
instance_suits heap code receiver chain (found.Kernel number) among b = tt
instance_suits heap code receiver chain found.NotPublic among b = tt
instance_suits heap code receiver chain found.Absent among b = tt

-- on a class side there are methods alone, and the factory of a class
side_suits : (heap : Heap) (code : CodeProgram) (receiver : Value) (chain factories : List ℕ) (f : Found) →
    ((class : ℕ) → Contains factories class → is_class (find_cell heap class) ≡ true) → Belongs heap code ClassSide chain factories f →
    Suits heap code receiver f
side_suits heap code receiver chain factories (found.Getter holder word) among b = absurd b.0
side_suits heap code receiver chain factories (found.Setter holder word) among b = absurd b.0
side_suits heap code receiver chain factories (found.Nested class holder) among b = absurd b.0
side_suits heap code receiver chain factories (found.Factory class) among b = among class b
side_suits heap code receiver chain factories (found.Method body holder) among b = tt
side_suits heap code receiver chain factories (found.Kernel number) among b = tt
side_suits heap code receiver chain factories found.NotPublic among b = tt
side_suits heap code receiver chain factories found.Absent among b = tt

row_suits : (heap : Heap) (code : CodeProgram) (receiver : Value) (r : KernelRow) (sel : ℕ) (kind : Sending) →
    Suits heap code receiver (found_from heap code (start.Kernel r) sel kind)
row_suits heap code receiver r sel kind =
    instance_suits heap code receiver [] (found_from heap code (start.Kernel r) sel kind) (λ holder c. absurd (no_holder holder c)) (kernel_belongs heap code InstanceSide r sel kind)

-- the holders of an object
pub object_holders : (world : World) (code : CodeProgram) (at class : ℕ) → IsLawful world code →
    class_of_object (find_cell world.cells at) ≡ Some class → is_chain_start world.cells class ≡ true → (holder : ℕ) →
    Contains (chain_of world.cells class) holder
    → HasHolder world.cells (value.Ref at) holder × (is_class (find_cell world.cells holder) ≡ true)
object_holders world code at class lawful e s holder (k, inside, is) = (
  (λ other f. let same : Some class ≡ Some other = sym e ∙ f in let it : class ≡ other = cc in subst (λ c. Contains (chain_of world.cells c) holder) it (k, inside, is), rw e refl),
  class_in_chain world.cells k class holder (lawful_order world code lawful) s inside is,
)

one_class : (heap : Heap) (class at : ℕ) → is_class (find_cell heap at) ≡ true → Contains (at ∷ []) class →
    is_class (find_cell heap class) ≡ true
one_class heap class at t (zero, inside, is) = ap (λ n. is_class (find_cell heap n)) (sym is) ∙ t
one_class heap class at t (suc k, inside, is) = absurd (omega (arith, inside))

-- what a send to a value finds
pub found_suits : (world : World) (code : CodeProgram) (receiver : Value) (sel : ℕ) (kind : Sending) → IsLawful world code →
    Suits world.cells code receiver (found_from world.cells code (start_of world.cells receiver) sel kind)
found_suits world code (value.Ref at) sel kind lawful = cell (find_cell world.cells at) refl
  where
    suits : Start → Type 0
    suits from = Suits world.cells code (value.Ref at) (found_from world.cells code from sel kind)

    cell : (o : Option Cell) → find_cell world.cells at ≡ o → suits (start_of_cell (option_map_or shape_of o (new.Mirror value.Nil)) at)
    cell None e = row_suits world.cells code (value.Ref at) row.Mirror sel kind
    cell (Some (ObjectCell class entries)) e =
        let object = (lawful.cells at (ObjectCell class entries) e).0 in
        instance_suits world.cells code (value.Ref at) (chain_of world.cells class) (found_from world.cells code (start.Instance class) sel kind)
        (object_holders world code at class lawful (ap class_of_object e) object.class_is) (instance_belongs world.cells code class sel kind)
    cell (Some (ClassCell decl base encl holder over)) e =
        side_suits world.cells code (value.Ref at) (chain_of world.cells at) (at ∷ []) (found_from world.cells code (start.ClassSide at true) sel kind)
        (λ class c. one_class world.cells class at (ap is_class e) c) (class_belongs world.cells code at true sel kind)
    cell (Some (BlockCell body env home receiver holder)) e = row_suits world.cells code (value.Ref at) row.Block sel kind
    cell (Some (EnvironmentCell parent locals)) e = row_suits world.cells code (value.Ref at) row.Object sel kind
    cell (Some (ArrayCell items)) e = row_suits world.cells code (value.Ref at) row.Array sel kind
    cell (Some (TextCell bytes)) e = row_suits world.cells code (value.Ref at) row.String sel kind
    cell (Some (FacetCell kind')) e = row_suits world.cells code (value.Ref at) (facet_row kind') sel kind
    cell (Some (MirrorCell shown)) e = row_suits world.cells code (value.Ref at) row.Mirror sel kind
    cell (Some (MessageCell name args)) e = row_suits world.cells code (value.Ref at) row.Message sel kind
found_suits world code value.Nil sel kind lawful = row_suits world.cells code value.Nil row.UndefinedObject sel kind
found_suits world code value.True sel kind lawful = row_suits world.cells code value.True row.Boolean sel kind
found_suits world code value.False sel kind lawful = row_suits world.cells code value.False row.Boolean sel kind
found_suits world code (value.Int number) sel kind lawful = row_suits world.cells code (value.Int number) row.Integer sel kind
found_suits world code (value.Sym name) sel kind lawful = row_suits world.cells code (value.Sym name) row.Symbol sel kind
found_suits world code (value.Kernel class) sel kind lawful =
    row_suits world.cells code (value.Kernel class) (kernel_class_row class) sel kind

-- the holders above one in a chain are in the chain too
pub above_too : (heap : Heap) (class holder other k : ℕ) → IsInOrder heap → is_chain_start heap class ≡ true →
    k < length (chain_of heap class) → get_or (chain_of heap class) k holder ≡ holder →
    Contains (chain_of heap (superclass_of heap holder)) other → Contains (chain_of heap class) other
above_too heap class holder other zero order s inside is (j, below, at) =
    let g = (started heap class 0 order s inside).0 in
    let same : class ≡ holder = sym (ap (λ ms. get_or ms 0 holder) g.chain) ∙ is in
    let over : chain_of heap (superclass_of heap holder) ≡ chain_of heap (superclass_of heap class) = ap (λ n. chain_of heap (superclass_of heap n)) (sym same) in
    (suc j, omega (arith, below, ap length over, ap length g.chain), ap (λ ms. get_or ms (suc j) other) g.chain ∙ (ap (λ ms. get_or ms j other) (sym over) ∙ at))
above_too heap class holder other (suc k) order s inside is has =
    let g = (started heap class (suc k) order s inside).0 in
    let rest = above_too heap (superclass_of heap class) holder other k order g.start (omega (arith, inside, ap length g.chain)) (sym (ap (λ ms. get_or ms (suc k) holder) g.chain) ∙ is) has in
    (suc rest.0, omega (arith, rest.1, ap length g.chain), ap (λ ms. get_or ms (suc rest.0) other) g.chain ∙ rest.2)

-- what a send to super finds on the instance side
pub super_suits : (world : World) (code : CodeProgram) (at holder sel : ℕ) → IsLawful world code →
    HasHolder world.cells (value.Ref at) holder
    → Suits world.cells code (value.Ref at) (found_from world.cells code (start.Instance (superclass_of world.cells holder)) sel Inner)
super_suits world code at holder sel lawful has = object (find_cell world.cells at) refl has
  where
    f : Found
    f = found_from world.cells code (start.Instance (superclass_of world.cells holder)) sel Inner

    object : (o : Option Cell) → find_cell world.cells at ≡ o → ForSome (class_of_object o) (λ class. Contains (chain_of world.cells class) holder) × IsSome (class_of_object o) → Suits world.cells code (value.Ref at) f
    object (Some (ObjectCell class entries)) e h =
        let fine = (lawful.cells at (ObjectCell class entries) e).0 in
        let (k, inside, is) = h.0 class refl in
        instance_suits world.cells code (value.Ref at) (chain_of world.cells (superclass_of world.cells holder)) f
        (λ other c. object_holders world code at class lawful (ap class_of_object e) fine.class_is other (above_too world.cells class holder other k (lawful_order world code lawful) fine.class_is inside is c))
        (instance_belongs world.cells code (superclass_of world.cells holder) sel Inner)
    object None e h = let none = h.1 in absurd (cc)
    object (Some (ClassCell decl base encl holder' over)) e h = let none = h.1 in absurd (cc)
    object (Some (BlockCell body env home receiver holder')) e h = let none = h.1 in absurd (cc)
    object (Some (EnvironmentCell parent locals)) e h = let none = h.1 in absurd (cc)
    object (Some (ArrayCell items)) e h = let none = h.1 in absurd (cc)
    object (Some (TextCell bytes)) e h = let none = h.1 in absurd (cc)
    object (Some (FacetCell kind)) e h = let none = h.1 in absurd (cc)
    object (Some (MirrorCell shown)) e h = let none = h.1 in absurd (cc)
    object (Some (MessageCell name args)) e h = let none = h.1 in absurd (cc)

-- on a class side such a send finds no factory
pub super_side_suits : (heap : Heap) (code : CodeProgram) (receiver : Value) (class sel : ℕ) →
    Suits heap code receiver (found_from heap code (start.ClassSide class false) sel Inner)
super_side_suits heap code receiver class sel =
    side_suits heap code receiver (chain_of heap class) [] (found_from heap code (start.ClassSide class false) sel Inner) (λ other c. absurd (no_holder other c)) (class_belongs heap code class false sel Inner)

pub one_holder : (heap : Heap) (receiver : Value) (place other : ℕ) → HasHolder heap receiver place →
    is_class (find_cell heap place) ≡ true → Contains (place ∷ []) other →
    HasHolder heap receiver other × (is_class (find_cell heap other) ≡ true)
one_holder heap receiver place other has t (zero, inside, is) =
    (subst (HasHolder heap receiver) is has, ap (λ n. is_class (find_cell heap n)) (sym is) ∙ t)
one_holder heap receiver place other has t (suc k, inside, is) = absurd (omega (arith, inside))

-- what is found of private members
pub private_suits : (heap : Heap) (code : CodeProgram) (receiver : Value) (holder : ℕ) (side : Side) (sel : ℕ) →
    (side ≡ InstanceSide → HasHolder heap receiver holder) → is_class (find_cell heap holder) ≡ true
    → Suits heap code receiver (found_private heap code holder side sel)
private_suits heap code receiver holder InstanceSide sel has t =
    instance_suits heap code receiver (holder ∷ []) (found_private heap code holder InstanceSide sel) (λ other c. one_holder heap receiver holder other (has refl) t c) (private_belongs heap code holder InstanceSide sel)
private_suits heap code receiver holder ClassSide sel has t =
    side_suits heap code receiver (holder ∷ []) [] (found_private heap code holder ClassSide sel) (λ other c. absurd (no_holder other c)) (private_belongs heap code holder ClassSide sel)
