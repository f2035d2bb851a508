-- The body of a method that is found fits the receiver and the holder.
use Rattle.std.proofs.Common.{◌≡◌, ℕ, List, [], ◌∷◌, slice_get, refl, ap, sym, ◌∙◌, subst, arith, Option, Some, None, true}
use Rattle.std.specs.Prelude.{Contains, IsSome}
use Rattle.std.specs.Option.{option_map_or, ForSome}
use Rattle.ns_code.specs.declared.program.CodeProgram.{CodeProgram}
use Rattle.ns_code.specs.declared.body.BodyCode.{BodyCode}
use Rattle.ns_code.specs.Selector.{selector_arity}
use Rattle.ns_code.specs.Soundness.{method_kind, clause_kind, instance_side, class_side}
use Rattle.ns_world.specs.declared.value.Value.{Value}
use Rattle.ns_world.specs.declared.value.Value.TheVariants as value
use Rattle.ns_world.specs.declared.cell.NewCell.TheVariants as new
use Rattle.ns_world.specs.declared.kernel_class.KernelRow.{KernelRow}
use Rattle.ns_world.specs.declared.kernel_class.KernelRow.TheVariants as row
use Rattle.ns_world.specs.declared.kernel.Start.{Start}
use Rattle.ns_world.specs.declared.kernel.Start.TheVariants as start
use Rattle.ns_world.specs.Cell.{Cell, ObjectCell, ClassCell, BlockCell, EnvironmentCell, ArrayCell, TextCell, FacetCell, MirrorCell, MessageCell, shape_of}
use Rattle.ns_world.specs.Heap.{Heap, find_cell, is_class, is_chain_start, chain_of}
use Rattle.ns_world.specs.Starts.{start_of, start_of_cell, facet_row, kernel_class_row}
use Rattle.ns_world.specs.World.{World}
use Rattle.ns_world.specs.Layout.{declaration_of}
use Rattle.ns_world.specs.Lawful.{IsLawful, IsLiveValue, HasHolder, FitsBody, class_of_object}
use Rattle.ns_world.specs.laws.Classes.{lawful_order, class_in_chain}
use Rattle.ns_find.specs.declared.found.Found.{Found}
use Rattle.ns_find.specs.declared.found.Found.TheVariants as found
use Rattle.ns_find.specs.declared.found.Sending.{Sending}
use Rattle.ns_find.specs.declared.members.Side.TheVariants.{Instance as InstanceSide, Class as ClassSide}
use Rattle.ns_find.specs.Find.{found_from}
use Rattle.ns_find.specs.Belonging.{Belongs}
use Rattle.ns_find.specs.Named.{IsBody, IsInitialiserOf, TakesArguments}
use Rattle.ns_find.specs.laws.Belonging.{instance_belongs, class_belongs, kernel_belongs}
use Rattle.ns_find.specs.laws.SoundBodies.{found_by}
use Rattle.ns_moves.specs.Bodies.{parameters_of}
use Rattle.ns_moves.specs.Fitting.{kind_of}
use Rattle.ns_moves.specs.lemmas.Suiting.{no_holder, object_holders}

-- A body of a kind and with so many parameters runs with a self and a holder.
pub record BodyRuns (heap : Heap) (code : CodeProgram) (self : Value) (holder body kind params : ℕ) : Type 0 where
  pub live : IsLiveValue heap code self
  pub there : IsSome (slice_get code.bodies body)
  pub fits : ForSome (slice_get code.bodies body) (λ (b : BodyCode). FitsBody heap code b self holder)
  pub kind_is : kind_of code body ≡ kind
  pub params_are : parameters_of code body ≡ params

pub body_runs :
    (heap : Heap) (code : CodeProgram) (self : Value) (holder number kind side class params : ℕ) (has : IsBody code number kind side class params) →
    IsLiveValue heap code self → FitsBody heap code has.body self holder → BodyRuns heap code self holder number kind params
body_runs heap code self holder number kind side class params has live fits = record {
  live = live;
  there = rw (has.body_is) refl;
  fits = λ b e. let both : Some has.body ≡ Some b = sym has.body_is ∙ e in let same : has.body ≡ b = cc in subst (λ x. FitsBody heap code x self holder) same fits;
  kind_is = ap (λ o. option_map_or (λ (b : BodyCode). b.kind) o clause_kind) has.body_is ∙ has.kind_is;
  params_are = ap (λ o. option_map_or (λ (b : BodyCode). b.params) o 0) has.body_is ∙ has.params_are;
}

-- What is found for a selector can run with a receiver as its self, and takes as many arguments.
abbrev pub Runs : Heap → CodeProgram → Value → ℕ → Found → Type 0
Runs heap code self sel (found.Method body holder) = BodyRuns heap code self holder body method_kind (selector_arity code sel)
Runs heap code self sel (found.Factory class) = IsInitialiserOf heap code class (selector_arity code sel)
Runs heap code self sel other = Unit {0}

pub instance_fits : (heap : Heap) (code : CodeProgram) (at holder : ℕ) (body : BodyCode) → is_class (find_cell heap holder) ≡ true →
    body.class ≡ declaration_of heap holder → body.side ≡ instance_side → HasHolder heap (value.Ref at) holder →
    FitsBody heap code body (value.Ref at) holder
instance_fits heap code at holder body is class side has =
    (is, sym class, λ s. has, λ s. absurd (let q : 0 ≡ 1 = sym side ∙ s in omega (arith, q)))

class_fits : (heap : Heap) (code : CodeProgram) (at holder : ℕ) (body : BodyCode) → is_class (find_cell heap holder) ≡ true →
    body.class ≡ declaration_of heap holder → body.side ≡ class_side → is_class (find_cell heap at) ≡ true →
    Contains (chain_of heap at) holder
    → FitsBody heap code body (value.Ref at) holder
class_fits heap code at holder body is class side self has =
    (is, sym class, λ s. absurd (let q : 0 ≡ 1 = sym s ∙ side in omega (arith, q)), λ s. (self, has))

-- ---- by the chain in which it is found

pub instance_runs : (heap : Heap) (code : CodeProgram) (at : ℕ) (chain : List ℕ) (sel : ℕ) (f : Found) →
    IsLiveValue heap code (value.Ref at) →
    ((holder : ℕ) → Contains chain holder → HasHolder heap (value.Ref at) holder × (is_class (find_cell heap holder) ≡ true))
    → Belongs heap code InstanceSide chain [] f → TakesArguments heap code InstanceSide sel f → Runs heap code (value.Ref at) sel f
instance_runs heap code at chain sel (found.Method body holder) live among b t =
    let h = among holder b.0 in
    body_runs heap code (value.Ref at) holder body method_kind instance_side (declaration_of heap holder) _ t live (instance_fits heap code at holder t.body h.1 t.class_is t.side_is h.0)
instance_runs heap code at chain sel (found.Getter holder word) live among b t = tt
instance_runs heap code at chain sel (found.Setter holder word) live among b t = tt
instance_runs heap code at chain sel (found.Nested class holder) live among b t = tt
instance_runs heap code at chain sel (found.Factory class) live among b t = t
instance_runs heap code at chain sel (found.Kernel number) live among b t = tt
instance_runs heap code at chain sel found.NotPublic live among b t = tt
instance_runs heap code at chain sel found.Absent live among b t = tt

pub side_runs : (heap : Heap) (code : CodeProgram) (at : ℕ) (chain factories : List ℕ) (sel : ℕ) (f : Found) →
    IsLiveValue heap code (value.Ref at) → is_class (find_cell heap at) ≡ true
    → ((holder : ℕ) → Contains chain holder → Contains (chain_of heap at) holder × (is_class (find_cell heap holder) ≡ true)) → Belongs heap code ClassSide chain factories f → TakesArguments heap code ClassSide sel f → Runs heap code (value.Ref at) sel f
side_runs heap code at chain factories sel (found.Method body holder) live self among b t =
    let h = among holder b.0 in
    body_runs heap code (value.Ref at) holder body method_kind class_side (declaration_of heap holder) _ t live (class_fits heap code at holder t.body h.1 t.class_is t.side_is self h.0)
side_runs heap code at chain factories sel (found.Getter holder word) live self among b t = tt
side_runs heap code at chain factories sel (found.Setter holder word) live self among b t = tt
side_runs heap code at chain factories sel (found.Nested class holder) live self among b t = tt
side_runs heap code at chain factories sel (found.Factory class) live self among b t = t
side_runs heap code at chain factories sel (found.Kernel number) live self among b t = tt
side_runs heap code at chain factories sel found.NotPublic live self among b t = tt
side_runs heap code at chain factories sel found.Absent live self among b t = tt

-- rows of the kernel are no methods
none_runs : (heap : Heap) (code : CodeProgram) (receiver : Value) (sel : ℕ) (f : Found) → Belongs heap code InstanceSide [] [] f →
    Runs heap code receiver sel f
none_runs heap code receiver sel (found.Method body holder) b = absurd (no_holder holder b.0)
none_runs heap code receiver sel (found.Getter holder word) b = tt
none_runs heap code receiver sel (found.Setter holder word) b = tt
none_runs heap code receiver sel (found.Nested class holder) b = tt
none_runs heap code receiver sel (found.Factory class) b = absurd (no_holder class b)
none_runs heap code receiver sel (found.Kernel number) b = tt
none_runs heap code receiver sel found.NotPublic b = tt
none_runs heap code receiver sel found.Absent b = tt

row_runs : (heap : Heap) (code : CodeProgram) (receiver : Value) (r : KernelRow) (sel : ℕ) (kind : Sending) →
    Runs heap code receiver sel (found_from heap code (start.Kernel r) sel kind)
row_runs heap code receiver r sel kind =
    none_runs heap code receiver sel (found_from heap code (start.Kernel r) sel kind) (kernel_belongs heap code InstanceSide r sel kind)

-- ---- sends to a value

pub found_runs : (world : World) (code : CodeProgram) (receiver : Value) (sel : ℕ) (kind : Sending) → IsLawful world code →
    IsLiveValue world.cells code receiver →
    Runs world.cells code receiver sel (found_from world.cells code (start_of world.cells receiver) sel kind)
found_runs world code (value.Ref at) sel kind lawful live = cell (find_cell world.cells at) refl
  where
    runs : Start → Type 0
    runs from = Runs world.cells code (value.Ref at) sel (found_from world.cells code from sel kind)

    cell : (o : Option Cell) → find_cell world.cells at ≡ o → runs (start_of_cell (option_map_or shape_of o (new.Mirror value.Nil)) at)
    cell None e = row_runs world.cells code (value.Ref at) row.Mirror sel kind
    cell (Some (ObjectCell class entries)) e =
        let object = (lawful.cells at (ObjectCell class entries) e).0 in
        instance_runs world.cells code at (chain_of world.cells class) sel (found_from world.cells code (start.Instance class) sel kind) live
        (object_holders world code at class lawful (ap class_of_object e) object.class_is) (instance_belongs world.cells code class sel kind)
        ((found_by world.cells code (start.Instance class) sel kind).takes lawful.classes)
    cell (Some (ClassCell decl base encl holder over)) e =
        let is : is_class (find_cell world.cells at) ≡ true = ap is_class e in
        let from : is_chain_start world.cells at ≡ true = rw is refl in
        side_runs world.cells code at (chain_of world.cells at) (at ∷ []) sel (found_from world.cells code (start.ClassSide at true) sel kind) live is
        (λ other (k, inside, same). ((k, inside, same), class_in_chain world.cells k at other (lawful_order world code lawful) from inside same)) (class_belongs world.cells code at true sel kind)
        ((found_by world.cells code (start.ClassSide at true) sel kind).takes lawful.classes)
    cell (Some (BlockCell body env home receiver holder)) e = row_runs world.cells code (value.Ref at) row.Block sel kind
    cell (Some (EnvironmentCell parent locals)) e = row_runs world.cells code (value.Ref at) row.Object sel kind
    cell (Some (ArrayCell items)) e = row_runs world.cells code (value.Ref at) row.Array sel kind
    cell (Some (TextCell bytes)) e = row_runs world.cells code (value.Ref at) row.String sel kind
    cell (Some (FacetCell kind')) e = row_runs world.cells code (value.Ref at) (facet_row kind') sel kind
    cell (Some (MirrorCell shown)) e = row_runs world.cells code (value.Ref at) row.Mirror sel kind
    cell (Some (MessageCell name args)) e = row_runs world.cells code (value.Ref at) row.Message sel kind
found_runs world code value.Nil sel kind lawful live = row_runs world.cells code value.Nil row.UndefinedObject sel kind
found_runs world code value.True sel kind lawful live = row_runs world.cells code value.True row.Boolean sel kind
found_runs world code value.False sel kind lawful live = row_runs world.cells code value.False row.Boolean sel kind
found_runs world code (value.Int number) sel kind lawful live = row_runs world.cells code (value.Int number) row.Integer sel kind
found_runs world code (value.Sym name) sel kind lawful live = row_runs world.cells code (value.Sym name) row.Symbol sel kind
found_runs world code (value.Kernel class) sel kind lawful live =
    row_runs world.cells code (value.Kernel class) (kernel_class_row class) sel kind
