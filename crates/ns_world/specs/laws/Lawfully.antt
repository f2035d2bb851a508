-- What is asked of a cell holds in each later heap.
use Rattle.std.proofs.Common.{◌≡◌, ℕ, zero, suc, ◌+◌, List, length, slice_get, refl, ap, sym, ◌∙◌, subst, arith, Option, Some, None, Contains, IsSome, is_some, true}
use Rattle.ns_base.specs.declared.selector.Sel.{Sel}
use Rattle.ns_code.specs.declared.program.CodeProgram.{CodeProgram}
use Rattle.ns_code.specs.declared.body.BodyCode.{BodyCode}
use Rattle.ns_world.specs.declared.value.Value.{Value}
use Rattle.ns_world.specs.declared.value.Value.TheVariants.{Nil, True, False, Int, Sym, Kernel, Ref}
use Rattle.ns_world.specs.Cell.{Cell, ObjectCell, ClassCell, BlockCell, EnvironmentCell, ArrayCell, TextCell, FacetCell, MirrorCell, MessageCell}
use Rattle.ns_world.specs.Heap.{Heap, find_cell, is_class, is_chain_start, chain_of}
use Rattle.ns_world.specs.Layout.{declaration_of, entry_word}
use Rattle.ns_world.specs.Lawful.{ClassIsLawful, ObjectIsLawful, FitsBody, environment_in, FitsEnvironment, BlockIsLawful, HasArguments, MessageIsLawful, CellIsLawful}
use Rattle.ns_world.specs.Keeping.{KeepsWord}
use Rattle.ns_world.specs.laws.Classes.{class_stays, start_stays, class_in_chain, layout_stays, base_stays, word_stays}
use Rattle.ns_world.specs.laws.Twins.{TellsLocals, KeepsCells}
use Rattle.ns_world.specs.laws.Staying.{value_stays, values_stay, environment_stays, contained_stays, holder_stays, declared_stays, enclosing_stays, kept_stays}

-- What is known in an earlier heap of a holder in an object's chain.
pub record WasHolder (before after : Heap) (code : CodeProgram) (class holder : ℕ) : Type 0 where
  pub contained : Contains (chain_of before class) holder
  pub declared : declaration_of before holder ≡ declaration_of after holder
  pub words : (entry : ℕ) → entry_word before code holder entry ≡ entry_word after code holder entry

pub was_holder : (before after : Heap) (code : CodeProgram) (class holder : ℕ) → KeepsCells before after →
    is_chain_start before class ≡ true → Contains (chain_of after class) holder → WasHolder before after code class holder
was_holder before after code class holder k start h =
    let contained : Contains (chain_of before class) holder = subst (λ chain. Contains chain holder) (k.same.chains class start) h in
    let is : is_class (find_cell before holder) ≡ true = class_in_chain before contained.0 class holder k.order start contained.1 contained.2 in
    record {
      contained = contained;
      declared = sym (declared_stays before after holder k is);
      words = λ entry. sym (word_stays before after code holder entry k.order k.same is);
    }

-- what may come into a word may come there later
pub keeps_word_stays : (before after : Heap) (code : CodeProgram) (object class word : ℕ) (value : Value) → KeepsCells before after →
    is_chain_start before class ≡ true → KeepsWord before code object class word value → KeepsWord after code object class word value
keeps_word_stays before after code object class word value k start keeps = λ holder c declared d i nested n w.
    let was = was_holder before after code class holder k start c in
    kept_stays before after object holder nested.class value k
    (keeps holder was.contained declared (ap (slice_get code.classes) was.declared ∙ d) i nested n (was.words (length declared.slots + i) ∙ w))

object_lawful : (before after : Heap) (code : CodeProgram) (number class : ℕ) (entries : List Value) → KeepsCells before after →
    ObjectIsLawful before code number class entries → ObjectIsLawful after code number class entries
object_lawful before after code number class entries k l = record {
  class_is = start_stays before after class k.same l.class_is;
  words = l.words ∙ sym (layout_stays before after code class k.order k.same l.class_is);
  kept = λ holder c declared d i nested value n v.
      let was = was_holder before after code class holder k l.class_is c in
      kept_stays before after number holder nested.class value k
      (l.kept holder was.contained declared (ap (slice_get code.classes) was.declared ∙ d) i nested value n (ap (slice_get entries) (was.words (length declared.slots + i)) ∙ v));
}

class_lawful : (before after : Heap) (code : CodeProgram) (number decl base : ℕ) (encl holder : Value) → KeepsCells before after
    → is_class (find_cell before number) ≡ true → ClassIsLawful before code number decl base encl holder
    → ClassIsLawful after code number decl base encl holder
class_lawful before after code number decl base encl holder k is l =
    let start : is_chain_start before number ≡ true = rw is refl in
    record {
      declared = l.declared;
      based = l.based ∙ sym (base_stays before after code number k.order k.same is);
      short = omega (arith, l.short, ap length (k.same.chains number start));
      enclosing = λ class e. enclosing_stays before after code class.outer encl holder k (l.enclosing class e);
    }

-- A body that fits a value and a holder fits them where the cells are kept.
pub body_stays : (before after : Heap) (code : CodeProgram) (body : BodyCode) (value : Value) (holder : ℕ) → KeepsCells before after →
    FitsBody before code body value holder → FitsBody after code body value holder
body_stays before after code body (Ref self) holder k h = (
  class_stays before after holder k.same h.0,
  declared_stays before after holder k h.0 ∙ h.1,
  λ side. holder_stays before after (Ref self) holder k (h.2 side),
  λ side. (class_stays before after self k.same (h.3 side).0, contained_stays before after self holder k (h.3 side).1),
)
body_stays before after code body Nil holder k h = h
body_stays before after code body True holder k h = h
body_stays before after code body False holder k h = h
body_stays before after code body (Int number) holder k h = h
body_stays before after code body (Sym sel) holder k h = h
body_stays before after code body (Kernel class) holder k h = h

locals_stay : (before after : Heap) (at : ℕ) (e : Value × List Value) → KeepsCells before after →
    IsSome (environment_in (find_cell before at)) → environment_in (find_cell after at) ≡ Some e → TellsLocals (find_cell before at) e
locals_stay before after at e k h g = found (find_cell before at) refl h
  where
    found : (o : Option Cell) → find_cell before at ≡ o → IsSome (environment_in o) → TellsLocals (find_cell before at) e
    found None f h = absurd (cc)
    found (Some cell) f h =
        let s = k.cells at cell f in
        subst (λ o. TellsLocals o e) (sym f) (s.twins.locals e (ap environment_in (sym s.is) ∙ g))

has_locals_stays : (before after : Heap) (at : ℕ) → KeepsCells before after → IsSome (environment_in (find_cell before at)) →
    IsSome (environment_in (find_cell after at))
has_locals_stays before after at k h = found (find_cell before at) refl h
  where
    found : (o : Option Cell) → find_cell before at ≡ o → IsSome (environment_in o) → IsSome (environment_in (find_cell after at))
    found None e h = absurd (cc)
    found (Some cell) e h = let s = k.cells at cell e in ap (λ o. is_some (environment_in o)) s.is ∙ (s.twins.has_locals ∙ h)

-- an environment fits the body that it fitted
pub fits_stays : (depth : ℕ) (before after : Heap) (code : CodeProgram) (body : Option ℕ) (env : Value) → KeepsCells before after →
    FitsEnvironment depth before code body env → FitsEnvironment depth after code body env
fits_stays zero before after code None env k h = h
fits_stays zero before after code (Some body) env k h = h
fits_stays (suc depth) before after code None env k h = h
fits_stays (suc depth) before after code (Some body) (Ref at) k h = (
  λ e g b c.
      let t = locals_stay before after at e k h.1 g in
      let f = h.0 t.before t.is b c in
      (sym t.count ∙ f.0, subst (FitsEnvironment depth after code b.parent) t.parent (fits_stays depth before after code b.parent t.before.0 k f.1)),
  has_locals_stays before after at k h.1,
  h.2,
)
fits_stays (suc depth) before after code (Some body) Nil k h = h
fits_stays (suc depth) before after code (Some body) True k h = h
fits_stays (suc depth) before after code (Some body) False k h = h
fits_stays (suc depth) before after code (Some body) (Int number) k h = h
fits_stays (suc depth) before after code (Some body) (Sym sel) k h = h
fits_stays (suc depth) before after code (Some body) (Kernel class) k h = h

pub block_lawful : (before after : Heap) (code : CodeProgram) (number : ℕ) (env receiver : Value) (holder : ℕ) → KeepsCells before after →
    BlockIsLawful before code number env receiver holder → BlockIsLawful after code number env receiver holder
block_lawful before after code number env receiver holder k l = record {
  declared = l.declared;
  is_block = l.is_block;
  fits = λ body e. body_stays before after code body receiver holder k (l.fits body e);
  environment = λ (body : BodyCode) e. fits_stays (number + 1) before after code body.parent env k (l.environment body e);
}

pub message_lawful : (before after : Heap) (code : CodeProgram) (sel : Sel) (args : Value) → KeepsCells before after →
    MessageIsLawful before code sel args → MessageIsLawful after code sel args
message_lawful before after code sel (Ref at) k h = (h.0, found (find_cell before at) refl h.1)
  where
    found : (o : Option Cell) → find_cell before at ≡ o → HasArguments code sel o → HasArguments code sel (find_cell after at)
    found None e h = absurd h
    found (Some cell) e h = let s = k.cells at cell e in subst (HasArguments code sel) (sym s.is) (s.twins.arguments code sel h)
message_lawful before after code sel Nil k h = h
message_lawful before after code sel True k h = h
message_lawful before after code sel False k h = h
message_lawful before after code sel (Int number) k h = h
message_lawful before after code sel (Sym name) k h = h
message_lawful before after code sel (Kernel class) k h = h

-- a cell that was lawful is lawful later
pub cell_lawful : (before after : Heap) (code : CodeProgram) (number : ℕ) (cell : Cell) → KeepsCells before after →
    find_cell before number ≡ Some cell → CellIsLawful before code number cell → CellIsLawful after code number cell
cell_lawful before after code number (ObjectCell class entries) k e l =
    (object_lawful before after code number class entries k l.0, values_stay before after code entries k l.1)
cell_lawful before after code number (ClassCell decl base encl holder over) k e l =
    class_lawful before after code number decl base encl holder k (ap is_class e) l
cell_lawful before after code number (BlockCell body env home receiver holder) k e l =
    block_lawful before after code body env receiver holder k l
cell_lawful before after code number (EnvironmentCell parent locals) k e l =
    (environment_stays before after parent k l.0, values_stay before after code locals k l.1)
cell_lawful before after code number (ArrayCell items) k e l = values_stay before after code items k l
cell_lawful before after code number (TextCell bytes) k e l = l
cell_lawful before after code number (FacetCell kind) k e l = l
cell_lawful before after code number (MirrorCell mirrored) k e l = value_stays before after code mirrored k l
cell_lawful before after code number (MessageCell sel args) k e l = message_lawful before after code sel args k l
