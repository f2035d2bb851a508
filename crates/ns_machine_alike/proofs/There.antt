-- What is reached is there, and so is what a lawful cell holds.
use Rattle.std.proofs.Common.{◌≡◌, ◌⊎◌, inl, inr, ℕ, zero, suc, ◌+◌, ◌<◌, ◌≤◌, List, [], ◌∷◌, slice_get, Option, Some, None, Bool, true, false, cond, refl, sym, ap, ◌∙◌, subst, arith}
use Rattle.std.specs.Prelude.{IsSome, is_some, All, ◌==◌, ◌||◌}
use Rattle.std.proofs.lemmas.Bool.{eqb-true}
use Rattle.std.proofs.lemmas.Option.{slice_get_within, get_or_from_slice_get}
use Rattle.ns_base.specs.declared.selector.Sel.{Sel}
use Rattle.ns_code.specs.declared.program.CodeProgram.{CodeProgram}
use Rattle.ns_code.specs.declared.body.BodyCode.{BodyCode}
use Rattle.ns_code.specs.declared.class.ClassCode.{ClassCode}
use Rattle.ns_code.specs.Fits.{Fits, BodyFits}
use Rattle.ns_world.specs.declared.value.Value.{Value}
use Rattle.ns_world.specs.declared.value.Value.TheVariants.{Nil, True, False, Int, Sym, Kernel, Ref}
use Rattle.ns_world.specs.Cell.{Cell, ObjectCell, ClassCell, BlockCell, EnvironmentCell, ArrayCell, TextCell, FacetCell, MirrorCell, MessageCell}
use Rattle.ns_world.specs.Heap.{Heap, heap_size, find_cell, is_class, is_superclass, no_class}
use Rattle.ns_world.specs.Seek.{first_such, earlier_or}
use Rattle.ns_world.specs.Reach.{IsInReach, IsRoot, IsHeld, held}
use Rattle.ns_world.specs.World.{World}
use Rattle.ns_world.specs.Lawful.{IsLive, IsLiveValue, is_environment, IsEnvironmentOrNil, class_of_object, HasHolder, HasEnclosing, ClassIsLawful, FitsBody, environment_in, FitsEnvironment, BlockIsLawful, HasArguments, MessageIsLawful, CellIsLawful, IsLawful}
use Rattle.ns_world.specs.laws.Changing.{found_new, found_old}
use Rattle.ns_world.specs.laws.Chains.{found_below, linked}
use Rattle.ns_kdata.specs.Arguments.{CellIsThere}
use Rattle.ns_machine_reach.specs.Within.{CellIn}
use Rattle.ns_machine_reach.specs.Reached.{InReach}
use Rattle.ns_machine_reach.specs.laws.Holding.{AllHave, each_has, cell_from}

-- ---- what is reached is there

pub reach_there : (heap : Heap) (roots : List ℕ) (n : ℕ) → IsInReach heap roots n → IsSome (find_cell heap n)
reach_there heap roots n (IsRoot number among some) = some
reach_there heap roots n (IsHeld from number cell before is among some) = some

pub there_below : (heap : Heap) (n : ℕ) → IsSome (find_cell heap n) → n < heap_size heap
there_below heap n some = by (find_cell heap n) refl some
  where
    by : (o : Option Cell) → find_cell heap n ≡ o → IsSome o → n < heap_size heap
    by None e s = absurd (cc (s))
    by (Some cell) e s = found_below heap n cell e

no_class_out : (heap : Heap) (roots : List ℕ) → heap_size heap ≤ no_class → InReach heap roots no_class
no_class_out heap roots small some = absurd (omega (arith, there_below heap no_class some))

-- what a reached cell holds is reached, as far as it is there
pub reach_cell : (heap : Heap) (roots : List ℕ) (n : ℕ) (cell : Cell) → heap_size heap ≤ no_class → IsInReach heap roots n →
    find_cell heap n ≡ Some cell → CellIn (InReach heap roots) heap cell
reach_cell heap roots n cell small reached e =
    cell_from (InReach heap roots) heap cell (no_class_out heap roots small) (each_has (InReach heap roots) (held heap cell) (λ m among some. IsHeld n m cell reached e among some))

pub roots_reached : (heap : Heap) (roots : List ℕ) → AllHave (InReach heap roots) roots
roots_reached heap roots = each_has (InReach heap roots) roots (λ m among some. IsRoot m among some)

-- ---- what a lawful cell holds is there

abbrev pub AllThere : Heap → List Value → Type 0
AllThere heap [] = Unit {0}
AllThere heap (value ∷ values) = CellIsThere heap value × AllThere heap values

-- a class is there, or it is no class
abbrev pub ClassThere : Heap → ℕ → Type 0
ClassThere heap class = IsSome (find_cell heap class) ⊎ (class ≡ no_class)

abbrev pub CellThere : Heap → Cell → Type 0
CellThere heap (ObjectCell class entries) = ClassThere heap class × AllThere heap entries
CellThere heap (ClassCell decl base encl holder over) = CellIsThere heap encl × CellIsThere heap holder × CellIsThere heap over
CellThere heap (BlockCell body env home receiver holder) = CellIsThere heap env × CellIsThere heap receiver × ClassThere heap holder
CellThere heap (EnvironmentCell parent locals) = CellIsThere heap parent × AllThere heap locals
CellThere heap (ArrayCell items) = AllThere heap items
CellThere heap (TextCell bytes) = Unit {0}
CellThere heap (FacetCell kind) = Unit {0}
CellThere heap (MirrorCell mirrored) = CellIsThere heap mirrored
CellThere heap (MessageCell sel args) = CellIsThere heap args

pub live_there : (heap : Heap) (code : CodeProgram) (value : Value) → IsLive heap code value → CellIsThere heap value
live_there heap code (Ref at) h = h
live_there heap code Nil h = tt
live_there heap code True h = tt
live_there heap code False h = tt
live_there heap code (Int number) h = tt
live_there heap code (Sym sel) h = tt
live_there heap code (Kernel class) h = tt

pub all_live_there : (heap : Heap) (code : CodeProgram) (values : List Value) → All (IsLiveValue heap code) values → AllThere heap values
all_live_there heap code [] all = tt
all_live_there heap code (value ∷ values) all = (
  live_there heap code value (all 0 value (omega arith)).0,
  all_live_there heap code values (λ k d inside. all (suc k) d (omega (arith, inside))),
)

class_there : (heap : Heap) (class : ℕ) → is_class (find_cell heap class) ≡ true → IsSome (find_cell heap class)
class_there heap class e = by (find_cell heap class) e
  where
    by : (o : Option Cell) → is_class o ≡ true → IsSome o
    by None e = absurd (cc (e))
    by (Some cell) e = refl

object_there : (heap : Heap) (at : ℕ) → IsSome (class_of_object (find_cell heap at)) → IsSome (find_cell heap at)
object_there heap at s = by (find_cell heap at) s
  where
    by : (o : Option Cell) → IsSome (class_of_object o) → IsSome o
    by None s = absurd (cc (s))
    by (Some cell) s = refl

environment_there : (heap : Heap) (at : ℕ) → is_environment (find_cell heap at) ≡ true → IsSome (find_cell heap at)
environment_there heap at e = by (find_cell heap at) e
  where
    by : (o : Option Cell) → is_environment o ≡ true → IsSome o
    by None e = absurd (cc (e))
    by (Some cell) e = refl

environment_or_nil : (heap : Heap) (env : Value) → IsEnvironmentOrNil heap env → CellIsThere heap env
environment_or_nil heap (Ref at) h = environment_there heap at h
environment_or_nil heap Nil h = tt
environment_or_nil heap True h = tt
environment_or_nil heap False h = tt
environment_or_nil heap (Int number) h = tt
environment_or_nil heap (Sym sel) h = tt
environment_or_nil heap (Kernel class) h = tt

holder_there : (heap : Heap) (value : Value) (holder : ℕ) → HasHolder heap value holder → CellIsThere heap value
holder_there heap (Ref at) holder h = object_there heap at h.1
holder_there heap Nil holder h = tt
holder_there heap True holder h = tt
holder_there heap False holder h = tt
holder_there heap (Int number) holder h = tt
holder_there heap (Sym sel) holder h = tt
holder_there heap (Kernel class) holder h = tt

enclosing_there : (heap : Heap) (code : CodeProgram) (outer : Option ℕ) (encl holder : Value) → HasEnclosing heap code outer encl holder →
    CellIsThere heap encl × CellIsThere heap holder
enclosing_there heap code None encl holder h = (subst (CellIsThere heap) (sym h.0) tt, subst (CellIsThere heap) (sym h.1) tt)
enclosing_there heap code (Some outer) encl (Ref holder) h = (holder_there heap encl holder h.0, class_there heap holder h.1)
enclosing_there heap code (Some outer) encl Nil h = absurd h
enclosing_there heap code (Some outer) encl True h = absurd h
enclosing_there heap code (Some outer) encl False h = absurd h
enclosing_there heap code (Some outer) encl (Int number) h = absurd h
enclosing_there heap code (Some outer) encl (Sym sel) h = absurd h
enclosing_there heap code (Some outer) encl (Kernel class) h = absurd h

superclass_there : (heap : Heap) (over : Value) → is_superclass heap over ≡ true → CellIsThere heap over
superclass_there heap (Ref class) e = class_there heap class e
superclass_there heap Nil e = tt
superclass_there heap True e = tt
superclass_there heap False e = tt
superclass_there heap (Int number) e = tt
superclass_there heap (Sym sel) e = tt
superclass_there heap (Kernel class) e = tt

class_or_none : (b c : Bool) → (b || c) ≡ true → (b ≡ true) ⊎ (c ≡ true)
class_or_none true c e = inl refl
class_or_none false c e = inr e

-- a side is one of two
body_side : (code : CodeProgram) (number : ℕ) (body : BodyCode) → Fits code → slice_get code.bodies number ≡ Some body → body.side ≤ 1
body_side code number body fits e =
    let within = slice_get_within code.bodies number body e in
    let has : BodyFits code body = subst (BodyFits code) (get_or_from_slice_get code.bodies number body body e) (fits.bodies number body within) in
    has.side

body_self_there : (heap : Heap) (code : CodeProgram) (number : ℕ) (body : BodyCode) (self : Value) (holder : ℕ) → Fits code →
    slice_get code.bodies number ≡ Some body → FitsBody heap code body self holder
    → CellIsThere heap self × IsSome (find_cell heap holder)
body_self_there heap code number body (Ref at) holder fits e f =
    (sided body.side refl (body_side code number body fits e), class_there heap holder f.0)
  where
    sided : (side : ℕ) → body.side ≡ side → side ≤ 1 → IsSome (find_cell heap at)
    sided zero s h = object_there heap at (f.2 s).1
    sided (suc zero) s h = class_there heap at (f.3 s).0
    sided (suc (suc n)) s h = absurd (omega (arith, h))
body_self_there heap code number body Nil holder fits e f = absurd f
body_self_there heap code number body True holder fits e f = absurd f
body_self_there heap code number body False holder fits e f = absurd f
body_self_there heap code number body (Int n) holder fits e f = absurd f
body_self_there heap code number body (Sym sel) holder fits e f = absurd f
body_self_there heap code number body (Kernel class) holder fits e f = absurd f

body_env_there : (depth : ℕ) (heap : Heap) (code : CodeProgram) (parent : Option ℕ) (env : Value) →
    FitsEnvironment depth heap code parent env → CellIsThere heap env
body_env_there depth heap code None env f = subst (CellIsThere heap) (sym f) tt
body_env_there zero heap code (Some body) env f = absurd f
body_env_there (suc depth) heap code (Some body) (Ref at) f = by (find_cell heap at) f.1
  where
    by : (o : Option Cell) → IsSome (environment_in o) → IsSome o
    by None s = absurd (cc (s))
    by (Some cell) s = refl
body_env_there (suc depth) heap code (Some body) Nil f = tt
body_env_there (suc depth) heap code (Some body) True f = tt
body_env_there (suc depth) heap code (Some body) False f = tt
body_env_there (suc depth) heap code (Some body) (Int n) f = tt
body_env_there (suc depth) heap code (Some body) (Sym sel) f = tt
body_env_there (suc depth) heap code (Some body) (Kernel class) f = tt

block_there : (heap : Heap) (code : CodeProgram) (number : ℕ) (env receiver : Value) (holder : ℕ) → Fits code →
    BlockIsLawful heap code number env receiver holder → CellIsThere heap env × CellIsThere heap receiver × ClassThere heap holder
block_there heap code number env receiver holder fits block = by (slice_get code.bodies number) refl block.declared
  where
    by : (o : Option BodyCode) → slice_get code.bodies number ≡ o → IsSome o → CellIsThere heap env × CellIsThere heap receiver × ClassThere heap holder
    by None e s = absurd (cc (s))
    by (Some body) e s =
        let self = body_self_there heap code number body receiver holder fits e (block.fits body e) in
        (body_env_there (number + 1) heap code body.parent env (block.environment body e), self.0, inl self.1)

message_there : (heap : Heap) (code : CodeProgram) (sel : Sel) (args : Value) → MessageIsLawful heap code sel args → CellIsThere heap args
message_there heap code sel (Ref at) h = by (find_cell heap at) h.1
  where
    by : (o : Option Cell) → HasArguments code sel o → IsSome o
    by None a = absurd a
    by (Some cell) a = refl
message_there heap code sel Nil h = tt
message_there heap code sel True h = tt
message_there heap code sel False h = tt
message_there heap code sel (Int n) h = tt
message_there heap code sel (Sym name) h = tt
message_there heap code sel (Kernel class) h = tt

pub cell_there : (world : World) (code : CodeProgram) (number : ℕ) (cell : Cell) → IsLawful world code →
    find_cell world.cells number ≡ Some cell → CellThere world.cells cell
cell_there world code number (ObjectCell class entries) lawful e =
    let l : CellIsLawful world.cells code number (ObjectCell class entries) = lawful.cells number (ObjectCell class entries) e in
    (by (class_or_none (is_class (find_cell world.cells class)) (class == no_class) l.0.class_is), all_live_there world.cells code entries l.1)
  where
    by : ((is_class (find_cell world.cells class) ≡ true) ⊎ ((class == no_class) ≡ true)) → ClassThere world.cells class
    by (inl c) = inl (class_there world.cells class c)
    by (inr c) = inr (eqb-true class no_class c)
cell_there world code number (ClassCell decl base encl holder over) lawful e =
    let l : CellIsLawful world.cells code number (ClassCell decl base encl holder over) = lawful.cells number (ClassCell decl base encl holder over) e in
    let around = by (slice_get code.classes decl) refl l in
    (around.0, around.1, superclass_there world.cells over (linked world.cells number decl base encl holder over lawful.ordered e).superclass)
  where
    by : (o : Option ClassCode) → slice_get code.classes decl ≡ o → ClassIsLawful world.cells code number decl base encl holder → CellIsThere world.cells encl × CellIsThere world.cells holder
    by None q l = absurd (let s : is_some (slice_get code.classes decl) ≡ true = l.declared in let n : is_some (slice_get code.classes decl) ≡ false = ap is_some q in cc)
    by (Some class) q l = enclosing_there world.cells code class.outer encl holder (l.enclosing class q)
cell_there world code number (BlockCell body env home receiver holder) lawful e =
    block_there world.cells code body env receiver holder lawful.fits (lawful.cells number (BlockCell body env home receiver holder) e)
cell_there world code number (EnvironmentCell parent locals) lawful e =
    let l : CellIsLawful world.cells code number (EnvironmentCell parent locals) = lawful.cells number (EnvironmentCell parent locals) e in
    (environment_or_nil world.cells parent l.0, all_live_there world.cells code locals l.1)
cell_there world code number (ArrayCell items) lawful e = all_live_there world.cells code items (lawful.cells number (ArrayCell items) e)
cell_there world code number (TextCell bytes) lawful e = tt
cell_there world code number (FacetCell kind) lawful e = tt
cell_there world code number (MirrorCell mirrored) lawful e =
    let l : CellIsLawful world.cells code number (MirrorCell mirrored) = lawful.cells number (MirrorCell mirrored) e in live_there world.cells code mirrored l.0
cell_there world code number (MessageCell sel args) lawful e =
    message_there world.cells code sel args (lawful.cells number (MessageCell sel args) e)

-- a first cell is there
pub first_there : (test : Cell → Bool) (heap : Heap) (n : ℕ) → first_such test heap ≡ Some n → IsSome (find_cell heap n)
first_there test [] n e = absurd (cc (e))
first_there test (cell ∷ earlier) n e = by (λ j. first_there test earlier j) (first_such test earlier) refl (test cell) e
  where
    more : (k : ℕ) → IsSome (find_cell earlier k) → IsSome (find_cell (cell ∷ earlier) k)
    more k s = let below = there_below earlier k s in subst IsSome (sym (found_old earlier cell k (λ q. absurd (omega (arith, below, q))))) s

    by : ((j : ℕ) → first_such test earlier ≡ Some j → IsSome (find_cell earlier j)) → (o : Option ℕ) → first_such test earlier ≡ o → (b : Bool) → earlier_or o (cond b (Some (heap_size earlier)) None) ≡ Some n → IsSome (find_cell (cell ∷ earlier) n)
    by go (Some k) f b g = more n (go n (f ∙ g))
    by go None f true g = let is : heap_size earlier ≡ n = cc (g) in subst (λ k. IsSome (find_cell (cell ∷ earlier) k)) is (ap is_some (found_new earlier cell))
    by go None f false g = absurd (cc (g))
