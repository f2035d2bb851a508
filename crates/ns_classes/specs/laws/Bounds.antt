-- How many entries there can be.
use Rattle.std.proofs.Common.{◌≡◌, ℕ, ◌+◌, ◌*◌, ◌≤◌, List, [], ◌∷◌, length, slice_get, refl, ap, sym, ◌∙◌, arith, Option, Some, None, All, true, false, Bool, eqb}
use Rattle.std.specs.Option.{option_map_or}
use Rattle.std.proofs.Common.{get_or, unwrap_or, subst}
use Rattle.std.proofs.lemmas.Option.{slice_get_within, unwrap_or-slice_get}
use Rattle.std.proofs.lemmas.List.Elements.{All-get_or}
use Rattle.ns_code.specs.declared.program.CodeProgram.{CodeProgram}
use Rattle.ns_code.specs.declared.class.ClassCode.{ClassCode}
use Rattle.ns_code.specs.Fits.{Fits, ClassFits}
use Rattle.ns_world.specs.Cell.{Cell, ObjectCell, ClassCell, BlockCell, EnvironmentCell, ArrayCell, TextCell, FacetCell, MirrorCell, MessageCell}
use Rattle.ns_world.specs.Heap.{Heap, heap_size, find_cell, is_class, is_chain_start, chain_of, no_class}
use Rattle.ns_world.specs.World.{World}
use Rattle.ns_world.specs.Layout.{declaration_of, entries_of, entries_along, layout_of}
use Rattle.ns_world.specs.Lawful.{IsLawful}
use Rattle.ns_world.specs.laws.Above.{chain_none, class_of_start}
use Rattle.ns_world.specs.laws.Classes.{lawful_small as below_no_class}

class_fits : (classes : List ClassCode) (k : ℕ) (class : ClassCode) → All ClassFits classes → slice_get classes k ≡ Some class →
    ClassFits class
class_fits classes k class fits e =
    let is : get_or classes k class ≡ class = sym (unwrap_or-slice_get classes k class) ∙ ap (λ o. unwrap_or o class) e in
    subst ClassFits is (All-get_or ClassFits classes k class (slice_get_within classes k class e) fits)

-- a declaration adds few entries
pub entries_few : (code : CodeProgram) (decl : ℕ) → Fits code → entries_of code decl ≤ 131070
entries_few code decl fits = found (slice_get code.classes decl) refl
  where
    found : (o : Option ClassCode) → slice_get code.classes decl ≡ o → option_map_or (λ (class : ClassCode). length class.slots + length class.nested) o 0 ≤ 131070
    found None e = omega arith
    found (Some class) e = let f = class_fits code.classes decl class fits.classes e in omega (arith, f.slot_count, f.nested_count)

entries_along_few : (heap : Heap) (code : CodeProgram) (chain : List ℕ) → Fits code → entries_along heap code chain ≤ length chain * 131070
entries_along_few heap code [] fits = omega arith
entries_along_few heap code (class ∷ chain) fits =
    omega (arith, entries_along_few heap code chain fits, entries_few code (declaration_of heap class) fits)

-- in a lawful world the cells used are below the number of no class
pub lawful_small : (world : World) (code : CodeProgram) → IsLawful world code → heap_size world.cells ≤ no_class
lawful_small world code lawful = omega (arith, below_no_class world code lawful)

class_short : (world : World) (code : CodeProgram) (class : ℕ) → IsLawful world code → is_class (find_cell world.cells class) ≡ true →
    length (chain_of world.cells class) ≤ 256
class_short world code class lawful h = found (find_cell world.cells class) refl h
  where
    found : (o : Option Cell) → find_cell world.cells class ≡ o → is_class o ≡ true → length (chain_of world.cells class) ≤ 256
    found None e h = absurd (cc)
    found (Some (ClassCell decl base encl holder over)) e h = (lawful.cells class (ClassCell decl base encl holder over) e).short
    found (Some (ObjectCell class' entries)) e h = absurd (cc)
    found (Some (BlockCell body env home receiver holder)) e h = absurd (cc)
    found (Some (EnvironmentCell parent locals)) e h = absurd (cc)
    found (Some (ArrayCell items)) e h = absurd (cc)
    found (Some (TextCell bytes)) e h = absurd (cc)
    found (Some (FacetCell kind)) e h = absurd (cc)
    found (Some (MirrorCell mirrored)) e h = absurd (cc)
    found (Some (MessageCell sel args)) e h = absurd (cc)

-- a chain is at most 256 long
chain_short : (world : World) (code : CodeProgram) (class : ℕ) → IsLawful world code → is_chain_start world.cells class ≡ true →
    length (chain_of world.cells class) ≤ 256
chain_short world code class lawful s = tested (eqb class no_class) refl
  where
    tested : (b : Bool) → eqb class no_class ≡ b → length (chain_of world.cells class) ≤ 256
    tested true e = omega (arith, ap length (chain_none world.cells class (lawful_small world code lawful) e))
    tested false e = class_short world code class lawful (class_of_start world.cells class s (λ t. cc))

-- the entries of a chain are few
pub layout_few : (world : World) (code : CodeProgram) (class : ℕ) → IsLawful world code → is_chain_start world.cells class ≡ true →
    layout_of world.cells code class ≤ 33553920
layout_few world code class lawful s =
    omega (arith, entries_along_few world.cells code (chain_of world.cells class) lawful.fits, chain_short world code class lawful s)

-- one step down the chain takes the entries of its class
pub layout_step : (heap : Heap) (code : CodeProgram) (class next : ℕ) → chain_of heap class ≡ class ∷ chain_of heap next →
    layout_of heap code class ≡ entries_of code (declaration_of heap class) + layout_of heap code next
layout_step heap code class next e = ap (entries_along heap code) e

-- past the end of a chain there are no entries
pub layout_end : (heap : Heap) (code : CodeProgram) (class : ℕ) → chain_of heap class ≡ [] → layout_of heap code class ≡ 0
layout_end heap code class e = ap (entries_along heap code) e
