-- A slot that is found stands inside of its object.
use Rattle.std.proofs.Common.{◌≡◌, ◌≢◌, ℕ, ◌+◌, ◌<◌, List, [], ◌∷◌, length, refl, ap, sym, ◌∙◌, arith, Option, Some, None, Bool, true, false, cond, eqb}
use Rattle.std.specs.Option.{option_map_or}
use Rattle.ns_base.specs.declared.selector.Sel.{Sel}
use Rattle.ns_code.specs.declared.program.CodeProgram.{CodeProgram}
use Rattle.ns_code.specs.declared.class.SlotCode.{SlotCode}
use Rattle.ns_world.specs.declared.value.Value.TheVariants.{Nil}
use Rattle.ns_world.specs.declared.cell.NewCell.TheVariants as new
use Rattle.ns_world.specs.Cell.{Cell, shape_of}
use Rattle.ns_world.specs.Heap.{chain_of, no_class}
use Rattle.ns_world.specs.World.{World}
use Rattle.ns_world.specs.Lawful.{IsLawful}
use Rattle.std.specs.Prelude.{is_none}
use Rattle.std.proofs.lemmas.Bool.{eq-eqb, true≢false}
use Rattle.ns_world.specs.laws.Above.{chain_none}
use Rattle.ns_classes.specs.laws.Bounds.{lawful_small}
use Rattle.ns_mirror.specs.declared.slots.Entry.{Entry}
use Rattle.ns_mirror.specs.declared.slots.SlotPlace.{SlotPlace}
use Rattle.ns_mirror.specs.Looking.{object_class_in}
use Rattle.ns_mirror.specs.Slots.{entry_of, slot_along}

pub entry_inside : (slots : List SlotCode) (sel : Sel) (first : ℕ) (entry : Entry) → entry_of slots sel first ≡ Some entry →
    entry.number < first + length slots
entry_inside [] sel first entry e = absurd (cc)
entry_inside (slot ∷ slots) sel first entry e = tested (eqb slot.name.0 sel.0) e (entry_inside slots sel (first + 1) entry)
  where
    tested : (b : Bool) → cond b (Some (record { number = first; mutable = slot.mutable })) (entry_of slots sel (first + 1)) ≡ Some entry → (entry_of slots sel (first + 1) ≡ Some entry → entry.number < (first + 1) + length slots) → entry.number < first + length (slot ∷ slots)
    tested true f below =
        let here : Entry = record { number = first; mutable = slot.mutable } in
        let is : here ≡ entry = cc in
        omega (arith, ap (λ (x : Entry). x.number) is)
    tested false f below = omega (arith, below f)

-- a lawful world is smaller than the number of no class, where there is no chain
no_chain : (world : World) (code : CodeProgram) → IsLawful world code → chain_of world.cells no_class ≡ []
no_chain world code lawful = chain_none world.cells no_class (lawful_small world code lawful) (eq-eqb no_class no_class refl)

abbrev pub class_of : Option Cell → ℕ
class_of o = object_class_in (option_map_or shape_of o (new.Mirror Nil))

pub no_slot : (world : World) (code : CodeProgram) (sel : Sel) (place : SlotPlace) → IsLawful world code →
    slot_along world.cells code (chain_of world.cells no_class) sel ≡ Some place → ⊥
no_slot world code sel place lawful f =
    let none : None ≡ Some place = ap (λ chain. slot_along world.cells code chain sel) (sym (no_chain world code lawful)) ∙ f in
    let e : true ≡ false = ap is_none none in
    true≢false e
