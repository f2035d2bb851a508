-- A lookup finds the same in two worlds with the same classes and the same rows.
use Rattle.std.proofs.Common.{◌≡◌, ℕ, ◌+◌, List, [], ◌∷◌, ◌++◌, length, slice_get, refl, ap, sym, ◌∙◌, arith, Option, Some, None, Bool, true, false, eqb, ◌||◌, ◌&&◌, is_some, is_none, unwrap_or}
use Rattle.std.specs.Option.{option_map_or}
use Rattle.std.proofs.lemmas.Bool.{eqb-true}
use Rattle.ns_code.specs.declared.program.CodeProgram.{CodeProgram}
use Rattle.ns_code.specs.declared.class.ClassCode.{ClassCode}
use Rattle.ns_code.specs.declared.class.SlotCode.{SlotCode}
use Rattle.ns_world.specs.declared.kernel_class.KernelRow.{KernelRow}
use Rattle.ns_world.specs.declared.kernel_class.KernelRow.TheVariants as row
use Rattle.ns_world.specs.declared.kernel.Start.{Start}
use Rattle.ns_world.specs.declared.kernel.Start.TheVariants as start
use Rattle.ns_world.specs.declared.cell.FacetKind.{FacetKind}
use Rattle.ns_world.specs.Heap.{Heap, find_cell, is_class, is_chain_start, chain_of, superclass_of, no_class}
use Rattle.ns_world.specs.World.{World}
use Rattle.ns_world.specs.Layout.{declaration_of, entry_word}
use Rattle.ns_world.specs.Lawful.{IsLawful}
use Rattle.ns_world.specs.Seek.{first_such, is_facet, is_top}
use Rattle.ns_world.specs.laws.Classes.{SameClasses, class_stays, declaration_stays, start_stays as chain_start_stays, started, word_stays, lawful_order}
use Rattle.ns_find.specs.declared.found.Found.TheVariants.{Getter, Setter, Factory, Absent, Kernel}
use Rattle.ns_find.specs.declared.found.Sending.{Sending}
use Rattle.ns_find.specs.declared.found.Sending.TheVariants.{Inner}
use Rattle.ns_find.specs.declared.members.Wanted.{Wanted}
use Rattle.ns_find.specs.declared.members.Wanted.TheVariants.{Visible, Private}
use Rattle.ns_find.specs.declared.members.Side.{Side}
use Rattle.ns_find.specs.declared.members.Side.TheVariants.{Instance, Class}
use Rattle.ns_find.specs.Members.{Member, Numbered, SetterOf, Spelled, search, is_wanted, slots_members, nested_members, method_members, side_members, holder_members, members_along, factory_member}
use Rattle.ns_code.specs.Access.{public_access}
use Rattle.ns_world.specs.KernelTable.{Numbered as NumberedRow, rows_of}
use Rattle.ns_find.specs.Rows.{facet_asked, is_granted, top_rows, called_by, row_members, rows_members, kernel_rows}
use Rattle.ns_find.specs.Find.{members_from, found_from, found_private, is_start}
use Rattle.ns_find.proofs.Outward.{KeepsShapes}

-- Each class, each chain and each row of one world is the same in another, and each cell has its shape there.
pub record SameRows (before after : Heap) : Type 0 where
  pub same : SameClasses before after
  pub facets : (kind : FacetKind) → first_such (is_facet kind) after ≡ first_such (is_facet kind) before
  pub tops : (decl : ℕ) → first_such (is_top decl) after ≡ first_such (is_top decl) before
  pub shapes : KeepsShapes before after

slots_stay : (before after : Heap) (code : CodeProgram) (wanted : Wanted) (holder : ℕ) →
    ((entry : ℕ) → entry_word after code holder entry ≡ entry_word before code holder entry) → (entry : ℕ) (slots : List SlotCode) →
    slots_members after code wanted holder entry slots ≡ slots_members before code wanted holder entry slots
slots_stay before after code wanted holder f entry [] = refl
slots_stay before after code wanted holder f entry (slot ∷ slots) =
    let at : ℕ → List Member = λ word.
    record { there = is_wanted wanted slot.access; name = Numbered slot.name.0; access = slot.access; found = Getter holder word }
    ∷ record { there = is_wanted wanted slot.access && slot.mutable; name = SetterOf slot.name.0; access = slot.access; found = Setter holder word } ∷ [] in
    ap (λ word. at word ++ slots_members after code wanted holder (entry + 1) slots) (f entry)
    ∙ ap (λ ms. at (entry_word before code holder entry) ++ ms) (slots_stay before after code wanted holder f (entry + 1) slots)

side_stays : (before after : Heap) (code : CodeProgram) (wanted : Wanted) (side : Side) (holder : ℕ) (class : ClassCode) →
    ((entry : ℕ) → entry_word after code holder entry ≡ entry_word before code holder entry) →
    side_members after code wanted side holder class ≡ side_members before code wanted side holder class
side_stays before after code wanted Instance holder class f =
    ap (λ ms. ms ++ (nested_members wanted holder class.nested ++ method_members wanted holder class.methods)) (slots_stay before after code wanted holder f 0 class.slots)
side_stays before after code wanted Class holder class f = refl

holder_stays : (w : World) (code : CodeProgram) (after : Heap) → IsLawful w code → SameRows w.cells after →
    (wanted : Wanted) (side : Side) (holder : ℕ) → is_class (find_cell w.cells holder) ≡ true →
    holder_members after code wanted side holder ≡ holder_members w.cells code wanted side holder
holder_stays w code after l same wanted side holder h =
    ap (λ n. option_map_or (side_members after code wanted side holder) (slice_get code.classes n) []) (declaration_stays w.cells after holder (same.same.classes holder h))
    ∙ declared (slice_get code.classes (declaration_of w.cells holder))
  where
    declared : (o : Option ClassCode) → option_map_or (side_members after code wanted side holder) o [] ≡ option_map_or (side_members w.cells code wanted side holder) o []
    declared None = refl
    declared (Some class) = side_stays w.cells after code wanted side holder class (λ entry. word_stays w.cells after code holder entry (lawful_order w code l) same.same h)

along_stays : (w : World) (code : CodeProgram) (after : Heap) → IsLawful w code → SameRows w.cells after →
    (side : Side) (chain : List ℕ) (class : ℕ) → chain_of w.cells class ≡ chain → is_chain_start w.cells class ≡ true →
    members_along after code side chain ≡ members_along w.cells code side chain
along_stays w code after l same side [] class c s = refl
along_stays w code after l same side (head ∷ rest) class c s =
    let f = started w.cells class 0 (lawful_order w code l) s (omega (arith, ap length c)) in
    let both : class ∷ chain_of w.cells (superclass_of w.cells class) ≡ head ∷ rest = sym f.0.chain ∙ c in
    let is : class ≡ head = cc in
    let up : chain_of w.cells (superclass_of w.cells class) ≡ rest = cc in
    let k : is_class (find_cell w.cells head) ≡ true = ap (λ n. is_class (find_cell w.cells n)) (sym is) ∙ f.1 in
    ap (λ ms. ms ++ members_along after code side rest) (holder_stays w code after l same Visible side head k)
    ∙ ap (λ ms. holder_members w.cells code Visible side head ++ ms) (along_stays w code after l same side rest (superclass_of w.cells class) up f.0.start)

chain_stays : (w : World) (code : CodeProgram) (after : Heap) → IsLawful w code → SameRows w.cells after → (side : Side) (class : ℕ) →
    is_chain_start w.cells class ≡ true →
    members_along after code side (chain_of after class) ≡ members_along w.cells code side (chain_of w.cells class)
chain_stays w code after l same side class s =
    ap (members_along after code side) (same.same.chains class s) ∙ along_stays w code after l same side (chain_of w.cells class) class refl s

tops_stay : (before after : Heap) → SameRows before after → (row n : ℕ) (classes : List ClassCode) →
    top_rows after row n classes ≡ top_rows before row n classes
tops_stay before after same row n [] = refl
tops_stay before after same row n (class ∷ classes) =
    let at : Option ℕ → Member = λ o. record { there = is_none class.outer && is_some o; name = Numbered class.name.0; access = public_access; found = Kernel row } in
    ap (λ o. at o ∷ top_rows after row (n + 1) classes) (same.tops n) ∙ ap (λ ms. at (first_such (is_top n) before) ∷ ms) (tops_stay before after same row (n + 1) classes)

granted_stays : (before after : Heap) → SameRows before after → (asked : Option FacetKind) →
    is_granted after asked ≡ is_granted before asked
granted_stays before after same (Some kind) = ap is_some (same.facets kind)
granted_stays before after same None = refl

row_stays : (before after : Heap) (code : CodeProgram) → SameRows before after → (row : NumberedRow) (text : Option (List ℕ)) →
    called_by after code row text ≡ called_by before code row text
row_stays before after code same row (Some text) =
    ap (λ there. record { there = there; name = Spelled text; access = row.line.access; found = Kernel row.number } ∷ []) (granted_stays before after same (facet_asked row.line.answer))
row_stays before after code same row None = tops_stay before after same row.number 0 code.classes

each_stays : (before after : Heap) (code : CodeProgram) → SameRows before after → (rows : List NumberedRow) →
    rows_members after code rows ≡ rows_members before code rows
each_stays before after code same [] = refl
each_stays before after code same (row ∷ rows) =
    ap (λ ms. ms ++ rows_members after code rows) (row_stays before after code same row row.line.text)
    ∙ ap (λ ms. row_members before code row ++ ms) (each_stays before after code same rows)

rows_stay : (before after : Heap) (code : CodeProgram) → SameRows before after → (kernel : KernelRow) →
    kernel_rows after code kernel ≡ kernel_rows before code kernel
rows_stay before after code same kernel = each_stays before after code same (rows_of kernel)

found_at_start : (w : World) (after : Heap) → SameRows w.cells after → (class : ℕ) → is_chain_start w.cells class ≡ true →
    find_cell after class ≡ find_cell w.cells class
found_at_start w after same class s = tested (is_class (find_cell w.cells class)) refl s
  where
    tested : (b : Bool) → is_class (find_cell w.cells class) ≡ b → (b || eqb class no_class) ≡ true → find_cell after class ≡ find_cell w.cells class
    tested true e s = same.same.classes class e
    tested false e s = let is : class ≡ no_class = eqb-true class no_class s in ap (find_cell after) is ∙ (same.same.none ∙ ap (find_cell w.cells) (sym is))

factory_stays : (w : World) (code : CodeProgram) (after : Heap) → SameRows w.cells after → (class : ℕ) (factory : Bool) →
    is_chain_start w.cells class ≡ true → factory_member after code class factory ≡ factory_member w.cells code class factory
factory_stays w code after same class factory s =
    ap (λ n. option_map_or (λ (c : ClassCode). record { there = factory; name = Numbered c.factory.0; access = public_access; found = Factory class } ∷ []) (slice_get code.classes n) [])
    (declaration_stays w.cells after class (found_at_start w after same class s))

-- a start with a factory is one without
chain_start : (heap : Heap) (class : ℕ) (factory : Bool) → is_start heap (start.ClassSide class factory) ≡ true →
    is_chain_start heap class ≡ true
chain_start heap class true s = rw s refl
chain_start heap class false s = s

members_stay : (w : World) (code : CodeProgram) (after : Heap) → IsLawful w code → SameRows w.cells after → (from : Start) →
    is_start w.cells from ≡ true → members_from after code from ≡ members_from w.cells code from
members_stay w code after l same (start.Instance class) s =
    ap (λ ms. ms ++ kernel_rows w.cells code row.Object) (chain_stays w code after l same Instance class s)
members_stay w code after l same (start.ClassSide class factory) s =
    let c : is_chain_start w.cells class ≡ true = chain_start w.cells class factory s in
    ap (λ ms. ms ++ (members_along after code Class (chain_of after class) ++ (kernel_rows after code row.Class ++ kernel_rows after code row.Object))) (factory_stays w code after same class factory c)
    ∙ ap (λ ms. factory_member w.cells code class factory ++ (ms ++ (kernel_rows w.cells code row.Class ++ kernel_rows w.cells code row.Object))) (chain_stays w code after l same Class class c)
members_stay w code after l same (start.Kernel named) s =
    ap (λ ms. ms ++ kernel_rows w.cells code row.Object) (rows_stay w.cells after code same named)

-- a lookup finds what it found
pub found_stays : (w : World) (code : CodeProgram) (after : Heap) → IsLawful w code → SameRows w.cells after →
    (from : Start) (sel : ℕ) (kind : Sending) → is_start w.cells from ≡ true →
    found_from after code from sel kind ≡ found_from w.cells code from sel kind
found_stays w code after l same from sel kind s =
    ap (λ ms. unwrap_or (search code sel kind ms) Absent) (members_stay w code after l same from s)

-- and so does one of a private member
pub private_stays : (w : World) (code : CodeProgram) (after : Heap) → IsLawful w code → SameRows w.cells after →
    (holder : ℕ) (side : Side) (sel : ℕ) → is_class (find_cell w.cells holder) ≡ true →
    found_private after code holder side sel ≡ found_private w.cells code holder side sel
private_stays w code after l same holder side sel is =
    ap (λ ms. unwrap_or (search code sel Inner ms) Absent) (holder_stays w code after l same Private side holder is)

-- a lookup can start where it could
pub start_stays : (before after : Heap) (from : Start) → SameRows before after → is_start before from ≡ true → is_start after from ≡ true
start_stays before after (start.Instance class) same s = chain_start_stays before after class same.same s
start_stays before after (start.ClassSide class true) same s = class_stays before after class same.same s
start_stays before after (start.ClassSide class false) same s = chain_start_stays before after class same.same s
start_stays before after (start.Kernel named) same s = refl
