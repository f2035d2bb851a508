-- Lookups from paired starts find the same members, of partners; and sites name the same classes.
use Rattle.std.proofs.Common.{◌≡◌, ℕ, ◌+◌, List, [], ◌∷◌, ◌++◌, Option, Some, None, Bool, false, cond, refl, ap, ◌∙◌, subst}
use Rattle.std.specs.Prelude.{◌==◌, ◌&&◌, is_none, is_some, unwrap_or, slice_get}
use Rattle.std.specs.Option.{option_map_or}
use Rattle.ns_base.specs.declared.place.Place.{Place as SourcePlace}
use Rattle.ns_base.specs.declared.selector.Sel.{Sel}
use Rattle.ns_code.specs.declared.program.CodeProgram.{CodeProgram}
use Rattle.ns_code.specs.declared.class.ClassCode.{ClassCode}
use Rattle.ns_code.specs.declared.class.SlotCode.{SlotCode}
use Rattle.ns_code.specs.declared.class.NestedCode.{NestedCode}
use Rattle.ns_code.specs.declared.class.MethodCode.{MethodCode}
use Rattle.ns_code.specs.Access.{public_access}
use Rattle.ns_world.specs.declared.value.Value.{Value}
use Rattle.ns_world.specs.declared.value.Value.TheVariants.{Nil, True, False, Int, Sym, Kernel, Ref}
use Rattle.ns_world.specs.declared.value.KClass.TheVariants as kernel_class
use Rattle.ns_world.specs.declared.kernel.Start.{Start}
use Rattle.ns_world.specs.declared.kernel.Start.TheVariants as start
use Rattle.ns_world.specs.declared.kernel_class.KernelRow.{KernelRow}
use Rattle.ns_world.specs.declared.kernel_class.KernelRow.TheVariants as row
use Rattle.ns_world.specs.declared.kernel.ClassName.TheVariants as name
use Rattle.ns_world.specs.declared.cell.FacetKind.{FacetKind}
use Rattle.ns_world.specs.declared.cell.FacetKind.TheVariants as facet
use Rattle.ns_world.specs.declared.cell.NewCell.TheVariants as new
use Rattle.ns_world.specs.Cell.{Cell, ObjectCell, ClassCell, BlockCell, EnvironmentCell, ArrayCell, TextCell, FacetCell, MirrorCell, MessageCell, shape_of}
use Rattle.ns_world.specs.Heap.{Heap, chain_of, superclass_of, no_class}
use Rattle.ns_world.specs.Seek.{first_such, is_facet, is_top}
use Rattle.ns_world.specs.Starts.{start_of, start_of_cell, facet_row, class_name_at, class_name_of}
use Rattle.ns_world.specs.Layout.{declaration_of}
use Rattle.ns_find.specs.declared.found.Found.{Found}
use Rattle.ns_find.specs.declared.found.Found.TheVariants as found
use Rattle.ns_find.specs.declared.found.Sending.{Sending}
use Rattle.ns_find.specs.declared.found.Sending.TheVariants.{Plain, Inner}
use Rattle.ns_find.specs.declared.members.Side.{Side}
use Rattle.ns_find.specs.declared.members.Side.TheVariants.{Instance as InstanceSide, Class as ClassSide}
use Rattle.ns_find.specs.declared.members.Wanted.{Wanted}
use Rattle.ns_find.specs.declared.members.Wanted.TheVariants.{Visible, Private}
use Rattle.ns_find.specs.Members.{Member, Numbered, is_named, allowed, search, slots_members, nested_members, method_members, side_members, holder_members, members_along, factory_member}
use Rattle.ns_world.specs.KernelTable.{Numbered as NumberedRow, rows_of}
use Rattle.ns_find.specs.Rows as rows
use Rattle.ns_find.specs.Find.{members_from, found_from, found_private, super_start}
use Rattle.ns_moves.specs.Suiting.{is_reference}
use Rattle.ns_moves.specs.Control.{Progress}
use Rattle.ns_moves.specs.Sends.{site_at}
use Rattle.ns_machine_alike.specs.Paired.{IsPairing, Paired, Partners, Same, NumberPaired, NumbersPaired, FacetPaired, MemberPaired, CellPaired, HeapPaired}
use Rattle.ns_machine_alike.proofs.Values.{cond_so}
use Rattle.ns_machine_alike.proofs.Keeping.{same_number}
use Rattle.ns_machine_alike.proofs.Reading.{cells_so, superclass_of_paired, same_declaration, same_entry}

module _ (Pair : ℕ → ℕ → Type 0) where
  -- ---- members

  -- Two members have the same name and access, are there both or not, and find the same.
  pub record Likes (member other : Member) : Type 0 where
    pub there : member.there ≡ other.there
    pub name : member.name ≡ other.name
    pub access : member.access ≡ other.access
    pub found : MemberPaired Pair member.found other.found

  abbrev AllLike : List Member → List Member → Type 0
  AllLike [] [] = Unit {0}
  AllLike [] (other ∷ others) = ⊥
  AllLike (member ∷ members) [] = ⊥
  AllLike (member ∷ members) (other ∷ others) = Likes member other × AllLike members others

  like_append : (xs ys xs' ys' : List Member) → AllLike xs xs' → AllLike ys ys' → AllLike (xs ++ ys) (xs' ++ ys')
  like_append [] ys [] ys' p q = q
  like_append (x ∷ xs) ys (x' ∷ xs') ys' p q = (p.0, like_append xs ys xs' ys' p.1 q)
  like_append [] ys (x' ∷ xs') ys' p q = absurd p
  like_append (x ∷ xs) ys [] ys' p q = absurd p

  -- what is allowed to be found
  allowed_paired : (kind : Sending) (access access' : ℕ) (f f' : Found) → access ≡ access' → MemberPaired Pair f f' → MemberPaired Pair (allowed kind access f) (allowed kind access' f')
  allowed_paired Plain access access' f f' e p = cond_so (MemberPaired Pair) (access == public_access) (access' == public_access) f found.NotPublic f' found.NotPublic (ap (λ a. a == public_access) e) (λ t. p) (λ t. tt)
  allowed_paired Inner access access' f f' e p = p

  search_paired : (code : CodeProgram) (sel : ℕ) (kind : Sending) (members others : List Member) → AllLike members others
      → MemberPaired Pair (unwrap_or (search code sel kind members) found.Absent) (unwrap_or (search code sel kind others) found.Absent)
  search_paired code sel kind [] [] p = tt
  search_paired code sel kind (member ∷ members) (other ∷ others) p =
      cond_so (λ o o'. MemberPaired Pair (unwrap_or o found.Absent) (unwrap_or o' found.Absent)) (is_named code sel member.name && member.there) (is_named code sel other.name && other.there)
      (Some (allowed kind member.access member.found)) (search code sel kind members) (Some (allowed kind other.access other.found)) (search code sel kind others)
      (ap (λ n. is_named code sel n && member.there) p.0.name ∙ ap (λ b. is_named code sel other.name && b) p.0.there)
      (λ t. allowed_paired kind member.access other.access member.found other.found p.0.access p.0.found) (λ t. search_paired code sel kind members others p.1)
  search_paired code sel kind [] (other ∷ others) p = absurd p
  search_paired code sel kind (member ∷ members) [] p = absurd p

  same_some : (o o' : Option ℕ) → NumberPaired Pair o o' → is_some o ≡ is_some o'
  same_some (Some n) (Some m) p = refl
  same_some None None p = refl
  same_some (Some n) None p = absurd p
  same_some None (Some m) p = absurd p

module _ (Pair : ℕ → ℕ → Type 0) (first second : Progress) (pairing : IsPairing Pair first.world second.world) where
  module _ (heap other : Heap) (h : HeapPaired Pair first second heap other) where
    -- ---- members of declarations

    slots_like : (code : CodeProgram) (wanted : Wanted) (holder holder' entry : ℕ) (slots : List SlotCode) → Pair holder holder' → AllLike Pair (slots_members heap code wanted holder entry slots) (slots_members other code wanted holder' entry slots)
    slots_like code wanted holder holder' entry [] p = tt
    slots_like code wanted holder holder' entry (slot ∷ slots) p =
        let word = same_entry Pair first second pairing heap other h code holder holder' entry p in
        (record { there = refl; name = refl; access = refl; found = (p, word) }, (record { there = refl; name = refl; access = refl; found = (p, word) }, slots_like code wanted holder holder' (entry + 1) slots p))

    nested_like : (wanted : Wanted) (holder holder' : ℕ) (nested : List NestedCode) → Pair holder holder' → AllLike Pair (nested_members wanted holder nested) (nested_members wanted holder' nested)
    nested_like wanted holder holder' [] p = tt
    nested_like wanted holder holder' (one ∷ nested) p = (record { there = refl; name = refl; access = refl; found = (refl, p) }, nested_like wanted holder holder' nested p)

    methods_like : (wanted : Wanted) (holder holder' : ℕ) (methods : List MethodCode) → Pair holder holder' → AllLike Pair (method_members wanted holder methods) (method_members wanted holder' methods)
    methods_like wanted holder holder' [] p = tt
    methods_like wanted holder holder' (one ∷ methods) p = (record { there = refl; name = refl; access = refl; found = (refl, p) }, methods_like wanted holder holder' methods p)

    side_like : (code : CodeProgram) (wanted : Wanted) (side : Side) (holder holder' : ℕ) (class : ClassCode) → Pair holder holder' → AllLike Pair (side_members heap code wanted side holder class) (side_members other code wanted side holder' class)
    side_like code wanted InstanceSide holder holder' class p =
        like_append Pair (slots_members heap code wanted holder 0 class.slots) (nested_members wanted holder class.nested ++ method_members wanted holder class.methods) (slots_members other code wanted holder' 0 class.slots)
        (nested_members wanted holder' class.nested ++ method_members wanted holder' class.methods) (slots_like code wanted holder holder' 0 class.slots p)
        (like_append Pair (nested_members wanted holder class.nested) (method_members wanted holder class.methods) (nested_members wanted holder' class.nested) (method_members wanted holder' class.methods)
        (nested_like wanted holder holder' class.nested p) (methods_like wanted holder holder' class.methods p))
    side_like code wanted ClassSide holder holder' class p = methods_like wanted holder holder' class.side_methods p

    holder_like : (code : CodeProgram) (wanted : Wanted) (side : Side) (holder holder' : ℕ) → Pair holder holder' → AllLike Pair (holder_members heap code wanted side holder) (holder_members other code wanted side holder')
    holder_like code wanted side holder holder' p =
        subst (λ decl. AllLike Pair (holder_members heap code wanted side holder) (option_map_or (side_members other code wanted side holder') (slice_get code.classes decl) [])) (same_declaration Pair first second pairing heap other h holder holder' p)
        (by (slice_get code.classes (declaration_of heap holder)))
      where
        by : (o : Option ClassCode) → AllLike Pair (option_map_or (side_members heap code wanted side holder) o []) (option_map_or (side_members other code wanted side holder') o [])
        by None = tt
        by (Some class) = side_like code wanted side holder holder' class p

    along_like : (code : CodeProgram) (side : Side) (ns ms : List ℕ) → NumbersPaired Pair ns ms → AllLike Pair (members_along heap code side ns) (members_along other code side ms)
    along_like code side [] [] p = tt
    along_like code side (n ∷ ns) (m ∷ ms) p =
        like_append Pair (holder_members heap code Visible side n) (members_along heap code side ns) (holder_members other code Visible side m) (members_along other code side ms) (holder_like code Visible side n m p.0) (along_like code side ns ms p.1)
    along_like code side [] (m ∷ ms) p = absurd p
    along_like code side (n ∷ ns) [] p = absurd p

    factory_like : (code : CodeProgram) (class class' : ℕ) (factory factory' : Bool) → Pair class class' → factory ≡ factory' → AllLike Pair (factory_member heap code class factory) (factory_member other code class' factory')
    factory_like code class class' factory factory' p e =
        subst (λ decl. AllLike Pair (factory_member heap code class factory) (option_map_or (λ (c : ClassCode). record { there = factory'; name = Numbered c.factory.0; access = public_access; found = found.Factory class' } ∷ []) (slice_get code.classes decl) []))
        (same_declaration Pair first second pairing heap other h class class' p) (by (slice_get code.classes (declaration_of heap class)))
      where
        by : (o : Option ClassCode) → AllLike Pair (option_map_or (λ (c : ClassCode). record { there = factory; name = Numbered c.factory.0; access = public_access; found = found.Factory class } ∷ []) o [])
            (option_map_or (λ (c : ClassCode). record { there = factory'; name = Numbered c.factory.0; access = public_access; found = found.Factory class' } ∷ []) o [])
        by None = tt
        by (Some c) = (record { there = e; name = refl; access = refl; found = p }, tt)

    -- ---- rows of the kernel

    -- what the rows of a facet read of the world
    abbrev RowReads : KernelRow → Type 0
    RowReads row.Manifest = FacetPaired Pair heap other facet.Manifest
    RowReads row.Platform = FacetPaired Pair heap other facet.Platform
    RowReads row.Object = Unit {0}
    RowReads row.ObjectClass = Unit {0}
    RowReads row.ArrayClass = Unit {0}
    RowReads row.Class = Unit {0}
    RowReads row.UndefinedObject = Unit {0}
    RowReads row.Boolean = Unit {0}
    RowReads row.Integer = Unit {0}
    RowReads row.String = Unit {0}
    RowReads row.Symbol = Unit {0}
    RowReads row.Array = Unit {0}
    RowReads row.Block = Unit {0}
    RowReads row.Kernel = Unit {0}
    RowReads row.Console = Unit {0}
    RowReads row.Board = Unit {0}
    RowReads row.Mirrors = Unit {0}
    RowReads row.Mirror = Unit {0}
    RowReads row.Message = Unit {0}

    tops_like : (number place : ℕ) (classes : List ClassCode) → FacetPaired Pair heap other facet.Manifest → AllLike Pair (rows.top_rows heap number place classes) (rows.top_rows other number place classes)
    tops_like number place [] p = tt
    tops_like number place (class ∷ classes) p =
        (record { there = ap (λ b. is_none class.outer && b) (same_some Pair (first_such (is_top place) heap) (first_such (is_top place) other) (p place)); name = refl; access = refl; found = refl }, tops_like number (place + 1) classes p)

    -- the first facet of a kind that a row answers, and the top-level classes where a row has no text
    abbrev AskedPaired : Option FacetKind → Type 0
    AskedPaired (Some kind) = NumberPaired Pair (first_such (is_facet kind) heap) (first_such (is_facet kind) other)
    AskedPaired None = Unit {0}

    abbrev NamesPaired : Option (List ℕ) → Type 0
    NamesPaired (Some text) = Unit {0}
    NamesPaired None = FacetPaired Pair heap other facet.Manifest

    abbrev AllRead : List NumberedRow → Type 0
    AllRead [] = Unit {0}
    AllRead (one ∷ more) = (AskedPaired (rows.facet_asked one.line.answer) × NamesPaired one.line.text) × AllRead more

    granted_like : (asked : Option FacetKind) → AskedPaired asked → rows.is_granted heap asked ≡ rows.is_granted other asked
    granted_like (Some kind) p = same_some Pair (first_such (is_facet kind) heap) (first_such (is_facet kind) other) p
    granted_like None p = refl

    row_like : (code : CodeProgram) (one : NumberedRow) (text : Option (List ℕ)) → AskedPaired (rows.facet_asked one.line.answer) → NamesPaired text → AllLike Pair (rows.called_by heap code one text) (rows.called_by other code one text)
    row_like code one (Some text) asked names = (record { there = granted_like (rows.facet_asked one.line.answer) asked; name = refl; access = refl; found = refl }, tt)
    row_like code one None asked names = tops_like one.number 0 code.classes names

    all_like : (code : CodeProgram) (all : List NumberedRow) → AllRead all → AllLike Pair (rows.rows_members heap code all) (rows.rows_members other code all)
    all_like code [] p = tt
    all_like code (one ∷ more) (p, q) =
        like_append Pair (rows.row_members heap code one) (rows.rows_members heap code more) (rows.row_members other code one) (rows.rows_members other code more)
        (row_like code one one.line.text p.0 p.1) (all_like code more q)

    reads : (named : KernelRow) → RowReads named → AllRead (rows_of named)
    reads row.Object p = ((tt, tt), ((tt, tt), ((tt, tt), ((tt, tt), ((tt, tt), ((tt, tt), tt))))))
    reads row.ObjectClass p = ((tt, tt), tt)
    reads row.ArrayClass p = ((tt, tt), tt)
    reads row.Class p = ((tt, tt), tt)
    reads row.UndefinedObject p = ((tt, tt), tt)
    reads row.Boolean p = ((tt, tt), ((tt, tt), ((tt, tt), ((tt, tt), ((tt, tt), ((tt, tt), ((tt, tt), ((tt, tt), ((tt, tt), ((tt, tt), tt))))))))))
    reads row.Integer p = ((tt, tt), ((tt, tt), ((tt, tt), ((tt, tt), ((tt, tt), ((tt, tt), ((tt, tt), ((tt, tt), ((tt, tt), ((tt, tt), ((tt, tt), ((tt, tt), ((tt, tt), ((tt, tt), ((tt, tt), ((tt, tt), ((tt, tt), tt)))))))))))))))))
    reads row.String p = ((tt, tt), ((tt, tt), ((tt, tt), ((tt, tt), ((tt, tt), ((tt, tt), ((tt, tt), tt)))))))
    reads row.Symbol p = ((tt, tt), ((tt, tt), ((tt, tt), ((tt, tt), tt))))
    reads row.Array p = ((tt, tt), ((tt, tt), ((tt, tt), ((tt, tt), tt))))
    reads row.Block p = ((tt, tt), ((tt, tt), ((tt, tt), ((tt, tt), ((tt, tt), ((tt, tt), ((tt, tt), ((tt, tt), tt))))))))
    reads row.Manifest p = ((tt, p), tt)
    reads row.Platform p = ((p facet.Console tt, tt), ((p facet.Kernel tt, tt), ((p facet.Mirrors tt, tt), ((p facet.Board tt, tt), tt))))
    reads row.Kernel p = ((tt, tt), ((tt, tt), tt))
    reads row.Console p = ((tt, tt), ((tt, tt), tt))
    reads row.Board p = ((tt, tt), ((tt, tt), tt))
    reads row.Mirrors p = ((tt, tt), tt)
    reads row.Mirror p = ((tt, tt), ((tt, tt), ((tt, tt), ((tt, tt), ((tt, tt), ((tt, tt), ((tt, tt), tt)))))))
    reads row.Message p = ((tt, tt), ((tt, tt), tt))

    kernel_like : (code : CodeProgram) (named : KernelRow) → RowReads named → AllLike Pair (rows.kernel_rows heap code named) (rows.kernel_rows other code named)
    kernel_like code named p = all_like code (rows_of named) (reads named p)

    -- ---- starts

    -- two lookups start at partners, or at one class of the kernel
    abbrev StartsAlike : Start → Start → Type 0
    StartsAlike (start.Instance class) (start.Instance class') = Pair class class'
    StartsAlike (start.ClassSide class factory) (start.ClassSide class' factory') = Pair class class' × (factory ≡ factory')
    StartsAlike (start.Kernel named) (start.Kernel named') = (named ≡ named') × RowReads named
    StartsAlike one two = ⊥

    facet_reads : (kind : FacetKind) → FacetPaired Pair heap other kind → RowReads (facet_row kind)
    facet_reads facet.Manifest p = p
    facet_reads facet.Platform p = p
    facet_reads facet.Console p = tt
    facet_reads facet.Mirrors p = tt
    facet_reads facet.Kernel p = tt
    facet_reads facet.Board p = tt

    cell_starts : (n m : ℕ) → Pair n m → (cell cell' : Cell) → CellPaired Pair first second heap other cell cell' → StartsAlike (start_of_cell (shape_of cell) n) (start_of_cell (shape_of cell') m)
    cell_starts n m p (ObjectCell class entries) (ObjectCell class' entries') q = q.0
    cell_starts n m p (ClassCell decl base encl holder over) (ClassCell decl' base' encl' holder' over') q = (p, refl)
    cell_starts n m p (BlockCell body env home receiver holder) (BlockCell body' env' home' receiver' holder') q = (refl, tt)
    cell_starts n m p (EnvironmentCell parent locals) (EnvironmentCell parent' locals') q = (refl, tt)
    cell_starts n m p (ArrayCell items) (ArrayCell items') q = (refl, tt)
    cell_starts n m p (TextCell bytes) (TextCell bytes') q = (refl, tt)
    cell_starts n m p (FacetCell kind) (FacetCell kind') q = (ap facet_row q.0, facet_reads kind q.1)
    cell_starts n m p (MirrorCell mirrored) (MirrorCell mirrored') q = (refl, tt)
    cell_starts n m p (MessageCell sel args) (MessageCell sel' args') q = (refl, tt)
    cell_starts n m p cell cell' q = absurd q

    value_starts : (value : Value) → is_reference value ≡ false → StartsAlike (start_of heap value) (start_of other value)
    value_starts Nil e = (refl, tt)
    value_starts True e = (refl, tt)
    value_starts False e = (refl, tt)
    value_starts (Int number) e = (refl, tt)
    value_starts (Sym sel) e = (refl, tt)
    value_starts (Kernel kernel_class.Object) e = (refl, tt)
    value_starts (Kernel kernel_class.Array) e = (refl, tt)
    value_starts (Ref at) e = absurd (cc (e))

    starts_alike : (value value' : Value) → Paired Pair value value' → StartsAlike (start_of heap value) (start_of other value')
    starts_alike value value' (Partners n m p) =
        cells_so Pair first second pairing heap other h StartsAlike (λ o. start_of_cell (option_map_or shape_of o (new.Mirror Nil)) n) (λ o. start_of_cell (option_map_or shape_of o (new.Mirror Nil)) m) n m p (refl, tt) (cell_starts n m p)
    starts_alike value value' (Same same e) = value_starts same e

    from_like : (code : CodeProgram) (one two : Start) → StartsAlike one two → AllLike Pair (members_from heap code one) (members_from other code two)
    from_like code (start.Instance class) (start.Instance class') s =
        like_append Pair (members_along heap code InstanceSide (chain_of heap class)) (rows.kernel_rows heap code row.Object) (members_along other code InstanceSide (chain_of other class')) (rows.kernel_rows other code row.Object)
        (along_like code InstanceSide (chain_of heap class) (chain_of other class') (h.chains class class' s)) (kernel_like code row.Object tt)
    from_like code (start.ClassSide class factory) (start.ClassSide class' factory') s =
        let behind : Heap → List Member = λ heap. rows.kernel_rows heap code row.Class ++ rows.kernel_rows heap code row.Object in
        like_append Pair (factory_member heap code class factory) (members_along heap code ClassSide (chain_of heap class) ++ behind heap) (factory_member other code class' factory')
        (members_along other code ClassSide (chain_of other class') ++ behind other) (factory_like code class class' factory factory' s.0 s.1)
        (like_append Pair (members_along heap code ClassSide (chain_of heap class)) (behind heap) (members_along other code ClassSide (chain_of other class')) (behind other)
        (along_like code ClassSide (chain_of heap class) (chain_of other class') (h.chains class class' s.0))
        (like_append Pair (rows.kernel_rows heap code row.Class) (rows.kernel_rows heap code row.Object) (rows.kernel_rows other code row.Class) (rows.kernel_rows other code row.Object)
        (kernel_like code row.Class tt) (kernel_like code row.Object tt)))
    from_like code (start.Kernel named) (start.Kernel named') s =
        subst (λ n. AllLike Pair (members_from heap code (start.Kernel named)) (members_from other code (start.Kernel n))) s.0
        (like_append Pair (rows.kernel_rows heap code named) (rows.kernel_rows heap code row.Object) (rows.kernel_rows other code named) (rows.kernel_rows other code row.Object) (kernel_like code named s.1) (kernel_like code row.Object tt))
    from_like code one two s = absurd s

    found_paired : (code : CodeProgram) (one two : Start) (sel : ℕ) (kind : Sending) → StartsAlike one two → MemberPaired Pair (found_from heap code one sel kind) (found_from other code two sel kind)
    found_paired code one two sel kind s = search_paired Pair code sel kind (members_from heap code one) (members_from other code two) (from_like code one two s)

    -- ---- what sends find

    -- what a send to a value, to super and to a private member finds
    pub found_value_paired : (code : CodeProgram) (receiver receiver' : Value) (sel : ℕ) (kind : Sending) → Paired Pair receiver receiver'
        → MemberPaired Pair (found_from heap code (start_of heap receiver) sel kind) (found_from other code (start_of other receiver') sel kind)
    found_value_paired code receiver receiver' sel kind p = found_paired code (start_of heap receiver) (start_of other receiver') sel kind (starts_alike receiver receiver' p)

    pub found_super_paired : (code : CodeProgram) (holder holder' : ℕ) (side : Side) (sel : ℕ) → Pair holder holder'
        → MemberPaired Pair (found_from heap code (super_start heap holder side) sel Inner) (found_from other code (super_start other holder' side) sel Inner)
    found_super_paired code holder holder' InstanceSide sel p =
        found_paired code (start.Instance (superclass_of heap holder)) (start.Instance (superclass_of other holder')) sel Inner (superclass_of_paired Pair first second pairing heap other h holder holder' p)
    found_super_paired code holder holder' ClassSide sel p =
        found_paired code (start.ClassSide (superclass_of heap holder) false) (start.ClassSide (superclass_of other holder') false) sel Inner (superclass_of_paired Pair first second pairing heap other h holder holder' p, refl)

    pub found_private_paired : (code : CodeProgram) (holder holder' : ℕ) (side : Side) (sel : ℕ) → Pair holder holder'
        → MemberPaired Pair (found_private heap code holder side sel) (found_private other code holder' side sel)
    found_private_paired code holder holder' side sel p =
        search_paired Pair code sel Inner (holder_members heap code Private side holder) (holder_members other code Private side holder') (holder_like code Private side holder holder' p)

    -- ---- sites

    same_name_at : (one two : Start) → StartsAlike one two → class_name_at heap one ≡ class_name_at other two
    same_name_at (start.Instance class) (start.Instance class') s =
        ap (λ b. cond b (name.Kernel row.Object) (name.Declared (declaration_of heap class))) (same_number Pair first second pairing class class' no_class no_class s pairing.none)
        ∙ ap (λ d. cond (class' == no_class) (name.Kernel row.Object) (name.Declared d)) (same_declaration Pair first second pairing heap other h class class' s)
    same_name_at (start.ClassSide class factory) (start.ClassSide class' factory') s = ap name.ClassOf (same_declaration Pair first second pairing heap other h class class' s.0)
    same_name_at (start.Kernel named) (start.Kernel named') s = ap name.Kernel s.0
    same_name_at one two s = absurd s

    -- the class of a value has one name
    pub same_name : (value value' : Value) → Paired Pair value value' → class_name_of heap value ≡ class_name_of other value'
    same_name value value' p = same_name_at (start_of heap value) (start_of other value') (starts_alike value value' p)

    -- the site of a send
    pub same_site : (place : Option SourcePlace) (receiver receiver' : Value) (sel : Sel) → Paired Pair receiver receiver' → site_at heap place receiver sel ≡ site_at other place receiver' sel
    same_site place receiver receiver' sel p = ap (λ c. record { place = place; class = c; sel = sel }) (same_name receiver receiver' p)
