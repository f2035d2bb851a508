-- The formats of class records and of what they hold.
use Rattle.std.proofs.Common.{◌≡◌, ℕ, ◌-◌, ◌^◌, ◌<◌, ◌≤◌, List, [], ◌∷◌, length, All, refl, arith}
use Rattle.std.specs.List.{concat}
use Rattle.std.specs.Option.{ForSome}
use Rattle.std.proofs.lemmas.List.Folds.{concat-append}
use Rattle.ns_base.specs.declared.selector.Sel.{Sel}
use Rattle.ns_code.specs.declared.class.ClassCode.{ClassCode}
use Rattle.ns_code.specs.Fits.{IsByte, IsHalf, IsWord, IsAccess, SlotFits, NestedFits, MethodFits, ClassFits}
use Rattle.ns_image.specs.Bytes as b
use Rattle.ns_image.specs.Read.{Reader}
use Rattle.ns_image.specs.Reading as r
use Rattle.ns_image.specs.laws.Format.{Step, Any, Format, done, field, refit, rewrite, mapped}
use Rattle.ns_image.specs.laws.Fields.{byte_format, half_format, word_format, byte_up_to_format, word_up_to_format, reference_format, flag_format, times_format}

abbrev sel_of : ℕ → Sel
sel_of n = record { 0 = n }

pub selector_format : Format r.selector (λ s. IsWord s.0) (λ s. b.word s.0)
selector_format = mapped sel_of (λ s. s.0) (λ s. IsWord s.0) word_format (λ n lt. (refl, lt)) (λ s lt. (refl, lt))

access_format : Format r.access IsAccess b.byte
access_format = byte_up_to_format 2 (omega arith)

-- items behind their count of two bytes
counted_half_format : {A : Type 0} {item : Reader A} {Good : A → Type 0} {bytes_of : A → List ℕ} → Format item Good bytes_of →
    Format (r.counted_half item) (λ xs. IsHalf (length xs) × All Good xs) (b.counted_half bytes_of)
counted_half_format format = field length half_format (λ n. times_format n format)

-- items behind their count of four bytes, which has a greatest
pub up_to_format : {A : Type 0} {item : Reader A} {Good : A → Type 0} {bytes_of : A → List ℕ} (most : ℕ) → most < 2 ^ 32 →
    Format item Good bytes_of → Format (r.up_to most item) (λ xs. (length xs ≤ most) × All Good xs) (b.counted bytes_of)
up_to_format most below format = field length (word_up_to_format most below) (λ n. times_format n format)

pub slot_format : Format r.slot SlotFits b.slot
unfolding r.slot
slot_format =
    let parts : Step Any r.slot (λ s. IsWord s.name.0 × (IsAccess s.access × (Unit {0} × Unit {0}))) b.slot =
    field (λ s. s.name) selector_format (λ name. field (λ s. s.access) access_format (λ access. field (λ s. s.mutable) flag_format (λ mutable.
    done (record { name = name; access = access; mutable = mutable }) (λ s k. rw (← k.1, ← k.0.1, ← k.0.0.1) refl) (((tt, refl), refl), refl)))) in
    refit parts (λ s k g. (tt, record { name = g.0; access = g.1.0 })) (λ s k g. (tt, (g.name, (g.access, (tt, tt)))))

pub nested_format : Format r.nested NestedFits b.nested
unfolding r.nested
nested_format =
    let parts : Step Any r.nested (λ n. IsWord n.class × (IsAccess n.access × Unit {0})) b.nested =
    field (λ n. n.class) word_format (λ class. field (λ n. n.access) access_format (λ access. done (record { class = class; access = access }) (λ n k. rw (← k.1, ← k.0.1) refl) ((tt, refl), refl))) in
    refit parts (λ n k g. (tt, record { class = g.0; access = g.1.0 })) (λ n k g. (tt, (g.class, (g.access, tt))))

pub method_format : Format r.method MethodFits b.method
unfolding r.method
method_format =
    let parts : Step Any r.method (λ m. IsWord m.sel.0 × (IsAccess m.access × (IsWord m.body × Unit {0}))) b.method =
    field (λ m. m.sel) selector_format (λ sel. field (λ m. m.access) access_format (λ access. field (λ m. m.body) word_format (λ body.
    done (record { sel = sel; access = access; body = body }) (λ m k. rw (← k.1, ← k.0.1, ← k.0.0.1) refl) (((tt, refl), refl), refl)))) in
    refit parts (λ m k g. (tt, record { sel = g.0; access = g.1.0; body = g.1.1.0 })) (λ m k g. (tt, (g.sel, (g.access, (g.body, tt)))))

-- the bytes of a class record in one list of fields
abbrev class_row : ClassCode → List ℕ
class_row c =
    concat
    (b.word c.name.0
    ∷ b.reference c.outer
    ∷ b.word c.factory.0
    ∷ b.byte c.params
    ∷ b.reference c.clause
    ∷ b.word c.init
    ∷ b.word c.super_sel.0
    ∷ b.counted_half b.slot c.slots
    ∷ b.counted_half b.nested c.nested
    ∷ b.counted_half b.method c.methods
    ∷ b.counted_half b.method c.side_methods
    ∷ [])

class_row-class : (c : ClassCode) → class_row c ≡ b.class c
class_row-class c =
    concat-append
    (b.word c.name.0 ∷ b.reference c.outer ∷ b.word c.factory.0 ∷ b.byte c.params ∷ b.reference c.clause ∷ b.word c.init ∷ b.word c.super_sel.0 ∷ [])
    (b.counted_half b.slot c.slots ∷ b.counted_half b.nested c.nested ∷ b.counted_half b.method c.methods ∷ b.counted_half b.method c.side_methods ∷ [])

abbrev Members : ClassCode → Type 0
Members c =
    (IsHalf (length c.slots) × All SlotFits c.slots)
    × ((IsHalf (length c.nested) × All NestedFits c.nested)
    × ((IsHalf (length c.methods) × All MethodFits c.methods)
    × ((IsHalf (length c.side_methods) × All MethodFits c.side_methods)
    × Unit {0})))

abbrev Parts : ClassCode → Type 0
Parts c =
    IsWord c.name.0
    × (ForSome c.outer (λ k. k < 2 ^ 32 - 1)
    × (IsWord c.factory.0
    × (IsByte c.params
    × (ForSome c.clause (λ k. k < 2 ^ 32 - 1)
    × (IsWord c.init
    × (IsWord c.super_sel.0
    × Members c))))))

pub class_format : Format r.class ClassFits b.class
unfolding r.class r.class_from_clause r.with_members r.with_methods
class_format =
    let parts : Step Any r.class Parts class_row =
    field (λ c. c.name) selector_format (λ name.
    field (λ c. c.outer) reference_format (λ outer.
    field (λ c. c.factory) selector_format (λ factory.
    field (λ c. c.params) byte_format (λ params.
    field (λ c. c.clause) reference_format (λ clause.
    field (λ c. c.init) word_format (λ init.
    field (λ c. c.super_sel) selector_format (λ super_sel.
    field (λ c. c.slots) (counted_half_format slot_format) (λ slots.
    field (λ c. c.nested) (counted_half_format nested_format) (λ nested.
    field (λ c. c.methods) (counted_half_format method_format) (λ methods.
    field (λ c. c.side_methods) (counted_half_format method_format) (λ side_methods.
    done (record { name = name; outer = outer; factory = factory; params = params; clause = clause; init = init; super_sel = super_sel; slots = slots; nested = nested; methods = methods; side_methods = side_methods })
    (λ c k. rw (← k.1, ← k.0.1, ← k.0.0.1, ← k.0.0.0.1, ← k.0.0.0.0.1, ← k.0.0.0.0.0.1, ← k.0.0.0.0.0.0.1, ← k.0.0.0.0.0.0.0.1, ← k.0.0.0.0.0.0.0.0.1, ← k.0.0.0.0.0.0.0.0.0.1, ← k.0.0.0.0.0.0.0.0.0.0.1) refl)
    (((((((((((tt, refl), refl), refl), refl), refl), refl), refl), refl), refl), refl), refl)))))))))))) in
    rewrite
    (refit parts
    (λ c k g. (
      tt,
      record {
        name = g.0;
        outer = g.1.0;
        factory = g.1.1.0;
        params = g.1.1.1.0;
        clause = g.1.1.1.1.0;
        init = g.1.1.1.1.1.0;
        super_sel = g.1.1.1.1.1.1.0;
        slot_count = g.1.1.1.1.1.1.1.0.0;
        slots = g.1.1.1.1.1.1.1.0.1;
        nested_count = g.1.1.1.1.1.1.1.1.0.0;
        nested = g.1.1.1.1.1.1.1.1.0.1;
        method_count = g.1.1.1.1.1.1.1.1.1.0.0;
        methods = g.1.1.1.1.1.1.1.1.1.0.1;
        side_method_count = g.1.1.1.1.1.1.1.1.1.1.0.0;
        side_methods = g.1.1.1.1.1.1.1.1.1.1.0.1;
      },
    ))
    (λ c k g. (tt, (g.name, (g.outer, (g.factory, (g.params, (g.clause, (g.init, (g.super_sel, ((g.slot_count, g.slots), ((g.nested_count, g.nested), ((g.method_count, g.methods), ((g.side_method_count, g.side_methods), tt))))))))))))))
    class_row-class
