-- The formats of bodies.
use Rattle.std.proofs.Common.{◌≡◌, ℕ, ◌-◌, ◌^◌, ◌<◌, ◌≤◌, List, [], ◌∷◌, ◌++◌, length, All, refl, sym, ap, ◌∙◌, arith}
use Rattle.std.specs.Option.{ForSome}
use Rattle.std.specs.List.{concat, flat_map}
use Rattle.std.proofs.lemmas.List.{append-nil}
use Rattle.std.proofs.lemmas.List.Folds.{concat-append}
use Rattle.ns_base.specs.declared.place.Place.{Place}
use Rattle.ns_code.specs.declared.body.BodyCode.{BodyCode}
use Rattle.ns_code.specs.Fits.{IsByte, IsHalf, IsWord, IsLocalName, InstrFits}
use Rattle.ns_code.specs.LocalNames.{numbered_names}
use Rattle.ns_image.specs.Bytes as b
use Rattle.ns_image.specs.Read.{Reader, times}
use Rattle.ns_image.specs.Reading as r
use Rattle.ns_image.specs.laws.Format.{Step, Any, Format, done, field, good_field, refit, rewrite, mapped}
use Rattle.ns_image.specs.laws.Fields.{byte_format, half_format, word_format, byte_up_to_format, reference_format, flag_format, times_format}
use Rattle.ns_image.proofs.Records.{up_to_format}
use Rattle.ns_image.proofs.Texts.{local_name_format}
use Rattle.ns_image.proofs.Instructions.{instr_format}
use Rattle.ns_image.proofs.Places.{ArePlaces, places_format}

-- ---- what both versions have

-- a body without the names of its locals and without places
abbrev IsHead : BodyCode → Type 0
IsHead x = (x.places ≡ []) × (x.local_names ≡ [])

abbrev head_of : BodyCode → BodyCode
head_of x = record x { places = []; local_names = [] }

head_is : (x : BodyCode) → IsHead x → x ≡ head_of x
head_is x is =
    ap (λ (places : List (ℕ × Place)). record x { places = places }) is.0 ∙ ap (λ (names : List (List ℕ)). record x { places = []; local_names = names }) is.1

abbrev pub HeadGood : BodyCode → Type 0
HeadGood x =
    (x.kind ≤ 3)
    × ((x.side ≤ 1)
    × (IsWord x.class
    × (ForSome x.parent (λ k. k < 2 ^ 32 - 1)
    × (IsByte x.params
    × (IsByte x.locals
    × (Unit {0}
    × (IsHalf x.height
    × (((length x.instrs ≤ 65536) × All InstrFits x.instrs)
    × Unit {0}))))))))

-- the bytes of both versions in one list of fields
abbrev head_row : BodyCode → List ℕ
head_row x =
    concat
    (b.byte x.kind
    ∷ b.byte x.side
    ∷ b.word x.class
    ∷ b.reference x.parent
    ∷ b.byte x.params
    ∷ b.byte x.locals
    ∷ b.flag x.environment
    ∷ b.half x.height
    ∷ b.counted b.instr x.instrs
    ∷ [])

head_row-old_body : (x : BodyCode) → head_row x ≡ b.old_body x
head_row-old_body x =
    concat-append
    (b.byte x.kind ∷ b.byte x.side ∷ b.word x.class ∷ b.reference x.parent ∷ b.byte x.params ∷ b.byte x.locals ∷ b.flag x.environment ∷ b.half x.height ∷ [])
    (b.counted b.instr x.instrs ∷ [])
    ∙ ap (λ (m : List ℕ). b.body_fields x ++ m) (append-nil (b.counted b.instr x.instrs))

head_format : Format r.head (λ x. IsHead x × HeadGood x) b.old_body
unfolding r.head r.head_from_params
head_format =
    let parts : Step IsHead r.head HeadGood head_row =
    field (λ x. x.kind) (byte_up_to_format 3 (omega arith)) (λ kind.
    field (λ x. x.side) (byte_up_to_format 1 (omega arith)) (λ side.
    field (λ x. x.class) word_format (λ class.
    field (λ x. x.parent) reference_format (λ parent.
    field (λ x. x.params) byte_format (λ params.
    field (λ x. x.locals) byte_format (λ locals.
    field (λ x. x.environment) flag_format (λ environment.
    field (λ x. x.height) half_format (λ height.
    field (λ x. x.instrs) (up_to_format 65536 (omega arith) instr_format) (λ instrs.
    done (record { kind = kind; side = side; class = class; parent = parent; params = params; locals = locals; environment = environment; height = height; instrs = instrs; places = []; local_names = [] })
    (λ x k. head_is x k.0.0.0.0.0.0.0.0.0 ∙ rw (← k.1, ← k.0.1, ← k.0.0.1, ← k.0.0.0.1, ← k.0.0.0.0.1, ← k.0.0.0.0.0.1, ← k.0.0.0.0.0.0.1, ← k.0.0.0.0.0.0.0.1, ← k.0.0.0.0.0.0.0.0.1) refl)
    ((((((((((refl, refl), refl), refl), refl), refl), refl), refl), refl), refl), refl)))))))))) in
    rewrite (refit parts (λ x k g. (tt, (k, g))) (λ x k g. (g.0, g.1))) head_row-old_body

-- ---- version 2

-- so many items
exactly_format : {A : Type 0} {item : Reader A} {Good : A → Type 0} {bytes_of : A → List ℕ} (n : ℕ) → Format item Good bytes_of →
    Format (times n item) (λ xs. (length xs ≡ n) × All Good xs) (flat_map bytes_of)
exactly_format n format = refit (times_format n format) (λ xs k g. (tt, (k.1, g))) (λ xs k g. ((tt, g.0), g.1))

-- what is good of a body of code with so many files
abbrev pub BodyGood : ℕ → BodyCode → Type 0
BodyGood files x = HeadGood x × (((length x.local_names ≡ x.locals) × All IsLocalName x.local_names) × ArePlaces files x.instrs x.places)

body_row : BodyCode → List ℕ
body_row x = b.old_body x ++ (flat_map b.text x.local_names ++ (b.counted b.place x.places ++ []))

pub body_format : (files : ℕ) → files ≤ 17 → Format (r.body files) (BodyGood files) b.body
unfolding r.body r.with_local_names r.with_places body_row
body_format files few =
    let parts : Step Any (r.body files) (λ x. (IsHead (head_of x) × HeadGood (head_of x)) × (((length x.local_names ≡ x.locals) × All IsLocalName x.local_names) × (ArePlaces files x.instrs x.places × Unit {0}))) body_row =
    good_field head_of head_format (λ head good.
    field (λ x. x.local_names) (exactly_format head.locals local_name_format) (λ names.
    field (λ x. x.places) (places_format files head.instrs few good.1.1.1.1.1.1.1.1.1.0.0) (λ places.
    done (record head { local_names = names; places = places }) (λ x k. rw (← k.1, ← k.0.1, ← k.0.0.1) refl) (((tt, sym (head_is head good.0)), refl), refl)))) in
    rewrite (refit parts (λ x k g. (tt, (g.0.1, (g.1.0, g.1.1.0)))) (λ x k g. (tt, (((refl, refl), g.0), (g.1.0, (g.1.1, tt))))))
    (λ x. ap (λ (m : List ℕ). b.old_body x ++ (flat_map b.text x.local_names ++ m)) (append-nil (b.counted b.place x.places)))

-- ---- version 1

-- what is good of a body of version 1
abbrev pub OldGood : BodyCode → Type 0
OldGood x = (x.places ≡ []) × ((x.local_names ≡ numbered_names x.locals) × HeadGood x)

abbrev named : BodyCode → BodyCode
named x = record x { local_names = numbered_names x.locals }

abbrev nameless : BodyCode → BodyCode
nameless x = record x { local_names = [] }

pub old_body_format : Format r.old_body OldGood b.old_body
unfolding r.old_body
old_body_format =
    mapped named nameless OldGood head_format
    (λ x good. (ap (λ (names : List (List ℕ)). record x { local_names = names }) (sym good.0.1), (good.0.0, (refl, good.1))))
    (λ x good. (ap (λ (names : List (List ℕ)). record x { local_names = names }) (sym good.1.0), ((good.0, refl), good.1.1)))
