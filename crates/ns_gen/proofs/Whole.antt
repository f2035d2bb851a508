-- What was generated is the code of the program, or tells the first size that passes its limit.
use Rattle.std.proofs.Common.{◌≡◌, ◌∙◌, ℕ, suc, ◌+◌, List, [], ◌∷◌, length, refl, sym, ap}
use Rattle.std.specs.Prelude.{Bool, true, false, not, nat_lt, flat_map, map, Option, Some, None, if◌then◌else◌}
use Rattle.ns_code.specs.declared.body.BodyCode.{BodyCode}
use Rattle.ns_code.specs.declared.program.CodeProgram.{CodeProgram}
use Rattle.ns_resolved.specs.Program as m
use Rattle.ns_resolved.specs.Tables.{put_all, class_names, body_names, body_texts, class_code, names_of, texts_of}
use Rattle.ns_gen_code.specs.Code.{bodies_code, code_of}
use Rattle.ns_gen_code.specs.Sizes.{most, size_fault}
use Rattle.ns_gen_code.specs.declared.size.SizeKind.{SizeKind}
use Rattle.ns_gen_code.specs.declared.size.SizeKind.TheVariants as s
use Rattle.ns_gen_bodies.specs.Coding.{Coded, with_bodies}
use Rattle.ns_gen_draft.specs.laws.Writing.{put_more}
use Rattle.ns_gen.specs.Sizes.{bodies_fault, put_codes}
use Rattle.ns_gen.specs.Whole.{named, first_fault}
use Rattle.ns_gen.proofs.Coded.{whole_of, bodies_coded}
use Rattle.ns_gen.proofs.Sizes.{fault_found, all_kept}

abbrev pub nothing : Bool → Coded
nothing keeps = record { names = []; texts = []; keeps = keeps; bodies = []; fault = None }

abbrev pub codes_of : m.Meant → List BodyCode
codes_of meant = bodies_code (names_of meant) 0 meant.bodies

-- all bodies behind the names of the classes
all_coded : (keeps : Bool) (meant : m.Meant) →
    with_bodies meant.bodies (named keeps meant.classes) ≡ whole_of (names_of meant) (texts_of meant) (codes_of meant) (nothing keeps)
all_coded keeps meant =
    bodies_coded meant.bodies (put_all [] (flat_map class_names meant.classes)) [] (nothing keeps)
    ∙ ap (λ n. whole_of n (texts_of meant) (bodies_code n 0 meant.bodies) (nothing keeps))
    (sym (put_more (flat_map class_names meant.classes) (flat_map body_names meant.bodies) []))

as_many : (names : List (List ℕ)) (k : ℕ) (bodies : List m.Body) → length (bodies_code names k bodies) ≡ length bodies
as_many names k [] = refl
as_many names k (body ∷ bodies) = ap suc (as_many names (k + length (body_texts body)) bodies)

-- ---- sizes

-- whether there are too many of something is told by how many there are
abbrev pub told : Bool → Option SizeKind → Option SizeKind
told many fault = if many then Some s.Bodies else fault

-- the same fault where bodies are kept, and where they are too many
fault_told : (keeps : Bool) (codes : List BodyCode) (many : Bool) → keeps ≡ not many →
    told many (put_codes codes (nothing keeps)).fault ≡ told many (bodies_fault codes)
fault_told keeps codes true same = refl
fault_told true codes false same = fault_found codes (nothing true) refl refl
fault_told false codes false same = absurd (let e : false ≡ true = same in cc)

pub fault_is : (meant : m.Meant) (output : Coded) (keeps : Bool) (count : ℕ) → output ≡ with_bodies meant.bodies (named keeps meant.classes) →
    count ≡ length meant.bodies → keeps ≡ not (nat_lt most count) →
    first_fault (length output.names) count output.fault ≡ size_fault (code_of meant)
fault_is meant output keeps count is many few =
    let names = nat_lt most (length (names_of meant)) in
    ap (λ (o : Coded). first_fault (length o.names) count o.fault) (is ∙ all_coded keeps meant)
    ∙ ap (λ f. if names then Some s.Names else f) (fault_told keeps (codes_of meant) (nat_lt most count) few)
    ∙ ap (λ n. first_fault (length (names_of meant)) n (bodies_fault (codes_of meant))) (many ∙ sym (as_many (names_of meant) 0 meant.bodies))

bodies_fit : (meant : m.Meant) → size_fault (code_of meant) ≡ None → bodies_fault (codes_of meant) ≡ None
bodies_fit meant h =
    tested (nat_lt most (length (names_of meant))) (nat_lt most (length (codes_of meant))) (bodies_fault (codes_of meant)) h
  where
    tested : (names bodies : Bool) (fault : Option SizeKind) → (if names then Some s.Names else if bodies then Some s.Bodies else fault) ≡ None → fault ≡ None
    tested true bodies fault e = absurd (let f : Some s.Names ≡ None = e in cc)
    tested false true fault e = absurd (let f : Some s.Bodies ≡ None = e in cc)
    tested false false fault e = e

-- ---- the code

abbrev pub code_with : m.Meant → List (List ℕ) → List (List ℕ) → List BodyCode → CodeProgram
code_with meant names texts bodies =
    record { files = meant.files; names = names; texts = texts; classes = map (class_code names) meant.classes; bodies = bodies }

-- the bodies of a program of which nothing is too large are few
few_bodies : (meant : m.Meant) (count : ℕ) → count ≡ length meant.bodies → size_fault (code_of meant) ≡ None → nat_lt most count ≡ false
few_bodies meant count many h =
    ap (nat_lt most) (many ∙ sym (as_many (names_of meant) 0 meant.bodies))
    ∙ tested (nat_lt most (length (names_of meant))) (nat_lt most (length (codes_of meant))) (bodies_fault (codes_of meant)) h
  where
    tested : (names bodies : Bool) (fault : Option SizeKind) → (if names then Some s.Names else if bodies then Some s.Bodies else fault) ≡ None → bodies ≡ false
    tested true bodies fault e = absurd (let f : Some s.Names ≡ None = e in cc)
    tested false true fault e = absurd (let f : Some s.Bodies ≡ None = e in cc)
    tested false false fault e = refl

pub code_is : (meant : m.Meant) (output : Coded) (keeps : Bool) (count : ℕ) → output ≡ with_bodies meant.bodies (named keeps meant.classes) →
    count ≡ length meant.bodies → keeps ≡ not (nat_lt most count) → size_fault (code_of meant) ≡ None →
    record { files = meant.files; names = output.names; texts = output.texts; classes = map (class_code output.names) meant.classes; bodies = output.bodies }
    ≡ code_of meant
code_is meant output keeps count is many few fits =
    let kept : keeps ≡ true = few ∙ ap not (few_bodies meant count many fits) in
    ap (λ (o : Coded). code_with meant o.names o.texts o.bodies) (is ∙ all_coded keeps meant)
    ∙ ap (code_with meant (names_of meant) (texts_of meant)) (all_kept (codes_of meant) (nothing keeps) kept (bodies_fit meant fits))
