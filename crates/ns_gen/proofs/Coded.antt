-- Bodies in turn are the code of all, in the tables that are there in the end.
use Rattle.std.proofs.Common.{◌≡◌, ◌∙◌, ℕ, ◌+◌, List, [], ◌∷◌, ◌++◌, length, refl, sym, ap, append-nil, append_assoc, length-append}
use Rattle.std.specs.Prelude.{flat_map, Bool, true, false}
use Rattle.ns_code.specs.declared.body.BodyCode.{BodyCode}
use Rattle.ns_resolved.specs.Program as m
use Rattle.ns_resolved.specs.Tables.{put_all, body_names, body_texts, body_head}
use Rattle.ns_gen_code.specs.Code.{body_lines, body_code, bodies_code}
use Rattle.ns_gen_bodies.specs.Coding.{Coded, with_kept, with_bodies}
use Rattle.ns_gen_bodies.specs.Finishing.{finished}
use Rattle.ns_gen_bodies.specs.laws.Finishing.{finished_filled}
use Rattle.ns_gen_bodies.specs.declared.finish.Finished.{Finished}
use Rattle.ns_gen_bodies.specs.declared.finish.Finished.TheVariants.{Fits, TooLarge}
use Rattle.ns_gen_draft.specs.laws.Writing.{put_more}
use Rattle.ns_gen.specs.Sizes.{put_codes}
use Rattle.ns_gen.proofs.Stable.{code_stays}

-- with these tables
abbrev pub with_tables : List (List ℕ) → List (List ℕ) → Coded → Coded
with_tables names texts before = record before { names = names; texts = texts }

finished_beside : (keeps : Bool) (result : Finished) (names texts : List (List ℕ)) (before : Coded) →
    with_kept keeps result (with_tables names texts before) ≡ with_tables names texts (with_kept keeps result before)
finished_beside false result names texts before = refl
finished_beside true (Fits code) names texts before = refl
finished_beside true (TooLarge kind) names texts before = refl

-- the whole, in tables that are there in the end
abbrev pub whole_of : List (List ℕ) → List (List ℕ) → List BodyCode → Coded → Coded
whole_of names texts codes before = with_tables names texts (put_codes codes before)

pub bodies_coded : (bodies : List m.Body) (names texts : List (List ℕ)) (before : Coded) →
    with_bodies bodies (with_tables names texts before)
    ≡ whole_of (put_all names (flat_map body_names bodies)) (texts ++ flat_map body_texts bodies)
    (bodies_code (put_all names (flat_map body_names bodies)) (length texts) bodies) before
bodies_coded [] names texts before = ap (λ t. with_tables names t before) (sym (append-nil texts))
bodies_coded (body ∷ bodies) names texts before =
    let own = put_all names (body_names body) in
    let behind = texts ++ body_texts body in
    let rest = flat_map body_names bodies in
    let last = put_all names (body_names body ++ rest) in
    let code = body_code own (length texts) body in
    let after = with_kept before.keeps (finished code) before in
    let same : put_all own rest ≡ last = sym (put_more (body_names body) rest names) in
    let stays : code ≡ body_code last (length texts) body =
    sym (code_stays names rest (length texts) body) ∙ ap (λ n. body_code n (length texts) body) same in
    ap (λ result. with_bodies bodies (with_kept before.keeps result (with_tables own behind before)))
    (finished_filled own (body_head body) (body_lines (length texts) body.does))
    ∙ ap (with_bodies bodies) (finished_beside before.keeps (finished code) own behind before)
    ∙ bodies_coded bodies own behind after
    ∙ ap (λ n. whole_of n (behind ++ flat_map body_texts bodies) (bodies_code n (length behind) bodies) after) same
    ∙ ap (λ t. whole_of last t (bodies_code last (length behind) bodies) after) (append_assoc texts (body_texts body) (flat_map body_texts bodies))
    ∙ ap (λ k. whole_of last (texts ++ (body_texts body ++ flat_map body_texts bodies)) (bodies_code last k bodies) after)
    (length-append texts (body_texts body))
    ∙ ap (λ (c : BodyCode). whole_of last (texts ++ (body_texts body ++ flat_map body_texts bodies))
    (bodies_code last (length texts + length (body_texts body)) bodies) (with_kept before.keeps (finished c) before)) stays
