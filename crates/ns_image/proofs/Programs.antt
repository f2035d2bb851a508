-- The formats of what follows a version.
use Rattle.std.proofs.Common.{◌≡◌, ℕ, suc, ◌<◌, ◌≤◌, List, [], ◌∷◌, length, map, All, refl, sym, ap, subst, ◌∙◌, arith}
use Rattle.std.specs.List.{AllPairs}
use Rattle.std.proofs.lemmas.List.Elements.{All-nil, All-cons}
use Rattle.ns_base.specs.declared.place.Place.{Place}
use Rattle.ns_code.specs.declared.program.CodeProgram.{CodeProgram}
use Rattle.ns_code.specs.declared.body.BodyCode.{BodyCode}
use Rattle.ns_code.specs.Fits.{Fits, BodyFits, PlaceFits, IsWord, IsShort, IsFileName, IsLocalName, ClassFits}
use Rattle.ns_image.specs.Bytes as b
use Rattle.ns_image.specs.Reading as r
use Rattle.ns_image.specs.laws.Format.{Step, Any, Format, done, field, good_field, refit}
use Rattle.ns_image.proofs.Records.{up_to_format, class_format}
use Rattle.ns_image.proofs.Texts.{file_name_format, AreNames, names_format, texts_format}
use Rattle.ns_image.proofs.Numbered.{length-numbered_names, numbered_names_fit}
use Rattle.ns_image.proofs.Bodies.{BodyGood, body_format, OldGood, old_body_format}

-- ---- bodies that fit

body_fits : (code : CodeProgram) (x : BodyCode) → BodyGood (length code.files) x → BodyFits code x
body_fits code x good = record {
  kind = good.0.0;
  side = good.0.1.0;
  class = good.0.1.1.0;
  parent = good.0.1.1.1.0;
  params = good.0.1.1.1.1.0;
  locals = good.0.1.1.1.1.1.0;
  height = good.0.1.1.1.1.1.1.1.0;
  instr_count = good.0.1.1.1.1.1.1.1.1.0.0;
  instrs = good.0.1.1.1.1.1.1.1.1.0.1;
  name_count = good.1.0.0;
  local_names = good.1.0.1;
  place_count = good.1.1.0;
  places = λ k d lt.
      let p = good.1.1.1.0 k d lt in
      record { instr = p.instr; carries = p.carries; file = p.file; line = p.line; col = p.col };
  places_in_order = good.1.1.1.1;
}

body_good : (code : CodeProgram) (x : BodyCode) → BodyFits code x → BodyGood (length code.files) x
body_good code x fits = (
  (fits.kind, (fits.side, (fits.class, (fits.parent, (fits.params, (fits.locals, (tt, (fits.height, ((fits.instr_count, fits.instrs), tt))))))))),
  (
    (fits.name_count, fits.local_names),
    (
      fits.place_count,
      (
        (λ k d lt.
            let p = fits.places k d lt in
            record { instr = p.instr; carries = p.carries; file = p.file; line = p.line; col = p.col }),
        fits.places_in_order,
      ),
    ),
  ),
)

-- ---- version 2

abbrev Parts : CodeProgram → Type 0
Parts c =
    ((length c.files ≤ 17) × All IsFileName c.files)
    × (AreNames c.names
    × ((IsWord (length c.texts) × All IsShort c.texts)
    × (((length c.classes ≤ 4096) × All ClassFits c.classes)
    × (((length c.bodies ≤ 65536) × All (BodyGood (length c.files)) c.bodies)
    × Unit {0}))))

pub program_format : Format r.program Fits b.program
unfolding r.program r.with_files r.with_classes
program_format =
    let parts : Step Any r.program Parts b.program =
    good_field (λ c. c.files) (up_to_format 17 (omega arith) file_name_format) (λ files few.
    field (λ c. c.names) names_format (λ names.
    field (λ c. c.texts) texts_format (λ texts.
    field (λ c. c.classes) (up_to_format 4096 (omega arith) class_format) (λ classes.
    field (λ c. c.bodies) (up_to_format 65536 (omega arith) (body_format (length files) few.0)) (λ bodies.
    done (record { files = files; names = names; texts = texts; classes = classes; bodies = bodies }) (λ c k. rw (← k.1, ← k.0.1, ← k.0.0.1, ← k.0.0.0.1, ← k.0.0.0.0.1) refl) (((((tt, refl), refl), refl), refl), refl)))))) in
    refit parts
    (λ c k g. (
      tt,
      record {
        file_count = g.0.0;
        files = g.0.1;
        name_count = g.1.0.0;
        names = g.1.0.1.0;
        names_differ = g.1.0.1.1;
        text_count = g.1.1.0.0;
        texts = g.1.1.0.1;
        class_count = g.1.1.1.0.0;
        classes = g.1.1.1.0.1;
        body_count = g.1.1.1.1.0.0;
        bodies = λ i d lt. body_fits c _ (g.1.1.1.1.0.1 i d lt);
      },
    ))
    (λ c k g. (tt, ((g.file_count, g.files), ((g.name_count, (g.names, g.names_differ)), ((g.text_count, g.texts), ((g.class_count, g.classes), ((g.body_count, (λ i d lt. body_good c _ (g.bodies i d lt))), tt)))))))

-- ---- version 1

abbrev NoFiles : CodeProgram → Type 0
NoFiles c = c.files ≡ []

abbrev pub OldParts : CodeProgram → Type 0
OldParts c =
    AreNames c.names
    × ((IsWord (length c.texts) × All IsShort c.texts)
    × (((length c.classes ≤ 4096) × All ClassFits c.classes)
    × (((length c.bodies ≤ 65536) × All OldGood c.bodies)
    × Unit {0})))

pub old_program_format : Format r.old_program (λ c. (c.files ≡ []) × OldParts c) b.old_program
unfolding r.old_program r.with_files r.with_classes
old_program_format =
    let parts : Step NoFiles r.old_program OldParts b.old_program =
    field (λ c. c.names) names_format (λ names.
    field (λ c. c.texts) texts_format (λ texts.
    field (λ c. c.classes) (up_to_format 4096 (omega arith) class_format) (λ classes.
    field (λ c. c.bodies) (up_to_format 65536 (omega arith) old_body_format) (λ bodies.
    done (record { files = []; names = names; texts = texts; classes = classes; bodies = bodies })
    (λ c k. ap (λ (files : List (List ℕ)). record c { files = files }) k.0.0.0.0 ∙ rw (← k.1, ← k.0.1, ← k.0.0.1, ← k.0.0.0.1) refl) ((((refl, refl), refl), refl), refl))))) in
    refit parts (λ c k g. (tt, (k, g))) (λ c k g. (g.0, g.1))

-- ---- code of version 1 is bare code that fits

old_body_fits : (code : CodeProgram) (x : BodyCode) → OldGood x → BodyFits code x
old_body_fits code x good = record {
  kind = good.1.1.0;
  side = good.1.1.1.0;
  class = good.1.1.1.1.0;
  parent = good.1.1.1.1.1.0;
  params = good.1.1.1.1.1.1.0;
  locals = good.1.1.1.1.1.1.1.0;
  height = good.1.1.1.1.1.1.1.1.1.0;
  instr_count = good.1.1.1.1.1.1.1.1.1.1.0.0;
  instrs = good.1.1.1.1.1.1.1.1.1.1.0.1;
  name_count = ap length good.1.0 ∙ length-numbered_names x.locals;
  local_names = subst (All IsLocalName) (sym good.1.0) (numbered_names_fit x.locals good.1.1.1.1.1.1.1.0);
  place_count = rw good.0 (omega arith);
  places = subst (All (PlaceFits code x)) (sym good.0) (All-nil (PlaceFits code x));
  places_in_order = subst (AllPairs (λ p q. p.0 < q.0)) (sym good.0) none_in_order;
}
  where
    none_in_order : AllPairs {X = ℕ × Place} (λ p q. p.0 < q.0) []
    none_in_order = λ i j d lt below. absurd (omega (arith, below))

bare_same : (x : BodyCode) → OldGood x → b.bare_body x ≡ x
bare_same x good =
    sym (ap (λ (places : List (ℕ × Place)). record x { places = places }) good.0 ∙ ap (λ (names : List (List ℕ)). record x { places = []; local_names = names }) good.1.0)

map_same : {A : Type 0} (g : A → A) (xs : List A) → All (λ x. g x ≡ x) xs → map g xs ≡ xs
map_same g [] same = refl
map_same g (x ∷ xs) same =
    let first : g x ≡ x = same 0 x (omega arith) in
    let others : map g xs ≡ xs = map_same g xs (λ k d lt. same (suc k) d (omega arith)) in
    cc (first, others)

same_map : {A : Type 0} (g : A → A) (xs : List A) → map g xs ≡ xs → All (λ x. g x ≡ x) xs
same_map g [] same = All-nil (λ x. g x ≡ x)
same_map g (x ∷ xs) same =
    let first : g x ≡ x = cc (same) in
    let others : map g xs ≡ xs = cc (same) in
    All-cons (λ x. g x ≡ x) x xs first (same_map g xs others)

pub old_fits : (code : CodeProgram) → (code.files ≡ []) × OldParts code → Fits code × (b.bare code ≡ code)
old_fits code good =
    let g = good.1 in
    let same : map b.bare_body code.bodies ≡ code.bodies = map_same b.bare_body code.bodies (λ k d lt. bare_same _ (g.1.1.1.0.1 k d lt)) in (
      record {
        file_count = rw good.0 (omega arith);
        files = subst (All IsFileName) (sym good.0) (All-nil IsFileName);
        name_count = g.0.0;
        names = g.0.1.0;
        names_differ = g.0.1.1;
        text_count = g.1.0.0;
        texts = g.1.0.1;
        class_count = g.1.1.0.0;
        classes = g.1.1.0.1;
        body_count = g.1.1.1.0.0;
        bodies = λ k d lt. old_body_fits code _ (g.1.1.1.0.1 k d lt);
      },
      ap (λ (bodies : List BodyCode). record code { files = []; bodies = bodies }) same ∙ ap (λ (files : List (List ℕ)). record code { files = files }) (sym good.0),
    )

old_good : (code : CodeProgram) (x : BodyCode) → BodyFits code x → b.bare_body x ≡ x → OldGood x
old_good code x fits same =
    (sym (ap (λ (y : BodyCode). y.places) same), (sym (ap (λ (y : BodyCode). y.local_names) same), (body_good code x fits).0))

pub old_parts : (code : CodeProgram) → Fits code → b.bare code ≡ code → (code.files ≡ []) × OldParts code
old_parts code fits same =
    let bodies : map b.bare_body code.bodies ≡ code.bodies = ap (λ (c : CodeProgram). c.bodies) same in
    let each : All (λ x. b.bare_body x ≡ x) code.bodies = same_map b.bare_body code.bodies bodies in (
      sym (ap (λ (c : CodeProgram). c.files) same),
      ((fits.name_count, (fits.names, fits.names_differ)), ((fits.text_count, fits.texts), ((fits.class_count, fits.classes), ((fits.body_count, (λ k d lt. old_good code _ (fits.bodies k d lt) (each k d lt))), tt)))),
    )
