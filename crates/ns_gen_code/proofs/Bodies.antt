-- The bodies of generated code have no fault.
use Rattle.std.proofs.Common.{◌≡◌, ◌≤◌, ◌<◌, ℕ, zero, suc, ◌+◌, List, [], ◌∷◌, length, refl, sym, ap, ◌∙◌, subst, arith}
use Rattle.std.specs.Prelude.{Bool, true, false, ◌&&◌, ◌||◌, not, Option, Some, None, slice_get, map, option_map, nat_lt, ◌==◌, if◌then◌else◌}
use Rattle.std.specs.Option.{option_map_or, option_or, is_some}
use Rattle.std.specs.List.{list_any}
use Rattle.std.proofs.lemmas.Option.{same_Some}
use Rattle.std.proofs.lemmas.List.{length-map}
use Rattle.ns_code.specs.declared.program.CodeProgram.{CodeProgram}
use Rattle.ns_code.specs.declared.body.BodyCode.{BodyCode}
use Rattle.ns_code.specs.Soundness.{block_kind}
use Rattle.ns_verify.specs.Causes as w
use Rattle.ns_verify.specs.Heights.{begin}
use Rattle.ns_verify.specs.Verify.{instrs_fault, body_fault, body_fault_in, bodies_fault}
use Rattle.ns_resolved.specs.Program as m
use Rattle.ns_resolved.specs.Tables.{class_code, names_of, kind_of, side_number}
use Rattle.ns_resolved.specs.There as t
use Rattle.ns_gen_code.specs.Code.{CodeLine, instr_of, body_lines, body_code, code_of}
use Rattle.ns_gen_code.specs.Sizes.{size_fault, most, is_too_long, is_too_high}
use Rattle.ns_gen_code.specs.declared.size.SizeKind.TheVariants.{Names, Bodies, Code, Height}
use Rattle.ns_gen_code.specs.Stated.{Ends, first_text}
use Rattle.ns_gen_code.proofs.Around.{coded, body_there, parent_around}
use Rattle.ns_gen_code.proofs.BodyAt.{body_of_code}
use Rattle.ns_gen_code.proofs.Causes.{HomesAre}
use Rattle.ns_gen_code.proofs.There.{lines_there}
use Rattle.ns_gen_code.proofs.Heights.{body_finds}
use Rattle.ns_gen_code.proofs.GoodHeights.{body_is_good}
use Rattle.ns_gen_code.proofs.Ending.{body_ends}
use Rattle.ns_gen_code.proofs.NamesThere.{names_there}
use Rattle.ns_gen_code.proofs.Unfaulted.{lines_unfaulted, home, Ending}

-- ---- sizes

-- what no item has, one of them has not
pub none_has : {A : Type 0} (has : A → Bool) (items : List A) (n : ℕ) (item : A) → list_any has items ≡ false →
    slice_get items n ≡ Some item → has item ≡ false
none_has has [] n item h e = absurd (let f : None ≡ Some item = e in cc)
none_has has (first ∷ items) zero item h e = ap has (sym (same_Some first item e)) ∙ left_false (has first) (list_any has items) h where
  left_false : (a b : Bool) → (a || b) ≡ false → a ≡ false
  left_false true b f = f
  left_false false b f = refl
none_has has (first ∷ items) (suc n) item h e = none_has has items n item (right_false (has first) (list_any has items) h) e where
  right_false : (a b : Bool) → (a || b) ≡ false → b ≡ false
  right_false true b f = absurd (let g : true ≡ false = f in cc)
  right_false false b f = f

-- no limit is passed
pub record AreWithin (code : CodeProgram) : Type 0 where
  pub names : nat_lt most (length code.names) ≡ false
  pub bodies : nat_lt most (length code.bodies) ≡ false
  pub long : list_any is_too_long code.bodies ≡ false
  pub high : list_any is_too_high code.bodies ≡ false

within : (a b c d : Bool) →
    (if a then Some Names else if b then Some Bodies else if c then Some Code else if d then Some Height else None) ≡ None →
    (a ≡ false) × (b ≡ false) × (c ≡ false) × (d ≡ false)
within true b c d h = absurd (let f : Some Names ≡ None = h in cc)
within false true c d h = absurd (let f : Some Bodies ≡ None = h in cc)
within false false true d h = absurd (let f : Some Code ≡ None = h in cc)
within false false false true h = absurd (let f : Some Height ≡ None = h in cc)
within false false false false h = (refl, refl, refl, refl)

pub are_within : (code : CodeProgram) → size_fault code ≡ None → AreWithin code
are_within code h =
    let w = within (nat_lt most (length code.names)) (nat_lt most (length code.bodies)) (list_any is_too_long code.bodies) (list_any is_too_high code.bodies) h in
    record { names = w.0; bodies = w.1; long = w.2; high = w.3 }

-- ---- where a body stands

less : (a b : ℕ) → a < b → nat_lt a b ≡ true
less a b h = grind (arith, h)

not_less : (a b : ℕ) → b ≤ a → nat_lt a b ≡ false
not_less a b h = grind (arith, h)

same : (n : ℕ) → (n == n) ≡ true
same n = grind (arith)

or_false : (a b : Bool) → a ≡ false → b ≡ false → (a || b) ≡ false
or_false a b e f = ap (λ x. x || b) e ∙ f

-- a block is held by the body in which it stands
held : (meant : m.Meant) (number : ℕ) (body : m.Body) (stands : t.StandsInside meant number body) →
    w.holds_block (code_of meant) (coded meant number body) stands.0 ≡ true
held meant number body (parent, holder, is_parent, before, there, class, side, environment) =
    ap (λ o. option_map_or (λ (p : BodyCode). p.class == body.class && p.side == side_number body.side && p.environment) o false)
    (body_there meant parent holder there)
    ∙ ap (λ c. c == body.class && side_number holder.side == side_number body.side && holder.environment) class
    ∙ ap (λ b. b && side_number holder.side == side_number body.side && holder.environment) (same body.class)
    ∙ ap (λ s. side_number s == side_number body.side && holder.environment) side
    ∙ ap (λ b. b && holder.environment) (same (side_number body.side))
    ∙ environment

well_placed : (meant : m.Meant) (number : ℕ) (body : m.Body) → t.StandsAs meant number body body.does →
    w.is_misplaced (code_of meant) number (coded meant number body) ≡ false
well_placed meant number body stands =
    ap (λ p. if kind_of body.does == block_kind then not (option_map_or (w.holds_block (code_of meant) (coded meant number body)) p false)
    else is_some body.parent) (parent_around meant number body stands)
    ∙ by_kind body.does stands where
      by_kind : (does : m.Does) → t.StandsAs meant number body does →
          (if kind_of does == block_kind then not (option_map_or (w.holds_block (code_of meant) (coded meant number body)) body.parent false)
          else is_some body.parent) ≡ false
      by_kind (m.as_method values steps) h = ap is_some h
      by_kind (m.as_block values steps) h =
          ap (λ p. not (option_map_or (w.holds_block (code_of meant) (coded meant number body)) p false)) h.2 ∙ ap not (held meant number body h)
      by_kind (m.as_initialiser start) h = ap is_some h
      by_kind (m.as_clause head) h = ap is_some h

good_head : (meant : m.Meant) (number : ℕ) (body : m.Body) → slice_get meant.bodies number ≡ Some body → t.IsRightBody meant number body →
    AreWithin (code_of meant) → w.has_bad_head (code_of meant) number (coded meant number body) ≡ false
good_head meant number body here right sizes =
    or_false _ _ (ap (λ n. not (nat_lt body.class n)) (length-map meant.classes (class_code (names_of meant))) ∙ ap not (less body.class (length meant.classes) right.placed.class))
    (or_false _ _ (well_placed meant number body right.placed.stands)
    (or_false _ _ (not_less (length body.locals) body.params right.placed.params)
    (none_has is_too_high (code_of meant).bodies number (coded meant number body) sizes.high (body_there meant number body here))))

-- ---- a body, and all bodies

-- what has an end is not empty
first_there : (names : List (List ℕ)) (code : CodeProgram) (number : ℕ) (body : BodyCode) (kind : ℕ) (lines : List CodeLine) → Ends lines →
    instrs_fault code number body kind (begin (length (map (instr_of names) lines))) 0 (map (instr_of names) lines) ≡ None →
    body_fault_in code number body kind (map (instr_of names) lines) ≡ None
first_there names code number body kind [] ends e = absurd ends
first_there names code number body kind (line ∷ lines) ends e = e

ending : (meant : m.Meant) (right : t.AreRightBodies meant) (homes : HomesAre (code_of meant)) (number : ℕ) (body : m.Body)
    (here : slice_get meant.bodies number ≡ Some body) (lines : List CodeLine) → Ends lines → Ending meant right homes number body here lines
ending meant right homes number body here [] e = absurd e
ending meant right homes number body here (line ∷ lines) e = e

pub body_unfaulted : (meant : m.Meant) → t.AreRightBodies meant → HomesAre (code_of meant) → AreWithin (code_of meant) →
    (number : ℕ) (body : m.Body) → slice_get meant.bodies number ≡ Some body → body_fault (code_of meant) number (coded meant number body) ≡ None
body_unfaulted meant right homes sizes number body here =
    let k = first_text meant.bodies number in
    let lines = body_lines k body.does in
    first_there (names_of meant) (code_of meant) number (coded meant number body) (home meant right homes number body here) lines (body_ends body.does k)
    (lines_unfaulted meant right homes number body here lines (begin (length (map (instr_of (names_of meant)) lines))) false 0 0
    (good_head meant number body here (right number body here) sizes) refl
    (lines_there meant number body here (right number body here))
    (names_there meant number k body here)
    (body_is_good (names_of meant) k body)
    (body_finds (names_of meant) body.does k)
    (ending meant right homes number body here lines (body_ends body.does k))
    (let zero_more : 0 + length lines ≡ length lines = omega arith in zero_more ∙ sym (length-map lines (instr_of (names_of meant)))))

all_unfaulted : (code : CodeProgram) (bodies : List BodyCode) (number : ℕ) →
    ((k : ℕ) (body : BodyCode) → slice_get bodies k ≡ Some body → body_fault code (k + number) body ≡ None) → bodies_fault code number bodies ≡ None
all_unfaulted code [] number none = refl
all_unfaulted code (body ∷ bodies) number none =
    ap (λ f. option_or f (bodies_fault code (number + 1) bodies)) (let e : 0 + number ≡ number = omega arith in subst (λ n. body_fault code n body ≡ None) e (none zero body refl))
    ∙ all_unfaulted code bodies (number + 1) (λ k b e. let same_number : suc k + number ≡ k + (number + 1) = omega arith in
    subst (λ n. body_fault code n b ≡ None) same_number (none (suc k) b e))

-- a body of the code is the code of a body
is_coded : (meant : m.Meant) (number : ℕ) (body : BodyCode) (P : Type 0) → slice_get (code_of meant).bodies number ≡ Some body →
    ((mine : m.Body) → slice_get meant.bodies number ≡ Some mine → coded meant number mine ≡ body → P) → P
is_coded meant number body P e go = by_case (slice_get meant.bodies number) refl where
  by_case : (mine : Option m.Body) → slice_get meant.bodies number ≡ mine → P
  by_case None f =
      let there : None ≡ Some body = sym (ap (option_map (body_code (names_of meant) (first_text meant.bodies number))) f) ∙ sym (body_of_code meant number) ∙ e in
      absurd (cc)
  by_case (Some mine) f = go mine f (same_Some (coded meant number mine) body (sym (body_there meant number mine f) ∙ e))

pub bodies_unfaulted : (meant : m.Meant) → t.AreRightBodies meant → size_fault (code_of meant) ≡ None → HomesAre (code_of meant) →
    bodies_fault (code_of meant) 0 (code_of meant).bodies ≡ None
bodies_unfaulted meant right size homes =
    all_unfaulted (code_of meant) (code_of meant).bodies 0
    (λ k body e. is_coded meant k body (body_fault (code_of meant) (k + 0) body ≡ None) e
    (λ mine f g. let here : k ≡ k + 0 = omega arith in
    subst (λ n. body_fault (code_of meant) n body ≡ None) here
    (subst (λ b. body_fault (code_of meant) k b ≡ None) g (body_unfaulted meant right homes (are_within (code_of meant) size) k mine f))))
