-- What the limits on sizes give, and lists whose items all have a property.
use Rattle.std.proofs.Common.{◌≡◌, ◌≤◌, ◌<◌, ℕ, zero, suc, ◌+◌, List, [], ◌∷◌, length, ◌^◌, refl, sym, ap, ◌∙◌, arith}
use Rattle.std.specs.Prelude.{Bool, true, false, not, ◌||◌, Some, None, All, slice_get, nat_lt, if◌then◌else◌}
use Rattle.std.specs.List.{list_any}
use Rattle.std.specs.Str.{bytes_eq}
use Rattle.std.proofs.lemmas.List.Elements.{All-nil, All-cons}
use Rattle.std.proofs.lemmas.List.Sums.{prefix_len-le-length}
use Rattle.std.proofs.lemmas.Option.{same_Some}
use Rattle.ns_base.specs.Names.{place_of}
use Rattle.ns_code.specs.declared.program.CodeProgram.{CodeProgram}
use Rattle.ns_code.specs.declared.body.BodyCode.{BodyCode}
use Rattle.ns_resolved.specs.Program as m
use Rattle.ns_resolved.specs.Tables.{body_texts}
use Rattle.ns_gen_code.specs.Code.{bodies_code}
use Rattle.ns_gen_code.specs.Sizes.{size_fault, most, is_too_long, is_too_high}
use Rattle.ns_gen_code.specs.declared.size.SizeKind.TheVariants.{Names, Bodies, Code, Height}

pub all_got : {A : Type 0} → (Is : A → Type 0) (items : List A) → ((n : ℕ) (item : A) → slice_get items n ≡ Some item → Is item) →
    All Is items
all_got Is [] h = All-nil Is
all_got Is (item ∷ items) h = All-cons Is item items (h zero item refl) (all_got Is items (λ n other e. h (suc n) other e))

-- the number of a name is no greater than how many there are
pub place_small : (names : List (List ℕ)) (text : List ℕ) → length names ≤ 65536 → place_of names text < 2 ^ 32
place_small names text few =
    let below = prefix_len-le-length (λ (name : List ℕ). not (bytes_eq text name)) names in
    omega (below, few, arith)

-- ---- sizes

pub record SizesAreWithin (code : CodeProgram) : Type 0 where
  pub names : length code.names ≤ 65536
  pub bodies : length code.bodies ≤ 65536
  pub long : (n : ℕ) (body : BodyCode) → slice_get code.bodies n ≡ Some body → length body.instrs ≤ 65536
  pub high : (n : ℕ) (body : BodyCode) → slice_get code.bodies n ≡ Some body → body.height ≤ 1023

not_below : (most n : ℕ) → nat_lt most n ≡ false → n ≤ most
not_below most n e = grind (arith, e)

none_has : {A : Type 0} → (has : A → Bool) (items : List A) (n : ℕ) (item : A) → list_any has items ≡ false →
    slice_get items n ≡ Some item → has item ≡ false
none_has has [] n item h e = absurd (let f : None ≡ Some item = e in cc)
none_has has (first ∷ items) zero item h e = ap has (sym (same_Some first item e)) ∙ left_false (has first) (list_any has items) h where
  left_false : (a b : Bool) → (a || b) ≡ false → a ≡ false
  left_false true b f = f
  left_false false b f = refl
none_has has (first ∷ items) (suc n) item h e = none_has has items n item (right_false (has first) (list_any has items) h) e where
  right_false : (a b : Bool) → (a || b) ≡ false → b ≡ false
  right_false true b f = absurd (let g : true ≡ false = f in cc)
  right_false false b f = f

no_fault : (a b c d : Bool) →
    (if a then Some Names else if b then Some Bodies else if c then Some Code else if d then Some Height else None) ≡ None →
    (a ≡ false) × (b ≡ false) × (c ≡ false) × (d ≡ false)
no_fault true b c d h = absurd (let f : Some Names ≡ None = h in cc)
no_fault false true c d h = absurd (let f : Some Bodies ≡ None = h in cc)
no_fault false false true d h = absurd (let f : Some Code ≡ None = h in cc)
no_fault false false false true h = absurd (let f : Some Height ≡ None = h in cc)
no_fault false false false false h = (refl, refl, refl, refl)

pub sizes_within : (code : CodeProgram) → size_fault code ≡ None → SizesAreWithin code
sizes_within code h =
    let within = no_fault (nat_lt most (length code.names)) (nat_lt most (length code.bodies)) (list_any is_too_long code.bodies) (list_any is_too_high code.bodies) h in
    record {
      names = not_below 65536 (length code.names) within.0;
      bodies = not_below 65536 (length code.bodies) within.1;
      long = λ n body e. not_below 65536 (length body.instrs) (none_has is_too_long code.bodies n body within.2 e);
      high = λ n body e. not_below 1023 body.height (none_has is_too_high code.bodies n body within.3 e);
    }

pub bodies_counted : (names : List (List ℕ)) (k : ℕ) (bodies : List m.Body) → length (bodies_code names k bodies) ≡ length bodies
bodies_counted names k [] = refl
bodies_counted names k (body ∷ bodies) = ap suc (bodies_counted names (k + length (body_texts body)) bodies)
