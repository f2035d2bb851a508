-- What of the bodies that were put one by one is too large, and which fit.
use Rattle.std.proofs.Common.{◌≡◌, ◌∙◌, List, [], ◌∷◌, ◌++◌, refl, sym, ap, append-nil, append_assoc}
use Rattle.std.specs.Prelude.{Bool, true, false, ◌||◌, Option, Some, None, if◌then◌else◌}
use Rattle.std.specs.List.{list_any}
use Rattle.ns_code.specs.declared.body.BodyCode.{BodyCode}
use Rattle.ns_gen_code.specs.declared.size.SizeKind.{SizeKind}
use Rattle.ns_gen_code.specs.declared.size.SizeKind.TheVariants as s
use Rattle.ns_gen_code.specs.Sizes.{is_too_long, is_too_high}
use Rattle.ns_gen_bodies.specs.Coding.{Coded, graver, with_finished, with_kept}
use Rattle.ns_gen_bodies.specs.Finishing.{finished}
use Rattle.ns_gen_bodies.specs.declared.finish.Finished.{Finished}
use Rattle.ns_gen_bodies.specs.declared.finish.Finished.TheVariants.{Fits, TooLarge}
use Rattle.ns_gen.specs.Sizes.{bodies_fault, put_codes}

-- the fault that is kept, and the bodies, apart from all else
abbrev pub fault_next : Option SizeKind → Finished → Option SizeKind
fault_next fault (Fits code) = fault
fault_next fault (TooLarge kind) = Some (graver fault kind)

abbrev pub fault_behind : Option SizeKind → List BodyCode → Option SizeKind
fault_behind fault [] = fault
fault_behind fault (code ∷ codes) = fault_behind (fault_next fault (finished code)) codes

one_fault : (result : Finished) (before : Coded) → (with_finished result before).fault ≡ fault_next before.fault result
one_fault (Fits code) before = refl
one_fault (TooLarge kind) before = refl

one_keeps : (result : Finished) (before : Coded) → (with_finished result before).keeps ≡ before.keeps
one_keeps (Fits code) before = refl
one_keeps (TooLarge kind) before = refl

-- where bodies are kept, they are put as they were finished
kept_put : (code : BodyCode) (codes : List BodyCode) (before : Coded) → before.keeps ≡ true →
    put_codes (code ∷ codes) before ≡ put_codes codes (with_finished (finished code) before)
kept_put code codes before keeps = ap (λ k. put_codes codes (with_kept k (finished code) before)) keeps

fault_is : (codes : List BodyCode) (before : Coded) → before.keeps ≡ true → (put_codes codes before).fault ≡ fault_behind before.fault codes
fault_is [] before keeps = refl
fault_is (code ∷ codes) before keeps =
    ap (λ (c : Coded). c.fault) (kept_put code codes before keeps)
    ∙ fault_is codes (with_finished (finished code) before) (one_keeps (finished code) before ∙ keeps)
    ∙ ap (λ f. fault_behind f codes) (one_fault (finished code) before)

abbrev pub sized : Bool → Bool → BodyCode → Finished
sized long high code = if long then TooLarge s.Code else if high then TooLarge s.Height else Fits code

after_long : (codes : List BodyCode) → fault_behind (Some s.Code) codes ≡ Some s.Code
after_long [] = refl
after_long (code ∷ codes) = ap (λ f. fault_behind f codes) (tested (is_too_long code) (is_too_high code)) ∙ after_long codes where
  tested : (long high : Bool) → fault_next (Some s.Code) (sized long high code) ≡ Some s.Code
  tested true high = refl
  tested false true = refl
  tested false false = refl

after_high : (codes : List BodyCode) →
    fault_behind (Some s.Height) codes ≡ (if list_any is_too_long codes then Some s.Code else Some s.Height)
after_high [] = refl
after_high (code ∷ codes) =
    tested (is_too_long code) (is_too_high code) (list_any is_too_long codes) (after_long codes) (after_high codes) where
      tested : (long high any : Bool) → fault_behind (Some s.Code) codes ≡ Some s.Code →
          fault_behind (Some s.Height) codes ≡ (if any then Some s.Code else Some s.Height) →
          fault_behind (fault_next (Some s.Height) (sized long high code)) codes ≡ (if long || any then Some s.Code else Some s.Height)
      tested true high any one two = one
      tested false true any one two = two
      tested false false any one two = two

pub sizes_are : (codes : List BodyCode) → fault_behind None codes ≡ bodies_fault codes
sizes_are [] = refl
sizes_are (code ∷ codes) =
    tested (is_too_long code) (is_too_high code) (list_any is_too_long codes) (list_any is_too_high codes) (after_long codes) (after_high codes) (sizes_are codes)
  where
    tested : (long high any_long any_high : Bool) → fault_behind (Some s.Code) codes ≡ Some s.Code →
        fault_behind (Some s.Height) codes ≡ (if any_long then Some s.Code else Some s.Height) →
        fault_behind None codes ≡ (if any_long then Some s.Code else if any_high then Some s.Height else None) →
        fault_behind (fault_next None (sized long high code)) codes
        ≡ (if long || any_long then Some s.Code else if high || any_high then Some s.Height else None)
    tested true high any_long any_high one two three = one
    tested false true any_long any_high one two three = two
    tested false false any_long any_high one two three = three

pub fault_found : (codes : List BodyCode) (before : Coded) → before.keeps ≡ true → before.fault ≡ None →
    (put_codes codes before).fault ≡ bodies_fault codes
fault_found codes before keeps h = fault_is codes before keeps ∙ ap (λ f. fault_behind f codes) h ∙ sizes_are codes

-- ---- the bodies that fit

-- nothing is too large where nothing of the first is, and nothing of the others
pub all_kept : (codes : List BodyCode) (before : Coded) → before.keeps ≡ true → bodies_fault codes ≡ None →
    (put_codes codes before).bodies ≡ before.bodies ++ codes
all_kept [] before keeps h = sym (append-nil before.bodies)
all_kept (code ∷ codes) before keeps h =
    ap (λ (c : Coded). c.bodies) (kept_put code codes before keeps)
    ∙ tested (is_too_long code) (is_too_high code) (list_any is_too_long codes) (list_any is_too_high codes) h (all_kept codes)
  where
    tested : (long high any_long any_high : Bool) →
        (if long || any_long then Some s.Code else if high || any_high then Some s.Height else None) ≡ None →
        ((after : Coded) → after.keeps ≡ true → (if any_long then Some s.Code else if any_high then Some s.Height else None) ≡ None → (put_codes codes after).bodies ≡ after.bodies ++ codes) →
        (put_codes codes (with_finished (sized long high code) before)).bodies ≡ before.bodies ++ code ∷ codes
    tested true high any_long any_high e rest = absurd (let f : Some s.Code ≡ None = e in cc)
    tested false high true any_high e rest = absurd (let f : Some s.Code ≡ None = e in cc)
    tested false true false any_high e rest = absurd (let f : Some s.Height ≡ None = e in cc)
    tested false false false any_high e rest =
        rest (with_finished (Fits code) before) keeps e ∙ append_assoc before.bodies (code ∷ []) codes
