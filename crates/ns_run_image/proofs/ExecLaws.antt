-- What is told of the run of an image.
use Rattle.std.proofs.Common.{◌≡◌, ℕ, zero, suc, ◌+◌, ◌/◌, ◌%◌, ◌<◌, List, [], ◌∷◌, ◌++◌, take, reverse, nat_eq, nat_lt, cond, true, false, Option, Some, None, option_map, codes, refl, ap, sym, subst, ◌∙◌, arith, append_assoc}
use Rattle.std.proofs.lemmas.Bool.Decides.{nat_tests}
use Rattle.std.proofs.lemmas.List.{reverse-append}
use Rattle.std.specs.Fmt.{decimal, digit_glyph, digits, digits_onto}
use Rattle.std.specs.Prelude.{◌==◌}
use Rattle.std.specs.Str.{bytes_eq}
use Rattle.ns_image.specs.declared.fault.ImageFault.{ImageFault}
use Rattle.ns_image.specs.declared.fault.ImageFault.TheVariants as fault
use Rattle.ns_json.specs.declared.saying.Refused.TheVariants as what
use Rattle.ns_run_image.specs.Image.{of_code, of_exec_bytes, of_exec_file, of_image_fault}
use Rattle.ns_run_code.specs.Exec.{image_code}
use Rattle.ns_run_input.specs.Input.{RunWork}
use Rattle.ns_run_outcome.specs.Report.{place_in, place_text, refusal, refused_file, unsound, verify_name}
use Rattle.ns_run_outcome.specs.laws.Cut.{cut_same}
use Rattle.ns_run_outcome.specs.laws.Plain.{EndsOtherwise, IsPlain, file_plain, line_plain, missing_end, told_plain}
use Rattle.ns_verify.specs.declared.fault.VerifyCause.{VerifyCause}
use Rattle.ns_verify.specs.declared.fault.Where.{Where}
use Rattle.ns_verify.specs.declared.fault.Where.TheVariants as where_at

-- ---- the bytes that were loaded

-- What is done with the bytes that were loaded is done with the file.
pub exec_cut : (run : RunWork) (name : List ℕ) (text : Option (List ℕ)) (bytes : List ℕ) (inputs : List (Option (List ℕ))) →
    option_map (take 134217729) text ≡ Some bytes → of_exec_bytes run name bytes inputs ≡ of_exec_file run name text inputs
exec_cut run name None bytes inputs h = absurd (cc (h))
exec_cut run name (Some whole) bytes inputs h =
    let e : take 134217729 whole ≡ bytes = cc (h) in
    ap (λ each. of_exec_bytes run name each inputs) (sym e)
    ∙ cut_same 134217728 whole (refused_file name (codes "TooLong")) (λ each. of_code run name (image_code each) inputs)

-- ---- lines that end with a number

-- What stands in front of others.
record StandsBefore (behind whole : List ℕ) : Type 0 where
  front : List ℕ
  is : whole ≡ front ++ behind

onto_ends : (k n : ℕ) (acc : List ℕ) → StandsBefore acc (digits_onto k 10 false n acc)
onto_ends zero n acc = record { front = []; is = refl }
onto_ends (suc k) n acc =
    let glyph = digit_glyph false (n % 10) in
    elim (n / 10 == 0) as (λ q. StandsBefore acc (cond q (glyph ∷ acc) (digits_onto k 10 false (n / 10) (glyph ∷ acc)))) [
      | true ↦ record { front = glyph ∷ []; is = refl }
      | false ↦
          let more = onto_ends k (n / 10) (glyph ∷ acc) in
          record { front = more.front ++ glyph ∷ []; is = more.is ∙ sym (append_assoc more.front (glyph ∷ []) acc) }
    ]

-- The text of a number ends with a digit.
record EndsWithDigit (text : List ℕ) : Type 0 where
  front : List ℕ
  digit : ℕ
  is : text ≡ front ++ digit ∷ []
  no_g : nat_eq digit 103 ≡ false

no_g_is : (d : ℕ) → d < 10 → nat_eq (digit_glyph false d) 103 ≡ false
no_g_is d h =
    elim (nat_lt d 10) as (λ q. nat_lt d 10 ≡ q → nat_eq (cond q (48 + d) (cond false (55 + d) (87 + d))) 103 ≡ false) [
      | true ↦ λ e. grind (arith, nat_tests, h)
      | false ↦ λ e. grind (arith, nat_tests, h, e)
    ] refl

number_ends : (n : ℕ) → EndsWithDigit (decimal n)
unfolding digits
number_ends n =
    let glyph = digit_glyph false (n % 10) in
    let no_g = no_g_is (n % 10) (omega arith) in
    elim (n / 10 == 0) as (λ q. EndsWithDigit (cond q (glyph ∷ []) (digits_onto 63 10 false (n / 10) (glyph ∷ [])))) [
      | true ↦ record { front = []; digit = glyph; is = refl; no_g = no_g }
      | false ↦
          let more = onto_ends 63 (n / 10) (glyph ∷ []) in
          record { front = more.front; digit = glyph; is = more.is; no_g = no_g }
    ]

-- No line that ends with a number is that of a file that isn't there.
ends_otherwise : (text : List ℕ) (n : ℕ) → EndsOtherwise (text ++ decimal n)
ends_otherwise text n = λ front.
    let e : EndsWithDigit (decimal n) = number_ends n in
    let whole : (text ++ decimal n) ++ 10 ∷ [] ≡ (text ++ e.front) ++ e.digit ∷ 10 ∷ [] =
    ap (λ x. (text ++ x) ++ 10 ∷ []) e.is
    ∙ ap (λ x. x ++ 10 ∷ []) (sym (append_assoc text e.front (e.digit ∷ [])))
    ∙ append_assoc (text ++ e.front) (e.digit ∷ []) (10 ∷ [])
    in
    let back : reverse ((text ++ decimal n) ++ 10 ∷ []) ≡ 10 ∷ e.digit ∷ reverse (text ++ e.front) =
    ap reverse whole ∙ reverse-append (text ++ e.front) (e.digit ∷ 10 ∷ [])
    in
    ap (λ x. bytes_eq (take 5 (x ++ reverse front)) missing_end) back ∙ rw e.no_g refl

-- ---- refusals of images end as one may, and don't say that a file isn't there

pub fault_plain : (file : List ℕ) (why : ImageFault) → IsPlain (of_image_fault file why)
fault_plain file fault.NotAnImage = file_plain file (codes "NotAnImage") (λ front. refl)
fault_plain file fault.BadVersion = file_plain file (codes "BadVersion") (λ front. refl)
fault_plain file fault.Truncated = file_plain file (codes "Truncated") (λ front. refl)
fault_plain file (fault.BadField at) =
    line_plain (refusal (codes "BadField") (what.Byte file at)) file (codes "BadField " ++ decimal at) (ends_otherwise (codes "BadField ") at)
fault_plain file fault.Trailing = file_plain file (codes "Trailing") (λ front. refl)
fault_plain file fault.Memory = told_plain []

place_ends : (cause : List ℕ) (at : Where) → EndsOtherwise (cause ++ place_text at)
place_ends cause (where_at.Class k) =
    subst EndsOtherwise (append_assoc cause (codes " class ") (decimal k)) (ends_otherwise (cause ++ codes " class ") k)
place_ends cause (where_at.Body k i) =
    let front = codes " body " ++ decimal k ++ codes " at " in
    subst EndsOtherwise (append_assoc cause front (decimal i)) (ends_otherwise (cause ++ front) i)

pub unsound_plain : (file : List ℕ) (why : VerifyCause) (at : Where) → IsPlain (unsound file why at)
unsound_plain file why at =
    line_plain (refusal (verify_name why) (place_in file at)) file (verify_name why ++ place_text at) (place_ends (verify_name why) at)

pub long_plain : (file : List ℕ) → IsPlain (refused_file file (codes "TooLong"))
long_plain file = file_plain file (codes "TooLong") (λ front. refl)
