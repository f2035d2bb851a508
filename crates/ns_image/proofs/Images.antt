-- What is read of an image was written so, and what was written is read again.
use Rattle.std.proofs.Common.{◌≡◌, ℕ, Bool, true, false, cond, eqb, List, [], ◌∷◌, ◌++◌, length, drop, All, Ok, Err, refl, sym, ap, ◌∙◌, arith, ◌⊎◌, inl, inr}
use Rattle.std.specs.Prelude.{nat_eq, Result, IfOk}
use Rattle.std.specs.List.{starts_with}
use Rattle.std.proofs.lemmas.Bool.{eqb-true}
use Rattle.std.proofs.lemmas.Bool.Decides.{Decides-eqb}
use Rattle.std.proofs.lemmas.List.{append-nil}
use Rattle.std.proofs.lemmas.Slice.Eq.{starts_is}
use Rattle.ns_code.specs.declared.program.CodeProgram.{CodeProgram}
use Rattle.ns_code.specs.Fits.{Fits, IsByte}
use Rattle.ns_image.specs.declared.fault.ImageFault.{ImageFault}
use Rattle.ns_image.specs.declared.fault.ImageFault.TheVariants as f
use Rattle.ns_image.specs.Bytes.{bytes_of, old_bytes_of, bare, mark}
use Rattle.ns_image.specs.Bytes as b
use Rattle.ns_image.specs.Read.{Outcome, got, truncated, bad, half}
use Rattle.ns_image.specs.Reading.{read_image, versioned, answer, ended, program, old_program}
use Rattle.ns_image.specs.Reads.{ReadingAnswers}
use Rattle.ns_image.specs.laws.Format.{IsBytes, IsBytes-drop}
use Rattle.ns_image.specs.laws.Fields.{all_bytes, half_format}
use Rattle.ns_image.proofs.Programs.{program_format, old_program_format, old_fits, old_parts}

-- ---- what was written is read again

pub written_is_read : (code : CodeProgram) → Fits code → read_image (bytes_of code) ≡ Ok code
unfolding read_image
written_is_read code fits =
    let version : half (b.half 2 ++ b.program code) ≡ got 2 (b.program code) = half_format.again 2 (b.program code) tt (omega arith) in
    let whole : program (b.program code) ≡ got code [] = ap program (sym (append-nil (b.program code))) ∙ program_format.again code [] tt fits in
    rw (version, whole) refl

pub old_is_read : (code : CodeProgram) → Fits code → bare code ≡ code → read_image (old_bytes_of code) ≡ Ok code
unfolding read_image
old_is_read code fits same =
    let version : half (b.half 1 ++ b.old_program code) ≡ got 1 (b.old_program code) = half_format.again 1 (b.old_program code) tt (omega arith) in
    let whole : old_program (b.old_program code) ≡ got code [] = ap old_program (sym (append-nil (b.old_program code))) ∙ old_program_format.again code [] tt (old_parts code fits same) in
    rw (version, whole) refl

-- ---- what is read was written so

choice : {A : Type 0} (test : Bool) (x y z : A) → cond test x y ≡ z → ((test ≡ true) × (x ≡ z)) ⊎ ((test ≡ false) × (y ≡ z))
choice true x y z e = inl (refl, e)
choice false x y z e = inr (refl, e)

ended_ok : (code : CodeProgram) (rest : List ℕ) (found : CodeProgram) → ended code rest ≡ Ok found → (code ≡ found) × (rest ≡ [])
ended_ok code [] found e = (cc (e), refl)
ended_ok code (byte ∷ rest) found e = absurd (cc (e))

answer_ok : (size : ℕ) (outcome : Outcome CodeProgram) (code : CodeProgram) → answer size outcome ≡ Ok code → outcome ≡ got code []
answer_ok size (got made rest) code e =
    let parts = ended_ok made rest code e in
    ap (λ (x : CodeProgram). got x rest) parts.0 ∙ ap (got code) parts.1
answer_ok size truncated code e = absurd (cc (e))
answer_ok size (bad left) code e = absurd (cc (e))

-- The bytes are the image of the code in one of the two versions.
abbrev IsImage : List ℕ → CodeProgram → Type 0
IsImage bytes code = (bytes ≡ bytes_of code) ⊎ ((bytes ≡ old_bytes_of code) × (bare code ≡ code))

new_read : (bytes mid : List ℕ) (code : CodeProgram) → IsBytes mid → bytes ≡ mark ++ (b.half 2 ++ mid) → program mid ≡ got code [] →
    Fits code × IsImage bytes code
new_read bytes mid code fits parts e =
    let t = program_format.takes mid code [] fits e in
    let is-mid : mid ≡ b.program code = t.1 ∙ append-nil (b.program code) in
    (t.3, inl (parts ∙ ap (λ (m : List ℕ). mark ++ (b.half 2 ++ m)) is-mid))

old_read : (bytes mid : List ℕ) (code : CodeProgram) → IsBytes mid → bytes ≡ mark ++ (b.half 1 ++ mid) → old_program mid ≡ got code [] →
    Fits code × IsImage bytes code
old_read bytes mid code fits parts e =
    let t = old_program_format.takes mid code [] fits e in
    let is-mid : mid ≡ b.old_program code = t.1 ∙ append-nil (b.old_program code) in
    let o = old_fits code t.3 in
    (o.0, inr (parts ∙ ap (λ (m : List ℕ). mark ++ (b.half 1 ++ m)) is-mid, o.1))

versioned_read : (size : ℕ) (bytes behind : List ℕ) (outcome : Outcome ℕ) (code : CodeProgram) → IsBytes behind → bytes ≡ mark ++ behind →
    half behind ≡ outcome → versioned size outcome ≡ Ok code → Fits code × IsImage bytes code
versioned_read size bytes behind truncated code fits parts is e = absurd (cc (e))
versioned_read size bytes behind (bad left) code fits parts is e = absurd (cc (e))
versioned_read size bytes behind (got version mid) code fits parts is e =
    let t = half_format.takes behind version mid fits is in
    let whole : bytes ≡ mark ++ (b.half version ++ mid) = parts ∙ ap (λ (m : List ℕ). mark ++ m) t.1 in
    elim (choice (eqb version 1) (answer size (old_program mid)) (cond (eqb version 2) (answer size (program mid)) (Err f.BadVersion)) (Ok code) e) [
      | inl one ↦
          let at : bytes ≡ mark ++ (b.half 1 ++ mid) = whole ∙ ap (λ (v : ℕ). mark ++ (b.half v ++ mid)) (eqb-true version 1 one.0) in
          old_read bytes mid code t.2 at (answer_ok size (old_program mid) code one.1)
      | inr more ↦
          elim (choice (eqb version 2) (answer size (program mid)) (Err f.BadVersion) (Ok code) more.1) [
            | inl two ↦
                let at : bytes ≡ mark ++ (b.half 2 ++ mid) = whole ∙ ap (λ (v : ℕ). mark ++ (b.half v ++ mid)) (eqb-true version 2 two.0) in
                new_read bytes mid code t.2 at (answer_ok size (program mid) code two.1)
            | inr none ↦ absurd (cc (none.1))
          ]
    ]

read_bytes : (bytes : List ℕ) (code : CodeProgram) → IsBytes bytes → read_image bytes ≡ Ok code → Fits code × IsImage bytes code
unfolding read_image
read_bytes bytes code fits e =
    elim (choice (starts_with nat_eq bytes mark) (versioned (length bytes) (half (drop 4 bytes))) (Err f.NotAnImage) (Ok code) e) [
      | inl begun ↦
          let parts : bytes ≡ mark ++ drop 4 bytes = (starts_is Decides-eqb bytes mark (starts_with nat_eq bytes mark) refl).0 begun.0 in
          versioned_read (length bytes) bytes (drop 4 bytes) (half (drop 4 bytes)) code (IsBytes-drop 4 bytes fits) parts refl begun.1
      | inr none ↦ absurd (cc (none.1))
    ]

pub read_was_written : (bytes : List ℕ) (code : CodeProgram) → All IsByte bytes → read_image bytes ≡ Ok code →
    Fits code × IsImage bytes code
read_was_written bytes code all e = read_bytes bytes code (all_bytes bytes all) e

-- What is answered is code that fits.
pub answer_fits : (bytes : List ℕ) (result : Result CodeProgram ImageFault) → IsBytes bytes → ReadingAnswers (read_image bytes) result →
    IfOk result Fits
answer_fits bytes (Ok code) fits e = (read_bytes bytes code fits e).0
answer_fits bytes (Err fault) fits e = tt

-- An image of version 2 isn't one of version 1.
versions_differ : (mid rest : List ℕ) → mark ++ (b.half 2 ++ mid) ≡ mark ++ (b.half 1 ++ rest) → ⊥
versions_differ mid rest e = cc (e)

pub written_again : (bytes rest : List ℕ) (code : CodeProgram) → All IsByte bytes → bytes ≡ mark ++ (b.half 2 ++ rest) →
    read_image bytes ≡ Ok code → bytes_of code ≡ bytes
written_again bytes rest code all begins e =
    elim (read_was_written bytes code all e).1 [
      | inl new ↦ sym new
      | inr old ↦ absurd (versions_differ rest (b.old_program code) (sym begins ∙ old.0))
    ]
