-- Whole snapshots: what was written is read again, and what is read was written so.
use Rattle.std.proofs.Common.{◌≡◌, ℕ, Bool, true, false, cond, List, ◌++◌, length, drop, All, Option, Some, None, Ok, Err, refl, sym, ap, subst, ◌∙◌, ◌⊎◌}
use Rattle.std.specs.Prelude.{nat_eq, Result}
use Rattle.std.specs.List.{starts_with}
use Rattle.std.proofs.lemmas.Bool.Decides.{Decides-eqb}
use Rattle.std.proofs.lemmas.List.{take_at, drop_at}
use Rattle.std.proofs.lemmas.List.Elements.{All-take, All-drop}
use Rattle.std.proofs.lemmas.Slice.Eq.{starts_is}
use Rattle.ns_code.specs.declared.program.CodeProgram.{CodeProgram}
use Rattle.ns_code.specs.Fits.{Fits, IsByte, IsShort}
use Rattle.ns_verify.specs.Verify as verifier
use Rattle.ns_verify.specs.declared.fault.Fault.{Fault}
use Rattle.ns_image.specs.declared.fault.ImageFault.{ImageFault}
use Rattle.ns_image.specs.Bytes as b
use Rattle.ns_image.specs.Reading.{read_image}
use Rattle.ns_frozen.specs.declared.frozen.Frozen.{Frozen}
use Rattle.ns_frozen.specs.declared.fault.RestoreFault.{RestoreFault}
use Rattle.ns_frozen.specs.Fault.{fault_of, IsValid}
use Rattle.ns_snapshot.specs.declared.fault.SnapFault.{SnapFault}
use Rattle.ns_snapshot.specs.declared.fault.SnapFault.TheVariants as f
use Rattle.ns_snapshot.specs.Bytes as s
use Rattle.ns_snapshot.specs.Reading.{Parts, read_parts}
use Rattle.ns_snapshot.specs.declared.snapshot.Snapshot.{Snapshot}
use Rattle.ns_snapshot.specs.Snapshot.{of_code, of_image, of_parts, read_data, judged, of_data}
use Rattle.ns_snapshot.specs.Laws.{CanBeWritten, WrittenIsRead, ReadWasWritten}
use Rattle.ns_snapshot.proofs.States.{part_bytes}
use Rattle.ns_snapshot.proofs.Snapshots.{bytes_with, parts_are_read, parts_were_written}

-- what the image of version 2 begins with
abbrev begin : List ℕ
begin = b.mark ++ b.half 2

-- ---- what was written is read again

pub written_is_read : (code : CodeProgram) (frozen : Frozen) → (Fits code → read_image (b.bytes_of code) ≡ Ok code) → WrittenIsRead code frozen
written_is_read code frozen image can =
    let told : read_parts (s.snapshot_of code frozen) ≡ Ok (record { image = b.bytes_of code; frozen = frozen }) = parts_are_read (record { image = b.bytes_of code; frozen = frozen }) (can.short, can.fields) in
    let told_data : read_data (s.snapshot_of code frozen) ≡ Ok (record { code = code; frozen = frozen }) = ap of_parts told ∙ ap (of_image frozen) (image can.fits) ∙ ap (of_code frozen code) can.sound in
    ap of_data told_data ∙ ap (judged (record { code = code; frozen = frozen })) can.valid

-- ---- what is read was written so

begun_ok : (test : Bool) (read : Result Snapshot SnapFault) (snapshot : Snapshot) → cond test read (Err f.BadImage) ≡ Ok snapshot → (test ≡ true) × (read ≡ Ok snapshot)
begun_ok true read snapshot e = (refl, e)
begun_ok false read snapshot e = absurd (cc (e))

parts_ok : (read : Result Parts SnapFault) (snapshot : Snapshot) → of_parts read ≡ Ok snapshot
    → (x : Parts) × (read ≡ Ok x) × (starts_with nat_eq x.image begin ≡ true) × (of_image x.frozen (read_image x.image) ≡ Ok snapshot)
parts_ok (Err fault) snapshot e = absurd (cc (e))
parts_ok (Ok x) snapshot e =
    let t = begun_ok (starts_with nat_eq x.image begin) (of_image x.frozen (read_image x.image)) snapshot e in
    (x, refl, t.0, t.1)

image_ok : (frozen : Frozen) (read : Result CodeProgram ImageFault) (snapshot : Snapshot) → of_image frozen read ≡ Ok snapshot
    → (code : CodeProgram) × (read ≡ Ok code) × (of_code frozen code (verifier.fault_of code) ≡ Ok snapshot)
image_ok frozen (Err fault) snapshot e = absurd (cc (e))
image_ok frozen (Ok code) snapshot e = (code, refl, e)

code_ok : (frozen : Frozen) (code : CodeProgram) (fault : Option Fault) (snapshot : Snapshot) → of_code frozen code fault ≡ Ok snapshot
    → (fault ≡ None) × (record { code = code; frozen = frozen } ≡ snapshot)
code_ok frozen code (Some fault) snapshot e = absurd (cc (e))
code_ok frozen code None snapshot e = (refl, cc (e))

judged_ok : (made : Snapshot) (fault : Option RestoreFault) (snapshot : Snapshot) → judged made fault ≡ Ok snapshot → (fault ≡ None) × (made ≡ snapshot)
judged_ok made (Some fault) snapshot e = absurd (cc (e))
judged_ok made None snapshot e = (refl, cc (e))

data_ok : (read : Result Snapshot SnapFault) (snapshot : Snapshot) → of_data read ≡ Ok snapshot → (read ≡ Ok snapshot) × IsValid snapshot.code snapshot.frozen
data_ok (Err fault) snapshot e = absurd (cc (e))
data_ok (Ok made) snapshot e =
    let j = judged_ok made (fault_of made.code made.frozen) snapshot e in
    (ap (λ (x : Snapshot). Ok x) j.1, subst (λ (x : Snapshot). IsValid x.code x.frozen) j.1 j.0)

-- ---- what is known of images

-- Code that is read fits, and the image is one of the two that can be written of it.
abbrev IsImageOf : Type 0
IsImageOf =
    (bytes : List ℕ) (code : CodeProgram) → All IsByte bytes → read_image bytes ≡ Ok code
    → Fits code × ((bytes ≡ b.bytes_of code) ⊎ ((bytes ≡ b.old_bytes_of code) × (b.bare code ≡ code)))

-- An image of version 2 is that which is written of the code that is read of it.
abbrev IsWrittenAgain : Type 0
IsWrittenAgain =
    (bytes rest : List ℕ) (code : CodeProgram) → All IsByte bytes → bytes ≡ b.mark ++ (b.half 2 ++ rest) → read_image bytes ≡ Ok code
    → b.bytes_of code ≡ bytes

-- ---- the bytes of the image are bytes

behind_all : (front rest : List ℕ) → All IsByte (front ++ rest) → All IsByte rest
behind_all front rest all = subst (All IsByte) (drop_at front rest (length front) refl) (All-drop IsByte (length front) (front ++ rest) all)

front_all : (front rest : List ℕ) → All IsByte (front ++ rest) → All IsByte front
front_all front rest all = subst (All IsByte) (take_at front rest (length front) refl) (All-take IsByte (length front) (front ++ rest) all)

image_bytes : (x : Parts) → All IsByte (bytes_with x) → All IsByte x.image
image_bytes x all =
    let behind_mark : All IsByte (b.half 1 ++ part_bytes x) = behind_all s.mark (b.half 1 ++ part_bytes x) all in
    let behind_version : All IsByte (part_bytes x) = behind_all (b.half 1) (part_bytes x) behind_mark in
    let text : All IsByte (b.text x.image) = front_all (b.text x.image) (s.frozen x.frozen) behind_version in
    behind_all (b.word (length x.image)) x.image text

-- an image that begins so is that of the code that is read of it
image_was_written : IsImageOf → IsWrittenAgain → (bytes : List ℕ) (code : CodeProgram) → All IsByte bytes → starts_with nat_eq bytes begin ≡ true → read_image bytes ≡ Ok code → Fits code × (b.bytes_of code ≡ bytes)
image_was_written was again bytes code all begins e =
    let made : bytes ≡ begin ++ drop (length begin) bytes = (starts_is Decides-eqb bytes begin (starts_with nat_eq bytes begin) refl).0 begins in
    ((was bytes code all e).0, again bytes (drop (length begin) bytes) code all made e)

pub read_was_written : IsImageOf → IsWrittenAgain → (bytes : List ℕ) → ReadWasWritten bytes
read_was_written was again bytes snapshot all e =
    let d = data_ok (read_data bytes) snapshot e in
    let p = parts_ok (read_parts bytes) snapshot d.0 in
    let w = parts_were_written bytes p.0 all p.1 in
    let i = image_ok p.0.frozen (read_image p.0.image) snapshot p.3 in
    let c = code_ok p.0.frozen i.0 (verifier.fault_of i.0) snapshot i.2 in
    let valid = subst (λ (x : Snapshot). IsValid x.code x.frozen) (sym c.1) d.1 in
    let m = image_was_written was again p.0.image i.0 (image_bytes p.0 (subst (All IsByte) w.0 all)) p.2 i.1 in
    subst (λ (made : Snapshot). (bytes ≡ s.snapshot_of made.code made.frozen) × CanBeWritten made.code made.frozen) c.1 (
      w.0 ∙ ap (λ (image : List ℕ). bytes_with (record { image = image; frozen = p.0.frozen })) (sym m.1),
      record { sound = c.0; fits = m.0; short = subst IsShort (sym m.1) w.1.0; valid = valid; fields = w.1.1 },
    )
