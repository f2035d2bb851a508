-- What is read of a snapshot was written so, and what was written is read again.
use Rattle.std.proofs.Common.{◌≡◌, ℕ, Bool, true, false, cond, eqb, List, [], ◌∷◌, ◌++◌, length, drop, All, Ok, Err, refl, sym, ap, ◌∙◌, arith, ◌⊎◌, inl, inr}
use Rattle.std.specs.Prelude.{nat_eq}
use Rattle.std.specs.List.{starts_with}
use Rattle.std.proofs.lemmas.Bool.{eqb-true}
use Rattle.std.proofs.lemmas.Bool.Decides.{Decides-eqb}
use Rattle.std.proofs.lemmas.List.{append-nil}
use Rattle.std.proofs.lemmas.Slice.Eq.{starts_is}
use Rattle.ns_code.specs.Fits.{IsByte}
use Rattle.ns_image.specs.Bytes as b
use Rattle.ns_image.specs.Read.{Outcome, got, truncated, bad, half}
use Rattle.ns_image.specs.laws.Format.{IsBytes, IsBytes-drop}
use Rattle.ns_image.specs.laws.Fields.{all_bytes, half_format}
use Rattle.ns_snapshot.specs.declared.fault.SnapFault.TheVariants as f
use Rattle.ns_snapshot.specs.Bytes as s
use Rattle.ns_snapshot.specs.Reading.{Parts, parts, whole, answer, versioned, read_parts}
use Rattle.ns_snapshot.proofs.States.{PartsFit, part_bytes, parts_format}

-- the bytes of a snapshot with these parts
abbrev pub bytes_with : Parts → List ℕ
bytes_with x = s.mark ++ (b.half 1 ++ part_bytes x)

-- ---- what was written is read again

pub parts_are_read : (x : Parts) → PartsFit x → read_parts (bytes_with x) ≡ Ok x
unfolding read_parts
parts_are_read x fits =
    let version : half (b.half 1 ++ part_bytes x) ≡ got 1 (part_bytes x) = half_format.again 1 (part_bytes x) tt (omega arith) in
    let all : parts (part_bytes x) ≡ got x [] = ap parts (sym (append-nil (part_bytes x))) ∙ parts_format.again x [] tt fits in
    rw (version, all) refl

-- ---- what is read was written so

choice : {A : Type 0} (test : Bool) (x y z : A) → cond test x y ≡ z → ((test ≡ true) × (x ≡ z)) ⊎ ((test ≡ false) × (y ≡ z))
choice true x y z e = inl (refl, e)
choice false x y z e = inr (refl, e)

whole_ok : (x : Parts) (rest : List ℕ) (found : Parts) → whole x rest ≡ Ok found → (x ≡ found) × (rest ≡ [])
whole_ok x [] found e = (cc (e), refl)
whole_ok x (byte ∷ rest) found e = absurd (cc (e))

answer_ok : (size : ℕ) (outcome : Outcome Parts) (x : Parts) → answer size outcome ≡ Ok x → outcome ≡ got x []
answer_ok size (got made rest) x e =
    let t = whole_ok made rest x e in
    ap (λ (y : Parts). got y rest) t.0 ∙ ap (got x) t.1
answer_ok size truncated x e = absurd (cc (e))
answer_ok size (bad left) x e = absurd (cc (e))

versioned_read : (size : ℕ) (bytes behind : List ℕ) (outcome : Outcome ℕ) (x : Parts) → IsBytes behind → bytes ≡ s.mark ++ behind → half behind ≡ outcome → versioned size outcome ≡ Ok x → (bytes ≡ bytes_with x) × PartsFit x
versioned_read size bytes behind truncated x fits made is e = absurd (cc (e))
versioned_read size bytes behind (bad left) x fits made is e = absurd (cc (e))
versioned_read size bytes behind (got version mid) x fits made is e =
    let t = half_format.takes behind version mid fits is in
    let begun : bytes ≡ s.mark ++ (b.half version ++ mid) = made ∙ ap (λ (m : List ℕ). s.mark ++ m) t.1 in
    elim (choice (eqb version 1) (answer size (parts mid)) (Err f.BadVersion) (Ok x) e) [
      | inl one ↦
          let at : bytes ≡ s.mark ++ (b.half 1 ++ mid) = begun ∙ ap (λ (v : ℕ). s.mark ++ (b.half v ++ mid)) (eqb-true version 1 one.0) in
          let p = parts_format.takes mid x [] t.2 (answer_ok size (parts mid) x one.1) in
          let is-mid : mid ≡ part_bytes x = p.1 ∙ append-nil (part_bytes x) in
          (at ∙ ap (λ (m : List ℕ). s.mark ++ (b.half 1 ++ m)) is-mid, p.3)
      | inr none ↦ absurd (cc (none.1))
    ]

parts_of : (bytes : List ℕ) (x : Parts) → IsBytes bytes → read_parts bytes ≡ Ok x → (bytes ≡ bytes_with x) × PartsFit x
unfolding read_parts
parts_of bytes x fits e =
    elim (choice (starts_with nat_eq bytes s.mark) (versioned (length bytes) (half (drop 4 bytes))) (Err f.NotASnapshot) (Ok x) e) [
      | inl begun ↦
          let made : bytes ≡ s.mark ++ drop 4 bytes = (starts_is Decides-eqb bytes s.mark (starts_with nat_eq bytes s.mark) refl).0 begun.0 in
          versioned_read (length bytes) bytes (drop 4 bytes) (half (drop 4 bytes)) x (IsBytes-drop 4 bytes fits) made refl begun.1
      | inr none ↦ absurd (cc (none.1))
    ]

pub parts_were_written : (bytes : List ℕ) (x : Parts) → All IsByte bytes → read_parts bytes ≡ Ok x → (bytes ≡ bytes_with x) × PartsFit x
parts_were_written bytes x all e = parts_of bytes x (all_bytes bytes all) e
