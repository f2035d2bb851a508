-- A body that is too long is told as such by the lines that are kept of it.
use Rattle.std.proofs.Common.{◌≡◌, ◌<◌, ◌≤◌, ◌∙◌, ℕ, List, [], length, ap, sym, refl, arith}
use Rattle.std.specs.Prelude.{nat_lt, map, Bool, true, false, if◌then◌else◌}
use Rattle.std.proofs.lemmas.List.{length-map}
use Rattle.std.proofs.lemmas.Bool.{lt-ltb, ltb-true, ltb-false}
use Rattle.ns_code.specs.declared.body.BodyCode.{BodyCode}
use Rattle.ns_gen_code.specs.Code.{CodeLine, instr_of, with_code}
use Rattle.ns_gen_code.specs.Sizes.{most, is_too_high}
use Rattle.ns_gen_code.specs.declared.size.SizeKind.TheVariants.{Code, Height}
use Rattle.ns_gen_draft.specs.Drafts.{filled}
use Rattle.ns_gen_draft.specs.laws.Filling.{filled_few, filled_many}
use Rattle.ns_gen_bodies.specs.Finishing.{finished}
use Rattle.ns_gen_bodies.specs.declared.finish.Finished.{Finished}
use Rattle.ns_gen_bodies.specs.declared.finish.Finished.TheVariants.{Fits, TooLarge}

abbrev pub told : BodyCode → Bool → Bool → Finished
told code long high = if long then TooLarge Code else if high then TooLarge Height else Fits code

-- A body has as many instructions as lines.
pub as_many : (names : List (List ℕ)) (lines : List CodeLine) → length (map (instr_of names) lines) ≡ length lines
as_many names lines = length-map lines (instr_of names)

-- One with too many lines is too large.
pub too_long : (names : List (List ℕ)) (head : BodyCode) (lines : List CodeLine) → most < length lines →
    TooLarge Code ≡ finished (with_code names head lines)
too_long names head lines h =
    let code = with_code names head lines in
    ap (λ long. told code long (is_too_high code)) (sym (lt-ltb most (length code.instrs) (omega (as_many names lines, h, arith))))

-- The lines that are kept of a body are finished as all of them are.
pub finished_filled : (names : List (List ℕ)) (head : BodyCode) (lines : List CodeLine) →
    finished (with_code names head (filled [] lines)) ≡ finished (with_code names head lines)
finished_filled names head lines = tested (nat_lt most (length lines)) refl
  where
    tested : (many : Bool) → nat_lt most (length lines) ≡ many →
        finished (with_code names head (filled [] lines)) ≡ finished (with_code names head lines)
    tested true e =
        let many : most < length lines = ltb-true most (length lines) e in
        sym (too_long names head (filled [] lines) (filled_many lines many)) ∙ too_long names head lines many
    tested false e =
        let few : length lines ≤ most = omega (ltb-false most (length lines) e, arith) in
        ap (λ kept. finished (with_code names head kept)) (filled_few lines few)
