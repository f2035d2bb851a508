-- What of a body's code is too high, or that it fits.
use Rattle.std.proofs.Common.{◌≡◌, ◌<◌, ◌≤◌, ◌∙◌, ℕ, List, length, ap, sym, refl, arith}
use Rattle.std.specs.Prelude.{nat_lt, map, Bool, true, false}
use Rattle.std.proofs.lemmas.Bool.{lt-ltb, ltb-true}
use Rattle.ns_code.specs.declared.body.BodyCode.{BodyCode}
use Rattle.ns_gen_code.specs.Code.{CodeLine, instr_of, greatest_height, with_code}
use Rattle.ns_gen_code.specs.Sizes.{most, most_height, is_too_high}
use Rattle.ns_gen_code.specs.declared.size.SizeKind.TheVariants.{Height}
use Rattle.ns_gen_bodies.specs.Finishing.{finished}
use Rattle.ns_gen_bodies.specs.laws.Finishing.{told, as_many}
use Rattle.ns_gen_bodies.specs.declared.finish.Finished.TheVariants.{Fits, TooLarge}

above : (a b : ℕ) → b ≤ a → nat_lt a b ≡ false
above a b h = tested (nat_lt a b) refl where
  tested : (x : Bool) → nat_lt a b ≡ x → x ≡ false
  tested true e = absurd (omega (ltb-true a b e, h, arith))
  tested false e = refl

pub too_high : (names : List (List ℕ)) (head : BodyCode) (lines : List CodeLine) → length lines ≤ most →
    most_height < greatest_height 0 (map (instr_of names) lines) → TooLarge Height ≡ finished (with_code names head lines)
too_high names head lines short h =
    let code = with_code names head lines in
    ap (λ high. told code false high) (sym (lt-ltb most_height code.height h))
    ∙ ap (λ long. told code long (is_too_high code)) (sym (above most (length code.instrs) (omega (as_many names lines, short, arith))))

pub fits : (names : List (List ℕ)) (head : BodyCode) (lines : List CodeLine) → length lines ≤ most →
    greatest_height 0 (map (instr_of names) lines) ≤ most_height → Fits (with_code names head lines) ≡ finished (with_code names head lines)
fits names head lines short low =
    let code = with_code names head lines in
    ap (λ high. told code false high) (sym (above most_height code.height low))
    ∙ ap (λ long. told code long (is_too_high code)) (sym (above most (length code.instrs) (omega (as_many names lines, short, arith))))
