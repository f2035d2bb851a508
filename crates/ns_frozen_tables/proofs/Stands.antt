-- Where a body stands, by what is kept of its instructions.
use Rattle.std.proofs.Common.{◌≡◌, ℕ, zero, suc, ◌+◌, ◌<◌, List, [], ◌∷◌, ◌++◌, ◌≤◌, length, slice_get, drop, map, subst, append_assoc, refl, ap, sym, ◌∙◌, arith, Option, Some, None, true, false}
use Rattle.std.specs.Prelude.{option_map, nat_lt}
use Rattle.std.specs.List.{slice_index_or}
use Rattle.std.specs.Option.{option_map_or}
use Rattle.std.proofs.lemmas.Bool.{le-ltb, lt-ltb}
use Rattle.std.proofs.lemmas.Option.{slice_get_within, get_or_from_slice_get}
use Rattle.ns_code.specs.declared.program.CodeProgram.{CodeProgram}
use Rattle.ns_code.specs.declared.body.BodyCode.{BodyCode}
use Rattle.ns_code.specs.declared.instruction.Instr.{Instr}
use Rattle.ns_code.specs.declared.instruction.Instr.TheVariants as instr
use Rattle.ns_verify.specs.Heights.{Pass, begin, next, height_at, heights_from, heights}
use Rattle.ns_verify.specs.Places.{height_before, HeightsAgree}
use Rattle.ns_code.specs.Fits.{Fits, BodyFits}
use Rattle.ns_moves.specs.ValidFrames.{height_of}
use Rattle.ns_frozen.specs.Frames.{Above, Free, Waiting, Under, is_under_initialiser, waits_under, stands_at}
use Rattle.ns_frozen_tables.specs.declared.stand.Stand.{Stand}
use Rattle.ns_frozen_tables.specs.declared.bodies.Bodies.{Bodies}
use Rattle.ns_frozen_tables.specs.Bodies.{AreBodies}
use Rattle.ns_frozen_tables.specs.Stands.{waits_of, stand_at, stands_from, stands_of, waits_for, stands_so, stands_in}

-- there are as many heights as instructions
as_many : (pass : Pass) (number : ℕ) (instrs : List Instr) → length (heights_from pass number instrs) ≡ length instrs
as_many pass number [] = refl
as_many pass number (instr ∷ instrs) = ap (λ n. suc n) (as_many (next pass number instr) (number + 1) instrs)

-- one of them
at_place : (heights : List ℕ) (instrs : List Instr) (place : ℕ) → length heights ≡ length instrs
    → slice_get (stands_from heights instrs) place ≡ option_map (stand_at (slice_index_or heights place 0)) (slice_get instrs place)
at_place [] [] place e = refl
at_place [] (instr ∷ instrs) place e = absurd (omega (arith, e))
at_place (height ∷ heights) [] place e = absurd (omega (arith, e))
at_place (height ∷ heights) (instr ∷ instrs) zero e = refl
at_place (height ∷ heights) (instr ∷ instrs) (suc place) e = at_place heights instrs place (omega (arith, e))

-- an instruction waits as it does by its kind
waits_so : (above : Above) (one : Instr) → waits_for (is_under_initialiser above) (waits_of one) ≡ waits_under above one
waits_so above (instr.Send sel argc) = refl
waits_so above (instr.SendInner sel argc) = refl
waits_so above (instr.SendPrivate level sel argc) = refl
waits_so above (instr.SendSuper sel argc) = refl
waits_so above (instr.InitSuper argc) = refl
waits_so above other = refl

-- a body stands as its instruction does
pub stands_there : (body : BodyCode) (above : Above) (number count : ℕ) → stands_in (stands_of body) above number count ≡ stands_at body above number count
stands_there body above number count =
    ap (λ (o : Option Stand). option_map_or (λ (stand : Stand). stands_so stand above count) o false)
    (at_place (heights body) body.instrs number (as_many (begin (length body.instrs)) 0 body.instrs))
    ∙ of above (slice_get body.instrs number) refl
  where
    past : (xs : List Instr) (n : ℕ) → slice_get xs n ≡ None → length xs ≤ n
    past [] n e = omega arith
    past (x ∷ xs) zero e = absurd (cc)
    past (x ∷ xs) (suc n) e = omega (arith, past xs n e)

    within : (o : Option Instr) → slice_get body.instrs number ≡ o → nat_lt number (length body.instrs) ≡ option_map_or (λ x. true) o false
    within None e = le-ltb number (length body.instrs) (past body.instrs number e)
    within (Some one) e = lt-ltb number (length body.instrs) (slice_get_within body.instrs number one e)

    of : (above : Above) (o : Option Instr) → slice_get body.instrs number ≡ o
        → option_map_or (λ (stand : Stand). stands_so stand above count) (option_map (stand_at (height_of body number)) o) false ≡ stands_at body above number count
    of Free None e = rw (within None e) refl
    of Free (Some one) e = rw (within (Some one) e) refl
    of Waiting None e = rw e refl
    of Waiting (Some one) e = rw (e, waits_so Waiting one) refl
    of (Under kind) None e = rw e refl
    of (Under kind) (Some one) e = rw (e, waits_so (Under kind) one) refl

-- what is kept under the number of a body
kept_there : (bodies : List BodyCode) (body : ℕ) (one : BodyCode) → slice_get bodies body ≡ Some one
    → slice_get (map stands_of bodies) body ≡ Some (stands_of one)
kept_there [] body one e = absurd (cc)
kept_there (first ∷ rest) zero one e = ap (option_map stands_of) e
kept_there (first ∷ rest) (suc body) one e = kept_there rest body one e

-- the same of a body by its number
pub stood : (code : CodeProgram) (bodies : Bodies) (all : List (List Stand)) (body : ℕ) (one : BodyCode) (stands : List Stand) (above : Above) (number count : ℕ)
    → AreBodies code bodies → all ≡ bodies.stands → slice_get code.bodies body ≡ Some one → slice_get all body ≡ Some stands
    → stands_in stands above number count ≡ stands_at one above number count
stood code bodies all body one stands above number count are same there kept =
    let is : Some stands ≡ Some (stands_of one) = sym kept ∙ (ap (λ (xs : List (List Stand)). slice_get xs body) (same ∙ are.stands) ∙ kept_there code.bodies body one there) in
    ap (λ (o : Option (List Stand)). option_map_or (λ (xs : List Stand). stands_in xs above number count) o false) is
    ∙ stands_there one above number count

-- something is kept of each
pub stood_somewhere : (code : CodeProgram) (bodies : Bodies) (all : List (List Stand)) (body : ℕ) (one : BodyCode)
    → AreBodies code bodies → all ≡ bodies.stands → slice_get code.bodies body ≡ Some one → slice_get all body ≡ None → ⊥
stood_somewhere code bodies all body one are same there none =
    let is : None ≡ Some (stands_of one) = sym none ∙ (ap (λ (xs : List (List Stand)). slice_get xs body) (same ∙ are.stands) ∙ kept_there code.bodies body one there) in
    absurd (cc)

-- ---- the pass over a body

drop_on : {A : Type 0} (xs : List A) (k : ℕ) (x : A) (rest : List A) → drop k xs ≡ x ∷ rest → drop (k + 1) xs ≡ rest
drop_on [] zero x rest e = absurd (cc)
drop_on [] (suc k) x rest e = absurd (cc)
drop_on (y ∷ ys) zero x rest e = cc
drop_on (y ∷ ys) (suc k) x rest e =
    let next : suc k + 1 ≡ suc (k + 1) = omega arith in
    ap (λ (n : ℕ). drop n (y ∷ ys)) next ∙ drop_on ys k x rest e

drop_first : {A : Type 0} (xs : List A) (k : ℕ) (x : A) (rest : List A) → drop k xs ≡ x ∷ rest → slice_get xs k ≡ Some x
drop_first [] zero x rest e = absurd (cc)
drop_first [] (suc k) x rest e = absurd (cc)
drop_first (y ∷ ys) zero x rest e = cc
drop_first (y ∷ ys) (suc k) x rest e = drop_first ys k x rest e

-- What the pass over a body knows, what is left of it, and what was kept.
pub record Passed (body : BodyCode) (at : ℕ) (pass : Pass) (left : List Instr) (stands : List Stand) : Type 0 where
  pub instrs : drop at body.instrs ≡ left
  pub heights : drop at (heights body) ≡ heights_from pass at left
  pub all : stands ++ stands_from (heights_from pass at left) left ≡ stands_of body

pub pass_goes_on : (body : BodyCode) (at : ℕ) (pass after : Pass) (instr : Instr) (rest : List Instr) (stands more : List Stand)
    → Passed body at pass (instr ∷ rest) stands
    → after ≡ next pass at instr → more ≡ stands ++ stand_at (height_at pass at) instr ∷ [] → Passed body (at + 1) after rest more
pass_goes_on body at pass after instr rest stands more passed a m = record {
  instrs = drop_on body.instrs at instr rest passed.instrs;
  heights = drop_on (heights body) at (height_at pass at) (heights_from (next pass at instr) (at + 1) rest) passed.heights
      ∙ ap (λ (q : Pass). heights_from q (at + 1) rest) (sym a);
  all = ap (λ (xs : List Stand). xs ++ stands_from (heights_from after (at + 1) rest) rest) m
      ∙ (ap (λ (q : Pass). (stands ++ stand_at (height_at pass at) instr ∷ []) ++ stands_from (heights_from q (at + 1) rest) rest) a
      ∙ (append_assoc stands (stand_at (height_at pass at) instr ∷ []) (stands_from (heights_from (next pass at instr) (at + 1) rest) rest) ∙ passed.all));
}

-- a height is at most the body's, which fits
pub pass_low : (body : BodyCode) (at : ℕ) (pass : Pass) (instr : Instr) (rest : List Instr) (stands : List Stand) → Passed body at pass (instr ∷ rest) stands
    → (slice_get body.instrs at ≡ Some instr → slice_get (heights body) at ≡ Some (height_before body at))
    → (slice_get body.instrs at ≡ Some instr → HeightsAgree body at instr)
    → body.height < 65536 → height_at pass at ≤ 65535
pass_low body at pass instr rest stands passed is agree fits =
    let there = drop_first body.instrs at instr rest passed.instrs in
    let one : Some (height_at pass at) ≡ Some (height_before body at) = sym (drop_first (heights body) at (height_at pass at) (heights_from (next pass at instr) (at + 1) rest) passed.heights) ∙ is there in
    let same : height_at pass at ≡ height_before body at = cc in
    omega (arith, same, (agree there).within, fits)

-- the next instruction is there
pub pass_within : (body : BodyCode) (at : ℕ) (pass : Pass) (instr : Instr) (rest : List Instr) (stands : List Stand) → Passed body at pass (instr ∷ rest) stands
    → at < length body.instrs
pass_within body at pass instr rest stands passed = slice_get_within body.instrs at instr (drop_first body.instrs at instr rest passed.instrs)

-- a body of code that fits has a low height and few instructions
pub body_fits : (code : CodeProgram) (number : ℕ) (body : BodyCode) → Fits code → slice_get code.bodies number ≡ Some body
    → (body.height < 65536) × (length body.instrs ≤ 65536)
body_fits code number body fits there =
    let one : BodyFits code body = subst (BodyFits code) (get_or_from_slice_get code.bodies number body body there) (fits.bodies number body (slice_get_within code.bodies number body there)) in
    (omega (arith, one.height), omega (arith, one.instr_count))
