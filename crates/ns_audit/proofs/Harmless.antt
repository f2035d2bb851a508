-- What an audit that answers Yes says of the instructions of a module.
use Rattle.std.proofs.Common.{◌≡◌, ℕ, zero, suc, ◌+◌, List, [], ◌∷◌, refl, sym, ap, ◌∙◌, subst, Option, Some, None, Bool, true, false, cond, drop, slice_get, unwrap_or}
use Rattle.std.specs.Option.{option_map_or, option_or}
use Rattle.ns_base.specs.declared.place.Place.{Place as SourcePlace}
use Rattle.ns_base.specs.declared.selector.Sel.{Sel}
use Rattle.ns_code.specs.declared.program.CodeProgram.{CodeProgram}
use Rattle.ns_code.specs.declared.body.BodyCode.{BodyCode}
use Rattle.ns_code.specs.declared.instruction.Instr.{Instr}
use Rattle.ns_code.specs.declared.instruction.Instr.TheVariants.{ReturnSelf}
use Rattle.ns_moves.specs.Steps.{PlacedInstr, placed, steps_of, steps_from}
use Rattle.ns_audit.specs.declared.answer.Audit.{Audit}
use Rattle.ns_audit.specs.declared.answer.Audit.TheVariants.{Yes, Sends, Performs}
use Rattle.ns_audit.specs.Audit.{audited, is_denied, is_perform, sent_by, told_from, told_in, told_of, told_of_body}
use Rattle.ns_audit.specs.Module.{tops, is_of_module}
use Rattle.ns_audit.specs.Stated.{is_body_in}

module _ (code : CodeProgram) (denied : List Sel) where
  -- an instruction sends neither a denied selector nor `perform:with:`
  abbrev pub Passes : Instr → Type 0
  Passes instr = (sel : Sel) → sent_by instr ≡ Some sel → (is_denied denied sel ≡ false) × (is_perform code sel ≡ false)

  -- So do all of these.
  abbrev pub AllPass : List Instr → Type 0
  AllPass [] = Unit {0}
  AllPass (instr ∷ instrs) = Passes instr × AllPass instrs

  abbrev pub StepsPass : List PlacedInstr → Type 0
  StepsPass [] = Unit {0}
  StepsPass (step ∷ rest) = Passes step.0 × StepsPass rest

  -- of two answers neither is there
  neither : (one other : Option Audit) → option_or one other ≡ None → (one ≡ None) × (other ≡ None)
  neither None other e = (refl, e)
  neither (Some audit) other e = absurd (cc)

  decided : (audit other : Audit) (b c : Bool) → cond b (Some audit) (cond c (Some other) None) ≡ None → (b ≡ false) × (c ≡ false)
  decided audit other true c e = absurd (cc)
  decided audit other false true e = absurd (cc)
  decided audit other false false e = (refl, refl)

  told_passes : (body at : ℕ) (instr : Instr) → told_of code denied body at (sent_by instr) ≡ None → Passes instr
  told_passes body at instr e sel sends =
      decided (Sends body at) (Performs body at) (is_denied denied sel) (is_perform code sel) (ap (told_of code denied body at) (sym sends) ∙ e)

  all_pass : (body at : ℕ) (instrs : List Instr) → told_in code denied body at instrs ≡ None → AllPass instrs
  all_pass body at [] e = tt
  all_pass body at (instr ∷ instrs) e =
      let both = neither (told_of code denied body at (sent_by instr)) (told_in code denied body (at + 1) instrs) e in
      (told_passes body at instr both.0, all_pass body (at + 1) instrs both.1)

  -- ---- steps

  placed_pass : (places : List (ℕ × SourcePlace)) (number : ℕ) (instrs : List Instr) → AllPass instrs →
      StepsPass (placed places number instrs)
  placed_pass places number [] all = tt
  placed_pass places number (instr ∷ instrs) all = (all.0, placed_pass places (number + 1) instrs all.1)

  drop_pass : (count : ℕ) (steps : List PlacedInstr) → StepsPass steps → StepsPass (drop count steps)
  drop_pass zero steps all = all
  drop_pass (suc count) [] all = tt
  drop_pass (suc count) (step ∷ rest) all = drop_pass count rest all.1

  -- ---- bodies

  module _ (module_tops : List ℕ) (top : ℕ) where
    body_passes : (inside : Bool) (number : ℕ) (body : BodyCode) → inside ≡ true → told_of_body code denied inside number body ≡ None →
        AllPass body.instrs
    body_passes true number body e none = all_pass number 0 body.instrs none
    body_passes false number body e none = absurd (cc)

    bodies_pass : (number k : ℕ) (bodies : List BodyCode) (body : BodyCode) → told_from code denied module_tops top number bodies ≡ None →
        slice_get bodies k ≡ Some body →
        is_of_module module_tops top body ≡ true → AllPass body.instrs
    bodies_pass number k [] body none there inside = absurd (cc)
    bodies_pass number zero (first ∷ bodies) body none there inside =
        let same : first ≡ body = cc in
        let both = neither (told_of_body code denied (is_of_module module_tops top first) number first) (told_from code denied module_tops top (number + 1) bodies) none in
        subst (λ (b : BodyCode). AllPass b.instrs) same
        (body_passes (is_of_module module_tops top first) number first (ap (is_of_module module_tops top) same ∙ inside) both.0)
    bodies_pass number (suc k) (first ∷ bodies) body none there inside =
        let both = neither (told_of_body code denied (is_of_module module_tops top first) number first) (told_from code denied module_tops top (number + 1) bodies) none in
        bodies_pass (number + 1) k bodies body both.1 there inside

  -- ---- an answer that isn't Yes is told

  abbrev IsNoYes : Option Audit → Type 0
  IsNoYes None = Unit {0}
  IsNoYes (Some Yes) = ⊥
  IsNoYes (Some (Sends body at)) = Unit {0}
  IsNoYes (Some (Performs body at)) = Unit {0}

  first_no_yes : (one other : Option Audit) → IsNoYes one → IsNoYes other → IsNoYes (option_or one other)
  first_no_yes None other a b = b
  first_no_yes (Some audit) other a b = a

  of_no_yes : (body at : ℕ) (sends : Option Sel) → IsNoYes (told_of code denied body at sends)
  of_no_yes body at None = tt
  of_no_yes body at (Some sel) = tested (is_denied denied sel) (is_perform code sel)
    where
      tested : (b c : Bool) → IsNoYes (cond b (Some (Sends body at)) (cond c (Some (Performs body at)) None))
      tested true c = tt
      tested false true = tt
      tested false false = tt

  in_no_yes : (body at : ℕ) (instrs : List Instr) → IsNoYes (told_in code denied body at instrs)
  in_no_yes body at [] = tt
  in_no_yes body at (instr ∷ instrs) = first_no_yes _ _ (of_no_yes body at (sent_by instr)) (in_no_yes body (at + 1) instrs)

  body_no_yes : (inside : Bool) (number : ℕ) (body : BodyCode) → IsNoYes (told_of_body code denied inside number body)
  body_no_yes true number body = in_no_yes number 0 body.instrs
  body_no_yes false number body = tt

  from_no_yes : (module_tops : List ℕ) (top number : ℕ) (bodies : List BodyCode) →
      IsNoYes (told_from code denied module_tops top number bodies)
  from_no_yes module_tops top number [] = tt
  from_no_yes module_tops top number (body ∷ bodies) =
      first_no_yes _ _ (body_no_yes (is_of_module module_tops top body) number body) (from_no_yes module_tops top (number + 1) bodies)

  none_told : (o : Option Audit) → IsNoYes o → unwrap_or o Yes ≡ Yes → o ≡ None
  none_told None isnt e = refl
  none_told (Some Yes) isnt e = absurd isnt
  none_told (Some (Sends body at)) isnt e = absurd (cc)
  none_told (Some (Performs body at)) isnt e = absurd (cc)

  -- Each instruction of a body of the module passes, from wherever the body goes on.
  pub steps_pass : (top body count : ℕ) → audited code top denied ≡ Yes → is_body_in code top body ≡ true →
      StepsPass (steps_from code body count)
  steps_pass top body count passed inside = drop_pass count (steps_of code body) (there (slice_get code.bodies body) refl inside)
    where
      none : told_from code denied (tops code) top 0 code.bodies ≡ None
      none = none_told (told_from code denied (tops code) top 0 code.bodies) (from_no_yes (tops code) top 0 code.bodies) passed

      there : (o : Option BodyCode) → slice_get code.bodies body ≡ o → option_map_or (is_of_module (tops code) top) o false ≡ true →
          StepsPass (option_map_or (λ (b : BodyCode). placed b.places 0 b.instrs) o ((ReturnSelf, None) ∷ []))
      there None e inside = absurd (cc)
      there (Some b) e inside = placed_pass b.places 0 b.instrs (bodies_pass (tops code) top 0 body code.bodies b none e inside)
