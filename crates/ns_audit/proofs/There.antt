-- The instruction that an audit names is there.
use Rattle.std.proofs.Common.{◌≡◌, ℕ, suc, ◌+◌, List, [], ◌∷◌, refl, sym, ap, ◌∙◌, subst, arith, Option, Some, None, Bool, true, false, cond, slice_get, unwrap_or}
use Rattle.std.specs.Prelude.{IsSomeAnd}
use Rattle.std.specs.Option.{option_or}
use Rattle.ns_base.specs.declared.selector.Sel.{Sel}
use Rattle.ns_code.specs.declared.program.CodeProgram.{CodeProgram}
use Rattle.ns_code.specs.declared.body.BodyCode.{BodyCode}
use Rattle.ns_code.specs.declared.instruction.Instr.{Instr}
use Rattle.ns_audit.specs.declared.answer.Audit.{Audit}
use Rattle.ns_audit.specs.declared.answer.Audit.TheVariants.{Yes, Sends, Performs}
use Rattle.ns_audit.specs.Audit.{is_denied, is_perform, sent_by, told_from, told_in, told_of, told_of_body}
use Rattle.ns_audit.specs.Module.{tops, is_of_module}
use Rattle.ns_audit.specs.Stated.{SendsThere, AnswerIsThere, OthersAreThere}

some_and : {A : Type 0} (P : A → Type 0) (o : Option A) (x : A) → o ≡ Some x → P x → IsSomeAnd o P
some_and P o x e p = subst (λ other. IsSomeAnd other P) (sym e) p

module _ (code : CodeProgram) (top : ℕ) (denied : List Sel) where
  abbrev Names : Option Audit → Type 0
  Names None = Unit {0}
  Names (Some audit) = AnswerIsThere code top denied audit

  first_names : (one other : Option Audit) → Names one → Names other → Names (option_or one other)
  first_names None other a b = b
  first_names (Some audit) other a b = a

  -- a body of the module, by its number
  module _ (number : ℕ) (body : BodyCode) (is : slice_get code.bodies number ≡ Some body) (inside : is_of_module (tops code) top body ≡ true) where
    sends_there : (P : Sel → Type 0) (at : ℕ) (instr : Instr) (sel : Sel) → slice_get body.instrs at ≡ Some instr →
        sent_by instr ≡ Some sel → P sel →
        SendsThere code top number at P
    sends_there P at instr sel there sends p =
        some_and (λ (b : BodyCode). (is_of_module (tops code) top b ≡ true) × IsSomeAnd (slice_get b.instrs at) (λ (i : Instr). IsSomeAnd (sent_by i) P))
        (slice_get code.bodies number) body is
        (inside, some_and (λ (i : Instr). IsSomeAnd (sent_by i) P) (slice_get body.instrs at) instr there (some_and P (sent_by instr) sel sends p))

    told_there : (at : ℕ) (instr : Instr) → slice_get body.instrs at ≡ Some instr → (o : Option Sel) → sent_by instr ≡ o →
        Names (told_of code denied number at o)
    told_there at instr there None sends = tt
    told_there at instr there (Some sel) sends = tested (is_denied denied sel) (is_perform code sel) refl refl
      where
        tested : (b c : Bool) → is_denied denied sel ≡ b → is_perform code sel ≡ c →
            Names (cond b (Some (Sends number at)) (cond c (Some (Performs number at)) None))
        tested true c d p = sends_there (λ (s : Sel). is_denied denied s ≡ true) at instr sel there sends d
        tested false true d p = sends_there (λ (s : Sel). is_perform code s ≡ true) at instr sel there sends p
        tested false false d p = tt

    in_there : (at : ℕ) (instrs : List Instr) → ((k : ℕ) → slice_get instrs k ≡ slice_get body.instrs (at + k)) →
        Names (told_in code denied number at instrs)
    in_there at [] rest = tt
    in_there at (instr ∷ instrs) rest =
        let none : at + 0 ≡ at = omega arith in
        let here : slice_get body.instrs at ≡ Some instr = sym (rest 0 ∙ ap (slice_get body.instrs) none) in
        first_names (told_of code denied number at (sent_by instr)) (told_in code denied number (at + 1) instrs) (told_there at instr here (sent_by instr) refl)
        (in_there (at + 1) instrs
        (λ k. let same : at + suc k ≡ at + 1 + k = omega arith in rest (suc k) ∙ ap (slice_get body.instrs) same))

  body_there : (inside : Bool) (number : ℕ) (body : BodyCode) → slice_get code.bodies number ≡ Some body →
      is_of_module (tops code) top body ≡ inside →
      Names (told_of_body code denied inside number body)
  body_there true number body is inside =
      in_there number body is inside 0 body.instrs (λ k. let same : k ≡ 0 + k = omega arith in ap (slice_get body.instrs) same)
  body_there false number body is inside = tt

  from_there : (number : ℕ) (bodies : List BodyCode) → ((k : ℕ) → slice_get bodies k ≡ slice_get code.bodies (number + k)) →
      Names (told_from code denied (tops code) top number bodies)
  from_there number [] rest = tt
  from_there number (body ∷ bodies) rest =
      let none : number + 0 ≡ number = omega arith in
      let here : slice_get code.bodies number ≡ Some body = sym (rest 0 ∙ ap (slice_get code.bodies) none) in
      first_names (told_of_body code denied (is_of_module (tops code) top body) number body) (told_from code denied (tops code) top (number + 1) bodies)
      (body_there (is_of_module (tops code) top body) number body here refl)
      (from_there (number + 1) bodies
      (λ k. let same : number + suc k ≡ number + 1 + k = omega arith in rest (suc k) ∙ ap (slice_get code.bodies) same))

  named : (o : Option Audit) → Names o → AnswerIsThere code top denied (unwrap_or o Yes)
  named None there = tt
  named (Some audit) there = there

pub others_there : (code : CodeProgram) → OthersAreThere code
others_there code top denied =
    named code top denied (told_from code denied (tops code) top 0 code.bodies)
    (from_there code top denied 0 code.bodies (λ k. let same : k ≡ 0 + k = omega arith in ap (slice_get code.bodies) same))
