-- The verifier finds no fault in the bodies of generated code.
use Rattle.std.proofs.Common.{◌≡◌, ◌<◌, ℕ, ◌+◌, List, [], ◌∷◌, length, refl, ap, ◌∙◌, arith}
use Rattle.std.specs.Prelude.{Bool, true, false, ◌&&◌, ◌||◌, not, Option, Some, None, slice_get, map, flat_map, option_map, nat_lt, ◌==◌, if◌then◌else◌}
use Rattle.std.specs.Option.{option_map_or, option_or}
use Rattle.ns_base.specs.Names.{has}
use Rattle.ns_code.specs.declared.program.CodeProgram.{CodeProgram}
use Rattle.ns_code.specs.declared.body.BodyCode.{BodyCode}
use Rattle.ns_code.specs.declared.instruction.Instr.{Instr}
use Rattle.ns_code.specs.declared.instruction.Instr.TheVariants as i
use Rattle.ns_code.specs.Selector.{text_arity}
use Rattle.ns_code.specs.Soundness.{block_kind, method_kind, initialiser_kind}
use Rattle.ns_code.specs.Table.{goes_on, starts_super}
use Rattle.ns_verify.specs.declared.fault.VerifyCause.TheVariants.{BadJump, BadHeight, BadSlot, BadScope, BadLiteral, NoReturn}
use Rattle.ns_verify.specs.declared.fault.Where.TheVariants.{Body}
use Rattle.ns_verify.specs.declared.fault.Fault.{Fault}
use Rattle.ns_gen_code.proofs.Named.{is_named}
use Rattle.ns_verify.specs.Causes as w
use Rattle.ns_verify.specs.Heights.{Pass, next}
use Rattle.ns_verify.specs.Places.{home_of}
use Rattle.ns_verify.specs.Verify.{placed, instrs_fault}
use Rattle.ns_resolved.specs.Program as m
use Rattle.ns_resolved.specs.Tables.{names_of, texts_of, kind_of}
use Rattle.ns_resolved.specs.There as t
use Rattle.ns_gen_code.specs.Code.{CodeLine, Way, does, symbol, sends, starts, plain, inner, private_at, super, instr_of, send_instr, code_of}
use Rattle.ns_gen_code.specs.Stated.{AreThere, FindsOperands, HaveGoodHeights, Ends, line_names}
use Rattle.ns_gen_code.specs.Uses.{InstrHas, WayHas, LinesHave}
use Rattle.ns_gen_code.proofs.Around.{coded}
use Rattle.ns_gen_code.proofs.Causes.{HomesAre, no_local, no_level, block_there, good_send, good_start, slot_there, private_there, home_is_method}

not_less : (a b : ℕ) → a < b → not (nat_lt a b) ≡ false
not_less a b h = grind (arith, h)

-- the causes about what an instruction uses
abbrev Unfaulted : CodeProgram → ℕ → BodyCode → ℕ → Bool → Instr → Type 0
Unfaulted code number body home started instr =
    (w.has_bad_slot code number body instr ≡ false) × (w.has_bad_use code number body home started instr ≡ false) × (w.has_bad_name code body instr ≡ false)

returns_home : (meant : m.Meant) → t.AreRightBodies meant → HomesAre (code_of meant) → (number : ℕ) (body : m.Body) →
    slice_get meant.bodies number ≡ Some body →
    t.StandsInMethod meant number → kind_of body.does ≡ block_kind →
    not (kind_of body.does == block_kind && home_of (code_of meant) number (coded meant number body) == method_kind) ≡ false
returns_home meant right homes number body here stands kind =
    ap (λ k. not (k == block_kind && home_of (code_of meant) number (coded meant number body) == method_kind)) kind
    ∙ ap (λ k. not (k == method_kind)) (home_is_method meant right homes number body here stands)

or_false : (a b : Bool) → a ≡ false → b ≡ false → (a || b) ≡ false
or_false a b e f = ap (λ x. x || b) e ∙ f

and_false : (a b : Bool) → b ≡ false → (a && b) ≡ false
and_false true b h = h
and_false false b h = refl

or_true : (a : Bool) → (a || true) ≡ true
or_true true = refl
or_true false = refl

differ : (a b : ℕ) → a < b → (a == b) ≡ false
differ a b h = grind (arith, h)

-- what has begun, where an instruction begins nothing
goes_started : (before started now : Bool) → before ≡ started → now ≡ false → (before || now) ≡ started
goes_started before true now e f = ap (λ b. b || now) e
goes_started before false now e f = ap (λ b. b || now) e ∙ f

no_cause : (a b c d e f : Bool) → a ≡ false → b ≡ false → c ≡ false → d ≡ false → e ≡ false → f ≡ false →
    (if a then Some BadJump else (if b then Some BadHeight else (if c then Some BadSlot else (if d then Some BadScope
    else (if e then Some BadLiteral else (if f then Some NoReturn else None)))))) ≡ None
no_cause a b c d e f p q r s t u =
    ap (λ x. if x then Some BadJump else (if b then Some BadHeight else (if c then Some BadSlot else (if d then Some BadScope
    else (if e then Some BadLiteral else (if f then Some NoReturn else None)))))) p
    ∙ ap (λ x. if x then Some BadHeight else (if c then Some BadSlot else (if d then Some BadScope
    else (if e then Some BadLiteral else (if f then Some NoReturn else None))))) q
    ∙ ap (λ x. if x then Some BadSlot else (if d then Some BadScope else (if e then Some BadLiteral else (if f then Some NoReturn else None)))) r
    ∙ ap (λ x. if x then Some BadScope else (if e then Some BadLiteral else (if f then Some NoReturn else None))) s
    ∙ ap (λ x. if x then Some BadLiteral else (if f then Some NoReturn else None)) t
    ∙ ap (λ x. if x then Some NoReturn else None) u

module _ (meant : m.Meant) (right : t.AreRightBodies meant) (homes : HomesAre (code_of meant)) (number : ℕ) (body : m.Body)
    (here : slice_get meant.bodies number ≡ Some body) where
  abbrev pub home : ℕ
  home = home_of (code_of meant) number (coded meant number body)

  abbrev Good : Bool → Instr → Type 0
  Good started instr = Unfaulted (code_of meant) number (coded meant number body) home started instr

  instr_good : (started : Bool) (instr : Instr) → InstrHas (t.IsThere meant number body) (length (texts_of meant)) (kind_of body.does) instr → Good started instr
  instr_good started i.PushNil u = (refl, refl, refl)
  instr_good started i.PushTrue u = (refl, refl, refl)
  instr_good started i.PushFalse u = (refl, refl, refl)
  instr_good started (i.PushInt n) u = (refl, refl, refl)
  instr_good started (i.PushSym sel) u = absurd u
  instr_good started (i.PushText text) u = (refl, refl, not_less text (length (texts_of meant)) u)
  instr_good started i.PushSelf u = (refl, refl, refl)
  instr_good started (i.PushOuter level) u = (refl, no_level meant (coded meant number body) level u.0.0 u.0.1, refl)
  instr_good started (i.PushLocal hops index) u = let found = no_local meant right number hops index u.0 in (found.0, found.1, refl)
  instr_good started (i.StoreLocal hops index) u = let found = no_local meant right number hops index u.0 in (found.0, found.1, refl)
  instr_good started (i.PushBlock block) u = (refl, ap not (block_there meant number block u), refl)
  instr_good started (i.MakeArray count) u = (refl, refl, refl)
  instr_good started i.Pop u = (refl, refl, refl)
  instr_good started (i.Pick k) u = (refl, refl, refl)
  instr_good started (i.Send sel count) u = absurd u
  instr_good started (i.SendInner sel count) u = absurd u
  instr_good started (i.SendPrivate level sel count) u = absurd u
  instr_good started (i.SendSuper sel count) u = absurd u
  instr_good started (i.InitSuper count) u = absurd u
  instr_good started (i.StoreSlot slot) u = (slot_there meant body slot u.0.0, ap (λ kind. not (kind == initialiser_kind)) u.1, refl)
  instr_good started i.Return u = (refl, u, refl)
  instr_good started i.ReturnSelf u = (refl, u, refl)
  instr_good started i.ReturnHome u = (refl, returns_home meant right homes number body here u.0 u.1, refl)
  instr_good started (i.Jump at) u = absurd u
  instr_good started (i.JumpFalse at) u = absurd u
  instr_good started (i.JumpTrue at) u = absurd u

  no_start : (instr : Instr) → InstrHas (t.IsThere meant number body) (length (texts_of meant)) (kind_of body.does) instr → starts_super instr ≡ false
  no_start i.PushNil u = refl
  no_start i.PushTrue u = refl
  no_start i.PushFalse u = refl
  no_start (i.PushInt n) u = refl
  no_start (i.PushSym sel) u = absurd u
  no_start (i.PushText text) u = refl
  no_start i.PushSelf u = refl
  no_start (i.PushOuter level) u = refl
  no_start (i.PushLocal hops index) u = refl
  no_start (i.StoreLocal hops index) u = refl
  no_start (i.PushBlock block) u = refl
  no_start (i.MakeArray count) u = refl
  no_start i.Pop u = refl
  no_start (i.Pick k) u = refl
  no_start (i.Send sel count) u = absurd u
  no_start (i.SendInner sel count) u = absurd u
  no_start (i.SendPrivate level sel count) u = absurd u
  no_start (i.SendSuper sel count) u = absurd u
  no_start (i.InitSuper count) u = absurd u
  no_start (i.StoreSlot slot) u = refl
  no_start i.Return u = refl
  no_start i.ReturnSelf u = refl
  no_start i.ReturnHome u = refl
  no_start (i.Jump at) u = absurd u
  no_start (i.JumpFalse at) u = absurd u
  no_start (i.JumpTrue at) u = absurd u

  send_good : (started : Bool) (way : Way) (selector : List ℕ) (count : ℕ) → has (names_of meant) selector ≡ true →
      WayHas (t.IsThere meant number body) (length (texts_of meant)) (kind_of body.does) way selector → count ≡ text_arity selector →
      Good started (send_instr (names_of meant) way selector count)
  send_good started plain selector count h u e = (refl, refl, good_send meant selector count h e)
  send_good started inner selector count h u e = (refl, refl, good_send meant selector count h e)
  send_good started (private_at level) selector count h u e = (
    refl,
    or_false _ _ (no_level meant (coded meant number body) level u.0.0 u.0.2) (private_there meant number body level selector h u.0),
    good_send meant selector count h e,
  )
  send_good started super selector count h u e = (refl, refl, good_send meant selector count h e)

  send_starts : (way : Way) (selector : List ℕ) (count : ℕ) → starts_super (send_instr (names_of meant) way selector count) ≡ false
  send_starts plain selector count = refl
  send_starts inner selector count = refl
  send_starts (private_at level) selector count = refl
  send_starts super selector count = refl

  -- ---- one line

  line_goes : (line : CodeLine) → goes_on (instr_of (names_of meant) line) ≡ goes_on (instr_of [] line)
  line_goes (does instr) = refl
  line_goes (symbol name) = refl
  line_goes (sends plain sent count) = refl
  line_goes (sends inner sent count) = refl
  line_goes (sends (private_at level) sent count) = refl
  line_goes (sends super sent count) = refl
  line_goes (starts place count) = refl

  -- only the last line may go on to no other
  not_last : (line : CodeLine) (lines : List CodeLine) (at count : ℕ) → Ends (line ∷ lines) → at + length (line ∷ lines) ≡ count →
      (at + 1 == count && goes_on (instr_of (names_of meant) line)) ≡ false
  not_last line [] at count e h = and_false (at + 1 == count) (goes_on (instr_of (names_of meant) line)) (line_goes line ∙ e)
  not_last line (next_line ∷ lines) at count e h =
      ap (λ b. b && goes_on (instr_of (names_of meant) line)) (differ (at + 1) count (omega (h, arith)))

  -- what is behind a line of a body
  abbrev pub Ending : List CodeLine → Type 0
  Ending [] = Unit {0}
  Ending (line ∷ lines) = Ends (line ∷ lines)

  behind : (line : CodeLine) (lines : List CodeLine) → Ends (line ∷ lines) → Ending lines
  behind line [] e = tt
  behind line (next_line ∷ lines) e = e

  abbrev pub faults : Pass → ℕ → List CodeLine → Option Fault
  faults pass at lines = instrs_fault (code_of meant) number (coded meant number body) home pass at (map (instr_of (names_of meant)) lines)

  one_line : (pass : Pass) (at height : ℕ) (line : CodeLine) (lines : List CodeLine) →
      w.has_bad_head (code_of meant) number (coded meant number body) ≡ false →
      Good pass.started (instr_of (names_of meant) line) →
      HaveGoodHeights (coded meant number body) pass at (map (instr_of (names_of meant)) (line ∷ lines)) →
      FindsOperands height (map (instr_of (names_of meant)) (line ∷ lines)) →
      Ends (line ∷ lines) → at + length (line ∷ lines) ≡ length (coded meant number body).instrs →
      faults (next pass at (instr_of (names_of meant) line)) (at + 1) lines ≡ None → faults pass at (line ∷ lines) ≡ None
  one_line pass at height line lines head good heights finds ends count rest =
      let code = code_of meant in
      let shown = coded meant number body in
      let instr = instr_of (names_of meant) line in
      let jump : w.has_bad_jump shown instr ≡ false = ap (λ o. option_map_or (λ at. not (nat_lt at (length shown.instrs))) o false) finds.2 in
      let scope : w.has_bad_scope_at code number shown home pass.started at instr ≡ false =
      or_false (at == 0 && w.has_bad_head code number shown) _ (and_false (at == 0) _ head) good.1 in
      let cause : w.cause_at code number shown home pass at instr ≡ None =
      no_cause _ _ _ _ _ _ jump heights.0 good.0 scope good.2 (not_last line lines at (length shown.instrs) ends count) in
      ap (λ c. option_or (option_map (placed (Body number at)) c) (faults (next pass at instr) (at + 1) lines)) cause ∙ rest

  pub lines_unfaulted : (lines : List CodeLine) (pass : Pass) (started : Bool) (at height : ℕ) →
      w.has_bad_head (code_of meant) number (coded meant number body) ≡ false → pass.started ≡ started →
      LinesHave (t.IsThere meant number body) (length (texts_of meant)) (kind_of body.does) started lines →
      AreThere (names_of meant) (flat_map line_names lines) →
      HaveGoodHeights (coded meant number body) pass at (map (instr_of (names_of meant)) lines) →
      FindsOperands height (map (instr_of (names_of meant)) lines) →
      Ending lines → at + length lines ≡ length (coded meant number body).instrs → faults pass at lines ≡ None
  lines_unfaulted [] pass started at height head s u there heights finds ends count = refl
  lines_unfaulted (does instr ∷ lines) pass started at height head s u there heights finds ends count =
      one_line pass at height (does instr) lines head (instr_good pass.started instr u.0) heights finds ends count
      (lines_unfaulted lines (next pass at instr) started (at + 1) _ head (goes_started pass.started started _ s (no_start instr u.0)) u.1 there
      heights.1 finds.3 (behind (does instr) lines ends) (omega (count, arith)))
  lines_unfaulted (symbol name ∷ lines) pass started at height head s u there heights finds ends count =
      one_line pass at height (symbol name) lines head (refl, refl, ap not (is_named meant name there.0)) heights finds ends count
      (lines_unfaulted lines (next pass at (instr_of (names_of meant) (symbol name))) started (at + 1) _ head
      (goes_started pass.started started false s refl) u there.1
      heights.1 finds.3 (behind (symbol name) lines ends) (omega (count, arith)))
  lines_unfaulted (sends way sent arguments ∷ lines) pass started at height head s u there heights finds ends count =
      one_line pass at height (sends way sent arguments) lines head (send_good pass.started way sent.selector arguments there.0 u.0 u.1.0) heights finds ends count
      (lines_unfaulted lines (next pass at (instr_of (names_of meant) (sends way sent arguments))) started (at + 1) _ head
      (goes_started pass.started started _ s (send_starts way sent.selector arguments)) u.2 there.1
      heights.1 finds.3 (behind (sends way sent arguments) lines ends) (omega (count, arith)))
  lines_unfaulted (starts place arguments ∷ lines) pass started at height head s u there heights finds ends count =
      one_line pass at height (starts place arguments) lines head
      (refl, or_false _ _ (ap (λ kind. not (kind == initialiser_kind)) u.1) (s ∙ u.0), good_start meant body arguments u.2.0) heights finds ends count
      (lines_unfaulted lines (next pass at (i.InitSuper arguments)) true (at + 1) _ head (or_true pass.started) u.3 there
      heights.1 finds.3 (behind (starts place arguments) lines ends) (omega (count, arith)))
