-- The numbers of instructions fit their fields.
use Rattle.std.proofs.Common.{◌≡◌, ◌≤◌, ◌<◌, ℕ, ◌+◌, ◌-◌, List, [], ◌∷◌, length, ◌^◌, refl, sym, ◌∙◌, arith}
use Rattle.std.specs.Prelude.{Bool, false, Option, Some, None, All, map, slice_get}
use Rattle.std.specs.Option.{ForSome}
use Rattle.std.proofs.lemmas.List.{length-map}
use Rattle.std.proofs.lemmas.List.Elements.{All-nil, All-cons, All-weaker}
use Rattle.std.proofs.lemmas.Option.{same_Some, slice_get_within}
use Rattle.ns_scope.specs.declared.scope.CodeSide.{CodeSide}
use Rattle.ns_scope.specs.declared.scope.CodeSide.TheVariants as side
use Rattle.ns_code.specs.declared.instruction.Instr.{Instr}
use Rattle.ns_code.specs.declared.instruction.Instr.TheVariants as i
use Rattle.ns_code.specs.Fits.{InstrFits}
use Rattle.ns_resolved.specs.Program as m
use Rattle.ns_resolved.specs.Tables.{names_of, texts_of, kind_of, side_number}
use Rattle.ns_resolved.specs.There.{IsThere, StandsAs, IsRightBody}
use Rattle.ns_gen_code.specs.Code.{CodeLine, does, symbol, sends, starts, plain, inner, private_at, super, instr_of, places_from, body_lines, body_code, code_of}
use Rattle.ns_gen_code.specs.Stated.{first_text}
use Rattle.ns_gen_code.specs.Uses.{InstrHas, LinesHave}
use Rattle.ns_link.specs.Numbers.{PlaceStands, NumbersFit}
use Rattle.ns_link.proofs.PlacesStand.{Belongs, places_belong, places_ordered}
use Rattle.ns_link.proofs.Small.{place_small, SizesAreWithin}

-- ---- instructions

module _ (meant : m.Meant) (number : ℕ) (body : m.Body) (kind : ℕ) (names : List (List ℕ)) (few_names : length names ≤ 65536)
    (few_bodies : length meant.bodies ≤ 65536) (few_texts : length (texts_of meant) < 2 ^ 32) where
  instr_fits : (instr : Instr) → InstrHas (IsThere meant number body) (length (texts_of meant)) kind instr → InstrFits instr
  instr_fits i.PushNil h = tt
  instr_fits i.PushTrue h = tt
  instr_fits i.PushFalse h = tt
  instr_fits (i.PushInt n) h = h
  instr_fits (i.PushSym sel) h = absurd h
  instr_fits (i.PushText text) h = omega (h, few_texts, arith)
  instr_fits i.PushSelf h = tt
  instr_fits (i.PushOuter level) h = h.1
  instr_fits (i.PushLocal hops index) h = (h.1, h.2)
  instr_fits (i.StoreLocal hops index) h = (h.1, h.2)
  instr_fits (i.PushBlock block) h = let below = slice_get_within meant.bodies block h.0 h.3 in omega (below, few_bodies, arith)
  instr_fits (i.MakeArray count) h = h
  instr_fits i.Pop h = tt
  instr_fits (i.Pick k) h = omega (h, arith)
  instr_fits (i.Send sel count) h = absurd h
  instr_fits (i.SendInner sel count) h = absurd h
  instr_fits (i.SendPrivate level sel count) h = absurd h
  instr_fits (i.SendSuper sel count) h = absurd h
  instr_fits (i.InitSuper count) h = absurd h
  instr_fits (i.StoreSlot slot) h = h.0.1
  instr_fits i.Return h = tt
  instr_fits i.ReturnSelf h = tt
  instr_fits i.ReturnHome h = tt
  instr_fits (i.Jump at) h = absurd h
  instr_fits (i.JumpFalse at) h = absurd h
  instr_fits (i.JumpTrue at) h = absurd h

  lines_fit : (lines : List CodeLine) (started : Bool) → LinesHave (IsThere meant number body) (length (texts_of meant)) kind started lines →
      All InstrFits (map (instr_of names) lines)
  lines_fit [] started h = All-nil InstrFits
  lines_fit (does instr ∷ lines) started h = All-cons InstrFits instr (map (instr_of names) lines) (instr_fits instr h.0) (lines_fit lines started h.1)
  lines_fit (symbol name ∷ lines) started h =
      All-cons InstrFits (instr_of names (symbol name)) (map (instr_of names) lines) (place_small names name few_names) (lines_fit lines started h)
  lines_fit (sends plain sent count ∷ lines) started h =
      All-cons InstrFits (instr_of names (sends plain sent count)) (map (instr_of names) lines) (place_small names sent.selector few_names, h.1.1)
      (lines_fit lines started h.2)
  lines_fit (sends inner sent count ∷ lines) started h =
      All-cons InstrFits (instr_of names (sends inner sent count)) (map (instr_of names) lines) (place_small names sent.selector few_names, h.1.1)
      (lines_fit lines started h.2)
  lines_fit (sends (private_at level) sent count ∷ lines) started h =
      All-cons InstrFits (instr_of names (sends (private_at level) sent count)) (map (instr_of names) lines)
      (h.0.1, place_small names sent.selector few_names, h.1.1) (lines_fit lines started h.2)
  lines_fit (sends super sent count ∷ lines) started h =
      All-cons InstrFits (instr_of names (sends super sent count)) (map (instr_of names) lines) (place_small names sent.selector few_names, h.1.1)
      (lines_fit lines started h.2)
  lines_fit (starts place count ∷ lines) started h =
      All-cons InstrFits (instr_of names (starts place count)) (map (instr_of names) lines) h.2.1 (lines_fit lines _ h.3)

-- ---- heads

kind_small : (body : m.Does) → kind_of body ≤ 3
kind_small (m.as_method values steps) = omega arith
kind_small (m.as_block values steps) = omega arith
kind_small (m.as_initialiser start) = omega arith
kind_small (m.as_clause head) = omega arith

side_small : (s : CodeSide) → side_number s ≤ 1
side_small side.Instance = omega arith
side_small side.Class = omega arith

none_parent : (parent : Option ℕ) → parent ≡ None → ForSome parent (λ k. k < 2 ^ 32 - 1)
none_parent parent none = λ k e. absurd (let f : parent ≡ Some k = e in cc)

parent_small : (meant : m.Meant) (number : ℕ) (body : m.Body) (kind : m.Does) → number < 65536 → StandsAs meant number body kind →
    ForSome body.parent (λ k. k < 2 ^ 32 - 1)
parent_small meant number body (m.as_method values steps) few h = none_parent body.parent h
parent_small meant number body (m.as_block values steps) few h =
    λ k e. let same = same_Some h.0 k (sym h.2 ∙ e) in
    let before = h.3 in
    omega (before, same, few, arith)
parent_small meant number body (m.as_initialiser start) few h = none_parent body.parent h
parent_small meant number body (m.as_clause head) few h = none_parent body.parent h

places_few : (lines : List CodeLine) (number : ℕ) → length (places_from number lines) ≤ length lines
places_few [] number = omega arith
places_few (does instr ∷ lines) number = let h = places_few lines (number + 1) in omega (h, arith)
places_few (symbol name ∷ lines) number = let h = places_few lines (number + 1) in omega (h, arith)
places_few (sends way sent count ∷ lines) number = let h = places_few lines (number + 1) in omega (h, arith)
places_few (starts place count ∷ lines) number = let h = places_few lines (number + 1) in omega (h, arith)

-- ---- a body

pub body_fits : (meant : m.Meant) (number : ℕ) (body : m.Body) → slice_get meant.bodies number ≡ Some body → IsRightBody meant number body →
    SizesAreWithin (code_of meant) → length meant.bodies ≤ 65536 → length meant.classes ≤ 4096 → length (texts_of meant) < 2 ^ 32 →
    slice_get (code_of meant).bodies number ≡ Some (body_code (names_of meant) (first_text meant.bodies number) body) →
    LinesHave (IsThere meant number body) (length (texts_of meant)) (kind_of body.does) false (body_lines (first_text meant.bodies number) body.does) →
    NumbersFit (body_code (names_of meant) (first_text meant.bodies number) body)
body_fits meant number body here right sizes few_bodies few_classes few_texts coded have =
    let names = names_of meant in
    let k = first_text meant.bodies number in
    let code = body_code names k body in
    let lines = body_lines k body.does in
    let below = slice_get_within meant.bodies number body here in
    let class = right.placed.class in
    let params = right.placed.params in
    let locals = right.few_locals in
    let long = sizes.long number code coded in
    let high = sizes.high number code coded in
    let as_many = length-map lines (instr_of names) in
    let few = places_few lines 0 in
    record {
      kind = kind_small body.does;
      side = side_small body.side;
      class = omega (class, few_classes, arith);
      parent = parent_small meant number body body.does (omega (below, few_bodies, arith)) right.placed.stands;
      params = omega (params, locals, arith);
      locals = locals;
      height = omega (high, arith);
      instr_count = long;
      instrs = lines_fit meant number body (kind_of body.does) names sizes.names few_bodies few_texts lines false have;
      name_count = refl;
      place_count = omega (few, as_many, long, arith);
      places = All-weaker (Belongs code.instrs) (PlaceStands code) (λ place h. record { instr = h.0; carries = h.1 }) code.places
          (places_belong names lines [] code.instrs refl);
      places_in_order = places_ordered lines 0;
    }
