-- The names, texts and places of a program's code.
use Rattle.std.proofs.Common.{◌≡◌, ◌≤◌, ℕ, List, [], ◌∷◌, ◌++◌, length, refl, sym, ap, ◌∙◌, subst, arith}
use Rattle.std.specs.Prelude.{Option, Some, None, All, map, flat_map, option_map, slice_get, false}
use Rattle.std.proofs.lemmas.List.Elements.{All-nil, All-cons, All-append, All-head, All-tail}
use Rattle.std.proofs.lemmas.Option.{same_Some}
use Rattle.ns_scope.specs.declared.scope.CodeSide.{CodeSide}
use Rattle.ns_code.specs.declared.body.BodyCode.{BodyCode}
use Rattle.ns_code.specs.Fits.{IsName, IsShort}
use Rattle.ns_code.specs.Selector.{text_arity}
use Rattle.ns_resolved.specs.Program as m
use Rattle.ns_resolved.specs.Right.{HasMethod, HaveMethods, IsRightClass}
use Rattle.ns_resolved.specs.Tables.{names_of, texts_of, class_names, body_names, body_texts, used_names, kind_of}
use Rattle.ns_resolved.specs.There.{IsThere}
use Rattle.ns_resolved.specs.Uses.{DoesHave}
use Rattle.ns_gen_code.specs.Code.{body_lines, body_code, code_of}
use Rattle.ns_gen_code.specs.Stated.{line_names, first_text}
use Rattle.ns_link.specs.Spoken.{IsInFiles, NamesFit}
use Rattle.ns_link.proofs.Lines.{body_says, places_fine, names_named, texts_short}
use Rattle.ns_link.proofs.Program.{all_named, flat_all, got}
use Rattle.ns_link.proofs.Says.{BodySays, MethodSays, SlotSays, ClassSays}
use Rattle.ns_link.proofs.Small.{all_got}
use Rattle.ns_link.proofs.SoundWhole.{Known}
use Rattle.ns_link.proofs.Words.{spoken_short}

-- What is known of a program, and what it says.
pub record Says (meant : m.Meant) : Type 0 where
  pub known : Known meant
  pub ordered : (body : m.Body) (k : ℕ) → flat_map line_names (body_lines k body.does) ≡ body_names body
  pub bodies : All (BodySays (IsInFiles (length meant.files))) meant.bodies
  pub classes : All ClassSays meant.classes

module _ (meant : m.Meant) (says : Says meant) where
  known : Known meant
  known = says.known

  body_at : (n : ℕ) (body : m.Body) → slice_get meant.bodies n ≡ Some body → BodySays (IsInFiles (length meant.files)) body
  body_at n body here = got (BodySays (IsInFiles (length meant.files))) meant.bodies n body says.bodies here

  -- ---- names of classes

  slots_named : (slots : List m.Slot) → All SlotSays slots → All IsName (map (λ slot. slot.name) slots)
  slots_named [] h = All-nil IsName
  slots_named (slot ∷ slots) h =
      All-cons IsName slot.name (map (λ slot. slot.name) slots) (All-head SlotSays slot slots h).name (slots_named slots (All-tail SlotSays slot slots h))

  few_arguments : (s : CodeSide) (number : ℕ) (method : m.Method) → HasMethod meant s number method → text_arity method.selector ≤ 255
  few_arguments s number method has =
      let right = known.right.bodies method.body has.0 has.3 in
      let params = right.placed.params in
      let locals = right.few_locals in
      let same = has.7 in
      omega (params, locals, same, arith)

  methods_named : (s : CodeSide) (number : ℕ) (methods : List m.Method) → HaveMethods meant s number methods → All MethodSays methods →
      All IsName (map (λ method. method.selector) methods)
  methods_named s number [] have h = All-nil IsName
  methods_named s number (method ∷ methods) have h =
      All-cons IsName method.selector (map (λ method. method.selector) methods)
      (spoken_short method.selector (All-head MethodSays method methods h).selector (few_arguments s number method have.0))
      (methods_named s number methods have.1 (All-tail MethodSays method methods h))

  few_super : (number : ℕ) (class : m.Declaration) → slice_get meant.classes number ≡ Some class → IsRightClass meant number class →
      text_arity class.super_selector ≤ 255
  few_super number class here right =
      let has = right.initialiser in
      let body = has.0 in
      let uses = subst (DoesHave (IsThere meant class.initialiser body)) has.3 (known.right.bodies class.initialiser body has.2).uses in
      let start = uses.1.0 in
      let same_class : start.0 ≡ class = same_Some start.0 class (sym start.1 ∙ ap (slice_get meant.classes) has.5 ∙ here) in
      let same = start.2 ∙ ap (λ (x : m.Declaration). text_arity x.super_selector) same_class in
      let few = uses.1.1 in
      omega (same, few, arith)

  class_named : (number : ℕ) (class : m.Declaration) → slice_get meant.classes number ≡ Some class → All IsName (class_names class)
  class_named number class here =
      let one = got ClassSays meant.classes number class says.classes here in
      let right = known.right.classes number class here in
      let params = right.few_params in
      let arity = right.factory in
      let methods = map (λ (method : m.Method). method.selector) class.methods in
      let others = map (λ (method : m.Method). method.selector) class.side_methods in
      let slots = map (λ (slot : m.Slot). slot.name) class.slots in
      let members = slots ++ (methods ++ others) in
      All-cons IsName class.name (class.factory ∷ class.super_selector ∷ members) one.name
      (All-cons IsName class.factory (class.super_selector ∷ members) (spoken_short class.factory one.factory (omega (params, arity, arith)))
      (All-cons IsName class.super_selector members (spoken_short class.super_selector one.super_selector (few_super number class here right))
      (All-append IsName slots (methods ++ others) (slots_named class.slots one.slots)
      (All-append IsName methods others (methods_named _ number class.methods right.methods one.methods)
      (methods_named _ number class.side_methods right.side_methods one.side_methods)))))

  -- ---- names, texts, locals and places of bodies

  body_named : (n : ℕ) (body : m.Body) → slice_get meant.bodies n ≡ Some body → All IsName (body_names body)
  body_named n body here =
      let k = first_text meant.bodies n in
      let lines = body_lines k body.does in
      subst (All IsName) (says.ordered body k)
      (names_named (IsInFiles (length meant.files)) meant n body (length (texts_of meant)) (kind_of body.does) false lines
      (body_says (IsInFiles (length meant.files)) body.does k (body_at n body here).does)
      (known.lines n body here (known.right.bodies n body here)))

  pub names_are_names : All IsName (code_of meant).names
  names_are_names =
      all_named (used_names meant) []
      (All-append IsName (flat_map class_names meant.classes) (flat_map body_names meant.bodies) (flat_all IsName class_names meant.classes class_named)
      (flat_all IsName body_names meant.bodies body_named)) (All-nil IsName)

  pub texts_are_short : All IsShort (code_of meant).texts
  texts_are_short =
      flat_all IsShort body_texts meant.bodies (λ n body here. texts_short (IsInFiles (length meant.files)) body.does (body_at n body here).does)

  one_fits : (n : ℕ) (code : BodyCode) (found : Option m.Body) → slice_get meant.bodies n ≡ found →
      option_map (body_code (names_of meant) (first_text meant.bodies n)) found ≡ Some code → NamesFit (length meant.files) code
  one_fits n code None here e = absurd (let f : None ≡ Some code = e in cc)
  one_fits n code (Some body) here e =
      let k = first_text meant.bodies n in
      let one = body_at n body here in
      subst (NamesFit (length meant.files)) (same_Some (body_code (names_of meant) k body) code e)
      (record {
        local_names = one.locals;
        places = places_fine (IsInFiles (length meant.files)) (body_lines k body.does) 0 (body_says (IsInFiles (length meant.files)) body.does k one.does);
      })

  pub bodies_fit : All (NamesFit (length meant.files)) (code_of meant).bodies
  bodies_fit =
      all_got (NamesFit (length meant.files)) (code_of meant).bodies
      (λ n code e. one_fits n code (slice_get meant.bodies n) refl (sym (known.coded n) ∙ e))
