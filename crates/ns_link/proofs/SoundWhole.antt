-- The records, the bodies and the counts of a program's code fit their fields.
use Rattle.std.proofs.Common.{◌≡◌, ◌≤◌, ◌<◌, ℕ, length, ◌^◌, refl, sym, ap, ◌∙◌, subst, arith}
use Rattle.std.specs.Prelude.{Option, Some, None, All, option_map, slice_get, false}
use Rattle.std.proofs.lemmas.List.{length-map}
use Rattle.std.proofs.lemmas.List.Elements.{All-map}
use Rattle.std.proofs.lemmas.Option.{same_Some}
use Rattle.ns_code.specs.declared.body.BodyCode.{BodyCode}
use Rattle.ns_code.specs.Fits.{ClassFits}
use Rattle.ns_resolved.specs.Program as m
use Rattle.ns_resolved.specs.Right.{IsRight}
use Rattle.ns_resolved.specs.Tables.{names_of, texts_of, body_texts, class_code, kind_of}
use Rattle.ns_resolved.specs.There.{IsThere, IsRightBody}
use Rattle.ns_gen_code.specs.Code.{instr_of, body_lines, body_code, code_of}
use Rattle.ns_gen_code.specs.Stated.{TextsInOrder, Ends, first_text}
use Rattle.ns_gen_code.specs.Sizes.{size_fault}
use Rattle.ns_gen_code.specs.Uses.{LinesHave}
use Rattle.ns_link.specs.Differ.{HasFewMembers}
use Rattle.ns_link.specs.Numbers.{NumbersFit}
use Rattle.ns_link.proofs.Instructions.{body_fits}
use Rattle.ns_link.proofs.Records.{record_fits}
use Rattle.ns_link.proofs.Small.{all_got, bodies_counted, SizesAreWithin, sizes_within}
use Rattle.ns_link.proofs.TextCount.{fewer_texts, few_in_all}

-- What the laws below say of a program.
pub record Known (meant : m.Meant) : Type 0 where
  pub right : IsRight meant
  pub size : size_fault (code_of meant) ≡ None
  pub few_classes : length meant.classes ≤ 4096
  pub few_members : (number : ℕ) (class : m.Declaration) → slice_get meant.classes number ≡ Some class → HasFewMembers class
  pub coded : (n : ℕ) → slice_get (code_of meant).bodies n ≡ option_map (body_code (names_of meant) (first_text meant.bodies n)) (slice_get meant.bodies n)
  pub order : (node : m.Node) → TextsInOrder node
  pub ends : (body : m.Does) (k : ℕ) → Ends (body_lines k body)
  pub lines : (number : ℕ) (body : m.Body) → slice_get meant.bodies number ≡ Some body → IsRightBody meant number body →
      LinesHave (IsThere meant number body) (length (texts_of meant)) (kind_of body.does) false (body_lines (first_text meant.bodies number) body.does)

module _ (meant : m.Meant) (known : Known meant) where
  sizes : SizesAreWithin (code_of meant)
  sizes = sizes_within (code_of meant) known.size

  few_bodies : length meant.bodies ≤ 65536
  few_bodies =
      let few = sizes.bodies in
      let same = bodies_counted (names_of meant) 0 meant.bodies in
      omega (few, same, arith)

  body_coded : (n : ℕ) (body : m.Body) → slice_get meant.bodies n ≡ Some body →
      slice_get (code_of meant).bodies n ≡ Some (body_code (names_of meant) (first_text meant.bodies n) body)
  body_coded n body e = known.coded n ∙ ap (option_map (body_code (names_of meant) (first_text meant.bodies n))) e

  few_texts_in : (n : ℕ) (body : m.Body) → slice_get meant.bodies n ≡ Some body → length (body_texts body) ≤ 65535
  few_texts_in n body e =
      let k = first_text meant.bodies n in
      let fewer = fewer_texts known.order body k (known.ends body.does k) in
      let long = sizes.long n (body_code (names_of meant) k body) (body_coded n body e) in
      omega (fewer, long, length-map (body_lines k body.does) (instr_of (names_of meant)), arith)

  pub few_texts : length (texts_of meant) < 2 ^ 32
  few_texts = let few = few_in_all meant.bodies 65536 few_texts_in few_bodies in omega (few, arith)

  pub few_names : length (names_of meant) ≤ 65536
  few_names = sizes.names

  pub records_fit : All ClassFits (code_of meant).classes
  records_fit =
      All-map ClassFits (class_code (names_of meant)) meant.classes
      (all_got (λ (class : m.Declaration). ClassFits (class_code (names_of meant) class)) meant.classes
      (λ number class here. record_fits meant (names_of meant) sizes.names few_bodies known.few_classes number class here (known.right.classes number class here)
      (known.few_members number class here)))

  one_fits : (n : ℕ) (code : BodyCode) (found : Option m.Body) → slice_get meant.bodies n ≡ found →
      option_map (body_code (names_of meant) (first_text meant.bodies n)) found ≡ Some code → NumbersFit code
  one_fits n code None here e = absurd (let f : None ≡ Some code = e in cc)
  one_fits n code (Some body) here e =
      let right = known.right.bodies n body here in
      subst NumbersFit (same_Some (body_code (names_of meant) (first_text meant.bodies n) body) code e)
      (body_fits meant n body here right sizes few_bodies known.few_classes few_texts (body_coded n body here) (known.lines n body here right))

  pub bodies_fit : All NumbersFit (code_of meant).bodies
  bodies_fit = all_got NumbersFit (code_of meant).bodies (λ n code e. one_fits n code (slice_get meant.bodies n) refl (sym (known.coded n) ∙ e))
