-- What the machine sees of generated code.
use Rattle.std.proofs.Common.{◌≡◌, ℕ, zero, suc, ◌+◌, ◌<◌, List, [], ◌∷◌, ◌++◌, length, refl, sym, ap, ◌∙◌, arith, append_assoc, length-append}
use Rattle.std.proofs.Common.{Option, Some, None}
use Rattle.std.specs.Prelude.{cond, map, flat_map, slice_get}
use Rattle.std.specs.Option.{option_map_or}
use Rattle.std.specs.List.{slice_index_or}
use Rattle.std.proofs.lemmas.Bool.{ne_eqb, eq-eqb}
use Rattle.ns_base.specs.declared.place.Place.{Place}
use Rattle.ns_code.specs.declared.program.CodeProgram.{CodeProgram}
use Rattle.ns_code.specs.declared.body.BodyCode.{BodyCode}
use Rattle.ns_code.specs.declared.instruction.Instr.{Instr}
use Rattle.ns_code.specs.declared.instruction.Instr.TheVariants as i
use Rattle.ns_resolved.specs.Program.{Meant, Body, Does, as_method}
use Rattle.ns_resolved.specs.Tables.{gathered, node_texts, nodes_texts, body_texts, texts_of}
use Rattle.ns_gen_code.specs.Code.{CodeLine, does, symbol, sends, starts, instr_of, send_instr, places_from, body_lines, bodies_code, code_of}
use Rattle.ns_moves.specs.Steps.{PlacedInstr, place_in, placed, literal}
use Rattle.ns_link.specs.Shown.{shown}
use Rattle.ns_link.proofs.Sim.{Texts, split}
use Rattle.ns_link.proofs.RunOk.{Coded}

-- no entry has a smaller number
places_later : (lines : List CodeLine) (n k : ℕ) → k < n → place_in (places_from n lines) k ≡ None
places_later [] n k h = refl
places_later (does x ∷ lines) n k h = places_later lines (n + 1) k (omega (arith, h))
places_later (symbol name ∷ lines) n k h = places_later lines (n + 1) k (omega (arith, h))
places_later (sends way message count ∷ lines) n k h =
    ap (λ b. cond b (Some message.place) (place_in (places_from (n + 1) lines) k)) (ne_eqb n k (λ e. omega (arith, e, h)))
    ∙ places_later lines (n + 1) k (omega (arith, h))
places_later (starts place count ∷ lines) n k h =
    ap (λ b. cond b (Some place) (place_in (places_from (n + 1) lines) k)) (ne_eqb n k (λ e. omega (arith, e, h)))
    ∙ places_later lines (n + 1) k (omega (arith, h))

-- an entry that is behind
skipped : (number : ℕ) (place : Place) (places : List (ℕ × Place)) (k : ℕ) (instrs : List Instr) → number < k
    → placed ((number, place) ∷ places) k instrs ≡ placed places k instrs
skipped number place places k [] h = refl
skipped number place places k (x ∷ instrs) h =
    ap (λ b. (x, cond b (Some place) (place_in places k)) ∷ placed ((number, place) ∷ places) (k + 1) instrs) (ne_eqb number k (λ e. omega (arith, e, h)))
    ∙ ap (λ (l : List PlacedInstr). (x, place_in places k) ∷ l) (skipped number place places (k + 1) instrs (omega (arith, h)))

-- an instruction with its place
found : (x : Instr) (place : Place) (places : List (ℕ × Place)) (n : ℕ) (instrs : List Instr) (lines : List PlacedInstr) →
    placed places (n + 1) instrs ≡ lines
    → placed ((n, place) ∷ places) n (x ∷ instrs) ≡ (x, Some place) ∷ lines
found x place places n instrs lines e =
    ap (λ b. (x, cond b (Some place) (place_in places n)) ∷ placed ((n, place) ∷ places) (n + 1) instrs) (eq-eqb n n refl)
    ∙ ap (λ (l : List PlacedInstr). (x, Some place) ∷ l) (skipped n place places (n + 1) instrs (omega arith) ∙ e)

-- an instruction without one
bare : (x : Instr) (more : List CodeLine) (n : ℕ) (instrs : List Instr) (lines : List PlacedInstr) →
    placed (places_from (n + 1) more) (n + 1) instrs ≡ lines
    → placed (places_from (n + 1) more) n (x ∷ instrs) ≡ (x, None) ∷ lines
bare x more n instrs lines e =
    ap (λ (o : Option Place). (x, o) ∷ placed (places_from (n + 1) more) (n + 1) instrs) (places_later more (n + 1) n (omega arith))
    ∙ ap (λ (l : List PlacedInstr). (x, None) ∷ l) e

placed_shown : (names : List (List ℕ)) (lines : List CodeLine) (n : ℕ) →
    placed (places_from n lines) n (map (instr_of names) lines) ≡ shown names lines
placed_shown names [] n = refl
placed_shown names (does x ∷ lines) n = bare x lines n (map (instr_of names) lines) (shown names lines) (placed_shown names lines (n + 1))
placed_shown names (symbol name ∷ lines) n =
    bare (instr_of names (symbol name)) lines n (map (instr_of names) lines) (shown names lines) (placed_shown names lines (n + 1))
placed_shown names (sends way message count ∷ lines) n =
    found (send_instr names way message.selector count) message.place (places_from (n + 1) lines) n (map (instr_of names) lines) (shown names lines)
    (placed_shown names lines (n + 1))
placed_shown names (starts place count ∷ lines) n =
    found (i.InitSuper count) place (places_from (n + 1) lines) n (map (instr_of names) lines) (shown names lines) (placed_shown names lines (n + 1))

-- ---- texts

at_seam : (before : List (List ℕ)) (text : List ℕ) (after : List (List ℕ)) →
    slice_index_or (before ++ text ∷ after) (length before) [] ≡ text
at_seam [] text after = refl
at_seam (x ∷ before) text after = at_seam before text after

texts_from : (code : CodeProgram) (k : ℕ) (before after : List (List ℕ)) → code.texts ≡ before ++ after → length before ≡ k →
    Texts code k after
texts_from code k before [] e l = tt
texts_from code k before (text ∷ after) e l =
    let here : literal code k ≡ text = ap (λ (ts : List (List ℕ)). slice_index_or ts k []) e
    ∙ (ap (λ n. slice_index_or (before ++ text ∷ after) n []) (sym l) ∙ at_seam before text after) in (
      here,
      texts_from code (k + 1) (before ++ text ∷ []) after (e ∙ sym (append_assoc before (text ∷ []) after))
          (length-append before (text ∷ []) ∙ omega (arith, l)),
    )

-- ---- bodies

abbrev steps_in : Option BodyCode → List PlacedInstr
steps_in o = option_map_or (λ (b : BodyCode). placed b.places 0 b.instrs) o ((i.ReturnSelf, None) ∷ [])

abbrev does_in : Option Body → Does
does_in o = option_map_or (λ (b : Body). b.does) o (as_method [] [])

record BodyShown (code : CodeProgram) (bodies : List Body) (first k : ℕ) : Type 0 where
  pub text : ℕ
  pub is : steps_in (slice_get (bodies_code code.names first bodies) k) ≡ shown code.names (body_lines text (does_in (slice_get bodies k)))
  pub texts : Texts code text (gathered node_texts nodes_texts (does_in (slice_get bodies k)))

body_shown : (code : CodeProgram) (bodies : List Body) (first k : ℕ) → Texts code first (flat_map body_texts bodies) →
    BodyShown code bodies first k
body_shown code [] first k h = record { text = 0; is = refl; texts = tt }
body_shown code (body ∷ bodies) first zero h =
    record {
      text = first;
      is = placed_shown code.names (body_lines first body.does) 0;
      texts = (split code first (body_texts body) (flat_map body_texts bodies) h).0;
    }
body_shown code (body ∷ bodies) first (suc k) h =
    let r = body_shown code bodies (first + length (body_texts body)) k (split code first (body_texts body) (flat_map body_texts bodies) h).1 in
    record { text = r.text; is = r.is; texts = r.texts }

-- the code of a program is that of its trees
pub coded : (meant : Meant) (k : ℕ) → Coded meant (code_of meant) k
coded meant k =
    let code = code_of meant in
    let r = body_shown code meant.bodies 0 k (texts_from code 0 [] (texts_of meant) refl refl) in
    record { text = r.text; is = r.is; texts = r.texts }
