use Rattle.std.proofs.Common.{ℕ, List, length}
use Rattle.std.specs.Prelude.{All}
use Rattle.ns_base.specs.declared.place.Place.{Place}
use Rattle.ns_code.specs.declared.program.CodeProgram.{CodeProgram}
use Rattle.ns_code.specs.declared.body.BodyCode.{BodyCode}
use Rattle.ns_code.specs.Fits.{PlaceFits, BodyFits}
use Rattle.ns_resolved.specs.Classes.{meant}
use Rattle.ns_gen_code.specs.Code.{code_of}
use Rattle.ns_link.specs.Accepted.{IsAccepted}
use Rattle.ns_link.specs.Numbers.{PlaceStands, NumbersFit}
use Rattle.ns_link.specs.Spoken.{IsInFiles, NamesFit}
use Rattle.ns_link.proofs.sound.code_fits.Goals as goal

-- what two properties of each give
both : {A : Type 0} → (P Q R : A → Type 0) (items : List A) → ((item : A) → P item → Q item → R item) → All P items → All Q items → All R items
both P Q R items h p q k d below = h _ (p k d below) (q k d below)

body_fits : (code : CodeProgram) (body : BodyCode) → NumbersFit body → NamesFit (length code.files) body → BodyFits code body
body_fits code body numbers names =
    record {
      kind = numbers.kind;
      side = numbers.side;
      class = numbers.class;
      parent = numbers.parent;
      params = numbers.params;
      locals = numbers.locals;
      height = numbers.height;
      instr_count = numbers.instr_count;
      instrs = numbers.instrs;
      name_count = numbers.name_count;
      local_names = names.local_names;
      place_count = numbers.place_count;
      places = both (PlaceStands body) (λ (place : ℕ × Place). IsInFiles (length code.files) place.1) (PlaceFits code body) body.places
          (λ place stands inside. record { instr = stands.instr; carries = stands.carries; file = inside.file; line = inside.line; col = inside.col })
          numbers.places names.places;
      places_in_order = numbers.places_in_order;
    }

pub returns : goal.returns
returns c program whole faultless small =
    let accepted : IsAccepted program = record { whole = whole; faultless = faultless; small = small } in
    record {
      file_count = c.tables_are_small.ensures.file_count program accepted;
      files = c.tables_are_small.ensures.files program accepted;
      name_count = c.tables_are_small.ensures.name_count program accepted;
      names = c.names_and_places_are_there.ensures.names program accepted;
      names_differ = c.tables_are_small.ensures.names_differ program accepted;
      text_count = c.numbers_fit.ensures.text_count program accepted;
      texts = c.names_and_places_are_there.ensures.texts program accepted;
      class_count = c.tables_are_small.ensures.class_count program accepted;
      classes = c.numbers_fit.ensures.classes program accepted;
      body_count = c.tables_are_small.ensures.body_count program accepted;
      bodies = both NumbersFit (NamesFit (length (code_of (meant program)).files)) (BodyFits (code_of (meant program))) (code_of (meant program)).bodies
          (λ body numbers names. body_fits (code_of (meant program)) body numbers names)
          (c.numbers_fit.ensures.bodies program accepted) (c.names_and_places_are_there.ensures.bodies program accepted);
    }
