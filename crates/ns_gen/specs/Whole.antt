-- The whole of a program.
use Rattle.std.specs.Prelude.{ℕ, List, [], map, flat_map, nat_lt, Bool, Option, Some, None, if◌then◌else◌}
use Rattle.ns_code.specs.declared.program.CodeProgram.{CodeProgram}
use Rattle.ns_resolved.specs.Program as m
use Rattle.ns_resolved.specs.Tables.{put_all, class_names, class_code}
use Rattle.ns_gen_code.specs.Sizes.{most}
use Rattle.ns_gen_code.specs.declared.size.SizeKind.{SizeKind}
use Rattle.ns_gen_code.specs.declared.size.SizeKind.TheVariants as s
use Rattle.ns_gen_bodies.specs.Coding.{Coded}

-- the names of the records of classes, and no body yet, whether bodies are to be kept or not
abbrev pub named : Bool → List m.Declaration → Coded
named keeps classes = record { names = put_all [] (flat_map class_names classes); texts = []; keeps = keeps; bodies = []; fault = None }

-- the code of classes over what was generated for them
abbrev pub coded_program : List (List ℕ) → List m.Declaration → Coded → CodeProgram
coded_program files classes output =
    record {
      files = files;
      names = output.names;
      texts = output.texts;
      classes = map (class_code output.names) classes;
      bodies = output.bodies;
    }

-- the first size that passes its limit, by how many names and bodies there are, and what of the bodies is too large
abbrev pub first_fault : ℕ → ℕ → Option SizeKind → Option SizeKind
first_fault names bodies fault = if nat_lt most names then Some s.Names else if nat_lt most bodies then Some s.Bodies else fault
