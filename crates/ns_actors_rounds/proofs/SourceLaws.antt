-- What is told of the actors of a program, once they rest.
use Rattle.std.proofs.Common.{◌≡◌, ℕ, ℤ, List, sym, ap, ◌∙◌, subst, Option, None}
use Rattle.ns_base.specs.declared.limits.Limits.{Limits}
use Rattle.ns_code.specs.declared.program.CodeProgram.{CodeProgram}
use Rattle.ns_gen_code.specs.Code.{code_of}
use Rattle.ns_gen_code.specs.Sizes.{size_fault}
use Rattle.ns_gen_code.specs.declared.size.SizeKind.{SizeKind}
use Rattle.ns_json.specs.declared.saying.Actor.{Actor}
use Rattle.ns_resolved.specs.Program.{Meant}
use Rattle.ns_actors.specs.Rounds.{first_letter, played, rounds, started, told_of}
use Rattle.ns_actors.specs.Turn.{ActorsView, posted}
use Rattle.ns_actors.specs.declared.told.Acted.{Acted}
use Rattle.ns_actors_rounds.specs.Laws.{IsWithinRounds, ProgramsHaveRounds}
use Rattle.ns_actors_rounds.specs.Parts.{parts_of}
use Rattle.ns_actors_rounds.specs.Source.{actors_told, has_acted, sized_acted, source_acted}
use Rattle.ns_actors_rounds.specs.Stated.{RestsAfter}
use Rattle.ns_actors_rounds.specs.declared.told.ToldActors.{ToldActors}

module _ (code : CodeProgram) (limits : Limits) (count : ℕ) (sel : List ℕ) (number : ℤ) where
  -- actors that have started, with the letter, come to rest where they are to
  rests_played : (given : ℤ) (opened now : ActorsView) → given ≡ number → opened ≡ posted (first_letter sel given) (started code limits count)
      → ProgramsHaveRounds code limits → RestsAfter opened now → now ≡ played code limits count sel number
  rests_played given opened now same is enough rests =
      rests limits (subst (IsWithinRounds limits) (sym is) (enough count sel given))
      ∙ ap (rounds limits) (is ∙ ap (λ (z : ℤ). posted (first_letter sel z) (started code limits count)) same)

  pub told_played : (given : ℤ) (files : List (List ℕ)) (opened now : ActorsView) (told : Acted) (parts : List Actor) → given ≡ number
      → opened ≡ posted (first_letter sel given) (started code limits count) → ProgramsHaveRounds code limits → RestsAfter opened now → files ≡ code.files
      → told ≡ told_of files now → parts ≡ parts_of now → record { told = told; parts = parts } ≡ actors_told code limits count sel number
  told_played given files opened now told parts same is enough rests named text each =
      let at = rests_played given opened now same is enough rests in
      ap (λ (t : Acted). record { told = t; parts = parts }) (text ∙ (ap (λ (fs : List (List ℕ)). told_of fs now) named ∙ ap (told_of code.files) at))
      ∙ ap (λ (ps : List Actor). record { told = told_of code.files (played code limits count sel number); parts = ps }) (each ∙ ap parts_of at)

pub source_told : (meant : Meant) (limits : Limits) (count : ℕ) (sel : List ℕ) (number given : ℤ) (code : CodeProgram) (told : ToldActors) → given ≡ number
    → code ≡ code_of meant → size_fault (code_of meant) ≡ None → told ≡ actors_told code limits count sel given
    → source_acted meant limits count sel number ≡ has_acted told
source_told meant limits count sel number given code told same is small all =
    ap (λ (o : Option SizeKind). sized_acted (code_of meant) limits count sel number o) small
    ∙ ap (λ (t : ToldActors). has_acted t)
    (sym (all ∙ (ap (λ (c : CodeProgram). actors_told c limits count sel given) is ∙ ap (λ (z : ℤ). actors_told (code_of meant) limits count sel z) same)))
