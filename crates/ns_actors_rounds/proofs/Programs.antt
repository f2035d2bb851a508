-- The actors of a program are actors, so they come to rest.
use Rattle.std.proofs.Common.{◌≡◌, ◌<◌, ◌≤◌, ℕ, ℤ, zero, suc, ◌+◌, List, refl, sym, ap, subst, arith, Bool, true, false, length, eqb-true, ◌==◌, ◌&&◌}
use Rattle.ns_base.specs.Spelling.{is_selector}
use Rattle.ns_base.specs.declared.limits.Limits.{Limits}
use Rattle.ns_code.specs.Selector.{text_arity}
use Rattle.ns_code.specs.declared.program.CodeProgram.{CodeProgram}
use Rattle.ns_actors_calls.specs.Letters.{takes_one}
use Rattle.ns_session.specs.Member.{MayStart}
use Rattle.ns_actors.specs.Laws.{AddingKeepsActors, PostingKeepsActors, nobody}
use Rattle.ns_actors.specs.Rounds.{actor_of, first_letter, started}
use Rattle.ns_actors.specs.Stated.{AreActors, LetterIsGood}
use Rattle.ns_actors.specs.Turn.{posted}
use Rattle.ns_actors_rounds.specs.Laws.{ActorsRest, ProgramsHaveRounds, ProgramsRest}
use Rattle.ns_actors_rounds.proofs.Starting.{started_count, started_more}

-- What is known of actors that are added and of letters that are posted.
pub record CallsKnown : Type 0 where
  pub nobody_is : AreActors nobody
  pub adding : AddingKeepsActors
  pub posting : PostingKeepsActors

both_true : (b c : Bool) → (b && c) ≡ true → (b ≡ true) × (c ≡ true)
both_true true c e = (refl, e)
both_true false c e = absurd (cc (e))

module _ (known : CallsKnown) (code : CodeProgram) (limits : Limits) (may : MayStart (actor_of code limits)) where
  -- so many that have started
  started_are : (n : ℕ) → n ≤ 16 → AreActors (started code limits n)
  started_are zero few = known.nobody_is
  started_are (suc n) few =
      let next : n + 1 ≡ suc n = omega arith in
      let count = started_count code limits n (started code limits n) refl in
      let room : length (started code limits n).actors < 16 = omega (arith, few, count) in
      subst (λ (m : ℕ). AreActors (started code limits m)) next
      (subst AreActors (started_more code limits n)
      (known.adding (actor_of code limits) (started code limits n) may refl room (started_are n (omega (arith, few)))))

  -- and with a letter to the first
  opened_are : (count : ℕ) (sel : List ℕ) (number : ℤ) → 1 ≤ count → count ≤ 16 → takes_one sel ≡ true
      → AreActors (posted (first_letter sel number) (started code limits count))
  opened_are count sel number some few takes =
      let both = both_true (is_selector sel) (text_arity sel == 1) takes in
      let all = started_count code limits count (started code limits count) refl in
      let good : LetterIsGood (length (started code limits count).actors) (first_letter sel number)
      = record { selector = both.0; one = eqb-true (text_arity sel) 1 (both.1); there = omega (arith, some, all) } in
      known.posting (first_letter sel number) (started code limits count) good refl (started_are count few)

pub programs_rest : CallsKnown → ActorsRest → (code : CodeProgram) (limits : Limits) → ProgramsHaveRounds code limits → ProgramsRest code limits
programs_rest known rest code limits enough count sel number may some few takes =
    rest limits (posted (first_letter sel number) (started code limits count)) (opened_are known code limits may count sel number some few takes)
    (enough count sel number)
