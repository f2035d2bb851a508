-- The texts of actors, one behind another, and their status.
use Rattle.std.proofs.Common.{◌≡◌, ◌<◌, ℕ, ◌+◌, List, [], ◌∷◌, ◌++◌, refl, sym, ap, ◌∙◌, arith, append_assoc, Option, Some, None, slice_get, length, drop}
use Rattle.std.specs.Prelude.{codes, option_and_then, option_map}
use Rattle.std.specs.Fmt.{decimal}
use Rattle.std.proofs.lemmas.List.{append-nil, drop_all}
use Rattle.ns_base.specs.declared.status.Status.{Status}
use Rattle.ns_base.specs.declared.status.Status.TheVariants.{Done, ProgramError}
use Rattle.ns_actors.specs.declared.turn.Stop.{Stop}
use Rattle.ns_actors.specs.Actor.{ActorView, Stage, Opening, Between, Sending, Holding, Stopped, report_of, transcript_of}
use Rattle.ns_actors.specs.declared.told.Acted.{Acted}
use Rattle.ns_actors.specs.Rounds.{actor_text, report_or, status_at, status_of, stop_text, text_from, told_of}
use Rattle.ns_actors.specs.Turn.{ActorsView}
use Rattle.ns_actors_calls.specs.Shown.{stop_at, stop_of}
use Rattle.ns_actors_rounds.specs.Told.{printed_text, report_text, taken_text, text_at, why_text}
use Rattle.ns_actors_rounds.proofs.Lists.{drop_there, there_is}

-- ---- the text of one

why_is : (stage : Stage) (line : Option (List ℕ)) → why_text (stop_at stage) line ≡ stop_text stage line
why_is Opening line = refl
why_is (Between behaviour) line = refl
why_is (Sending behaviour) line = refl
why_is (Holding behaviour letters) line = refl
why_is (Stopped why) line = refl

-- the line of the letters that it has taken, as it is put
pub line_is : (number taken : ℕ) → codes "actor " ++ (decimal number ++ (codes " taken " ++ (decimal taken ++ 10 ∷ []))) ≡ taken_text number (Some taken)
line_is number taken =
    sym (append_assoc (codes "actor ") (decimal number) (codes " taken " ++ (decimal taken ++ 10 ∷ [])))
    ∙ (sym (append_assoc (codes "actor " ++ decimal number) (codes " taken ") (decimal taken ++ 10 ∷ []))
    ∙ sym (append_assoc ((codes "actor " ++ decimal number) ++ codes " taken ") (decimal taken) (10 ∷ [])))

-- its parts are its text
pub text_is : (files : List (List ℕ)) (number : ℕ) (actor : ActorView) → text_at files number (Some actor) ≡ actor_text files number actor
text_is files number actor =
    let line = codes "actor " ++ decimal number ++ codes " taken " ++ decimal actor.taken in
    ap (λ (r : List ℕ). (taken_text number (Some actor.taken) ++ transcript_of actor) ++ r) (why_is actor.stage (report_of files actor))
    ∙ ap (λ (ls : List ℕ). ls ++ stop_text actor.stage (report_of files actor)) (append_assoc line (10 ∷ []) (transcript_of actor))

-- where its parts are put one after another
pub text_put : (files : List (List ℕ)) (number : ℕ) (actor : Option ActorView) (before one two three : List ℕ) (taken : Option ℕ)
    (printed : Option (List ℕ)) (stop : Option Stop) (line : Option (List ℕ)) → one ≡ before ++ taken_text number taken
    → two ≡ one ++ printed_text printed → three ≡ two ++ why_text stop line → taken ≡ option_map (λ (a : ActorView). a.taken) actor
    → printed ≡ option_map transcript_of actor → stop ≡ option_and_then stop_of actor → line ≡ option_and_then (report_of files) actor
    → three ≡ before ++ text_at files number actor
text_put files number actor before one two three taken printed stop line first second third taken_is printed_is stop_is report_is =
    let t = taken_text number taken in
    let p = printed_text printed in
    let w = why_text stop line in
    third
    ∙ (ap (λ (ls : List ℕ). ls ++ w) (second ∙ (ap (λ (ls : List ℕ). ls ++ p) first ∙ append_assoc before t p))
    ∙ (append_assoc before (t ++ p) w ∙ ap (λ (ls : List ℕ). before ++ ls) (parts taken_is printed_is stop_is report_is)))
  where
    parts : taken ≡ option_map (λ (a : ActorView). a.taken) actor → printed ≡ option_map transcript_of actor → stop ≡ option_and_then stop_of actor
        → line ≡ option_and_then (report_of files) actor
        → (taken_text number taken ++ printed_text printed) ++ why_text stop line ≡ text_at files number actor
    parts a b c d =
        ap (λ (o : Option ℕ). (taken_text number o ++ printed_text printed) ++ why_text stop line) a
        ∙ (ap (λ (o : Option (List ℕ)). (taken_text number (option_map (λ (v : ActorView). v.taken) actor) ++ printed_text o) ++ why_text stop line) b
        ∙ (ap (λ (o : Option Stop). (taken_text number (option_map (λ (v : ActorView). v.taken) actor) ++ printed_text (option_map transcript_of actor))
        ++ why_text o line) c
        ∙ ap (λ (o : Option (List ℕ)). (taken_text number (option_map (λ (v : ActorView). v.taken) actor)
        ++ printed_text (option_map transcript_of actor)) ++ why_text (option_and_then stop_of actor) o) d))

-- that it stopped, and behind it its report line
pub report_put : (before first one last two : List ℕ) (report : Option (List ℕ)) → first ≡ codes "stopped: " → one ≡ before ++ first
    → last ≡ report_or report → two ≡ one ++ last → two ≡ before ++ report_text report
report_put before first one last two report first_is put last_is then_put =
    then_put
    ∙ (ap (λ (ls : List ℕ). ls ++ last) put
    ∙ (append_assoc before first last
    ∙ (ap (λ (ls : List ℕ). before ++ (ls ++ last)) first_is ∙ ap (λ (ls : List ℕ). before ++ (codes "stopped: " ++ ls)) last_is)))

-- ---- those of all

-- one more behind those so far
pub text_more : (files : List (List ℕ)) (actors : List ActorView) (number : ℕ) (before now whole : List ℕ) → number < length actors
    → now ≡ before ++ text_at files number (slice_get actors number) → before ++ text_from files number (drop number actors) ≡ whole
    → now ++ text_from files (number + 1) (drop (number + 1) actors) ≡ whole
text_more files actors number before now whole within put so_far =
    let there = there_is actors number within in
    let actor = there.element in
    let rest = text_from files (number + 1) (drop (number + 1) actors) in
    ap (λ (ls : List ℕ). ls ++ rest) put
    ∙ (ap (λ (o : Option ActorView). (before ++ text_at files number o) ++ rest) there.is
    ∙ (ap (λ (ls : List ℕ). (before ++ ls) ++ rest) (text_is files number actor)
    ∙ (append_assoc before (actor_text files number actor) rest
    ∙ (sym (ap (λ (xs : List ActorView). before ++ text_from files number xs) (drop_there actors number actor within there.is)) ∙ so_far))))

pub text_whole : (files : List (List ℕ)) (actors : List ActorView) (number : ℕ) (text whole : List ℕ) → number ≡ length actors
    → text ++ text_from files number (drop number actors) ≡ whole → text ≡ whole
text_whole files actors number text whole all so_far =
    sym (append-nil text)
    ∙ (sym (ap (λ (xs : List ActorView). text ++ text_from files number xs) (drop_all number actors (omega (arith, all)))) ∙ so_far)

-- ---- the status

stop_tells : (stage : Stage) (why : Stop) (others : Status) → stop_at stage ≡ Some why → status_at stage others ≡ ProgramError
stop_tells Opening why others e = absurd (cc (e))
stop_tells (Between behaviour) why others e = absurd (cc (e))
stop_tells (Sending behaviour) why others e = absurd (cc (e))
stop_tells (Holding behaviour letters) why others e = absurd (cc (e))
stop_tells (Stopped stop) why others e = refl

goes_on : (stage : Stage) (others : Status) → stop_at stage ≡ None → status_at stage others ≡ others
goes_on Opening others e = refl
goes_on (Between behaviour) others e = refl
goes_on (Sending behaviour) others e = refl
goes_on (Holding behaviour letters) others e = refl
goes_on (Stopped stop) others e = absurd (cc (e))

-- what its stop is, by whether it is there
stop_of_got : (actors : List ActorView) (number : ℕ) (actor : ActorView) (stop : Option Stop) → slice_get actors number ≡ Some actor
    → stop ≡ option_and_then stop_of (slice_get actors number) → stop_at actor.stage ≡ stop
stop_of_got actors number actor stop got e = sym (e ∙ ap (λ (o : Option ActorView). option_and_then stop_of o) got)

-- one of them has stopped
pub one_stopped : (actors : List ActorView) (number : ℕ) (why : Stop) → number < length actors
    → Some why ≡ option_and_then stop_of (slice_get actors number) → status_of (drop number actors) ≡ status_of actors
    → ProgramError ≡ status_of actors
one_stopped actors number why within stopped so_far =
    let there = there_is actors number within in
    let stop = stop_of_got actors number there.element (Some why) there.is stopped in
    sym (stop_tells there.element.stage why (status_of (drop (number + 1) actors)) stop)
    ∙ (sym (ap (λ (xs : List ActorView). status_of xs) (drop_there actors number there.element within there.is)) ∙ so_far)

-- one hasn't
pub none_stopped : (actors : List ActorView) (number : ℕ) → number < length actors → None ≡ option_and_then stop_of (slice_get actors number)
    → status_of (drop number actors) ≡ status_of actors → status_of (drop (number + 1) actors) ≡ status_of actors
none_stopped actors number within none so_far =
    let there = there_is actors number within in
    let stop = stop_of_got actors number there.element None there.is none in
    sym (goes_on there.element.stage (status_of (drop (number + 1) actors)) stop)
    ∙ (sym (ap (λ (xs : List ActorView). status_of xs) (drop_there actors number there.element within there.is)) ∙ so_far)

pub all_done : (actors : List ActorView) (number : ℕ) → number ≡ length actors → status_of (drop number actors) ≡ status_of actors
    → Done ≡ status_of actors
all_done actors number all so_far =
    sym (ap (λ (xs : List ActorView). status_of xs) (drop_all number actors (omega (arith, all)))) ∙ so_far

-- ---- all that is told

pub told_is : (files : List (List ℕ)) (view : ActorsView) (out : List ℕ) (status : Status) → out ≡ text_from files 0 view.actors
    → status ≡ status_of view.actors → record { out = out; status = status } ≡ told_of files view
told_is files view out status texts_are status_is =
    ap (λ (o : List ℕ). acted o status) texts_are ∙ ap (acted (text_from files 0 view.actors)) status_is
  where
    acted : List ℕ → Status → Acted
    acted out status = record { out = out; status = status }
