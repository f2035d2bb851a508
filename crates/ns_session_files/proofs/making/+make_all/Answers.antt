use Rattle.std.proofs.Common.{◌∙◌, ◌-◌, List, Ok, drop, take, length, map, string_bytes, subst, sym, IsSome}
use Rattle.ns_run_words.specs.Application.{asked_of}
use Rattle.ns_run_words.specs.Named.{OfSomeName, OfSomeTexts}
use Rattle.ns_session_files.specs.Answer.{IsFaultOfMaking, AddsAll}
use Rattle.ns_session_files.specs.Making.{all_made, files_asked, made_of}
use Rattle.ns_session_files.proofs.MakingLaws.{cons_of, first_texts, next_texts, next_told, some_back, some_front}
use Rattle.ns_session_files.proofs.making.+make_all.Goals as goal

pub returns-in-Ok-clause-told : goal.returns-in-Ok-clause-told
returns-in-Ok-clause-told g m c = λ files e.
    let split = cons_of c.args.words.now c.word-item.result c.in-len1-up.len_at_least c.word-item.is in
    let asked = map asked_of (map string_bytes (take (length c.args.words.now - 1) (drop 1 c.args.words.now))) in
    subst (λ (ws : List _). AddsAll c.args.limits (all_made c.args.lib (map asked_of (map string_bytes ws)) (map files (files_asked (map asked_of (map string_bytes ws))))) c.args.session.now c.make_all.new.session c.make_all.result) (sym split)
    (next_told c.args.limits c.args.lib (asked_of (string_bytes c.word-item.result)) asked c.args.session.now c.make_one.new.session c.make_all.new.session files c.make_all.result
    (subst (λ w. AddsAll c.args.limits (made_of c.args.lib (asked_of w) (map files (asked_of w).names)) c.args.session.now c.make_one.new.session (Ok tt)) c.as_str.ensures.value (c.in-Ok.ensures.told files e))
    (c.make_all.ensures.told files (c.in-Ok.ensures.only_read.0 ∙ e)))

pub returns-in-Ok-clause-texts : goal.returns-in-Ok-clause-texts
returns-in-Ok-clause-texts g m c =
    let split = cons_of c.args.words.now c.word-item.result c.in-len1-up.len_at_least c.word-item.is in
    let asked = map asked_of (map string_bytes (take (length c.args.words.now - 1) (drop 1 c.args.words.now))) in
    subst (λ (ws : List _). OfSomeTexts (files_asked (map asked_of (map string_bytes ws))) (λ texts. AddsAll c.args.limits (all_made c.args.lib (map asked_of (map string_bytes ws)) texts) c.args.session.now c.make_all.new.session c.make_all.result)) (sym split)
    (next_texts c.args.limits c.args.lib (asked_of (string_bytes c.word-item.result)) asked c.args.session.now c.make_one.new.session c.make_all.new.session c.make_all.result
    (subst (λ w. OfSomeTexts (asked_of w).names (λ texts. AddsAll c.args.limits (made_of c.args.lib (asked_of w) texts) c.args.session.now c.make_one.new.session (Ok tt))) c.as_str.ensures.value c.in-Ok.ensures.texts)
    c.make_all.ensures.texts)

pub returns-in-Ok-clause-read_fault_there : goal.returns-in-Ok-clause-read_fault_there
returns-in-Ok-clause-read_fault_there g m c = λ files e h.
    let split = cons_of c.args.words.now c.word-item.result c.in-len1-up.len_at_least c.word-item.is in
    let asked = map asked_of (map string_bytes (take (length c.args.words.now - 1) (drop 1 c.args.words.now))) in
    subst (λ (ws : List _). OfSomeName (files_asked (map asked_of (map string_bytes ws))) (λ file. IsSome (files file))) (sym split)
    (some_back (asked_of (string_bytes c.word-item.result)).names (files_asked asked) (λ file. IsSome (files file)) (c.make_all.ensures.read_fault_there files (c.in-Ok.ensures.only_read.0 ∙ e) h))

pub returns-in-Err-clause-texts : goal.returns-in-Err-clause-texts
returns-in-Err-clause-texts g m c =
    let split = cons_of c.args.words.now c.word-item.result c.in-len1-up.len_at_least c.word-item.is in
    let asked = map asked_of (map string_bytes (take (length c.args.words.now - 1) (drop 1 c.args.words.now))) in
    subst (λ (ws : List _). OfSomeTexts (files_asked (map asked_of (map string_bytes ws))) (λ texts. IsFaultOfMaking (all_made c.args.lib (map asked_of (map string_bytes ws)) texts) c.in-Err.why)) (sym split)
    (first_texts c.args.limits c.args.lib (asked_of (string_bytes c.word-item.result)) asked c.args.session.now c.args.session.now c.args.session.now c.in-Err.why
    (subst (λ w. OfSomeTexts (asked_of w).names (λ texts. IsFaultOfMaking (made_of c.args.lib (asked_of w) texts) c.in-Err.why)) c.as_str.ensures.value c.in-Err.ensures.texts))

pub returns-in-Err-clause-read_fault_there : goal.returns-in-Err-clause-read_fault_there
returns-in-Err-clause-read_fault_there g m c = λ files e h.
    let split = cons_of c.args.words.now c.word-item.result c.in-len1-up.len_at_least c.word-item.is in
    let asked = map asked_of (map string_bytes (take (length c.args.words.now - 1) (drop 1 c.args.words.now))) in
    subst (λ (ws : List _). OfSomeName (files_asked (map asked_of (map string_bytes ws))) (λ file. IsSome (files file))) (sym split)
    (some_front (asked_of (string_bytes c.word-item.result)).names (files_asked asked) (λ file. IsSome (files file))
    (subst (λ w. OfSomeName (asked_of w).names (λ file. IsSome (files file))) c.as_str.ensures.value (c.in-Err.ensures.read_fault_there files e h)))
