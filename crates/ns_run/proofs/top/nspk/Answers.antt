use Rattle.std.proofs.Common.{◌≡◌, ◌⊎◌, Err, IfOk, ap, map, subst, sym}
use Rattle.std.specs.Prelude.{string_bytes}
use Rattle.ns_base.specs.Count.{Rose}
use Rattle.ns_run.proofs.KeepLaws.{finished, no_memory, not_read, only_read_twice}
use Rattle.ns_run.proofs.StoreLaws.{stores_nothing}
use Rattle.ns_run.proofs.TextLaws.{over_other}
use Rattle.ns_run.specs.Meaning.{meaning}
use Rattle.ns_run.proofs.top.nspk.Goals as goal
use Rattle.ns_run_words.specs.Words.{reading_of}

pub returns-in-Err-ReadFault-clause-told : goal.returns-in-Err-ReadFault-clause-told
returns-in-Err-ReadFault-clause-told g c = λ files e.
    not_read (meaning (map string_bytes c.args.words.now) files) _ _ _ _ c.work.ensures.only_read.0

pub returns-in-Err-ReadFault-clause-texts : goal.returns-in-Err-ReadFault-clause-texts
returns-in-Err-ReadFault-clause-texts g c =
    over_other (map string_bytes c.args.words.now) (λ report. IfOk c.work.result (λ r. r ≡ report)) _ (λ report h. not_read report (g.S.Shelf.holds c.args.shelf.now) (g.S.Shelf.holds c.work.new.shelf) (g.O.Sink.written c.args.out.now) (g.E.Sink.written c.args.err.now) c.work.ensures.only_read.0) c.work.ensures.texts

pub returns-in-Err-Memory-clause-told : goal.returns-in-Err-Memory-clause-told
returns-in-Err-Memory-clause-told g c = λ files e.
    no_memory (meaning (map string_bytes c.args.words.now) files) _ _ _ _ c.work.ensures.only_read.0

pub returns-in-Err-Memory-clause-texts : goal.returns-in-Err-Memory-clause-texts
returns-in-Err-Memory-clause-texts g c =
    over_other (map string_bytes c.args.words.now) (λ report. IfOk c.work.result (λ r. r ≡ report)) _ (λ report h. no_memory report (g.S.Shelf.holds c.args.shelf.now) (g.S.Shelf.holds c.work.new.shelf) (g.O.Sink.written c.args.out.now) (g.E.Sink.written c.args.err.now) c.work.ensures.only_read.0) c.work.ensures.texts

pub returns-in-Ok-clause-told : goal.returns-in-Ok-clause-told
returns-in-Ok-clause-told g c = λ files e.
    finished c.in-Ok.report (meaning (map string_bytes c.args.words.now) files) c.finish.result _ _ _ _ _ _ _ (c.in-Ok.ensures.told files e) c.work.ensures.only_read.0 c.finish.ensures.files c.finish.ensures.streams

pub returns-in-Ok-clause-texts : goal.returns-in-Ok-clause-texts
returns-in-Ok-clause-texts g c =
    over_other (map string_bytes c.args.words.now) (λ report. c.in-Ok.report ≡ report) _
    (λ report h. finished c.in-Ok.report report c.finish.result _ _ _ _ _ _ _ h c.work.ensures.only_read.0 c.finish.ensures.files c.finish.ensures.streams) c.in-Ok.ensures.texts

pub returns-in-Ok-clause-only_read : goal.returns-in-Ok-clause-only_read
returns-in-Ok-clause-only_read g c = λ none.
    only_read_twice g.S.Shelf.holds g.S.Shelf.misses g.S.Shelf.faults g.S.Shelf.store_faults c.args.shelf.now c.work.new.shelf c.finish.new.shelf c.work.ensures.only_read
    (c.finish.ensures.only_read (stores_nothing (map string_bytes c.args.words.now) c.in-Ok.report c.in-Ok.ensures.texts none))

pub finish-requires : goal.finish-requires
finish-requires g c = c.in-Ok.ensures.ending

pub returns-in-Ok-clause-missing : goal.returns-in-Ok-clause-missing
returns-in-Ok-clause-missing g c = λ refused tells.
    subst (Rose (g.S.Shelf.misses c.args.shelf.now)) (sym c.finish.ensures.misses)
    (c.in-Ok.ensures.missing (c.finish.ensures.missing (reading_of (map string_bytes c.args.words.now)) refused tells))

pub returns-in-Err-ReadFault-clause-only_read : goal.returns-in-Err-ReadFault-clause-only_read
returns-in-Err-ReadFault-clause-only_read g c = λ none. c.work.ensures.only_read

pub returns-in-Err-ReadFault-clause-read_fault : goal.returns-in-Err-ReadFault-clause-read_fault
returns-in-Err-ReadFault-clause-read_fault g c = λ e. c.in-Err-ReadFault.ensures.read_fault (ap Err c.in-Err-ReadFault.field-0-is)

pub returns-in-Err-ReadFault-clause-read_fault_there : goal.returns-in-Err-ReadFault-clause-read_fault_there
returns-in-Err-ReadFault-clause-read_fault_there g c = λ files holds e.
    c.in-Err-ReadFault.ensures.read_fault_there files holds (ap Err c.in-Err-ReadFault.field-0-is)

pub returns-in-Err-Memory-clause-only_read : goal.returns-in-Err-Memory-clause-only_read
returns-in-Err-Memory-clause-only_read g c = λ none. c.work.ensures.only_read

-- nothing is stored before the report is there
pub returns-in-Ok-clause-write_fault : goal.returns-in-Ok-clause-write_fault
returns-in-Ok-clause-write_fault g c = λ fault.
    subst (λ before. Rose before (g.S.Shelf.store_faults c.finish.new.shelf)
    ⊎ (Rose (g.O.Sink.faults c.args.out.now) (g.O.Sink.faults c.finish.new.out)
    ⊎ Rose (g.E.Sink.faults c.args.err.now) (g.E.Sink.faults c.finish.new.err))) c.work.ensures.only_read.1 (c.finish.ensures.write_fault fault)
