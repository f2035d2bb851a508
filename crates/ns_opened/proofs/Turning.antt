-- What is told of a program that went on.
use Rattle.std.proofs.Common.{◌≡◌, ℕ, Result, IfOk, subst}
use Rattle.ns_base.specs.declared.no_memory.NoMemory.{NoMemory}
use Rattle.ns_machine.specs.Machine.{MachineView}
use Rattle.ns_reply.specs.Reply.{reply_of}
use Rattle.ns_reply.specs.declared.reply.Reply.{Reply}

-- What is told of it is what is told of the same program, with the same count of bytes that were told before.
pub told_alike : (result : Result Reply NoMemory) (name before count : ℕ) (machine same : MachineView) → before ≡ count → machine ≡ same
    → IfOk result (λ reply. reply ≡ reply_of name before machine) → IfOk result (λ reply. reply ≡ reply_of name count same)
told_alike result name before count machine same counts is told =
    subst (λ (m : MachineView). IfOk result (λ reply. reply ≡ reply_of name count m)) is
    (subst (λ (n : ℕ). IfOk result (λ reply. reply ≡ reply_of name n machine)) counts told)
