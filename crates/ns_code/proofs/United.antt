-- What is taken apart is united again.
use Rattle.std.proofs.Common.{◌≡◌, refl, ap, ℕ, ℤ, List, [], ◌∷◌, length, map, slice_get, zero, suc, false, pos, ◌+◌, ◌*◌, ◌/◌, ◌%◌, ◌∙◌, arith}
use Rattle.std.specs.Option.{option_map_or}
use Rattle.ns_code.specs.declared.instruction.Instr.{Instr}
use Rattle.ns_code.specs.declared.instruction.Instr.TheVariants as instr
use Rattle.ns_code.specs.declared.instructions.Operation.{Operation}
use Rattle.ns_code.specs.declared.instructions.Operation.TheVariants as op
use Rattle.ns_code.specs.Instructions.{operation_of, carries_place, is_carrier, words_of, integers_of, instr_of, united, first, behind, has_word, has_integer}

bytes_again : (n : ℕ) → n / 256 * 256 + n % 256 ≡ n
bytes_again n = omega arith

pub united_again : (instrs : List Instr) → united (map operation_of instrs) (words_of instrs) (integers_of instrs) ≡ instrs
united_again [] = refl
united_again (instr.PushNil ∷ more) = ap (λ l. instr.PushNil ∷ l) (united_again more)
united_again (instr.PushTrue ∷ more) = ap (λ l. instr.PushTrue ∷ l) (united_again more)
united_again (instr.PushFalse ∷ more) = ap (λ l. instr.PushFalse ∷ l) (united_again more)
united_again (instr.PushInt a ∷ more) = ap (λ l. instr.PushInt a ∷ l) (united_again more)
united_again (instr.PushSym a ∷ more) = ap (λ l. instr.PushSym a ∷ l) (united_again more)
united_again (instr.PushText a ∷ more) = ap (λ l. instr.PushText a ∷ l) (united_again more)
united_again (instr.PushSelf ∷ more) = ap (λ l. instr.PushSelf ∷ l) (united_again more)
united_again (instr.PushOuter a ∷ more) = ap (λ l. instr.PushOuter a ∷ l) (united_again more)
united_again (instr.PushLocal a b ∷ more) = ap (λ l. instr.PushLocal a b ∷ l) (united_again more)
united_again (instr.StoreLocal a b ∷ more) = ap (λ l. instr.StoreLocal a b ∷ l) (united_again more)
united_again (instr.PushBlock a ∷ more) = ap (λ l. instr.PushBlock a ∷ l) (united_again more)
united_again (instr.MakeArray a ∷ more) = ap (λ l. instr.MakeArray a ∷ l) (united_again more)
united_again (instr.Pop ∷ more) = ap (λ l. instr.Pop ∷ l) (united_again more)
united_again (instr.Pick a ∷ more) = ap (λ l. instr.Pick a ∷ l) (united_again more)
united_again (instr.Send a b ∷ more) = ap (λ l. instr.Send a b ∷ l) (united_again more)
united_again (instr.SendInner a b ∷ more) = ap (λ l. instr.SendInner a b ∷ l) (united_again more)
united_again (instr.SendPrivate a b c ∷ more) = ap (λ l. instr.SendPrivate a b c ∷ l) (united_again more)
united_again (instr.SendSuper a b ∷ more) = ap (λ l. instr.SendSuper a b ∷ l) (united_again more)
united_again (instr.InitSuper a ∷ more) = ap (λ l. instr.InitSuper a ∷ l) (united_again more)
united_again (instr.StoreSlot a ∷ more) =
    ap (λ n. instr.StoreSlot n ∷ united (map operation_of more) (words_of more) (integers_of more)) (bytes_again a) ∙ ap (λ l. instr.StoreSlot a ∷ l) (united_again more)
united_again (instr.Return ∷ more) = ap (λ l. instr.Return ∷ l) (united_again more)
united_again (instr.ReturnSelf ∷ more) = ap (λ l. instr.ReturnSelf ∷ l) (united_again more)
united_again (instr.ReturnHome ∷ more) = ap (λ l. instr.ReturnHome ∷ l) (united_again more)
united_again (instr.Jump a ∷ more) = ap (λ l. instr.Jump a ∷ l) (united_again more)
united_again (instr.JumpFalse a ∷ more) = ap (λ l. instr.JumpFalse a ∷ l) (united_again more)
united_again (instr.JumpTrue a ∷ more) = ap (λ l. instr.JumpTrue a ∷ l) (united_again more)

-- whether an instruction carries a place is told by its operation
pub carries_again : (operation : Operation) (word : ℕ) (integer : ℤ) →
    is_carrier operation ≡ carries_place (instr_of operation word integer)
carries_again op.PushNil word integer = refl
carries_again op.PushTrue word integer = refl
carries_again op.PushFalse word integer = refl
carries_again op.PushInt word integer = refl
carries_again op.PushSym word integer = refl
carries_again op.PushText word integer = refl
carries_again op.PushSelf word integer = refl
carries_again (op.PushOuter a) word integer = refl
carries_again (op.PushLocal a b) word integer = refl
carries_again (op.StoreLocal a b) word integer = refl
carries_again op.PushBlock word integer = refl
carries_again (op.MakeArray a) word integer = refl
carries_again op.Pop word integer = refl
carries_again (op.Pick a) word integer = refl
carries_again (op.Send a) word integer = refl
carries_again (op.SendInner a) word integer = refl
carries_again (op.SendPrivate a b) word integer = refl
carries_again (op.SendSuper a) word integer = refl
carries_again (op.InitSuper a) word integer = refl
carries_again (op.StoreSlot a b) word integer = refl
carries_again op.Return word integer = refl
carries_again op.ReturnSelf word integer = refl
carries_again op.ReturnHome word integer = refl
carries_again op.Jump word integer = refl
carries_again op.JumpFalse word integer = refl
carries_again op.JumpTrue word integer = refl

-- there are as many instructions as operations
pub as_many : (operations : List Operation) (words : List ℕ) (integers : List ℤ) →
    length (united operations words integers) ≡ length operations
as_many [] words integers = refl
as_many (operation ∷ operations) words integers =
    ap suc (as_many operations (behind (has_word operation) words) (behind (has_integer operation) integers))

-- the instruction of a number carries a place where the operation of that number does
pub carrier_there : (number : ℕ) (operations : List Operation) (words : List ℕ) (integers : List ℤ)
    → option_map_or is_carrier (slice_get operations number) false ≡ option_map_or carries_place (slice_get (united operations words integers) number) false
carrier_there number [] words integers = refl
carrier_there zero (operation ∷ operations) words integers = carries_again operation (first 0 words) (first (pos 0) integers)
carrier_there (suc number) (operation ∷ operations) words integers =
    carrier_there number operations (behind (has_word operation) words) (behind (has_integer operation) integers)
