-- What is asked of a receiver by a member that suits it.
use Rattle.std.proofs.Common.{◌≡◌, ℕ, ◌<◌, length, ap, subst, arith}
use Rattle.ns_code.specs.declared.program.CodeProgram.{CodeProgram}
use Rattle.ns_world.specs.declared.value.Value.{Value}
use Rattle.ns_world.specs.declared.value.Value.TheVariants.{Ref}
use Rattle.ns_world.specs.Heap.{Heap, words_at, open_words_at}
use Rattle.ns_world.specs.World.{World}
use Rattle.ns_world.specs.Lawful.{IsLawful, HasHolder}
use Rattle.ns_find.specs.declared.found.Found.{Found}
use Rattle.ns_find.specs.declared.found.Found.TheVariants.{Getter, Setter, Nested}
use Rattle.ns_find.specs.Belonging.{IsSlotOf}
use Rattle.ns_moves.specs.Lawful.{HasClass}
use Rattle.ns_moves.specs.Suits.{Suits}

-- the law that a slot's word may be written, and that an object's words are all such
abbrev pub SlotsOpen : Type 0
SlotsOpen =
    (world : World) (code : CodeProgram) (at holder word : ℕ) → IsLawful world code → HasHolder world.cells (Ref at) holder → IsSlotOf world.cells code holder word → word < length (open_words_at world.cells at)

abbrev pub AllOpen : Type 0
AllOpen = (world : World) (at holder : ℕ) → HasHolder world.cells (Ref at) holder → open_words_at world.cells at ≡ words_at world.cells at

-- a getter reads a word of its receiver
pub slot_read : SlotsOpen → AllOpen → (world : World) (code : CodeProgram) (receiver : Value) (found : Found) (holder word : ℕ) →
    IsLawful world code → Suits world.cells code receiver found → found ≡ Getter holder word
    → (at : ℕ) → receiver ≡ Ref at → word < length (words_at world.cells at)
slot_read open' all world code receiver found holder word lawful suits is at ref =
    let member : Suits world.cells code receiver (Getter holder word) = subst (Suits world.cells code receiver) is suits in
    let has : HasHolder world.cells (Ref at) holder = subst (λ v. HasHolder world.cells v holder) ref member.0 in
    omega (arith, open' world code at holder word lawful has member.2, ap length (all world at holder has))

-- a setter writes one
pub slot_written : SlotsOpen → (world : World) (code : CodeProgram) (receiver : Value) (found : Found) (holder word : ℕ) →
    IsLawful world code → Suits world.cells code receiver found → found ≡ Setter holder word
    → (at : ℕ) → receiver ≡ Ref at → word < length (open_words_at world.cells at)
slot_written open' world code receiver found holder word lawful suits is at ref =
    let member : Suits world.cells code receiver (Setter holder word) = subst (Suits world.cells code receiver) is suits in
    open' world code at holder word lawful (subst (λ v. HasHolder world.cells v holder) ref member.0) member.2

-- a nested class is one of its receiver's
pub class_there : (heap : Heap) (code : CodeProgram) (receiver : Value) (found : Found) (class holder : ℕ) →
    Suits heap code receiver found → found ≡ Nested class holder
    → (object : ℕ) → receiver ≡ Ref object → HasClass heap code object holder class
class_there heap code receiver found class holder suits is object ref =
    let member : Suits heap code receiver (Nested class holder) = subst (Suits heap code receiver) is suits in
    record { object_has = subst (λ v. HasHolder heap v holder) ref member.0; holder_is = member.1; nested = member.2 }
