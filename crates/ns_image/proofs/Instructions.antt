-- The format of instructions.
use Rattle.std.proofs.Common.{◌≡◌, ℕ, zero, suc, ◌≤◌, ◌<◌, ◌+◌, List, [], ◌∷◌, ◌++◌, length, Option, Some, None, refl, sym, ap, subst, ◌∙◌, append_assoc, arith}
use Rattle.std.specs.Prelude.{slice_get}
use Rattle.std.proofs.lemmas.Option.{slice_get_past}
use Rattle.ns_code.specs.declared.instruction.Instr.{Instr}
use Rattle.ns_code.specs.declared.instruction.Instr.TheVariants as i
use Rattle.ns_code.specs.Fits.{IsByte, IsWord, InstrFits}
use Rattle.ns_image.specs.Bytes as b
use Rattle.ns_image.specs.Read.{got, Reader, and_then, given, pair, byte}
use Rattle.ns_image.specs.Reading.{Operands, none, operands, operands_of, instructions, behind, instr, selector}
use Rattle.ns_image.specs.laws.Format.{IsBytes, Format, bind_got, pair_format}
use Rattle.ns_image.specs.laws.Fields.{byte_format, half_format, word_format, long_format}
use Rattle.ns_image.proofs.Records.{selector_format}

-- 26 is the last code.
pub past_the_last : (code : ℕ) → 27 ≤ code → operands_of code ≡ None
past_the_last zero h = refl
past_the_last (suc place) h = slice_get_past instructions place (omega arith)

-- ---- what is read was written so

-- what was read behind a code, and was written so
record Wrote (code : ℕ) (bytes : List ℕ) (made : Instr) (rest : List ℕ) : Type 0 where
  tail : List ℕ
  parts : bytes ≡ tail ++ rest
  layout : b.instr made ≡ b.byte code ++ tail
  rest_fits : IsBytes rest
  good : InstrFits made

-- The operands of a code are read as they are written.
abbrev Says : ℕ → Operands → Type 0
Says code form =
    (bytes : List ℕ) (made : Instr) (rest : List ℕ) → IsBytes bytes → operands form bytes ≡ got made rest → Wrote code bytes made rest

none_says : (code : ℕ) (instr : Instr) → b.instr instr ≡ b.byte code ++ [] → InstrFits instr → Says code (none instr)
none_says code instr layout good bytes made rest fits e =
    let is-made : instr ≡ made = cc (e) in
    let behind : bytes ≡ rest = cc (e) in
    subst (λ (x : Instr). Wrote code bytes x rest) is-made (record { tail = []; parts = behind; layout = layout; rest_fits = subst IsBytes behind fits; good = good })

-- one operand
one_says :
    {A : Type 0} {p : Reader A} {Good : A → Type 0} {bytes_of : A → List ℕ} (code : ℕ) (make : A → Instr) → Format p Good bytes_of → ((a : A) → Good a → (b.instr (make a) ≡ b.byte code ++ bytes_of a) × InstrFits (make a))
    → (bytes : List ℕ) (made : Instr) (rest : List ℕ) → IsBytes bytes → and_then (p bytes) (λ a. given (make a)) ≡ got made rest → Wrote code bytes made rest
one_says {A} {p} {Good} {bytes_of} code make format told bytes made rest fits e =
    let a = bind_got (p bytes) (λ a. given (make a)) made rest e in
    let t = format.takes bytes a.0 a.1 fits a.2 in
    let is-made : make a.0 ≡ made = cc (a.3) in
    let behind : a.1 ≡ rest = cc (a.3) in
    let s = told a.0 t.3 in
    subst (λ (x : Instr). Wrote code bytes x rest) is-made
    (record { tail = bytes_of a.0; parts = t.1 ∙ ap (λ (x : List ℕ). bytes_of a.0 ++ x) behind; layout = s.0; rest_fits = subst IsBytes behind t.2; good = s.1 })

two_bytes_format : Format (pair byte byte) (λ p. IsByte p.0 × IsByte p.1) (λ p. b.byte p.0 ++ b.byte p.1)
two_bytes_format = pair_format byte_format byte_format

message_format : Format (pair selector byte) (λ p. IsWord p.0.0 × IsByte p.1) (λ p. b.word p.0.0 ++ b.byte p.1)
message_format = pair_format selector_format byte_format

message_at_format : Format (pair byte (pair selector byte)) (λ p. IsByte p.0 × (IsWord p.1.0.0 × IsByte p.1.1)) (λ p. b.byte p.0 ++ (b.word p.1.0.0 ++ b.byte p.1.1))
message_at_format = pair_format byte_format message_format

-- The operands of each code from one on are read as they are written.
AllSay : ℕ → List Operands → Type 0
AllSay code [] = Unit {0}
AllSay code (form ∷ forms) = Says code form × AllSay (suc code) forms

instructions_say : AllSay 1 instructions
unfolding AllSay
instructions_say = (
  none_says 1 i.PushNil refl tt,
  (
    none_says 2 i.PushTrue refl tt,
    (
      none_says 3 i.PushFalse refl tt,
      (
        one_says 4 i.PushInt long_format (λ a good. (refl, good)),
        (
          one_says 5 i.PushSym selector_format (λ a good. (refl, good)),
          (
            one_says 6 i.PushText word_format (λ a good. (refl, good)),
            (
              none_says 7 i.PushSelf refl tt,
              (
                one_says 8 i.PushOuter byte_format (λ a good. (refl, good)),
                (
                  one_says 9 (λ p. i.PushLocal p.0 p.1) two_bytes_format (λ a good. (refl, good)),
                  (
                    one_says 10 (λ p. i.StoreLocal p.0 p.1) two_bytes_format (λ a good. (refl, good)),
                    (
                      one_says 11 i.PushBlock word_format (λ a good. (refl, good)),
                      (
                        one_says 12 i.MakeArray byte_format (λ a good. (refl, good)),
                        (
                          none_says 13 i.Pop refl tt,
                          (
                            one_says 14 i.Pick byte_format (λ a good. (refl, good)),
                            (
                              one_says 15 (λ p. i.Send p.0 p.1) message_format (λ a good. (refl, good)),
                              (
                                one_says 16 (λ p. i.SendInner p.0 p.1) message_format (λ a good. (refl, good)),
                                (
                                  one_says 17 (λ p. i.SendPrivate p.0 p.1.0 p.1.1) message_at_format (λ a good. (refl, (good.0, good.1.0, good.1.1))),
                                  (
                                    one_says 18 (λ p. i.SendSuper p.0 p.1) message_format (λ a good. (refl, good)),
                                    (
                                      one_says 19 i.InitSuper byte_format (λ a good. (refl, good)),
                                      (
                                        one_says 20 i.StoreSlot half_format (λ a good. (refl, good)),
                                        (
                                          none_says 21 i.Return refl tt,
                                          (
                                            none_says 22 i.ReturnSelf refl tt,
                                            (
                                              none_says 23 i.ReturnHome refl tt,
                                              (
                                                one_says 24 i.Jump word_format (λ a good. (refl, good)),
                                                (
                                                  one_says 25 i.JumpFalse word_format (λ a good. (refl, good)),
                                                  (
                                                    one_says 26 i.JumpTrue word_format (λ a good. (refl, good)),
                                                    tt,
                                                  ),
                                                ),
                                              ),
                                            ),
                                          ),
                                        ),
                                      ),
                                    ),
                                  ),
                                ),
                              ),
                            ),
                          ),
                        ),
                      ),
                    ),
                  ),
                ),
              ),
            ),
          ),
        ),
      ),
    ),
  ),
)

says_at : (code : ℕ) (forms : List Operands) (place : ℕ) (form : Operands) → AllSay code forms → slice_get forms place ≡ Some form →
    Says (code + place) form
unfolding AllSay
says_at code [] place form say e = absurd (cc (e))
says_at code (first ∷ forms) zero form say e =
    let same : first ≡ form = cc (e) in
    let here : code ≡ code + 0 = omega arith in
    subst (λ (k : ℕ). Says k form) here (subst (Says code) same say.0)
says_at code (first ∷ forms) (suc place) form say e =
    let there : suc code + place ≡ code + suc place = omega arith in
    subst (λ (k : ℕ). Says k form) there (says_at (suc code) forms place form say.1 e)

behind_wrote : (left code : ℕ) (mid : List ℕ) (made : Instr) (rest : List ℕ) → IsBytes mid →
    behind left (operands_of code) mid ≡ got made rest → Wrote code mid made rest
behind_wrote left zero mid made rest fits e = absurd (cc (e))
behind_wrote left (suc place) mid made rest fits e = found (slice_get instructions place) refl e
  where
    found : (form : Option Operands) → slice_get instructions place ≡ form → behind left form mid ≡ got made rest → Wrote (suc place) mid made rest
    found None is e = absurd (cc (e))
    found (Some form) is e =
        let code-is : 1 + place ≡ suc place = omega arith in
        subst (λ (k : ℕ). Wrote k mid made rest) code-is (says_at 1 instructions place form instructions_say is mid made rest fits e)

-- ---- what was written is read again

coded : (code : ℕ) → code < 256 → (tail rest : List ℕ) (made : Instr) →
    ((left : ℕ) → behind left (operands_of code) (tail ++ rest) ≡ got made rest) → instr ((b.byte code ++ tail) ++ rest) ≡ got made rest
unfolding instr
coded code below tail rest made told =
    ap instr (append_assoc (b.byte code) tail rest) ∙ rw (byte_format.again code (tail ++ rest) tt below) (told _)

one_again : {A : Type 0} {p : Reader A} {Good : A → Type 0} {bytes_of : A → List ℕ} (make : A → Instr) → Format p Good bytes_of →
    (a : A) (rest : List ℕ) → Good a → and_then (p (bytes_of a ++ rest)) (λ x. given (make x)) ≡ got (make a) rest
one_again make format a rest good = rw (format.again a rest tt good) refl

instr_again : (made : Instr) (rest : List ℕ) → InstrFits made → instr (b.instr made ++ rest) ≡ got made rest
instr_again i.PushNil rest good = coded 1 (omega arith) [] rest i.PushNil (λ left. refl)
instr_again i.PushTrue rest good = coded 2 (omega arith) [] rest i.PushTrue (λ left. refl)
instr_again i.PushFalse rest good = coded 3 (omega arith) [] rest i.PushFalse (λ left. refl)
instr_again (i.PushInt x) rest good =
    coded 4 (omega arith) (b.long x) rest (i.PushInt x) (λ left. one_again i.PushInt long_format x rest good)
instr_again (i.PushSym x) rest good =
    coded 5 (omega arith) (b.word x.0) rest (i.PushSym x) (λ left. one_again i.PushSym selector_format x rest good)
instr_again (i.PushText x) rest good =
    coded 6 (omega arith) (b.word x) rest (i.PushText x) (λ left. one_again i.PushText word_format x rest good)
instr_again i.PushSelf rest good = coded 7 (omega arith) [] rest i.PushSelf (λ left. refl)
instr_again (i.PushOuter x) rest good =
    coded 8 (omega arith) (b.byte x) rest (i.PushOuter x) (λ left. one_again i.PushOuter byte_format x rest good)
instr_again (i.PushLocal x y) rest good =
    coded 9 (omega arith) (b.byte x ++ b.byte y) rest (i.PushLocal x y) (λ left. one_again (λ p. i.PushLocal p.0 p.1) two_bytes_format (x, y) rest good)
instr_again (i.StoreLocal x y) rest good =
    coded 10 (omega arith) (b.byte x ++ b.byte y) rest (i.StoreLocal x y) (λ left. one_again (λ p. i.StoreLocal p.0 p.1) two_bytes_format (x, y) rest good)
instr_again (i.PushBlock x) rest good =
    coded 11 (omega arith) (b.word x) rest (i.PushBlock x) (λ left. one_again i.PushBlock word_format x rest good)
instr_again (i.MakeArray x) rest good =
    coded 12 (omega arith) (b.byte x) rest (i.MakeArray x) (λ left. one_again i.MakeArray byte_format x rest good)
instr_again i.Pop rest good = coded 13 (omega arith) [] rest i.Pop (λ left. refl)
instr_again (i.Pick x) rest good = coded 14 (omega arith) (b.byte x) rest (i.Pick x) (λ left. one_again i.Pick byte_format x rest good)
instr_again (i.Send x y) rest good =
    coded 15 (omega arith) (b.word x.0 ++ b.byte y) rest (i.Send x y) (λ left. one_again (λ p. i.Send p.0 p.1) message_format (x, y) rest good)
instr_again (i.SendInner x y) rest good =
    coded 16 (omega arith) (b.word x.0 ++ b.byte y) rest (i.SendInner x y) (λ left. one_again (λ p. i.SendInner p.0 p.1) message_format (x, y) rest good)
instr_again (i.SendPrivate x y z) rest good =
    coded 17 (omega arith) (b.byte x ++ (b.word y.0 ++ b.byte z)) rest (i.SendPrivate x y z) (λ left. one_again (λ p. i.SendPrivate p.0 p.1.0 p.1.1) message_at_format (x, (y, z)) rest (good.0, (good.1, good.2)))
instr_again (i.SendSuper x y) rest good =
    coded 18 (omega arith) (b.word x.0 ++ b.byte y) rest (i.SendSuper x y) (λ left. one_again (λ p. i.SendSuper p.0 p.1) message_format (x, y) rest good)
instr_again (i.InitSuper x) rest good =
    coded 19 (omega arith) (b.byte x) rest (i.InitSuper x) (λ left. one_again i.InitSuper byte_format x rest good)
instr_again (i.StoreSlot x) rest good =
    coded 20 (omega arith) (b.half x) rest (i.StoreSlot x) (λ left. one_again i.StoreSlot half_format x rest good)
instr_again i.Return rest good = coded 21 (omega arith) [] rest i.Return (λ left. refl)
instr_again i.ReturnSelf rest good = coded 22 (omega arith) [] rest i.ReturnSelf (λ left. refl)
instr_again i.ReturnHome rest good = coded 23 (omega arith) [] rest i.ReturnHome (λ left. refl)
instr_again (i.Jump x) rest good = coded 24 (omega arith) (b.word x) rest (i.Jump x) (λ left. one_again i.Jump word_format x rest good)
instr_again (i.JumpFalse x) rest good =
    coded 25 (omega arith) (b.word x) rest (i.JumpFalse x) (λ left. one_again i.JumpFalse word_format x rest good)
instr_again (i.JumpTrue x) rest good =
    coded 26 (omega arith) (b.word x) rest (i.JumpTrue x) (λ left. one_again i.JumpTrue word_format x rest good)

pub instr_format : Format instr InstrFits b.instr
unfolding instr
instr_format = record {
  takes = λ bytes made rest fits e.
      let a = bind_got (byte bytes) (λ code rest. behind (length bytes) (operands_of code) rest) made rest e in
      let t = byte_format.takes bytes a.0 a.1 fits a.2 in
      let w = behind_wrote (length bytes) a.0 a.1 made rest t.2 a.3 in
      let whole : bytes ≡ b.instr made ++ rest = t.1 ∙ ap (λ (x : List ℕ). b.byte a.0 ++ x) w.parts ∙ sym (append_assoc (b.byte a.0) w.tail rest) ∙ ap (λ (x : List ℕ). x ++ rest) (sym w.layout) in
      (tt, whole, w.rest_fits, w.good);
  again = λ made rest known good. instr_again made rest good;
}
