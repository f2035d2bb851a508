-- A value that was told is handed back as it was.
use Rattle.std.proofs.Common.{◌≡◌, ◌<◌, ℕ, true, ap, arith, refl}
use Rattle.std.proofs.lemmas.Bool.Decides.{nat_tests}
use Rattle.std.specs.Prelude.{◌==◌, pos, Some}
use Rattle.ns_handed.specs.Hands.{hand_of, is_of, object_of, symbol_of, value_told, word_of}
use Rattle.ns_handed.specs.Laws.{HandsBack, HasWord}
use Rattle.ns_handed.specs.declared.value.Hand.TheVariants as hand
use Rattle.ns_world.specs.declared.value.KClass.TheVariants.{Object, Array}
use Rattle.ns_world.specs.declared.value.Value.{Value}
use Rattle.ns_world.specs.declared.value.Value.TheVariants.{Nil, True, False, Int, Sym, Kernel, Ref}

word_is : (n : ℕ) → n < 4294967296 → word_of (pos n) ≡ Some n
word_is n h = grind (arith, nat_tests, h)

same : (n : ℕ) → (n == n) ≡ true
same n = grind (arith, nat_tests)

back : (program : ℕ) (value : Value) → HasWord value → hand_of (value_told program value) ≡ hand.Given value
unfolding hand_of
back program Nil h = refl
back program True h = refl
back program False h = refl
back program (Int number) h = refl
back program (Sym sel) h = ap symbol_of (word_is sel.0 h)
back program (Kernel Object) h = refl
back program (Kernel Array) h = refl
back program (Ref at) h = ap object_of (word_is at h)

own : (program : ℕ) (value : Value) → is_of program (value_told program value) ≡ true
own program Nil = refl
own program True = refl
own program False = refl
own program (Int number) = refl
own program (Sym sel) = same program
own program (Kernel class) = refl
own program (Ref at) = same program

pub hands_back : (program : ℕ) → HandsBack program
hands_back program value h = record { value_is = back program value h; own = own program value }
