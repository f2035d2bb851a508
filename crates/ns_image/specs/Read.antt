-- Readers of fields. A reader takes the bytes that are left. It gives a value and the bytes behind it, or what is wrong.
use Rattle.std.specs.Prelude.{ℕ, zero, suc, List, [], ◌∷◌, length, take, drop, Option, Some, None, Bool, nat_lt, nat_le, ◌==◌, if◌then◌else◌, ℤ}
use Rattle.std.specs.Int.{Width, w8, w16, w32, w64, byte_len, from_be_bytes, cast_signed}

pub data Outcome (A : Type 0) : Type 0 where
  got : A → List ℕ → Outcome A
  truncated : Outcome A
  -- so many bytes were left where the bad field begins
  bad : ℕ → Outcome A

abbrev pub Reader : Type 0 → Type 0
Reader A = List ℕ → Outcome A

-- what comes after an outcome, from its value on
abbrev pub and_then : {A B : Type 0} → Outcome A → (A → Reader B) → Outcome B
and_then (got a rest) f = f a rest
and_then truncated f = truncated
and_then (bad left) f = bad left

-- one, and then another that may ask for its value
infixl 10 ◌>>=◌
abbrev pub ◌>>=◌ : {A B : Type 0} → Reader A → (A → Reader B) → Reader B
(p >>= f) bytes = and_then (p bytes) f

-- no field, but a value
abbrev pub given : {A : Type 0} → A → Reader A
given a bytes = got a bytes

-- one, and then another
abbrev pub pair : {A B : Type 0} → Reader A → Reader B → Reader (A × B)
pair p q = p >>= λ a. q >>= λ b. given (a, b)

-- a field that is bad where its value fails the test
abbrev pub passed : {A : Type 0} → Bool → A → ℕ → Reader A
passed passes a left rest = if passes then got a rest else bad left

abbrev pub checked : {A : Type 0} → (A → Bool) → Reader A → Reader A
checked test p bytes = and_then (p bytes) (λ a rest. passed (test a) a (length bytes) rest)

-- ---- single fields

-- so many bytes
abbrev pub taken : ℕ → Reader (List ℕ)
taken n bytes = if nat_lt (length bytes) n then truncated else got (take n bytes) (drop n bytes)

abbrev pub number : Width → Reader ℕ
number w = taken (byte_len w) >>= λ bytes. given (from_be_bytes w bytes)

abbrev pub byte : Reader ℕ
byte = number w8

abbrev pub half : Reader ℕ
half = number w16

abbrev pub word : Reader ℕ
word = number w32

abbrev pub long : Reader ℤ
long = number w64 >>= λ n. given (cast_signed w64 n)

abbrev pub byte_up_to : ℕ → Reader ℕ
byte_up_to most = checked (λ n. nat_le n most) byte

abbrev pub word_up_to : ℕ → Reader ℕ
word_up_to most = checked (λ n. nat_le n most) word

-- none for 0, else the number before it
abbrev pub referred : ℕ → Option ℕ
referred zero = None
referred (suc n) = Some n

unfoldable pub reference : Reader (Option ℕ)
reference = word >>= λ n. given (referred n)

unfoldable pub flag : Reader Bool
flag = byte_up_to 1 >>= λ n. given (n == 1)

unfoldable pub text : Reader (List ℕ)
text = word >>= taken

-- ---- lists

-- So many items, where each is read in view of what came before it.
unfoldable pub chained : {S A : Type 0} → (S → Reader A) → (S → A → S) → ℕ → S → Reader (List A)
chained item next zero s = given []
chained item next (suc n) s = item s >>= λ x. chained item next n (next s x) >>= λ xs. given (x ∷ xs)

-- so many items
abbrev pub times : {A : Type 0} → ℕ → Reader A → Reader (List A)
times n item = chained (λ _. item) (λ (s : Unit {0}) _. s) n tt
