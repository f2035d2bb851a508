-- What was loaded of a file, and what the file is.
use Rattle.std.proofs.Common.{◌≡◌, ◌≢◌, ℕ, ◌+◌, ◌<◌, List, length, take, nat_lt, cond, Option, Some, None, option_map, Result, Ok, Err, MatchResult, refl, ap, sym, subst, ◌∙◌, arith, inl, inr}
use Rattle.std.specs.Prelude.{IfErr}
use Rattle.std.specs.Option.{IfSome}
use Rattle.std.proofs.lemmas.Bool.{cases_lt, lt-ltb}
use Rattle.std.proofs.lemmas.List.{take_all, length-take-le}
use Rattle.ns_load.specs.Answer.{IsOfBytes, TellsFile}
use Rattle.ns_load.specs.Source.{read, read_bytes, read_file, refused, spells}
use Rattle.ns_load.specs.declared.fault.LoadCause.TheVariants.{Missing, TooLong, ReadFault, Spelling}
use Rattle.ns_load.specs.declared.fault.LoadFault.{LoadFault}
use Rattle.ns_load.specs.declared.fault.LoadFault.TheVariants.{At, Memory}
use Rattle.ns_load.specs.declared.read.Source.{Source}
use Rattle.ns_tree.specs.PlainOf.{unit_of}

-- In one byte more than fits, a test of the length and a function see the same.
pub cut_same : {X : Type 0} (n : ℕ) (xs : List ℕ) (x : X) (f : List ℕ → X) → cond (nat_lt n (length (take (n + 1) xs))) x (f (take (n + 1) xs)) ≡ cond (nat_lt n (length xs)) x (f xs)
cut_same n xs x f =
    elim (cases_lt n (length xs)) [
      | inl h ↦
          let a : n < length (take (n + 1) xs) = omega (arith, length-take-le (n + 1) xs (omega arith)) in
          rw (lt-ltb n (length (take (n + 1) xs)) a, lt-ltb n (length xs) h) refl
      | inr h ↦
          let e : take (n + 1) xs ≡ xs = take_all (n + 1) xs (omega arith) in
          ap (λ ys. cond (nat_lt n (length ys)) x (f ys)) e
    ]

-- What was loaded of a file is read as the file is.
pub file_cut : (k : ℕ) (text : Option (List ℕ)) (bytes : List ℕ) → option_map (take 1048577) text ≡ Some bytes → read_bytes k bytes ≡ read_file k text
file_cut k None bytes h = cc
file_cut k (Some whole) bytes h =
    let e : take 1048577 whole ≡ bytes = cc in
    ap (read_bytes k) (sym e) ∙ cut_same 1048576 whole (refused (At TooLong k)) (read k)

-- What is answered of the bytes that were loaded is told of the file.
pub bytes_tell : (k : ℕ) (text : Option (List ℕ)) (bytes : List ℕ) (result : Result Source LoadFault) → option_map (take 1048577) text ≡ Some bytes
    → MatchResult result (λ r. read_bytes k bytes ≡ spells (unit_of r.unit) r.marks) (λ fault. fault ≢ Memory → read_bytes k bytes ≡ refused fault) → IfErr result IsOfBytes → TellsFile k text result
bytes_tell k text bytes (Ok source) h m i = sym (file_cut k text bytes h) ∙ m
bytes_tell k text bytes (Err (At Missing file)) h m i = absurd i
bytes_tell k text bytes (Err (At TooLong file)) h m i = sym (file_cut k text bytes h) ∙ m (λ e. cc (e))
bytes_tell k text bytes (Err (At ReadFault file)) h m i = absurd i
bytes_tell k text bytes (Err (At (Spelling wrong place) file)) h m i = sym (file_cut k text bytes h) ∙ m (λ e. cc (e))
bytes_tell k text bytes (Err Memory) h m i = tt

pub IfSome_at : {X : Type 0} (o : Option X) (x : X) (P : X → Type 0) → o ≡ Some x → IfSome o P → P x
IfSome_at o x P e h = subst (λ q. IfSome q P) e h
