-- `doesNotUnderstand:` takes one argument, whichever number it has.
use Rattle.std.proofs.Common.{◌≡◌, ℕ, suc, ◌+◌, ◌-◌, ◌<◌, ◌⊎◌, inl, inr, List, [], ◌∷◌, length, refl, ap, sym, ◌∙◌, arith, Bool, true, false, cond}
use Rattle.std.proofs.lemmas.Bool.{lt-ltb, le-ltb}
use Rattle.std.proofs.lemmas.Slice.Eq.{bytes_eq-Decides}
use Rattle.std.specs.Prelude.{nat_lt}
use Rattle.std.specs.List.{slice_index_or}
use Rattle.std.specs.Str.{bytes_eq}
use Rattle.ns_code.specs.declared.program.CodeProgram.{CodeProgram}
use Rattle.ns_code.specs.declared.own.Own.TheVariants.{DoesNotUnderstand}
use Rattle.ns_code.specs.Own.{own_text}
use Rattle.ns_code.specs.Selector.{own_text_at, selector_text, text_arity, selector_arity, name_number, own_number}

-- The number of a text among names is that of one of this text, or else the other number.
pub record Named (names : List (List ℕ)) (first found : ℕ) (text : List ℕ) : Type 0 where
  pub place : ℕ
  pub inside : place < length names
  pub number_is : found ≡ first + place
  pub text_is : slice_index_or names place [] ≡ text

one_more : (name : List ℕ) (names : List (List ℕ)) (first found : ℕ) (text : List ℕ) → Named names (first + 1) found text →
    Named (name ∷ names) first found text
one_more name names first found text n =
    record { place = suc n.place; inside = omega (arith, n.inside); number_is = omega (arith, n.number_is); text_is = n.text_is }

pub named : (names : List (List ℕ)) (first : ℕ) (text : List ℕ) (other : ℕ) →
    Named names first (name_number names first text other) text ⊎ (name_number names first text other ≡ other)
named [] first text other = inr refl
named (name ∷ names) first text other = tested (named names (first + 1) text other) (bytes_eq name text) refl
  where
    Found : ℕ → Type 0
    Found found = Named (name ∷ names) first found text ⊎ (found ≡ other)

    Rest : Type 0
    Rest = Named names (first + 1) (name_number names (first + 1) text other) text ⊎ (name_number names (first + 1) text other ≡ other)

    later : Rest → Found (name_number names (first + 1) text other)
    later (inl n) = inl (one_more name names first (name_number names (first + 1) text other) text n)
    later (inr same) = inr same

    tested : Rest → (b : Bool) → bytes_eq name text ≡ b → Found (cond b first (name_number names (first + 1) text other))
    tested rest true t = inl (record { place = 0; inside = omega arith; number_is = omega arith; text_is = (bytes_eq-Decides name text).0 t })
    tested rest false t = later rest

message_text : (code : CodeProgram) → selector_text code (own_number code DoesNotUnderstand) ≡ own_text DoesNotUnderstand
message_text code = found (own_number code DoesNotUnderstand) (named code.names 0 (own_text DoesNotUnderstand) (length code.names + 2))
  where
    test : (number : ℕ) (b : Bool) → nat_lt number (length code.names) ≡ b → selector_text code number ≡ cond b (slice_index_or code.names number []) (own_text_at (number - length code.names))
    test number b t = ap (λ c. cond c (slice_index_or code.names number []) (own_text_at (number - length code.names))) t

    found : (number : ℕ) → Named code.names 0 number (own_text DoesNotUnderstand) ⊎ (number ≡ length code.names + 2) → selector_text code number ≡ own_text DoesNotUnderstand
    found number (inl n) =
        let same : n.place ≡ number = omega (arith, n.number_is) in
        let inside : number < length code.names = omega (arith, n.inside, n.number_is) in
        test number true (lt-ltb number (length code.names) inside) ∙ (ap (λ k. slice_index_or code.names k []) (sym same) ∙ n.text_is)
    found number (inr is) =
        let past : number - length code.names ≡ 2 = omega (arith, is) in
        let not_named : nat_lt number (length code.names) ≡ false = le-ltb number (length code.names) (omega (arith, is)) in
        test number false not_named ∙ ap own_text_at past

pub one_message : (code : CodeProgram) → selector_arity code (own_number code DoesNotUnderstand) ≡ 1
one_message code = ap text_arity (message_text code)
