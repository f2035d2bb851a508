-- Faults of one key are one.
use Rattle.std.proofs.Common.{◌≡◌, ◌∙◌, sym, refl, ap, ℕ, length, nat_eq, if◌then◌else◌}
use Rattle.std.specs.List.{slice_index_or}
use Rattle.ns_static_rules.specs.declared.fault.StaticCause.{StaticCause}
use Rattle.ns_static_rules.specs.declared.fault.StaticCause.TheVariants as c
use Rattle.ns_static_rules.specs.declared.fault.Many.TheVariants as many
use Rattle.ns_static_rules.specs.declared.fault.Placed.{Placed}
use Rattle.ns_static_rules.specs.Least.{order_of, cause_number}

-- ---- causes have numbers of their own

cause_of : ℕ → StaticCause
cause_of n =
    if nat_eq n 0 then c.DuplicateMember else if nat_eq n 1 then c.DuplicateLocal else if nat_eq n 2 then c.FixedLocal
    else if nat_eq n 3 then c.BadReturn else if nat_eq n 4 then c.BareReceiver else if nat_eq n 5 then c.NoSuchOuter
    else if nat_eq n 6 then c.BadCascade else if nat_eq n 7 then c.PlainTooLarge
    else if nat_eq n 8 then c.TooMany many.Parameters else if nat_eq n 9 then c.TooMany many.Locals
    else if nat_eq n 10 then c.TooMany many.Elements else if nat_eq n 11 then c.TooMany many.Members
    else if nat_eq n 12 then c.TooMany many.Classes else if nat_eq n 13 then c.TopSuper else c.DuplicateTop

cause_back : (cause : StaticCause) → cause_of (cause_number cause) ≡ cause
unfolding cause_of
cause_back c.DuplicateMember = refl
cause_back c.DuplicateLocal = refl
cause_back c.FixedLocal = refl
cause_back c.BadReturn = refl
cause_back c.BareReceiver = refl
cause_back c.NoSuchOuter = refl
cause_back c.BadCascade = refl
cause_back c.PlainTooLarge = refl
cause_back (c.TooMany many.Parameters) = refl
cause_back (c.TooMany many.Locals) = refl
cause_back (c.TooMany many.Elements) = refl
cause_back (c.TooMany many.Members) = refl
cause_back (c.TooMany many.Classes) = refl
cause_back c.TopSuper = refl
cause_back c.DuplicateTop = refl

same_cause : (a b : StaticCause) → cause_number a ≡ cause_number b → a ≡ b
same_cause a b h = sym (cause_back a) ∙ (ap cause_of h ∙ cause_back b)

-- ---- faults have keys of their own

abbrev fault_at : ℕ → ℕ → ℕ → StaticCause → Placed
fault_at file line col cause = record { place = record { file = file; line = line; col = col }; cause = cause }

same_at : (f g l m c d : ℕ) (a b : StaticCause) → f ≡ g → l ≡ m → c ≡ d → a ≡ b → fault_at f l c a ≡ fault_at g m d b
same_at f g l m c d a b h i j k =
    ap (λ x. fault_at x l c a) h ∙ (ap (λ x. fault_at g x c a) i ∙ (ap (λ x. fault_at g m x a) j ∙ ap (λ x. fault_at g m d x) k))

pub four_numbers : (fault : Placed) → length (order_of fault) ≡ 4
four_numbers fault = refl

pub same_fault : (a b : Placed) → order_of a ≡ order_of b → a ≡ b
same_fault a b h =
    same_at a.place.file b.place.file a.place.line b.place.line a.place.col b.place.col a.cause b.cause
    (ap (λ l. slice_index_or l 0 0) h) (ap (λ l. slice_index_or l 1 0) h) (ap (λ l. slice_index_or l 2 0) h)
    (same_cause a.cause b.cause (ap (λ l. slice_index_or l 3 0) h))
