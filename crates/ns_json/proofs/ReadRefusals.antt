-- Refusals, faults and sends without an answer are read back from the values that tell them.
use Rattle.std.proofs.Common.{◌≡◌, ℕ, List, [], ◌∷◌, ◌++◌, codes, Bool, false, cond, refl, ap, ◌∙◌}
use Rattle.std.specs.Str.{bytes_eq}
use Rattle.ns_json.specs.Json.{Members}
use Rattle.ns_json.specs.Json.{members, number_text, texted}
use Rattle.ns_json.specs.Report as spec
use Rattle.ns_json.specs.declared.saying.Fault.{Fault}
use Rattle.ns_json.specs.declared.saying.Refusal.{Refusal}
use Rattle.ns_json.specs.declared.saying.Refused.TheVariants as refused
use Rattle.ns_json.specs.declared.saying.Refused.{Refused}
use Rattle.ns_json.specs.declared.saying.Unanswered.{Unanswered}
use Rattle.ns_json.proofs.Digits.{behind_digits, behind_number, leading, leading_number, number_back, number_of}
use Rattle.ns_json.proofs.Read.{bytes, natural, first, is_named, next}
use Rattle.ns_json.proofs.ReadEnds.{place_in}

-- what stands behind four, five and six bytes
abbrev pub behind_one : List ℕ → List ℕ
behind_one [] = []
behind_one (c ∷ cs) = cs

abbrev pub behind_four : List ℕ → List ℕ
behind_four text = behind_one (behind_one (behind_one (behind_one text)))

abbrev pub instruction_in : List ℕ → List ℕ → Refused
instruction_in file text = refused.Body file (number_of (leading text)) (number_of (behind_four (behind_digits text)))

abbrev pub is_class : List ℕ → Bool
is_class [] = false
is_class (c ∷ cs) = bytes_eq (c ∷ []) (codes "c")

abbrev pub code_in : List ℕ → List ℕ → Refused
code_in file text =
    cond (is_class text) (refused.Class file (number_of (behind_one (behind_one (behind_four text)))))
    (instruction_in file (behind_one (behind_four text)))

-- what was refused in a file, which is told in the members behind it
abbrev pub in_file : Members → Members → Refused
in_file m more =
    cond (is_named (codes "line") more) (refused.Source (place_in m))
    (cond (is_named (codes "offset") more) (refused.Byte (bytes (first m)) (natural (first more)))
    (cond (is_named (codes "in") more) (code_in (bytes (first m)) (bytes (first more))) (refused.File (bytes (first m)))))

abbrev pub refused_of : Members → Refused
refused_of m = cond (is_named (codes "file") m) (in_file m (next m)) refused.Program

abbrev pub refusal_of : Members → Refusal
refusal_of m = record { cause = bytes (first m); refused = refused_of (next m) }

pub refused_back : (r : Refused) → refused_of (members (spec.refused_members r)) ≡ r
refused_back refused.Program = refl
refused_back (refused.File file) = refl
refused_back (refused.Byte file offset) = refl
refused_back (refused.Class file class) = ap (refused.Class file) (number_back class)
refused_back (refused.Body file body at) =
    ap (λ n. refused.Body file n (number_of (behind_four (behind_digits (number_text body ++ (codes " at " ++ number_text at))))))
    (ap number_of (leading_number body (codes " at " ++ number_text at) refl) ∙ number_back body)
    ∙ ap (λ n. refused.Body file body n)
    (ap (λ text. number_of (behind_four text)) (behind_number body (codes " at " ++ number_text at) refl) ∙ number_back at)
refused_back (refused.Source place) = refl

pub refusal_back : (refusal : Refusal) →
    refusal_of (members (texted (codes "cause") refusal.cause ∷ spec.refused_members refusal.refused)) ≡ refusal
refusal_back refusal = ap (λ r. record { cause = refusal.cause; refused = r }) (refused_back refusal.refused)

-- ---- checks

abbrev pub fault_of : Members → Fault
fault_of m = record { cause = bytes (first m); place = place_in (next m) }

pub fault_back : (fault : Fault) → fault_of (members (spec.fault_members fault)) ≡ fault
fault_back fault = refl

abbrev pub unanswered_of : Members → Unanswered
unanswered_of m = record { selector = bytes (first m); place = place_in (next m) }

pub unanswered_back : (sent : Unanswered) → unanswered_of (members (spec.unanswered_members sent)) ≡ sent
unanswered_back sent = refl
