-- The end of a printed text.
use Rattle.std.proofs.Common.{◌≡◌, refl, sym, ap, ◌∙◌, ℕ, ◌+◌, ◌-◌, ◌<◌, true, false, List, [], ◌∷◌, ◌++◌, length, take, arith, Some, None, append_assoc, length-append}
use Rattle.std.proofs.Math.Seq.{take-append-add}
use Rattle.std.proofs.lemmas.List.{append-nil}
use Rattle.ns_tree.specs.declared.token.Kind.{Kind}
use Rattle.ns_tree.specs.Flat.{flat}
use Rattle.ns_tree.specs.Plain as p
use Rattle.ns_print.specs.Printed.{spell, gap, lines, printed}

-- a text without its last byte, and with a line feed
abbrev pub ending : List ℕ → List ℕ
ending text = take (length text - 1) text ++ 10 ∷ []

ending_append : (a b : List ℕ) → 0 < length b → ending (a ++ b) ≡ a ++ ending b
ending_append a b h =
    let n : length (a ++ b) - 1 ≡ length a + (length b - 1) = omega (arith, length-append a b) in
    ap (λ m. take m (a ++ b) ++ 10 ∷ []) n ∙ ap (λ t. t ++ 10 ∷ []) (take-append-add a b (length b - 1)) ∙ append_assoc a (take (length b - 1) b) (10 ∷ [])

lines_long : (kind : Kind) (rest : List Kind) → 0 < length (lines (kind ∷ rest))
lines_long kind rest = omega (arith, length-append (spell kind ++ gap kind ∷ []) (lines rest), length-append (spell kind) (gap kind ∷ []))

-- the lines of a token and more, with such an end, are printed
pub ended : (kind : Kind) (rest : List Kind) → ending (lines (kind ∷ rest)) ≡ printed (kind ∷ rest)
ended kind [] = ap ending (append-nil (spell kind ++ gap kind ∷ [])) ∙ ending_append (spell kind) (gap kind ∷ []) (omega arith)
ended kind (next ∷ rest) =
    ending_append (spell kind ++ gap kind ∷ []) (lines (next ∷ rest)) (lines_long next rest) ∙ ap (λ t. (spell kind ++ gap kind ∷ []) ++ t) (ended next rest) ∙ append_assoc (spell kind) (gap kind ∷ []) (printed (next ∷ rest))

-- a file has a token
pub begun : (unit : p.SourceUnit) → (kind : Kind) × (rest : List Kind) × (flat unit ≡ kind ∷ rest)
begun (p.unit_with true category class) = (_, _, refl)
begun (p.unit_with false (Some text) class) = (_, _, refl)
begun (p.unit_with false None (p.class_with name factory clause bars body side other)) = (_, _, refl)

-- the lines of a file, with such an end, are printed
pub finished : (unit : p.SourceUnit) (text : List ℕ) → text ≡ lines (flat unit) → take (length text - 1) text ++ 10 ∷ [] ≡ printed (flat unit)
finished unit text h =
    let e : flat unit ≡ (begun unit).0 ∷ (begun unit).1 = (begun unit).2 in
    ap ending (h ∙ ap lines e) ∙ ended (begun unit).0 (begun unit).1 ∙ ap printed (sym e)
