-- The code of a body is the same in a table of names that has grown.
use Rattle.std.proofs.Common.{◌≡◌, ◌∙◌, ℕ, List, [], ◌∷◌, refl, sym, ap, subst}
use Rattle.std.specs.Prelude.{flat_map, map, true}
use Rattle.ns_base.specs.Names.{has}
use Rattle.ns_base.specs.declared.selector.Sel.{Sel}
use Rattle.ns_code.specs.declared.body.BodyCode.{BodyCode}
use Rattle.ns_code.specs.declared.instruction.Instr.{Instr}
use Rattle.ns_code.specs.declared.instruction.Instr.TheVariants as i
use Rattle.ns_resolved.specs.Program as m
use Rattle.ns_resolved.specs.Tables.{put_all, sel_of, body_names, body_head}
use Rattle.ns_resolved.specs.laws.Places.{place_stands_all}
use Rattle.ns_gen_code.specs.Code.{CodeLine, does, symbol, sends, starts, plain, inner, private_at, super, instr_of, greatest_height, places_from, body_lines, body_code}
use Rattle.ns_gen_code.specs.Stated.{AreThere, line_names}
use Rattle.ns_gen_code.specs.laws.Names.{body_used, all_there, left_there, right_there}

sel_stays : (table more : List (List ℕ)) (name : List ℕ) → has table name ≡ true → sel_of (put_all table more) name ≡ sel_of table name
sel_stays table more name h = ap (λ n. (let s : Sel = record { 0 = n } in s)) (place_stands_all more table name h)

line_stays : (table more : List (List ℕ)) (line : CodeLine) → AreThere table (line_names line) →
    instr_of (put_all table more) line ≡ instr_of table line
line_stays table more (does instr) h = refl
line_stays table more (symbol name) h = ap i.PushSym (sel_stays table more name h.0)
line_stays table more (sends plain sent count) h = ap (λ s. i.Send s count) (sel_stays table more sent.selector h.0)
line_stays table more (sends inner sent count) h = ap (λ s. i.SendInner s count) (sel_stays table more sent.selector h.0)
line_stays table more (sends (private_at level) sent count) h =
    ap (λ s. i.SendPrivate level s count) (sel_stays table more sent.selector h.0)
line_stays table more (sends super sent count) h = ap (λ s. i.SendSuper s count) (sel_stays table more sent.selector h.0)
line_stays table more (starts place count) h = refl

lines_stay : (table more : List (List ℕ)) (lines : List CodeLine) → AreThere table (flat_map line_names lines) →
    map (instr_of (put_all table more)) lines ≡ map (instr_of table) lines
lines_stay table more [] h = refl
lines_stay table more (line ∷ lines) h =
    ap (λ instr. instr ∷ map (instr_of (put_all table more)) lines)
    (line_stays table more line (left_there table (line_names line) (flat_map line_names lines) h))
    ∙ ap (instr_of table line ∷◌) (lines_stay table more lines (right_there table (line_names line) (flat_map line_names lines) h))

abbrev pub code_with : BodyCode → List CodeLine → List Instr → BodyCode
code_with head lines instrs = record head { height = greatest_height 0 instrs; instrs = instrs; places = places_from 0 lines }

-- the code of a body whose names were put, in a table with more behind them
pub code_stays : (table more : List (List ℕ)) (k : ℕ) (body : m.Body) →
    body_code (put_all (put_all table (body_names body)) more) k body ≡ body_code (put_all table (body_names body)) k body
code_stays table more k body =
    let own = put_all table (body_names body) in
    let lines = body_lines k body.does in
    let there : AreThere own (flat_map line_names lines) =
    subst (λ names. AreThere own names) (sym (body_used body k)) (all_there (body_names body) table) in
    ap (code_with (body_head body) lines) (lines_stay own more lines there)
