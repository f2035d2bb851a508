-- What is said of lines and code by the laws about them.
use Rattle.std.specs.Prelude.{◌≡◌, ◌≤◌, ℕ, ◌+◌, ◌∷◌, ◌++◌, [], List, length, map, flat_map, take, true, false, Option, Some, None, ◌==◌, if◌then◌else◌}
use Rattle.std.specs.List.{slice_index_or}
use Rattle.ns_base.specs.declared.place.Place.{Place}
use Rattle.ns_base.specs.Names.{has}
use Rattle.ns_code.specs.declared.program.CodeProgram.{CodeProgram}
use Rattle.ns_code.specs.declared.body.BodyCode.{BodyCode}
use Rattle.ns_code.specs.declared.instruction.Instr.{Instr}
use Rattle.ns_code.specs.declared.instruction.Instr.TheVariants as i
use Rattle.ns_code.specs.Table.{takes, ends_wrongly, goes_on, target}
use Rattle.ns_code.specs.Heads.{head_of}
use Rattle.ns_verify.specs.Heights.{Pass, next}
use Rattle.ns_verify.specs.Causes.{has_bad_height}
use Rattle.ns_resolved.specs.Program as m
use Rattle.ns_resolved.specs.Tables.{node_names, node_texts, body_texts, tables}
use Rattle.ns_gen_code.specs.Code.{CodeLine, does, symbol, sends, starts, node_lines, instr_of, height_before_next, code_of}

-- the names that a line uses
abbrev pub line_names : CodeLine → List (List ℕ)
line_names (does instr) = []
line_names (symbol name) = name ∷ []
line_names (sends way sent count) = sent.selector ∷ []
line_names (starts place count) = []

-- the number of the text that an instruction pushes
abbrev pub instr_texts : Instr → List ℕ
instr_texts (i.PushText k) = k ∷ []
instr_texts _ = []

abbrev pub line_texts : CodeLine → List ℕ
line_texts (does instr) = instr_texts instr
line_texts (symbol name) = []
line_texts (sends way sent count) = []
line_texts (starts place count) = []

-- ---- instructions with their places

abbrev pub line_place : CodeLine → Option Place
line_place (does instr) = None
line_place (symbol name) = None
line_place (sends way sent count) = Some sent.place
line_place (starts place count) = Some place

-- a line as its instruction and its place
abbrev pub shown : List (List ℕ) → CodeLine → Instr × Option Place
shown names line = (instr_of names line, line_place line)

-- the place of that number
abbrev pub place_in : List (ℕ × Place) → ℕ → Option Place
place_in [] number = None
place_in (entry ∷ entries) number = if entry.0 == number then Some entry.1 else place_in entries number

-- instructions with their places, numbered from that number on
abbrev pub placed : List (ℕ × Place) → ℕ → List Instr → List (Instr × Option Place)
placed places number [] = []
placed places number (instr ∷ instrs) = (instr, place_in places number) ∷ placed places (number + 1) instrs

-- ---- what comes first of an expression's lines does not hang on what follows

abbrev pub GoOn : m.Node → Type 0
GoOn node = (k : ℕ) (rest more : List CodeLine) → node_lines k node (rest ++ more) ≡ node_lines k node rest ++ more

-- ---- the walks over expressions meet names and texts in the order of the instructions

abbrev pub NamesInOrder : m.Node → Type 0
NamesInOrder node =
    (k : ℕ) (rest : List CodeLine) → flat_map line_names (node_lines k node rest) ≡ node_names node ++ flat_map line_names rest

-- the numbers from one on, so many
abbrev pub numbers_from : ℕ → List (List ℕ) → List ℕ
numbers_from k [] = []
numbers_from k (text ∷ texts) = k ∷ numbers_from (k + 1) texts

abbrev pub TextsInOrder : m.Node → Type 0
TextsInOrder node =
    (k : ℕ) (rest : List CodeLine) → flat_map line_texts (node_lines k node rest) ≡ numbers_from k (node_texts node) ++ flat_map line_texts rest

-- The texts stand in a table from that number on.
abbrev pub TextsStand : List (List ℕ) → ℕ → List (List ℕ) → Type 0
TextsStand table k [] = Unit {0}
TextsStand table k (text ∷ texts) = (slice_index_or table k [] ≡ text) × TextsStand table (k + 1) texts

-- the number of the first literal text of a body of that number
abbrev pub first_text : List m.Body → ℕ → ℕ
first_text bodies number = length (flat_map body_texts (take number bodies))

-- ---- tables and code are of one program

-- the code without instructions
abbrev pub without_code : CodeProgram → CodeProgram
without_code code = record code { bodies = map head_of code.bodies }

abbrev pub OneProgram : m.Meant → Type 0
OneProgram meant = without_code (code_of meant) ≡ tables meant

-- ---- heights

-- Each instruction of straight code finds its operands, each return has the height at which a frame may end, and none jumps.
abbrev pub FindsOperands : ℕ → List Instr → Type 0
FindsOperands height [] = Unit {0}
FindsOperands height (instr ∷ instrs) =
    (takes instr ≤ height) × (ends_wrongly instr height ≡ false) × (target instr ≡ None) × FindsOperands (height_before_next instr height) instrs

-- the same of lines
abbrev pub LinesFind : List (List ℕ) → ℕ → List CodeLine → Type 0
LinesFind names height lines = FindsOperands height (map (instr_of names) lines)

-- No height of straight code is above the greatest.
abbrev pub Within : ℕ → ℕ → List Instr → Type 0
Within greatest height [] = height ≤ greatest
Within greatest height (instr ∷ instrs) = (height ≤ greatest) × Within greatest (height_before_next instr height) instrs

-- ---- ends

-- The last line is an instruction that goes on to no other.
abbrev pub Ends : List CodeLine → Type 0
Ends [] = ⊥
Ends (line ∷ []) = goes_on (instr_of [] line) ≡ false
Ends (line ∷ (next ∷ lines)) = Ends (next ∷ lines)

-- No instruction has the cause BadHeight.
abbrev pub HaveGoodHeights : BodyCode → Pass → ℕ → List Instr → Type 0
HaveGoodHeights body pass number [] = Unit {0}
HaveGoodHeights body pass number (instr ∷ instrs) =
    (has_bad_height body pass number instr ≡ false) × HaveGoodHeights body (next pass number instr) (number + 1) instrs

-- ---- names that are there

abbrev pub AreThere : List (List ℕ) → List (List ℕ) → Type 0
AreThere table [] = Unit {0}
AreThere table (name ∷ names) = (has table name ≡ true) × AreThere table names
