-- What a String finds by a selector that Array has too.
use Rattle.std.proofs.Common.{◌≡◌, ℕ, ◌+◌, ◌-◌, List, [], ◌∷◌, length, get_or, refl, ap, ◌∙◌, Option, Some, None, Bool, true, false, cond, ◌&&◌}
use Rattle.std.specs.Prelude.{slice_get, codes, unwrap_or}
use Rattle.std.specs.Option.{option_map_or}
use Rattle.std.specs.Str.{bytes_eq}
use Rattle.std.proofs.lemmas.Bool.{lt-ltb}
use Rattle.std.proofs.lemmas.Option.{none-some, slice_get_within, get_or_from_slice_get}
use Rattle.std.proofs.lemmas.Slice.Eq.{bytes_eq-Decides}
use Rattle.ns_base.specs.declared.selector.Sel.{Sel}
use Rattle.ns_code.specs.declared.program.CodeProgram.{CodeProgram}
use Rattle.ns_code.specs.Selector.{selector_text, own_text_at}
use Rattle.ns_world.specs.declared.kernel_class.KernelRow.TheVariants as class
use Rattle.ns_world.specs.declared.kernel_parts.DataRow.{DataRow}
use Rattle.ns_world.specs.declared.kernel_parts.DataRow.TheVariants.{ArrayAt, ArrayPut, ArraySize, TextAt, TextSize}
use Rattle.ns_world.specs.declared.kernel.Start.TheVariants as start
use Rattle.ns_world.specs.declared.kernel_row.Row.TheVariants.{Data}
use Rattle.ns_world.specs.Heap.{Heap}
use Rattle.ns_world.specs.KernelTable.{first_of}
use Rattle.ns_world.specs.laws.Chains.{both_of}
use Rattle.ns_find.specs.declared.found.Found.{Found}
use Rattle.ns_find.specs.declared.found.Found.TheVariants.{Absent, Kernel}
use Rattle.ns_find.specs.declared.found.Sending.{Sending}
use Rattle.ns_find.specs.declared.found.Sending.TheVariants.{Plain, Inner}
use Rattle.ns_find.specs.Find.{found_from, members_from}
use Rattle.ns_find.specs.Members.{Member, Name, Numbered, SetterOf, NamedAs, Spelled, allowed, is_named, search}
use Rattle.ns_machine_plan.specs.Arrays.{data_of, row_of_send, row_of_text}
use Rattle.ns_machine_plan.specs.Integers.{row_found, FindsThatRow}

-- ---- the selector

-- the row of Array of a text, by whether it is each of their texts
abbrev row_told : Bool → Bool → Bool → Bool → Option DataRow
row_told size at put each =
    row_found data_of
    (cond size (Some (first_of class.Array))
    (cond at (Some (first_of class.Array + 1)) (cond put (Some (first_of class.Array + 2)) (cond each (Some (first_of class.Array + 3)) None))))

is_size : (size at put each : Bool) → row_told size at put each ≡ Some ArraySize → size ≡ true
is_size true at put each is = refl
is_size false true put each is = let other : Some ArrayAt ≡ Some ArraySize = is in absurd (cc (other))
is_size false false true each is = let other : Some ArrayPut ≡ Some ArraySize = is in absurd (cc (other))
is_size false false false true is = absurd (none-some ArraySize is)
is_size false false false false is = absurd (none-some ArraySize is)

is_at : (size at put each : Bool) → row_told size at put each ≡ Some ArrayAt → at ≡ true
is_at true at put each is = let other : Some ArraySize ≡ Some ArrayAt = is in absurd (cc (other))
is_at false true put each is = refl
is_at false false true each is = let other : Some ArrayPut ≡ Some ArrayAt = is in absurd (cc (other))
is_at false false false true is = absurd (none-some ArrayAt is)
is_at false false false false is = absurd (none-some ArrayAt is)

-- a name is the text of its selector
name_is : (code : CodeProgram) (number : ℕ) (text : List ℕ) → slice_get code.names number ≡ Some text → selector_text code number ≡ text
name_is code number text is =
    ap (λ b. cond b (get_or code.names number []) (own_text_at (number - length code.names)))
    (lt-ltb number (length code.names) (slice_get_within code.names number text is))
    ∙ get_or_from_slice_get code.names number text [] is

module _ (code : CodeProgram) (sel : Sel) where
  by_name : (row : DataRow) (text : List ℕ) → ((spelling : List ℕ) → row_of_text spelling ≡ Some row → bytes_eq spelling text ≡ true)
      → (name : Option (List ℕ)) → slice_get code.names sel.0 ≡ name → option_map_or row_of_text name None ≡ Some row → selector_text code sel.0 ≡ text
  by_name row text told None there is = absurd (none-some row is)
  by_name row text told (Some spelling) there is =
      name_is code sel.0 spelling there ∙ (bytes_eq-Decides spelling text).0 (told spelling is)

  spells_size : row_of_send code sel ≡ Some ArraySize → selector_text code sel.0 ≡ codes "size"
  spells_size is =
      by_name ArraySize (codes "size")
      (λ spelling called.
      is_size (bytes_eq spelling (codes "size")) (bytes_eq spelling (codes "at:")) (bytes_eq spelling (codes "at:put:")) (bytes_eq spelling (codes "do:")) called)
      (slice_get code.names sel.0) refl is

  spells_at : row_of_send code sel ≡ Some ArrayAt → selector_text code sel.0 ≡ codes "at:"
  spells_at is =
      by_name ArrayAt (codes "at:")
      (λ spelling called.
      is_at (bytes_eq spelling (codes "size")) (bytes_eq spelling (codes "at:")) (bytes_eq spelling (codes "at:put:")) (bytes_eq spelling (codes "do:")) called)
      (slice_get code.names sel.0) refl is

-- ---- the search

-- whether a member is called by a text, and whether that is the text
abbrev has_text : Name → Bool
has_text (Spelled text) = true
has_text (Numbered number) = false
has_text (SetterOf number) = false
has_text (NamedAs class) = false

abbrev is_spelled : List ℕ → Name → Bool
is_spelled spelling (Spelled text) = bytes_eq spelling text
is_spelled spelling other = false

abbrev all_spelled : List Member → Bool
all_spelled [] = true
all_spelled (member ∷ members) = has_text member.name && all_spelled members

-- the search for a text among such members
abbrev search_text : List ℕ → Sending → List Member → Option Found
search_text spelling kind [] = None
search_text spelling kind (member ∷ members) =
    cond (is_spelled spelling member.name && member.there) (Some (allowed kind member.access member.found)) (search_text spelling kind members)

named_so : (code : CodeProgram) (sel : ℕ) (name : Name) → has_text name ≡ true → is_named code sel name ≡ is_spelled (selector_text code sel) name
named_so code sel (Spelled text) is = refl
named_so code sel (Numbered number) is = absurd (cc)
named_so code sel (SetterOf number) is = absurd (cc)
named_so code sel (NamedAs class) is = absurd (cc)

searched : (code : CodeProgram) (sel : ℕ) (kind : Sending) (members : List Member) → all_spelled members ≡ true
    → search code sel kind members ≡ search_text (selector_text code sel) kind members
searched code sel kind [] all = refl
searched code sel kind (member ∷ members) all =
    let two = both_of (has_text member.name) (all_spelled members) all in
    ap (λ (b : Bool). cond (b && member.there) (Some (allowed kind member.access member.found)) (search code sel kind members)) (named_so code sel member.name two.0)
    ∙ ap (λ (o : Option Found). cond (is_spelled (selector_text code sel) member.name && member.there) (Some (allowed kind member.access member.found)) o)
    (searched code sel kind members two.1)

module _ (heap : Heap) (code : CodeProgram) where
  -- what a String finds by a text
  abbrev found_by : List ℕ → Sending → Found
  found_by spelling kind = unwrap_or (search_text spelling kind (members_from heap code (start.Kernel class.String))) Absent

  size_found : (kind : Sending) → found_by (codes "size") kind ≡ Kernel (first_of class.String)
  size_found Plain = refl
  size_found Inner = refl

  at_found : (kind : Sending) → found_by (codes "at:") kind ≡ Kernel (first_of class.String + 1)
  at_found Plain = refl
  at_found Inner = refl

  text_found : (sel : ℕ) (kind : Sending) (spelling : List ℕ) → selector_text code sel ≡ spelling
      → found_from heap code (start.Kernel class.String) sel kind ≡ found_by spelling kind
  text_found sel kind spelling is =
      ap (λ (o : Option Found). unwrap_or o Absent) (searched code sel kind (members_from heap code (start.Kernel class.String)) refl)
      ∙ ap (λ (t : List ℕ). found_by t kind) is

  -- A String finds its own row of `size`, and that of `at:`, where the selector has that row of Array.
  pub size_finds : (sel : Sel) (kind : Sending) → row_of_send code sel ≡ Some ArraySize → FindsThatRow heap code class.String sel kind (Data TextSize)
  size_finds sel kind is = record {
    number = first_of class.String;
    found = text_found sel.0 kind (codes "size") (spells_size code sel is) ∙ size_found kind;
    row_is = refl;
  }

  pub at_finds : (sel : Sel) (kind : Sending) → row_of_send code sel ≡ Some ArrayAt → FindsThatRow heap code class.String sel kind (Data TextAt)
  at_finds sel kind is = record {
    number = first_of class.String + 1;
    found = text_found sel.0 kind (codes "at:") (spells_at code sel is) ∙ at_found kind;
    row_is = refl;
  }
