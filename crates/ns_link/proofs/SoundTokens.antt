-- What single tokens of a tree give: names with their places.
use Rattle.std.proofs.Common.{◌≡◌, ℕ, ◌≤◌, List, length, subst, ap}
use Rattle.std.specs.Prelude.{Bool, true, false, IsTrue, Some, None, codes, if◌then◌else◌}
use Rattle.std.specs.Str.{bytes_eq}
use Rattle.std.proofs.lemmas.Option.{same_Some}
use Rattle.ns_base.specs.declared.place.Place.{Place}
use Rattle.ns_base.specs.Spelling.{starts_name, is_identifier, is_operator}
use Rattle.ns_tree.specs.declared.token.Kind.TheVariants as k
use Rattle.ns_tree.specs.declared.tree.Named.{Named}
use Rattle.ns_tree.specs.Grammar as g
use Rattle.ns_tree.specs.Rule.{Rule}
use Rattle.ns_tree.specs.Tree.{IsKey, HasText}
use Rattle.ns_resolved.specs.Expressions.{place_at}
use Rattle.ns_link.proofs.Held.{Held}
use Rattle.ns_link.proofs.Words.{Spoken, spoken_name, spoken_operator}

module _ (Fine : Place → Type 0) (marks : List Place) where
  -- the name of a token: its text, and where it stands
  abbrev pub IsNamed : (List ℕ → Type 0) → Named → Type 0
  IsNamed Is name = Is name.text × (length name.text ≤ 1048576) × Fine (place_at marks name.at)

  -- an operator's rule gives names that are selectors
  abbrev pub Gives : Rule Named → Type 0
  Gives operator = (name : Named) → Held Fine marks operator name → Spoken name.text × Fine (place_at marks name.at)

  at_name : (n : ℕ) (name : Named) → Some (g.named n name.text) ≡ Some name → Fine (place_at marks n) → Fine (place_at marks name.at)
  at_name n name e fine = subst (λ at. Fine (place_at marks at)) (ap (λ (x : Named). x.at) (same_Some (g.named n name.text) name e)) fine

  at_name_if : (n : ℕ) (name : Named) (b : Bool) → (if b then Some (g.named n name.text) else None) ≡ Some name → Fine (place_at marks n) →
      Fine (place_at marks name.at)
  at_name_if n name true e fine = at_name n name e fine
  at_name_if n name false e fine = absurd (let f : None ≡ Some name = e in cc)

  at_name_unless : (n : ℕ) (name : Named) (b : Bool) → (if b then None else Some (g.named n name.text)) ≡ Some name → Fine (place_at marks n) →
      Fine (place_at marks name.at)
  at_name_unless n name false e fine = at_name n name e fine
  at_name_unless n name true e fine = absurd (let f : None ≡ Some name = e in cc)

  pub ident_held : (name : Named) → Held Fine marks g.ident name → IsNamed (λ text. HasText (k.Ident text)) name
  ident_held name h = (h.2.0, h.2.1, at_name h.0 name h.1 h.2.2)

  pub key_held : (name : Named) → Held Fine marks g.key name → IsNamed IsKey name
  key_held name h = (h.2.0, h.2.1, at_name h.0 name h.1 h.2.2)

  pub set_key_held : (name : Named) → Held Fine marks g.set_key name → IsNamed (λ text. IsTrue (is_identifier text)) name
  set_key_held name h = (h.2.0, h.2.1, at_name h.0 name h.1 h.2.2)

  pub part_key_held : (name : Named) → Held Fine marks g.part_key name → IsNamed IsKey name
  part_key_held name h = (h.2.0, h.2.1, at_name_if h.0 name (starts_name name.text) h.1 h.2.2)

  pub part_oper_held : (name : Named) → Held Fine marks g.part_oper name → IsNamed (λ text. IsTrue (is_operator text)) name
  part_oper_held name h = (h.2.0, h.2.1, at_name_unless h.0 name (starts_name name.text) h.1 h.2.2)

  pub oper_gives : Gives g.oper
  oper_gives name h = (spoken_operator name.text h.2.0 h.2.1, at_name h.0 name h.1 h.2.2)

  pub slot_oper_gives : Gives g.slot_oper
  slot_oper_gives name h = (spoken_operator name.text h.2.0 h.2.1, at_name_unless h.0 name (bytes_eq name.text (codes "|")) h.1 h.2.2)

  pub ident_gives : Gives g.ident
  ident_gives name h = let one = ident_held name h in (spoken_name name.text one.0.0 one.1, one.2)

-- the operators that are messages: in a slot's expression all but one
abbrev pub operator_of : Bool → Rule Named
operator_of true = g.slot_oper
operator_of false = g.oper

pub operator_gives : (Fine : Place → Type 0) (marks : List Place) (slot : Bool) → Gives Fine marks (operator_of slot)
operator_gives Fine marks true = slot_oper_gives Fine marks
operator_gives Fine marks false = oper_gives Fine marks
