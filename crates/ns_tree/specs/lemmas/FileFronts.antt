-- The fronts of declarations and files are what begins a spelling of them.
use Rattle.std.proofs.Common.{refl, ℕ, zero, suc}
use Rattle.std.specs.Prelude.{codes}
use Rattle.ns_tree.specs.declared.token.Kind.TheVariants as k
use Rattle.ns_tree.specs.declared.token.Reserved.TheVariants as r
use Rattle.ns_tree.specs.Flat.{equals, over_sign}
use Rattle.ns_tree.specs.Forms as f
use Rattle.ns_tree.specs.Grammar as g
use Rattle.ns_tree.specs.Made
use Rattle.ns_tree.specs.Plain as p
use Rattle.ns_tree.specs.Rule.{Rule, ◌&◌, many, maybe, either, ◌▸◌, ◌◂◌, once_or_more, flag}
use Rattle.ns_tree.specs.laws.Fronts.{Fronts, both_fronts, many_fronts, maybe_fronts, either_fronts, mapped_fronts, before_fronts, behind_fronts, once_fronts, flag_fronts}
use Rattle.ns_tree.specs.lemmas.GrammarFronts.{ident_fronts, part_key_fronts, part_oper_fronts, oper_fronts, string_fronts, access_fronts, closed_fronts, slot_fronts, local_fronts, primary_fronts}
use Rattle.ns_tree.specs.lemmas.GrammarFronts.{keys_fronts}
use Rattle.ns_tree.specs.laws.Made as back

params_fronts : Fronts (once_or_more (g.part_key & g.ident))
params_fronts = once_fronts (g.part_key & g.ident) (both_fronts g.part_key g.ident part_key_fronts ident_fronts)

pub pattern_fronts : Fronts g.pattern
pattern_fronts = mapped_fronts Made.made_pattern f.pattern_form _ back.pattern_back
    (either_fronts g.ident _ ident_fronts (either_fronts (g.part_oper & g.ident) (once_or_more (g.part_key & g.ident)) (both_fronts g.part_oper g.ident part_oper_fronts ident_fronts) params_fronts))

pub factory_fronts : Fronts g.factory
factory_fronts = mapped_fronts Made.made_factory f.factory_form _ back.factory_back (either_fronts g.ident (once_or_more (g.part_key & g.ident)) ident_fronts params_fronts)

pub base_fronts : Fronts g.base
base_fronts = mapped_fronts Made.made_base f.base_form _ (λ n x good. back.base_back x)
    (either_fronts g.ident _ ident_fronts (either_fronts (k.Word r.Super ▸ g.ident) (k.Word r.Outer ▸ (g.ident & g.ident))
    (before_fronts (k.Word r.Super) g.ident tt ident_fronts) (before_fronts (k.Word r.Outer) (g.ident & g.ident) tt (both_fronts g.ident g.ident ident_fronts ident_fronts))))

module _ (primary : Rule p.Primary) (P : Fronts primary) where
  super_message_fronts : Fronts (g.super_message primary)
  super_message_fronts = mapped_fronts Made.made_super_message f.super_message_form _ (λ n x good. back.super_message_back x)
      (either_fronts g.ident (g.keys primary g.oper) ident_fronts (keys_fronts primary P g.oper oper_fronts))

  clause_fronts : Fronts (g.clause primary)
  clause_fronts = mapped_fronts Made.made_clause f.clause_form _ (λ n x good. refl)
      (both_fronts g.base _ base_fronts (both_fronts (maybe (over_sign ▸ g.base)) (maybe (g.super_message primary))
      (maybe_fronts (over_sign ▸ g.base) (before_fronts over_sign g.base refl base_fronts)) (maybe_fronts (g.super_message primary) super_message_fronts)))

  method_fronts : Fronts (g.method primary)
  method_fronts = mapped_fronts Made.made_method f.method_form _ (λ n x good. refl)
      (both_fronts g.pattern _ pattern_fronts (before_fronts equals _ refl (before_fronts k.Open _ tt (closed_fronts primary P (g.local primary) (local_fronts primary P) k.Close tt))))

  method_member_fronts : Fronts (g.method_member primary)
  method_member_fronts = mapped_fronts p.method_member f.method_member_form (g.method primary) (λ n x good. refl) method_fronts

  module _ (what : Rule p.What) (W : Fronts what) where
    member_fronts : Fronts (g.member primary what)
    member_fronts = mapped_fronts Made.made_member f.member_form _ (λ n x good. refl)
        (both_fronts (many g.string) (maybe g.access & what) (many_fronts g.string string_fronts) (both_fronts (maybe g.access) what (maybe_fronts g.access access_fronts) W))

    side_fronts : Fronts (g.side primary what)
    side_fronts = mapped_fronts Made.made_side f.side_form _ (λ n x good. back.side_back x)
        (before_fronts k.Open _ tt (both_fronts (many (g.member primary what)) (many g.string ◂ k.Close) (many_fronts (g.member primary what) member_fronts)
        (behind_fronts (many g.string) k.Close (many_fronts g.string string_fronts) tt)))

    class_side_fronts : Fronts (maybe (k.Colon ▸ g.side primary what))
    class_side_fronts = maybe_fronts (k.Colon ▸ g.side primary what) (before_fronts k.Colon (g.side primary what) tt side_fronts)

  class_fronts : (what : Rule p.What) → Fronts what → Fronts (g.class primary what)
  class_fronts what W = mapped_fronts Made.made_class f.class_form _ (λ n x good. back.class_back x)
      (before_fronts (k.Word r.Class) _ tt (both_fronts g.ident _ ident_fronts (both_fronts (maybe g.factory) _ (maybe_fronts g.factory factory_fronts)
      (before_fronts equals _ refl (both_fronts (maybe (g.clause primary)) _ (maybe_fronts (g.clause primary) clause_fronts)
      (both_fronts (k.Open ▸ (g.bars primary (g.slot primary) & g.stmts primary ◂ k.Close)) _
      (before_fronts k.Open _ tt (closed_fronts primary P (g.slot primary) (slot_fronts primary P) k.Close tt))
      (both_fronts (g.side primary what) _ (side_fronts what W) (class_side_fronts (g.method_member primary) method_member_fronts))))))))

  what_fronts : (depth : ℕ) → Fronts (g.what primary depth)
  what_fronts zero = method_member_fronts
  what_fronts (suc depth) = mapped_fronts Made.made_what f.class_member_form (either (g.class primary (g.what primary depth)) (g.method primary)) (λ n x good. back.what_back x)
      (either_fronts (g.class primary (g.what primary depth)) (g.method primary) (class_fronts (g.what primary depth) (what_fronts depth)) method_fronts)

  unit_fronts : (depth : ℕ) → Fronts (g.file_over primary depth)
  unit_fronts depth = mapped_fronts Made.made_unit f.unit_form _ (λ n x good. refl)
      (both_fronts (flag (k.Ident (codes "Newspeak3"))) _ (flag_fronts (k.Ident (codes "Newspeak3")) (refl, refl))
      (both_fronts (maybe g.string) (g.class primary (g.what primary depth)) (maybe_fronts g.string string_fronts) (class_fronts (g.what primary depth) (what_fronts depth))))

pub file_fronts : (depth : ℕ) → Fronts (g.file depth)
file_fronts depth = unit_fronts (g.primary depth) (primary_fronts depth) depth
