-- The definitions at a worked example: a class `A` whose `main:args:` answers 7.
use Rattle.std.proofs.Common.{◌≡◌, ℕ, zero, suc, arith, List, [], ◌∷◌, ◌++◌, None, Ok, Err, true, false, pos, refl, codes, take, drop}
use Rattle.std.specs.Str.{is_utf8, IsAscii}
use Rattle.std.proofs.lemmas.Str.{is_utf8-from_IsUtf8, IsUtf8-from_ascii}
use Rattle.ns_base.specs.declared.selector.Sel.{Sel}
use Rattle.ns_code.specs.declared.program.CodeProgram.{CodeProgram}
use Rattle.ns_code.specs.declared.class.ClassCode.{ClassCode}
use Rattle.ns_code.specs.declared.body.BodyCode.{BodyCode}
use Rattle.ns_code.specs.declared.instruction.Instr.TheVariants as i
use Rattle.ns_image.specs.declared.fault.ImageFault.TheVariants as f
use Rattle.ns_image.specs.Bytes.{bytes_of, old_bytes_of}
use Rattle.ns_image.specs.Read.{reference, flag, text, chained}
use Rattle.ns_image.specs.Reading.{read_image, program, old_program, with_files, with_classes, class, class_from_clause, with_members, with_methods, method, head, head_from_params, body, with_local_names, with_places, old_body, place, instr}

abbrev sel : ℕ → Sel
sel n = record { 0 = n }

abbrev class_a : ClassCode
class_a = record {
  name = sel 0;
  outer = None;
  factory = sel 1;
  params = 1;
  clause = None;
  init = 0;
  super_sel = sel 2;
  slots = [];
  nested = [];
  methods = record { sel = sel 3; access = 0; body = 1 } ∷ [];
  side_methods = [];
}

abbrev initialiser : BodyCode
initialiser = record {
  kind = 2;
  side = 0;
  class = 0;
  parent = None;
  params = 1;
  locals = 1;
  environment = false;
  height = 0;
  instrs = i.InitSuper 0 ∷ i.ReturnSelf ∷ [];
  places = (0, record { file = 0; line = 1; col = 7 }) ∷ [];
  local_names = codes "m" ∷ [];
}

abbrev main : BodyCode
main = record {
  kind = 0;
  side = 0;
  class = 0;
  parent = None;
  params = 2;
  locals = 2;
  environment = false;
  height = 1;
  instrs = i.PushInt (pos 7) ∷ i.Return ∷ [];
  places = [];
  local_names = codes "p" ∷ codes "a" ∷ [];
}

abbrev code : CodeProgram
code = record {
  files = codes "A.ns" ∷ [];
  names = codes "A" ∷ codes "packageUsing:" ∷ codes "new" ∷ codes "main:args:" ∷ [];
  texts = [];
  classes = class_a ∷ [];
  bodies = initialiser ∷ main ∷ [];
}

abbrev image : List ℕ
image =
    78 ∷ 83 ∷ 80 ∷ 75 ∷ 0 ∷ 2 ∷ 0 ∷ 0 ∷ 0 ∷ 1 ∷ 0 ∷ 0 ∷ 0 ∷ 4 ∷ 65 ∷ 46 ∷ 110 ∷ 115 ∷ 0 ∷ 0 ∷ 0 ∷ 4 ∷ 0 ∷ 0 ∷ 0 ∷ 1 ∷
    65 ∷ 0 ∷ 0 ∷ 0 ∷ 13 ∷ 112 ∷ 97 ∷ 99 ∷ 107 ∷ 97 ∷ 103 ∷ 101 ∷ 85 ∷ 115 ∷ 105 ∷ 110 ∷ 103 ∷ 58 ∷ 0 ∷ 0 ∷ 0 ∷ 3 ∷
    110 ∷ 101 ∷ 119 ∷ 0 ∷ 0 ∷ 0 ∷ 10 ∷ 109 ∷ 97 ∷ 105 ∷ 110 ∷ 58 ∷ 97 ∷ 114 ∷ 103 ∷ 115 ∷ 58 ∷ 0 ∷ 0 ∷ 0 ∷ 0 ∷ 0 ∷
    0 ∷ 0 ∷ 1 ∷ 0 ∷ 0 ∷ 0 ∷ 0 ∷ 0 ∷ 0 ∷ 0 ∷ 0 ∷ 0 ∷ 0 ∷ 0 ∷ 1 ∷ 1 ∷ 0 ∷ 0 ∷ 0 ∷ 0 ∷ 0 ∷ 0 ∷ 0 ∷ 0 ∷ 0 ∷ 0 ∷ 0 ∷ 2 ∷
    0 ∷ 0 ∷ 0 ∷ 0 ∷ 0 ∷ 1 ∷ 0 ∷ 0 ∷ 0 ∷ 3 ∷ 0 ∷ 0 ∷ 0 ∷ 0 ∷ 1 ∷ 0 ∷ 0 ∷ 0 ∷ 0 ∷ 0 ∷ 2 ∷ 2 ∷ 0 ∷ 0 ∷ 0 ∷ 0 ∷ 0 ∷ 0 ∷
    0 ∷ 0 ∷ 0 ∷ 1 ∷ 1 ∷ 0 ∷ 0 ∷ 0 ∷ 0 ∷ 0 ∷ 0 ∷ 2 ∷ 19 ∷ 0 ∷ 22 ∷ 0 ∷ 0 ∷ 0 ∷ 1 ∷ 109 ∷ 0 ∷ 0 ∷ 0 ∷ 1 ∷ 0 ∷ 0 ∷ 0 ∷
    0 ∷ 0 ∷ 0 ∷ 0 ∷ 0 ∷ 0 ∷ 0 ∷ 0 ∷ 1 ∷ 0 ∷ 0 ∷ 0 ∷ 7 ∷ 0 ∷ 0 ∷ 0 ∷ 0 ∷ 0 ∷ 0 ∷ 0 ∷ 0 ∷ 0 ∷ 0 ∷ 2 ∷ 2 ∷ 0 ∷ 0 ∷ 1 ∷
    0 ∷ 0 ∷ 0 ∷ 2 ∷ 4 ∷ 0 ∷ 0 ∷ 0 ∷ 0 ∷ 0 ∷ 0 ∷ 0 ∷ 7 ∷ 21 ∷ 0 ∷ 0 ∷ 0 ∷ 1 ∷ 112 ∷ 0 ∷ 0 ∷ 0 ∷ 1 ∷ 97 ∷ 0 ∷ 0 ∷ 0 ∷
    0 ∷ []

abbrev old_image : List ℕ
old_image =
    78 ∷ 83 ∷ 80 ∷ 75 ∷ 0 ∷ 1 ∷ 0 ∷ 0 ∷ 0 ∷ 4 ∷ 0 ∷ 0 ∷ 0 ∷ 1 ∷ 65 ∷ 0 ∷ 0 ∷ 0 ∷ 13 ∷ 112 ∷ 97 ∷ 99 ∷ 107 ∷ 97 ∷
    103 ∷ 101 ∷ 85 ∷ 115 ∷ 105 ∷ 110 ∷ 103 ∷ 58 ∷ 0 ∷ 0 ∷ 0 ∷ 3 ∷ 110 ∷ 101 ∷ 119 ∷ 0 ∷ 0 ∷ 0 ∷ 10 ∷ 109 ∷ 97 ∷ 105 ∷
    110 ∷ 58 ∷ 97 ∷ 114 ∷ 103 ∷ 115 ∷ 58 ∷ 0 ∷ 0 ∷ 0 ∷ 0 ∷ 0 ∷ 0 ∷ 0 ∷ 1 ∷ 0 ∷ 0 ∷ 0 ∷ 0 ∷ 0 ∷ 0 ∷ 0 ∷ 0 ∷ 0 ∷ 0 ∷
    0 ∷ 1 ∷ 1 ∷ 0 ∷ 0 ∷ 0 ∷ 0 ∷ 0 ∷ 0 ∷ 0 ∷ 0 ∷ 0 ∷ 0 ∷ 0 ∷ 2 ∷ 0 ∷ 0 ∷ 0 ∷ 0 ∷ 0 ∷ 1 ∷ 0 ∷ 0 ∷ 0 ∷ 3 ∷ 0 ∷ 0 ∷ 0 ∷
    0 ∷ 1 ∷ 0 ∷ 0 ∷ 0 ∷ 0 ∷ 0 ∷ 2 ∷ 2 ∷ 0 ∷ 0 ∷ 0 ∷ 0 ∷ 0 ∷ 0 ∷ 0 ∷ 0 ∷ 0 ∷ 1 ∷ 1 ∷ 0 ∷ 0 ∷ 0 ∷ 0 ∷ 0 ∷ 0 ∷ 2 ∷ 19 ∷
    0 ∷ 22 ∷ 0 ∷ 0 ∷ 0 ∷ 0 ∷ 0 ∷ 0 ∷ 0 ∷ 0 ∷ 0 ∷ 0 ∷ 2 ∷ 2 ∷ 0 ∷ 0 ∷ 1 ∷ 0 ∷ 0 ∷ 0 ∷ 2 ∷ 4 ∷ 0 ∷ 0 ∷ 0 ∷ 0 ∷ 0 ∷ 0 ∷
    0 ∷ 7 ∷ 21 ∷ []

letters : IsAscii (codes "A.ns")
letters zero = omega arith
letters (suc zero) = omega arith
letters (suc (suc zero)) = omega arith
letters (suc (suc (suc zero))) = omega arith
letters (suc (suc (suc (suc k)))) = omega arith

ascii : is_utf8 (codes "A.ns") ≡ true
ascii = is_utf8-from_IsUtf8 (codes "A.ns") (IsUtf8-from_ascii (codes "A.ns") letters)

written : bytes_of code ≡ image
written = refl

written_old : old_bytes_of code ≡ old_image
written_old = refl

is_read : read_image image ≡ Ok code
unfolding read_image program with_files with_classes class class_from_clause with_members with_methods method head head_from_params body with_local_names with_places place instr reference flag text chained
is_read = rw ascii refl

-- The access of `main:args:` stands at byte 108.
bad_access : read_image (take 108 image ++ 3 ∷ drop 109 image) ≡ Err (f.BadField 108)
unfolding read_image program with_files with_classes class class_from_clause with_members with_methods method head head_from_params body with_local_names with_places place instr reference flag text chained
bad_access = rw ascii refl

-- A place at an instruction that carries none.
bad_place : read_image (take 153 image ++ 1 ∷ drop 154 image) ≡ Err (f.BadField 150)
unfolding read_image program with_files with_classes class class_from_clause with_members with_methods method head head_from_params body with_local_names with_places place instr reference flag text chained
bad_place = rw ascii refl

-- A name that is no selector, in version 1.
bad_name : read_image (take 14 old_image ++ 59 ∷ drop 15 old_image) ≡ Err (f.BadField 10)
unfolding read_image old_program with_files with_classes class class_from_clause with_members with_methods method head head_from_params old_body instr reference flag text chained
bad_name = refl

cut : read_image (take 208 image) ≡ Err f.Truncated
unfolding read_image program with_files with_classes class class_from_clause with_members with_methods method head head_from_params body with_local_names with_places place instr reference flag text chained
cut = rw ascii refl

trailing : read_image (image ++ 0 ∷ []) ≡ Err f.Trailing
unfolding read_image program with_files with_classes class class_from_clause with_members with_methods method head head_from_params body with_local_names with_places place instr reference flag text chained
trailing = rw ascii refl

bad_version : read_image (codes "NSPK" ++ 0 ∷ 3 ∷ []) ≡ Err f.BadVersion
unfolding read_image
bad_version = refl

no_image : read_image (codes "NSP") ≡ Err f.NotAnImage
unfolding read_image
no_image = refl
