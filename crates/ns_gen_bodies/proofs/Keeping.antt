-- Bodies that are kept or not.
use Rattle.std.proofs.Common.{◌≡◌, List, refl}
use Rattle.std.specs.Prelude.{Bool, true, false, Option}
use Rattle.ns_code.specs.declared.body.BodyCode.{BodyCode}
use Rattle.ns_gen_code.specs.declared.size.SizeKind.{SizeKind}
use Rattle.ns_gen_draft.specs.Drafts.{Written}
use Rattle.ns_gen_bodies.specs.Coding.{coded_of, with_lines_of}

pub put_where_kept : (keeps : Bool) (head : BodyCode) (lines : Written) (b b' : List BodyCode) (f f' : Option SizeKind) → keeps ≡ true →
    coded_of lines true b' f' ≡ with_lines_of head lines (coded_of lines true b f) →
    coded_of lines keeps b' f' ≡ with_lines_of head lines (coded_of lines keeps b f)
put_where_kept true head lines b b' f f' keeps put = put
put_where_kept false head lines b b' f f' keeps put = absurd (let e : false ≡ true = keeps in cc)

pub same_where_not : (keeps : Bool) (head : BodyCode) (lines : Written) (b : List BodyCode) (f : Option SizeKind) → keeps ≡ false →
    coded_of lines keeps b f ≡ with_lines_of head lines (coded_of lines keeps b f)
same_where_not false head lines b f keeps = refl
same_where_not true head lines b f keeps = absurd (let e : true ≡ false = keeps in cc)
