use Rattle.std.proofs.Common.{◌≡◌, ◌∙◌, ap, sym, length}
use Rattle.std.specs.Prelude.{not, None}
use Rattle.ns_resolved.specs.Classes.{meant}
use Rattle.ns_gen_code.specs.Code.{code_of}
use Rattle.ns_gen_code.specs.Sizes.{size_fault}
use Rattle.ns_gen_bodies.specs.Coding.{with_bodies}
use Rattle.ns_gen.specs.Whole.{named}
use Rattle.ns_gen.proofs.Whole.{fault_is, code_is}
use Rattle.ns_gen.proofs.generate.generate.Goals as goal

pub returns-in-Some-clause-large : goal.returns-in-Some-clause-large
returns-in-Some-clause-large c =
    let p = c.args.program.now in
    let keeps = not c.are_too_many.result in
    let classes : c.in_ok-classes.classes.items ≡ (meant p).classes = rw c.as_slice-2.ensures at (rw c.as_slice.ensures at c.in_ok-classes.ensures.classes) in
    let many : c.in_ok-classes.count ≡ length (meant p).bodies = rw c.as_slice-2.ensures at (rw c.as_slice.ensures at c.in_ok-classes.ensures.bodies) in
    let begun : c.in_ok-output.output ≡ named keeps (meant p).classes = c.in_ok-output.ensures ∙ ap (named keeps) (c.deref.ensures.value ∙ classes) in
    let put : c.put_units.new.output ≡ with_bodies (meant p).bodies c.in_ok-output.output = rw c.as_slice-4.ensures at (rw c.as_slice-3.ensures at c.in_ok-put_units.ensures) in
    let made : c.put_units.new.output ≡ with_bodies (meant p).bodies (named keeps (meant p).classes) = put ∙ ap (with_bodies (meant p).bodies) begun in
    let told : c.size_fault.result ≡ size_fault (code_of (meant p)) =
    c.size_fault.ensures ∙ fault_is (meant p) c.put_units.new.output keeps c.in_ok-classes.count made many (ap not c.are_too_many.ensures) in
    λ kind same. sym told ∙ c.in-Some.is ∙ (let e = same in cc)

pub returns-clause-code : goal.returns-clause-code
returns-clause-code c =
    let p = c.args.program.now in
    let keeps = not c.are_too_many.result in
    let classes : c.in_ok-classes.classes.items ≡ (meant p).classes = rw c.as_slice-2.ensures at (rw c.as_slice.ensures at c.in_ok-classes.ensures.classes) in
    let many : c.in_ok-classes.count ≡ length (meant p).bodies = rw c.as_slice-2.ensures at (rw c.as_slice.ensures at c.in_ok-classes.ensures.bodies) in
    let begun : c.in_ok-output.output ≡ named keeps (meant p).classes = c.in_ok-output.ensures ∙ ap (named keeps) (c.deref.ensures.value ∙ classes) in
    let put : c.put_units.new.output ≡ with_bodies (meant p).bodies c.in_ok-output.output = rw c.as_slice-4.ensures at (rw c.as_slice-3.ensures at c.in_ok-put_units.ensures) in
    let made : c.put_units.new.output ≡ with_bodies (meant p).bodies (named keeps (meant p).classes) = put ∙ ap (with_bodies (meant p).bodies) begun in
    let told : c.size_fault.result ≡ size_fault (code_of (meant p)) =
    c.size_fault.ensures ∙ fault_is (meant p) c.put_units.new.output keeps c.in_ok-classes.count made many (ap not c.are_too_many.ensures) in
    let fits : size_fault (code_of (meant p)) ≡ None = sym told ∙ c.in-None.is in
    rw classes at (rw c.deref-in-None.ensures.value at c.in_ok-code-in-None.ensures) ∙ code_is (meant p) c.put_units.new.output keeps c.in_ok-classes.count made many (ap not c.are_too_many.ensures) fits

pub returns-clause-fits : goal.returns-clause-fits
returns-clause-fits c =
    let p = c.args.program.now in
    let keeps = not c.are_too_many.result in
    let classes : c.in_ok-classes.classes.items ≡ (meant p).classes = rw c.as_slice-2.ensures at (rw c.as_slice.ensures at c.in_ok-classes.ensures.classes) in
    let many : c.in_ok-classes.count ≡ length (meant p).bodies = rw c.as_slice-2.ensures at (rw c.as_slice.ensures at c.in_ok-classes.ensures.bodies) in
    let begun : c.in_ok-output.output ≡ named keeps (meant p).classes = c.in_ok-output.ensures ∙ ap (named keeps) (c.deref.ensures.value ∙ classes) in
    let put : c.put_units.new.output ≡ with_bodies (meant p).bodies c.in_ok-output.output = rw c.as_slice-4.ensures at (rw c.as_slice-3.ensures at c.in_ok-put_units.ensures) in
    let made : c.put_units.new.output ≡ with_bodies (meant p).bodies (named keeps (meant p).classes) = put ∙ ap (with_bodies (meant p).bodies) begun in
    let told : c.size_fault.result ≡ size_fault (code_of (meant p)) =
    c.size_fault.ensures ∙ fault_is (meant p) c.put_units.new.output keeps c.in_ok-classes.count made many (ap not c.are_too_many.ensures) in
    sym told ∙ c.in-None.is
