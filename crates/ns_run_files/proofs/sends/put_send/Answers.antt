use Rattle.std.proofs.Common.{◌≡◌, ℕ, List, [], ◌∷◌, ◌++◌, ap, codes, map, string_bytes, ◌∙◌}
use Rattle.ns_code.specs.Selector.{selector_text}
use Rattle.ns_run_files.specs.Programs.{name_of, place_front}
use Rattle.ns_run_files.proofs.SendLaws.{put_in_four}
use Rattle.ns_run_files.proofs.sends.put_send.Goals as goal

pub returns : goal.returns
returns c =
    let file = name_of (map string_bytes c.args.names.now) c.args.sent.place.file in
    let front : c.as_bytes.result.now ≡ place_front file c.args.sent.place = cc (c.as_bytes.ensures.value, c.in_ok-front.ensures, c.name_of.ensures) in
    put_in_four c.args.lines.now.items (place_front file c.args.sent.place) (codes "nothing answers ") (selector_text c.args.code.now c.args.sent.sel.0)
    c.extend_from_slice.new.self.items c.extend_from_slice-2.new.self.items c.extend_from_slice-3.new.self.items c.extend_from_slice-4.new.self.items
    (c.in_ok-extend_from_slice.ensures.items ∙ ap (λ x. c.args.lines.now.items ++ x) front)
    c.in_ok-extend_from_slice-2.ensures.items
    (c.in_ok-extend_from_slice-3.ensures.items ∙ ap (λ x. c.extend_from_slice-2.new.self.items ++ x) c.selector_text.ensures)
    c.in_ok-extend_from_slice-4.ensures.items
