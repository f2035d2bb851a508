use Rattle.std.proofs.Common.{◌∙◌, [], ◌∷◌, ◌++◌, List, ℕ, ap, arith}
use Rattle.ns_gen_draft.specs.declared.draft.Draft.{Draft}
use Rattle.ns_gen_draft.specs.Drafts.{written, with_text}
use Rattle.ns_gen_draft.proofs.Stand.{text_put}
use Rattle.ns_gen_draft.proofs.writer.Writer.text.Goals as goal

pub returns : goal.returns
returns c =
    let names = c.self.inside.names in
    let texts = c.self.inside.texts.items in
    let drafts = c.self.inside.drafts.items in
    let bytes = c.args.bytes.now in
    record {
      put =
          ap (λ (all : List (List ℕ)). written names all c.put_draft.new.drafts.items) (c.in_ok-push.ensures.items ∙ ap (λ (text : List ℕ). texts ++ text ∷ []) c.in_ok-text.ensures)
          ∙ ap (λ (all : List Draft). written names (texts ++ bytes ∷ []) all) c.in_ok-put_draft.ensures.put
          ∙ text_put names texts drafts bytes c.in-Ok.number (omega (c.in-Ok.ensures, c.len.ensures, arith))
          ∙ ap (λ before. with_text before bytes) c.self.view_is;
    }
