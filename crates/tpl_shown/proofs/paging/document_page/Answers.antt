use Rattle.std.proofs.Common.{◌≡◌, ◌∙◌, ap, subst, ℕ, List, string_bytes}
use Rattle.std.proofs.lemmas.Result.{IfOk-weaker}
use Rattle.tpl_reader.specs.Bytes.{behind_mark}
use Rattle.tpl_page.specs.Page.{IsPage}
use Rattle.tpl_shown.specs.Shown.{shown}
use Rattle.tpl_shown.proofs.paging.document_page.Goals as goal

pub returns : goal.returns
returns c =
    let both = shown (behind_mark c.args.bytes.now) c.args.name.now c.args.found.now in
    let shows : c.as_str.result.now ≡ both = c.as_str.ensures.value ∙ c.in_ok-shown.ensures ∙ ap (λ (d : List ℕ). shown d c.args.name.now c.args.found.now) c.text_in.ensures in
    IfOk-weaker c.page_of.result _ _ (λ text is. subst (λ (s : List ℕ). IsPage c.args.lines.now s (string_bytes text)) shows is) c.page_of.ensures
