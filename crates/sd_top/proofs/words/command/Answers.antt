use Rattle.std.proofs.Common.{rules, ap, ap₂, ◌∙◌, ◌≡◌, codes, true}
use Rattle.std.proofs.lemmas.Result.{IfOk-weaker}
use Rattle.clap.specs.Words.{app_of, new_rule, rule_of, with_rule}
use Rattle.clap.specs.Simple.{app_of_fields, on_top}
use Rattle.sd_top.specs.Words.{dir, mode, nameless}
use Rattle.sd_top.proofs.words.command.Goals as goal

pub returns : goal.returns
returns c =
    let mode_is : rule_of c.required-mode.result ≡ mode = search rules in
    let number_is : rule_of c.new-number.result ≡ new_rule (codes "NUMBER") = search rules in
    let count_is : rule_of c.new-count.result ≡ new_rule (codes "COUNT") = search rules in
    let dir_is : rule_of c.long-dir.result ≡ dir = search rules in
    let start : app_of c.no_binary_name-nameless.result ≡ nameless = ap app_of_fields c.no_binary_name-nameless.ensures
    ∙ ap (on_top (λ s. record s { no_binary_name = true })) c.new-3.ensures.app in
    let one = c.in_ok-arg.ensures.shape (search rules) ∙ ap₂ with_rule start mode_is in
    let two = c.in_ok-arg-2.ensures.shape (search rules) ∙ ap₂ with_rule one number_is in
    let three = c.in_ok-arg-3.ensures.shape (search rules) ∙ ap₂ with_rule two count_is in
    IfOk-weaker c.arg-4.result _ _ (λ made adds. adds.shape (search rules) ∙ ap₂ with_rule three dir_is) c.arg-4.ensures
