use Rattle.std.proofs.Common.{ℕ, List, ◌∷◌, sym, ap, ◌∙◌, subst}
use Rattle.std.specs.Prelude.{IfOk}
use Rattle.sd_script.specs.Remembered.{IsTakenOf}
use Rattle.sd_script.specs.Words.{plain, words_of}
use Rattle.sd_script.proofs.Plain.{plain_inst}
use Rattle.sd_script.proofs.form.take_line.Goals as goal

pub returns-in-Some-inst_of : goal.returns-in-Some-inst_of
returns-in-Some-inst_of c =
    let behind = words_of c.in-Some.rest.now in
    subst (λ (ws : List (List ℕ)). IfOk c.take_of_inst.result (IsTakenOf c.args.reader.now c.args.number ws c.take_of_inst.new.reader))
    (sym (plain_inst c.in-Some-inst_of.inst c.in-Some-inst_of.ensures.range behind)
    ∙ ap plain (ap (λ (w : List ℕ). w ∷ behind) c.in-Some-inst_of.ensures.found ∙ sym c.in-Some.ensures.found))
    c.take_of_inst.ensures
