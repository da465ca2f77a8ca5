use Rattle.std.proofs.Common.{◌≡◌, true, false, Option, refl, subst}
use Rattle.sd_script.specs.declared.line.Form.{Form}
use Rattle.sd_script.specs.Forms.{IsFormOf}
use Rattle.sd_script.specs.Order.{begun, ordinal_of}
use Rattle.sd_script.proofs.Taking.{none_fits, taken}
use Rattle.sd_script.proofs.reader.Reader.take_form.Goals as goal

pub returns-then-not-admits : goal.returns-then-not-admits
returns-then-not-admits c = λ words read.
    none_fits c.args.self.now c.args.number words c.in-Some.form
    (subst (λ (o : Option Form). IsFormOf (ordinal_of (begun c.args.self.now)) words o) c.in-Some.is read)
    (λ fits. let admitted : false ≡ true = c.if-not-admits.ensures.1 fits in absurd (cc))

pub returns : goal.returns
returns c = λ words read.
    taken c.args.self.now c.take.new.self c.args.number _ words c.take.result c.take.ensures
    (subst (λ (o : Option Form). IsFormOf (ordinal_of (begun c.args.self.now)) words o) c.in-Some.is read)
    (c.if-not-admits.ensures.0 refl) refl refl
