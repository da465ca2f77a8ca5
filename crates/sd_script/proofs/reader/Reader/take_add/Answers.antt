use Rattle.std.proofs.Common.{List, [], ◌∷◌, subst}
use Rattle.std.specs.Prelude.{codes}
use Rattle.sd_script.specs.declared.line.Line.{Line}
use Rattle.sd_script.specs.Known.{known}
use Rattle.sd_script.specs.Remembered.{AreOrdinals}
use Rattle.sd_script.specs.Words.{plain_number}
use Rattle.sd_script.proofs.Taking.{by_ordinals}
use Rattle.sd_script.proofs.reader.Reader.take_add.Goals as goal

pub take_form-requires-clause-form : goal.take_form-requires-clause-form
take_form-requires-clause-form c =
    let names : AreOrdinals c.args.self.now (known c.self.inside.begun) = subst (λ (l : List Line). AreOrdinals l (known c.self.inside.begun)) c.self.view_is c.self.invariant.names in (
      codes "add" ∷ c.args.name.now ∷ c.args.rid.now ∷ plain_number c.args.by.now ∷ [],
      by_ordinals c.args.self.now (known c.self.inside.begun) names (codes "add" ∷ c.args.name.now ∷ c.args.rid.now ∷ plain_number c.args.by.now ∷ [])
          c.in_ok-form.form c.in_ok-form.ensures,
    )

pub returns : goal.returns
returns c =
    let names : AreOrdinals c.args.self.now (known c.self.inside.begun) = subst (λ (l : List Line). AreOrdinals l (known c.self.inside.begun)) c.self.view_is c.self.invariant.names in
    c.take_form.ensures (codes "add" ∷ c.args.name.now ∷ c.args.rid.now ∷ plain_number c.args.by.now ∷ []) (by_ordinals c.args.self.now (known c.self.inside.begun) names (codes "add" ∷ c.args.name.now ∷ c.args.rid.now ∷ plain_number c.args.by.now ∷ [])
    c.in_ok-form.form c.in_ok-form.ensures)
