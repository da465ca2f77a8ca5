use Rattle.std.proofs.Common.{◌≡◌, ◌++◌, subst}
use Rattle.std.specs.Prelude.{OnOk}
use Rattle.sd_base.specs.declared.ids.Rid.{Rid}
use Rattle.sd_script.specs.Forms.{rid_word}
use Rattle.sd_gen.proofs.transfer.push_own_rid.Goals as goal

pub returns : goal.returns
returns c =
    subst (λ (r : Rid). OnOk c.push_rid.result (c.push_rid.new.out.items ≡ c.args.out.now.items ++ rid_word r)) c.account.ensures
    c.push_rid.ensures
