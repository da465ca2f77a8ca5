use Rattle.std.proofs.Common.{subst, sym, ◌∙◌, List, Some, None}
use Rattle.sd_reclock.specs.Locks.{mode_of, AgreeAmong, IsOwner}
use Rattle.sd_base.specs.declared.ids.TxnId.{TxnId}
use Rattle.sd_base.specs.declared.place.Mode.{Mode}
use Rattle.sd_reclock.proofs.Owners.{owner_first, owner_shared}
use Rattle.sd_reclock.proofs.others.Others.owner.Goals as goal

pub returns-in-Excl : goal.returns-in-Excl
returns-in-Excl c = subst (λ (es : List (TxnId × Mode)). IsOwner (mode_of es) (Some c.in_ok-t.t.now)) c.self.view_is
    (owner_first c.self.inside.modes.entries _ (c.in_ok-t.t.now, c.in_ok-t.mode.now) (subst (λ (es : List (TxnId × Mode)). AgreeAmong (mode_of es)) (sym c.self.view_is) c.requires.agree)
    (sym c.iter.ensures.rest ∙ c.in_ok-t.ensures.steps) c.in-Excl.is)

pub returns-in-Shared : goal.returns-in-Shared
returns-in-Shared c = subst (λ (es : List (TxnId × Mode)). IsOwner (mode_of es) None) c.self.view_is
    (owner_shared c.self.inside.modes.entries _ (c.in_ok-t.t.now, c.in_ok-t.mode.now) (subst (λ (es : List (TxnId × Mode)). AgreeAmong (mode_of es)) (sym c.self.view_is) c.requires.agree)
    (sym c.iter.ensures.rest ∙ c.in_ok-t.ensures.steps) c.in-Shared.is)
