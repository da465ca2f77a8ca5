use Rattle.std.proofs.Common.{◌≡◌, Option, None, refl, ap, subst}
use Rattle.sd_base.specs.declared.ids.TxnId.{TxnId}
use Rattle.sd_base.specs.declared.place.Mode.{Mode}
use Rattle.sd_reclock.specs.Locks.{Modes, held_in, mode_among, mode_of, IsLowestHolder}
use Rattle.sd_reclock.proofs.Writes.{no_mode}
use Rattle.sd_reclock.proofs.locks.Locks.holder.Goals as goal

pub returns-in-Some-clause-lowest : goal.returns-in-Some-clause-lowest
returns-in-Some-clause-lowest c =
    let same : (u : TxnId) → mode_of c.in-Some.holders.now u ≡ held_in c.args.self.now u c.args.r.now = λ u. ap (λ (o : Option Modes). mode_among o u) c.in-Some.ensures.found in
    subst (λ (f : TxnId → Option Mode). IsLowestHolder f c.args.not.now c.lowest_but.result) (λ i u. same u i) c.lowest_but.ensures

pub returns-in-None-clause-lowest : goal.returns-in-None-clause-lowest
returns-in-None-clause-lowest c =
    let same : (u : TxnId) → no_mode ≡ held_in c.args.self.now u c.args.r.now = λ u. ap (λ (o : Option Modes). mode_among o u) c.in-None.ensures.found in
    subst (λ (f : TxnId → Option Mode). IsLowestHolder f c.args.not.now None) (λ i u. same u i) (λ u apart. refl)
