use Rattle.std.proofs.Common.{◌≡◌, inl, inr, ⊎_elim, ℕ, suc, ◌+◌, List, [], ◌∷◌, ◌++◌, length, sym, ap, ◌∙◌, subst, arith}
use Rattle.std.proofs.lemmas.Result.{IfErr-weaker, IfOk-weaker}
use Rattle.sd_chain.specs.Faults.{LogFailsAt}
use Rattle.sd_recovered.specs.Reading.{HasRead, IsUnread}
use Rattle.sd_rig.specs.Devices.{device_len}
use Rattle.sd_restart.proofs.Nine.{log-len}
use Rattle.sd_restart.proofs.devices.read_next.Goals as goal

pub read_device-requires-clause-size : goal.read_device-requires-clause-size
read_device-requires-clause-size g c =
    let k = length c.args.logs.logs.items in
    let n : c.args.inst ≡ suc k = (let e = c.requires.next in omega (arith, e)) in
    c.requires.size ∙ sym (log-len k (let few = c.requires.few in omega (arith, few, n))) ∙ ap device_len (sym n)

pub returns-clause-read : goal.returns-clause-read
returns-clause-read g c =
    IfOk-weaker c.next.result _ _
    (λ x f devices has. subst (λ (b : List ℕ). HasRead (devices ++ b ∷ []) x) c.in_ok-read_device.ensures.bytes (f devices has))
    c.next.ensures.read

pub returns-clause-unsound : goal.returns-clause-unsound
returns-clause-unsound g c =
    let seen = g.G.Rig.seen c.args.rig.now in
    let inst : ℕ = c.args.inst in
    IfErr-weaker c.next.result _ _
    (λ e told. ⊎_elim (λ m. inr (inl m)) (λ d. inr (inr (
      d.0,
      d.1,
      d.2,
      subst (λ (n : ℕ). IsUnread n (seen inst)) (sym c.requires.next)
          (subst (IsUnread (1 + length c.args.logs.logs.items)) c.in_ok-read_device.ensures.bytes d.3),
    ))) told)
    c.next.ensures.unsound

pub returns-clause-place : goal.returns-clause-place
returns-clause-place g c = λ dev at is.
    let f = c.next.ensures.place dev at is in
    (f.0 ∙ sym c.requires.next, subst (λ (bytes : List ℕ). LogFailsAt dev bytes at) c.in_ok-read_device.ensures.bytes f.1)
