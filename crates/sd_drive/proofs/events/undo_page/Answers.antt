use Rattle.std.proofs.Common.{◌≡◌, ℕ, sym, ap, ◌∙◌}
use Rattle.std.specs.Prelude.{None, Some, option_copied}
use Rattle.sd_txn.specs.Transactions.{top_at}
use Rattle.sd_txn.specs.declared.state.OpenRec.{OpenRec}
use Rattle.sd_state.specs.Complexes.{parts}
use Rattle.sd_state.specs.Parts.{txns_at}
use Rattle.sd_drive.proofs.Tops.{wanted-page}
use Rattle.sd_drive.proofs.events.undo_page.Goals as goal

pub returns-in_err-rec : goal.returns-in_err-rec
returns-in_err-rec g c = λ place w w' turns fits.
    let i = c.keeps.ensures in
    let h = wanted-page (g.G.Rig.seen c.args.c.now.rig) (g.G.Rig.leaves c.args.c.now.rig) (parts c.args.c.now) c.args.txn.now place w w'
    i.low i.high turns fits in
    let table = ap (λ ts. top_at ts c.args.txn.now) c.txns.ensures in
    let none : top_at (txns_at (parts c.args.c.now) c.args.txn.now.inst) c.args.txn.now ≡ None =
    sym table ∙ sym c.top.ensures ∙ ap option_copied (c.in_err-rec.was {u = tt}) in
    let some = h.1 in absurd (cc)

pub returns : goal.returns
returns g c = λ place w w' turns fits.
    let i = c.keeps.ensures in
    let h = wanted-page (g.G.Rig.seen c.args.c.now.rig) (g.G.Rig.leaves c.args.c.now.rig) (parts c.args.c.now) c.args.txn.now place w w'
    i.low i.high turns fits in
    let table = ap (λ ts. top_at ts c.args.txn.now) c.txns.ensures in
    let some : Some c.in_ok-rec.rec.now ≡ Some h.0 = sym (ap option_copied (c.in_ok-rec.was {u = tt})) ∙ c.top.ensures ∙ table ∙ h.1 in
    let same : c.in_ok-rec.rec.now ≡ h.0 = cc in
    ap (λ (o : OpenRec). Some o.rid.page) same ∙ ap (λ (p : ℕ). Some p) h.2
