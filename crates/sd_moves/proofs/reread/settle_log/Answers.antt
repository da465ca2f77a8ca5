use Rattle.std.proofs.Common.{◌≡◌, ℕ, ◌-◌, ◌≤◌, ◌∙◌, ap, arith, get_or, subst, sym}
use Rattle.sd_state.specs.Complexes.{parts}
use Rattle.sd_state.specs.Good.{Good}
use Rattle.sd_state.specs.Parts.{Parts, no_txns, txns_at}
use Rattle.sd_state.specs.Values.{Pending}
use Rattle.sd_state.proofs.Items.{item-is}
use Rattle.sd_state.proofs.LockReads.{unchanged-good}
use Rattle.sd_state.proofs.Standing.{left-stands}
use Rattle.sd_txn.specs.Transactions.{Transactions}
use Rattle.sd_moves.specs.Settling.{IsFoundAgain, IsReread, with_reread}
use Rattle.sd_moves.proofs.SettledCalls.{settled-good}
use Rattle.sd_moves.proofs.SettledFound.{found-read, found-same}
use Rattle.sd_moves.proofs.reread.settle_log.Goals as goal

pub read_again-requires : goal.read_again-requires
read_again-requires g c =
    let r = g.G.Rig in
    let old = c.args.c.now.rig in
    (left-stands (r.leaves old) (r.seen old) (r.seen old) Pending.Idle (parts c.args.c.now) c.requires.good.0 c.requires.good.1
    (λ d le. g.met.G.Rig.leaves_seen old d le)).sound

pub returns-in_err-found-clause-good : goal.returns-in_err-found-clause-good
returns-in_err-found-clause-good g c m good =
    let r = g.G.Rig in
    let old = c.args.c.now.rig in
    let new = c.read_again.new.rig in
    unchanged-good (r.seen old) (r.seen new) (r.leaves old) (r.leaves new) (r.moment old) (r.moment new) (r.since old)
    (r.since new) c.read_again.ensures.stays Pending.Idle (parts c.args.c.now) m good (λ d le. g.met.G.Rig.leaves_seen new d le)

pub returns-clause-good : goal.returns-clause-good
returns-clause-good g c m good =
    let r = g.G.Rig in
    let i = c.args.i in
    let old = c.args.c.now.rig in
    let new = c.read_again.new.rig in
    let p : Parts = parts c.args.c.now in
    let found = c.in_ok-found.found in
    let low : 1 ≤ i = omega (arith, c.get.ensures.value, c.get.ensures.low) in
    let high : i ≤ 8 = omega (arith, c.get.ensures.value, c.get.ensures.high) in
    let place : c.get.result - 1 ≡ i - 1 = ap (λ (n : ℕ). n - 1) c.get.ensures.value in
    let table : txns_at p i ≡ c.index.result.now = item-is no_txns p.txns i c.index.result.now low high good.shape.txns
    (c.index.ensures ∙ ap (λ (n : ℕ). get_or p.txns n c.index.result.now) place) in
    let there = settled-good i found p (r.seen old) (r.leaves old) m low high good c.requires.loose c.requires.idle c.requires.durable
    (λ d le. g.met.G.Rig.leaves_seen old d le)
    (subst (λ (x : Transactions). IsFoundAgain i (r.seen old i) x found) (sym table) c.in_ok-found.ensures.found) in
    subst (λ rig. Good (r.seen rig) (r.leaves rig) Pending.Idle (parts c.place_found.new.c) m) (sym c.place_found.ensures.rig)
    (subst (λ (x : Parts). Good (r.seen new) (r.leaves new) Pending.Idle x m) (sym c.place_found.ensures.parts)
    (unchanged-good (r.seen old) (r.seen new) (r.leaves old) (r.leaves new) (r.moment old) (r.moment new) (r.since old)
    (r.since new) c.read_again.ensures.stays Pending.Idle _ m there (λ d le. g.met.G.Rig.leaves_seen new d le)))

pub returns-clause-log : goal.returns-clause-log
returns-clause-log g c =
    let i = c.args.i in
    let low : 1 ≤ i = omega (arith, c.get.ensures.value, c.get.ensures.low) in
    let high : i ≤ 8 = omega (arith, c.get.ensures.value, c.get.ensures.high) in
    subst (λ (x : Parts). x ≡ with_reread i x (parts c.args.c.now)) (sym c.place_found.ensures.parts)
    (found-same i c.in_ok-found.found (parts c.args.c.now) low high c.requires.good.1.shape)

pub returns-clause-found : goal.returns-clause-found
returns-clause-found g c =
    let i = c.args.i in
    let p : Parts = parts c.args.c.now in
    let bytes = g.G.Rig.seen c.args.c.now.rig i in
    let found = c.in_ok-found.found in
    let shape = c.requires.good.1.shape in
    let low : 1 ≤ i = omega (arith, c.get.ensures.value, c.get.ensures.low) in
    let high : i ≤ 8 = omega (arith, c.get.ensures.value, c.get.ensures.high) in
    let place : c.get.result - 1 ≡ i - 1 = ap (λ (n : ℕ). n - 1) c.get.ensures.value in
    let table : txns_at p i ≡ c.index.result.now = item-is no_txns p.txns i c.index.result.now low high shape.txns
    (c.index.ensures ∙ ap (λ (n : ℕ). get_or p.txns n c.index.result.now) place) in
    subst (IsReread i bytes p) (sym c.place_found.ensures.parts)
    (found-read i found p low high shape bytes
    (subst (λ (x : Transactions). IsFoundAgain i bytes x found) (sym table) c.in_ok-found.ensures.found))
