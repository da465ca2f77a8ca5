use Rattle.std.proofs.Common.{◌≡◌, ℕ, ◌≤◌, length, sym, ap, subst, arith, ⊎_elim}
use Rattle.sd_logrec.specs.Spelling.{spelling}
use Rattle.sd_txn.specs.Owing.{reserve_of}
use Rattle.sd_state.specs.Complexes.{parts}
use Rattle.sd_state.specs.Good.{Good}
use Rattle.sd_state.specs.Parts.{Parts, log_at, txns_at, up_as}
use Rattle.sd_update.specs.Sealing.{NoLsnLeft, NoRoomFor, with_more}
use Rattle.sd_state.specs.Tables.{tells_log}
use Rattle.sd_update.proofs.SealedCalls.{by-answer}
use Rattle.sd_update.proofs.SealedTests.{check-good, few-told, plain-free, refused-so}
use Rattle.sd_update.proofs.ends.seal_check.Goals as goal

pub may_seal-requires-clause-few : goal.may_seal-requires-clause-few
may_seal-requires-clause-few g c =
    let p : Parts = parts c.args.c.now in
    let i : ℕ = c.args.i in
    let rig = c.args.c.now.rig in
    let seen = g.G.Rig.seen rig in
    let leaves = g.G.Rig.leaves rig in
    let low : 1 ≤ i = c.keeps.ensures.low in
    let high : i ≤ 8 = c.keeps.ensures.high in
    let reads : leaves 0 (seen 0) = g.met.G.Rig.leaves_seen rig 0 (omega arith) in
    few-told i seen leaves c.requires.good.0 p c.requires.good.1 c.requires.good.2 reads low high c.requires.idle
    (⊎_elim (λ e. ap up_as e) (λ e. ap up_as e) c.requires.may.stands)
    (⊎_elim (λ e. ap tells_log e) (λ e. ap tells_log e) c.requires.may.stands)

pub put_plain-requires-clause-further : goal.put_plain-requires-clause-further
put_plain-requires-clause-further g c = plain-free c.args.rec c.requires.may.kind

pub returns-clause-refusals : goal.returns-clause-refusals
returns-clause-refusals g c =
    (refused-so c.put_plain.result (NoRoomFor c.args.i (length (spelling c.args.rec)) (parts c.args.c.now))
    (NoLsnLeft c.args.i (parts c.args.c.now))
    (subst (λ n. NoRoomFor c.args.i n (parts c.args.c.now) → ⊥) c.len.ensures c.in_ok-may_seal.ensures.room)
    c.in_ok-may_seal.ensures.left c.put_plain.ensures.only).2

pub returns-clause-good : goal.returns-clause-good
returns-clause-good g c pend m good =
    let p : Parts = parts c.args.c.now in
    let i : ℕ = c.args.i in
    let rig = c.args.c.now.rig in
    let seen = g.G.Rig.seen rig in
    let leaves = g.G.Rig.leaves rig in
    let low : 1 ≤ i = c.keeps.ensures.low in
    let high : i ≤ 8 = c.keeps.ensures.high in
    let reads : leaves 0 (seen 0) = g.met.G.Rig.leaves_seen rig 0 (omega arith) in
    let new : Parts = parts c.put_plain.new.c in
    let room : NoRoomFor i (length (spelling c.args.rec)) p → ⊥ =
    subst (λ n. NoRoomFor i n p → ⊥) c.len.ensures c.in_ok-may_seal.ensures.room in
    let after : Parts = with_more i c.args.rec (log_at new i).spare p in
    subst (λ r. Good (g.G.Rig.seen r) (g.G.Rig.leaves r) pend new m) (sym c.put_plain.ensures.rig)
    (by-answer c.put_plain.result (new ≡ after) (new ≡ p) (Good seen leaves pend new m) c.put_plain.ensures.ok c.put_plain.ensures.stays
    (λ is. by-answer c.put_plain.result (reserve_of (txns_at p i) ≤ (log_at new i).spare) (new ≡ p) (Good seen leaves pend new m)
    c.put_plain.ensures.memory c.put_plain.ensures.stays
    (λ memory. subst (λ (q : Parts). Good seen leaves pend q m) (sym is)
    (check-good i c.args.rec (log_at new i).spare seen leaves pend p m good reads low high c.requires.idle c.requires.may room
    c.in_ok-may_seal.ensures.left memory))
    (λ same. subst (λ (q : Parts). Good seen leaves pend q m) (sym same) good))
    (λ same. subst (λ (q : Parts). Good seen leaves pend q m) (sym same) good))
