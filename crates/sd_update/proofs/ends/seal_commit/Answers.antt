use Rattle.std.proofs.Common.{◌≡◌, ◌-◌, ◌^◌, ◌≤◌, min, false, true, arith, sym, ap, refl, ◌∙◌, subst}
use Rattle.std.specs.Prelude.{IsSome, option_and_then}
use Rattle.std.specs.Result.{IsOk}
use Rattle.sd_logrec.specs.declared.record.Record.{Record}
use Rattle.sd_logrec.specs.declared.record.Record.TheVariants as records
use Rattle.sd_log.specs.Logs.{LogState}
use Rattle.sd_chain.specs.Records.{home}
use Rattle.sd_chain.specs.Logs.{next_lsn}
use Rattle.sd_txn.specs.Transactions.{Transaction, txn_at}
use Rattle.sd_state.specs.Complexes.{parts}
use Rattle.sd_state.specs.Good.{Good}
use Rattle.sd_state.specs.Parts.{Parts, is_loose, log_at, status_at, txns_at, up_as}
use Rattle.sd_update.specs.Sealing.{HasEnd, commit_of}
use Rattle.sd_state.specs.Tables.{tells_log}
use Rattle.sd_state.specs.Values.{Pending}
use Rattle.sd_base.proofs.Results.{when_ok}
use Rattle.sd_update.proofs.SealedCalls.{as-end, commit-good, commit-is, commit-memory, commit-room, running-row, settled-up}
use Rattle.sd_update.proofs.ends.seal_commit.Goals as goal

pub put_end-requires-clause-room : goal.put_end-requires-clause-room
put_end-requires-clause-room g c =
    let p : Parts = parts c.args.c.now in
    let t = c.args.t.now in
    let rig = c.args.c.now.rig in
    let seen = g.G.Rig.seen rig in
    let leaves = g.G.Rig.leaves rig in
    let low : 1 ≤ home t = c.requires.numbered.low in
    let high : home t ≤ 8 = c.requires.numbered.high in
    let reads : leaves 0 (seen 0) = g.met.G.Rig.leaves_seen rig 0 (omega arith) in
    let m = c.requires.good.0 in
    let good = c.requires.good.1 in
    let next : c.next_lsn-lsn.result ≡ min (next_lsn (log_at p (home t)) 0) (2 ^ 62 - 1) = c.next_lsn-lsn.ensures
    ∙ ap (λ (l : LogState). min (next_lsn l 0) (2 ^ 62 - 1)) c.log.ensures in
    let row = running-row (txn_at (txns_at p (home t)) t) c.requires.runs c.requires.there in
    let settled : is_loose p (home t) ≡ false = settled-up seen leaves Pending.Idle p m (home t) low high good c.requires.idle
    (ap up_as c.requires.up) in
    let tells : tells_log (status_at p (home t)) ≡ true = ap tells_log c.requires.up in
    commit-room t row.0 seen leaves Pending.Idle p m good reads low high settled tells row.1 row.3
    c.next_lsn-lsn.result c.prev_for-prev.result next c.prev_for-prev.ensures

pub unwrap-requires : goal.unwrap-requires
unwrap-requires g c =
    let p : Parts = parts c.args.c.now in
    let t = c.args.t.now in
    let rig = c.args.c.now.rig in
    let seen = g.G.Rig.seen rig in
    let leaves = g.G.Rig.leaves rig in
    let low : 1 ≤ home t = c.requires.numbered.low in
    let high : home t ≤ 8 = c.requires.numbered.high in
    let reads : leaves 0 (seen 0) = g.met.G.Rig.leaves_seen rig 0 (omega arith) in
    let m = c.requires.good.0 in
    let good = c.requires.good.1 in
    let next : c.next_lsn-lsn.result ≡ min (next_lsn (log_at p (home t)) 0) (2 ^ 62 - 1) = c.next_lsn-lsn.ensures
    ∙ ap (λ (l : LogState). min (next_lsn l 0) (2 ^ 62 - 1)) c.log.ensures in
    let row = running-row (txn_at (txns_at p (home t)) t) c.requires.runs c.requires.there in
    let settled : is_loose p (home t) ≡ false = settled-up seen leaves Pending.Idle p m (home t) low high good c.requires.idle
    (ap up_as c.requires.up) in
    let tells : tells_log (status_at p (home t)) ≡ true = ap tells_log c.requires.up in
    let done = c.put_end.ensures.memory (commit-memory t row.0 seen leaves Pending.Idle p m good reads low high settled tells row.1 row.3
    c.next_lsn-lsn.result c.prev_for-prev.result next c.prev_for-prev.ensures c.requires.up) in
    subst (λ r. IsOk r) (sym done) refl

pub returns-clause-parts : goal.returns-clause-parts
returns-clause-parts g c =
    let p : Parts = parts c.args.c.now in
    let t = c.args.t.now in
    let rig = c.args.c.now.rig in
    let seen = g.G.Rig.seen rig in
    let leaves = g.G.Rig.leaves rig in
    let low : 1 ≤ home t = c.requires.numbered.low in
    let high : home t ≤ 8 = c.requires.numbered.high in
    let reads : leaves 0 (seen 0) = g.met.G.Rig.leaves_seen rig 0 (omega arith) in
    let m = c.requires.good.0 in
    let good = c.requires.good.1 in
    let next : c.next_lsn-lsn.result ≡ min (next_lsn (log_at p (home t)) 0) (2 ^ 62 - 1) = c.next_lsn-lsn.ensures
    ∙ ap (λ (l : LogState). min (next_lsn l 0) (2 ^ 62 - 1)) c.log.ensures in
    let row = running-row (txn_at (txns_at p (home t)) t) c.requires.runs c.requires.there in
    let settled : is_loose p (home t) ≡ false = settled-up seen leaves Pending.Idle p m (home t) low high good c.requires.idle
    (ap up_as c.requires.up) in
    let tells : tells_log (status_at p (home t)) ≡ true = ap tells_log c.requires.up in
    let done = c.put_end.ensures.memory (commit-memory t row.0 seen leaves Pending.Idle p m good reads low high settled tells row.1 row.3
    c.next_lsn-lsn.result c.prev_for-prev.result next c.prev_for-prev.ensures c.requires.up) in
    let rec : Record = records.Commit c.next_lsn-lsn.result t c.prev_for-prev.result in
    as-end t rec (λ x. commit_of t x p) p (parts c.put_end.new.c) refl
    (λ x is. commit-is t x seen leaves Pending.Idle p m good reads low high settled tells is
    (subst (λ o. IsSome (option_and_then (λ (z : Transaction). z.span) o)) is c.requires.there)
    c.next_lsn-lsn.result c.prev_for-prev.result next c.prev_for-prev.ensures)
    (when_ok c.put_end.result tt (HasEnd t (λ x. rec) p (parts c.put_end.new.c)) done c.put_end.ensures.ok)

pub returns-clause-good : goal.returns-clause-good
returns-clause-good g c m2 good2 =
    let p : Parts = parts c.args.c.now in
    let t = c.args.t.now in
    let rig = c.args.c.now.rig in
    let seen = g.G.Rig.seen rig in
    let leaves = g.G.Rig.leaves rig in
    let low : 1 ≤ home t = c.requires.numbered.low in
    let high : home t ≤ 8 = c.requires.numbered.high in
    let reads : leaves 0 (seen 0) = g.met.G.Rig.leaves_seen rig 0 (omega arith) in
    let m = c.requires.good.0 in
    let good = c.requires.good.1 in
    let next : c.next_lsn-lsn.result ≡ min (next_lsn (log_at p (home t)) 0) (2 ^ 62 - 1) = c.next_lsn-lsn.ensures
    ∙ ap (λ (l : LogState). min (next_lsn l 0) (2 ^ 62 - 1)) c.log.ensures in
    let row = running-row (txn_at (txns_at p (home t)) t) c.requires.runs c.requires.there in
    let settled : is_loose p (home t) ≡ false = settled-up seen leaves Pending.Idle p m (home t) low high good c.requires.idle
    (ap up_as c.requires.up) in
    let tells : tells_log (status_at p (home t)) ≡ true = ap tells_log c.requires.up in
    let done = c.put_end.ensures.memory (commit-memory t row.0 seen leaves Pending.Idle p m good reads low high settled tells row.1 row.3
    c.next_lsn-lsn.result c.prev_for-prev.result next c.prev_for-prev.ensures c.requires.up) in
    let rec : Record = records.Commit c.next_lsn-lsn.result t c.prev_for-prev.result in
    let made : HasEnd t (λ x. commit_of t x p) p (parts c.put_end.new.c) =
    as-end t rec (λ x. commit_of t x p) p (parts c.put_end.new.c) refl
    (λ x is. commit-is t x seen leaves Pending.Idle p m good reads low high settled tells is
    (subst (λ o. IsSome (option_and_then (λ (z : Transaction). z.span) o)) is c.requires.there)
    c.next_lsn-lsn.result c.prev_for-prev.result next c.prev_for-prev.ensures)
    (when_ok c.put_end.result tt (HasEnd t (λ x. rec) p (parts c.put_end.new.c)) done c.put_end.ensures.ok) in
    subst (λ r. Good (g.G.Rig.seen r) (g.G.Rig.leaves r) (Pending.Commits t) (parts c.put_end.new.c) m2) (sym c.put_end.ensures.rig)
    (commit-good t seen leaves p (parts c.put_end.new.c) m2 good2 reads low high settled tells c.requires.runs made)
