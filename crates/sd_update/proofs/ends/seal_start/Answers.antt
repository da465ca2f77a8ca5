use Rattle.std.proofs.Common.{◌≡◌, ℕ, ◌+◌, ◌-◌, ◌^◌, ◌≤◌, min, inr, false, true, get_or, slice_set, refl, sym, ap, ◌∙◌, subst, arith, rules, ⊎_elim}
use Rattle.std.specs.Prelude.{Err}
use Rattle.sd_base.specs.declared.refusal.Refusal.TheVariants as R
use Rattle.sd_logrec.specs.declared.record.Record.TheVariants as records
use Rattle.sd_logrec.proofs.Lengths.{length-spelling}
use Rattle.sd_log.specs.Logs.{LogState}
use Rattle.sd_chain.specs.Logs.{next_lsn}
use Rattle.sd_state.specs.Complexes.{parts}
use Rattle.sd_state.specs.Good.{Good}
use Rattle.sd_state.specs.Parts.{Parts, epoch_at, is_loose, log_at, status_at, up_as}
use Rattle.sd_update.specs.Sealing.{NoRoomFor, with_more, with_start}
use Rattle.sd_state.specs.Tables.{tells_log}
use Rattle.sd_state.specs.Values.{Pending}
use Rattle.sd_state.proofs.Items.{item-is}
use Rattle.sd_update.proofs.SealedCalls.{settled-up}
use Rattle.sd_update.proofs.SealedTests.{few-told, next-small, start-good}
use Rattle.sd_update.proofs.ends.seal_start.Goals as goal

pub may_seal-requires-clause-few : goal.may_seal-requires-clause-few
may_seal-requires-clause-few g c =
    let p : Parts = parts c.args.c.now in
    let i : ℕ = c.args.i in
    let rig = c.args.c.now.rig in
    let seen = g.G.Rig.seen rig in
    let leaves = g.G.Rig.leaves rig in
    let low : 1 ≤ i = omega (arith, c.get.ensures.value, c.get.ensures.low) in
    let high : i ≤ 8 = omega (arith, c.get.ensures.value, c.get.ensures.high) in
    let reads : leaves 0 (seen 0) = g.met.G.Rig.leaves_seen rig 0 (omega arith) in
    few-told i seen leaves Pending.Idle p c.requires.good.0 c.requires.good.1 reads low high c.requires.idle
    (⊎_elim (λ e. ap up_as e) (λ e. ap up_as e) c.requires.waits)
    (⊎_elim (λ e. ap tells_log e) (λ e. ap tells_log e) c.requires.waits)

pub returns-then-was-clause-lsns : goal.returns-then-was-clause-lsns
returns-then-was-clause-lsns g c =
    let p : Parts = parts c.args.c.now in
    let i : ℕ = c.args.i in
    let rig = c.args.c.now.rig in
    let seen = g.G.Rig.seen rig in
    let leaves = g.G.Rig.leaves rig in
    let low : 1 ≤ i = omega (arith, c.get.ensures.value, c.get.ensures.low) in
    let high : i ≤ 8 = omega (arith, c.get.ensures.value, c.get.ensures.high) in
    let reads : leaves 0 (seen 0) = g.met.G.Rig.leaves_seen rig 0 (omega arith) in
    let place : c.get.result - 1 ≡ i - 1 = ap (λ n. n - 1) c.get.ensures.value in
    let was : ℕ = c.index-was.result.now in
    let was-is : epoch_at p i ≡ was = item-is 0 p.epochs i was low high c.requires.good.1.shape.epochs
    (c.index-was.ensures ∙ ap (λ n. get_or p.epochs n was) place) in
    (λ e. (c.in_ok-may_seal.ensures.room, inr (was-is ∙ c.if-was.true)), λ h. refl)

pub put_plain-requires-clause-room : goal.put_plain-requires-clause-room
put_plain-requires-clause-room g c =
    subst (λ n. NoRoomFor c.args.i n (parts c.args.c.now) → ⊥)
    (sym (length-spelling (records.Start c.next_lsn-lsn.result (c.index-was.result.now + 1)))) c.in_ok-may_seal.ensures.room

pub returns-in_err-put_plain-clause-lsns : goal.returns-in_err-put_plain-clause-lsns
returns-in_err-put_plain-clause-lsns g c =
    let p : Parts = parts c.args.c.now in
    let i : ℕ = c.args.i in
    let rig = c.args.c.now.rig in
    let seen = g.G.Rig.seen rig in
    let leaves = g.G.Rig.leaves rig in
    let low : 1 ≤ i = omega (arith, c.get.ensures.value, c.get.ensures.low) in
    let high : i ≤ 8 = omega (arith, c.get.ensures.value, c.get.ensures.high) in
    let reads : leaves 0 (seen 0) = g.met.G.Rig.leaves_seen rig 0 (omega arith) in
    let place : c.get.result - 1 ≡ i - 1 = ap (λ n. n - 1) c.get.ensures.value in
    let was : ℕ = c.index-was.result.now in
    let was-is : epoch_at p i ≡ was = item-is 0 p.epochs i was low high c.requires.good.1.shape.epochs
    (c.index-was.ensures ∙ ap (λ n. get_or p.epochs n was) place) in
    let came : c.from_residual-in_err-put_plain.result ≡ Err R.Memory = search rules in (
      λ e. absurd (cc),
      λ h. ⊎_elim (λ none. absurd (c.in_ok-may_seal.ensures.left none))
          (λ top. let hit : was ≡ 4294967295 = sym was-is ∙ top in absurd (c.if-was.false hit)) h.1,
    )

pub returns-clause-epoch : goal.returns-clause-epoch
returns-clause-epoch g c =
    let p : Parts = parts c.args.c.now in
    let i : ℕ = c.args.i in
    let rig = c.args.c.now.rig in
    let seen = g.G.Rig.seen rig in
    let leaves = g.G.Rig.leaves rig in
    let low : 1 ≤ i = omega (arith, c.get.ensures.value, c.get.ensures.low) in
    let high : i ≤ 8 = omega (arith, c.get.ensures.value, c.get.ensures.high) in
    let reads : leaves 0 (seen 0) = g.met.G.Rig.leaves_seen rig 0 (omega arith) in
    let place : c.get.result - 1 ≡ i - 1 = ap (λ n. n - 1) c.get.ensures.value in
    let was : ℕ = c.index-was.result.now in
    let was-is : epoch_at p i ≡ was = item-is 0 p.epochs i was low high c.requires.good.1.shape.epochs
    (c.index-was.ensures ∙ ap (λ n. get_or p.epochs n was) place) in
    ap (λ n. n + 1) (sym was-is)

pub returns-clause-lsns : goal.returns-clause-lsns
returns-clause-lsns g c =
    let p : Parts = parts c.args.c.now in
    let i : ℕ = c.args.i in
    let rig = c.args.c.now.rig in
    let seen = g.G.Rig.seen rig in
    let leaves = g.G.Rig.leaves rig in
    let low : 1 ≤ i = omega (arith, c.get.ensures.value, c.get.ensures.low) in
    let high : i ≤ 8 = omega (arith, c.get.ensures.value, c.get.ensures.high) in
    let reads : leaves 0 (seen 0) = g.met.G.Rig.leaves_seen rig 0 (omega arith) in
    let place : c.get.result - 1 ≡ i - 1 = ap (λ n. n - 1) c.get.ensures.value in
    let was : ℕ = c.index-was.result.now in
    let was-is : epoch_at p i ≡ was = item-is 0 p.epochs i was low high c.requires.good.1.shape.epochs
    (c.index-was.ensures ∙ ap (λ n. get_or p.epochs n was) place) in (
      λ e. absurd (cc),
      λ h. ⊎_elim (λ none. absurd (c.in_ok-may_seal.ensures.left none))
          (λ top. let hit : was ≡ 4294967295 = sym was-is ∙ top in absurd (c.if-was.false hit)) h.1,
    )

pub returns-clause-parts : goal.returns-clause-parts
returns-clause-parts g c =
    let p : Parts = parts c.args.c.now in
    let i : ℕ = c.args.i in
    let rig = c.args.c.now.rig in
    let seen = g.G.Rig.seen rig in
    let leaves = g.G.Rig.leaves rig in
    let low : 1 ≤ i = omega (arith, c.get.ensures.value, c.get.ensures.low) in
    let high : i ≤ 8 = omega (arith, c.get.ensures.value, c.get.ensures.high) in
    let reads : leaves 0 (seen 0) = g.met.G.Rig.leaves_seen rig 0 (omega arith) in
    let place : c.get.result - 1 ≡ i - 1 = ap (λ n. n - 1) c.get.ensures.value in
    let was : ℕ = c.index-was.result.now in
    let was-is : epoch_at p i ≡ was = item-is 0 p.epochs i was low high c.requires.good.1.shape.epochs
    (c.index-was.ensures ∙ ap (λ n. get_or p.epochs n was) place) in
    let settled : is_loose p i ≡ false = settled-up seen leaves Pending.Idle p c.requires.good.0 i low high c.requires.good.1 c.requires.idle
    (⊎_elim (λ e. ap up_as e) (λ e. ap up_as e) c.requires.waits) in
    let tells : tells_log (status_at p i) ≡ true = ⊎_elim (λ e. ap tells_log e) (λ e. ap tells_log e) c.requires.waits in
    let small = next-small i (records.BeginCheck 0) 0 seen leaves Pending.Idle p c.requires.good.0 c.requires.good.1 low high settled tells
    c.in_ok-may_seal.ensures.left in
    let next : c.next_lsn-lsn.result ≡ min (next_lsn (log_at p i) 0) (2 ^ 62 - 1) = c.next_lsn-lsn.ensures
    ∙ ap (λ (l : LogState). min (next_lsn l 0) (2 ^ 62 - 1)) c.log.ensures in
    let lsn-is : c.next_lsn-lsn.result ≡ next_lsn (log_at p i) 0 = omega (arith, next, small) in
    let q : Parts = parts c.put_plain.new.c in
    let spare : ℕ = (log_at q i).spare in
    let made : record q { epochs = slice_set q.epochs (c.get.result - 1) (was + 1) }
    ≡ with_start i (next_lsn (log_at p i) 0) (was + 1) spare p =
    ap (λ (z : Parts). record z { epochs = slice_set z.epochs (c.get.result - 1) (was + 1) }) c.in_ok-put_plain.ensures.ok
    ∙ ap (λ n. record (with_more i (records.Start c.next_lsn-lsn.result (was + 1)) spare p) { epochs = slice_set p.epochs n (was + 1) }) place
    ∙ ap (λ l. with_start i l (was + 1) spare p) lsn-is in
    made

pub returns-clause-good : goal.returns-clause-good
returns-clause-good g c m good =
    let p : Parts = parts c.args.c.now in
    let i : ℕ = c.args.i in
    let rig = c.args.c.now.rig in
    let seen = g.G.Rig.seen rig in
    let leaves = g.G.Rig.leaves rig in
    let low : 1 ≤ i = omega (arith, c.get.ensures.value, c.get.ensures.low) in
    let high : i ≤ 8 = omega (arith, c.get.ensures.value, c.get.ensures.high) in
    let reads : leaves 0 (seen 0) = g.met.G.Rig.leaves_seen rig 0 (omega arith) in
    let place : c.get.result - 1 ≡ i - 1 = ap (λ n. n - 1) c.get.ensures.value in
    let was : ℕ = c.index-was.result.now in
    let was-is : epoch_at p i ≡ was = item-is 0 p.epochs i was low high c.requires.good.1.shape.epochs
    (c.index-was.ensures ∙ ap (λ n. get_or p.epochs n was) place) in
    let settled : is_loose p i ≡ false = settled-up seen leaves Pending.Idle p c.requires.good.0 i low high c.requires.good.1 c.requires.idle
    (⊎_elim (λ e. ap up_as e) (λ e. ap up_as e) c.requires.waits) in
    let tells : tells_log (status_at p i) ≡ true = ⊎_elim (λ e. ap tells_log e) (λ e. ap tells_log e) c.requires.waits in
    let small = next-small i (records.BeginCheck 0) 0 seen leaves Pending.Idle p c.requires.good.0 c.requires.good.1 low high settled tells
    c.in_ok-may_seal.ensures.left in
    let next : c.next_lsn-lsn.result ≡ min (next_lsn (log_at p i) 0) (2 ^ 62 - 1) = c.next_lsn-lsn.ensures
    ∙ ap (λ (l : LogState). min (next_lsn l 0) (2 ^ 62 - 1)) c.log.ensures in
    let lsn-is : c.next_lsn-lsn.result ≡ next_lsn (log_at p i) 0 = omega (arith, next, small) in
    let q : Parts = parts c.put_plain.new.c in
    let spare : ℕ = (log_at q i).spare in
    let made : record q { epochs = slice_set q.epochs (c.get.result - 1) (was + 1) }
    ≡ with_start i (next_lsn (log_at p i) 0) (was + 1) spare p =
    ap (λ (z : Parts). record z { epochs = slice_set z.epochs (c.get.result - 1) (was + 1) }) c.in_ok-put_plain.ensures.ok
    ∙ ap (λ n. record (with_more i (records.Start c.next_lsn-lsn.result (was + 1)) spare p) { epochs = slice_set p.epochs n (was + 1) }) place
    ∙ ap (λ l. with_start i l (was + 1) spare p) lsn-is in
    subst (λ r. Good (g.G.Rig.seen r) (g.G.Rig.leaves r) (Pending.Starts i) (record q { epochs = slice_set q.epochs (c.get.result - 1) (was + 1) }) m)
    (sym c.put_plain.ensures.rig)
    (subst (λ (z : Parts). Good seen leaves (Pending.Starts i) z m) (sym made)
    (start-good i (next_lsn (log_at p i) 0) (was + 1) spare seen leaves p m good reads low high c.requires.idle c.requires.waits refl
    (ap (λ n. n + 1) (sym was-is))
    (subst (λ n. NoRoomFor i n p → ⊥) (sym (length-spelling (records.Start (next_lsn (log_at p i) 0) (was + 1)))) c.in_ok-may_seal.ensures.room)
    c.in_ok-may_seal.ensures.left c.in_ok-put_plain.ensures.memory))
