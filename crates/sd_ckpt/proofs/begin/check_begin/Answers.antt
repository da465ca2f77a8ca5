use Rattle.std.proofs.Common.{◌≡◌, inl, inr, ⊎_elim, ℕ, ◌-◌, ◌^◌, ◌≤◌, length, min, true, false, refl, sym, ap, ◌∙◌, subst, arith}
use Rattle.std.specs.Prelude.{IsSome, Result, Err}
use Rattle.std.specs.List.{IsDistinct}
use Rattle.std.specs.Global.{Box}
use Rattle.std.proofs.lemmas.Result.{err_from_is_err_and}
use Rattle.sd_base.specs.declared.refusal.Refusal.{Refusal}
use Rattle.sd_base.specs.Ids.{same_txn}
use Rattle.sd_fits.specs.Serving.{Serving}
use Rattle.sd_log.specs.Logs.{LogState}
use Rattle.sd_logrec.proofs.Lengths.{length-spelling}
use Rattle.sd_logrec.specs.Spelling.{HasSpelling}
use Rattle.sd_logrec.specs.declared.record.Record.TheVariants as records
use Rattle.sd_model.specs.declared.event.Event.TheVariants.{CheckBegin}
use Rattle.sd_page.specs.Page.{Page}
use Rattle.sd_pagelock.specs.Directory.{DirectoryState, rec_lsn_at}
use Rattle.sd_txn.specs.Transactions.{Transactions, ids, span_at, txn_at}
use Rattle.sd_chain.specs.Logs.{next_lsn}
use Rattle.sd_state.specs.Complexes.{begun_of, parts}
use Rattle.sd_state.specs.Good.{TakesCheck}
use Rattle.sd_state.specs.Parts.{Begun, Parts, log_at, status_at, txns_at}
use Rattle.sd_state.specs.Values.{Pending}
use Rattle.sd_update.specs.Sealing.{MayCheck, NoRoomFor, with_more}
use Rattle.sd_world.specs.Serving.{did, telling}
use Rattle.sd_ckpt.specs.Beginnings.{HasTables, with_check}
use Rattle.sd_ckpt.proofs.CheckCalls.{begin-may, begin-spelled, begin-lsn, few-owed-there, row-numbered, rows-few}
use Rattle.sd_ckpt.proofs.CheckRefused.{check-down, check-refused, check-short}
use Rattle.sd_ckpt.proofs.CheckServed.{HasKept, check-did, new-is}
use Rattle.sd_ckpt.proofs.begin.check_begin.Goals as goal

-- an instance in a status that takes checkpoints
pub may_seal-requires-clause-few : goal.may_seal-requires-clause-few
may_seal-requires-clause-few g c =
    let fits = c.requires.fits in
    let rig = c.args.c.now.rig in
    let takes : TakesCheck (status_at (parts c.args.c.now) c.args.i) =
    subst TakesCheck c.status.ensures (c.takes_check.ensures.0 c.if-not-takes_check.false) in
    few-owed-there c.args.i (g.G.Rig.seen rig) (g.G.Rig.leaves rig) (parts c.args.c.now) fits.0 fits.1 c.keeps.ensures.low
    c.keeps.ensures.high takes (g.met.G.Rig.leaves_seen rig 0 (omega arith))

pub begun_at-requires-clause-few : goal.begun_at-requires-clause-few
begun_at-requires-clause-few g c =
    let fits = c.requires.fits in
    let rig = c.args.c.now.rig in
    let i : ℕ = c.args.i in
    let p : Parts = parts c.args.c.now in
    let takes : TakesCheck (status_at p i) =
    subst TakesCheck c.status.ensures (c.takes_check.ensures.0 c.if-not-takes_check.false) in
    let table : txns_at p i ≡ c.txns-2.result.now = sym c.txns-2.ensures in
    subst (λ (t : Transactions). length t.unresolved ≤ 64) table
    (rows-few i (g.G.Rig.seen rig) (g.G.Rig.leaves rig) p fits.0 fits.1 c.keeps.ensures.low c.keeps.ensures.high takes fits.2
    (subst (λ (t : Transactions). IsDistinct same_txn (ids t)) c.txns.ensures c.keeps-2.ensures.once))

pub begun_at-requires-clause-numbered : goal.begun_at-requires-clause-numbered
begun_at-requires-clause-numbered g c t some =
    let fits = c.requires.fits in
    let rig = c.args.c.now.rig in
    let i : ℕ = c.args.i in
    let p : Parts = parts c.args.c.now in
    let takes : TakesCheck (status_at p i) =
    subst TakesCheck c.status.ensures (c.takes_check.ensures.0 c.if-not-takes_check.false) in
    row-numbered i (g.G.Rig.seen rig) (g.G.Rig.leaves rig) p fits.0 fits.1 c.keeps.ensures.low c.keeps.ensures.high takes t
    (subst (λ (table : Transactions). IsSome (txn_at table t)) c.txns-2.ensures some)

pub seal_check-requires-clause-good : goal.seal_check-requires-clause-good
seal_check-requires-clause-good g c = let fits = c.requires.fits in (Pending.Idle, fits.0.scene.state, fits.1.good)

pub seal_check-requires-clause-may : goal.seal_check-requires-clause-may
seal_check-requires-clause-may g c =
    let fits = c.requires.fits in
    let rig = c.args.c.now.rig in
    let i : ℕ = c.args.i in
    let p : Parts = parts c.args.c.now in
    let takes : TakesCheck (status_at p i) =
    subst TakesCheck c.status.ensures (c.takes_check.ensures.0 c.if-not-takes_check.false) in
    let begin : c.next_lsn-begin.result ≡ next_lsn (log_at p i) 0 =
    begin-lsn i (g.G.Rig.seen rig) (g.G.Rig.leaves rig) p fits.0 fits.1 c.keeps.ensures.low c.keeps.ensures.high takes
    c.next_lsn-begin.result
    (c.next_lsn-begin.ensures ∙ ap (λ (l : LogState). min (next_lsn l 0) (2 ^ 62 - 1)) c.log.ensures)
    c.in_ok-may_seal.ensures.left in
    subst (λ (n : ℕ). MayCheck i (records.BeginCheck n) p) (sym begin)
    (begin-may i (g.G.Rig.seen rig) (g.G.Rig.leaves rig) p fits.0 fits.1 c.keeps.ensures.low c.keeps.ensures.high takes)

pub seal_check-requires-clause-spelled : goal.seal_check-requires-clause-spelled
seal_check-requires-clause-spelled g c =
    let fits = c.requires.fits in
    let rig = c.args.c.now.rig in
    let i : ℕ = c.args.i in
    let p : Parts = parts c.args.c.now in
    let takes : TakesCheck (status_at p i) =
    subst TakesCheck c.status.ensures (c.takes_check.ensures.0 c.if-not-takes_check.false) in
    let begin : c.next_lsn-begin.result ≡ next_lsn (log_at p i) 0 =
    begin-lsn i (g.G.Rig.seen rig) (g.G.Rig.leaves rig) p fits.0 fits.1 c.keeps.ensures.low c.keeps.ensures.high takes
    c.next_lsn-begin.result
    (c.next_lsn-begin.ensures ∙ ap (λ (l : LogState). min (next_lsn l 0) (2 ^ 62 - 1)) c.log.ensures)
    c.in_ok-may_seal.ensures.left in
    subst (λ (n : ℕ). HasSpelling (records.BeginCheck n)) (sym begin)
    (begin-spelled i (g.G.Rig.seen rig) (g.G.Rig.leaves rig) p fits.0 fits.1 c.keeps.ensures.low c.keeps.ensures.high takes
    c.in_ok-may_seal.ensures.left)

pub returns-then-not-takes_check-clause-served : goal.returns-then-not-takes_check-clause-served
returns-then-not-takes_check-clause-served g c =
    let old = c.args.c.now in
    let i : ℕ = c.args.i in
    let tell = telling g.G.Rig.seen g.G.Rig.leaves g.G.Rig.moment g.G.Rig.since g.G.Rig.faults in
    check-down tell old old i c.keeps.ensures.low c.keeps.ensures.high refl refl
    (λ img since. g.met.G.Rig.only_now old.rig img since)
    (λ takes. let yes = c.takes_check.ensures.1 (subst TakesCheck (sym c.status.ensures) takes) in
    let clash : true ≡ false = sym yes ∙ c.if-not-takes_check.true in absurd (cc))

pub returns-in_err-may_seal-clause-served : goal.returns-in_err-may_seal-clause-served
returns-in_err-may_seal-clause-served g c =
    let old = c.args.c.now in
    let i : ℕ = c.args.i in
    let tell = telling g.G.Rig.seen g.G.Rig.leaves g.G.Rig.moment g.G.Rig.since g.G.Rig.faults in
    let takes : TakesCheck (status_at (parts old) i) =
    subst TakesCheck c.status.ensures (c.takes_check.ensures.0 c.if-not-takes_check.false) in
    let p = err_from_is_err_and c.from_residual.result c.from_residual.ensures.1 in
    let may = c.in_err-may_seal.ensures in
    subst (λ (r : Result (Unit {0}) Refusal). Serving tell (CheckBegin i) (did r) old old)
    (sym (p.1 ∙ ap (λ (n : Refusal). Err n) p.2))
    (check-refused tell old old i c.keeps.ensures.low c.keeps.ensures.high refl refl
    (λ img since. g.met.G.Rig.only_now old.rig img since) takes c.in_err-may_seal.field-0.0
    (⊎_elim (λ e. inl e) (λ e. inr (inl e)) may.only) (λ e. may.full.0 (ap (λ (n : Refusal). Err n) e))
    (λ e. (may.lsns.0 (ap (λ (n : Refusal). Err n) e)).1))

pub returns-in_err-check-clause-served : goal.returns-in_err-check-clause-served
returns-in_err-check-clause-served g c =
    let old = c.args.c.now in
    let i : ℕ = c.args.i in
    let tell = telling g.G.Rig.seen g.G.Rig.leaves g.G.Rig.moment g.G.Rig.since g.G.Rig.faults in
    let p = err_from_is_err_and c.from_residual-in_err-check.result c.from_residual-in_err-check.ensures.1 in
    subst (λ (r : Result (Unit {0}) Refusal). Serving tell (CheckBegin i) (did r) old old)
    (sym (p.1 ∙ ap (λ (n : Refusal). Err n) p.2))
    (check-short tell old old refl refl (λ img since. g.met.G.Rig.only_now old.rig img since) (CheckBegin i))

pub returns-in_err-seal_check-clause-served : goal.returns-in_err-seal_check-clause-served
returns-in_err-seal_check-clause-served g c =
    let old = c.args.c.now in
    let i : ℕ = c.args.i in
    let tell = telling g.G.Rig.seen g.G.Rig.leaves g.G.Rig.moment g.G.Rig.since g.G.Rig.faults in
    let takes : TakesCheck (status_at (parts old) i) =
    subst TakesCheck c.status.ensures (c.takes_check.ensures.0 c.if-not-takes_check.false) in
    let p = err_from_is_err_and c.from_residual-in_err-seal_check.result c.from_residual-in_err-seal_check.ensures.1 in
    let seal = c.in_err-seal_check.ensures in
    subst (λ (r : Result (Unit {0}) Refusal). Serving tell (CheckBegin i) (did r) old c.seal_check.new.c)
    (sym (p.1 ∙ ap (λ (n : Refusal). Err n) p.2))
    (check-refused tell old c.seal_check.new.c i c.keeps.ensures.low c.keeps.ensures.high seal.rig seal.stays
    (λ img since. g.met.G.Rig.only_now old.rig img since) takes c.in_err-seal_check.field-0.0 seal.refusals
    (λ e. subst (λ (n : ℕ). NoRoomFor i n (parts old)) (length-spelling (records.BeginCheck c.next_lsn-begin.result))
    (seal.full.0 (ap (λ (n : Refusal). Err n) e)))
    (λ e. (seal.lsns.0 (ap (λ (n : Refusal). Err n) e)).1))

pub returns-clause-served : goal.returns-clause-served
returns-clause-served g c =
    let fits = c.requires.fits in
    let old = c.args.c.now in
    let rig = old.rig in
    let i : ℕ = c.args.i in
    let p : Parts = parts old in
    let s = c.seal_check.new.c in
    let n = c.keep_check.new.c in
    let tell = telling g.G.Rig.seen g.G.Rig.leaves g.G.Rig.moment g.G.Rig.since g.G.Rig.faults in
    let takes : TakesCheck (status_at p i) =
    subst TakesCheck c.status.ensures (c.takes_check.ensures.0 c.if-not-takes_check.false) in
    let begin : c.next_lsn-begin.result ≡ next_lsn (log_at p i) 0 =
    begin-lsn i (g.G.Rig.seen rig) (g.G.Rig.leaves rig) p fits.0 fits.1 c.keeps.ensures.low c.keeps.ensures.high takes
    c.next_lsn-begin.result
    (c.next_lsn-begin.ensures ∙ ap (λ (l : LogState). min (next_lsn l 0) (2 ^ 62 - 1)) c.log.ensures)
    c.in_ok-may_seal.ensures.left in
    let k : Begun = begun_of c.in_ok-check.check in
    let spare : ℕ = (log_at (parts s) i).spare in
    let seal = c.in_ok-seal_check.ensures in
    let first : k.begin ≡ c.next_lsn-begin.result = c.in_ok-check.ensures.begin in
    let h : HasKept tell i spare k old s n = record {
      low = c.keeps.ensures.low;
      high = c.keeps.ensures.high;
      takes = takes;
      begin = first ∙ begin;
      tables = subst (λ (table : Transactions). HasTables (span_at table) (rec_lsn_at p.directory) k) c.txns-2.ensures
          (subst (λ (d : DirectoryState (Box Page)). HasTables (span_at c.txns-2.result.now) (rec_lsn_at d) k) c.directory.ensures c.in_ok-check.ensures.tables);
      reads = g.met.G.Rig.leaves_seen rig i (let high = c.keeps.ensures.high in omega (arith, high));
      same = seal.rig;
      is = subst (λ (l : ℕ). parts s ≡ with_more i (records.BeginCheck l) spare p) (sym first) seal.parts;
      good = λ m. seal.good Pending.Idle m;
      rigs = c.keep_check.ensures.rig;
      kept = c.keep_check.ensures.parts;
    } in
    check-did tell i spare k old s n h (λ img since. g.met.G.Rig.only_now rig img since)

pub returns-clause-kept : goal.returns-clause-kept
returns-clause-kept g c =
    let fits = c.requires.fits in
    let old = c.args.c.now in
    let rig = old.rig in
    let i : ℕ = c.args.i in
    let p : Parts = parts old in
    let s = c.seal_check.new.c in
    let n = c.keep_check.new.c in
    let tell = telling g.G.Rig.seen g.G.Rig.leaves g.G.Rig.moment g.G.Rig.since g.G.Rig.faults in
    let takes : TakesCheck (status_at p i) =
    subst TakesCheck c.status.ensures (c.takes_check.ensures.0 c.if-not-takes_check.false) in
    let begin : c.next_lsn-begin.result ≡ next_lsn (log_at p i) 0 =
    begin-lsn i (g.G.Rig.seen rig) (g.G.Rig.leaves rig) p fits.0 fits.1 c.keeps.ensures.low c.keeps.ensures.high takes
    c.next_lsn-begin.result
    (c.next_lsn-begin.ensures ∙ ap (λ (l : LogState). min (next_lsn l 0) (2 ^ 62 - 1)) c.log.ensures)
    c.in_ok-may_seal.ensures.left in
    let k : Begun = begun_of c.in_ok-check.check in
    let spare : ℕ = (log_at (parts s) i).spare in
    let seal = c.in_ok-seal_check.ensures in
    let first : k.begin ≡ c.next_lsn-begin.result = c.in_ok-check.ensures.begin in
    let h : HasKept tell i spare k old s n = record {
      low = c.keeps.ensures.low;
      high = c.keeps.ensures.high;
      takes = takes;
      begin = first ∙ begin;
      tables = subst (λ (table : Transactions). HasTables (span_at table) (rec_lsn_at p.directory) k) c.txns-2.ensures
          (subst (λ (d : DirectoryState (Box Page)). HasTables (span_at c.txns-2.result.now) (rec_lsn_at d) k) c.directory.ensures c.in_ok-check.ensures.tables);
      reads = g.met.G.Rig.leaves_seen rig i (let high = c.keeps.ensures.high in omega (arith, high));
      same = seal.rig;
      is = subst (λ (l : ℕ). parts s ≡ with_more i (records.BeginCheck l) spare p) (sym first) seal.parts;
      good = λ m. seal.good Pending.Idle m;
      rigs = c.keep_check.ensures.rig;
      kept = c.keep_check.ensures.parts;
    } in
    record {
      k = k;
      begin = h.begin;
      tables = h.tables;
      is = subst (λ (bytes : ℕ). parts n ≡ with_check i k (with_more i (records.BeginCheck k.begin) bytes p))
          (sym (ap (λ (q : Parts). (log_at q i).spare) h.kept)) (new-is tell i spare k old s n h);
    }

pub keep_check-requires : goal.keep_check-requires
keep_check-requires g c =
    let fits = c.requires.fits in
    record { shape = (c.in_ok-seal_check.ensures.good Pending.Idle fits.0.scene.state fits.1.good).shape }

pub returns-then-not-takes_check-clause-full : goal.returns-then-not-takes_check-clause-full
returns-then-not-takes_check-clause-full g c = (
  (λ e. absurd (cc)),
  (λ h. let yes = c.takes_check.ensures.1 (subst TakesCheck (sym c.status.ensures) h.0) in
      let clash : true ≡ false = sym yes ∙ c.if-not-takes_check.true in absurd (cc)),
)

pub returns-then-not-takes_check-clause-lsns : goal.returns-then-not-takes_check-clause-lsns
returns-then-not-takes_check-clause-lsns g c = (
  (λ e. absurd (cc)),
  (λ h. let yes = c.takes_check.ensures.1 (subst TakesCheck (sym c.status.ensures) h.0) in
      let clash : true ≡ false = sym yes ∙ c.if-not-takes_check.true in absurd (cc)),
)

pub returns-in_err-seal_check-clause-full : goal.returns-in_err-seal_check-clause-full
returns-in_err-seal_check-clause-full g c =
    let p : Parts = parts c.args.c.now in
    let i : ℕ = c.args.i in
    let q = err_from_is_err_and c.from_residual-in_err-seal_check.result c.from_residual-in_err-seal_check.ensures.1 in (
      (λ e. absurd (c.in_ok-may_seal.ensures.room
          (subst (λ (n : ℕ). NoRoomFor i n p) (length-spelling (records.BeginCheck c.next_lsn-begin.result))
          (c.in_err-seal_check.ensures.full.0 (sym (ap (λ (n : Refusal). Err n) q.2) ∙ sym q.1 ∙ e))))),
      (λ h. absurd (c.in_ok-may_seal.ensures.room h.1)),
    )

pub returns-in_err-seal_check-clause-lsns : goal.returns-in_err-seal_check-clause-lsns
returns-in_err-seal_check-clause-lsns g c =
    let q = err_from_is_err_and c.from_residual-in_err-seal_check.result c.from_residual-in_err-seal_check.ensures.1 in (
      (λ e. absurd (c.in_ok-may_seal.ensures.left
          (c.in_err-seal_check.ensures.lsns.0 (sym (ap (λ (n : Refusal). Err n) q.2) ∙ sym q.1 ∙ e)).1)),
      (λ h. absurd (c.in_ok-may_seal.ensures.left h.1.1)),
    )
