use Rattle.std.proofs.Common.{◌≡◌, ◌≢◌, ◌⊎◌, inl, inr, ⊎_elim, ℕ, ◌+◌, ◌≤◌, Bool, true, false, length, refl, sym, ap, ◌∙◌, subst, arith}
use Rattle.std.specs.Prelude.{IfErr, Result, Ok, Err, if◌then◌else◌}
use Rattle.std.proofs.lemmas.Result.{err_from_is_err_and}
use Rattle.sd_base.specs.Streams.{Rises}
use Rattle.sd_base.specs.Twin.{chosen_slot}
use Rattle.sd_base.specs.declared.refusal.Refusal.{Refusal}
use Rattle.sd_base.specs.declared.refusal.Refusal.TheVariants as R
use Rattle.sd_fits.specs.Serving.{Serving}
use Rattle.sd_log.specs.Logs.{IsStartFor, LogState}
use Rattle.sd_logrec.proofs.Lengths.{length-spelling}
use Rattle.sd_logrec.specs.Spelling.{HasSpelling, spelling}
use Rattle.sd_logrec.specs.declared.record.Record.{Record}
use Rattle.sd_model.specs.declared.event.Event.TheVariants.{CheckEnd}
use Rattle.sd_model.specs.declared.event.Reply.TheVariants as reply
use Rattle.sd_moves.proofs.PutCalls.{not-err, same-then}
use Rattle.sd_rig.specs.Devices.{DeviceImages, LeavesSame}
use Rattle.sd_rig.specs.Puts.{filled_open}
use Rattle.sd_chain.specs.Checks.{lsn_of}
use Rattle.sd_chain.specs.Logs.{next_lsn}
use Rattle.sd_state.specs.Complexes.{parts}
use Rattle.sd_state.specs.Good.{TakesCheck}
use Rattle.sd_state.specs.Parts.{Begun, Parts, is_loose, log_at, low_of, owed_at, status_at}
use Rattle.sd_state.specs.Values.{Pending}
use Rattle.sd_transfer.proofs.Forced.{was-err}
use Rattle.sd_update.specs.Sealing.{MayCheck, NoRoomFor, with_more}
use Rattle.sd_world.specs.Serving.{did, telling}
use Rattle.sd_ckpt.specs.Endings.{MayEnd, end_len, end_record}
use Rattle.sd_ckpt.specs.Masters.{MayPutMaster}
use Rattle.sd_ckpt.specs.declared.master.NotPut.{NotPut}
use Rattle.sd_ckpt.proofs.CheckCalls.{begin-lsn, few-owed-there}
use Rattle.sd_ckpt.proofs.CheckRefused.{check-short}
use Rattle.sd_ckpt.proofs.EndCalls.{end-may, end-spelled, may-put, rows-open}
use Rattle.sd_ckpt.proofs.EndSealed.{counted_core}
use Rattle.sd_ckpt.proofs.EndExact.{IsExactly, exact-down, exact-may, exact-unended, unended-failed}
use Rattle.sd_ckpt.proofs.EndRefused.{end-down, end-refused}
use Rattle.sd_ckpt.proofs.EndServed.{HasForced, done-is, ends, fails-force, fall-due, good-f, some-tail, settled-s, fails-put, fails-read, fell-forcing, fell-putting, fits-f, has-ended, stays-begun}
use Rattle.sd_ckpt.proofs.ending.check_end.Goals as goal

-- the calls of the force and of the put
ticks : (b : Bool) (old forced new : ℕ) → forced ≡ old + 4 → new ≡ forced + (if b then 6 else 4) → (new ≡ old + 8) ⊎ (new ≡ old + 10)
ticks true old forced new first second = inr (omega (arith, first, second))
ticks false old forced new first second = inl (omega (arith, first, second))

pub end_for-requires-clause-shape : goal.end_for-requires-clause-shape
end_for-requires-clause-shape g c =
    let fits = c.requires.fits in
    fits.1.good.shape

pub end_for-requires-clause-few : goal.end_for-requires-clause-few
end_for-requires-clause-few g c =
    let fits = c.requires.fits in
    let old = c.args.c.now in
    let rig = old.rig in
    let i : ℕ = c.args.i in
    let p : Parts = parts old in
    let low = c.keeps.ensures.low in
    let high = c.keeps.ensures.high in
    let takes : TakesCheck (status_at p i) =
    subst TakesCheck c.status.ensures (c.takes_check.ensures.0 c.if-not-takes_check.false) in
    few-owed-there i (g.G.Rig.seen rig) (g.G.Rig.leaves rig) p fits.0 fits.1 low high takes (g.met.G.Rig.leaves_seen rig 0 (omega arith))

pub end_for-requires-clause-spelled : goal.end_for-requires-clause-spelled
end_for-requires-clause-spelled g c k is =
    let fits = c.requires.fits in
    let i : ℕ = c.args.i in
    (fits.1.good.checking i k is).spelled

pub seal_check-requires-clause-good : goal.seal_check-requires-clause-good
seal_check-requires-clause-good g c =
    let fits = c.requires.fits in
    (Pending.Idle, fits.0.scene.state, fits.1.good)

pub seal_check-requires-clause-idle : goal.seal_check-requires-clause-idle
seal_check-requires-clause-idle g c =
    let fits = c.requires.fits in
    fits.1.idle

pub seal_check-requires-clause-may : goal.seal_check-requires-clause-may
seal_check-requires-clause-may g c =
    let fits = c.requires.fits in
    let old = c.args.c.now in
    let rig = old.rig in
    let i : ℕ = c.args.i in
    let p : Parts = parts old in
    let low = c.keeps.ensures.low in
    let high = c.keeps.ensures.high in
    let takes : TakesCheck (status_at p i) =
    subst TakesCheck c.status.ensures (c.takes_check.ensures.0 c.if-not-takes_check.false) in
    let end = c.in_ok-ending.ensures.may in
    let k : Begun = end.0 in
    let may : MayEnd i k p = end.1 in
    let y : Record = c.in_ok-ending.ending.1 in
    let rec : y ≡ end_record (next_lsn (log_at p i) 0) k = end.3
    ∙ ap (λ (n : ℕ). end_record n k) (begin-lsn i (g.G.Rig.seen rig) (g.G.Rig.leaves rig) p fits.0 fits.1 low high takes _ refl may.lsns) in
    subst (λ (x : Record). MayCheck i x p) (sym rec)
    (end-may i (g.G.Rig.seen rig) (g.G.Rig.leaves rig) p fits.0 fits.1 low high k may)

pub seal_check-requires-clause-spelled : goal.seal_check-requires-clause-spelled
seal_check-requires-clause-spelled g c =
    let fits = c.requires.fits in
    let old = c.args.c.now in
    let rig = old.rig in
    let i : ℕ = c.args.i in
    let p : Parts = parts old in
    let low = c.keeps.ensures.low in
    let high = c.keeps.ensures.high in
    let takes : TakesCheck (status_at p i) =
    subst TakesCheck c.status.ensures (c.takes_check.ensures.0 c.if-not-takes_check.false) in
    let end = c.in_ok-ending.ensures.may in
    let k : Begun = end.0 in
    let may : MayEnd i k p = end.1 in
    let y : Record = c.in_ok-ending.ending.1 in
    let rec : y ≡ end_record (next_lsn (log_at p i) 0) k = end.3
    ∙ ap (λ (n : ℕ). end_record n k) (begin-lsn i (g.G.Rig.seen rig) (g.G.Rig.leaves rig) p fits.0 fits.1 low high takes _ refl may.lsns) in
    subst HasSpelling (sym rec)
    (end-spelled i (g.G.Rig.seen rig) (g.G.Rig.leaves rig) p fits.0 fits.1 low high k may)

pub force_log-requires-clause-good : goal.force_log-requires-clause-good
force_log-requires-clause-good g c =
    let fits = c.requires.fits in
    let seal = c.in_ok-seal_check.ensures in
    (Pending.Idle, fits.0.scene.state, seal.good Pending.Idle fits.0.scene.state fits.1.good)

pub force_log-requires-clause-idle : goal.force_log-requires-clause-idle
force_log-requires-clause-idle g c =
    let fits = c.requires.fits in
    let seal = c.in_ok-seal_check.ensures in
    ap (λ (q : Parts). q.due) seal.parts ∙ fits.1.idle

pub down-requires-clause-good : goal.down-requires-clause-good
down-requires-clause-good g c =
    let fits = c.requires.fits in
    let old = c.args.c.now in
    let rig = old.rig in
    let i : ℕ = c.args.i in
    let p : Parts = parts old in
    let low = c.keeps.ensures.low in
    let high = c.keeps.ensures.high in
    let tell = telling g.G.Rig.seen g.G.Rig.leaves g.G.Rig.moment g.G.Rig.since g.G.Rig.faults in
    let takes : TakesCheck (status_at p i) =
    subst TakesCheck c.status.ensures (c.takes_check.ensures.0 c.if-not-takes_check.false) in
    let end = c.in_ok-ending.ensures.may in
    let k : Begun = end.0 in
    let may : MayEnd i k p = end.1 in
    let y : Record = c.in_ok-ending.ending.1 in
    let rec : y ≡ end_record (next_lsn (log_at p i) 0) k = end.3
    ∙ ap (λ (n : ℕ). end_record n k) (begin-lsn i (g.G.Rig.seen rig) (g.G.Rig.leaves rig) p fits.0 fits.1 low high takes _ refl may.lsns) in
    let s = c.seal_check.new.c in
    let f = c.force_log.new.self in
    let seal = c.in_ok-seal_check.ensures in
    let force = c.force_log.ensures in
    let spare : ℕ = (log_at (parts s) i).spare in
    let h : HasForced tell i spare k old s f = record {
      low = low;
      high = high;
      was = may.begun;
      same = seal.rig;
      is = subst (λ (x : Record). parts s ≡ with_more i x spare p) rec seal.parts;
      good = λ m. seal.good Pending.Idle m;
      good_then = λ m. force.good Pending.Idle m;
      images = λ m. force.images Pending.Idle m;
      time = force.time;
      others = force.others;
      masters = force.masters;
      reads = λ d le. g.met.G.Rig.leaves_seen f.rig d le;
    } in
    (Pending.Idle, fits.0.scene.state, good-f tell i spare k old s f h fits.0 fits.1)

pub down-requires-clause-due : goal.down-requires-clause-due
down-requires-clause-due g c =
    let fits = c.requires.fits in
    let old = c.args.c.now in
    let rig = old.rig in
    let i : ℕ = c.args.i in
    let p : Parts = parts old in
    let low = c.keeps.ensures.low in
    let high = c.keeps.ensures.high in
    let tell = telling g.G.Rig.seen g.G.Rig.leaves g.G.Rig.moment g.G.Rig.since g.G.Rig.faults in
    let takes : TakesCheck (status_at p i) =
    subst TakesCheck c.status.ensures (c.takes_check.ensures.0 c.if-not-takes_check.false) in
    let end = c.in_ok-ending.ensures.may in
    let k : Begun = end.0 in
    let may : MayEnd i k p = end.1 in
    let y : Record = c.in_ok-ending.ending.1 in
    let rec : y ≡ end_record (next_lsn (log_at p i) 0) k = end.3
    ∙ ap (λ (n : ℕ). end_record n k) (begin-lsn i (g.G.Rig.seen rig) (g.G.Rig.leaves rig) p fits.0 fits.1 low high takes _ refl may.lsns) in
    let s = c.seal_check.new.c in
    let f = c.force_log.new.self in
    let seal = c.in_ok-seal_check.ensures in
    let force = c.force_log.ensures in
    let spare : ℕ = (log_at (parts s) i).spare in
    let h : HasForced tell i spare k old s f = record {
      low = low;
      high = high;
      was = may.begun;
      same = seal.rig;
      is = subst (λ (x : Record). parts s ≡ with_more i x spare p) rec seal.parts;
      good = λ m. seal.good Pending.Idle m;
      good_then = λ m. force.good Pending.Idle m;
      images = λ m. force.images Pending.Idle m;
      time = force.time;
      others = force.others;
      masters = force.masters;
      reads = λ d le. g.met.G.Rig.leaves_seen f.rig d le;
    } in
    let erred = c.if-is_err.ensures.value in
    let fails = was-err c.force_log.result _ erred force.failed in
    fall-due tell i spare k old s f h fits.0 fits.1 fails

pub log-requires : goal.log-requires
log-requires g c =
    let fits = c.requires.fits in
    let old = c.args.c.now in
    let rig = old.rig in
    let i : ℕ = c.args.i in
    let p : Parts = parts old in
    let low = c.keeps.ensures.low in
    let high = c.keeps.ensures.high in
    let tell = telling g.G.Rig.seen g.G.Rig.leaves g.G.Rig.moment g.G.Rig.since g.G.Rig.faults in
    let takes : TakesCheck (status_at p i) =
    subst TakesCheck c.status.ensures (c.takes_check.ensures.0 c.if-not-takes_check.false) in
    let end = c.in_ok-ending.ensures.may in
    let k : Begun = end.0 in
    let may : MayEnd i k p = end.1 in
    let y : Record = c.in_ok-ending.ending.1 in
    let rec : y ≡ end_record (next_lsn (log_at p i) 0) k = end.3
    ∙ ap (λ (n : ℕ). end_record n k) (begin-lsn i (g.G.Rig.seen rig) (g.G.Rig.leaves rig) p fits.0 fits.1 low high takes _ refl may.lsns) in
    let s = c.seal_check.new.c in
    let f = c.force_log.new.self in
    let seal = c.in_ok-seal_check.ensures in
    let force = c.force_log.ensures in
    let spare : ℕ = (log_at (parts s) i).spare in
    let h : HasForced tell i spare k old s f = record {
      low = low;
      high = high;
      was = may.begun;
      same = seal.rig;
      is = subst (λ (x : Record). parts s ≡ with_more i x spare p) rec seal.parts;
      good = λ m. seal.good Pending.Idle m;
      good_then = λ m. force.good Pending.Idle m;
      images = λ m. force.images Pending.Idle m;
      time = force.time;
      others = force.others;
      masters = force.masters;
      reads = λ d le. g.met.G.Rig.leaves_seen f.rig d le;
    } in
    (good-f tell i spare k old s f h fits.0 fits.1).shape

pub put_master-requires-clause-good : goal.put_master-requires-clause-good
put_master-requires-clause-good g c =
    let fits = c.requires.fits in
    let old = c.args.c.now in
    let rig = old.rig in
    let i : ℕ = c.args.i in
    let p : Parts = parts old in
    let low = c.keeps.ensures.low in
    let high = c.keeps.ensures.high in
    let tell = telling g.G.Rig.seen g.G.Rig.leaves g.G.Rig.moment g.G.Rig.since g.G.Rig.faults in
    let takes : TakesCheck (status_at p i) =
    subst TakesCheck c.status.ensures (c.takes_check.ensures.0 c.if-not-takes_check.false) in
    let end = c.in_ok-ending.ensures.may in
    let k : Begun = end.0 in
    let may : MayEnd i k p = end.1 in
    let y : Record = c.in_ok-ending.ending.1 in
    let rec : y ≡ end_record (next_lsn (log_at p i) 0) k = end.3
    ∙ ap (λ (n : ℕ). end_record n k) (begin-lsn i (g.G.Rig.seen rig) (g.G.Rig.leaves rig) p fits.0 fits.1 low high takes _ refl may.lsns) in
    let s = c.seal_check.new.c in
    let f = c.force_log.new.self in
    let seal = c.in_ok-seal_check.ensures in
    let force = c.force_log.ensures in
    let spare : ℕ = (log_at (parts s) i).spare in
    let h : HasForced tell i spare k old s f = record {
      low = low;
      high = high;
      was = may.begun;
      same = seal.rig;
      is = subst (λ (x : Record). parts s ≡ with_more i x spare p) rec seal.parts;
      good = λ m. seal.good Pending.Idle m;
      good_then = λ m. force.good Pending.Idle m;
      images = λ m. force.images Pending.Idle m;
      time = force.time;
      others = force.others;
      masters = force.masters;
      reads = λ d le. g.met.G.Rig.leaves_seen f.rig d le;
    } in
    (fits.0.scene.state, good-f tell i spare k old s f h fits.0 fits.1)

pub put_master-requires-clause-idle : goal.put_master-requires-clause-idle
put_master-requires-clause-idle g c =
    let fits = c.requires.fits in
    let old = c.args.c.now in
    let rig = old.rig in
    let i : ℕ = c.args.i in
    let p : Parts = parts old in
    let low = c.keeps.ensures.low in
    let high = c.keeps.ensures.high in
    let tell = telling g.G.Rig.seen g.G.Rig.leaves g.G.Rig.moment g.G.Rig.since g.G.Rig.faults in
    let takes : TakesCheck (status_at p i) =
    subst TakesCheck c.status.ensures (c.takes_check.ensures.0 c.if-not-takes_check.false) in
    let end = c.in_ok-ending.ensures.may in
    let k : Begun = end.0 in
    let may : MayEnd i k p = end.1 in
    let y : Record = c.in_ok-ending.ending.1 in
    let rec : y ≡ end_record (next_lsn (log_at p i) 0) k = end.3
    ∙ ap (λ (n : ℕ). end_record n k) (begin-lsn i (g.G.Rig.seen rig) (g.G.Rig.leaves rig) p fits.0 fits.1 low high takes _ refl may.lsns) in
    let s = c.seal_check.new.c in
    let f = c.force_log.new.self in
    let seal = c.in_ok-seal_check.ensures in
    let force = c.force_log.ensures in
    let spare : ℕ = (log_at (parts s) i).spare in
    let h : HasForced tell i spare k old s f = record {
      low = low;
      high = high;
      was = may.begun;
      same = seal.rig;
      is = subst (λ (x : Record). parts s ≡ with_more i x spare p) rec seal.parts;
      good = λ m. seal.good Pending.Idle m;
      good_then = λ m. force.good Pending.Idle m;
      images = λ m. force.images Pending.Idle m;
      time = force.time;
      others = force.others;
      masters = force.masters;
      reads = λ d le. g.met.G.Rig.leaves_seen f.rig d le;
    } in
    let ok = c.if-is_err.ensures.value in
    let settled = settled-s tell i spare k old s f h fits.0 fits.1 in
    let forces = not-err c.force_log.result _ ok (force.forced settled) in
    (fits-f tell i spare k old s f h fits.0 fits.1 forces reply.Did refl).idle

pub put_master-requires-clause-may : goal.put_master-requires-clause-may
put_master-requires-clause-may g c =
    let fits = c.requires.fits in
    let old = c.args.c.now in
    let rig = old.rig in
    let i : ℕ = c.args.i in
    let p : Parts = parts old in
    let low = c.keeps.ensures.low in
    let high = c.keeps.ensures.high in
    let tell = telling g.G.Rig.seen g.G.Rig.leaves g.G.Rig.moment g.G.Rig.since g.G.Rig.faults in
    let takes : TakesCheck (status_at p i) =
    subst TakesCheck c.status.ensures (c.takes_check.ensures.0 c.if-not-takes_check.false) in
    let end = c.in_ok-ending.ensures.may in
    let k : Begun = end.0 in
    let may : MayEnd i k p = end.1 in
    let y : Record = c.in_ok-ending.ending.1 in
    let rec : y ≡ end_record (next_lsn (log_at p i) 0) k = end.3
    ∙ ap (λ (n : ℕ). end_record n k) (begin-lsn i (g.G.Rig.seen rig) (g.G.Rig.leaves rig) p fits.0 fits.1 low high takes _ refl may.lsns) in
    let s = c.seal_check.new.c in
    let f = c.force_log.new.self in
    let seal = c.in_ok-seal_check.ensures in
    let force = c.force_log.ensures in
    let spare : ℕ = (log_at (parts s) i).spare in
    let h : HasForced tell i spare k old s f = record {
      low = low;
      high = high;
      was = may.begun;
      same = seal.rig;
      is = subst (λ (x : Record). parts s ≡ with_more i x spare p) rec seal.parts;
      good = λ m. seal.good Pending.Idle m;
      good_then = λ m. force.good Pending.Idle m;
      images = λ m. force.images Pending.Idle m;
      time = force.time;
      others = force.others;
      masters = force.masters;
      reads = λ d le. g.met.G.Rig.leaves_seen f.rig d le;
    } in
    let ok = c.if-is_err.ensures.value in
    let settled = settled-s tell i spare k old s f h fits.0 fits.1 in
    let forces = not-err c.force_log.result _ ok (force.forced settled) in
    let place : IsStartFor (low_of k) (log_at (parts f) i).groups (log_at (parts f) i).gate c.start_for-start.result =
    subst (λ (l : LogState). IsStartFor (low_of k) l.groups l.gate c.start_for-start.result) c.log.ensures
    (subst (λ (n : ℕ). IsStartFor n c.log.result.now.groups c.log.result.now.gate c.start_for-start.result) end.2 c.start_for-start.ensures.exact) in
    let lsn : c.lsn-lsn.result ≡ next_lsn (log_at p i) 0 = c.lsn-lsn.ensures ∙ ap lsn_of rec in
    let owes : ℕ = owed_at (parts f) i in
    let there = done-is tell i spare k old s f h fits.0 fits.1 forces in
    let fit = fits-f tell i spare k old s f h fits.0 fits.1 forces reply.Did refl in
    let alive = rows-open i (g.G.Rig.seen f.rig) (g.G.Rig.leaves f.rig) (parts f) (counted_core i reply.Did fits.0) fit low high
    (subst (λ (q : Parts). TakesCheck (status_at q i)) (sym there) takes) in
    let mays : MayPutMaster i c.lsn-lsn.result c.start_for-start.result (parts f) =
    subst (λ (n : ℕ). MayPutMaster i n c.start_for-start.result (parts f)) (sym lsn)
    (may-put i spare owes k p (parts f) low high fits.1.good.shape there c.start_for-start.result
    (ap (λ (q : Parts). is_loose q i) (sym h.is) ∙ settled) takes may place alive) in
    mays

pub returns-then-not-takes_check-clause-served : goal.returns-then-not-takes_check-clause-served
returns-then-not-takes_check-clause-served g c =
    let old = c.args.c.now in
    let rig = old.rig in
    let i : ℕ = c.args.i in
    let low = c.keeps.ensures.low in
    let high = c.keeps.ensures.high in
    let tell = telling g.G.Rig.seen g.G.Rig.leaves g.G.Rig.moment g.G.Rig.since g.G.Rig.faults in
    end-down tell old old i low high refl refl (λ img since. g.met.G.Rig.only_now rig img since)
    (λ takes. let yes = c.takes_check.ensures.1 (subst TakesCheck (sym c.status.ensures) takes) in
    let clash : true ≡ false = sym yes ∙ c.if-not-takes_check.true in absurd (cc))

pub returns-in_err-ending-clause-served : goal.returns-in_err-ending-clause-served
returns-in_err-ending-clause-served g c =
    let old = c.args.c.now in
    let rig = old.rig in
    let i : ℕ = c.args.i in
    let p : Parts = parts old in
    let low = c.keeps.ensures.low in
    let high = c.keeps.ensures.high in
    let tell = telling g.G.Rig.seen g.G.Rig.leaves g.G.Rig.moment g.G.Rig.since g.G.Rig.faults in
    let takes : TakesCheck (status_at p i) =
    subst TakesCheck c.status.ensures (c.takes_check.ensures.0 c.if-not-takes_check.false) in
    let q = err_from_is_err_and c.from_residual.result c.from_residual.ensures.1 in
    subst (λ (r : Result (Unit {0}) Refusal). Serving tell (CheckEnd i) (did r) old old)
    (sym (q.1 ∙ ap (λ (n : Refusal). Err n) q.2))
    (end-refused tell old old i low high refl refl (λ img since. g.met.G.Rig.only_now rig img since) takes
    c.in_err-ending.field-0.0 c.in_err-ending.ensures.refused)

pub returns-in_err-seal_check-clause-served : goal.returns-in_err-seal_check-clause-served
returns-in_err-seal_check-clause-served g c =
    let fits = c.requires.fits in
    let old = c.args.c.now in
    let rig = old.rig in
    let i : ℕ = c.args.i in
    let p : Parts = parts old in
    let low = c.keeps.ensures.low in
    let high = c.keeps.ensures.high in
    let tell = telling g.G.Rig.seen g.G.Rig.leaves g.G.Rig.moment g.G.Rig.since g.G.Rig.faults in
    let takes : TakesCheck (status_at p i) =
    subst TakesCheck c.status.ensures (c.takes_check.ensures.0 c.if-not-takes_check.false) in
    let end = c.in_ok-ending.ensures.may in
    let k : Begun = end.0 in
    let may : MayEnd i k p = end.1 in
    let y : Record = c.in_ok-ending.ending.1 in
    let rec : y ≡ end_record (next_lsn (log_at p i) 0) k = end.3
    ∙ ap (λ (n : ℕ). end_record n k) (begin-lsn i (g.G.Rig.seen rig) (g.G.Rig.leaves rig) p fits.0 fits.1 low high takes _ refl may.lsns) in
    let q = err_from_is_err_and c.from_residual-in_err-seal_check.result c.from_residual-in_err-seal_check.ensures.1 in
    let seal = c.in_err-seal_check.ensures in
    let len : (n : ℕ) → NoRoomFor i (length (spelling y)) p → NoRoomFor i (end_len k) p = λ n none.
    subst (λ (x : ℕ). NoRoomFor i x p) (ap (λ (x : Record). length (spelling x)) rec ∙ length-spelling (end_record (next_lsn (log_at p i) 0) k)) none in
    let memory : c.in_err-seal_check.field-0.0 ≡ R.Memory = ⊎_elim
    (λ e. absurd (may.room (len 0 (seal.full.0 (ap (λ (n : Refusal). Err n) e)))))
    (λ rest. ⊎_elim (λ e. absurd (may.lsns (seal.lsns.0 (ap (λ (n : Refusal). Err n) e)).1)) (λ e. e) rest) seal.refusals in
    let is : c.from_residual-in_err-seal_check.result ≡ Err R.Memory = q.1 ∙ ap (λ (n : Refusal). Err n) (q.2 ∙ memory) in
    subst (λ (r : Result (Unit {0}) Refusal). Serving tell (CheckEnd i) (did r) old c.seal_check.new.c) (sym is)
    (check-short tell old c.seal_check.new.c seal.rig seal.stays (λ img since. g.met.G.Rig.only_now rig img since) (CheckEnd i))

pub returns-then-is_err-clause-served : goal.returns-then-is_err-clause-served
returns-then-is_err-clause-served g c =
    let fits = c.requires.fits in
    let old = c.args.c.now in
    let rig = old.rig in
    let i : ℕ = c.args.i in
    let p : Parts = parts old in
    let low = c.keeps.ensures.low in
    let high = c.keeps.ensures.high in
    let tell = telling g.G.Rig.seen g.G.Rig.leaves g.G.Rig.moment g.G.Rig.since g.G.Rig.faults in
    let takes : TakesCheck (status_at p i) =
    subst TakesCheck c.status.ensures (c.takes_check.ensures.0 c.if-not-takes_check.false) in
    let end = c.in_ok-ending.ensures.may in
    let k : Begun = end.0 in
    let may : MayEnd i k p = end.1 in
    let y : Record = c.in_ok-ending.ending.1 in
    let rec : y ≡ end_record (next_lsn (log_at p i) 0) k = end.3
    ∙ ap (λ (n : ℕ). end_record n k) (begin-lsn i (g.G.Rig.seen rig) (g.G.Rig.leaves rig) p fits.0 fits.1 low high takes _ refl may.lsns) in
    let s = c.seal_check.new.c in
    let f = c.force_log.new.self in
    let seal = c.in_ok-seal_check.ensures in
    let force = c.force_log.ensures in
    let spare : ℕ = (log_at (parts s) i).spare in
    let h : HasForced tell i spare k old s f = record {
      low = low;
      high = high;
      was = may.begun;
      same = seal.rig;
      is = subst (λ (x : Record). parts s ≡ with_more i x spare p) rec seal.parts;
      good = λ m. seal.good Pending.Idle m;
      good_then = λ m. force.good Pending.Idle m;
      images = λ m. force.images Pending.Idle m;
      time = force.time;
      others = force.others;
      masters = force.masters;
      reads = λ d le. g.met.G.Rig.leaves_seen f.rig d le;
    } in
    let erred = c.if-is_err.ensures.value in
    let fails = was-err c.force_log.result _ erred force.failed in
    let n = c.down.new.c in
    let fell = c.down.ensures in (
      λ w fit. fails-force tell i spare k old s f h w fit n fails fell.rig fell.parts fell.fallen fell.good,
      subst (λ (x : ℕ). Rises (tell.faults rig) x) (sym (ap tell.faults fell.rig))
          (subst (λ (x : ℕ). Rises x (tell.faults f.rig)) (ap tell.faults seal.rig)
          (was-err c.force_log.result _ erred force.cause)),
    )

pub returns-in-Ok-clause-served : goal.returns-in-Ok-clause-served
returns-in-Ok-clause-served g c =
    let fits = c.requires.fits in
    let old = c.args.c.now in
    let rig = old.rig in
    let i : ℕ = c.args.i in
    let p : Parts = parts old in
    let low = c.keeps.ensures.low in
    let high = c.keeps.ensures.high in
    let tell = telling g.G.Rig.seen g.G.Rig.leaves g.G.Rig.moment g.G.Rig.since g.G.Rig.faults in
    let takes : TakesCheck (status_at p i) =
    subst TakesCheck c.status.ensures (c.takes_check.ensures.0 c.if-not-takes_check.false) in
    let end = c.in_ok-ending.ensures.may in
    let k : Begun = end.0 in
    let may : MayEnd i k p = end.1 in
    let y : Record = c.in_ok-ending.ending.1 in
    let rec : y ≡ end_record (next_lsn (log_at p i) 0) k = end.3
    ∙ ap (λ (n : ℕ). end_record n k) (begin-lsn i (g.G.Rig.seen rig) (g.G.Rig.leaves rig) p fits.0 fits.1 low high takes _ refl may.lsns) in
    let s = c.seal_check.new.c in
    let f = c.force_log.new.self in
    let seal = c.in_ok-seal_check.ensures in
    let force = c.force_log.ensures in
    let spare : ℕ = (log_at (parts s) i).spare in
    let h : HasForced tell i spare k old s f = record {
      low = low;
      high = high;
      was = may.begun;
      same = seal.rig;
      is = subst (λ (x : Record). parts s ≡ with_more i x spare p) rec seal.parts;
      good = λ m. seal.good Pending.Idle m;
      good_then = λ m. force.good Pending.Idle m;
      images = λ m. force.images Pending.Idle m;
      time = force.time;
      others = force.others;
      masters = force.masters;
      reads = λ d le. g.met.G.Rig.leaves_seen f.rig d le;
    } in
    let ok = c.if-is_err.ensures.value in
    let settled = settled-s tell i spare k old s f h fits.0 fits.1 in
    let forces = not-err c.force_log.result _ ok (force.forced settled) in
    let place : IsStartFor (low_of k) (log_at (parts f) i).groups (log_at (parts f) i).gate c.start_for-start.result =
    subst (λ (l : LogState). IsStartFor (low_of k) l.groups l.gate c.start_for-start.result) c.log.ensures
    (subst (λ (n : ℕ). IsStartFor n c.log.result.now.groups c.log.result.now.gate c.start_for-start.result) end.2 c.start_for-start.ensures.exact) in
    let lsn : c.lsn-lsn.result ≡ next_lsn (log_at p i) 0 = c.lsn-lsn.ensures ∙ ap lsn_of rec in
    let owes : ℕ = owed_at (parts f) i in
    let there = done-is tell i spare k old s f h fits.0 fits.1 forces in
    let fit = fits-f tell i spare k old s f h fits.0 fits.1 forces reply.Did refl in
    let alive = rows-open i (g.G.Rig.seen f.rig) (g.G.Rig.leaves f.rig) (parts f) (counted_core i reply.Did fits.0) fit low high
    (subst (λ (q : Parts). TakesCheck (status_at q i)) (sym there) takes) in
    let mays : MayPutMaster i c.lsn-lsn.result c.start_for-start.result (parts f) =
    subst (λ (n : ℕ). MayPutMaster i n c.start_for-start.result (parts f)) (sym lsn)
    (may-put i spare owes k p (parts f) low high fits.1.good.shape there c.start_for-start.result
    (ap (λ (q : Parts). is_loose q i) (sym h.is) ∙ settled) takes may place alive) in
    let n = c.put_master.new.c in
    let put = c.put_master.ensures in
    let earlier : (t u : ℕ) (img : DeviceImages) → t ≤ u → tell.since n.rig u img → tell.since n.rig t img =
    λ t u img le since. g.met.G.Rig.earlier n.rig t u img le since in
    let quiet : tell.faults f.rig ≡ tell.faults rig = not-err c.force_log.result _ ok force.quiet ∙ ap tell.faults seal.rig in
    let done = c.in-Ok.ensures in (
      λ w fit. ends tell i spare k old s f h w fit forces c.lsn-lsn.result c.start_for-start.result mays n earlier put.images put.time put.left put.others_leave done.put done.master done.alike (put.good (λ e. absurd (cc))),
      done.quiet ∙ quiet,
    )

pub returns-in-Err-Unread-clause-served : goal.returns-in-Err-Unread-clause-served
returns-in-Err-Unread-clause-served g c =
    let fits = c.requires.fits in
    let old = c.args.c.now in
    let rig = old.rig in
    let i : ℕ = c.args.i in
    let p : Parts = parts old in
    let low = c.keeps.ensures.low in
    let high = c.keeps.ensures.high in
    let tell = telling g.G.Rig.seen g.G.Rig.leaves g.G.Rig.moment g.G.Rig.since g.G.Rig.faults in
    let takes : TakesCheck (status_at p i) =
    subst TakesCheck c.status.ensures (c.takes_check.ensures.0 c.if-not-takes_check.false) in
    let end = c.in_ok-ending.ensures.may in
    let k : Begun = end.0 in
    let may : MayEnd i k p = end.1 in
    let y : Record = c.in_ok-ending.ending.1 in
    let rec : y ≡ end_record (next_lsn (log_at p i) 0) k = end.3
    ∙ ap (λ (n : ℕ). end_record n k) (begin-lsn i (g.G.Rig.seen rig) (g.G.Rig.leaves rig) p fits.0 fits.1 low high takes _ refl may.lsns) in
    let s = c.seal_check.new.c in
    let f = c.force_log.new.self in
    let seal = c.in_ok-seal_check.ensures in
    let force = c.force_log.ensures in
    let spare : ℕ = (log_at (parts s) i).spare in
    let h : HasForced tell i spare k old s f = record {
      low = low;
      high = high;
      was = may.begun;
      same = seal.rig;
      is = subst (λ (x : Record). parts s ≡ with_more i x spare p) rec seal.parts;
      good = λ m. seal.good Pending.Idle m;
      good_then = λ m. force.good Pending.Idle m;
      images = λ m. force.images Pending.Idle m;
      time = force.time;
      others = force.others;
      masters = force.masters;
      reads = λ d le. g.met.G.Rig.leaves_seen f.rig d le;
    } in
    let ok = c.if-is_err.ensures.value in
    let settled = settled-s tell i spare k old s f h fits.0 fits.1 in
    let forces = not-err c.force_log.result _ ok (force.forced settled) in
    let place : IsStartFor (low_of k) (log_at (parts f) i).groups (log_at (parts f) i).gate c.start_for-start.result =
    subst (λ (l : LogState). IsStartFor (low_of k) l.groups l.gate c.start_for-start.result) c.log.ensures
    (subst (λ (n : ℕ). IsStartFor n c.log.result.now.groups c.log.result.now.gate c.start_for-start.result) end.2 c.start_for-start.ensures.exact) in
    let lsn : c.lsn-lsn.result ≡ next_lsn (log_at p i) 0 = c.lsn-lsn.ensures ∙ ap lsn_of rec in
    let owes : ℕ = owed_at (parts f) i in
    let there = done-is tell i spare k old s f h fits.0 fits.1 forces in
    let fit = fits-f tell i spare k old s f h fits.0 fits.1 forces reply.Did refl in
    let alive = rows-open i (g.G.Rig.seen f.rig) (g.G.Rig.leaves f.rig) (parts f) (counted_core i reply.Did fits.0) fit low high
    (subst (λ (q : Parts). TakesCheck (status_at q i)) (sym there) takes) in
    let mays : MayPutMaster i c.lsn-lsn.result c.start_for-start.result (parts f) =
    subst (λ (n : ℕ). MayPutMaster i n c.start_for-start.result (parts f)) (sym lsn)
    (may-put i spare owes k p (parts f) low high fits.1.good.shape there c.start_for-start.result
    (ap (λ (q : Parts). is_loose q i) (sym h.is) ∙ settled) takes may place alive) in
    let n = c.put_master.new.c in
    let put = c.put_master.ensures in
    let earlier : (t u : ℕ) (img : DeviceImages) → t ≤ u → tell.since n.rig u img → tell.since n.rig t img =
    λ t u img le since. g.met.G.Rig.earlier n.rig t u img le since in
    let quiet : tell.faults f.rig ≡ tell.faults rig = not-err c.force_log.result _ ok force.quiet ∙ ap tell.faults seal.rig in
    let unread = put.unread (c.in-Err-Unread.is ∙ ap (λ (x : NotPut). Err x) c.in-Err-Unread.field-0-is) in (
      λ w fit. fails-read tell i spare k old s f h w fit forces c.lsn-lsn.result c.start_for-start.result mays n earlier put.images put.time put.left put.others_leave unread.0 (unread.1 0)
          (put.good (λ e. absurd (cc)) w.scene.state (good-f tell i spare k old s f h w fit)),
      subst (λ (x : ℕ). Rises x (tell.faults n.rig)) quiet c.in-Err-Unread.ensures.cause,
    )

pub returns-in-Err-Unwritten-clause-served : goal.returns-in-Err-Unwritten-clause-served
returns-in-Err-Unwritten-clause-served g c =
    let fits = c.requires.fits in
    let old = c.args.c.now in
    let rig = old.rig in
    let i : ℕ = c.args.i in
    let p : Parts = parts old in
    let low = c.keeps.ensures.low in
    let high = c.keeps.ensures.high in
    let tell = telling g.G.Rig.seen g.G.Rig.leaves g.G.Rig.moment g.G.Rig.since g.G.Rig.faults in
    let takes : TakesCheck (status_at p i) =
    subst TakesCheck c.status.ensures (c.takes_check.ensures.0 c.if-not-takes_check.false) in
    let end = c.in_ok-ending.ensures.may in
    let k : Begun = end.0 in
    let may : MayEnd i k p = end.1 in
    let y : Record = c.in_ok-ending.ending.1 in
    let rec : y ≡ end_record (next_lsn (log_at p i) 0) k = end.3
    ∙ ap (λ (n : ℕ). end_record n k) (begin-lsn i (g.G.Rig.seen rig) (g.G.Rig.leaves rig) p fits.0 fits.1 low high takes _ refl may.lsns) in
    let s = c.seal_check.new.c in
    let f = c.force_log.new.self in
    let seal = c.in_ok-seal_check.ensures in
    let force = c.force_log.ensures in
    let spare : ℕ = (log_at (parts s) i).spare in
    let h : HasForced tell i spare k old s f = record {
      low = low;
      high = high;
      was = may.begun;
      same = seal.rig;
      is = subst (λ (x : Record). parts s ≡ with_more i x spare p) rec seal.parts;
      good = λ m. seal.good Pending.Idle m;
      good_then = λ m. force.good Pending.Idle m;
      images = λ m. force.images Pending.Idle m;
      time = force.time;
      others = force.others;
      masters = force.masters;
      reads = λ d le. g.met.G.Rig.leaves_seen f.rig d le;
    } in
    let ok = c.if-is_err.ensures.value in
    let settled = settled-s tell i spare k old s f h fits.0 fits.1 in
    let forces = not-err c.force_log.result _ ok (force.forced settled) in
    let place : IsStartFor (low_of k) (log_at (parts f) i).groups (log_at (parts f) i).gate c.start_for-start.result =
    subst (λ (l : LogState). IsStartFor (low_of k) l.groups l.gate c.start_for-start.result) c.log.ensures
    (subst (λ (n : ℕ). IsStartFor n c.log.result.now.groups c.log.result.now.gate c.start_for-start.result) end.2 c.start_for-start.ensures.exact) in
    let lsn : c.lsn-lsn.result ≡ next_lsn (log_at p i) 0 = c.lsn-lsn.ensures ∙ ap lsn_of rec in
    let owes : ℕ = owed_at (parts f) i in
    let there = done-is tell i spare k old s f h fits.0 fits.1 forces in
    let fit = fits-f tell i spare k old s f h fits.0 fits.1 forces reply.Did refl in
    let alive = rows-open i (g.G.Rig.seen f.rig) (g.G.Rig.leaves f.rig) (parts f) (counted_core i reply.Did fits.0) fit low high
    (subst (λ (q : Parts). TakesCheck (status_at q i)) (sym there) takes) in
    let mays : MayPutMaster i c.lsn-lsn.result c.start_for-start.result (parts f) =
    subst (λ (n : ℕ). MayPutMaster i n c.start_for-start.result (parts f)) (sym lsn)
    (may-put i spare owes k p (parts f) low high fits.1.good.shape there c.start_for-start.result
    (ap (λ (q : Parts). is_loose q i) (sym h.is) ∙ settled) takes may place alive) in
    let n = c.put_master.new.c in
    let put = c.put_master.ensures in
    let earlier : (t u : ℕ) (img : DeviceImages) → t ≤ u → tell.since n.rig u img → tell.since n.rig t img =
    λ t u img le since. g.met.G.Rig.earlier n.rig t u img le since in
    let quiet : tell.faults f.rig ≡ tell.faults rig = not-err c.force_log.result _ ok force.quiet ∙ ap tell.faults seal.rig in
    let is = c.in-Err-Unwritten.is ∙ ap (λ (x : NotPut). Err x) c.in-Err-Unwritten.field-0-is in (
      λ w fit. fails-put tell i spare k old s f h w fit forces c.lsn-lsn.result c.start_for-start.result mays n earlier put.images put.time put.left put.others_leave
          (put.others 0 (λ e. absurd (omega (arith, low, e)))) (put.fallen is) (put.falls is)
          (put.good_either is w.scene.state (good-f tell i spare k old s f h w fit))
          (put.good_fallen is w.scene.state (good-f tell i spare k old s f h w fit)) (put.alike_either is),
      subst (λ (x : ℕ). Rises x (tell.faults n.rig)) quiet c.in-Err-Unwritten.ensures.cause,
    )

pub returns-in-Ok-clause-moved : goal.returns-in-Ok-clause-moved
returns-in-Ok-clause-moved g c =
    let fits = c.requires.fits in
    let old = c.args.c.now in
    let rig = old.rig in
    let i : ℕ = c.args.i in
    let p : Parts = parts old in
    let low = c.keeps.ensures.low in
    let high = c.keeps.ensures.high in
    let tell = telling g.G.Rig.seen g.G.Rig.leaves g.G.Rig.moment g.G.Rig.since g.G.Rig.faults in
    let takes : TakesCheck (status_at p i) =
    subst TakesCheck c.status.ensures (c.takes_check.ensures.0 c.if-not-takes_check.false) in
    let end = c.in_ok-ending.ensures.may in
    let k : Begun = end.0 in
    let may : MayEnd i k p = end.1 in
    let y : Record = c.in_ok-ending.ending.1 in
    let rec : y ≡ end_record (next_lsn (log_at p i) 0) k = end.3
    ∙ ap (λ (n : ℕ). end_record n k) (begin-lsn i (g.G.Rig.seen rig) (g.G.Rig.leaves rig) p fits.0 fits.1 low high takes _ refl may.lsns) in
    let s = c.seal_check.new.c in
    let f = c.force_log.new.self in
    let seal = c.in_ok-seal_check.ensures in
    let force = c.force_log.ensures in
    let spare : ℕ = (log_at (parts s) i).spare in
    let h : HasForced tell i spare k old s f = record {
      low = low;
      high = high;
      was = may.begun;
      same = seal.rig;
      is = subst (λ (x : Record). parts s ≡ with_more i x spare p) rec seal.parts;
      good = λ m. seal.good Pending.Idle m;
      good_then = λ m. force.good Pending.Idle m;
      images = λ m. force.images Pending.Idle m;
      time = force.time;
      others = force.others;
      masters = force.masters;
      reads = λ d le. g.met.G.Rig.leaves_seen f.rig d le;
    } in
    let ok = c.if-is_err.ensures.value in
    let settled = settled-s tell i spare k old s f h fits.0 fits.1 in
    let forces = not-err c.force_log.result _ ok (force.forced settled) in
    let place : IsStartFor (low_of k) (log_at (parts f) i).groups (log_at (parts f) i).gate c.start_for-start.result =
    subst (λ (l : LogState). IsStartFor (low_of k) l.groups l.gate c.start_for-start.result) c.log.ensures
    (subst (λ (n : ℕ). IsStartFor n c.log.result.now.groups c.log.result.now.gate c.start_for-start.result) end.2 c.start_for-start.ensures.exact) in
    let lsn : c.lsn-lsn.result ≡ next_lsn (log_at p i) 0 = c.lsn-lsn.ensures ∙ ap lsn_of rec in
    let owes : ℕ = owed_at (parts f) i in
    let there = done-is tell i spare k old s f h fits.0 fits.1 forces in
    let fit = fits-f tell i spare k old s f h fits.0 fits.1 forces reply.Did refl in
    let alive = rows-open i (g.G.Rig.seen f.rig) (g.G.Rig.leaves f.rig) (parts f) (counted_core i reply.Did fits.0) fit low high
    (subst (λ (q : Parts). TakesCheck (status_at q i)) (sym there) takes) in
    let mays : MayPutMaster i c.lsn-lsn.result c.start_for-start.result (parts f) =
    subst (λ (n : ℕ). MayPutMaster i n c.start_for-start.result (parts f)) (sym lsn)
    (may-put i spare owes k p (parts f) low high fits.1.good.shape there c.start_for-start.result
    (ap (λ (q : Parts). is_loose q i) (sym h.is) ∙ settled) takes may place alive) in
    let n = c.put_master.new.c in
    let put = c.put_master.ensures in
    let earlier : (t u : ℕ) (img : DeviceImages) → t ≤ u → tell.since n.rig u img → tell.since n.rig t img =
    λ t u img le since. g.met.G.Rig.earlier n.rig t u img le since in
    let done = c.in-Ok.ensures in
    has-ended tell i spare k old s f h fits.0 fits.1 forces c.lsn-lsn.result c.start_for-start.result mays n earlier put.images put.time put.left put.others_leave lsn place done.put done.master done.alike

pub returns-then-not-takes_check-clause-down : goal.returns-then-not-takes_check-clause-down
returns-then-not-takes_check-clause-down g c =
    let fits = c.requires.fits in
    let old = c.args.c.now in
    let i : ℕ = c.args.i in
    let p : Parts = parts old in
    let out : TakesCheck (status_at p i) → ⊥ = (λ takes.
    let yes = c.takes_check.ensures.1 (subst TakesCheck (sym c.status.ensures) takes) in
    let clash : true ≡ false = sym yes ∙ c.if-not-takes_check.true in absurd (cc)) in
    (exact-down i p out (λ k is. (fits.1.good.checking i k is).takes)).down

pub returns-in_err-ending-clause-down : goal.returns-in_err-ending-clause-down
returns-in_err-ending-clause-down g c =
    let old = c.args.c.now in
    let i : ℕ = c.args.i in
    let p : Parts = parts old in
    let takes : TakesCheck (status_at p i) =
    subst TakesCheck c.status.ensures (c.takes_check.ensures.0 c.if-not-takes_check.false) in
    let q = err_from_is_err_and c.from_residual.result c.from_residual.ensures.1 in
    (subst (IsExactly i p) (sym (q.1 ∙ ap (λ (n : Refusal). Err n) q.2))
    (exact-unended i p takes c.in_err-ending.field-0.0 c.in_err-ending.ensures.refused)).down

pub returns-in_err-seal_check-clause-down : goal.returns-in_err-seal_check-clause-down
returns-in_err-seal_check-clause-down g c =
    let fits = c.requires.fits in
    let old = c.args.c.now in
    let rig = old.rig in
    let i : ℕ = c.args.i in
    let p : Parts = parts old in
    let low = c.keeps.ensures.low in
    let high = c.keeps.ensures.high in
    let takes : TakesCheck (status_at p i) =
    subst TakesCheck c.status.ensures (c.takes_check.ensures.0 c.if-not-takes_check.false) in
    let end = c.in_ok-ending.ensures.may in
    let k : Begun = end.0 in
    let may : MayEnd i k p = end.1 in
    let y : Record = c.in_ok-ending.ending.1 in
    let rec : y ≡ end_record (next_lsn (log_at p i) 0) k = end.3
    ∙ ap (λ (n : ℕ). end_record n k) (begin-lsn i (g.G.Rig.seen rig) (g.G.Rig.leaves rig) p fits.0 fits.1 low high takes _ refl may.lsns) in
    let q = err_from_is_err_and c.from_residual-in_err-seal_check.result c.from_residual-in_err-seal_check.ensures.1 in
    let seal = c.in_err-seal_check.ensures in
    let len : (n : ℕ) → NoRoomFor i (length (spelling y)) p → NoRoomFor i (end_len k) p = λ n none.
    subst (λ (x : ℕ). NoRoomFor i x p) (ap (λ (x : Record). length (spelling x)) rec ∙ length-spelling (end_record (next_lsn (log_at p i) 0) k)) none in
    let memory : c.in_err-seal_check.field-0.0 ≡ R.Memory = ⊎_elim
    (λ e. absurd (may.room (len 0 (seal.full.0 (ap (λ (n : Refusal). Err n) e)))))
    (λ rest. ⊎_elim (λ e. absurd (may.lsns (seal.lsns.0 (ap (λ (n : Refusal). Err n) e)).1)) (λ e. e) rest) seal.refusals in
    let is : c.from_residual-in_err-seal_check.result ≡ Err R.Memory = q.1 ∙ ap (λ (n : Refusal). Err n) (q.2 ∙ memory) in
    (subst (IsExactly i p) (sym is) (exact-may i p takes k may (Err R.Memory) (λ n e. let here : R.Memory ≡ n = cc in inl (sym here)))).down

pub returns-then-is_err-clause-down : goal.returns-then-is_err-clause-down
returns-then-is_err-clause-down g c =
    let old = c.args.c.now in
    let i : ℕ = c.args.i in
    let p : Parts = parts old in
    let takes : TakesCheck (status_at p i) =
    subst TakesCheck c.status.ensures (c.takes_check.ensures.0 c.if-not-takes_check.false) in
    let end = c.in_ok-ending.ensures.may in
    let k : Begun = end.0 in
    let may : MayEnd i k p = end.1 in
    (exact-may i p takes k may (Err R.Failed) (λ n e. let here : R.Failed ≡ n = cc in inr (sym here))).down

pub returns-in-Err-Unread-clause-down : goal.returns-in-Err-Unread-clause-down
returns-in-Err-Unread-clause-down g c =
    let old = c.args.c.now in
    let i : ℕ = c.args.i in
    let p : Parts = parts old in
    let takes : TakesCheck (status_at p i) =
    subst TakesCheck c.status.ensures (c.takes_check.ensures.0 c.if-not-takes_check.false) in
    let end = c.in_ok-ending.ensures.may in
    let k : Begun = end.0 in
    let may : MayEnd i k p = end.1 in
    (exact-may i p takes k may (Err R.Failed) (λ n e. let here : R.Failed ≡ n = cc in inr (sym here))).down

pub returns-in-Err-Unwritten-clause-down : goal.returns-in-Err-Unwritten-clause-down
returns-in-Err-Unwritten-clause-down g c =
    let old = c.args.c.now in
    let i : ℕ = c.args.i in
    let p : Parts = parts old in
    let takes : TakesCheck (status_at p i) =
    subst TakesCheck c.status.ensures (c.takes_check.ensures.0 c.if-not-takes_check.false) in
    let end = c.in_ok-ending.ensures.may in
    let k : Begun = end.0 in
    let may : MayEnd i k p = end.1 in
    (exact-may i p takes k may (Err R.Failed) (λ n e. let here : R.Failed ≡ n = cc in inr (sym here))).down

pub returns-in-Ok-clause-down : goal.returns-in-Ok-clause-down
returns-in-Ok-clause-down g c =
    let old = c.args.c.now in
    let i : ℕ = c.args.i in
    let p : Parts = parts old in
    let takes : TakesCheck (status_at p i) =
    subst TakesCheck c.status.ensures (c.takes_check.ensures.0 c.if-not-takes_check.false) in
    let end = c.in_ok-ending.ensures.may in
    let k : Begun = end.0 in
    let may : MayEnd i k p = end.1 in
    (exact-may i p takes k may (Ok tt) (λ n e. absurd (cc))).down

pub returns-then-not-takes_check-clause-none : goal.returns-then-not-takes_check-clause-none
returns-then-not-takes_check-clause-none g c =
    let fits = c.requires.fits in
    let old = c.args.c.now in
    let i : ℕ = c.args.i in
    let p : Parts = parts old in
    let out : TakesCheck (status_at p i) → ⊥ = (λ takes.
    let yes = c.takes_check.ensures.1 (subst TakesCheck (sym c.status.ensures) takes) in
    let clash : true ≡ false = sym yes ∙ c.if-not-takes_check.true in absurd (cc)) in
    (exact-down i p out (λ k is. (fits.1.good.checking i k is).takes)).none

pub returns-in_err-ending-clause-none : goal.returns-in_err-ending-clause-none
returns-in_err-ending-clause-none g c =
    let old = c.args.c.now in
    let i : ℕ = c.args.i in
    let p : Parts = parts old in
    let takes : TakesCheck (status_at p i) =
    subst TakesCheck c.status.ensures (c.takes_check.ensures.0 c.if-not-takes_check.false) in
    let q = err_from_is_err_and c.from_residual.result c.from_residual.ensures.1 in
    (subst (IsExactly i p) (sym (q.1 ∙ ap (λ (n : Refusal). Err n) q.2))
    (exact-unended i p takes c.in_err-ending.field-0.0 c.in_err-ending.ensures.refused)).none

pub returns-in_err-seal_check-clause-none : goal.returns-in_err-seal_check-clause-none
returns-in_err-seal_check-clause-none g c =
    let fits = c.requires.fits in
    let old = c.args.c.now in
    let rig = old.rig in
    let i : ℕ = c.args.i in
    let p : Parts = parts old in
    let low = c.keeps.ensures.low in
    let high = c.keeps.ensures.high in
    let takes : TakesCheck (status_at p i) =
    subst TakesCheck c.status.ensures (c.takes_check.ensures.0 c.if-not-takes_check.false) in
    let end = c.in_ok-ending.ensures.may in
    let k : Begun = end.0 in
    let may : MayEnd i k p = end.1 in
    let y : Record = c.in_ok-ending.ending.1 in
    let rec : y ≡ end_record (next_lsn (log_at p i) 0) k = end.3
    ∙ ap (λ (n : ℕ). end_record n k) (begin-lsn i (g.G.Rig.seen rig) (g.G.Rig.leaves rig) p fits.0 fits.1 low high takes _ refl may.lsns) in
    let q = err_from_is_err_and c.from_residual-in_err-seal_check.result c.from_residual-in_err-seal_check.ensures.1 in
    let seal = c.in_err-seal_check.ensures in
    let len : (n : ℕ) → NoRoomFor i (length (spelling y)) p → NoRoomFor i (end_len k) p = λ n none.
    subst (λ (x : ℕ). NoRoomFor i x p) (ap (λ (x : Record). length (spelling x)) rec ∙ length-spelling (end_record (next_lsn (log_at p i) 0) k)) none in
    let memory : c.in_err-seal_check.field-0.0 ≡ R.Memory = ⊎_elim
    (λ e. absurd (may.room (len 0 (seal.full.0 (ap (λ (n : Refusal). Err n) e)))))
    (λ rest. ⊎_elim (λ e. absurd (may.lsns (seal.lsns.0 (ap (λ (n : Refusal). Err n) e)).1)) (λ e. e) rest) seal.refusals in
    let is : c.from_residual-in_err-seal_check.result ≡ Err R.Memory = q.1 ∙ ap (λ (n : Refusal). Err n) (q.2 ∙ memory) in
    (subst (IsExactly i p) (sym is) (exact-may i p takes k may (Err R.Memory) (λ n e. let here : R.Memory ≡ n = cc in inl (sym here)))).none

pub returns-then-is_err-clause-none : goal.returns-then-is_err-clause-none
returns-then-is_err-clause-none g c =
    let old = c.args.c.now in
    let i : ℕ = c.args.i in
    let p : Parts = parts old in
    let takes : TakesCheck (status_at p i) =
    subst TakesCheck c.status.ensures (c.takes_check.ensures.0 c.if-not-takes_check.false) in
    let end = c.in_ok-ending.ensures.may in
    let k : Begun = end.0 in
    let may : MayEnd i k p = end.1 in
    (exact-may i p takes k may (Err R.Failed) (λ n e. let here : R.Failed ≡ n = cc in inr (sym here))).none

pub returns-in-Err-Unread-clause-none : goal.returns-in-Err-Unread-clause-none
returns-in-Err-Unread-clause-none g c =
    let old = c.args.c.now in
    let i : ℕ = c.args.i in
    let p : Parts = parts old in
    let takes : TakesCheck (status_at p i) =
    subst TakesCheck c.status.ensures (c.takes_check.ensures.0 c.if-not-takes_check.false) in
    let end = c.in_ok-ending.ensures.may in
    let k : Begun = end.0 in
    let may : MayEnd i k p = end.1 in
    (exact-may i p takes k may (Err R.Failed) (λ n e. let here : R.Failed ≡ n = cc in inr (sym here))).none

pub returns-in-Err-Unwritten-clause-none : goal.returns-in-Err-Unwritten-clause-none
returns-in-Err-Unwritten-clause-none g c =
    let old = c.args.c.now in
    let i : ℕ = c.args.i in
    let p : Parts = parts old in
    let takes : TakesCheck (status_at p i) =
    subst TakesCheck c.status.ensures (c.takes_check.ensures.0 c.if-not-takes_check.false) in
    let end = c.in_ok-ending.ensures.may in
    let k : Begun = end.0 in
    let may : MayEnd i k p = end.1 in
    (exact-may i p takes k may (Err R.Failed) (λ n e. let here : R.Failed ≡ n = cc in inr (sym here))).none

pub returns-in-Ok-clause-none : goal.returns-in-Ok-clause-none
returns-in-Ok-clause-none g c =
    let old = c.args.c.now in
    let i : ℕ = c.args.i in
    let p : Parts = parts old in
    let takes : TakesCheck (status_at p i) =
    subst TakesCheck c.status.ensures (c.takes_check.ensures.0 c.if-not-takes_check.false) in
    let end = c.in_ok-ending.ensures.may in
    let k : Begun = end.0 in
    let may : MayEnd i k p = end.1 in
    (exact-may i p takes k may (Ok tt) (λ n e. absurd (cc))).none

pub returns-then-not-takes_check-clause-full : goal.returns-then-not-takes_check-clause-full
returns-then-not-takes_check-clause-full g c =
    let fits = c.requires.fits in
    let old = c.args.c.now in
    let i : ℕ = c.args.i in
    let p : Parts = parts old in
    let out : TakesCheck (status_at p i) → ⊥ = (λ takes.
    let yes = c.takes_check.ensures.1 (subst TakesCheck (sym c.status.ensures) takes) in
    let clash : true ≡ false = sym yes ∙ c.if-not-takes_check.true in absurd (cc)) in
    (exact-down i p out (λ k is. (fits.1.good.checking i k is).takes)).full

pub returns-in_err-ending-clause-full : goal.returns-in_err-ending-clause-full
returns-in_err-ending-clause-full g c =
    let old = c.args.c.now in
    let i : ℕ = c.args.i in
    let p : Parts = parts old in
    let takes : TakesCheck (status_at p i) =
    subst TakesCheck c.status.ensures (c.takes_check.ensures.0 c.if-not-takes_check.false) in
    let q = err_from_is_err_and c.from_residual.result c.from_residual.ensures.1 in
    (subst (IsExactly i p) (sym (q.1 ∙ ap (λ (n : Refusal). Err n) q.2))
    (exact-unended i p takes c.in_err-ending.field-0.0 c.in_err-ending.ensures.refused)).full

pub returns-in_err-seal_check-clause-full : goal.returns-in_err-seal_check-clause-full
returns-in_err-seal_check-clause-full g c =
    let fits = c.requires.fits in
    let old = c.args.c.now in
    let rig = old.rig in
    let i : ℕ = c.args.i in
    let p : Parts = parts old in
    let low = c.keeps.ensures.low in
    let high = c.keeps.ensures.high in
    let takes : TakesCheck (status_at p i) =
    subst TakesCheck c.status.ensures (c.takes_check.ensures.0 c.if-not-takes_check.false) in
    let end = c.in_ok-ending.ensures.may in
    let k : Begun = end.0 in
    let may : MayEnd i k p = end.1 in
    let y : Record = c.in_ok-ending.ending.1 in
    let rec : y ≡ end_record (next_lsn (log_at p i) 0) k = end.3
    ∙ ap (λ (n : ℕ). end_record n k) (begin-lsn i (g.G.Rig.seen rig) (g.G.Rig.leaves rig) p fits.0 fits.1 low high takes _ refl may.lsns) in
    let q = err_from_is_err_and c.from_residual-in_err-seal_check.result c.from_residual-in_err-seal_check.ensures.1 in
    let seal = c.in_err-seal_check.ensures in
    let len : (n : ℕ) → NoRoomFor i (length (spelling y)) p → NoRoomFor i (end_len k) p = λ n none.
    subst (λ (x : ℕ). NoRoomFor i x p) (ap (λ (x : Record). length (spelling x)) rec ∙ length-spelling (end_record (next_lsn (log_at p i) 0) k)) none in
    let memory : c.in_err-seal_check.field-0.0 ≡ R.Memory = ⊎_elim
    (λ e. absurd (may.room (len 0 (seal.full.0 (ap (λ (n : Refusal). Err n) e)))))
    (λ rest. ⊎_elim (λ e. absurd (may.lsns (seal.lsns.0 (ap (λ (n : Refusal). Err n) e)).1)) (λ e. e) rest) seal.refusals in
    let is : c.from_residual-in_err-seal_check.result ≡ Err R.Memory = q.1 ∙ ap (λ (n : Refusal). Err n) (q.2 ∙ memory) in
    (subst (IsExactly i p) (sym is) (exact-may i p takes k may (Err R.Memory) (λ n e. let here : R.Memory ≡ n = cc in inl (sym here)))).full

pub returns-then-is_err-clause-full : goal.returns-then-is_err-clause-full
returns-then-is_err-clause-full g c =
    let old = c.args.c.now in
    let i : ℕ = c.args.i in
    let p : Parts = parts old in
    let takes : TakesCheck (status_at p i) =
    subst TakesCheck c.status.ensures (c.takes_check.ensures.0 c.if-not-takes_check.false) in
    let end = c.in_ok-ending.ensures.may in
    let k : Begun = end.0 in
    let may : MayEnd i k p = end.1 in
    (exact-may i p takes k may (Err R.Failed) (λ n e. let here : R.Failed ≡ n = cc in inr (sym here))).full

pub returns-in-Err-Unread-clause-full : goal.returns-in-Err-Unread-clause-full
returns-in-Err-Unread-clause-full g c =
    let old = c.args.c.now in
    let i : ℕ = c.args.i in
    let p : Parts = parts old in
    let takes : TakesCheck (status_at p i) =
    subst TakesCheck c.status.ensures (c.takes_check.ensures.0 c.if-not-takes_check.false) in
    let end = c.in_ok-ending.ensures.may in
    let k : Begun = end.0 in
    let may : MayEnd i k p = end.1 in
    (exact-may i p takes k may (Err R.Failed) (λ n e. let here : R.Failed ≡ n = cc in inr (sym here))).full

pub returns-in-Err-Unwritten-clause-full : goal.returns-in-Err-Unwritten-clause-full
returns-in-Err-Unwritten-clause-full g c =
    let old = c.args.c.now in
    let i : ℕ = c.args.i in
    let p : Parts = parts old in
    let takes : TakesCheck (status_at p i) =
    subst TakesCheck c.status.ensures (c.takes_check.ensures.0 c.if-not-takes_check.false) in
    let end = c.in_ok-ending.ensures.may in
    let k : Begun = end.0 in
    let may : MayEnd i k p = end.1 in
    (exact-may i p takes k may (Err R.Failed) (λ n e. let here : R.Failed ≡ n = cc in inr (sym here))).full

pub returns-in-Ok-clause-full : goal.returns-in-Ok-clause-full
returns-in-Ok-clause-full g c =
    let old = c.args.c.now in
    let i : ℕ = c.args.i in
    let p : Parts = parts old in
    let takes : TakesCheck (status_at p i) =
    subst TakesCheck c.status.ensures (c.takes_check.ensures.0 c.if-not-takes_check.false) in
    let end = c.in_ok-ending.ensures.may in
    let k : Begun = end.0 in
    let may : MayEnd i k p = end.1 in
    (exact-may i p takes k may (Ok tt) (λ n e. absurd (cc))).full

pub returns-then-not-takes_check-clause-lsns : goal.returns-then-not-takes_check-clause-lsns
returns-then-not-takes_check-clause-lsns g c =
    let fits = c.requires.fits in
    let old = c.args.c.now in
    let i : ℕ = c.args.i in
    let p : Parts = parts old in
    let out : TakesCheck (status_at p i) → ⊥ = (λ takes.
    let yes = c.takes_check.ensures.1 (subst TakesCheck (sym c.status.ensures) takes) in
    let clash : true ≡ false = sym yes ∙ c.if-not-takes_check.true in absurd (cc)) in
    (exact-down i p out (λ k is. (fits.1.good.checking i k is).takes)).lsns

pub returns-in_err-ending-clause-lsns : goal.returns-in_err-ending-clause-lsns
returns-in_err-ending-clause-lsns g c =
    let old = c.args.c.now in
    let i : ℕ = c.args.i in
    let p : Parts = parts old in
    let takes : TakesCheck (status_at p i) =
    subst TakesCheck c.status.ensures (c.takes_check.ensures.0 c.if-not-takes_check.false) in
    let q = err_from_is_err_and c.from_residual.result c.from_residual.ensures.1 in
    (subst (IsExactly i p) (sym (q.1 ∙ ap (λ (n : Refusal). Err n) q.2))
    (exact-unended i p takes c.in_err-ending.field-0.0 c.in_err-ending.ensures.refused)).lsns

pub returns-in_err-seal_check-clause-lsns : goal.returns-in_err-seal_check-clause-lsns
returns-in_err-seal_check-clause-lsns g c =
    let fits = c.requires.fits in
    let old = c.args.c.now in
    let rig = old.rig in
    let i : ℕ = c.args.i in
    let p : Parts = parts old in
    let low = c.keeps.ensures.low in
    let high = c.keeps.ensures.high in
    let takes : TakesCheck (status_at p i) =
    subst TakesCheck c.status.ensures (c.takes_check.ensures.0 c.if-not-takes_check.false) in
    let end = c.in_ok-ending.ensures.may in
    let k : Begun = end.0 in
    let may : MayEnd i k p = end.1 in
    let y : Record = c.in_ok-ending.ending.1 in
    let rec : y ≡ end_record (next_lsn (log_at p i) 0) k = end.3
    ∙ ap (λ (n : ℕ). end_record n k) (begin-lsn i (g.G.Rig.seen rig) (g.G.Rig.leaves rig) p fits.0 fits.1 low high takes _ refl may.lsns) in
    let q = err_from_is_err_and c.from_residual-in_err-seal_check.result c.from_residual-in_err-seal_check.ensures.1 in
    let seal = c.in_err-seal_check.ensures in
    let len : (n : ℕ) → NoRoomFor i (length (spelling y)) p → NoRoomFor i (end_len k) p = λ n none.
    subst (λ (x : ℕ). NoRoomFor i x p) (ap (λ (x : Record). length (spelling x)) rec ∙ length-spelling (end_record (next_lsn (log_at p i) 0) k)) none in
    let memory : c.in_err-seal_check.field-0.0 ≡ R.Memory = ⊎_elim
    (λ e. absurd (may.room (len 0 (seal.full.0 (ap (λ (n : Refusal). Err n) e)))))
    (λ rest. ⊎_elim (λ e. absurd (may.lsns (seal.lsns.0 (ap (λ (n : Refusal). Err n) e)).1)) (λ e. e) rest) seal.refusals in
    let is : c.from_residual-in_err-seal_check.result ≡ Err R.Memory = q.1 ∙ ap (λ (n : Refusal). Err n) (q.2 ∙ memory) in
    (subst (IsExactly i p) (sym is) (exact-may i p takes k may (Err R.Memory) (λ n e. let here : R.Memory ≡ n = cc in inl (sym here)))).lsns

pub returns-then-is_err-clause-lsns : goal.returns-then-is_err-clause-lsns
returns-then-is_err-clause-lsns g c =
    let old = c.args.c.now in
    let i : ℕ = c.args.i in
    let p : Parts = parts old in
    let takes : TakesCheck (status_at p i) =
    subst TakesCheck c.status.ensures (c.takes_check.ensures.0 c.if-not-takes_check.false) in
    let end = c.in_ok-ending.ensures.may in
    let k : Begun = end.0 in
    let may : MayEnd i k p = end.1 in
    (exact-may i p takes k may (Err R.Failed) (λ n e. let here : R.Failed ≡ n = cc in inr (sym here))).lsns

pub returns-in-Err-Unread-clause-lsns : goal.returns-in-Err-Unread-clause-lsns
returns-in-Err-Unread-clause-lsns g c =
    let old = c.args.c.now in
    let i : ℕ = c.args.i in
    let p : Parts = parts old in
    let takes : TakesCheck (status_at p i) =
    subst TakesCheck c.status.ensures (c.takes_check.ensures.0 c.if-not-takes_check.false) in
    let end = c.in_ok-ending.ensures.may in
    let k : Begun = end.0 in
    let may : MayEnd i k p = end.1 in
    (exact-may i p takes k may (Err R.Failed) (λ n e. let here : R.Failed ≡ n = cc in inr (sym here))).lsns

pub returns-in-Err-Unwritten-clause-lsns : goal.returns-in-Err-Unwritten-clause-lsns
returns-in-Err-Unwritten-clause-lsns g c =
    let old = c.args.c.now in
    let i : ℕ = c.args.i in
    let p : Parts = parts old in
    let takes : TakesCheck (status_at p i) =
    subst TakesCheck c.status.ensures (c.takes_check.ensures.0 c.if-not-takes_check.false) in
    let end = c.in_ok-ending.ensures.may in
    let k : Begun = end.0 in
    let may : MayEnd i k p = end.1 in
    (exact-may i p takes k may (Err R.Failed) (λ n e. let here : R.Failed ≡ n = cc in inr (sym here))).lsns

pub returns-in-Ok-clause-lsns : goal.returns-in-Ok-clause-lsns
returns-in-Ok-clause-lsns g c =
    let old = c.args.c.now in
    let i : ℕ = c.args.i in
    let p : Parts = parts old in
    let takes : TakesCheck (status_at p i) =
    subst TakesCheck c.status.ensures (c.takes_check.ensures.0 c.if-not-takes_check.false) in
    let end = c.in_ok-ending.ensures.may in
    let k : Begun = end.0 in
    let may : MayEnd i k p = end.1 in
    (exact-may i p takes k may (Ok tt) (λ n e. absurd (cc))).lsns

pub returns-in_err-ending-clause-failed : goal.returns-in_err-ending-clause-failed
returns-in_err-ending-clause-failed g c e =
    let old = c.args.c.now in
    let i : ℕ = c.args.i in
    let p : Parts = parts old in
    let q = err_from_is_err_and c.from_residual.result c.from_residual.ensures.1 in
    absurd (unended-failed i p c.in_err-ending.field-0.0 c.in_err-ending.ensures.refused c.from_residual.result
    (q.1 ∙ ap (λ (n : Refusal). Err n) q.2) e)

pub returns-in_err-seal_check-clause-failed : goal.returns-in_err-seal_check-clause-failed
returns-in_err-seal_check-clause-failed g c e =
    let fits = c.requires.fits in
    let old = c.args.c.now in
    let rig = old.rig in
    let i : ℕ = c.args.i in
    let p : Parts = parts old in
    let low = c.keeps.ensures.low in
    let high = c.keeps.ensures.high in
    let takes : TakesCheck (status_at p i) =
    subst TakesCheck c.status.ensures (c.takes_check.ensures.0 c.if-not-takes_check.false) in
    let end = c.in_ok-ending.ensures.may in
    let k : Begun = end.0 in
    let may : MayEnd i k p = end.1 in
    let y : Record = c.in_ok-ending.ending.1 in
    let rec : y ≡ end_record (next_lsn (log_at p i) 0) k = end.3
    ∙ ap (λ (n : ℕ). end_record n k) (begin-lsn i (g.G.Rig.seen rig) (g.G.Rig.leaves rig) p fits.0 fits.1 low high takes _ refl may.lsns) in
    let q = err_from_is_err_and c.from_residual-in_err-seal_check.result c.from_residual-in_err-seal_check.ensures.1 in
    let seal = c.in_err-seal_check.ensures in
    let len : (n : ℕ) → NoRoomFor i (length (spelling y)) p → NoRoomFor i (end_len k) p = λ n none.
    subst (λ (x : ℕ). NoRoomFor i x p) (ap (λ (x : Record). length (spelling x)) rec ∙ length-spelling (end_record (next_lsn (log_at p i) 0) k)) none in
    let memory : c.in_err-seal_check.field-0.0 ≡ R.Memory = ⊎_elim
    (λ e. absurd (may.room (len 0 (seal.full.0 (ap (λ (n : Refusal). Err n) e)))))
    (λ rest. ⊎_elim (λ e. absurd (may.lsns (seal.lsns.0 (ap (λ (n : Refusal). Err n) e)).1)) (λ e. e) rest) seal.refusals in
    let is : c.from_residual-in_err-seal_check.result ≡ Err R.Memory = q.1 ∙ ap (λ (n : Refusal). Err n) (q.2 ∙ memory) in
    let clash : ◌≡◌ {A = Result (Unit {0}) Refusal} (Err R.Memory) (Err R.Failed) = sym is ∙ e in absurd (cc)

pub returns-then-is_err-clause-failed : goal.returns-then-is_err-clause-failed
returns-then-is_err-clause-failed g c e =
    let fits = c.requires.fits in
    let old = c.args.c.now in
    let rig = old.rig in
    let i : ℕ = c.args.i in
    let p : Parts = parts old in
    let low = c.keeps.ensures.low in
    let high = c.keeps.ensures.high in
    let tell = telling g.G.Rig.seen g.G.Rig.leaves g.G.Rig.moment g.G.Rig.since g.G.Rig.faults in
    let takes : TakesCheck (status_at p i) =
    subst TakesCheck c.status.ensures (c.takes_check.ensures.0 c.if-not-takes_check.false) in
    let end = c.in_ok-ending.ensures.may in
    let k : Begun = end.0 in
    let may : MayEnd i k p = end.1 in
    let y : Record = c.in_ok-ending.ending.1 in
    let rec : y ≡ end_record (next_lsn (log_at p i) 0) k = end.3
    ∙ ap (λ (n : ℕ). end_record n k) (begin-lsn i (g.G.Rig.seen rig) (g.G.Rig.leaves rig) p fits.0 fits.1 low high takes _ refl may.lsns) in
    let s = c.seal_check.new.c in
    let f = c.force_log.new.self in
    let seal = c.in_ok-seal_check.ensures in
    let force = c.force_log.ensures in
    let spare : ℕ = (log_at (parts s) i).spare in
    let h : HasForced tell i spare k old s f = record {
      low = low;
      high = high;
      was = may.begun;
      same = seal.rig;
      is = subst (λ (x : Record). parts s ≡ with_more i x spare p) rec seal.parts;
      good = λ m. seal.good Pending.Idle m;
      good_then = λ m. force.good Pending.Idle m;
      images = λ m. force.images Pending.Idle m;
      time = force.time;
      others = force.others;
      masters = force.masters;
      reads = λ d le. g.met.G.Rig.leaves_seen f.rig d le;
    } in
    let erred = c.if-is_err.ensures.value in
    let fails = was-err c.force_log.result _ erred force.failed in
    let fell = c.down.ensures in
    inr (inl (fell-forcing tell i spare k old s f h fits.0 fits.1 c.down.new.c fails fell.rig fell.parts fell.fallen fell.good))

pub returns-in-Err-Unread-clause-failed : goal.returns-in-Err-Unread-clause-failed
returns-in-Err-Unread-clause-failed g c e =
    let fits = c.requires.fits in
    let old = c.args.c.now in
    let rig = old.rig in
    let i : ℕ = c.args.i in
    let p : Parts = parts old in
    let low = c.keeps.ensures.low in
    let high = c.keeps.ensures.high in
    let tell = telling g.G.Rig.seen g.G.Rig.leaves g.G.Rig.moment g.G.Rig.since g.G.Rig.faults in
    let takes : TakesCheck (status_at p i) =
    subst TakesCheck c.status.ensures (c.takes_check.ensures.0 c.if-not-takes_check.false) in
    let end = c.in_ok-ending.ensures.may in
    let k : Begun = end.0 in
    let may : MayEnd i k p = end.1 in
    let y : Record = c.in_ok-ending.ending.1 in
    let rec : y ≡ end_record (next_lsn (log_at p i) 0) k = end.3
    ∙ ap (λ (n : ℕ). end_record n k) (begin-lsn i (g.G.Rig.seen rig) (g.G.Rig.leaves rig) p fits.0 fits.1 low high takes _ refl may.lsns) in
    let s = c.seal_check.new.c in
    let f = c.force_log.new.self in
    let seal = c.in_ok-seal_check.ensures in
    let force = c.force_log.ensures in
    let spare : ℕ = (log_at (parts s) i).spare in
    let h : HasForced tell i spare k old s f = record {
      low = low;
      high = high;
      was = may.begun;
      same = seal.rig;
      is = subst (λ (x : Record). parts s ≡ with_more i x spare p) rec seal.parts;
      good = λ m. seal.good Pending.Idle m;
      good_then = λ m. force.good Pending.Idle m;
      images = λ m. force.images Pending.Idle m;
      time = force.time;
      others = force.others;
      masters = force.masters;
      reads = λ d le. g.met.G.Rig.leaves_seen f.rig d le;
    } in
    let ok = c.if-is_err.ensures.value in
    let settled = settled-s tell i spare k old s f h fits.0 fits.1 in
    let forces = not-err c.force_log.result _ ok (force.forced settled) in
    let place : IsStartFor (low_of k) (log_at (parts f) i).groups (log_at (parts f) i).gate c.start_for-start.result =
    subst (λ (l : LogState). IsStartFor (low_of k) l.groups l.gate c.start_for-start.result) c.log.ensures
    (subst (λ (n : ℕ). IsStartFor n c.log.result.now.groups c.log.result.now.gate c.start_for-start.result) end.2 c.start_for-start.ensures.exact) in
    let lsn : c.lsn-lsn.result ≡ next_lsn (log_at p i) 0 = c.lsn-lsn.ensures ∙ ap lsn_of rec in
    let owes : ℕ = owed_at (parts f) i in
    let there = done-is tell i spare k old s f h fits.0 fits.1 forces in
    let fit = fits-f tell i spare k old s f h fits.0 fits.1 forces reply.Did refl in
    let alive = rows-open i (g.G.Rig.seen f.rig) (g.G.Rig.leaves f.rig) (parts f) (counted_core i reply.Did fits.0) fit low high
    (subst (λ (q : Parts). TakesCheck (status_at q i)) (sym there) takes) in
    let mays : MayPutMaster i c.lsn-lsn.result c.start_for-start.result (parts f) =
    subst (λ (n : ℕ). MayPutMaster i n c.start_for-start.result (parts f)) (sym lsn)
    (may-put i spare owes k p (parts f) low high fits.1.good.shape there c.start_for-start.result
    (ap (λ (q : Parts). is_loose q i) (sym h.is) ∙ settled) takes may place alive) in
    let n = c.put_master.new.c in
    let put = c.put_master.ensures in
    let earlier : (t u : ℕ) (img : DeviceImages) → t ≤ u → tell.since n.rig u img → tell.since n.rig t img =
    λ t u img le since. g.met.G.Rig.earlier n.rig t u img le since in
    inl (stays-begun tell i spare k old s f h fits.0 fits.1 forces c.lsn-lsn.result c.start_for-start.result mays n earlier put.images put.time put.left put.others_leave (put.unread (c.in-Err-Unread.is ∙ ap (λ (x : NotPut). Err x) c.in-Err-Unread.field-0-is)).0)

pub returns-in-Err-Unwritten-clause-failed : goal.returns-in-Err-Unwritten-clause-failed
returns-in-Err-Unwritten-clause-failed g c e =
    let fits = c.requires.fits in
    let old = c.args.c.now in
    let rig = old.rig in
    let i : ℕ = c.args.i in
    let p : Parts = parts old in
    let low = c.keeps.ensures.low in
    let high = c.keeps.ensures.high in
    let tell = telling g.G.Rig.seen g.G.Rig.leaves g.G.Rig.moment g.G.Rig.since g.G.Rig.faults in
    let takes : TakesCheck (status_at p i) =
    subst TakesCheck c.status.ensures (c.takes_check.ensures.0 c.if-not-takes_check.false) in
    let end = c.in_ok-ending.ensures.may in
    let k : Begun = end.0 in
    let may : MayEnd i k p = end.1 in
    let y : Record = c.in_ok-ending.ending.1 in
    let rec : y ≡ end_record (next_lsn (log_at p i) 0) k = end.3
    ∙ ap (λ (n : ℕ). end_record n k) (begin-lsn i (g.G.Rig.seen rig) (g.G.Rig.leaves rig) p fits.0 fits.1 low high takes _ refl may.lsns) in
    let s = c.seal_check.new.c in
    let f = c.force_log.new.self in
    let seal = c.in_ok-seal_check.ensures in
    let force = c.force_log.ensures in
    let spare : ℕ = (log_at (parts s) i).spare in
    let h : HasForced tell i spare k old s f = record {
      low = low;
      high = high;
      was = may.begun;
      same = seal.rig;
      is = subst (λ (x : Record). parts s ≡ with_more i x spare p) rec seal.parts;
      good = λ m. seal.good Pending.Idle m;
      good_then = λ m. force.good Pending.Idle m;
      images = λ m. force.images Pending.Idle m;
      time = force.time;
      others = force.others;
      masters = force.masters;
      reads = λ d le. g.met.G.Rig.leaves_seen f.rig d le;
    } in
    let ok = c.if-is_err.ensures.value in
    let settled = settled-s tell i spare k old s f h fits.0 fits.1 in
    let forces = not-err c.force_log.result _ ok (force.forced settled) in
    let place : IsStartFor (low_of k) (log_at (parts f) i).groups (log_at (parts f) i).gate c.start_for-start.result =
    subst (λ (l : LogState). IsStartFor (low_of k) l.groups l.gate c.start_for-start.result) c.log.ensures
    (subst (λ (n : ℕ). IsStartFor n c.log.result.now.groups c.log.result.now.gate c.start_for-start.result) end.2 c.start_for-start.ensures.exact) in
    let lsn : c.lsn-lsn.result ≡ next_lsn (log_at p i) 0 = c.lsn-lsn.ensures ∙ ap lsn_of rec in
    let owes : ℕ = owed_at (parts f) i in
    let there = done-is tell i spare k old s f h fits.0 fits.1 forces in
    let fit = fits-f tell i spare k old s f h fits.0 fits.1 forces reply.Did refl in
    let alive = rows-open i (g.G.Rig.seen f.rig) (g.G.Rig.leaves f.rig) (parts f) (counted_core i reply.Did fits.0) fit low high
    (subst (λ (q : Parts). TakesCheck (status_at q i)) (sym there) takes) in
    let mays : MayPutMaster i c.lsn-lsn.result c.start_for-start.result (parts f) =
    subst (λ (n : ℕ). MayPutMaster i n c.start_for-start.result (parts f)) (sym lsn)
    (may-put i spare owes k p (parts f) low high fits.1.good.shape there c.start_for-start.result
    (ap (λ (q : Parts). is_loose q i) (sym h.is) ∙ settled) takes may place alive) in
    let n = c.put_master.new.c in
    let put = c.put_master.ensures in
    let earlier : (t u : ℕ) (img : DeviceImages) → t ≤ u → tell.since n.rig u img → tell.since n.rig t img =
    λ t u img le since. g.met.G.Rig.earlier n.rig t u img le since in
    let is = c.in-Err-Unwritten.is ∙ ap (λ (x : NotPut). Err x) c.in-Err-Unwritten.field-0-is in
    let m = fits.0.scene.state in
    let good = good-f tell i spare k old s f h fits.0 fits.1 in
    inr (inr (fell-putting tell i spare k old s f h fits.0 fits.1 forces c.lsn-lsn.result c.start_for-start.result mays n earlier put.images put.time put.left put.others_leave
    (put.others 0 (λ e0. absurd (omega (arith, low, e0)))) (put.fallen is) (put.falls is)
    (put.good_either is m good) (put.good_fallen is m good) (put.alike_either is) place))

pub returns-in_err-ending-clause-refused : goal.returns-in_err-ending-clause-refused
returns-in_err-ending-clause-refused g c =
    let old = c.args.c.now in
    let q = err_from_is_err_and c.from_residual.result c.from_residual.ensures.1 in
    subst (λ (r : Result (Unit {0}) Refusal). IfErr r (λ (n : Refusal). n ≢ R.Failed → (parts old ≡ parts old) × (old.rig ≡ old.rig)))
    (sym (q.1 ∙ ap (λ (n : Refusal). Err n) q.2)) (λ ne. (refl, refl))

pub returns-in_err-seal_check-clause-refused : goal.returns-in_err-seal_check-clause-refused
returns-in_err-seal_check-clause-refused g c =
    let old = c.args.c.now in
    let q = err_from_is_err_and c.from_residual-in_err-seal_check.result c.from_residual-in_err-seal_check.ensures.1 in
    let seal = c.in_err-seal_check.ensures in
    let n = c.seal_check.new.c in
    subst (λ (r : Result (Unit {0}) Refusal). IfErr r (λ (x : Refusal). x ≢ R.Failed → (parts n ≡ parts old) × (n.rig ≡ old.rig)))
    (sym (q.1 ∙ ap (λ (x : Refusal). Err x) q.2)) (λ ne. (seal.stays, seal.rig))

pub returns-then-is_err-clause-refused : goal.returns-then-is_err-clause-refused
returns-then-is_err-clause-refused g c ne =
    absurd (ne refl)

pub returns-in-Err-Unread-clause-refused : goal.returns-in-Err-Unread-clause-refused
returns-in-Err-Unread-clause-refused g c ne =
    absurd (ne refl)

pub returns-in-Err-Unwritten-clause-refused : goal.returns-in-Err-Unwritten-clause-refused
returns-in-Err-Unwritten-clause-refused g c ne =
    absurd (ne refl)

pub returns-in_err-seal_check-clause-others : goal.returns-in_err-seal_check-clause-others
returns-in_err-seal_check-clause-others g c d ne =
    ap (λ (x : g.row.G.Denot). g.G.Rig.seen x d) c.in_err-seal_check.ensures.rig

pub returns-in_err-seal_check-clause-others_leave : goal.returns-in_err-seal_check-clause-others_leave
returns-in_err-seal_check-clause-others_leave g c d ne =
    let rig = c.args.c.now.rig in
    subst (λ (x : g.row.G.Denot). LeavesSame (g.G.Rig.leaves rig d) (g.G.Rig.leaves x d)) (sym c.in_err-seal_check.ensures.rig) (λ bytes. ((λ l. l), (λ l. l)))

pub returns-then-is_err-clause-others : goal.returns-then-is_err-clause-others
returns-then-is_err-clause-others g c d ne =
    ap (λ (x : g.row.G.Denot). g.G.Rig.seen x d) c.down.ensures.rig ∙ c.force_log.ensures.others d ne
    ∙ ap (λ (x : g.row.G.Denot). g.G.Rig.seen x d) c.in_ok-seal_check.ensures.rig

pub returns-then-is_err-clause-others_leave : goal.returns-then-is_err-clause-others_leave
returns-then-is_err-clause-others_leave g c d ne =
    let rig = c.args.c.now.rig in
    let forced = subst (λ (x : g.row.G.Denot). LeavesSame (g.G.Rig.leaves x d) (g.G.Rig.leaves c.force_log.new.self.rig d))
    c.in_ok-seal_check.ensures.rig (c.force_log.ensures.others_leave d ne) in
    subst (λ (x : g.row.G.Denot). LeavesSame (g.G.Rig.leaves rig d) (g.G.Rig.leaves x d)) (sym c.down.ensures.rig) forced

pub returns-in-Ok-clause-others : goal.returns-in-Ok-clause-others
returns-in-Ok-clause-others g c d ne =
    c.put_master.ensures.others d ne ∙ c.force_log.ensures.others d ne
    ∙ ap (λ (x : g.row.G.Denot). g.G.Rig.seen x d) c.in_ok-seal_check.ensures.rig

pub returns-in-Ok-clause-others_leave : goal.returns-in-Ok-clause-others_leave
returns-in-Ok-clause-others_leave g c d ne =
    let rig = c.args.c.now.rig in
    let forced = subst (λ (x : g.row.G.Denot). LeavesSame (g.G.Rig.leaves x d) (g.G.Rig.leaves c.force_log.new.self.rig d))
    c.in_ok-seal_check.ensures.rig (c.force_log.ensures.others_leave d ne) in
    same-then (g.G.Rig.leaves rig d) (g.G.Rig.leaves c.force_log.new.self.rig d) (g.G.Rig.leaves c.put_master.new.c.rig d) forced
    (c.put_master.ensures.others_leave d ne)

pub returns-in-Err-Unread-clause-others : goal.returns-in-Err-Unread-clause-others
returns-in-Err-Unread-clause-others g c d ne =
    c.put_master.ensures.others d ne ∙ c.force_log.ensures.others d ne
    ∙ ap (λ (x : g.row.G.Denot). g.G.Rig.seen x d) c.in_ok-seal_check.ensures.rig

pub returns-in-Err-Unread-clause-others_leave : goal.returns-in-Err-Unread-clause-others_leave
returns-in-Err-Unread-clause-others_leave g c d ne =
    let rig = c.args.c.now.rig in
    let forced = subst (λ (x : g.row.G.Denot). LeavesSame (g.G.Rig.leaves x d) (g.G.Rig.leaves c.force_log.new.self.rig d))
    c.in_ok-seal_check.ensures.rig (c.force_log.ensures.others_leave d ne) in
    same-then (g.G.Rig.leaves rig d) (g.G.Rig.leaves c.force_log.new.self.rig d) (g.G.Rig.leaves c.put_master.new.c.rig d) forced
    (c.put_master.ensures.others_leave d ne)

pub returns-in-Err-Unwritten-clause-others : goal.returns-in-Err-Unwritten-clause-others
returns-in-Err-Unwritten-clause-others g c d ne =
    c.put_master.ensures.others d ne ∙ c.force_log.ensures.others d ne
    ∙ ap (λ (x : g.row.G.Denot). g.G.Rig.seen x d) c.in_ok-seal_check.ensures.rig

pub returns-in-Err-Unwritten-clause-others_leave : goal.returns-in-Err-Unwritten-clause-others_leave
returns-in-Err-Unwritten-clause-others_leave g c d ne =
    let rig = c.args.c.now.rig in
    let forced = subst (λ (x : g.row.G.Denot). LeavesSame (g.G.Rig.leaves x d) (g.G.Rig.leaves c.force_log.new.self.rig d))
    c.in_ok-seal_check.ensures.rig (c.force_log.ensures.others_leave d ne) in
    same-then (g.G.Rig.leaves rig d) (g.G.Rig.leaves c.force_log.new.self.rig d) (g.G.Rig.leaves c.put_master.new.c.rig d) forced
    (c.put_master.ensures.others_leave d ne)

pub returns-in-Ok-clause-tick : goal.returns-in-Ok-clause-tick
returns-in-Ok-clause-tick g c =
    let fits = c.requires.fits in
    let old = c.args.c.now in
    let rig = old.rig in
    let i : ℕ = c.args.i in
    let p : Parts = parts old in
    let low = c.keeps.ensures.low in
    let high = c.keeps.ensures.high in
    let tell = telling g.G.Rig.seen g.G.Rig.leaves g.G.Rig.moment g.G.Rig.since g.G.Rig.faults in
    let takes : TakesCheck (status_at p i) =
    subst TakesCheck c.status.ensures (c.takes_check.ensures.0 c.if-not-takes_check.false) in
    let end = c.in_ok-ending.ensures.may in
    let k : Begun = end.0 in
    let may : MayEnd i k p = end.1 in
    let y : Record = c.in_ok-ending.ending.1 in
    let rec : y ≡ end_record (next_lsn (log_at p i) 0) k = end.3
    ∙ ap (λ (n : ℕ). end_record n k) (begin-lsn i (g.G.Rig.seen rig) (g.G.Rig.leaves rig) p fits.0 fits.1 low high takes _ refl may.lsns) in
    let s = c.seal_check.new.c in
    let f = c.force_log.new.self in
    let seal = c.in_ok-seal_check.ensures in
    let force = c.force_log.ensures in
    let spare : ℕ = (log_at (parts s) i).spare in
    let h : HasForced tell i spare k old s f = record {
      low = low;
      high = high;
      was = may.begun;
      same = seal.rig;
      is = subst (λ (x : Record). parts s ≡ with_more i x spare p) rec seal.parts;
      good = λ m. seal.good Pending.Idle m;
      good_then = λ m. force.good Pending.Idle m;
      images = λ m. force.images Pending.Idle m;
      time = force.time;
      others = force.others;
      masters = force.masters;
      reads = λ d le. g.met.G.Rig.leaves_seen f.rig d le;
    } in
    let ok = c.if-is_err.ensures.value in
    let settled = settled-s tell i spare k old s f h fits.0 fits.1 in
    let force_ticks = not-err c.force_log.result _ ok (force.tick settled (some-tail tell i spare k old s f h fits.0 fits.1)) in
    ticks (filled_open (chosen_slot 0 64 (g.G.Rig.seen f.rig i))) (tell.moment rig) (tell.moment f.rig) (tell.moment c.put_master.new.c.rig)
    (force_ticks ∙ ap (λ d. tell.moment d + 4) seal.rig) c.in-Ok.ensures.tick
