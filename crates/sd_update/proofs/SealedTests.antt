-- A record of no transaction that the code's tests let through was tested for, as the laws ask: for `seal_check` and `seal_start`.
use Rattle.std.proofs.Common.{◌≡◌, ◌⊎◌, ◌↔◌, ℕ, zero, suc, ◌+◌, ◌^◌, ◌<◌, ◌≤◌, false, true, cond, List, [], ◌∷◌, ◌++◌, max, sym, ap, ◌∙◌, inr, refl, subst, arith, ⊎_elim, eq-eqb, ne_eqb}
use Rattle.std.specs.Prelude.{length, None, Result, Ok, Err, IfErr}
use Rattle.std.specs.Option.{option_map_or}
use Rattle.std.proofs.lemmas.Bool.{cases_eq}
use Rattle.std.proofs.lemmas.Bool.Decides.{leb_tells}
use mathlib.Core.Path.{fun_ext}
use Rattle.sd_base.specs.declared.place.Status.TheVariants as S
use Rattle.sd_base.specs.declared.refusal.Refusal.{Refusal}
use Rattle.sd_base.specs.declared.refusal.Refusal.TheVariants as R
use Rattle.sd_logrec.specs.Kept.{master}
use Rattle.sd_logrec.specs.Spelling.{spelling}
use Rattle.sd_logrec.specs.View.{Rec, flat, is_closing}
use Rattle.sd_logrec.specs.View.Kind.{Plain}
use Rattle.sd_logrec.specs.declared.record.Record.{Record}
use Rattle.sd_logrec.specs.declared.record.Record.TheVariants as records
use Rattle.sd_log.specs.Logs.{LogState, begun_at, forced, last_lsn, needed, scanned, with_record}
use Rattle.sd_model.specs.State.{State}
use Rattle.sd_page.specs.Page.{Page}
use Rattle.sd_rig.specs.Devices as rig
use Rattle.sd_txn.specs.Owing.{owed_of, reserve_of}
use Rattle.sd_chain.specs.Checks.{MayCome, Past, lsn_of, owed, reserve}
use Rattle.sd_chain.specs.Images.{Keeps}
use Rattle.sd_chain.specs.Order.{speaks}
use Rattle.sd_chain.specs.Records.{Each}
use Rattle.sd_chain.proofs.Lists.{Each-front, Each-weaker}
use Rattle.sd_chain.specs.Appends.{IsNextEpoch}
use Rattle.sd_chain.specs.Logs.{Outcomes, all_at, base_at, may_of, next_lsn, past_at, tail_at}
use Rattle.sd_chain.proofs.Appends.{appended-log}
use Rattle.sd_chain.proofs.Next.{next_epoch-other}
use Rattle.sd_chain.proofs.Owing.{plain-owes}
use Rattle.sd_state.specs.Good.{Good, IsTold, OwesAtMost}
use Rattle.sd_state.specs.Images.{log_by}
use Rattle.sd_state.specs.Parts.{Parts, epoch_at, is_loose, log_at, no_log, other_at, owed_at, status_at, txns_at, up_as}
use Rattle.sd_update.specs.Sealing.{IsTestedFor, MayCheck, MaySeal, NoLsnLeft, NoRoomFor, with_more, with_start}
use Rattle.sd_state.specs.Sums.{great_of, most_to, owed_in_all, owed_where, owes_most, sum_to}
use Rattle.sd_state.specs.Tables.{tells_log}
use Rattle.sd_state.specs.Values.{Pending}
use Rattle.sd_state.proofs.ChangedLists.{each-by, reached}
use Rattle.sd_state.proofs.Items.{item-kept, item-set}
use Rattle.sd_state.proofs.Owing.{most-in-all, owes-at-most}
use Rattle.sd_state.proofs.Owed.{few-owed}
use Rattle.sd_update.proofs.SealedCalls.{settled-up}
use Rattle.sd_update.proofs.SealedLaws.{check-seals, start-seals}
use Rattle.sd_state.proofs.Standing.{one-place}

-- the greatest is at or above each
most-at : (f : ℕ → ℕ) (n j : ℕ) → 1 ≤ j → j ≤ n → f j ≤ most_to f n
most-at f zero j lo hi = absurd (omega (arith, lo, hi))
most-at f (suc n) j lo hi = ⊎_elim
    (λ p. let le = most-at f n j lo p.1 in omega (arith, le))
    (λ p. let e : j ≡ suc n = omega (arith, p.1, hi) in subst (λ k. f k ≤ max (most_to f n) (f (suc n))) (sym e) (omega arith))
    (leb_tells j n)

-- what isn't at or above a number is below it
below : (n x : ℕ) → (n ≤ x → ⊥) → x < n
below n x not = ⊎_elim (λ p. absurd (not p.1)) (λ p. let lt = p.1 in omega (arith, lt)) (leb_tells n x)

-- a record of no transaction may come
may-plain : (i : ℕ) (past : Past) (y : Record) → (flat y).kind ≡ Plain → MayCome i past y
may-plain i past (records.Start l epoch) e = tt
may-plain i past (records.Update l txn prev page slot capacity before after) e = absurd (cc)
may-plain i past (records.Clr l txn prev undo_next page slot after) e = absurd (cc)
may-plain i past (records.Commit l txn prev) e = absurd (cc)
may-plain i past (records.End l txn prev) e = absurd (cc)
may-plain i past (records.BeginCheck l) e = tt
may-plain i past (records.EndCheck l begin spans recs) e = tt

module _ (i : ℕ) (y : Record) (spare : ℕ) (seen : rig.DeviceImages) (leaves : Outcomes) (pend : Pending) (c : Parts) (m : State)
    (g : Good seen leaves pend c m) (low : 1 ≤ i) (high : i ≤ 8) (settled : is_loose c i ≡ false)
    (tells : tells_log (status_at c i) ≡ true) where
  told : IsTold c m i
  told = g.told i low high tells settled

  one : (moved : Keeps) → log_by c moved i ≡ log_at c i
  one moved = one-place c moved i (g.settled i low high settled).one_place

  -- memory for what the table reserves is memory for what the log does
  pub reserve-fits : reserve_of (txns_at c i) ≤ spare → reserve (all_at (log_at c i)) ≤ spare
  reserve-fits le = subst (λ n. n ≤ spare) told.reserves le

  abbrev own : ℕ
  own = max (owed_at c i) (owed_of (txns_at c i))

  own-is : owes_most c i ≡ own
  own-is = ap (λ b. cond b (owed_at c i) (cond (tells_log (status_at c i)) own (owed_at c i))) settled
      ∙ ap (λ b. cond b own (owed_at c i)) tells

  where-is : owed_where i own c ≡ owed_in_all c
  where-is = ap (λ (f : ℕ → ℕ). sum_to f 8) (fun_ext (λ j. ⊎_elim
      (λ e. ap (λ b. cond b own (owes_most c j)) (eq-eqb j i e) ∙ sym (ap (owes_most c) e ∙ own-is))
      (λ ne. ap (λ b. cond b own (owes_most c j)) (ne_eqb j i ne))
      (cases_eq j i)))

  great-log : (j : ℕ) → 1 ≤ j → j ≤ 8 → Each (λ x. x.lsn ≤ great_of c) (all_at (log_at c j))
  great-log j lo hi =
      let top = most-at (λ k. last_lsn (scanned (log_at c k))) 8 j lo hi in
      Each-weaker (λ (x : Rec). x.lsn ≤ last_lsn (scanned (log_at c j))) (λ x. x.lsn ≤ great_of c)
      (λ x le. omega (arith, le, top)) (all_at (log_at c j)) (g.last j lo hi)

  -- there is an LSN for the next record
  pub next-small : (NoLsnLeft i c → ⊥) → next_lsn (log_at c i) 0 < 2 ^ 62
  next-small left =
      let top = most-at (λ k. last_lsn (scanned (log_at c k))) 8 i low high in
      let lt = below (2 ^ 62) (great_of c + 1 + owed_where i own c) left in omega (arith, top, lt)

  great-page : (p : ℕ) (z : Page) → may_of leaves p z → z.lsn ≤ great_of c
  great-page p z may = ⊎_elim (λ le. omega (arith, le))
      (λ r. reached z.lsn (great_of c) (base_at (log_at c r.0)) r.3
      (Each-front (λ q. q.lsn ≤ great_of c) (base_at (log_at c r.0)) (tail_at (log_at c r.0)) (great-log r.0 r.1 r.2)))
      (g.disk_lsns (λ j. false) p z may)

  abbrev new : Parts
  new = with_more i y spare c

  -- a record of no transaction is owed nothing for
  owes-then : (flat y).kind ≡ Plain → (moved : Keeps) (j : ℕ) → 1 ≤ j → j ≤ 8 → OwesAtMost (owes_most c j) (log_by new moved j)
  owes-then kind moved j lo hi = ⊎_elim
      (λ e. subst (λ (k : ℕ). OwesAtMost (owes_most c k) (log_by new moved k)) (sym e)
      (subst (OwesAtMost (owes_most c i)) (sym (one-place new moved i (g.settled i low high settled).one_place
      ∙ item-set no_log c.logs i (with_record y spare (log_at c i)) low high g.shape.logs))
      (let old = subst (OwesAtMost (owes_most c i)) (one moved) (owes-at-most seen leaves pend c m g moved i low high) in (
        old.0,
        subst (λ n. n ≤ owes_most c i) (sym (ap owed (appended-log (log_at c i) y spare)
            ∙ (plain-owes (all_at (log_at c i)) (flat y) kind).1)) old.1,
      ))))
      (λ ne. subst (OwesAtMost (owes_most c j))
      (sym (ap (λ (l : LogState). cond (moved j) (option_map_or (λ place. begun_at place l) (other_at c j) l) l)
      (item-kept no_log c.logs i (with_record y spare (log_at c i)) low j ne)))
      (owes-at-most seen leaves pend c m g moved j lo hi))
      (cases_eq j i)

  pub was-tested : (flat y).kind ≡ Plain → lsn_of y ≡ next_lsn (log_at c i) 0
      → ((bytes : List ℕ) → leaves i bytes → IsNextEpoch (past_at (master bytes) (forced (log_at c i))) y)
      → (NoRoomFor i (length (spelling y)) c → ⊥) → (NoLsnLeft i c → ⊥) → IsTestedFor i y spare leaves c
  was-tested kind lsn next room left moved = record {
    lsn = lsn ∙ ap (λ l. next_lsn l 0) (sym (one moved));
    own = λ bytes l. may-plain i (past_at (master bytes) (forced (log_by c moved i))) y kind;
    epoch = λ bytes l. subst (λ (log : LogState). IsNextEpoch (past_at (master bytes) (forced log)) y) (sym (one moved)) (next bytes l.0);
    reserved = reserve_of (txns_at c i);
    within = subst (λ (log : LogState). reserve (all_at log ++ flat y ∷ []) ≤ reserve_of (txns_at c i)) (sym (one moved))
        (let is = (plain-owes (all_at (log_at c i)) (flat y) kind).0 in let t = told.reserves in omega (arith, is, t));
    room = subst (λ (log : LogState). needed log (length (spelling y)) (reserve_of (txns_at c i)) ≤ 1048576) (sym (one moved))
        (let fits = below 1048577 (needed (log_at c i) (length (spelling y)) (reserve_of (txns_at c i)))
        (λ le. room (omega (arith, le))) in omega (arith, fits));
    great = great_of c;
    logs = λ j lo hi. each-by (λ x. x.lsn ≤ great_of c) c moved j (great-log j lo hi);
    pages = λ p z may. great-page p z (may.0, may.1.0, may.2);
    page = omega arith;
    fits =
        let all = most-in-all c (log_by new moved) (owes-then kind moved) in
        let lt = below (2 ^ 62) (great_of c + 1 + owed_where i own c) left in
        let is = where-is in omega (arith, all, lt, is);
  }

-- ---- what the calls make

-- a record of no transaction may come, of the log's next LSN
plain-may : (i : ℕ) (y : Record) (c : Parts) → 1 ≤ i → i ≤ 8 → is_loose c i ≡ false → tells_log (status_at c i) ≡ true
    → (flat y).kind ≡ Plain → lsn_of y ≡ next_lsn (log_at c i) 0 → MaySeal i y c
plain-may i y c low high settled tells kind lsn = record {
  low = low;
  high = high;
  settled = settled;
  tells = tells;
  own = λ s. let clash = sym (ap speaks kind) ∙ s in absurd (cc);
  follows = λ s. let clash = sym (ap speaks kind) ∙ s in absurd (cc);
  lsn = lsn;
}

pub check-good : (i : ℕ) (y : Record) (spare : ℕ) (seen : rig.DeviceImages) (leaves : Outcomes) (pend : Pending) (c : Parts) (m : State)
    → Good seen leaves pend c m → leaves 0 (seen 0) → 1 ≤ i → i ≤ 8 → c.due ≡ None → MayCheck i y c
    → (NoRoomFor i (length (spelling y)) c → ⊥) → (NoLsnLeft i c → ⊥) → reserve_of (txns_at c i) ≤ spare
    → Good seen leaves pend (with_more i y spare c) m
check-good i y spare seen leaves pend c m g reads low high idle h room left memory =
    let settled = settled-up seen leaves pend c m i low high g idle (⊎_elim (λ e. ap up_as e) (λ e. ap up_as e) h.stands) in
    let tells : tells_log (status_at c i) ≡ true = ⊎_elim (λ e. ap tells_log e) (λ e. ap tells_log e) h.stands in
    check-seals leaves i spare y seen pend c m g reads (plain-may i y c low high settled tells h.kind h.lsn) h.kind h.no_start
    (was-tested i y spare seen leaves pend c m g low high settled tells h.kind h.lsn
    (λ bytes l. next_epoch-other (past_at (master bytes) (forced (log_at c i))) y h.no_start) room left)
    (reserve-fits i y spare seen leaves pend c m g low high settled tells memory)

pub start-good : (i lsn epoch spare : ℕ) (seen : rig.DeviceImages) (leaves : Outcomes) (c : Parts) (m : State)
    → Good seen leaves Pending.Idle c m → leaves 0 (seen 0) → 1 ≤ i → i ≤ 8 → c.due ≡ None
    → (status_at c i ≡ S.Clean) ⊎ (status_at c i ≡ S.Restarting) → lsn ≡ next_lsn (log_at c i) 0 → epoch ≡ epoch_at c i + 1
    → (NoRoomFor i (length (spelling (records.Start lsn epoch))) c → ⊥) → (NoLsnLeft i c → ⊥) → reserve_of (txns_at c i) ≤ spare
    → Good seen leaves (Pending.Starts i) (with_start i lsn epoch spare c) m
start-good i lsn epoch spare seen leaves c m g reads low high idle waits next later room left memory =
    let y : Record = records.Start lsn epoch in
    let pend : Pending = Pending.Idle in
    let settled = settled-up seen leaves pend c m i low high g idle (⊎_elim (λ e. ap up_as e) (λ e. ap up_as e) waits) in
    let tells : tells_log (status_at c i) ≡ true = ⊎_elim (λ e. ap tells_log e) (λ e. ap tells_log e) waits in
    let at = g.settled i low high settled in
    start-seals leaves i spare lsn epoch seen c m g reads (plain-may i y c low high settled tells refl next) waits
    (was-tested i y spare seen leaves pend c m g low high settled tells refl next
    (λ bytes l. later ∙ ap (λ n. n + 1) (sym (ap (λ (b : List ℕ). (past_at (master b) (forced (log_at c i))).epoch) ((at.only bytes).0 l)
    ∙ at.epoch))) room left)
    (reserve-fits i y spare seen leaves pend c m g low high settled tells memory)

-- ---- the refusals

-- A call that tests, and then does what only memory can refuse, is refused by the test or by memory.
pub refused-so : (r : Result (Unit {0}) Refusal) (room left : Type 0) → (room → ⊥) → (left → ⊥) → IfErr r (λ e. e ≡ R.Memory)
    → ((r ≡ Err R.LogFull) ↔ room) × ((r ≡ Err R.LsnEnd) ↔ ((room → ⊥) × left))
    × IfErr r (λ e. (e ≡ R.LogFull) ⊎ ((e ≡ R.LsnEnd) ⊎ (e ≡ R.Memory)))
refused-so (Ok x) room left roomy none only = ((λ e. absurd (cc), λ h. absurd (roomy h)), (λ e. absurd (cc), λ h. absurd (none h.1)), tt)
refused-so (Err e) room left roomy none only =
    ((λ is. absurd (cc), λ h. absurd (roomy h)), (λ is. absurd (cc), λ h. absurd (none h.1)), inr (inr only))

-- ---- what the calls ask for

-- few records are owed by what the table tells
pub few-told : (i : ℕ) (seen : rig.DeviceImages) (leaves : Outcomes) (pend : Pending) (c : Parts) (m : State) → Good seen leaves pend c m
    → leaves 0 (seen 0) → 1 ≤ i → i ≤ 8 → c.due ≡ None → up_as (status_at c i) ≡ true → tells_log (status_at c i) ≡ true
    → owed_of (txns_at c i) < 2 ^ 64
few-told i seen leaves pend c m g reads low high idle up tells =
    let settled = settled-up seen leaves pend c m i low high g idle up in
    let few = few-owed seen leaves pend c m i low high g reads in
    let is = (g.told i low high tells settled).owes in
    omega (arith, few, is)

-- nothing is reserved for a record of no transaction
pub plain-free : (y : Record) → (flat y).kind ≡ Plain → is_closing y ≡ false
plain-free (records.Start l epoch) e = refl
plain-free (records.Update l txn prev page slot capacity before after) e = refl
plain-free (records.Clr l txn prev undo_next page slot after) e = absurd (cc)
plain-free (records.Commit l txn prev) e = absurd (cc)
plain-free (records.End l txn prev) e = absurd (cc)
plain-free (records.BeginCheck l) e = refl
plain-free (records.EndCheck l begin spans recs) e = refl
