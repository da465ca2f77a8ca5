-- What a task leaves that is done: for the goals of the tasks of a recovery.
use Rattle.std.proofs.Common.{◌≡◌, ◌≢◌, ⊎_elim, ℕ, suc, ◌-◌, ◌<◌, ◌≤◌, Bool, true, false, length, refl, sym, ap, ◌∙◌, subst, arith}
use Rattle.std.specs.Prelude.{None, Some, OnOk, Result, Ok, Err, option_and_then, option_map}
use Rattle.std.specs.List.{list_any}
use Rattle.std.proofs.lemmas.Bool.{cases_eq}
use Rattle.std.proofs.lemmas.List.{length-set}
use Rattle.sd_base.specs.declared.ids.TxnId.{TxnId}
use Rattle.sd_log.specs.Logs.{LogState, forced, last_lsn, scanned, with_record}
use Rattle.sd_logrec.specs.View.{flat}
use Rattle.sd_logrec.specs.declared.record.Record.{Record}
use Rattle.sd_page.specs.Page.{Page}
use Rattle.sd_rig.specs.Devices.{DeviceImages}
use Rattle.sd_chain.specs.Fates.{commits}
use Rattle.sd_chain.specs.Logs.{base_at}
use Rattle.sd_chain.specs.Pages.{redo}
use Rattle.sd_chain.specs.Records.{home}
use Rattle.sd_chain.specs.Undoing.{Apart}
use Rattle.sd_moves.specs.Places.{with_directory}
use Rattle.sd_moves.specs.Putting.{with_loose_disk}
use Rattle.sd_moves.specs.Settling.{IsReread, with_reread}
use Rattle.sd_pagelock.specs.Directory.{entry_at, kept_rec, rec_lsn_at}
use Rattle.sd_pagelock.specs.Places.{PageEntry, changed, is_lost, owns}
use Rattle.sd_pool.specs.Buffers.{image_at, rewritten}
use Rattle.sd_txn.specs.Transactions.{OthersStay, Replaces, SameOrder, Transaction, Transactions, ids, noted, popped, shut, top, top_at, txn_at, with_state}
use Rattle.sd_txn.specs.declared.state.OpenRec.{OpenRec}
use Rattle.sd_state.specs.Forcing.{with_forced}
use Rattle.sd_state.specs.Locking.{IsSet}
use Rattle.sd_state.specs.Parts.{Parts, is_loose, log_at, no_log, no_pool, no_txns, owed_at, pool_at, status_at, txns_at}
use Rattle.sd_state.specs.Recovering.{decided_as, with_recovered, with_table}
use Rattle.sd_state.proofs.Items.{item-kept, item-set}
use Rattle.sd_state.proofs.Lasts.{last-forced, last-more}
use Rattle.sd_update.specs.Sealing.{HasEnd, end_of}
use Rattle.sd_update.specs.Undoing.{clr_at, lsn_for}
use Rattle.sd_update.specs.UndoingFor.{HasUndoneFor, own_forced}
use Rattle.sd_fits.specs.Untouched.{HasChanged, IsUntouched, none_of, only}
use Rattle.sd_world.specs.Answers.{IsLowestLost}
use Rattle.sd_recover.specs.Doing.{Does}
use Rattle.sd_recover.specs.Recovering.{SettlesOne}
use Rattle.sd_recover.specs.Tasks.{AreSettled, tasks_in}
use Rattle.sd_recover.specs.Work.{is_lost_at, steps_left}
use Rattle.sd_recover.specs.declared.tasks.Task.TheVariants as task
use Rattle.sd_recover.proofs.Touched.{only-other}
use Rattle.sd_recover.proofs.Lowered.{disk-lowers, free-lowers, log-lowers, row-lowers}

-- ---- a device is settled

module _ (i by dev : ℕ) (seen seen' : DeviceImages) (old new : Parts) (low : 1 ≤ i) (high : i ≤ 8) (dev_high : dev ≤ 8)
    (nine : length old.loose ≡ 9) (loose : is_loose old dev ≡ true) (once : Apart (ids (txns_at old i)))
    (once' : Apart (ids (txns_at new i))) (reads : (d : ℕ) → seen' d ≡ seen d) (settles : SettlesOne dev old new)
    (disk : dev ≡ 0 → new ≡ with_loose_disk false old) (log : 1 ≤ dev → new ≡ with_reread dev new old)
    (found : 1 ≤ dev → IsReread dev (seen dev) old new) where
  settled-stands : (j : ℕ) → status_at new j ≡ status_at old j
  settled-stands j = ⊎_elim
      (λ zero. ap (λ (k : Parts). status_at k j) (disk zero))
      (λ ne. ap (λ (k : Parts). status_at k j) (log (omega (arith, ne))))
      (cases_eq dev 0)

  settled-falls : steps_left seen' new i < steps_left seen old i
  settled-falls = ⊎_elim
      (λ zero. disk-lowers i seen seen' old new low nine (subst (λ (d : ℕ). is_loose old d ≡ true) zero loose) (disk zero) (reads i))
      (λ ne. log-lowers i seen seen' old new dev low high (omega (arith, ne)) dev_high nine once once' loose (log (omega (arith, ne)))
      (found (omega (arith, ne))) (reads i))
      (cases_eq dev 0)

  pub settle-does : Does i by seen seen' (task.Settle dev) old new
  settle-does = record {
    done = settles;
    leaves = (disk, λ lo. (log lo, found lo));
    stands = settled-stands;
    falls = settled-falls;
  }

-- ---- a page is free

pub free-does : (i by p : ℕ) (seen seen' : DeviceImages) (old new : Parts) → p < 1024 → AreSettled old
    → IsLowestLost (entry_at old.directory) p → new ≡ with_directory new.directory old
    → IsSet p PageEntry.Free None old.directory new.directory → seen' i ≡ seen i → Does i by seen seen' (task.Rebuild p) old new
free-does i by p seen seen' old new lt settled lowest is set same = record {
  done = ((λ d le. ap (λ (k : Parts). is_loose k d) is ∙ settled d le), set.entry, set.others);
  leaves = (is, set);
  stands = λ j. ap (λ (k : Parts). status_at k j) is;
  falls = free-lowers i seen seen' old new p lt is lowest.0 set.entry set.others same;
}

-- where the call was done
pub freed-ok : {X E : Type 0} (r : Result X E) (i by p : ℕ) (seen seen' : DeviceImages) (old new : Parts) → p < 1024 → AreSettled old
    → IsLowestLost (entry_at old.directory) p → OnOk r (new ≡ with_directory new.directory old)
    → OnOk r (IsSet p PageEntry.Free None old.directory new.directory) → seen' i ≡ seen i
    → OnOk r (Does i by seen seen' (task.Rebuild p) old new)
freed-ok (Ok x) i by p seen seen' old new lt settled lowest is set same = free-does i by p seen seen' old new lt settled lowest is set same
freed-ok (Err e) i by p seen seen' old new lt settled lowest is set same = tt

-- ---- a decision is made

module _ (t : TxnId) (by : ℕ) (seen seen' : DeviceImages) (old mid new : Parts) (x : Transaction) (committed : Bool)
    (settled : is_loose old (home t) ≡ false) (kept : committed ≡ list_any (commits t) (base_at (log_at mid (home t))))
    (forces : mid ≡ with_forced (home t) (forced (log_at old (home t))) (owed_at mid (home t)) old)
    (is : new ≡ with_table (home t) (txns_at new (home t)) mid) (row : txn_at (txns_at mid (home t)) t ≡ Some x)
    (now : txn_at (txns_at new (home t)) t
    ≡ option_map (with_state (decided_as committed)) (txn_at (txns_at mid (home t)) t))
    (others : OthersStay (txns_at mid (home t)) (txns_at new (home t)) t) (order : SameOrder (txns_at mid (home t)) (txns_at new (home t)))
    (fewer : suc (tasks_in (txns_at new (home t))) ≡ tasks_in (txns_at old (home t))) where
  made : new ≡ with_table (home t) (txns_at new (home t)) (with_forced (home t) (forced (log_at old (home t))) (owed_at mid (home t)) old)
  made = is ∙ ap (with_table (home t) (txns_at new (home t))) forces

  replaced : Replaces (txns_at mid (home t)) (txns_at new (home t)) t x (with_state (decided_as committed) x)
  replaced = record {
    was = row;
    now = now ∙ ap (option_map (with_state (decided_as committed))) row;
    others = others;
    order = order;
  }

  untouched : IsUntouched none_of none_of old new
  untouched = record {
    loose = ap (λ (k : Parts). k.loose) made;
    checks = ap (λ (k : Parts). k.checks) made;
    masters = ap (λ (k : Parts). k.masters) made;
    others = ap (λ (k : Parts). k.others) made;
    disk_lsn = ap (λ (k : Parts). k.disk_lsn) made;
    pools = λ j off. ap (λ (k : Parts). pool_at k j) made;
    recs = λ p off. ap (λ (k : Parts). rec_lsn_at k.directory p) made;
  }

  pub decide-does : Does (home t) by seen seen' (task.Decide t) old new
  decide-does = record {
    done = (
      x,
      subst (λ (b : Bool). Replaces (txns_at old (home t)) (txns_at new (home t)) t x (with_state (decided_as b) x))
          (kept ∙ ap (λ (l : LogState). list_any (commits t) (base_at l)) (sym (ap (λ (k : Parts). log_at k (home t)) is)))
          (subst (λ (p : Parts). Replaces (txns_at p (home t)) (txns_at new (home t)) t x (with_state (decided_as committed) x)) forces replaced),
    );
    leaves = untouched;
    stands = λ j. ap (λ (k : Parts). status_at k j) made;
    falls = row-lowers (home t) seen seen' old new settled (ap (λ (k : Parts). k.loose) made) (λ p. ap (λ (k : Parts). is_lost_at k p) made) fewer;
  }

-- ---- the recovery ends

pub finish-untouched : (i : ℕ) (old mid new : Parts) → mid ≡ with_forced i (forced (log_at old i)) (owed_at mid i) old
    → new ≡ with_recovered i new.locks mid → IsUntouched none_of none_of old new
finish-untouched i old mid new forces is = record {
  loose = ap (λ (k : Parts). k.loose) is ∙ ap (λ (k : Parts). k.loose) forces;
  checks = ap (λ (k : Parts). k.checks) is ∙ ap (λ (k : Parts). k.checks) forces;
  masters = ap (λ (k : Parts). k.masters) is ∙ ap (λ (k : Parts). k.masters) forces;
  others = ap (λ (k : Parts). k.others) is ∙ ap (λ (k : Parts). k.others) forces;
  disk_lsn = ap (λ (k : Parts). k.disk_lsn) is ∙ ap (λ (k : Parts). k.disk_lsn) forces;
  pools = λ j off. ap (λ (k : Parts). pool_at k j) is ∙ ap (λ (k : Parts). pool_at k j) forces;
  recs = λ p off. ap (λ (k : Parts). rec_lsn_at k.directory p) is ∙ ap (λ (k : Parts). rec_lsn_at k.directory p) forces;
}

-- ---- want of memory

pub same-untouched : (old new : Parts) → new ≡ old → IsUntouched none_of none_of old new
same-untouched old new is = record {
  loose = ap (λ (k : Parts). k.loose) is;
  checks = ap (λ (k : Parts). k.checks) is;
  masters = ap (λ (k : Parts). k.masters) is;
  others = ap (λ (k : Parts). k.others) is;
  disk_lsn = ap (λ (k : Parts). k.disk_lsn) is;
  pools = λ j off. ap (λ (k : Parts). pool_at k j) is;
  recs = λ p off. ap (λ (k : Parts). rec_lsn_at k.directory p) is;
}

-- a log alone is forced
pub forced-untouched : (a owes : ℕ) (old new : Parts) → new ≡ own_forced a owes old → IsUntouched none_of none_of old new
forced-untouched a owes old new is = record {
  loose = ap (λ (k : Parts). k.loose) is;
  checks = ap (λ (k : Parts). k.checks) is;
  masters = ap (λ (k : Parts). k.masters) is;
  others = ap (λ (k : Parts). k.others) is;
  disk_lsn = ap (λ (k : Parts). k.disk_lsn) is;
  pools = λ j off. ap (λ (k : Parts). pool_at k j) is;
  recs = λ p off. ap (λ (k : Parts). rec_lsn_at k.directory p) is;
}

-- ---- an End came

module _ (t : TxnId) (by : ℕ) (seen seen' : DeviceImages) (old sealed new : Parts) (low : 1 ≤ home t) (high : home t ≤ 8)
    (eight : length old.txns ≡ 8) (settled : is_loose old (home t) ≡ false) (h : HasEnd t (λ x. end_of t x old) old sealed)
    (forces : new ≡ with_forced (home t) (forced (log_at sealed (home t))) (owed_at new (home t)) sealed)
    (fewer : suc (tasks_in (txns_at new (home t))) ≡ tasks_in (txns_at old (home t))) where
  table-then : txns_at new (home t) ≡ h.table
  table-then = ap (λ (k : Parts). txns_at k (home t)) forces ∙ ap (λ (k : Parts). txns_at k (home t)) h.is
      ∙ item-set no_txns old.txns (home t) h.table low high eight

  end-untouched : IsUntouched none_of none_of old new
  end-untouched = record {
    loose = ap (λ (k : Parts). k.loose) forces ∙ ap (λ (k : Parts). k.loose) h.is;
    checks = ap (λ (k : Parts). k.checks) forces ∙ ap (λ (k : Parts). k.checks) h.is;
    masters = ap (λ (k : Parts). k.masters) forces ∙ ap (λ (k : Parts). k.masters) h.is;
    others = ap (λ (k : Parts). k.others) forces ∙ ap (λ (k : Parts). k.others) h.is;
    disk_lsn = ap (λ (k : Parts). k.disk_lsn) forces ∙ ap (λ (k : Parts). k.disk_lsn) h.is;
    pools = λ j off. ap (λ (k : Parts). pool_at k j) forces ∙ ap (λ (k : Parts). pool_at k j) h.is;
    recs = λ p off. ap (λ (k : Parts). rec_lsn_at k.directory p) forces ∙ ap (λ (k : Parts). rec_lsn_at k.directory p) h.is;
  }

  pub end-does : Does (home t) by seen seen' (task.End t) old new
  end-does = record {
    done = (h.x, subst (λ (b : Transactions). Replaces (txns_at old (home t)) b t h.x (shut h.x)) (sym table-then) h.ended.row);
    leaves = end-untouched;
    stands = λ j. ap (λ (k : Parts). status_at k j) forces ∙ ap (λ (k : Parts). status_at k j) h.is;
    falls = row-lowers (home t) seen seen' old new settled (ap (λ (k : Parts). k.loose) forces ∙ ap (λ (k : Parts). k.loose) h.is)
        (λ p. ap (λ (k : Parts). is_lost_at k p) forces ∙ ap (λ (k : Parts). is_lost_at k p) h.is) fewer;
  }

-- ---- a record is undone

-- whoever has a page alone, it isn't lost
owned-there : (e : PageEntry) (a : ℕ) → owns e a ≡ true → is_lost e ≡ false
owned-there PageEntry.Free a e = absurd (cc)
owned-there (PageEntry.Shared set writer) a e = refl
owned-there (PageEntry.Excl holder dirty) a e = refl
owned-there (PageEntry.Moving to mode rest dirty) a e = refl
owned-there PageEntry.Lost a e = absurd (cc)

some-same : (a b : OpenRec) → Some a ≡ Some b → a ≡ b
some-same a b e = cc

-- the page of a transaction's last open record
pub undone-page : (t : TxnId) (page : ℕ) (table : Transactions) (x : Transaction) (o r : OpenRec) → top_at table t ≡ Some o
    → page ≡ o.rid.page → txn_at table t ≡ Some x → top x ≡ Some r → page ≡ r.rid.page
undone-page t page table x o r last of row top' =
    of ∙ ap (λ (z : OpenRec). z.rid.page) (some-same o r (sym last ∙ ap (option_and_then top) row ∙ top'))

module _ (t : TxnId) (a page : ℕ) (seen seen' : DeviceImages) (old new : Parts) (low : 1 ≤ home t) (high : home t ≤ 8)
    (a_low : 1 ≤ a) (eight : length old.logs ≡ 8) (settled : is_loose old (home t) ≡ false) (o : OpenRec) (last : top_at (txns_at old (home t)) t ≡ Some o) (of : page ≡ o.rid.page)
    (held : owns (entry_at old.directory page) a ≡ true) (u : HasUndoneFor a t old new)
    (fewer : suc (tasks_in (txns_at new (home t))) ≡ tasks_in (txns_at old (home t))) where
  -- that page
  its-page : page ≡ u.undone.o.rid.page
  its-page = undone-page t page (txns_at old (home t)) u.undone.x o u.undone.o last of u.undone.row u.undone.last

  undo-loose : new.loose ≡ old.loose
  undo-loose = ap (λ (k : Parts). k.loose) u.forced ∙ ap (λ (k : Parts). k.loose) u.undone.rest

  other-page : (q : ℕ) → q ≢ page → q ≢ u.undone.o.rid.page
  other-page q ne e = ne (e ∙ sym its-page)

  undo-pools : (j : ℕ) → only a j ≡ false → pool_at new j ≡ pool_at old j
  undo-pools j off = ap (λ (k : Parts). pool_at k j) u.forced ∙ ap (λ (k : Parts). pool_at k j) u.undone.rest
      ∙ item-kept no_pool old.pools a (pool_at u.between a) a_low j (only-other a j off)

  undo-recs : (q : ℕ) → only page q ≡ false → rec_lsn_at new.directory q ≡ rec_lsn_at old.directory q
  undo-recs q off = ap (λ (k : Parts). rec_lsn_at k.directory q) u.forced
      ∙ u.undone.undone.other_rec_lsns q (other-page q (only-other page q off))

  undo-lost : (q : ℕ) → is_lost_at new q ≡ is_lost_at old q
  undo-lost q = ap (λ (k : Parts). is_lost_at k q) u.forced ∙ ⊎_elim here away (cases_eq q page)
    where
      here : q ≡ page → is_lost_at u.between q ≡ is_lost_at old q
      here e = ap (is_lost_at u.between) (e ∙ its-page) ∙ ap is_lost u.undone.undone.entry
          ∙ sym (ap (is_lost_at old) e ∙ owned-there (entry_at old.directory page) a held)

      away : q ≢ page → is_lost_at u.between q ≡ is_lost_at old q
      away ne = ap is_lost (u.undone.undone.other_entries q (other-page q ne))

  undo-untouched : IsUntouched (only a) (only page) old new
  undo-untouched = record {
    loose = undo-loose;
    checks = ap (λ (k : Parts). k.checks) u.forced ∙ ap (λ (k : Parts). k.checks) u.undone.rest;
    masters = ap (λ (k : Parts). k.masters) u.forced ∙ ap (λ (k : Parts). k.masters) u.undone.rest;
    others = ap (λ (k : Parts). k.others) u.forced ∙ ap (λ (k : Parts). k.others) u.undone.rest;
    disk_lsn = ap (λ (k : Parts). k.disk_lsn) u.forced ∙ ap (λ (k : Parts). k.disk_lsn) u.undone.rest;
    pools = undo-pools;
    recs = undo-recs;
  }

  -- the log of whom it recovers when its own is forced, and with the undo's record
  abbrev had : LogState
  had = log_at (own_forced a u.owes old) (home t)

  abbrev record_of : Record
  record_of = clr_at t u.undone.x u.undone.o u.undone.image (own_forced a u.owes old)

  logs-eight : length u.between.logs ≡ 8
  logs-eight = ap (λ (k : Parts). length k.logs) u.undone.rest
      ∙ length-set (own_forced a u.owes old).logs (home t - 1) (log_at u.between (home t))
      ∙ length-set old.logs (a - 1) (forced (log_at old a)) ∙ eight

  log-then : log_at new (home t) ≡ forced (with_record record_of u.undone.undone.spare had)
  log-then = ap (λ (k : Parts). log_at k (home t)) u.forced
      ∙ item-set no_log u.between.logs (home t) (forced (log_at u.between (home t))) low high logs-eight
      ∙ ap forced u.undone.undone.grown

  -- the last record of that log is the undo's
  undo-last : lsn_for t u.undone.image (own_forced a u.owes old) ≡ last_lsn (scanned (log_at new (home t)))
  undo-last = sym (ap (λ (l : LogState). last_lsn (scanned l)) log-then
      ∙ last-forced (with_record record_of u.undone.undone.spare had) ∙ last-more had record_of u.undone.undone.spare)

  abbrev redone : Page
  redone = redo u.undone.image (flat record_of)

  abbrev undo_changed : HasChanged a page old new
  undo_changed = record {
    image = redone;
    copy = ap (λ (k : Parts). image_at (pool_at k a) page) u.forced
        ∙ subst (λ (q : ℕ). image_at (pool_at u.between a) q ≡ Some redone) (sym its-page) u.undone.undone.page;
    pool = ap (λ (k : Parts). pool_at k a) u.forced
        ∙ subst (λ (q : ℕ). pool_at u.between a ≡ rewritten (pool_at old a) q redone) (sym its-page) u.undone.undone.rewrites;
    rec_lsn = subst (λ (q : ℕ). rec_lsn_at new.directory q
        ≡ kept_rec (changed (entry_at old.directory q)) true (rec_lsn_at old.directory q) (Some redone.lsn)) (sym its-page)
        (ap (λ (k : Parts). rec_lsn_at k.directory u.undone.o.rid.page) u.forced ∙ u.undone.undone.rec_lsn);
    rest = undo-untouched;
  }

  pub undo-does : Does (home t) a seen seen' (task.Undo t page) old new
  undo-does = record {
    done = (
      u.undone.x,
      subst (λ (lsn : ℕ). Replaces (txns_at old (home t)) (txns_at new (home t)) t u.undone.x (noted lsn (popped u.undone.x))) undo-last
          (subst (λ (b : Transactions). Replaces (txns_at old (home t)) b t u.undone.x
          (noted (lsn_for t u.undone.image (own_forced a u.owes old)) (popped u.undone.x)))
          (sym (ap (λ (k : Parts). txns_at k (home t)) u.forced)) u.undone.undone.row),
    );
    leaves = (undo_changed, undo-last);
    stands = λ j. ap (λ (k : Parts). status_at k j) u.forced ∙ ap (λ (k : Parts). status_at k j) u.undone.rest;
    falls = row-lowers (home t) seen seen' old new settled undo-loose undo-lost fewer;
  }
