-- What calls leave that no world has. For the clauses `untouched` and `logged` of all calls.
use Rattle.std.proofs.Common.{◌≡◌, ◌≢◌, ◌⊎◌, ⊎_elim, inl, inr, ℕ, ◌≤◌, Bool, true, false, cond, eqb, refl, sym, ap, ◌∙◌, subst, arith, eq-eqb, ne_eqb}
use Rattle.std.specs.Prelude.{Option, Some, ◌&&◌, is_none, unwrap_or}
use Rattle.std.specs.Option.{option_and_then}
use Rattle.std.proofs.lemmas.Bool.{cases_eq}
use Rattle.std.proofs.lemmas.List.{get_or-set_other, get_or-set_same}
use Rattle.sd_base.specs.declared.ids.Rid.{Rid}
use Rattle.sd_base.specs.declared.ids.TxnId.{TxnId}
use Rattle.sd_chain.specs.Logs.{all_at}
use Rattle.sd_chain.specs.Pages.{redo}
use Rattle.sd_chain.specs.Records.{home}
use Rattle.sd_chain.proofs.Appends.{appended-log}
use Rattle.sd_log.specs.Logs.{LogState, has_tail, with_record}
use Rattle.sd_logrec.specs.View.{flat}
use Rattle.sd_logrec.specs.declared.record.Record.{Record}
use Rattle.sd_model.specs.Tables.{Content}
use Rattle.sd_moves.specs.Falling.{IsFallen, emptied_pool, falls_at, owed_dropped, unsettles_at, with_fallen}
use Rattle.sd_page.specs.Page.{Page, empty_page}
use Rattle.sd_pagelock.specs.Directory.{rec_lsn_at}
use Rattle.sd_pool.specs.Buffers.{Buffers, image_at, used}
use Rattle.sd_reclock.specs.Locks.{LockTable}
use Rattle.sd_state.specs.Forcing.{with_failed, with_forced}
use Rattle.sd_state.specs.Locking.{with_place}
use Rattle.sd_state.specs.Parts.{IsShape, Parts, is_loose, log_at, no_log, no_pool, no_txns, pool_at, txns_at}
use Rattle.sd_state.specs.Working.{with_locks, with_txns, with_working}
use Rattle.sd_state.proofs.Items.{item-kept, item-set}
use Rattle.sd_txn.specs.Transactions.{Transaction, Transactions, top, top_at}
use Rattle.sd_update.specs.Changing.{Change, IsMade, change_of, changed_log, flat_of, image_for, update}
use Rattle.sd_update.specs.Sealing.{with_last}
use Rattle.sd_update.specs.Undoing.{HasUndone, clr_at}
use Rattle.sd_fits.specs.Untouched.{FallTouches, HasChanged, IsUntouched, none_of, only}
use Rattle.sd_fits.proofs.Falling.{pool-emptied}
use Rattle.sd_ops.specs.Leaving.{HasUsed, OnlyLocks}
use Rattle.sd_ops.specs.Logged.{HasCompensated, IsLogged}

-- ---- nothing is touched

pub same-untouched : (c : Parts) → IsUntouched none_of none_of c c
same-untouched c = record {
  loose = refl;
  checks = refl;
  masters = refl;
  others = refl;
  disk_lsn = refl;
  pools = λ j out. refl;
  recs = λ p out. refl;
}

-- what parts have by a locks-only change
pub only-locks : (old new : Parts) → new ≡ with_locks new.locks old → OnlyLocks old new
only-locks old new is = record {
  rest = is;
  untouched = subst (IsUntouched none_of none_of old) (sym is) (record {
    loose = refl;
    checks = refl;
    masters = refl;
    others = refl;
    disk_lsn = refl;
    pools = λ j out. refl;
    recs = λ p out. refl;
  });
}

pub locks-same : (old new : Parts) → new ≡ old → OnlyLocks old new
locks-same old new is = only-locks old new (is ∙ ap (λ (l : LockTable). with_locks l old) (sym (ap (λ (c : Parts). c.locks) is)))

pub locks-then : (old mid new : Parts) → OnlyLocks old mid → new ≡ with_locks new.locks mid → OnlyLocks old new
locks-then old mid new h is = only-locks old new (is ∙ ap (with_locks new.locks) h.rest)

-- what was touched, and locks after it
pub touched-locks : (whose which : ℕ → Bool) (old mid new : Parts) → IsUntouched whose which old mid → new ≡ with_locks new.locks mid
    → IsUntouched whose which old new
touched-locks whose which old mid new h is = subst (IsUntouched whose which old) (sym is) (record {
  loose = h.loose;
  checks = h.checks;
  masters = h.masters;
  others = h.others;
  disk_lsn = h.disk_lsn;
  pools = h.pools;
  recs = h.recs;
})

pub changed-locks : (i p : ℕ) (old mid new : Parts) → HasChanged i p old mid → new ≡ with_locks new.locks mid → HasChanged i p old new
changed-locks i p old mid new h is = subst (HasChanged i p old) (sym is) (record {
  image = h.image;
  copy = h.copy;
  pool = h.pool;
  rec_lsn = h.rec_lsn;
  rest = touched-locks (only i) (only p) old mid (with_locks new.locks mid) h.rest refl;
})

pub logged-locks : (k : Change) (old mid new : Parts) → IsLogged k old mid → new ≡ with_locks new.locks mid → IsLogged k old new
logged-locks k old mid new h is = subst (IsLogged k old) (sym is) (record { log = h.log; others = h.others; page = h.page })

-- and locks before it
pub locks-changed : (i p : ℕ) (l : LockTable) (old new : Parts) → HasChanged i p (with_locks l old) new → HasChanged i p old new
locks-changed i p l old new h = record {
  image = h.image;
  copy = h.copy;
  pool = h.pool;
  rec_lsn = h.rec_lsn;
  rest = record {
    loose = h.rest.loose;
    checks = h.rest.checks;
    masters = h.rest.masters;
    others = h.rest.others;
    disk_lsn = h.rest.disk_lsn;
    pools = h.rest.pools;
    recs = h.rest.recs;
  };
}

pub locks-logged : (k : Change) (l : LockTable) (old new : Parts) → IsLogged k (with_locks l old) new → IsLogged k old new
locks-logged k l old new h = record { log = h.log; others = h.others; page = h.page }

-- one that differs is not the only one
pub not-only : (i j : ℕ) → only i j ≡ false → j ≢ i
not-only i j out e = let same = eq-eqb i j (sym e) in absurd (cc)

-- ---- a change that is made

module _ (t : TxnId) (r : Rid) (capacity : ℕ) (after : Content) (old new : Parts) (s : IsShape old)
    (made : IsMade (change_of t r capacity after old) old new) where
  abbrev change : Change
  change = change_of t r capacity after old

  abbrev own : ℕ
  own = home t

  abbrev copied : Page
  copied = redo (image_for t r.page old) (flat_of change)

  log-here : log_at new own ≡ changed_log own change made.put.spare old
  log-here = ap (λ (c : Parts). log_at c own) made.put.is
      ∙ item-set no_log old.logs own (changed_log own change made.put.spare old) made.may.low made.may.high s.logs

  pool-here : pool_at new own ≡ made.put.pool
  pool-here = ap (λ (c : Parts). pool_at c own) made.put.is
      ∙ item-set no_pool old.pools own made.put.pool made.may.low made.may.high s.pools

  copy-here : image_at (pool_at new own) r.page ≡ Some copied
  copy-here = ap (λ (b : Buffers). image_at b r.page) pool-here ∙ made.put.changed.page

  pub made-logged : IsLogged change old new
  made-logged = record {
    log = ap all_at log-here ∙ appended-log (log_at old own) (update change) made.put.spare;
    others = λ j ne. ap (λ (c : Parts). log_at c j) made.put.is
        ∙ item-kept no_log old.logs own (changed_log own change made.put.spare old) made.may.low j ne;
    page = ap (λ (o : Option Page). (unwrap_or o (empty_page r.page)).lsn) copy-here;
  }

  pub made-changed : HasChanged own r.page old new
  made-changed = record {
    image = copied;
    copy = copy-here;
    pool = pool-here ∙ made.put.changed.rewrites;
    rec_lsn = ap (λ (c : Parts). rec_lsn_at c.directory r.page) made.put.is ∙ made.put.changed.rec_lsn;
    rest = record {
      loose = ap (λ (c : Parts). c.loose) made.put.is;
      checks = ap (λ (c : Parts). c.checks) made.put.is;
      masters = ap (λ (c : Parts). c.masters) made.put.is;
      others = ap (λ (c : Parts). c.others) made.put.is;
      disk_lsn = ap (λ (c : Parts). c.disk_lsn) made.put.is;
      pools = λ j out. ap (λ (c : Parts). pool_at c j) made.put.is
          ∙ item-kept no_pool old.pools own made.put.pool made.may.low j (not-only own j out);
      recs = λ p out. ap (λ (c : Parts). rec_lsn_at c.directory p) made.put.is
          ∙ made.put.changed.other_rec_lsns p (not-only r.page p out);
    };
  }

-- ---- a change that is undone

module _ (t : TxnId) (due : Option (ℕ × ℕ)) (old new : Parts) (low : 1 ≤ home t)
    (h : HasUndone (home t) due t old new) where
  abbrev by : ℕ
  by = home t

  pub undone-top : top_at (txns_at old by) t ≡ Some h.o
  undone-top = ap (λ (row : Option Transaction). option_and_then top row) h.row ∙ h.last

  pub undone-changed : HasChanged by h.o.rid.page old new
  undone-changed = record {
    image = redo h.image (flat (clr_at t h.x h.o h.image old));
    copy = h.undone.page;
    pool = h.undone.rewrites;
    rec_lsn = h.undone.rec_lsn;
    rest = record {
      loose = ap (λ (c : Parts). c.loose) h.rest;
      checks = ap (λ (c : Parts). c.checks) h.rest;
      masters = ap (λ (c : Parts). c.masters) h.rest;
      others = ap (λ (c : Parts). c.others) h.rest;
      disk_lsn = ap (λ (c : Parts). c.disk_lsn) h.rest;
      pools = λ j out. ap (λ (c : Parts). pool_at c j) h.rest
          ∙ item-kept no_pool old.pools by (pool_at new by) low j (not-only by j out);
      recs = λ p out. h.undone.other_rec_lsns p (not-only h.o.rid.page p out);
    };
  }

  pub undone-logged : HasCompensated t old new
  undone-logged = record {
    x = h.x;
    o = h.o;
    image = h.image;
    row = h.row;
    last = h.last;
    copy = h.copy;
    log = ap all_at h.undone.grown ∙ appended-log (log_at old by) (clr_at t h.x h.o h.image old) h.undone.spare;
    others = λ j ne. ap (λ (c : Parts). log_at c j) h.rest ∙ item-kept no_log old.logs by (log_at new by) low j ne;
    page = h.undone.page;
  }

-- ---- a fall by the force of a transaction's last record

-- one of two is so
either : (u l : Bool) → cond u true l ≡ true → (u ≡ true) ⊎ (l ≡ true)
either true l is = inl refl
either false l is = inr is

both : (u l : Bool) → l ≡ true → cond u true l ≡ true
both true l is = refl
both false l is = is

by-test : (b x y : Bool) (P : Type 0) → b ≡ false → cond b x y ≡ true → (y ≡ true → P) → P
by-test true x y P out is f = absurd (cc)
by-test false x y P out is f = f is

to-test : (b x y : Bool) → b ≡ false → y ≡ true → cond b x y ≡ true
to-test true x y out is = absurd (cc)
to-test false x y out is = is

module _ (i a spare : ℕ) (y : Record) (table : Transactions) (old new : Parts) (low : 1 ≤ i) (high : i ≤ 8) (s : IsShape old) where
  -- the record has come, and its force has failed
  abbrev cut : Parts
  cut = with_failed a i (with_last i y spare table old)

  loose-else : (d : ℕ) → d ≢ i → is_loose cut d ≡ is_loose old d
  loose-else d ne = get_or-set_other old.loose i d true true ne

  module _ (is : new ≡ with_fallen i new cut) (fell : IsFallen i cut new) where
    unsettled : (d : ℕ) → d ≢ i → unsettles_at i cut d ≡ true → unsettles_at i old d ≡ true
    unsettled d ne is_so =
        let out : eqb i d ≡ false = ne_eqb i d (λ e. ne (sym e)) in
        let log : has_tail (log_at cut d) ≡ has_tail (log_at old d) = ap has_tail
        (item-kept no_log old.logs i (with_record y spare (log_at old i)) low d ne) in
        by-test (eqb i d) (is_none (owed_dropped i cut)) (falls_at i cut d && has_tail (log_at cut d)) (unsettles_at i old d ≡ true) out is_so
        (λ falls. to-test (eqb i d) (is_none (owed_dropped i old)) (falls_at i old d && has_tail (log_at old d)) out
        (subst (λ (b : Bool). falls_at i old d && b ≡ true) log falls))

    loosened : (d : ℕ) → is_loose new d ≡ true → (is_loose old d ≡ true) ⊎ ((only i d ≡ true) ⊎ (unsettles_at i old d ≡ true))
    loosened d now = ⊎_elim
        (λ e. inr (inl (eq-eqb i d (sym e))))
        (λ ne. ⊎_elim (λ u. inr (inr (unsettled d ne u))) (λ l. inl (sym (loose-else d ne) ∙ l))
        (either (unsettles_at i cut d) (is_loose cut d) (sym (fell.loose d) ∙ now)))
        (cases_eq d i)

    stays : (d : ℕ) → is_loose old d ≡ true → is_loose new d ≡ true
    stays d was = fell.loose d ∙ both (unsettles_at i cut d) (is_loose cut d) (⊎_elim
        (λ e. subst (λ (n : ℕ). is_loose cut n ≡ true) (sym e) (get_or-set_same old.loose i true true (let n = s.loose in omega (arith, n, high))))
        (λ ne. loose-else d ne ∙ was)
        (cases_eq d i))

    pub fall-touches : FallTouches i (only i) none_of old new
    fall-touches = record {
      status = fell.status;
      loose = loosened;
      stays = stays;
      tables = λ k ne. ap (λ (c : Parts). txns_at c k) is ∙ item-kept no_txns cut.txns i (txns_at new i) low k ne
          ∙ item-kept no_txns old.txns i table low k ne;
      checks = ap (λ (c : Parts). c.checks) is;
      masters = ap (λ (c : Parts). c.masters) is;
      others = ap (λ (c : Parts). c.others) is;
      disk_lsn = ap (λ (c : Parts). c.disk_lsn) is;
      pool = ap (λ (c : Parts). pool_at c i) is ∙ pool-emptied i cut new;
      pools = λ k ne. ap (λ (c : Parts). pool_at c k) is ∙ item-kept no_pool old.pools i (emptied_pool (pool_at cut i)) low k ne;
      recs = λ p out. fell.rec_lsns p;
    }

-- ---- steps that touch nothing

pub untouched-then : (old mid new : Parts) → IsUntouched none_of none_of old mid → IsUntouched none_of none_of mid new
    → IsUntouched none_of none_of old new
untouched-then old mid new one two = record {
  loose = two.loose ∙ one.loose;
  checks = two.checks ∙ one.checks;
  masters = two.masters ∙ one.masters;
  others = two.others ∙ one.others;
  disk_lsn = two.disk_lsn ∙ one.disk_lsn;
  pools = λ j out. two.pools j out ∙ one.pools j out;
  recs = λ p out. two.recs p out ∙ one.recs p out;
}

-- the table and the locks
pub working-untouched : (i : ℕ) (table : Transactions) (l : LockTable) (old new : Parts) → new ≡ with_working i table l old
    → IsUntouched none_of none_of old new
working-untouched i table l old new is = subst (IsUntouched none_of none_of old) (sym is) (record {
  loose = refl;
  checks = refl;
  masters = refl;
  others = refl;
  disk_lsn = refl;
  pools = λ j out. refl;
  recs = λ p out. refl;
})

pub txns-untouched : (i : ℕ) (table : Transactions) (old new : Parts) → new ≡ with_txns i table old → IsUntouched none_of none_of old new
txns-untouched i table old new is = working-untouched i table old.locks old new is

-- a transaction's last record
pub last-untouched : (i spare : ℕ) (y : Record) (table : Transactions) (old new : Parts) → new ≡ with_last i y spare table old
    → IsUntouched none_of none_of old new
last-untouched i spare y table old new is = subst (IsUntouched none_of none_of old) (sym is) (record {
  loose = refl;
  checks = refl;
  masters = refl;
  others = refl;
  disk_lsn = refl;
  pools = λ j out. refl;
  recs = λ p out. refl;
})

-- and its force
pub forced-untouched : (i : ℕ) (log : LogState) (owes : ℕ) (old new : Parts) → new ≡ with_forced i log owes old
    → IsUntouched none_of none_of old new
forced-untouched i log owes old new is = subst (IsUntouched none_of none_of old) (sym is) (record {
  loose = refl;
  checks = refl;
  masters = refl;
  others = refl;
  disk_lsn = refl;
  pools = λ j out. refl;
  recs = λ p out. refl;
})

-- ---- a page is used

pub used-left : (i p : ℕ) (old mid new : Parts) → 1 ≤ i → i ≤ 8 → IsShape mid → OnlyLocks old mid
    → new ≡ with_place i (used (pool_at mid i) p) mid.directory mid → HasUsed i p old new
used-left i p old mid new low high s h is = record {
  pool = ap (λ (c : Parts). pool_at c i) is ∙ item-set no_pool mid.pools i (used (pool_at mid i) p) low high s.pools
      ∙ ap (λ (c : Parts). used (pool_at c i) p) h.rest;
  rest = record {
    loose = ap (λ (c : Parts). c.loose) is ∙ h.untouched.loose;
    checks = ap (λ (c : Parts). c.checks) is ∙ h.untouched.checks;
    masters = ap (λ (c : Parts). c.masters) is ∙ h.untouched.masters;
    others = ap (λ (c : Parts). c.others) is ∙ h.untouched.others;
    disk_lsn = ap (λ (c : Parts). c.disk_lsn) is ∙ h.untouched.disk_lsn;
    pools = λ j out. ap (λ (c : Parts). pool_at c j) is
        ∙ item-kept no_pool mid.pools i (used (pool_at mid i) p) low j (not-only i j out) ∙ h.untouched.pools j refl;
    recs = λ q out. ap (λ (c : Parts). rec_lsn_at c.directory q) is ∙ h.untouched.recs q refl;
  };
}
