-- Blank devices open to the fresh state, and a fresh complex is what is opened from them: so what `assemble` asks for can be met.
use Rattle.std.proofs.Common.{◌≡◌, ℕ, zero, suc, ◌≤◌, Bool, true, false, ltb, ◌&&◌, ◌||◌, cond, List, [], refl, sym, ap, ap₂, ◌∙◌, subst, arith, ⊎_elim, inl}
use Rattle.std.specs.Prelude.{None, is_some}
use Rattle.std.specs.List.{list_any}
use Rattle.std.proofs.lemmas.Bool.{cases_lt, le-ltb}
use Rattle.std.proofs.lemmas.List.Elements.{All-nil}
use Rattle.sd_base.specs.declared.ids.TxnId.{TxnId}
use Rattle.sd_base.specs.declared.ids.Rid.{Rid}
use Rattle.sd_base.specs.declared.place.Status.{Status}
use Rattle.sd_base.specs.declared.place.Status.TheVariants as S
use Rattle.sd_logrec.specs.Spelling.{HasSpelling}
use Rattle.sd_logrec.specs.View.{Rec}
use Rattle.sd_log.specs.Logs.{AreSpelled, LogState, scanned}
use Rattle.sd_log.specs.declared.placed.Placed.{Placed}
use Rattle.sd_page.specs.Page.{Page}
use Rattle.sd_model.specs.State.{fresh}
use Rattle.sd_model.specs.declared.act.Claim.{Claim}
use Rattle.sd_model.specs.declared.act.Life.{Life}
use Rattle.sd_pagelock.specs.Rows.{nowhere}
use Rattle.sd_rig.specs.Devices as rig
use Rattle.sd_txn.specs.Transactions.{Transactions, txn_at}
use Rattle.sd_chain.specs.Bytes.{log_of, page_in, records_of, stable, twin_at}
use Rattle.sd_chain.specs.Checks.{open_in, owed}
use Rattle.sd_chain.specs.Fates.{Fate, fate, fate_in}
use Rattle.sd_chain.specs.Storage.{Recovered, Storage, chain, newest, opens}
use Rattle.sd_chain.specs.Records.{at, home}
use Rattle.sd_chain.specs.Coherent.{Quiet}
use Rattle.sd_chain.specs.ChecksKept.{IsRead}
use Rattle.sd_chain.specs.Logs.{Outcomes, base_at, new_log}
use Rattle.sd_chain.proofs.Blank.{blank-ready, body_blank}
use Rattle.sd_chain.proofs.Kept.{kept-is, log-here, log-past}
use Rattle.sd_state.specs.Fresh.{AreBlank, IsFresh}
use Rattle.sd_state.specs.Good.{Good, IsSettledAt}
use Rattle.sd_state.specs.Images.{Stands}
use Rattle.sd_recovered.specs.FirstAbove.{IsFirstAbove}
use Rattle.sd_moves.specs.Opening.{AreOpened, IsFoundInst, IsFoundPage, IsLeftIn, OpensTo, claim_in, is_any, is_left, is_lost_in, life_in, some_lost, status_in}
use Rattle.sd_state.specs.Parts.{Parts, among, epoch_at, is_loose, log_at}
use Rattle.sd_state.specs.Tables.{lock_of}
use Rattle.sd_state.specs.Values.{Pending}
use Rattle.sd_moves.proofs.Beginning.{fresh-good, log-is, owes-none, table-is}
use Rattle.sd_state.proofs.Items.{at-each}
use Rattle.sd_moves.proofs.OpenedHalf.{nine-settled}
use Rattle.sd_moves.proofs.OpenedImage.{values-now}
use Rattle.sd_moves.proofs.OpenedPages.{unchanged-chain, unchanged-same}
use Rattle.sd_state.proofs.Standing.{left-stands}
use Rattle.sd_reclock.specs.Locks.{waits_in}
use Rattle.sd_reclock.specs.declared.wait.Asked.{Asked}

none-of-both : (b : Bool) → (b && false) ≡ false
none-of-both true = refl
none-of-both false = refl

module _ (seen : rig.DeviceImages) (leaves : Outcomes) (frames : ℕ) (c : Parts) (devices : AreBlank seen leaves)
    (f : IsFresh frames c) where
  abbrev img : Storage
  img = stable seen

  good : Good seen leaves Pending.Idle c fresh
  good = fresh-good seen leaves frames c devices f

  stands : Stands fresh Pending.Idle seen
  stands = left-stands leaves seen seen Pending.Idle c fresh good (λ d le. (devices.only d le (seen d)).1 refl)

  settled : (j : ℕ) → 1 ≤ j → j ≤ 8 → IsSettledAt seen leaves c j
  settled j low high = good.settled j low high
      (ap (λ marks. is_loose (record c { loose = marks }) j) f.loose ∙ nine-settled j high)

  -- ---- logs

  log-new : (j : ℕ) → 1 ≤ j → j ≤ 8 → log_at c j ≡ new_log j 0
  log-new = log-is seen leaves frames c devices f

  read : (j : ℕ) → 1 ≤ j → j ≤ 8 → IsRead (seen j) (log_at c j)
  read j low high = record {
    start = ap (λ (l : LogState). l.start) (log-new j low high)
        ∙ sym (blank-ready j (seen j) (new_log j 0) (devices.blank j high)).start;
    stands = (settled j low high).stands;
    tail = ap (λ (l : LogState). l.tail) (log-new j low high);
  }

  none-kept : (j : ℕ) → log_of seen j ≡ []
  none-kept zero = refl
  none-kept (suc j) = ⊎_elim
      (λ lt. let low : 1 ≤ suc j = omega arith in let high : suc j ≤ 8 = omega (arith, lt) in
      let r = read (suc j) low high in
      log-here seen (suc j) low high ∙ ap records_of (kept-is (log_at c (suc j)) (seen (suc j)) (sym r.start) r.stands)
      ∙ ap base_at (log-new (suc j) low high))
      (λ ge. log-past seen (suc j) ge)
      (cases_lt (suc j) 9)

  unknown : (t : TxnId) → fate_in img t ≡ Fate.Unknown
  unknown t = ap (fate t) (none-kept (home t))

  life-none : (t : TxnId) → Life.Gone ≡ life_in img t
  life-none t = sym (ap (λ (k : Fate). cond {A = Life} (is_left k) Life.Retained Life.Gone) (unknown t))

  claim-none : (t : TxnId) (r : Rid) → Claim.Free ≡ claim_in img t r
  claim-none t r = sym (ap
      (λ (k : Fate). cond {A = Claim} (is_left k && list_any (at r.page r.slot) (opens img t)) Claim.Excl Claim.Free) (unknown t))

  -- ---- pages

  quiet : (p j : ℕ) → Quiet p (img.logs j)
  quiet p j = subst (Quiet p) (sym (none-kept j)) tt

  no-lost : (p : ℕ) → is_lost_in img p ≡ false
  no-lost p =
      let same = ap (λ (x : Page). x.lsn) (unchanged-same img p (quiet p)) in
      ap (λ (b : Bool). ltb p 1024 && b) (le-ltb (img.disk p).lsn (newest img p).lsn (omega (arith, same)))
      ∙ none-of-both (ltb p 1024)

  none-lost : (n : ℕ) → some_lost img n ≡ false
  none-lost zero = refl
  none-lost (suc n) = ap₂ (λ (a b : Bool). a || b) (no-lost n) (none-lost n)

  clean : (j : ℕ) → S.Clean ≡ status_in img j
  clean j = sym (ap₂ (λ (log : List Rec) (b : Bool). cond {A = Status} (is_any (open_in log) || b) S.Down S.Clean)
      (none-kept j) (none-lost 1024))

  page-found : (p : ℕ) → IsFoundPage img c p
  page-found p = record {
    entry = f.free p ∙ sym (ap nowhere (no-lost p));
    mark = ap is_some (f.clean p) ∙ sym (no-lost p);
    first = λ lt. subst (IsFirstAbove (chain img p) (img.disk p).lsn) (sym (f.clean p))
        (subst (λ (xs : List Rec). IsFirstAbove xs (img.disk p).lsn None) (sym (unchanged-chain img p (quiet p))) tt);
    still = f.still p;
    unasked = f.unasked p;
  }

  -- ---- instances

  found : (j : ℕ) → 1 ≤ j → j ≤ 8 → IsFoundInst seen c j
  found j low high = record {
    log = read j low high;
    spelled = subst (λ (l : LogState). AreSpelled (scanned l)) (sym (log-new j low high))
        (All-nil (λ (x : Placed). HasSpelling x.rec));
    rows = λ t. subst (λ (table : Transactions). IsLeftIn (txn_at table t) t (log_of seen j))
        (sym (table-is seen leaves frames c devices f j low high))
        (λ alive. let e = sym (ap (fate t) (none-kept j)) ∙ alive in absurd (cc));
    table = ap (λ (table : Transactions). table.epoch) (table-is seen leaves frames c devices f j low high);
    status = (good.instances j low high).status ∙ clean j;
    epoch = let e = stands.epochs j low high in let high_is = e.high in
        let first : epoch_at c j ≡ 0 = ap (λ (epochs : List ℕ). among 0 epochs j) f.epochs ∙ at-each 0 (λ k. 0) j low high in
        omega (arith, first, high_is);
    master = (settled j low high).counted;
    uncounted = λ none. ap (λ (masters : List ℕ). among 0 masters j) f.masters ∙ at-each 0 (λ k. 0) j low high;
    owed = owes-none seen leaves frames c devices f j low high ∙ sym (ap owed (none-kept j));
  }

  pub fresh-found : AreOpened frames seen c
  fresh-found = record {
    sound = stands.sound;
    shape = good.shape;
    insts = found;
    locks = λ t r. good.locks t r ∙ ap lock_of (claim-none t r);
    unwaited = λ t. ap (λ (waiting : List (TxnId × Asked)). waits_in waiting t) f.unwaited;
    pages = page-found;
    disk_lsns = λ p lt.
        let none = ap (λ (x : Page). x.lsn)
        (ap (page_in p) (body_blank (twin_at p) 1024 (seen 0) (devices.blank 0 (omega arith)))) in
        omega (arith, none);
    disk_lsn = inl f.disk_lsn;
    pools = f.pools;
    checks = f.checks;
    others = f.others;
    loose = f.loose;
    due = f.due;
  }

  pub fresh-opens : OpensTo seen fresh
  fresh-opens = record {
    table = λ p s. subst (Recovered img p s) (values-now fresh img.logs p s (λ t. refl)) (stands.recovered p s);
    lives = life-none;
    claims = claim-none;
    marks = λ t. refl;
    statuses = λ i low high. clean i;
    epochs = stands.epochs;
    kept = good.kept;
    placed = good.placed;
    listed = good.listed;
    marked = good.marked;
    recoverers = good.recoverers;
  }
