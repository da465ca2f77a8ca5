-- Images that agree on the nine devices fail alike, and open to the same parts: for the goals of restarting.rt.
use Rattle.std.proofs.Common.{◌≡◌, ◌⊎◌, inl, inr, ⊎_elim, ℕ, ◌+◌, ◌^◌, ◌<◌, ◌≤◌, List, [], ◌∷◌, ◌++◌, sym, ap, ◌∙◌, subst, arith}
use Rattle.std.specs.Prelude.{IfSome, slice_get, sum_by}
use Rattle.std.proofs.lemmas.Bool.{cases_lt}
use Rattle.sd_base.specs.Twin.{chosen_body, number_of}
use Rattle.sd_base.specs.declared.ids.TxnId.{TxnId}
use Rattle.sd_base.specs.Ids.{IsBelow}
use Rattle.sd_logrec.specs.Kept.{kept}
use Rattle.sd_logrec.specs.View.{Rec, flat}
use Rattle.sd_rig.specs.Devices.{DeviceImages}
use Rattle.sd_chain.specs.Bytes.{disk_page, log_of, stable}
use Rattle.sd_chain.specs.Checks.{LsnsAreLeft, TwinIsSound, gate_of, owed, placed_of, reserve}
use Rattle.sd_chain.specs.Faults.{ChainsAreSound, EndsFit, FailsFirstAt, FailsInChain, FailsInLog, FailsInRoom, FailsInStack, FailsInTwin, LogFailsAt, LogIsSound, LogsAreSound, StacksAreSound, TwinFailsAt, TwinsAreSound}
use Rattle.sd_chain.specs.Storage as disks
use Rattle.sd_chain.specs.Storage.{Open, StackFits, chain, opens}
use Rattle.sd_chain.specs.Pages.{FitAll, FitsPage, replay}
use Rattle.sd_chain.specs.Records.{Each, stack}
use Rattle.sd_chain.specs.ChecksKept.{IsRead}
use Rattle.sd_chain.proofs.Kept.{log-past}
use Rattle.sd_state.specs.Images.{kept_epoch}
use Rattle.sd_moves.specs.Opening.{AreOpened, IsFoundInst, IsFoundPage, IsLeftIn, claim_in, status_in}
use Rattle.sd_state.specs.Parts.{Parts, count_at, log_at, txns_at}
use Rattle.sd_state.specs.Tables.{lock_of}
use Rattle.sd_txn.specs.Transactions.{txn_at}
use Rattle.sd_restart.specs.Devices.{AgreeOnNine}
use Rattle.sd_restart.proofs.Alike.{log-same, sound-same, stable-same}

module _ (a b : DeviceImages) (same : AgreeOnNine a b) where
  is : stable a ≡ stable b
  is = stable-same a b same

  logs-same : LogsAreSound a → LogsAreSound b
  logs-same s j low high = subst (LogIsSound j) (same j high) (s j low high)

  twins-same : TwinsAreSound a → TwinsAreSound b
  twins-same s p lt = subst (TwinIsSound p) (same 0 (omega arith)) (s p lt)

  chains-same : ChainsAreSound a → ChainsAreSound b
  chains-same = subst (λ (img : disks.Storage). (p : ℕ) → p < 1024 → FitAll (img.disk p).lsn (img.disk p) (chain img p)) is

  stacks-same : StacksAreSound a → StacksAreSound b
  stacks-same = subst (λ (img : disks.Storage). (t : TxnId) → Open img t → StackFits img t) is

  lsns-same : LsnsAreLeft a → LsnsAreLeft b
  lsns-same s = record {
    logs = subst (λ (img : disks.Storage). (j : ℕ)
        → Each (λ x. x.lsn + sum_by (λ k. owed (img.logs k)) (1 ∷ 2 ∷ 3 ∷ 4 ∷ 5 ∷ 6 ∷ 7 ∷ 8 ∷ []) < 2 ^ 62) (img.logs j)) is s.logs;
    pages = subst (λ (img : disks.Storage). (p : ℕ) → p < 1024
        → (img.disk p).lsn + sum_by (λ k. owed (img.logs k)) (1 ∷ 2 ∷ 3 ∷ 4 ∷ 5 ∷ 6 ∷ 7 ∷ 8 ∷ []) < 2 ^ 62) is s.pages;
  }

  pub ends-same : (j : ℕ) → j ≤ 8 → EndsFit j a → EndsFit j b
  ends-same j high s = record {
    room = subst (λ (bytes : List ℕ). gate_of (kept bytes) + reserve (log_of b j) + 1 ≤ 1048576) (same j high)
        (subst (λ (log : List Rec). gate_of (kept (a j)) + reserve log + 1 ≤ 1048576) (log-same a b same j) s.room);
    lsns = lsns-same s.lsns;
  }

module _ (a b : DeviceImages) (same : AgreeOnNine a b) where
  back : AgreeOnNine b a
  back d le = sym (same d le)

  eq : stable a ≡ stable b
  eq = stable-same a b same

  in-log : (dev at : ℕ) → FailsInLog a dev at → FailsInLog b dev at
  in-log dev at f = record {
    some = f.some;
    few = f.few;
    before = λ j low lt. let few = f.few in subst (LogIsSound j) (same j (omega (arith, lt, few))) (f.before j low lt);
    here = subst (λ (bytes : List ℕ). LogFailsAt dev bytes at) (same dev f.few) f.here;
  }

  in-twin : (dev at : ℕ) → FailsInTwin a dev at → FailsInTwin b dev at
  in-twin dev at f = record {
    data_device = f.data_device;
    page = f.page;
    few = f.few;
    before = λ p lt. subst (TwinIsSound p) (same 0 (omega arith)) (f.before p lt);
    here = subst (λ (bytes : List ℕ). TwinFailsAt f.page bytes at) (same 0 (omega arith)) f.here;
  }

  in-chain : (dev at : ℕ) → FailsInChain a dev at → FailsInChain b dev at
  in-chain dev at f =
      let h = f.here in
      record {
        page = f.page;
        few = f.few;
        before = subst (λ (img : disks.Storage). (p : ℕ) → p < f.page → FitAll (img.disk p).lsn (img.disk p) (chain img p)) eq f.before;
        here = record {
          index = h.index;
          place = h.place;
          rec = h.rec;
          some = h.some;
          few = h.few;
          there = ap (λ (bytes : List ℕ). slice_get (placed_of (kept bytes)) h.index) (sym (same dev h.few)) ∙ h.there;
          at_is = h.at_is;
          before = h.before;
          behind = h.behind;
          parts = sym (ap (λ (img : disks.Storage). chain img f.page) eq) ∙ h.parts;
          fits = subst (λ (img : disks.Storage). FitAll (img.disk f.page).lsn (img.disk f.page) h.before) eq h.fits;
          above = subst (λ (img : disks.Storage). (img.disk f.page).lsn < (flat h.rec).lsn) eq h.above;
          misfit = subst (λ (img : disks.Storage). FitsPage (replay (img.disk f.page).lsn (img.disk f.page) h.before) (flat h.rec) → ⊥) eq h.misfit;
        };
      }

  -- a log that leaves something open is one of the eight
  of-eight : (t : TxnId) (above : List Rec) (x : Rec) → opens (stable a) t ≡ above ++ x ∷ [] → t.inst ≤ 8
  of-eight t above x parts = ⊎_elim
      (λ lt. omega (arith, lt))
      (λ ge. absurd (never above (sym (ap (stack t) (log-past a t.inst ge)) ∙ parts)))
      (cases_lt t.inst 9)
    where
      never : (xs : List Rec) → [] ≡ xs ++ x ∷ [] → ⊥
      never [] e = cc
      never (y ∷ xs) e = cc

  in-stack : (dev at : ℕ) → FailsInStack a dev at → FailsInStack b dev at
  in-stack dev at f =
      let l = f.lowest in
      let high = of-eight f.txn l.above (flat l.rec) l.parts in
      record {
        txn = f.txn;
        home = f.home;
        open_ = subst (λ (img : disks.Storage). Open img f.txn) eq f.open_;
        before = subst (λ (img : disks.Storage). (t : TxnId) → IsBelow t f.txn → Open img t → StackFits img t) eq f.before;
        wrong = subst (λ (img : disks.Storage). StackFits img f.txn → ⊥) eq f.wrong;
        lowest = record {
          index = l.index;
          place = l.place;
          rec = l.rec;
          there = ap (λ (bytes : List ℕ). slice_get (placed_of (kept bytes)) l.index) (sym (same f.txn.inst high)) ∙ l.there;
          at_is = l.at_is;
          above = l.above;
          parts = sym (ap (λ (img : disks.Storage). opens img f.txn) eq) ∙ l.parts;
        };
      }

  in-room : (dev at : ℕ) → FailsInRoom a dev at → FailsInRoom b dev at
  in-room dev at f = record {
    some = f.some;
    few = f.few;
    before = λ j low lt. let few = f.few in ends-same a b same j (omega (arith, lt, few)) (f.before j low lt);
    wrong = λ fit. f.wrong (ends-same b a back dev f.few fit);
    at_is = f.at_is ∙ ap (λ (bytes : List ℕ). 130 + gate_of (kept bytes)) (same dev f.few);
  }

  -- the one fail where the others do
  pub fails-same : (dev at : ℕ) → FailsFirstAt a dev at → FailsFirstAt b dev at
  fails-same dev at (inl f) = inl (in-log dev at f)
  fails-same dev at (inr (inl f)) = inr (inl (logs-same a b same f.0, in-twin dev at f.1))
  fails-same dev at (inr (inr (inl f))) = inr (inr (inl (logs-same a b same f.0, twins-same a b same f.1, in-chain dev at f.2)))
  fails-same dev at (inr (inr (inr (inl f)))) =
      inr (inr (inr (inl (logs-same a b same f.0, twins-same a b same f.1, chains-same a b same f.2, in-stack dev at f.3))))
  fails-same dev at (inr (inr (inr (inr f)))) = inr (inr (inr (inr
      (logs-same a b same f.0, twins-same a b same f.1, chains-same a b same f.2, stacks-same a b same f.3, in-room dev at f.4))))

  inst-same : (c : Parts) (j : ℕ) → j ≤ 8 → IsFoundInst a c j → IsFoundInst b c j
  inst-same c j high f = record {
    log = subst (λ (bytes : List ℕ). IsRead bytes (log_at c j)) (same j high) f.log;
    spelled = f.spelled;
    rows = λ t. subst (IsLeftIn (txn_at (txns_at c j) t) t) (log-same a b same j) (f.rows t);
    table = f.table;
    status = f.status ∙ ap (λ (img : disks.Storage). status_in img j) eq;
    epoch = f.epoch ∙ ap kept_epoch (same j high);
    master = subst (λ (bytes : List ℕ). IfSome (chosen_body 0 64 bytes) (λ body. number_of body ≡ count_at c j)) (same j high) f.master;
    uncounted = λ none. f.uncounted (ap (chosen_body 0 64) (same j high) ∙ none);
    owed = f.owed ∙ ap owed (log-same a b same j);
  }

  -- and they open alike
  pub opened-same : (frames : ℕ) (c : Parts) → AreOpened frames a c → AreOpened frames b c
  opened-same frames c o = record {
    sound = sound-same a b same o.sound;
    shape = o.shape;
    insts = λ j low high. inst-same c j high (o.insts j low high);
    locks = λ t r. o.locks t r ∙ ap (λ (img : disks.Storage). lock_of (claim_in img t r)) eq;
    unwaited = o.unwaited;
    pages = subst (λ (img : disks.Storage). (p : ℕ) → IsFoundPage img c p) eq o.pages;
    disk_lsns = subst (λ (bytes : List ℕ). (p : ℕ) → p < 1024 → (disk_page bytes p).lsn ≤ c.disk_lsn) (same 0 (omega arith)) o.disk_lsns;
    disk_lsn = subst (λ (bytes : List ℕ). (c.disk_lsn ≡ 0) ⊎ ((p : ℕ) × (p < 1024) × ((disk_page bytes p).lsn ≡ c.disk_lsn)))
        (same 0 (omega arith)) o.disk_lsn;
    pools = o.pools;
    checks = o.checks;
    others = o.others;
    loose = o.loose;
    due = o.due;
  }
