-- Each check of a restart passes on devices on which the logs are ready: for the law `between`, and for each image during an
-- event.
use Rattle.std.proofs.Common.{◌≡◌, ◌⊎◌, inl, inr, ⊎_elim, ℕ, zero, suc, ◌+◌, ◌^◌, ◌<◌, ◌≤◌, Bool, true, false, List, [], ◌∷◌, ◌++◌, map, refl, sym, ap, ◌∙◌, subst, arith, append-nil}
use Rattle.std.specs.Prelude.{IsTrue, IfSome, is_some, ◌||◌}
use Rattle.std.specs.List.{list_any, flat_map}
use Rattle.std.proofs.lemmas.Bool.{cases_lt}
use Rattle.sd_base.specs.declared.ids.TxnId.{TxnId}
use Rattle.sd_base.specs.Twin.{chosen_body}
use Rattle.sd_logrec.specs.declared.record.Record.{Record}
use Rattle.sd_logrec.specs.Kept.{Reading, Records, Whole, kept, master}
use Rattle.sd_logrec.specs.View.{flat}
use Rattle.sd_page.specs.Page.{Page}
use Rattle.sd_log.specs.Logs.{LogState, forced}
use Rattle.sd_rig.specs.Devices as rig
use Rattle.sd_chain.specs.Bytes.{disk_page, log_of, records_of, stable}
use Rattle.sd_chain.specs.Checks.{DevicesAreSound, Follow, GroupsAreSound, IsWhole, LsnsAreLeft, MasterIsSound, TwinIsSound, TxnsAreSound, gate_of, is_end_check, owed, owed_by_all, past_of, placed_of, reserve}
use Rattle.sd_chain.specs.Crashes.{CrashLeaves}
use Rattle.sd_chain.specs.Records.{Each}
use Rattle.sd_chain.specs.Order.{Tidy}
use Rattle.sd_chain.specs.Storage.{Sound, Storage}
use Rattle.sd_chain.specs.Images.{Tails, Keeps, IsSafe, log}
use Rattle.sd_chain.proofs.Left.{kept_tails, is_cut}
use Rattle.sd_chain.specs.Logs.{Logs, Outcomes, base_at, eight, kept_logs, may_of, owed_with, tails_of}
use Rattle.sd_chain.specs.Soundly.{IsReady, LogIsSound, LsnsFit, SlotsAreSound}
use Rattle.sd_chain.specs.ChecksKept.{LeftIsSound}
use Rattle.sd_chain.proofs.Sums.{sum-eight}
use Rattle.sd_chain.proofs.Kept.{flat-records, forced-base, forced-start, kept-is, log-either, log-here, log-past}

-- a test of records, with places or without
pub any-map : (test : Record → Bool) (rs : Records) → list_any (λ r. test r.1) rs ≡ list_any test (map (λ r. r.1) rs)
any-map test [] = refl
any-map test (r ∷ rs) = ap (λ (b : Bool). test r.1 || b) (any-map test rs)

-- a device on which a sound log stands passes the checks of its master and groups
pub master-passes : (j : ℕ) (bytes : List ℕ) (l : LogState) → SlotsAreSound bytes → kept bytes ≡ Whole l.groups l.gate
    → LogIsSound j bytes l → MasterIsSound bytes
master-passes j bytes l slots is s = record {
  differ = slots.differ;
  first = slots.first;
  second = slots.second;
  ended = subst (λ (b : Bool). IfSome (chosen_body 0 64 bytes) (λ _. IsTrue b))
      (sym (ap (λ (r : Reading). list_any (λ x. is_end_check (master bytes).check x.1) (placed_of r)) is
      ∙ any-map (is_end_check (master bytes).check) (placed_of (Whole l.groups l.gate)))) s.ended;
}

-- and that of its groups
pub groups-pass : (j : ℕ) (bytes : List ℕ) (l : LogState) → kept bytes ≡ Whole l.groups l.gate → LogIsSound j bytes l
    → GroupsAreSound j bytes
groups-pass j bytes l is s = record {
  whole = subst IsWhole (sym is) tt;
  follow = subst (λ (r : Reading). Follow j (is_some (chosen_body 0 64 bytes)) (master bytes) (past_of (master bytes))
      (map (λ x. x.1) (placed_of r))) (sym is) s.follow;
}

-- and that of its transactions
pub txns-pass : (bytes : List ℕ) (l : LogState) → kept bytes ≡ Whole l.groups l.gate → ((t : TxnId) → Tidy t (base_at l))
    → TxnsAreSound bytes
txns-pass bytes l is tidy t =
    subst (Tidy t) (sym (ap (λ (r : Reading). map flat (map (λ x. x.1) (placed_of r))) is
    ∙ flat-records (flat_map (λ g. g.records) l.groups))) (tidy t)

-- the LSNs of an image with these tails
pub lsns-pass : (tails : Tails) (may : ℕ → Page → Type 0) (img : rig.DeviceImages) (l : CrashLeaves tails may (stable img))
    → LsnsFit tails may (kept_tails tails may (stable img) l) → LsnsAreLeft img
lsns-pass tails may img l fit =
    let keeps : Keeps = kept_tails tails may (stable img) l in
    let here : (j : ℕ) → log_of img j ≡ kept_logs tails keeps j =
    λ j. ap (λ (i : Storage). i.logs j) (is_cut tails may (stable img) l) in
    let same : owed_by_all img ≡ owed_with tails keeps =
    sum-eight (λ j. owed (log_of img j)) (λ j. owed (kept_logs tails keeps j)) (λ j lo hi. ap owed (here j)) in
    record {
      logs = λ j. subst (λ (n : ℕ). Each (λ x. x.lsn + n < 2 ^ 62) (log_of img j)) (sym same) (each keeps here j);
      pages = λ p lt. subst (λ (n : ℕ). ((stable img).disk p).lsn + n < 2 ^ 62) (sym same)
          (fit.pages p ((stable img).disk p) (l.disks p));
    }
  where
    each : (keeps : Keeps) → ((j : ℕ) → log_of img j ≡ kept_logs tails keeps j) → (j : ℕ)
        → Each (λ x. x.lsn + owed_with tails (kept_tails tails may (stable img) l) < 2 ^ 62) (log_of img j)
    each keeps here zero = tt
    each keeps here (suc j) = ⊎_elim
        (λ lt. subst (Each (λ x. x.lsn + owed_with tails (kept_tails tails may (stable img) l) < 2 ^ 62))
        (sym (ap (λ (i : Storage). i.logs (suc j)) (is_cut tails may (stable img) l)))
        (fit.logs (suc j) (omega arith) (omega (arith, lt))))
        (λ ge. subst (Each (λ x. x.lsn + owed_with tails (kept_tails tails may (stable img) l) < 2 ^ 62))
        (sym (log-past img (suc j) ge)) tt)
        (cases_lt (suc j) 9)

-- all logs of an image, by the logs that are ready on it; there are none but the eight
pub logs-ready : (logs : Logs) (img : rig.DeviceImages) → base_at (logs 0) ≡ [] → ((j : ℕ) → 9 ≤ j → log (tails_of logs) j ≡ [])
    → ((j : ℕ) → 1 ≤ j → j ≤ 8 → IsReady j (img j) (logs j))
    → (j : ℕ) → (log_of img j ≡ (tails_of logs).base j) ⊎ (log_of img j ≡ (tails_of logs).base j ++ (tails_of logs).tail j)
logs-ready logs img none eight ready zero = inl (sym none)
logs-ready logs img none eight ready (suc j) = ⊎_elim
    (λ lt. let r = ready (suc j) (omega arith) (omega (arith, lt)) in
    log-either (suc j) (logs (suc j)) img (omega arith) (omega (arith, lt)) r.start r.either)
    (λ ge. inr (log-past img (suc j) ge ∙ sym (eight (suc j) ge)))
    (cases_lt (suc j) 9)

module _ (logs : Logs) (may : ℕ → Page → Type 0) (img : rig.DeviceImages) (version : Keeps → ℕ → Page)
    (safe : IsSafe (tails_of logs) may version) (none : base_at (logs 0) ≡ [])
    (ready : (j : ℕ) → 1 ≤ j → j ≤ 8 → IsReady j (img j) (logs j)) where
  record One (j : ℕ) : Type 0 where
    log_is : LogState
    kept_as : kept (img j) ≡ Whole log_is.groups log_is.gate
    sound : LogIsSound j (img j) log_is
    tidy : (t : TxnId) → Tidy t (base_at log_is)

  one : (j : ℕ) → 1 ≤ j → j ≤ 8 → One j
  one j lo hi = let r = ready j lo hi in ⊎_elim
      (λ s. record {
        log_is = logs j;
        kept_as = kept-is (logs j) (img j) r.start s;
        sound = r.sound;
        tidy = λ t. subst (Tidy t) (append-nil (base_at (logs j))) (safe.order (λ k. false) j t);
      })
      (λ s. record {
        log_is = forced (logs j);
        kept_as = kept-is (forced (logs j)) (img j) (r.start ∙ sym (forced-start (logs j))) s;
        sound = r.sound_forced;
        tidy = λ t. subst (Tidy t) (sym (forced-base (logs j))) (safe.order (λ k. true) j t);
      })
      r.either

  -- The seven checks of an image on whose devices the logs are ready, and whose pages may be left so.
  pub ready-sound : ((p : ℕ) → p < 1024 → TwinIsSound p (img 0)) → ((p : ℕ) → may p (disk_page (img 0) p))
      → ((keeps : Keeps) → LsnsFit (tails_of logs) may keeps) → DevicesAreSound img
  ready-sound twins disks lsns =
      let l : CrashLeaves (tails_of logs) may (stable img) =
      record { logs = logs-ready logs img none safe.eight ready; disks = disks } in
      record {
        masters = λ j lo hi. let o = one j lo hi in master-passes j (img j) o.log_is (ready j lo hi).slots o.kept_as o.sound;
        groups = λ j lo hi. let o = one j lo hi in groups-pass j (img j) o.log_is o.kept_as o.sound;
        txns = λ j lo hi. let o = one j lo hi in txns-pass (img j) o.log_is o.kept_as o.tidy;
        twins = twins;
        kept = subst Sound (sym (is_cut (tails_of logs) may (stable img) l))
            (safe.sound (stable img).disk disks (kept_tails (tails_of logs) may (stable img) l));
        room = λ j lo hi. let o = one j lo hi in
            let gate = ap gate_of o.kept_as in
            let same = ap reserve (log-here img j lo hi ∙ ap records_of o.kept_as) in
            let room = o.sound.room in omega (arith, gate, same, room);
        lsns = lsns-pass (tails_of logs) may img l (lsns (kept_tails (tails_of logs) may (stable img) l));
      }

-- What a crash may leave between two calls passes all seven checks.
pub between-left : (leaves : Outcomes) → LeftIsSound leaves
between-left leaves logs version img s safe none left =
    ready-sound logs (may_of leaves) img version safe none (λ j lo hi. s.ready j lo hi (img j) (left j hi))
    (λ p lt. s.twins p lt (img 0) (left 0 (omega arith))) (λ p. (img 0, left 0 (omega arith), refl)) s.lsns
