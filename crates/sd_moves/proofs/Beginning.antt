-- A complex on blank devices is as the fresh state of the serial table says: for `Complex::fresh`.
use Rattle.std.proofs.Common.{◌≡◌, inl, inr, ℕ, zero, suc, ◌≤◌, Bool, true, false, cond, List, [], ◌++◌, length, get_or, refl, sym, ap, ap₂, ◌∙◌, subst, arith, ⊎_elim}
use Rattle.std.specs.Prelude.{Option, None, Some, IfSome, is_some}
use Rattle.std.specs.Option.{option_map_or}
use mathlib.Core.Path.{fun_ext}
use Rattle.sd_base.specs.Twin.{number_of}
use Rattle.sd_base.specs.declared.ids.TxnId.{TxnId}
use Rattle.sd_base.specs.declared.place.Status.{Status}
use Rattle.sd_base.specs.declared.place.Status.TheVariants as S
use Rattle.sd_logrec.specs.Kept.{Master, master}
use Rattle.sd_logrec.specs.View.{Rec}
use Rattle.sd_log.specs.Logs.{LogState, StandsOn, begun_at, forced, last_lsn, scanned}
use Rattle.sd_page.specs.Page.{Page, empty_page}
use Rattle.sd_model.specs.State.{fresh}
use Rattle.sd_model.specs.declared.act.Claim.{Claim}
use Rattle.sd_model.proofs.Opened.{fresh-opened, opened-placed, opened-listed, opened-marked}
use Rattle.sd_model.proofs.Recoverers.{opened-recoverers}
use Rattle.sd_model.proofs.Serial.{fresh-opening, opening_run-kept}
use Rattle.sd_pagelock.specs.Asks.{is_open_ask}
use Rattle.sd_pagelock.specs.Directory.{entry_at, rec_lsn_at}
use Rattle.sd_pagelock.specs.Places.{PageEntry, changed, holds, passes, uses}
use Rattle.sd_pool.specs.Buffers.{Buffers}
use Rattle.sd_pool.specs.Buffers as buffers
use Rattle.sd_reclock.specs.Locks.{Held, held_in}
use Rattle.sd_rig.specs.Devices as rig
use Rattle.sd_txn.specs.Owing.{owed_of, reserve_of}
use Rattle.sd_txn.specs.Transactions.{Transactions, txn_at}
use Rattle.sd_chain.specs.Bytes.{disk_page, page_in, twin_at}
use Rattle.sd_chain.specs.Checks.{owed, reserve}
use Rattle.sd_chain.specs.Cuts.{cut}
use Rattle.sd_chain.specs.Fates.{Fate, fate}
use Rattle.sd_chain.specs.Storage.{Recovered, Sound, Storage, all_of, chain, newest}
use Rattle.sd_chain.specs.Images.{Gives, IsSafe, Keeps, Tails, all_kept, with_disk}
use Rattle.sd_chain.specs.Order.{Tidy}
use Rattle.sd_chain.specs.Pages.{value}
use Rattle.sd_chain.specs.Records.{Each, IsOpen, home, stack}
use Rattle.sd_chain.proofs.Images.{opening-safe, opening-gives}
use Rattle.sd_chain.specs.Coherent.{Coherent, Quiet}
use Rattle.sd_chain.specs.Named.{IsNamed, version_of}
use Rattle.sd_chain.proofs.Named.{may_be-named}
use Rattle.sd_chain.specs.Logs.{IsBlank, Logs, Outcomes, all_at, base_at, kept_logs, may_of, new_log, past_at, tail_at, tails_of}
use Rattle.sd_chain.proofs.Blank.{blank-ready, blank-sound, body_blank, master_blank}
use Rattle.sd_state.specs.Values.{Pending, rid_of}
use Rattle.sd_state.specs.Fresh.{AreBlank, IsFresh, empty_pool, empty_table, for_each}
use Rattle.sd_state.specs.Good.{Good, Half, IsInstance, IsKnownLsn, IsSettledAt, IsTold, OwesAtMost, base_of, dir_of}
use Rattle.sd_state.specs.Tables.{NamesLife, RowIsLogged, tells_log}
use Rattle.sd_state.specs.Images.{IsEpochOf, leaves_by, log_by}
use Rattle.sd_state.specs.Parts.{Begun, Parts, check_at, count_at, is_active, is_loose, is_up, log_at, no_log, no_pool, no_txns, other_at, owed_at, pool_at, status_at, txns_at, among, up_as, epoch_at}
use Rattle.sd_state.proofs.Items.{at-any, at-each}

-- ---- an image of nothing

abbrev nothing : Storage
nothing = record { logs = λ j. []; disk = empty_page }

newest-none : (p : ℕ) → newest nothing p ≡ empty_page p
unfolding newest chain all_of
newest-none p = refl

sound-none : Sound nothing
unfolding newest chain all_of
sound-none = record {
  disks = λ p s. omega arith;
  pages = λ p. tt;
  stacks = λ t o. record { places = tt; linked = λ p s. tt; alone = tt };
}

-- its order is kept
tidy-none : (t : TxnId) → Tidy t []
tidy-none t = record { order = tt; first = λ o. refl; undo = λ e. tt }

-- recovery gives nothing
gives-none : (p s : ℕ) → Recovered nothing p s None
gives-none p s = inr (λ t o. refl, ap (λ (x : Page). value x.slots s) (sym (newest-none p)))

-- no record is open there
not-open : (t : TxnId) (log : List Rec) → log ≡ [] → fate t log ≡ Fate.Open → ⊥
not-open t log none is = let e = ap (fate t) (sym none) ∙ is in absurd (cc)

module _ (seen : rig.DeviceImages) (leaves : Outcomes) (frames : ℕ) (c : Parts) (devices : AreBlank seen leaves) (f : IsFresh frames c) where
  -- ---- parts

  pub log-is : (j : ℕ) → 1 ≤ j → j ≤ 8 → log_at c j ≡ new_log j 0
  log-is j low high = ap (λ (logs : List LogState). among no_log logs j) f.logs ∙ at-each no_log (λ i. new_log i 0) j low high

  base-none : (j : ℕ) → base_at (log_at c j) ≡ []
  base-none j = subst (λ (logs : List LogState). base_at (among no_log logs j) ≡ []) (sym f.logs)
      (at-any (λ (l : LogState). base_at l ≡ []) no_log (λ i. new_log i 0) refl (λ i. refl) j)

  tail-none : (j : ℕ) → tail_at (log_at c j) ≡ []
  tail-none j = subst (λ (logs : List LogState). tail_at (among no_log logs j) ≡ []) (sym f.logs)
      (at-any (λ (l : LogState). tail_at l ≡ []) no_log (λ i. new_log i 0) refl (λ i. refl) j)

  no-other : (j : ℕ) → other_at c j ≡ None
  no-other j = subst (λ (others : List (Option ℕ)). among {A = Option ℕ} None others j ≡ None) (sym f.others)
      (at-any (λ (o : Option ℕ). o ≡ None) None (λ i. None) refl (λ i. refl) j)

  pub no-check : (j : ℕ) → check_at c j ≡ None
  no-check j = subst (λ (checks : List (Option Begun)). among {A = Option Begun} None checks j ≡ None) (sym f.checks)
      (at-any (λ (o : Option Begun). o ≡ None) None (λ i. None) refl (λ i. refl) j)

  no-copy : (i p : ℕ) → buffers.image_at (pool_at c i) p ≡ None
  no-copy i p = subst (λ (pools : List Buffers). buffers.image_at (among no_pool pools i) p ≡ None) (sym f.pools)
      (at-any (λ (pool : Buffers). buffers.image_at pool p ≡ None) no_pool (λ k. empty_pool frames) refl (λ k. refl) i)

  pub table-is : (i : ℕ) → 1 ≤ i → i ≤ 8 → txns_at c i ≡ empty_table i
  table-is i low high = ap (λ (txns : List Transactions). among no_txns txns i) f.txns ∙ at-each no_txns empty_table i low high

  is-clean : (i : ℕ) → 1 ≤ i → i ≤ 8 → status_at c i ≡ S.Clean
  is-clean i low high = ap (λ (statuses : List Status). among S.Closed statuses i) f.statuses
      ∙ at-each S.Closed (λ k. S.Clean) i low high

  epoch-is : (i : ℕ) → 1 ≤ i → i ≤ 8 → epoch_at c i ≡ 0
  epoch-is i low high = ap (λ (epochs : List ℕ). among 0 epochs i) f.epochs ∙ at-each 0 (λ k. 0) i low high

  pub owes-none : (i : ℕ) → 1 ≤ i → i ≤ 8 → owed_at c i ≡ 0
  owes-none i low high = ap (λ (owed : List ℕ). among 0 owed i) f.owed ∙ at-each 0 (λ k. 0) i low high

  -- an instance that is up has a settled log; above 8 none is up
  settled-up : (i : ℕ) → 1 ≤ i → is_up c i ≡ true → is_loose c i ≡ false
  settled-up i low up = ap (λ (marks : List Bool). get_or marks i true) f.loose
      ∙ by i low (sym (ap (λ (statuses : List Status). up_as (among S.Closed statuses i)) f.statuses) ∙ up)
    where
      by : (i : ℕ) → 1 ≤ i → up_as (among S.Closed (for_each (λ k. S.Clean) 8) i) ≡ true → get_or (for_each (λ k. false) 9) i true ≡ false
      by zero low up = absurd (omega (arith, low))
      by (suc zero) low up = refl
      by (suc (suc zero)) low up = refl
      by (suc (suc (suc zero))) low up = refl
      by (suc (suc (suc (suc zero)))) low up = refl
      by (suc (suc (suc (suc (suc zero))))) low up = refl
      by (suc (suc (suc (suc (suc (suc zero)))))) low up = refl
      by (suc (suc (suc (suc (suc (suc (suc zero))))))) low up = refl
      by (suc (suc (suc (suc (suc (suc (suc (suc zero)))))))) low up = refl
      by (suc (suc (suc (suc (suc (suc (suc (suc (suc j))))))))) low up = absurd (cc)

  -- ---- devices

  left-blank : (d : ℕ) → d ≤ 8 → (bytes : List ℕ) → leaves d bytes → IsBlank bytes
  left-blank d le bytes left = subst IsBlank (sym ((devices.only d le bytes).0 left)) (devices.blank d le)

  page-none : (bytes : List ℕ) → IsBlank bytes → (p : ℕ) → disk_page bytes p ≡ empty_page p
  page-none bytes blank p = ap (page_in p) (body_blank (twin_at p) 1024 bytes blank)

  reads-left : (d : ℕ) → d ≤ 8 → leaves d (seen d)
  reads-left d le = (devices.only d le (seen d)).1 refl

  -- ---- what may be left, wherever logs begin

  module _ (moved : Keeps) where
    abbrev leaves' : Outcomes
    leaves' = leaves_by c moved leaves

    abbrev logs : Logs
    logs = log_by c moved

    pub same-log : (j : ℕ) → logs j ≡ log_at c j
    same-log j = ap (λ (o : Option ℕ). cond (moved j) (option_map_or (λ place. begun_at place (log_at c j)) o (log_at c j)) (log_at c j)) (no-other j)
        ∙ both (moved j)
      where
        both : (b : Bool) → cond b (log_at c j) (log_at c j) ≡ log_at c j
        both true = refl
        both false = refl

    bases : (j : ℕ) → base_at (logs j) ≡ []
    bases j = ap base_at (same-log j) ∙ base-none j

    tails : (j : ℕ) → tail_at (logs j) ≡ []
    tails j = ap tail_at (same-log j) ∙ tail-none j

    abbrev no_tails : Tails
    no_tails = record { base = λ j. []; tail = λ j. [] }

    tails-none : tails_of logs ≡ no_tails
    tails-none = ap₂ (λ (b t : ℕ → List Rec). made b t) (fun_ext bases) (fun_ext tails)
      where
        made : (ℕ → List Rec) → (ℕ → List Rec) → Tails
        made b t = record { base = b; tail = t }

    kept-none : (keeps : Keeps) (j : ℕ) → kept_logs (tails_of logs) keeps j ≡ []
    kept-none keeps j = ap₂ (λ (b t : List Rec). b ++ cond (keeps j) t []) (bases j) (tails j) ∙ both (keeps j)
      where
        both : (b : Bool) → cond {A = List Rec} b [] [] ≡ []
        both true = refl
        both false = refl

    allowed : (p : ℕ) → may_of leaves' p (disk_page (seen 0) p)
    allowed p = (seen 0, (reads-left 0 (omega arith), subst (λ (o : Option ℕ). IfSome o (λ place. (master (seen 0)).start ≡ cond (moved 0) place (log_at c 0).start)) (sym (no-other 0)) tt), refl)

    only-empty : (p : ℕ) (x : Page) → may_of leaves' p x → x ≡ empty_page p
    only-empty p x m = sym m.2 ∙ page-none m.0 (left-blank 0 (omega arith) m.0 m.1.0) p

    safe0 : IsSafe (tails_of logs) (λ p x. x ≡ empty_page p) (λ keeps p. newest nothing p)
    safe0 = subst (λ (t : Tails). IsSafe t (λ p x. x ≡ empty_page p) (λ keeps p. newest nothing p)) (sym tails-none)
        (opening-safe nothing sound-none (λ j le. refl) (λ j. tt) (λ j t. tidy-none t))

    named : IsNamed (may_of leaves') (tails_of logs) (disk_page (seen 0)) (λ keeps p. newest nothing p)
    named = may_be-named (λ p x. x ≡ empty_page p) (may_of leaves') (tails_of logs) (λ keeps p. newest nothing p) (disk_page (seen 0))
        safe0 only-empty allowed

    pub now-empty : (keeps : Keeps) (p : ℕ) → version_of (tails_of logs) (disk_page (seen 0)) keeps p ≡ empty_page p
    now-empty keeps p = named.same keeps p ∙ newest-none p

    unheld : (i p : ℕ) (x : Page) → None ≡ cond (holds (entry_at c.directory p) i) (Some x) None
    unheld i p x = sym (ap (λ (e : PageEntry). cond (holds e i) (Some x) None) (f.free p))

    unmoved : (p : ℕ) (x : Page) → None ≡ cond (passes (entry_at c.directory p)) (Some x) None
    unmoved p x = sym (ap (λ (e : PageEntry). cond (passes e) (Some x) None) (f.free p))

    no-rec : (p l : ℕ) → rec_lsn_at c.directory p ≡ Some l → ⊥
    no-rec p l is = let e = sym (f.clean p) ∙ is in absurd (cc)

    coherent : Coherent (base_of seen leaves' logs c) (dir_of c)
    coherent = record {
      safe = named.safe;
      eight = (bases 0, tails 0);
      reads = allowed;
      still = λ e p x m. only-empty p x m ∙ sym (page-none (seen 0) (devices.blank 0 (omega arith)) p);
      copies = λ i p. no-copy i p ∙ unheld i p (version_of (tails_of logs) (disk_page (seen 0)) all_kept p);
      moving = λ p. f.still p ∙ unmoved p (version_of (tails_of logs) (disk_page (seen 0)) all_kept p);
      live = λ i p u. let e = sym (ap (λ (e : PageEntry). uses e i) (f.free p)) ∙ u in absurd (cc);
      unforced = λ j p. inl (subst (Quiet p) (sym (tails j)) tt);
      ready = λ i low up. inl (settled-up i low up);
      marks = λ p. ap is_some (f.clean p) ∙ sym (ap changed (f.free p));
      clean = λ p e x m. only-empty p x m ∙ sym (now-empty all_kept p);
      first = λ p l is. absurd (no-rec p l is);
      below = λ p l is. absurd (no-rec p l is);
    }

    gives : Gives (tails_of logs) (may_of leaves') (λ keeps. λ p s. None)
    gives disk all keeps p s = subst (λ (t : Tails). Recovered (cut keeps (with_disk t disk)) p s None) (sym tails-none)
        (opening-gives nothing sound-none (λ j le. refl) (λ j. tt) (λ j t. tidy-none t) (λ p s. None) gives-none
        disk (λ q. only-empty q (disk q) (all q)) keeps p s)

    epoch-none : (j : ℕ) → 1 ≤ j → j ≤ 8 → (bytes : List ℕ) → leaves j bytes → (past_at (master bytes) (new_log j 0)).epoch ≡ 0
    epoch-none j low high bytes left = ap (λ (m : Master). (past_at m (new_log j 0)).epoch) (master_blank bytes (left-blank j high bytes left))

    -- nobody has a record open with the tail
    held : (t : TxnId) → Each (λ x. (fresh.part t).claims (rid_of x) ≡ Claim.Excl) (stack t (all_at (logs (home t))))
    held t = subst (λ (log : List Rec). Each (λ x. (fresh.part t).claims (rid_of x) ≡ Claim.Excl) (stack t log))
        (sym (ap₂ (λ (b tail : List Rec). b ++ tail) (bases (home t)) (tails (home t)))) tt

    epochs : (j : ℕ) → 1 ≤ j → j ≤ 8 → (bytes : List ℕ) → leaves j bytes → (l : LogState) → l ≡ new_log j 0
        → IsEpochOf fresh Pending.Idle j (past_at (master bytes) l).epoch
    epochs j low high bytes left l is =
        let e = ap (λ (k : LogState). (past_at (master bytes) k).epoch) is ∙ epoch-none j low high bytes left in
        record { low = omega (arith, e); high = omega (arith, e) }

    half : Half seen leaves' logs Pending.Idle c fresh
    half = record {
      coherent = coherent;
      soundly = blank-sound leaves' logs (λ d le bytes l. left-blank d le bytes l.0)
          (λ j low high. same-log j ∙ log-is j low high ∙ ap (new_log j) (sym (ap (λ (l : LogState). l.spare) (same-log j ∙ log-is j low high))));
      gives = gives;
      claimed = λ keeps t is. absurd (not-open t (kept_logs (tails_of logs) keeps (home t)) (kept-none keeps (home t)) is);
      held = λ t opens. held t;
      epochs = λ j low high bytes l. (
        epochs j low high bytes l.0 (logs j) (same-log j ∙ log-is j low high),
        epochs j low high bytes l.0 (forced (logs j)) (ap forced (same-log j ∙ log-is j low high)),
      );
      checks = λ i k is. let e = sym (no-check i) ∙ is in absurd (cc);
    }

  -- ---- the whole

  settled : (j : ℕ) → 1 ≤ j → j ≤ 8 → IsSettledAt seen leaves c j
  settled j low high = record {
    only = devices.only j high;
    stands = subst (λ (l : LogState). StandsOn l (seen j)) (sym (log-is j low high))
        (⊎_elim (λ s. s) (λ s. s) (blank-ready j (seen j) (new_log j 0) (devices.blank j high)).either);
    one_place = no-other j;
    counted = subst (λ (o : Option (List ℕ)). IfSome o (λ body. number_of body ≡ count_at c j))
        (sym (body_blank 0 64 (seen j) (devices.blank j high))) tt;
    epoch = ap (λ (l : LogState). (past_at (master (seen j)) (forced l)).epoch) (log-is j low high)
        ∙ ap (λ (k : Master). (past_at k (new_log j 0)).epoch) (master_blank (seen j) (devices.blank j high)) ∙ sym (epoch-is j low high);
  }

  instance-is : (i : ℕ) → 1 ≤ i → i ≤ 8 → IsInstance c fresh i
  instance-is i low high = record {
    status = is-clean i low high;
    epoch = λ up. epoch-is i low high;
    begins = λ up. let e = sym (is-clean i low high) ∙ up in absurd (cc);
    first = λ up. let e = sym (is-clean i low high) ∙ up in absurd (cc);
    own = λ t ne. ap (λ (z : Transactions). txn_at z t) (table-is i low high);
    table = let e = ap (λ (z : Transactions). z.epoch) (table-is i low high) in omega (arith, e);
    names = λ t own. subst (λ (table : Transactions). NamesLife (txn_at table t) (fresh.part t).life (fate t (base_at (log_at c i))) (fate t (all_at (log_at c i))))
        (sym (table-is i low high)) refl;
  }

  all-none : (j : ℕ) → all_at (log_at c j) ≡ []
  all-none j = ap₂ (λ (b t : List Rec). b ++ t) (base-none j) (tail-none j)

  told : (i : ℕ) → 1 ≤ i → i ≤ 8 → IsTold c fresh i
  told i low high = record {
    rows = λ t own. subst (λ (table : Transactions). RowIsLogged (txn_at table t) t (all_at (log_at c i))) (sym (table-is i low high))
        (not-open t (all_at (log_at c i)) (all-none i));
    owes = ap owed_of (table-is i low high) ∙ sym (ap owed (all-none i));
    reserves = ap reserve_of (table-is i low high) ∙ sym (ap reserve (all-none i));
    spare = λ up. let e = ap reserve (all-none i) in omega (arith, e);
  }

  known-lsn : (moved : Keeps) (p : ℕ) (x : Page) → may_of leaves p x → IsKnownLsn c (log_by c moved) x.lsn
  known-lsn moved p x m =
      let e = ap (λ (y : Page). y.lsn) (sym m.2 ∙ page-none m.0 (left-blank 0 (omega arith) m.0 m.1) p) in inl (omega (arith, e))

  owes-little : (moved : Keeps) (j : ℕ) → OwesAtMost (owed_at c j) (log_by c moved j)
  owes-little moved j =
      let base = ap owed (bases moved j) in
      let all = ap owed (ap₂ (λ (b tail : List Rec). b ++ tail) (bases moved j) (tails moved j)) in
      (omega (arith, base), omega (arith, all))

  pub fresh-good : Good seen leaves Pending.Idle c fresh
  fresh-good = record {
    shape = record {
      logs = ap length f.logs;
      pools = ap length f.pools;
      txns = ap length f.txns;
      statuses = ap length f.statuses;
      epochs = ap length f.epochs;
      masters = ap length f.masters;
      checks = ap length f.checks;
      others = ap length f.others;
      owed = ap length f.owed;
      loose = ap length f.loose;
      own_log = λ j low high. ap (λ (l : LogState). l.inst) (log-is j low high);
      own_txns = λ j low high. ap (λ (table : Transactions). table.inst) (table-is j low high);
    };
    half = half;
    places = λ j place is. let e = sym (no-other j) ∙ is in absurd (cc);
    others = λ i place low high is. let e = sym (no-other i) ∙ is in absurd (cc);
    settled = λ j low high e. settled j low high;
    disk_settled = λ e. devices.only 0 (omega arith);
    disk_lsns = known-lsn;
    last = λ j low high. subst (Each (λ x. x.lsn ≤ last_lsn (scanned (log_at c j)))) (sym (all-none j)) tt;
    owed = λ j low high e. owes-none j low high ∙ sym (ap owed (base-none j));
    owed_loose = λ moved j low high e. owes-little moved j;
    kept = opening_run-kept [] fresh fresh fresh-opening refl;
    placed = opened-placed fresh fresh-opened;
    listed = opened-listed fresh fresh-opened;
    marked = opened-marked fresh fresh-opened;
    named = λ t. tt;
    numbered = λ t there. absurd (there refl);
    recoverers = opened-recoverers fresh fresh-opened;
    not_closed = λ e. absurd (cc);
    instances = instance-is;
    told = λ i low high tells e. told i low high;
    at_rest = λ i low high tells e. let told = sym (ap tells_log (is-clean i low high)) ∙ tells in absurd (cc);
    begun = λ i low high up. let e = sym (is-clean i low high) ∙ up in absurd (cc);
    at_work = λ i low high up. let e = sym (is-clean i low high) ∙ up in absurd (cc);
    going = λ t low high goes. subst (IsOpen t) (sym (all-none (home t))) tt;
    pending = tt;
    gone = λ t e r. refl;
    locks = λ t r. subst (λ (held : Held). held_in held t r ≡ None) (sym f.unlocked) refl;
    asks = λ p. subst (Each (λ ask. (is_active c ask.by ≡ true) × (is_open_ask (entry_at c.directory p) ask ≡ true))) (sym (f.unasked p)) tt;
    checking = λ i k is. let e = sym (no-check i) ∙ is in absurd (cc);
  }
