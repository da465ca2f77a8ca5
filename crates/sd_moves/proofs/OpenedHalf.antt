-- What a crash leaves of devices that were read and synced, with the logs and the directory that were found: for `without_tails`.
use Rattle.std.proofs.Common.{◌≡◌, inl, ℕ, zero, suc, ◌≤◌, Bool, true, false, cond, List, [], ◌++◌, map, length, get_or, refl, sym, ap, ap₂, ◌∙◌, subst, arith, ⊎_elim}
use Rattle.std.specs.Prelude.{Option, None, Some, is_some}
use Rattle.std.proofs.lemmas.Bool.{cases_lt}
use Rattle.std.proofs.lemmas.List.{get_or_past}
use mathlib.Core.Path.{fun_ext}
use Rattle.sd_base.specs.declared.ids.TxnId.{TxnId}
use Rattle.sd_base.specs.declared.place.Status.TheVariants as S
use Rattle.sd_logrec.specs.Kept.{Reading, Whole, kept, master}
use Rattle.sd_logrec.specs.View.{Rec, flat}
use Rattle.sd_log.specs.Logs.{LogState, forced, scanned}
use Rattle.sd_page.specs.Page.{Page}
use Rattle.sd_model.specs.State.{State, now}
use Rattle.sd_model.specs.declared.act.Claim.{Claim}
use Rattle.sd_pagelock.specs.Directory.{rec_lsn_at}
use Rattle.sd_pagelock.specs.Places.{PageEntry, changed, holds, passes, uses}
use Rattle.sd_pool.specs.Buffers.{Buffers}
use Rattle.sd_pool.specs.Buffers as buffers
use Rattle.sd_rig.specs.Devices as rig
use Rattle.sd_rig.specs.Devices.{LeavesOnly}
use Rattle.sd_chain.specs.Bytes.{disk_page, log_of, records_of, stable}
use Rattle.sd_chain.specs.Checks.{past_of, placed_of}
use Rattle.sd_chain.specs.Cuts.{cut}
use Rattle.sd_chain.specs.Fates.{Fate, fate}
use Rattle.sd_chain.specs.Storage.{Recovered, Storage, chain, newest}
use Rattle.sd_chain.specs.Images.{Gives, IsSafe, Keeps, Tails, all_kept, log, with_disk}
use Rattle.sd_chain.specs.Laws.{Narrows, Opens, as_read, without_tails}
use Rattle.sd_chain.specs.Records.{Each, IsOpen, home, stack}
use Rattle.sd_chain.proofs.Images.{opening-gives, opening-safe}
use Rattle.sd_chain.proofs.Lists.{Each-weaker}
use Rattle.sd_chain.proofs.Narrowed.{narrowed-gives}
use Rattle.sd_chain.proofs.Soundly.{sound-opens}
use Rattle.sd_chain.specs.Coherent.{Coherent, NoneBefore, Quiet}
use Rattle.sd_chain.specs.Named.{IsNamed, version_of}
use Rattle.sd_chain.specs.Statuses.{opened_base, opened_dir}
use Rattle.sd_chain.proofs.Named.{may_be-named}
use Rattle.sd_chain.proofs.Statuses.{opening-coherent}
use Rattle.sd_chain.specs.ChecksKept.{IsRead}
use Rattle.sd_chain.specs.Logs.{Logs, Outcomes, after_records, all_at, base_at, kept_logs, may_of, past_at, tail_at, tails_of}
use Rattle.sd_chain.specs.Soundly.{IsSoundly}
use Rattle.sd_chain.proofs.Kept.{forced-idle, kept-is, log-here, log-past, no-tail}
use Rattle.sd_chain.proofs.Lsns.{log-records, scanned-records}
use Rattle.sd_chain.proofs.Opened.{opened-sound}
use Rattle.sd_state.specs.Fresh.{empty_pool, for_each}
use Rattle.sd_state.specs.Good.{Half, base_of, dir_of}
use Rattle.sd_state.specs.Images.{IsClaimed, IsEpochOf, kept_epoch, leaves_by, log_by}
use Rattle.sd_recovered.specs.FirstAbove.{IsFirstAbove}
use Rattle.sd_moves.specs.Opening.{AreOpened, OpensTo, claim_in, is_loser, is_lost_in}
use Rattle.sd_state.specs.Parts.{Begun, Parts, among, check_at, is_loose, is_up, log_at, no_log, no_pool, other_at, pool_at, up_as}
use Rattle.sd_state.specs.Values.{Pending, is_doubt, rid_of, values}
use Rattle.sd_state.proofs.Items.{at-any}
use Rattle.sd_moves.proofs.OpenedPages.{lost-past, none-before, none-beyond, unlost-same}
use Rattle.sd_moves.proofs.OpenedImage.{claims-endless, claims-left, life-left, no-doubt, values-now}
use Rattle.sd_state.proofs.Standing.{no-place, one-place}

-- ---- marks

-- all nine are settled
pub nine-settled : (d : ℕ) → d ≤ 8 → get_or (for_each (λ k. false) 9) d true ≡ false
nine-settled zero le = refl
nine-settled (suc zero) le = refl
nine-settled (suc (suc zero)) le = refl
nine-settled (suc (suc (suc zero))) le = refl
nine-settled (suc (suc (suc (suc zero)))) le = refl
nine-settled (suc (suc (suc (suc (suc zero))))) le = refl
nine-settled (suc (suc (suc (suc (suc (suc zero)))))) le = refl
nine-settled (suc (suc (suc (suc (suc (suc (suc zero))))))) le = refl
nine-settled (suc (suc (suc (suc (suc (suc (suc (suc zero)))))))) le = refl
nine-settled (suc (suc (suc (suc (suc (suc (suc (suc (suc d))))))))) le = absurd (omega (arith, le))

module _ (seen : rig.DeviceImages) (leaves : Outcomes) (frames : ℕ) (c : Parts) (m : State)
    (only : (d : ℕ) → d ≤ 8 → LeavesOnly (seen d) (leaves d)) (size : length (seen 0) ≡ rig.device_len 0)
    (a : AreOpened frames seen c) (o : OpensTo seen m) where
  -- ---- parts

  abbrev img : Storage
  img = stable seen

  opens : Opens img
  opens = (sound-opens seen a.sound).0

  pub no-other : (j : ℕ) → other_at c j ≡ None
  no-other j = subst (λ (others : List (Option ℕ)). among {A = Option ℕ} None others j ≡ None) (sym a.others)
      (at-any (λ (x : Option ℕ). x ≡ None) None (λ i. None) refl (λ i. refl) j)

  pub no-check : (j : ℕ) → check_at c j ≡ None
  no-check j = subst (λ (checks : List (Option Begun)). among {A = Option Begun} None checks j ≡ None) (sym a.checks)
      (at-any (λ (x : Option Begun). x ≡ None) None (λ i. None) refl (λ i. refl) j)

  no-copy : (i p : ℕ) → buffers.image_at (pool_at c i) p ≡ None
  no-copy i p = subst (λ (pools : List Buffers). buffers.image_at (among no_pool pools i) p ≡ None) (sym a.pools)
      (at-any (λ (pool : Buffers). buffers.image_at pool p ≡ None) no_pool (λ k. empty_pool frames) refl (λ k. refl) i)

  pub is-settled : (d : ℕ) → d ≤ 8 → is_loose c d ≡ false
  is-settled d le = ap (λ (marks : List Bool). get_or marks d true) a.loose ∙ nine-settled d le

  -- an instance that is up has a settled log; above 8 none is up
  settled-up : (i : ℕ) → 1 ≤ i → is_up c i ≡ true → is_loose c i ≡ false
  settled-up zero low up = absurd (omega (arith, low))
  settled-up (suc i) low up = ⊎_elim
      (λ lt. is-settled (suc i) (omega (arith, lt)))
      (λ ge. let eight = a.shape.statuses in
      let e = sym (ap up_as (get_or_past c.statuses i S.Closed (omega (arith, ge, eight)))) ∙ up in absurd (cc))
      (cases_lt (suc i) 9)

  -- ---- logs

  pub kept-here : (j : ℕ) → 1 ≤ j → j ≤ 8 → kept (seen j) ≡ Whole (log_at c j).groups (log_at c j).gate
  kept-here j low high = let read = (a.insts j low high).log in kept-is (log_at c j) (seen j) (sym read.start) read.stands

  -- of any number, a log has what its device keeps, and no tail
  pub base-is : (j : ℕ) → base_at (log_at c j) ≡ log_of seen j
  base-is zero = refl
  base-is (suc j) = ⊎_elim
      (λ lt. let high : suc j ≤ 8 = omega (arith, lt) in let low : 1 ≤ suc j = omega arith in
      sym (log-here seen (suc j) low high ∙ ap records_of (kept-here (suc j) low high)))
      (λ ge. let eight = a.shape.logs in
      ap base_at (get_or_past c.logs j no_log (omega (arith, ge, eight))) ∙ sym (log-past seen (suc j) ge))
      (cases_lt (suc j) 9)

  tail-none : (j : ℕ) → tail_at (log_at c j) ≡ []
  tail-none zero = refl
  tail-none (suc j) = ⊎_elim
      (λ lt. ap (map _) (a.insts (suc j) (omega arith) (omega (arith, lt))).log.tail)
      (λ ge. let eight = a.shape.logs in ap tail_at (get_or_past c.logs j no_log (omega (arith, ge, eight))))
      (cases_lt (suc j) 9)

  pub all-is : (j : ℕ) → all_at (log_at c j) ≡ log_of seen j
  all-is j = ap₂ (λ (b t : List Rec). b ++ t) (base-is j) (tail-none j) ∙ no-tail true (log_of seen j)

  -- no record changes a page above the last one
  beyond : (p : ℕ) → 1024 ≤ p → (j : ℕ) → Quiet p (log_of seen j)
  beyond p far zero = tt
  beyond p far (suc j) = ⊎_elim
      (λ lt. let low : 1 ≤ suc j = omega arith in let high : suc j ≤ 8 = omega (arith, lt) in
      let found = a.insts (suc j) low high in
      subst (Quiet p) (ap (map flat) (scanned-records (log_at c (suc j))) ∙ log-records (log_at c (suc j)) ∙ all-is (suc j))
      (none-beyond p far (scanned (log_at c (suc j))) found.spelled))
      (λ ge. subst (Quiet p) (sym (log-past seen (suc j) ge)) tt)
      (cases_lt (suc j) 9)

  pub epoch-is : (j : ℕ) → 1 ≤ j → j ≤ 8 → (past_at (master (seen j)) (log_at c j)).epoch ≡ kept_epoch (seen j)
  epoch-is j low high = ap (λ (r : Reading). (after_records (past_of (master (seen j))) (map (λ x. x.1) (placed_of r))).epoch)
      (sym (kept-here j low high))

  pub left-is : (d : ℕ) → d ≤ 8 → (bytes : List ℕ) → leaves d bytes → bytes ≡ seen d
  left-is d le bytes left = (only d le bytes).0 left

  -- ---- the state

  undoubted : (t : TxnId) → is_doubt (m.part t).life ≡ false
  undoubted t = no-doubt (is_loser img t) (m.part t).life (o.lives t)

  -- these are the claims of m, too
  own-claims : (t : TxnId) (xs : List Rec) → Each (λ x. claim_in img t (rid_of x) ≡ Claim.Excl) xs
      → Each (λ x. (m.part t).claims (rid_of x) ≡ Claim.Excl) xs
  own-claims t xs each = Each-weaker (λ x. claim_in img t (rid_of x) ≡ Claim.Excl)
      (λ x. (m.part t).claims (rid_of x) ≡ Claim.Excl) (λ x e. o.claims t (rid_of x) ∙ e) xs each

  claimed : (t : TxnId) → fate t (log_of seen (home t)) ≡ Fate.Open → IsClaimed m t (log_of seen (home t))
  claimed t alive = record {
    there = λ gone. let e = sym (o.lives t ∙ life-left img t alive) ∙ gone in absurd (cc);
    claims = own-claims t (stack t (log_of seen (home t))) (claims-left img t alive);
  }

  -- ---- what may be left, wherever logs begin

  module _ (moved : Keeps) where
    abbrev leaves' : Outcomes
    leaves' = leaves_by c moved leaves

    abbrev logs : Logs
    logs = log_by c moved

    same-log : (j : ℕ) → logs j ≡ log_at c j
    same-log j = one-place c moved j (no-other j)

    -- a device may be left as it reads, and not otherwise
    only' : (d : ℕ) → d ≤ 8 → LeavesOnly (seen d) (leaves' d)
    only' d le bytes = ((λ l. left-is d le bytes l.0), (λ e. ((only d le bytes).1 e, no-place (other_at c d) _ (no-other d))))

    tails-are : tails_of logs ≡ without_tails img
    tails-are = ap₂ (λ (b t : ℕ → List Rec). made b t) (fun_ext (λ j. ap base_at (same-log j) ∙ base-is j))
        (fun_ext (λ j. ap tail_at (same-log j) ∙ tail-none j))
      where
        made : (ℕ → List Rec) → (ℕ → List Rec) → Tails
        made b t = record { base = b; tail = t }

    kept-same : (keeps : Keeps) (j : ℕ) → kept_logs (tails_of logs) keeps j ≡ log_of seen j
    kept-same keeps j = ap (λ (t : Tails). kept_logs t keeps j) tails-are ∙ no-tail (keeps j) (log_of seen j)

    read : (j : ℕ) → 1 ≤ j → j ≤ 8 → IsRead (seen j) (logs j)
    read j low high = subst (IsRead (seen j)) (sym (same-log j)) (a.insts j low high).log

    pub soundly : IsSoundly leaves' logs
    soundly = opened-sound leaves' logs seen a.sound only' read size

    allowed : (p : ℕ) → may_of leaves' p (disk_page (seen 0) p)
    allowed p = (seen 0, (only' 0 (omega arith) (seen 0)).1 refl, refl)

    narrows : Narrows (as_read img) (may_of leaves')
    narrows p x may = sym may.2 ∙ ap (λ (bytes : List ℕ). disk_page bytes p) (left-is 0 (omega arith) may.0 may.1.0)

    safe0 : IsSafe (tails_of logs) (as_read img) (λ keeps. newest img)
    safe0 = subst (λ (t : Tails). IsSafe t (as_read img) (λ keeps. newest img)) (sym tails-are)
        (opening-safe img opens.sound opens.eight opens.numbered opens.order)

    named : IsNamed (may_of leaves') (tails_of logs) (disk_page (seen 0)) (λ keeps. newest img)
    named = may_be-named (as_read img) (may_of leaves') (tails_of logs) (λ keeps. newest img) (disk_page (seen 0))
        safe0 narrows allowed

    pub now-same : (keeps : Keeps) (p : ℕ) → version_of (tails_of logs) (disk_page (seen 0)) keeps p ≡ newest img p
    now-same keeps p = named.same keeps p

    first-of : (p l : ℕ) → rec_lsn_at c.directory p ≡ Some l → (j : ℕ) → NoneBefore p l (img.disk p) (img.logs j)
    first-of p l e = ⊎_elim
        (λ lt. none-before img p l (log-past seen) (subst (IsFirstAbove (chain img p) (img.disk p).lsn) e ((a.pages p).first lt)))
        (λ ge. let off = ap is_some (sym e) ∙ (a.pages p).mark ∙ lost-past img p ge in absurd (cc))
        (cases_lt p 1024)

    -- as the law has it of what an opening reads
    lawful : Coherent (opened_base img (rec_lsn_at c.directory) (is_up c)) (opened_dir (is_lost_in img))
    lawful = opening-coherent img (rec_lsn_at c.directory) (is_lost_in img) (is_up c) opens refl (record {
      marks = λ p. (a.pages p).mark;
      free = λ p e. unlost-same img p opens refl (beyond p) e;
      first = first-of;
    })

    coherent : Coherent (base_of seen leaves' logs c) (dir_of c)
    coherent = record {
      safe = named.safe;
      eight = (ap base_at (same-log 0), ap tail_at (same-log 0));
      reads = allowed;
      still = λ e p x may. narrows p x may;
      copies = λ i p. no-copy i p ∙ lawful.copies i p
          ∙ ap₂ (λ (e : PageEntry) (x : Page). cond (holds e i) (Some x) None) (sym (a.pages p).entry) (sym (now-same all_kept p));
      moving = λ p. (a.pages p).still ∙ lawful.moving p
          ∙ ap₂ (λ (e : PageEntry) (x : Page). cond (passes e) (Some x) None) (sym (a.pages p).entry) (sym (now-same all_kept p));
      live = λ i p u. let e = lawful.live i p (sym (ap (λ (e : PageEntry). uses e i) (a.pages p).entry) ∙ u) in absurd (cc);
      unforced = λ j p. inl (subst (Quiet p) (sym (ap tail_at (same-log j) ∙ tail-none j)) tt);
      ready = λ i low up. inl (settled-up i low up);
      marks = λ p. lawful.marks p ∙ ap changed (sym (a.pages p).entry);
      clean = λ p e x may. lawful.clean p (ap changed (sym (a.pages p).entry) ∙ e) x (narrows p x may)
          ∙ sym (now-same all_kept p);
      first = λ p l is x may j. subst (λ (t : Tails). NoneBefore p l x (log t j)) (sym tails-are)
          (lawful.first p l is x (narrows p x may) j);
      below = λ p l is found. subst (λ (x : Page). l ≤ x.lsn) (sym (now-same all_kept p))
          (lawful.below p l is (λ e. found ((a.pages p).entry ∙ e)));
    }

    -- recovery gives the table of m
    table : Gives (tails_of logs) (may_of leaves') (λ keeps p s. now m (record { page = p; slot = s }))
    table = subst (λ (t : Tails). Gives t (may_of leaves') (λ keeps p s. now m (record { page = p; slot = s }))) (sym tails-are)
        (narrowed-gives (as_read img) (may_of leaves') narrows (without_tails img) (λ keeps p s. now m (record { page = p; slot = s }))
        (opening-gives img opens.sound opens.eight opens.numbered opens.order
        (λ p s. now m (record { page = p; slot = s })) o.table))

    gives : Gives (tails_of logs) (may_of leaves') (λ keeps. values m Pending.Idle (kept_logs (tails_of logs) keeps))
    gives disk all keeps p s = subst (Recovered (cut keeps (with_disk (tails_of logs) disk)) p s)
        (sym (values-now m (kept_logs (tails_of logs) keeps) p s undoubted)) (table disk all keeps p s)

    epoch-of : (j : ℕ) → 1 ≤ j → j ≤ 8 → (bytes : List ℕ) → leaves' j bytes → (l : LogState) → l ≡ log_at c j
        → IsEpochOf m Pending.Idle j (past_at (master bytes) l).epoch
    epoch-of j low high bytes left l is = subst (IsEpochOf m Pending.Idle j)
        (sym (ap₂ (λ (b : List ℕ) (k : LogState). (past_at (master b) k).epoch) (left-is j high bytes left.0) is
        ∙ epoch-is j low high))
        (o.epochs j low high)

    pub half : Half seen leaves' logs Pending.Idle c m
    half = record {
      coherent = coherent;
      soundly = soundly;
      gives = gives;
      claimed = λ keeps t alive. subst (IsClaimed m t) (sym (kept-same keeps (home t)))
          (claimed t (ap (fate t) (sym (kept-same keeps (home t))) ∙ alive));
      held = λ t alive. subst (λ (xs : List Rec). Each (λ x. (m.part t).claims (rid_of x) ≡ Claim.Excl) (stack t xs))
          (sym (ap all_at (same-log (home t)) ∙ all-is (home t)))
          (own-claims t (stack t (log_of seen (home t)))
          (claims-endless img t (subst (IsOpen t) (ap base_at (same-log (home t)) ∙ base-is (home t)) alive)));
      epochs = λ j low high bytes left. (
        epoch-of j low high bytes left (logs j) (same-log j),
        epoch-of j low high bytes left (forced (logs j))
            (ap forced (same-log j) ∙ forced-idle (log_at c j) (a.insts j low high).log.tail),
      );
      checks = λ i k is. let e = sym (no-check i) ∙ is in absurd (cc);
    }
