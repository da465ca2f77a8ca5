-- What a crash may leave of a log to which a record without a page came: for the laws of `sealing`.
use Rattle.std.proofs.Common.{◌≡◌, ℕ, ◌<◌, ◌≤◌, Bool, true, false, cond, List, [], ◌∷◌, ◌++◌, ◌||◌, ◌&&◌, refl, sym, ap, ◌∙◌, subst, arith, ⊎_elim}
use Rattle.std.specs.Prelude.{Option, Some, filter, map}
use Rattle.std.specs.List.{list_any}
use Rattle.std.proofs.lemmas.Bool.{cases_Bool, cases_eq}
use Rattle.std.proofs.lemmas.List.{map-append}
use Rattle.std.proofs.lemmas.List.Folds.{list_any-append}
use mathlib.Core.Path.{fun_ext}
use Rattle.sd_base.specs.declared.ids.TxnId.{TxnId}
use Rattle.sd_base.specs.Ids.{same_txn}
use Rattle.sd_logrec.specs.Kept.{master}
use Rattle.sd_logrec.specs.View.{Kind, Rec, flat}
use Rattle.sd_logrec.specs.View.Kind.{Clr, Commit, End, Plain, Update}
use Rattle.sd_logrec.specs.declared.record.Record.{Record}
use Rattle.sd_log.specs.Logs.{LogState, forced, with_record}
use Rattle.sd_model.specs.State.{State}
use Rattle.sd_rig.specs.Devices as rig
use Rattle.sd_txn.specs.Transactions.{Transactions}
use Rattle.sd_chain.specs.Bytes.{disk_page}
use Rattle.sd_chain.specs.Checks.{lsn_of}
use Rattle.sd_chain.specs.Fates.{Fate, commits, fate, fate_after, is_commit}
use Rattle.sd_chain.specs.Images as images
use Rattle.sd_chain.specs.Images.{Gives, Grows, Keeps, log}
use Rattle.sd_chain.specs.Order.{MayFollow, of_txn, speaks}
use Rattle.sd_chain.specs.Records.{Each, IsOpen, changes, home, moved, stack}
use Rattle.sd_chain.proofs.Fates.{fate-others, fate-own}
use Rattle.sd_chain.proofs.Stacks.{stack-push}
use Rattle.sd_chain.proofs.Whose.{own_is}
use Rattle.sd_chain.specs.Checkpoints.{Closed, Covered}
use Rattle.sd_chain.specs.Coherent.{Coherent}
use Rattle.sd_chain.specs.Named.{IsNamed}
use Rattle.sd_chain.specs.World.{Base}
use Rattle.sd_chain.proofs.Changes.{seal-keeps}
use Rattle.sd_chain.proofs.Checkpoints.{cover-grows, cover-stays}
use Rattle.sd_chain.proofs.Closed.{close-grows, close-stays}
use Rattle.sd_chain.proofs.Named.{seal-named}
use Rattle.sd_chain.specs.Appends.{Appends}
use Rattle.sd_chain.specs.Logs.{Logs, Outcomes, all_at, base_at, kept_logs, may_of, past_at, tail_at, tails_of}
use Rattle.sd_chain.specs.Soundly.{IsSoundly}
use Rattle.sd_chain.proofs.Appends.{appended-log, kept-elsewhere, kept-old, kept-with, kept-without}
use Rattle.sd_state.specs.Good.{Half, base_of, dir_of}
use Rattle.sd_state.specs.Images.{IsClaimed, IsEpochOf, IsOpenIn}
use Rattle.sd_state.specs.Parts.{Begun, Parts, check_at, low_of}
use Rattle.sd_update.specs.Sealing.{with_ended}
use Rattle.sd_state.specs.Values.{Pending, as_done, is_committed, rid_of, undecided, values}
use Rattle.sd_model.specs.Acts.{after}
use Rattle.sd_model.specs.declared.act.Claim.{Claim}

-- log i, the table of instance i and the epochs are these
abbrev pub with_came : ℕ → LogState → Transactions → List ℕ → Parts → Parts
with_came i log table epochs c = record (with_ended i log table c) { epochs = epochs }

-- ---- one more record without a page

-- no stack moves
pub stack-same : (t : TxnId) (xs : List Rec) (y : Rec) → changes y.kind ≡ false → stack t (xs ++ y ∷ []) ≡ stack t xs
stack-same t xs y none = stack-push t xs y ∙ still (same_txn y.txn t) (moved-still y.kind none)
  where
    moved-still : (k : Kind) → changes k ≡ false → moved k y (stack t xs) ≡ stack t xs
    moved-still Update e = absurd (cc)
    moved-still Clr e = absurd (cc)
    moved-still Commit e = refl
    moved-still End e = refl
    moved-still Plain e = refl

    still : (b : Bool) → moved y.kind y (stack t xs) ≡ stack t xs → cond b (moved y.kind y (stack t xs)) (stack t xs) ≡ stack t xs
    still true e = e
    still false e = refl

-- one of a transaction ends it
pub ended-after : (k : Kind) (f : Fate) → changes k ≡ false → speaks k ≡ true → fate_after k f ≡ Fate.Open → ⊥
ended-after Update f none s e = absurd (cc)
ended-after Clr f none s e = absurd (cc)
ended-after Commit f none s e = absurd (cc)
ended-after End f none s e = absurd (cc)
ended-after Plain f none s e = absurd (cc)

first : (a b : Bool) → (a && b) ≡ true → a ≡ true
first true b e = refl
first false b e = absurd (cc)

-- who is open with it was open, and it isn't his
pub open-before : (t : TxnId) (xs : List Rec) (y : Rec) → changes y.kind ≡ false → (speaks y.kind ≡ true → MayFollow xs y)
    → fate t (xs ++ y ∷ []) ≡ Fate.Open → fate t xs ≡ Fate.Open
open-before t xs y none follows is = ⊎_elim
    (λ own. let s = first (speaks y.kind) (same_txn y.txn t) own in
    absurd (ended-after y.kind (fate y.txn xs) none s
    (sym (fate-own xs y (follows s)) ∙ subst (λ (u : TxnId). fate u (xs ++ y ∷ []) ≡ Fate.Open) (sym (own_is t y own)) is)))
    (λ off. sym (fate-others t xs (y ∷ []) (off, tt)) ∙ is)
    (cases_Bool (of_txn t y))

-- one that is no Commit commits nobody
pub commits-same : (t : TxnId) (xs : List Rec) (y : Rec) → is_commit y.kind ≡ false
    → list_any (commits t) (xs ++ y ∷ []) ≡ list_any (commits t) xs
commits-same t xs y none = list_any-append (commits t) xs (y ∷ [])
    ∙ ap (λ (b : Bool). list_any (commits t) xs || ((b && same_txn y.txn t) || false)) none ∙ or-false (list_any (commits t) xs)
  where
    or-false : (a : Bool) → (a || false) ≡ a
    or-false true = refl
    or-false false = refl

-- ---- what a crash may leave, with logs that begin somewhere

module _ (i : ℕ) (y : Record) (seen : rig.DeviceImages) (leaves : Outcomes) (logs logs' : Logs) (pend pend' : Pending) (c : Parts)
    (l : LogState)
    (table : Transactions) (epochs : List ℕ) (m : State) (h : Half seen leaves logs pend c m) (a : Appends i y leaves logs logs')
    (reads : leaves 0 (seen 0))
    (no_page : changes (flat y).kind ≡ false) (own : speaks (flat y).kind ≡ true → home (flat y).txn ≡ i)
    (follows : speaks (flat y).kind ≡ true → MayFollow (all_at (logs i)) (flat y)) (numbered : 0 < lsn_of y)
    (above : (k : Begun) → check_at c i ≡ Some k → (low_of k) ≤ lsn_of y) where
  abbrev new : Parts
  new = with_came i l table epochs c

  pub grows : Grows i (flat y) (tails_of logs) (tails_of logs')
  grows = record {
    inside = let high = a.log.high in omega (arith, high);
    here = ap tail_at a.log.here ∙ map-append flat (logs i).tail (y ∷ []);
    others = λ j ne. ap tail_at (a.log.others j ne);
    base = λ j. ⊎_elim
        (λ e. subst (λ (k : ℕ). base_at (logs' k) ≡ base_at (logs k)) (sym e) (ap base_at a.log.here))
        (λ ne. ap base_at (a.log.others j ne))
        (cases_eq j i);
  }

  abbrev old_base : Base (may_of leaves)
  old_base = base_of seen leaves logs c

  allowed : (p : ℕ) → may_of leaves p (disk_page (seen 0) p)
  allowed p = (seen 0, reads, refl)

  may_seal : images.MaySeal (tails_of logs) (flat y)
  may_seal = record {
    no_page = no_page;
    numbered = numbered;
    follows = λ s. subst (λ (j : ℕ). MayFollow (log (tails_of logs) j) (flat y)) (sym (own s)) (follows s);
  }

  named : IsNamed (may_of leaves) (tails_of logs') (disk_page (seen 0)) old_base.version
  named = seal-named (may_of leaves) (may_of leaves) i (flat y) old_base (dir_of c) (tails_of logs')
      (disk_page (seen 0)) h.coherent
      (record { grows = grows; own = own }) may_seal (λ p x may. may) allowed

  coherent : Coherent (base_of seen leaves logs' new) (dir_of new)
  coherent = seal-keeps (may_of leaves) (may_of leaves) i (flat y) old_base (base_of seen leaves logs' new) (dir_of c) h.coherent
      (record {
        no_page = no_page;
        low = a.log.low;
        grows = grows;
        version = named.same;
        safe = named.safe;
        reads = allowed;
        rec_lsn = λ p. refl;
        stays = record {
          less = λ p x may. may;
          disk = λ p. refl;
          loose = λ j low. refl;
          loose_disk = refl;
          active = λ j. refl;
          up = λ j. refl;
          due = refl;
        };
      })

  -- who is open in a cut was open in it before, and has what he had
  opens : (keeps : Keeps) (t : TxnId) → IsOpenIn t (kept_logs (tails_of logs') keeps (home t))
      → IsOpenIn t (kept_logs (tails_of logs) keeps (home t))
      × (stack t (kept_logs (tails_of logs') keeps (home t)) ≡ stack t (kept_logs (tails_of logs) keeps (home t)))
  opens keeps t is = ⊎_elim
      (λ kept. ⊎_elim
      (λ e.
      let here : kept_logs (tails_of logs') keeps (home t) ≡ all_at (logs i) ++ flat y ∷ [] =
      ap (kept_logs (tails_of logs') keeps) e ∙ kept-with i logs logs' y a.spare a.log keeps kept in
      let was : kept_logs (tails_of logs) keeps (home t) ≡ all_at (logs i) =
      ap (kept_logs (tails_of logs) keeps) e ∙ kept-old i logs logs' y a.spare a.log keeps kept in (
        subst (IsOpenIn t) (sym was) (open-before t (all_at (logs i)) (flat y) no_page follows (subst (IsOpenIn t) here is)),
        ap (stack t) here ∙ stack-same t (all_at (logs i)) (flat y) no_page ∙ ap (stack t) (sym was),
      ))
      (λ ne. same (kept-elsewhere i logs logs' y a.spare a.log keeps (home t) ne))
      (cases_eq (home t) i))
      (λ dropped. same (kept-without i logs logs' y a.spare a.log keeps dropped (home t)))
      (cases_Bool (keeps i))
    where
      same : kept_logs (tails_of logs') keeps (home t) ≡ kept_logs (tails_of logs) keeps (home t)
          → IsOpenIn t (kept_logs (tails_of logs) keeps (home t))
          × (stack t (kept_logs (tails_of logs') keeps (home t)) ≡ stack t (kept_logs (tails_of logs) keeps (home t)))
      same e = (subst (IsOpenIn t) e is, ap (stack t) e)

  claimed : (keeps : Keeps) (t : TxnId) → IsOpenIn t (kept_logs (tails_of logs') keeps (home t))
      → IsClaimed m t (kept_logs (tails_of logs') keeps (home t))
  claimed keeps t is =
      let was = opens keeps t is in
      let old : IsClaimed m t (kept_logs (tails_of logs) keeps (home t)) = h.claimed keeps t was.0 in
      record {
        there = old.there;
        claims = subst (λ (l : List Rec). Each (λ x. (m.part t).claims (rid_of x) ≡ Claim.Excl) l) (sym was.1) old.claims;
      }

  -- those whose forced records have no end of them have open what they had
  held : (t : TxnId) → IsOpen t (base_at (logs' (home t)))
      → Each (λ x. (m.part t).claims (rid_of x) ≡ Claim.Excl) (stack t (all_at (logs' (home t))))
  held t is = subst (λ (l : List Rec). Each (λ x. (m.part t).claims (rid_of x) ≡ Claim.Excl) l) (sym (stacks (home t)))
      (h.held t (subst (IsOpen t) (grows.base (home t)) is))
    where
      stacks : (j : ℕ) → stack t (all_at (logs' j)) ≡ stack t (all_at (logs j))
      stacks j = ⊎_elim
          (λ e. subst (λ (k : ℕ). stack t (all_at (logs' k)) ≡ stack t (all_at (logs k))) (sym e)
          (ap (λ (l : LogState). stack t (all_at l)) a.log.here ∙ ap (stack t) (appended-log (logs i) y a.spare)
          ∙ stack-same t (all_at (logs i)) (flat y) no_page))
          (λ ne. ap (λ (l : LogState). stack t (all_at l)) (a.log.others j ne))
          (cases_eq j i)

  -- the record commits nobody: the table that recovery gives is as before
  pub values-stay : is_commit (flat y).kind ≡ false → (keeps : Keeps) (p s : ℕ)
      → values m pend (kept_logs (tails_of logs) keeps) p s ≡ values m pend (kept_logs (tails_of logs') keeps) p s
  values-stay none keeps p s = ap (λ (f : TxnId → Bool). by f) (fun_ext (λ t. sym (each t)))
    where
      by : (TxnId → Bool) → Option (List ℕ)
      by f = after m.start (m.done ++ map (as_done m) (filter f (undecided m pend))) (record { page = p; slot = s })

      each : (t : TxnId) → is_committed (kept_logs (tails_of logs') keeps) t ≡ is_committed (kept_logs (tails_of logs) keeps) t
      each t = ⊎_elim
          (λ kept. ⊎_elim
          (λ e. ap (λ (j : ℕ). list_any (commits t) (kept_logs (tails_of logs') keeps j)) e
          ∙ ap (list_any (commits t)) (kept-with i logs logs' y a.spare a.log keeps kept)
          ∙ commits-same t (all_at (logs i)) (flat y) none
          ∙ ap (list_any (commits t)) (sym (kept-old i logs logs' y a.spare a.log keeps kept))
          ∙ ap (λ (j : ℕ). list_any (commits t) (kept_logs (tails_of logs) keeps j)) (sym e))
          (λ ne. ap (list_any (commits t)) (kept-elsewhere i logs logs' y a.spare a.log keeps (home t) ne))
          (cases_eq (home t) i))
          (λ dropped. ap (list_any (commits t)) (kept-without i logs logs' y a.spare a.log keeps dropped (home t)))
          (cases_Bool (keeps i))

  -- what is asked of the record beside that: how sound the logs are, what recovery gives, and the epoch of this log
  pub half-sealed : IsSoundly leaves logs'
      → Gives (tails_of logs') (may_of leaves) (λ keeps. values m pend' (kept_logs (tails_of logs') keeps))
      → ((j epoch : ℕ) → IsEpochOf m pend j epoch → IsEpochOf m pend' j epoch)
      → ((bytes : List ℕ) → leaves i bytes
      → IsEpochOf m pend' i (past_at (master bytes) (forced (with_record y a.spare (logs i)))).epoch)
      → Half seen leaves logs' pend' new m
  half-sealed soundly gives later started = record {
    coherent = coherent;
    soundly = soundly;
    gives = gives;
    claimed = claimed;
    held = held;
    epochs = λ j lo hi bytes left. ⊎_elim
        (λ e. subst (λ (k : ℕ). IsEpochOf m pend' k (past_at (master bytes) (logs' k)).epoch × IsEpochOf m pend' k
        (past_at (master bytes) (forced (logs' k))).epoch)
        (sym e)
        (subst (λ (l : LogState). IsEpochOf m pend' i (past_at (master bytes) l).epoch × IsEpochOf m pend' i
        (past_at (master bytes) (forced l)).epoch)
        (sym a.log.here) (
          later i (past_at (master bytes) (logs i)).epoch
              (h.epochs i a.log.low a.log.high bytes (subst (λ (k : ℕ). leaves k bytes) e left)).0,
          started bytes (subst (λ (k : ℕ). leaves k bytes) e left),
        )))
        (λ ne. let old = h.epochs j lo hi bytes left in
        subst (λ (l : LogState). IsEpochOf m pend' j (past_at (master bytes) l).epoch × IsEpochOf m pend' j
        (past_at (master bytes) (forced l)).epoch)
        (sym (a.log.others j ne))
        (later j (past_at (master bytes) (logs j)).epoch old.0, later j (past_at (master bytes) (forced (logs j))).epoch old.1))
        (cases_eq j i);
    checks = λ k b is. let old = h.checks k b is in ⊎_elim
        (λ e. subst (λ (j : ℕ). Covered (low_of b) j (base_of seen leaves logs' new) × Closed (low_of b) j (tails_of logs')) (sym e) (
          cover-grows (may_of leaves) (may_of leaves) (low_of b) i (flat y) old_base (base_of seen leaves logs' new) grows
              (λ p x may. may)
              (above b (subst (λ (j : ℕ). check_at c j ≡ Some b) e is)) (subst (λ (j : ℕ). Covered (low_of b) j old_base) e old.0),
          close-grows (low_of b) i (flat y) (tails_of logs) (tails_of logs') grows
              (above b (subst (λ (j : ℕ). check_at c j ≡ Some b) e is))
              (subst (λ (j : ℕ). Closed (low_of b) j (tails_of logs)) e old.1),
        ))
        (λ ne. (
          cover-stays (may_of leaves) (may_of leaves) (low_of b) k old_base (base_of seen leaves logs' new)
              (ap all_at (a.log.others k ne)) (λ p x may. may) old.0,
          close-stays (low_of b) k (tails_of logs) (tails_of logs') (ap base_at (a.log.others k ne))
              (ap tail_at (a.log.others k ne)) old.1,
        ))
        (cases_eq k i);
  }
