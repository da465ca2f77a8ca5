-- What a crash may leave once a log is settled with its tail or without, as its device has it: it stands for the same. For
-- `settle_log`.
use Rattle.std.proofs.Common.{◌≡◌, ◌≢◌, inl, inr, ⊎_elim, ℕ, ◌≤◌, Bool, true, false, cond, List, [], ◌++◌, length, refl, sym, ap, ◌∙◌, subst, arith, append-nil, eq-eqb, ne_eqb}
use Rattle.std.specs.Prelude.{None, Some}
use Rattle.std.specs.List.{list_any}
use Rattle.std.proofs.lemmas.Bool.{cases_Bool, cases_eq}
use Rattle.std.proofs.lemmas.List.{get_or-set_other, get_or-set_same}
use mathlib.Core.Path.{fun_ext}
use Rattle.sd_base.specs.declared.ids.TxnId.{TxnId}
use Rattle.sd_logrec.specs.Kept.{master}
use Rattle.sd_logrec.specs.View.{Rec}
use Rattle.sd_log.specs.Logs.{LogState, forced}
use Rattle.sd_page.specs.Page.{Page}
use Rattle.sd_model.specs.State.{State}
use Rattle.sd_model.specs.declared.act.Claim.{Claim}
use Rattle.sd_rig.specs.Devices as rig
use Rattle.sd_chain.specs.Bytes.{disk_page}
use Rattle.sd_chain.specs.Cuts.{cut}
use Rattle.sd_chain.specs.Storage.{Recovered}
use Rattle.sd_chain.specs.Images.{Gives, Keeps, Settled, kept_at, with_disk}
use Rattle.sd_chain.specs.Order.{of_txn}
use Rattle.sd_chain.specs.Records.{Each, IsOpen, home, stack}
use Rattle.sd_chain.proofs.Fates.{open-fate}
use Rattle.sd_chain.proofs.Images as images
use Rattle.sd_chain.proofs.Narrowed.{narrowed-gives}
use Rattle.sd_chain.proofs.Whose.{stack-none}
use Rattle.sd_chain.specs.Forces as forced_law
use Rattle.sd_chain.specs.Named.{IsNamed}
use Rattle.sd_chain.specs.World.{Base}
use Rattle.sd_chain.proofs.Checkpoints.{cover-settles}
use Rattle.sd_chain.proofs.Closed.{close-settles}
use Rattle.sd_chain.proofs.LogsSettled as forces
use Rattle.sd_chain.proofs.Named.{settle-named}
use Rattle.sd_chain.specs.Logs.{Less, Logs, Outcomes, all_at, base_at, kept_logs, may_of, past_at, tail_at, tails_of}
use Rattle.sd_chain.specs.Soundly.{IsSoundly}
use Rattle.sd_chain.proofs.Kept.{forced-idle, no-tail}
use Rattle.sd_state.specs.Good.{Half, base_of, dir_of}
use Rattle.sd_state.specs.Images.{IsClaimed, IsEpochOf, IsOpenIn}
use Rattle.sd_state.specs.Parts.{Begun, Parts, check_at, is_loose, low_of}
use Rattle.sd_state.specs.Values.{Pending, rid_of, values}
use Rattle.sd_moves.specs.Settling.{with_reread}

-- the logs with what is kept of their tails, where log i has none any more
module _ (i : ℕ) (kept : Bool) (logs logs' : Logs) (s : Settled i kept (tails_of logs) (tails_of logs')) where
  abbrev is-same : Keeps → ℕ → Type 0
  is-same keeps j = kept_logs (tails_of logs') keeps j ≡ kept_logs (tails_of logs) (kept_at i kept keeps) j

  same-here : (keeps : Keeps) → is-same keeps i
  same-here keeps = ap (λ (xs : List Rec). base_at (logs' i) ++ cond (keeps i) xs []) s.tail
      ∙ no-tail (keeps i) (base_at (logs' i)) ∙ s.base
      ∙ ap (λ (b : Bool). base_at (logs i) ++ cond b (tail_at (logs i)) [])
      (sym (ap (λ (b : Bool). cond b kept (keeps i)) (eq-eqb i i refl)))

  same-else : (keeps : Keeps) (j : ℕ) → j ≢ i → is-same keeps j
  same-else keeps j ne = ap (λ (xs : List Rec). xs ++ cond (keeps j) (tail_at (logs' j)) []) (s.other_bases j ne)
      ∙ ap (λ (xs : List Rec). base_at (logs j) ++ cond (keeps j) xs []) (s.other_tails j ne)
      ∙ ap (λ (b : Bool). base_at (logs j) ++ cond b (tail_at (logs j)) [])
      (sym (ap (λ (b : Bool). cond b kept (keeps j)) (ne_eqb j i ne)))

  pub kept-same : (keeps : Keeps) (j : ℕ) → is-same keeps j
  kept-same keeps j = ⊎_elim (λ e. subst (is-same keeps) (sym e) (same-here keeps)) (λ ne. same-else keeps j ne) (cases_eq j i)

  pub kept-all : (keeps : Keeps) → kept_logs (tails_of logs) (kept_at i kept keeps) ≡ kept_logs (tails_of logs') keeps
  kept-all keeps = sym (fun_ext (kept-same keeps))

-- Wherever logs begin: what a crash may leave stands for the state, once log i is settled so.
module _ (i : ℕ) (kept : Bool) (seen : rig.DeviceImages) (leaves leaves' : Outcomes) (logs logs' : Logs) (c found : Parts) (m : State)
    (low : 1 ≤ i) (high : i ≤ 8) (h : Half seen leaves logs Pending.Idle c m) (was_loose : is_loose c i ≡ true)
    (idle : c.due ≡ None) (marks : length c.loose ≡ 9) (less : Less leaves leaves') (reads : leaves' 0 (seen 0))
    (soundly : IsSoundly leaves' logs') (s : Settled i kept (tails_of logs) (tails_of logs')) (no_tail : (logs' i).tail ≡ [])
    (elsewhere : (j : ℕ) → j ≢ i → logs' j ≡ logs j)
    (epoch : (bytes : List ℕ) → leaves' i bytes → IsEpochOf m Pending.Idle i (past_at (master bytes) (logs' i)).epoch)
    (unchecked : check_at c i ≡ None) where
  abbrev new : Parts
  new = with_reread i found c

  may-less : (p : ℕ) (x : Page) → may_of leaves' p x → may_of leaves p x
  may-less p x may = (may.0, less 0 may.0 may.1, may.2)

  abbrev old_base : Base (may_of leaves)
  old_base = base_of seen leaves logs c

  abbrev new_base : Base (may_of leaves')
  new_base = base_of seen leaves' logs' new

  named : IsNamed (may_of leaves') (tails_of logs') (disk_page (seen 0)) (λ keeps. old_base.version (kept_at i kept keeps))
  named = settle-named (may_of leaves) (may_of leaves') i kept old_base (dir_of c) (tails_of logs') (disk_page (seen 0)) h.coherent s
      may-less (λ p. (seen 0, reads, refl))

  is_settled : forced_law.Settles i kept old_base new_base
  is_settled = record {
    tails = s;
    less = may-less;
    version = named.same;
    safe = named.safe;
    reads = λ p. (seen 0, reads, refl);
    disk = λ p. refl;
    rec_lsn = λ p. refl;
    settled = get_or-set_same c.loose i false true (omega (arith, high, marks));
    other_loose = λ j lo ne. get_or-set_other c.loose i j false true ne;
    loose_disk = get_or-set_other c.loose i 0 false true (λ e. omega (arith, low, e));
    active = λ j. refl;
    up = λ j. refl;
    due = inl refl;
  }

  gives-as-kept : Gives (tails_of logs') (may_of leaves) (λ keeps. values m Pending.Idle (kept_logs (tails_of logs') keeps))
  gives-as-kept disk all keeps p q =
      subst (λ (f : ℕ → List Rec). Recovered (cut keeps (with_disk (tails_of logs') disk)) p q (values m Pending.Idle f p q))
      (kept-all i kept logs logs' s keeps)
      (images.settled-gives i kept (tails_of logs) (tails_of logs') s (may_of leaves)
      (λ k. values m Pending.Idle (kept_logs (tails_of logs) k)) h.gives disk all keeps p q)

  gives : Gives (tails_of logs') (may_of leaves') (λ keeps. values m Pending.Idle (kept_logs (tails_of logs') keeps))
  gives = narrowed-gives (may_of leaves) (may_of leaves') may-less (tails_of logs') _ gives-as-kept

  claimed : (keeps : Keeps) (t : TxnId) → IsOpenIn t (kept_logs (tails_of logs') keeps (home t))
      → IsClaimed m t (kept_logs (tails_of logs') keeps (home t))
  claimed keeps t is = subst (IsClaimed m t) (sym (kept-same i kept logs logs' s keeps (home t)))
      (h.claimed (kept_at i kept keeps) t (subst (IsOpenIn t) (kept-same i kept logs logs' s keeps (home t)) is))

  -- each record of the stack is claimed
  abbrev are-claimed : TxnId → List Rec → Type 0
  are-claimed t log = Each (λ x. (m.part t).claims (rid_of x) ≡ Claim.Excl) (stack t log)

  held-forced : (t : TxnId) → IsOpen t (base_at (logs' (home t))) → are-claimed t (base_at (logs' (home t)))
  held-forced t opens = let base : List Rec = base_at (logs' (home t)) in ⊎_elim
      (λ has. subst (are-claimed t) (append-nil base)
      (claimed (λ j. false) t (subst (IsOpenIn t) (sym (append-nil base)) (open-fate t base opens has))).claims)
      (λ none. subst (Each (λ x. (m.part t).claims (rid_of x) ≡ Claim.Excl)) (sym (stack-none t base none)) tt)
      (cases_Bool (list_any (of_txn t) base))

  held : (t : TxnId) → IsOpen t (base_at (logs' (home t))) → are-claimed t (all_at (logs' (home t)))
  held t opens = ⊎_elim
      (λ e. subst (λ (xs : List Rec). are-claimed t (base_at (logs' (home t)) ++ xs))
      (sym (subst (λ (k : ℕ). tail_at (logs' k) ≡ []) (sym e) s.tail))
      (subst (are-claimed t) (sym (append-nil (base_at (logs' (home t))))) (held-forced t opens)))
      (λ ne. subst (λ (l : LogState). are-claimed t (all_at l)) (sym (elsewhere (home t) ne))
      (h.held t (subst (λ (l : LogState). IsOpen t (base_at l)) (elsewhere (home t) ne) opens)))
      (cases_eq (home t) i)

  -- the epoch of a log with its tail, and without
  abbrev are-epochs : ℕ → List ℕ → LogState → Type 0
  are-epochs j bytes l = IsEpochOf m Pending.Idle j (past_at (master bytes) l).epoch
      × IsEpochOf m Pending.Idle j (past_at (master bytes) (forced l)).epoch

  epochs-here : (bytes : List ℕ) → leaves' i bytes → are-epochs i bytes (logs' i)
  epochs-here bytes left = (
    epoch bytes left,
    subst (λ (l : LogState). IsEpochOf m Pending.Idle i (past_at (master bytes) l).epoch) (sym (forced-idle (logs' i) no_tail))
        (epoch bytes left),
  )

  epochs : (j : ℕ) → 1 ≤ j → j ≤ 8 → (bytes : List ℕ) → leaves' j bytes → are-epochs j bytes (logs' j)
  epochs j lo hi bytes left = ⊎_elim
      (λ e. subst (λ (k : ℕ). are-epochs k bytes (logs' k)) (sym e)
      (epochs-here bytes (subst (λ (k : ℕ). leaves' k bytes) e left)))
      (λ ne. subst (are-epochs j bytes) (sym (elsewhere j ne)) (h.epochs j lo hi bytes (less j bytes left)))
      (cases_eq j i)

  pub half-settled : Half seen leaves' logs' Pending.Idle new m
  half-settled = record {
    coherent = forces.settles-coherent i kept old_base new_base (dir_of c) h.coherent is_settled (inr (was_loose, idle));
    soundly = soundly;
    gives = gives;
    claimed = claimed;
    held = held;
    epochs = epochs;
    checks = λ k b is. let old = h.checks k b is in (
      cover-settles (may_of leaves) (may_of leaves') (low_of b) k i kept old_base new_base s may-less old.0,
      close-settles (low_of b) k i kept (tails_of logs) (tails_of logs') s
          (λ e. let clash : None ≡ Some b = sym unchecked ∙ ap (check_at c) (sym e) ∙ is in absurd (cc)) old.1,
    );
  }
