-- One log is another, or less may be left: what stays sound. For all events.
use Rattle.std.proofs.Common.{◌≡◌, ◌≢◌, ⊎_elim, ℕ, ◌+◌, ◌^◌, ◌<◌, ◌≤◌, Bool, cond, List, [], ◌++◌, refl, sym, ap, ap₂, ◌∙◌, subst, arith, eq-eqb, ne_eqb}
use Rattle.std.proofs.lemmas.Bool.{cases_eq}
use Rattle.sd_logrec.specs.View.{Rec}
use Rattle.sd_page.specs.Page.{Page}
use Rattle.sd_chain.specs.Checks.{owed}
use Rattle.sd_chain.specs.Records.{Each}
use Rattle.sd_chain.specs.Images.{Tails, Keeps, Settled, kept_at}
use Rattle.sd_chain.specs.Logs.{LessElsewhere, Logs, Outcomes, kept_logs, may_of, owed_with, tails_of}
use Rattle.sd_chain.specs.Soundly.{HasLsns, IsReady, IsSoundly, LsnsFit}
use Rattle.sd_chain.proofs.Sums.{sum-eight}
use Rattle.sd_chain.proofs.Kept.{no-tail}

-- then no more may be left of a page
pub may-less : (i : ℕ) (leaves leaves' : Outcomes) → 1 ≤ i → LessElsewhere i leaves leaves' → (p : ℕ) (x : Page)
    → may_of leaves' p x → may_of leaves p x
may-less i leaves leaves' low less p x m = (m.0, less 0 (λ e. omega (arith, low, e)) m.0 m.1, m.2)

-- log i is another, and the rest is as it was
pub changed-soundly : (i : ℕ) (leaves leaves' : Outcomes) (logs logs' : Logs) → 1 ≤ i → IsSoundly leaves logs
    → LessElsewhere i leaves leaves' → ((j : ℕ) → j ≢ i → logs' j ≡ logs j)
    → ((bytes : List ℕ) → leaves' i bytes → IsReady i bytes (logs' i))
    → ((keeps : Keeps) → LsnsFit (tails_of logs') (may_of leaves') keeps) → IsSoundly leaves' logs'
changed-soundly i leaves leaves' logs logs' low s less others here lsns = record {
  ready = λ j lo hi bytes l. ⊎_elim
      (λ e. subst (λ (k : ℕ). IsReady k bytes (logs' k)) (sym e) (here bytes (subst (λ (k : ℕ). leaves' k bytes) e l)))
      (λ ne. subst (IsReady j bytes) (sym (others j ne)) (s.ready j lo hi bytes (less j ne bytes l)))
      (cases_eq j i);
  twins = λ p lt bytes l. s.twins p lt bytes (less 0 (λ e. omega (arith, low, e)) bytes l);
  lsns = lsns;
}

-- the same logs with the same tails kept, and fewer pages
pub lsns-same : (old new : Tails) (may may' : ℕ → Page → Type 0) (keeps keeps' : Keeps)
    → ((j : ℕ) → kept_logs new keeps j ≡ kept_logs old keeps' j)
    → ((p : ℕ) (x : Page) → may' p x → may p x) → LsnsFit old may keeps' → LsnsFit new may' keeps
lsns-same old new may may' keeps keeps' same less fit =
    let is : owed_with new keeps ≡ owed_with old keeps' =
    sum-eight (λ j. owed (kept_logs new keeps j)) (λ j. owed (kept_logs old keeps' j)) (λ j lo hi. ap owed (same j)) in
    record {
      logs = λ j lo hi. subst (λ (n : ℕ). Each (λ x. x.lsn + n < 2 ^ 62) (kept_logs new keeps j)) (sym is)
          (subst (Each (HasLsns old keeps')) (sym (same j)) (fit.logs j lo hi));
      pages = λ p x m. subst (λ (n : ℕ). x.lsn + n < 2 ^ 62) (sym is) (fit.pages p x (less p x m));
    }

-- a tail that is in every image, or in none
pub settled-kept : (i : ℕ) (kept : Bool) (old new : Tails) → Settled i kept old new → (keeps : Keeps) (j : ℕ)
    → kept_logs new keeps j ≡ kept_logs old (kept_at i kept keeps) j
settled-kept i kept old new s keeps j = ⊎_elim
    (λ e. subst (λ (k : ℕ). kept_logs new keeps k ≡ kept_logs old (kept_at i kept keeps) k) (sym e)
    (ap₂ (λ (b t : List Rec). b ++ cond (keeps i) t []) s.base s.tail
    ∙ no-tail (keeps i) (old.base i ++ cond kept (old.tail i) [])
    ∙ ap (λ (b : Bool). old.base i ++ cond (cond b kept (keeps i)) (old.tail i) []) (sym (eq-eqb i i refl))))
    (λ ne. ap₂ (λ (b t : List Rec). b ++ cond (keeps j) t []) (s.other_bases j ne) (s.other_tails j ne)
    ∙ ap (λ (b : Bool). old.base j ++ cond (cond b kept (keeps j)) (old.tail j) []) (sym (ne_eqb j i ne)))
    (cases_eq j i)

-- so there are LSNs as before
pub settled-lsns : (i : ℕ) (kept : Bool) (old new : Tails) (may may' : ℕ → Page → Type 0) → Settled i kept old new
    → ((p : ℕ) (x : Page) → may' p x → may p x)
    → ((keeps : Keeps) → LsnsFit old may keeps) → (keeps : Keeps) → LsnsFit new may' keeps
settled-lsns i kept old new may may' s less fit keeps =
    lsns-same old new may may' keeps (kept_at i kept keeps) (settled-kept i kept old new s keeps) less
    (fit (kept_at i kept keeps))
