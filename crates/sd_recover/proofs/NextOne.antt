-- A recovery has one next task: for the goals of `recover_step`.
use Rattle.std.proofs.Common.{◌≡◌, ◌⊎◌, inl, inr, ⊎_elim, ℕ, refl, sym, ap, ap₂, ◌∙◌}
use Rattle.std.specs.Prelude.{None, Option, Some}
use Rattle.sd_base.specs.declared.ids.TxnId.{TxnId}
use Rattle.sd_pagelock.specs.Directory.{entry_at}
use Rattle.sd_pagelock.specs.Places.{is_lost}
use Rattle.sd_txn.specs.Transactions.{Transactions, top_at}
use Rattle.sd_txn.specs.declared.state.OpenRec.{OpenRec}
use Rattle.sd_world.specs.Answers.{IsLowestLost}
use Rattle.sd_state.specs.Parts.{Parts, is_loose, txns_at}
use Rattle.sd_recover.specs.Tasks.{AreSettled, AreThere, IsLowestLoose, IsNext, IsRowTask, in_doubt, last_open, to_end}
use Rattle.sd_recover.specs.declared.tasks.Task.{Task}
use Rattle.sd_recover.specs.declared.tasks.Task.TheVariants as task
use Rattle.sd_recover.proofs.Cleared.{lowest-one, opposite}

inside : {A : Type 0} {x y : A} → Some x ≡ Some y → x ≡ y
inside e = cc

some-none : {A P : Type 0} (o : Option A) (x : A) → o ≡ Some x → o ≡ None → P
some-none o x some none = let clash = sym some ∙ none in absurd (cc)

same-some : {A : Type 0} (o : Option A) (x y : A) → o ≡ Some x → o ≡ Some y → x ≡ y
same-some o x y a b = inside (sym a ∙ b)

-- ---- in the rows

same-page : (table : Transactions) (t u : TxnId) (p q : ℕ) → t ≡ u → (o : OpenRec) → top_at table t ≡ Some o → p ≡ o.rid.page → (r : OpenRec)
    → top_at table u ≡ Some r → q ≡ r.rid.page → p ≡ q
same-page table t u p q same o top of r top' of' =
    of ∙ ap (λ (z : OpenRec). z.rid.page) (same-some (top_at table u) o r (sym (ap (top_at table) same) ∙ top) top') ∙ sym of'

row-one : (table : Transactions) (a b : Task) → IsRowTask table a → IsRowTask table b → a ≡ b
row-one table (task.Settle dev) b x y = absurd x
row-one table (task.Rebuild p) b x y = absurd x
row-one table (task.Decide t) (task.Settle dev) x y = absurd y
row-one table (task.Decide t) (task.Rebuild p) x y = absurd y
row-one table (task.Decide t) (task.Decide u) x y = ap task.Decide (same-some (in_doubt table) t u x y)
row-one table (task.Decide t) (task.Undo u q) x y = some-none (in_doubt table) t x y.0
row-one table (task.Decide t) (task.End u) x y = some-none (in_doubt table) t x y.0
row-one table (task.Decide t) task.Done x y = some-none (in_doubt table) t x y.0
row-one table (task.Undo t p) (task.Settle dev) x y = absurd y
row-one table (task.Undo t p) (task.Rebuild q) x y = absurd y
row-one table (task.Undo t p) (task.Decide u) x y = some-none (in_doubt table) u y x.0
row-one table (task.Undo t p) (task.Undo u q) x y =
    let same = same-some (last_open table) t u x.1 y.1 in
    ap₂ (λ (v : TxnId) (n : ℕ). task.Undo v n) same (same-page table t u p q same x.2.0 x.2.1 x.2.2 y.2.0 y.2.1 y.2.2)
row-one table (task.Undo t p) (task.End u) x y = some-none (last_open table) t x.1 y.1
row-one table (task.Undo t p) task.Done x y = some-none (last_open table) t x.1 y.1
row-one table (task.End t) (task.Settle dev) x y = absurd y
row-one table (task.End t) (task.Rebuild q) x y = absurd y
row-one table (task.End t) (task.Decide u) x y = some-none (in_doubt table) u y x.0
row-one table (task.End t) (task.Undo u q) x y = some-none (last_open table) u y.1 x.1
row-one table (task.End t) (task.End u) x y = ap task.End (same-some (to_end table) t u x.2 y.2)
row-one table (task.End t) task.Done x y = some-none (to_end table) t x.2 y.2
row-one table task.Done (task.Settle dev) x y = absurd y
row-one table task.Done (task.Rebuild q) x y = absurd y
row-one table task.Done (task.Decide u) x y = some-none (in_doubt table) u y x.0
row-one table task.Done (task.Undo u q) x y = some-none (last_open table) u y.1 x.1
row-one table task.Done (task.End u) x y = some-none (to_end table) u y.2 x.2
row-one table task.Done task.Done x y = refl

-- ---- of all

module _ (c : Parts) (i : ℕ) where
  -- one that settles a device, or all are settled
  settles-or : (b : Task) → IsNext c i b → ((e : ℕ) × (b ≡ task.Settle e) × IsLowestLoose c e) ⊎ AreSettled c
  settles-or (task.Settle e) y = inl (e, refl, y)
  settles-or (task.Rebuild q) y = inr y.0
  settles-or (task.Decide t) y = inr y.0.0
  settles-or (task.Undo t q) y = inr y.0.0
  settles-or (task.End t) y = inr y.0.0
  settles-or task.Done y = inr y.0.0

  -- one that rebuilds a page, or none is lost
  rebuilds-or : (b : Task) → AreSettled c → IsNext c i b → ((q : ℕ) × (b ≡ task.Rebuild q) × IsLowestLost (entry_at c.directory) q) ⊎ AreThere c
  rebuilds-or (task.Settle e) settled y = absurd (opposite (is_loose c e) y.1 (settled e y.0))
  rebuilds-or (task.Rebuild q) settled y = inl (q, refl, y.1)
  rebuilds-or (task.Decide t) settled y = inr y.0
  rebuilds-or (task.Undo t q) settled y = inr y.0
  rebuilds-or (task.End t) settled y = inr y.0
  rebuilds-or task.Done settled y = inr y.0

  rows-or : (b : Task) → AreThere c → IsNext c i b → IsRowTask (txns_at c i) b
  rows-or (task.Settle e) there y = absurd (opposite (is_loose c e) y.1 (there.0 e y.0))
  rows-or (task.Rebuild q) there y = absurd (opposite (is_lost (entry_at c.directory q)) y.1.0 (there.1 q))
  rows-or (task.Decide t) there y = y.1
  rows-or (task.Undo t q) there y = y.1
  rows-or (task.End t) there y = y.1
  rows-or task.Done there y = y.1

  same-row : (a b : Task) → AreThere c → IsRowTask (txns_at c i) a → IsNext c i b → a ≡ b
  same-row a b there x y = row-one (txns_at c i) a b x (rows-or b there y)

  pub next-one : (a b : Task) → IsNext c i a → IsNext c i b → a ≡ b
  next-one (task.Settle d) b x y = ⊎_elim
      (λ s. ap task.Settle (lowest-one (is_loose c) d s.0 x.1 x.2 s.2.1 s.2.2) ∙ sym s.1)
      (λ settled. absurd (opposite (is_loose c d) x.1 (settled d x.0)))
      (settles-or b y)
  next-one (task.Rebuild p) b x y = ⊎_elim
      (λ s. ap task.Rebuild (lowest-one (λ k. is_lost (entry_at c.directory k)) p s.0 x.1.0 x.1.1 s.2.0 s.2.1) ∙ sym s.1)
      (λ there. absurd (opposite (is_lost (entry_at c.directory p)) x.1.0 (there.1 p)))
      (rebuilds-or b x.0 y)
  next-one (task.Decide t) b x y = same-row (task.Decide t) b x.0 x.1 y
  next-one (task.Undo t p) b x y = same-row (task.Undo t p) b x.0 x.1 y
  next-one (task.End t) b x y = same-row (task.End t) b x.0 x.1 y
  next-one task.Done b x y = same-row task.Done b x.0 x.1 y
