-- The record of an undo is one of the grammar: for the law `undo`.
use Rattle.std.proofs.Common.{◌≡◌, ℕ, ◌^◌, ◌<◌, Bool, true, false, List, [], ◌∷◌, ◌++◌, map, refl, sym, ap, ◌∙◌, subst, arith}
use Rattle.std.specs.List.{AllByRecursion}
use Rattle.std.proofs.lemmas.List.Elements.{recursion_from_All}
use Rattle.sd_base.specs.declared.ids.TxnId.{TxnId}
use Rattle.sd_logrec.specs.Spelling.{HasSpelling, IsTxn, IsValue}
use Rattle.sd_logrec.specs.View.{Rec, flat}
use Rattle.sd_logrec.specs.View.Kind.{Update}
use Rattle.sd_logrec.specs.declared.record.Record.{Record}
use Rattle.sd_logrec.specs.declared.record.Record.TheVariants as records
use Rattle.sd_log.specs.Logs.{AreSpelled, LogState, scanned}
use Rattle.sd_log.specs.declared.placed.Placed.{Placed}
use Rattle.sd_model.specs.State.{State}
use Rattle.sd_page.specs.Page.{Page}
use Rattle.sd_rig.specs.Devices as rig
use Rattle.sd_txn.specs.Transactions.{Transaction}
use Rattle.sd_txn.specs.declared.state.OpenRec.{OpenRec}
use Rattle.sd_txn.proofs.Stacks.{split-top}
use Rattle.sd_chain.specs.Order.{Sofar, advance, after_all, none_yet, of_txn}
use Rattle.sd_chain.specs.Records.{Each, home, stack}
use Rattle.sd_chain.proofs.Lists.{Each-weaker}
use Rattle.sd_chain.proofs.Opens.{Each-stack}
use Rattle.sd_chain.proofs.Order.{undoes-top}
use Rattle.sd_chain.specs.Logs.{Outcomes, all_at}
use Rattle.sd_chain.proofs.Lsns.{log-records, scanned-records}
use Rattle.sd_state.specs.Good.{Good}
use Rattle.sd_state.specs.Parts.{Parts, log_at}
use Rattle.sd_update.specs.Undoing.{HasTop, UndoIsSpelled, clr_at}
use Rattle.sd_state.specs.Values.{Pending}
use Rattle.sd_update.proofs.UndoneTop.{finds-place, top-found, tops, undo}

-- a change as the grammar has it
pub record IsChange (x : Rec) : Type 0 where
  pub txn : IsTxn x.txn
  pub prev : x.prev < 2 ^ 64
  pub page : x.page < 1024
  pub slot : x.slot < 168
  pub before : IsValue x.before

pub record IsOfGrammar (x : Rec) : Type 0 where
  pub lsn : x.lsn < 2 ^ 62
  pub change : x.kind ≡ Update → IsChange x

of-grammar : (r : Record) → HasSpelling r → IsOfGrammar (flat r)
of-grammar (records.Start lsn epoch) s = record { lsn = s.0.1; change = λ e. absurd (cc) }
of-grammar (records.Update lsn txn prev page slot capacity before after) s = record {
  lsn = s.0.1;
  change = λ e. record { txn = s.1; prev = s.2; page = s.3; slot = s.4; before = s.6 };
}
of-grammar (records.Clr lsn txn prev undo_next page slot after) s = record { lsn = s.0.1; change = λ e. absurd (cc) }
of-grammar (records.Commit lsn txn prev) s = record { lsn = s.0.1; change = λ e. absurd (cc) }
of-grammar (records.End lsn txn prev) s = record { lsn = s.0.1; change = λ e. absurd (cc) }
of-grammar (records.BeginCheck lsn) s = record { lsn = s.1; change = λ e. absurd (cc) }
of-grammar (records.EndCheck lsn begin spans recs) s = record { lsn = s.0.1; change = λ e. absurd (cc) }

each-of-grammar : (ps : List Placed) → AllByRecursion (λ (p : Placed). HasSpelling p.rec) ps
    → Each IsOfGrammar (map flat (map (λ (p : Placed). p.rec) ps))
each-of-grammar [] s = tt
each-of-grammar (p ∷ ps) s = (of-grammar p.rec s.0, each-of-grammar ps s.1)

log-of-grammar : (l : LogState) → AreSpelled (scanned l) → Each IsOfGrammar (all_at l)
log-of-grammar l s = subst (Each IsOfGrammar) (ap (map flat) (scanned-records l) ∙ log-records l)
    (each-of-grammar (scanned l) (recursion_from_All (λ (p : Placed). HasSpelling p.rec) (scanned l) s))

last-low : (t : TxnId) (sofar : Sofar) (log : List Rec) → sofar.last < 2 ^ 62 → Each IsOfGrammar log
    → (after_all t sofar log).last < 2 ^ 62
last-low t sofar [] low each = low
last-low t sofar (x ∷ xs) low each = last-low t (advance t sofar x) xs (by (of_txn t x) refl) each.1
  where
    by : (b : Bool) → of_txn t x ≡ b → (advance t sofar x).last < 2 ^ 62
    by true is = rw is each.0.lsn
    by false is = rw is low

module _ (a : ℕ) (t : TxnId) (x : Transaction) (o : OpenRec) (image : Page) (seen : rig.DeviceImages) (leaves : Outcomes) (c : Parts)
    (m : State) (g : Good seen leaves Pending.Idle c m) (w : HasTop a t x o image c)
    (spelled : AreSpelled (scanned (log_at c (home t)))) where
  each : Each IsOfGrammar (all_at (log_at c (home t)))
  each = log-of-grammar (log_at c (home t)) spelled

  open-ones : Each IsChange (stack t (all_at (log_at c (home t))))
  open-ones = Each-stack IsChange t (all_at (log_at c (home t)))
      (Each-weaker IsOfGrammar (λ z. z.txn ≡ t → z.kind ≡ Update → IsChange z) (λ z s own kind. s.change kind)
      (all_at (log_at c (home t))) each)

  own-txn : Each (λ z. z.txn ≡ t) (stack t (all_at (log_at c (home t))))
  own-txn = Each-stack (λ z. z.txn ≡ t) t (all_at (log_at c (home t)))
      (Each-weaker IsOfGrammar (λ z. z.txn ≡ t → z.kind ≡ Update → z.txn ≡ t) (λ z s own kind. own)
      (all_at (log_at c (home t))) each)

  split : (front : List OpenRec) × (x.stack ≡ front ++ o ∷ [])
  split = split-top x.stack o w.last

  pub clr-spelled : HasSpelling (clr_at t x o image c)
  clr-spelled =
      let top = tops a t x o image seen leaves c m g w split.0 split.1 in
      let u = undo a t x o image seen leaves c m g w split.0 top in
      let f = finds-place a t x o image seen leaves c m g w in
      let s : IsChange top.top = (subst (Each IsChange) top.is open-ones).0 in
      let own : top.top.txn ≡ t = (subst (Each (λ z. z.txn ≡ t)) top.is own-txn).0 in
      let last = last-low t none_yet (all_at (log_at c (home t))) (omega arith) each in
      let undoes = undoes-top (all_at (log_at c (home t))) (flat (clr_at t x o image c)) top.top top.below u.kind u.follows u.stack in
      let prev = u.follows.prev in let next = undoes.3 in let page = undoes.0 in let slot = undoes.1 in
      let n = s.prev in let b = s.page in let d = s.slot in (
        (f.low, f.high),
        subst IsTxn own s.txn,
        omega (arith, prev, last),
        omega (arith, next, n),
        omega (arith, page, b),
        omega (arith, slot, d),
        subst IsValue (sym undoes.2) s.before,
      )

-- for the law
pub undo-spelled : (leaves : Outcomes) → UndoIsSpelled leaves
undo-spelled leaves seen c m t x o image g w spelled =
    clr-spelled (home t) t x o image seen leaves c m g (top-found t x o image seen leaves c m g w) spelled
