-- What was read of an instance, as the parts of the complex then have it. For `settle_log`.
use Rattle.std.proofs.Common.{◌≡◌, ℕ, ◌-◌, ◌≤◌, false, List, sym, ap, ◌∙◌, subst}
use Rattle.std.specs.Prelude.{None, Option, slice_set}
use Rattle.sd_log.specs.Logs.{AreSpelled, LogState, scanned}
use Rattle.sd_txn.specs.Transactions.{Transactions}
use Rattle.sd_chain.specs.Checks.{owed}
use Rattle.sd_chain.specs.ChecksKept.{IsRead}
use Rattle.sd_chain.specs.Logs.{base_at}
use Rattle.sd_state.specs.Parts.{IsShape, Parts, count_at, epoch_at, log_at, no_log, no_txns, owed_at, txns_at}
use Rattle.sd_state.proofs.Items.{item-set}
use Rattle.sd_moves.specs.Settling.{IsFoundAgain, IsRelisted, IsReread, with_found, with_reread}
use Rattle.sd_moves.specs.declared.reread.Reread.{Reread}

module _ (i : ℕ) (found : Reread) (c : Parts) (low : 1 ≤ i) (high : i ≤ 8) (shape : IsShape c) where
  abbrev new : Parts
  new = with_found i found c

  log-is : log_at new i ≡ found.log
  log-is = item-set no_log c.logs i found.log low high shape.logs

  txns-is : txns_at new i ≡ found.table
  txns-is = item-set no_txns c.txns i found.table low high shape.txns

  epoch-is : epoch_at new i ≡ found.epoch
  epoch-is = item-set 0 c.epochs i found.epoch low high shape.epochs

  count-is : count_at new i ≡ found.count
  count-is = item-set 0 c.masters i found.count low high shape.masters

  owed-is : owed_at new i ≡ found.owed
  owed-is = item-set 0 c.owed i found.owed low high shape.owed

  abbrev built : LogState → Transactions → ℕ → ℕ → ℕ → Parts
  built l x epoch count owes = record c {
    logs = slice_set c.logs (i - 1) l;
    txns = slice_set c.txns (i - 1) x;
    epochs = slice_set c.epochs (i - 1) epoch;
    masters = slice_set c.masters (i - 1) count;
    others = slice_set {A = Option ℕ} c.others (i - 1) None;
    owed = slice_set c.owed (i - 1) owes;
    loose = slice_set c.loose i false;
  }

  pub found-same : new ≡ with_reread i new c
  found-same = sym (ap (λ (l : LogState). built l (txns_at new i) (epoch_at new i) (count_at new i) (owed_at new i)) log-is
      ∙ ap (λ (x : Transactions). built found.log x (epoch_at new i) (count_at new i) (owed_at new i)) txns-is
      ∙ ap (λ (n : ℕ). built found.log found.table n (count_at new i) (owed_at new i)) epoch-is
      ∙ ap (λ (n : ℕ). built found.log found.table found.epoch n (owed_at new i)) count-is
      ∙ ap (λ (n : ℕ). built found.log found.table found.epoch found.count n) owed-is)

  pub found-read : (bytes : List ℕ) → IsFoundAgain i bytes (txns_at c i) found → IsReread i bytes c new
  found-read bytes f = record {
    log = subst (IsRead bytes) (sym log-is) f.log;
    inst = ap (λ (l : LogState). l.inst) log-is ∙ f.inst;
    spelled = subst (λ (l : LogState). AreSpelled (scanned l)) (sym log-is) f.spelled;
    table = subst (λ (l : LogState). IsRelisted i (base_at l) (txns_at c i) (txns_at new i)) (sym log-is)
        (subst (IsRelisted i (base_at found.log) (txns_at c i)) (sym txns-is) f.table);
    epoch = epoch-is ∙ f.epoch;
    count = count-is ∙ f.count;
    owed = owed-is ∙ f.owed ∙ sym (ap (λ (l : LogState). owed (base_at l)) log-is);
  }
