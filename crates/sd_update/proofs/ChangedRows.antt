-- What a table owes with a further open record of a transaction, and what its row has. For a change.
use Rattle.std.proofs.Common.{◌-◌, ◌≤◌, ◌≡◌, inl, inr, ⊎_elim, ℕ, ◌+◌, Bool, true, false, List, [], ◌∷◌, ◌++◌, ◌&&◌, map, length, refl, sym, ap, ◌∙◌, subst, arith}
use Rattle.std.proofs.lemmas.Bool.{cases_Bool, cases_eq}
use Rattle.std.proofs.lemmas.List.{length-set, length_push, reverse-append}
use Rattle.sd_log.specs.Logs.{LogState}
use Rattle.sd_page.specs.Page.{Page}
use Rattle.sd_pagelock.specs.Directory.{DirectoryState}
use Rattle.sd_pool.specs.Buffers.{Buffers}
use Rattle.sd_update.specs.Changing.{Change, changed_row, flat_of, opened, with_changed}
use Rattle.sd_state.specs.Parts.{IsShape, Parts, log_at, no_log, no_txns, txns_at}
use Rattle.sd_state.proofs.Items.{item-kept, item-set}
use Rattle.sd_base.specs.declared.ids.Rid.{Rid}
use Rattle.sd_model.specs.State.{Part, took_part}
use Rattle.sd_model.specs.Tables.{Content}
use Rattle.sd_model.specs.declared.act.Act.{Act}
use Rattle.sd_model.specs.declared.act.Claim.{Claim}
use Rattle.sd_model.proofs.Acts.{live_from-append}
use Rattle.sd_state.specs.Tables.{IsInDoubt, IsLive, IsLogged, RowIsLive, RowIsLogged, StandsAs}
use Rattle.std.specs.Prelude.{Option, None, Some, is_some, if◌then◌else◌, sum_by}
use Rattle.std.specs.Option.{option_map_or}
use Rattle.std.specs.List.{list_any}
use Rattle.std.proofs.lemmas.List.Sums.{sum_by_push}
use Rattle.sd_base.specs.declared.ids.TxnId.{TxnId}
use Rattle.sd_logrec.specs.View.{Rec}
use Rattle.sd_model.specs.declared.act.Life.{Life}
use Rattle.sd_txn.specs.Owing.{bytes_owed, owed_of, records_owed, reserve_of, undo_len}
use Rattle.sd_txn.specs.Transactions.{Transaction, Transactions}
use Rattle.sd_txn.specs.declared.state.OpenRec.{OpenRec}
use Rattle.sd_chain.specs.Checks.{owed, reserve}
use Rattle.sd_txn.specs.declared.state.TxnState.{TxnState}
use Rattle.sd_chain.specs.Fates.{Fate}
use Rattle.sd_chain.specs.Order.{of_txn}
use Rattle.sd_base.specs.Ids.{same_txn}
use Rattle.sd_chain.specs.Records.{IsOpen, ends, stack}
use Rattle.sd_chain.proofs.Fates.{fate-others}
use Rattle.sd_chain.proofs.Lists.{Each-append, Each-front}
use Rattle.sd_chain.proofs.Stacks.{stack-push, step-own}
use Rattle.sd_chain.proofs.Whose.{ends-off, own_of}
use Rattle.sd_chain.proofs.Owing.{change-owes, first-change-owes}
use Rattle.sd_state.specs.Values.{open_of, put_of}
use Rattle.sd_state.proofs.ChangedLists.{span-other, span-own, span-there}

-- with a further record that isn't its end it stays open
pub open-more : (t : TxnId) (log : List Rec) (y : Rec) → (ends y.kind && same_txn y.txn t) ≡ false → IsOpen t log
    → IsOpen t (log ++ y ∷ [])
open-more t log y not alive = Each-append (λ r. (ends r.kind && same_txn r.txn t) ≡ false) log (y ∷ []) alive (not, tt)

module _ (k : Change) (x : Transaction) (old new : Transactions) (log : List Rec)
    (bytes : reserve_of new + bytes_owed x ≡ reserve_of old + bytes_owed (changed_row k x))
    (records : owed_of new + records_owed x ≡ owed_of old + records_owed (changed_row k x))
    (alive : IsOpen k.txn log) (logged : IsLogged x k.txn log)
    (owes : owed_of old ≡ owed log) (reserves : reserve_of old ≡ reserve log) where
  bytes-then : bytes_owed (changed_row k x) ≡ 31 + (sum_by undo_len x.stack + undo_len (opened k))
  bytes-then = ap (λ (n : ℕ). 31 + n) (sum_by_push undo_len x.stack (opened k))

  records-then : records_owed (changed_row k x) ≡ 1 + (length x.stack + 1)
  records-then = ap (λ (n : ℕ). 1 + n) (length_push x.stack (opened k))

  bytes-now : (b : Bool) → is_some x.span ≡ b → bytes_owed x ≡ (if b then 31 else 0) + sum_by undo_len x.stack
  bytes-now b e = ap (λ (z : Bool). (if z then 31 else 0) + sum_by undo_len x.stack) e

  records-now : (b : Bool) → is_some x.span ≡ b → records_owed x ≡ (if b then 1 else 0) + length x.stack
  records-now b e = ap (λ (z : Bool). (if z then 1 else 0) + length x.stack) e

  known : is_some x.span ≡ list_any (of_txn k.txn) log
  known = ap is_some logged.span ∙ span-there k.txn log

  pub reserves-then : reserve (log ++ flat_of k ∷ []) ≡ reserve_of new
  reserves-then = ⊎_elim
      (λ there. let more = (change-owes log (flat_of k) refl alive there).0 in let was = bytes-now true (known ∙ there) in
      omega (arith, more, was, reserves, bytes-then, bytes))
      (λ none. let more = (first-change-owes log (flat_of k) refl alive none).0 in let was = bytes-now false (known ∙ none) in
      omega (arith, more, was, reserves, bytes-then, bytes))
      (cases_Bool (list_any (of_txn k.txn) log))

  pub owes-then : owed (log ++ flat_of k ∷ []) ≡ owed_of new
  owes-then = ⊎_elim
      (λ there. let more = (change-owes log (flat_of k) refl alive there).1 in let was = records-now true (known ∙ there) in
      omega (arith, more, was, owes, records-then, records))
      (λ none. let more = (first-change-owes log (flat_of k) refl alive none).1 in let was = records-now false (known ∙ none) in
      omega (arith, more, was, owes, records-then, records))
      (cases_Bool (list_any (of_txn k.txn) log))

  pub logged-then : IsLogged (changed_row k x) k.txn (log ++ flat_of k ∷ [])
  logged-then = record {
    alive = open-more k.txn log (flat_of k) refl alive;
    open_ones = reverse-append x.stack (opened k ∷ []) ∙ ap (λ (l : List OpenRec). opened k ∷ l) logged.open_ones
        ∙ ap (map open_of) (sym (stack-push k.txn log (flat_of k) ∙ step-own k.txn (stack k.txn log) (flat_of k) refl));
    span = ap (λ (o : Option (ℕ × ℕ)). Some (option_map_or (λ (s : ℕ × ℕ). s.0) o k.lsn, k.lsn)) logged.span
        ∙ sym (span-own k.txn log (flat_of k) (own_of (flat_of k) refl));
  }

-- ---- rows of others, and of one that runs

-- one whose end the log doesn't have isn't shut
pub logged-open : (x : Transaction) (t : TxnId) (log : List Rec) → IsOpen t log → RowIsLogged (Some x) t log → IsLogged x t log
logged-open x t log alive row = ⊎_elim (λ l. l) (λ s. absurd (s.ended alive)) row

pub row-other : (o : Option Transaction) (u : TxnId) (log : List Rec) (y : Rec) → of_txn u y ≡ false
    → stack u (log ++ y ∷ []) ≡ stack u log
    → RowIsLogged o u log → RowIsLogged o u (log ++ y ∷ [])
row-other None u log y off same old = λ is. old (sym (fate-others u log (y ∷ []) (off, tt)) ∙ is)
row-other (Some x) u log y off same old = ⊎_elim
    (λ l. inl (record {
      alive = open-more u log y (ends-off u y off) l.alive;
      open_ones = l.open_ones ∙ ap (map open_of) (sym same);
      span = l.span ∙ sym (span-other u log y off);
    }))
    (λ s. inr (record {
      ended = λ o. s.ended (Each-front (λ r. (ends r.kind && same_txn r.txn u) ≡ false) log (y ∷ []) o);
      emptied = s.emptied;
      span = s.span;
    }))
    old

pub live-other : (o : Option Transaction) (u : TxnId) (p : Part) (log log' : List Rec) → stack u log' ≡ stack u log
    → RowIsLive o u p log → RowIsLive o u p log'
live-other None u p log log' same old = old
live-other (Some x) u p log log' same old = record { puts = old.puts ∙ ap (map put_of) (sym same); marks = old.marks }

-- how one that runs stands doesn't hang on its log
pub stands-running : (s : TxnState) (life : Life) (f w f' w' : Fate) → life ≡ Life.Running → StandsAs s life f w
    → StandsAs s life f' w'
stands-running TxnState.Running life f w f' w' runs h = h
stands-running (TxnState.Rolling to) life f w f' w' runs h = h
stands-running TxnState.Retained life f w f' w' runs h =
    ⊎_elim (λ r. inl r) (λ d. absurd (subst IsInDoubt runs d.0)) h
stands-running TxnState.Doubt life f w f' w' runs h = h
stands-running TxnState.Committed life f w f' w' runs h = absurd (subst IsInDoubt runs h.0)

-- its live puts with the change
pub live-then : (k : Change) (x : Transaction) (p : Part) (log : List Rec) → IsLive x k.txn p log
    → IsLive (changed_row k x) k.txn (took_part k.rid Claim.Excl (Act.Put k.rid k.after ∷ []) p) (log ++ flat_of k ∷ [])
live-then k x p log old = record {
  puts = live_from-append [] p.acts (Act.Put k.rid k.after ∷ []) ∙ ap (λ (l : List (Rid × Content)). (k.rid, k.after) ∷ l) old.puts
      ∙ ap (map put_of) (sym (stack-push k.txn log (flat_of k) ∙ step-own k.txn (stack k.txn log) (flat_of k) refl));
  marks = old.marks;
}

-- the shape with a log, a table and a pool of the same instance
pub shape-changed : (i : ℕ) (log : LogState) (table : Transactions) (pool : Buffers) (places : DirectoryState Page) (c : Parts)
    → 1 ≤ i → i ≤ 8 → log.inst ≡ (log_at c i).inst → table.inst ≡ (txns_at c i).inst → IsShape c
    → IsShape (with_changed i log table pool places c)
shape-changed i log table pool places c low high same_log same_table s = record {
  logs = length-set c.logs (i - 1) log ∙ s.logs;
  pools = length-set c.pools (i - 1) pool ∙ s.pools;
  txns = length-set c.txns (i - 1) table ∙ s.txns;
  statuses = s.statuses;
  epochs = s.epochs;
  masters = s.masters;
  checks = s.checks;
  others = s.others;
  owed = s.owed;
  loose = s.loose;
  own_log = λ j lo hi. ⊎_elim
      (λ e. subst (λ (n : ℕ). (log_at (with_changed i log table pool places c) n).inst ≡ n) (sym e)
      (ap (λ (l : LogState). l.inst) (item-set no_log c.logs i log low high s.logs) ∙ same_log ∙ s.own_log i low high))
      (λ ne. ap (λ (l : LogState). l.inst) (item-kept no_log c.logs i log low j ne) ∙ s.own_log j lo hi)
      (cases_eq j i);
  own_txns = λ j lo hi. ⊎_elim
      (λ e. subst (λ (n : ℕ). (txns_at (with_changed i log table pool places c) n).inst ≡ n) (sym e)
      (ap (λ (z : Transactions). z.inst) (item-set no_txns c.txns i table low high s.txns) ∙ same_table ∙ s.own_txns i low high))
      (λ ne. ap (λ (z : Transactions). z.inst) (item-kept no_txns c.txns i table low j ne) ∙ s.own_txns j lo hi)
      (cases_eq j i);
}
