use Rattle.std.proofs.Common.{◌≡◌, ℕ, ◌+◌, ◌-◌, ◌≤◌, true, length, refl, sym, ap, ap₂, ◌∙◌, subst, slice_set}
use Rattle.std.specs.Prelude.{Some}
use Rattle.sd_logrec.specs.Spelling.{spelling}
use Rattle.sd_logrec.specs.View.{flat}
use Rattle.sd_logrec.specs.declared.record.Record.{Record}
use Rattle.sd_log.specs.Logs.{LogState, with_record}
use Rattle.sd_pagelock.specs.Asks.{open_asks}
use Rattle.sd_pagelock.specs.Moves.{IsMove}
use Rattle.sd_pagelock.specs.Directory.{asks_at, entry_at, kept_rec, rec_lsn_at}
use Rattle.sd_pagelock.specs.Places.{changed, owns}
use Rattle.sd_pagelock.specs.Rows.{dirtied}
use Rattle.sd_pool.specs.Buffers.{Buffers, image_at, rewritten}
use Rattle.sd_txn.specs.Transactions.{Replaces, Transactions, noted, popped, top_at, txn_at}
use Rattle.sd_chain.specs.Pages.{redo}
use Rattle.sd_chain.specs.Records.{home}
use Rattle.sd_state.specs.Complexes.{parts, unboxed}
use Rattle.sd_state.specs.Parts.{Parts, log_at, pool_at, txns_at}
use Rattle.sd_update.specs.Undoing.{HasUndone, IsUndone, clr_at, lsn_for}
use Rattle.sd_state.proofs.Answered.{log-lent}
use Rattle.sd_update.proofs.UndoneCalls.{clr-there, has-undone, pool-lent, table-lent, top-there}
use Rattle.sd_state.proofs.Unboxed.{image-unboxed}
use Rattle.sd_update.proofs.loser_undo.undo_for.Goals as goal

pub set-requires-clause-lawful : goal.set-requires-clause-lawful
set-requires-clause-lawful g c =
    let p : Parts = parts c.args.c.now in
    let a : ℕ = c.args.by in
    let can = c.requires.can.3 in
    let page = c.undo_at-page.ensures.page c.requires.can.0 c.requires.can.1 c.requires.can.2 can in
    IsMove.change a (ap (λ (n : ℕ). owns (entry_at p.directory n) a) page ∙ can.held) refl

pub take_back-undone-requires : goal.take_back-undone-requires
take_back-undone-requires g c =
    let p : Parts = parts c.args.c.now in
    let t = c.args.t.now in
    let i : ℕ = home t in
    let a : ℕ = c.args.by in
    let x = c.requires.can.0 in let o = c.requires.can.1 in let image = c.requires.can.2 in let can = c.requires.can.3 in
    let place : c.get.result - 1 ≡ i - 1 = ap (λ k. k - 1) c.get.ensures.value in
    let own : c.get-2.result - 1 ≡ a - 1 = ap (λ k. k - 1) c.get-2.ensures.value in
    let table : Transactions = c.index_mut-2.result.now in
    let table_is : txns_at p i ≡ table = table-lent a t x o image p can (c.get.result - 1) table place c.index_mut-2.ensures.value in
    let pool : Buffers = c.index_mut-3.result.now in
    let pool_is : pool_at p a ≡ pool = pool-lent a t x o image p can (c.get-2.result - 1) pool own c.index_mut-3.ensures.value in
    record {
      fits = (
        o,
        image,
        (
          ap (λ (tb : Transactions). top_at tb t) (sym table_is) ∙ top-there a t x o image p can,
          ap (λ (b : Buffers). image_at b o.rid.page) (sym pool_is) ∙ can.copy,
          can.finds.slot,
        ),
      );
    }

pub returns-clause-made : goal.returns-clause-made
returns-clause-made g c =
    let p : Parts = parts c.args.c.now in
    let t = c.args.t.now in
    let i : ℕ = home t in
    let a : ℕ = c.args.by in
    let x = c.requires.can.0 in let o = c.requires.can.1 in let image = c.requires.can.2 in let can = c.requires.can.3 in
    let n : ℕ = c.get.result - 1 in
    let place : n ≡ i - 1 = ap (λ k. k - 1) c.get.ensures.value in
    let own : c.get-2.result - 1 ≡ a - 1 = ap (λ k. k - 1) c.get-2.ensures.value in
    let log : LogState = c.index_mut.result.now in
    let log_is : log_at p i ≡ log = log-lent p i n log can.low can.high can.shape.logs place c.index_mut.ensures.value in
    let clr : c.in_ok-clr.clr ≡ clr_at t x o image p = clr-there a t x o image p can n c.last_of-prev.result
    c.undo_at-page.result.1 c.index.result.now c.index-2.result.now c.in_ok-clr.clr place c.index.ensures c.index-2.ensures
    c.last_of-prev.ensures (c.undo_at-page.ensures.lsn x o image can) c.in_ok-clr.ensures in
    let table : Transactions = c.index_mut-2.result.now in
    let table_is : txns_at p i ≡ table = table-lent a t x o image p can n table place c.index_mut-2.ensures.value in
    let pool : Buffers = c.index_mut-3.result.now in
    let pool_is : pool_at p a ≡ pool = pool-lent a t x o image p can (c.get-2.result - 1) pool own c.index_mut-3.ensures.value in
    let taken : c.take_back-undone.result ≡ clr_at t x o image p = clr-there a t x o image p can n c.last_of-prev.result
    c.undo_at-page.result.1 c.index.result.now table c.take_back-undone.result place c.index.ensures c.index_mut-2.ensures.value
    c.last_of-prev.ensures (c.undo_at-page.ensures.lsn x o image can) c.take_back-undone.ensures.clr in
    let page_is : c.undo_at-page.result.0 ≡ o.rid.page = c.undo_at-page.ensures.page x o image can in
    let lsn_is : c.undo_at-page.result.1 ≡ lsn_for t image p = c.undo_at-page.ensures.lsn x o image can in
    let top : top_at table t ≡ Some o = ap (λ (tb : Transactions). top_at tb t) (sym table_is) ∙ top-there a t x o image p can in
    let new_log : LogState = c.append_copied.new.log in
    let new_table : Transactions = c.take_back-undone.new.table in
    let new_pool : Buffers = c.take_back-undone.new.pool in
    let places = unboxed c.set.new.self in
    let row : Replaces (txns_at p i) new_table t x (noted (lsn_for t image p) (popped x)) =
    subst (λ (k : ℕ). Replaces (txns_at p i) new_table t x (noted k (popped x))) lsn_is
    (subst (λ (tb : Transactions). Replaces tb new_table t x (noted c.undo_at-page.result.1 (popped x))) (sym table_is)
    (c.take_back-undone.ensures.row x (ap (λ (tb : Transactions). txn_at tb t) (sym table_is) ∙ can.row))) in
    let done : IsUndone a t x o image new_log new_pool new_table places p = record {
      spare = new_log.spare;
      grown = c.in_ok-append_copied.ensures.grown ∙ ap₂ (λ (r : Record) (l : LogState). with_record r new_log.spare l) clr (sym log_is);
      spent = subst (λ (l : LogState). l.spare ≤ new_log.spare + length (spelling (clr_at t x o image p))) (sym log_is)
          (subst (λ (r : Record). log.spare ≤ new_log.spare + length (spelling r)) clr c.in_ok-append_copied.ensures.spent);
      row = row;
      rewrites = c.take_back-undone.ensures.pool o image top (ap (λ (b : Buffers). image_at b o.rid.page) (sym pool_is) ∙ can.copy)
          ∙ ap₂ (λ (b : Buffers) (r : Record). rewritten b o.rid.page (redo image (flat r))) (sym pool_is) taken;
      page = c.take_back-undone.ensures.page o image top (ap (λ (b : Buffers). image_at b o.rid.page) (sym pool_is) ∙ can.copy)
          ∙ ap (λ (r : Record). Some (redo image (flat r))) taken;
      other_pages = λ q ne. c.take_back-undone.ensures.others o top q ne ∙ ap (λ (b : Buffers). image_at b q) (sym pool_is);
      frames = c.take_back-undone.ensures.frames ∙ ap (λ (b : Buffers). b.frames) (sym pool_is);
      entry = subst (λ (k : ℕ). entry_at places k ≡ dirtied a) page_is c.set.ensures.here;
      rec_lsn = subst (λ (k : ℕ). rec_lsn_at places o.rid.page
          ≡ kept_rec (changed (entry_at p.directory o.rid.page)) true (rec_lsn_at p.directory o.rid.page) (Some k)) lsn_is
          (subst (λ (k : ℕ). rec_lsn_at places k
          ≡ kept_rec (changed (entry_at p.directory k)) true (rec_lsn_at p.directory k) (Some c.undo_at-page.result.1)) page_is
          c.set.ensures.rec_lsn);
      asks = subst (λ (k : ℕ). asks_at places k ≡ open_asks (dirtied a) (asks_at p.directory k)) page_is c.set.ensures.asks;
      images = λ q. image-unboxed c.args.c.now.directory c.set.new.self q (c.set.ensures.images q);
      other_entries = λ q ne. c.set.ensures.others q (λ e. ne (e ∙ page_is));
      other_rec_lsns = λ q ne. c.set.ensures.other_rec_lsns q (λ e. ne (e ∙ page_is));
      other_asks = λ q ne. c.set.ensures.other_asks q (λ e. ne (e ∙ page_is));
    } in
    subst (λ (k : ℕ). HasUndone a (Some (a, i)) t p (record p {
      logs = slice_set p.logs k new_log;
      pools = slice_set p.pools (c.get-2.result - 1) new_pool;
      txns = slice_set p.txns k new_table;
      directory = places;
      due = Some (a, i);
    })) (sym place)
    (subst (λ (k : ℕ). HasUndone a (Some (a, i)) t p (record p {
      logs = slice_set p.logs (i - 1) new_log;
      pools = slice_set p.pools k new_pool;
      txns = slice_set p.txns (i - 1) new_table;
      directory = places;
      due = Some (a, i);
    })) (sym own)
    (has-undone a t x o image p can new_log new_pool new_table places (Some (a, i)) done))
