use Rattle.std.proofs.Common.{◌≡◌, ℕ, ◌-◌, ◌≤◌, Some, get_or, slice_set, true, refl, sym, ap, ap₂, ◌∙◌, subst, arith}
use Rattle.std.specs.Prelude.{option_copied, option_map}
use Rattle.sd_log.specs.Logs.{LogState, with_record}
use Rattle.sd_page.specs.declared.op.Op.{Op}
use Rattle.sd_page.specs.Page.{Page, applied, empty_page}
use Rattle.sd_pagelock.specs.Asks.{open_asks}
use Rattle.sd_pagelock.specs.Directory.{asks_at, entry_at, kept_rec, rec_lsn_at}
use Rattle.sd_pagelock.specs.Places.{changed, owns}
use Rattle.sd_pagelock.specs.Rows.{dirtied}
use Rattle.sd_pool.specs.Buffers as buffers
use Rattle.sd_pool.specs.Buffers.{Buffers}
use Rattle.sd_txn.specs.Transactions.{Replaces, Transaction, Transactions, noted, pushed, started, txn_at}
use Rattle.sd_txn.specs.declared.state.TxnState.{TxnState}
use Rattle.sd_chain.specs.Pages.{redo}
use Rattle.sd_update.specs.Changing.{Change, IsRowPut, change_in, changed_row, flat_of, image_for, row_for, update}
use Rattle.sd_state.specs.Complexes.{parts, unboxed}
use Rattle.sd_state.specs.Parts.{Parts, log_at, no_pool, no_txns, pool_at, txns_at}
use Rattle.sd_state.proofs.Answered.{log-lent}
use Rattle.sd_update.proofs.ChangeCalls.{among-at, applied-redone, some-as}
use Rattle.sd_state.proofs.Unboxed.{image-unboxed}
use Rattle.sd_state.proofs.Items.{item-is}
use Rattle.sd_update.proofs.changes.put_change.Goals as goal

pub mark-requires-clause-owns : goal.mark-requires-clause-owns
mark-requires-clause-owns g c =
    ap (λ (p : ℕ). owns (entry_at c.args.c.now.directory p) c.args.t.now.inst) c.page_of-page.ensures ∙ c.requires.owns

pub mark-requires-clause-open : goal.mark-requires-clause-open
mark-requires-clause-open g c =
    subst (λ (p : ℕ). open_asks (entry_at c.args.c.now.directory p) (asks_at c.args.c.now.directory p) ≡ asks_at c.args.c.now.directory p)
    (sym c.page_of-page.ensures) c.requires.open

pub returns-clause-put : goal.returns-clause-put
returns-clause-put g c =
    let p : Parts = parts c.args.c.now in
    let i : ℕ = c.args.t.now.inst in
    let k : Change = change_in c.args.t.now c.args.ready.top c.args.ready.capacity (option_copied c.args.ready.after) in
    let low : 1 ≤ i = omega (arith, c.get.ensures.value, c.get.ensures.low) in
    let high : i ≤ 8 = omega (arith, c.get.ensures.value, c.get.ensures.high) in
    let at : ℕ = c.get.result - 1 in
    let place : at ≡ i - 1 = ap (λ (n : ℕ). n - 1) c.get.ensures.value in
    let page : c.page_of-page.result ≡ k.rid.page = c.page_of-page.ensures in
    let old_log : LogState = c.index_mut.result.now in
    let log : LogState = c.log_within.new.log in
    let log_is : log_at p i ≡ old_log = log-lent p i at old_log low high c.requires.shape.logs place c.index_mut.ensures.value in
    let grown : log ≡ with_record (update k) log.spare (log_at p i) =
    c.in_ok-log_within.ensures.log ∙ ap (with_record (update k) log.spare) (sym log_is) in
    let table : Transactions = get_or c.log_within.new.txns.items at no_txns in
    let tables : c.log_within.new.txns.items ≡ slice_set p.txns at table = c.in_ok-log_within.ensures.table in
    let old_table : get_or p.txns at no_txns ≡ txns_at p i =
    ap (λ (n : ℕ). get_or p.txns n no_txns) place ∙ sym (among-at no_txns p.txns i low) in
    let put : IsRowPut c.args.t.now c.args.ready.top (txns_at p i) table =
    subst (λ (z : Transactions). IsRowPut c.args.t.now c.args.ready.top z table) old_table c.in_ok-log_within.ensures.row in
    let x : Transaction = row_for c.args.t.now p in
    let was : txn_at (txns_at p i) c.args.t.now ≡ Some x = some-as (txn_at (txns_at p i) c.args.t.now) (started TxnState.Running) c.requires.known in
    let row : Replaces (txns_at p i) table c.args.t.now x (changed_row k x) = record {
      was = was;
      now = put.row ∙ ap (option_map (λ (z : Transaction). noted k.lsn (pushed c.args.ready.top z))) was;
      others = put.others;
      order = put.order;
    } in
    let old_pool : Buffers = c.index_mut-2.result.now in
    let pool : Buffers = c.rewrite.new.pool in
    let pool_is : pool_at p i ≡ old_pool =
    item-is no_pool p.pools i old_pool low high c.requires.shape.pools (c.index_mut-2.ensures.value ∙ ap (λ (n : ℕ). get_or p.pools n old_pool) place) in
    let image : Page = image_for c.args.t.now k.rid.page p in
    let copy : buffers.image_at (pool_at p i) k.rid.page ≡ Some image =
    some-as (buffers.image_at (pool_at p i) k.rid.page) (empty_page k.rid.page) c.requires.held in
    let lent : buffers.image_at old_pool c.page_of-page.result ≡ Some image =
    ap (buffers.image_at old_pool) page ∙ ap (λ (b : Buffers). buffers.image_at b k.rid.page) (sym pool_is) ∙ copy in
    let op : Op = record { slot = k.rid.slot; capacity = k.capacity; after = c.args.ready.after } in
    let redone : applied op k.lsn image ≡ redo image (flat_of k) =
    applied-redone k op image refl refl refl c.requires.takes.place in
    record {
      spare = log.spare;
      table = table;
      pool = pool;
      places = unboxed c.mark.new.directory;
      memory = c.in_ok-log_within.ensures.memory;
      changed = record {
        row = row;
        bytes = c.owed_by_change.ensures.reserve (txns_at p i) table c.args.t.now x (changed_row k x) put.once row;
        records = c.owed_by_change.ensures.owed (txns_at p i) table c.args.t.now x (changed_row k x) put.once row;
        rewrites = c.rewrite.ensures.pool image lent ∙ ap₂ (λ (n : ℕ) (z : Page). buffers.rewritten old_pool n z) page redone
            ∙ ap (λ (b : Buffers). buffers.rewritten b k.rid.page (redo image (flat_of k))) (sym pool_is);
        page = ap (buffers.image_at pool) (sym page) ∙ c.rewrite.ensures.here ∙ ap (option_map (applied op k.lsn)) lent
            ∙ ap (λ (z : Page). Some z) redone;
        other_pages = λ q ne. c.rewrite.ensures.others q (λ e. ne (e ∙ page)) ∙ ap (λ (b : Buffers). buffers.image_at b q) (sym pool_is);
        frames = c.rewrite.ensures.frames ∙ ap (λ (b : Buffers). b.frames) (sym pool_is);
        entry = ap (entry_at c.mark.new.directory) (sym page) ∙ c.mark.ensures.here;
        rec_lsn = subst (λ (n : ℕ). rec_lsn_at c.mark.new.directory n ≡ kept_rec (changed (entry_at c.args.c.now.directory n)) true
            (rec_lsn_at c.args.c.now.directory n) (Some k.lsn)) page c.mark.ensures.rec_lsn;
        asks = subst (λ (n : ℕ). asks_at c.mark.new.directory n ≡ open_asks (dirtied i) (asks_at c.args.c.now.directory n)) page c.mark.ensures.asks;
        other_entries = λ q ne. c.mark.ensures.others q (λ e. ne (e ∙ page));
        other_rec_lsns = λ q ne. c.mark.ensures.other_rec_lsns q (λ e. ne (e ∙ page));
        other_asks = λ q ne. c.mark.ensures.other_asks q (λ e. ne (e ∙ page));
        moving = λ q. image-unboxed c.args.c.now.directory c.mark.new.directory q (c.mark.ensures.images q);
      };
      is = λ n. record p {
        logs = (ap (λ (j : ℕ). slice_set p.logs j log) place ∙ ap (slice_set p.logs (i - 1)) grown) n;
        pools = slice_set p.pools (place n) pool;
        txns = (tables ∙ ap (λ (j : ℕ). slice_set p.txns j table) place) n;
        directory = unboxed c.mark.new.directory;
      };
    }
