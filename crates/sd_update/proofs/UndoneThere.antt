-- The open record that is undone next, and the copy of its page: for the law `undo`.
use Rattle.std.proofs.Common.{◌≡◌, ⊎_elim, ℕ, ◌<◌, Bool, true, false, cond, List, length, map, refl, sym, ap, ◌∙◌, arith}
use Rattle.std.specs.Prelude.{Option, None, Some, reverse}
use Rattle.std.proofs.lemmas.List.{length-map, length-reverse}
use Rattle.sd_base.specs.declared.ids.TxnId.{TxnId}
use Rattle.sd_logrec.specs.View.{Rec}
use Rattle.sd_model.specs.Acts.{live}
use Rattle.sd_model.specs.State.{State}
use Rattle.sd_model.specs.declared.act.Life.{Life}
use Rattle.sd_page.specs.Page.{Page}
use Rattle.sd_pagelock.specs.Directory.{entry_at}
use Rattle.sd_pagelock.specs.Places.{PageEntry, holds, owns}
use Rattle.sd_txn.specs.Transactions.{Transaction, top, txn_at}
use Rattle.sd_txn.specs.declared.state.OpenRec.{OpenRec}
use Rattle.sd_txn.proofs.Stacks.{none-empty}
use Rattle.sd_chain.specs.Fates.{Fate, fate}
use Rattle.sd_chain.specs.Records.{IsOpen, home, stack}
use Rattle.sd_chain.specs.World.{newest_version}
use Rattle.sd_chain.specs.Logs.{Outcomes, all_at, base_at}
use Rattle.sd_state.specs.Good.{base_of}
use Rattle.sd_state.specs.Images.{leaves_by, log_by}
use Rattle.sd_state.specs.Parts.{Parts, is_loose, log_at, txns_at, up_as}
use Rattle.sd_state.specs.Tables.{NamesLife, RowIsLive, RowIsLogged, tells_log}
use Rattle.sd_update.specs.Undoing.{FindsTop, UndoFindsCopy, UndoFindsTop}
use Rattle.sd_state.specs.Values.{open_of, put_of}
use Rattle.sd_update.proofs.UndoneTop.{alive-there}

owned-held : (e : PageEntry) (i : ℕ) → owns e i ≡ true → holds e i ≡ true
owned-held PageEntry.Free i h = h
owned-held (PageEntry.Shared set writer) i h = absurd (cc)
owned-held (PageEntry.Excl holder dirty) i h = h
owned-held (PageEntry.Moving to mode rest dirty) i h = absurd (cc)
owned-held PageEntry.Lost i h = h

pub undo-finds_copy : (leaves : Outcomes) → UndoFindsCopy leaves
undo-finds_copy leaves seen c m i p g owned =
    let h = g.half (λ j. false) in
    let v : Page = newest_version (base_of seen (leaves_by c (λ j. false) leaves) (log_by c (λ j. false)) c) p in (
      v,
      h.coherent.copies i p ∙ ap (λ (b : Bool). cond {A = Option Page} b (Some v) None)
          (owned-held (entry_at c.directory p) i owned),
    )

-- as many open records in the row as live puts
top-there : (x : Transaction) (t : TxnId) (log : List Rec) (n : ℕ) → reverse x.stack ≡ map open_of (stack t log)
    → n ≡ length (stack t log) → 0 < n → (last : Option OpenRec) → top x ≡ last → (o : OpenRec) × (top x ≡ Some o)
top-there x t log n open_ones count some None is =
    let a = ap length open_ones in let b = length-reverse x.stack in let d = length-map (stack t log) open_of in
    let e = ap length (none-empty x.stack is) in absurd (omega (arith, a, b, d, e, count, some))
top-there x t log n open_ones count some (Some o) is = (o, is)

row-there : (row : Option Transaction) (t : TxnId) (c : Parts) (m : State) (to : Option ℕ) (forced whole : Fate) (log : List Rec)
    → IsOpen t log → txn_at (txns_at c (home t)) t ≡ row → (m.part t).life ≡ Life.Rolling to → 0 < length (live (m.part t).acts)
    → NamesLife row (m.part t).life forced whole → RowIsLogged row t log → RowIsLive row t (m.part t) log → FindsTop t c
row-there None t c m to forced whole log alive is rolls some names logged live_row = let clash = sym names ∙ rolls in absurd (cc)
row-there (Some x) t c m to forced whole log alive is rolls some names logged live_row =
    let count : length (live (m.part t).acts) ≡ length (stack t log) = ap length live_row.puts
    ∙ length-map (stack t log) put_of in
    ⊎_elim
    (λ l. let last = top-there x t log (length (live (m.part t).acts)) l.open_ones count some (top x) refl in
    record { x = x; o = last.0; row = is; last = last.1 })
    (λ s. absurd (s.ended alive))
    logged

pub undo-finds_top : (leaves : Outcomes) → UndoFindsTop leaves
undo-finds_top leaves seen c m t to g low high idle up rolls above =
    let i : ℕ = home t in
    let settled : is_loose c i ≡ false = ⊎_elim (λ e. e) (λ due. let clash = sym idle ∙ due in absurd (cc))
    ((g.half (λ j. false)).coherent.ready i low (ap up_as up)) in
    row-there (txn_at (txns_at c i) t) t c m to (fate t (base_at (log_at c i))) (fate t (all_at (log_at c i)))
    (all_at (log_at c i)) (alive-there t to seen leaves c m g low high rolls above)
    refl rolls (omega (arith, above)) ((g.instances i low high).names t refl)
    ((g.told i low high (ap tells_log up) settled).rows t refl) (g.at_work i low high up t refl (λ e. absurd (cc)))
