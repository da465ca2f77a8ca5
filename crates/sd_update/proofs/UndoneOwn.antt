-- A transaction that rolls back undoes its last open record on its own instance: for the law `undo`.
use Rattle.std.proofs.Common.{◌≡◌, inl, ⊎_elim, ℕ, ◌-◌, Bool, cond, List, [], ◌∷◌, ◌++◌, filter, leb, length, map, refl, sym, ap, ◌∙◌, subst, arith, length-append}
use Rattle.std.specs.Prelude.{Option, reverse}
use Rattle.std.specs.Str.{bytes_eq}
use Rattle.std.proofs.lemmas.List.{length-map, length-reverse}
use Rattle.sd_base.specs.declared.ids.TxnId.{TxnId}
use Rattle.sd_base.proofs.SameIds.{cases_txn, eq-same}
use Rattle.sd_logrec.specs.View.{Rec, flat}
use Rattle.sd_log.specs.Logs.{LogState, forced}
use Rattle.sd_model.specs.Acts.{live, undone}
use Rattle.sd_model.specs.Changes.{mark_of, undid, undid_part}
use Rattle.sd_model.specs.State.{Part, State}
use Rattle.sd_model.specs.declared.act.Life.{Life}
use Rattle.sd_model.proofs.Changes.{undid-kept}
use Rattle.sd_model.proofs.Marks.{put-marked, undid-sized}
use Rattle.sd_page.specs.Page.{Page}
use Rattle.sd_pagelock.specs.Directory.{DirectoryState}
use Rattle.sd_pool.specs.Buffers.{Buffers}
use Rattle.sd_rig.specs.Devices as rig
use Rattle.sd_txn.specs.Transactions.{Transaction, Transactions, noted, popped}
use Rattle.sd_txn.specs.declared.state.OpenRec.{OpenRec}
use Rattle.sd_txn.specs.declared.state.TxnState.{TxnState}
use Rattle.sd_txn.proofs.Stacks.{split-top}
use Rattle.sd_chain.specs.Fates.{Fate, fate}
use Rattle.sd_chain.specs.Records.{home, rest, stack}
use Rattle.sd_chain.proofs.Stacks.{stack-push, step-own}
use Rattle.sd_chain.specs.Logs.{Outcomes, all_at}
use Rattle.sd_state.specs.Good.{Good}
use Rattle.sd_state.specs.Parts.{Parts, is_loose, log_at}
use Rattle.sd_state.specs.Tables.{IsLive, NamedOnce, RowIsLive, StandsAs}
use Rattle.sd_update.specs.Undoing.{HasTop, IsUndone, MayUndo, UndoIsGood, clr_at, lsn_for, with_undone}
use Rattle.sd_state.specs.Values.{Pending, is_doubt, open_of, put_of}
use Rattle.sd_update.proofs.UndoneHalf.{claims-same, life-same, other-part, values-same}
use Rattle.sd_update.proofs.UndoneTop as top-of-all
use Rattle.sd_update.proofs.UndoneRows.{IsTop, live-undone, once-left, once-within, rising-within, within}
use Rattle.sd_update.proofs.Undone.{good-there, undone_log}

-- who rolls back stands so, whatever its log has
stands-rolling : (s : TxnState) (to : Option ℕ) (forced one other : Fate) → StandsAs s (Life.Rolling to) forced one
    → StandsAs s (Life.Rolling to) forced other
stands-rolling TxnState.Running to forced one other h = h
stands-rolling (TxnState.Rolling goal) to forced one other h = h
stands-rolling TxnState.Retained to forced one other h = ⊎_elim (λ r. inl r) (λ d. absurd d.0) h
stands-rolling TxnState.Doubt to forced one other h = h
stands-rolling TxnState.Committed to forced one other h = h

-- The transaction rolls back on its own instance, which is up.
module _ (t : TxnId) (x : Transaction) (o : OpenRec) (image : Page) (log : LogState) (pool : Buffers) (table : Transactions)
    (places : DirectoryState Page) (seen : rig.DeviceImages) (leaves : Outcomes) (c : Parts) (m : State)
    (g : Good seen leaves Pending.Idle c m) (w : MayUndo t x o image c m)
    (d : IsUndone (home t) t x o image log pool table places c) where
  found : HasTop (home t) t x o image c
  found = top-of-all.top-found t x o image seen leaves c m g w

  abbrev all : List Rec
  all = all_at (log_at c (home t))

  abbrev left : ℕ
  left = length x.stack - 1

  abbrev part : Part
  part = m.part t

  own-part : (undid t m).part t ≡ undid_part part
  own-part = ap (λ (b : Bool). cond b (undid_part part) part) (eq-same t t refl)

  split : (front : List OpenRec) × (x.stack ≡ front ++ o ∷ [])
  split = split-top x.stack o w.last

  tops : IsTop o (reverse split.0) (stack t all)
  tops = top-of-all.tops (home t) t x o image seen leaves c m g found split.0 split.1

  own-live : IsLive x t part all
  own-live = subst (λ (row : Option Transaction). RowIsLive row t part all) w.row
      (g.at_work (home t) w.low w.high w.up t refl (λ e. absurd (cc)))

  puts-left : undone (live part.acts) ≡ map put_of tops.below
  puts-left = ap undone (own-live.puts ∙ ap (map put_of) tops.is)

  left-is : left ≡ length (undone (live part.acts))
  left-is = let a = ap length split.1 in let b = length-append split.0 (o ∷ []) in let e = ap length tops.others in
      let f = length-map tops.below open_of in let h = length-reverse split.0 in let k = ap length puts-left in
      let n = length-map tops.below put_of in omega (arith, a, b, e, f, h, k, n)

  below-is : stack t (undone_log t x o image c) ≡ tops.below
  below-is = stack-push t all (flat (clr_at t x o image c)) ∙ step-own t (stack t all) (flat (clr_at t x o image c)) refl
      ∙ ap (λ (xs : List Rec). rest xs) tops.is

  live-gone : IsLive (noted (lsn_for t image c) (popped x)) t (undid_part part) (undone_log t x o image c)
  live-gone = record {
    puts = live-undone part.acts ∙ puts-left
        ∙ ap (map put_of) (sym below-is);
    marks = λ name. rising-within (bytes_eq name) left x.marks w.marks.rising ∙ ap (within left) (own-live.marks name)
        ∙ sym (once-within name left part.marks (g.named t))
        ∙ ap (λ (n : ℕ). mark_of name (filter (λ (k : List ℕ × ℕ). leb k.1 n) part.marks)) left-is;
  }

  named-there : (u : TxnId) → NamedOnce ((undid t m).part u).marks
  named-there u = ⊎_elim
      (λ e. subst (λ (v : TxnId). NamedOnce ((undid t m).part v).marks) (sym e)
      (subst (λ (p : Part). NamedOnce p.marks) (sym own-part)
      (once-left (length (undone (live part.acts))) part.marks (g.named t))))
      (λ ne. subst (λ (p : Part). NamedOnce p.marks) (sym (other-part t m u ne)) (g.named u))
      (cases_txn u t)

  stays : (forced : Fate) → StandsAs x.state part.life forced (fate t all)
      → StandsAs x.state part.life forced (fate t (undone_log t x o image c))
  stays forced h = subst (λ (life : Life). StandsAs x.state life forced (fate t (undone_log t x o image c))) (sym w.rolls)
      (stands-rolling x.state w.to forced (fate t all) (fate t (undone_log t x o image c))
      (subst (λ (life : Life). StandsAs x.state life forced (fate t all)) w.rolls h))

  pub own-good : Good seen leaves Pending.Idle (with_undone (home t) log pool table places c) (undid t m)
  own-good = good-there (home t) t x o image log pool table places c.due seen leaves c m (undid t m).part w.low w.high g found d
      (life-same t m) (claims-same t m) (other-part t m)
      (λ one other same. values-same t m one other (ap is_doubt w.rolls) same)
      (is_loose c) (λ j lo. refl) (λ moved. (g.half moved).coherent) (λ moved. inl (refl, found.settled, w.idle))
      (λ e. let f = sym w.rolls ∙ e in absurd (cc)) stays
      (λ up. subst (λ (p : Part). IsLive (noted (lsn_for t image c) (popped x)) t p (undone_log t x o image c)) (sym own-part) live-gone)
      (undid-kept m t g.kept) (put-marked m t (undid_part part) (undid-sized part w.to w.rolls w.above) g.marked) named-there

-- for the law
pub undo-good : (leaves : Outcomes) → UndoIsGood leaves
undo-good leaves seen c m t x o image log pool table places g w d =
    own-good t x o image log pool table places seen leaves c m g w d
