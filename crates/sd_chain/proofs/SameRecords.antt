-- A later start place keeps the records of who is open.
use Rattle.std.proofs.Common.{◌≡◌, ◌≢◌, ◌⊎◌, inl, inr, ⊎_elim, ℕ, Bool, true, false, cond, ◌&&◌, List, [], ◌∷◌, ◌++◌, filter, refl, sym, ap, ◌∙◌, subst}
use Rattle.std.specs.List.{list_any}
use Rattle.sd_base.specs.declared.ids.TxnId.{TxnId}
use Rattle.sd_logrec.specs.View.{Rec}
use Rattle.sd_page.specs.Page.{Page}
use Rattle.sd_base.specs.Ids.{same_txn}
use Rattle.sd_chain.specs.Records.{Each, IsOpen, ends, home}
use Rattle.sd_chain.specs.Order.{of_txn}
use Rattle.sd_chain.specs.Fates.{Fate, fate}
use Rattle.sd_chain.specs.Images.{Shortened}
use Rattle.sd_chain.specs.Laws.{ShorteningKeepsRecords}
use Rattle.sd_chain.proofs.Fates.{fate-open}
use Rattle.sd_chain.proofs.Lists.{Each-back}
use Rattle.sd_chain.proofs.Whose.{none_of}
use Rattle.std.proofs.lemmas.Bool.{cases_eq}

-- behind records of others
behind-others : (t : TxnId) (gone log : List Rec) → Each (λ x. of_txn t x ≡ false) gone
    → filter (of_txn t) (gone ++ log) ≡ filter (of_txn t) log
behind-others t [] log a = refl
behind-others t (x ∷ gone) log a = ap (λ (b : Bool). cond {A = List Rec} b (x ∷ filter (of_txn t) (gone ++ log)) (filter (of_txn t) (gone ++ log))) a.0
    ∙ behind-others t gone log a.1

pub shortening-records : (may : ℕ → Page → Type 0) → ShorteningKeepsRecords may
shortening-records may i gone old new s t opens = ⊎_elim here (λ ne. sym (ap (filter (of_txn t)) (sym (s.others (home t) ne)))) (cases_eq (home t) i)
  where
    lives : (log : List Rec) → fate t log ≡ Fate.Open → IsOpen t log
    lives log f = (fate-open t log f).0

    here : home t ≡ i → filter (of_txn t) (new.base (home t)) ≡ filter (of_txn t) (old.base (home t))
    here e =
        let back : IsOpen t (old.base i) → IsOpen t (new.base i) =
        λ o. Each-back (λ x. (ends x.kind && same_txn x.txn t) ≡ false) gone (new.base i) (subst (IsOpen t) s.here o) in
        let same : Each (λ x. of_txn t x ≡ false) gone → filter (of_txn t) (new.base i) ≡ filter (of_txn t) (old.base i) =
        λ none. sym (behind-others t gone (new.base i) none) ∙ ap (filter (of_txn t)) (sym s.here) in
        subst (λ (k : ℕ). filter (of_txn t) (new.base k) ≡ filter (of_txn t) (old.base k)) (sym e)
        (⊎_elim same (λ c. ⊎_elim
        (λ shut. absurd (shut (⊎_elim (λ f. back (subst (λ (k : ℕ). IsOpen t (old.base k)) e (lives (old.base (home t)) f)))
        (λ f. subst (λ (k : ℕ). IsOpen t (new.base k)) e (lives (new.base (home t)) f)) opens)))
        (λ z. absurd (⊎_elim (λ f. z.0 (subst (λ (k : ℕ). IsOpen t (old.base k)) e (lives (old.base (home t)) f)))
        (λ f. let there = (fate-open t (new.base (home t)) f).1 in
        let none : list_any (of_txn t) (new.base (home t)) ≡ false = subst (λ (k : ℕ). list_any (of_txn t) (new.base k) ≡ false) (sym e) (none_of (of_txn t) (new.base i) z.1) in cc)
        opens)) c) (s.closed t))
