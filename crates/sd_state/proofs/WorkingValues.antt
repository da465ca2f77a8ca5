-- The table that recovery gives, where one changes that isn't in doubt: for the calls in working.rt and ending.rt.
use Rattle.std.proofs.Common.{◌≡◌, ◌≢◌, ⊎_elim, ℕ, Bool, true, false, cond, List, [], ◌∷◌, ◌++◌, filter, map, refl, sym, ap, ap₂, ◌∙◌}
use mathlib.Core.Path.{fun_ext}
use Rattle.sd_base.specs.declared.ids.TxnId.{TxnId}
use Rattle.sd_base.proofs.SameIds.{cases_txn}
use Rattle.sd_logrec.specs.View.{Rec}
use Rattle.sd_model.specs.Acts.{after}
use Rattle.sd_model.specs.State.{Part, State}
use Rattle.sd_model.specs.Tables.{Contents}
use Rattle.sd_model.specs.declared.act.Done.{Done}
use Rattle.sd_state.specs.Values.{Pending, as_done, decided, is_committed, is_doubt, values}

module _ (t : TxnId) (m m' : State) (logs : ℕ → List Rec) (cuts : m'.cuts ≡ m.cuts) (others : (u : TxnId) → u ≢ t → m'.part u ≡ m.part u)
    (before : is_doubt (m.part t).life ≡ false) (after_it : is_doubt (m'.part t).life ≡ false) where
  abbrev old_doubt : TxnId → Bool
  old_doubt u = is_doubt (m.part u).life

  abbrev new_doubt : TxnId → Bool
  new_doubt u = is_doubt (m'.part u).life

  same-doubt : (u : TxnId) → new_doubt u ≡ old_doubt u
  same-doubt u = ⊎_elim (λ e. ap new_doubt e ∙ after_it ∙ sym before ∙ sym (ap old_doubt e))
      (λ ne. ap (λ (p : Part). is_doubt p.life) (others u ne)) (cases_txn u t)

  same-done : (u : TxnId) → old_doubt u ≡ true → as_done m' u ≡ as_done m u
  same-done u doubt = ap (λ (p : Part). record { txn = u; acts = p.acts })
      (others u (λ e. let clash = sym doubt ∙ ap old_doubt e ∙ before in absurd (cc)))

  abbrev those : List TxnId → List TxnId
  those us = filter (is_committed logs) (filter old_doubt us ++ [])

  same-dones : (us : List TxnId) → map (as_done m') (those us) ≡ map (as_done m) (those us)
  same-dones [] = refl
  same-dones (u ∷ us) = by (old_doubt u) refl (same-dones us)
    where
      by : (b : Bool) → old_doubt u ≡ b → map (as_done m') (those us) ≡ map (as_done m) (those us)
          → map (as_done m') (filter (is_committed logs) (cond b (u ∷ filter old_doubt us) (filter old_doubt us) ++ []))
          ≡ map (as_done m) (filter (is_committed logs) (cond b (u ∷ filter old_doubt us) (filter old_doubt us) ++ []))
      by false e ih = ih
      by true e ih = two (is_committed logs u)
        where
          two : (b : Bool) → map (as_done m') (cond b (u ∷ those us) (those us)) ≡ map (as_done m) (cond b (u ∷ those us) (those us))
          two true = ap₂ (λ (d : Done) (ds : List Done). d ∷ ds) (same-done u e) ih
          two false = ih

  -- those that the logs decide are the same
  pub decided-same : decided m' Pending.Idle logs ≡ decided m Pending.Idle logs
  decided-same =
      ap (λ (us : List TxnId). map (as_done m') (filter (is_committed logs) (filter new_doubt us ++ []))) cuts
      ∙ ap (λ (test : TxnId → Bool). map (as_done m') (filter (is_committed logs) (filter test m.cuts ++ []))) (fun_ext same-doubt)
      ∙ same-dones m.cuts

  -- and so is the table, where nobody commits
  pub values-other : m'.start ≡ m.start → m'.done ≡ m.done → (p s : ℕ) → values m' Pending.Idle logs p s ≡ values m Pending.Idle logs p s
  values-other start done p s =
      ap₂ (λ (base : Contents) (front : List Done). after base (front ++ decided m' Pending.Idle logs) (record { page = p; slot = s })) start done
      ∙ ap (λ (ds : List Done). after m.start (m.done ++ ds) (record { page = p; slot = s })) decided-same
