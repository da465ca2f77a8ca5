-- The table that recovery gives, where a transaction has committed: for `committed` and `committed_bare` of ending.rt.
use Rattle.std.proofs.Common.{◌≡◌, ◌≢◌, ℕ, Bool, true, false, cond, List, [], ◌∷◌, ◌++◌, filter, map, append-nil, append_assoc, refl, sym, ap, ◌∙◌, subst}
use Rattle.std.proofs.lemmas.List.{map-append}
use Rattle.std.proofs.lemmas.List.Elements.{filter-append}
use Rattle.sd_base.specs.declared.ids.TxnId.{TxnId}
use Rattle.sd_base.specs.declared.ids.Rid.{Rid}
use Rattle.sd_logrec.specs.View.{Rec}
use Rattle.sd_model.specs.Acts.{Puts, after, live, seen_over}
use Rattle.sd_model.specs.Apart.{AreOthers, dones}
use Rattle.sd_model.specs.Kept.{Kept, MayCommit}
use Rattle.sd_model.specs.State.{Part, State, committed, gone}
use Rattle.sd_model.specs.Tables.{Contents}
use Rattle.sd_model.specs.declared.act.Done.{Done}
use Rattle.sd_model.specs.declared.act.Life.{Life}
use Rattle.sd_model.proofs.Acts.{after-snoc}
use Rattle.sd_model.proofs.Swap.{after-agree, after-append, commit-late}
use Rattle.sd_model.proofs.Views.{part-elsewhere, part-here}
use Rattle.sd_state.specs.Values.{Pending, as_done, decided, is_committed, is_doubt, values}
use Rattle.sd_state.proofs.WorkingValues.{decided-same}

-- one in doubt may turn out to have committed
doubt-commits : (life : Life) → is_doubt life ≡ true → MayCommit life
doubt-commits Life.Gone e = absurd (cc)
doubt-commits Life.Running e = absurd (cc)
doubt-commits Life.Retained e = absurd (cc)
doubt-commits (Life.Rolling to) e = absurd (cc)
doubt-commits (Life.Doubt cut) e = tt

map-dones : (m : State) (us : List TxnId) → map (as_done m) us ≡ dones m us
map-dones m [] = refl
map-dones m (u ∷ us) = ap (λ (ds : List Done). as_done m u ∷ ds) (map-dones m us)

module _ (t : TxnId) (m : State) (logs : ℕ → List Rec) (kept : Kept m) (runs : (m.part t).life ≡ Life.Running) where
  abbrev m' : State
  m' = committed t m

  abbrev doubtful : List TxnId → List TxnId
  doubtful us = filter (λ u. is_doubt (m.part u).life) us

  abbrev those : List TxnId
  those = filter (is_committed logs) (doubtful m.cuts)

  part-gone : m'.part t ≡ gone
  part-gone = part-here (record m { done = m.done ++ as_done m t ∷ [] }) t gone

  part-else : (u : TxnId) → u ≢ t → m'.part u ≡ m.part u
  part-else u ne = part-elsewhere (record m { done = m.done ++ as_done m t ∷ [] }) t u gone (λ e. ne (sym e))

  others-are : (us : List TxnId) → AreOthers m t (filter (is_committed logs) (doubtful us))
  others-are [] = tt
  others-are (u ∷ us) = by (is_doubt (m.part u).life) refl (others-are us)
    where
      two : (b : Bool) → is_doubt (m.part u).life ≡ true → AreOthers m t (filter (is_committed logs) (doubtful us))
          → AreOthers m t (cond b (u ∷ filter (is_committed logs) (doubtful us)) (filter (is_committed logs) (doubtful us)))
      two true e ih = (
        λ same. let clash = sym e ∙ ap (λ (v : TxnId). is_doubt (m.part v).life) same ∙ ap is_doubt runs in absurd (cc),
        doubt-commits (m.part u).life e,
        ih,
      )
      two false e ih = ih

      by : (b : Bool) → is_doubt (m.part u).life ≡ b → AreOthers m t (filter (is_committed logs) (doubtful us))
          → AreOthers m t (filter (is_committed logs) (cond b (u ∷ doubtful us) (doubtful us)))
      by true e ih = two (is_committed logs u) e ih
      by false e ih = ih

  now-decided : decided m' Pending.Idle logs ≡ decided m Pending.Idle logs
  now-decided = decided-same t m m' logs refl part-else (ap is_doubt runs) (ap (λ (p : Part). is_doubt p.life) part-gone)

  were-decided : decided m Pending.Idle logs ≡ dones m those
  were-decided = ap (λ (us : List TxnId). map (as_done m) (filter (is_committed logs) us)) (append-nil (doubtful m.cuts)) ∙ map-dones m those

  -- with its Commit in the logs it was the last to be decided; it stands before those in doubt now, which share no record with it
  pub values-committed : is_committed logs t ≡ true → (p s : ℕ)
      → values m' Pending.Idle logs p s ≡ values m (Pending.Commits t) logs p s
  values-committed is p s =
      ap (λ (ds : List Done). after m.start ((m.done ++ as_done m t ∷ []) ++ ds) (record { page = p; slot = s })) (now-decided ∙ were-decided)
      ∙ sym (commit-late m kept t (subst MayCommit (sym runs) tt) those (others-are m.cuts) (record { page = p; slot = s }))
      ∙ ap (λ (ds : List Done). after m.start ds (record { page = p; slot = s })) (append_assoc m.done (dones m those) (as_done m t ∷ []))
      ∙ ap (λ (ds : List Done). after m.start (m.done ++ ds) (record { page = p; slot = s })) (sym last)
    where
      last : decided m (Pending.Commits t) logs ≡ dones m those ++ as_done m t ∷ []
      last = ap (map (as_done m)) (filter-append (is_committed logs) (doubtful m.cuts) (t ∷ [])
          ∙ ap (λ (b : Bool). those ++ cond b (t ∷ []) []) is)
          ∙ map-append (as_done m) those (t ∷ [])
          ∙ ap (λ (ds : List Done). ds ++ as_done m t ∷ []) (map-dones m those)

  -- one that has put nothing that is live leaves the table as it was
  pub values-bare : live (m.part t).acts ≡ [] → (p s : ℕ) → values m' Pending.Idle logs p s ≡ values m Pending.Idle logs p s
  values-bare nothing p s =
      ap (λ (ds : List Done). after m.start ((m.done ++ as_done m t ∷ []) ++ ds) rid) now-decided
      ∙ ap (λ (f : Contents). f rid) (after-append m.start (m.done ++ as_done m t ∷ []) (decided m Pending.Idle logs))
      ∙ after-agree (after m.start (m.done ++ as_done m t ∷ [])) (after m.start m.done) (decided m Pending.Idle logs) rid
      (ap (λ (f : Contents). f rid) (after-snoc m.start m.done (as_done m t)) ∙ ap (λ (ps : Puts). seen_over (after m.start m.done) ps rid) nothing)
      ∙ sym (ap (λ (f : Contents). f rid) (after-append m.start m.done (decided m Pending.Idle logs)))
    where
      rid : Rid
      rid = record { page = p; slot = s }
