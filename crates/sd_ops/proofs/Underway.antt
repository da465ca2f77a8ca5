-- What an image stands for that was left while a commit was under way: with its Commit, without it, or cut. For the calls that commit.
use Rattle.std.proofs.Common.{◌≡◌, ◌≢◌, ◌⊎◌, inl, inr, ⊎_elim, ℕ, Bool, true, false, cond, List, [], ◌∷◌, ◌++◌, filter, map, sym, ap, ◌∙◌, subst}
use Rattle.std.proofs.lemmas.Bool.{cases_Bool}
use Rattle.std.proofs.lemmas.List.Elements.{filter-append}
use Rattle.sd_base.specs.declared.ids.TxnId.{TxnId}
use Rattle.sd_base.proofs.SameIds.{cases_txn}
use Rattle.sd_logrec.specs.View.{Rec}
use Rattle.sd_model.specs.Acts.{after}
use Rattle.sd_model.specs.Kept.{Kept}
use Rattle.sd_model.specs.State.{Part, State, committed, cut_commit, gone}
use Rattle.sd_model.specs.declared.act.Claim.{Claim}
use Rattle.sd_model.specs.declared.act.Life.{Life}
use Rattle.sd_model.proofs.Views.{part-elsewhere}
use Rattle.sd_rig.specs.Devices.{DeviceImages}
use Rattle.sd_chain.specs.Bytes.{log_of, stable}
use Rattle.sd_chain.specs.Fates.{Fate}
use Rattle.sd_chain.specs.Storage.{Recovered}
use Rattle.sd_chain.specs.Records.{Each, home, stack}
use Rattle.sd_chain.proofs.Fates.{committed-fate}
use Rattle.sd_state.specs.Images.{IsClaimed, IsOpenIn, Stands}
use Rattle.sd_state.specs.Values.{Pending, as_done, is_committed, is_doubt, rid_of, undecided, values}
use Rattle.sd_state.proofs.EndingValues.{values-committed}
use Rattle.sd_moves.proofs.FallModel.{IsFall}

-- who has the same part has the same claims
claimed-as : (m m' : State) (u : TxnId) (log : List Rec) → m'.part u ≡ m.part u → IsClaimed m u log → IsClaimed m' u log
claimed-as m m' u log same c = record {
  there = subst (λ (p : Part). p.life ≢ Life.Gone) (sym same) c.there;
  claims = subst (λ (p : Part). Each (λ (x : Rec). p.claims (rid_of x) ≡ Claim.Excl) (stack u log)) (sym same) c.claims;
}

module _ (t : TxnId) (m : State) (img : DeviceImages) (s : Stands m (Pending.Commits t) img) where
  abbrev logs : ℕ → List Rec
  logs = (stable img).logs

  -- the image has its Commit
  with-commit : Kept m → (m.part t).life ≡ Life.Running → is_committed logs t ≡ true → Stands (committed t m) Pending.Idle img
  with-commit kept runs is = record {
    sound = s.sound;
    recovered = λ p q. subst (Recovered (stable img) p q) (sym (values-committed t m logs kept runs is p q)) (s.recovered p q);
    claimed = λ u opens. ⊎_elim
        (λ (e : u ≡ t). absurd (closed (subst (λ (v : TxnId). IsOpenIn v (log_of img (home v))) e opens)))
        (λ (ne : u ≢ t). claimed-as m (committed t m) u (log_of img (home u))
        (part-elsewhere (record m { done = m.done ++ as_done m t ∷ [] }) t u gone (λ e. ne (sym e))) (s.claimed u opens))
        (cases_txn u t);
    epochs = λ j lo hi. let e = s.epochs j lo hi in record { low = e.low; high = e.high };
  }
    where
      closed : IsOpenIn t (log_of img (home t)) → ⊥
      closed opens = let clash : Fate.Committed ≡ Fate.Open = sym (committed-fate t (log_of img (home t)) is) ∙ opens in absurd (cc)

  -- or it hasn't
  without-commit : is_committed logs t ≡ false → Stands m Pending.Idle img
  without-commit is = record {
    sound = s.sound;
    recovered = λ p q. subst (Recovered (stable img) p q) (same p q) (s.recovered p q);
    claimed = s.claimed;
    epochs = λ j lo hi. let e = s.epochs j lo hi in record { low = e.low; high = e.high };
  }
    where
      none-more : filter (is_committed logs) (undecided m (Pending.Commits t)) ≡ filter (is_committed logs) (undecided m Pending.Idle)
      none-more = filter-append (is_committed logs) (filter (λ u. is_doubt (m.part u).life) m.cuts) (t ∷ [])
          ∙ ap (λ (b : Bool). filter (is_committed logs) (filter (λ u. is_doubt (m.part u).life) m.cuts) ++ cond b (t ∷ []) []) is
          ∙ sym (filter-append (is_committed logs) (filter (λ u. is_doubt (m.part u).life) m.cuts) [])

      same : (p q : ℕ) → values m (Pending.Commits t) logs p q ≡ values m Pending.Idle logs p q
      same p q = ap (λ (ts : List TxnId). after m.start (m.done ++ map (as_done m) ts) (record { page = p; slot = q })) none-more

  pub committed-stands : Kept m → (m.part t).life ≡ Life.Running
      → Stands m Pending.Idle img ⊎ Stands (committed t m) Pending.Idle img
  committed-stands kept runs = ⊎_elim
      (λ is. inr (with-commit kept runs is))
      (λ is. inl (without-commit is))
      (cases_Bool (is_committed logs t))

  -- its instance falls, and it is in doubt
  pub cut-stands : IsFall (home t) (Pending.Commits t) m (cut_commit t m) → Stands (cut_commit t m) Pending.Idle img
  cut-stands f = record {
    sound = s.sound;
    recovered = λ p q. subst (Recovered (stable img) p q) (sym (f.values logs p q)) (s.recovered p q);
    claimed = λ u opens. let c = s.claimed u opens in
        record {
          there = λ g. c.there (f.gone u g);
          claims = subst (λ k. Each (λ (x : Rec). k (rid_of x) ≡ Claim.Excl) (stack u (log_of img (home u)))) (sym (f.claims u)) c.claims;
        };
    epochs = λ j lo hi. let e = s.epochs j lo hi in record { low = e.low; high = e.high };
  }
