-- What a reopening finds is what the devices tell. It serves the goals of `open_again` in turning.rt.
use Rattle.std.proofs.Common.{◌≡◌, ◌⊎◌, inl, inr, ℕ, ◌≤◌, Bool, true, false, cond, Option, None, Some, List, refl, sym, ap, ◌∙◌, subst}
use Rattle.sd_base.specs.declared.ids.Rid.{Rid}
use Rattle.sd_base.specs.declared.ids.TxnId.{TxnId}
use Rattle.sd_base.specs.declared.refusal.Refusal.{Refusal}
use Rattle.sd_base.specs.declared.refusal.Refusal.TheVariants as R
use Rattle.sd_chain.specs.Bytes.{log_of, stable}
use Rattle.sd_chain.specs.Fates.{Fate, fate}
use Rattle.sd_chain.specs.Logs.{Outcomes, all_at, base_at}
use Rattle.sd_chain.specs.Records.{home}
use Rattle.sd_fits.specs.Fits.{Fits}
use Rattle.sd_fits.specs.declared.body.Body.{Body}
use Rattle.sd_hall.specs.Found.{FindsIn, IsFound}
use Rattle.sd_model.specs.State.{Part, gone}
use Rattle.sd_model.specs.Changes.{IsLoser}
use Rattle.sd_model.specs.declared.act.Claim.{Claim}
use Rattle.sd_model.specs.declared.act.Life.{Life}
use Rattle.sd_model.specs.declared.event.Event.TheVariants.{Reopen}
use Rattle.sd_model.specs.declared.event.Reply.{Reply}
use Rattle.sd_model.specs.declared.event.Reply.TheVariants.{Did, Refused}
use Rattle.sd_moves.specs.Opening.{AreOpened, IsLeftIn, IsLeftRow, has_open, is_left, is_lost_in, life_in}
use Rattle.sd_pagelock.specs.Places.{PageEntry}
use Rattle.sd_pagelock.specs.Rows.{nowhere}
use Rattle.sd_rig.specs.Devices.{DeviceImages}
use Rattle.sd_state.specs.Complexes.{parts}
use Rattle.sd_state.specs.Parts.{Parts, log_at, txns_at}
use Rattle.sd_state.specs.Tables.{IsInDoubt, NamesLife, StandsAs, lock_of}
use Rattle.sd_state.specs.declared.complex.Complex.{Complex}
use Rattle.sd_state.proofs.ChangedLists.{lock-excl, lock-none}
use Rattle.sd_txn.specs.Transactions.{Transaction, txn_at}
use Rattle.sd_txn.specs.declared.state.TxnState.{TxnState}
use Rattle.sd_world.specs.Pages.{place_of}
use Rattle.sd_world.specs.Serving.{Core, Turns, refused}

-- who isn't left open is gone
none-left : (f : Fate) → (f ≡ Fate.Open → ⊥) → is_left f ≡ false
none-left Fate.Unknown none = refl
none-left Fate.Open none = absurd (none refl)
none-left Fate.Committed none = refl
none-left Fate.Ended none = refl

-- who is left open stays to be undone: behind a reopening nobody is in doubt
stays : (life : Life) → (life ≡ Life.Gone) ⊎ (life ≡ Life.Retained)
    → (life ≡ Life.Retained) ⊎ (IsInDoubt life × (Unit {0})) → life ≡ Life.Retained
stays life known (inl is) = is
stays life (inr is) (inr doubt) = is
stays life (inl is) (inr doubt) = absurd (subst IsInDoubt is doubt.0)

-- a transaction's life, by its row
lived : (o : Option Transaction) (t : TxnId) (seen : DeviceImages) (life : Life) (forced whole : Fate) → IsLeftIn o t (log_of seen (home t))
    → NamesLife o life forced whole → (life ≡ Life.Gone) ⊎ (life ≡ Life.Retained)
    → life ≡ cond {A = Life} (is_left (fate t (log_of seen (home t)))) Life.Retained Life.Gone
lived None t seen life forced whole left names known =
    names ∙ sym (ap (λ (b : Bool). cond {A = Life} b Life.Retained Life.Gone) (none-left (fate t (log_of seen (home t))) left))
lived (Some x) t seen life forced whole left names known =
    stays life known (so (subst (λ (s : TxnState). StandsAs s life forced whole) left.state names))
    ∙ sym (ap (λ (f : Fate). cond {A = Life} (is_left f) Life.Retained Life.Gone) left.left)
  where
    so : StandsAs TxnState.Retained life forced whole → (life ≡ Life.Retained) ⊎ (IsInDoubt life × (Unit {0}))
    so (inl is) = inl is
    so (inr doubt) = inr (doubt.0, tt)

-- a claim, by its lock
claimed : (has : Bool) (d : Claim) → lock_of d ≡ lock_of (cond {A = Claim} has Claim.Excl Claim.Free)
    → d ≡ cond {A = Claim} has Claim.Excl Claim.Free
claimed true d is = lock-excl d is
claimed false d is = lock-none d is

placed : (lost : Bool) → nowhere lost ≡ place_of lost
placed true = refl
placed false = refl

-- behind a reopening each is gone, or a loser
known-lives : (w w' : Core) → Turns w Reopen Did w' → (t : TxnId)
    → ((w'.scene.state.part t).life ≡ Life.Gone) ⊎ ((w'.scene.state.part t).life ≡ Life.Retained)
known-lives w w' turns t = by (turns.plays.step.1.2.part t)
  where
    by : {old : Part} → (w'.scene.state.part t ≡ gone) ⊎ IsLoser old (w'.scene.state.part t)
        → ((w'.scene.state.part t).life ≡ Life.Gone) ⊎ ((w'.scene.state.part t).life ≡ Life.Retained)
    by (inl is) = inl (ap (λ (p : Part). p.life) is)
    by (inr loser) = inr loser.life

pub opened-found : (seen : DeviceImages) (leaves : Outcomes) (frames : ℕ) (c : Parts) → AreOpened frames seen c → (w w' : Core)
    → Fits seen leaves c w' → Turns w Reopen Did w' → IsFound seen w'
opened-found seen leaves frames c opened w w' f turns = record {
  lives = λ t low high. lived (txn_at (txns_at c (home t)) t) t seen (w'.scene.state.part t).life
      (fate t (base_at (log_at c (home t)))) (fate t (all_at (log_at c (home t))))
      ((opened.insts (home t) low high).rows t) ((f.good.instances (home t) low high).names t refl) (known-lives w w' turns t);
  claims = λ t r. claimed (has_open (stable seen) t r) ((w'.scene.state.part t).claims r) (sym (f.good.locks t r) ∙ opened.locks t r);
  statuses = λ i low high. sym (f.good.instances i low high).status ∙ (opened.insts i low high).status;
  pages = λ p. f.pages.entry p ∙ (opened.pages p).entry ∙ placed (is_lost_in (stable seen) p);
}

-- a complex that opened again is found so
pub finds : {G : Type 0} (seen : G → DeviceImages) (leaves : G → ℕ → List ℕ → Type 0) (frames : ℕ) (c : Complex G)
    → AreOpened frames (seen c.rig) (parts c) → FindsIn seen leaves (Some (Body.Open c))
finds {G} seen leaves frames c opened = (
  λ p. (opened.pages p).first,
  λ w w' rig is fits turns. subst (λ (d : G). IsFound (seen d) w') is
      (opened-found (seen c.rig) (leaves c.rig) frames (parts c) opened w w' fits turns),
)

-- ---- which answers tell that nothing opened

pub not-did : (n : Refusal) (r : Reply) → r ≡ Refused n → ◌≡◌ {A = Option Reply} (Some r) (Some Did) → ⊥
not-did n r is did = absurd (cc)

pub none-did : (n : Refusal) → refused n ≡ Some Did → ⊥
none-did R.Memory did = absurd (cc)
none-did n did = absurd (cc)
