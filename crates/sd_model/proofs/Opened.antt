-- A complex as it is opened has its transactions listed, where they may stand, without marks. It serves the goals of
-- `openings` in laws.rt.
use Rattle.std.proofs.Common.{◌≡◌, ◌≢◌, ◌⊎◌, inl, inr, ⊎_elim, ℕ, ◌≤◌, List, [], ◌∷◌, refl, sym, ◌∙◌, subst, arith, length}
use Rattle.std.proofs.lemmas.Bool.{cases_eq}
use Rattle.sd_base.specs.declared.ids.TxnId.{TxnId}
use Rattle.sd_base.specs.declared.place.Status.{Status}
use Rattle.sd_base.specs.declared.place.Status.TheVariants.{Up, Down, Clean, Closed}
use Rattle.sd_model.specs.declared.act.Life.{Life}
use Rattle.sd_model.specs.declared.act.Life.TheVariants.{Gone, Retained}
use Rattle.sd_model.specs.Acts.{live}
use Rattle.sd_model.specs.State.{State, fresh}
use Rattle.sd_model.specs.Opened.{IsOpened}
use Rattle.sd_model.specs.Lives.{SuitsStatus, IsFallen, IsDoubt, LivesAreSound}
use Rattle.sd_model.specs.Listed.{IsAmong, NoneTwice, Below, EachBelow, Listed}
use Rattle.sd_model.specs.Marks.{AtMost, Goes, Marked}
use Rattle.sd_model.proofs.Serial.{fresh-opening}

pub fresh-opened : IsOpened fresh
fresh-opened = record {
  opening = fresh-opening;
  losers = λ t e. gone_not_lost e;
  once = tt;
  epochs = λ t a. absurd a;
  cuts = refl;
  marks = λ t. refl;
  down = λ i h. absurd (gone_not_lost h.2);
  others = (Clean, inl refl, λ i _. refl);
}
  where
    gone_not_lost : {A : Type 0} → Gone ≡ Retained → A
    gone_not_lost e = absurd (subst (λ (l : Life). SuitsStatus l Up) e tt)

abbrev IsEither : Status → Type 0
IsEither s = (s ≡ Clean) ⊎ (s ≡ Down)

-- each instance is clean or down: what no such status has, none has
pub rests : (m : State) (P : Status → Type 0) → (P Clean → ⊥) → (P Down → ⊥) → IsOpened m → (i : ℕ) → P (m.inst i).status → ⊥
rests m P not_clean not_down o i p =
    let other = o.others.2 i (λ has_one. not_down (subst P (o.down i has_one) p)) in
    ⊎_elim (λ e. not_clean (subst P (other ∙ e) p)) (λ e. not_down (subst P (other ∙ e) p)) o.others.1

no_doubt : (l : Life) → (l ≡ Gone) ⊎ (l ≡ Retained) → IsDoubt l → ⊥
no_doubt l (inl e) d = subst IsDoubt e d
no_doubt l (inr e) d = subst IsDoubt e d

stands : (l : Life) (s : Status) → (l ≡ Gone) ⊎ (l ≡ Retained) → (l ≡ Retained → s ≡ Down) → SuitsStatus l s
stands l s (inl e) down = subst (λ (x : Life). SuitsStatus x s) (sym e) tt
stands l s (inr e) down = subst (λ (x : Life). SuitsStatus x s) (sym e) (subst IsFallen (sym (down e)) tt)

pub opened-placed : (m : State) → IsOpened m → LivesAreSound m
opened-placed m o = record {
  stands = λ t. stands (m.part t).life (m.inst t.inst).status (o.opening.losers t) (λ e. o.down t.inst (t, refl, e));
  one = λ t u d. absurd (no_doubt (m.part t).life (o.opening.losers t) d);
  shut = λ i e. absurd (rests m (λ s. s ≡ Closed) clean_open down_open o i e);
}
  where
    clean_open : Clean ≡ Closed → ⊥
    clean_open e = cc

    down_open : Down ≡ Closed → ⊥
    down_open e = cc

below-opened : (m : State) → IsOpened m → (t : TxnId) → t.epoch ≤ (m.inst t.inst).epoch → Below m.inst t
below-opened m o t le = ⊎_elim
    (λ (e : t.epoch ≡ (m.inst t.inst).epoch). inr (e, λ up. absurd (rests m (λ s. s ≡ Up) clean_rests down_rests o t.inst up)))
    (λ ne. inl (omega (arith, le, ne)))
    (cases_eq t.epoch (m.inst t.inst).epoch)
  where
    clean_rests : Clean ≡ Up → ⊥
    clean_rests e = cc

    down_rests : Down ≡ Up → ⊥
    down_rests e = cc

each-opened : (m : State) → IsOpened m → (ts : List TxnId) → ((t : TxnId) → IsAmong t ts → t.epoch ≤ (m.inst t.inst).epoch) → EachBelow m.inst ts
each-opened m o [] h = tt
each-opened m o (t ∷ ts) h = (below-opened m o t (h t (inl refl)), each-opened m o ts (λ u a. h u (inr a)))

is_loser : (l : Life) → (l ≡ Gone) ⊎ (l ≡ Retained) → l ≢ Gone → l ≡ Retained
is_loser l (inl e) ne = absurd (ne e)
is_loser l (inr e) ne = e

pub opened-listed : (m : State) → IsOpened m → Listed m
opened-listed m o = record {
  bounds = each-opened m o m.begun o.epochs;
  there = λ t ne. o.losers t (is_loser (m.part t).life (o.opening.losers t) ne);
  once = o.once;
  doubts = λ t d. absurd (no_doubt (m.part t).life (o.opening.losers t) d);
  cut_once = subst NoneTwice (sym o.cuts) tt;
  cut_begun = λ t a. absurd (subst (IsAmong t) o.cuts a);
  cut_rests = λ t a. absurd (subst (IsAmong t) o.cuts a);
}

goes : (n : ℕ) (l : Life) → (l ≡ Gone) ⊎ (l ≡ Retained) → Goes n l
goes n l (inl e) = subst (Goes n) (sym e) tt
goes n l (inr e) = subst (Goes n) (sym e) tt

pub opened-marked : (m : State) → IsOpened m → Marked m
opened-marked m o = record {
  sized = λ t. record {
    marks = subst (AtMost (length (live (m.part t).acts))) (sym (o.marks t)) tt;
    target = goes (length (live (m.part t).acts)) (m.part t).life (o.opening.losers t);
  };
}
