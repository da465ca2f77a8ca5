-- Statuses, rows and asks behind a fall, one by one. For the falls of src/crash.rt.
use Rattle.std.proofs.Common.{◌≡◌, ◌≢◌, inl, inr, ⊎_elim, ℕ, Bool, true, false, cond, eqb, ◌&&◌, ◌||◌, List, [], ◌∷◌, refl, sym, ap, ap₂, ◌∙◌, subst, eq-eqb, ne_eqb}
use Rattle.std.specs.Prelude.{Option, None, Some, filter, not, option_map}
use Rattle.std.proofs.lemmas.Bool.{cases_eq, eqb-true}
use Rattle.sd_base.specs.declared.place.Status.{Status}
use Rattle.sd_base.specs.declared.place.Status.TheVariants as S
use Rattle.sd_model.specs.State.{freed, lost}
use Rattle.sd_model.specs.declared.act.Life.{Life}
use Rattle.sd_pagelock.specs.Asks.{asks_without, is_open_ask, open_asks}
use Rattle.sd_pagelock.specs.Places.{PageEntry}
use Rattle.sd_pagelock.specs.declared.queue.Ask.{Ask}
use Rattle.sd_chain.specs.Fates.{Fate}
use Rattle.sd_chain.specs.Records.{Each}
use Rattle.sd_txn.specs.Transactions.{Transaction}
use Rattle.sd_txn.specs.declared.state.TxnState.{TxnState}
use Rattle.sd_state.specs.Parts.{Parts, log_at, status_at, up_as}
use Rattle.sd_base.specs.Standing.{active_as}
use Rattle.sd_state.specs.Tables.{IsInDoubt, NamesLife, StandsAs}
use Rattle.sd_log.specs.Logs.{has_tail}
use Rattle.sd_moves.specs.Falling.{falls_at, falls_with, is_recovered_by, lost_row, lost_state, unsettles}

-- ---- statuses

-- the status in the complex is that in the serial table
pub status-fallen : (i j : ℕ) (s : Status) → cond {A = Status} (falls_with i j s) S.Down s ≡ cond (eqb i j) S.Down (freed i s)
status-fallen i j s = by (eqb i j) s
  where
    by : (b : Bool) (s : Status) → cond {A = Status} (cond b true (is_recovered_by i s)) S.Down s ≡ cond b S.Down (freed i s)
    by true s = refl
    by false S.Up = refl
    by false S.Down = refl
    by false (S.Recovering z) = refl
    by false S.Clean = refl
    by false S.Restarting = refl
    by false S.Closed = refl

-- i itself falls
pub falls-itself : (i : ℕ) (s : Status) → falls_with i i s ≡ true
falls-itself i s = ap (λ (b : Bool). cond b true (is_recovered_by i s)) (eq-eqb i i refl)

-- and its log isn't settled then
pub unsettles-itself : (i : ℕ) (c : Parts) → (falls_at i c i && unsettles i c i) ≡ true
unsettles-itself i c = ap₂ (λ (a b : Bool). a && (b || has_tail (log_at c i))) (falls-itself i (status_at c i)) (eq-eqb i i refl)

-- and another only from its recovery by i, where it is neither active nor up
pub falls-recovered : (i j : ℕ) (s : Status) → j ≢ i → falls_with i j s ≡ true → (active_as j s ≡ false) × (up_as s ≡ false)
falls-recovered i j s ne falls = by s (sym (ap (λ (b : Bool). cond b true (is_recovered_by i s)) (ne_eqb i j (λ e. ne (sym e)))) ∙ falls)
  where
    by : (s : Status) → is_recovered_by i s ≡ true → (active_as j s ≡ false) × (up_as s ≡ false)
    by S.Up is = absurd (cc)
    by S.Down is = absurd (cc)
    by (S.Recovering z) is = (ne_eqb z j (λ e. ne (sym (eqb-true i z is ∙ e))), refl)
    by S.Clean is = absurd (cc)
    by S.Restarting is = absurd (cc)
    by S.Closed is = absurd (cc)

-- nobody is active or up that fell, and the others are as before
pub active-fallen : (i j : ℕ) (s : Status) → active_as j (cond {A = Status} (falls_with i j s) S.Down s)
    ≡ cond (eqb j i) false (active_as j s)
active-fallen i j s = ⊎_elim
    (λ e. ap (λ (b : Bool). active_as j (cond {A = Status} b S.Down s)) (subst (λ (k : ℕ). falls_with i k s ≡ true) (sym e) (falls-itself i s))
    ∙ sym (ap (λ (b : Bool). cond b false (active_as j s)) (eq-eqb j i e)))
    (λ ne. by (falls_with i j s) refl ne ∙ sym (ap (λ (b : Bool). cond b false (active_as j s)) (ne_eqb j i ne)))
    (cases_eq j i)
  where
    by : (b : Bool) → falls_with i j s ≡ b → j ≢ i → active_as j (cond {A = Status} b S.Down s) ≡ active_as j s
    by true is ne = sym (falls-recovered i j s ne is).0
    by false is ne = refl

pub up-fallen : (i j : ℕ) (s : Status) → up_as (cond {A = Status} (falls_with i j s) S.Down s) ≡ cond (eqb j i) false (up_as s)
up-fallen i j s = ⊎_elim
    (λ e. ap (λ (b : Bool). up_as (cond {A = Status} b S.Down s)) (subst (λ (k : ℕ). falls_with i k s ≡ true) (sym e) (falls-itself i s))
    ∙ sym (ap (λ (b : Bool). cond b false (up_as s)) (eq-eqb j i e)))
    (λ ne. by (falls_with i j s) refl ne ∙ sym (ap (λ (b : Bool). cond b false (up_as s)) (ne_eqb j i ne)))
    (cases_eq j i)
  where
    by : (b : Bool) → falls_with i j s ≡ b → j ≢ i → up_as (cond {A = Status} b S.Down s) ≡ up_as s
    by true is ne = sym (falls-recovered i j s ne is).1
    by false is ne = refl

-- who is up then was, and didn't fall
pub up-then : (b : Bool) (s : Status) → cond {A = Status} b S.Down s ≡ S.Up → (b ≡ false) × (s ≡ S.Up)
up-then true s e = absurd (cc)
up-then false s e = (refl, e)

-- a log that counts as settled then did, and its instance didn't fall
pub settled-then : (b loose : Bool) → cond b true loose ≡ false → (b ≡ false) × (loose ≡ false)
settled-then true loose e = absurd (cc)
settled-then false loose e = (refl, e)

pub closed-then : (i : ℕ) (b : Bool) (s : Status) → cond b S.Down (freed i s) ≡ S.Closed → s ≡ S.Closed
closed-then i true s e = absurd (cc)
closed-then i false S.Up e = absurd (cc)
closed-then i false S.Down e = absurd (cc)
closed-then i false (S.Recovering z) e = by (eqb i z) e
  where
    by : (b : Bool) → cond {A = Status} b S.Down (S.Recovering z) ≡ S.Closed → S.Recovering z ≡ S.Closed
    by true e = absurd (cc)
    by false e = e
closed-then i false S.Clean e = absurd (cc)
closed-then i false S.Restarting e = absurd (cc)
closed-then i false S.Closed e = refl

-- ---- rows

still-doubt : (life : Life) → IsInDoubt life → IsInDoubt (lost life)
still-doubt Life.Gone d = d
still-doubt Life.Running d = d
still-doubt Life.Retained d = d
still-doubt (Life.Rolling to) d = d
still-doubt (Life.Doubt cut) d = d

-- a row that is lost stands as its transaction does
pub stands-lost : (s : TxnState) (life : Life) (f w : Fate) → StandsAs s life f w → StandsAs (lost_state s) (lost life) f w
stands-lost TxnState.Running life f w h = inl (ap lost h)
stands-lost (TxnState.Rolling to) life f w h = inl (ap lost h)
stands-lost TxnState.Retained life f w h = ⊎_elim (λ e. inl (ap lost e)) (λ d. inr (still-doubt life d.0, d.1, d.2)) h
stands-lost TxnState.Doubt life f w h = still-doubt life h
stands-lost TxnState.Committed life f w h = (still-doubt life h.0, h.1)

pub names-lost : (o : Option Transaction) (life : Life) (f w : Fate) → NamesLife o life f w → NamesLife (option_map lost_row o) (lost life) f w
names-lost None life f w n = ap lost n
names-lost (Some x) life f w n = stands-lost x.state life f w n

-- ---- asks

-- who still asks is another, who asked
pub asks-left : (P : Ask → Type 0) (e : PageEntry) (i : ℕ) (asks : List Ask) → Each P asks
    → Each (λ ask. P ask × (ask.by ≢ i) × (is_open_ask e ask ≡ true)) (open_asks e (asks_without i asks))
asks-left P e i [] all = tt
asks-left P e i (ask ∷ asks) all = by (not (eqb ask.by i)) refl (is_open_ask e ask) refl (asks-left P e i asks all.1)
  where
    other : not (eqb ask.by i) ≡ true → ask.by ≢ i
    other is same = let clash : false ≡ true = sym (ap not (eq-eqb ask.by i same)) ∙ is in absurd (cc)

    by : (b : Bool) → not (eqb ask.by i) ≡ b → (o : Bool) → is_open_ask e ask ≡ o
        → Each (λ ask. P ask × (ask.by ≢ i) × (is_open_ask e ask ≡ true)) (filter (is_open_ask e) (asks_without i asks))
        → Each (λ ask. P ask × (ask.by ≢ i) × (is_open_ask e ask ≡ true)) (filter (is_open_ask e) (cond {A = List Ask} b (ask ∷ asks_without i asks) (asks_without i asks)))
    by true is true at ih = subst (λ (b : Bool). Each (λ ask. P ask × (ask.by ≢ i) × (is_open_ask e ask ≡ true)) (cond {A = List Ask} b
        (ask ∷ filter (is_open_ask e) (asks_without i asks)) (filter (is_open_ask e) (asks_without i asks)))) (sym at) ((all.0, other is, at), ih)
    by true is false at ih = subst (λ (b : Bool). Each (λ ask. P ask × (ask.by ≢ i) × (is_open_ask e ask ≡ true)) (cond {A = List Ask} b
        (ask ∷ filter (is_open_ask e) (asks_without i asks)) (filter (is_open_ask e) (asks_without i asks)))) (sym at) ih
    by false is o at ih = ih
