-- Each event keeps pages well formed, and a fall leaves nothing to the fallen. It serves the goals of `forms` and `falls` in laws.rt.
use Rattle.std.proofs.Common.{◌≡◌, ◌≢◌, ℕ, Bool, true, false, cond, eqb, List, [], ◌∷◌, Option, None, Some, refl, sym, ap, ◌∙◌, subst, eq-eqb, ne_eqb, eqb-true}
use Rattle.std.specs.Prelude.{filter, find, not, ◌||◌}
use Rattle.std.specs.Option.{option_map}
use Rattle.sd_base.specs.declared.place.Mode.{Mode}
use Rattle.sd_base.specs.declared.place.Mode.TheVariants as modes
use Rattle.sd_pagelock.specs.declared.queue.Ask.{Ask}
use Rattle.sd_pagelock.specs.Places.{Formed, PageEntry, holds, holds_as, is_free, is_lost, uses}
use Rattle.sd_pagelock.specs.Rows.{given_shared, given_excl, may_raise, may_yield, dropped, fallen, written, locked, raised}
use Rattle.sd_pagelock.specs.Asks.{asks_by, asks_without, is_open_ask, oldest, open_asks, queued, stronger}
use Rattle.sd_pagelock.specs.Moves.{IsMove}
use Rattle.sd_pagelock.proofs.Drops.{formed-dropped}
use Rattle.sd_pagelock.proofs.Falls.{holds-fallen, uses-fallen}
use Rattle.sd_pagelock.proofs.Forms.{formed-fallen, formed-move}
use Rattle.sd_pagelock.proofs.Queues.{one_each-filter, one_each-queued}
use Rattle.sd_world.specs.Pages.{Pages, AreFormed, AreOpen, IsWellAsked, asked, emptied, fell, given, had, is_had, place_of, page_placed}

-- ---- asks

none_left : {A : Type 0} → false ≡ true → A
none_left e = absurd (cc)

open_only : (place : PageEntry) (asks : List Ask) → AreOpen place (open_asks place asks)
open_only place [] = tt
open_only place (a ∷ tail) = go (is_open_ask place a) refl (open_only place tail)
  where
    go : (b : Bool) → is_open_ask place a ≡ b → AreOpen place (open_asks place tail) → AreOpen place (cond b (a ∷ open_asks place tail) (open_asks place tail))
    go true is h = (is, h)
    go false is h = h

stays_open : (place : PageEntry) (by : ℕ) (old new : Mode) → is_open_ask place (record { by = by; mode = old }) ≡ true → is_open_ask place (record { by = by; mode = new }) ≡ true
    → is_open_ask place (record { by = by; mode = stronger old new }) ≡ true
stays_open place by modes.Shared new h k = k
stays_open place by modes.Excl new h k = h

open-queued : (place : PageEntry) (i : ℕ) (mode : Mode) (asks : List Ask) → is_open_ask place (record { by = i; mode = mode }) ≡ true → AreOpen place asks → AreOpen place (queued i mode asks)
open-queued place i mode [] new h = (new, tt)
open-queued place i mode (a ∷ tail) new h = go (eqb a.by i) refl (open-queued place i mode tail new h.1)
  where
    go : (b : Bool) → eqb a.by i ≡ b → AreOpen place (queued i mode tail) → AreOpen place (cond {A = List Ask} b ((record { by = a.by; mode = stronger a.mode mode }) ∷ tail) (a ∷ queued i mode tail))
    go true is ih = (stays_open place a.by a.mode mode h.0 (subst (λ (k : ℕ). is_open_ask place (record { by = k; mode = mode }) ≡ true) (sym (eqb-true a.by i is)) new), h.1)
    go false is ih = (h.0, ih)

pub not_had : (place : PageEntry) (ask : Ask) → is_open_ask place ask ≡ true → holds_as ask.mode place ask.by ≡ false
not_had place ask h = go (is_lost place) (holds_as ask.mode place ask.by) h
  where
    go : (a b : Bool) → not (a || b) ≡ true → b ≡ false
    go true b h = none_left h
    go false true h = none_left h
    go false false h = refl

abbrev pub asker_of : Option (ℕ × Mode) → ℕ × Mode
asker_of None = (0, modes.Shared)
asker_of (Some asker) = asker

-- the oldest asker of another hasn't the page tail it asks
asker_lacks : (place : PageEntry) (i : ℕ) (asks : List Ask) (to : ℕ) (mode : Mode) → AreOpen place asks → oldest i asks ≡ Some (to, mode) → holds_as mode place to ≡ false
asker_lacks place i [] to mode h e = absurd (cc)
asker_lacks place i (a ∷ tail) to mode h e = go (not (eqb a.by i)) (λ found. asker_lacks place i tail to mode h.1 found) e
  where
    go : (b : Bool) → (oldest i tail ≡ Some (to, mode) → holds_as mode place to ≡ false) → option_map {U = ℕ × Mode} (λ (ask : Ask). (ask.by, ask.mode)) (cond {A = Option Ask} b (Some a) (find (λ (ask : Ask). not (eqb ask.by i)) tail)) ≡ Some (to, mode) → holds_as mode place to ≡ false
    go true ih e =
        let by : a.by ≡ to = ap (λ (x : Option (ℕ × Mode)). (asker_of x).0) e in
        let so : a.mode ≡ mode = ap (λ (x : Option (ℕ × Mode)). (asker_of x).1) e in
        subst (λ (k : ℕ). holds_as mode place k ≡ false) by (subst (λ (x : Mode). holds_as x place a.by ≡ false) so (not_had place a h.0))
    go false ih e = ih e

-- ---- places

had-formed : (i : ℕ) (mode : Mode) (e : PageEntry) → is_had i mode e ≡ true → Formed e → Formed (had i mode e)
had-formed i mode e h f = go (holds_as mode e i) (is_free e) refl h
  where
    go : (a b : Bool) → is_free e ≡ b → (a || (b || may_raise i e)) ≡ true → Formed (cond {A = PageEntry} a e (cond {A = PageEntry} b (locked i mode) (raised i e)))
    go true b free h = f
    go false true free h = formed-move e (locked i mode) (IsMove.lock i mode free refl) f
    go false false free h = formed-move e (raised i e) (IsMove.raise i h refl) f

shared-formed : (i : ℕ) (e : PageEntry) → holds e i ≡ false → Formed e → Formed (given_shared i e)
shared-formed i PageEntry.Free h f = tt
shared-formed i PageEntry.Lost h f = tt
shared-formed i (PageEntry.Excl holder dirty) h f = formed-move (PageEntry.Excl holder dirty) (given_shared i (PageEntry.Excl holder dirty)) (IsMove.share i (ap not h) refl) f
shared-formed i (PageEntry.Shared set writer) h f = formed-move (PageEntry.Shared set writer) (given_shared i (PageEntry.Shared set writer)) (IsMove.share i (ap not h) refl) f
shared-formed i (PageEntry.Moving to mode rest dirty) h f = f

pub given-formed : (j to : ℕ) (mode : Mode) (e : PageEntry) → holds_as mode e to ≡ false → Formed e → Formed (given j (to, mode) e)
given-formed j to modes.Shared e h f = shared-formed to e h f
given-formed j to modes.Excl e h f = go (may_yield to e)
  where
    go : (b : Bool) → Formed (cond {A = PageEntry} b (given_excl to e) (dropped j to e))
    go true = (λ x. refl, refl)
    go false = formed-dropped j to e f

written-formed : (e : PageEntry) → Formed e → Formed (written e)
written-formed PageEntry.Free f = tt
written-formed PageEntry.Lost f = tt
written-formed (PageEntry.Excl holder dirty) f = tt
written-formed (PageEntry.Shared set None) f = f
written-formed (PageEntry.Shared set (Some w)) f = formed-move (PageEntry.Shared set (Some w)) (PageEntry.Shared set None) (IsMove.write refl refl) f
written-formed (PageEntry.Moving to mode rest dirty) f = f

place-formed : (b : Bool) → Formed (place_of b)
place-formed true = tt
place-formed false = tt

-- ---- pages

pub placed-formed : (p : ℕ) (to : PageEntry) (w : Pages) → AreFormed w → Formed to → AreFormed (page_placed p to w)
placed-formed p to w f new q = go (eqb p q) refl
  where
    go : (b : Bool) → eqb p q ≡ b → IsWellAsked (cond b to (w.entry q)) (cond b (open_asks to (w.asks p)) (w.asks q))
    go true is = record { formed = new; once = one_each-filter (is_open_ask to) (w.asks p) (f p).once; open_for = open_only to (w.asks p) }
    go false is = f q

pub asked-formed : (p i : ℕ) (mode : Mode) (w : Pages) → AreFormed w → is_lost (w.entry p) ≡ false → holds_as mode (w.entry p) i ≡ false → AreFormed (asked p i mode w)
asked-formed p i mode w f found lacks q = go (eqb p q) refl
  where
    open_now : is_open_ask (w.entry p) (record { by = i; mode = mode }) ≡ true
    open_now = ap (λ (b : Bool). not (b || holds_as mode (w.entry p) i)) found ∙ ap not lacks

    go : (b : Bool) → eqb p q ≡ b → IsWellAsked (w.entry q) (cond b (queued i mode (w.asks p)) (w.asks q))
    go true is = subst (λ (k : ℕ). IsWellAsked (w.entry k) (queued i mode (w.asks p))) (eqb-true p q is)
        (record { formed = (f p).formed; once = one_each-queued i mode (w.asks p) (f p).once; open_for = open-queued (w.entry p) i mode (w.asks p) open_now (f p).open_for })
    go false is = f q

pub fell-formed : (i : ℕ) (number : ℕ → ℕ) (w : Pages) → AreFormed w → AreFormed (fell i number w)
fell-formed i number w f p = record {
  formed = formed-fallen i (w.entry p) (f p).formed;
  once = one_each-filter (is_open_ask (fallen i (w.entry p))) (asks_without i (w.asks p)) (one_each-filter (λ (ask : Ask). not (eqb ask.by i)) (w.asks p) (f p).once);
  open_for = open_only (fallen i (w.entry p)) (asks_without i (w.asks p));
}

pub emptied-formed : (lost : ℕ → Bool) (number : ℕ → ℕ) (w : Pages) → AreFormed (emptied lost number w)
emptied-formed lost number w p = record { formed = place-formed (lost p); once = tt; open_for = tt }

pub oldest-lacks : (w : Pages) (p i to : ℕ) (mode : Mode) → AreFormed w → oldest i (w.asks p) ≡ Some (to, mode) → holds_as mode (w.entry p) to ≡ false
oldest-lacks w p i to mode f e = asker_lacks (w.entry p) i (w.asks p) to mode (f p).open_for e

pub had-placed : (i p : ℕ) (mode : Mode) (w : Pages) → is_had i mode (w.entry p) ≡ true → AreFormed w → AreFormed (cond {A = Pages} (holds_as mode (w.entry p) i) w (page_placed p (had i mode (w.entry p)) w))
had-placed i p mode w h f = go (holds_as mode (w.entry p) i)
  where
    go : (b : Bool) → AreFormed (cond {A = Pages} b w (page_placed p (had i mode (w.entry p)) w))
    go true = f
    go false = placed-formed p (had i mode (w.entry p)) w f (had-formed i mode (w.entry p) h (f p).formed)

pub written-placed : (p : ℕ) (w : Pages) → AreFormed w → AreFormed (page_placed p (written (w.entry p)) w)
written-placed p w f = placed-formed p (written (w.entry p)) w f (written-formed (w.entry p) (f p).formed)

-- ---- one that fell

none_asks : (i : ℕ) (test : Ask → Bool) (asks : List Ask) → asks_by i (filter test (asks_without i asks)) ≡ false
none_asks i test [] = refl
none_asks i test (a ∷ tail) = go (eqb a.by i) refl (none_asks i test tail)
  where
    more : (b : Bool) → eqb a.by i ≡ false → asks_by i (filter test (asks_without i tail)) ≡ false
        → asks_by i (cond {A = List Ask} b (a ∷ filter test (asks_without i tail)) (filter test (asks_without i tail))) ≡ false
    more true is ih = ap (λ (b : Bool). cond b true (asks_by i (filter test (asks_without i tail)))) is ∙ ih
    more false is ih = ih

    go : (b : Bool) → eqb a.by i ≡ b → asks_by i (filter test (asks_without i tail)) ≡ false → asks_by i (filter test (cond {A = List Ask} (not b) (a ∷ asks_without i tail) (asks_without i tail))) ≡ false
    go true is ih = ih
    go false is ih = more (test a) is ih

pub fallen-none : (i : ℕ) (number : ℕ → ℕ) (w : Pages) (p : ℕ) → (uses ((fell i number w).entry p) i ≡ false) × (asks_by i ((fell i number w).asks p) ≡ false)
fallen-none i number w p = (uses-fallen i i (w.entry p) ∙ ap (λ (b : Bool). cond b false (uses (w.entry p) i)) (eq-eqb i i refl), none_asks i (is_open_ask (fallen i (w.entry p))) (w.asks p))

pub others-hold_on : (i k : ℕ) (number : ℕ → ℕ) (w : Pages) (p : ℕ) → i ≢ k → holds ((fell i number w).entry p) k ≡ holds (w.entry p) k
others-hold_on i k number w p ne = holds-fallen i k (w.entry p) ∙ ap (λ (b : Bool). cond b false (holds (w.entry p) k)) (ne_eqb i k ne)
