-- Sums don't fall, by an event and along a run. It serves the goals of `sums` in laws.rt.
use Rattle.std.proofs.Common.{◌≡◌, ◌≢◌, refl, ap, ◌∙◌, ne_eqb, ℕ, zero, suc, ◌+◌, ◌≤◌, Bool, true, false, cond, eqb, List, [], ◌∷◌, length, sym, subst, arith}
use Rattle.std.specs.Prelude.{max, sum}
use Rattle.std.proofs.lemmas.List.Sums.{sum_by-cons}
use Rattle.sd_base.specs.declared.place.Place.{Place}
use Rattle.sd_base.specs.declared.refusal.Refusal.TheVariants as R
use Rattle.sd_model.specs.declared.event.Entry.{Entry}
use Rattle.sd_model.specs.declared.event.Event.{Event}
use Rattle.sd_model.specs.declared.event.Event.TheVariants.{Write, Add, Insert, Delete, CheckBegin, CheckEnd, Join}
use Rattle.sd_model.specs.declared.event.Reply.{Reply}
use Rattle.sd_model.specs.declared.event.Reply.TheVariants as reply
use Rattle.sd_model.specs.Fields.{inst_of}
use Rattle.sd_world.specs.Bounds.{Bounds, bounds_after, cost, counts, increased, masters_after, least_after, slots_after, with_slot, IsPageFull, IsLogFull, IsEnd, IsTooLong, TellsNoPlace, is_wait}
use Rattle.sd_world.specs.Serving.{Core, Turns}
use Rattle.sd_world.specs.Leading.{Leads, Tries, TriesBy}
use Rattle.sd_world.specs.Laws.{Grows}

with-more : (slots : List ℕ) (slot capacity : ℕ) → length slots ≤ length (with_slot slots slot capacity)
with-more [] slot capacity = omega arith
with-more (x ∷ xs) zero capacity = omega arith
with-more (x ∷ xs) (suc slot) capacity = omega (arith, with-more xs slot capacity)

with-sum : (slots : List ℕ) (slot capacity : ℕ) → sum slots ≤ sum (with_slot slots slot capacity)
with-sum [] slot capacity = omega arith
with-sum (x ∷ xs) zero capacity = omega (arith, sum_by-cons (λ (n : ℕ). n) x xs, sum_by-cons (λ (n : ℕ). n) (max x capacity) xs)
with-sum (x ∷ xs) (suc slot) capacity = omega (arith, with-sum xs slot capacity, sum_by-cons (λ (n : ℕ). n) x xs, sum_by-cons (λ (n : ℕ). n) x (with_slot xs slot capacity))

-- the list is as long, and its sum as great
abbrev IsMore : List ℕ → List ℕ → Type 0
IsMore old new = (length old ≤ length new) × (sum old ≤ sum new)

stays : (slots : List ℕ) → IsMore slots slots
stays slots = (omega arith, omega arith)

slots-more : (old : ℕ → List ℕ) (e : Event) (r : Reply) (q : ℕ) → IsMore (old q) (slots_after old e r q)
slots-more old (Insert t p v capacity) (reply.At r) q = go (eqb p q)
  where
    go : (b : Bool) → IsMore (old q) (cond {A = List ℕ} b (with_slot (old q) r.slot capacity) (old q))
    go true = (with-more (old q) r.slot capacity, with-sum (old q) r.slot capacity)
    go false = stays (old q)
slots-more old e r q = stays (old q)

-- what slots have at least changes only where a new record has a place
pub least-kept : (old : ℕ → List ℕ) (e : Event) (r : Reply) → TellsNoPlace r → (q : ℕ) → least_after old e r q ≡ old q
least-kept old (Insert t p v capacity) (reply.At r) none q = elim none [ ]
least-kept old e r none q = refl

increased-more : (i n : ℕ) (old : ℕ → ℕ) (j : ℕ) → old j ≤ increased i n old j
increased-more i n old j = go (cond (eqb i j) n 0) (old j)
  where
    go : (x y : ℕ) → y ≤ x + y
    go x y = omega arith

lsns-more : (old more : ℕ) → old ≤ old + more
lsns-more old more = omega arith

masters-more : (old : ℕ → ℕ) (e : Event) (i : ℕ) → old i ≤ masters_after old e i
masters-more old (CheckEnd j) i = increased-more j 1 old i
masters-more old e i = omega arith

pub sums-grow : (b : Bounds) (e : Event) (r : Reply) → Grows b (bounds_after b e r)
sums-grow b e r = record {
  counts = λ p. (slots-more b.slots e r p).0;
  slots = λ p. (slots-more b.slots e r p).1;
  reach = λ i. increased-more (inst_of e) (cond (counts e r) (cost e) 0) b.reach i;
  lsns = lsns-more b.lsns (cond (is_wait r) 0 4);
  masters = λ i. masters-more b.masters e i;
}

-- LSNs go on by four at most, and by none where the reply only waits
pub lsns-little : (b : Bounds) (e : Event) (r : Reply) → (bounds_after b e r).lsns ≤ b.lsns + 4
lsns-little b e r = go (is_wait r)
  where
    go : (w : Bool) → b.lsns + cond w 0 4 ≤ b.lsns + 4
    go true = omega arith
    go false = omega arith

pub waits-free : (b : Bounds) (e : Event) (r : Reply) → is_wait r ≡ true → (bounds_after b e r).lsns ≡ b.lsns
waits-free b e r waits = ap (λ (w : Bool). b.lsns + cond w 0 4) waits ∙ omega arith

pub works-four : (b : Bounds) (e : Event) (r : Reply) → is_wait r ≡ false → (bounds_after b e r).lsns ≡ b.lsns + 4
works-four b e r works = ap (λ (w : Bool). b.lsns + cond w 0 4) works

pub one_log-grows : (b : Bounds) (e : Event) (r : Reply) (i : ℕ) → inst_of e ≢ i → (bounds_after b e r).reach i ≡ b.reach i
one_log-grows b e r i ne = ap (λ (x : Bool). cond x (cond (counts e r) (cost e) 0) 0 + b.reach i) (ne_eqb (inst_of e) i ne) ∙ omega arith

costs-little : (e : Event) → cost e ≤ 14000
costs-little (CheckEnd i) = omega arith
costs-little (CheckBegin i) = omega arith
costs-little (Join i) = omega arith
costs-little (Write t r v) = omega arith
costs-little (Add t r by) = omega arith
costs-little (Insert t p v n) = omega arith
costs-little (Delete t r) = omega arith
costs-little e = omega arith

pub logs-grow_little : (b : Bounds) (e : Event) (r : Reply) (i : ℕ) → (bounds_after b e r).reach i ≤ b.reach i + 14000
logs-grow_little b e r i = go (eqb (inst_of e) i) (counts e r) (cost e) (b.reach i) (costs-little e)
  where
    go : (x y : Bool) (n old : ℕ) → n ≤ 14000 → cond x (cond y n 0) 0 + old ≤ old + 14000
    go true true n old h = omega arith
    go true false n old h = omega arith
    go false y n old h = omega arith

at_most : (a b c : ℕ) → a ≤ b → b ≤ c → a ≤ c
at_most a b c f g = omega arith

pub grows-on : (a b c : Bounds) → Grows a b → Grows b c → Grows a c
grows-on a b c f g = record {
  counts = λ p. at_most (length (a.slots p)) (length (b.slots p)) (length (c.slots p)) (f.counts p) (g.counts p);
  slots = λ p. at_most (sum (a.slots p)) (sum (b.slots p)) (sum (c.slots p)) (f.slots p) (g.slots p);
  reach = λ i. at_most (a.reach i) (b.reach i) (c.reach i) (f.reach i) (g.reach i);
  lsns = at_most a.lsns b.lsns c.lsns f.lsns g.lsns;
  masters = λ i. at_most (a.masters i) (b.masters i) (c.masters i) (f.masters i) (g.masters i);
}

grows-none : (b : Bounds) → Grows b b
grows-none b = record { counts = λ p. omega arith; slots = λ p. omega arith; reach = λ i. omega arith; lsns = omega arith; masters = λ i. omega arith }

pub run-grows : (es : List Entry) (old new : Core) → Leads old es new → Grows old.bounds new.bounds
run-grows [] old new h = subst (λ (w : Core). Grows old.bounds w.bounds) h (grows-none old.bounds)
run-grows (e ∷ es) old new h = grows-on old.bounds h.0.bounds new.bounds
    (subst (Grows old.bounds) (sym h.1.sums) (sums-grow old.bounds e.event e.reply)) (run-grows es h.0 new h.2)

tries-lsns : (ts : List (Event × Reply)) (old new : Core) → TriesBy old ts new → new.bounds.lsns ≡ old.bounds.lsns
tries-lsns [] old new h = sym (ap (λ (w : Core). w.bounds.lsns) h)
tries-lsns (t ∷ ts) old new h = tries-lsns ts h.0 new h.3 ∙ ap (λ (b : Bounds). b.lsns) h.1.sums ∙ waits-free old.bounds t.0 t.1 h.2

pub tries-free : (old new : Core) → Tries old new → new.bounds.lsns ≡ old.bounds.lsns
tries-free old new h = tries-lsns h.0 old new h.1

-- ---- what the sums allow

pub full-page : (old : Core) (e : Event) (new : Core) → Turns old e (reply.Refused R.PageFull) new → IsPageFull old.bounds e
full-page old e new h = h.within

pub full-log : (old : Core) (e : Event) (new : Core) → Turns old e (reply.Refused R.LogFull) new → IsLogFull old.bounds e
full-log old e new h = h.within

pub lsns-end : (old : Core) (e : Event) (new : Core) → Turns old e (reply.Refused R.LsnEnd) new → IsEnd old.scene.state old.bounds e
lsns-end old e new h = h.within

pub long-slot : (old : Core) (e : Event) (new : Core) → Turns old e (reply.Refused R.TooLong) new → IsTooLong old.scene.state old.bounds e
long-slot old e new h = h.within

pub shown-bounded : (old : Core) (e : Event) (place : Place) (lsn : ℕ) (new : Core) → Turns old e (reply.Shown place lsn) new → lsn ≤ old.bounds.lsns
shown-bounded old e place lsn new h = h.within
