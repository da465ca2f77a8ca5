-- A transaction that runs takes a lock, or finds what a record has: for `grant` of working.rt and the law of reads.
use Rattle.std.proofs.Common.{◌≡◌, ◌≢◌, inl, ⊎_elim, ℕ, ◌≤◌, Bool, false, cond, List, [], ◌∷◌, ◌++◌, ◌&&◌, length, append-nil, refl, sym, ap, ◌∙◌, subst, arith}
use Rattle.std.specs.Prelude.{Err, Ok, OnOk, Option, None, Result, Some, option_map}
use Rattle.sd_base.specs.declared.ids.TxnId.{TxnId}
use Rattle.sd_base.specs.declared.ids.Rid.{Rid}
use Rattle.sd_base.specs.declared.place.Status.TheVariants as S
use Rattle.sd_base.specs.declared.place.Mode.{Mode}
use Rattle.sd_base.specs.declared.place.Mode.TheVariants as modes
use Rattle.sd_base.specs.Ids.{same_rid, same_txn}
use Rattle.sd_base.specs.Waits as waits
use Rattle.sd_reclock.specs.Answers.{IsFree}
use Rattle.sd_base.proofs.SameIds.{cases_rid, each_txn, eq-same, eq-same_rid, ne-same, ne-same_rid}
use Rattle.sd_logrec.specs.View.{Rec}
use Rattle.sd_model.specs.Acts.{live}
use Rattle.sd_model.specs.Claims.{Clash, Holds, raised_claim, with_claim}
use Rattle.sd_model.specs.Kept.{Kept}
use Rattle.sd_model.specs.Listed.{IsAtWork}
use Rattle.sd_model.specs.Marks.{Sized}
use Rattle.sd_model.specs.Lives.{IsDoubt}
use Rattle.sd_model.specs.State.{Part, State, put_part, took, took_part}
use Rattle.sd_model.specs.declared.act.Act.{Act}
use Rattle.sd_model.specs.declared.act.Claim.{Claim}
use Rattle.sd_model.specs.declared.act.Life.{Life}
use Rattle.sd_model.specs.Waits.{claim_of}
use Rattle.sd_model.proofs.Acts.{live_from-append}
use Rattle.sd_model.proofs.Changes.{took-kept}
use Rattle.sd_model.proofs.Claims.{claim-here, each_claim}
use Rattle.sd_model.proofs.Marks.{put-marked, sized-more}
use Rattle.sd_model.proofs.Placed.{put-placed}
use Rattle.sd_model.proofs.Views.{part-elsewhere, part-here}
use Rattle.sd_reclock.specs.Locks as locks
use Rattle.sd_reclock.specs.Locks.{LockTable, held, stands, wait_for}
use Rattle.sd_rig.specs.Devices as rig
use Rattle.sd_txn.specs.Transactions.{Transaction, state_at, txn_at}
use Rattle.sd_txn.specs.declared.state.TxnState.{TxnState}
use Rattle.sd_chain.specs.Fates.{Fate, fate}
use Rattle.sd_chain.specs.Records.{Each, home, stack}
use Rattle.sd_chain.proofs.Lists.{Each-weaker}
use Rattle.sd_chain.specs.Logs.{Outcomes, all_at, base_at, kept_logs, tail_at, tails_of}
use Rattle.sd_state.specs.Good.{Good, Half}
use Rattle.sd_state.specs.Images.{leaves_by, log_by}
use Rattle.sd_state.specs.Parts.{Parts, log_at, status_at, txns_at}
use Rattle.sd_state.specs.Tables.{GoesOn, NamedOnce, NamesLife, RowIsLive, StandsAs, goes_on_as, lock_of, tells_log}
use Rattle.sd_state.specs.Values.{Pending, is_doubt, rid_of}
use Rattle.sd_state.specs.Working.{ReadIsGood, with_locks}
use Rattle.sd_state.proofs.Recovers.{up-there}
use Rattle.sd_state.proofs.WorkingGood.{ItsWork, Lasts, OthersWork, working-good, working-settled}
use Rattle.sd_state.proofs.WorkingValues.{values-other}

-- what a run keeps of a good complex's state
pub lasts-there : (seen : rig.DeviceImages) (leaves : Outcomes) (pend : Pending) (c : Parts) (m : State) → Good seen leaves pend c m → Lasts m
lasts-there seen leaves pend c m g =
    record { kept = g.kept; placed = g.placed; listed = g.listed; marked = g.marked; recoverers = g.recoverers }

-- the part of one is another, with the same life
pub put-lasts : (m : State) (t : TxnId) (q : Part) → q.life ≡ (m.part t).life → Kept (put_part t q m) → Sized q → Lasts m → Lasts (put_part t q m)
put-lasts m t q same kept sized l = record {
  kept = kept;
  placed = put-placed m t q (inl same) l.placed;
  listed = record {
    bounds = l.listed.bounds;
    there = λ u ne. l.listed.there u (λ e. ne (lives u ∙ e));
    once = l.listed.once;
    doubts = λ u doubt. l.listed.doubts u (subst IsDoubt (lives u) doubt);
    cut_once = l.listed.cut_once;
    cut_begun = l.listed.cut_begun;
    cut_rests = λ u among works. l.listed.cut_rests u among (subst IsAtWork (lives u) works);
  };
  marked = put-marked m t q sized l.marked;
  recoverers = record { each = l.recoverers.each };
}
  where
    lives : (u : TxnId) → ((put_part t q m).part u).life ≡ (m.part u).life
    lives = each_txn t (λ u (p : Part). p.life ≡ (m.part u).life) q m.part same (λ u ne. refl)

-- an exclusive claim stays one
excl-stays : (mode : Claim) → raised_claim mode Claim.Excl ≡ Claim.Excl
excl-stays Claim.Free = refl
excl-stays Claim.Shared = refl
excl-stays Claim.Excl = refl

-- one that runs, and whose Commit isn't under way, may have further records
pub running-goes : (t : TxnId) (p : Part) → p.life ≡ Life.Running → GoesOn Pending.Idle t p
running-goes t p runs = subst (λ (life : Life). goes_on_as life (Pending.Idle ≡ Pending.Commits t → ⊥) (live p.acts ≢ [])) (sym runs)
    (λ e. let f = e in absurd (cc))

-- Who takes what: t runs on an instance that is up; the locks are these then.
pub record Takes (t : TxnId) (r : Rid) (mode : Claim) (acts : List Act) (locks : LockTable) (c : Parts) (m : State) : Type 0 where
  pub low : 1 ≤ home t
  pub high : home t ≤ 8
  pub idle : c.due ≡ None
  pub up : status_at c (home t) ≡ S.Up
  pub runs : (m.part t).life ≡ Life.Running
  pub live : live ((m.part t).acts ++ acts) ≡ live (m.part t).acts
  pub kept : Kept (took t r mode acts m)
  pub others : (u : TxnId) → u ≢ t → (q : Rid) → held locks u q ≡ held c.locks u q
  pub own : (q : Rid) → held locks t q ≡ lock_of (with_claim r mode (m.part t).claims q)

module _ (t : TxnId) (r : Rid) (mode : Claim) (acts : List Act) (locks : LockTable) (seen : rig.DeviceImages) (leaves : Outcomes) (c : Parts)
    (m : State) (g : Good seen leaves Pending.Idle c m) (w : Takes t r mode acts locks c m) where
  abbrev i : ℕ
  i = home t

  abbrev m' : State
  m' = took t r mode acts m

  abbrev part : Part
  part = took_part r mode acts (m.part t)

  abbrev all : List Rec
  all = all_at (log_at c i)

  h : Half seen (leaves_by c (λ j. false) leaves) (log_by c (λ j. false)) Pending.Idle c m
  h = g.half (λ j. false)

  here : m'.part t ≡ part
  here = part-here m t part

  part-else : (u : TxnId) → u ≢ t → m'.part u ≡ m.part u
  part-else u ne = part-elsewhere m t u part (λ e. ne (sym e))

  claims-stay : (xs : List Rec) → Each (λ x. (m.part t).claims (rid_of x) ≡ Claim.Excl) xs
      → Each (λ x. (m'.part t).claims (rid_of x) ≡ Claim.Excl) xs
  claims-stay xs each = subst (λ (p : Part). Each (λ x. p.claims (rid_of x) ≡ Claim.Excl) xs) (sym here)
      (Each-weaker (λ x. (m.part t).claims (rid_of x) ≡ Claim.Excl) (λ x. part.claims (rid_of x) ≡ Claim.Excl)
      (λ x. each_claim (λ q (claim : Claim). (m.part t).claims q ≡ Claim.Excl → claim ≡ Claim.Excl) r mode (m.part t).claims
      (λ e. ap (raised_claim mode) e ∙ excl-stays mode) (λ q e. e) (rid_of x)) xs each)

  its-own : ItsWork t c.txns locks Pending.Idle c m m'
  its-own = record {
    values = λ moved keeps p s. values-other t m m' (kept_logs (tails_of (log_by c moved)) keeps) refl part-else
        (ap is_doubt w.runs) (ap (λ (q : Part). is_doubt q.life) here ∙ ap is_doubt w.runs) refl refl p s;
    claimed = λ k opens. let old = h.claimed (λ j. k) t opens in record {
      there = subst (λ (q : Part). q.life ≢ Life.Gone) (sym here) old.there;
      claims = claims-stay (stack t (base_at (log_at c i) ++ cond k (tail_at (log_at c i)) [])) old.claims;
    };
    open_held = λ opens. claims-stay (stack t all) (h.held t opens);
    names = subst (λ (q : Part). NamesLife (txn_at (txns_at c i) t) q.life (fate t (base_at (log_at c i))) (fate t all)) (sym here)
        ((g.instances i w.low w.high).names t refl);
    logged = (g.told i w.low w.high (ap tells_log w.up) (working-settled seen leaves Pending.Idle c m i g w.idle w.low w.up)).rows t refl;
    live = subst (λ (q : Part). RowIsLive (txn_at (txns_at c i) t) t q all) (sym here)
        (row-stays (txn_at (txns_at c i) t) (g.at_work i w.low w.high w.up t refl (λ e. let f = e in absurd (cc))));
    going = λ _. g.going t w.low w.high (running-goes t (m.part t) w.runs);
    named = subst (λ (q : Part). NamedOnce q.marks) (sym here) (g.named t);
    number = λ there. g.numbered t (λ e. let f = sym w.runs ∙ e in absurd (cc));
    gone = λ it. let e = sym w.runs ∙ sym (ap (λ (p : Part). p.life) here) ∙ it in absurd (cc);
    its_locks = λ q. w.own q ∙ ap (λ (p : Part). lock_of (p.claims q)) (sym here);
  }
    where
      row-stays : (o : Option Transaction) → RowIsLive o t (m.part t) all → RowIsLive o t part all
      row-stays None old = tt
      row-stays (Some x) old = record { puts = w.live ∙ old.puts; marks = old.marks }

  sized : Sized part
  sized = let s = sized-more (m.part t) ((m.part t).acts ++ acts) (let e = ap length w.live in omega (arith, e)) (g.marked.sized t) in
      record { marks = s.marks; target = s.target }

  all-others : OthersWork t c.txns locks Pending.Idle c m m'
  all-others = record {
    low = w.low;
    high = w.high;
    idle = w.idle;
    up = w.up;
    count = g.shape.txns;
    own = g.shape.own_txns i w.low w.high;
    tables = λ j ne. refl;
    table = (g.instances i w.low w.high).table;
    rows = λ u ne. refl;
    owes = refl;
    reserves = refl;
    others_held = w.others;
    parts = part-else;
    begins = (m.inst i).begins;
    more = omega arith;
    counts = (g.instances i w.low w.high).begins w.up;
    inst = refl;
    insts = λ j ne. refl;
    under = λ u ne e. let f = e in absurd (cc);
    starts = λ j. refl;
    lasts = put-lasts m t part refl w.kept sized (lasts-there seen leaves Pending.Idle c m g);
  }

  pub takes-good : Good seen leaves Pending.Idle (with_locks locks c) m'
  takes-good = working-good t c.txns locks seen leaves Pending.Idle c m m' g all-others its-own

-- a lock that is raised is the claim that is raised
raised-lock : (mode : Mode) (claim : Claim) → Some (locks.raised (lock_of claim) mode) ≡ lock_of (raised_claim (claim_of mode) claim)
raised-lock modes.Shared Claim.Free = refl
raised-lock modes.Shared Claim.Shared = refl
raised-lock modes.Shared Claim.Excl = refl
raised-lock modes.Excl Claim.Free = refl
raised-lock modes.Excl Claim.Shared = refl
raised-lock modes.Excl Claim.Excl = refl

-- claims that conflict are locks that conflict
clash-lock : (mode : Mode) (claim : Claim) → Clash (claim_of mode) claim → (n : Mode) × (lock_of claim ≡ Some n) × waits.Clash mode n
clash-lock modes.Shared Claim.Free clash = absurd clash
clash-lock modes.Shared Claim.Shared clash = absurd clash
clash-lock modes.Shared Claim.Excl clash = (modes.Excl, refl, tt)
clash-lock modes.Excl Claim.Free clash = absurd clash
clash-lock modes.Excl Claim.Shared clash = (modes.Shared, refl, tt)
clash-lock modes.Excl Claim.Excl clash = (modes.Excl, refl, tt)

-- where nobody stands in the way, nobody's claim conflicts
pub free-claims : (seen : rig.DeviceImages) (leaves : Outcomes) (pend : Pending) (c : Parts) (m : State) (t : TxnId) (r : Rid) (mode : Mode)
    → Good seen leaves pend c m → IsFree (stands c.locks) t (wait_for r mode) → (u : TxnId) → t ≢ u
    → Clash (claim_of mode) ((m.part u).claims r) → ⊥
free-claims seen leaves pend c m t r mode g free u ne clash =
    let lock = clash-lock mode ((m.part u).claims r) clash in
    free u (record { other = ne; mode = lock.0; holds = g.locks u r ∙ lock.1; clashes = lock.2 })

-- t has what it had, and the lock, raised to the mode
pub own-locks : (locks_then : LockTable) (seen : rig.DeviceImages) (leaves : Outcomes) (pend : Pending) (c : Parts) (m : State) (t : TxnId) (r : Rid)
    (mode : Mode) → Good seen leaves pend c m
    → ((q : Rid) → held locks_then t q ≡ cond (same_rid r q) (Some (locks.raised (held c.locks t r) mode)) (held c.locks t q))
    → (q : Rid) → held locks_then t q ≡ lock_of (with_claim r (claim_of mode) (m.part t).claims q)
own-locks locks_then seen leaves pend c m t r mode g given q = ⊎_elim
    (λ e. given q ∙ ap (λ (b : Bool). cond b (Some (locks.raised (held c.locks t r) mode)) (held c.locks t q)) (eq-same_rid r q e)
    ∙ ap (λ (o : Option Mode). Some (locks.raised o mode)) (g.locks t r) ∙ raised-lock mode ((m.part t).claims r)
    ∙ ap (λ (s : Rid). lock_of (raised_claim (claim_of mode) ((m.part t).claims s))) e
    ∙ sym (ap (λ (b : Bool). lock_of (cond b (raised_claim (claim_of mode) ((m.part t).claims q)) ((m.part t).claims q))) (eq-same_rid r q e)))
    (λ ne. given q ∙ ap (λ (b : Bool). cond b (Some (locks.raised (held c.locks t r) mode)) (held c.locks t q)) (ne-same_rid r q ne)
    ∙ g.locks t q
    ∙ sym (ap (λ (b : Bool). lock_of (cond b (raised_claim (claim_of mode) ((m.part t).claims q)) ((m.part t).claims q))) (ne-same_rid r q ne)))
    (cases_rid r q)

-- one that stands as running in the table runs
pub running-there : (o : Option Transaction) (life : Life) (f w : Fate) → option_map (λ (x : Transaction). x.state) o ≡ Some TxnState.Running
    → NamesLife o life f w → life ≡ Life.Running
running-there None life f w e h = absurd (cc)
running-there (Some x) life f w e h = subst (λ (s : TxnState). StandsAs s life f w) (the-some x.state TxnState.Running e) h
  where
    the-some : (a b : TxnState) → Some a ≡ Some b → a ≡ b
    the-some a b e = cc

-- the complex is good once t has the lock
pub grants-good : (seen : rig.DeviceImages) (leaves : Outcomes) (c : Parts) (m : State) (t : TxnId) (r : Rid) (mode : Mode) (locks_then : LockTable)
    → Good seen leaves Pending.Idle c m → c.due ≡ None → status_at c (home t) ≡ S.Up
    → state_at (txns_at c (home t)) t ≡ Some TxnState.Running → IsFree (stands c.locks) t (wait_for r mode)
    → ((u : TxnId) (q : Rid) → held locks_then u q
    ≡ cond (same_txn t u && same_rid r q) (Some (locks.raised (held c.locks t r) mode)) (held c.locks u q))
    → Good seen leaves Pending.Idle (with_locks locks_then c) (took t r (claim_of mode) [] m)
grants-good seen leaves c m t r mode locks_then g idle up state free given =
    let bounds = up-there c g.shape.statuses (home t) up in
    takes-good t r (claim_of mode) [] locks_then seen leaves c m g (record {
      low = bounds.0;
      high = bounds.1;
      idle = idle;
      up = up;
      runs = running-there _ _ _ _ state ((g.instances (home t) bounds.0 bounds.1).names t refl);
      live = ap live (append-nil (m.part t).acts);
      kept = took-kept m t r (claim_of mode) [] (free-claims seen leaves Pending.Idle c m t r mode g free) tt tt (λ puts o. o) g.kept;
      others = λ u ne q. given u q
          ∙ ap (λ (b : Bool). cond (b && same_rid r q) (Some (locks.raised (held c.locks t r) mode)) (held c.locks u q)) (ne-same t u (λ e. ne (sym e)));
      own = own-locks locks_then seen leaves Pending.Idle c m t r mode g (λ q. given t q
          ∙ ap (λ (b : Bool). cond (b && same_rid r q) (Some (locks.raised (held c.locks t r) mode)) (held c.locks t q)) (eq-same t t refl));
    })

claimed-holds : (mode : Mode) (claim : Claim) → Holds (raised_claim (claim_of mode) claim)
claimed-holds modes.Shared Claim.Free = tt
claimed-holds modes.Shared Claim.Shared = tt
claimed-holds modes.Shared Claim.Excl = tt
claimed-holds modes.Excl claim = tt

-- and once it has read
pub read-good : (leaves : Outcomes) → ReadIsGood leaves
read-good leaves seen c m t r mode v g idle up runs free has is =
    let bounds = up-there c g.shape.statuses (home t) up in
    takes-good t r (claim_of mode) (Act.Read r v ∷ []) c.locks seen leaves c m g (record {
      low = bounds.0;
      high = bounds.1;
      idle = idle;
      up = up;
      runs = runs;
      live = live_from-append [] (m.part t).acts (Act.Read r v ∷ []);
      kept = took-kept m t r (claim_of mode) (Act.Read r v ∷ []) (free-claims seen leaves Pending.Idle c m t r mode g free) (is, tt)
          (subst Holds (sym (claim-here r (claim_of mode) (m.part t).claims)) (claimed-holds mode ((m.part t).claims r)), tt) (λ puts o. o) g.kept;
      others = λ u ne q. refl;
      own = own-locks c.locks seen leaves Pending.Idle c m t r mode g (λ q. ⊎_elim
          (λ e. sym (ap (held c.locks t) e) ∙ has
          ∙ sym (ap (λ (b : Bool). cond b (Some (locks.raised (held c.locks t r) mode)) (held c.locks t q)) (eq-same_rid r q e)))
          (λ ne. sym (ap (λ (b : Bool). cond b (Some (locks.raised (held c.locks t r) mode)) (held c.locks t q)) (ne-same_rid r q ne)))
          (cases_rid r q));
    })

-- what an Ok gives gives more
pub ok-then : {A B P Q : Type 0} (r : Result A B) → OnOk r P → (P → Q) → OnOk r Q
ok-then (Ok x) p f = f p
ok-then (Err e) p f = tt
