-- An instance that falls: what held of the complex holds of it then, with the state that the serial table has. For src/crash.rt.
use Rattle.std.proofs.Common.{◌≡◌, ◌≢◌, ◌⊎◌, inl, inr, ⊎_elim, ℕ, ◌-◌, ◌≤◌, Bool, true, false, cond, eqb, ◌&&◌, ◌||◌, List, [], ◌∷◌, refl, sym, ap, ap₂, ◌∙◌, subst, arith, ne_eqb}
use Rattle.std.specs.Prelude.{Option, None, Some}
use Rattle.std.proofs.lemmas.Bool.{cases_Bool, cases_eq}
use Rattle.std.proofs.lemmas.List.{length-set}
use Rattle.sd_base.specs.declared.ids.TxnId.{TxnId}
use Rattle.sd_base.specs.declared.place.Status.{Status}
use Rattle.sd_base.specs.declared.place.Status.TheVariants as S
use Rattle.sd_logrec.specs.View.{Rec}
use Rattle.sd_model.specs.Claims.{Claims}
use Rattle.sd_model.specs.Listed.{IsAtWork}
use Rattle.sd_model.specs.State.{Part, State}
use Rattle.sd_model.specs.declared.act.Claim.{Claim}
use Rattle.sd_model.specs.declared.act.Life.{Life}
use Rattle.sd_pagelock.specs.Asks.{is_open_ask, open_asks, asks_without}
use Rattle.sd_pagelock.specs.Directory.{asks_at, entry_at}
use Rattle.sd_pagelock.specs.Places.{PageEntry}
use Rattle.sd_pagelock.specs.Rows.{fallen}
use Rattle.sd_pagelock.specs.declared.queue.Ask.{Ask}
use Rattle.sd_pool.specs.Buffers as buffers
use Rattle.sd_pool.specs.Buffers.{Buffers}
use Rattle.sd_rig.specs.Devices as rig
use Rattle.sd_txn.specs.Owing.{owed_of, reserve_of}
use Rattle.sd_txn.specs.Transactions.{Transactions, begins_in, txn_at, state_at}
use Rattle.sd_chain.specs.Cuts.{cut}
use Rattle.sd_chain.specs.Fates.{fate}
use Rattle.sd_chain.specs.Storage.{Recovered}
use Rattle.sd_chain.specs.Images.{Gives, Keeps, with_disk}
use Rattle.sd_log.specs.Logs.{are_there, has_tail}
use Rattle.sd_logrec.specs.declared.record.Record.{Record}
use Rattle.sd_chain.specs.Records.{Each, IsOpen, home, stack}
use Rattle.sd_chain.proofs.Lists.{Each-weaker}
use Rattle.sd_chain.specs.AppendedRecords as changes_law
use Rattle.sd_chain.specs.Coherent.{Coherent}
use Rattle.sd_chain.specs.Falls.{Falls, fell}
use Rattle.sd_chain.specs.World.{Base}
use Rattle.sd_chain.proofs.Cases.{put_here, put_other}
use Rattle.sd_chain.proofs.Changes.{rest-keeps}
use Rattle.sd_chain.proofs.Falls.{fall-keeps}
use Rattle.sd_chain.specs.Logs.{Outcomes, all_at, base_at, kept_logs, may_of, tails_of}
use Rattle.sd_state.specs.Forcing.{owed_either}
use Rattle.sd_state.specs.Good.{Good, Half, IsInstance, IsOfBegun, IsTold, OwesAtMost, TakesCheck, base_of, dir_of, NoneIsFound}
use Rattle.sd_state.specs.Images.{IsEpochOf, leaves_by, log_by}
use Rattle.sd_state.specs.Parts.{Begun, Parts, check_at, is_active, is_loose, is_up, log_at, no_pool, no_txns, owed_at, pool_at, status_at, txns_at, up_as, other_at}
use Rattle.sd_base.specs.Standing.{active_as}
use Rattle.sd_state.specs.Tables.{GoesOn, NamedOnce, NamesLife, RowIsLive, RowIsLogged, lock_of, tells_log}
use Rattle.sd_state.specs.Values.{Pending, rid_of, values}
use Rattle.sd_state.proofs.Items.{item-kept, item-set}
use Rattle.sd_moves.specs.Falling.{IsLeft, emptied_pool, falls_at, falls_with, owed_unsettled, unsettles, with_lost}
use Rattle.sd_moves.proofs.FallCoherent.{IsLoosened, loosened, loosened-keeps}
use Rattle.sd_moves.proofs.FallModel.{IsFall}
use Rattle.sd_moves.proofs.FallOwed.{owes-either}
use Rattle.sd_moves.proofs.FallStatus.{active-fallen, asks-left, closed-then, falls-itself, falls-recovered, settled-then, status-fallen, unsettles-itself, up-fallen, up-then}
use Rattle.sd_txn.specs.declared.state.TxnState.{TxnState}

-- who is at work no more has no further records
rests-still : (t : TxnId) (p : Part) → (IsAtWork p.life → ⊥) → GoesOn Pending.Idle t p → ⊥
rests-still t p rests goes = by p.life rests goes
  where
    by : (life : Life) → (IsAtWork life → ⊥) → GoesOn Pending.Idle t (record p { life = life }) → ⊥
    by Life.Gone rests goes = goes
    by Life.Running rests goes = rests tt
    by Life.Retained rests goes = goes
    by (Life.Rolling to) rests goes = rests tt
    by (Life.Doubt cut) rests goes = goes

-- who may have further records may, whatever is under way of others
goes-still : (pend : Pending) (t : TxnId) (p : Part) → (pend ≡ Pending.Commits t → ⊥) → GoesOn Pending.Idle t p → GoesOn pend t p
goes-still pend t p other goes = by p.life goes
  where
    by : (life : Life) → GoesOn Pending.Idle t (record p { life = life }) → GoesOn pend t (record p { life = life })
    by Life.Gone goes = goes
    by Life.Running goes = other
    by Life.Retained goes = goes
    by (Life.Rolling None) goes = goes
    by (Life.Rolling (Some n)) goes = goes
    by (Life.Doubt cut) goes = goes

module _ (i : ℕ) (table : Transactions) (n c : Parts) (seen : rig.DeviceImages) (leaves : Outcomes) (pend : Pending) (m m' : State)
    (low : 1 ≤ i) (high : i ≤ 8) (g : Good seen leaves pend c m)
    (due : (c.due ≡ None) ⊎ ((j : ℕ) × (c.due ≡ Some (i, j)) × (is_loose c j ≡ true)))
    (whose : (t : TxnId) → pend ≡ Pending.Commits t → home t ≡ i) (f : IsLeft i c n) (s : IsFall i pend m m')
    (same_inst : table.inst ≡ (txns_at c i).inst) (same_epoch : table.epoch ≡ (txns_at c i).epoch)
    (own : (t : TxnId) → home t ≢ i → txn_at table t ≡ None)
    (found : (t : TxnId) → state_at table t ≡ Some TxnState.Committed → state_at (txns_at c i) t ≡ Some TxnState.Committed)
    (names : (t : TxnId) → home t ≡ i
    → NamesLife (txn_at table t) (m'.part t).life (fate t (base_at (log_at c i))) (fate t (all_at (log_at c i)))) where
  abbrev new : Parts
  new = with_lost i table n c

  status-there : (j : ℕ) → status_at new j ≡ cond {A = Status} (falls_at i c j) S.Down (status_at c j)
  status-there j = (f.each j).status

  -- who doesn't fall is another, and stands as before
  not-fallen : (j : ℕ) → falls_at i c j ≡ false → j ≢ i
  not-fallen j stays same = let clash : true ≡ false = sym (falls-itself i (status_at c i)) ∙ ap (falls_at i c) (sym same) ∙ stays in absurd (cc)

  status-still : (j : ℕ) → falls_at i c j ≡ false → status_at new j ≡ status_at c j
  status-still j stays = status-there j ∙ ap (λ (b : Bool). cond {A = Status} b S.Down (status_at c j)) stays

  -- it falls, and its log isn't settled then
  abbrev marks : ℕ → Bool
  marks j = falls_at i c j && unsettles i c j

  -- a log that is settled then was, and its instance doesn't fall, or there is no tail
  was-settled : (j : ℕ) → is_loose new j ≡ false → (marks j ≡ false) × (is_loose c j ≡ false)
  was-settled j e = settled-then (marks j) (is_loose c j) (sym (f.each j).loose ∙ e)

  -- whose table tells what its log owes doesn't fall
  not-down : (j : ℕ) → tells_log (status_at new j) ≡ true → falls_at i c j ≡ false
  not-down j tells = ⊎_elim
      (λ down. let clash : false ≡ true = sym (ap tells_log (status-there j ∙ ap (λ (b : Bool). cond {A = Status} b S.Down (status_at c j)) down)) ∙ tells in
      absurd (cc))
      (λ stays. stays)
      (cases_Bool (falls_at i c j))

  -- whose log isn't settled falls, and another has a tail
  no-tail : (j : ℕ) → falls_at i c j ≡ true → marks j ≡ false → (log_at c j).tail ≡ []
  no-tail j down none = by (eqb i j) (log_at c j).tail (sym (ap (λ (b : Bool). b && unsettles i c j) down) ∙ none)
    where
      by : (b : Bool) (rs : List Record) → (b || are_there rs) ≡ false → rs ≡ []
      by true rs e = absurd (cc)
      by false [] e = refl
      by false (r ∷ rs) e = absurd (cc)

  -- who is up then was, and doesn't fall
  was-up : (j : ℕ) → status_at new j ≡ S.Up → (falls_at i c j ≡ false) × (status_at c j ≡ S.Up)
  was-up j up = up-then (falls_at i c j) (status_at c j) (sym (status-there j) ∙ up)

  up-other : (j : ℕ) → status_at new j ≡ S.Up → j ≢ i
  up-other j up = not-fallen j (was-up j up).0

  table-here : txns_at new i ≡ table
  table-here = item-set no_txns c.txns i table low high g.shape.txns

  table-else : (k : ℕ) → k ≢ i → txns_at new k ≡ txns_at c k
  table-else = item-kept no_txns c.txns i table low

  check-there : (k : ℕ) (b : Begun) → check_at new k ≡ Some b → (k ≢ i) × (check_at c k ≡ Some b)
  check-there k b is = ⊎_elim
      (λ same. let clash : None ≡ Some b = sym (item-set {A = Option Begun} None c.checks i None low high g.shape.checks)
      ∙ ap (check_at new) (sym same) ∙ is in absurd (cc))
      (λ ne. (ne, sym (item-kept {A = Option Begun} None c.checks i None low k ne) ∙ is))
      (cases_eq k i)

  active-there : (j : ℕ) → is_active new j ≡ cond (eqb j i) false (is_active c j)
  active-there j = ap (active_as j) (status-there j) ∙ active-fallen i j (status_at c j)

  up-still : (j : ℕ) → j ≢ i → status_at c j ≡ S.Up → status_at new j ≡ S.Up
  up-still j ne up = status-still j (ap (λ (s : Status). falls_with i j s) up
      ∙ ap (λ (b : Bool). cond b true false) (ne_eqb i j (λ e. ne (sym e)))) ∙ up

  takes-still : (j : ℕ) → j ≢ i → TakesCheck (status_at c j) → TakesCheck (status_at new j)
  takes-still j ne = ⊎_elim (λ up. inl (up-still j ne up))
      (λ re. inr (status-still j (ap (λ (s : Status). falls_with i j s) re
      ∙ ap (λ (b : Bool). cond b true false) (ne_eqb i j (λ e. ne (sym e)))) ∙ re))

  -- whoever is found committed was
  none-found : (j place : ℕ) → 1 ≤ j → j ≤ 8 → other_at c j ≡ Some place → NoneIsFound new j
  none-found j place lo hi other t own is = g.others j place lo hi other t own (⊎_elim
      (λ e. subst (λ (k : ℕ). state_at (txns_at c k) t ≡ Some TxnState.Committed) (sym e)
      (found t (sym (ap (λ (tb : Transactions). state_at tb t) (ap (txns_at new) e ∙ table-here)) ∙ is)))
      (λ ne. sym (ap (λ (tb : Transactions). state_at tb t) (table-else j ne)) ∙ is)
      (cases_eq j i))

  still-active : (j : ℕ) → j ≢ i → is_active c j ≡ true → is_active new j ≡ true
  still-active j ne active = active-there j ∙ ap (λ (b : Bool). cond b false (is_active c j)) (ne_eqb j i ne) ∙ active

  disk-same : is_loose new 0 ≡ is_loose c 0
  disk-same = (f.each 0).loose
      ∙ ap (λ (b : Bool). cond (cond b true false && (b || has_tail (log_at c 0))) true (is_loose c 0)) (ne_eqb i 0 (λ e. omega (arith, low, e)))

  -- ---- coherence

  falls : Falls i (dir_of c) (dir_of new)
  falls = record {
    entry = f.entries;
    pool = λ p. ap (λ (pool : Buffers). buffers.image_at pool p)
        (item-set no_pool c.pools i (emptied_pool (pool_at c i)) low high g.shape.pools);
    other_pools = λ k p ne. ap (λ (pool : Buffers). buffers.image_at pool p)
        (item-kept no_pool c.pools i (emptied_pool (pool_at c i)) low k ne);
    moving = f.moving;
  }

  module _ (moved : Keeps) where
    abbrev leaves' : Outcomes
    leaves' = leaves_by c moved leaves

    h : Half seen leaves' (log_by c moved) pend c m
    h = g.half moved

    abbrev base : Base (may_of leaves')
    base = base_of seen leaves' (log_by c moved) c

    loosened-at : (j : ℕ) → IsLoosened (is_loose new) (fell i base) j
    loosened-at j = ⊎_elim
        (λ same. inl ((f.each j).loose ∙ ap (λ (b : Bool). cond b true (is_loose c j))
        (ap marks same ∙ unsettles-itself i c) ∙ sym (put_here i true (is_loose c) j same)))
        (λ ne. ⊎_elim
        (λ marked. let off = falls-recovered i j (status_at c j) ne (both-first (falls_at i c j) (unsettles i c j) marked) in inr (
          put_other i false (is_active c) j ne ∙ off.0,
          put_other i false (is_up c) j ne ∙ off.1,
          (f.each j).loose ∙ ap (λ (b : Bool). cond b true (is_loose c j)) marked,
        ))
        (λ stays. inl ((f.each j).loose ∙ ap (λ (b : Bool). cond b true (is_loose c j)) stays
        ∙ sym (put_other i true (is_loose c) j ne)))
        (cases_Bool (marks j)))
        (cases_eq j i)
      where
        both-first : (a b : Bool) → (a && b) ≡ true → a ≡ true
        both-first true b e = refl
        both-first false b e = absurd (cc)

    rests : changes_law.Rests (loosened (is_loose new) (fell i base)) (base_of seen leaves' (log_by new moved) new)
    rests = record {
      bases = λ j. refl;
      tails = λ j. refl;
      version = λ keeps p. refl;
      safe = h.coherent.safe;
      reads = h.coherent.reads;
      rec_lsn = f.rec_lsns;
      stays = record {
        less = λ p x may. may;
        disk = λ p. refl;
        loose = λ j lo. refl;
        loose_disk = disk-same;
        active = active-there;
        up = λ j. ap up_as (status-there j) ∙ up-fallen i j (status_at c j);
        due = refl;
      };
    }

    coherent : Coherent (base_of seen leaves' (log_by new moved) new) (dir_of new)
    coherent = rest-keeps (may_of leaves') (may_of leaves') (loosened (is_loose new) (fell i base))
        (base_of seen leaves' (log_by new moved) new) (dir_of new)
        (loosened-keeps (may_of leaves') (is_loose new) (fell i base) (dir_of new)
        (fall-keeps (may_of leaves') i base (dir_of c) (dir_of new) h.coherent due falls) loosened-at) rests

    gives : Gives (tails_of (log_by new moved)) (may_of leaves')
        (λ keeps. values m' Pending.Idle (kept_logs (tails_of (log_by new moved)) keeps))
    gives disk all keeps p s' = subst (Recovered (cut keeps (with_disk (tails_of (log_by c moved)) disk)) p s')
        (sym (s.values (kept_logs (tails_of (log_by c moved)) keeps) p s')) (h.gives disk all keeps p s')

    claimed-there : (t : TxnId) (xs : List Rec) → Each (λ x. (m.part t).claims (rid_of x) ≡ Claim.Excl) xs
        → Each (λ x. (m'.part t).claims (rid_of x) ≡ Claim.Excl) xs
    claimed-there t xs = subst (λ (q : Claims). Each (λ x. q (rid_of x) ≡ Claim.Excl) xs) (sym (s.claims t))

    epoch-still : (j epoch : ℕ) → IsEpochOf m pend j epoch → IsEpochOf m' Pending.Idle j epoch
    epoch-still j epoch e = let at = s.epoch j in let more = s.failed j in let lo = e.low in let hi = e.high in
        record { low = omega (arith, at, lo); high = omega (arith, at, more, hi) }

    half-there : Half seen leaves' (log_by new moved) Pending.Idle new m'
    half-there = record {
      coherent = coherent;
      soundly = h.soundly;
      gives = gives;
      claimed = λ keeps t opens. let was = h.claimed keeps t opens in record {
        there = λ none. was.there (s.gone t none);
        claims = claimed-there t (stack t (kept_logs (tails_of (log_by c moved)) keeps (home t))) was.claims;
      };
      held = λ t opens. claimed-there t (stack t (all_at (log_by c moved (home t)))) (h.held t opens);
      epochs = λ j lo hi bytes left. let was = h.epochs j lo hi bytes left in (epoch-still j _ was.0, epoch-still j _ was.1);
      checks = λ k b is. h.checks k b (check-there k b is).1;
    }

    owed-loose : (j : ℕ) → 1 ≤ j → j ≤ 8 → is_loose new j ≡ true → OwesAtMost (owed_at new j) (log_by new moved j)
    owed-loose j lo hi loose = ⊎_elim
        (λ marked. subst (λ (k : ℕ). OwesAtMost k (log_by c moved j))
        (sym ((f.each j).owed ∙ ap (λ (b : Bool). cond b (owed_unsettled c j) (owed_at c j)) marked)) (unsettled (is_loose c j) refl))
        (λ stays. subst (λ (k : ℕ). OwesAtMost k (log_by c moved j))
        (sym ((f.each j).owed ∙ ap (λ (b : Bool). cond b (owed_unsettled c j) (owed_at c j)) stays))
        (g.owed_loose moved j lo hi (sym ((f.each j).loose ∙ ap (λ (b : Bool). cond b true (is_loose c j)) stays) ∙ loose)))
        (cases_Bool (marks j))
      where
        unsettled : (b : Bool) → is_loose c j ≡ b → OwesAtMost (owed_unsettled c j) (log_by c moved j)
        unsettled true is = subst (λ (k : ℕ). OwesAtMost k (log_by c moved j))
            (sym (ap (λ (b : Bool). cond b (owed_at c j) (owed_either c j)) is)) (g.owed_loose moved j lo hi is)
        unsettled false is = subst (λ (k : ℕ). OwesAtMost k (log_by c moved j))
            (sym (ap (λ (b : Bool). cond b (owed_at c j) (owed_either c j)) is)) (owes-either seen leaves pend c m g j lo hi is moved)

  -- ---- instances

  instance-there : (k : ℕ) → 1 ≤ k → k ≤ 8 → IsInstance new m' k
  instance-there k lo hi = let old = g.instances k lo hi in record {
    status = status-there k ∙ ap (λ (x : Status). cond {A = Status} (falls_with i k x) S.Down x) old.status
        ∙ status-fallen i k (m.inst k).status ∙ sym (s.status k);
    epoch = λ up. old.epoch (was-up k up).1 ∙ sym (s.epoch k);
    first = λ up. let one = old.first (was-up k up).1 in let same = s.epoch k in omega (arith, one, same);
    table = ⊎_elim
        (λ e. subst (λ (j : ℕ). (txns_at new j).epoch ≤ (m'.inst j).epoch) (sym e)
        (let here = ap (λ (tb : Transactions). tb.epoch) table-here in let same = s.epoch i in let was = (g.instances i low high).table in
        omega (arith, here, same_epoch, same, was)))
        (λ ne. let here = ap (λ (tb : Transactions). tb.epoch) (table-else k ne) in let same = s.epoch k in let was = old.table in
        omega (arith, here, same, was))
        (cases_eq k i);
    begins = λ up. ap₂ begins_in (table-else k (up-other k up)) (s.epoch k) ∙ old.begins (was-up k up).1 ∙ sym (s.begins k);
    own = ⊎_elim
        (λ e. subst (λ (j : ℕ). (t : TxnId) → home t ≢ j → txn_at (txns_at new j) t ≡ None) (sym e)
        (λ t ne. ap (λ (tb : Transactions). txn_at tb t) table-here ∙ own t ne))
        (λ ne t off. ap (λ (tb : Transactions). txn_at tb t) (table-else k ne) ∙ old.own t off)
        (cases_eq k i);
    names = ⊎_elim
        (λ e. subst (λ (j : ℕ). (t : TxnId) → home t ≡ j → NamesLife (txn_at (txns_at new j) t) (m'.part t).life
        (fate t (base_at (log_at c j))) (fate t (all_at (log_at c j)))) (sym e)
        (λ t is. subst (λ (tb : Transactions). NamesLife (txn_at tb t) (m'.part t).life (fate t (base_at (log_at c i)))
        (fate t (all_at (log_at c i)))) (sym table-here) (names t is)))
        (λ ne t is. subst (λ (tb : Transactions). NamesLife (txn_at tb t) (m'.part t).life (fate t (base_at (log_at c k)))
        (fate t (all_at (log_at c k)))) (sym (table-else k ne))
        (subst (λ (q : Part). NamesLife (txn_at (txns_at c k) t) q.life (fate t (base_at (log_at c k))) (fate t (all_at (log_at c k))))
        (sym (s.others t (λ e. ne (sym is ∙ e)))) (old.names t is)))
        (cases_eq k i);
  }

  told-there : (k : ℕ) → 1 ≤ k → k ≤ 8 → tells_log (status_at new k) ≡ true → is_loose new k ≡ false → IsTold new m' k
  told-there k lo hi tells e =
      let stays = not-down k tells in
      let old = g.told k lo hi (sym (ap tells_log (status-still k stays)) ∙ tells) (was-settled k e).1 in
      let same = table-else k (not-fallen k stays) in
      record {
        rows = λ t is. subst (λ (tb : Transactions). RowIsLogged (txn_at tb t) t (all_at (log_at c k))) (sym same) (old.rows t is);
        owes = ap owed_of same ∙ old.owes;
        reserves = ap reserve_of same ∙ old.reserves;
        spare = λ up. old.spare (was-up k up).1;
      }

  going-there : (t : TxnId) → 1 ≤ home t → home t ≤ 8 → GoesOn Pending.Idle t (m'.part t) → IsOpen t (all_at (log_at c (home t)))
  going-there t lo hi goes = ⊎_elim
      (λ e. absurd (rests-still t (m'.part t) (s.rests t e) goes))
      (λ ne. g.going t lo hi (goes-still pend t (m.part t) (λ is. ne (whose t is)) (subst (GoesOn Pending.Idle t) (s.others t ne) goes)))
      (cases_eq (home t) i)

  -- who still asks is active, and another than i
  asks-there : (p : ℕ) → Each (λ ask. (is_active new ask.by ≡ true) × (is_open_ask (entry_at n.directory p) ask ≡ true)) (asks_at n.directory p)
  asks-there p = subst (Each (λ ask. (is_active new ask.by ≡ true) × (is_open_ask (entry_at n.directory p) ask ≡ true))) (sym (f.asks p))
      (Each-weaker _ _ (λ (ask : Ask) a. (still-active ask.by a.1 a.0.0, ap (λ (e : PageEntry). is_open_ask e ask) (f.entries p) ∙ a.2))
      (open_asks (fallen i (entry_at c.directory p)) (asks_without i (asks_at c.directory p)))
      (asks-left (λ (ask : Ask). (is_active c ask.by ≡ true) × (is_open_ask (entry_at c.directory p) ask ≡ true))
      (fallen i (entry_at c.directory p)) i (asks_at c.directory p) (g.asks p)))

  pub fallen-good : Good seen leaves Pending.Idle new m'
  fallen-good = record {
    shape = record {
      logs = g.shape.logs;
      pools = length-set c.pools (i - 1) (emptied_pool (pool_at c i)) ∙ g.shape.pools;
      txns = length-set c.txns (i - 1) table ∙ g.shape.txns;
      statuses = f.statuses;
      epochs = g.shape.epochs;
      masters = g.shape.masters;
      checks = length-set {A = Option Begun} c.checks (i - 1) None ∙ g.shape.checks;
      others = g.shape.others;
      owed = f.owed;
      loose = f.loose;
      own_log = g.shape.own_log;
      own_txns = λ j lo hi. ⊎_elim
          (λ e. subst (λ (k : ℕ). (txns_at new k).inst ≡ k) (sym e)
          (ap (λ (tb : Transactions). tb.inst) table-here ∙ same_inst ∙ g.shape.own_txns i low high))
          (λ ne. ap (λ (tb : Transactions). tb.inst) (table-else j ne) ∙ g.shape.own_txns j lo hi)
          (cases_eq j i);
    };
    half = half-there;
    places = g.places;
    others = none-found;
    settled = λ j lo hi e. let was = g.settled j lo hi (was-settled j e).1 in
        record { only = was.only; stands = was.stands; one_place = was.one_place; counted = was.counted; epoch = was.epoch };
    disk_settled = λ e. g.disk_settled (sym disk-same ∙ e);
    disk_lsns = g.disk_lsns;
    last = g.last;
    owed = λ j lo hi e. let w = was-settled j e in
        (f.each j).owed ∙ ap (λ (b : Bool). cond b (owed_unsettled c j) (owed_at c j)) w.0 ∙ g.owed j lo hi w.1;
    owed_loose = owed-loose;
    kept = s.kept;
    placed = s.placed;
    listed = s.listed;
    marked = s.marked;
    named = λ t. ⊎_elim
        (λ none. subst NamedOnce (sym none) tt)
        (λ same. subst NamedOnce (sym same) (g.named t))
        (s.marks t);
    numbered = λ t there. g.numbered t (λ none. there (s.there t none));
    recoverers = s.recoverers;
    not_closed = λ closed. g.not_closed (closed-then i (eqb i 1) (m.inst 1).status (sym (s.status 1) ∙ closed));
    instances = instance-there;
    told = told-there;
    at_rest = λ k lo hi tells e. let w = was-settled k e in ⊎_elim
        (λ down. no-tail k down w.0)
        (λ stays. g.at_rest k lo hi (sym (ap tells_log (status-still k stays)) ∙ tells) w.1)
        (cases_Bool (falls_at i c k));
    begun = λ k lo hi up. Each-weaker (IsOfBegun (m.inst k)) (IsOfBegun (m'.inst k)) (λ (x : Rec) was speaks at.
        let same = s.epoch k in let most = s.begins k in
        let least : x.txn.seq ≤ (m.inst k).begins = was speaks (at ∙ same) in omega (arith, most, least))
        (all_at (log_at c k)) (g.begun k lo hi (was-up k up).1);
    at_work = λ k lo hi up t is free. let ne = up-other k up in
        subst (λ (tb : Transactions). RowIsLive (txn_at tb t) t (m'.part t) (all_at (log_at c k))) (sym (table-else k ne))
        (subst (λ (q : Part). RowIsLive (txn_at (txns_at c k) t) t q (all_at (log_at c k))) (sym (s.others t (λ e. ne (sym is ∙ e))))
        (g.at_work k lo hi (was-up k up).1 t is (λ under. ne (sym is ∙ whose t under))));
    going = going-there;
    pending = tt;
    gone = λ t none r. ap (λ (q : Claims). q r) (s.claims t) ∙ g.gone t (s.gone t none) r;
    locks = λ t r. f.locks t r ∙ g.locks t r ∙ sym (ap (λ (q : Claims). lock_of (q r)) (s.claims t));
    asks = asks-there;
    checking = λ k b is. let w = check-there k b is in let was = g.checking k b w.1 in
        record { takes = takes-still k w.0 was.takes; spelled = was.spelled; begun = was.begun };
  }
