-- A transaction begins: what it makes of the world. For `begin` of transactions.rt.
use Rattle.std.proofs.Common.{◌≡◌, ◌≢◌, ◌⊎◌, ⊎_elim, ℕ, ◌+◌, ◌<◌, ◌≤◌, ◌^◌, Bool, false, cond, max, length, refl, sym, ap, ◌∙◌, subst, arith}
use Rattle.std.specs.Prelude.{Option, None, Some, IsSome}
use Rattle.std.proofs.lemmas.Bool.{cases_Bool, cases_eq}
use Rattle.std.specs.List.{IsDistinct}
use Rattle.std.specs.Option.{option_and_then}
use Rattle.sd_base.specs.Ids.{same_txn}
use Rattle.sd_base.specs.Waits.{Wait, with_wait}
use Rattle.sd_base.specs.declared.ids.TxnId.{TxnId}
use Rattle.sd_base.specs.declared.place.Status.TheVariants as S
use Rattle.sd_base.specs.declared.refusal.Refusal.{Refusal}
use Rattle.sd_base.specs.declared.refusal.Refusal.TheVariants as R
use Rattle.sd_base.proofs.SameIds.{each_txn, ne-same}
use Rattle.sd_rig.specs.Devices.{DeviceImages, Leaves}
use Rattle.sd_model.specs.Applies.{HasPut, PassesAll, count_of}
use Rattle.sd_model.specs.Causes.{before, order}
use Rattle.sd_model.specs.Fields.{nobody}
use Rattle.sd_model.specs.Listed.{IsAmong, IsAtWork}
use Rattle.sd_model.specs.Scenes.{is_running, waits_after}
use Rattle.sd_model.specs.State.{Part, State, began, begun_part}
use Rattle.sd_model.specs.Step.{Step}
use Rattle.sd_model.specs.StepLaws.{IsUp, next_txn}
use Rattle.sd_model.specs.declared.act.Life.{Life}
use Rattle.sd_model.specs.declared.cause.Cause.{Cause}
use Rattle.sd_model.specs.declared.event.Event.TheVariants.{Begin}
use Rattle.sd_model.specs.declared.event.Reply.TheVariants as reply
use Rattle.sd_model.proofs.Among.{next-new}
use Rattle.sd_model.proofs.Steps.{begin-step}
use Rattle.sd_reclock.specs.Locks.{waits}
use Rattle.sd_chain.specs.Checks.{owed}
use Rattle.sd_chain.specs.Logs.{Outcomes, all_at}
use Rattle.sd_txn.specs.Owing.{owed_of}
use Rattle.sd_txn.specs.Transactions as txns
use Rattle.sd_txn.specs.Transactions.{OthersStay, Transaction, Transactions, begins_in, ids, span_at, txn_at}
use Rattle.sd_txn.specs.declared.state.TxnState.{TxnState}
use Rattle.sd_chain.specs.Records.{IsOpen, home}
use Rattle.sd_world.specs.Bounds.{bounds_after}
use Rattle.sd_world.specs.Serving.{Core, Telling, Turns, refused}
use Rattle.sd_state.specs.Complexes.{parts}
use Rattle.sd_state.specs.Good.{Good}
use Rattle.sd_state.specs.Parts.{Parts, epoch_at, is_loose, log_at, no_txns, owed_at, status_at, txns_at}
use Rattle.sd_state.specs.Sums.{owes_most}
use Rattle.sd_state.specs.Tables.{tells_log}
use Rattle.sd_state.specs.Values.{Pending}
use Rattle.sd_state.specs.Working.{with_working}
use Rattle.sd_state.specs.declared.complex.Complex.{Complex}
use Rattle.sd_state.proofs.Items.{item-kept}
use Rattle.sd_state.proofs.WorkingGood.{working-settled}
use Rattle.sd_fits.specs.Fits.{Fits, FitsBounds, FitsDoubts, FitsPages}
use Rattle.sd_fits.specs.Serving.{Serving}
use Rattle.sd_fits.proofs.Doubts.{doubts-kept, part-stays}
use Rattle.sd_fits.proofs.Heads.{count-is, is-up, not-up}
use Rattle.sd_fits.proofs.Known.{none-waits}
use Rattle.sd_fits.proofs.Served.{bounds-stay, none-ended, passed, still-serves, turns-on}
use Rattle.sd_fits.proofs.Still.{kept-serves, kept-spares, moved-fits}
use Rattle.sd_fits.proofs.Worked.{worked-bounds, worked-pages}

-- ---- refused

module _ (i : ℕ) (seen : DeviceImages) (leaves : Outcomes) (c : Parts) (w : Core) (f : Fits seen leaves c w) (low : 1 ≤ i) (high : i ≤ 8) where
  abbrev m : State
  m = w.scene.state

  down-turns : (status_at c i ≡ S.Up → ⊥)
      → Turns w (Begin i) (reply.Refused R.Down) (passed w w.scene.waits (Begin i) (reply.Refused R.Down))
  down-turns down =
      let off : (m.inst i).status ≡ S.Up → ⊥ = not-up seen leaves Pending.Idle c m f.good i low high down in
      turns-on w w.scene.waits (Begin i) (reply.Refused R.Down)
      (Cause.Down, refl, tt, (refl, (f.good.not_closed, tt), off), refl)
      (λ t. sym (none-ended seen leaves c w f t)) tt tt
      (record {
        cause = Cause.Down;
        names = refl;
        first = (refl, (f.good.not_closed, tt), off);
        passes = (tt, tt);
        says = λ e. absurd (cc);
        place = tt;
        leaves = refl;
      })
      tt

  module _ (up : status_at c i ≡ S.Up) (once : IsDistinct same_txn (ids (txns_at c i))) where
    serves : IsUp m i
    serves = is-up seen leaves Pending.Idle c m f.good i low high up

    count : count_of m i ≡ length (txns_at c i).unresolved
    count = count-is seen leaves Pending.Idle c m f.good i low high once

    begins : begins_in (txns_at c i) (epoch_at c i) ≡ (m.inst i).begins
    begins = let here = f.good.instances i low high in ap (begins_in (txns_at c i)) (here.epoch up) ∙ here.begins up

    many-turns : 64 ≤ length (txns_at c i).unresolved
        → Turns w (Begin i) (reply.Refused R.TooManyTxns) (passed w w.scene.waits (Begin i) (reply.Refused R.TooManyTxns))
    many-turns many =
        let off : 64 ≤ count_of m i = subst (λ (n : ℕ). 64 ≤ n) (sym count) many in
        let first : PassesAll m (Begin i) (before Cause.TooMany (order (Begin i))) = (f.good.not_closed, ((λ n. n serves.up), tt)) in
        turns-on w w.scene.waits (Begin i) (reply.Refused R.TooManyTxns)
        (Cause.TooMany, refl, tt, (refl, first, off), refl)
        (λ t. sym (none-ended seen leaves c w f t)) tt tt
        (record {
          cause = Cause.TooMany;
          names = refl;
          first = (refl, first, off);
          passes = (tt, (tt, tt));
          says = λ e. absurd (cc);
          place = tt;
          leaves = refl;
        })
        tt

    ends-turns : length (txns_at c i).unresolved < 64 → begins_in (txns_at c i) (epoch_at c i) ≡ 4294967295
        → Turns w (Begin i) (reply.Refused R.LsnEnd) (passed w w.scene.waits (Begin i) (reply.Refused R.LsnEnd))
    ends-turns few all =
        let off : 4294967295 ≤ (m.inst i).begins = subst (λ (n : ℕ). 4294967295 ≤ n) (sym all ∙ begins) (omega arith) in
        let first : PassesAll m (Begin i) (before Cause.Begins (order (Begin i))) =
        (f.good.not_closed, ((λ n. n serves.up), ((λ many. fewer (subst (λ (n : ℕ). 64 ≤ n) count many) few), tt))) in
        turns-on w w.scene.waits (Begin i) (reply.Refused R.LsnEnd)
        (Cause.Begins, refl, tt, (refl, first, off), refl)
        (λ t. sym (none-ended seen leaves c w f t)) tt tt
        (record {
          cause = Cause.Begins;
          names = refl;
          first = (refl, first, off);
          passes = (tt, (tt, (tt, tt)));
          says = λ e. absurd (cc);
          place = tt;
          leaves = refl;
        })
        off
      where
        fewer : {n : ℕ} → 64 ≤ n → n < 64 → ⊥
        fewer a b = omega arith

-- ---- begun

same-most : (a b : ℕ) → a ≡ b → a ≤ b
same-most a b e = omega (arith, e)

-- What a complex is once a transaction has begun on instance i.
pub record HasBegun (i : ℕ) (t : TxnId) (c new : Parts) : Type 0 where
  pub is : new ≡ with_working i (txns_at new i) new.locks c
  pub row : txn_at (txns_at new i) t ≡ Some (txns.started TxnState.Running)
  pub others : OthersStay (txns_at c i) (txns_at new i) t
  pub waits : (u : TxnId) → waits new.locks u ≡ cond (same_txn t u) None (waits c.locks u)

-- the world once it has begun
abbrev pub begun_core : ℕ → TxnId → Core → Core
begun_core i t w = record {
  scene = record {
    state = began i t w.scene.state;
    waits = waits_after (began i t w.scene.state) (Begin i) None (reply.Began t) w.scene.waits;
  };
  pages = w.pages;
  bounds = bounds_after w.bounds (Begin i) (reply.Began t);
}

module _ (i : ℕ) (t : TxnId) (seen : DeviceImages) (leaves : Outcomes) (c new : Parts) (w : Core) (f : Fits seen leaves c w)
    (low : 1 ≤ i) (high : i ≤ 8) (up : status_at c i ≡ S.Up) (b : HasBegun i t c new)
    (next : t ≡ next_txn w.scene.state i) (good : Good seen leaves Pending.Idle new (began i t w.scene.state)) where
  abbrev state : State
  state = w.scene.state

  abbrev later : State
  later = began i t state

  own : home t ≡ i
  own = ap (λ (u : TxnId). u.inst) next

  tables : (j : ℕ) → j ≢ i → txns_at new j ≡ txns_at c j
  tables j ne = ap (λ (p : Parts). txns_at p j) b.is ∙ item-kept no_txns c.txns i (txns_at new i) low j ne

  -- it wasn't there
  unknown : is_running (state.part t).life ≡ false
  unknown = ⊎_elim
      (λ runs. absurd (next-new state i state.begun (is-up seen leaves Pending.Idle c state f.good i low high up).up f.good.listed.bounds
      (subst (λ (u : TxnId). IsAmong u state.begun) next
      (f.good.listed.there t (λ gone. let clash = sym (ap is_running gone) ∙ runs in absurd (cc))))))
      (λ rests. rests)
      (cases_Bool (is_running (state.part t).life))

  begun-waits : (u : TxnId) → waits new.locks u ≡ waits_after later (Begin i) None (reply.Began t) w.scene.waits u
  begun-waits u = b.waits u ∙ ap (λ (o : Option Wait). cond {A = Option Wait} (same_txn t u) None o) (f.waits u)
      ∙ each_txn t (λ v (p : Part). cond {A = Option Wait} (same_txn t v) None (w.scene.waits v)
      ≡ cond {A = Option Wait} (is_running p.life) (with_wait nobody None w.scene.waits v) None) begun_part state.part
      (none-waits (same_txn t t) (w.scene.waits t) (f.waiting t unknown)
      ∙ sym (none-waits (same_txn nobody t) (w.scene.waits t) (f.waiting t unknown)))
      (λ v ne. ap (λ (x : Bool). cond {A = Option Wait} x None (w.scene.waits v)) (ne-same t v ne)
      ∙ sym (none-ended seen leaves c w f v)) u

  span-kept : (u : TxnId) → t ≢ u → span_at (txns_at new (home u)) u ≡ span_at (txns_at c (home u)) u
  span-kept u ne = ap (option_and_then (λ (x : Transaction). x.span)) (⊎_elim
      (λ e. subst (λ (j : ℕ). txn_at (txns_at new j) u ≡ txn_at (txns_at c j) u) (sym e) (b.others u (λ s. ne (sym s))))
      (λ nk. ap (λ (tb : Transactions). txn_at tb u) (tables (home u) nk))
      (cases_eq (home u) i))

  has-put : (u : TxnId) → IsAtWork (later.part u).life → IsSome (span_at (txns_at new (home u)) u) → HasPut (later.part u).acts
  has-put = each_txn t (λ u (p : Part). IsAtWork p.life → IsSome (span_at (txns_at new (home u)) u) → HasPut p.acts) begun_part state.part
      (λ _ some. absurd (none-span (span_at (txns_at new (home t)) t)
      (ap (λ (j : ℕ). span_at (txns_at new j) t) own ∙ ap (option_and_then (λ (x : Transaction). x.span)) b.row) some))
      (λ u ne work some. f.put u work (subst IsSome (span-kept u ne) some))
    where
      none-span : (o : Option (ℕ × ℕ)) → o ≡ None → IsSome o → ⊥
      none-span None e some = cc
      none-span (Some x) e some = cc

  settled : is_loose c i ≡ false
  settled = working-settled seen leaves Pending.Idle c state i f.good f.idle low up

  owes-here : owed_of (txns_at new i) ≡ owed_of (txns_at c i)
  owes-here =
      let told = f.good.told i low high (ap tells_log up) settled in
      let told' = good.told i low high (ap tells_log (ap (λ (p : Parts). status_at p i) b.is ∙ up)) (ap (λ (p : Parts). is_loose p i) b.is ∙ settled) in
      told'.owes ∙ ap (λ (p : Parts). owed (all_at (log_at p i))) b.is ∙ sym told.owes

  owes : (j : ℕ) → 1 ≤ j → j ≤ 8 → owes_most (with_working i (txns_at new i) new.locks c) j ≤ owes_most c j
  owes j lo hi = same-most _ _ (ap (λ (o : ℕ). cond (is_loose c j) (owed_at c j) (cond (tells_log (status_at c j)) (max (owed_at c j) o) (owed_at c j)))
      (ap (λ (p : Parts). owed_of (txns_at p j)) (sym b.is) ∙ ⊎_elim
      (λ e. subst (λ (k : ℕ). owed_of (txns_at new k) ≡ owed_of (txns_at c k)) (sym e) owes-here)
      (λ ne. ap owed_of (tables j ne))
      (cases_eq j i)))

  pub begun-fits : Fits seen leaves new (begun_core i t w)
  begun-fits = record {
    good = good;
    idle = ap (λ (p : Parts). p.due) b.is ∙ f.idle;
    rolling = λ u rolls. subst (λ (p : Parts). IsOpen u (all_at (log_at p (home u)))) (sym b.is) (old-rolling u rolls);
    waits = begun-waits;
    waiting = λ u rests. ap (λ (x : Bool). cond {A = Option Wait} x (with_wait nobody None w.scene.waits u) None) rests;
    put = has-put;
    pages = subst (λ (p : Parts). FitsPages seen leaves p w.pages) (sym b.is)
        (worked-pages (with_working i (txns_at new i) new.locks c).txns new.locks seen leaves c w.pages f.pages);
    bounds = subst (λ (p : Parts). FitsBounds seen leaves p (bounds_after w.bounds (Begin i) (reply.Began t))) (sym b.is)
        (bounds-stay seen (with_working i (txns_at new i) new.locks c) w.bounds (Begin i) (reply.Began t) tt
        (worked-bounds (with_working i (txns_at new i) new.locks c).txns new.locks seen leaves c w.bounds owes f.bounds));
    doubts = subst (λ (p : Parts). FitsDoubts seen p later) (sym b.is)
        (doubts-kept seen seen c (with_working i (txns_at new i) new.locks c) state later f.doubts
        (part-stays t begun_part state later refl (λ u. refl)) (λ keeps. keeps) (λ moved keeps j. refl) (λ moved keeps p. refl));
  }
    where
      old-rolling : (u : TxnId) → (later.part u).life ≡ Life.Rolling None → IsOpen u (all_at (log_at c (home u)))
      old-rolling = each_txn t (λ u (p : Part). p.life ≡ Life.Rolling None → IsOpen u (all_at (log_at c (home u)))) begun_part state.part
          (λ rolls. absurd (cc)) (λ u ne rolls. f.rolling u rolls)

-- ---- served

-- What is known where a transaction is to begin on an instance that is up.
pub record Begins {G : Type 0} (tell : Telling G) (i : ℕ) (old new : Complex G) : Type 0 where
  pub low : 1 ≤ i
  pub high : i ≤ 8
  pub same : new.rig ≡ old.rig
  pub now : (img : DeviceImages) → tell.since old.rig (tell.moment old.rig) img → Leaves (tell.leaves old.rig) img
  pub up : status_at (parts old) i ≡ S.Up
  pub once : IsDistinct same_txn (ids (txns_at (parts old) i))

module _ {G : Type 0} (tell : Telling G) (i : ℕ) (old new : Complex G) (b : Begins tell i old new) where
  abbrev was : Parts
  was = parts old

  pub refused-served : (n : Refusal) → parts new ≡ was
      → (n ≡ R.TooManyTxns → 64 ≤ length (txns_at was i).unresolved)
      → (n ≡ R.LsnEnd → (length (txns_at was i).unresolved < 64) × (begins_in (txns_at was i) (epoch_at was i) ≡ 4294967295))
      → (n ≡ R.TooManyTxns) ⊎ ((n ≡ R.LsnEnd) ⊎ (n ≡ R.Memory)) → Serving tell (Begin i) (refused n) old new
  refused-served n stays many ends only = ⊎_elim
      (λ e. subst (λ (k : Refusal). Serving tell (Begin i) (refused k) old new) (sym e) (
        λ w f. (
          passed w w.scene.waits (Begin i) (reply.Refused R.TooManyTxns),
          kept-serves tell old new b.same stays b.now w f (Begin i) (reply.Refused R.TooManyTxns) tt
              (many-turns i (tell.seen old.rig) (tell.leaves old.rig) was w f b.low b.high b.up b.once (many e)),
        ),
        ap tell.faults b.same,
      ))
      (λ rest. ⊎_elim
      (λ e. subst (λ (k : Refusal). Serving tell (Begin i) (refused k) old new) (sym e) (
        λ w f. (
          passed w w.scene.waits (Begin i) (reply.Refused R.LsnEnd),
          kept-serves tell old new b.same stays b.now w f (Begin i) (reply.Refused R.LsnEnd) tt
              (ends-turns i (tell.seen old.rig) (tell.leaves old.rig) was w f b.low b.high b.up b.once (ends e).0 (ends e).1),
        ),
        ap tell.faults b.same,
      ))
      (λ e. subst (λ (k : Refusal). Serving tell (Begin i) (refused k) old new) (sym e) (
        (λ w f. kept-spares tell old new b.same stays b.now w f),
        ap tell.faults b.same,
      ))
      rest)
      only

  pub begun-served : (t : TxnId) → t.seq < 2 ^ 32 → length (txns_at was i).unresolved < 64 → HasBegun i t was (parts new)
      → ((m : State) → Good (tell.seen old.rig) (tell.leaves old.rig) Pending.Idle was m
      → (t ≡ next_txn m i) × Good (tell.seen new.rig) (tell.leaves new.rig) Pending.Idle (parts new) (began i t m))
      → Serving tell (Begin i) (Some (reply.Began t)) old new
  begun-served t fits few has good = (
    λ w f.
        let state : State = w.scene.state in
        let seen = tell.seen old.rig in
        let leaves = tell.leaves old.rig in
        let made = good state f.good in
        let up : IsUp state i = is-up seen leaves Pending.Idle was state f.good i b.low b.high b.up in
        let count = count-is seen leaves Pending.Idle was state f.good i b.low b.high b.once in
        let left : (state.inst i).begins < 4294967295 = fewer (state.inst i).begins (ap (λ (u : TxnId). u.seq) made.0) fits in
        let fits' = begun-fits i t seen leaves was (parts new) w f b.low b.high b.up has made.0
        (subst (λ d. Good (tell.seen d) (tell.leaves d) Pending.Idle (parts new) (began i t state)) b.same made.1) in
        let step : Step state (Begin i) (reply.Began t) (began i t state) =
        subst (λ (u : TxnId). Step state (Begin i) (reply.Began u) (began i u state)) (sym made.0)
        (begin-step state i up left (subst (λ (n : ℕ). n < 64) (sym count) few)) in
        let turns : Turns w (Begin i) (reply.Began t) (begun_core i t w) = record {
          wanted = None;
          near = tt;
          plays = record { step = step; waits = λ u. refl };
          exact = tt;
          unused = tt;
          moves = ((tt, (tt, (tt, (tt, tt)))), refl);
          within = tt;
          sums = refl;
        } in (
          begun_core i t w,
          still-serves tell (Begin i) (reply.Began t) old new w (begun_core i t w) (sym b.same) b.now f turns
              (moved-fits tell old new b.same (begun_core i t w) fits'),
        ),
    ap tell.faults b.same,
  )
    where
      fewer : (n : ℕ) {k : ℕ} → k ≡ n + 1 → k < 2 ^ 32 → n < 4294967295
      fewer n e l = omega (arith, e, l)

module _ {G : Type 0} (tell : Telling G) (i : ℕ) (old : Complex G) (low : 1 ≤ i) (high : i ≤ 8)
    (now : (img : DeviceImages) → tell.since old.rig (tell.moment old.rig) img → Leaves (tell.leaves old.rig) img) where
  pub down-served : (status_at (parts old) i ≡ S.Up → ⊥) → Serving tell (Begin i) (refused R.Down) old old
  down-served down = (
    λ w f. (
      passed w w.scene.waits (Begin i) (reply.Refused R.Down),
      kept-serves tell old old refl refl now w f (Begin i) (reply.Refused R.Down) tt
          (down-turns i (tell.seen old.rig) (tell.leaves old.rig) (parts old) w f low high down),
    ),
    refl,
  )
