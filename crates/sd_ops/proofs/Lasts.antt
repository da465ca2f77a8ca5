-- A transaction is over: how the complex goes on fitting where it has no record, and where its last one, a Commit or an End, comes to
-- the log of its instance, which is forced, or whose force fails. For `commit` and `finish`.
use Rattle.std.proofs.Common.{◌≡◌, ◌≢◌, ◌⊎◌, ⊎_elim, inr, ℕ, suc, ◌+◌, ◌-◌, ◌^◌, ◌<◌, ◌≤◌, Bool, true, false, cond, eqb, List, [], ◌∷◌, ◌++◌, length, map, get_or, slice_set, append-nil, refl, sym, ap, ap₂, ◌∙◌, subst, arith}
use Rattle.std.specs.Prelude.{Option, None, Some, IsSome, ◌&&◌}
use Rattle.std.specs.Option.{option_and_then}
use Rattle.std.proofs.lemmas.Bool.{cases_eq}
use Rattle.std.proofs.lemmas.List.{get_or-set_same}
use Rattle.sd_base.specs.Ids.{same_txn}
use Rattle.sd_base.specs.Waits.{Wait, with_wait}
use Rattle.sd_base.specs.declared.ids.TxnId.{TxnId}
use Rattle.sd_base.specs.declared.place.Status.TheVariants as S
use Rattle.sd_base.proofs.SameIds.{ne-same}
use Rattle.sd_log.specs.Logs.{LogState, forced, with_record}
use Rattle.sd_logrec.specs.Spelling.{IsTxn, spelling}
use Rattle.sd_logrec.specs.View.{Rec, flat}
use Rattle.sd_logrec.specs.declared.record.Record.{Record}
use Rattle.sd_model.specs.Fields.{inst_of}
use Rattle.sd_model.specs.Scenes.{of_running}
use Rattle.sd_model.specs.State.{State, fall, gone}
use Rattle.sd_model.specs.declared.event.Event.{Event}
use Rattle.sd_model.specs.declared.event.Reply.{Reply}
use Rattle.sd_reclock.specs.Locks.{waits}
use Rattle.sd_rig.specs.Devices as rig
use Rattle.sd_rig.specs.Devices.{DeviceImages, Elapses, Span}
use Rattle.sd_txn.specs.Owing.{owed_of}
use Rattle.sd_txn.specs.Transactions.{Replaces, Transaction, Transactions, shut, span_at, state_at, txn_at, without}
use Rattle.sd_txn.specs.declared.state.TxnState.{TxnState}
use Rattle.sd_chain.specs.Checks.{owed, reserve}
use Rattle.sd_chain.specs.Fates.{commits}
use Rattle.sd_chain.specs.Records as chain
use Rattle.sd_chain.specs.Records.{IsOpen, ends, home}
use Rattle.sd_chain.proofs.Lists.{Each-append}
use Rattle.sd_chain.specs.Logs.{HasRecord, Outcomes, all_at, base_at, next_lsn}
use Rattle.sd_chain.proofs.Appends.{appended-log}
use Rattle.sd_chain.proofs.Kept.{forced-base, forced-tail}
use Rattle.sd_chain.proofs.Owing.{end-owes}
use Rattle.sd_chain.proofs.Room.{end-len}
use Rattle.sd_world.specs.Bounds.{Bounds, TellsNoPlace, bounds_after, cost, counts, is_wait, least_after, masters_after, slots_after}
use Rattle.sd_world.specs.Serving.{Core, Passes, Serves, Telling, Turns}
use Rattle.sd_world.proofs.Sums.{works-four}
use Rattle.sd_state.specs.Complexes.{parts}
use Rattle.sd_state.specs.Forcing.{KeepMasters, with_failed, with_forced}
use Rattle.sd_state.specs.Good.{Good}
use Rattle.sd_state.specs.Images.{Stands}
use Rattle.sd_state.specs.Parts.{Parts, acting, actor, among, is_loose, log_at, no_log, no_txns, owed_at, status_at, txns_at}
use Rattle.sd_state.specs.Tables.{tells_log}
use Rattle.sd_state.specs.Values.{Pending, is_doubt}
use Rattle.sd_state.specs.Working.{with_working}
use Rattle.sd_state.specs.declared.complex.Complex.{Complex}
use Rattle.sd_state.proofs.Items.{item-kept, item-set}
use Rattle.sd_state.proofs.WorkingGood.{working-settled}
use Rattle.sd_update.specs.Sealing.{HasEnd}
use Rattle.sd_update.proofs.SealedCalls.{has}
use Rattle.sd_moves.specs.Falling.{IsFallen, with_fallen}
use Rattle.sd_fits.specs.Fits.{Fits, FitsBounds, FitsDoubts, FitsPages}
use Rattle.sd_fits.specs.Serving.{fits_by, stands_for}
use Rattle.sd_fits.proofs.Disk.{other-device}
use Rattle.sd_fits.proofs.Falling.{IsElsewhere, fallen-fits, fell-waits, fell_core, fell_waits, numbers_of}
use Rattle.sd_fits.proofs.Forcing.{failed-bounds, failed-doubts, failed-pages, forced-bounds, forced-doubts, forced-pages}
use Rattle.sd_fits.proofs.Heads.{some-there}
use Rattle.sd_fits.proofs.Leaving.{left-fits, left_core}
use Rattle.sd_fits.proofs.Sealing.{AreMore, sealed-bounds, sealed-doubts, sealed-pages}
use Rattle.sd_fits.proofs.Served.{bounds-stay, ended-wait, still-serves}
use Rattle.sd_fits.proofs.Still.{moved-fits}

-- ---- sums that grow by nothing

-- An event that adds nothing to slots, logs and masters takes LSNs still, where its reply doesn't just wait.
pub idle-more : (i : ℕ) (b : Bounds) (e : Event) (r : Reply) → is_wait r ≡ false → ((p : ℕ) → slots_after b.slots e r p ≡ b.slots p)
    → ((p : ℕ) → least_after b.least e r p ≡ b.least p) → ((j : ℕ) → masters_after b.masters e j ≡ b.masters j) → AreMore i 0 b (bounds_after b e r)
idle-more i b e r works slots least masters = record {
  slots = slots;
  least = least;
  here = grown (cond (eqb (inst_of e) i) (cond (counts e r) (cost e) 0) 0) (b.reach i);
  reach = λ j. raised (cond (eqb (inst_of e) j) (cond (counts e r) (cost e) 0) 0) (b.reach j);
  lsns = let four = works-four b e r works in omega (arith, four);
  masters = λ j. kept (masters_after b.masters e j) (b.masters j) (masters j);
}
  where
    grown : (x n : ℕ) → n + 0 ≤ x + n
    grown x n = omega arith

    raised : (x n : ℕ) → n ≤ x + n
    raised x n = omega arith

    kept : (x n : ℕ) → x ≡ n → n ≤ x
    kept x n e = omega (arith, e)

-- ---- a transaction without a record

-- Its row and its locks go, and it is gone from the world.
pub bare-serves : {G : Type 0} (tell : Telling G) (t : TxnId) (old new : Complex G) → new.rig ≡ old.rig
    → ((img : DeviceImages) → tell.since old.rig (tell.moment old.rig) img → rig.Leaves (tell.leaves old.rig) img)
    → 1 ≤ home t → home t ≤ 8 → status_at (parts old) (home t) ≡ S.Up
    → parts new ≡ with_working (home t) (without (txns_at (parts old) (home t)) t) (parts new).locks (parts old)
    → ((u : TxnId) → waits (parts new).locks u ≡ cond (same_txn t u) None (waits (parts old).locks u))
    → (w : Core) → fits_by tell.seen tell.leaves old w
    → (m' : State) → ((u : TxnId) → m'.part u ≡ cond (same_txn t u) gone (w.scene.state.part u))
    → Good (tell.seen new.rig) (tell.leaves new.rig) Pending.Idle (parts new) m'
    → (e : Event) (r : Reply) → TellsNoPlace r → Turns w e r (left_core t m' (bounds_after w.bounds e r) w)
    → (w' : Core) × Serves {C = Complex G} tell stands_for (λ d. d.rig) (fits_by tell.seen tell.leaves) e r old new w w'
bare-serves {G} tell t old new same now low high up is unwaited w f m' part good e r told turns =
    let b : Bounds = bounds_after w.bounds e r in
    let next : Core = left_core t m' b w in (
      next,
      still-serves tell e r old new w next (sym same) now f turns (moved-fits tell old new same next
          (left-fits t (tell.seen old.rig) (tell.seen old.rig) (tell.leaves old.rig) (tell.leaves old.rig) Pending.Idle (parts old) (parts old)
          (parts new) w m' b f
          (record {
            low = low;
            high = high;
            mid_good = f.good;
            idle = f.idle;
            up = up;
            is = is;
            waits = unwaited;
            good = subst (λ (d : G). Good (tell.seen d) (tell.leaves d) Pending.Idle (parts new) m') same good;
            part = part;
            spans = λ u ne. refl;
            opens = λ u ne opens. opens;
          })
          f.pages (bounds-stay (tell.seen old.rig) (parts old) w.bounds e r told f.bounds) f.doubts)),
    )

-- ---- a transaction's last record, and its force

-- A transaction of the world has a number that a record can spell.
pub spelled-txn : (t : TxnId) (s : TxnState) (seen : DeviceImages) (leaves : Outcomes) (c : Parts) (w : Core) → Fits seen leaves c w
    → 1 ≤ home t → home t ≤ 8 → t.epoch < 2 ^ 32 → t.seq < 2 ^ 32 → state_at (txns_at c (home t)) t ≡ Some s → IsTxn t
spelled-txn t s seen leaves c w f low high epoch seq stands =
    let number = f.good.numbered t (some-there seen leaves Pending.Idle c w.scene.state f.good t s low high stands) in
    record { low = low; high = high; epoch = (number.0, epoch); seq = (number.1, seq) }

-- What is known of the last record of a transaction that has others, and whose instance is up: what is sealed has it, and then its
-- log was forced, or the force failed.
pub record IsEnding {G : Type 0} (tell : Telling G) (t : TxnId) (made : Transaction → Record) (pend : Pending) (old sealed then : Complex G)
    : Type 0 where
  pub low : 1 ≤ home t
  pub high : home t ≤ 8
  pub up : status_at (parts old) (home t) ≡ S.Up
  pub there : IsSome (span_at (txns_at (parts old) (home t)) t)
  pub reads : tell.leaves old.rig 0 (tell.seen old.rig 0)
  pub rig : sealed.rig ≡ old.rig
  pub ends : HasEnd t made (parts old) (parts sealed)
  pub seals : (m : State) → Good (tell.seen old.rig) (tell.leaves old.rig) Pending.Idle (parts old) m
      → Good (tell.seen sealed.rig) (tell.leaves sealed.rig) pend (parts sealed) m
  pub good : (any : Pending) (m : State) → Good (tell.seen sealed.rig) (tell.leaves sealed.rig) any (parts sealed) m
      → Good (tell.seen then.rig) (tell.leaves then.rig) any (parts then) m
  pub images : (any : Pending) (m : State) → Good (tell.seen sealed.rig) (tell.leaves sealed.rig) any (parts sealed) m
      → Span (tell.moment sealed.rig) (tell.since then.rig) (Stands m any)
  pub time : Elapses (tell.moment sealed.rig) (tell.moment then.rig) (tell.since sealed.rig) (tell.since then.rig)
  pub others : (d : ℕ) → d ≢ home t → tell.seen then.rig d ≡ tell.seen sealed.rig d
  pub masters : KeepMasters (tell.leaves sealed.rig) (tell.leaves then.rig)

-- by what each call tells
pub ending : {G : Type 0} (tell : Telling G) (t : TxnId) (made : Transaction → Record) (pend : Pending) (old sealed then : Complex G)
    → 1 ≤ home t → home t ≤ 8 → status_at (parts old) (home t) ≡ S.Up → IsSome (span_at (txns_at (parts old) (home t)) t)
    → ((dev : ℕ) → dev ≤ 8 → tell.leaves old.rig dev (tell.seen old.rig dev))
    → sealed.rig ≡ old.rig → HasEnd t made (parts old) (parts sealed)
    → ((m : State) → Good (tell.seen old.rig) (tell.leaves old.rig) Pending.Idle (parts old) m
    → Good (tell.seen sealed.rig) (tell.leaves sealed.rig) pend (parts sealed) m)
    → ((any : Pending) (m : State) → Good (tell.seen sealed.rig) (tell.leaves sealed.rig) any (parts sealed) m
    → Good (tell.seen then.rig) (tell.leaves then.rig) any (parts then) m)
    → ((any : Pending) (m : State) → Good (tell.seen sealed.rig) (tell.leaves sealed.rig) any (parts sealed) m
    → Span (tell.moment sealed.rig) (tell.since then.rig) (Stands m any))
    → Elapses (tell.moment sealed.rig) (tell.moment then.rig) (tell.since sealed.rig) (tell.since then.rig)
    → ((d : ℕ) → d ≢ home t → tell.seen then.rig d ≡ tell.seen sealed.rig d)
    → KeepMasters (tell.leaves sealed.rig) (tell.leaves then.rig) → IsEnding tell t made pend old sealed then
ending tell t made pend old sealed then low high up there reads rig ends seals good images time others masters = record {
  low = low;
  high = high;
  up = up;
  there = there;
  reads = reads 0 (omega arith);
  rig = rig;
  ends = ends;
  seals = seals;
  good = good;
  images = images;
  time = time;
  others = others;
  masters = masters;
}

-- What is known of the record in a world: it ends t, which has no other end, it is the next of the log, and it is no Commit of one in
-- doubt. The world's sums with it are these, which have grown by nothing.
pub record IsLastOf (t : TxnId) (y : Record) (b : Bounds) (c : Parts) (w : Core) : Type 0 where
  pub own : (flat y).txn ≡ t
  pub kind : ends (flat y).kind ≡ true
  pub quiet : chain.changes (flat y).kind ≡ false
  pub next : (flat y).lsn ≡ next_lsn (log_at c (home t)) 0
  pub alive : IsOpen t (all_at (log_at c (home t)))
  pub apart : (u : TxnId) → is_doubt (w.scene.state.part u).life ≡ true → commits u (flat y) ≡ false
  pub more : AreMore (home t) 0 w.bounds b

module _ {G : Type 0} {tell : Telling G} {t : TxnId} {made : Transaction → Record} {pend : Pending} {old sealed then : Complex G}
    (k : IsEnding tell t made pend old sealed then) where
  abbrev i : ℕ
  i = home t

  abbrev seen : DeviceImages
  seen = tell.seen old.rig

  abbrev leaves : Outcomes
  leaves = tell.leaves old.rig

  abbrev seen' : DeviceImages
  seen' = tell.seen then.rig

  abbrev leaves' : Outcomes
  leaves' = tell.leaves then.rig

  abbrev c : Parts
  c = parts old

  abbrev mid : Parts
  mid = parts sealed

  abbrev done : Parts
  done = parts then

  abbrev log : LogState
  log = log_at c i

  abbrev y : Record
  y = made k.ends.x

  module _ (w : Core) (f : fits_by tell.seen tell.leaves old w) where
    abbrev m : State
    m = w.scene.state

    sealed-good : Good (tell.seen sealed.rig) (tell.leaves sealed.rig) pend mid m
    sealed-good = k.seals m f.good

    ending-good : Good seen leaves pend mid m
    ending-good = subst (λ (d : G). Good (tell.seen d) (tell.leaves d) pend mid m) k.rig sealed-good

    pub then-good : Good seen' leaves' pend done m
    then-good = k.good pend m sealed-good

    disk : seen' 0 ≡ seen 0
    disk = k.others 0 (other-device i k.low) ∙ ap (λ (d : G). tell.seen d 0) k.rig

    kept : KeepMasters leaves leaves'
    kept = subst (λ (d : G). KeepMasters (tell.leaves d) leaves') k.rig k.masters

    pub was-settled : is_loose c i ≡ false
    was-settled = working-settled seen leaves Pending.Idle c m i f.good f.idle k.low k.up

    pub settled : is_loose mid i ≡ false
    settled = ap (λ (p : Parts). is_loose p i) k.ends.is ∙ was-settled

    -- what a crash meanwhile leaves is a state before or after
    passes-to : (new : Complex G) (m' : State) → new.rig ≡ then.rig
        → ((img : DeviceImages) → Stands m pend img → stands_for img m ⊎ stands_for img m')
        → Passes tell stands_for old.rig new.rig m m'
    passes-to new m' same each = subst (λ (d : G). Passes tell stands_for old.rig d m m') (sym same)
        (subst (λ (d : G). Passes tell stands_for d then.rig m m') k.rig (record {
          time = k.time;
          span = record { each = λ img s. each img ((k.images pend m sealed-good).each img s) };
        }))

    -- ---- the record has come

    log-here : log_at mid i ≡ with_record y k.ends.spare log
    log-here = ap (λ (p : Parts). log_at p i) k.ends.is
        ∙ item-set no_log c.logs i (with_record y k.ends.spare log) k.low k.high f.good.shape.logs

    log-else : (j : ℕ) → j ≢ i → log_at mid j ≡ log_at c j
    log-else j ne = ap (λ (p : Parts). log_at p j) k.ends.is ∙ item-kept no_log c.logs i (with_record y k.ends.spare log) k.low j ne

    all-here : all_at (log_at mid i) ≡ all_at log ++ flat y ∷ []
    all-here = ap all_at log-here ∙ appended-log log y k.ends.spare

    txns-else : (j : ℕ) → j ≢ i → txns_at mid j ≡ txns_at c j
    txns-else j ne = ap (λ (p : Parts). txns_at p j) k.ends.is ∙ item-kept no_txns c.txns i k.ends.table k.low j ne

    pub txns-here : txns_at mid i ≡ k.ends.table
    txns-here = ap (λ (p : Parts). txns_at p i) k.ends.is ∙ item-set no_txns c.txns i k.ends.table k.low k.high f.good.shape.txns

    module _ (b : Bounds) (last : IsLastOf t y b c w) where
      row : Replaces (txns_at c i) k.ends.table t k.ends.x (shut k.ends.x)
      row = subst (λ (u : TxnId). Replaces (txns_at c i) k.ends.table u k.ends.x (shut k.ends.x)) last.own k.ends.ended.row

      recorded : HasRecord t (all_at log)
      recorded = has t k.ends.x seen leaves Pending.Idle c m f.good k.reads k.low k.high was-settled (ap tells_log k.up) row.was k.ends.ended.there

      less : (reserve (all_at log ++ flat y ∷ []) + 31 ≤ reserve (all_at log)) × (suc (owed (all_at log ++ flat y ∷ [])) ≤ owed (all_at log))
      less = end-owes (all_at log) (flat y) last.kind (subst (λ (u : TxnId). IsOpen u (all_at log)) (sym last.own) last.alive)
          (subst (λ (u : TxnId). HasRecord u (all_at log)) (sym last.own) recorded)

      pub takes : reserve (all_at log ++ flat y ∷ []) + length (spelling y) + 5 ≤ reserve (all_at log) + 0
      takes = let falls = less.0 in let len = end-len y last.kind in omega (arith, falls, len)

      owes-here : owed_of (txns_at mid i) ≤ owed_of (txns_at c i)
      owes-here =
          let told = (f.good.told i k.low k.high (ap tells_log k.up) was-settled).owes in
          let told' = (ending-good.told i k.low k.high (ap tells_log (ap (λ (p : Parts). status_at p i) k.ends.is ∙ k.up)) settled).owes in
          let falls = less.1 in
          let same : owed (all_at (log_at mid i)) ≡ owed (all_at log ++ flat y ∷ []) = ap owed all-here in
          omega (arith, told, told', falls, same)

      pub owes : (j : ℕ) → 1 ≤ j → j ≤ 8 → owed_of (among no_txns (slice_set c.txns (i - 1) k.ends.table) j) ≤ owed_of (txns_at c j)
      owes j lo hi = subst (λ (p : Parts). owed_of (txns_at p j) ≤ owed_of (txns_at c j)) k.ends.is (⊎_elim
          (λ e. subst (λ (h : ℕ). owed_of (txns_at mid h) ≤ owed_of (txns_at c h)) (sym e) owes-here)
          (λ ne. let same = ap owed_of (txns-else j ne) in omega (arith, same))
          (cases_eq j i))

      ending-pages : FitsPages seen leaves mid w.pages
      ending-pages = subst (λ (p : Parts). FitsPages seen leaves p w.pages) (sym k.ends.is)
          (sealed-pages i k.ends.spare 0 y (slice_set c.txns (i - 1) k.ends.table) c.epochs seen leaves Pending.Idle c m f.good k.low k.high
          was-settled last.quiet last.next takes owes w.pages f.pages)

      ending-bounds : FitsBounds seen leaves mid b
      ending-bounds = subst (λ (p : Parts). FitsBounds seen leaves p b) (sym k.ends.is)
          (sealed-bounds i k.ends.spare 0 y (slice_set c.txns (i - 1) k.ends.table) c.epochs seen leaves Pending.Idle c m f.good k.low k.high
          was-settled last.quiet last.next takes owes w.bounds b last.more f.bounds)

      pub ending-doubts : FitsDoubts seen mid m
      ending-doubts = subst (λ (p : Parts). FitsDoubts seen p m) (sym k.ends.is)
          (sealed-doubts i k.ends.spare 0 y (slice_set c.txns (i - 1) k.ends.table) c.epochs seen leaves Pending.Idle c m f.good k.low k.high
          was-settled last.quiet last.next takes owes m last.apart f.doubts)

      -- of the others the tables and the logs tell the same
      ending-spans : (u : TxnId) → t ≢ u → span_at (txns_at mid (home u)) u ≡ span_at (txns_at c (home u)) u
      ending-spans u ne = ap (option_and_then (λ (x : Transaction). x.span)) (⊎_elim
          (λ e. subst (λ (j : ℕ). txn_at (txns_at mid j) u ≡ txn_at (txns_at c j) u) (sym e)
          (ap (λ (tb : Transactions). txn_at tb u) txns-here ∙ row.others u (λ s. ne (sym s))))
          (λ nk. ap (λ (tb : Transactions). txn_at tb u) (txns-else (home u) nk))
          (cases_eq (home u) i))

      -- the record is no end of theirs
      no-end : (u : TxnId) → t ≢ u → (ends (flat y).kind && same_txn (flat y).txn u) ≡ false
      no-end u ne = ap (λ (b : Bool). b && same_txn (flat y).txn u) last.kind ∙ ap (λ (v : TxnId). same_txn v u) last.own ∙ ne-same t u ne

      ending-opens : (u : TxnId) → t ≢ u → IsOpen u (all_at (log_at c (home u))) → IsOpen u (all_at (log_at mid (home u)))
      ending-opens u ne opens = ⊎_elim
          (λ e. subst (λ (j : ℕ). IsOpen u (all_at (log_at mid j))) (sym e)
          (subst (IsOpen u) (sym all-here)
          (Each-append _ (all_at log) (flat y ∷ []) (subst (λ (j : ℕ). IsOpen u (all_at (log_at c j))) e opens) (no-end u ne, tt))))
          (λ nk. subst (λ (l : LogState). IsOpen u (all_at l)) (sym (log-else (home u) nk)) opens)
          (cases_eq (home u) i)

  -- ---- the log is forced

  module _ (is_forced : is_loose mid i ≡ false → done ≡ with_forced i (forced (log_at mid i)) (owed_at done i) mid)
      (w : Core) (f : fits_by tell.seen tell.leaves old w) where
    is-forced : done ≡ with_forced i (forced (log_at mid i)) (owed_at done i) mid
    is-forced = is_forced (settled w f)

    pub forced-idle : done.due ≡ None
    forced-idle = ap (λ (p : Parts). p.due) is-forced ∙ ap (λ (p : Parts). p.due) k.ends.is ∙ f.idle

    pub forced-up : status_at done i ≡ S.Up
    forced-up = ap (λ (p : Parts). status_at p i) is-forced ∙ ap (λ (p : Parts). status_at p i) k.ends.is ∙ k.up

    pub forced-txns : txns_at done i ≡ k.ends.table
    forced-txns = ap (λ (p : Parts). txns_at p i) is-forced ∙ txns-here w f

    done-here : log_at done i ≡ forced (log_at mid i)
    done-here = ap (λ (p : Parts). log_at p i) is-forced
        ∙ item-set no_log mid.logs i (forced (log_at mid i)) k.low k.high (ending-good w f).shape.logs

    -- it has no tail: the end may be told
    pub no-tail-left : (log_at done i).tail ≡ []
    no-tail-left = ap (λ (l : LogState). l.tail) done-here ∙ forced-tail (log_at mid i)

    done-else : (j : ℕ) → j ≢ i → log_at done j ≡ log_at mid j
    done-else j ne = ap (λ (p : Parts). log_at p j) is-forced ∙ item-kept no_log mid.logs i (forced (log_at mid i)) k.low j ne

    owes-is : owed_at done i ≡ owed (all_at (log_at mid i))
    owes-is = (then-good w f).owed i k.low k.high (ap (λ (p : Parts). is_loose p i) is-forced ∙ settled w f)
        ∙ ap (λ (l : LogState). owed (base_at l)) done-here ∙ ap owed (forced-base (log_at mid i))

    same-all : (j : ℕ) → all_at (log_at done j) ≡ all_at (log_at mid j)
    same-all j = ⊎_elim
        (λ e. subst (λ (h : ℕ). all_at (log_at done h) ≡ all_at (log_at mid h)) (sym e)
        (ap all_at done-here
        ∙ ap₂ (λ (base : List Rec) (tail : List Record). base ++ map flat tail) (forced-base (log_at mid i)) (forced-tail (log_at mid i))
        ∙ append-nil (all_at (log_at mid i))))
        (λ ne. ap all_at (done-else j ne))
        (cases_eq j i)

    module _ (b : Bounds) (last : IsLastOf t y b c w) where
      done-pages : FitsPages seen' leaves' done w.pages
      done-pages = subst (λ (p : Parts). FitsPages seen' leaves' p w.pages) (sym is-forced)
          (forced-pages i (owed_at done i) seen seen' leaves leaves' pend mid (m w f) (ending-good w f) k.low k.high (settled w f) (disk w f)
          owes-is w.pages (ending-pages w f b last))

      done-bounds : FitsBounds seen' leaves' done b
      done-bounds = subst (λ (p : Parts). FitsBounds seen' leaves' p b) (sym is-forced)
          (forced-bounds i (owed_at done i) seen seen' leaves leaves' pend mid (m w f) (ending-good w f) k.low k.high (settled w f) (disk w f)
          owes-is (kept w f) b (ending-bounds w f b last))

      done-doubts : FitsDoubts seen' done (m w f)
      done-doubts = subst (λ (p : Parts). FitsDoubts seen' p (m w f)) (sym is-forced)
          (forced-doubts i (owed_at done i) seen seen' leaves leaves' pend mid (m w f) (ending-good w f) k.low k.high (settled w f) (disk w f)
          owes-is (m w f) (ending-doubts w f b last))

      -- Then the transaction's row and its locks go, and it is gone from the world.
      pub left-serves : (new : Complex G) → new.rig ≡ then.rig
          → parts new ≡ with_working i (without (txns_at done i) t) (parts new).locks done
          → ((u : TxnId) → waits (parts new).locks u ≡ cond (same_txn t u) None (waits done.locks u))
          → (m' : State) → ((u : TxnId) → m'.part u ≡ cond (same_txn t u) gone (w.scene.state.part u))
          → Good (tell.seen new.rig) (tell.leaves new.rig) Pending.Idle (parts new) m'
          → (e : Event) (r : Reply) → Turns w e r (left_core t m' b w)
          → ((img : DeviceImages) → Stands w.scene.state pend img → stands_for img w.scene.state ⊎ stands_for img m')
          → (w' : Core) × Serves {C = Complex G} tell stands_for (λ d. d.rig) (fits_by tell.seen tell.leaves) e r old new w w'
      left-serves new same is unwaited m' part good e r turns each = (
        left_core t m' b w,
        record {
          turns = turns;
          fits_then = moved-fits tell then new same (left_core t m' b w) fits;
          passes = passes-to w f new m' same each;
        },
      )
        where
          fits : Fits seen' leaves' (parts new) (left_core t m' b w)
          fits = left-fits t seen seen' leaves leaves' pend c done (parts new) w m' b f
              (record {
                low = k.low;
                high = k.high;
                mid_good = then-good w f;
                idle = forced-idle;
                up = forced-up;
                is = is;
                waits = λ u. unwaited u ∙ ap (λ (p : Parts). cond {A = Option Wait} (same_txn t u) None (waits p.locks u)) is-forced
                    ∙ ap (λ (p : Parts). cond {A = Option Wait} (same_txn t u) None (waits p.locks u)) k.ends.is;
                good = subst (λ (d : G). Good (tell.seen d) (tell.leaves d) Pending.Idle (parts new) m') same good;
                part = part;
                spans = λ u ne. ap (λ (p : Parts). span_at (txns_at p (home u)) u) is-forced ∙ ending-spans w f b last u ne;
                opens = λ u ne opens. subst (IsOpen u) (sym (same-all (home u))) (ending-opens w f b last u ne opens);
              })
              done-pages done-bounds done-doubts

  -- ---- the force failed

  module _ (is_failed : done ≡ with_failed (actor mid i) i mid) (w : Core) (f : fits_by tell.seen tell.leaves old w) where
    actor-is : actor mid i ≡ i
    actor-is = ap (acting i) (ap (λ (p : Parts). status_at p i) k.ends.is ∙ k.up)

    -- the fall of its instance is due, by its log
    pub failed-due : (done.due ≡ None) ⊎ ((j : ℕ) × (done.due ≡ Some (i, j)) × (is_loose done j ≡ true))
    failed-due = inr (
      i,
      ap (λ (p : Parts). p.due) is_failed ∙ ap (λ (a : ℕ). Some (a, i)) actor-is,
      ap (λ (p : Parts). is_loose p i) is_failed ∙ loosed mid.loose (sealed-good w f).shape.loose,
    )
      where
        loosed : (loose : List Bool) → length loose ≡ 9 → get_or (slice_set loose i true) i true ≡ true
        loosed loose nine = get_or-set_same loose i true true (let high = k.high in omega (arith, nine, high))

    failed-else : IsElsewhere i c done
    failed-else = subst (IsElsewhere i c) (sym is_failed)
        (record { logs = log-else w f; txns = txns-else w f; waits = λ u. ap (λ (p : Parts). waits p.locks u) k.ends.is })

    -- Then its instance falls, from a state in which the transactions of others are as they were.
    module _ (b : Bounds) (last : IsLastOf t y b c w) (before : State)
        (part_else : (u : TxnId) → home u ≢ i → before.part u ≡ w.scene.state.part u)
        (doubts : FitsDoubts seen mid before) (new : Complex G) (same : new.rig ≡ then.rig)
        (is : parts new ≡ with_fallen i (parts new) done) (fallen : IsFallen i done (parts new))
        (good : Good (tell.seen new.rig) (tell.leaves new.rig) Pending.Idle (parts new) (fall i before)) where
      abbrev core_then : Core
      core_then = fell_core i before (numbers_of seen' leaves' (parts new)) b w

      fits-then : Fits seen' leaves' (parts new) core_then
      fits-then = fallen-fits i seen seen' leaves leaves' pend c done (parts new) (m w f) before w k.low k.high f (then-good w f) failed-else is
          fallen part_else b
          (subst (λ (p : Parts). FitsPages seen' leaves' p w.pages) (sym is_failed)
          (failed-pages (actor mid i) i seen seen' leaves leaves' pend mid (m w f) (ending-good w f) k.low k.high (settled w f) (disk w f) w.pages
          (ending-pages w f b last)))
          (subst (λ (p : Parts). FitsBounds seen' leaves' p b) (sym is_failed)
          (failed-bounds (actor mid i) i seen seen' leaves leaves' pend mid (m w f) (ending-good w f) k.low k.high (settled w f) (disk w f)
          (kept w f) b (ending-bounds w f b last)))
          (subst (λ (p : Parts). FitsDoubts seen' p before) (sym is_failed)
          (failed-doubts (actor mid i) i seen seen' leaves leaves' pend mid (m w f) (ending-good w f) k.low k.high (settled w f) (disk w f)
          before doubts))
          (subst (λ (d : G). Good (tell.seen d) (tell.leaves d) Pending.Idle (parts new) (fall i before)) same good)

      -- the event ends the transaction's wait, and no other's
      pub fell-wait : (u : TxnId) → fell_waits i w.scene.waits u ≡ of_running (fall i before) (with_wait t None w.scene.waits) u
      fell-wait = fell-waits i seen seen' leaves leaves' pend c done (parts new) (m w f) before w k.low k.high f (then-good w f) failed-else is
          fallen part_else (with_wait t None w.scene.waits)
          (λ u ne. ended-wait seen leaves c w f t u
          ∙ ap (λ (b : Bool). cond {A = Option Wait} b None (w.scene.waits u)) (ne-same t u (λ e. ne (sym (ap home e)))))

      pub fell-serves : (e : Event) (r : Reply) → Turns w e r core_then
          → ((img : DeviceImages) → Stands w.scene.state pend img → stands_for img w.scene.state ⊎ stands_for img (fall i before))
          → (w' : Core) × Serves {C = Complex G} tell stands_for (λ d. d.rig) (fits_by tell.seen tell.leaves) e r old new w w'
      fell-serves e r turns each = (
        core_then,
        record {
          turns = turns;
          fits_then = moved-fits tell then new same core_then fits-then;
          passes = passes-to w f new (fall i before) same each;
        },
      )
