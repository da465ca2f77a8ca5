-- The Start of an instance's epoch is under way: a complex that is good is good, too, where no more joins of the instance failed
-- than that epoch tells. For what a crash leaves of `join` of src/joining.rt.
use Rattle.std.proofs.Common.{◌≡◌, ◌≢◌, inl, inr, ⊎_elim, ℕ, ◌+◌, ◌<◌, ◌≤◌, Bool, false, cond, List, [], ◌∷◌, ◌++◌, refl, sym, ap, ◌∙◌, subst, arith, eq-eqb, ne_eqb}
use Rattle.std.specs.Prelude.{is_some}
use Rattle.std.proofs.lemmas.Bool.{cases_eq}
use Rattle.sd_base.specs.Twin.{chosen_body}
use Rattle.sd_base.specs.declared.ids.TxnId.{TxnId}
use Rattle.sd_base.specs.declared.place.Status.{Status}
use Rattle.sd_base.specs.declared.place.Status.TheVariants as S
use Rattle.sd_logrec.specs.Kept.{Master, master}
use Rattle.sd_logrec.specs.declared.record.Record.{Record}
use Rattle.sd_log.specs.Logs.{LogState, forced}
use Rattle.sd_model.specs.Listed.{Below, EachBelow}
use Rattle.sd_model.specs.Lives.{SuitsStatus}
use Rattle.sd_model.specs.State.{State, put_inst}
use Rattle.sd_model.specs.declared.act.Inst.{Inst}
use Rattle.sd_rig.specs.Devices as rig
use Rattle.sd_txn.specs.Transactions.{begins_in}
use Rattle.sd_chain.specs.Checks.{Follow, Past, after_record, past_of}
use Rattle.sd_chain.specs.Images.{Keeps}
use Rattle.sd_chain.specs.Records.{Each}
use Rattle.sd_chain.specs.Logs.{Outcomes, after_records, all_at, past_at, records_at}
use Rattle.sd_chain.specs.Soundly.{LogIsSound}
use Rattle.sd_chain.proofs.Epochs.{OnTheWay, epoch-rises, way-after}
use Rattle.sd_chain.proofs.Kept.{forced-records}
use Rattle.sd_state.specs.Good.{Good, Half, IsInstance, IsOfBegun, IsStarting}
use Rattle.sd_state.specs.Images.{IsEpochOf, leaves_by, log_by}
use Rattle.sd_state.specs.Parts.{Parts, epoch_at, is_loose, log_at, status_at, txns_at}
use Rattle.sd_state.specs.Values.{Pending, starts_of}
use Rattle.sd_state.proofs.Standing.{no-place, one-place}

-- ---- the list of those that began hangs on no count of failed joins

each-below : (f f' : ℕ → Inst) → ((j : ℕ) → (f' j).epoch ≡ (f j).epoch) → ((j : ℕ) → (f' j).status ≡ (f j).status)
    → ((j : ℕ) → (f' j).begins ≡ (f j).begins) → (ts : List TxnId) → EachBelow f ts → EachBelow f' ts
each-below f f' epoch status begins [] b = tt
each-below f f' epoch status begins (t ∷ ts) b = (one b.0, each-below f f' epoch status begins ts b.1)
  where
    one : Below f t → Below f' t
    one (inl low) = inl (subst (λ (n : ℕ). t.epoch < n) (sym (epoch t.inst)) low)
    one (inr own) = inr (
      own.0 ∙ sym (epoch t.inst),
      λ up. subst (λ (n : ℕ). t.seq ≤ n) (sym (begins t.inst)) (own.1 (sym (status t.inst) ∙ up)),
    )

-- joins of instance i failed so often
abbrev pub failed_so : ℕ → ℕ → State → State
failed_so i n m = put_inst i (record (m.inst i) { failed = n }) m

module _ (i n : ℕ) (seen : rig.DeviceImages) (leaves : Outcomes) (c : Parts) (m : State) (low : 1 ≤ i) (high : i ≤ 8)
    (g : Good seen leaves (Pending.Starts i) c m) (settled : is_loose c i ≡ false)
    (is : (m.inst i).epoch + 1 + n ≡ epoch_at c i) where
  abbrev few : State
  few = failed_so i n m

  abbrev own_inst : Inst
  own_inst = record (m.inst i) { failed = n }

  -- what of an instance is no count of failed joins
  inst-same : {A : Type 0} (P : Inst → A) → P own_inst ≡ P (m.inst i) → (j : ℕ) → P (few.inst j) ≡ P (m.inst j)
  inst-same P own j = ⊎_elim
      (λ e. ap (λ (b : Bool). P (cond b own_inst (m.inst j))) (eq-eqb i j (sym e)) ∙ own ∙ ap (λ (k : ℕ). P (m.inst k)) (sym e))
      (λ ne. ap (λ (b : Bool). P (cond b own_inst (m.inst j))) (ne_eqb i j (λ e. ne (sym e))))
      (cases_eq j i)

  pub few-status : (j : ℕ) → (few.inst j).status ≡ (m.inst j).status
  few-status = inst-same {A = Status} (λ x. x.status) refl

  pub few-epoch : (j : ℕ) → (few.inst j).epoch ≡ (m.inst j).epoch
  few-epoch = inst-same {A = ℕ} (λ x. x.epoch) refl

  few-begins : (j : ℕ) → (few.inst j).begins ≡ (m.inst j).begins
  few-begins = inst-same {A = ℕ} (λ x. x.begins) refl

  pub few-failed : (few.inst i).failed ≡ n
  few-failed = ap (λ (b : Bool). (cond b own_inst (m.inst i)).failed) (eq-eqb i i refl)

  few-else : (j : ℕ) → j ≢ i → few.inst j ≡ m.inst j
  few-else j ne = ap (λ (b : Bool). cond b own_inst (m.inst j)) (ne_eqb i j (λ e. ne (sym e)))

  -- ---- the epoch of the log

  -- no record leads to an earlier epoch than those before it
  rises : (inst : ℕ) (chosen : Bool) (place : Master) (xs ys : List Record) (past : Past)
      → Follow inst chosen place past (xs ++ ys)
      → OnTheWay place past → (after_records past xs).epoch ≤ (after_records past (xs ++ ys)).epoch
  rises inst chosen place [] ys past f way = epoch-rises inst chosen place past ys f way
  rises inst chosen place (x ∷ xs) ys past f way =
      rises inst chosen place xs ys (after_record past x) f.3 (way-after place past x way)

  abbrev once : Keeps
  once j = false

  left-once : leaves_by c once leaves i (seen i)
  left-once = (((g.settled i low high settled).only (seen i)).1 refl, no-place _ _ (g.settled i low high settled).one_place)

  own-low : ((m.inst i).epoch ≤ (past_at (master (seen i)) (log_at c i)).epoch)
      × ((m.inst i).epoch ≤ (past_at (master (seen i)) (forced (log_at c i))).epoch)
  own-low = let both = (g.half once).epochs i low high (seen i) left-once in (both.0.low, both.1.low)

  own-high : ((past_at (master (seen i)) (log_at c i)).epoch ≤ epoch_at c i)
      × ((past_at (master (seen i)) (forced (log_at c i))).epoch ≡ epoch_at c i)
  own-high =
      let log : LogState = log_at c i in
      let place : Master = master (seen i) in
      let sound : LogIsSound i (seen i) (forced log) = ((g.half once).soundly.ready i low high (seen i) left-once).sound_forced in
      let follow : Follow i (is_some (chosen_body 0 64 (seen i))) place (past_of place) (records_at log ++ log.tail) =
      subst (Follow i (is_some (chosen_body 0 64 (seen i))) place (past_of place)) (forced-records log) sound.follow in
      let up = rises i (is_some (chosen_body 0 64 (seen i))) place (records_at log) log.tail (past_of place) follow (inr refl) in
      let whole : (past_at place (forced log)).epoch ≡ (after_records (past_of place) (records_at log ++ log.tail)).epoch =
      ap (λ (rs : List Record). (after_records (past_of place) rs).epoch) (forced-records log) in
      let most = (g.settled i low high settled).epoch in
      (omega (arith, up, whole, most), most)

  epoch-own : (e : ℕ) → (m.inst i).epoch ≤ e → e ≤ epoch_at c i → IsEpochOf few (Pending.Starts i) i e
  epoch-own e least most =
      let own = few-epoch i in
      let count = few-failed in
      let one : starts_of (Pending.Starts i) i ≡ 1 = ap {B = ℕ} (λ (b : Bool). cond b 1 0) (eq-eqb i i refl) in
      record { low = omega (arith, own, least); high = omega (arith, own, count, one, most, is) }

  epoch-else : (j e : ℕ) → j ≢ i → IsEpochOf m (Pending.Starts i) j e → IsEpochOf few (Pending.Starts i) j e
  epoch-else j e ne was = record {
    low = subst (λ (x : Inst). x.epoch ≤ e) (sym (few-else j ne)) was.low;
    high = subst (λ (x : Inst). e ≤ x.epoch + x.failed + starts_of (Pending.Starts i) j) (sym (few-else j ne)) was.high;
  }

  -- ---- wherever logs begin

  module _ (moved : Keeps) where
    abbrev h : Half seen (leaves_by c moved leaves) (log_by c moved) (Pending.Starts i) c m
    h = g.half moved

    abbrev Both : ℕ → List ℕ → LogState → Type 0
    Both j bytes l = IsEpochOf few (Pending.Starts i) j (past_at (master bytes) l).epoch
        × IsEpochOf few (Pending.Starts i) j (past_at (master bytes) (forced l)).epoch

    here : (bytes : List ℕ) → leaves i bytes → Both i bytes (log_by c moved i)
    here bytes left =
        let s = g.settled i low high settled in
        let least = own-low in
        let most = own-high in
        let last = own-high.1 in
        subst (Both i bytes) (sym (one-place c moved i s.one_place))
        (subst (λ (b : List ℕ). Both i b (log_at c i)) (sym ((s.only bytes).0 left))
        (epoch-own _ least.0 most.0, epoch-own _ least.1 (omega (arith, last))))

    few-half : Half seen (leaves_by c moved leaves) (log_by c moved) (Pending.Starts i) c few
    few-half = record {
      coherent = h.coherent;
      soundly = h.soundly;
      gives = h.gives;
      claimed = λ keeps t opens. let old = h.claimed keeps t opens in record { there = old.there; claims = old.claims };
      held = h.held;
      epochs = λ j lo hi bytes left. ⊎_elim
          (λ e. subst (λ (k : ℕ). Both k bytes (log_by c moved k)) (sym e)
          (here bytes (subst (λ (k : ℕ). leaves k bytes) e left.0)))
          (λ ne. let old = h.epochs j lo hi bytes left in (epoch-else j _ ne old.0, epoch-else j _ ne old.1))
          (cases_eq j i);
      checks = h.checks;
    }

  -- ---- the whole

  few-instance : (k : ℕ) → 1 ≤ k → k ≤ 8 → IsInstance c few k
  few-instance k lo hi = let old = g.instances k lo hi in
      record {
        status = old.status ∙ sym (few-status k);
        epoch = λ up. old.epoch up ∙ sym (few-epoch k);
        first = λ up. subst (λ (e : ℕ). 1 ≤ e) (sym (few-epoch k)) (old.first up);
        table = subst (λ (e : ℕ). (txns_at c k).epoch ≤ e) (sym (few-epoch k)) old.table;
        begins = λ up. ap (λ (e : ℕ). begins_in (txns_at c k) e) (few-epoch k) ∙ old.begins up ∙ sym (few-begins k);
        own = old.own;
        names = old.names;
      }

  rests : status_at c i ≡ S.Up → ⊥
  rests up = let start : IsStarting c m i = g.pending in ⊎_elim
      (λ clean. let clash = sym up ∙ clean in absurd (cc)) (λ again. let clash = sym up ∙ again in absurd (cc)) start.waits

  few-begun : (k : ℕ) → 1 ≤ k → k ≤ 8 → status_at c k ≡ S.Up → Each (IsOfBegun (few.inst k)) (all_at (log_at c k))
  few-begun k lo hi up = ⊎_elim
      (λ e. absurd (rests (sym (ap (status_at c) e) ∙ up)))
      (λ ne. subst (λ (x : Inst). Each (IsOfBegun x) (all_at (log_at c k))) (sym (few-else k ne)) (g.begun k lo hi up))
      (cases_eq k i)

  pub few-good : Good seen leaves (Pending.Starts i) c few
  few-good = record {
    shape = g.shape;
    half = few-half;
    places = g.places;
    others = g.others;
    settled = g.settled;
    disk_settled = g.disk_settled;
    disk_lsns = g.disk_lsns;
    last = g.last;
    owed = g.owed;
    owed_loose = g.owed_loose;
    kept = let k = g.kept in record { serial = k.serial; reads = k.reads; covered = k.covered; apart = k.apart };
    placed = record {
      stands = λ t. subst (λ (s : Status). SuitsStatus (m.part t).life s) (sym (few-status t.inst)) (g.placed.stands t);
      one = g.placed.one;
      shut = λ j closed. few-status 1 ∙ g.placed.shut j (sym (few-status j) ∙ closed);
    };
    listed = let l = g.listed in
        record {
          bounds = each-below m.inst few.inst few-epoch few-status few-begins m.begun l.bounds;
          there = l.there;
          once = l.once;
          doubts = l.doubts;
          cut_once = l.cut_once;
          cut_begun = l.cut_begun;
          cut_rests = l.cut_rests;
        };
    marked = record { sized = g.marked.sized };
    named = g.named;
    numbered = g.numbered;
    recoverers = record {
      each = λ j by recovers. ⊎_elim (λ own. inl own) (λ up. inr (few-status by ∙ up))
          (g.recoverers.each j by (sym (few-status j) ∙ recovers));
    };
    not_closed = λ closed. g.not_closed (sym (few-status 1) ∙ closed);
    instances = few-instance;
    told = λ k lo hi tells e. let old = g.told k lo hi tells e in
        record { rows = old.rows; owes = old.owes; reserves = old.reserves; spare = old.spare };
    at_rest = g.at_rest;
    begun = few-begun;
    at_work = g.at_work;
    going = g.going;
    pending = let start : IsStarting c m i = g.pending in
        record {
          waits = start.waits;
          above = subst (λ (e : ℕ). e < epoch_at c i) (sym (few-epoch i)) start.above;
          older = start.older;
        };
    gone = g.gone;
    locks = g.locks;
    asks = g.asks;
    checking = g.checking;
  }
