-- Whatever a crash leaves stands for the serial table's state, and who may update a page is alone with it: for the laws.
use Rattle.std.proofs.Common.{◌≡◌, ◌≢◌, ◌⊎◌, ℕ, ◌≤◌, Bool, true, false, cond, eqb, inl, inr, List, map, refl, sym, ap, ap₂, ◌∙◌, subst, arith, eq-eqb, ne_eqb, ⊎_elim}
use Rattle.std.specs.Prelude.{Option, Some, None, IfSome}
use Rattle.std.specs.List.{list_any}
use Rattle.std.specs.Option.{option_map_or}
use Rattle.std.proofs.lemmas.Bool.{cases_eq}
use mathlib.Core.Path.{fun_ext}
use Rattle.sd_logrec.specs.Kept.{Master, Whole, kept, master}
use Rattle.sd_logrec.specs.View.{Rec}
use Rattle.sd_log.specs.Forces.{Forces, StandsEither, forced_at, forced_len}
use Rattle.sd_log.specs.Logs.{LogState, begun_at, forced}
use Rattle.sd_rig.specs.Devices.{AgreesOutside}
use Rattle.sd_model.specs.State.{State}
use Rattle.sd_rig.specs.Devices as rig
use Rattle.sd_chain.specs.Bytes.{stable}
use Rattle.sd_chain.specs.Checks.{DevicesAreSound, past_of, placed_of}
use Rattle.sd_chain.specs.Crashes.{CrashLeaves, StandsFor}
use Rattle.sd_chain.specs.Fates.{Fate, fate}
use Rattle.sd_chain.specs.Storage.{Recovered}
use Rattle.sd_chain.specs.Images.{Keeps}
use Rattle.sd_chain.specs.Records.{Val, home}
use Rattle.sd_chain.proofs.Crashes as crashes
use Rattle.sd_chain.proofs.OneUpdater as newest
use Rattle.sd_txn.specs.Transactions.{Transactions, state_at}
use Rattle.sd_chain.specs.Logs.{Logs, Outcomes, after_records, base_at, kept_logs, may_of, past_at, tails_of}
use Rattle.sd_chain.specs.Soundly.{IsReady}
use Rattle.sd_chain.proofs.Forces.{force-left}
use Rattle.sd_chain.proofs.Kept.{forced-start, kept-is, master-same}
use Rattle.sd_chain.proofs.Ready.{forced-ready}
use Rattle.sd_chain.proofs.ChecksPass.{between-left, logs-ready}
use Rattle.sd_state.specs.Good.{Good, Half, IsKnownLsn, NoneIsFound, base_of, dir_of, reaches}
use Rattle.sd_state.specs.Images.{IsClaimed, IsEpochOf, Stands, kept_epoch, leaves_by, log_by}
use Rattle.sd_state.specs.Laws.{EachCopyIsNewest, ForceLeftStands, LeftStands, OneMayUpdate}
use Rattle.sd_state.specs.Parts.{Parts, is_loose, log_at, other_at, txns_at}
use Rattle.sd_state.specs.Values.{Pending, values}

-- the log begins at one place, so it is the same wherever logs begin
pub one-place : (c : Parts) (moved : Keeps) (j : ℕ) → other_at c j ≡ None → log_by c moved j ≡ log_at c j
one-place c moved j none =
    ap (λ (o : Option ℕ). cond (moved j) (option_map_or (λ place. begun_at place (log_at c j)) o (log_at c j)) (log_at c j)) none
    ∙ both (moved j)
  where
    both : (b : Bool) → cond b (log_at c j) (log_at c j) ≡ log_at c j
    both true = refl
    both false = refl

-- a log that is as it was begins as it did
log-still : (c new : Parts) (moved : Keeps) (j : ℕ) → other_at new j ≡ other_at c j → log_at new j ≡ log_at c j
    → log_by new moved j ≡ log_by c moved j
log-still c new moved j place same =
    ap₂ (λ (o : Option ℕ) (l : LogState). cond (moved j) (option_map_or (λ place. begun_at place l) o l) l) place same

-- Where one log, which begins at one place, and the others are as they were, their forced records are so wherever logs begin.
pub bases-by : (c new : Parts) (i : ℕ) → other_at c i ≡ None → ((j : ℕ) → other_at new j ≡ other_at c j)
    → base_at (log_at new i) ≡ base_at (log_at c i) → ((j : ℕ) → j ≢ i → log_at new j ≡ log_at c j) → (moved : Keeps) (j : ℕ)
    → base_at (log_by new moved j) ≡ base_at (log_by c moved j)
bases-by c new i one places here elsewhere moved j = ⊎_elim
    (λ e. subst (λ (k : ℕ). base_at (log_by new moved k) ≡ base_at (log_by c moved k)) (sym e)
    (ap base_at (one-place new moved i (places i ∙ one)) ∙ here ∙ ap base_at (sym (one-place c moved i one))))
    (λ ne. ap base_at (log-still c new moved j (places j) (elsewhere j ne)))
    (cases_eq j i)

-- an LSN that is known stays so, where the forced records do
pub known-still : (c new : Parts) (logs logs' : Logs) (lsn : ℕ) → c.disk_lsn ≡ new.disk_lsn
    → ((j : ℕ) → base_at (logs' j) ≡ base_at (logs j)) → IsKnownLsn c logs lsn → IsKnownLsn new logs' lsn
known-still c new logs logs' lsn great same = ⊎_elim (λ low. inl (omega (arith, low, great)))
    (λ r. inr (r.0, r.1, r.2, ap (list_any (reaches lsn)) (same r.0) ∙ r.3))

-- who was found committed is so in a log that begins at one place still, where all tables but that of a settled log stay
pub others-still : (seen : rig.DeviceImages) (leaves : Outcomes) (pend : Pending) (c : Parts) (m : State) → Good seen leaves pend c m
    → (new : Parts) (i : ℕ) → is_loose c i ≡ false → ((j : ℕ) → j ≢ i → txns_at new j ≡ txns_at c j)
    → (j place : ℕ) → 1 ≤ j → j ≤ 8 → other_at c j ≡ Some place → NoneIsFound new j
others-still seen leaves pend c m g new i settled elsewhere j place low high other t own is = ⊎_elim
    (λ e. let one = (g.settled j low high (ap (is_loose c) e ∙ settled)).one_place in let clash = sym one ∙ other in absurd (cc))
    (λ ne. g.others j place low high other t own (sym (ap (λ (table : Transactions). state_at table t) (elsewhere j ne)) ∙ is))
    (cases_eq j i)

-- what is said of another place is said of none
pub no-place : (o : Option ℕ) (P : ℕ → Type 0) → o ≡ None → IfSome o P
no-place o P none = subst (λ (x : Option ℕ). IfSome x P) (sym none) tt

-- where the log of an image begins at the other place
abbrev pub moved_to : List ℕ → Option ℕ → Bool
moved_to bytes place = option_map_or (λ (p : ℕ). eqb (master bytes).start p) place false

-- the image tells of each log where it begins
abbrev pub which : Parts → rig.DeviceImages → Keeps
which c img j = moved_to (img j) (other_at c j)

place-is : (bytes : List ℕ) (other : Option ℕ) (start : ℕ)
    → ((place : ℕ) → other ≡ Some place → ((master bytes).start ≡ place) ⊎ ((master bytes).start ≡ start))
    → IfSome other (λ place. (master bytes).start ≡ cond (moved_to bytes other) place start)
place-is bytes None start either = tt
place-is bytes (Some place) start either = ⊎_elim
    (λ same. same ∙ sym (ap (λ (b : Bool). cond b place start) (eq-eqb (master bytes).start place same)))
    (λ differs. ⊎_elim (λ e. absurd (differs e)) (λ own. own ∙ sym (ap (λ (b : Bool). cond b place start) (ne_eqb (master bytes).start place differs))) (either place refl))
    (cases_eq (master bytes).start place)

-- the image is left with the logs beginning so
pub left-by : (seen : rig.DeviceImages) (leaves : Outcomes) (pend : Pending) (c : Parts) (m : State) (img : rig.DeviceImages)
    → Good seen leaves pend c m → rig.Leaves leaves img → rig.Leaves (leaves_by c (which c img) leaves) img
left-by seen leaves pend c m img g left d le =
    (left d le, place-is (img d) (other_at c d) (log_at c d).start (λ place e. g.places d place e (img d) (left d le)))

-- the table hangs on what each log has
values-same : (m : State) (pend : Pending) (one other : ℕ → List Rec) → ((j : ℕ) → one j ≡ other j) → (p s : ℕ)
    → values m pend one p s ≡ values m pend other p s
values-same m pend one other same p s = ap (λ (logs : ℕ → List Rec). values m pend logs p s) (fun_ext same)

epoch-either : (m : State) (pend : Pending) (j : ℕ) (bytes : List ℕ) (log : LogState) → IsReady j bytes log
    → IsEpochOf m pend j (past_at (master bytes) log).epoch × IsEpochOf m pend j (past_at (master bytes) (forced log)).epoch
    → IsEpochOf m pend j (kept_epoch bytes)
epoch-either m pend j bytes log r both = ⊎_elim
    (λ s. subst (IsEpochOf m pend j) (sym (here log (kept-is log bytes r.start s))) both.0)
    (λ s. subst (IsEpochOf m pend j) (sym (here (forced log) (kept-is (forced log) bytes (r.start ∙ sym (forced-start log)) s))) both.1)
    r.either
  where
    here : (l : LogState) → kept bytes ≡ Whole l.groups l.gate → kept_epoch bytes ≡ (past_at (master bytes) l).epoch
    here l is = ap (λ reading. (after_records (past_of (master bytes)) (map (λ r. r.1) (placed_of reading))).epoch) is

-- An image on whose devices the logs are ready, and which is sound, stands for m.
module _ (seen : rig.DeviceImages) (leaves : Outcomes) (logs : Logs) (pend : Pending) (c : Parts) (m : State) (img : rig.DeviceImages)
    (h : Half seen leaves logs pend c m) (disk : leaves 0 (img 0)) (ready : (j : ℕ) → 1 ≤ j → j ≤ 8 → IsReady j (img j) (logs j))
    (epochs : (j : ℕ) → 1 ≤ j → j ≤ 8
    → IsEpochOf m pend j (past_at (master (img j)) (logs j)).epoch × IsEpochOf m pend j (past_at (master (img j)) (forced (logs j))).epoch) where
  abbrev table : Keeps → ℕ → ℕ → Val
  table keeps = values m pend (kept_logs (tails_of logs) keeps)

  there : CrashLeaves (tails_of logs) (may_of leaves) (stable img)
  there = record {
    logs = logs-ready logs img h.coherent.eight.0 h.coherent.safe.eight ready;
    disks = λ p. (img 0, disk, refl);
  }

  stands : StandsFor (tails_of logs) table (stable img)
  stands = crashes.stands (may_of leaves) (base_of seen leaves logs c) (dir_of c) table (stable img) h.coherent h.gives there

  pub ready-stands : DevicesAreSound img → Stands m pend img
  ready-stands sound = record {
    sound = sound;
    recovered = λ p s. subst (Recovered (stable img) p s)
        (sym (values-same m pend (stable img).logs (kept_logs (tails_of logs) stands.keeps) stands.logs p s)) (stands.recovered p s);
    claimed = λ t opens. subst (IsClaimed m t) (sym (stands.logs (home t)))
        (h.claimed stands.keeps t (subst (λ (xs : List Rec). fate t xs ≡ Fate.Open) (stands.logs (home t)) opens));
    epochs = λ j lo hi. epoch-either m pend j (img j) (logs j) (ready j lo hi) (epochs j lo hi);
  }

pub left-stands : (leaves : Outcomes) → LeftStands leaves
left-stands leaves seen img pend c m g left =
    let moved : Keeps = which c img in
    let logs : Logs = log_by c moved in
    let leaves' : Outcomes = leaves_by c moved leaves in
    let h : Half seen leaves' logs pend c m = g.half moved in
    let left' : rig.Leaves leaves' img = left-by seen leaves pend c m img g left in
    ready-stands seen leaves' logs pend c m img h (left' 0 (omega arith))
    (λ j lo hi. h.soundly.ready j lo hi (img j) (left' j hi)) (λ j lo hi. h.epochs j lo hi (img j) (left' j hi))
    (between-left leaves' logs (base_of seen leaves' logs c).version img h.soundly h.coherent.safe h.coherent.eight.0 left')

-- What a crash leaves while a log that begins at one place is forced.
module _ (leaves : Outcomes) (i : ℕ) (seen img : rig.DeviceImages) (pend : Pending) (c : Parts) (m : State) (g : Good seen leaves pend c m)
    (low : 1 ≤ i) (high : i ≤ 8) (one : other_at c i ≡ None) (reads : leaves i (seen i)) (f : Forces (log_at c i) seen leaves img) where
  abbrev moved : Keeps
  moved = which c img

  abbrev logs : Logs
  logs = log_by c moved

  abbrev leaves' : Outcomes
  leaves' = leaves_by c moved leaves

  h : Half seen leaves' logs pend c m
  h = g.half moved

  same : logs i ≡ log_at c i
  same = one-place c moved i one

  inst : (logs i).inst ≡ i
  inst = ap (λ (l : LogState). l.inst) same ∙ g.shape.own_log i low high

  reads' : leaves' i (seen i)
  reads' = (reads, no-place (other_at c i) _ one)

  left' : (d : ℕ) → d ≤ 8 → d ≢ i → leaves' d (img d)
  left' d le ne = (
    f.others d le (λ e. ne (e ∙ g.shape.own_log i low high)),
    place-is (img d) (other_at c d) (log_at c d).start (λ place e. g.places d place e (img d) (f.others d le (λ z. ne (z ∙ g.shape.own_log i low high)))),
  )

  f' : Forces (logs i) seen leaves' img
  f' = subst (λ (l : LogState). Forces l seen leaves' img) (sym same) (record {
    others = λ d le ne. left' d le (λ e. ne (e ∙ sym (g.shape.own_log i low high)));
    outside = f.outside;
    whole = f.whole;
  })

  outside : AgreesOutside (forced_at (logs i)) (forced_len (logs i)) (seen i) (img i)
  outside = subst (λ (k : ℕ). AgreesOutside (forced_at (logs i)) (forced_len (logs i)) (seen k) (img k)) inst f'.outside

  ready : (j : ℕ) → 1 ≤ j → j ≤ 8 → IsReady j (img j) (logs j)
  ready j lo hi = ⊎_elim
      (λ e. subst (λ (k : ℕ). IsReady k (img k) (logs k)) (sym e)
      (forced-ready i (forced_at (logs i)) (forced_len (logs i)) (seen i) (img i) (logs i) (omega arith) outside
      (subst (λ (k : ℕ). StandsEither (logs i) (img k)) inst f'.whole) (h.soundly.ready i low high (seen i) reads')))
      (λ ne. h.soundly.ready j lo hi (img j) (left' j hi ne))
      (cases_eq j i)

  epochs : (j : ℕ) → 1 ≤ j → j ≤ 8
      → IsEpochOf m pend j (past_at (master (img j)) (logs j)).epoch × IsEpochOf m pend j (past_at (master (img j)) (forced (logs j))).epoch
  epochs j lo hi = ⊎_elim
      (λ e. subst (λ (k : ℕ). IsEpochOf m pend k (past_at (master (img k)) (logs k)).epoch × IsEpochOf m pend k (past_at (master (img k)) (forced (logs k))).epoch) (sym e)
      (subst (λ (k : Master). IsEpochOf m pend i (past_at k (logs i)).epoch × IsEpochOf m pend i (past_at k (forced (logs i))).epoch)
      (sym (master-same (forced_at (logs i)) (forced_len (logs i)) (seen i) (img i) (omega arith) outside)) (h.epochs i low high (seen i) reads')))
      (λ ne. h.epochs j lo hi (img j) (left' j hi ne))
      (cases_eq j i)

  pub stands-forcing : Stands m pend img
  stands-forcing = ready-stands seen leaves' logs pend c m img h (left' 0 (omega arith) (λ e. omega (arith, low, e))) ready epochs
      (force-left leaves' i logs seen (base_of seen leaves' logs c).version img low high inst reads' h.soundly h.coherent.safe h.coherent.eight.0 f')

pub force-left-stands : (leaves : Outcomes) → ForceLeftStands leaves
force-left-stands leaves i seen img pend c m g low high one reads f = stands-forcing leaves i seen img pend c m g low high one reads f

-- ---- who may update, and what is copied

pub one-may-update : (leaves : Outcomes) → OneMayUpdate leaves
one-may-update leaves seen pend c m g p i owns =
    let h = g.half (λ j. false) in
    newest.one-updates (may_of (leaves_by c (λ j. false) leaves)) (base_of seen (leaves_by c (λ j. false) leaves) (log_at c) c) (dir_of c) h.coherent p i owns

pub each-copy-is-newest : (leaves : Outcomes) → EachCopyIsNewest leaves
each-copy-is-newest leaves seen pend c m g p i =
    let h = g.half (λ j. false) in
    newest.each-newest (may_of (leaves_by c (λ j. false) leaves)) (base_of seen (leaves_by c (λ j. false) leaves) (log_at c) c) (dir_of c) h.coherent p i
