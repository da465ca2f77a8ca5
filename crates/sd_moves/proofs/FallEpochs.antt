-- The epoch of a log without its tail, of an instance that is up: that of the log with it. For `down` of src/crash.rt.
use Rattle.std.proofs.Common.{◌≡◌, inl, inr, ℕ, ◌≤◌, false, List, [], ◌∷◌, ◌++◌, refl, ap, subst, arith}
use Rattle.std.specs.Prelude.{Bool, is_some}
use Rattle.sd_base.specs.Twin.{chosen_body}
use Rattle.sd_base.specs.declared.place.Status.TheVariants as S
use Rattle.sd_logrec.specs.Kept.{Master, master}
use Rattle.sd_logrec.specs.declared.record.Record.{Record}
use Rattle.sd_logrec.specs.declared.record.Record.TheVariants as records
use Rattle.sd_log.specs.Logs.{LogState, forced}
use Rattle.sd_model.specs.State.{State}
use Rattle.sd_rig.specs.Devices as rig
use Rattle.sd_chain.specs.Checks.{Follow, Past, after_record, past_of}
use Rattle.sd_chain.specs.Images.{Keeps}
use Rattle.sd_chain.specs.Logs.{Outcomes, after_records, past_at, records_at}
use Rattle.sd_chain.specs.Soundly.{LogIsSound}
use Rattle.sd_chain.proofs.Epochs.{OnTheWay, epoch-rises}
use Rattle.sd_chain.proofs.Kept.{forced-records}
use Rattle.sd_state.specs.Good.{Good}
use Rattle.sd_state.specs.Images.{leaves_by}
use Rattle.sd_state.specs.Parts.{Parts, epoch_at, is_loose, log_at, status_at}
use Rattle.sd_state.specs.Values.{Pending}
use Rattle.sd_state.proofs.Standing.{no-place}

-- no record leads to an earlier epoch than those before it
front-rises : (inst : ℕ) (chosen : Bool) (m : Master) (xs ys : List Record) (past : Past) → Follow inst chosen m past (xs ++ ys)
    → OnTheWay m past → (after_records past xs).epoch ≤ (after_records past (xs ++ ys)).epoch
front-rises inst chosen m [] ys past f way = epoch-rises inst chosen m past ys f way
front-rises inst chosen m (x ∷ xs) ys past f way = front-rises inst chosen m xs ys (after_record past x) f.3 (on x way)
  where
    on : (r : Record) → OnTheWay m past → OnTheWay m (after_record past r)
    on (records.Start l epoch) h = inl refl
    on (records.Update l txn prev page slot capacity before after) h = h
    on (records.Clr l txn prev undo_next page slot after) h = h
    on (records.Commit l txn prev) h = h
    on (records.End l txn prev) h = h
    on (records.BeginCheck l) h = h
    on (records.EndCheck l begin spans recs) h = h

pub epoch-forced : (seen : rig.DeviceImages) (leaves : Outcomes) (pend : Pending) (c : Parts) (m : State) (i : ℕ) → 1 ≤ i → i ≤ 8
    → Good seen leaves pend c m → is_loose c i ≡ false → status_at c i ≡ S.Up
    → (past_at (master (seen i)) (log_at c i)).epoch ≡ epoch_at c i
epoch-forced seen leaves pend c m i low high g settled up =
    let once : Keeps = λ j. false in
    let log : LogState = log_at c i in
    let place : Master = master (seen i) in
    let at = g.settled i low high settled in
    let inst = g.instances i low high in
    let left : leaves_by c once leaves i (seen i) = ((at.only (seen i)).1 refl, no-place _ _ at.one_place) in
    let h = g.half once in
    let sound : LogIsSound i (seen i) (forced log) = (h.soundly.ready i low high (seen i) left).sound_forced in
    let follow : Follow i (is_some (chosen_body 0 64 (seen i))) place (past_of place) (records_at log ++ log.tail) =
    subst (Follow i (is_some (chosen_body 0 64 (seen i))) place (past_of place)) (forced-records log) sound.follow in
    let least = (h.epochs i low high (seen i) left).0.low in
    let rises = front-rises i (is_some (chosen_body 0 64 (seen i))) place (records_at log) log.tail (past_of place) follow (inr refl) in
    let whole : (past_at place (forced log)).epoch ≡ (after_records (past_of place) (records_at log ++ log.tail)).epoch =
    ap (λ (rs : List Record). (after_records (past_of place) rs).epoch) (forced-records log) in
    let most : (past_at place (forced log)).epoch ≡ epoch_at c i = at.epoch in
    let own : epoch_at c i ≡ (m.inst i).epoch = inst.epoch up in
    omega (arith, least, rises, whole, most, own)
