-- A log has room and memory for the end of a transaction that has a record: for the calls that end one.
use Rattle.std.proofs.Common.{◌≡◌, ℕ, ◌≤◌, true, false, length, refl, ap, ◌∙◌, subst, arith}
use Rattle.sd_base.specs.declared.place.Status.TheVariants as S
use Rattle.sd_logrec.specs.Spelling.{spelling}
use Rattle.sd_logrec.specs.View.{flat}
use Rattle.sd_logrec.specs.declared.record.Record.{Record}
use Rattle.sd_log.specs.Logs.{LogState, forced, needed}
use Rattle.sd_model.specs.State.{State}
use Rattle.sd_rig.specs.Devices as rig
use Rattle.sd_chain.specs.Images.{Keeps}
use Rattle.sd_chain.specs.Records.{ends}
use Rattle.sd_chain.specs.Appends.{IsEnd}
use Rattle.sd_chain.specs.Logs.{HasRecord, Outcomes, all_at}
use Rattle.sd_chain.specs.Soundly.{LogIsSound}
use Rattle.sd_chain.proofs.Owing.{end-owes, ends-speaks}
use Rattle.sd_chain.proofs.Room.{end-len, end-room}
use Rattle.sd_state.specs.Good.{Good}
use Rattle.sd_state.specs.Images.{log_by}
use Rattle.sd_state.specs.Parts.{Parts, log_at, other_at, status_at}
use Rattle.sd_update.specs.Sealing.{MaySeal}
use Rattle.sd_state.specs.Values.{Pending}
use Rattle.sd_state.proofs.Standing.{no-place, one-place}

module _ (i : ℕ) (y : Record) (seen : rig.DeviceImages) (leaves : Outcomes) (pend : Pending) (c : Parts) (m : State) (log : LogState)
    (g : Good seen leaves pend c m) (may : MaySeal i y c) (it_ends : ends (flat y).kind ≡ true)
    (there : HasRecord (flat y).txn (all_at (log_at c i))) (is : log_at c i ≡ log) where
  is_end : IsEnd y (log_at c i)
  is_end = record { ends = it_ends; alive = (may.follows (ends-speaks (flat y).kind it_ends)).alive; there = there }

  pub room-there : needed log (length (spelling y)) 0 ≤ 1048576
  room-there =
      let moved : Keeps = λ j. false in
      let s = g.settled i may.low may.high may.settled in
      let one : log_by c moved i ≡ log = one-place c moved i s.one_place ∙ is in
      end-room i (seen i) log y
      (subst (λ (l : LogState). LogIsSound i (seen i) (forced l)) one
      ((g.half moved).soundly.ready i may.low may.high (seen i)
      ((s.only (seen i)).1 refl, no-place (other_at c i) _ s.one_place)).sound_forced)
      (subst (IsEnd y) is is_end)

  pub memory-there : status_at c i ≡ S.Up → length (spelling y) ≤ log.spare
  memory-there up =
      let told = (g.told i may.low may.high may.tells may.settled).spare up in
      let owes = (end-owes (all_at (log_at c i)) (flat y) it_ends is_end.alive there).0 in
      let len = end-len y it_ends in
      let same = ap (λ (l : LogState). l.spare) is in
      omega (arith, told, owes, len, same)
