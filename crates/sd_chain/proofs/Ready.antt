-- When a log is ready on the bytes of its device: what of them and of the log that hangs on.
use Rattle.std.proofs.Common.{◌≡◌, inl, ℕ, ◌+◌, ◌≤◌, Bool, List, [], Option, take, drop, sym, ap, ◌∙◌, subst, arith}
use Rattle.std.specs.Prelude.{IsTrue, IfSome, is_some}
use Rattle.std.specs.List.{list_any}
use Rattle.sd_base.specs.Twin.{body_at, chosen_body, chosen_slot, is_open, number_of, slot_of}
use Rattle.sd_logrec.specs.Kept.{Master, master, Group}
use Rattle.sd_log.specs.Logs.{LogState, forced, StandsOn}
use Rattle.sd_chain.specs.Checks.{Follow, IsMaster, is_end_check, past_of}
use Rattle.sd_chain.specs.Images.{log}
use Rattle.sd_chain.proofs.Devices.{chosen_same, part_before}
use Rattle.sd_log.specs.Forces.{StandsEither}
use Rattle.sd_rig.specs.Devices.{AgreesOutside}
use Rattle.sd_chain.specs.Logs.{records_at}
use Rattle.sd_chain.specs.Soundly.{IsReady, LogIsSound, SlotsAreSound}
use Rattle.sd_chain.proofs.Kept.{forced-idle, master-same}
use Rattle.sd_base.proofs.Twins.{open_within, body_within}

-- the slots of a master hang on the first 130 bytes
front_slot : (gate : ℕ) (old new : List ℕ) → gate + 65 ≤ 130 → take 130 (drop 0 new) ≡ take 130 (drop 0 old)
    → (is_open gate new ≡ is_open gate old) × (body_at 64 gate new ≡ body_at 64 gate old)
front_slot gate old new le same = let none : 0 + gate ≡ gate = omega arith in (
  ap (λ g. is_open g new) (sym none) ∙ sym (open_within 0 130 gate new (omega (arith, le))) ∙ ap (is_open gate) same
      ∙ open_within 0 130 gate old (omega (arith, le)) ∙ ap (λ g. is_open g old) none,
  ap (λ g. body_at 64 g new) (sym none) ∙ sym (body_within 0 130 gate 64 new (omega (arith, le))) ∙ ap (body_at 64 gate) same
      ∙ body_within 0 130 gate 64 old (omega (arith, le)) ∙ ap (λ g. body_at 64 g old) none,
)

-- so they are sound where those bytes are the same
pub slots-same : (old new : List ℕ) → take 130 (drop 0 new) ≡ take 130 (drop 0 old) → SlotsAreSound old → SlotsAreSound new
slots-same old new same s =
    let one = front_slot 0 old new (omega arith) same in
    let two = front_slot 65 old new (omega arith) same in
    record {
      differ = λ e. s.differ (sym (slot_is one two) ∙ e);
      first = λ shown. subst IsMaster (sym one.1) (s.first (sym one.0 ∙ shown));
      second = λ shown. subst IsMaster (sym two.1) (s.second (sym two.0 ∙ shown));
    }
  where
    slot_is : (is_open 0 new ≡ is_open 0 old) × (body_at 64 0 new ≡ body_at 64 0 old)
        → (is_open 65 new ≡ is_open 65 old) × (body_at 64 65 new ≡ body_at 64 65 old)
        → chosen_slot 0 64 new ≡ chosen_slot 0 64 old
    slot_is one two =
        ap (λ (b : Bool). slot_of b (is_open 65 new) (number_of (body_at 64 0 new)) (number_of (body_at 64 65 new))) one.0
        ∙ ap (λ (b : Bool). slot_of (is_open 0 old) b (number_of (body_at 64 0 new)) (number_of (body_at 64 65 new))) two.0
        ∙ ap (λ (b : List ℕ). slot_of (is_open 0 old) (is_open 65 old) (number_of b) (number_of (body_at 64 65 new))) one.1
        ∙ ap (λ (b : List ℕ). slot_of (is_open 0 old) (is_open 65 old) (number_of (body_at 64 0 old)) (number_of b)) two.1

-- and so does what makes its log sound
pub log-same : (j : ℕ) (old new : List ℕ) (l : LogState) → chosen_body 0 64 new ≡ chosen_body 0 64 old
    → master new ≡ master old → LogIsSound j old l → LogIsSound j new l
log-same j old new l body m s = record {
  ended = subst (λ (o : Option (List ℕ)). IfSome o (λ _. IsTrue (list_any (is_end_check (master new).check) (records_at l))))
      (sym body)
      (subst (λ (k : Master). IfSome (chosen_body 0 64 old) (λ _. IsTrue (list_any (is_end_check k.check) (records_at l))))
      (sym m) s.ended);
  follow = subst (λ (o : Option (List ℕ)). Follow j (is_some o) (master new) (past_of (master new)) (records_at l)) (sym body)
      (subst (λ (k : Master). Follow j (is_some (chosen_body 0 64 old)) k (past_of k) (records_at l)) (sym m) s.follow);
  room = s.room;
}

-- a device that agrees with one on which the log is ready, outside of what a force changes, and has the log either way
pub forced-ready : (i at n : ℕ) (old new : List ℕ) (log : LogState) → 130 ≤ at → AgreesOutside at n old new
    → StandsEither log new → IsReady i old log → IsReady i new log
forced-ready i at n old new log le outside either r =
    let front = part_before at n 0 130 old new outside (omega (arith, le)) in
    let m = master-same at n old new le outside in
    let body = chosen_same 0 64 old new front in
    record {
      start = ap (λ (x : Master). x.start) m ∙ r.start;
      either = either;
      slots = slots-same old new front r.slots;
      sound = log-same i old new log body m r.sound;
      sound_forced = log-same i old new (forced log) body m r.sound_forced;
    }

-- what makes a log sound hangs on its groups and its gate
abbrev bare : List Group → ℕ → LogState
bare groups gate = record { inst = 0; start = 0; gate = gate; groups = groups; tail = []; spare = 0 }

-- a log with the same groups and gate is sound
pub sound-parts : (j : ℕ) (bytes : List ℕ) (log log' : LogState) → log'.groups ≡ log.groups → log'.gate ≡ log.gate
    → LogIsSound j bytes log → LogIsSound j bytes log'
sound-parts j bytes log log' groups gate s =
    let one : LogIsSound j bytes (bare log.groups log.gate) = record { ended = s.ended; follow = s.follow; room = s.room } in
    let two : LogIsSound j bytes (bare log'.groups log.gate) =
    subst (λ (g : List Group). LogIsSound j bytes (bare g log.gate)) (sym groups) one in
    let three : LogIsSound j bytes (bare log'.groups log'.gate) =
    subst (λ (k : ℕ). LogIsSound j bytes (bare log'.groups k)) (sym gate) two in
    record { ended = three.ended; follow = three.follow; room = three.room }

-- a log without a tail that stands on the device
pub bare-ready : (j : ℕ) (bytes : List ℕ) (log : LogState) → log.tail ≡ [] → (master bytes).start ≡ log.start
    → StandsOn log bytes → SlotsAreSound bytes → LogIsSound j bytes log → IsReady j bytes log
bare-ready j bytes log none start stands slots s =
    record {
      start = start;
      either = inl stands;
      slots = slots;
      sound = s;
      sound_forced = subst (LogIsSound j bytes) (sym (forced-idle log none)) s;
    }
