-- Sound devices may be opened: for the goal of `sound_devices` in laws.rt, and lent to the crates above.
use Rattle.std.proofs.Common.{◌≡◌, ⊎_elim, ℕ, zero, suc, ◌<◌, ◌≤◌, Bool, true, false, ◌&&◌, cond, ltb, ltb-true, List, [], ◌∷◌, refl, sym, ap, subst, arith}
use Rattle.std.specs.Prelude.{map, is_some}
use Rattle.std.proofs.lemmas.Bool.{cases_Bool}
use Rattle.sd_base.specs.Twin.{chosen_body}
use Rattle.sd_logrec.specs.declared.record.Record.{Record}
use Rattle.sd_logrec.specs.declared.record.Record.TheVariants as records
use Rattle.sd_logrec.specs.Kept.{Master, Reading, Records, Whole, BadGroup, NoRecord, kept, master}
use Rattle.sd_logrec.specs.View.{Rec, flat}
use Rattle.sd_rig.specs.Devices as rig
use Rattle.sd_chain.specs.Records.{Each, home}
use Rattle.sd_chain.specs.Order.{Tidy, speaks}
use Rattle.sd_chain.specs.Bytes.{log_of, records_of, stable}
use Rattle.sd_chain.specs.Checks.{DevicesAreSound, Follow, MayCome, Past, after_record, past_of, placed_of, records_in}
use Rattle.sd_chain.specs.Laws.{Opens}
use Rattle.sd_chain.specs.Losers.{OwnLogs}

pub flat_records : (rs : Records) → map flat (map (λ r. r.1) rs) ≡ map (λ r. flat r.1) rs
flat_records [] = refl
flat_records (r ∷ rs) = ap (λ (l : List Rec). flat r.1 ∷ l) (flat_records rs)

same_records : (r : Reading) → map flat (map (λ p. p.1) (placed_of r)) ≡ records_of r
same_records (Whole groups gate) = flat_records (placed_of (Whole groups gate))
same_records (BadGroup at) = refl
same_records (NoRecord at) = refl

own : (inst : ℕ) (past : Past) (r : Record) → MayCome inst past r → speaks (flat r).kind ≡ true → home (flat r).txn ≡ inst
own inst past (records.Start l epoch) may = λ is. absurd (cc)
own inst past (records.Update l txn prev page slot capacity before after) may = λ is. may.0
own inst past (records.Clr l txn prev next page slot after) may = λ is. may.0
own inst past (records.Commit l txn prev) may = λ is. may.0
own inst past (records.End l txn prev) may = λ is. may.0
own inst past (records.BeginCheck l) may = λ is. absurd (cc)
own inst past (records.EndCheck l begin spans recs) may = λ is. absurd (cc)

owned : (inst : ℕ) (chosen : Bool) (m : Master) (past : Past) (rs : List Record) → Follow inst chosen m past rs
    → Each (λ (x : Rec). speaks x.kind ≡ true → home x.txn ≡ inst) (map flat rs)
owned inst chosen m past [] follow = tt
owned inst chosen m past (r ∷ rs) follow = (own inst past r follow.1, owned inst chosen m (after_record past r) rs follow.3)

numbered : (inst : ℕ) (chosen : Bool) (m : Master) (past : Past) (rs : List Record) → Follow inst chosen m past rs → Each (λ (x : Rec). 0 < x.lsn) (map flat rs)
numbered inst chosen m past [] follow = tt
numbered inst chosen m past (r ∷ rs) follow = (let h = follow.0 in omega (arith, h), numbered inst chosen m (after_record past r) rs follow.3)

module _ (devices : rig.DeviceImages) (sound : DevicesAreSound devices) where
  -- a log inside, or none
  inside : (P : List Rec → Type 0) (j : ℕ) → P [] → (1 ≤ j → j ≤ 8 → P (map flat (records_in (devices j)))) → P (log_of devices j)
  inside P j none some = ⊎_elim
      (λ yes. subst (λ (b : Bool). P (cond {A = List Rec} b (records_of (kept (devices j))) [])) (sym yes)
      (subst P (same_records (kept (devices j))) (let e = split (ltb 0 j) (ltb j 9) yes in some (low j e.0) (high j e.1))))
      (λ no. subst (λ (b : Bool). P (cond {A = List Rec} b (records_of (kept (devices j))) [])) (sym no) none)
      (cases_Bool (ltb 0 j && ltb j 9))
    where
      split : (a b : Bool) → (a && b) ≡ true → (a ≡ true) × (b ≡ true)
      split true b is = (refl, is)
      split false b is = absurd (cc)

      low : (n : ℕ) → ltb 0 n ≡ true → 1 ≤ n
      low zero is = absurd (cc)
      low (suc n) is = omega arith

      high : (n : ℕ) → ltb n 9 ≡ true → n ≤ 8
      high n is = let k = ltb-true n 9 is in omega (arith, k)

  pub sound-opens : Opens (stable devices) × OwnLogs (stable devices)
  sound-opens = (
    record {
      sound = sound.kept;
      eight = λ j far. inside (λ (l : List Rec). l ≡ []) j refl (λ lo hi. absurd (omega (arith, far, hi)));
      numbered = λ j. inside (Each (λ (x : Rec). 0 < x.lsn)) j tt
          (λ lo hi. numbered j (is_some (chosen_body 0 64 (devices j))) (master (devices j)) (past_of (master (devices j))) (records_in (devices j)) (sound.groups j lo hi).follow);
      order = λ j t. inside (Tidy t) j (record { order = tt; first = λ o. refl; undo = λ z. tt }) (λ lo hi. sound.txns j lo hi t);
    },
    record {
      zero_is = refl;
      beyond = λ j far. inside (λ (l : List Rec). l ≡ []) j refl (λ lo hi. absurd (omega (arith, far, hi)));
      own = λ j. inside (Each (λ (x : Rec). speaks x.kind ≡ true → home x.txn ≡ j)) j tt
          (λ lo hi. owned j (is_some (chosen_body 0 64 (devices j))) (master (devices j)) (past_of (master (devices j))) (records_in (devices j)) (sound.groups j lo hi).follow);
    },
  )
