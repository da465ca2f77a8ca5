-- Steps from what a caller knows. It serves the goals of `instance_steps` and `transaction_steps` in laws.rt.
use Rattle.std.proofs.Common.{◌≡◌, ◌⊎◌, inl, inr, ⊎_elim, ℕ, ◌<◌, true, false, true≢false, List, None, Some, refl, sym, arith}
use Rattle.sd_base.specs.declared.ids.TxnId.{TxnId}
use Rattle.sd_base.specs.declared.ids.Rid.{Rid}
use Rattle.sd_base.specs.declared.place.Status.{Status}
use Rattle.sd_base.specs.declared.refusal.Refusal.TheVariants as R
use Rattle.sd_model.specs.declared.act.Life.{Life}
use Rattle.sd_model.specs.declared.act.Life.TheVariants.{Gone, Running}
use Rattle.sd_model.specs.declared.event.Event.{Event}
use Rattle.sd_model.specs.declared.event.Event.TheVariants.{Begin, Read, Write, Add, Insert, Delete, Save, Back, Undo, Commit, List as Listing, Join}
use Rattle.sd_model.specs.declared.event.Reply.TheVariants.{Began, Did, At, Rows, Joined, Refused}
use Rattle.sd_model.specs.State.{State, now, joined, began, wrote, committed}
use Rattle.sd_model.specs.Fields.{txn_of}
use Rattle.sd_model.specs.Listing.{AreRows}
use Rattle.sd_model.specs.declared.cause.Cause.{Cause}
use Rattle.sd_model.specs.Applies.{Changes, IsLong, IsRecovering, IsRolling, count_of}
use Rattle.sd_model.specs.Step.{Step}
use Rattle.sd_model.specs.StepLaws.{IsOpen, IsUp, MayAct, IsShort, IsUnused, MayJoin, IsOfTxn, next_txn}

not-gone : (life : Life) → life ≡ Running → life ≡ Gone → ⊥
not-gone life e f = cc

not-rolling : (life : Life) → life ≡ Running → IsRolling life → ⊥
not-rolling life e f = let g = f.1 in cc

joins-not_up : (s : Status) → ((s ≡ Status.Clean) ⊎ (s ≡ Status.Restarting)) → s ≡ Status.Up → ⊥
joins-not_up s (inl e) f = cc
joins-not_up s (inr e) f = cc

joins-not_down : (s : Status) → ((s ≡ Status.Clean) ⊎ (s ≡ Status.Restarting)) → s ≡ Status.Down → ⊥
joins-not_down s (inl e) f = cc
joins-not_down s (inr e) f = cc

joins-not_recovering : (s : Status) → ((s ≡ Status.Clean) ⊎ (s ≡ Status.Restarting)) → IsRecovering s → ⊥
joins-not_recovering s (inl e) f = let g = f.1 in cc
joins-not_recovering s (inr e) f = let g = f.1 in cc

short-not_long : (t : TxnId) (p : ℕ) (value : List ℕ) (capacity : ℕ) → IsShort value capacity → IsLong (Insert t p value capacity) → ⊥
short-not_long t p value capacity s (inl h) = omega arith
short-not_long t p value capacity s (inr (inl h)) = omega arith
short-not_long t p value capacity s (inr (inr h)) = omega arith

pub join-step : (m : State) (i epoch : ℕ) → IsOpen m → MayJoin m i epoch → Step m (Join i) (Joined epoch) (joined i epoch m)
join-step m i epoch opened j = (
  (opened, (joins-not_up _ j.status, (⊎_elim (joins-not_down _ j.status) (joins-not_recovering _ j.status), (tt, (tt, (tt, tt)))))),
  (j.above, j.near, refl),
)

pub begin-step : (m : State) (i : ℕ) → IsUp m i → (m.inst i).begins < 4294967295 → count_of m i < 64 → Step m (Begin i) (Began (next_txn m i)) (began i (next_txn m i) m)
begin-step m i k left few = ((k.opened, ((λ n. n k.up), ((λ many. omega arith), ((λ none. omega arith), tt)))), (refl, refl))

pub insert-step : (m : State) (t : TxnId) (r : Rid) (value : List ℕ) (capacity : ℕ) → MayAct m t → IsShort value capacity → IsUnused m t r → Step m (Insert t r.page value capacity) (At r) (wrote t r None (Some value) m)
insert-step m t r value capacity k short unused = (
  (k.at.opened, (not-gone _ k.runs, ((λ n. n k.at.up), (not-rolling _ k.runs, (short-not_long t r.page value capacity short, (tt, (tt, (tt, (tt, (tt, (tt, tt))))))))))),
  (k.runs, refl, sym unused.absent, unused.free, refl),
)

pub full-step : (m : State) (t : TxnId) (p : ℕ) (value : List ℕ) (capacity : ℕ) → MayAct m t → IsShort value capacity → Step m (Insert t p value capacity) (Refused R.PageFull) m
full-step m t p value capacity k short = (
  Cause.Full,
  refl,
  tt,
  (refl, (k.at.opened, (not-gone _ k.runs, ((λ n. n k.at.up), (not-rolling _ k.runs, (short-not_long t p value capacity short, (tt, (tt, tt))))))), tt),
  refl,
)

pub too_long-step : (m : State) (t : TxnId) (p : ℕ) (value : List ℕ) (capacity : ℕ) → MayAct m t → IsLong (Insert t p value capacity) → Step m (Insert t p value capacity) (Refused R.TooLong) m
too_long-step m t p value capacity k long = (
  Cause.Long,
  refl,
  tt,
  (refl, (k.at.opened, (not-gone _ k.runs, ((λ n. n k.at.up), (not-rolling _ k.runs, tt)))), long),
  refl,
)

off : {A : Type 0} → false ≡ true → A
off e = absurd (true≢false (sym e))

pub no_txn-step : (m : State) (e : Event) → IsOpen m → IsOfTxn e → (m.part (txn_of e)).life ≡ Gone → Step m e (Refused R.NoTxn) m
no_txn-step m (Read t r) opened of gone = (Cause.NoTxn, refl, tt, (refl, (opened, tt), gone), refl)
no_txn-step m (Write t r v) opened of gone = (Cause.NoTxn, refl, tt, (refl, (opened, tt), gone), refl)
no_txn-step m (Add t r by) opened of gone = (Cause.NoTxn, refl, tt, (refl, (opened, tt), gone), refl)
no_txn-step m (Insert t p v n) opened of gone = (Cause.NoTxn, refl, tt, (refl, (opened, tt), gone), refl)
no_txn-step m (Delete t r) opened of gone = (Cause.NoTxn, refl, tt, (refl, (opened, tt), gone), refl)
no_txn-step m (Save t k) opened of gone = (Cause.NoTxn, refl, tt, (refl, (opened, tt), gone), refl)
no_txn-step m (Back t None) opened of gone = (Cause.NoTxn, refl, tt, (refl, (opened, tt), gone), refl)
no_txn-step m (Back t (Some k)) opened of gone = (Cause.NoTxn, refl, tt, (refl, (opened, tt), gone), refl)
no_txn-step m (Undo t) opened of gone = (Cause.NoTxn, refl, tt, (refl, (opened, tt), gone), refl)
no_txn-step m (Commit t) opened of gone = (Cause.NoTxn, refl, tt, (refl, (opened, tt), gone), refl)
no_txn-step m e opened of gone = off of

pub commit-step : (m : State) (t : TxnId) → MayAct m t → Step m (Commit t) Did (committed t m)
commit-step m t k = ((k.at.opened, (not-gone _ k.runs, ((λ n. n k.at.up), (not-rolling _ k.runs, (tt, tt))))), (k.runs, refl))

pub list-step : (m : State) (i p : ℕ) (rows : List (Rid × List ℕ)) → IsUp m i → ((t : TxnId) → Changes m t p → ⊥) → AreRows p (now m) rows → Step m (Listing i p) (Rows rows) m
list-step m i p rows k free are = ((k.opened, ((λ n. n k.up), (tt, (tt, ((λ busy. free busy.0 busy.1), tt))))), (are, refl))
