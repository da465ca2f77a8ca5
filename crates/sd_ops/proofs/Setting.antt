-- A record's lock is given, and its value set. For `put`.
use Rattle.std.proofs.Common.{◌≡◌, ⊎_elim, ℕ, ◌≤◌, ◌<◌, ◌^◌, Bool, true, false, cond, ◌&&◌, refl, sym, ap, ap₂, ◌∙◌, subst, length}
use Rattle.std.specs.Prelude.{Option, None, Some, IsSome}
use Rattle.sd_base.specs.Ids.{same_rid, same_txn}
use Rattle.sd_base.specs.declared.ids.Rid.{Rid}
use Rattle.sd_base.specs.declared.ids.TxnId.{TxnId}
use Rattle.sd_base.specs.declared.place.Mode.{Mode}
use Rattle.sd_base.specs.declared.place.Mode.TheVariants as modes
use Rattle.sd_base.proofs.SameIds.{cases_rid, cases_txn, eq-same, eq-same_rid, ne-same, ne-same_rid}
use Rattle.sd_logrec.specs.Spelling.{IsTxn}
use Rattle.sd_model.specs.State.{State}
use Rattle.sd_model.specs.declared.act.Life.{Life}
use Rattle.sd_reclock.specs.Locks.{IsNoStronger, raised}
use Rattle.sd_rig.specs.Devices.{DeviceImages}
use Rattle.sd_chain.specs.Logs.{Outcomes}
use Rattle.sd_chain.specs.Records.{home}
use Rattle.sd_pool.specs.Buffers.{Buffers}
use Rattle.sd_model.specs.Tables.{Content}
use Rattle.sd_update.specs.Changing.{IsMade, change_of}
use Rattle.sd_state.specs.Working.{with_locks}
use Rattle.sd_state.proofs.Items.{item-set}
use Rattle.sd_state.specs.Good.{Good}
use Rattle.sd_state.specs.Values.{Pending}
use Rattle.sd_state.specs.Parts.{Parts, no_pool, pool_at}

-- ---- locks

raised-excl : (o : Option Mode) → raised o modes.Excl ≡ modes.Excl
raised-excl None = refl
raised-excl (Some modes.Shared) = refl
raised-excl (Some modes.Excl) = refl

abbrev HeldBy : Type 0
HeldBy = TxnId → Rid → Option Mode

-- the lock that is given
pub given-here : (old new : HeldBy) (t : TxnId) (r : Rid) (mode : Mode)
    → ((u : TxnId) (q : Rid) → new u q ≡ cond (same_txn t u && same_rid r q) (Some (raised (old t r) mode)) (old u q))
    → new t r ≡ Some (raised (old t r) mode)
given-here old new t r mode given = given t r
    ∙ ap₂ (λ (a b : Bool). cond (a && b) (Some (raised (old t r) mode)) (old t r)) (eq-same t t refl) (eq-same_rid r r refl)

pub given-excl : (old new : HeldBy) (t : TxnId) (r : Rid)
    → ((u : TxnId) (q : Rid) → new u q ≡ cond (same_txn t u && same_rid r q) (Some (raised (old t r) modes.Excl)) (old u q))
    → new t r ≡ Some modes.Excl
given-excl old new t r given = given-here old new t r modes.Excl given ∙ ap (λ (md : Mode). Some md) (raised-excl (old t r))

-- what was before is no stronger than an exclusive lock
pub was-weaker : (was now : Option Mode) → now ≡ Some modes.Excl → IsNoStronger was now
was-weaker None now e = tt
was-weaker (Some modes.Shared) now e = subst IsSome (sym e) refl
was-weaker (Some modes.Excl) now e = e

-- A lock that is given and lowered to what it was is as it was, and so are all others.
pub lowered-same : (old mid new : HeldBy) (t : TxnId) (r : Rid) (was : Option Mode) (mode : Mode) → was ≡ old t r
    → ((u : TxnId) (q : Rid) → mid u q ≡ cond (same_txn t u && same_rid r q) (Some (raised (old t r) mode)) (old u q))
    → ((u : TxnId) (q : Rid) → new u q ≡ cond (same_txn t u && same_rid r q) was (mid u q))
    → (u : TxnId) (q : Rid) → new u q ≡ old u q
lowered-same old mid new t r was mode had given lowered u q = ⊎_elim
    (λ same. ⊎_elim
    (λ here. lowered u q
    ∙ ap₂ (λ (a b : Bool). cond (a && b) was (mid u q)) (eq-same t u same) (eq-same_rid r q here)
    ∙ had ∙ ap₂ old same here)
    (λ ne. lowered u q ∙ ap (λ (b : Bool). cond (same_txn t u && b) was (mid u q)) (ne-same_rid r q ne)
    ∙ off (same_txn t u) ∙ given u q
    ∙ ap (λ (b : Bool). cond (same_txn t u && b) (Some (raised (old t r) mode)) (old u q)) (ne-same_rid r q ne)
    ∙ off-more (same_txn t u))
    (cases_rid r q))
    (λ ne. lowered u q ∙ ap (λ (b : Bool). cond (b && same_rid r q) was (mid u q)) (ne-same t u ne) ∙ given u q
    ∙ ap (λ (b : Bool). cond (b && same_rid r q) (Some (raised (old t r) mode)) (old u q)) (ne-same t u ne))
    (cases_txn t u)
  where
    off : (b : Bool) → cond {A = Option Mode} (b && false) was (mid u q) ≡ mid u q
    off true = refl
    off false = refl

    off-more : (b : Bool) → cond {A = Option Mode} (b && false) (Some (raised (old t r) mode)) (old u q) ≡ old u q
    off-more true = refl
    off-more false = refl

-- ---- names

-- a transaction that runs has a name of the grammar
pub running-named : (seen : DeviceImages) (leaves : Outcomes) (pend : Pending) (c : Parts) (m : State) (t : TxnId) → Good seen leaves pend c m
    → (m.part t).life ≡ Life.Running → 1 ≤ home t → home t ≤ 8 → t.epoch < 2 ^ 32 → t.seq < 2 ^ 32 → IsTxn t
running-named seen leaves pend c m t g runs low high epoch seq =
    let number = g.numbered t (λ gone. let clash = sym runs ∙ gone in absurd (cc)) in
    record { low = low; high = high; epoch = (number.0, epoch); seq = (number.1, seq) }

-- ---- frames

-- the pool of the transaction's instance has as many frames as before
pub frames-kept : (t : TxnId) (r : Rid) (capacity : ℕ) (after : Content) (old mid new : Parts) → 1 ≤ home t → home t ≤ 8 → length old.pools ≡ 8
    → mid ≡ with_locks mid.locks old → IsMade (change_of t r capacity after mid) mid new
    → (pool_at new (home t)).frames ≡ (pool_at old (home t)).frames
frames-kept t r capacity after old mid new low high eight rest made =
    ap (λ (x : Parts). (pool_at x (home t)).frames) made.put.is
    ∙ ap (λ (b : Buffers). b.frames) (item-set no_pool mid.pools (home t) made.put.pool low high (ap (λ (x : Parts). length x.pools) rest ∙ eight))
    ∙ made.put.changed.frames
    ∙ ap (λ (x : Parts). (pool_at x (home t)).frames) rest
