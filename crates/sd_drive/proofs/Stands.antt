-- Where an opening stands, and where recoveries and joins lead it. It serves the goals of `openings` in laws.rt.
use Rattle.std.proofs.Common.{◌≡◌, ◌⊎◌, inl, inr, ⊎_elim, ℕ, ◌+◌, ◌-◌, ◌<◌, ◌≤◌, Bool, true, false, cond, List, [], ◌∷◌, refl, sym, ap, ◌∙◌, subst, arith, eq-eqb}
use Rattle.std.specs.Prelude.{Option, None, Some}
use Rattle.std.proofs.lemmas.Bool.{cases_lt}
use Rattle.sd_base.specs.declared.place.Status.{Status}
use Rattle.sd_base.specs.declared.place.Status.TheVariants as S
use Rattle.sd_base.specs.declared.refusal.Refusal.{Refusal}
use Rattle.sd_base.specs.declared.refusal.Refusal.TheVariants as R
use Rattle.sd_base.specs.Standing.{is_down, is_up}
use Rattle.sd_model.specs.declared.act.Inst.{Inst}
use Rattle.sd_model.specs.declared.cause.Cause.{Cause}
use Rattle.sd_model.specs.declared.event.Event.TheVariants as event
use Rattle.sd_model.specs.declared.event.Reply.{Reply}
use Rattle.sd_model.specs.declared.event.Reply.TheVariants as reply
use Rattle.sd_model.specs.Applies.{IsActive}
use Rattle.sd_model.specs.Causes.{has_cause, order}
use Rattle.sd_base.specs.declared.ids.TxnId.{TxnId}
use Rattle.sd_model.specs.Changes.{after_recovery, commit_all, swept}
use Rattle.sd_model.specs.Refusing.{Names, Refuses}
use Rattle.sd_model.specs.Replies.{is_failed}
use Rattle.sd_model.specs.State.{State, committed, joined, put_inst, with_status}
use Rattle.sd_model.specs.Step.{Step}
use Rattle.sd_model.proofs.Placed.{each_inst}
use Rattle.sd_pagelock.specs.Places.{holds}
use Rattle.sd_pagelock.specs.Rows.{may_evict}
use Rattle.sd_world.specs.Answers.{Moves}
use Rattle.sd_world.specs.Laws.{IsOut, IsPlain}
use Rattle.sd_world.specs.Pages.{Pages, is_duty}
use Rattle.sd_world.proofs.Causes.{refusal-leaves}
use Rattle.sd_drive.specs.Behind.{IsBehind, NoneIsOut, OnlyUpHave}
use Rattle.sd_drive.specs.Driving.{Cursor, Work, World, cursor_in, next_down, opens, works_of}
use Rattle.sd_drive.specs.Pulls.{Pull}
use Rattle.sd_drive.proofs.Quiet.{Comes, Quiet, Rests, fault-is, stood-quiet}
use Rattle.sd_drive.proofs.Singles.{Works, yes_no}
use Rattle.sd_script.specs.declared.line.Line.{Line}
use Rattle.sd_drive.proofs.Finding.{first-found, first-missed}

none_left : {A : Type 0} → false ≡ true → A
none_left e = absurd (cc)

down-is : (s : Status) → is_down s ≡ true → s ≡ S.Down
down-is S.Down h = refl
down-is S.Up h = none_left h
down-is (S.Recovering by) h = none_left h
down-is S.Clean h = none_left h
down-is S.Restarting h = none_left h
down-is S.Closed h = none_left h

pub up-is : (s : Status) → is_up s ≡ true → s ≡ S.Up
up-is S.Up h = refl
up-is S.Down h = none_left h
up-is (S.Recovering by) h = none_left h
up-is S.Clean h = none_left h
up-is S.Restarting h = none_left h
up-is S.Closed h = none_left h

-- ---- where an opening stands

-- whoever is out is down, and none of those below i
abbrev pub OutFrom : ℕ → State → Type 0
OutFrom i m = (j : ℕ) → 1 ≤ j → j ≤ 8 → IsOut (m.inst j).status → ((m.inst j).status ≡ S.Down) × (i ≤ j)

-- instance i recovers next, by itself
pub record ToRecover (m : State) (w : Pages) (i by : ℕ) (most : Option ℕ) (pull : Pull) : Type 0 where
  pub idle : pull ≡ Pull.Idle
  pub itself : by ≡ i
  pub unbounded : most ≡ None
  pub low : 1 ≤ i
  pub high : i ≤ 8
  pub down : (m.inst i).status ≡ S.Down
  pub out : OutFrom i m
  pub rests : Rests m w

-- it recovers, and the page that it needs comes
pub record Recovers (m : State) (w : Pages) (i : ℕ) (most : Option ℕ) (pull : Pull) : Type 0 where
  pub unbounded : most ≡ None
  pub low : 1 ≤ i
  pub high : i ≤ 8
  pub runs : (m.inst i).status ≡ S.Recovering i
  pub out : (j : ℕ) → 1 ≤ j → j ≤ 8 → IsOut (m.inst j).status → (j ≡ i) ⊎ (((m.inst j).status ≡ S.Down) × (i + 1 ≤ j))
  pub quiet : Quiet m w
  pub comes : Comes m w i pull

-- all have recovered
pub record Settled (m : State) (w : Pages) : Type 0 where
  pub none : NoneIsOut m
  pub rests : Rests m w

-- of the pools of those that aren't up, those below i are empty, and that of i up to page p
abbrev pub EmptyTo : ℕ → ℕ → State → Pages → Type 0
EmptyTo i p m w = (q k : ℕ) → q < 1024 → holds (w.entry q) k ≡ true → ((m.inst k).status ≡ S.Up) ⊎ ((i < k) ⊎ ((k ≡ i) × (p ≤ q)))

-- a page goes next, at i
pub record Leaves (m : State) (w : Pages) (i p : ℕ) (pull : Pull) : Type 0 where
  pub idle : pull ≡ Pull.Idle
  pub settled : Settled m w
  pub empty : EmptyTo i p m w
  pub has : holds (w.entry p) i ≡ true

abbrev pub Stands : State → Pages → Cursor → Pull → Type 0
Stands m w (Cursor.Recovers i by most) pull = ToRecover m w i by most pull
Stands m w (Cursor.Steps i most) pull = Recovers m w i most pull
Stands m w (Cursor.Joins i) pull = (pull ≡ Pull.Idle) × Settled m w
Stands m w (Cursor.Flushes i p) pull = Leaves m w i p pull × (is_duty i (w.entry p) ≡ true)
Stands m w (Cursor.Evicts i p) pull = Leaves m w i p pull × (may_evict i (w.entry p) ≡ true)
Stands m w c pull = ⊥

-- where it goes on, or is done
abbrev pub Lands : State → Pages → Option Cursor → Type 0
Lands m w None = NoneIsOut m × OnlyUpHave m w
Lands m w (Some c) = Stands m w c Pull.Idle

-- the world in which it stands so
pub record Under (lines : List Line) (w : World) : Type 0 where
  pub left : w.told.left ≡ Work.Opening ∷ works_of lines
  pub cursor : Cursor
  pub at : cursor_in w.core.scene.state w.told.known Work.Opening w.told.cursor ≡ Some cursor
  pub stands : Stands w.core.scene.state w.core.pages cursor w.told.pull

-- a device failed, or it stands there, or is done
abbrev pub Came : List Line → World → Type 0
Came lines w = (w.told.failed ≡ true) ⊎ (Under lines w ⊎ IsBehind lines w)

-- ---- who recovers next

module _ (m : State) (w : Pages) (k : ℕ) (low : 1 ≤ k) (out : OutFrom k m) (q : Rests m w) where
  abbrev test : ℕ → Bool
  test j = is_down (m.inst j).status

  next-is : (j : ℕ) → next_down m k ≡ Some j → ToRecover m w j j None Pull.Idle
  next-is j is =
      let f = first-found test k (9 - k) j is in
      let from = f.0 in
      let below = f.1 in
      let down : (m.inst j).status ≡ S.Down = down-is (m.inst j).status f.2 in
      record {
        idle = refl;
        itself = refl;
        unbounded = refl;
        low = omega (arith, low, from);
        high = omega (arith, low, from, below);
        down = down;
        out = λ x some most o.
            let h = out x some most o in
            let past = h.1 in
            (h.0, ⊎_elim (λ lt. yes_no (ap is_down h.0) (f.3 x past lt)) (λ le. le) (cases_lt x j));
        rests = q;
      }

  none-is : next_down m k ≡ None → NoneIsOut m
  none-is is x some most o =
      let h = out x some most o in
      let past = h.1 in
      yes_no (ap is_down h.0) (first-missed test k (9 - k) is x past (omega (arith, past, most)))

  pub opens-lands : (o : Option ℕ) → next_down m k ≡ o → Lands m w (opens o)
  opens-lands None is = (refl, record { none = none-is is; rests = q })
  opens-lands (Some j) is = next-is j is

-- ---- joins

-- a join that no device fails leaves others as they are, and its instance as it was or up
join-refused : (m m' : State) (i : ℕ) (n : Refusal) (c : Cause) → is_failed (reply.Refused n) ≡ false → Names c n
    → has_cause c (order (event.Join i)) ≡ true → Refuses m (event.Join i) c m' → m' ≡ m
join-refused m m' i n Cause.Shut fine names in_ h = h
join-refused m m' i n Cause.NotDown fine names in_ h = h
join-refused m m' i n Cause.NotRecovered fine names in_ h = h
join-refused m m' i n Cause.Log fine names in_ h = h
join-refused m m' i n Cause.Lsn fine names in_ h = h
join-refused m m' i n Cause.Rig fine names in_ h = yes_no (ap (λ (x : Refusal). is_failed (reply.Refused x)) (fault-is n names)) fine
join-refused m m' i n c fine names in_ h = none_left in_

up-in : (s : Status) → s ≡ S.Up → IsOut s → ⊥
up-in s is (inl down) = let clash : S.Up ≡ S.Down = sym is ∙ down in absurd (cc)
up-in s is (inr runs) = let clash : S.Up ≡ S.Recovering runs.0 = sym is ∙ runs.1 in absurd (cc)

cut-not : (i : ℕ) (c : Cause) → has_cause c (Cause.Cut ∷ []) ≡ true → has_cause c (order (event.Join i)) ≡ true → ⊥
cut-not i Cause.Cut names in_ = none_left in_
cut-not i c names in_ = none_left names

join-plain : (i : ℕ) (n : Refusal) (c : Cause) → is_failed (reply.Refused n) ≡ false → Names c n → has_cause c (order (event.Join i)) ≡ true → IsPlain n
join-plain i R.Failed c fine names in_ = none_left (sym fine)
join-plain i R.CutCommit c fine names in_ = absurd (cut-not i c names in_)
join-plain i n c fine names in_ = tt

abbrev up-now : ℕ → Inst
up-now epoch = record { status = S.Up; epoch = epoch; begins = 0; failed = 0 }

joined-settled : (m : State) (w : Pages) (i epoch : ℕ) → Settled m w → Settled (joined i epoch m) w
joined-settled m w i epoch t = record {
  none = each_inst i (λ (j : ℕ) (x : Inst). 1 ≤ j → j ≤ 8 → IsOut x.status → ⊥) (up-now epoch) m.inst
      (λ low high out. up-in S.Up refl out) (λ j ne. t.none j);
  rests = (
    stood-quiet m (joined i epoch m) w
        (each_inst i (λ (k : ℕ) (x : Inst). ((m.inst k).status ≡ S.Closed → ⊥) → x.status ≡ S.Closed → ⊥) (up-now epoch) m.inst
        (λ before shut. absurd (cc)) (λ k ne before. before) 1 t.rests.0.stands)
        (each_inst i (λ (k : ℕ) (x : Inst). Works m k → IsActive k x.status × (1 ≤ k) × (k ≤ 8)) (up-now epoch) m.inst
        (λ active. (inl refl, active.1, active.2)) (λ k ne active. active))
        t.rests.0,
    t.rests.1,
  );
}

pub join-in : (m m' : State) (w w' : Pages) (i : ℕ) (r : Reply) → is_failed r ≡ false → Step m (event.Join i) r m'
    → Moves m w (event.Join i) r m' w' → Settled m w → Settled m' w'
join-in m m' w w' i (reply.Joined epoch) fine s h t =
    subst (λ (x : Pages). Settled m' x) (sym h.1) (subst (λ (x : State). Settled x w) (sym s.1.2) (joined-settled m w i epoch t))
join-in m m' w w' i (reply.Refused n) fine s h t =
    subst (λ (x : Pages). Settled m' x) (sym (refusal-leaves m w (event.Join i) n m' w' h (join-plain i n s.0 fine s.1 s.3.0)))
    (subst (λ (x : State). Settled x w) (sym (join-refused m m' i n s.0 fine s.1 s.3.0 s.4)) t)
join-in m m' w w' i r fine s h t = absurd s.1

-- ---- recoveries

-- whoever was active is, once i is recovered by itself
recovering-active : (i : ℕ) (m : State) (k : ℕ) → Works m k → Works (put_inst i (with_status (S.Recovering i) (m.inst i)) m) k
recovering-active i m = each_inst i (λ (k : ℕ) (x : Inst). Works m k → IsActive k x.status × (1 ≤ k) × (k ≤ 8))
    (with_status (S.Recovering i) (m.inst i)) m.inst (λ active. (inr (inr refl), active.1, active.2)) (λ k ne active. active)

recovering-open : (i : ℕ) (m : State) → ((m.inst 1).status ≡ S.Closed → ⊥)
    → ((put_inst i (with_status (S.Recovering i) (m.inst i)) m).inst 1).status ≡ S.Closed → ⊥
recovering-open i m open_ = each_inst i (λ (k : ℕ) (x : Inst). ((m.inst k).status ≡ S.Closed → ⊥) → x.status ≡ S.Closed → ⊥)
    (with_status (S.Recovering i) (m.inst i)) m.inst (λ before shut. absurd (cc)) (λ k ne before. before) 1 open_

-- a commit leaves how instances stand
pub commits-inst : (kept : List TxnId) (x : State) → (commit_all kept x).inst ≡ x.inst
commits-inst [] x = refl
commits-inst (t ∷ ts) x = commits-inst ts (committed t x)

down-in : (s : Status) → s ≡ S.Restarting → IsOut s → ⊥
down-in s is (inl down) = let clash : S.Restarting ≡ S.Down = sym is ∙ down in absurd (cc)
down-in s is (inr runs) = let clash : S.Restarting ≡ S.Recovering runs.0 = sym is ∙ runs.1 in absurd (cc)

module _ (m : State) (w : Pages) (i : ℕ) (low : 1 ≤ i) (high : i ≤ 8) (q : Rests m w) where
  -- its recovery has begun
  pub begun-lands : (m' : State) (w' : Pages) → OutFrom i m → m' ≡ put_inst i (with_status (S.Recovering i) (m.inst i)) m → w' ≡ w
      → Recovers m' w' i None Pull.Idle
  begun-lands m' w' out is same =
      subst (λ (x : Pages). Recovers m' x i None Pull.Idle) (sym same)
      (subst (λ (x : State). Recovers x w i None Pull.Idle) (sym is) (record {
        unbounded = refl;
        low = low;
        high = high;
        runs = ap (λ (b : Bool). (cond {A = Inst} b (with_status (S.Recovering i) (m.inst i)) (m.inst i)).status) (eq-eqb i i refl);
        out = each_inst i (λ (j : ℕ) (x : Inst). 1 ≤ j → j ≤ 8 → IsOut x.status → (j ≡ i) ⊎ ((x.status ≡ S.Down) × (i + 1 ≤ j)))
            (with_status (S.Recovering i) (m.inst i)) m.inst (λ some most o. inl refl)
            (λ j ne some most o. let h = out j some most o in let from = h.1 in inr (h.0, omega (arith, from, ne)));
        quiet = stood-quiet m (put_inst i (with_status (S.Recovering i) (m.inst i)) m) w (recovering-open i m q.0.stands) (recovering-active i m) q.0;
        comes = q.1;
      }))

  -- and it has ended
  module _ (runs : (m.inst i).status ≡ S.Recovering i)
      (out : (j : ℕ) → 1 ≤ j → j ≤ 8 → IsOut (m.inst j).status → (j ≡ i) ⊎ (((m.inst j).status ≡ S.Down) × (i + 1 ≤ j))) where
    restarts : after_recovery i (m.inst i).status ≡ S.Restarting
    restarts = ap (after_recovery i) runs ∙ ap (λ (b : Bool). cond {A = Status} b S.Restarting S.Clean) (eq-eqb i i refl)

    -- how it stands behind it
    abbrev mine : State → Inst
    mine x = with_status (after_recovery i (x.inst i).status) (x.inst i)

    pub ended-lands : (x m' : State) (w' : Pages) → x.inst ≡ m.inst → m' ≡ swept i x → Rests m w' → (o : Option Cursor) → o ≡ opens (next_down m' (i + 1))
        → Lands m' w' o
    ended-lands x m' w' same is quiet o next =
        subst (λ (c : Option Cursor). Lands m' w' c) (sym next)
        (subst (λ (y : State). Lands y w' (opens (next_down y (i + 1)))) (sym is)
        (opens-lands (swept i x) w' (i + 1) (omega arith) then-out then-quiet (next_down (swept i x) (i + 1)) refl))
      where
        stands_so : (mine x).status ≡ S.Restarting
        stands_so = ap (λ (f : ℕ → Inst). after_recovery i (f i).status) same ∙ restarts

        then-out : OutFrom (i + 1) (swept i x)
        then-out = each_inst i (λ (j : ℕ) (y : Inst). 1 ≤ j → j ≤ 8 → IsOut y.status → (y.status ≡ S.Down) × (i + 1 ≤ j)) (mine x) x.inst
            (λ some most o. absurd (down-in (mine x).status stands_so o))
            (λ j ne some most o.
            let at : (x.inst j).status ≡ (m.inst j).status = ap (λ (f : ℕ → Inst). (f j).status) same in
            ⊎_elim (λ here. absurd (ne (sym here))) (λ h. (at ∙ h.0, h.1)) (out j some most (subst IsOut at o)))

        then-quiet : Rests (swept i x) w'
        then-quiet = (
          stood-quiet m (swept i x) w'
              (each_inst i (λ (k : ℕ) (y : Inst). ((m.inst k).status ≡ S.Closed → ⊥) → y.status ≡ S.Closed → ⊥) (mine x) x.inst
              (λ before shut. let clash : S.Restarting ≡ S.Closed = sym stands_so ∙ shut in absurd (cc))
              (λ k ne before shut. before (sym (ap (λ (f : ℕ → Inst). (f k).status) same) ∙ shut)) 1 q.0.stands)
              (each_inst i (λ (k : ℕ) (y : Inst). Works m k → IsActive k y.status × (1 ≤ k) × (k ≤ 8)) (mine x) x.inst
              (λ active. (inr (inl stands_so), active.1, active.2))
              (λ k ne active. (subst (IsActive k) (sym (ap (λ (f : ℕ → Inst). (f k).status) same)) active.0, active.1, active.2)))
              quiet.0,
          quiet.1,
        )
