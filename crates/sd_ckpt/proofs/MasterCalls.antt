-- What the answers of a put of a master say of the complex. For the goals of `put_over` and `put_master`.
use Rattle.std.proofs.Common.{◌≡◌, ◌≢◌, inl, inr, ⊎_elim, ℕ, ◌+◌, ◌-◌, ◌^◌, ◌<◌, ◌≤◌, Bool, true, false, List, drop, length, refl, sym, ap, ◌∙◌, subst, arith}
use Rattle.std.specs.Prelude.{◌==◌, Option, None, Some, IfErr, IfSome, OnOk, Result, Ok, Err, is_some, slice_set, if◌then◌else◌}
use Rattle.std.specs.Option.{option_map_or}
use Rattle.std.proofs.lemmas.Bool.{cases_eq}
use Rattle.std.proofs.lemmas.List.{length-set}
use Rattle.sd_base.specs.Twin.{chosen_body, number_of}
use Rattle.sd_base.specs.declared.place.Status.{Status}
use Rattle.sd_logrec.specs.Kept.{Group, Master, Whole, area, master, master_of, reading}
use Rattle.sd_logrec.proofs.Groups.{before_gate}
use Rattle.sd_log.specs.Logs.{LogState}
use Rattle.sd_model.specs.State.{State}
use Rattle.sd_rig.specs.Devices as rig
use Rattle.sd_rig.specs.Devices.{LeavesOnly, LeavesSame, Span, device_len}
use Rattle.sd_rig.specs.Slots.{named_body}
use Rattle.sd_rig.specs.declared.slots.Chosen.{Chosen}
use Rattle.sd_rig.specs.Puts.{Puts}
use Rattle.sd_rig.specs.Spans.{span-weaker}
use Rattle.sd_rig.specs.declared.twin.Twin.{Twin}
use Rattle.sd_rig.proofs.Numbers.{number_of-take}
use Rattle.sd_chain.specs.Checks.{IsMaster}
use Rattle.sd_chain.specs.ChecksKept.{IsPut}
use Rattle.sd_chain.specs.Images.{Keeps}
use Rattle.sd_chain.specs.Logs.{Outcomes}
use Rattle.sd_chain.specs.Starts.{IsLater, NamesLater}
use Rattle.sd_chain.proofs.Masters.{put-outcome}
use Rattle.sd_chain.proofs.Outcomes.{put-outcomes}
use Rattle.sd_state.specs.Good.{Good, IsSettledAt, TakesCheck}
use Rattle.sd_state.specs.Images.{Stands}
use Rattle.sd_state.specs.Parts.{Begun, Parts, acting, among, count_at, epoch_at, log_at}
use Rattle.sd_state.specs.Values.{Pending}
use Rattle.sd_state.proofs.Items.{item-kept, item-set}
use Rattle.sd_ckpt.specs.Laws.{HasEither, KeepsChecks, ElsewhereSame, with_either}
use Rattle.sd_ckpt.specs.Masters.{IsMasterOr, IsMasterPut, MayPutMaster, next_master, with_master}
use Rattle.sd_ckpt.specs.declared.master.NotPut.{NotPut}
use Rattle.sd_ckpt.specs.declared.master.NotPut.TheVariants as U
use Rattle.sd_ckpt.specs.Readings.{ReadsAlike, storage_by}
use Rattle.sd_ckpt.proofs.EitherGood.{either-alike, either-good}
use Rattle.sd_ckpt.proofs.Later.{gone, later-log, later-log-stands, may-begin, names-later}
use Rattle.sd_ckpt.proofs.MasterGood.{master-alike, master-good}
use Rattle.sd_ckpt.proofs.PutStands.{put-stands, was-ready}

-- where both slots are
abbrev pub twin_there : ℕ → Twin
twin_there i = record { dev = i; at = 0; body = 64 }

-- ---- what a body says

named-by : (bytes : List ℕ) (body : Option (List ℕ)) → body ≡ chosen_body 0 64 bytes → master_of body ≡ master bytes
unfolding master
named-by bytes body is = ap master_of is

-- its number is the master's count
pub count-by : (o : Option (List ℕ)) → option_map_or number_of o 0 ≡ (master_of o).count
count-by None = refl
count-by (Some body) = sym (number_of-take 8 body (omega arith))

-- so one more is greater,
above-by : (o : Option (List ℕ)) (n : ℕ) → n ≡ (master_of o).count + 1 → IfSome o (λ b. number_of b < n)
above-by None n e = tt
above-by (Some body) n e = let is = count-by (Some body) in omega (arith, is, e)

pub above-count : (bytes : List ℕ) (n : ℕ) → n ≡ (master bytes).count + 1 → IfSome (chosen_body 0 64 bytes) (λ b. number_of b < n)
above-count bytes n e = above-by (chosen_body 0 64 bytes) n
    (e ∙ ap (λ (m : Master). m.count + 1) (sym (named-by bytes (chosen_body 0 64 bytes) refl)))

-- and what is known in memory is no less
pub count-known : (o : Option (List ℕ)) (n : ℕ) → IfSome o (λ body. number_of body ≡ n) → option_map_or number_of o 0 ≤ n
count-known None n known = omega arith
count-known (Some body) n known = omega (arith, known)

-- ---- where a log begins, and where its master stands

before-end : (start : ℕ) (bytes : List ℕ) (groups : List Group) (gate : ℕ) → reading start bytes ≡ Whole groups gate
    → start ≤ gate
unfolding reading
before-end start bytes groups gate e = before_gate (length (drop start bytes)) start (drop start bytes) groups gate e

-- it lies in the area
pub start-small : (i check start : ℕ) (seen : rig.DeviceImages) (leaves : Outcomes) (c : Parts) (m : State) (low : 1 ≤ i)
    (high : i ≤ 8)
    (g : Good seen leaves Pending.Idle c m) → leaves i (seen i) → (may : MayPutMaster i check start c) → start < 1048576
start-small i check start seen leaves c m low high g reads may =
    let room = (was-ready i seen leaves c m low high g reads may.settled).sound.room in
    let shorter : LogState = later-log i check start seen leaves c m low high g may in
    let le = before-end start (area (seen i)) shorter.groups shorter.gate
    (later-log-stands i check start seen leaves c m low high g may) in
    omega (arith, room, le)

-- both slots lie on the device
pub slots-fit : (i : ℕ) → 130 ≤ device_len i
slots-fit i = either (i == 0)
  where
    either : (b : Bool) → 130 ≤ (if b then 2099200 else 2097282)
    either true = omega arith
    either false = omega arith

-- one that takes checkpoints acts for itself
pub acts-by : (s : Status) (i : ℕ) → TakesCheck s → acting i s ≡ i
acts-by s i takes = ⊎_elim (λ e. ap (acting i) e) (λ e. ap (acting i) e) takes

-- ---- what a call answered

pub both-ok : {T E : Type 0} (r : Result T E) (P Q S : Type 0) → (P → Q → S) → OnOk r P → OnOk r Q → OnOk r S
both-ok (Ok x) P Q S f p q = f p q
both-ok (Err e) P Q S f p q = tt

-- an error is that one alone
pub good-by : {T : Type 0} (r : Result T NotPut) (P : Type 0) → IfErr r (λ (e : NotPut). e ≡ U.Unwritten) → r ≢ Err U.Unwritten
    → OnOk r P → P
good-by (Ok x) P only ne h = h
good-by (Err e) P only ne h = absurd (ne (ap (λ (x : NotPut). Err x) only))

pub not-unread : {T : Type 0} (r : Result T NotPut) → IfErr r (λ (e : NotPut). e ≡ U.Unwritten) → r ≢ Err U.Unread
not-unread (Ok x) only e = absurd (cc)
not-unread (Err U.Unread) only e = absurd (cc)
not-unread (Err U.Unwritten) only e = absurd (cc)

-- ---- the master that is put, by what was read

pub next-by : (i check start epoch known n : ℕ) (seen : rig.DeviceImages) (t : Twin) (chosen : Chosen) (out : List ℕ)
    → t ≡ twin_there i
    → n ≡ option_map_or number_of (named_body chosen 64 out) 0
    → named_body chosen t.body out ≡ chosen_body t.at t.body (seen t.dev)
    → known ≡ epoch
    → record { count = n + 1; log_area = 0; epoch = epoch; check = check; start = start } ≡ next_master known check start
    (master (seen i))
next-by i check start epoch known n seen t chosen out is number body same =
    let there : named_body chosen 64 out ≡ chosen_body 0 64 (seen i) =
    subst (λ (u : Twin). named_body chosen u.body out ≡ chosen_body u.at u.body (seen u.dev)) is body in
    let count : n ≡ (master (seen i)).count = number ∙ ap (λ (o : Option (List ℕ)). option_map_or number_of o 0) there
    ∙ count-by (chosen_body 0 64 (seen i)) ∙ ap (λ (m : Master). m.count) (named-by (seen i) (chosen_body 0 64 (seen i)) refl) in
    let made : ℕ → ℕ → Master = λ k e. record { count = k + 1; log_area = 0; epoch = e; check = check; start = start } in
    ap (λ (k : ℕ). made k epoch) count ∙ ap (made (master (seen i)).count) (sym same)

-- its count is one
pub count-fits : (i n : ℕ) (seen : rig.DeviceImages) (leaves : Outcomes) (c : Parts) (t : Twin) (chosen : Chosen) (out : List ℕ)
    → IsSettledAt seen leaves c i → count_at c i + 1 < 2 ^ 64 → t ≡ twin_there i
    → n ≡ option_map_or number_of (named_body chosen 64 out) 0
    → named_body chosen t.body out ≡ chosen_body t.at t.body (seen t.dev) → n + 1 < 2 ^ 64
count-fits i n seen leaves c t chosen out at-i small is number body =
    let there : named_body chosen 64 out ≡ chosen_body 0 64 (seen i) =
    subst (λ (u : Twin). named_body chosen u.body out ≡ chosen_body u.at u.body (seen u.dev)) is body in
    let most = count-known (chosen_body 0 64 (seen i)) (count_at c i) at-i.counted in
    omega (arith, most, small, number, ap (λ (o : Option (List ℕ)). option_map_or number_of o 0) there)

-- ---- a put of a master, as it answers

module _ (i check start count : ℕ) (body : List ℕ) (t : Twin) (is : t ≡ twin_there i) (seen seen' : rig.DeviceImages)
    (leaves leaves' : Outcomes)
    (c : Parts) (m : State) (low : 1 ≤ i) (high : i ≤ 8) (g : Good seen leaves Pending.Idle c m)
    (reads : (d : ℕ) → d ≤ 8 → leaves d (seen d))
    (idle : c.due ≡ None) (may : MayPutMaster i check start c) (well : IsMaster body)
    (says : master_of (Some body) ≡ next_master (epoch_at c i) check start (master (seen i)))
    (now : ℕ) (since : ℕ → rig.DeviceImages → Type 0) (moments : Span now since (Puts t.dev t.at t.body body seen leaves)) where
  abbrev log : LogState
  log = log_at c i

  abbrev next : Master
  next = next_master (epoch_at c i) check start (master (seen i))

  abbrev shorter : LogState
  shorter = later-log i check start seen leaves c m low high g may

  during : Span now since (Puts i 0 64 body seen leaves)
  during = subst (λ (u : Twin). Span now since (Puts u.dev u.at u.body body seen leaves)) is moments

  names : NamesLater (seen i) log shorter body
  names = names-later i check start seen leaves c m low high g may body well says

  -- each image since it began stands
  pub put-images : Span now since (Stands m Pending.Idle)
  put-images = span-weaker now since (Puts i 0 64 body seen leaves) (Stands m Pending.Idle)
      (λ img f. put-stands leaves i start
      (gone i check start seen leaves c m low high g may) shorter body seen img c m g reads idle
      (may-begin i check start seen leaves c m low high g may) names f) during

  module _ (others : (d : ℕ) → d ≢ t.dev → seen' d ≡ seen d)
      (others_leave : (d : ℕ) → d ≢ t.dev → LeavesSame (leaves d) (leaves' d))
      (reads' : (d : ℕ) → d ≤ 8 → leaves' d (seen' d))
      (counts : (img : rig.DeviceImages) → rig.Leaves leaves' img → since now img) where
    elsewhere : (d : ℕ) → d ≢ i → d ≢ t.dev
    elsewhere d ne e = ne (e ∙ ap (λ (u : Twin). u.dev) is)

    stay : ElsewhereSame i seen seen' leaves leaves'
    stay = record { reads = λ d ne. others d (elsewhere d ne); left = λ d ne. others_leave d (elsewhere d ne) }

    puts : (bytes : List ℕ) → leaves' i bytes → IsPut i 0 64 body seen leaves bytes
    puts = put-outcomes leaves leaves' i 0 64 body seen seen' reads' (λ img l. during.each img (counts img l))

    outcome : (bytes : List ℕ) → leaves' i bytes → HasEither i (seen i) log shorter bytes
    outcome bytes l = let p = puts bytes l in
        subst (HasEither i (seen i) log shorter) p.1
        (put-outcome i log shorter body seen leaves p.0 names
        (was-ready i seen leaves c m low high g (reads i high) may.settled) p.2)

    -- the former master is left, or this one
    pub put-left : (bytes : List ℕ) → leaves' i bytes → IsMasterOr next (seen i) bytes
    put-left bytes l = let p = puts bytes l in
        subst (IsMasterOr next (seen i)) p.1
        (⊎_elim (λ old. inl (sym (named-by (p.0 i) (chosen_body 0 64 (seen i)) (sym old))
        ∙ named-by (seen i) (chosen_body 0 64 (seen i)) refl))
        (λ new. inr (sym (named-by (p.0 i) (Some body) (sym new)) ∙ says)) p.2.whole)

    -- once it failed
    pub put-either : Good seen' leaves' Pending.Idle (with_either i start c) m
    put-either = either-good leaves leaves' i start
        (gone i check start seen leaves c m low high g may) shorter seen seen' c m g reads idle
        (may-begin i check start seen leaves c m low high g may) stay outcome

    pub put-either-alike : (moved keeps : Keeps) → ReadsAlike (storage_by seen c moved keeps)
        (storage_by seen' (with_either i start c) moved keeps)
    put-either-alike = either-alike leaves leaves' i start
        (gone i check start seen leaves c m low high g may) shorter seen seen' c m g reads idle
        (may-begin i check start seen leaves c m low high g may) stay outcome

    module _ (there : chosen_body t.at t.body (seen' t.dev) ≡ Some body) (only : LeavesOnly (seen' t.dev) (leaves' t.dev))
        (number : number_of body ≡ count) where
      there-now : chosen_body 0 64 (seen' i) ≡ Some body
      there-now = subst (λ (u : Twin). chosen_body u.at u.body (seen' u.dev) ≡ Some body) is there

      only-now : LeavesOnly (seen' i) (leaves' i)
      only-now = subst (λ (u : Twin). LeavesOnly (seen' u.dev) (leaves' u.dev)) is only

      says-now : master (seen' i) ≡ next
      says-now = sym (named-by (seen' i) (Some body) (sym there-now)) ∙ says

      later : IsLater (seen i) log shorter (seen' i)
      later = ⊎_elim
          (λ old. let same : (master (seen i)).count ≡ (master (seen i)).count + 1 = ap (λ (x : Master). x.count)
          (sym old.0 ∙ says-now) in
          absurd (omega (arith, same)))
          (λ new. new) (outcome (seen' i) (reads' i high))

      ended : KeepsChecks i (gone i check start seen leaves c m low high g may)
          (slice_set {A = Option Begun} c.checks (i - 1) None) c
      ended = record {
        long = length-set {A = Option Begun} c.checks (i - 1) None ∙ g.shape.checks;
        less = λ j b there_is. ⊎_elim
            (λ e. let clash : None ≡ Some b = sym (item-set {A = Option Begun} None c.checks i None low high g.shape.checks)
            ∙ ap (among {A = Option Begun} None (slice_set {A = Option Begun} c.checks (i - 1) None)) (sym e)
            ∙ there_is in absurd (cc))
            (λ ne. (inl ne, sym (item-kept {A = Option Begun} None c.checks i None low j ne) ∙ there_is))
            (cases_eq j i);
      }

      -- once it is Ok
      pub put-good : Good seen' leaves' Pending.Idle (with_master i start count c) m
      put-good = master-good leaves leaves' i start count (gone i check start seen leaves c m low high g may) shorter
          (slice_set {A = Option Begun} c.checks (i - 1) None) seen seen' c m g reads
          (may-begin i check start seen leaves c m low high g may)
          ended may.alive stay only-now later
          (subst (λ (o : Option (List ℕ)). IfSome o (λ b. number_of b ≡ count)) (sym there-now) number)

      pub put-alike : (moved keeps : Keeps) → ReadsAlike (storage_by seen c moved keeps)
          (storage_by seen' (with_master i start count c) moved keeps)
      put-alike = master-alike leaves leaves' i start count (gone i check start seen leaves c m low high g may) shorter
          (slice_set {A = Option Begun} c.checks (i - 1) None) seen seen' c m g reads
          (may-begin i check start seen leaves c m low high g may)
          ended may.alive stay only-now later
          (subst (λ (o : Option (List ℕ)). IfSome o (λ b. number_of b ≡ count)) (sym there-now) number)

      pub put-done : IsMasterPut next (seen' i) (leaves' i)
      put-done = record { chosen = ap (λ (o : Option (List ℕ)). is_some o) there-now; says = says-now; only = only-now }
