-- A read of the data device: the complex stays good where at most as much may be left of the devices, and the page that counts.
use Rattle.std.proofs.Common.{◌≡◌, ℕ, ◌+◌, ◌≤◌, ◌<◌, Bool, true, false, nat_lt, List, Option, refl, sym, ap, ◌∙◌, subst, arith}
use Rattle.std.specs.Prelude.{IfSome, if◌then◌else◌}
use mathlib.Core.Path.{fun_ext}
use Rattle.sd_base.specs.Twin.{First, Second, Same, body_at, body_of, chosen_body, is_open, number_of, slot_of}
use Rattle.sd_page.specs.Spelling.{WellFormed}
use Rattle.sd_page.specs.Page.{Page}
use Rattle.sd_model.specs.State.{State}
use Rattle.sd_rig.specs.Devices as rig
use Rattle.sd_rig.specs.Devices.{IsUnchanged, LeavesOnly, Span}
use Rattle.sd_chain.specs.Bytes.{twin_at}
use Rattle.sd_chain.specs.Checks.{IsPageSlot, TwinIsSound}
use Rattle.sd_chain.specs.Images.{Keeps}
use Rattle.sd_chain.proofs.Narrowed.{narrowed-gives, narrowed-safe}
use Rattle.sd_chain.specs.AppendedRecords as changes_law
use Rattle.sd_chain.specs.World.{Base}
use Rattle.sd_chain.proofs.Changes.{rest-keeps}
use Rattle.sd_chain.specs.Logs.{Less, Outcomes, may_of}
use Rattle.sd_chain.specs.Soundly.{IsSoundly}
use Rattle.sd_state.specs.Good.{Good, Half, base_of, dir_of}
use Rattle.sd_state.specs.Images.{Stands, leaves_by, log_by}
use Rattle.sd_state.specs.Parts.{Parts}
use Rattle.sd_state.specs.Values.{Pending}
use Rattle.sd_state.proofs.Standing.{left-stands}

-- ---- the body that counts is the image of its page

newer-well : (p : ℕ) (a b : Bool) (first second : List ℕ) → WellFormed first p → WellFormed second p
    → IfSome (body_of (if a then Second true else if b then First true else Same) first second) (λ body. WellFormed body p)
newer-well p true b first second f s = s
newer-well p false true first second f s = f
newer-well p false false first second f s = tt

slot-well : (p : ℕ) (a b : Bool) (m n : ℕ) (first second : List ℕ) → (a ≡ true → WellFormed first p)
    → (b ≡ true → WellFormed second p) → IfSome (body_of (slot_of a b m n) first second) (λ body. WellFormed body p)
slot-well p true true m n first second f s = newer-well p (nat_lt m n) (nat_lt n m) first second (f refl) (s refl)
slot-well p true false m n first second f s = f refl
slot-well p false true m n first second f s = s refl
slot-well p false false m n first second f s = tt

chosen-well : (p : ℕ) (bytes : List ℕ) → TwinIsSound p bytes
    → IfSome (chosen_body (twin_at p) 1024 bytes) (λ body. WellFormed body p)
chosen-well p bytes sound =
    let at = twin_at p in
    let e : at + 1025 ≡ at + 1024 + 1 = omega arith in
    slot-well p (is_open at bytes) (is_open (at + 1024 + 1) bytes)
    (number_of (body_at 1024 at bytes)) (number_of (body_at 1024 (at + 1024 + 1) bytes))
    (body_at 1024 at bytes) (body_at 1024 (at + 1024 + 1) bytes) sound.first
    (subst (λ (n : ℕ). IsPageSlot p n bytes) e sound.second)

-- ---- at most as much may be left, and what the devices read

module _ (seen : rig.DeviceImages) (leaves leaves' : Outcomes) (pend : Pending) (c : Parts) (m : State) (g : Good seen leaves pend c m)
    (less : Less leaves leaves') (reads : (d : ℕ) → d ≤ 8 → leaves' d (seen d)) where
  only-less : (d : ℕ) → d ≤ 8 → LeavesOnly (seen d) (leaves d) → LeavesOnly (seen d) (leaves' d)
  only-less d le only bytes = (
    λ left. (only bytes).0 (less d bytes left),
    λ is. subst (leaves' d) (sym is) (reads d le),
  )

  module _ (moved : Keeps) where
    abbrev wide : Outcomes
    wide = leaves_by c moved leaves

    abbrev narrow : Outcomes
    narrow = leaves_by c moved leaves'

    h : Half seen wide (log_by c moved) pend c m
    h = g.half moved

    less-here : Less wide narrow
    less-here d bytes left = (less d bytes left.0, left.1)

    may-less-here : (p : ℕ) (x : Page) → may_of narrow p x → may_of wide p x
    may-less-here p x may = (may.0, less-here 0 may.0 may.1, may.2)

    abbrev old_base : Base (may_of wide)
    old_base = base_of seen wide (log_by c moved) c

    rests : changes_law.Rests old_base (base_of seen narrow (log_by c moved) c)
    rests = record {
      bases = λ j. refl;
      tails = λ j. refl;
      version = λ keeps q. refl;
      safe = narrowed-safe (may_of wide) (may_of narrow) may-less-here old_base.tails old_base.version h.coherent.safe;
      reads = λ p. (seen 0, (reads 0 (omega arith), tt), refl);
      rec_lsn = λ q. refl;
      stays = record {
        less = may-less-here;
        disk = λ q. refl;
        loose = λ j lo. refl;
        loose_disk = refl;
        active = λ j. refl;
        up = λ j. refl;
        due = refl;
      };
    }

    soundly-less : IsSoundly narrow (log_by c moved)
    soundly-less = record {
      ready = λ j lo hi bytes left. h.soundly.ready j lo hi bytes (less-here j bytes left);
      twins = λ p lt bytes left. h.soundly.twins p lt bytes (less-here 0 bytes left);
      lsns = λ keeps. let old = h.soundly.lsns keeps in
          record { logs = old.logs; pages = λ p x may. old.pages p x (may-less-here p x may) };
    }

    half-less : Half seen narrow (log_by c moved) pend c m
    half-less = record {
      coherent = rest-keeps (may_of wide) (may_of narrow) old_base (base_of seen narrow (log_by c moved) c) (dir_of c)
          h.coherent rests;
      soundly = soundly-less;
      gives = narrowed-gives (may_of wide) (may_of narrow) may-less-here old_base.tails _ h.gives;
      claimed = h.claimed;
      held = h.held;
      epochs = λ j lo hi bytes left. h.epochs j lo hi bytes (less-here j bytes left);
      checks = λ k b is. let old = h.checks k b is in ((λ p x may. old.0 p x (may-less-here p x may)), old.1);
    }

  pub less-good : Good seen leaves' pend c m
  less-good = record {
    shape = g.shape;
    half = half-less;
    places = λ j place is bytes left. g.places j place is bytes (less j bytes left);
    others = g.others;
    settled = λ j lo hi e. let s = g.settled j lo hi e in
        record { only = only-less j hi s.only; stands = s.stands; one_place = s.one_place; counted = s.counted; epoch = s.epoch };
    disk_settled = λ e. only-less 0 (omega arith) (g.disk_settled e);
    disk_lsns = λ moved p x may. g.disk_lsns moved p x (may.0, less 0 may.0 may.1, may.2);
    last = g.last;
    owed = g.owed;
    owed_loose = g.owed_loose;
    kept = g.kept;
    placed = g.placed;
    listed = g.listed;
    marked = g.marked;
    named = g.named;
    numbered = g.numbered;
    recoverers = g.recoverers;
    not_closed = g.not_closed;
    instances = g.instances;
    told = g.told;
    at_rest = g.at_rest;
    begun = g.begun;
    at_work = g.at_work;
    going = g.going;
    pending = g.pending;
    locks = g.locks;
    gone = g.gone;
    asks = g.asks;
    checking = g.checking;
  }

-- the twin of a page on the data device is sound
pub seen-sound : (seen : rig.DeviceImages) (leaves : Outcomes) (pend : Pending) (c : Parts) (m : State) → Good seen leaves pend c m
    → leaves 0 (seen 0) → (p : ℕ) → p < 1024 → TwinIsSound p (seen 0)
seen-sound seen leaves pend c m g left p lt = (g.half (λ j. false)).soundly.twins p lt (seen 0) (left, tt)

-- what a rig has told of its devices stays
module _ (seen seen' : rig.DeviceImages) (leaves leaves' : Outcomes) (t t' : ℕ) (since since' : ℕ → rig.DeviceImages → Type 0)
    (u : IsUnchanged seen seen' leaves leaves' t t' since since') (pend : Pending) (c : Parts) (m : State)
    (g : Good seen leaves pend c m) where
  -- the complex stays good,
  pub unchanged-good : ((d : ℕ) → d ≤ 8 → leaves' d (seen' d)) → Good seen' leaves' pend c m
  unchanged-good reads = subst (λ (s : rig.DeviceImages). Good s leaves' pend c m) (sym (fun_ext u.reads))
      (less-good seen leaves leaves' pend c m g (λ d bytes left. (u.outcomes d bytes).0 left)
      (λ d le. subst (leaves' d) (u.reads d) (reads d le)))

  -- and each image since then stands
  pub unchanged-stands : ((img : rig.DeviceImages) → since t img → rig.Leaves leaves img) → Span t since' (Stands m pend)
  unchanged-stands now = record { each = λ img later. left-stands leaves seen img pend c m g (now img ((u.past t img).0 later)) }

-- what a read of both slots names is the image of its page
pub named-well : (p at : ℕ) (seen : List ℕ) (body : Option (List ℕ)) → TwinIsSound p seen → at ≡ twin_at p
    → body ≡ chosen_body at 1024 seen → IfSome body (λ b. WellFormed b p)
named-well p at seen body sound place is = subst (λ (o : Option (List ℕ)). IfSome o (λ b. WellFormed b p))
    (sym (is ∙ ap (λ (n : ℕ). chosen_body n 1024 seen) place)) (chosen-well p seen sound)
