-- An example: instance 1 reads page 5 alone and changes it, instance 2 asks for it, it is given, taken, written and evicted, or instance 1
-- falls and the page is lost; and a refusal of each kind that the pages decide, or that the sums allow.
use Rattle.std.proofs.Common.{◌≡◌, inl, inr, ℕ, true, false, List, [], ◌∷◌, length, None, Some, refl, sym, ap, ◌∙◌, subst, arith}
use Rattle.std.specs.Prelude.{pos}
use Rattle.sd_base.specs.Ids.{same_rid, same_txn}
use Rattle.sd_base.specs.declared.ids.TxnId.{TxnId}
use Rattle.sd_base.specs.declared.ids.Rid.{Rid}
use Rattle.sd_base.specs.declared.place.Mode.TheVariants as modes
use Rattle.sd_base.specs.declared.place.Place.TheVariants as coded
use Rattle.sd_base.specs.declared.place.Status.TheVariants as Status
use Rattle.sd_base.specs.declared.refusal.Refusal.TheVariants as R
use Rattle.sd_model.specs.declared.cause.Cause.{Cause}
use Rattle.sd_model.specs.declared.event.Event.TheVariants.{Add, Write, Read, Ask, Give, Take, Evict, Flush, Fail, CheckEnd, Insert, Show}
use Rattle.sd_model.specs.declared.event.Reply.TheVariants as reply
use Rattle.sd_model.specs.declared.act.Act.TheVariants.{Put}
use Rattle.sd_model.specs.declared.act.Claim.{Claim}
use Rattle.sd_model.specs.Numbers.{IsLongSum, IsNumberOf, IsSum}
use Rattle.sd_model.specs.State.{State, begun_part, fall, fresh, took, view}
use Rattle.sd_model.proofs.NumberTexts.{sums-short}
use Rattle.sd_pagelock.specs.Places.{PageEntry}
use Rattle.sd_world.specs.Pages.{Pages, asked, fell, held_count, numbered, page_placed}
use Rattle.sd_world.specs.Answers.{Moves}
use Rattle.sd_world.specs.Bounds.{Bounds, IsOver, Within, bounds_after}
use Rattle.sd_world.proofs.Causes.{answer-clear, cause-said}

-- all instances are up, and transactions run
abbrev up : State
up = record fresh { part = λ t. begun_part; inst = λ i. record { status = Status.Up; epoch = 1; begins = 0; failed = 0 } }

abbrev one : TxnId
one = record { inst = 1; epoch = 1; seq = 1 }

abbrev two : TxnId
two = record { inst = 2; epoch = 1; seq = 1 }

abbrev r : Rid
r = record { page = 5; slot = 0 }

-- each pool has one frame
abbrev idle : Pages
idle = record { frames = 1; entry = λ p. PageEntry.Free; asks = λ p. []; number = λ p. 0; begun = λ i. false }

abbrev read : Pages
read = page_placed 5 (PageEntry.Excl 1 false) idle

abbrev written_once : Pages
written_once = numbered 5 7 (page_placed 5 (PageEntry.Excl 1 true) read)

abbrev wanted : Pages
wanted = asked 5 2 modes.Shared written_once

abbrev sent : Pages
sent = page_placed 5 (PageEntry.Moving 2 modes.Shared (1 ∷ []) true) wanted

abbrev shared : Pages
shared = page_placed 5 (PageEntry.Shared (1 ∷ 2 ∷ []) (Some 1)) sent

abbrev clean : Pages
clean = page_placed 5 (PageEntry.Shared (1 ∷ 2 ∷ []) None) shared

abbrev alone : Pages
alone = page_placed 5 (PageEntry.Shared (1 ∷ []) None) clean

abbrev lost : Pages
lost = fell 1 (λ p. 0) written_once

-- ---- what is answered

none_held : held_count idle.entry 1 1024 ≡ 0
none_held = refl

asks : Moves up idle (Ask 1 5 modes.Excl) reply.Have up read
asks = ((tt, (tt, (λ e. absurd (cc), (λ e. absurd (cc), (λ e. absurd (omega (arith, e.1, none_held)), (tt, tt)))))), (refl, refl))

changes : Moves up read (Write one r []) reply.Did up written_once
changes = ((tt, (tt, (tt, (tt, (tt, (tt, (λ e. absurd (cc), (λ e. absurd (cc), (tt, (tt, (tt, (tt, tt)))))))))))), (7, omega arith, refl))

is_asked : Moves up written_once (Ask 2 5 modes.Shared) (reply.Asked 1) up wanted
is_asked = ((tt, (tt, (λ e. absurd (cc), (λ e. absurd (cc), (λ e. absurd (cc), (tt, tt)))))), (refl, refl, refl))

gives : Moves up wanted (Give 1 5) (reply.Gave 2) up sent
gives = ((tt, (tt, (λ e. absurd (cc), (λ e. absurd (cc), (λ e. absurd (cc), (λ e. absurd (cc), (tt, tt))))))), (modes.Shared, refl, refl))

none_held_by_two : held_count sent.entry 2 1024 ≡ 0
none_held_by_two = refl

takes : Moves up sent (Take 2 5) reply.Did up shared
takes = ((tt, (tt, (λ e. absurd (cc), (λ e. absurd (cc), (λ e. absurd (omega (arith, e, none_held_by_two)), tt))))), refl)

-- the ask is served
served : shared.asks 5 ≡ []
served = refl

writes : Moves up shared (Flush 1 5) reply.Did up clean
writes = ((tt, (tt, (λ e. absurd (cc), (λ e. absurd (cc), (tt, tt))))), refl)

evicts : Moves up clean (Evict 2 5) reply.Did up alone
evicts = ((tt, (tt, (λ e. absurd (cc), (λ e. absurd (cc), (λ e. absurd (cc), tt))))), refl)

falls : Moves up written_once (Fail 1) reply.Did (fall 1 up) lost
falls = ((tt, (tt, tt)), (λ p. 0, refl))

is_lost_now : lost.entry 5 ≡ PageEntry.Lost
is_lost_now = refl

-- ---- what is refused

open_now : Status.Up ≡ Status.Closed → ⊥
open_now e = absurd (cc)

refused_lost : Moves up lost (Ask 2 5 modes.Excl) (reply.Refused R.Lost) up lost
refused_lost = record {
  cause = Cause.Lost;
  names = refl;
  first = (refl, (open_now, (λ n. n (inl refl), tt)), tt);
  passes = (tt, (tt, tt));
  says = λ d. refl;
  place = tt;
  leaves = refl;
}

-- instance 2 needs page 5, which instance 1 has alone
refused_away : Moves up written_once (Read two r) (reply.Refused (R.NeedPage (coded.Excl 1 true))) up written_once
refused_away = record {
  cause = Cause.Away;
  names = refl;
  first = (refl, (open_now, (λ e. absurd (cc), (λ n. n refl, (λ e. absurd (cc), (λ e. e.2, (tt, tt)))))), tt);
  passes = (tt, (tt, (tt, (tt, (tt, (λ e. absurd (cc), tt))))));
  says = λ d. refl;
  place = refl;
  leaves = refl;
}

refused_moving : Moves up sent (Ask 1 5 modes.Excl) (reply.Refused (R.MovingTo 2)) up sent
refused_moving = record {
  cause = Cause.Moving;
  names = refl;
  first = (refl, (open_now, (λ n. n (inl refl), (tt, tt))), tt);
  passes = (tt, (tt, (λ e. absurd (cc), tt)));
  says = λ d. refl;
  place = refl;
  leaves = refl;
}

one_held : held_count read.entry 1 1024 ≡ 1
one_held = refl

refused_frame : Moves up read (Ask 1 6 modes.Excl) (reply.Refused R.PoolFull) up read
refused_frame = record {
  cause = Cause.Frame;
  names = refl;
  first = (refl, (open_now, (λ n. n (inl refl), (tt, (tt, tt)))), tt);
  passes = (tt, (tt, (λ e. absurd (cc), (λ e. absurd (cc), tt))));
  says = λ d. (refl, omega (arith, one_held));
  place = tt;
  leaves = refl;
}

refused_unasked : Moves up written_once (Give 1 5) (reply.Refused R.NotAsked) up written_once
refused_unasked = record {
  cause = Cause.Asks;
  names = refl;
  first = (refl, (open_now, (λ n. n (inl refl), (tt, (tt, (tt, tt))))), tt);
  passes = (tt, (tt, (λ e. absurd (cc), (λ e. absurd (cc), (λ e. absurd (cc), tt)))));
  says = λ d. refl;
  place = tt;
  leaves = refl;
}

refused_dirty : Moves up written_once (Evict 1 5) (reply.Refused R.Dirty) up written_once
refused_dirty = record {
  cause = Cause.Dirty;
  names = refl;
  first = (refl, (open_now, (λ n. n (inl refl), (tt, (tt, tt)))), tt);
  passes = (tt, (tt, (λ e. absurd (cc), (λ e. absurd (cc), tt))));
  says = λ d. refl;
  place = tt;
  leaves = refl;
}

refused_no_check : Moves up idle (CheckEnd 1) (reply.Refused R.NoCheck) up idle
refused_no_check = record {
  cause = Cause.Check;
  names = refl;
  first = (refl, (open_now, (λ n. n (inl refl), tt)), tt);
  passes = (tt, (tt, tt));
  says = λ d. refl;
  place = tt;
  leaves = refl;
}

-- ---- sums

abbrev near_end : Bounds
near_end = record { slots = λ p. 900 ∷ 100 ∷ []; least = λ p. 900 ∷ 100 ∷ []; reach = λ i. 1048000; lsns = 4611686018427387900; masters = λ i. 0 }

abbrev far_from_end : Bounds
far_from_end = record { slots = λ p. []; least = λ p. []; reach = λ i. 0; lsns = 0; masters = λ i. 0 }

full_page : Within up near_end (Insert one 5 [] 100) (reply.Refused R.PageFull)
full_page = omega arith

full_log : Within up near_end (Write one r []) (reply.Refused R.LogFull)
full_log = omega arith

no_lsns : Within up near_end (Write one r []) (reply.Refused R.LsnEnd)
no_lsns = omega arith

has_room : Within up far_from_end (Write one r []) (reply.Refused R.LogFull) → ⊥
has_room h = absurd (omega arith)

-- who only waits takes no LSN, and who is refused for their end takes some
waits_free : (bounds_after near_end (Read two r) (reply.Refused (R.Blocked one))).lsns ≡ 4611686018427387900
waits_free = refl

refusal_counts : (bounds_after near_end (Write one r []) (reply.Refused R.LsnEnd)).lsns ≡ 4611686018427387904
refusal_counts = refl

shown : Within up near_end (Show 5) (reply.Shown coded.Free 4611686018427387900)
shown = omega arith

never_shown : Within up near_end (Show 5) (reply.Shown coded.Free 4611686018427387901) → ⊥
never_shown h = absurd (omega (arith, h))

-- a slot is known from its insert on
one_slot : (bounds_after far_from_end (Insert one 5 [] 20) (reply.At r)).slots 5 ≡ 20 ∷ []
one_slot = refl

-- ---- a slot of capacity 8 whose record is 100

abbrev eight : Bounds
eight = bounds_after far_from_end (Insert one 5 (49 ∷ 48 ∷ 48 ∷ []) 8) (reply.At r)

slot_of_eight : eight.least 5 ≡ 8 ∷ []
slot_of_eight = refl

abbrev hundred : State
hundred = took one r Claim.Excl (Put r (Some (49 ∷ 48 ∷ 48 ∷ [])) ∷ []) up

hundred_there : view hundred one r ≡ Some (49 ∷ 48 ∷ 48 ∷ [])
unfolding same_txn same_rid
hundred_there = refl

hundred_is : IsNumberOf (49 ∷ 48 ∷ 48 ∷ []) (pos 100)
hundred_is = (49 ∷ 48 ∷ 48 ∷ [], (refl, (((omega arith, omega arith, (omega arith, omega arith, (omega arith, omega arith, tt))), λ e. absurd (omega (arith, e))), refl)), omega arith)

thousand_is : IsSum (49 ∷ 48 ∷ 48 ∷ []) (pos 900) (49 ∷ 48 ∷ 48 ∷ 48 ∷ [])
thousand_is = (
  49 ∷ 48 ∷ 48 ∷ 48 ∷ [],
  (
    pos 100,
    hundred_is,
    (refl, (((omega arith, omega arith, (omega arith, omega arith, (omega arith, omega arith, (omega arith, omega arith, tt)))), λ e. absurd (omega (arith, e))), refl)),
  ),
  omega arith,
)

hundred_in : (u : List ℕ) → view hundred one r ≡ Some u → 49 ∷ 48 ∷ 48 ∷ [] ≡ u
hundred_in u e = let same = sym hundred_there ∙ e in cc

-- the text of 1000 is longer than what is there, and takes that slot
no_sum_over : IsOver hundred eight (Add one r (pos 900)) → ⊥
no_sum_over (u, w, is, sum, over) =
    let sums = sums-short (49 ∷ 48 ∷ 48 ∷ []) (pos 100) (pos 900) (pos 1000) hundred_is refl (omega arith) in
    let same : w ≡ 49 ∷ 48 ∷ 48 ∷ 48 ∷ [] = sums.only w (subst (λ (v : List ℕ). IsSum v (pos 900) w) (sym (hundred_in u is)) sum)
    ∙ sym (sums.only (49 ∷ 48 ∷ 48 ∷ 48 ∷ []) thousand_is) in
    let four : length w ≡ 4 = ap (length {A = ℕ}) same in
    absurd (omega (arith, over, four))

no_sum_long : Within hundred eight (Add one r (pos 900)) (reply.Refused R.TooLong) → ⊥
no_sum_long (inl long) = long
no_sum_long (inr (inl many)) =
    (sums-short (49 ∷ 48 ∷ 48 ∷ []) (pos 100) (pos 900) (pos 1000) hundred_is refl (omega arith)).short
    (subst (λ (v : List ℕ). IsLongSum v (pos 900)) (sym (hundred_in many.0 many.1)) many.2)
no_sum_long (inr (inr over)) = no_sum_over over

-- nine bytes are too long for it
too_long : Within hundred eight (Write one r (1 ∷ 2 ∷ 3 ∷ 4 ∷ 5 ∷ 6 ∷ 7 ∷ 8 ∷ 9 ∷ [])) (reply.Refused R.TooLong)
too_long = inr (inr (49 ∷ 48 ∷ 48 ∷ [], 1 ∷ 2 ∷ 3 ∷ 4 ∷ 5 ∷ 6 ∷ 7 ∷ 8 ∷ 9 ∷ [], hundred_there, refl, omega arith))

-- the slot is dead, and has a record of three bytes then: it has as many at least
taken_again : (bounds_after eight (Insert one 5 [] 3) (reply.At r)).least 5 ≡ 3 ∷ []
taken_again = refl

-- ---- what no call may answer

never_lost : Moves up idle (Ask 2 5 modes.Excl) (reply.Refused R.Lost) up idle → ⊥
never_lost h = absurd (let e : false ≡ true = cause-said up idle (Ask 2 5 modes.Excl) R.Lost up idle Cause.Lost h refl refl in cc)

none_held_idle : held_count idle.entry 2 1024 ≡ 0
none_held_idle = refl

never_full : Moves up idle (Ask 2 5 modes.Excl) (reply.Refused R.PoolFull) up idle → ⊥
never_full h = let e = cause-said up idle (Ask 2 5 modes.Excl) R.PoolFull up idle Cause.Frame h refl refl in absurd (omega (arith, e.1, none_held_idle))

-- a free page is had at once
never_asked : Moves up idle (Ask 2 5 modes.Excl) (reply.Asked 1) up (asked 5 2 modes.Excl idle) → ⊥
never_asked h = absurd (let e : true ≡ false = h.1.0 in cc)

never_elsewhere : Moves up written_once (Read two r) (reply.Refused (R.NeedPage coded.Free)) up written_once → ⊥
never_elsewhere h = absurd (let e : PageEntry.Free ≡ PageEntry.Excl 1 true = h.place in cc)

-- one that fails keeps no copy
never_kept : Moves up written_once (Fail 1) reply.Did (fall 1 up) written_once → ⊥
never_kept h = absurd (let e : PageEntry.Excl 1 true ≡ PageEntry.Lost = ap (λ (w : Pages). w.entry 5) h.1.1 in cc)

-- a read of a page that another has alone isn't answered
never_read : Moves up written_once (Read two r) (reply.Value None) up written_once → ⊥
never_read h = answer-clear up written_once (Read two r) (reply.Value None) up written_once Cause.Away h tt refl refl refl
