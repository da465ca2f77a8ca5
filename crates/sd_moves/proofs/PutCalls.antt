-- What the answers of a put say of the complex, and of calls one after another. For the goals of writing.rt.
use Rattle.std.proofs.Common.{◌≡◌, ◌≢◌, inl, ℕ, zero, suc, ◌<◌, ◌≤◌, Bool, true, false, List, [], ◌∷◌, Option, None, Some, get_or, refl, sym, ap, ◌∙◌, subst, arith, slice_set, ◌||◌}
use Rattle.std.specs.Prelude.{Result, Ok, Err, IfErr, OnOk}
use Rattle.std.specs.Result.{is_err}
use Rattle.std.specs.Option.{option_map_or}
use Rattle.std.proofs.lemmas.List.{get_or-set_other, get_or-set_same, length-set}
use Rattle.sd_base.specs.Twin.{chosen_body, number_of}
use Rattle.sd_page.specs.Page.{Page, PageFits}
use Rattle.sd_page.specs.Spelling.{page_spelling}
use Rattle.sd_page.proofs.Told.{told}
use Rattle.sd_model.specs.State.{State}
use Rattle.sd_pagelock.specs.Directory as directory
use Rattle.sd_pagelock.specs.Directory.{DirectoryState, entry_at}
use Rattle.sd_pagelock.specs.Places.{Formed, is_lost}
use Rattle.sd_pagelock.specs.Rows.{written}
use Rattle.sd_pool.specs.Buffers as buffers
use Rattle.sd_rig.specs.Slots.{named_body}
use Rattle.sd_rig.specs.declared.slots.Chosen.{Chosen}
use Rattle.sd_rig.specs.Devices as rig
use Rattle.sd_rig.specs.Devices.{Elapses, IsUnchanged, LeavesOnly, LeavesSame, Span}
use Rattle.sd_rig.specs.Spans.{span-weaker}
use Rattle.sd_rig.specs.declared.twin.Twin.{Twin}
use Rattle.sd_rig.specs.Puts.{Puts}
use Rattle.sd_chain.specs.Bytes.{disk_page, page_in, twin_at}
use Rattle.sd_chain.specs.Checks.{TwinIsSound}
use Rattle.sd_chain.specs.ChecksKept.{IsPut}
use Rattle.sd_chain.specs.Logs.{Outcomes}
use Rattle.sd_chain.proofs.Outcomes.{put-outcomes}
use Rattle.sd_state.specs.Good.{Good}
use Rattle.sd_state.specs.Images.{Stands}
use Rattle.sd_state.specs.Laws.{newest_of}
use Rattle.sd_state.specs.Locking.{IsSet}
use Rattle.sd_state.specs.Parts.{Parts, is_loose, log_at, pool_at}
use Rattle.sd_state.specs.Values.{Pending}
use Rattle.sd_state.proofs.LockReads.{named-well}
use Rattle.sd_state.proofs.Standing.{each-copy-is-newest}
use Rattle.sd_world.specs.Pages.{is_duty}
use Rattle.sd_moves.specs.Putting.{MayBePut, MayPut, SameVersions, left_after, put_parts, with_loose_disk, with_written}
use Rattle.sd_moves.specs.declared.writing.Unput.{Unput}
use Rattle.sd_moves.specs.declared.writing.Unput.TheVariants as U
use Rattle.sd_moves.proofs.PutCleaned.{cleaned-good}
use Rattle.sd_moves.proofs.PutPages.{lsn-counted}
use Rattle.sd_moves.proofs.PutMay.{duty-holds, held-may}
use Rattle.sd_moves.proofs.PutTried as tried

-- ---- the mark of device 0

-- one that is written as it was
mark-same : (marks : List Bool) (b : Bool) → get_or marks 0 true ≡ b → slice_set marks 0 b ≡ marks
mark-same [] b is = refl
mark-same (x ∷ marks) b is = ap (λ (y : Bool). y ∷ marks) (sym is)

pub disk-same : (c : Parts) (b : Bool) → is_loose c 0 ≡ b → with_loose_disk b c ≡ c
disk-same c b is = ap (λ (marks : List Bool). record c { loose = marks }) (mark-same c.loose b is)

-- and one that is written twice
mark-again : (marks : List Bool) (a b : Bool) → slice_set (slice_set marks 0 a) 0 b ≡ slice_set marks 0 b
mark-again [] a b = refl
mark-again (x ∷ marks) a b = refl

pub disk-again : (c : Parts) (a b : Bool) → with_loose_disk b (with_loose_disk a c) ≡ with_loose_disk b c
disk-again c a b = ap (λ (marks : List Bool). record c { loose = marks }) (mark-again c.loose a b)

pub left-again : (e : Unput) (c : Parts) → left_after e (with_loose_disk false c) ≡ left_after e c
left-again U.Unread c = disk-again c false false
left-again U.Unwritten c = disk-again c false true

-- what a put leaves of the parts: all, once it is Ok,
pub put-stays : (r : Result (Unit {0}) Unput) (c new : Parts) → new ≡ put_parts r c → OnOk r (new ≡ c)
put-stays (Ok x) c new is = is
put-stays (Err e) c new is = tt

-- and all but the mark of device 0 else
pub put-errors : (r : Result (Unit {0}) Unput) (c new : Parts) → is_loose c 0 ≡ false → new ≡ put_parts r c
    → IfErr r (λ (e : Unput). new ≡ left_after e c)
put-errors (Ok x) c new settled is = tt
put-errors (Err U.Unread) c new settled is = is ∙ sym (disk-same c false settled)
put-errors (Err U.Unwritten) c new settled is = is

-- ---- a put, as it answers

abbrev pub twin_there : ℕ → Twin
twin_there p = record { dev = 0; at = twin_at p; body = 1024 }

module _ (p : ℕ) (im : Page) (seen seen' : rig.DeviceImages) (leaves leaves' : Outcomes) (pend : Pending) (c : Parts) (m : State)
    (g : Good seen leaves pend c m) (left : leaves 0 (seen 0)) (can : MayBePut p im seen leaves c)
    (small : p < 1024) (fits : PageFits im) (t : Twin) (is : t ≡ twin_there p)
    (body : List ℕ) (spelled : body ≡ page_spelling im) (now : ℕ) (since : ℕ → rig.DeviceImages → Type 0)
    (moments : Span now since (Puts t.dev t.at t.body body seen leaves)) where
  during : Span now since (Puts 0 (twin_at p) 1024 (page_spelling im) seen leaves)
  during = subst (λ (u : Twin). Span now since (Puts u.dev u.at u.body (page_spelling im) seen leaves)) is
      (subst (λ (b : List ℕ). Span now since (Puts t.dev t.at t.body b seen leaves)) spelled moments)

  -- each image since it began stands
  pub put-images : Span now since (Stands m pend)
  put-images = span-weaker now since (Puts 0 (twin_at p) 1024 (page_spelling im) seen leaves) (Stands m pend)
      (λ img f. tried.put-stands p im seen leaves pend c m g left can small fits img f) during

  module _ (others : (d : ℕ) → d ≢ t.dev → seen' d ≡ seen d)
      (others_leave : (d : ℕ) → d ≢ t.dev → LeavesSame (leaves d) (leaves' d)) (reads : (d : ℕ) → d ≤ 8 → leaves' d (seen' d))
      (counts : (img : rig.DeviceImages) → rig.Leaves leaves' img → since now img) where
    elsewhere : (d : ℕ) → d ≢ 0 → d ≢ t.dev
    elsewhere d ne e = ne (e ∙ ap (λ (u : Twin). u.dev) is)

    puts : (bytes : List ℕ) → leaves' 0 bytes → IsPut 0 (twin_at p) 1024 (page_spelling im) seen leaves bytes
    puts = put-outcomes leaves leaves' 0 (twin_at p) 1024 (page_spelling im) seen seen' reads (λ img l. during.each img (counts img l))

    -- once it is Ok
    pub put-ok : LeavesOnly (seen' t.dev) (leaves' t.dev) → Good seen' leaves' pend c m
    put-ok only = tried.put-good p im seen leaves pend c m g left can small fits c.loose seen' leaves' g.shape.loose
        (λ d ne. refl) (λ d ne. others d (elsewhere d ne)) (λ d ne. others_leave d (elsewhere d ne)) (reads 0 (omega arith))
        (λ e. subst (λ (u : Twin). LeavesOnly (seen' u.dev) (leaves' u.dev)) is only) puts

    pub put-newest : chosen_body t.at t.body (seen' t.dev) ≡ Some body → disk_page (seen' 0) p ≡ newest_of seen leaves c p
    put-newest there = ap (page_in p) (subst (λ (u : Twin). chosen_body u.at u.body (seen' u.dev) ≡ Some (page_spelling im)) is
        (there ∙ ap (λ (b : List ℕ). Some b) spelled)) ∙ told im fits
        ∙ tried.im-newest p im seen leaves pend c m g left can

    loose_there : get_or (slice_set c.loose 0 true) 0 true ≡ true
    loose_there = get_or-set_same c.loose 0 true true (omega (arith, g.shape.loose))

    only_there : get_or (slice_set c.loose 0 true) 0 true ≡ false → LeavesOnly (seen' 0) (leaves' 0)
    only_there e = let clash = sym loose_there ∙ e in absurd (cc)

    -- and once it failed
    pub put-failed : Good seen' leaves' pend (with_loose_disk true c) m
    put-failed = tried.put-good p im seen leaves pend c m g left can small fits (slice_set c.loose 0 true) seen'
        leaves'
        (length-set c.loose 0 true ∙ g.shape.loose) (λ d ne. get_or-set_other c.loose 0 d true true ne)
        (λ d ne. others d (elsewhere d ne)) (λ d ne. others_leave d (elsewhere d ne)) (reads 0 (omega arith)) only_there puts

    pub put-same : SameVersions seen seen' c
    put-same = tried.put-versions p im seen leaves pend c m g left can small fits (slice_set c.loose 0 true) seen'
        leaves' (length-set c.loose 0 true ∙ g.shape.loose) (λ d ne. get_or-set_other c.loose 0 d true true ne)
        (λ d ne. others d (elsewhere d ne)) (λ d ne. others_leave d (elsewhere d ne)) (reads 0 (omega arith)) only_there puts

-- ---- a read

-- while nothing changes no time passes,
pub read-elapses : (seen seen' : rig.DeviceImages) (leaves leaves' : Outcomes) (t t' : ℕ) (since since' : ℕ → rig.DeviceImages → Type 0)
    → IsUnchanged seen seen' leaves leaves' t t' since since' → Elapses t t' since since'
read-elapses seen seen' leaves leaves' t t' since since' u = record {
  later = let e = u.clock in omega (arith, e);
  splits = λ s img le h. inl ((u.past s img).0 h);
  keeps = λ s img le h. (u.past s img).1 h;
}

-- and so far each outcome of a device is one of before
pub same-then : (one two three : List ℕ → Type 0) → LeavesSame one two → LeavesSame two three → LeavesSame one three
same-then one two three f h bytes = (λ l. (f bytes).0 ((h bytes).0 l), λ l. (h bytes).1 ((f bytes).1 l))

-- what the slots of a page, read, say of its LSN
pub read-lsn : (p n : ℕ) (seen : rig.DeviceImages) (t : Twin) (chosen : Chosen) (out : List ℕ) → t ≡ twin_there p
    → TwinIsSound p (seen 0)
    → named_body chosen t.body out ≡ chosen_body t.at t.body (seen t.dev)
    → n ≡ option_map_or number_of (named_body chosen 1024 out) 0 → n ≡ (disk_page (seen 0) p).lsn
read-lsn p n seen t chosen out is sound body told_as =
    let there : named_body chosen 1024 out ≡ chosen_body (twin_at p) 1024 (seen 0) =
    subst (λ (u : Twin). named_body chosen u.body out ≡ chosen_body u.at u.body (seen u.dev)) is body in
    told_as ∙ ap (λ (o : Option (List ℕ)). option_map_or number_of o 0) there
    ∙ lsn-counted p (chosen_body (twin_at p) 1024 (seen 0))
    (named-well p (twin_at p) (seen 0) (chosen_body (twin_at p) 1024 (seen 0)) sound refl refl)

-- ---- the page is clean

-- what holds of a call that isn't an error
pub not-err : {T E : Type 0} (r : Result T E) (P : Type 0) → false ≡ is_err r → OnOk r P → P
not-err (Ok x) P is h = h
not-err (Err e) P is h = absurd (cc)

-- the pool of whoever has the write of a page has its newest version
pub duty-copy : (p i : ℕ) (seen : rig.DeviceImages) (leaves : Outcomes) (pend : Pending) (c : Parts) (m : State)
    → Good seen leaves pend c m → Formed (entry_at c.directory p) → is_duty i (entry_at c.directory p) ≡ true
    → buffers.image_at (pool_at c i) p ≡ Some (newest_of seen leaves c p)
duty-copy p i seen leaves pend c m g formed duty =
    (each-copy-is-newest leaves seen pend c m g p i).0 (duty-holds i (entry_at c.directory p) formed duty)

-- whether device 0 is settled makes no difference to a log
pub forced-still : (i : ℕ) (b : Bool) (c : Parts) → (is_loose c i ≡ false → (log_at c i).tail ≡ [])
    → is_loose (with_loose_disk b c) i ≡ false → (log_at c i).tail ≡ []
forced-still zero b c f settled = refl
forced-still (suc k) b c f settled = f (sym (get_or-set_other c.loose 0 (suc k) b true (omega arith)) ∙ settled)

pub clean-good : (p i : ℕ) (places : DirectoryState Page) (seen : rig.DeviceImages) (leaves : Outcomes) (pend : Pending) (c : Parts)
    (m : State) → Good seen leaves pend (with_loose_disk false c) m → leaves 0 (seen 0) → Formed (entry_at c.directory p)
    → c.due ≡ None
    → MayPut p i c → disk_page (seen 0) p ≡ newest_of seen leaves c p
    → IsSet p (written (entry_at c.directory p)) None c.directory places
    → ((q : ℕ) → directory.moving_image_at places q ≡ directory.moving_image_at c.directory q)
    → Good seen leaves pend (with_written places c) m
clean-good p i places seen leaves pend c m g left formed idle can there set moving =
    let size = length-set c.loose 0 false in
    let nine = g.shape.loose in
    cleaned-good p (newest_of seen leaves c p) places seen leaves pend (with_loose_disk false c) m g left
    (held-may p i (newest_of seen leaves c p) seen leaves pend (with_loose_disk false c) m g
    (duty-copy p i seen leaves pend (with_loose_disk false c) m g formed can.duty) idle
    (record { changed = can.changed; duty = can.duty; forced = forced-still i false c can.forced }))
    (ap (λ (b : Bool). b || is_lost (entry_at c.directory p)) can.changed)
    (get_or-set_same c.loose 0 false true (omega (arith, size, nine))) there set moving
