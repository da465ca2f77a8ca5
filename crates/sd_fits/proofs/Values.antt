-- What a transaction sees at a record is what its page has there, where nobody stands in the way of its lock. For the calls on records.
use Rattle.std.proofs.Common.{◌≡◌, ◌≢◌, ⊎_elim, ℕ, zero, suc, ◌≤◌, Bool, true, false, cond, List, [], ◌∷◌, filter, length, map, refl, sym, ap, ◌∙◌, subst, append-nil, arith}
use Rattle.std.specs.Prelude.{Option, None, Some, unwrap_or}
use Rattle.sd_base.specs.Ids.{same_rid}
use Rattle.sd_base.specs.declared.ids.Rid.{Rid}
use Rattle.sd_base.specs.declared.ids.TxnId.{TxnId}
use Rattle.sd_base.specs.declared.place.Mode.{Mode}
use Rattle.sd_base.specs.declared.place.Mode.TheVariants as modes
use Rattle.sd_base.specs.declared.place.Status.TheVariants as S
use Rattle.sd_base.proofs.SameIds.{cases_rid, cases_txn, ne-same_rid}
use Rattle.sd_logrec.specs.View.{Rec}
use Rattle.sd_page.specs.Page.{Page, Slot, empty_page}
use Rattle.sd_pagelock.specs.Directory.{entry_at}
use Rattle.sd_pagelock.specs.Places.{holds}
use Rattle.sd_model.specs.Acts.{Puts, after, live, seen_over}
use Rattle.sd_model.specs.Claims.{Claims, Clash, Owns}
use Rattle.sd_model.specs.Kept.{MayCommit}
use Rattle.sd_model.specs.State.{State, now, view}
use Rattle.sd_model.specs.Tables.{Contents}
use Rattle.sd_model.specs.Waits.{claim_of}
use Rattle.sd_model.specs.declared.act.Claim.{Claim}
use Rattle.sd_model.specs.declared.act.Life.{Life}
use Rattle.sd_model.proofs.Claims.{seen-apart}
use Rattle.sd_model.proofs.Swap.{after-append}
use Rattle.sd_reclock.specs.Answers.{IsFree}
use Rattle.sd_reclock.specs.Locks.{stands, wait_for}
use Rattle.sd_rig.specs.Devices.{DeviceImages}
use Rattle.sd_txn.specs.Transactions.{Transaction, txn_at}
use Rattle.sd_chain.specs.Fates.{fate}
use Rattle.sd_chain.specs.Bytes.{disk_page}
use Rattle.sd_chain.specs.Storage.{HasPlace}
use Rattle.sd_chain.specs.Images.{Keeps, all_kept}
use Rattle.sd_chain.specs.Pages.{value}
use Rattle.sd_chain.specs.Records.{Each, IsOpen, at, home, stack}
use Rattle.sd_chain.proofs.Newest.{at_is}
use Rattle.sd_chain.proofs.OneUpdater.{value-committed, value-open}
use Rattle.sd_chain.specs.Logs.{Outcomes, all_at, base_at, kept_logs, tails_of}
use Rattle.sd_update.specs.Changing.{image_for}
use Rattle.sd_state.specs.Good.{Good, Half, base_of, dir_of}
use Rattle.sd_state.specs.Images.{leaves_by, log_by}
use Rattle.sd_state.specs.Laws.{newest_of}
use Rattle.sd_state.specs.Parts.{Parts, log_at, status_at, txns_at}
use Rattle.sd_state.specs.Tables.{NamesLife, RowIsLive}
use Rattle.sd_state.specs.Values.{Pending, as_done, decided, is_committed, is_doubt, put_of, rid_of, values}
use Rattle.sd_state.proofs.ChangedLists.{each-front}
use Rattle.sd_state.proofs.Recovers.{up-there}
use Rattle.sd_state.proofs.Standing.{each-copy-is-newest}
use Rattle.sd_state.proofs.WorkingTakes.{free-claims, running-goes}
use Rattle.sd_fits.specs.Fits.{FitsDoubts, HaveSlots}

-- ---- puts of a stack

-- the first of the open changes of a record is what is seen there
put-seen : (base : Contents) (r : Rid) (xs : List Rec) (top : Rec) (below : List Rec) → filter (at r.page r.slot) xs ≡ top ∷ below
    → seen_over base (map put_of xs) r ≡ top.after
unfolding same_rid
put-seen base r [] top below e = absurd (cc)
put-seen base r (x ∷ xs) top below e = by (at r.page r.slot x) e (put-seen base r xs top below)
  where
    by : (b : Bool) → cond {A = List Rec} b (x ∷ filter (at r.page r.slot) xs) (filter (at r.page r.slot) xs) ≡ top ∷ below
        → (filter (at r.page r.slot) xs ≡ top ∷ below → seen_over base (map put_of xs) r ≡ top.after)
        → cond b x.after (seen_over base (map put_of xs) r) ≡ top.after
    by true is ih = let same : x ≡ top = cc in ap (λ (y : Rec). y.after) same
    by false is ih = ih is

-- where there is none, the table's is
none-seen : (base : Contents) (r : Rid) (xs : List Rec) → filter (at r.page r.slot) xs ≡ [] → seen_over base (map put_of xs) r ≡ base r
unfolding same_rid
none-seen base r [] e = refl
none-seen base r (x ∷ xs) e = by (at r.page r.slot x) e (none-seen base r xs)
  where
    by : (b : Bool) → cond {A = List Rec} b (x ∷ filter (at r.page r.slot) xs) (filter (at r.page r.slot) xs) ≡ []
        → (filter (at r.page r.slot) xs ≡ [] → seen_over base (map put_of xs) r ≡ base r)
        → cond b x.after (seen_over base (map put_of xs) r) ≡ base r
    by true is ih = absurd (cc)
    by false is ih = ih is

the-same : (a b : Rid) → same_rid a b ≡ true → a ≡ b
the-same a b e = ⊎_elim (λ is. is) (λ ne. let clash = sym (ne-same_rid a b ne) ∙ e in absurd (cc)) (cases_rid a b)

-- who has no exclusive claim on the record has no open change of it
pub none-owned : (claims : Claims) (r : Rid) (xs : List Rec) → (claims r ≡ Claim.Excl → ⊥) → Each (λ x. claims (rid_of x) ≡ Claim.Excl) xs
    → filter (at r.page r.slot) xs ≡ []
unfolding same_rid
none-owned claims r [] none each = refl
none-owned claims r (x ∷ xs) none each = by (at r.page r.slot x) refl (none-owned claims r xs none each.1)
  where
    by : (b : Bool) → at r.page r.slot x ≡ b → filter (at r.page r.slot) xs ≡ []
        → cond {A = List Rec} b (x ∷ filter (at r.page r.slot) xs) (filter (at r.page r.slot) xs) ≡ []
    by true is ih = absurd (none (subst (λ (q : Rid). claims q ≡ Claim.Excl) (the-same (rid_of x) r is) each.0))
    by false is ih = ih

-- ---- those in doubt

-- what those in doubt leave of a record, where those that are committed put nothing there
pub after-doubts : (m : State) (committed : TxnId → Bool) (r : Rid)
    → ((u : TxnId) → is_doubt (m.part u).life ≡ true → committed u ≡ true → (base : Contents)
    → seen_over base (live (m.part u).acts) r ≡ base r)
    → (us : List TxnId) (base : Contents)
    → after base (map (as_done m) (filter committed (filter (λ u. is_doubt (m.part u).life) us))) r ≡ base r
after-doubts m committed r still [] base = refl
after-doubts m committed r still (u ∷ us) base = by (is_doubt (m.part u).life) refl (after-doubts m committed r still us)
  where
    two : (b : Bool) → committed u ≡ b → is_doubt (m.part u).life ≡ true
        → ((under : Contents) → after under (map (as_done m) (filter committed (filter (λ v. is_doubt (m.part v).life) us))) r ≡ under r)
        → after base (map (as_done m) (cond {A = List TxnId} b (u ∷ filter committed (filter (λ v. is_doubt (m.part v).life) us))
        (filter committed (filter (λ v. is_doubt (m.part v).life) us)))) r ≡ base r
    two true is doubt ih = ih (seen_over base (live (m.part u).acts)) ∙ still u doubt is base
    two false is doubt ih = ih base

    by : (b : Bool) → is_doubt (m.part u).life ≡ b
        → ((under : Contents) → after under (map (as_done m) (filter committed (filter (λ v. is_doubt (m.part v).life) us))) r ≡ under r)
        → after base (map (as_done m) (filter committed (cond {A = List TxnId} b (u ∷ filter (λ v. is_doubt (m.part v).life) us)
        (filter (λ v. is_doubt (m.part v).life) us)))) r ≡ base r
    by true doubt ih = two (committed u) refl doubt ih
    by false doubt ih = ih base

pub doubt-commits : (life : Life) → is_doubt life ≡ true → MayCommit life
doubt-commits Life.Gone e = absurd (cc)
doubt-commits Life.Running e = absurd (cc)
doubt-commits Life.Retained e = absurd (cc)
doubt-commits (Life.Rolling to) e = absurd (cc)
doubt-commits (Life.Doubt cut) e = tt

-- an exclusive claim of another conflicts with any lock
excl-clash : (mode : Mode) (claim : Claim) → Owns claim → Clash (claim_of mode) claim
excl-clash mode Claim.Free owns = absurd owns
excl-clash mode Claim.Shared owns = absurd owns
excl-clash modes.Shared Claim.Excl owns = tt
excl-clash modes.Excl Claim.Excl owns = tt

-- what has its place in its page is at no record past the page's end
placed-none : (r : Rid) (version : ℕ → Page) (xs : List Rec) → length (version r.page).slots ≤ r.slot
    → Each (λ x. HasPlace (version x.page).slots x) xs → filter (at r.page r.slot) xs ≡ []
placed-none r version [] beyond each = refl
placed-none r version (x ∷ xs) beyond each = by (at r.page r.slot x) refl (placed-none r version xs beyond each.1)
  where
    by : (b : Bool) → at r.page r.slot x ≡ b → filter (at r.page r.slot) xs ≡ []
        → cond {A = List Rec} b (x ∷ filter (at r.page r.slot) xs) (filter (at r.page r.slot) xs) ≡ []
    by true is ih =
        let same = at_is r.page r.slot x is in
        let slot = each.0.slot in
        let length_is = ap (λ (n : ℕ). length (version n).slots) same.0 in
        let slot_is = same.1 in
        absurd (omega (arith, beyond, slot, length_is, slot_is))
    by false is ih = ih

-- nor is what is put to slots of their pages
puts-none : (r : Rid) (version : ℕ → Page) (puts : Puts) → length (version r.page).slots ≤ r.slot → HaveSlots version puts
    → (base : Contents)
    → seen_over base puts r ≡ base r
unfolding same_rid
puts-none r version [] beyond each base = refl
puts-none r version (put ∷ puts) beyond each base = by (same_rid put.0 r) refl (puts-none r version puts beyond each.1 base)
  where
    by : (b : Bool) → same_rid put.0 r ≡ b → seen_over base puts r ≡ base r → cond b put.1 (seen_over base puts r) ≡ base r
    by true is ih =
        let same = the-same put.0 r is in
        let slot = each.0 in
        let length_is = ap (λ (q : Rid). length (version q.page).slots) same in
        let slot_is = ap (λ (q : Rid). q.slot) same in
        absurd (omega (arith, beyond, slot, length_is, slot_is))
    by false is ih = ih

-- ---- what is seen

-- What a transaction that runs has put is what its log has open.
module _ (seen_by : DeviceImages) (leaves : Outcomes) (c : Parts) (m : State) (t : TxnId) (g : Good seen_by leaves Pending.Idle c m)
    (up : status_at c (home t) ≡ S.Up) (runs : (m.part t).life ≡ Life.Running) where
  pub running-open : IsOpen t (all_at (log_at c (home t)))
  running-open = let bounds = up-there c g.shape.statuses (home t) up in
      g.going t bounds.0 bounds.1 (running-goes t (m.part t) runs)

  pub running-puts : live (m.part t).acts ≡ map put_of (stack t (all_at (log_at c (home t))))
  running-puts = let bounds = up-there c g.shape.statuses (home t) up in
      by (txn_at (txns_at c (home t)) t) ((g.instances (home t) bounds.0 bounds.1).names t refl)
      (g.at_work (home t) bounds.0 bounds.1 up t refl (λ e. absurd (cc)))
    where
      by : (o : Option Transaction) → NamesLife o (m.part t).life (fate t (base_at (log_at c (home t)))) (fate t (all_at (log_at c (home t))))
          → RowIsLive o t (m.part t) (all_at (log_at c (home t)))
          → live (m.part t).acts ≡ map put_of (stack t (all_at (log_at c (home t))))
      by None gone row = let clash = sym runs ∙ gone in absurd (cc)
      by (Some x) names row = row.puts

module _ (seen_by : DeviceImages) (leaves : Outcomes) (c : Parts) (m : State) (t : TxnId) (r : Rid)
    (g : Good seen_by leaves Pending.Idle c m)
    (up : status_at c (home t) ≡ S.Up) (runs : (m.part t).life ≡ Life.Running) where
  abbrev still : Keeps
  still j = false

  h : Half seen_by (leaves_by c still leaves) (log_by c still) Pending.Idle c m
  h = g.half still

  abbrev mine : List Rec
  mine = filter (at r.page r.slot) (stack t (all_at (log_at c (home t))))

  alive : IsOpen t (all_at (log_at c (home t)))
  alive = running-open seen_by leaves c m t g up runs

  puts : live (m.part t).acts ≡ map put_of (stack t (all_at (log_at c (home t))))
  puts = running-puts seen_by leaves c m t g up runs

  abbrev kept : ℕ → List Rec
  kept = kept_logs (tails_of (log_by c still)) all_kept

  module _ (doubts : (u : TxnId) → is_doubt (m.part u).life ≡ true → is_committed kept u ≡ true → (base : Contents)
      → seen_over base (live (m.part u).acts) r ≡ base r) where
    values-now : values m Pending.Idle kept r.page r.slot ≡ now m r
    values-now = ap (λ (f : Contents). f r) (after-append m.start m.done (decided m Pending.Idle kept))
        ∙ ap (λ (us : List TxnId). after (now m) (map (as_done m) (filter (is_committed kept) us)) r)
        (append-nil (filter (λ u. is_doubt (m.part u).life) m.cuts))
        ∙ after-doubts m (is_committed kept) r doubts m.cuts (now m)

    -- where nobody has an open change of it, the newest version has the committed value
    committed-sees : ((u : TxnId) → IsOpen u (all_at (log_at c (home u)))
        → filter (at r.page r.slot) (stack u (all_at (log_at c (home u)))) ≡ [])
        → value (newest_of seen_by leaves c r.page).slots r.slot ≡ view m t r
    committed-sees none =
        value-committed (base_of seen_by (leaves_by c still leaves) (log_by c still) c) (dir_of c) h.coherent r.page r.slot
        (λ keeps. values m Pending.Idle (kept_logs (tails_of (log_by c still)) keeps)) h.gives none
        ∙ values-now
        ∙ sym (none-seen (now m) r (stack t (all_at (log_at c (home t)))) (none t alive))
        ∙ sym (ap (λ (ps : Puts). seen_over (now m) ps r) puts)

  -- A record behind the last slot of its page is absent.
  pub beyond-absent : FitsDoubts seen_by c m → length (newest_of seen_by leaves c r.page).slots ≤ r.slot → view m t r ≡ None
  beyond-absent doubts beyond = sym (committed-sees doubts-none none)
      ∙ past (newest_of seen_by leaves c r.page).slots r.slot beyond
    where
      past : (slots : List Slot) (s : ℕ) → length slots ≤ s → value slots s ≡ None
      past [] s le = refl
      past (x ∷ xs) zero le = absurd (omega (arith, le))
      past (x ∷ xs) (suc s) le = past xs s (omega (arith, le))

      doubts-none : (u : TxnId) → is_doubt (m.part u).life ≡ true → is_committed kept u ≡ true → (base : Contents)
          → seen_over base (live (m.part u).acts) r ≡ base r
      doubts-none u doubt is base = puts-none r (newest_of seen_by leaves c) (live (m.part u).acts) beyond
          (doubts still all_kept u doubt is) base

      none : (u : TxnId) → IsOpen u (all_at (log_at c (home u)))
          → filter (at r.page r.slot) (stack u (all_at (log_at c (home u)))) ≡ []
      none u opens = placed-none r (newest_of seen_by leaves c) (stack u (all_at (log_at c (home u)))) beyond
          ((h.coherent.safe.sound (disk_page (seen_by 0)) h.coherent.reads all_kept).stacks u opens).places

  module _ (mode : Mode) (free : IsFree (stands c.locks) t (wait_for r mode)) where
    -- nobody else has an exclusive claim there
    unclaimed : (u : TxnId) → t ≢ u → Owns ((m.part u).claims r) → ⊥
    unclaimed u ne owns = free-claims seen_by leaves Pending.Idle c m t r mode g free u ne
        (excl-clash mode ((m.part u).claims r) owns)

    others-none : (u : TxnId) → t ≢ u → IsOpen u (all_at (log_at c (home u)))
        → filter (at r.page r.slot) (stack u (all_at (log_at c (home u)))) ≡ []
    others-none u ne opens = none-owned (m.part u).claims r (stack u (all_at (log_at c (home u))))
        (λ e. unclaimed u ne (subst Owns (sym e) tt)) (h.held u (each-front _ _ _ opens))

    -- those in doubt put nothing there
    doubts-still : (u : TxnId) → is_doubt (m.part u).life ≡ true → (base : Contents) → seen_over base (live (m.part u).acts) r ≡ base r
    doubts-still u doubt base = seen-apart (m.part u).claims base (live (m.part u).acts) r
        (g.kept.covered u (doubt-commits (m.part u).life doubt)).owned
        (unclaimed u (λ e. let clash = sym doubt ∙ ap (λ (v : TxnId). is_doubt (m.part v).life) (sym e) ∙ ap is_doubt runs in
        absurd (cc)))

    newest-sees : (xs : List Rec) → mine ≡ xs → value (newest_of seen_by leaves c r.page).slots r.slot ≡ view m t r
    newest-sees (top ∷ below) e =
        value-open (base_of seen_by (leaves_by c still leaves) (log_by c still) c)
        (dir_of c) h.coherent r.page r.slot t top below alive e
        ∙ sym (put-seen (now m) r (stack t (all_at (log_at c (home t)))) top below e)
        ∙ sym (ap (λ (ps : Puts). seen_over (now m) ps r) puts)
    newest-sees [] e = committed-sees (λ u doubt is. doubts-still u doubt)
        (λ u opens. ⊎_elim (λ same. subst (λ (v : TxnId). filter (at r.page r.slot) (stack v (all_at (log_at c (home v)))) ≡ [])
        same e)
        (λ ne. others-none u ne opens) (cases_txn t u))

    -- the newest version of the record's page has what the transaction sees
    pub newest-seen : value (newest_of seen_by leaves c r.page).slots r.slot ≡ view m t r
    newest-seen = newest-sees mine refl

-- the copy that an instance holds is the newest version
pub copy-newest : (seen_by : DeviceImages) (leaves : Outcomes) (pend : Pending) (c : Parts) (m : State) (t : TxnId) (p : ℕ) → Good seen_by leaves pend c m
    → holds (entry_at c.directory p) (home t) ≡ true → image_for t p c ≡ newest_of seen_by leaves c p
copy-newest seen_by leaves pend c m t p g held =
    ap (λ (o : Option Page). unwrap_or o (empty_page p)) ((each-copy-is-newest leaves seen_by pend c m g p (home t)).0 held)

-- So the copy at the transaction's instance has what the transaction sees.
pub copy-seen : (seen_by : DeviceImages) (leaves : Outcomes) (c : Parts) (m : State) (t : TxnId) (r : Rid) (mode : Mode)
    → Good seen_by leaves Pending.Idle c m → status_at c (home t) ≡ S.Up → (m.part t).life ≡ Life.Running
    → IsFree (stands c.locks) t (wait_for r mode) → holds (entry_at c.directory r.page) (home t) ≡ true
    → value (image_for t r.page c).slots r.slot ≡ view m t r
copy-seen seen_by leaves c m t r mode g up runs free held =
    ap (λ (x : Page). value x.slots r.slot) (copy-newest seen_by leaves Pending.Idle c m t r.page g held)
    ∙ newest-seen seen_by leaves c m t r g up runs mode free
