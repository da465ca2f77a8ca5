-- Sound devices tell a state of the serial table and sums: a complex that is opened from them fits that world. For the law.
use Rattle.std.proofs.Common.{◌≡◌, ◌≢◌, ◌⊎◌, inl, inr, ⊎_elim, ℕ, zero, suc, ◌+◌, ◌<◌, ◌≤◌, Bool, true, false, ◌&&◌, ◌||◌, cond, List, [], ◌∷◌, map, max, refl, sym, ap, ◌∙◌, subst, arith}
use Rattle.std.specs.Prelude.{is_some}
use Rattle.std.specs.List.{flat_map, list_any}
use Rattle.std.proofs.lemmas.Bool.{cases_lt}
use Rattle.sd_base.specs.Twin.{chosen_body}
use Rattle.sd_base.specs.declared.ids.Rid.{Rid}
use Rattle.sd_base.specs.declared.ids.TxnId.{TxnId}
use Rattle.sd_base.specs.declared.place.Status.{Status}
use Rattle.sd_base.specs.declared.place.Status.TheVariants as S
use Rattle.sd_logrec.specs.Kept.{BadGroup, NoRecord, Reading, Whole, kept, master}
use Rattle.sd_logrec.specs.View.{Rec, flat}
use Rattle.sd_page.specs.Page.{Page}
use Rattle.sd_model.specs.Changes.{HasLoser}
use Rattle.sd_model.specs.Kept.{MayCommit}
use Rattle.sd_model.specs.Listed.{IsAmong, NoneTwice}
use Rattle.sd_model.specs.Opened.{IsOpened}
use Rattle.sd_model.specs.Reopening.{loser}
use Rattle.sd_model.specs.State.{Part, State, gone}
use Rattle.sd_model.specs.declared.act.Claim.{Claim}
use Rattle.sd_model.specs.declared.act.Life.{Life}
use Rattle.sd_model.proofs.Opened.{opened-listed, opened-marked, opened-placed}
use Rattle.sd_model.proofs.Recoverers.{opened-recoverers}
use Rattle.sd_model.proofs.Serial.{never-commits}
use Rattle.sd_rig.specs.Devices as rig
use Rattle.sd_chain.specs.Bytes.{disk_page, log_of, records_of, stable}
use Rattle.sd_chain.specs.Checks.{DevicesAreSound, open_in, owed_by_all, past_of, placed_of, records_in}
use Rattle.sd_chain.specs.Fates.{Fate, fate_in}
use Rattle.sd_chain.specs.Storage.{Storage, opens}
use Rattle.sd_chain.specs.Losers.{OwnLogs, losers_in}
use Rattle.sd_chain.specs.Order.{of_txn}
use Rattle.sd_chain.specs.Records.{Each, at, home}
use Rattle.sd_chain.specs.Undoing.{Apart, Member}
use Rattle.sd_chain.proofs.Fates.{fate-open}
use Rattle.sd_chain.proofs.Lists.{Each-weaker}
use Rattle.sd_chain.proofs.Losers.{fate-loser, loser-fate, losers-open, opening-recovers}
use Rattle.sd_chain.proofs.Members.{is-open_in, member-each}
use Rattle.sd_chain.proofs.Soundly.{sound-opens}
use Rattle.sd_chain.specs.Logs.{Outcomes}
use Rattle.sd_chain.proofs.Epochs.{own-begun_of}
use Rattle.sd_chain.proofs.Kept.{flat-records, log-here, log-past}
use Rattle.sd_moves.specs.Opening.{OpensTo, has_open, is_down_in, is_loser, some_lost}
use Rattle.sd_state.specs.Images.{kept_epoch}
use Rattle.sd_state.specs.Sums.{most_to}
use Rattle.sd_state.proofs.Summed.{most-at}
use Rattle.sd_moves.proofs.OpenedAgain.{down-lost, some-any}
use Rattle.sd_moves.proofs.OpenedImage.{left-open}
use Rattle.sd_fits.specs.Fits.{AreAtLeast, AreWithin}
use Rattle.sd_fits.specs.Opened.{OpenedFits, opening_state, sums_of, top_lsn, top_page}
use Rattle.sd_fits.specs.Sums.{IsWithinSums}
use Rattle.sd_fits.proofs.Opening.{opened-fits}

-- ---- sums

within-itself : (xs : List ℕ) → AreWithin xs xs
within-itself [] = tt
within-itself (x ∷ xs) = (omega arith, within-itself xs)

least-itself : (xs : List ℕ) → AreAtLeast xs xs
least-itself [] = tt
least-itself (x ∷ xs) = (omega arith, least-itself xs)

below-top : (xs : List Rec) (n : ℕ) → top_lsn xs ≤ n → Each (λ x. x.lsn ≤ n) xs
below-top [] n le = tt
below-top (x ∷ xs) n le = (omega (arith, le), below-top xs n (omega (arith, le)))

page-below : (disk : ℕ → Page) (n p : ℕ) → p < n → (disk p).lsn ≤ top_page disk n
unfolding top_page
page-below disk zero p lt = absurd (omega (arith, lt))
page-below disk (suc n) p lt = ⊎_elim
    (λ below. let le = page-below disk n p below in omega (arith, le))
    (λ here. let same : p ≡ n = omega (arith, lt, here) in
    let is = ap (λ (q : ℕ). (disk q).lsn) same in omega (arith, is))
    (cases_lt p n)

-- devices are within their own sums
pub own-sums : (devices : rig.DeviceImages) → IsWithinSums devices (sums_of devices)
own-sums devices = record {
  slots = λ p. within-itself _;
  least = λ p. least-itself _;
  reach = λ i low high. omega arith;
  lsns = record {
    owed = some (top_page (disk_page (devices 0)) 1024) tops owes;
    logs = λ j. Each-weaker (λ x. x.lsn ≤ tops) (λ x. x.lsn + owes ≤ (sums_of devices).lsns)
        (λ x le. second x.lsn (top_page (disk_page (devices 0)) 1024) tops owes le) (log_of devices j) (low j);
    pages = λ p lt. first _ (top_page (disk_page (devices 0)) 1024) tops owes (page-below (disk_page (devices 0)) 1024 p lt);
  };
  masters = λ i low high. omega arith;
}
  where
    tops : ℕ
    tops = most_to (λ j. top_lsn (log_of devices j)) 8

    owes : ℕ
    owes = owed_by_all devices

    some : (a b o : ℕ) → o ≤ max a b + o
    some a b o = omega arith

    first : (x a b o : ℕ) → x ≤ a → x + o ≤ max a b + o
    first x a b o le = omega arith

    second : (x a b o : ℕ) → x ≤ b → x + o ≤ max a b + o
    second x a b o le = omega arith

    low : (j : ℕ) → Each (λ x. x.lsn ≤ tops) (log_of devices j)
    low zero = tt
    low (suc j) = ⊎_elim
        (λ lt. below-top (log_of devices (suc j)) tops (most-at (λ k. top_lsn (log_of devices k)) 8 (suc j) (omega arith) (omega (arith, lt))))
        (λ ge. subst (Each (λ x. x.lsn ≤ tops)) (sym (log-past devices (suc j) ge)) tt)
        (cases_lt (suc j) 9)

-- ---- the state

flat-of : (r : Reading) → map flat (map (λ x. x.1) (placed_of r)) ≡ records_of r
flat-of (Whole groups gate) = flat-records (flat_map (λ g. g.records) groups)
flat-of (BadGroup at) = refl
flat-of (NoRecord at) = refl

lost-or-gone : (b : Bool) (has : Rid → Bool) → ((cond {A = Part} b (loser has) gone).life ≡ Life.Gone) ⊎ ((cond {A = Part} b (loser has) gone).life ≡ Life.Retained)
lost-or-gone true has = inr refl
lost-or-gone false has = inl refl

life-is : (b : Bool) (has : Rid → Bool) → (cond {A = Part} b (loser has) gone).life ≡ cond {A = Life} b Life.Retained Life.Gone
life-is true has = refl
life-is false has = refl

marks-none : (b : Bool) (has : Rid → Bool) → (cond {A = Part} b (loser has) gone).marks ≡ []
marks-none true has = refl
marks-none false has = refl

claims-are : (b : Bool) (has : Rid → Bool) (r : Rid)
    → (cond {A = Part} b (loser (λ q. b && has q)) gone).claims r ≡ cond {A = Claim} (b && has r) Claim.Excl Claim.Free
claims-are true has r = refl
claims-are false has r = refl

-- whoever is lost was left open
lost-stays : (b : Bool) (has : Rid → Bool) → (cond {A = Part} b (loser has) gone).life ≡ Life.Retained → b ≡ true
lost-stays true has e = refl
lost-stays false has e = absurd (cc)

among-members : (t : TxnId) (ts : List TxnId) → Member t ts → IsAmong t ts
among-members t [] m = m
among-members t (u ∷ us) (inl e) = inl e
among-members t (u ∷ us) (inr m) = inr (among-members t us m)

members-among : (t : TxnId) (ts : List TxnId) → IsAmong t ts → Member t ts
members-among t [] m = m
members-among t (u ∷ us) (inl e) = inl e
members-among t (u ∷ us) (inr m) = inr (members-among t us m)

none-twice : (ts : List TxnId) → Apart ts → NoneTwice ts
none-twice [] a = tt
none-twice (t ∷ ts) a = ((λ m. member-each (λ u. t ≢ u) t ts (members-among t ts m) a.0 refl), none-twice ts a.1)

clean-or-down : (b : Bool) → (cond {A = Status} b S.Down S.Clean ≡ S.Clean) ⊎ (cond {A = Status} b S.Down S.Clean ≡ S.Down)
clean-or-down true = inr refl
clean-or-down false = inl refl

module _ (devices : rig.DeviceImages) (sound : DevicesAreSound devices) where
  abbrev img : Storage
  img = stable devices

  abbrev m : State
  m = opening_state devices

  own : OwnLogs img
  own = (sound-opens devices sound).1

  left : (t : TxnId) → (m.part t).life ≡ Life.Retained → fate_in img t ≡ Fate.Open
  left t e = left-open (fate_in img t) (lost-stays (is_loser img t) (has_open img t) e)

  -- a log is one of the eight where it has a record
  home-there : (t : TxnId) (j : ℕ) → list_any (of_txn t) (log_of devices j) ≡ true → (1 ≤ j) × (j ≤ 8)
  home-there t zero some = absurd (cc)
  home-there t (suc j) some = ⊎_elim (λ lt. (omega arith, omega (arith, lt)))
      (λ ge. let clash = sym (ap (list_any (of_txn t)) (log-past devices (suc j) ge)) ∙ some in absurd (cc))
      (cases_lt (suc j) 9)

  -- who is left open is of an epoch that its log has begun
  epoch-low : (t : TxnId) → fate_in img t ≡ Fate.Open → t.epoch ≤ kept_epoch (devices (home t))
  epoch-low t e =
      let there = (fate-open t (img.logs (home t)) e).1 in
      let r = home-there t (home t) there in
      let bytes = devices (home t) in
      (own-begun_of (home t) (is_some (chosen_body 0 64 bytes)) (master bytes) (past_of (master bytes)) (records_in bytes) t
      (sound.groups (home t) r.0 r.1).follow (inr refl)
      (ap (list_any (of_txn t)) (flat-of (kept bytes) ∙ sym (log-here devices (home t) r.0 r.1)) ∙ there)).1

  down-there : (i : ℕ) → HasLoser m i → is_down_in img i ≡ true
  down-there i h = subst (λ (k : ℕ). is_down_in img k ≡ true) h.1
      (let f = fate-open h.0 (img.logs (home h.0)) (left h.0 h.2) in
      ap (λ (b : Bool). b || some_lost img 1024)
      (some-any h.0 (open_in (img.logs (home h.0))) (is-open_in h.0 (img.logs (home h.0)) f.0 f.1)))

  none-left : (i : ℕ) → (HasLoser m i → ⊥) → (t : TxnId) → t.inst ≡ i → is_loser img t ≡ true → ⊥
  none-left i none t at stays = none (t, at, ap (λ (b : Bool). (cond {A = Part} b (loser (has_open img t)) gone).life) stays)

  pub is-opened : IsOpened m
  is-opened = record {
    opening = record { done = refl; losers = λ t. lost-or-gone (is_loser img t) (has_open img t) };
    losers = λ t e. among-members t (losers_in img) (fate-loser img own t (left t e));
    once = none-twice (losers_in img) (losers-open img own).once;
    epochs = λ t among. epoch-low t (loser-fate img own t (members-among t (losers_in img) among));
    cuts = refl;
    marks = λ t. marks-none (is_loser img t) (has_open img t);
    down = λ i h. ap (λ (b : Bool). cond {A = Status} b S.Down S.Clean) (down-there i h);
    others = (
      cond {A = Status} (some_lost img 1024) S.Down S.Clean,
      clean-or-down (some_lost img 1024),
      λ i none. ap (λ (b : Bool). cond {A = Status} b S.Down S.Clean) (down-lost img own i (none-left i none)),
    );
  }

  rests : (t : TxnId) → MayCommit (m.part t).life → ⊥
  rests t = never-commits (m.part t).life (lost-or-gone (is_loser img t) (has_open img t))

  pub opens-to : OpensTo devices m
  opens-to = record {
    table = opening-recovers img own sound.kept;
    lives = λ t. life-is (is_loser img t) (has_open img t);
    claims = λ t r. claims-are (is_loser img t) (λ q. list_any (at q.page q.slot) (opens img t)) r;
    marks = is-opened.marks;
    statuses = λ i low high. refl;
    epochs = λ i low high. record { low = omega arith; high = omega arith };
    kept = record {
      serial = tt;
      reads = λ t may. absurd (rests t may);
      covered = λ t may. absurd (rests t may);
      apart = λ t u ne may. absurd (rests t may);
    };
    placed = opened-placed m is-opened;
    listed = opened-listed m is-opened;
    marked = opened-marked m is-opened;
    recoverers = opened-recoverers m is-opened;
  }

pub opened-world : (leaves : Outcomes) → OpenedFits leaves
opened-world leaves frames devices c on = opened-fits devices leaves frames c (opening_state devices) on (opens-to devices on.opened.sound)
    (sums_of devices) (own-sums devices)
